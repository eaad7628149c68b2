-- Inner contracts, which nobody has to believe.
use Rattle.std.specs.Prelude.{ℕ, ◌+◌, ◌*◌, Bool, cond, Option, Some, None}
use Rattle.log_section.specs.declared.section.Section.{Section}
use Rattle.log_section.specs.declared.entry.Entry.{Entry}

abbrev pub count_in : Option Section → ℕ
count_in (Some section) = section.count
count_in None = 0

-- a word of an entry: a syndrome, and of an address FAR first and HPFAR second
abbrev pub entry_word : Option Entry → Bool → ℕ
entry_word (Some (Entry.Edition edition)) second = 0
entry_word (Some (Entry.Syndrome esr)) second = esr.0
entry_word (Some (Entry.Address far hpfar)) second = cond second hpfar.0 far.0
entry_word (Some (Entry.Injection injection domain)) second = 0
entry_word None second = 0

-- an injection as the number of its two bytes
abbrev pub half_in : Option Entry → ℕ
half_in (Some (Entry.Edition edition)) = 0
half_in (Some (Entry.Syndrome esr)) = 0
half_in (Some (Entry.Address far hpfar)) = 0
half_in (Some (Entry.Injection injection domain)) = injection + 256 * domain
half_in None = 0
