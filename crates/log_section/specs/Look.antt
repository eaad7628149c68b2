-- Access by entry: a place in a log, the section that stands there, and its entries. A place is how many sections and how many bytes lie
-- before it.
use Rattle.std.specs.Prelude.{ℕ, zero, suc, ◌+◌, ◌*◌, cond, ◌&&◌, Option, Some, None, List, leb, ltb, length, drop, get_or}
use Rattle.log_section.specs.Section.{sizes, end_of, section_of, rest_after}
use Rattle.log_section.specs.Log.{Entries, byte_in, bytes_word, injection_in, injection_byte, domain_of, nowhere}
use Rattle.log_section.specs.declared.section.Section.{Section}
use Rattle.log_section.specs.declared.entry.Place.{Place}
use Rattle.log_section.specs.declared.entry.Entry.{Entry}
use Rattle.log_section.specs.declared.entry.Look.{Look}

-- the section that stands at a place, where it is one of the four and whole
abbrev pub section_at : List ℕ → ℕ → ℕ → Option Section
section_at s passed at = cond (ltb passed 4 && leb at (length s)) (section_of (get_or sizes passed 0) (drop at s)) None

-- a place moves past a whole section, and stays where there is none
abbrev pub moved_past : Option Section → Place → Place
moved_past (Some section) p = record { passed = p.passed + 1; at = p.at + section.end }
moved_past None p = p

abbrev pub skip_from : List ℕ → ℕ → Place → Place
skip_from s zero p = p
skip_from s (suc n) p = skip_from s n (moved_past (section_at s p.passed p.at) p)

-- the entry that some bytes begin with, by the number of sections before its own
abbrev pub entry_in : ℕ → List ℕ → Entry
entry_in zero s = Entry.Edition (byte_in s)
entry_in (suc zero) s = Entry.Syndrome (record { 0 = bytes_word s })
entry_in (suc (suc zero)) s = Entry.Address (record { 0 = bytes_word s }) (record { 0 = bytes_word (drop 8 s) })
entry_in (suc (suc (suc n))) s = Entry.Injection (injection_byte (injection_in s)) (domain_of (injection_in s))

-- the entry whose bytes stand at a place
abbrev pub entry_at : List ℕ → ℕ → ℕ → Option Entry
entry_at s passed at = cond (ltb passed 4 && leb (at + get_or sizes passed 0) (length s)) (Some (entry_in passed (drop at s))) None

-- entry i of a section, or that there is none
abbrev pub entry_of : List ℕ → ℕ → ℕ → ℕ → Option Section → Option Entry
entry_of s passed at i (Some section) =
    cond (ltb i section.count) (Some (entry_in passed (drop (at + 4 + i * get_or sizes passed 0) s))) None
entry_of s passed at i None = None

-- both together, at a place
abbrev pub look_at : List ℕ → ℕ → ℕ → ℕ → Look
look_at s passed at i = record { section = section_at s passed at; entry = entry_of s passed at i (section_at s passed at) }

-- where section n + 1 of a log starts
abbrev pub start_after : List ℕ → ℕ → ℕ
start_after s zero = 0
start_after s (suc n) = start_after s n + end_of (get_or sizes n 0) (rest_after s n)

-- entry i of section n + 1, of the entries of a log
abbrev pub entry_given : Entries → ℕ → ℕ → Entry
entry_given e zero i = Entry.Edition (get_or e.editions i 0)
entry_given e (suc zero) i = Entry.Syndrome (record { 0 = get_or e.syndromes i 0 })
entry_given e (suc (suc zero)) i =
    Entry.Address (record { 0 = (get_or e.addresses i nowhere).far }) (record { 0 = (get_or e.addresses i nowhere).hpfar })
entry_given e (suc (suc (suc n))) i = Entry.Injection (injection_byte (get_or e.injections i 0)) (domain_of (get_or e.injections i 0))
