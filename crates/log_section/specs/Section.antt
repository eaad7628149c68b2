-- Request C-14, "Sections in a fixed order, each after its count of entries": the section that some bytes begin with, and the rest of the
-- log that is handed on after it.
use Rattle.std.specs.Prelude.{ℕ, zero, suc, ◌+◌, ◌*◌, Bool, cond, ◌&&◌, Option, Some, None, List, [], ◌∷◌, leb, length, take, drop, get_or}
use Rattle.log_section.specs.Number.{number}
use Rattle.log_section.specs.declared.section.Section.{Section}

-- the size of an injection (request C-21): its own byte, and its domain
abbrev pub injection_size : ℕ
injection_size = 2

-- the size of an entry, once for each section: editions seen, syndromes, addresses, injections
abbrev pub sizes : List ℕ
sizes = 1 ∷ 8 ∷ 16 ∷ injection_size ∷ []

-- a count is 32 bits
unfoldable pub count_of : List ℕ → ℕ
count_of s = number (take 4 s)

-- where the section ends by its count
abbrev pub end_of : ℕ → List ℕ → ℕ
end_of size s = 4 + count_of s * size

-- the count is not cut short, and doesn't pass the end
abbrev pub whole_of : ℕ → List ℕ → Bool
whole_of size s = leb 4 (length s) && leb (end_of size s) (length s)

-- the rest of the log that is handed on
abbrev pub after_of : ℕ → List ℕ → List ℕ
after_of size s = drop (end_of size s) s

abbrev pub section_of : ℕ → List ℕ → Option Section
section_of size s = cond (whole_of size s) (Some record { count = count_of s; end = end_of size s }) None

-- of a log, after its first n sections: what is left, the count that stands there, and whether section n + 1 is whole
abbrev pub rest_after : List ℕ → ℕ → List ℕ
rest_after s zero = s
rest_after s (suc n) = after_of (get_or sizes n 0) (rest_after s n)

abbrev pub count_after : List ℕ → ℕ → ℕ
count_after s n = count_of (rest_after s n)

abbrev pub whole_after : List ℕ → ℕ → Bool
whole_after s n = whole_of (get_or sizes n 0) (rest_after s n)
