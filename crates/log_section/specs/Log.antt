-- Requests C-14 and C-21: what a log is, the bytes of its four sections, and the entries that a log's bytes hold.
use Rattle.std.specs.Prelude.{ℕ, zero, suc, ◌+◌, ◌/◌, ◌%◌, Bool, true, ◌&&◌, List, [], ◌∷◌, ◌++◌, leb, length, take, drop}
use Rattle.log_section.specs.Number.{little, number}
use Rattle.log_section.specs.Section.{injection_size, rest_after, count_after}

-- an entry of the third section: FAR, then HPFAR
pub record Address : Type 0 where
  pub far : ℕ
  pub hpfar : ℕ

abbrev pub nowhere : Address
nowhere = record { far = 0; hpfar = 0 }

-- an entry of the fourth section is the number of its two bytes: the first is the injection's own, the second its domain
abbrev pub injection_byte : ℕ → ℕ
injection_byte n = n % 256

abbrev pub domain_of : ℕ → ℕ
domain_of n = n / 256

-- C-21, "judged by size alone": each domain is at most 15, whatever stands before it
abbrev pub domains_fit : List ℕ → Bool
domains_fit [] = true
domains_fit (n ∷ rest) = leb (domain_of n) 15 && domains_fit rest

-- what a log carries, as the numbers that its bytes make. An entry that is given has each word in the struct of its kind (Look.antt).
pub record Entries : Type 0 where
  pub editions : List ℕ
  pub syndromes : List ℕ
  pub addresses : List Address
  pub injections : List ℕ

-- the bytes of an entry, and back
abbrev pub byte : ℕ → List ℕ
byte n = little 1 n

abbrev pub word : ℕ → List ℕ
word n = little 8 n

abbrev pub pair : Address → List ℕ
pair a = little 8 a.far ++ little 8 a.hpfar

abbrev pub injection : ℕ → List ℕ
injection n = little injection_size n

abbrev pub byte_in : List ℕ → ℕ
byte_in s = number (take 1 s)

abbrev pub bytes_word : List ℕ → ℕ
bytes_word s = number (take 8 s)

abbrev pub pair_in : List ℕ → Address
pair_in s = record { far = bytes_word s; hpfar = bytes_word (drop 8 s) }

abbrev pub injection_in : List ℕ → ℕ
injection_in s = number (take injection_size s)

-- a section: its count, 32 bits, and its entries one after the other
module _ {A : Type 0} (bytes : A → List ℕ) where
  abbrev pub entry_bytes : List A → List ℕ
  entry_bytes [] = []
  entry_bytes (a ∷ rest) = bytes a ++ entry_bytes rest

  abbrev pub section_bytes : List A → List ℕ
  section_bytes entries = little 4 (length entries) ++ entry_bytes entries

-- so many entries of a size, from bytes that begin with them
module _ {A : Type 0} (size : ℕ) (read : List ℕ → A) where
  abbrev pub entries_in : ℕ → List ℕ → List A
  entries_in zero s = []
  entries_in (suc n) s = read s ∷ entries_in n (drop size s)

-- A LOG: its sections in their order
unfoldable pub log_of : Entries → List ℕ
log_of e =
    section_bytes byte e.editions ++ (section_bytes word e.syndromes
    ++ (section_bytes pair e.addresses ++ section_bytes injection e.injections))

-- the entries of section n + 1 stand behind its count
abbrev pub body_after : List ℕ → ℕ → List ℕ
body_after s n = drop 4 (rest_after s n)

abbrev pub injections_of : List ℕ → List ℕ
injections_of s = entries_in injection_size injection_in (count_after s 3) (body_after s 3)

unfoldable pub entries_of : List ℕ → Entries
entries_of s =
    record {
      editions = entries_in 1 byte_in (count_after s 0) (body_after s 0);
      syndromes = entries_in 8 bytes_word (count_after s 1) (body_after s 1);
      addresses = entries_in 16 pair_in (count_after s 2) (body_after s 2);
      injections = injections_of s;
    }

-- how many counts and entries a log has: four counts, and an address pair is one entry
abbrev pub gone_through : List ℕ → ℕ
gone_through s = 4 + count_after s 0 + count_after s 1 + count_after s 2 + count_after s 3
