-- Request C-14: what a log writer is given, a list for each kind of word, and the entries that the lists make. An injection is the number
-- of its two bytes (C-21).
use Rattle.std.specs.Prelude.{ℕ, List, [], ◌∷◌}
use Rattle.log_section.specs.Log.{Address, Entries}

pub record Lists : Type 0 where
  pub editions : List ℕ
  pub syndromes : List ℕ
  pub fars : List ℕ
  pub hpfars : List ℕ
  pub injections : List ℕ

-- The addresses that have both of their words. A FAR or HPFAR without the other is left out here, and is not lost without a sign: it counts
-- in the length (`length_by`), and such lists are refused 15 (`agreeing`).
abbrev pub paired : List ℕ → List ℕ → List Address
paired [] hpfars = []
paired (far ∷ fars) [] = []
paired (far ∷ fars) (hpfar ∷ hpfars) = record { far = far; hpfar = hpfar } ∷ paired fars hpfars

abbrev pub entries_from : Lists → Entries
entries_from l =
    record { editions = l.editions; syndromes = l.syndromes; addresses = paired l.fars l.hpfars; injections = l.injections }

-- and back: the lists of some entries
abbrev pub fars_of : List Address → List ℕ
fars_of [] = []
fars_of (a ∷ rest) = a.far ∷ fars_of rest

abbrev pub hpfars_of : List Address → List ℕ
hpfars_of [] = []
hpfars_of (a ∷ rest) = a.hpfar ∷ hpfars_of rest

abbrev pub lists_of : Entries → Lists
lists_of e =
    record {
      editions = e.editions;
      syndromes = e.syndromes;
      fars = fars_of e.addresses;
      hpfars = hpfars_of e.addresses;
      injections = e.injections;
    }
