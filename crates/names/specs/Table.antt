-- Inner contracts, which nobody has to believe: the labels and the lists of values as code has them, by number. A list is dense there: a
-- text for each value below its size.
use Rattle.std.specs.Prelude.{ℕ, zero, suc, ◌+◌, List, [], ◌∷◌, ◌++◌, map, length, get_or}
use Rattle.text.specs.Ascii.{ascii}
use Rattle.names.specs.Name.{Entry, meaning_of}
use Rattle.names.specs.Class.{classes, short_classes}
use Rattle.names.specs.Code.{fault_codes, short_codes, error_codes}
use Rattle.names.specs.Value.{lengths, validity, conditions, unknown, waits, mcr_directions, mcrr_directions, offsets}
use Rattle.names.specs.Value.{addressing_modes, ldc_directions, passes, error_types, far_validity, walks, syndrome_validity, sizes}
use Rattle.names.specs.Value.{extensions, widths, semantics, maintenance, accesses, step_validity, exclusives, asynchronous_types}
use Rattle.names.specs.Value.{simd_uses, short_types, reasons, injections, hifar_validity, registers, external_types, hdfar_validity}

unfoldable pub labels : List (List ℕ)
labels =
    ascii "EC" ∷ ascii "IL" ∷ ascii "CV" ∷ ascii "COND" ∷ ascii "TI" ∷ ascii "Opc2" ∷ ascii "Opc1" ∷ ascii "CRn" ∷ ascii "Rt"
    ∷ ascii "CRm" ∷ ascii "Direction" ∷ ascii "Rt2" ∷ ascii "imm8" ∷ ascii "Rn" ∷ ascii "Offset" ∷ ascii "AM" ∷ ascii "imm16"
    ∷ ascii "Comment" ∷ ascii "CCKNOWNPASS" ∷ ascii "SET" ∷ ascii "FnV" ∷ ascii "EA" ∷ ascii "S1PTW" ∷ ascii "IFSC" ∷ ascii "ISV"
    ∷ ascii "SAS" ∷ ascii "SSE" ∷ ascii "SRT" ∷ ascii "SF" ∷ ascii "AR" ∷ ascii "CM" ∷ ascii "WnR" ∷ ascii "DFSC" ∷ ascii "EX"
    ∷ ascii "AET" ∷ ascii "TA" ∷ ascii "coproc" ∷ ascii "0:FnV"
    ∷ []

pub record Source : Type 0 where
  pub size : ℕ
  pub entries : List Entry

abbrev pub source : ℕ → List Entry → Source
source size entries = record { size = size; entries = entries }

abbrev pub no_source : Source
no_source = source 0 []

unfoldable pub sources : List Source
sources =
    no_source ∷ source 59 classes ∷ source 2 lengths ∷ source 2 validity ∷ source 15 conditions ∷ source 32 unknown ∷ source 2 waits
    ∷ source 2 mcr_directions ∷ source 2 mcrr_directions ∷ source 2 offsets ∷ source 7 addressing_modes ∷ source 2 ldc_directions
    ∷ source 2 passes ∷ source 4 error_types ∷ source 2 far_validity ∷ source 2 walks ∷ source 54 fault_codes ∷ source 2 syndrome_validity
    ∷ source 3 sizes ∷ source 2 extensions ∷ source 1 widths ∷ source 2 semantics ∷ source 2 maintenance ∷ source 2 accesses
    ∷ source 2 step_validity ∷ source 2 exclusives ∷ source 7 asynchronous_types ∷ source 18 error_codes ∷ source 37 short_classes
    ∷ source 2 simd_uses ∷ source 4 short_types ∷ source 26 reasons ∷ source 5 injections ∷ source 54 short_codes ∷ source 2 hifar_validity
    ∷ source 32 registers ∷ source 2 external_types ∷ source 2 hdfar_validity
    ∷ []

-- label n, and the values of list m
unfoldable pub label_at : ℕ → List ℕ
label_at n = get_or labels n []

unfoldable pub values_at : ℕ → List Entry
values_at m = (get_or sources m no_source).entries

-- what a rule gives at `from` and on
abbrev pub tabulate : ℕ → ℕ → (ℕ → List ℕ) → List (List ℕ)
tabulate zero from rule = []
tabulate (suc n) from rule = rule from ∷ tabulate n (suc from) rule

abbrev pub dense_of : Source → List (List ℕ)
dense_of s = tabulate s.size 0 (meaning_of s.entries)

-- the labels, and then each list of values
unfoldable pub lists : List (List (List ℕ))
lists = labels ∷ map dense_of sources

-- lists one after the other, and where each of them starts
abbrev pub together : {A : Type 0} → List (List A) → List A
together [] = []
together (l ∷ ls) = l ++ together ls

abbrev pub starts_from : {A : Type 0} → ℕ → List (List A) → List ℕ
starts_from from [] = from ∷ []
starts_from from (l ∷ ls) = from ∷ starts_from (from + length l) ls

unfoldable pub texts : List (List ℕ)
texts = together lists
