-- A refusal in words (01, 'Numbers a call may answer'): its number and the test that failed, with the bits that it looks at; and with 6
-- what the editions that have the word ask of a board, and which editions they are, as they are typed.
use Rattle.std.specs.Prelude.{ℕ, zero, suc, Bool, cond, List, [], ◌++◌}
use Rattle.bits.specs.Field.{bit_of}
use Rattle.edition.specs.declared.Refusal.{Refusal}
use Rattle.edition.specs.declared.Refusal.TheVariants.{UnknownEdition, UpperHalf, UnknownClass, ShortInstruction, NoEdition}
use Rattle.edition.specs.declared.Refusal.TheVariants.{OtherEditions}
use Rattle.text.specs.Ascii.{ascii}
use Rattle.text.specs.Numeral.{hex_text}
use Rattle.refusal_text.specs.Feature.{editions_of, asked_by, asked_lines}

-- the editions below n that are in a mask, in ascending order
unfoldable pub editions_below : ℕ → ℕ → List ℕ
editions_below zero mask = []
editions_below (suc n) mask = editions_below n mask ++ cond (bit_of mask n) (ascii " " ++ hex_text n) []

abbrev pub editions_text : ℕ → ℕ → List ℕ
editions_text n mask = ascii "editions" ++ editions_below n mask ++ ascii "\n"

abbrev pub refusal_text : Bool → Refusal → List ℕ
refusal_text short UnknownEdition = cond short (ascii "refused 1: the edition is above 1\n") (ascii "refused 1: the edition is above 15\n")
refusal_text short UpperHalf = ascii "refused 2: bits 63:32 of the syndrome are not zero\n"
refusal_text short UnknownClass =
    cond short (ascii "refused 3: EC 31:26 is no class of the build in the short form\n")
    (ascii "refused 3: EC 31:26 is no class of the build from AArch32\n")
refusal_text short ShortInstruction = ascii "refused 4: IL 25 is 0 where it must be 1\n"
refusal_text short NoEdition = ascii "refused 5: no edition has it\n"
refusal_text short (OtherEditions mask count) =
    ascii "refused 6: this edition doesn't have it, others do\n"
    ++ (asked_lines (asked_by short mask) ++ editions_text (editions_of short) mask)
