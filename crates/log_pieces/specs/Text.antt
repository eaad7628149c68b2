-- The text of a log: how the log was read; of a log that was accepted, or is cut short, the editions seen, in the log's order, each trap
-- with its registers and what each known edition among those seen makes of it, explained where that is asked for, and the injections; and
-- of one that is cut short, that this is what precedes the cut, and where the cut is.
use Rattle.std.specs.Prelude.{ℕ, zero, suc, ◌-◌, Bool, cond, ◌||◌, Result, eqb, get_or}
use mathlib.Core.List.{List, [], ◌∷◌, ◌++◌, map, flatten}
use Rattle.bits.specs.Among.{among}
use Rattle.edition.specs.Mask.{mask_of}
use Rattle.log_section.specs.Log.{Address, Entries, injection_byte, domain_of}
use Rattle.trap_log.specs.Answer.{number_of, section_in, read_of}
use Rattle.trap_log.specs.declared.answer.LogRefusal.{LogRefusal}
use Rattle.log_cut.specs.Whole.{whole_entries, cut_after}
use Rattle.log_text.specs.Cut.{syndrome_text, cut_text}
use Rattle.log_text.specs.Lines.{read_text, edition_text, injection_text}
use Rattle.text.specs.Ascii.{ascii}
use Rattle.trap_text.specs.Shown.{trap_text}

-- the entries that are shown: those that stand whole in a log that was accepted or is cut short (13), and none of one that is refused
-- otherwise
abbrev pub is_cut : Result ℕ LogRefusal → Bool
is_cut a = eqb (number_of a) 13

abbrev pub is_shown : Result ℕ LogRefusal → Bool
is_shown a = eqb (number_of a) 0 || is_cut a

abbrev pub nothing : Entries
nothing = record { editions = []; syndromes = []; addresses = []; injections = [] }

unfoldable pub shown : List ℕ → Entries
shown s = cond (is_shown (read_of s)) (whole_entries s) nothing

-- the mask of the known editions among those seen
abbrev pub seen_mask : Entries → ℕ
seen_mask e = mask_of (among e.editions)

-- a trap's registers: its syndrome, and the address of the same place
abbrev pub trap_piece : ℕ → Bool → ℕ → Address → List ℕ
trap_piece seen explained esr a = trap_text seen explained (record { 0 = esr }) (record { 0 = a.far }) (record { 0 = a.hpfar })

-- each trap, and each syndrome whose address doesn't precede the cut
abbrev pub trap_pieces : ℕ → Bool → List ℕ → List Address → List (List ℕ)
trap_pieces seen explained [] addresses = []
trap_pieces seen explained (esr ∷ rest) [] = syndrome_text (record { 0 = esr }) ∷ trap_pieces seen explained rest []
trap_pieces seen explained (esr ∷ rest) (a ∷ more) = trap_piece seen explained esr a ∷ trap_pieces seen explained rest more

-- an injection: its own byte, and its domain
abbrev pub injection_piece : ℕ → List ℕ
injection_piece n = injection_text (injection_byte n) (domain_of n)

-- the text in pieces, in their order, the traps in the editions of a mask: one for each edition, one for each trap, one for each injection
unfoldable pub entry_pieces : ℕ → Bool → Entries → List (List ℕ)
entry_pieces seen explained e =
    map edition_text e.editions
    ++ (trap_pieces seen explained e.syndromes e.addresses ++ map injection_piece e.injections)

-- the first piece, how the log was read, and the last, where it is cut
abbrev pub first_text : Result ℕ LogRefusal → List ℕ
first_text a = read_text a ++ cond (is_cut a) (ascii "what precedes the cut, if the counts are right:\n") []

abbrev pub cut_in : List ℕ → ℕ → List ℕ
cut_in s section = cut_text section (cut_after s (section - 1))

abbrev pub last_text : List ℕ → List ℕ
last_text s = cond (is_cut (read_of s)) (cut_in s (section_in (read_of s))) []

unfoldable pub later_pieces : ℕ → Bool → List ℕ → List (List ℕ)
later_pieces seen explained s = entry_pieces seen explained (shown s) ++ (last_text s ∷ [])

unfoldable pub pieces_in : ℕ → Bool → List ℕ → List (List ℕ)
pieces_in seen explained s = first_text (read_of s) ∷ later_pieces seen explained s

-- in the known editions among those seen
abbrev pub pieces_of : Bool → List ℕ → List (List ℕ)
pieces_of explained s = pieces_in (seen_mask (shown s)) explained s

-- THE TEXT OF A LOG: its pieces, one after the other
unfoldable pub log_text : Bool → List ℕ → List ℕ
log_text explained s = flatten (pieces_of explained s)

-- what stands written after n pieces
abbrev pub written_after : Bool → List ℕ → ℕ → List ℕ
written_after explained s zero = []
written_after explained s (suc n) = written_after explained s n ++ get_or (pieces_of explained s) n []
