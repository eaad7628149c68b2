-- A sound status word (01, 'Numbers a call may answer', number 9; 02, C-15): an accepted mode in bits 4:0, SSBS (23), PAN (22) and DIT (21)
-- each 0 where not marked, and bit 24 always 0.
use Rattle.std.specs.Prelude.{ℕ, Bool, not, ◌&&◌, ◌||◌}
use Rattle.status.specs.declared.Marks.{Marks}
use Rattle.bits.specs.Field.{field_of, bit_of}
use Rattle.status.specs.Mode.{is_mode}

-- a bit is 1 only where its feature is marked
abbrev pub allowed : Bool → Bool → Bool
allowed marked set = marked || not set

unfoldable pub sound : Marks → ℕ → Bool
sound marks w =
    is_mode (field_of w 4 0)
    && not (bit_of w 24)
    && allowed marks.ssbs (bit_of w 23)
    && allowed marks.pan (bit_of w 22)
    && allowed marks.dit (bit_of w 21)
