-- 01 as it stood before request C-15, for guests that have none of its features ('Numbers a call may answer', number 9; 'Guest state and
-- the five injections'). The laws `unmarked_sound` and `unmarked_entry` (proofs/Unmarked.antt) say that where nothing is marked, what holds
-- now is what held then.
use Rattle.std.specs.Prelude.{ℕ, ◌+◌, ◌*◌, ◌^◌, Bool, false, ◌&&◌, cond, eqb}
use Rattle.status.specs.declared.Mode.{Mode}
use Rattle.status.specs.declared.Marks.{Marks}
use Rattle.bits.specs.Field.{field_of}
use Rattle.status.specs.Mode.{is_mode, mode_number}

-- no feature is marked
abbrev pub unmarked : Marks
unmarked = record { pan = false; ssbs = false; dit = false }

-- an accepted mode in bits 4:0, and bits 24:21 zero
unfoldable pub base_sound : ℕ → Bool
base_sound w = is_mode (field_of w 4 0) && eqb (field_of w 24 21) 0

-- bits high:low of a word, left where they stand, every other bit 0
abbrev pub kept : ℕ → ℕ → ℕ → ℕ
kept word high low = field_of word high low * 2 ^ low

-- the A bit, set or kept
abbrev pub entry_a : Bool → ℕ → ℕ
entry_a set old = cond set 1 (field_of old 8 8)

-- The status word that the handler finds, as the sum of its fields. IT, bits 26:25 and 15:10, and IL, bit 20, are 0.
--     31:27  N, Z, C, V, Q, kept
--     24:21  kept
--     19:16  GE, kept
--     9      E: SCTLR.EE, bit 25
--     8      A: set or kept, as the exception says
--     7      I: 1
--     6      F, kept
--     5      T: SCTLR.TE, bit 30
--     4:0    M: the mode
unfoldable pub base_entry_status : Mode → Bool → ℕ → ℕ → ℕ
base_entry_status m a old sctlr =
    kept old 31 27
    + kept old 24 21
    + kept old 19 16
    + field_of sctlr 25 25 * 2 ^ 9
    + entry_a a old * 2 ^ 8
    + 1 * 2 ^ 7
    + field_of old 6 6 * 2 ^ 6
    + field_of sctlr 30 30 * 2 ^ 5
    + mode_number m
