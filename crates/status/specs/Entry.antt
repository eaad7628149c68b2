-- The new status word of an exception (01, 'Guest state and the five injections'; 02, C-15 and C-19).
use Rattle.std.specs.Prelude.{ℕ, ◌+◌, ◌*◌, ◌^◌, Bool, not, ◌&&◌, cond}
use Rattle.status.specs.declared.Mode.{Mode}
use Rattle.status.specs.declared.Marks.{Marks}
use Rattle.bits.specs.Field.{field_of, bit_of}
use Rattle.status.specs.Mode.{mode_number}
use Rattle.status.specs.Base.{kept, entry_a}

-- T: the guest is in T32 state
abbrev pub t32 : ℕ → Bool
t32 w = bit_of w 5

-- the F bit, set or kept
abbrev pub entry_f : Bool → ℕ → ℕ
entry_f set old = cond set 1 (field_of old 6 6)

-- PAN: where marked, 1 if SCTLR.SPAN, bit 23, is 0; else kept
abbrev pub entry_pan : Bool → ℕ → ℕ → ℕ
entry_pan marked old sctlr = cond (marked && not (bit_of sctlr 23)) 1 (field_of old 22 22)

-- SSBS: where marked, SCTLR.DSSBS, bit 31; else kept
abbrev pub entry_ssbs : Bool → ℕ → ℕ → ℕ
entry_ssbs marked old sctlr = cond marked (field_of sctlr 31 31) (field_of old 23 23)

-- The status word that the handler finds, as the sum of its fields. IT, bits 26:25 and 15:10, and IL, bit 20, are 0.
--     31:27  N, Z, C, V, Q, kept
--     24     kept
--     23     SSBS
--     22     PAN
--     21     DIT, kept
--     19:16  GE, kept
--     9      E: SCTLR.EE, bit 25
--     8      A: set or kept, as the exception says
--     7      I: 1
--     6      F: set or kept, as the exception says
--     5      T: SCTLR.TE, bit 30
--     4:0    M: the mode
unfoldable pub entry_status : Marks → Mode → Bool → Bool → ℕ → ℕ → ℕ
entry_status marks m a f old sctlr =
    kept old 31 27
    + kept old 24 24
    + entry_ssbs marks.ssbs old sctlr * 2 ^ 23
    + entry_pan marks.pan old sctlr * 2 ^ 22
    + kept old 21 21
    + kept old 19 16
    + field_of sctlr 25 25 * 2 ^ 9
    + entry_a a old * 2 ^ 8
    + 1 * 2 ^ 7
    + entry_f f old * 2 ^ 6
    + field_of sctlr 30 30 * 2 ^ 5
    + mode_number m
