-- IT after an instruction that is done (02, C-17; the manual's AArch32.ITAdvance).
use Rattle.std.specs.Prelude.{ℕ, ◌+◌, ◌*◌, ◌^◌, cond, eqb}
use Rattle.bits.specs.Field.{field_of}
use Rattle.status.specs.Base.{kept}

-- IT, eight bits: 7:2 of it stand in bits 15:10 of the status word, and 1:0 in bits 26:25
abbrev pub it_of : ℕ → ℕ
it_of w = field_of w 15 10 * 2 ^ 2 + field_of w 26 25

-- where IT<2:0> is 000 IT becomes 0, else IT<4:0> is shifted left by one
abbrev pub it_advance : ℕ → ℕ
it_advance it = cond (eqb (field_of it 2 0) 0) 0 (field_of it 7 5 * 2 ^ 5 + field_of it 3 0 * 2 ^ 1)

-- a status word with another IT, every other bit kept
unfoldable pub with_it : ℕ → ℕ → ℕ
with_it w it =
    kept w 31 27
    + field_of it 1 0 * 2 ^ 25
    + kept w 24 16
    + field_of it 7 2 * 2 ^ 10
    + kept w 9 0

abbrev pub it_advanced : ℕ → ℕ
it_advanced w = with_it w (it_advance (it_of w))
