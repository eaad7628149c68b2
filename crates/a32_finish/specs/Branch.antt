-- A load of register 15 (the manual's LoadWritePC, which is BXWritePC): bit 0 chooses T32 state, else A32 state, and PC is the address
-- without the bits that a PC in that state hasn't. Of an address with bit 1 set in A32 state the manual allows that, and a PC that isn't
-- aligned.
use Rattle.std.specs.Prelude.{ℕ, ◌+◌, ◌*◌, ◌^◌, Bool, cond}
use Rattle.bits.specs.Field.{bit_of, digit}
use Rattle.status.specs.Base.{kept}
use Rattle.exception.specs.declared.state.Guest.{Guest}
use Rattle.exception.specs.State.{changed}

-- T is bit 5 of the status word
unfoldable pub with_t : ℕ → Bool → ℕ
with_t w t = kept w 31 6 + digit t * 2 ^ 5 + kept w 4 0

unfoldable pub target_of : ℕ → ℕ
target_of value = cond (bit_of value 0) (kept value 31 1) (kept value 31 2)

unfoldable pub branched : Guest → ℕ → Guest
branched s value = changed s s.regs (target_of value) (with_t s.status (bit_of value 0)) s.saved s.faults
