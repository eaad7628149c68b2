-- WHY NO TWO MAY ENTER THE SAME MODE: a second injection overwrites what the first one saved. Document 01's starred case, an undefined
-- instruction at 0x8000 in User mode, and another one at the first instruction of its handler: both are taken, both returns answer 0, and
-- the guest is left in the handler.
use mathlib.Core.Path.{◌≡◌, refl, sym, ◌∙◌}
use mathlib.Core.Bool.{false, true≢false}
use mathlib.Core.List.{List, [], ◌∷◌}
use Prim.Native.Nat.{ℕ}
use lib.Dec.{eqb}
use lib.ListN.{replicate}
use Rattle.bits.proofs.Arms.{told}
use Rattle.signed.specs.Signed.{sum_of}
use Rattle.status.specs.Mode.{is_mode}
use Rattle.status.specs.Sound.{sound}
use Rattle.status.specs.Entry.{entry_status}
use Rattle.exception.specs.declared.state.Guest.{Guest}
use Rattle.exception.specs.Vector.{aligned}
use Rattle.exception.specs.Entry.{entered}
use Rattle.guest.specs.declared.injection.Injection.TheVariants.{UndefinedAt}
use Rattle.guest.specs.Inject.{injection_answer, injected}
use Rattle.resume.specs.Return.{restored, return_answer, returned}
use Rattle.resume.specs.Same.{SameBut}
use Rattle.resume.specs.Nest.{modes_of, written_by, distinct_modes}
use Rattle.nest.specs.Entry.{Entry, injecting}
use Rattle.nest.specs.Nest.{AllTaken, nested, AllReturn, exceptions}

-- a state in User mode
abbrev pub first : Guest
first =
    record {
      regs = replicate 31 0;
      pc = 0x8000;
      status = 0x10;
      saved = record { fiq = 0; irq = 0; svc = 0; abt = 0; und = 0 };
      faults = record { dfsr = 0; ifsr = 0; dfar = 0; ifar = 0 };
      sctlr = 0;
      vbar = 0x1000;
      ttbcr = 0;
      marks = record { pan = false; ssbs = false; dit = false };
    }

-- two undefined instructions
abbrev pub twice : List Entry
twice = injecting UndefinedAt ∷ injecting UndefinedAt ∷ []

pub twice_taken : AllTaken first twice
unfolding injection_answer injected entered entry_status sound is_mode aligned sum_of
twice_taken = (refl, (refl, tt))

pub twice_return : AllReturn first twice
unfolding injection_answer injected entered entry_status sound is_mode aligned sum_of returned return_answer restored
twice_return = ((tt, refl), refl)

-- in Undefined mode at its vector, where the second one was taken, and not in User mode at 0x8000
pub twice_left : ((nested first twice).status ≡ 0x9B) × ((nested first twice).pc ≡ 0x1004)
unfolding injection_answer injected entered entry_status sound is_mode aligned sum_of returned return_answer restored
twice_left = (refl, refl)

-- so the law can't hold of them, and its premise doesn't
pub twice_not_back : SameBut (modes_of (exceptions twice)) (written_by (exceptions twice)) (nested first twice) first → ⊥
twice_not_back same = true≢false (told (λ (n : ℕ). eqb n 0x9B) (sym same.status ∙ twice_left.0))

pub twice_one_mode : distinct_modes (modes_of (exceptions twice)) ≡ false
twice_one_mode = refl
