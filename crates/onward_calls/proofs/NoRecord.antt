-- Words that are no record's are refused 5, before every other test, by each of the three calls.
-- Assumes nothing.
use mathlib.Core.Path.{◌≡◌, refl, sym, ap}
use mathlib.Core.Bool.{false, not}
use Prim.Native.Nat.{ℕ}
use lib.Dec.{eqb}
use Rattle.record.specs.declared.origin.Origin.{Origin}
use Rattle.record_of_words.specs.Reading.{no_record}
use Rattle.rule.proofs.Having.{origin_lacks}
use Rattle.exception.specs.declared.state.Guest.{Guest}
use Rattle.step.specs.Over.{step_number, had, stepped_over}
use Rattle.std.specs.Prelude.{⊤}
use Rattle.step.specs.declared.over.Onward.{Onward}
use Rattle.step.proofs.Answers as step
use Rattle.device.specs.Answer.{access_number}
use Rattle.device.specs.Finish as device
use Rattle.device.specs.declared.answer.Moved.{Moved as Access}
use Rattle.device.proofs.Answers as access
use Rattle.coprocessor.specs.Answer.{transfer_number}
use Rattle.coprocessor.specs.Finish as coprocessor
use Rattle.coprocessor.specs.declared.answer.Moved.{Moved as Transfer}
use Rattle.coprocessor.proofs.Answers as transfer

not_had : had no_record ≡ false
not_had = ap (λ (m : ℕ). not (eqb m 0)) (origin_lacks Origin.AArch32 no_record refl)

pub step_refused : (s : Guest) → step_number (stepped_over s no_record).answer ≡ 5
step_refused s = sym (ap (λ (x : Onward ⊤). step_number x.answer) (step.no_edition s no_record not_had))

pub finish_refused : (s : Guest) (value : ℕ) → access_number (device.finished s no_record value).answer ≡ 5
finish_refused s value = sym (ap (λ (x : Onward Access). access_number x.answer) (access.no_edition s no_record value not_had))

pub transfer_refused : (s : Guest) (first second : ℕ) → transfer_number (coprocessor.finished s no_record first second).answer ≡ 5
transfer_refused s first second =
    sym (ap (λ (x : Onward Transfer). transfer_number x.answer) (transfer.no_edition s no_record first second not_had))
