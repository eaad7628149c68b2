-- A state that an injection made passes tests 9 and 10 again, so that a further injection finds it sound.
use Rattle.std.specs.Prelude.{Ok}
use mathlib.Core.Path.{◌≡◌}
use mathlib.Core.Bool.{true}
use Rattle.status.specs.Sound.{sound}
use Rattle.exception.specs.declared.state.Guest.{Guest}
use Rattle.exception.specs.Vector.{aligned}
use Rattle.exception.proofs.Again.{entered_again}
use Rattle.guest.specs.declared.injection.Injection.{Injection}
use Rattle.guest.specs.Injection.{injection_row}
use Rattle.guest.specs.Inject.{faults_after, guest_after, injection_answer}
use Rattle.guest.proofs.Answers.{accepted_exactly}

pub again : (s : Guest) (i : Injection) → injection_answer s i ≡ Ok tt
    → (sound (guest_after s i).marks (guest_after s i).status ≡ true) × (aligned (guest_after s i).vbar ≡ true)
again s i e =
    let p = (accepted_exactly s i).0 e in
    entered_again s (injection_row i) (faults_after i s.faults s.ttbcr) p.status p.vbar
