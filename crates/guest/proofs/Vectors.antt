-- The PC of an injection that is taken is the plain sum of the vector and the base.
use Rattle.std.specs.Prelude.{Ok}
use mathlib.Core.Path.{◌≡◌}
use Prim.Native.Nat.{◌+◌, ◌^◌, ◌<◌}
use native.Mathlib.Omega.{arith}
use Rattle.exception.specs.declared.state.Guest.{Guest}
use Rattle.exception.specs.Vector.{vector_base}
use Rattle.exception.proofs.Vectors.{entered_pc}
use Rattle.guest.specs.declared.injection.Injection.{Injection}
use Rattle.guest.specs.declared.injection.Injection.TheVariants.{UndefinedAt, UndefinedAfter, SupervisorCall, PrefetchAbort}
use Rattle.guest.specs.declared.injection.Injection.TheVariants.{DataAbort}
use Rattle.guest.specs.Injection.{injection_row}
use Rattle.guest.specs.Inject.{faults_after, guest_after, injection_answer}
use Rattle.guest.proofs.Answers.{accepted_exactly}

vector_below : (i : Injection) → (injection_row i).vector < 32
vector_below UndefinedAt = omega arith
vector_below UndefinedAfter = omega arith
vector_below SupervisorCall = omega arith
vector_below (PrefetchAbort f) = omega arith
vector_below (DataAbort a) = omega arith

pub new_pc : (s : Guest) (i : Injection) → injection_answer s i ≡ Ok tt → s.vbar < 2 ^ 32
    → (guest_after s i).pc ≡ vector_base s.sctlr s.vbar + (injection_row i).vector
new_pc s i e h =
    entered_pc s (injection_row i) (faults_after i s.faults s.ttbcr) ((accepted_exactly s i).0 e).vbar h (vector_below i)
