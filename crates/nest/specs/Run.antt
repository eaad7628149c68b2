-- A nest of calls (02, C-22), as they were made of the code: injections and delivery steps, and the returns.
use Rattle.std.specs.Prelude.{◌≡◌, List, [], ◌∷◌, Some, Ok}
use Rattle.exception.specs.declared.state.Guest.{Guest}
use Rattle.guest.specs.declared.injector.Injected.{Injected}
use Rattle.guest.specs.Promise.{Injecting}
use Rattle.pending.specs.declared.Queue.{Queue}
use Rattle.pending.specs.Reading.{list_of}
use Rattle.delivery.specs.declared.Delivered as struct
use Rattle.delivery.specs.Promise.{Delivering}
use Rattle.resume.specs.declared.Resumed.{Resumed}
use Rattle.resume.specs.Promise.{Returning}
use Rattle.nest.specs.Entry.{Entry, injecting, delivering, correction_of}

-- a call was made on a state as promised, took the exception, and left another state: `inject` answered 0, or `deliver` named the kind
abbrev pub Entered : Guest → Entry → Guest → Type 0
Entered s (injecting i) left = (r : Injected) × Injecting s i r × (r.answer ≡ Ok tt) × (r.state ≡ left)
Entered s (delivering l k) left =
    (q : Queue) × (r : struct.Delivered) × (list_of q ≡ l) × Delivering q s r × (r.outcome.answer ≡ Ok (Some k))
    × (r.state ≡ left)

-- what was called, the state that the call left, and what came back of its return
pub record Made : Type 0 where
  pub entry : Entry
  pub left : Guest
  pub back : Resumed

-- A NEST OF CALLS of the code, from a first state to a last one: each exception is taken in the state that the call before it left; then
-- come the returns, the last one's first, each made on the state that the return before it left and with its exception's correction
abbrev pub Run : Guest → List Made → Guest → Type 0
Run s [] last = s ≡ last
Run s (m ∷ ms) last =
    Entered s m.entry m.left
    × ((t : Guest) × Run m.left ms t × Returning t (correction_of s m.entry) m.back)
    × (m.back.state ≡ last)

abbrev pub entries_of : List Made → List Entry
entries_of [] = []
entries_of (m ∷ ms) = m.entry ∷ entries_of ms

-- each return answered 0
abbrev pub AllReturned : List Made → Type 0
AllReturned [] = Unit {0}
AllReturned (m ∷ ms) = AllReturned ms × (m.back.answer ≡ Ok tt)
