-- A nest of injections and deliveries (02, C-22): "Repeat it for a whole nest of injections, each returned in turn, as long as no two enter
-- the same mode".
use Rattle.std.specs.Prelude.{◌≡◌, List, [], ◌∷◌, Ok}
use Rattle.exception.specs.declared.state.Guest.{Guest}
use Rattle.resume.specs.Return.{returned}
use Rattle.resume.specs.Nest.{Exception}
use Rattle.nest.specs.Entry.{Entry, exception_of, TakenIn, after, correction_of}

-- each is taken in the state that the last one left
abbrev pub AllTaken : Guest → List Entry → Type 0
AllTaken s [] = Unit {0}
AllTaken s (e ∷ es) = TakenIn s e × AllTaken (after s e) es

abbrev pub last_left : Guest → List Entry → Guest
last_left s [] = s
last_left s (e ∷ es) = last_left (after s e) es

-- and then returned in turn, the last first, each with its correction
abbrev pub nested : Guest → List Entry → Guest
nested s [] = s
nested s (e ∷ es) = (returned (nested (after s e) es) (correction_of s e)).state

-- each return answers 0
abbrev pub AllReturn : Guest → List Entry → Type 0
AllReturn s [] = Unit {0}
AllReturn s (e ∷ es) = AllReturn (after s e) es × ((returned (nested (after s e) es) (correction_of s e)).answer ≡ Ok tt)

abbrev pub exceptions : List Entry → List Exception
exceptions [] = []
exceptions (e ∷ es) = exception_of e ∷ exceptions es
