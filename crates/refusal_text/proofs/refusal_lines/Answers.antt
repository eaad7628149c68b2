use mathlib.Core.Path.{◌≡◌, ap}
use mathlib.Core.Bool.{Bool}
use Rattle.edition.specs.declared.Refusal.{Refusal}
use Rattle.text.proofs.Appending.{extends_both}
use Rattle.refusal_text.specs.Refusal.{refusal_text}
use Rattle.refusal_text.proofs.refusal_lines.Goals as goal

-- what is said of a refusal that is known
told : (short : Bool) {r known : Refusal} → r ≡ known → refusal_text short r ≡ refusal_text short known
told short e = ap (refusal_text short) e

pub returns-in-OtherEditions : goal.returns-in-OtherEditions
returns-in-OtherEditions c = rw (told _ c.in-OtherEditions.is) (extends_both c.append-in-OtherEditions.ensures c.others.ensures)
