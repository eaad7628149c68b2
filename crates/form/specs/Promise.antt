-- The numbers of the answers of code that mean a call's.
use Rattle.std.specs.Prelude.{Result}
use Rattle.promise.specs.Promise.{Numbers}
use Rattle.edition.specs.declared.Refusal.{Refusal}
use Rattle.form.specs.Answer.{number_in, mask_in, count_in}

abbrev pub numbers_of : {A X : Type 0} → (X → Result A Refusal) → Numbers X
numbers_of means = record { number = λ x. number_in (means x); mask = λ x. mask_in (means x); count = λ x. count_in (means x) }
