-- Words that are no record's are refused 5, after the edition's test and before every other.
-- Assumes nothing.
use mathlib.Core.Path.{◌≡◌, refl}
use mathlib.Core.Bool.{Bool, true, false, cond}
use mathlib.Core.List.{List, [], ◌∷◌}
use Prim.Native.Nat.{ℕ}
use Rattle.bits.specs.Decide.{Test, needs, decide}
use Rattle.edition.specs.Feature.{editions, is_edition}
use Rattle.form.specs.Call.{some_has}
use Rattle.record.specs.declared.origin.Origin.{Origin}
use Rattle.record_of_words.specs.Reading.{no_record}
use Rattle.rule.specs.Has.{record_il, has, editions_of}
use Rattle.rule.proofs.Having.{origin_lacks}
use Rattle.syndrome.specs.Writing.{write_list}

pub none_has_it : (o : Origin) → editions_of o no_record ≡ 0
none_has_it Origin.AArch32 = origin_lacks Origin.AArch32 no_record refl
none_has_it Origin.AArch64 = origin_lacks Origin.AArch64 no_record refl

second_fails : (b : Bool) (rest : List (Test ℕ)) → decide (needs b 1 ∷ needs false 5 ∷ rest) 0 ≡ cond b 5 1
second_fails true rest = refl
second_fails false rest = refl

pub refused_five : (o : Origin) (e : ℕ) → decide (write_list o e no_record) 0 ≡ cond (is_edition e) 5 1
refused_five o e =
    second_fails (is_edition e)
    (needs (record_il o no_record) 4 ∷ needs (some_has editions (λ x. has o x no_record)) 5 ∷ needs (has o e no_record) 6 ∷ [])
