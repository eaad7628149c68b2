-- What the call answers, exactly: each number in its order, and what is described.
-- Assumes nothing.
use mathlib.Core.Path.{◌≡◌, refl, ◌∙◌, sym, ap}
use mathlib.Core.Bool.{Bool, true, false}
use mathlib.Core.Logic.{◌↔◌}
use Rattle.std.specs.Prelude.{Ok}
use Prim.Native.Nat.{ℕ}
use Rattle.bits.specs.Decide.{FailsWith}
use Rattle.bits.proofs.Arms.{absurd_answer}
use Rattle.promise.proofs.Promises.{fails_exactly}
use Rattle.status.specs.Sound.{sound}
use Rattle.status.specs.Entry.{t32}
use Rattle.exception.specs.declared.state.Guest.{Guest}
use Rattle.a32_fields.specs.Layout.{fields_word}
use Rattle.a32_fields.specs.Split.{fields_at}
use Rattle.a32_fields.specs.declared.kinds.Fields.{Fields}
use Rattle.a32_rule.specs.Legal.{legal}
use Rattle.a32_rule.specs.Answer.{is_form}
use Rattle.a32_rule.proofs.Answers.{decode_taken}
use Rattle.a32_rule.proofs.Forms.{decode_exactly, taken_form}
use Rattle.a32_access.specs.declared.access.Access.{Access}
use Rattle.a32.specs.Promise.{access_of, answer_number, describe_numbers, described_answer}
use Rattle.a32.proofs.Describing.{answered, first_fails, second_fails, third_fails, none_fails}

-- EACH NUMBER EXACTLY: 9, then 19 in T32 state, then 19 for the word, and 0 where none fails
pub describe_exactly : (s : Guest) (w k : ℕ) → (answer_number (described_answer s w) ≡ k) ↔ FailsWith k (describe_numbers s w)
describe_exactly s w = fails_exactly (describe_numbers s w) (answered s w refl)

-- WHAT IS DESCRIBED: exactly a sound state's A32 instruction that some legal fields make, by those fields
pub described_exactly : (s : Guest) (w : ℕ) (a : Access)
    → (described_answer s w ≡ Ok a)
    ↔ ((sound s.marks s.status ≡ true) × (t32 s.status ≡ false)
    × ((f : Fields) × (legal f ≡ true) × (fields_word f ≡ w) × (a ≡ access_of s f)))
described_exactly s w a = (forward, back)
  where
    forward : described_answer s w ≡ Ok a
        → (sound s.marks s.status ≡ true) × (t32 s.status ≡ false)
        × ((f : Fields) × (legal f ≡ true) × (fields_word f ≡ w) × (a ≡ access_of s f))
    forward t = by (sound s.marks s.status) refl (t32 s.status) refl (is_form w) refl
      where
        by : (k : Bool) → sound s.marks s.status ≡ k → (m : Bool) → t32 s.status ≡ m → (b : Bool) → is_form w ≡ b
            → (sound s.marks s.status ≡ true) × (t32 s.status ≡ false)
            × ((f : Fields) × (legal f ≡ true) × (fields_word f ≡ w) × (a ≡ access_of s f))
        by false hk m hm b hb = let q = first_fails s w hk in absurd_answer (cc (t, q))
        by true hk true hm b hb = let q = second_fails s w hk hm in absurd_answer (cc (t, q))
        by true hk false hm false hb = let q = third_fails s w hk hm hb in absurd_answer (cc (t, q))
        by true hk false hm true hb =
            let q = none_fails s w hk hm hb in
            let found = (decode_exactly w (fields_at w)).0 (decode_taken w hb) in
            (hk, hm, (fields_at w, found.0, found.1, cc (t, q)))

    back : (sound s.marks s.status ≡ true) × (t32 s.status ≡ false)
        × ((f : Fields) × (legal f ≡ true) × (fields_word f ≡ w) × (a ≡ access_of s f))
        → described_answer s w ≡ Ok a
    back h =
        let f = h.2.0 in
        let form = taken_form w f ((decode_exactly w f).1 (h.2.1, h.2.2)) in
        none_fails s w h.0 h.1 form.0 ∙ ap (λ (g : Fields). Ok (access_of s g)) form.1 ∙ ap Ok (sym h.2.3)
