-- The promises of reading, writing, rewriting and carrying, in every form and in any answers of code.
-- Assumes nothing.
use mathlib.Core.Path.{◌≡◌, refl, ◌∙◌, sym, ap}
use mathlib.Core.Bool.{Bool}
use mathlib.Core.List.{List, [], ◌∷◌}
use mathlib.Core.Logic.{◌↔◌}
use Prim.Native.Nat.{ℕ}
use lib.Dec.{ltb}
use Rattle.std.specs.Prelude.{Result, Ok, Err}
use Rattle.bits.specs.Decide.{Test, needs, decide, relabel}
use Rattle.edition.specs.Mask.{mask_below, count_below}
use Rattle.edition.specs.Judge.{refusal_number}
use Rattle.edition.specs.declared.Refusal.{Refusal}
use Rattle.edition.specs.declared.Refusal.TheVariants.{OtherEditions}
use Rattle.form.specs.Answer.{number_in, mask_in, count_in}
use Rattle.promise.specs.Promise.{six_only, Promise}
use Rattle.promise.proofs.Promises.{kept}
use Rattle.form.specs.Call.{call_tests, call_of}
use Rattle.form.specs.Form.{Form, has_word, read_as, write_as, again, read_back, carried_from, carried_as}
use Rattle.form.specs.Promise.{numbers_of}
use Rattle.form.proofs.Calls.{Own, OthersHave, six_exactly}
use Rattle.form.proofs.Forms.{Sound, own_reading, own_writing}
use Rattle.form.proofs.Shows.{Shows, shown_alike}
use Rattle.form.proofs.Numbers.{call_through, call_number, call_carries, back_number, back_names}

-- ---- promises of a call's own answers

-- an answer says its number, and with 6 alone its mask and count
abbrev Says : {A : Type 0} → ℕ → ℕ → ℕ → Result A Refusal → Type 0
Says k m c a = Promise (numbers_of (λ b. b)) a k m c a

call_says : {A : Type 0} (n : ℕ) (test : ℕ → Bool) (own : List (Test Refusal)) (e : ℕ) (a : A) → Own n test own
    → Says (decide (relabel refusal_number (call_tests n test own e)) 0) (mask_below n test) (count_below n test) (call_of n test own e a)
call_says n test own e a ok =
    let carries = call_carries n test own e a ok in
    record { answer = refl; number = call_number n test own e a; mask = carries.0; count = carries.1 }

again_says : {R : Type 0} (w : ℕ) (a : Result R Refusal) {k m c : ℕ} → Says k m c a → Says k m c (again w a)
again_says w (Ok r) p = record { answer = refl; number = p.number; mask = p.mask; count = p.count }
again_says w (Err refusal) p = record { answer = refl; number = p.number; mask = p.mask; count = p.count }

-- answers of code say what they mean
means_says : {A X : Type 0} (means : X → Result A Refusal) (x : X) (a : Result A Refusal) (k m c : ℕ) → means x ≡ a → Says k m c a
    → Promise (numbers_of means) x k m c x
means_says {A} {X} means x a k m c same p =
    record {
      answer = refl;
      number = ap number_in same ∙ p.number;
      mask = ap mask_in same ∙ p.mask ∙ ap (λ (b : Result A Refusal). six_only (number_in b) m) (sym same);
      count = ap count_in same ∙ p.count ∙ ap (λ (b : Result A Refusal). six_only (number_in b) c) (sym same);
    }

-- ---- the promises of the four calls

module _ {R : Type 0} (f : Form R) where
  -- the tests, each with its number
  abbrev pub read_list : ℕ → ℕ → List (Test ℕ)
  read_list e w = relabel refusal_number (call_tests f.editions (λ x. has_word f x w) (f.reading w) e)

  abbrev pub write_list : ℕ → R → List (Test ℕ)
  write_list e r = relabel refusal_number (call_tests f.editions (λ x. f.has x r) (f.writing r) e)

  -- the editions that have a word, and a record, and how many they are
  abbrev pub word_mask : ℕ → ℕ
  word_mask w = mask_below f.editions (λ x. has_word f x w)

  abbrev pub word_count : ℕ → ℕ
  word_count w = count_below f.editions (λ x. has_word f x w)

  abbrev pub record_mask : R → ℕ
  record_mask r = mask_below f.editions (λ x. f.has x r)

  abbrev pub record_count : R → ℕ
  record_count r = count_below f.editions (λ x. f.has x r)

  -- the number of a record carried: the writer's tests, then the reader's
  abbrev pub carry_number : ℕ → ℕ → R → ℕ
  carry_number writer reader r =
      decide (write_list writer r) (decide (needs (ltb reader f.editions) 1 ∷ needs (f.has reader r) 6 ∷ []) 0)

module _ {R : Type 0} (f : Form R) (s : Sound f) where
  read_says : (e w : ℕ) → Says (decide (read_list f e w) 0) (word_mask f w) (word_count f w) (read_as f e w)
  read_says e w = call_says f.editions (λ x. has_word f x w) (f.reading w) e (f.at w) (own_reading f s w)

  write_says : (e : ℕ) (r : R) → Says (decide (write_list f e r) 0) (record_mask f r) (record_count f r) (write_as f e r)
  write_says e r = call_says f.editions (λ x. f.has x r) (f.writing r) e (f.word r) (own_writing f s r)

  module _ {X : Type 0} {shown : Result R Refusal → X} {means : X → Result R Refusal} (reads : Shows shown means) (e w : ℕ) where
    -- READING
    pub reading : {a : X} → a ≡ shown (read_as f e w)
        → Promise (numbers_of means) (shown (read_as f e w)) (decide (read_list f e w) 0) (word_mask f w) (word_count f w) a
    reading same = kept same (means_says means (shown (read_as f e w)) (read_as f e w) _ _ _ (reads.same (read_as f e w)) (read_says e w))

    -- refusal 6 of reading, exactly
    pub read_six_exactly : (mask count : ℕ)
        → (shown (read_as f e w) ≡ shown (Err (OtherEditions mask count)))
        ↔ (OthersHave f.editions (λ x. has_word f x w) e × (mask ≡ word_mask f w) × (count ≡ word_count f w))
    read_six_exactly mask count =
        let law = six_exactly f.editions (λ x. has_word f x w) (f.reading w) e (f.at w) (own_reading f s w) mask count in
        (λ t. law.0 (shown_alike reads _ _ t), λ h. ap shown (law.1 h))

  module _ {Y : Type 0} {put : Result ℕ Refusal → Y} {told : Y → Result ℕ Refusal} (writes : Shows put told) where
    -- WRITING
    pub writing : (e : ℕ) (r : R) {a : Y} → a ≡ put (write_as f e r)
        → Promise (numbers_of told) (put (write_as f e r)) (decide (write_list f e r) 0) (record_mask f r) (record_count f r) a
    writing e r same = kept same (means_says told (put (write_as f e r)) (write_as f e r) _ _ _ (writes.same (write_as f e r))
        (write_says e r))

    -- refusal 6 of writing, exactly
    pub write_six_exactly : (e : ℕ) (r : R) (mask count : ℕ)
        → (put (write_as f e r) ≡ put (Err (OtherEditions mask count)))
        ↔ (OthersHave f.editions (λ x. f.has x r) e × (mask ≡ record_mask f r) × (count ≡ record_count f r))
    write_six_exactly e r mask count =
        let law = six_exactly f.editions (λ x. f.has x r) (f.writing r) e (f.word r) (own_writing f s r) mask count in
        (λ t. law.0 (shown_alike writes _ _ t), λ h. ap put (law.1 h))

    -- REWRITING: the number, mask and count of reading
    pub rewriting : (e w : ℕ) {a : Y} → a ≡ put (again w (read_as f e w))
        → Promise (numbers_of told) (put (again w (read_as f e w))) (decide (read_list f e w) 0) (word_mask f w) (word_count f w) a
    rewriting e w same =
        let answer = again w (read_as f e w) in
        kept same (means_says told (put answer) answer _ _ _ (writes.same answer) (again_says w (read_as f e w) (read_says e w)))

  module _ (writer reader : ℕ) (r : R) where
    carry_says : Says (carry_number f writer reader r) (record_mask f r) (record_count f r) (carried_as Err (λ a. a) f writer reader r)
    carry_says =
        let named = by (write_as f writer r) (write_says writer r) in
        record {
          answer = refl;
          number =
              call_through (λ a. number_in (carried_from Err (λ b. b) f reader r a)) f.editions (λ x. f.has x r) (f.writing r)
              writer (f.word r)
              ∙ ap (decide (write_list f writer r)) (back_number f reader r);
          mask = named.0;
          count = named.1;
        }
      where
        by : (a : Result ℕ Refusal) {k : ℕ} → Says k (record_mask f r) (record_count f r) a
            → (mask_in (carried_from Err (λ b. b) f reader r a)
            ≡ six_only (number_in (carried_from Err (λ b. b) f reader r a)) (record_mask f r))
            × (count_in (carried_from Err (λ b. b) f reader r a)
            ≡ six_only (number_in (carried_from Err (λ b. b) f reader r a)) (record_count f r))
        by (Ok w) p = back_names f reader r
        by (Err refusal) p = (p.mask, p.count)

    -- CARRYING: answers of code that mean the writer's refusal, or what the reader answers
    pub carrying : {X : Type 0} (unwritten : Refusal → X) (read : Result R Refusal → X) (means : X → Result R Refusal)
        → ((refusal : Refusal) → means (unwritten refusal) ≡ Err refusal) → ((a : Result R Refusal) → means (read a) ≡ a)
        → {c : X} → c ≡ carried_as unwritten read f writer reader r
        → Promise (numbers_of means) (carried_as unwritten read f writer reader r) (carry_number f writer reader r) (record_mask f r)
        (record_count f r) c
    carrying unwritten read means of-refusal of-answer same =
        kept same
        (means_says means (carried_as unwritten read f writer reader r) (carried_as Err (λ a. a) f writer reader r) _ _ _
        (by (write_as f writer r)) carry_says)
      where
        by : (a : Result ℕ Refusal) → means (carried_from unwritten read f reader r a) ≡ carried_from Err (λ b. b) f reader r a
        by (Ok w) = of-answer (read_back f reader r)
        by (Err refusal) = of-refusal refusal
