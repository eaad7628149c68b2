-- Laws of the status word as the word that the hypervisor's return takes: there and back is the word, and back and there is the saved word
-- with SS dropped.
use Rattle.std.specs.Prelude.{Option, Some, None}
use mathlib.Core.Path.{◌≡◌, refl, sym, ap, ap₂, ◌∙◌}
use mathlib.Core.Bool.{Bool, true, false, not, ◌&&◌, cond}
use mathlib.Core.List.{[], ◌∷◌}
use mathlib.Core.Logic.{◌↔◌}
use Prim.Native.Nat.{ℕ, ◌+◌, ◌*◌, ◌/◌, ◌%◌, ◌^◌, ◌<◌}
use native.Mathlib.Omega.{arith}
use borrow.Author.Tests.{eqb-false, not-true}
use Rattle.bits.specs.Decide.{needs, FirstFails}
use Rattle.bits.specs.Field.{field_of, bit_of}
use Rattle.bits.proofs.Arms.{absurd_answer}
use Rattle.bits.proofs.Booleans.{and_left, and_right}
use Rattle.promise.proofs.Promises.{first_exactly, by_tests}
use Rattle.status.specs.declared.Marks.{Marks}
use Rattle.status.specs.Mode.{is_mode}
use Rattle.status.specs.Sound.{allowed, sound}
use Rattle.status.specs.Spsr.{spsr_status, from_spsr, status_spsr, to_spsr, without_ss, spsr_number, to_spsr_numbers, ToSpsrPromise}
use Rattle.status.proofs.Saved.{moved}

-- what the call promises, by its equation alone
pub promised : (marks : Marks) (w : ℕ) {r : Option ℕ} → r ≡ to_spsr marks w → ToSpsrPromise marks w r
unfolding to_spsr
promised marks w = by_tests spsr_number (needs (sound marks w) None ∷ []) (Some (status_spsr w)) refl refl

-- 9 exactly when the word isn't sound
pub to_spsr_decided : (marks : Marks) (w k : ℕ) → (spsr_number (to_spsr marks w) ≡ k) ↔ FirstFails k (to_spsr_numbers marks w)
to_spsr_decided marks w = first_exactly (to_spsr_numbers marks w) tt (promised marks w refl)

-- a sum of the fields, each in its place and within its width: 31:25, 24, 23:22, 21 and 20:0
module _ (h d k s l : ℕ) (hh : h < 128) (hd : d < 2) (hk : k < 4) (hs : s < 2) (hl : l < 2 ^ 21) where
  abbrev word : ℕ
  word = h * 2 ^ 25 + d * 2 ^ 24 + k * 2 ^ 22 + l * 2 ^ 0

  digits : (field_of word 20 0 ≡ l) × (field_of word 21 21 ≡ 0) × (field_of word 23 22 ≡ k) × (field_of word 24 24 ≡ d)
      × (field_of word 31 25 ≡ h)
  digits = (omega arith, omega arith, omega arith, omega arith, omega arith)

-- the word that is written, field by field: SS is 0
pub record Written (old new : ℕ) : Type 0 where
  pub low20_0 : field_of new 20 0 ≡ field_of old 20 0
  pub ss21 : field_of new 21 21 ≡ 0
  pub kept23_22 : field_of new 23 22 ≡ field_of old 23 22
  pub dit24 : field_of new 24 24 ≡ field_of old 21 21
  pub kept31_25 : field_of new 31 25 ≡ field_of old 31 25

pub written : (w : ℕ) → Written w (status_spsr w)
unfolding status_spsr
written w =
    let d = digits (field_of w 31 25) (field_of w 21 21) (field_of w 23 22) 0 (field_of w 20 0) (omega arith) (omega arith) (omega arith)
    (omega arith) (omega arith) in
    record { low20_0 = d.0; ss21 = d.1; kept23_22 = d.2; dit24 = d.3; kept31_25 = d.4 }

-- ---- there and back

-- bit 24 of a sound word is 0
no_24 : (marks : Marks) (w : ℕ) → sound marks w ≡ true → field_of w 24 24 ≡ 0
unfolding sound
no_24 marks w t =
    let m = is_mode (field_of w 4 0) in
    let j = not (bit_of w 24) in
    let s = allowed marks.ssbs (bit_of w 23) in
    let p = allowed marks.pan (bit_of w 22) in
    let d = allowed marks.dit (bit_of w 21) in
    let other =
    eqb-false (field_of w 24 24) 1
    (not-true (bit_of w 24) (and_right m j (and_left (m && j) s (and_left (m && j && s) p (and_left (m && j && s && p) d t))))) in
    omega (arith, other)

-- a word cut at bit 25, and what is below it cut at bits 24, 22 and 21
module _ (w : ℕ) where
  at_25 : w ≡ w / 2 ^ 25 * 2 ^ 25 + w % 2 ^ 25
  at_25 = omega arith

  at_24 : w % 2 ^ 25 ≡ field_of w 24 24 * 2 ^ 24 + w % 2 ^ 24
  at_24 = omega arith

  at_22 : w % 2 ^ 24 ≡ field_of w 23 22 * 2 ^ 22 + w % 2 ^ 22
  at_22 = omega arith

  at_21 : w % 2 ^ 22 ≡ field_of w 21 21 * 2 ^ 21 + field_of w 20 0
  at_21 = omega arith

  top : w < 2 ^ 32 → field_of w 31 25 ≡ w / 2 ^ 25
  top below = omega arith

joined : (w h z k d l q a b c : ℕ) → w ≡ q * 2 ^ 25 + a → a ≡ z * 2 ^ 24 + b → b ≡ k * 2 ^ 22 + c → c ≡ d * 2 ^ 21 + l → z ≡ 0 → h ≡ q
    → h * 2 ^ 25 + k * 2 ^ 22 + d * 2 ^ 21 + l * 2 ^ 0 ≡ w
joined w h z k d l q a b c ew ea eb ec ez eh = omega arith

-- the fields of a word that has no bit 24 are the word
whole : (w : ℕ) → w < 2 ^ 32 → field_of w 24 24 ≡ 0
    → field_of w 31 25 * 2 ^ 25 + field_of w 23 22 * 2 ^ 22 + field_of w 21 21 * 2 ^ 21 + field_of w 20 0 * 2 ^ 0 ≡ w
whole w below z =
    joined w (field_of w 31 25) (field_of w 24 24) (field_of w 23 22) (field_of w 21 21) (field_of w 20 0) (w / 2 ^ 25) (w % 2 ^ 25) (w % 2 ^ 24)
    (w % 2 ^ 22) (at_25 w) (at_24 w) (at_22 w) (at_21 w) z (top w below)

added : {h h' k k' d d' l l' : ℕ} → h ≡ h' → k ≡ k' → d ≡ d' → l ≡ l'
    → h * 2 ^ 25 + k * 2 ^ 22 + d * 2 ^ 21 + l * 2 ^ 0 ≡ h' * 2 ^ 25 + k' * 2 ^ 22 + d' * 2 ^ 21 + l' * 2 ^ 0
added eh ek ed el = rw (eh, ek, ed, el)

-- THERE AND BACK is the word
pub there_and_back : (marks : Marks) (w : ℕ) → w < 2 ^ 32 → sound marks w ≡ true → from_spsr marks (status_spsr w) ≡ Some w
unfolding from_spsr spsr_status
there_and_back marks w below t =
    let v = written w in
    let same : spsr_status (status_spsr w) ≡ w =
    added v.kept31_25 v.kept23_22 v.dit24 v.low20_0 ∙ whole w below (no_24 marks w t) in
    ap (λ (n : ℕ). cond (sound marks n) (Some n) None) same
    ∙ ap (λ (b : Bool). cond b (Some w) None) t

-- ---- back and there

-- bits 31:22 of a word are its bits 31:25, 24 and 23:22
module _ (v : ℕ) where
  by_4 : v / 2 ^ 24 ≡ v / 2 ^ 22 / 4
  by_4 = omega arith

  by_8 : v / 2 ^ 25 ≡ v / 2 ^ 22 / 8
  by_8 = omega arith

three : (u : ℕ) → u % 2 ^ 10 ≡ u / 8 % 2 ^ 7 * 8 + u / 4 % 2 * 4 + u % 4
three u = omega arith

scaled : (q h d k l : ℕ) → q ≡ h * 8 + d * 4 + k → h * 2 ^ 25 + d * 2 ^ 24 + k * 2 ^ 22 + l * 2 ^ 0 ≡ q * 2 ^ 22 + l * 2 ^ 0
scaled q h d k l e = omega arith

upper : (v : ℕ) → field_of v 31 22 ≡ field_of v 31 25 * 8 + field_of v 24 24 * 4 + field_of v 23 22
upper v =
    three (v / 2 ^ 22)
    ∙ ap₂ (λ (x y : ℕ). x % 2 ^ 7 * 8 + y % 2 * 4 + v / 2 ^ 22 % 4) (sym (by_8 v)) (sym (by_4 v))

parts : (v : ℕ) {h d k l : ℕ} → h ≡ field_of v 31 25 → d ≡ field_of v 24 24 → k ≡ field_of v 23 22 → l ≡ field_of v 20 0
    → h * 2 ^ 25 + d * 2 ^ 24 + k * 2 ^ 22 + l * 2 ^ 0 ≡ without_ss v
parts v eh ed ek el =
    rw (eh, ed, ek, el) (scaled (field_of v 31 22) (field_of v 31 25) (field_of v 24 24) (field_of v 23 22) (field_of v 20 0) (upper v))

-- what was taken is a sound word, which is the one that was made
taken : (b : Bool) (x w : ℕ) → cond b (Some x) None ≡ Some w → (b ≡ true) × (x ≡ w)
taken true x w e = (refl, cc e)
taken false x w e = absurd_answer (cc e)

-- BACK AND THERE is the saved word with SS dropped
pub back_and_there : (marks : Marks) (v w : ℕ) → from_spsr marks v ≡ Some w → to_spsr marks w ≡ Some (without_ss v)
unfolding from_spsr to_spsr status_spsr
back_and_there marks v w e =
    let t = taken (sound marks (spsr_status v)) (spsr_status v) w e in
    let m = moved v in
    let same : status_spsr (spsr_status v) ≡ without_ss v =
    parts v m.kept31_25 m.dit21 m.kept23_22 m.low20_0 in
    ap (λ (n : ℕ). cond (sound marks n) (Some (status_spsr n)) None) (sym t.1)
    ∙ ap (λ (b : Bool). cond b (Some (status_spsr (spsr_status v))) None) t.0
    ∙ ap Some same
