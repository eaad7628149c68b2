-- What code says of a short word, from the word's bits, is what is said of its record; and refusal 6 by the feature's name.
-- Assumes nothing.
use mathlib.Core.Path.{◌≡◌, refl, sym, ap, ◌∙◌}
use mathlib.Core.Bool.{Bool, true, false, ◌||◌, true≢false}
use mathlib.Core.List.{List, ◌++◌}
use mathlib.Core.Logic.{⊎_elim}
use Prim.Native.Nat.{ℕ, ◌+◌, ◌*◌, ◌^◌}
use borrow.Author.Tests.{eqb-true}
use lib.Dec.{T, eqb}
use Rattle.bits.specs.Field.{digit}
use Rattle.bits.proofs.Booleans.{is_true, either}
use Rattle.edition.specs.Mask.{mask_below}
use Rattle.edition.specs.declared.Refusal.{Refusal}
use Rattle.edition.specs.declared.Refusal.TheVariants.{UnknownEdition, UpperHalf, UnknownClass, ShortInstruction, NoEdition}
use Rattle.edition.specs.declared.Refusal.TheVariants.{OtherEditions}
use Rattle.edition.proofs.Masks.{mask_zero}
use Rattle.refusal_text.specs.Feature.{fits, asked_by}
use Rattle.refusal_text.specs.Refusal.{refusal_text}
use Rattle.short.specs.Reading.{has_word, read_of}
use Rattle.short.proofs.Demand2.{read_exactly, has_word_exactly}
use Rattle.short.proofs.Refusals.{read_six_exactly}
use Rattle.short_layout.specs.Fields.{record_word}
use Rattle.short_layout.proofs.RoundTrip.{record_back}
use Rattle.short_record.specs.Split.{record_at}
use Rattle.registers.specs.declared.Hsr.{Hsr}
use Rattle.short_record.specs.declared.kinds.Record.{Record}
use Rattle.short_rule.specs.Edition.{mask_of}
use Rattle.short_rule.specs.Has.{has}
use Rattle.short_rule.proofs.Having.{has_own, has_fits}
use Rattle.text.specs.Ascii.{ascii}
use Rattle.short_text.specs.Text.{record_text}
use Rattle.short_text.specs.Inner.{word_text, others_lines, read_lines}
use Rattle.short_text.specs.Said.{others_text, read_text}
use Rattle.short_text.proofs.Record.{word_said_lem}
use Rattle.std.specs.Prelude.{Result, Ok, Err}

had_said : (e : ℕ) (r : Record) → has e r ≡ true → word_text (record_word r) ≡ record_text r
had_said e r h = word_said_lem r (has_own e r h) (has_fits e r h)

-- the features that are named fit exactly the mask's editions, or no edition is in it
abbrev told : ℕ → Bool
told mask = eqb mask 0 || eqb (mask_below 2 (fits (asked_by true mask))) mask

both_told : (first second : Bool) → T (told (digit second * 2 ^ 1 + (digit first * 2 ^ 0 + 0)))
both_told true true = tt
both_told true false = tt
both_told false true = tt
both_told false false = tt

module _ (e : ℕ) (hsr : Hsr) where
  taken_said : (r : Record) → read_of e hsr ≡ Ok r → word_text hsr.0 ≡ record_text r
  taken_said r is =
      let x = (read_exactly e hsr r).0 is in
      ap word_text (sym x.1) ∙ had_said e r x.0

  six_said : (mask count : ℕ) → read_of e hsr ≡ Err (OtherEditions mask count) → word_text hsr.0 ≡ record_text (record_at hsr.0)
  six_said mask count is =
      let some = ((read_six_exactly e hsr mask count).0 is).0.2 in
      let found = (has_word_exactly some.0 hsr.0).0 some.2 in
      let r = found.0 in
      ap word_text (sym found.2) ∙ had_said some.0 r found.1
      ∙ ap record_text (sym (record_back r (has_own some.0 r found.1) (has_fits some.0 r found.1)) ∙ ap record_at found.2)

  others_said : (refusal : Refusal) → read_of e hsr ≡ Err refusal → others_lines hsr.0 refusal ≡ others_text hsr.0 refusal
  others_said UnknownEdition is = refl
  others_said UpperHalf is = refl
  others_said UnknownClass is = refl
  others_said ShortInstruction is = refl
  others_said NoEdition is = refl
  others_said (OtherEditions mask count) is = six_said mask count is

  pub read_said_lem : (a : Result Record Refusal) → read_of e hsr ≡ a → read_lines hsr.0 a ≡ read_text hsr.0 a
  read_said_lem (Ok r) is = ap (λ (rest : List ℕ). ascii "taken\n" ++ rest) (taken_said r is)
  read_said_lem (Err refusal) is = ap (λ (rest : List ℕ). refusal_text true refusal ++ rest) (others_said refusal is)

  -- WITH REFUSAL 6 the editions that fit the feature that is named are exactly the mask's
  pub named_exactly : (mask count : ℕ) → read_of e hsr ≡ Err (OtherEditions mask count) → mask_of (fits (asked_by true mask)) ≡ mask
  unfolding mask_of
  named_exactly mask count refused =
      let six = (read_six_exactly e hsr mask count).0 refused in
      let some = six.0.2 in
      let is : mask ≡ mask_below 2 (λ x. has_word x hsr.0) = six.1 in
      ⊎_elim
      (λ none. absurd (true≢false
      (sym some.2 ∙ mask_zero 2 (λ x. has_word x hsr.0) (sym is ∙ eqb-true mask 0 none) some.0 some.1)))
      (λ same. eqb-true (mask_below 2 (fits (asked_by true mask))) mask same)
      (either (eqb mask 0) (eqb (mask_below 2 (fits (asked_by true mask))) mask)
      (is_true (told mask) (rw is (both_told (has_word 0 hsr.0) (has_word 1 hsr.0)))))
