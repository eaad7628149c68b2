-- Reading and writing, one test after the other, as the code makes them.
-- Assumes nothing.
use mathlib.Core.Path.{◌≡◌, sym, ap, subst}
use mathlib.Core.Bool.{true, false, cond}
use Prim.Native.Nat.{ℕ, ◌^◌, ◌<◌}
use borrow.Author.Tests.{ltb-true}
use lib.Dec.{T, eqb}
use Rattle.std.specs.Prelude.{Result, Ok, Err}
use Rattle.bits.specs.Inner.{joined_from}
use Rattle.bits.specs.Layout.{fitting}
use Rattle.short_rule.specs.Edition.{editions, is_edition, mask_of}
use Rattle.edition.specs.Judge.{judge_of}
use Rattle.edition.specs.declared.Refusal.{Refusal}
use Rattle.edition.specs.declared.Refusal.TheVariants.{UnknownEdition, UnknownClass, ShortInstruction, NoEdition}
use Rattle.edition.proofs.Judgement.{judge_taken}
use Rattle.form.specs.Call.{call_of}
use Rattle.form.specs.Form as Form
use Rattle.form.proofs.Shows.{own_shows, again_given, again_refused, carried_given, carried_refused}
use Rattle.form.proofs.Verdicts.{made_mask, verdict_of, call_verdict}
use Rattle.short_record.specs.Class.{head_of}
use Rattle.short_layout.specs.Fields.{fields_of, record_word}
use Rattle.short_record.specs.Split.{record_at}
use Rattle.registers.specs.declared.Hsr.{Hsr}
use Rattle.short_record.specs.declared.kinds.Record.{Record}
use Rattle.short_layout.proofs.RoundTrip.{word_fits, joined_record}
use Rattle.short_rule.specs.Has.{has, record_il, editions_of}
use Rattle.short_rule.proofs.Having.{has_fits}
use Rattle.short.specs.Inner.{makes}
use Rattle.short.specs.Tests.{class_known, word_il, read_tests, write_tests}
use Rattle.short.specs.Form.{short_form}
use Rattle.short.specs.Answer.{as_written}
use Rattle.short.specs.Reading.{has_word, read_of}
use Rattle.short.specs.Writing.{write_of}
use Rattle.short.specs.Carry.{rewritten_of, carried_of}
use Rattle.short.proofs.Instance.{written_shows}

-- what a verdict makes of a word
abbrev pub write_verdict : ℕ → Result Unit Refusal → Result Hsr Refusal
write_verdict w v = as_written (verdict_of w v)

module _ (e : ℕ) (hsr : Hsr) where
  pub read_unknown : is_edition e ≡ false → read_of e hsr ≡ Err UnknownEdition
  unfolding read_of call_of
  read_unknown k = simp k

  module _ (k : is_edition e ≡ true) where
    pub read_class : class_known hsr.0 ≡ false → read_of e hsr ≡ Err UnknownClass
    unfolding read_of call_of
    read_class c = simp (k, c)

    module _ (c : class_known hsr.0 ≡ true) where
      pub read_short : word_il hsr.0 ≡ false → read_of e hsr ≡ Err ShortInstruction
      unfolding read_of call_of
      read_short l = simp (k, c, l)

      pub read_judged : word_il hsr.0 ≡ true
          → read_of e hsr ≡ verdict_of (record_at hsr.0) (judge_of e (mask_of (λ x. makes x (record_at hsr.0) hsr.0)))
      unfolding read_of Form.has_word mask_of
      read_judged l =
          call_verdict editions (λ x. has_word x hsr.0) (read_tests hsr.0) e (record_at hsr.0) k (c, (l, tt))

module _ (e : ℕ) (r : Record) where
  pub write_unknown : is_edition e ≡ false → write_of e r ≡ Err UnknownEdition
  unfolding write_of call_of
  write_unknown k = simp k

  module _ (k : is_edition e ≡ true) where
    pub write_class : (head_of r).own ≡ false → write_of e r ≡ Err NoEdition
    unfolding write_of call_of
    write_class o = simp (k, o)

    module _ (o : (head_of r).own ≡ true) where
      pub write_short : record_il r ≡ false → write_of e r ≡ Err ShortInstruction
      unfolding write_of call_of
      write_short l = simp (k, o, l)

      pub write_judged : record_il r ≡ true → write_of e r ≡ write_verdict (record_word r) (judge_of e (editions_of r))
      unfolding write_of mask_of
      write_judged l =
          ap as_written (call_verdict editions (λ x. has x r) (write_tests r) e (record_word r) k (o, (l, tt)))

-- the editions that have a record which makes the word, by the word that is put together
pub makes_mask : (r : Record) (w : ℕ) → cond (eqb (joined_from 0 (fields_of r)) w) (editions_of r) 0 ≡ mask_of (λ e. makes e r w)
unfolding mask_of
makes_mask r w = made_mask editions (λ e. has e r) (joined_from 0 (fields_of r)) (record_word r) w (λ e h. joined_record r (has_fits e r h))

-- a record that an edition takes is put together into its word, which has 32 bits
module _ (e : ℕ) (r : Record) (k : is_edition e ≡ true) (t : judge_of e (editions_of r) ≡ Ok (tt {0})) where
  fits : T (fitting (fields_of r))
  unfolding mask_of
  fits = has_fits e r (judge_taken editions (λ x. has x r) e (ltb-true e editions k) t)

  pub joined_taken : joined_from 0 (fields_of r) ≡ record_word r
  joined_taken = joined_record r fits

  pub joined_below : joined_from 0 (fields_of r) < 2 ^ 32
  joined_below = subst (λ (w : ℕ). w < 2 ^ 32) (sym joined_taken) (word_fits r fits)

-- a word that is rewritten, by what reading answered, and a record that is carried, by what writing did
module _ (e : ℕ) (hsr : Hsr) where
  pub rewritten_taken : (r : Record) → read_of e hsr ≡ Ok r → rewritten_of e hsr ≡ Ok hsr
  unfolding read_of rewritten_of
  rewritten_taken = again_given own_shows as_written hsr.0 (Form.read_as short_form e hsr.0)

  pub rewritten_refused : (refusal : Refusal) → read_of e hsr ≡ Err refusal → rewritten_of e hsr ≡ Err refusal
  unfolding read_of rewritten_of
  rewritten_refused = again_refused own_shows as_written hsr.0 (Form.read_as short_form e hsr.0)

module _ (writer reader : ℕ) (r : Record) where
  pub carried_word : (hsr : Hsr) → write_of writer r ≡ Ok hsr
      → carried_of writer reader r ≡ Ok (Form.read_back short_form reader r)
  unfolding write_of carried_of
  carried_word hsr = carried_given written_shows Err Ok short_form reader r (Form.write_as short_form writer r) hsr.0

  pub carried_unwritten : (refusal : Refusal) → write_of writer r ≡ Err refusal
      → carried_of writer reader r ≡ Err refusal
  unfolding write_of carried_of
  carried_unwritten = carried_refused written_shows Err Ok short_form reader r (Form.write_as short_form writer r)
