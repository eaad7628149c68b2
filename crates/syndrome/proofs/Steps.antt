-- Reading and writing, one test after the other, as the code makes them.
-- Assumes nothing.
use mathlib.Core.Path.{◌≡◌, ap}
use mathlib.Core.Bool.{true, false}
use Prim.Native.Nat.{ℕ}
use borrow.Author.Tests.{ltb-true}
use Rattle.std.specs.Prelude.{Result, Ok, Err}
use Rattle.bits.specs.Inner.{joined_from}
use Rattle.edition.specs.Feature.{editions, is_edition}
use Rattle.edition.specs.Mask.{mask_of}
use Rattle.edition.specs.Judge.{judge_of}
use Rattle.edition.specs.declared.Refusal.{Refusal}
use Rattle.edition.specs.declared.Refusal.TheVariants.{UnknownEdition, UpperHalf, UnknownClass, ShortInstruction, NoEdition}
use Rattle.edition.proofs.Judgement.{judge_taken}
use Rattle.form.specs.Call.{call_of}
use Rattle.form.specs.Form as Form
use Rattle.form.proofs.Shows.{own_shows, again_given, again_refused, carried_given, carried_refused}
use Rattle.form.proofs.Verdicts.{verdict_of, call_verdict}
use Rattle.layout.specs.Fields.{fields_of, record_word}
use Rattle.record.specs.Split.{record_at}
use Rattle.record.specs.declared.origin.Origin.{Origin}
use Rattle.registers.specs.declared.Esr.{Esr}
use Rattle.record.specs.declared.kinds.Record.{Record}
use Rattle.layout.proofs.RoundTrip.{joined_record}
use Rattle.rule.specs.Has.{record_class, record_il, has, editions_of}
use Rattle.rule.proofs.Having.{has_fits}
use Rattle.syndrome.specs.Inner.{makes}
use Rattle.syndrome.specs.Tests.{upper_clear, class_known, word_il, read_tests, write_tests}
use Rattle.syndrome.specs.Form.{long_form}
use Rattle.syndrome.specs.Answer.{as_written}
use Rattle.syndrome.specs.Reading.{has_word, read_of}
use Rattle.syndrome.specs.Writing.{write_of}
use Rattle.syndrome.specs.Carry.{rewritten_of, carried_of}
use Rattle.syndrome.proofs.Instance.{written_shows}

-- what a verdict makes of a word
abbrev pub write_verdict : ℕ → Result Unit Refusal → Result Esr Refusal
write_verdict w v = as_written (verdict_of w v)

module _ (o : Origin) where
  module _ (e : ℕ) (esr : Esr) where
    pub read_unknown : is_edition e ≡ false → read_of o e esr ≡ Err UnknownEdition
    unfolding read_of call_of
    read_unknown k = simp k

    module _ (k : is_edition e ≡ true) where
      pub read_upper : upper_clear esr.0 ≡ false → read_of o e esr ≡ Err UpperHalf
      unfolding read_of call_of
      read_upper u = simp (k, u)

      module _ (u : upper_clear esr.0 ≡ true) where
        pub read_class : class_known o esr.0 ≡ false → read_of o e esr ≡ Err UnknownClass
        unfolding read_of call_of
        read_class c = simp (k, u, c)

        module _ (c : class_known o esr.0 ≡ true) where
          pub read_short : word_il o esr.0 ≡ false → read_of o e esr ≡ Err ShortInstruction
          unfolding read_of call_of
          read_short l = simp (k, u, c, l)

          pub read_judged : word_il o esr.0 ≡ true
              → read_of o e esr ≡ verdict_of (record_at esr.0) (judge_of e (mask_of (λ x. makes o x (record_at esr.0) esr.0)))
          unfolding read_of Form.has_word mask_of
          read_judged l =
              call_verdict editions (λ x. has_word o x esr.0) (read_tests o esr.0) e (record_at esr.0) k (u, (c, (l, tt)))

  module _ (e : ℕ) (r : Record) where
    pub write_unknown : is_edition e ≡ false → write_of o e r ≡ Err UnknownEdition
    unfolding write_of call_of
    write_unknown k = simp k

    module _ (k : is_edition e ≡ true) where
      pub write_class : record_class o r ≡ false → write_of o e r ≡ Err NoEdition
      unfolding write_of call_of
      write_class w = simp (k, w)

      module _ (w : record_class o r ≡ true) where
        pub write_short : record_il o r ≡ false → write_of o e r ≡ Err ShortInstruction
        unfolding write_of call_of
        write_short l = simp (k, w, l)

        pub write_judged : record_il o r ≡ true → write_of o e r ≡ write_verdict (record_word r) (judge_of e (editions_of o r))
        unfolding write_of mask_of
        write_judged l =
            ap as_written (call_verdict editions (λ x. has o x r) (write_tests o r) e (record_word r) k (w, (l, tt)))

  -- a record that an edition takes is put together into its word
  pub joined_taken : (e : ℕ) (r : Record) → is_edition e ≡ true → judge_of e (editions_of o r) ≡ Ok (tt {0})
      → joined_from 0 (fields_of r) ≡ record_word r
  unfolding mask_of
  joined_taken e r k t = joined_record r (has_fits o e r (judge_taken editions (λ x. has o x r) e (ltb-true e editions k) t))

  -- a word that is rewritten, by what reading answered, and a record that is carried, by what writing did
  module _ (e : ℕ) (esr : Esr) where
    pub rewritten_taken : (r : Record) → read_of o e esr ≡ Ok r → rewritten_of o e esr ≡ Ok esr
    unfolding read_of rewritten_of
    rewritten_taken = again_given own_shows as_written esr.0 (Form.read_as (long_form o) e esr.0)

    pub rewritten_refused : (refusal : Refusal) → read_of o e esr ≡ Err refusal → rewritten_of o e esr ≡ Err refusal
    unfolding read_of rewritten_of
    rewritten_refused = again_refused own_shows as_written esr.0 (Form.read_as (long_form o) e esr.0)

  module _ (writer reader : ℕ) (r : Record) where
    pub carried_word : (esr : Esr) → write_of o writer r ≡ Ok esr
        → carried_of o writer reader r ≡ Ok (Form.read_back (long_form o) reader r)
    unfolding write_of carried_of
    carried_word esr = carried_given written_shows Err Ok (long_form o) reader r (Form.write_as (long_form o) writer r)
        esr.0

    pub carried_unwritten : (refusal : Refusal) → write_of o writer r ≡ Err refusal
        → carried_of o writer reader r ≡ Err refusal
    unfolding write_of carried_of
    carried_unwritten = carried_refused written_shows Err Ok (long_form o) reader r (Form.write_as (long_form o) writer r)
