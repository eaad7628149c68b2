-- What code says of a word and of a trap, from the word's bits, is what is said of its record.
-- Assumes nothing.
use mathlib.Core.Path.{◌≡◌, refl, sym, ap, ◌∙◌}
use mathlib.Core.Bool.{true, false}
use mathlib.Core.List.{List, ◌++◌}
use Prim.Native.Nat.{ℕ}
use Rattle.bits.proofs.Arms.{absurd_answer}
use Rattle.registers.specs.declared.Far.{Far}
use Rattle.registers.specs.declared.Hpfar.{Hpfar}
use Rattle.edition.specs.declared.Refusal.{Refusal}
use Rattle.edition.specs.declared.Refusal.TheVariants.{UnknownEdition, UpperHalf, UnknownClass, ShortInstruction, NoEdition}
use Rattle.edition.specs.declared.Refusal.TheVariants.{OtherEditions}
use Rattle.layout.specs.Fields.{record_word}
use Rattle.layout.proofs.RoundTrip.{record_back}
use Rattle.record.specs.Split.{record_at}
use Rattle.record.specs.declared.origin.Origin.{Origin}
use Rattle.registers.specs.declared.Esr.{Esr}
use Rattle.record.specs.declared.kinds.Record.{Record}
use Rattle.record_text.specs.Text.{record_text}
use Rattle.record_text.specs.Inner.{word_text}
use Rattle.record_text.proofs.Record.{word_said_lem}
use Rattle.refusal_text.specs.Refusal.{refusal_text}
use Rattle.rule.specs.Has.{has}
use Rattle.rule.proofs.Having.{has_own, has_fits}
use Rattle.syndrome.specs.Reading.{read_of}
use Rattle.syndrome.proofs.Demand2.{read_exactly, has_word_exactly}
use Rattle.syndrome.proofs.Refusals.{read_six_exactly}
use Rattle.text.specs.Ascii.{ascii}
use Rattle.trap.specs.Answer.{answer_read, answer_of}
use Rattle.trap.specs.Trap.{record_in}
use Rattle.trap_refusal.specs.declared.TrapRefusal.{TrapRefusal}
use Rattle.trap.proofs.Shown.{shown_exactly, shown_holds, refused_alike}
use Rattle.explain_text.specs.Word.{refused_text, read_text}
use Rattle.explain_text.specs.Trap.{addresses_text, hpfar_text, answer_text}
use Rattle.explain_text.specs.Inner.{refused_lines, read_lines, answer_lines}
use Rattle.trap.specs.declared.Trap.{Trap}
use Rattle.std.specs.Prelude.{Result, Ok, Err}

-- the origin of the traps that are told of: AArch32
abbrev o : Origin
o = Origin.AArch32

had_said : (e : ℕ) (r : Record) → has o e r ≡ true → word_text (record_word r) ≡ record_text r
had_said e r h = word_said_lem r (has_own o e r h) (has_fits o e r h)

module _ (e : ℕ) (esr : Esr) where
  -- a word that some edition has
  word_of_record : (x : ℕ) (r : Record) → has o x r ≡ true → record_word r ≡ esr.0 → word_text esr.0 ≡ record_text (record_at esr.0)
  word_of_record x r h same =
      ap word_text (sym same) ∙ had_said x r h
      ∙ ap record_text (sym (record_back r (has_own o x r h) (has_fits o x r h)) ∙ ap record_at same)

  taken_said : (r : Record) → read_of o e esr ≡ Ok r → word_text esr.0 ≡ record_text r
  taken_said r is =
      let x = (read_exactly o e esr r).0 is in
      ap word_text (sym x.1) ∙ had_said e r x.0

  -- a word that other editions have
  six_said : (mask count : ℕ) → read_of o e esr ≡ Err (OtherEditions mask count)
      → word_text esr.0 ≡ record_text (record_at esr.0)
  six_said mask count is =
      let some = ((read_six_exactly o e esr mask count).0 is).0.2 in
      let found = (has_word_exactly o some.0 esr.0).0 some.2 in
      word_of_record some.0 found.0 found.1 found.2

  refused_said : (refusal : Refusal) → read_of o e esr ≡ Err refusal → refused_lines esr.0 refusal ≡ refused_text esr.0 refusal
  refused_said UnknownEdition is = refl
  refused_said UpperHalf is = refl
  refused_said UnknownClass is = refl
  refused_said ShortInstruction is = refl
  refused_said NoEdition is = refl
  refused_said (OtherEditions mask count) is =
      ap (λ (rest : List ℕ). refusal_text false (OtherEditions mask count) ++ rest) (six_said mask count is)

  pub read_said_lem : (a : Result Record Refusal) → read_of o e esr ≡ a → read_lines esr.0 a ≡ read_text esr.0 a
  read_said_lem (Ok r) is = ap (λ (rest : List ℕ). ascii "taken\n" ++ rest) (taken_said r is)
  read_said_lem (Err refusal) is = refused_said refusal is

  module _ (far : Far) (hpfar : Hpfar) where
    -- a trap that a register refuses: its syndrome is taken
    register_said : (refusal : TrapRefusal) → ((f : Refusal) → ◌≡◌ {A = Result Trap TrapRefusal} (Err (TrapRefusal.Syndrome f)) (Err refusal) → ⊥)
        → answer_of o e esr far hpfar ≡ Err refusal → word_text esr.0 ≡ record_text (record_at esr.0)
    unfolding answer_of
    register_said refusal register is = by (read_of o e esr) refl is
      where
        by : (a : Result Record Refusal) → read_of o e esr ≡ a → answer_read o e a far hpfar ≡ Err refusal
            → word_text esr.0 ≡ record_text (record_at esr.0)
        by (Ok r) read told =
            let x = (read_exactly o e esr r).0 read in
            word_of_record e r x.0 x.1
        by (Err f) read told = absurd (register f told)

    pub answer_said_lem : (a : Result Trap TrapRefusal) → answer_of o e esr far hpfar ≡ a → answer_lines e esr.0 a ≡ answer_text e esr.0 a
    answer_said_lem (Ok t) is =
        let x = (shown_exactly o e esr far hpfar t).0 is in
        let same : record_in t ≡ x.syndrome = (shown_holds o e esr far hpfar t x.syndrome is x.taken).0 in
        ap (λ (fields : List ℕ). ascii "taken\n" ++ fields ++ addresses_text t)
        (taken_said x.syndrome x.taken ∙ ap record_text (sym same))
    answer_said_lem (Err (TrapRefusal.Syndrome refusal)) is = refused_said refusal ((refused_alike o e esr far hpfar refusal).0 is)
    answer_said_lem (Err TrapRefusal.Hpfar) is =
        ap (λ (fields : List ℕ). hpfar_text e ++ fields) (register_said TrapRefusal.Hpfar (λ f same. absurd_answer (cc same)) is)
    answer_said_lem (Err TrapRefusal.Far) is =
        ap (λ (fields : List ℕ). ascii "refused 8: bits 63:32 of FAR are not zero\n" ++ fields)
        (register_said TrapRefusal.Far (λ f same. absurd_answer (cc same)) is)
