-- The call's answers, one test after the other, as the code makes them.
-- Assumes nothing.
use mathlib.Core.Path.{◌≡◌, refl, ◌∙◌, sym, ap}
use mathlib.Core.Bool.{true, false}
use mathlib.Core.List.{List, []}
use Rattle.std.specs.Prelude.{Option, Some, None, Result, Ok, Err}
use Prim.Native.Nat.{ℕ}
use Rattle.bits.specs.Field.{field_of}
use Rattle.promise.specs.Promise.{Answers}
use Rattle.promise.proofs.Promises.{by_tests}
use Rattle.status.specs.Sound.{sound}
use Rattle.status.specs.Entry.{t32}
use Rattle.exception.specs.declared.state.Guest.{Guest}
use Rattle.a32_fields.specs.Split.{fields_at}
use Rattle.a32_fields.specs.declared.kinds.Fields.{Fields}
use Rattle.a32_rule.specs.Answer.{is_form, decode_of}
use Rattle.a32_rule.proofs.Forms.{taken_form, refused_form}
use Rattle.a32_access.specs.Transferred.{registers_of, padded}
use Rattle.a32_access.specs.Access.{access_in}
use Rattle.a32.specs.Promise.{access_of, answer_number, describe_numbers, describe_tests, described_answer, registers_in, Describing}
use Rattle.a32_access.specs.declared.access.Access.{Access}
use Rattle.a32.specs.declared.instruction.InstructionRefusal.{InstructionRefusal}
use Rattle.a32.specs.declared.instruction.InstructionRefusal.TheVariants.{UnsoundStatus, T32State, NoForm}

module _ (s : Guest) (w : ℕ) where
  pub answered : {a : Result Access InstructionRefusal} → a ≡ described_answer s w
      → Answers answer_number (described_answer s w) (describe_numbers s w) a
  unfolding described_answer
  answered = by_tests answer_number (describe_tests s w) (Ok (access_of s (fields_at w))) refl refl

  -- the tests, one after the other
  pub first_fails : sound s.marks s.status ≡ false → described_answer s w ≡ Err UnsoundStatus
  unfolding described_answer
  first_fails k = simp k

  module _ (k : sound s.marks s.status ≡ true) where
    pub second_fails : t32 s.status ≡ true → described_answer s w ≡ Err T32State
    unfolding described_answer
    second_fails m = simp (k, m)

    module _ (m : t32 s.status ≡ false) where
      pub third_fails : is_form w ≡ false → described_answer s w ≡ Err NoForm
      unfolding described_answer
      third_fails b = simp (k, m, b)

      pub none_fails : is_form w ≡ true → described_answer s w ≡ Ok (access_of s (fields_at w))
      unfolding described_answer
      none_fails b = simp (k, m, b)

  promised : {a : Result Access InstructionRefusal} {registers : List ℕ} → a ≡ described_answer s w → registers ≡ registers_in a
      → Describing s w (record { answer = a; registers = registers })
  promised same held = record { answered = answered same; registers = held }

  pub unsound : sound s.marks s.status ≡ false → Describing s w (record { answer = Err UnsoundStatus; registers = padded 16 [] })
  unsound k = promised (sym (first_fails k)) refl

  module _ (k : sound s.marks s.status ≡ true) where
    pub thumb : t32 s.status ≡ true → Describing s w (record { answer = Err T32State; registers = padded 16 [] })
    thumb m = promised (sym (second_fails k m)) refl

    module _ (m : t32 s.status ≡ false) where
      pub unformed : {d : Option Fields} → d ≡ decode_of w → d ≡ None
          → Describing s w (record { answer = Err NoForm; registers = padded 16 [] })
      unformed read same = promised (sym (third_fails k m (refused_form w (sym read ∙ same)))) refl

      pub taken : {d : Option Fields} {f : Fields} {regs : List ℕ} {pc mode : ℕ} {a : Access} {registers : List ℕ} → d ≡ decode_of w
          → d ≡ Some f → regs ≡ s.regs → pc ≡ s.pc → mode ≡ field_of s.status 4 0 → a ≡ access_in regs pc mode f
          → registers ≡ padded 16 (registers_of f)
          → Describing s w (record { answer = Ok a; registers = registers })
      taken {f = f} read same r p m4_0 access held =
          let form = taken_form w f (sym read ∙ same) in
          let in_mode = access ∙ (λ i. access_in (r i) (p i) (m4_0 i) f) in
          promised (ap Ok (in_mode ∙ ap (access_of s) (sym form.1)) ∙ sym (none_fails k m form.0))
          (held ∙ sym (ap (λ (b : Access). padded 16 (registers_of b.fields)) in_mode))
