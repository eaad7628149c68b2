-- The record at a word's bits makes the word exactly where the bits that hold none of its values are as its layout has them.
-- Assumes nothing.
use mathlib.Core.Path.{◌≡◌, refl, ◌∙◌, sym, ap}
use mathlib.Core.Bool.{Bool, true, false, cond}
use mathlib.Core.List.{List, [], ◌∷◌}
use Prim.Native.Nat.{ℕ, ◌+◌, ◌^◌, ◌<◌}
use native.Mathlib.Nat.{add-zero}
use native.Mathlib.Omega.{arith}
use borrow.Author.Tests.{eqb-true}
use lib.Bits.{bit_and}
use lib.Dec.{T, eqb}
use Rattle.bits.specs.Among.{among}
use Rattle.bits.specs.Field.{field_of}
use Rattle.bits.specs.Layout.{Field, flag_at, word_of, ordered}
use Rattle.bits.proofs.Fields.{AllBack, flag_at_lem}
use Rattle.bits.proofs.Unnamed.{unnamed, rest_exactly}
use Rattle.record.specs.Class.{mcr_classes, mcrr_classes, call_classes, debug_classes}
use Rattle.record.specs.Split.{wfx_at, mcr_at, mcrr_at, ldc_at, simd_at, call_at, smc_at, instruction_abort_at, data_abort_at, debug_at}
use Rattle.record.specs.Split.{step_at, watchpoint_at, serror_at, system_at, record_of, record_at}
use Rattle.record.specs.declared.kinds.Record.{Record}
use Rattle.layout.specs.Fields.{head, debug_code, fields_of, record_word}

-- the fields that hold values of a record: all but the fault code that every debug exception has
abbrev pub held_of : Record → List Field
held_of (Record.Plain r) = fields_of (Record.Plain r)
held_of (Record.Wfx r) = fields_of (Record.Wfx r)
held_of (Record.Mcr r) = fields_of (Record.Mcr r)
held_of (Record.Mcrr r) = fields_of (Record.Mcrr r)
held_of (Record.Ldc r) = fields_of (Record.Ldc r)
held_of (Record.Simd r) = fields_of (Record.Simd r)
held_of (Record.Call r) = fields_of (Record.Call r)
held_of (Record.Smc r) = fields_of (Record.Smc r)
held_of (Record.InstructionAbort r) = fields_of (Record.InstructionAbort r)
held_of (Record.DataAbort r) = fields_of (Record.DataAbort r)
held_of (Record.Debug r) = head r.class r.il []
held_of (Record.Step r) = head 0x32 r.il (flag_at 24 r.isv ∷ flag_at 6 r.ex ∷ [])
held_of (Record.Watchpoint r) = head 0x34 r.il (flag_at 8 r.cm ∷ flag_at 6 r.wnr ∷ [])
held_of (Record.SError r) = fields_of (Record.SError r)
held_of (Record.System r) = fields_of (Record.System r)

-- that code, and 0 of other records
abbrev pub code_of : Record → ℕ
code_of (Record.Plain r) = 0
code_of (Record.Wfx r) = 0
code_of (Record.Mcr r) = 0
code_of (Record.Mcrr r) = 0
code_of (Record.Ldc r) = 0
code_of (Record.Simd r) = 0
code_of (Record.Call r) = 0
code_of (Record.Smc r) = 0
code_of (Record.InstructionAbort r) = 0
code_of (Record.DataAbort r) = 0
code_of (Record.Debug r) = debug_code
code_of (Record.Step r) = debug_code
code_of (Record.Watchpoint r) = debug_code
code_of (Record.SError r) = 0
code_of (Record.System r) = 0

-- the fields are in order, and with the code they make the record's word
abbrev Parted : Record → Type 0
Parted r = T (ordered 64 (held_of r)) × (word_of (held_of r) + code_of r ≡ record_word r)

parted : (r : Record) → Parted r
parted (Record.Plain r) = (tt, add-zero _)
parted (Record.Wfx r) = (tt, add-zero _)
parted (Record.Mcr r) = (tt, add-zero _)
parted (Record.Mcrr r) = (tt, add-zero _)
parted (Record.Ldc r) = (tt, add-zero _)
parted (Record.Simd r) = (tt, add-zero _)
parted (Record.Call r) = (tt, add-zero _)
parted (Record.Smc r) = (tt, add-zero _)
parted (Record.InstructionAbort r) = (tt, add-zero _)
parted (Record.DataAbort r) = (tt, add-zero _)
parted (Record.Debug r) = (tt, omega arith)
parted (Record.Step r) = (tt, omega arith)
parted (Record.Watchpoint r) = (tt, omega arith)
parted (Record.SError r) = (tt, add-zero _)
parted (Record.System r) = (tt, add-zero _)

module _ (w : ℕ) where
  abbrev Held : Record → Type 0
  Held r = AllBack w (held_of r)

  pick : (b : Bool) (x y : Record) → (b ≡ true → Held x) → Held y → Held (cond b x y)
  pick true x y h k = h refl
  pick false x y h k = k

  -- the record at a word's bits holds what stands there
  held_of_lem : (c : ℕ) → field_of w 31 26 ≡ c → Held (record_of c w)
  unfolding record_of
  held_of_lem c is =
      let bit = flag_at_lem w in
      let only : (k : ℕ) → eqb c k ≡ true → field_of w 31 26 ≡ k = λ k e. is ∙ eqb-true c k e in
      pick (eqb c 0x01) (Record.Wfx (wfx_at w)) _ (λ e. (only 0x01 e, (bit 25, (bit 24, (refl, (bit 0, tt))))))
      (pick (among mcr_classes c) (Record.Mcr (mcr_at c w)) _
      (λ e. (is, (bit 25, (bit 24, (refl, (refl, (refl, (refl, (refl, (refl, (bit 0, tt)))))))))))
      (pick (among mcrr_classes c) (Record.Mcrr (mcrr_at c w)) _
      (λ e. (is, (bit 25, (bit 24, (refl, (refl, (refl, (refl, (refl, (bit 0, tt))))))))))
      (pick (eqb c 0x06) (Record.Ldc (ldc_at w)) _
      (λ e. (only 0x06 e, (bit 25, (bit 24, (refl, (refl, (refl, (bit 4, (refl, (bit 0, tt))))))))))
      (pick (eqb c 0x07) (Record.Simd (simd_at w)) _ (λ e. (only 0x07 e, (bit 25, (bit 24, (refl, tt)))))
      (pick (among call_classes c) (Record.Call (call_at c w)) _ (λ e. (is, (bit 25, (refl, tt))))
      (pick (eqb c 0x13) (Record.Smc (smc_at w)) _ (λ e. (only 0x13 e, (bit 25, (bit 24, (refl, (bit 19, tt))))))
      (pick (eqb c 0x20) (Record.InstructionAbort (instruction_abort_at w)) _
      (λ e. (only 0x20 e, (bit 25, (refl, (bit 10, (bit 9, (bit 7, (refl, tt))))))))
      (pick (eqb c 0x24) (Record.DataAbort (data_abort_at w)) _
      (λ e. (
        only 0x24 e,
        (
          bit 25,
          (
            bit 24,
            (
              refl,
              (
                bit 21,
                (
                  refl,
                  (
                    bit 15,
                    (
                      bit 14,
                      (
                        refl,
                        (
                          bit 10,
                          (
                            bit 9,
                            (
                              bit 8,
                              (
                                bit 7,
                                (
                                  bit 6,
                                  (refl, tt),
                                ),
                              ),
                            ),
                          ),
                        ),
                      ),
                    ),
                  ),
                ),
              ),
            ),
          ),
        ),
      ))
      (pick (among debug_classes c) (Record.Debug (debug_at c w)) _ (λ e. (is, (bit 25, tt)))
      (pick (eqb c 0x32) (Record.Step (step_at w)) _ (λ e. (only 0x32 e, (bit 25, (bit 24, (bit 6, tt)))))
      (pick (eqb c 0x34) (Record.Watchpoint (watchpoint_at w)) _ (λ e. (only 0x34 e, (bit 25, (bit 8, (bit 6, tt)))))
      (pick (eqb c 0x2F) (Record.SError (serror_at w)) _ (λ e. (only 0x2F e, (bit 25, (refl, (bit 9, (refl, tt))))))
      (pick (eqb c 0x18) (Record.System (system_at w)) _
      (λ e. (only 0x18 e, (bit 25, (refl, (refl, (refl, (refl, (refl, (refl, (bit 0, tt))))))))))
      (is, (bit 25, tt)))))))))))))))

  -- THE WHOLE WORD, of a record that was found to be of a kind
  pub whole_exactly : w < 2 ^ 64 → {r kind : Record} → r ≡ record_at w → r ≡ kind
      → eqb (bit_and w (unnamed 64 (held_of kind))) (code_of kind) ≡ eqb (record_word r) w
  whole_exactly fits {r} {kind} at is =
      let held : Held kind = rw (← is, at) (held_of_lem (field_of w 31 26) refl) in
      rest_exactly w 64 (held_of kind) (code_of kind) fits (parted kind).0 held
      ∙ ap (λ (x : ℕ). eqb x w) (parted kind).1 ∙ ap (λ (x : Record). eqb (record_word x) w) (sym is)
