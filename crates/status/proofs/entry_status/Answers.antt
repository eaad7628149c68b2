-- `status::entry_status` meets its contract: each mask is a field in its place, and joined from the top down the fields add up.
use mathlib.Core.Path.{◌≡◌, refl}
use mathlib.Core.Bool.{Bool}
use Prim.Native.Nat.{ℕ, ◌*◌, ◌/◌, ◌%◌, ◌^◌}
use native.Mathlib.Omega.{arith}
use lib.Bits.{bit_and, bit_or, and_high}
use Rattle.status.specs.declared.Marks.{Marks}
use Rattle.status.specs.declared.Mode.{Mode}
use Rattle.status.specs.Mode.{mode_number}
use Rattle.status.specs.Base.{entry_a}
use Rattle.status.specs.Entry.{entry_f, entry_pan, entry_ssbs, entry_status}
use Rattle.status.proofs.Masks.{or_next}
use Rattle.status.proofs.Fields.{a_bit, f_bit, pan_bit, ssbs_bit, mode_bits}
use Rattle.status.proofs.entry_status.Goals as goal

module _ (marks : Marks) (m : Mode) (set_a set-f : Bool) (old sctlr : ℕ) where
  e-bit : bit_and sctlr 0x0200_0000 / 2 ^ 16 ≡ sctlr / 2 ^ 25 % 2 * 2 ^ 9
  e-bit = let e : bit_and sctlr 0x0200_0000 ≡ sctlr / 2 ^ 25 % 2 * 2 ^ 25 = and_high sctlr 1 25 in omega arith

  t-bit : bit_and sctlr 0x4000_0000 / 2 ^ 25 ≡ sctlr / 2 ^ 30 % 2 * 2 ^ 5
  t-bit = let e : bit_and sctlr 0x4000_0000 ≡ sctlr / 2 ^ 30 % 2 * 2 ^ 30 = and_high sctlr 1 30 in omega arith

  -- the code's word, with its five calls' answers
  joined : {s p a f n : ℕ} → s ≡ entry_ssbs marks.ssbs old sctlr * 2 ^ 23 → p ≡ entry_pan marks.pan old sctlr * 2 ^ 22
      → a ≡ entry_a set_a old * 2 ^ 8 → f ≡ entry_f set-f old * 2 ^ 6 → n ≡ mode_number m
      → bit_or (bit_or (bit_or (bit_or (bit_or (bit_or (bit_or
      (bit_or (bit_or (bit_or (bit_or (bit_and old 0xF800_0000) (bit_and old 0x0100_0000)) s) p) (bit_and old 0x0020_0000))
      (bit_and old 0x000F_0000)) (bit_and sctlr 0x0200_0000 / 2 ^ 16)) a) 0x80) f) (bit_and sctlr 0x4000_0000 / 2 ^ 25)) n
      ≡ entry_status marks m set_a set-f old sctlr
  unfolding entry_status
  joined s p a f q =
      let hs = ssbs_bit marks.ssbs old sctlr in
      let hp = pan_bit marks.pan old sctlr in
      let ha = a_bit set_a old in
      let hf = f_bit set-f old in
      let hm = mode_bits m in
      or_next 5
      (or_next 6
      (or_next 7
      (or_next 8
      (or_next 9
      (or_next 16
      (or_next 21
      (or_next 22
      (or_next 23
      (or_next 24
      (or_next 27 (and_high old 5 27) (and_high old 1 24) (omega arith) (omega arith))
      s (omega arith) (omega arith))
      p (omega arith) (omega arith))
      (and_high old 1 21) (omega arith) (omega arith))
      (and_high old 4 16) (omega arith) (omega arith))
      e-bit (omega arith) (omega arith))
      a (omega arith) (omega arith))
      refl (omega arith) (omega arith))
      f (omega arith) (omega arith))
      t-bit (omega arith) (omega arith))
      q (omega arith) (omega arith)

pub returns : goal.returns
returns c =
    joined c.args.marks _ _ _ _ _ c.entry_ssbs.ensures c.entry_pan.ensures c.set_or_kept.ensures c.set_or_kept-2.ensures c.mode_number.ensures
