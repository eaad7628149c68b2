-- How long the lines of a log that is cut short can be.
-- Assumes nothing.
use Prim.Native.Nat.{ℕ, ◌≤◌}
use native.Mathlib.Omega.{arith}
use lib.ListN.{length, length-append}
use Rattle.log_text.proofs.Room.{decimal_field_length, hex_field_length}
use Rattle.registers.specs.declared.Esr.{Esr}
use Rattle.log_text.specs.Cut.{syndrome_text, before_text, cut_text}
use Rattle.log_cut.specs.declared.Cut.{Cut}

pub syndrome_length : (esr : Esr) → length (syndrome_text esr) ≤ 128
syndrome_length esr = let n = hex_field_length esr.0 in simp length-append (omega arith)

before_length : (c : Cut) → length (before_text c) ≤ 128
before_length (Cut.Count bytes) = let n = decimal_field_length bytes in simp length-append (omega arith)
before_length (Cut.Entries whole count bytes) =
    let w = decimal_field_length whole in
    let n = decimal_field_length count in
    let b = decimal_field_length bytes in
    simp length-append (omega arith)

pub cut_length : (section : ℕ) (c : Cut) → length (cut_text section c) ≤ 256
cut_length section c =
    let n = decimal_field_length section in
    let b = before_length c in
    simp length-append (omega arith)
