-- `state_words::words_of` meets its contract: fourteen stores behind the registers.
-- Assumes nothing.
use mathlib.Core.Path.{◌≡◌, sym, ◌∙◌, ap}
use mathlib.Core.List.{List, ◌++◌}
use Prim.Native.Nat.{ℕ, ◌+◌}
use native.Mathlib.Omega.{arith}
use lib.ListN.{length, drop, length-append, length-drop}
use lib.Seq.{sets, sets-eq, take_at, drop-append-add, drop-drop}
use Rattle.exception.specs.declared.state.Guest.{Guest}
use Rattle.state_words.specs.Words.{after_registers, words_of}
use Rattle.state_words.proofs.words_of.Goals as goal

stored : (w : List ℕ) (s : Guest) (front : List ℕ) → length w ≡ 48 → length s.regs ≡ 31 → front ≡ s.regs ++ drop 31 w
    → sets front 31 (after_registers s) ≡ words_of w s
stored w s front l r e =
    let all : length (s.regs ++ drop 31 w) ≡ 48 = simp (length-append, length-drop) (omega arith) in
    ap (λ (f : List ℕ). sets f 31 (after_registers s)) e
    ∙ sets-eq (after_registers s) (s.regs ++ drop 31 w) 31 (omega arith)
    ∙ ap (λ (f : List ℕ). f ++ after_registers s ++ drop 45 (s.regs ++ drop 31 w)) (take_at s.regs (drop 31 w) 31 r)
    ∙ ap (λ (f : List ℕ). s.regs ++ after_registers s ++ f) (past ∙ drop-drop 14 31 w)
  where
    past : drop 45 (s.regs ++ drop 31 w) ≡ drop 14 (drop 31 w)
    past = ap (λ (k : ℕ). drop (k + 14) (s.regs ++ drop 31 w)) (sym r) ∙ drop-append-add s.regs (drop 31 w) 14

pub returns : goal.returns
returns c =
    let a = c.args in
    stored a.words a.state c.with_registers-after.result (omega arith) c.with_registers-after.ensures.0
    c.with_registers-after.ensures.1
