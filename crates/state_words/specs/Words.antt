-- A guest's state as 48 words in the order of document 01 ('Guest state and the five injections'; 02, C-15 for the marks), both ways: the
-- state that words hold, and words with a state in them.
use Rattle.std.specs.Prelude.{ℕ, Bool, not, List, [], ◌∷◌, ◌++◌, eqb, get_or, take, drop}
use Rattle.status.specs.declared.Marks.{Marks}
use Rattle.exception.specs.declared.state.Saved.{Saved}
use Rattle.exception.specs.declared.state.FaultRegisters.{FaultRegisters}
use Rattle.exception.specs.declared.state.Guest.{Guest}

abbrev pub word_in : List ℕ → ℕ → ℕ
word_in w i = get_or w i 0

-- a mark is any word but 0
abbrev pub is_mark : ℕ → Bool
is_mark n = not (eqb n 0)

abbrev pub saved_of : List ℕ → Saved
saved_of w = record { fiq = word_in w 33; irq = word_in w 34; svc = word_in w 35; abt = word_in w 36; und = word_in w 37 }

abbrev pub faults_of : List ℕ → FaultRegisters
faults_of w = record { dfsr = word_in w 38; ifsr = word_in w 39; dfar = word_in w 40; ifar = word_in w 41 }

abbrev pub marks_of : List ℕ → Marks
marks_of w = record { pan = is_mark (word_in w 45); ssbs = is_mark (word_in w 46); dit = is_mark (word_in w 47) }

abbrev pub state_of : List ℕ → Guest
state_of w =
    record {
      regs = take 31 w;
      pc = word_in w 31;
      status = word_in w 32;
      saved = saved_of w;
      faults = faults_of w;
      sctlr = word_in w 42;
      vbar = word_in w 43;
      ttbcr = word_in w 44;
      marks = marks_of w;
    }

-- what stands between the registers and the marks
abbrev pub after_registers : Guest → List ℕ
after_registers s =
    s.pc ∷ s.status
    ∷ s.saved.fiq ∷ s.saved.irq ∷ s.saved.svc ∷ s.saved.abt ∷ s.saved.und
    ∷ s.faults.dfsr ∷ s.faults.ifsr ∷ s.faults.dfar ∷ s.faults.ifar
    ∷ s.sctlr ∷ s.vbar ∷ s.ttbcr ∷ []

-- the words with a state in them: the marks' words stay as they are
abbrev pub words_of : List ℕ → Guest → List ℕ
words_of w s = s.regs ++ after_registers s ++ drop 45 w
