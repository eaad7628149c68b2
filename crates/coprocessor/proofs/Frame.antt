-- What finishing a coprocessor read or write leaves alone, and what it makes: for every state, record and values.
use mathlib.Core.Path.{◌≡◌, refl, ap, ◌∙◌}
use mathlib.Core.Bool.{Bool, true, false, cond}
use mathlib.Core.List.{[], ◌∷◌}
use Prim.Native.Nat.{ℕ, ◌+◌, ◌%◌, ◌^◌, ◌<◌}
use lib.ListN.{length, get_or, set, length-set}
use lib.Seq.{get_or-set_same, get_or-set_other}
use Rattle.bits.specs.Decide.{needs}
use Rattle.bits.proofs.Deciding.{answer_is}
use Rattle.record.specs.declared.kinds.Mcr.{Mcr}
use Rattle.record.specs.declared.kinds.Mcrr.{Mcrr}
use Rattle.record.specs.declared.kinds.Record.{Record}
use Rattle.status.specs.It.{it_advanced}
use Rattle.status.specs.Sound.{sound}
use Rattle.status.proofs.Advance.{sound_advanced}
use Rattle.exception.specs.declared.state.Guest.{Guest}
use Rattle.step.specs.Over.{had}
use Rattle.step.specs.Step.{bytes_of, stepped}
use Rattle.step.proofs.Frame.{Kept, same, Stepped, steps}
use Rattle.step.specs.declared.refusal.OnwardRefusal.TheVariants.{NoEdition, UnsoundStatus}
use Rattle.std.specs.Prelude.{Option, Some, None}
use Rattle.coprocessor.specs.declared.transfer.Transfer.{Transfer}
use Rattle.coprocessor.specs.declared.transfer.Transfer.TheVariants.{One, Two}
use Rattle.step.specs.declared.over.Onward.{Onward}
use Rattle.coprocessor.specs.declared.answer.Moved.{Moved}
use Rattle.coprocessor.specs.Flags.{status_after}
use Rattle.coprocessor.specs.Finish.{counted_of, read_one, wrote_one, read_two, wrote_two, one, two, refusing, by_transfer, finished}
use Rattle.coprocessor.proofs.Flags.{sound_status}

-- ---- PC and the status word

-- the old status word, or the one whose flags a read set
abbrev pub flagged : Guest → Mcr → ℕ → ℕ
flagged s r value = cond r.direction (status_after s.status r.rt value) s.status

-- PC moved, and IT advanced in a given status word
pub record Past (s after : Guest) (il : Bool) (word : ℕ) : Type 0 where
  pub pc : after.pc ≡ (s.pc + bytes_of il) % 2 ^ 32
  pub status : after.status ≡ it_advanced word
  pub kept : Kept s after

-- one register: PC moves on and IT advances, in the old status word or in one whose flags a read has set
pub one_steps : (s : Guest) (r : Mcr) (value : ℕ) → Past s (one s r value).state r.il (flagged s r value)
unfolding one stepped
one_steps s r value = go r.direction
  where
    go : (b : Bool) → Past s (cond b (read_one s r value) (wrote_one s r)).state r.il
        (cond b (status_after s.status r.rt value) s.status)
    go true = record {
      pc = refl;
      status = refl;
      kept = record
          { saved = refl; faults = refl; sctlr = refl; vbar = refl; ttbcr = refl; marks = refl };
    }
    go false = record {
      pc = refl;
      status = refl;
      kept = record
          { saved = refl; faults = refl; sctlr = refl; vbar = refl; ttbcr = refl; marks = refl };
    }

-- two registers: PC moves on and IT advances
pub two_steps : (s : Guest) (r : Mcrr) (first second : ℕ) → Stepped s (two s r first second).state r.il
unfolding two
two_steps s r first second = go r.direction
  where
    go : (b : Bool) → Stepped s (cond b (read_two s r first second) (wrote_two s r)).state r.il
    go true = steps s _ r.il
    go false = steps s _ r.il

by_kind_lem : (s : Guest) (t : Option Transfer) (first second : ℕ) → Kept s (by_transfer s t first second).state
by_kind_lem s (Some (One r)) first second = (one_steps s r first).kept
by_kind_lem s (Some (Two r)) first second = (two_steps s r first second).kept
by_kind_lem s None first second = same s

-- THE FRAME: whatever is answered, nothing but the registers, PC and the status word is another
pub frame_kept : (s : Guest) (r : Record) (first second : ℕ) → Kept s (finished s r first second).state
unfolding finished
frame_kept s r first second =
    answer_is (λ (f : Onward Moved). Kept s f.state)
    (needs (had r) (refusing NoEdition s) ∷ needs (sound s.marks s.status) (refusing UnsoundStatus s) ∷ [])
    (by_transfer s (counted_of s.status r) first second) (same s, (same s, tt)) (by_kind_lem s (counted_of s.status r) first second)

-- the state after a finished read or write is sound where the old one was
pub sound_one : (s : Guest) (r : Mcr) (value : ℕ) → sound s.marks (one s r value).state.status ≡ sound s.marks s.status
sound_one s r value =
    ap (sound s.marks) (one_steps s r value).status ∙ sound_advanced s.marks (flagged s r value) ∙ go r.direction
  where
    go : (b : Bool) → sound s.marks (cond b (status_after s.status r.rt value) s.status) ≡ sound s.marks s.status
    go true = sound_status s.status value s.marks r.rt
    go false = refl

pub sound_two : (s : Guest) (r : Mcrr) (first second : ℕ)
    → sound s.marks (two s r first second).state.status ≡ sound s.marks s.status
sound_two s r first second =
    ap (sound s.marks) (two_steps s r first second).status ∙ sound_advanced s.marks s.status

-- ---- the registers

-- a write changes none
pub one_write : (s : Guest) (r : Mcr) (value : ℕ) → r.direction ≡ false → (one s r value).state.regs ≡ s.regs
unfolding one stepped
one_write s r value e = ap (λ (b : Bool). (cond b (read_one s r value) (wrote_one s r)).state.regs) e

pub two_write : (s : Guest) (r : Mcrr) (first second : ℕ) → r.direction ≡ false → (two s r first second).state.regs ≡ s.regs
unfolding two stepped
two_write s r first second e = ap (λ (b : Bool). (cond b (read_two s r first second) (wrote_two s r)).state.regs) e

-- a read of one register changes that one alone
module _ (s : Guest) (r : Mcr) (value : ℕ) (e : r.direction ≡ true) where
  one_read : (one s r value).state.regs ≡ set s.regs r.rt value
  unfolding one stepped
  one_read = ap (λ (b : Bool). (cond b (read_one s r value) (wrote_one s r)).state.regs) e

  pub read_register : r.rt < length s.regs → get_or (one s r value).state.regs r.rt 0 ≡ value
  read_register h = ap (λ l. get_or l r.rt 0) one_read ∙ get_or-set_same s.regs r.rt value 0 h

  pub read_others : (k : ℕ) → (k ≡ r.rt → ⊥) → get_or (one s r value).state.regs k 0 ≡ get_or s.regs k 0
  read_others k n = ap (λ l. get_or l k 0) one_read ∙ get_or-set_other s.regs r.rt k value 0 n

-- a read of two registers changes the two alone
module _ (s : Guest) (r : Mcrr) (first second : ℕ) (e : r.direction ≡ true) where
  two_read : (two s r first second).state.regs ≡ set (set s.regs r.rt first) r.rt2 second
  unfolding two stepped
  two_read = ap (λ (b : Bool). (cond b (read_two s r first second) (wrote_two s r)).state.regs) e

  pub read_second : r.rt2 < length s.regs → get_or (two s r first second).state.regs r.rt2 0 ≡ second
  read_second h =
      ap (λ l. get_or l r.rt2 0) two_read
      ∙ get_or-set_same (set s.regs r.rt first) r.rt2 second 0 (rw (length-set s.regs r.rt first) h)

  pub read_first : r.rt < length s.regs → (r.rt ≡ r.rt2 → ⊥) → get_or (two s r first second).state.regs r.rt 0 ≡ first
  read_first h n =
      ap (λ l. get_or l r.rt 0) two_read
      ∙ get_or-set_other (set s.regs r.rt first) r.rt2 r.rt second 0 n
      ∙ get_or-set_same s.regs r.rt first 0 h

  pub read_neither : (k : ℕ) → (k ≡ r.rt → ⊥) → (k ≡ r.rt2 → ⊥) → get_or (two s r first second).state.regs k 0 ≡ get_or s.regs k 0
  read_neither k n m =
      ap (λ l. get_or l k 0) two_read
      ∙ get_or-set_other (set s.regs r.rt first) r.rt2 k second 0 m
      ∙ get_or-set_other s.regs r.rt k first 0 n
