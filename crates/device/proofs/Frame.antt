-- What finishing an access leaves alone, and what it makes: for every state, record and device value.
use mathlib.Core.Path.{◌≡◌, ap, ◌∙◌}
use mathlib.Core.Bool.{Bool, true, false, cond}
use mathlib.Core.List.{[], ◌∷◌}
use Prim.Native.Nat.{ℕ, ◌<◌}
use lib.ListN.{length, get_or}
use lib.Seq.{get_or-set_same, get_or-set_other}
use Rattle.bits.specs.Decide.{needs}
use Rattle.bits.proofs.Deciding.{answer_is}
use Rattle.record.specs.declared.kinds.DataAbort.{DataAbort}
use Rattle.record.specs.declared.kinds.Record.{Record}
use Rattle.status.specs.Sound.{sound}
use Rattle.status.proofs.Advance.{sound_advanced}
use Rattle.exception.specs.declared.state.Guest.{Guest}
use Rattle.step.specs.Step.{stepped}
use Rattle.step.specs.Over.{had}
use Rattle.step.proofs.Frame.{Kept, same, Stepped, steps}
use Rattle.std.specs.Prelude.{Option, Some, None}
use Rattle.step.specs.declared.over.Onward.{Onward}
use Rattle.device.specs.declared.answer.Moved.{Moved}
use Rattle.step.specs.declared.refusal.OnwardRefusal.TheVariants.{NoEdition, UnsoundStatus}
use Rattle.data.specs.Data.{transferred, extended}
use Rattle.device.specs.Finish.{described_of, stored, loaded, accessed, refusing, by_description, finished}
use Rattle.data.specs.Data.{big_endian}

-- an access that is finished: PC and the status word move on, whichever way it goes
pub access_steps : (s : Guest) (r : DataAbort) (value : ℕ) → Stepped s (accessed s r value).state r.il
unfolding accessed
access_steps s r value = go r.wnr
  where
    go : (b : Bool) → Stepped s (cond b (stored s r) (loaded s r value)).state r.il
    go true = steps s _ r.il
    go false = steps s _ r.il

by_kind_lem : (s : Guest) (d : Option DataAbort) (value : ℕ) → Kept s (by_description s d value).state
by_kind_lem s (Some r) value = (access_steps s r value).kept
by_kind_lem s None value = same s

-- THE FRAME: whatever is answered, nothing but the registers, PC and the status word is another
pub frame_kept : (s : Guest) (r : Record) (value : ℕ) → Kept s (finished s r value).state
unfolding finished
frame_kept s r value =
    answer_is (λ (f : Onward Moved). Kept s f.state)
    (needs (had r) (refusing NoEdition s) ∷ needs (sound s.marks s.status) (refusing UnsoundStatus s) ∷ [])
    (by_description s (described_of r) value) (same s, (same s, tt)) (by_kind_lem s (described_of r) value)

-- a store changes no register, and a load its own alone
pub store_registers : (s : Guest) (r : DataAbort) (value : ℕ) → r.wnr ≡ true → (accessed s r value).state.regs ≡ s.regs
unfolding accessed stepped
store_registers s r value e = ap (λ (b : Bool). (cond b (stored s r) (loaded s r value)).state.regs) e

pub load_register : (s : Guest) (r : DataAbort) (value : ℕ) → r.wnr ≡ false → r.srt < length s.regs
    → get_or (accessed s r value).state.regs r.srt 0 ≡ extended r.sas r.sse (transferred r.sas (big_endian s.status) value)
unfolding accessed stepped
load_register s r value e h =
    ap (λ (b : Bool). get_or (cond b (stored s r) (loaded s r value)).state.regs r.srt 0) e
    ∙ get_or-set_same s.regs r.srt (extended r.sas r.sse (transferred r.sas (big_endian s.status) value)) 0 h

pub load_others : (s : Guest) (r : DataAbort) (value k : ℕ) → r.wnr ≡ false → (k ≡ r.srt → ⊥)
    → get_or (accessed s r value).state.regs k 0 ≡ get_or s.regs k 0
unfolding accessed stepped
load_others s r value k e n =
    ap (λ (b : Bool). get_or (cond b (stored s r) (loaded s r value)).state.regs k 0) e
    ∙ get_or-set_other s.regs r.srt k (extended r.sas r.sse (transferred r.sas (big_endian s.status) value)) 0 n

-- the state after a finished access is sound where the old one was
pub sound_after : (s : Guest) (r : DataAbort) (value : ℕ)
    → sound s.marks (accessed s r value).state.status ≡ sound s.marks s.status
sound_after s r value = ap (sound s.marks) (access_steps s r value).status ∙ sound_advanced s.marks s.status
