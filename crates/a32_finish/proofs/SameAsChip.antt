-- Requests C-17 and C-18 joined: a load or store of one register that the chip describes (ISV 1) and the same instruction finished from its
-- A32 word leave the same state, and a store gives the device the same value. The chip describes no other: one register, not 15, without
-- write-back.
use mathlib.Core.Path.{◌≡◌, refl, sym, ap, ap₂, ◌∙◌}
use mathlib.Core.Bool.{Bool, true, false, not, ◌&&◌, cond}
use mathlib.Core.List.{List, [], ◌∷◌}
use Rattle.std.specs.Prelude.{Option, Some, None, Ok}
use Prim.Native.Nat.{ℕ, ◌≤◌, min}
use native.Mathlib.Omega.{arith}
use lib.Dec.{eqb}
use lib.ListN.{get_or, length, replicate}
use borrow.Author.Tests.{le-leb, ne_eqb}
use Rattle.edition.specs.Mask.{mask_of}
use Rattle.record.specs.declared.kinds.DataAbort.{DataAbort}
use Rattle.record.specs.declared.kinds.Record.{Record}
use Rattle.status.specs.Mode.{is_mode}
use Rattle.status.specs.Register.{register_number, held_in}
use Rattle.status.specs.Sound.{sound}
use Rattle.status.proofs.Again.{is_sound}
use Rattle.exception.specs.declared.state.Guest.{Guest}
use Rattle.exception.specs.State.{register_in, with_register}
use Rattle.rule.specs.Has.{lawful, has}
use Rattle.step.specs.Over.{had}
use Rattle.step.specs.Step.{stepped}
use Rattle.data.specs.Data.{big_endian, transferred, extended}
use Rattle.device.specs.Finish as device
use Rattle.device.specs.declared.answer.Moved.TheVariants as device-moved
use Rattle.step.specs.declared.over.Onward.{Onward}
use Rattle.device.specs.declared.answer.Moved.{Moved as DeviceMoved}
use Rattle.device.proofs.Answers as device-laws
use Rattle.a32_fields.specs.Layout.{fields_word}
use Rattle.a32_fields.specs.declared.kinds.Fields.{Fields}
use Rattle.a32_fields.specs.declared.kinds.Transfer.TheVariants.{Ldr, Str}
use Rattle.a32_rule.specs.Legal.{legal}
use Rattle.a32_access.specs.declared.access.Access.{Access}
use Rattle.a32_access.specs.Transferred.{registers_of, count_of, padded}
use Rattle.a32_access.specs.Place.{back_of}
use Rattle.a32_access.specs.Value.{held_value, program_counter, value_of}
use Rattle.a32_access.proofs.Counts.{count_length}
use Rattle.a32_transfer.specs.declared.landing.Landing.{Landing}
use Rattle.a32_transfer.specs.declared.shape.Shape.{Shape}
use Rattle.a32_transfer.specs.Shape.{shape_of}
use Rattle.a32_transfer.specs.Landing.{with_held, arrived, load_to, loaded_first, written_back}
use Rattle.a32_transfer.specs.Giving.{firsts, given_at}
use Rattle.a32.specs.Promise.{access_of, described_answer}
use Rattle.a32.proofs.Laws.{described_exactly}
use Rattle.a32_finish.specs.declared.answer.Finished.{Finished}
use Rattle.a32_finish.specs.Finish.{mode_of, gone_on, landing_in, loaded, stored, given_in, to_load, to_store, performed, finished}
use Rattle.a32_finish.proofs.Answers.{settled}

-- an instruction of one register t of 0 to 14, without write-back
pub record One (f : Fields) (t : ℕ) : Type 0 where
  pub registers : registers_of f ≡ (t ∷ [])
  pub stays : back_of f ≡ false
  pub below : t ≤ 14

-- the record tells of that instruction: its size and extension, the state's number of its register, its direction, and its length
pub record Tells (s : Guest) (f : Fields) (t : ℕ) (r : DataAbort) : Type 0 where
  pub isv : r.isv ≡ true
  pub sas : r.sas ≡ (shape_of f).sas
  pub sse : r.sse ≡ (shape_of f).sse
  pub srt : r.srt ≡ register_number (mode_of s.status) t
  pub wnr : r.wnr ≡ not (shape_of f).load
  pub il : r.il ≡ true

-- the word is described by its fields f, and some edition has the record
module _ (s : Guest) (w : ℕ) (f : Fields) (t : ℕ) (r : DataAbort) (values : List ℕ) (one : One f t) (tells : Tells s f t r)
    (d : described_answer s w ≡ Ok (access_of s f)) (h : had (Record.DataAbort r) ≡ true) where
  abbrev mode : ℕ
  mode = mode_of s.status

  abbrev big : Bool
  big = big_endian s.status

  abbrev shape : Shape
  shape = shape_of f

  abbrev numbers : List ℕ
  numbers = padded 16 (registers_of f)

  -- what is described is sound, and its fields are legal, so that there is one register
  good : sound s.marks s.status ≡ true
  good = ((described_exactly s w (access_of s f)).0 d).0

  counted : count_of f ≡ 1
  counted = count_length f lawful ∙ ap length one.registers
    where
      lawful : legal f ≡ true
      lawful = let e = ((described_exactly s w (access_of s f)).0 d).2 in ap (λ (a : Access). legal a.fields) e.3 ∙ e.1

  not_15 : eqb t 15 ≡ false
  not_15 = let below = one.below in ne_eqb t 15 (λ e. omega arith)

  -- where the register stands
  held : held_in mode t ≡ Some r.srt
  held =
      ap₂ (λ (a b : Bool). cond (a && b) (Some (register_number mode t)) None) (is_sound s.marks s.status good).mode
      (le-leb t 14 one.below)
      ∙ ap Some (sym tells.srt)

  kept_back : written_back s.regs s.pc mode (access_of s f) ≡ s.regs
  kept_back = rw one.stays

  -- ---- a load
  abbrev start : Landing
  start = record { regs = s.regs; branch = None }

  abbrev with_value : ℕ → Landing
  with_value v = record { regs = with_register s.regs r.srt v; branch = None }

  loaded_one : (v : ℕ) → load_to mode start t v ≡ with_value v
  loaded_one v =
      ap (λ (b : Bool). cond b (record { regs = s.regs; branch = Some v })
      (record { regs = with_held s.regs (held_in mode t) v; branch = None })) not_15
      ∙ ap (λ (h : Option ℕ). landing (with_held s.regs h v)) held
    where
      landing : List ℕ → Landing
      landing regs = record { regs = regs; branch = None }

  landing : landing_in s (access_of s f) shape numbers values ≡ with_value (arrived shape big (get_or values 0 0))
  unfolding loaded_first
  landing =
      ap₂ (λ (l : List ℕ) (n : ℕ). loaded_first l mode big shape numbers values (min n 16)) kept_back counted
      ∙ ap (λ (l : List ℕ). load_to mode start (get_or (padded 16 l) 0 0) (arrived shape big (get_or values 0 0))) one.registers
      ∙ loaded_one (arrived shape big (get_or values 0 0))

  taken : extended shape.sas shape.sse (transferred shape.sas big (get_or values 0 0))
      ≡ extended r.sas r.sse (transferred r.sas big (get_or values 0 0))
  taken =
      ap₂ (λ (n : ℕ) (b : Bool). extended n b (transferred n big (get_or values 0 0))) (sym tells.sas) (sym tells.sse)

  load_state : loaded s (access_of s f) shape numbers values ≡ (device.loaded s r (get_or values 0 0)).state
  unfolding loaded
  load_state =
      ap (λ (l : Landing). gone_on s l.regs l.branch) landing
      ∙ ap₂ (λ (v : ℕ) (b : Bool). stepped s (with_register s.regs r.srt v) b) taken (sym tells.il)

  -- ---- a store
  store_state : stored s (access_of s f) ≡ (device.stored s r).state
  unfolding stored
  store_state = ap₂ (λ (l : List ℕ) (b : Bool). stepped s l b) kept_back (sym tells.il)

  register_value : value_of s.regs s.pc mode t ≡ register_in s.regs r.srt
  unfolding value_of
  register_value =
      ap (λ (b : Bool). cond b (program_counter s.pc) (held_value s.regs (held_in mode t))) not_15 ∙ ap (held_value s.regs) held

  given_first : get_or (given_in s (access_of s f) shape numbers) 0 0 ≡ transferred r.sas big (register_in s.regs r.srt)
  unfolding firsts
  given_first =
      ap (λ (n : ℕ). get_or (padded 16 (firsts (given_at s.regs s.pc mode big shape.sas numbers) (min n 16))) 0 0) counted
      ∙ ap (λ (l : List ℕ). transferred shape.sas big (value_of s.regs s.pc mode (get_or (padded 16 l) 0 0))) one.registers
      ∙ ap₂ (λ (n : ℕ) (v : ℕ). transferred n big v) (sym tells.sas) register_value

  -- ---- the two calls
  abbrev by_word : Finished
  by_word = finished s w values

  abbrev by_chip : Onward DeviceMoved
  by_chip = device.finished s (Record.DataAbort r) (get_or values 0 0)

  chip : device.accessed s r (get_or values 0 0) ≡ by_chip
  chip = device-laws.taken s r (get_or values 0 0) h good tells.isv

  word : performed s (access_of s f) numbers values ≡ by_word
  word = settled s w values d

  performed_load : shape.load ≡ true → performed s (access_of s f) numbers values ≡ to_load s (access_of s f) shape numbers values
  unfolding performed
  performed_load l = ap (λ (b : Bool). cond b (to_load s (access_of s f) shape numbers values) (to_store s (access_of s f) shape numbers)) l

  performed_store : shape.load ≡ false → performed s (access_of s f) numbers values ≡ to_store s (access_of s f) shape numbers
  unfolding performed
  performed_store l = ap (λ (b : Bool). cond b (to_load s (access_of s f) shape numbers values) (to_store s (access_of s f) shape numbers)) l

  accessed_load : shape.load ≡ true → device.accessed s r (get_or values 0 0) ≡ device.loaded s r (get_or values 0 0)
  unfolding device.accessed
  accessed_load l = ap (λ (b : Bool). cond b (device.stored s r) (device.loaded s r (get_or values 0 0))) (tells.wnr ∙ ap not l)

  accessed_store : shape.load ≡ false → device.accessed s r (get_or values 0 0) ≡ device.stored s r
  unfolding device.accessed
  accessed_store l = ap (λ (b : Bool). cond b (device.stored s r) (device.loaded s r (get_or values 0 0))) (tells.wnr ∙ ap not l)

  -- THE SAME STATE, of a load and of a store
  pub same_state : by_word.state ≡ by_chip.state
  same_state = go shape.load refl
    where
      go : (b : Bool) → shape.load ≡ b → by_word.state ≡ by_chip.state
      go true l =
          ap (λ (x : Finished). x.state) (sym word ∙ performed_load l)
          ∙ load_state
          ∙ ap (λ (x : Onward DeviceMoved). x.state) (sym (accessed_load l) ∙ chip)
      go false l =
          ap (λ (x : Finished). x.state) (sym word ∙ performed_store l)
          ∙ store_state
          ∙ ap (λ (x : Onward DeviceMoved). x.state) (sym (accessed_store l) ∙ chip)

  -- THE SAME VALUE for the device, of a store
  pub same_value : shape.load ≡ false → by_chip.answer ≡ Ok (device-moved.Stored (get_or by_word.outcome.values 0 0))
  same_value l =
      ap (λ (x : Onward DeviceMoved). x.answer) (sym chip ∙ accessed_store l)
      ∙ ap (λ (n : ℕ). Ok (device-moved.Stored n)) (sym given_first)
      ∙ ap (λ (x : Finished). Ok (device-moved.Stored (get_or x.outcome.values 0 0))) (sym (performed_store l) ∙ word)

-- ---- the two speak of something

-- User mode, with every register 0
abbrev pub user_state : Guest
user_state =
    record {
      regs = replicate 31 0;
      pc = 0;
      status = 0x10;
      saved = record { fiq = 0; irq = 0; svc = 0; abt = 0; und = 0 };
      faults = record { dfsr = 0; ifsr = 0; dfar = 0; ifar = 0 };
      sctlr = 0;
      vbar = 0;
      ttbcr = 0;
      marks = record { pan = false; ssbs = false; dit = false };
    }

-- LDR r2, [r1], or STR r2, [r1]
abbrev pub sample : Bool → Fields
sample load =
    Fields.Immediate record { transfer = cond load Ldr Str; cond = 14; p = true; u = true; w = false; rn = 1; rt = 2; imm = 0 }

-- what the chip says of it, at a translation fault of level 1
abbrev pub sample_record : Bool → DataAbort
sample_record load =
    record {
      il = true;
      isv = true;
      sas = 2;
      sse = false;
      srt = 2;
      sf = false;
      ar = false;
      set = 0;
      fnv = false;
      ea = false;
      cm = false;
      s1ptw = false;
      wnr = not load;
      code = 5;
    }

-- A LOAD AND A STORE of which all that `same_state` asks for holds
pub same_asked : (load : Bool) → One (sample load) 2 × Tells user_state (sample load) 2 (sample_record load)
    × (described_answer user_state (fields_word (sample load)) ≡ Ok (access_of user_state (sample load)))
    × (had (Record.DataAbort (sample_record load)) ≡ true)
unfolding registers_of register_number sound is_mode legal mask_of has lawful
same_asked true = (
  record { registers = refl; stays = refl; below = omega arith },
  record { isv = refl; sas = refl; sse = refl; srt = refl; wnr = refl; il = refl },
  (described_exactly user_state (fields_word (sample true)) (access_of user_state (sample true))).1
      (refl, refl, (sample true, refl, refl, refl)),
  refl,
)
same_asked false = (
  record { registers = refl; stays = refl; below = omega arith },
  record { isv = refl; sas = refl; sse = refl; srt = refl; wnr = refl; il = refl },
  (described_exactly user_state (fields_word (sample false)) (access_of user_state (sample false))).1
      (refl, refl, (sample false, refl, refl, refl)),
  refl,
)
