-- A worked case (01, 'Cases from both sides of the line'), and what it says. What a case leaves open holds for every value of it; its
-- traps are from AArch32.
use Rattle.std.specs.Prelude.{◌≡◌, true, List, [], ◌∷◌, ℕ, ◌<◌, pos, length, get_or, Result, Ok, Err}
use Rattle.edition.specs.Feature.{editions}
use Rattle.edition.specs.Judge.{refusal_number, refusal_mask, refusal_count}
use Rattle.edition.specs.declared.Refusal.{Refusal}
use Rattle.record.specs.declared.origin.Origin.{Origin}
use Rattle.record.specs.declared.kinds.Record.{Record}
use Rattle.syndrome.specs.Reading.{read_of}
use Rattle.status.specs.Base.{unmarked}
use Rattle.guest.specs.Inject.{injected}
use Rattle.signed.specs.Signed.{sum_of}
use Rattle.guest.specs.Injection.{injection_row}
use Rattle.exception.specs.Vector.{aligned}
use Rattle.guest.specs.Tests.{writable, domain_fits, address_fits}
use Rattle.guest.specs.declared.injection.Injection.{Injection}
use Rattle.guest.specs.declared.injection.Injection.TheVariants.{UndefinedAt, DataAbort}
use Rattle.guest.specs.declared.injection.Access.{Access}
use Rattle.exception.specs.declared.state.Guest.{Guest}

-- what reading answers: a record, some record, or a refusal by its number, mask and number of ones
-- Kept: of three sorts of answer one names no record, which neither Option nor Result says.
pub data Answers : Type 0 where
  record_read : Record → Answers
  taken : Answers
  refused : ℕ → ℕ → ℕ → Answers

abbrev pub AnswersAs : Result Record Refusal → Answers → Type 0
AnswersAs read (record_read r) = read ≡ Ok r
AnswersAs read taken = (r : Record) × (read ≡ Ok r)
AnswersAs read (refused number mask count) =
    (f : Refusal) × (read ≡ Err f) × (refusal_number f ≡ number) × (refusal_mask f ≡ mask) × (refusal_count f ≡ count)

-- an injection that is taken leaves this status word, link and PC
pub record Leaves (s : Guest) (i : Injection) (status link pc : ℕ) : Type 0 where
  pub answer : (injected s i).answer ≡ Ok tt
  pub new_status : (injected s i).state.status ≡ status
  pub new_link : get_or (injected s i).state.regs (injection_row i).link 0 ≡ link
  pub new_pc : (injected s i).state.pc ≡ pc

-- what a case gives of a state, and what it says of the state after the injection
pub record UndefinedBefore : Type 0 where
  pub status : ℕ
  pub pc : ℕ
  pub vbar : ℕ
  pub sctlr : ℕ

pub record UndefinedAfter : Type 0 where
  pub status : ℕ
  pub link : ℕ
  pub pc : ℕ

pub record AbortBefore : Type 0 where
  pub status : ℕ
  pub sctlr : ℕ

pub record AbortAfter : Type 0 where
  pub status : ℕ
  pub pc : ℕ

pub data Case : Type 0 where
  -- an edition, a word and the answer; a word and the answer in every edition
  reads_in : ℕ → ℕ → Answers → Case
  reads : ℕ → Answers → Case
  -- an undefined instruction at PC
  undefined_at : UndefinedBefore → UndefinedAfter → Case
  -- a data abort; and with PC, the link
  data_abort : AbortBefore → AbortAfter → Case
  data_abort_link : AbortBefore → ℕ → ℕ → Case

-- a state's 31 registers, whatever they hold, and no feature of C-15
pub record Whole (s : Guest) : Type 0 where
  pub registers : length s.regs ≡ 31
  pub marks : s.marks ≡ unmarked

-- a whole state, and a data abort whose fault, domain and address pass in it
pub record Passing (s : Guest) (a : Access) : Type 0 where
  pub whole : Whole s
  pub vbar : aligned s.vbar ≡ true
  pub fault : writable (DataAbort a) s.ttbcr ≡ true
  pub domain : domain_fits (DataAbort a) ≡ true
  pub address : address_fits (DataAbort a) ≡ true

abbrev pub Holds : Case → Type 0
Holds (reads_in e w answers) = AnswersAs (read_of Origin.AArch32 e (record { 0 = w })) answers
Holds (reads w answers) = (e : ℕ) → e < editions → AnswersAs (read_of Origin.AArch32 e (record { 0 = w })) answers
Holds (undefined_at before after) =
    (s : Guest) → Whole s → s.status ≡ before.status → s.pc ≡ before.pc → s.vbar ≡ before.vbar → s.sctlr ≡ before.sctlr
    → Leaves s UndefinedAt after.status after.link after.pc
Holds (data_abort before after) =
    (s : Guest) (a : Access) → Passing s a → s.status ≡ before.status → s.sctlr ≡ before.sctlr
    → Leaves s (DataAbort a) after.status (sum_of s.pc (pos 8)) after.pc
Holds (data_abort_link before pc link) =
    (s : Guest) (a : Access) → Passing s a → s.status ≡ before.status → s.sctlr ≡ before.sctlr → s.pc ≡ pc
    → get_or (injected s (DataAbort a)).state.regs (injection_row (DataAbort a)).link 0 ≡ link

-- the one statement of a list of cases
abbrev pub AllHold : List Case → Type 0
AllHold [] = Unit {0}
AllHold (c ∷ cs) = Holds c × AllHold cs
