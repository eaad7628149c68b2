-- What each call answers: the call by value on the numbers that were handed in, and what it hands out.
use Rattle.std.specs.Prelude.{ℕ, ◌^◌, ◌-◌, ◌≡◌, List, [], ◌∷◌, Option, Some, None, Result, Ok, Err}
use Rattle.record.specs.declared.kinds.Record.{Record}
use Rattle.record.specs.declared.origin.Origin.{Origin}
use Rattle.record_words.specs.Words.{flag}
use Rattle.status.specs.declared.Marks.{Marks}
use Rattle.chip.specs.Ran.{ran_of, origin_of}
use Rattle.chip.specs.declared.ran.Hcr.{Hcr}
use Rattle.chip.specs.declared.ran.Ran.{Ran}
use Rattle.chip.specs.declared.ran.Spsr.{Spsr}
use Rattle.cause.specs.Answer.{cause_number, cause_of}
use Rattle.cause.specs.Pass.{passed_on}
use Rattle.cause.specs.declared.answer.CauseRefusal.{CauseRefusal}
use Rattle.cause.specs.declared.kind.Cause.{Cause}
use Rattle.cause.specs.declared.kind.Kind.{Kind}
use Rattle.cause.specs.declared.kind.Level.{Level}
use Rattle.fault.specs.declared.Fault.{Fault}

-- PAN, SSBS and DIT
abbrev pub marks_in : Marks → List ℕ
marks_in m = flag m.pan ∷ flag m.ssbs ∷ flag m.dit ∷ []

-- ---- what ran

abbrev pub ran_number : Ran → ℕ
ran_number Ran.Guest = 0
ran_number Ran.AArch64 = 1
ran_number Ran.Program = 2

abbrev pub origin_number : Origin → ℕ
origin_number Origin.AArch32 = 0
origin_number Origin.AArch64 = 1

pub record Running (spsr : Spsr) (hcr : Hcr) (n word : ℕ) : Type 0 where
  pub ran : n ≡ ran_number (ran_of spsr hcr)
  pub origin : word ≡ origin_number (origin_of (ran_of spsr hcr))

-- ---- why an abort came

-- those that an injection has come first, in the order of its faults
abbrev pub kind_number : Kind → ℕ
kind_number Kind.External = 0
kind_number Kind.Translation = 1
kind_number Kind.AccessFlag = 2
kind_number Kind.Permission = 3
kind_number Kind.Alignment = 4
kind_number Kind.AddressSize = 5
kind_number Kind.Parity = 6
kind_number Kind.TlbConflict = 7
kind_number Kind.Update = 8
kind_number Kind.Lockdown = 9
kind_number Kind.Exclusive = 10

-- 4 is none, and -1 all ones
abbrev pub level_number : Option Level → ℕ
level_number None = 4
level_number (Some Level.Minus1) = 2 ^ 32 - 1
level_number (Some (Level.At n)) = n

abbrev pub passes_by : Option Fault → ℕ
passes_by (Some f) = 1
passes_by None = 0

-- a refusal hands out zeros
abbrev pub kind_in : Result Cause CauseRefusal → ℕ
kind_in (Ok c) = kind_number c.kind
kind_in (Err refusal) = 0

abbrev pub level_in : Result Cause CauseRefusal → ℕ
level_in (Ok c) = level_number c.level
level_in (Err refusal) = 0

abbrev pub walk_in : Result Cause CauseRefusal → ℕ
walk_in (Ok c) = flag c.walk
walk_in (Err refusal) = 0

abbrev pub passes_in : Result Cause CauseRefusal → ℕ
passes_in (Ok c) = passes_by (passed_on c)
passes_in (Err refusal) = 0

abbrev pub cause_in : Result Cause CauseRefusal → List ℕ
cause_in a = kind_in a ∷ level_in a ∷ walk_in a ∷ passes_in a ∷ []

pub record Causing (origin : Origin) (r : Record) (n : ℕ) (words : List ℕ) : Type 0 where
  pub answer : n ≡ cause_number (cause_of origin r)
  pub cause : words ≡ cause_in (cause_of origin r)
