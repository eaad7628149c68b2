-- What the fields of each kind of record are called in the manual (source 001), and what their values mean there, in the order of the
-- layout lines (crate layout, specs/Fields.antt). A field that another one makes UNKNOWN is said to be so. One that is RES0 by another, or
-- has one value there whatever happened, doesn't count, and says nothing.
use Rattle.std.specs.Prelude.{Bool, not, cond, ◌&&◌, ◌||◌, List, [], ◌∷◌, eqb, ℕ}
use Rattle.bits.specs.Field.{bit_of}
use Rattle.iss.specs.Rule.{mmu_fault}
use Rattle.names.specs.Name.{Entry, Name, named}
use Rattle.names.specs.Class.{classes}
use Rattle.names.specs.Code.{fault_codes, error_codes}
use Rattle.names.specs.Value.{lengths, unknown, validity, conditions, registers, waits, mcr_directions, mcrr_directions, offsets}
use Rattle.names.specs.Value.{addressing_modes, ldc_directions, passes, error_types, far_validity, external_types, walks, syndrome_validity}
use Rattle.names.specs.Value.{sizes, extensions, widths, semantics, maintenance, accesses, step_validity, exclusives, asynchronous_types}
use Rattle.record.specs.declared.kinds.DataAbort.{DataAbort}
use Rattle.record.specs.declared.kinds.Record.{Record}

-- nothing is said of the values of a field, or nothing where it doesn't count
abbrev pub plain : List Entry
plain = []

abbrev pub given : Bool → List Entry → List Entry
given counts values = cond counts values plain

-- what both forms have, by the form's classes and what it says of a register
module _ (class register : List Entry) where
  abbrev pub head : List Entry → List Name → List Name
  head length iss = named "EC" class ∷ named "IL" length ∷ iss

  -- IL is the length of a trapped instruction, and 1 of any other exception
  abbrev pub trapped : List Name → List Name
  trapped = head lengths

  abbrev pub other : List Name → List Name
  other = head plain

  -- CV, and COND, which is UNKNOWN where CV is 0
  abbrev pub condition : Bool → List Name → List Name
  condition cv rest = named "CV" validity ∷ named "COND" (cond cv conditions unknown) ∷ rest

  abbrev pub wfx_names : Bool → List Name
  wfx_names cv = trapped (condition cv (named "TI" waits ∷ []))

  abbrev pub mcr_names : Bool → List Name
  mcr_names cv =
      trapped
      (condition cv
      (named "Opc2" plain ∷ named "Opc1" plain ∷ named "CRn" plain ∷ named "Rt" register ∷ named "CRm" plain
      ∷ named "Direction" mcr_directions ∷ []))

  abbrev pub mcrr_names : Bool → List Name
  mcrr_names cv =
      trapped
      (condition cv
      (named "Opc1" plain ∷ named "Rt2" register ∷ named "Rt" register ∷ named "CRm" plain ∷ named "Direction" mcrr_directions ∷ []))

  -- Rn is UNKNOWN in the literal forms, where AM bit 2 is 1
  abbrev pub ldc_names : Bool → ℕ → List Name
  ldc_names cv am =
      trapped
      (condition cv
      (named "imm8" plain ∷ named "Rn" (cond (not (bit_of am 2)) register unknown) ∷ named "Offset" offsets
      ∷ named "AM" addressing_modes ∷ named "Direction" ldc_directions ∷ []))

  -- class 0x38, a BKPT, has a comment, and the other calls an immediate
  abbrev pub call_names : ℕ → List Name
  call_names c = trapped (named (cond (eqb c 0x38) "Comment" "imm16") plain ∷ [])

  -- CV and COND are RES0 where CCKNOWNPASS is 0
  abbrev pub smc_names : Bool → Bool → List Name
  smc_names cv ccknownpass =
      trapped
      (named "CV" (given ccknownpass validity) ∷ named "COND" (cond cv conditions (given ccknownpass unknown))
      ∷ named "CCKNOWNPASS" passes ∷ [])

-- SET and FnV are valid with code 0x10 alone
abbrev pub external : ℕ → Bool
external code = eqb code 0x10

abbrev pub instruction_abort_names : ℕ → List Name
instruction_abort_names code =
    other classes registers
    (named "SET" (given (external code) error_types) ∷ named "FnV" (given (external code) far_validity) ∷ named "EA" external_types
    ∷ named "S1PTW" (given (mmu_fault code) walks) ∷ named "IFSC" fault_codes ∷ [])

-- WnR is UNKNOWN with codes 0x31 and 0x35, and otherwise 1 where CM is 1
abbrev pub access_in : DataAbort → List Entry
access_in r = cond (eqb r.code 0x31 || eqb r.code 0x35) unknown (given (not r.cm) accesses)

-- ISS[23:14], and IL, count where ISV is 1, and SSE of a load
abbrev pub data_abort_names : DataAbort → List Name
data_abort_names r =
    head classes registers (given r.isv lengths)
    (named "ISV" syndrome_validity ∷ named "SAS" (given r.isv sizes) ∷ named "SSE" (given (r.isv && not r.wnr) extensions)
    ∷ named "SRT" (given r.isv registers)
    ∷ named "SF" (given r.isv widths) ∷ named "AR" (given r.isv semantics) ∷ named "SET" (given (external r.code) error_types)
    ∷ named "FnV" (given (external r.code) far_validity) ∷ named "EA" external_types ∷ named "CM" maintenance
    ∷ named "S1PTW" (given (mmu_fault r.code) walks) ∷ named "WnR" (access_in r) ∷ named "DFSC" fault_codes ∷ [])

abbrev pub debug_names : List Name
debug_names = other classes registers (named "IFSC" fault_codes ∷ [])

-- EX counts where ISV is 1
abbrev pub step_names : Bool → List Name
step_names isv =
    other classes registers (named "ISV" step_validity ∷ named "EX" (given isv exclusives) ∷ named "IFSC" fault_codes ∷ [])

abbrev pub watchpoint_names : Bool → List Name
watchpoint_names cm =
    other classes registers (named "CM" maintenance ∷ named "WnR" (given (not cm) accesses) ∷ named "DFSC" fault_codes ∷ [])

-- AET is valid with DFSC 0x11 alone
abbrev pub serror_names : ℕ → List Name
serror_names code =
    other classes registers
    (named "AET" (given (eqb code 0x11) asynchronous_types) ∷ named "EA" external_types ∷ named "DFSC" error_codes ∷ [])

-- an MSR, MRS or System instruction is of AArch64 alone, which is not put into words
abbrev pub names_of : Record → List Name
names_of (Record.Plain r) = other classes registers []
names_of (Record.Wfx r) = wfx_names classes registers r.cv
names_of (Record.Mcr r) = mcr_names classes registers r.cv
names_of (Record.Mcrr r) = mcrr_names classes registers r.cv
names_of (Record.Ldc r) = ldc_names classes registers r.cv r.am
names_of (Record.Simd r) = trapped classes registers (condition classes registers r.cv [])
names_of (Record.Call r) = call_names classes registers r.class
names_of (Record.Smc r) = smc_names classes registers r.cv r.ccknownpass
names_of (Record.InstructionAbort r) = instruction_abort_names r.code
names_of (Record.DataAbort r) = data_abort_names r
names_of (Record.Debug r) = debug_names
names_of (Record.Step r) = step_names r.isv
names_of (Record.Watchpoint r) = watchpoint_names r.cm
names_of (Record.SError r) = serror_names r.code
names_of (Record.System r) = []
