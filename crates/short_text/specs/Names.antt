-- What the fields of each kind of record of the short form are called (source 004), and what their values mean, in the order of the layout
-- lines (crate short_layout, specs/Fields.antt). A field counts, is UNKNOWN or says nothing as in the long form. Of a register nothing is
-- said: its number is the instruction's own.
use Rattle.std.specs.Prelude.{ℕ, Bool, not, cond, ◌&&◌, List, [], ◌∷◌, eqb}
use Rattle.iss.specs.Rule.{mmu_fault}
use Rattle.names.specs.Name.{Name, named}
use Rattle.names.specs.Class.{short_classes}
use Rattle.names.specs.Code.{short_codes}
use Rattle.names.specs.Value.{lengths, unknown, hifar_validity, hdfar_validity, external_types, walks, syndrome_validity, sizes, extensions}
use Rattle.names.specs.Value.{semantics, maintenance, accesses, simd_uses, short_types}
use Rattle.record_text.specs.Names.{plain, given, head, trapped, other, condition, wfx_names, mcr_names, mcrr_names, ldc_names, call_names}
use Rattle.record_text.specs.Names.{smc_names, external}
use Rattle.short_record.specs.declared.kinds.DataAbort.{DataAbort}
use Rattle.short_record.specs.declared.kinds.Record.{Record}
use Rattle.short_rule.specs.Il.{il_unknown}
use Rattle.short_rule.specs.Rule.{asynchronous}

-- IL is UNKNOWN of a PC alignment fault
abbrev pub plain_names : ℕ → List Name
plain_names class = head short_classes plain (cond (il_unknown class) unknown plain) []

abbrev pub simd_names : Bool → List Name
simd_names cv = trapped short_classes plain (condition short_classes plain cv (named "TA" simd_uses ∷ named "coproc" plain ∷ []))

abbrev pub instruction_abort_names : ℕ → List Name
instruction_abort_names code =
    other short_classes plain
    (named "FnV" (given (external code) hifar_validity) ∷ named "EA" external_types ∷ named "S1PTW" (given (mmu_fault code) walks)
    ∷ named "IFSC" short_codes ∷ [])

-- bits 11:10 are AET with code 0x11, an SError interrupt, and otherwise 0 and FnV
abbrev pub asynchronous_name : Bool → ℕ → Name
asynchronous_name serror code = cond serror (named "AET" short_types) (named "0:FnV" (given (external code) hdfar_validity))

-- CM and WnR are of synchronous aborts
abbrev pub data_abort_names : Bool → DataAbort → List Name
data_abort_names serror r =
    let synchronous = not (asynchronous r.code) in
    head short_classes plain (given r.isv lengths)
    (named "ISV" syndrome_validity ∷ named "SAS" (given r.isv sizes) ∷ named "SSE" (given (r.isv && not r.wnr) extensions)
    ∷ named "SRT" plain
    ∷ named "AR" (given r.isv semantics) ∷ asynchronous_name serror r.code ∷ named "EA" external_types
    ∷ named "CM" (given synchronous maintenance)
    ∷ named "S1PTW" (given (mmu_fault r.code) walks)
    ∷ named "WnR" (given (synchronous && not r.cm) accesses) ∷ named "DFSC" short_codes ∷ [])

abbrev pub names_of : Record → List Name
names_of (Record.Plain r) = plain_names r.class
names_of (Record.Wfx r) = wfx_names short_classes plain r.cv
names_of (Record.Mcr r) = mcr_names short_classes plain r.cv
names_of (Record.Mcrr r) = mcrr_names short_classes plain r.cv
names_of (Record.Ldc r) = ldc_names short_classes plain r.cv r.am
names_of (Record.Simd r) = simd_names r.cv
names_of (Record.Call r) = call_names short_classes plain r.class
names_of (Record.Smc r) = smc_names short_classes plain r.cv r.ccknownpass
names_of (Record.InstructionAbort r) = instruction_abort_names r.code
names_of (Record.DataAbort r) = data_abort_names (eqb r.code 0x11) r
