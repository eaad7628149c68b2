-- HOW THE GUEST GOES ON after a trap: the table 'After the trap, class by class' of docs/ENGINEER.md, for a monitor whose only work is its
-- card. PC is at the trapped instruction, but past it in 0x11, 0x12 and 0x32.
use Rattle.std.specs.Prelude.{ℕ, Bool, cond, [], ◌∷◌, eqb}
use Rattle.bits.specs.Among.{among}
use Rattle.fault.specs.declared.Fault.{Fault}
use Rattle.guest.specs.declared.injection.Injection.{Injection}
use Rattle.guest.specs.declared.injection.Injection.TheVariants.{UndefinedAt, UndefinedAfter, SupervisorCall, PrefetchAbort, DataAbort}
use Rattle.record.specs.Class.{head_of}
use Rattle.record.specs.Sort.{sort_of}
use Rattle.record.specs.declared.kinds.Sort.{Sort}
use Rattle.step.specs.Condition.{passes}
use Rattle.example.specs.declared.way.Seen.{Seen}
use Rattle.example.specs.declared.way.Way.{Way}
use Rattle.example.specs.declared.way.Way.TheVariants.{Inject, Finish, Describe, StepOver, Leave}

-- a fault is external to the guest: its own tables didn't cause it
abbrev pub fetch_abort : ℕ → Injection
fetch_abort address = PrefetchAbort record { fault = Fault.External; address = address }

abbrev pub access_abort : Bool → ℕ → Injection
access_abort write address = DataAbort record { fault = Fault.External; address = address; write = write; domain = 0 }

-- 0x24: at the card a cache maintenance operation (CM 1) is stepped over, and an access is finished where the chip described it (ISV 1);
-- elsewhere the guest gets the abort
abbrev pub data_way : Bool → ℕ → Bool → Bool → Bool → Way
data_way card address cm isv write =
    cond card (cond cm StepOver (cond isv Finish (Describe (access_abort write address)))) (Inject (access_abort write address))

-- the classes without an address: WFI and WFE; SVC; HVC; breakpoint, software step, BKPT and vector catch, which are the debugger's; and all
-- that the monitor doesn't do for the guest, which is undefined to it
abbrev pub plain_way : ℕ → Way
plain_way class =
    cond (eqb class 0x01) StepOver
    (cond (eqb class 0x11) (Inject SupervisorCall)
    (cond (eqb class 0x12) (Inject UndefinedAfter)
    (cond (among (0x30 ∷ 0x32 ∷ 0x38 ∷ 0x3A ∷ []) class) Leave
    (Inject UndefinedAt))))

-- 0x22, a PC alignment fault, and 0x34, a watchpoint, have an address; an SError interrupt, 0x2F, belongs to no instruction
abbrev pub sort_way : ℕ → Bool → ℕ → Sort → Way
sort_way class card address Sort.Plain = plain_way class
sort_way class card address Sort.Addressed = cond (eqb class 0x22) (Inject (fetch_abort address)) Leave
sort_way class card address (Sort.InstructionAbort r) = Inject (fetch_abort address)
sort_way class card address (Sort.DataAbort r) = data_way card address r.cm r.isv r.wnr
sort_way class card address (Sort.SError r) = Leave

-- an instruction whose condition fails does nothing, whatever its class
abbrev pub way_of : ℕ → Seen → Way
way_of status t =
    cond (passes status t.what) (sort_way (head_of t.what).class t.card t.address (sort_of t.what)) StepOver
