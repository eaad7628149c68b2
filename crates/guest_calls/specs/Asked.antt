-- What a caller asks for by numbers.
use Rattle.std.specs.Prelude.{ℕ, min, ◌^◌, ◌-◌, cond, eqb, unwrap_or}
use Rattle.fault.specs.declared.Fault.{Fault}
use Rattle.guest.specs.declared.injection.Injection.{Injection}
use Rattle.status.specs.Register.{held_in}
use Rattle.state_words.specs.Words.{is_mark}

-- the faults by number: a level, where there is one, is a byte, and what is larger counts as 255; a number that is no fault's stands for
-- one that can't be written, since no fault has level 0 (01: 11)
abbrev pub no_fault : Fault
no_fault = Fault.Translation 0

unfoldable pub fault_of : ℕ → ℕ → Fault
fault_of fault level =
    cond (eqb fault 0) Fault.External
    (cond (eqb fault 1) (Fault.Translation (min level 255))
    (cond (eqb fault 2) (Fault.AccessFlag (min level 255))
    (cond (eqb fault 3) (Fault.Permission (min level 255))
    (cond (eqb fault 4) Fault.Alignment no_fault))))

-- the injections by number, in the order of document 01's table; a number that is none's stands for an abort whose fault can't be written
unfoldable pub injection_of : ℕ → ℕ → ℕ → ℕ → ℕ → ℕ → Injection
injection_of injection fault level address write domain =
    cond (eqb injection 0) Injection.UndefinedAt
    (cond (eqb injection 1) Injection.UndefinedAfter
    (cond (eqb injection 2) Injection.SupervisorCall
    (cond (eqb injection 3) (Injection.PrefetchAbort (record { fault = fault_of fault level; address = address }))
    (cond (eqb injection 4)
    (Injection.DataAbort
    (record { fault = fault_of fault level; address = address; write = is_mark write; domain = min domain 255 }))
    (Injection.PrefetchAbort (record { fault = no_fault; address = address }))))))

-- all ones where a register is held nowhere
abbrev pub held_number : ℕ → ℕ → ℕ
held_number mode number = unwrap_or (held_in mode number) (2 ^ 32 - 1)
