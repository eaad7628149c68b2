-- Whether a trapped instruction counts (the manual's ConditionHolds and CurrentCond; 001, CV and COND): one whose condition fails does
-- nothing, and is stepped over.
use Rattle.std.specs.Prelude.{ℕ, Option, Some, None, Bool, true, cond, not, ◌&&◌, ◌==◌}
use Rattle.bits.specs.Field.{field_of, bit_of}
use Rattle.record.specs.declared.kinds.Record.{Record}
use Rattle.status.specs.Entry.{t32}
use Rattle.status.specs.It.{it_of}
use Rattle.step.specs.declared.condition.Condition.{Condition}

-- what a record says of its instruction's condition: CV and COND, or that it has none; an SMC with CCKNOWNPASS 0 is known to have passed it
abbrev pub stated : Bool → ℕ → Option Condition
stated cv c = Some record { cv = cv; cond = c }

abbrev pub condition_of : Record → Option Condition
condition_of (Record.Plain r) = None
condition_of (Record.Wfx r) = stated r.cv r.cond
condition_of (Record.Mcr r) = stated r.cv r.cond
condition_of (Record.Mcrr r) = stated r.cv r.cond
condition_of (Record.Ldc r) = stated r.cv r.cond
condition_of (Record.Simd r) = stated r.cv r.cond
condition_of (Record.Call r) = None
condition_of (Record.Smc r) = cond r.ccknownpass (stated r.cv r.cond) None
condition_of (Record.InstructionAbort r) = None
condition_of (Record.DataAbort r) = None
condition_of (Record.Debug r) = None
condition_of (Record.Step r) = None
condition_of (Record.Watchpoint r) = None
condition_of (Record.SError r) = None
condition_of (Record.System r) = None

abbrev pub same : Bool → Bool → Bool
same a b = cond a b (not b)

-- the tests of the flags by COND<3:1>: EQ, CS, MI, VS, HI, GE, GT, AL
abbrev pub tested : ℕ → Bool → Bool → Bool → Bool → Bool
tested test n z c v =
    cond (test == 0b000) z
    (cond (test == 0b001) c
    (cond (test == 0b010) n
    (cond (test == 0b011) v
    (cond (test == 0b100) (c && not z)
    (cond (test == 0b101) (same n v)
    (cond (test == 0b110) (same n v && not z)
    true))))))

-- N, Z, C and V are bits 31 to 28 of the status word
abbrev pub test_of : ℕ → ℕ → Bool
test_of c w = tested (field_of c 3 1) (bit_of w 31) (bit_of w 30) (bit_of w 29) (bit_of w 28)

-- COND<0> inverts the test, but of 1111 (the sixteen conditions one by one: proofs/Conditions.antt)
unfoldable pub condition_holds : ℕ → ℕ → Bool
condition_holds c w = cond (bit_of c 0 && not (field_of c 3 0 == 0b1111)) (not (test_of c w)) (test_of c w)

-- the condition that CV 0 leaves to the status word: IT<7:4> in an IT block of a guest in T32 state, where IT<3:0> isn't 0000; else always
abbrev pub current_condition : ℕ → ℕ
current_condition w = cond (t32 w && not (field_of (it_of w) 3 0 == 0)) (field_of (it_of w) 7 4) 0b1110

abbrev pub passes_by : ℕ → Option Condition → Bool
passes_by w None = true
passes_by w (Some c) = condition_holds (cond c.cv c.cond (current_condition w)) w

unfoldable pub passes : ℕ → Record → Bool
passes w r = passes_by w (condition_of r)
