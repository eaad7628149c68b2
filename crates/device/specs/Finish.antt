-- A load or store that is finished (02, C-17): the answer, and the whole state after it.
use Rattle.std.specs.Prelude.{ℕ, Option, Some, None, is_some, Ok, Err, Bool, cond, List, [], ◌∷◌}
use Rattle.bits.specs.Decide.{Test, needs, decide}
use Rattle.record.specs.declared.kinds.DataAbort.{DataAbort}
use Rattle.record.specs.Sort.{sort_of}
use Rattle.record.specs.declared.kinds.Record.{Record}
use Rattle.record.specs.declared.kinds.Sort.{Sort}
use Rattle.status.specs.Sound.{sound}
use Rattle.exception.specs.declared.state.Guest.{Guest}
use Rattle.exception.specs.State.{register_in, with_register}
use Rattle.step.specs.Step.{stepped}
use Rattle.step.specs.Over.{had}
use Rattle.step.specs.declared.refusal.OnwardRefusal.{OnwardRefusal}
use Rattle.step.specs.declared.refusal.OnwardRefusal.TheVariants.{NoEdition, UnsoundStatus, NotThis}
use Rattle.device.specs.declared.answer.Moved.TheVariants.{Loaded, Stored}
use Rattle.step.specs.declared.over.Onward.{Onward}
use Rattle.device.specs.declared.answer.Moved.{Moved}
use Rattle.data.specs.Data.{big_endian, transferred, extended}

-- ---- the tests

-- 18: a data abort with ISV 1 describes its access, and no other record does
abbrev pub described_by : Sort → Option DataAbort
described_by Sort.Plain = None
described_by Sort.Addressed = None
described_by (Sort.InstructionAbort r) = None
described_by (Sort.DataAbort r) = cond r.isv (Some r) None
described_by (Sort.SError r) = None

abbrev pub described_of : Record → Option DataAbort
described_of r = described_by (sort_of r)

abbrev pub is_access : Option DataAbort → Bool
is_access d = is_some d

-- the tests in their order, each with its number; 0 comes where none fails
abbrev pub access_numbers : Guest → Record → List (Test ℕ)
access_numbers s r =
    needs (had r) 5
    ∷ needs (sound s.marks s.status) 9
    ∷ needs (is_access (described_of r)) 18
    ∷ []

-- ---- the access

-- a store gives the device the register's low bits, and a load puts the device's value into the register
abbrev pub stored : Guest → DataAbort → Onward Moved
stored s r =
    record {
      answer = Ok (Stored (transferred r.sas (big_endian s.status) (register_in s.regs r.srt)));
      state = stepped s s.regs r.il;
    }

abbrev pub loaded : Guest → DataAbort → ℕ → Onward Moved
loaded s r value =
    record {
      answer = Ok Loaded;
      state =
          stepped s
          (with_register s.regs r.srt (extended r.sas r.sse (transferred r.sas (big_endian s.status) value)))
          r.il;
    }

unfoldable pub accessed : Guest → DataAbort → ℕ → Onward Moved
accessed s r value = cond r.wnr (stored s r) (loaded s r value)

-- ---- the call

-- a refusal gives back the state as it came
abbrev pub refusing : OnwardRefusal → Guest → Onward Moved
refusing refusal s = record { answer = Err refusal; state = s }

abbrev pub by_description : Guest → Option DataAbort → ℕ → Onward Moved
by_description s (Some r) value = accessed s r value
by_description s None value = refusing NotThis s

unfoldable pub finished : Guest → Record → ℕ → Onward Moved
finished s r value =
    decide
    (needs (had r) (refusing NoEdition s)
    ∷ needs (sound s.marks s.status) (refusing UnsoundStatus s)
    ∷ [])
    (by_description s (described_of r) value)
