-- `log_calls::knucklepin_log_write_raw` meets its contract: numbers and buffer are those of the writer.
-- Assumes nothing.
use mathlib.Core.Path.{◌≡◌, ap, ◌∙◌}
use mathlib.Core.List.{List}
use Prim.Native.Nat.{ℕ}
use Rattle.log_section.specs.Log.{log_of}
use Rattle.log_writer.specs.Lists.{Lists, entries_from}
use Rattle.log_writer.specs.Write.{number_of, length_in, buffer_after, Writing}
use Rattle.std.specs.Prelude.{Result}
use Rattle.log_writer.specs.declared.answer.WriteRefusal.{WriteRefusal}
use Rattle.log_calls.specs.Calls.{WrittenLog}
use Rattle.log_calls.proofs.knucklepin_log_write_raw.Goals as goal

told : (l : Lists) (before after : List ℕ) {a : Result ℕ WriteRefusal} {n size : ℕ} → Writing l before after a → n ≡ number_of a → size ≡ length_in a
    → WrittenLog l before n after size
told l before after p number size =
    record {
      answer = number ∙ ap number_of p.answer;
      size = size ∙ ap length_in p.answer;
      buffer = p.buffer ∙ ap (λ (x : Result ℕ WriteRefusal). buffer_after x (log_of (entries_from l)) before) p.answer;
    }

pub returns : goal.returns
returns c = told _ _ _ c.write_raw-written.ensures c.number.ensures c.length_in.ensures
