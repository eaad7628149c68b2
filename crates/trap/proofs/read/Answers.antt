-- `trap::read` meets its contract: where the syndrome reader takes the word, the answer is the registers'.
-- Assumes nothing.
use mathlib.Core.Path.{◌≡◌, ◌∙◌, sym, ap}
use Rattle.std.specs.Prelude.{Result, Ok, Err, MatchResult, is_ok}
use Rattle.edition.specs.declared.Refusal.{Refusal}
use Rattle.record.specs.declared.kinds.Record.{Record}
use Rattle.trap.specs.Answer.{answer_read, answer_of}
use Rattle.trap_refusal.specs.declared.TrapRefusal.{TrapRefusal}
use Rattle.trap.proofs.Promises.{shows}
use Rattle.trap.proofs.read.Goals as goal

-- what `map_err` hands on as taken was taken
taken : (a : Result Record Refusal) {b : Result Record TrapRefusal} {r : Record} (Q : Refusal → Type 0) → MatchResult a (λ x. b ≡ Ok x) Q
    → is_ok b ≡ is_ok a → b ≡ Ok r → a ≡ Ok r
taken (Ok x) Q m v e = cc
taken (Err f) Q m v e = cc

pub returns : goal.returns
unfolding answer_of
returns c =
    let a = c.args in
    shows a.origin a.esr a.edition a.far a.hpfar
    (c.answer_record.ensures ∙ sym (ap (λ (x : Result Record Refusal). answer_read a.origin a.edition x a.far a.hpfar)
    (sym c.read.ensures.answer ∙ taken _ _ c.map_err.ensures.cases c.map_err.ensures.variant c.in_ok-r.was)))
