-- The ways to an answer of `rewrite`, the promise that each keeps, and what it says in the request's words.
-- Assumes nothing.
use mathlib.Core.Path.{◌≡◌, refl, sym, ap, ◌∙◌, subst}
use mathlib.Core.Bool.{Bool, true, false, cond}
use mathlib.Core.List.{List, [], ◌∷◌, ◌++◌}
use mathlib.Core.Logic.{◌⊎◌, ⊎_elim, ◌↔◌}
use Prim.Native.Nat.{ℕ, ◌≤◌, ◌<◌}
use native.Mathlib.Omega.{arith}
use borrow.Author.Tests.{leb-true, leb-false, le-leb, lt-leb}
use lib.Dec.{leb, eqb}
use Rattle.std.specs.Prelude.{Result, Ok, Err}
use lib.ListN.{length, drop}
use Rattle.bits.specs.Decide.{Test, needs, decide, relabel, AllPass, FailsWith}
use Rattle.bits.proofs.Deciding.{decide_relabel, decide_append, answer_is, all_pass, all_pass_relabel, Failing, first_failing, decided_with_exactly}
use Rattle.log_section.specs.Number.{Bytes}
use Rattle.log_section.specs.Log.{entries_of, gone_through}
use Rattle.trap_log.specs.Answer.{read_tests, read_sections, read_of, Reading}
use Rattle.trap_log.specs.Answer.{number_of as number_read}
use Rattle.trap_log.specs.declared.answer.LogRefusal.{LogRefusal}
use Rattle.trap_log.specs.declared.answer.LogRefusal.TheVariants.{TooLong, CutShort, LeftOver, Unequal, WideDomain}
use Rattle.trap_log.proofs.Answers.{each_refusal}
use Rattle.log_writer.specs.Lists.{lists_of}
use Rattle.log_writer.specs.Write.{written_of, buffer_after, Writing}
use Rattle.log_writer.specs.declared.answer.WriteRefusal.{WriteRefusal}
use Rattle.log_writer.specs.declared.answer.WriteRefusal.TheVariants.{NoRoom}
use Rattle.log_writer.proofs.Again.{same_bytes, written_again, no_room_again}
use Rattle.log_rewrite.specs.Rewrite.{Taken, number_of, section_of, length_of, rewrite_tests, rewrite_numbers, rewritten_of, buffer_again, unread, unwritten}
use Rattle.log_rewrite.specs.Rewrite.{Rewriting}
use Rattle.log_rewrite.specs.declared.RewriteRefusal.{RewriteRefusal}
use Rattle.log_rewrite.specs.declared.RewriteRefusal.TheVariants.{Unread, Unwritten}
use Rattle.log_rewrite.proofs.Given.{taken}

either_way : (t : Bool) (n : ℕ) → cond t n n ≡ n
either_way true n = refl
either_way false n = refl

-- a reader's answer handed on keeps its number, and its refusal leaves the buffer
number_unread : (a : Result ℕ LogRefusal) → number_of (unread a) ≡ number_read a
number_unread (Ok gone) = refl
number_unread (Err refusal) = refl

unread_untouched : (a : Result ℕ LogRefusal) (s before : List ℕ) → (number_read a ≡ 0 → ⊥) → buffer_again (unread a) s before ≡ before
unread_untouched (Ok gone) s before never = absurd (never refl)
unread_untouched (Err refusal) s before never = refl

refusal_numbered : (refusal : LogRefusal) → number_read (Err refusal) ≡ 0 → ⊥
refusal_numbered TooLong e = absurd (omega arith)
refusal_numbered (CutShort section) e = absurd (omega arith)
refusal_numbered LeftOver e = absurd (omega arith)
refusal_numbered Unequal e = absurd (omega arith)
refusal_numbered WideDomain e = absurd (omega arith)

-- number, section and length follow from the answer
pub promised : (s before after : List ℕ) (a : Result ℕ RewriteRefusal) → a ≡ rewritten_of s (length before) → after ≡ buffer_again a s before
    → Rewriting s before after a
unfolding rewritten_of
promised s before after a e b =
    let tests = rewrite_tests s (length before) in
    let last : Result ℕ RewriteRefusal = Ok (length s) in
    let P : Result ℕ RewriteRefusal → Type 0 = λ x. length_of x ≡ cond (eqb (number_of x) 0) (length s) 0 in
    record {
      answer = e;
      number = ap number_of e ∙ decide_relabel number_of tests last;
      section =
          ap section_of e ∙ decide_relabel section_of tests last
          ∙ decide_append (read_sections s) (needs (leb (length s) (length before)) 0 ∷ []) 0
          ∙ ap (decide (read_sections s)) (either_way (leb (length s) (length before)) 0);
      written = subst P (sym e) (answer_is P tests last (refl, (refl, (refl, (refl, (refl, (refl, (refl, (refl, (refl, tt))))))))) refl);
      buffer = b;
    }

module _ (s : List ℕ) (room : ℕ) where
  abbrev fits : List (Test (Result ℕ RewriteRefusal))
  fits = needs (leb (length s) room) (Err (Unwritten NoRoom)) ∷ []

  abbrev last : Result ℕ RewriteRefusal
  last = Ok (length s)

  -- every test of the reader passes, or the first that fails has a number that is not 0
  abbrev Refuses : Type 0
  Refuses = Failing (λ a. number_read a ≡ 0 → ⊥) unread (read_tests s)

  by_tests : AllPass (read_tests s) ⊎ Refuses
  by_tests =
      let P : Result ℕ LogRefusal → Type 0 = λ a. number_read a ≡ 0 → ⊥ in
      first_failing P unread (read_tests s)
      (each_refusal P s (λ z. absurd (omega arith)) (λ n p q z. absurd (omega arith)) (λ z. absurd (omega arith))
      (λ z. absurd (omega arith))
      (λ z. absurd (omega arith)))

  -- the reader's answer, where a test fails
  refuses : (f : Refuses) → unread (read_of s) ≡ unread f.0
  unfolding read_of
  refuses f = decide_relabel unread (read_tests s) (Ok (gone_through s)) ∙ f.3 (unread (Ok (gone_through s)))

  accepts : AllPass (read_tests s) → number_read (read_of s) ≡ 0
  unfolding read_of
  accepts p = ap number_read (all_pass (read_tests s) (Ok (gone_through s)) p)

  pub refused_again : (number_read (read_of s) ≡ 0 → ⊥) → unread (read_of s) ≡ rewritten_of s room
  unfolding rewritten_of
  refused_again never =
      ⊎_elim (λ p. absurd (never (accepts p)))
      (λ f. refuses f ∙ sym (decide_append (relabel unread (read_tests s)) fits last ∙ f.3 (decide fits last)))
      by_tests

  pub taken_again : Taken s → decide fits last ≡ rewritten_of s room
  unfolding rewritten_of
  taken_again t =
      ⊎_elim (λ p. sym (decide_append (relabel unread (read_tests s)) fits last
      ∙ all_pass_relabel unread (read_tests s) (decide fits last) p))
      (λ f. absurd (f.1 (sym (number_unread f.0) ∙ ap number_of (sym (refuses f)) ∙ number_unread (read_of s) ∙ t)))
      by_tests

  -- what the writer answers of the entries of a log that is taken
  module _ (b : Bytes s) (t : Taken s) where
    pub written_so : unwritten (written_of (lists_of (entries_of s)) room) ≡ decide fits last
    written_so = by (leb (length s) room) refl
      where
        by : (r : Bool) → leb (length s) room ≡ r → unwritten (written_of (lists_of (entries_of s)) room) ≡ cond r last (Err (Unwritten NoRoom))
        by true e = ap unwritten (written_again s b (taken s t) room (leb-true (length s) room e))
        by false e = ap unwritten (no_room_again s b (taken s t) room (leb-false (length s) room e))

-- the buffer after the writer's answer
buffer_so : (a : Result ℕ WriteRefusal) (s before : List ℕ) → buffer_after a s before ≡ buffer_again (unwritten a) s before
buffer_so (Ok n) s before = refl
buffer_so (Err refusal) s before = refl

-- the promise, of a log that is taken
pub rewritten_so : (s before after : List ℕ) → Bytes s → Taken s → (a : Result ℕ WriteRefusal) → Writing (lists_of (entries_of s)) before after a
    → Rewriting s before after (unwritten a)
rewritten_so s before after b t a w =
    promised s before after (unwritten a)
    (ap unwritten w.answer ∙ written_so s (length before) b t ∙ taken_again s (length before) t)
    (w.buffer ∙ ap (λ (log : List ℕ). buffer_after a log before) (same_bytes s b (taken s t)) ∙ buffer_so a s before)

-- what the code answers, by what it was given
pub refused_so : (s before : List ℕ) {a : Result ℕ LogRefusal} {refusal : LogRefusal} {x : Result ℕ RewriteRefusal} → Reading s a → a ≡ Err refusal
    → x ≡ Err (Unread refusal) → Rewriting s before before x
refused_so s before {a} {refusal} {x} r e f =
    let told : read_of s ≡ Err refusal = sym r.answer ∙ e in
    let never : number_read (read_of s) ≡ 0 → ⊥ = λ z. refusal_numbered refusal (ap number_read (sym told) ∙ z) in
    subst (Rewriting s before before) (sym f)
    (promised s before before (Err (Unread refusal)) (ap unread (sym told) ∙ refused_again s (length before) never) refl)

pub rewritten_as : (s before after : List ℕ) → Bytes s → Taken s → {a b : Result ℕ WriteRefusal} {x : Result ℕ RewriteRefusal}
    → Writing (lists_of (entries_of s)) before after a → a ≡ b → x ≡ unwritten b → Rewriting s before after x
rewritten_as s before after bytes t {a} {b} {x} w e f =
    subst (Rewriting s before after) (sym (f ∙ ap unwritten (sym e))) (rewritten_so s before after bytes t a w)

-- ANY LOG SO ACCEPTED, WRITTEN AGAIN, GIVES THE SAME BYTES where it has room, and what lies past them stays; else nothing changes
module _ (s before after : List ℕ) (a : Result ℕ RewriteRefusal) (r : Rewriting s before after a) where
  pub same_bytes_again : Taken s → length s ≤ length before → after ≡ s ++ drop (length s) before
  same_bytes_again t h =
      let room = le-leb (length s) (length before) h in
      let e = r.answer ∙ sym (taken_again s (length before) t)
      ∙ ap (λ (x : Bool). cond x (Ok (length s)) (Err (Unwritten NoRoom))) room in
      r.buffer ∙ ap (λ (x : Result ℕ RewriteRefusal). buffer_again x s before) e

  pub no_room_untouched : Taken s → length before < length s → after ≡ before
  no_room_untouched t h =
      let room = lt-leb (length s) (length before) h in
      let e = r.answer ∙ sym (taken_again s (length before) t)
      ∙ ap (λ (x : Bool). cond x (Ok (length s)) (Err (Unwritten NoRoom))) room in
      r.buffer ∙ ap (λ (x : Result ℕ RewriteRefusal). buffer_again x s before) e

  pub refused_untouched : (Taken s → ⊥) → after ≡ before
  refused_untouched never =
      r.buffer ∙ ap (λ (x : Result ℕ RewriteRefusal). buffer_again x s before) (r.answer ∙ sym (refused_again s (length before) never))
      ∙ unread_untouched (read_of s) s before never

  -- each number exactly when its test is the first that fails; 13 is that of four tests
  pub rewrite_exactly : (k : ℕ) → (number_of a ≡ k) ↔ FailsWith k (rewrite_numbers s (length before))
  rewrite_exactly k =
      let law = decided_with_exactly (rewrite_numbers s (length before)) k in
      (λ e. law.0 (sym r.number ∙ e), λ f. r.number ∙ law.1 f)
