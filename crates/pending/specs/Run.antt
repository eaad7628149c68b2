-- Runs of calls (02, C-19), over any type of guest state: those that were made of the code, and the plain queue's.
use Rattle.std.specs.Prelude.{◌≡◌, Bool, not, ◌&&◌, List, [], ◌∷◌, ◌++◌, ℕ, ◌+◌, ◌<◌}
use Rattle.bits.specs.Field.{digit}
use Rattle.pending.specs.declared.Kind.{Kind}
use Rattle.pending.specs.declared.Queue.{Queue}
use Rattle.pending.specs.Plain.{raised}
use Rattle.pending.specs.Reading.{list_of}
use Rattle.pending.specs.Step.{Delivery, Answer, delivered, step_to, taken, step_of}

-- a call: a kind is raised, or a step is made on a state of its own
pub data Call (S : Type 0) : Type 0 where
  raise : Kind → Call S
  deliver : S → Call S

-- a call that was made, with what came back beside the queue: of a step its answer and the state after it
pub data Made (S : Type 0) : Type 0 where
  raising : Kind → Made S
  delivering : S → Answer → S → Made S

abbrev pub call_of : {S : Type 0} → Made S → Call S
call_of (raising k) = raise k
call_of (delivering s answer after) = deliver s

abbrev pub calls_of : {S : Type 0} → List (Made S) → List (Call S)
calls_of [] = []
calls_of (m ∷ made) = call_of m ∷ calls_of made

module _ {S : Type 0} (d : Delivery S) where
  -- THE PLAIN QUEUE'S RUN: each call as it answers with l waiting, what it leaves waiting, and so on to the last
  abbrev pub answered : List Kind → Call S → Made S
  answered l (raise k) = raising k
  answered l (deliver s) = delivering s (step_of d l s).answer (step_of d l s).state

  abbrev pub left_by : List Kind → Call S → List Kind
  left_by l (raise k) = raised k l
  left_by l (deliver s) = (step_of d l s).waiting

  abbrev pub run_from : List Kind → List (Call S) → List (Made S)
  run_from l [] = []
  run_from l (c ∷ calls) = answered l c ∷ run_from (left_by l c) calls

  abbrev pub last_from : List Kind → List (Call S) → List Kind
  last_from l [] = l
  last_from l (c ∷ calls) = last_from (left_by l c) calls

  -- what the code promises of a call that was given the queue q and left the queue r
  abbrev pub Promised : Queue → Made S → Queue → Type 0
  Promised q (raising k) r = list_of r ≡ raised k (list_of q)
  Promised q (delivering s answer after) r = step_to answer (list_of r) after ≡ step_of d (list_of q) s

  -- A RUN OF THE CODE: calls made one after the other, each as promised, the first given the queue q and every other one the queue that the
  -- call before it left; and the queue that the last one left
  abbrev pub Run : Queue → List (Made S) → Queue → Type 0
  Run q [] last = q ≡ last
  Run q (m ∷ made) last = (r : Queue) × Promised q m r × Run r made last

  -- a step counts for a kind where it is taken and finds the kind's mask bit 0
  abbrev pub counts : Kind → S → Bool
  counts k s = taken d s && not (d.mask s k)

  -- how many steps of a run count for a kind
  abbrev pub counted : Kind → List (Made S) → ℕ
  counted k [] = 0
  counted k (raising j ∷ made) = counted k made
  counted k (delivering s answer after ∷ made) = digit (counts k s) + counted k made

  -- a run delivers a kind in a step before which fewer than n count for the kind: at the latest in the n-th that counts, since that step
  -- itself counts (`delivering_counts`, proofs/Steps.antt)
  pub record DeliveredBy (n : ℕ) (k : Kind) (made : List (Made S)) : Type 0 where
    pub before : List (Made S)
    pub state : S
    pub after : S
    pub rest : List (Made S)
    pub there : made ≡ (before ++ (delivering state (delivered k) after ∷ rest))
    pub fewer : counted k before < n
