-- A byte is stored, or has no room and is stored nowhere.
use Rattle.std.proofs.Common.{◌≡◌, sym, ◌∙◌, ℕ, List, ◌+◌, ◌-◌, ◌≤◌, ◌<◌, length, drop, get_or, set, add-one, arith}
use lib.ListN.{length-set}
use lib.Seq.{sets, drop-cons}
use Rattle.text.specs.Append.{end_of}
use Rattle.text.proofs.Appending.{sets_out}
use Rattle.text.proofs.Text.append.Goals as goal
use Rattle.text.proofs.Text.append.Goals.{then-end-self, else-end-self}

stored : (bytes text : List ℕ) (end i : ℕ) → i < length bytes
    → sets (set text end (get_or bytes i 0)) (end + 1) (drop (i + 1) bytes) ≡ sets text end (drop i bytes)
stored bytes text end i more = rw (add-one i, add-one end, drop-cons bytes i 0)

left_out : (bytes text : List ℕ) (end i : ℕ) → length text ≤ end → sets text end (drop (i + 1) bytes) ≡ sets text end (drop i bytes)
left_out bytes text end i full = sets_out (drop (i + 1) bytes) text end full ∙ sym (sets_out (drop i bytes) text end full)

end-stored : (room end n i : ℕ) → end < room → i < n → end_of room (end + 1) (n - (i + 1)) ≡ end_of room end (n - i)
end-stored room end n i fits more = omega arith

end-left-out : (room end n i : ℕ) → room ≤ end → end_of room end (n - (i + 1)) ≡ end_of room end (n - i)
end-left-out room end n i full = omega arith

pub loop-i-preserved : goal.loop-i-preserved
loop-i-preserved c =
    let l = c.loop-i in
    let bytes = c.args.bytes.now in
    let text = l.self.bytes.now in
    let room = length c.args.self.now.bytes.now in
    elim c.if-end-self.branch [
      | then-end-self w ↦ (
        rw w.self-is (length-set text l.end (get_or bytes l.i 0) ∙ l.invariant.0),
        rw w.self-is l.invariant.1,
        rw (w.self-is, w.end-is) (stored bytes text l.end l.i (omega arith) ∙ l.invariant.2),
        rw w.end-is (end-stored room l.end (length bytes) l.i (omega (arith, l.invariant.0)) (omega arith) ∙ l.invariant.3),
      )
      | else-end-self w ↦ (
        rw w.self-is l.invariant.0,
        rw w.self-is l.invariant.1,
        rw (w.self-is, w.end-is) (left_out bytes text l.end l.i (omega arith) ∙ l.invariant.2),
        rw w.end-is (end-left-out room l.end (length bytes) l.i (omega (arith, l.invariant.0)) ∙ l.invariant.3),
      )
    ]
