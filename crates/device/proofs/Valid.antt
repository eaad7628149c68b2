-- A record that some edition has and that describes its access names a register below 31 and a size below 3, so that the call needs nothing
-- of its caller.
use mathlib.Core.Path.{◌≡◌, refl, sym, ap, ◌∙◌}
use mathlib.Core.Bool.{Bool, true, false, cond, not, ◌&&◌, ◌||◌, true≢false}
use Prim.Native.Nat.{ℕ, ◌<◌}
use native.Mathlib.Omega.{arith}
use lib.Dec.{eqb, ltb, ltb→lt}
use borrow.Author.Tests.{ltb-true, eqb-false}
use Rattle.bits.proofs.Arms.{absurd_answer}
use Rattle.bits.proofs.Booleans.{and_left, and_right, both_left, both_right}
use Rattle.iss.specs.Rule.{abort_rule, maintenance_rule}
use Rattle.bits.specs.Test.{implies}
use Rattle.record.specs.declared.kinds.DataAbort.{DataAbort}
use Rattle.record.specs.declared.origin.Origin.{Origin}
use Rattle.record.specs.declared.kinds.Record.{Record}
use Rattle.record.specs.declared.kinds.Sort.{Sort}
use Rattle.record.specs.Sort.{sort_of}
use Rattle.record.proofs.Sorts.{data_abort_sort}
use Rattle.rule.specs.Has.{has}
use Rattle.step.specs.Over.{had}
use Rattle.layout_rule.specs.Rule.{no_syndrome_rule, valid_syndrome_rule, syndrome_rule, extension_from, data_rule}
use Rattle.rule.proofs.Having.{has_fits, has_layout}
use Rattle.step.proofs.Having.{had_some}
use Rattle.std.specs.Prelude.{Some, None}
use Rattle.device.specs.Finish.{described_by, described_of}

module _ (a : DataAbort) (e : ℕ) (h : has Origin.AArch32 e (Record.DataAbort a) ≡ true) (v : a.isv ≡ true) where
  rule_of : syndrome_rule Origin.AArch32 a ≡ true
  rule_of =
      let layout = has_layout Origin.AArch32 e (Record.DataAbort a) h in
      let rules = and_right (abort_rule a.fnv a.ea a.s1ptw a.code) (data_rule Origin.AArch32 a) layout in
      let front = and_left (syndrome_rule Origin.AArch32 a && extension_from Origin.AArch32 a) (maintenance_rule a.cm a.wnr) rules in
      and_left (syndrome_rule Origin.AArch32 a) (extension_from Origin.AArch32 a) front

  valid : valid_syndrome_rule Origin.AArch32 a ≡ true
  valid =
      ap (λ (b : Bool). implies b (valid_syndrome_rule Origin.AArch32 a)) (sym v)
      ∙ and_right (a.isv || no_syndrome_rule a) (implies a.isv (valid_syndrome_rule Origin.AArch32 a)) rule_of

  srt_fits : a.srt < 32
  srt_fits =
      let t = has_fits Origin.AArch32 e (Record.DataAbort a) h in
      ltb→lt a.srt 32 (both_left (ltb a.srt 32) _ (both_right (ltb a.sas 4) _ t))

  not_31 : not (eqb a.srt 31) ≡ true
  not_31 =
      let n = not a.sf in
      let s = ltb a.sas 3 in
      let p = not (eqb a.srt 15) in
      let q = not (eqb a.srt 31) in
      let c = not a.cm in
      let w = not a.s1ptw in
      and_right (n && s && p) q (and_left (n && s && p && q) c (and_left (n && s && p && q && c) w valid))

  sas_below : a.sas < 3
  sas_below =
      let n = not a.sf in
      let s = ltb a.sas 3 in
      let p = not (eqb a.srt 15) in
      let q = not (eqb a.srt 31) in
      let c = not a.cm in
      let w = not a.s1ptw in
      ltb-true a.sas 3
      (and_right n s
      (and_left (n && s) p
      (and_left (n && s && p) q (and_left (n && s && p && q) c (and_left (n && s && p && q && c) w valid)))))

  srt_below : a.srt < 31
  srt_below = let d : eqb a.srt 31 ≡ false = flip (eqb a.srt 31) not_31 in let k = eqb-false a.srt 31 d in let f = srt_fits
      in omega arith
    where
      flip : (b : Bool) → not b ≡ true → b ≡ false
      flip true e = absurd (true≢false (sym e))
      flip false e = refl

-- only a data abort with ISV 1 describes an access
valid_sort : (s : Sort) {a : DataAbort} → described_by s ≡ Some a → (s ≡ Sort.DataAbort a) × (a.isv ≡ true)
valid_sort Sort.Plain e = absurd_answer (cc)
valid_sort Sort.Addressed e = absurd_answer (cc)
valid_sort (Sort.InstructionAbort x) e = absurd_answer (cc)
valid_sort (Sort.DataAbort x) {a} e = go x.isv refl e
  where
    go : (b : Bool) → x.isv ≡ b → cond b (Some x) None ≡ Some a → (Sort.DataAbort x ≡ Sort.DataAbort a) × (a.isv ≡ true)
    go true i q = let s : x ≡ a = cc in (ap Sort.DataAbort s, ap (λ (d : DataAbort). d.isv) (sym s) ∙ i)
    go false i q = absurd_answer (cc)
valid_sort (Sort.SError x) e = absurd_answer (cc)

pub only_valid : (r : Record) {a : DataAbort} → described_of r ≡ Some a → (r ≡ Record.DataAbort a) × (a.isv ≡ true)
only_valid r e = let s = valid_sort (sort_of r) e in (data_abort_sort r s.0, s.1)

pub access_valid : (r : Record) {a : DataAbort} → had r ≡ true → described_of r ≡ Some a → (a.srt < 31) × (a.sas < 3)
access_valid r {a} h d =
    let o = only_valid r d in
    let found = had_some r h in
    let e = found.0 in
    let it : has Origin.AArch32 e (Record.DataAbort a) ≡ true = sym (ap (has Origin.AArch32 e) o.0) ∙ found.2 in
    (srt_below a e it o.1, sas_below a e it o.1)
