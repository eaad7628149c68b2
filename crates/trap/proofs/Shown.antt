-- The whole trap: what is shown holds exactly the addresses that are known, a register that isn't known has no influence, two editions that
-- both show a trap show the same one, and each refusal is given exactly.
-- Assumes nothing.
use mathlib.Core.Path.{◌≡◌, refl, ◌∙◌, sym, ap, ap₂}
use mathlib.Core.Bool.{Bool, true, false, cond, not, ◌||◌, true≢false}
use mathlib.Core.List.{[], ◌∷◌}
use mathlib.Core.Logic.{◌↔◌}
use Rattle.std.specs.Prelude.{Option, Some, None, Result, Ok, Err}
use Prim.Native.Nat.{ℕ, ◌+◌, ◌≤◌}
use lib.Dec.{lit≤}
use Rattle.bits.specs.Field.{field_of}
use Rattle.bits.specs.Decide.{needs, decide, FirstFails}
use Rattle.bits.proofs.Arms.{absurd_answer}
use Rattle.edition.specs.Feature.{editions}
use Rattle.edition.specs.Mask.{mask_of, count_below}
use Rattle.edition.specs.declared.Refusal.{Refusal}
use Rattle.edition.specs.declared.Refusal.TheVariants.{OtherEditions}
use Rattle.form.proofs.Calls.{OthersHave}
use Rattle.promise.proofs.Promises.{first_exactly, number_is}
use Rattle.record.specs.Addresses.{addresses_of}
use Rattle.record.specs.declared.origin.Origin.{Origin}
use Rattle.record.specs.declared.kinds.Addresses.{Addresses}
use Rattle.registers.specs.declared.Esr.{Esr}
use Rattle.record.specs.declared.kinds.Record.{Record}
use Rattle.address.specs.Known.{far_counts, hpfar_counts}
use Rattle.address.specs.Page.{hpfar_rule, far_rule, page_address}
use Rattle.address.specs.Shown.{virtual_of, intermediate_of}
use Rattle.registers.specs.declared.Far.{Far}
use Rattle.registers.specs.declared.Hpfar.{Hpfar}
use Rattle.address.specs.declared.IntermediateAddress.{IntermediateAddress}
use Rattle.address.proofs.Registers.{unknown_intermediate, intermediate_hidden, virtual_hidden, walked, intermediate_shown}
use Rattle.syndrome.specs.Reading.{has_word, read_of}
use Rattle.syndrome.proofs.Demand2.{read_exactly, same_record}
use Rattle.syndrome.proofs.Refusals.{read_six_exactly}
use Rattle.trap.specs.Numbers.{number_answer}
use Rattle.trap.specs.Trap.{trap_from, trap_of, record_in, virtual_in, intermediate_in}
use Rattle.trap.specs.Answer.{hpfar_right, far_right, answer_record, answer_read, answer_of, trap_list}
use Rattle.trap.specs.declared.Trap.{Trap}
use Rattle.trap_refusal.specs.declared.TrapRefusal.{TrapRefusal}
use Rattle.trap.proofs.Promises.{shows}

-- ---- what a trap holds

record_in_lem : (a : Option Addresses) (r : Record) (far : Far) (hpfar : Hpfar) → record_in (trap_from a r far hpfar) ≡ r
record_in_lem None r far hpfar = refl
record_in_lem (Some Addresses.Virtual) r far hpfar = refl
record_in_lem (Some (Addresses.Abort fnv s1ptw code)) r far hpfar = refl

virtual_in_lem : (a : Option Addresses) (r : Record) (far : Far) (hpfar : Hpfar) → virtual_in (trap_from a r far hpfar) ≡ virtual_of a far
virtual_in_lem None r far hpfar = refl
virtual_in_lem (Some Addresses.Virtual) r far hpfar = refl
virtual_in_lem (Some (Addresses.Abort fnv s1ptw code)) r far hpfar = refl

intermediate_in_lem : (a : Option Addresses) (r : Record) (far : Far) (hpfar : Hpfar)
    → intermediate_in (trap_from a r far hpfar) ≡ intermediate_of a far hpfar
intermediate_in_lem None r far hpfar = refl
intermediate_in_lem (Some Addresses.Virtual) r far hpfar = refl
intermediate_in_lem (Some (Addresses.Abort fnv s1ptw code)) r far hpfar = refl

-- a register's test where it doesn't count
free : (counts right : Bool) → counts ≡ false → (not counts || right) ≡ true
free counts right h = ap (λ (b : Bool). not b || right) h

module _ (o : Origin) where
  -- ---- when a trap is shown

  -- a trap is shown: its syndrome is taken, the registers that count are right, and the trap is made from them
  pub record ShownBy (e : ℕ) (esr : Esr) (far : Far) (hpfar : Hpfar) (t : Trap) : Type 0 where
    pub syndrome : Record
    pub taken : read_of o e esr ≡ Ok syndrome
    pub hpfar_right_lem : hpfar_right e (addresses_of syndrome) hpfar ≡ true
    pub far_right_lem : far_right o (addresses_of syndrome) far ≡ true
    pub trap : trap_of syndrome far hpfar ≡ t

  module _ (e : ℕ) (esr : Esr) (far : Far) (hpfar : Hpfar) where
    at_read : {a : Result Record Refusal} → read_of o e esr ≡ a → answer_of o e esr far hpfar ≡ answer_read o e a far hpfar
    unfolding answer_of
    at_read is = ap (λ (x : Result Record Refusal). answer_read o e x far hpfar) is

    tested : (r : Record) (t : Trap) (h f : Bool)
        → decide (needs h (Err TrapRefusal.Hpfar) ∷ needs f (Err TrapRefusal.Far) ∷ [])
        (Ok (trap_of r far hpfar)) ≡ Ok t
        → (h ≡ true) × (f ≡ true) × (trap_of r far hpfar ≡ t)
    tested r t true true q = (refl, refl, cc)
    tested r t true false q = absurd_answer (cc q)
    tested r t false f q = absurd_answer (cc q)

    shown_by : (t : Trap) → answer_of o e esr far hpfar ≡ Ok t → ShownBy e esr far hpfar t
    unfolding answer_record
    shown_by t shown = by (read_of o e esr) refl
      where
        by : (a : Result Record Refusal) → read_of o e esr ≡ a → ShownBy e esr far hpfar t
        by (Ok r) is =
            let passed = tested r t (hpfar_right e (addresses_of r) hpfar) (far_right o (addresses_of r) far) (sym (at_read is) ∙ shown) in
            record { syndrome = r; taken = is; hpfar_right_lem = passed.0; far_right_lem = passed.1; trap = passed.2 }
        by (Err f) is = absurd_answer (cc (at_read is, shown))

    by_shown : (t : Trap) → ShownBy e esr far hpfar t → answer_of o e esr far hpfar ≡ Ok t
    unfolding answer_record
    by_shown t x =
        at_read x.taken
        ∙ ap₂
        (λ (h f : Bool). decide (needs h (Err TrapRefusal.Hpfar) ∷ needs f (Err TrapRefusal.Far) ∷ [])
        (Ok (trap_of x.syndrome far hpfar)))
        x.hpfar_right_lem x.far_right_lem
        ∙ ap Ok x.trap

    -- A TRAP IS SHOWN exactly when its syndrome is taken and the registers that count are right
    pub shown_exactly : (t : Trap) → (answer_of o e esr far hpfar ≡ Ok t) ↔ ShownBy e esr far hpfar t
    shown_exactly t = (shown_by t, by_shown t)

    -- WHAT IS SHOWN: the record that the syndrome reader takes; FAR exactly where it counts; and where HPFAR counts the page, alone with
    -- S1PTW 1, and with FAR bits 11:0 otherwise, and nothing where it doesn't
    pub shown_holds : (t : Trap) (r : Record) → answer_of o e esr far hpfar ≡ Ok t → read_of o e esr ≡ Ok r
        → (record_in t ≡ r)
        × (virtual_in t ≡ cond (far_counts (addresses_of r)) (Some far.0) None)
        × (hpfar_counts (addresses_of r) ≡ true
        → intermediate_in t
        ≡ cond (walked (addresses_of r)) (Some (IntermediateAddress.Page (page_address hpfar)))
        (Some (IntermediateAddress.Byte (page_address hpfar + field_of far.0 11 0))))
        × (hpfar_counts (addresses_of r) ≡ false → intermediate_in t ≡ None)
    shown_holds t r shown is =
        let x = shown_by t shown in
        let same : x.syndrome ≡ r = cc (x.taken, is) in
        let made : t ≡ trap_of r far hpfar = sym x.trap ∙ ap (λ (s : Record). trap_of s far hpfar) same in
        let a = addresses_of r in (
          ap record_in made ∙ record_in_lem a r far hpfar,
          ap virtual_in made ∙ virtual_in_lem a r far hpfar,
          λ counts. ap intermediate_in made ∙ intermediate_in_lem a r far hpfar ∙ intermediate_shown a far hpfar counts,
          λ not_known. ap intermediate_in made ∙ intermediate_in_lem a r far hpfar ∙ intermediate_hidden a far hpfar not_known,
        )

    -- ---- refusals

    -- 1 to 6 are the syndrome reader's: 7 and 8 never hide them
    pub refused_alike : (refusal : Refusal)
        → (answer_of o e esr far hpfar ≡ Err (TrapRefusal.Syndrome refusal)) ↔ (read_of o e esr ≡ Err refusal)
    unfolding answer_record
    refused_alike refusal = (λ t. by (read_of o e esr) refl t, λ is. at_read is)
      where
        none : (r : Record) (h f : Bool)
            → decide (needs h (Err TrapRefusal.Hpfar) ∷ needs f (Err TrapRefusal.Far) ∷ [])
            (Ok (trap_of r far hpfar))
            ≡ Err (TrapRefusal.Syndrome refusal) → ⊥
        none r true true q = absurd_answer (cc q)
        none r true false q = absurd_answer (cc q)
        none r false f q = absurd_answer (cc q)

        by : (a : Result Record Refusal) → read_of o e esr ≡ a → answer_of o e esr far hpfar ≡ Err (TrapRefusal.Syndrome refusal)
            → read_of o e esr ≡ Err refusal
        by (Ok r) is t = absurd (none r (hpfar_right e (addresses_of r) hpfar) (far_right o (addresses_of r) far)
            (sym (at_read is) ∙ t))
        by (Err f) is t = cc (at_read is, t, is)

    -- refusal 6 exactly, whatever the two address registers hold
    pub trap_six_exactly : (mask count : ℕ)
        → (answer_of o e esr far hpfar ≡ Err (TrapRefusal.Syndrome (OtherEditions mask count)))
        ↔ (OthersHave editions (λ x. has_word o x esr.0) e × (mask ≡ mask_of (λ x. has_word o x esr.0))
        × (count ≡ count_below editions (λ x. has_word o x esr.0)))
    trap_six_exactly mask count =
        let alike = refused_alike (OtherEditions mask count) in
        let six = read_six_exactly o e esr mask count in
        (λ t. six.0 (alike.0 t), λ h. alike.1 (six.1 h))

    -- each number exactly, 0 to 8
    pub trap_refused_exactly : (k : ℕ) → (number_answer (answer_of o e esr far hpfar) ≡ k) ↔ FirstFails k (trap_list o e esr far hpfar)
    trap_refused_exactly = first_exactly (trap_list o e esr far hpfar) tt (shows o esr e far hpfar refl)

    pub trap_numbers : number_answer (answer_of o e esr far hpfar) ≤ 8
    trap_numbers =
        number_is (λ k. k ≤ 8) (trap_list o e esr far hpfar) (shows o esr e far hpfar refl)
        (lit≤ tt, (lit≤ tt, (lit≤ tt, (lit≤ tt, (lit≤ tt, (lit≤ tt, (lit≤ tt, (lit≤ tt, tt)))))))) (lit≤ tt)

  -- ---- registers that don't count

  module _ (e : ℕ) (r : Record) where
    record_hpfar : (far : Far) (one other : Hpfar) → hpfar_counts (addresses_of r) ≡ false
        → answer_record o e r far one ≡ answer_record o e r far other
    unfolding answer_record
    record_hpfar far one other h =
        ap₂
        (λ (b : Bool) (t : Trap). decide (needs b (Err TrapRefusal.Hpfar)
        ∷ needs (far_right o (addresses_of r) far) (Err TrapRefusal.Far) ∷ []) (Ok t))
        (free (hpfar_counts (addresses_of r)) (hpfar_rule e one) h ∙ sym (free (hpfar_counts (addresses_of r)) (hpfar_rule e other) h))
        (by (addresses_of r) h)
      where
        by : (a : Option Addresses) → hpfar_counts a ≡ false → trap_from a r far one ≡ trap_from a r far other
        by None k = refl
        by (Some Addresses.Virtual) k = refl
        by (Some (Addresses.Abort fnv s1ptw code)) k =
            let a = Some (Addresses.Abort fnv s1ptw code) in
            ap (λ (i : Option IntermediateAddress). Trap.Abort record { syndrome = r; address = virtual_of a far; intermediate = i })
            (intermediate_hidden a far one k ∙ sym (intermediate_hidden a far other k))

    record_far : (one other : Far) (hpfar : Hpfar) → far_counts (addresses_of r) ≡ false
        → answer_record o e r one hpfar ≡ answer_record o e r other hpfar
    unfolding answer_record
    record_far one other hpfar h =
        ap₂
        (λ (b : Bool) (t : Trap). decide (needs (hpfar_right e (addresses_of r) hpfar) (Err TrapRefusal.Hpfar)
        ∷ needs b (Err TrapRefusal.Far) ∷ []) (Ok t))
        (free (far_counts (addresses_of r)) (far_rule o one) h ∙ sym (free (far_counts (addresses_of r)) (far_rule o other) h))
        (by (addresses_of r) h)
      where
        by : (a : Option Addresses) → far_counts a ≡ false → trap_from a r one hpfar ≡ trap_from a r other hpfar
        by None k = refl
        by (Some Addresses.Virtual) k = absurd (true≢false k)
        by (Some (Addresses.Abort fnv s1ptw code)) k =
            let a = Some (Addresses.Abort fnv s1ptw code) in
            let none = unknown_intermediate a k in
            ap₂ (λ (v : Option ℕ) (i : Option IntermediateAddress). Trap.Abort record { syndrome = r; address = v; intermediate = i })
            (virtual_hidden a one k ∙ sym (virtual_hidden a other k))
            (intermediate_hidden a one hpfar none ∙ sym (intermediate_hidden a other hpfar none))

  -- a register doesn't count in the record that the syndrome reader takes, if it takes one
  abbrev pub LeavesOut : (Option Addresses → Bool) → ℕ → Esr → Type 0
  LeavesOut counts e esr = (r : Record) → read_of o e esr ≡ Ok r → counts (addresses_of r) ≡ false

  -- HPFAR isn't known: it has no influence on the answer
  pub hpfar_ignored : (e : ℕ) (esr : Esr) (far : Far) (one other : Hpfar) → LeavesOut hpfar_counts e esr
      → answer_of o e esr far one ≡ answer_of o e esr far other
  unfolding answer_of
  hpfar_ignored e esr far one other out = by (read_of o e esr) out
    where
      by : (a : Result Record Refusal) → ((r : Record) → a ≡ Ok r → hpfar_counts (addresses_of r) ≡ false)
          → answer_read o e a far one ≡ answer_read o e a far other
      by (Ok r) h = record_hpfar e r far one other (h r refl)
      by (Err f) h = refl

  -- FAR isn't known: it has no influence on the answer
  pub far_ignored : (e : ℕ) (esr : Esr) (one other : Far) (hpfar : Hpfar) → LeavesOut far_counts e esr
      → answer_of o e esr one hpfar ≡ answer_of o e esr other hpfar
  unfolding answer_of
  far_ignored e esr one other hpfar out = by (read_of o e esr) out
    where
      by : (a : Result Record Refusal) → ((r : Record) → a ≡ Ok r → far_counts (addresses_of r) ≡ false)
          → answer_read o e a one hpfar ≡ answer_read o e a other hpfar
      by (Ok r) h = record_far e r one other hpfar (h r refl)
      by (Err f) h = refl

  -- ---- DEMAND 3 for addresses: two editions that both show a trap show the same one, its virtual address and its address answer included

  pub same_trap : (a b : ℕ) (esr : Esr) (far : Far) (hpfar : Hpfar) (t s : Trap) → answer_of o a esr far hpfar ≡ Ok t
      → answer_of o b esr far hpfar ≡ Ok s → t ≡ s
  same_trap a b esr far hpfar t s shown-a shown_b =
      let x = (shown_exactly a esr far hpfar t).0 shown-a in
      let y = (shown_exactly b esr far hpfar s).0 shown_b in
      let hx = (read_exactly o a esr x.syndrome).0 x.taken in
      let hy = (read_exactly o b esr y.syndrome).0 y.taken in
      sym x.trap
      ∙ ap (λ (r : Record). trap_of r far hpfar) (same_record o a b x.syndrome y.syndrome hx.0 hy.0 (hx.1 ∙ sym hy.1))
      ∙ y.trap
