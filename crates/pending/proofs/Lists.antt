-- Laws of the plain queue, over every list of kinds.
-- Assumes nothing.
use mathlib.Core.Path.{◌≡◌, refl, sym, ap, ◌∙◌, subst}
use mathlib.Core.Bool.{Bool, true, false, cond, not, ◌||◌, true≢false}
use mathlib.Core.List.{List, [], ◌∷◌, ◌++◌}
use mathlib.Core.Logic.{◌⊎◌, inl, inr}
use Prim.Native.Nat.{ℕ, suc, ◌+◌, ◌≤◌, ◌<◌}
use native.Mathlib.Omega.{arith}
use lib.ListN.{length}
use Rattle.bits.specs.Field.{digit}
use Rattle.pending.specs.declared.Kind.{Kind}
use Rattle.pending.specs.Plain.{same, waits, raised, Chosen, none, oldest, behind, chosen}
use Rattle.pending.proofs.Round.{same_kind, same_self}

-- ---- raising

pub raise_keeps : (k : Kind) (l : List Kind) → waits k l ≡ true → raised k l ≡ l
unfolding raised
raise_keeps k l w = ap (λ (b : Bool). cond b l (l ++ (k ∷ []))) w

pub raise_adds : (k : Kind) (l : List Kind) → waits k l ≡ false → raised k l ≡ (l ++ (k ∷ []))
unfolding raised
raise_adds k l w = ap (λ (b : Bool). cond b l (l ++ (k ∷ []))) w

pub waits_before : (k : Kind) (l m : List Kind) → waits k l ≡ true → waits k (l ++ m) ≡ true
waits_before k [] m w = absurd (true≢false (sym w))
waits_before k (j ∷ l) m w = by (same k j) w (waits_before k l m)
  where
    by : (b : Bool) → (b || waits k l) ≡ true → (waits k l ≡ true → waits k (l ++ m) ≡ true) → (b || waits k (l ++ m)) ≡ true
    by true w later = refl
    by false w later = later w

pub waits_behind : (k : Kind) (l m : List Kind) → waits k m ≡ true → waits k (l ++ m) ≡ true
waits_behind k [] m w = w
waits_behind k (j ∷ l) m w = by (same k j) (waits_behind k l m w)
  where
    by : (b : Bool) → waits k (l ++ m) ≡ true → (b || waits k (l ++ m)) ≡ true
    by true w = refl
    by false w = w

-- one that is raised waits
pub raised_waits : (k : Kind) (l : List Kind) → waits k (raised k l) ≡ true
unfolding raised
raised_waits k l = by (waits k l) refl
  where
    by : (b : Bool) → waits k l ≡ b → waits k (cond b l (l ++ (k ∷ []))) ≡ true
    by true w = w
    by false w = waits_behind k l (k ∷ []) (ap (λ (b : Bool). b || false) (same_self k))

-- one that waits still does after a raise
pub raise_leaves : (k j : Kind) (l : List Kind) → waits k l ≡ true → waits k (raised j l) ≡ true
unfolding raised
raise_leaves k j l w = by (waits j l)
  where
    by : (b : Bool) → waits k (cond b l (l ++ (j ∷ []))) ≡ true
    by true = w
    by false = waits_before k l (j ∷ []) w

-- ---- how many wait before a kind

abbrev pub older : Kind → List Kind → ℕ
older k [] = 0
older k (j ∷ l) = cond (same k j) 0 (suc (older k l))

pub older_below : (k : Kind) (l : List Kind) → waits k l ≡ true → older k l < length l
older_below k [] w = absurd (true≢false (sym w))
older_below k (j ∷ l) w = by (same k j) w (older_below k l)
  where
    by : (b : Bool) → (b || waits k l) ≡ true → (waits k l ≡ true → older k l < length l) → cond b 0 (suc (older k l)) < suc (length l)
    by true w later = omega arith
    by false w later = let below = later w in omega arith

older_before : (k : Kind) (l m : List Kind) → waits k l ≡ true → older k (l ++ m) ≡ older k l
older_before k [] m w = absurd (true≢false (sym w))
older_before k (j ∷ l) m w = by (same k j) w (older_before k l m)
  where
    by : (b : Bool) → (b || waits k l) ≡ true → (waits k l ≡ true → older k (l ++ m) ≡ older k l)
        → cond b 0 (suc (older k (l ++ m))) ≡ cond b 0 (suc (older k l))
    by true w later = refl
    by false w later = ap suc (later w)

-- a raise puts none before one that waits
pub raise_behind : (k j : Kind) (l : List Kind) → waits k l ≡ true → older k (raised j l) ≡ older k l
unfolding raised
raise_behind k j l w = by (waits j l)
  where
    by : (b : Bool) → older k (cond b l (l ++ (j ∷ []))) ≡ older k l
    by true = refl
    by false = older_before k l (j ∷ []) w

-- ---- choosing

-- every kind of a list has its mask bit 1
abbrev pub AllMasked : (Kind → Bool) → List Kind → Type 0
AllMasked mask [] = Unit {0}
AllMasked mask (k ∷ l) = (mask k ≡ true) × AllMasked mask l

-- THE OLDEST WHOSE MASK BIT IS 0 waits behind none whose mask bit isn't 1, and leaves those before and behind it; or every mask bit is 1
pub data Choosing (mask : Kind → Bool) (l : List Kind) : Chosen → Type 0 where
  none_open : AllMasked mask l → Choosing mask l none
  first_open : (before : List Kind) (k : Kind) (rest : List Kind) → l ≡ (before ++ (k ∷ rest)) → AllMasked mask before → mask k ≡ false
      → Choosing mask l (oldest k (before ++ rest))

pub choosing : (mask : Kind → Bool) (l : List Kind) → Choosing mask l (chosen mask l)
choosing mask [] = none_open tt
choosing mask (j ∷ l) = by (mask j) refl (choosing mask l)
  where
    more : (c : Chosen) → mask j ≡ true → Choosing mask l c → Choosing mask (j ∷ l) (behind j c)
    more c m (none_open all) = none_open (m, all)
    more c m (first_open before k rest e all unmasked) = first_open (j ∷ before) k rest (ap (λ (r : List Kind). j ∷ r) e) (m, all) unmasked

    by : (b : Bool) → mask j ≡ b → Choosing mask l (chosen mask l) → Choosing mask (j ∷ l) (cond b (behind j (chosen mask l)) (oldest j l))
    by true m later = more (chosen mask l) m later
    by false m later = first_open [] j l refl tt m

-- What a choice does to one that waits: none is chosen only where its mask bit is 1; else it is chosen itself, or it still waits, and where
-- its mask bit is 0 one fewer waits before it.
abbrev pub Passed : Kind → (Kind → Bool) → List Kind → Chosen → Type 0
Passed k mask l none = mask k ≡ true
Passed k mask l (oldest j left) = (j ≡ k) ⊎ ((waits k left ≡ true) × (digit (not (mask k)) + older k left ≤ older k l))

digit_small : (b : Bool) → digit b ≤ 1
digit_small true = omega arith
digit_small false = omega arith

pub passed : (k : Kind) (mask : Kind → Bool) (l : List Kind) → waits k l ≡ true → Passed k mask l (chosen mask l)
passed k mask [] w = absurd (true≢false (sym w))
passed k mask (j ∷ l) w = by (same k j) refl w (mask j) refl (passed k mask l)
  where
    -- one that is behind the first: what is said of the rest is said of the whole
    more : (c : Chosen) → Passed k mask l c → same k j ≡ false → Passed k mask (j ∷ l) (behind j c)
    more none p f = p
    more (oldest i left) (inl e) f = inl e
    more (oldest i left) (inr p) f =
        inr (
          ap (λ (b : Bool). b || waits k left) f ∙ p.0,
          subst (λ (b : Bool). digit (not (mask k)) + cond b 0 (suc (older k left)) ≤ cond b 0 (suc (older k l))) (sym f)
              (let h = p.1 in omega arith),
        )

    -- the first itself, which is masked
    stays : (c : Chosen) → same k j ≡ true → mask k ≡ true → Passed k mask (j ∷ l) (behind j c)
    stays none t m = m
    stays (oldest i left) t m =
        inr (
          ap (λ (b : Bool). b || waits k left) t,
          subst (λ (b : Bool). digit (not b) + older k (j ∷ left) ≤ older k (j ∷ l)) (sym m)
              (subst (λ (b : Bool). 0 + cond b 0 (suc (older k left)) ≤ cond b 0 (suc (older k l))) (sym t) (omega arith)),
        )

    by : (b : Bool) → same k j ≡ b → (b || waits k l) ≡ true → (m : Bool) → mask j ≡ m
        → (waits k l ≡ true → Passed k mask l (chosen mask l))
        → Passed k mask (j ∷ l) (cond m (behind j (chosen mask l)) (oldest j l))
    by true t w true m later = stays (chosen mask l) t (ap mask (same_kind k j t) ∙ m)
    by true t w false m later = inl (sym (same_kind k j t))
    by false f w true m later = more (chosen mask l) (later w) f
    by false f w false m later =
        inr (
          w,
          subst (λ (b : Bool). digit (not (mask k)) + older k l ≤ cond b 0 (suc (older k l))) (sym f)
              (let h = digit_small (not (mask k)) in omega arith),
        )
