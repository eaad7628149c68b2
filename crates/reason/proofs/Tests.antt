-- Tests each of which has a number of some kind, which 0 is not: the answer is 0 where every test passes, and else of that kind.
-- Assumes nothing.
use mathlib.Core.Path.{◌≡◌, refl, sym, ap, ◌∙◌}
use mathlib.Core.Bool.{Bool, true, false, cond, ◌&&◌, true≢false}
use mathlib.Core.List.{List, [], ◌∷◌}
use Prim.Native.Nat.{ℕ}
use lib.Dec.{T}
use Rattle.bits.specs.Decide.{Test, needs, decide, AllPass}
use Rattle.bits.proofs.Booleans.{both_left, both_right, is_true}

module _ (kind : ℕ → Bool) where
  abbrev pub numbered : List (Test ℕ) → Bool
  numbered [] = true
  numbered (needs passes number ∷ tests) = kind number && numbered tests

  pub all_passed : kind 0 ≡ false → (tests : List (Test ℕ)) → T (numbered tests) → decide tests 0 ≡ 0 → AllPass tests
  all_passed zero [] t d = tt
  all_passed zero (needs passes number ∷ tests) t d = go passes (all_passed zero tests (both_right (kind number) (numbered tests) t)) d
    where
      go : (b : Bool) → (decide tests 0 ≡ 0 → AllPass tests) → cond b (decide tests 0) number ≡ 0 → (b ≡ true) × AllPass tests
      go true rest e = (refl, rest e)
      go false rest e =
          absurd (true≢false (sym (is_true (kind number) (both_left (kind number) (numbered tests) t)) ∙ ap kind e ∙ zero))

  pub of_some_test : (tests : List (Test ℕ)) → T (numbered tests) → (decide tests 0 ≡ 0 → ⊥) → T (kind (decide tests 0))
  of_some_test [] t other = absurd (other refl)
  of_some_test (needs true number ∷ tests) t other = of_some_test tests (both_right (kind number) (numbered tests) t) other
  of_some_test (needs false number ∷ tests) t other = both_left (kind number) (numbered tests) t
