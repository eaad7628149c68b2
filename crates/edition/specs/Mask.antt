-- An edition mask (01, 'Editions'): bit e is 1 when edition e is meant.
use Rattle.std.specs.Prelude.{ℕ, zero, suc, ◌+◌, ◌*◌, ◌^◌, Bool}
use Rattle.bits.specs.Field.{digit}
use Rattle.edition.specs.Feature.{editions}

-- bits n - 1 to 0: bit e is 1 where the test holds of e
abbrev pub mask_below : ℕ → (ℕ → Bool) → ℕ
mask_below zero test = 0
mask_below (suc n) test = digit (test n) * 2 ^ n + mask_below n test

-- the mask of the editions of which a test holds
unfoldable pub mask_of : (ℕ → Bool) → ℕ
mask_of test = mask_below editions test

-- how many numbers below n pass a test
abbrev pub count_below : ℕ → (ℕ → Bool) → ℕ
count_below zero test = 0
count_below (suc n) test = digit (test n) + count_below n test
