-- Short editions (request C-11 of document 02): 0, and 1, which has RAS. Their masks have two bits.
use Rattle.std.specs.Prelude.{ℕ, Bool, ltb}
use Rattle.edition.specs.Mask.{mask_below}

-- how many short editions there are
abbrev pub editions : ℕ
editions = 2

abbrev pub is_edition : ℕ → Bool
is_edition e = ltb e editions

-- the mask of the short editions of which a test holds
unfoldable pub mask_of : (ℕ → Bool) → ℕ
mask_of test = mask_below editions test
