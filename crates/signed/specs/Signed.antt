-- A signed number (01: "The correction is a signed number; the link is PC plus it, modulo 2^32"; 02, C-18: "the first address modulo 2^32,
-- the signed change of the base"; C-22: "less a stated signed correction, modulo 2^32").
use Rattle.std.specs.Prelude.{ℕ, ◌-◌, ◌%◌, ◌^◌, ℤ, pos, negsuc, ◌+ℤ◌, neg_ℤ}
use Rattle.signed.specs.declared.Signed.{Signed}
use Rattle.signed.specs.declared.Signed.TheVariants.{Plus, Minus}

abbrev pub signed : Signed → ℤ
signed (Plus n) = pos n
signed (Minus n) = neg_ℤ (pos n)

-- a signed number modulo 2^32; `negsuc n` is -(n + 1)
abbrev pub modulo : ℤ → ℕ
modulo (pos n) = n % 2 ^ 32
modulo (negsuc n) = 2 ^ 32 - 1 - n % 2 ^ 32

-- a word plus a signed number, modulo 2^32
unfoldable pub sum_of : ℕ → ℤ → ℕ
sum_of word n = modulo (pos word +ℤ n)

-- a word less a signed number, modulo 2^32
abbrev pub difference_of : ℕ → ℤ → ℕ
difference_of word n = sum_of word (neg_ℤ n)
