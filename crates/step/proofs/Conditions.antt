-- The sixteen conditions, one by one, and what passes: for every status word.
use Rattle.std.proofs.Common.{◌≡◌, ℕ, None, Bool, true, false, cond, not, ◌&&◌, eqb, refl, ap, ◌∙◌, ap₂}
use Rattle.bits.specs.Field.{field_of, bit_of}
use Rattle.record.specs.declared.kinds.Record.{Record}
use Rattle.record.specs.declared.kinds.Smc.{Smc}
use Rattle.status.specs.Entry.{t32}
use Rattle.status.specs.It.{it_of}
use Rattle.step.specs.Condition.{stated, condition_of, same, condition_holds, current_condition, passes_by, passes}

module _ (w : ℕ) where
  -- N of a status word
  abbrev n : Bool
  n = bit_of w 31

  -- Z of it
  abbrev z : Bool
  z = bit_of w 30

  -- C of it
  abbrev c : Bool
  c = bit_of w 29

  -- V of it
  abbrev v : Bool
  v = bit_of w 28

  pub eq : condition_holds 0b0000 w ≡ z
  unfolding condition_holds
  eq = refl

  pub ne : condition_holds 0b0001 w ≡ not z
  unfolding condition_holds
  ne = refl

  pub cs : condition_holds 0b0010 w ≡ c
  unfolding condition_holds
  cs = refl

  pub cc_clear : condition_holds 0b0011 w ≡ not c
  unfolding condition_holds
  cc_clear = refl

  pub mi : condition_holds 0b0100 w ≡ n
  unfolding condition_holds
  mi = refl

  pub pl : condition_holds 0b0101 w ≡ not n
  unfolding condition_holds
  pl = refl

  pub vs : condition_holds 0b0110 w ≡ v
  unfolding condition_holds
  vs = refl

  pub vc : condition_holds 0b0111 w ≡ not v
  unfolding condition_holds
  vc = refl

  pub hi : condition_holds 0b1000 w ≡ (c && not z)
  unfolding condition_holds
  hi = refl

  pub ls : condition_holds 0b1001 w ≡ not (c && not z)
  unfolding condition_holds
  ls = refl

  pub ge : condition_holds 0b1010 w ≡ same n v
  unfolding condition_holds
  ge = refl

  pub lt : condition_holds 0b1011 w ≡ not (same n v)
  unfolding condition_holds
  lt = refl

  pub gt : condition_holds 0b1100 w ≡ (same n v && not z)
  unfolding condition_holds
  gt = refl

  pub le : condition_holds 0b1101 w ≡ not (same n v && not z)
  unfolding condition_holds
  le = refl

  pub al : condition_holds 0b1110 w ≡ true
  unfolding condition_holds
  al = refl

  pub fifteen : condition_holds 0b1111 w ≡ true
  unfolding condition_holds
  fifteen = refl

-- ---- what passes

-- a record without a condition passes, and so does an SMC that is known to have passed its own
pub unconditional : (w : ℕ) (r : Record) → condition_of r ≡ None → passes w r ≡ true
unfolding passes
unconditional w r e = ap (passes_by w) e

pub known_passed : (w : ℕ) (r : Smc) → r.ccknownpass ≡ false → passes w (Record.Smc r) ≡ true
known_passed w r e = unconditional w (Record.Smc r) (ap (λ (b : Bool). cond b (stated r.cv r.cond) None) e)

-- the instruction stands in an IT block
abbrev pub in_block : ℕ → Bool
in_block w = not (eqb (field_of (it_of w) 3 0) 0)

-- CV 1: COND says; CV 0: IT says in an IT block of a guest in T32 state, and else the instruction passes
module _ (w : ℕ) (r : Record) {cond-field : ℕ} where
  pub by_cond : condition_of r ≡ stated true cond-field → passes w r ≡ condition_holds cond-field w
  unfolding passes
  by_cond e = ap (passes_by w) e

  by_status : condition_of r ≡ stated false cond-field → passes w r ≡ condition_holds (current_condition w) w
  unfolding passes
  by_status e = ap (passes_by w) e

  pub by_it : condition_of r ≡ stated false cond-field → t32 w ≡ true → in_block w ≡ true
      → passes w r ≡ condition_holds (field_of (it_of w) 7 4) w
  by_it e t b =
      by_status e ∙ ap (λ (x : Bool). condition_holds (cond x (field_of (it_of w) 7 4) 0b1110) w) (both t b)
    where
      both : t32 w ≡ true → in_block w ≡ true → (t32 w && in_block w) ≡ true
      both p q = ap₂ ◌&&◌ p q

  pub a32_passes : condition_of r ≡ stated false cond-field → t32 w ≡ false → passes w r ≡ true
  a32_passes e t =
      by_status e ∙ ap (λ (x : Bool). condition_holds (cond (x && in_block w) (field_of (it_of w) 7 4) 0b1110) w) t ∙ al w
