-- `line::hex_word` meets its contract. The invariant: the value of the digits so far, with the rest, gives what all of them give, and has
-- room for one more digit. Assumes nothing.
use mathlib.Core.Path.{◌≡◌, refl, sym, ap, ◌∙◌}
use mathlib.Core.List.{List}
use Prim.Native.Nat.{ℕ, suc, ◌+◌, ◌*◌, ◌^◌, ◌≤◌, ◌<◌}
use native.Mathlib.Nat.{pow-suc, pow-le-pow_right}
use native.Mathlib.Numerals.{add-one}
use native.Mathlib.Omega.{arith}
use lib.Dec.{lit<}
use lib.ListN.{length, drop, get_or}
use lib.Seq.{drop-cons, drop-length}
use Rattle.text.specs.Digit.{hex_digit}
use Rattle.std.specs.Prelude.{Option, Some, None}
use Rattle.text.proofs.Digits.{hex_below}
use Rattle.line.specs.Line.{on_digit, word_from, word_of}
use Rattle.line.proofs.hex_word.Goals as goal

-- the next digit goes on from the value so far, or ends the word
next : (digits : List ℕ) (value i : ℕ) {d : Option ℕ} → i < length digits → hex_digit (get_or digits i 0) ≡ d
    → word_from value (drop i digits) ≡ on_digit d (λ x. word_from (value * 16 + x) (drop (suc i) digits))
next digits value i more e = rw (drop-cons digits i 0) (ap (λ d. on_digit d (λ x. word_from (value * 16 + x) (drop (suc i) digits))) e)

room : (value i d : ℕ) → value < 16 ^ i → i < 16 → d < 16 → value * 16 + d < 2 ^ 64
room value i d small few digit =
    let most : i ≤ 15 = omega arith in
    let power : 16 ^ i ≤ 16 ^ 15 = pow-le-pow_right (lit< tt) most in
    omega arith

longer : (value i d : ℕ) → value < 16 ^ i → d < 16 → value * 16 + d < 16 ^ (i + 1)
longer value i d small digit = rw (add-one, pow-suc) (omega arith)

-- in the turn: the digits, the digit that was read, and what is known of it
abbrev read : goal.In_ok-digit → List ℕ
read c = c.args.digits.now

told : (c : goal.In_ok-digit) → hex_digit (get_or (read c) c.loop-byte.byte-index 0) ≡ Some c.in_ok-digit.digit
told c = sym c.hex_digit.ensures ∙ c.in_ok-digit.was

small : (c : goal.In_ok-digit) → c.in_ok-digit.digit < 16
small c = hex_below (get_or (read c) c.loop-byte.byte-index 0) (told c)

fits : (c : goal.In_ok-digit) → c.loop-byte.value * 16 + c.in_ok-digit.digit < 2 ^ 64
fits c =
    room c.loop-byte.value c.loop-byte.byte-index c.in_ok-digit.digit c.loop-byte.invariant.0 (omega arith) (small c)

pub loop-byte-init : goal.loop-byte-init
loop-byte-init c = (omega arith, refl)

pub returns-in_err-digit : goal.returns-in_err-digit
unfolding word_of
returns-in_err-digit c =
    let l = c.loop-byte in
    let digits = c.args.digits.now in
    let none : hex_digit (get_or digits l.byte-index 0) ≡ None = sym c.hex_digit.ensures ∙ c.in_err-digit.was in
    c.from_residual.ensures ∙ sym (sym l.invariant.1 ∙ next digits l.value l.byte-index (omega arith) none)

pub overflow_mul-value : goal.overflow_mul-value
overflow_mul-value c = omega (arith, fits c)

pub overflow_add-value : goal.overflow_add-value
overflow_add-value c = omega (arith, fits c)

pub loop-byte-preserved : goal.loop-byte-preserved
loop-byte-preserved c =
    let l = c.loop-byte in
    let d = c.in_ok-digit.digit in (
      longer l.value l.byte-index d l.invariant.0 (small c),
      rw add-one (sym (next (read c) l.value l.byte-index (omega arith) (told c)) ∙ l.invariant.1),
    )

pub returns : goal.returns
unfolding word_of
returns c =
    let past : length c.args.digits.now ≡ c.loop-byte.byte-index = omega arith in
    rw (← past, drop-length) at c.loop-byte.invariant.1
