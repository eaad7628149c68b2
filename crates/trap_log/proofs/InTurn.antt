-- The sections of a log as code finds them, one after the other, and the answer that each way leads to.
-- Assumes nothing.
use mathlib.Core.Path.{◌≡◌, sym, ap, ◌∙◌}
use mathlib.Core.Bool.{Bool, true, false}
use mathlib.Core.List.{List}
use Prim.Native.Nat.{ℕ, ◌+◌, ◌-◌, ◌≤◌, ◌<◌}
use native.Mathlib.Omega.{arith}
use borrow.Author.Tests.{le-leb, eq-eqb, ne_eqb}
use lib.Dec.{lit<}
use lib.ListN.{length, take, drop, length-drop}
use Rattle.std.specs.Prelude.{Some, None, Ok, Err}
use Rattle.log_section.specs.Section.{injection_size, section_of, rest_after, count_after}
use Rattle.log_section.specs.Log.{injection_in, entries_in, domains_fit, gone_through}
use Rattle.log_section.specs.declared.section.Section.{Section}
use Rattle.log_section.proofs.Found.{Found, found, not_found, handed_on}
use Rattle.trap_log.specs.Answer.{read_of}
use Rattle.trap_log.specs.declared.answer.LogRefusal.TheVariants.{CutShort, LeftOver, Unequal, WideDomain}

-- what is left behind a section
abbrev pub behind : List ℕ → Section → List ℕ
behind s section = take (length s - section.end) (drop section.end s)

module _ (s : List ℕ) (short : length s ≤ 65536) where
  pub first_cut : section_of 1 s ≡ None → Err (CutShort 1) ≡ read_of s
  unfolding read_of
  first_cut e = sym (simp (le-leb (length s) 65536 short, not_found 1 s e))

  module _ {a : Section} (p : section_of 1 s ≡ Some a) where
    first : Found 1 s a.count a.end
    first = found 1 s p

    second_is : behind s a ≡ rest_after s 1
    second_is = handed_on 1 (lit< tt) s first

    pub second_cut : section_of 8 (behind s a) ≡ None → Err (CutShort 2) ≡ read_of s
    unfolding read_of
    second_cut e =
        let none = not_found 8 (rest_after s 1) (ap (section_of 8) (sym second_is) ∙ e) in
        sym (simp (le-leb (length s) 65536 short, first.test, none))

    module _ {b : Section} (q : section_of 8 (behind s a) ≡ Some b) where
      second : Found 8 (rest_after s 1) b.count b.end
      second = found 8 (rest_after s 1) (ap (section_of 8) (sym second_is) ∙ q)

      third_is : behind (behind s a) b ≡ rest_after s 2
      third_is = ap (λ (t : List ℕ). behind t b) second_is ∙ handed_on 8 (lit< tt) (rest_after s 1) second

      pub third_cut : section_of 16 (behind (behind s a) b) ≡ None → Err (CutShort 3) ≡ read_of s
      unfolding read_of
      third_cut e =
          let none = not_found 16 (rest_after s 2) (ap (section_of 16) (sym third_is) ∙ e) in
          sym (simp (le-leb (length s) 65536 short, first.test, second.test, none))

      module _ {d : Section} (r : section_of 16 (behind (behind s a) b) ≡ Some d) where
        third : Found 16 (rest_after s 2) d.count d.end
        third = found 16 (rest_after s 2) (ap (section_of 16) (sym third_is) ∙ r)

        abbrev pub fourth_rest : List ℕ
        fourth_rest = behind (behind (behind s a) b) d

        fourth_is : fourth_rest ≡ rest_after s 3
        fourth_is = ap (λ (t : List ℕ). behind t d) third_is ∙ handed_on 16 (lit< tt) (rest_after s 2) third

        pub fourth_cut : section_of injection_size fourth_rest ≡ None → Err (CutShort 4) ≡ read_of s
        unfolding read_of
        fourth_cut e =
            let none = not_found injection_size (rest_after s 3) (ap (section_of injection_size) (sym fourth_is) ∙ e) in
            sym (simp (le-leb (length s) 65536 short, first.test, second.test, third.test, none))

        module _ {g : Section} (t : section_of injection_size fourth_rest ≡ Some g) where
          fourth : Found injection_size (rest_after s 3) g.count g.end
          fourth = found injection_size (rest_after s 3) (ap (section_of injection_size) (sym fourth_is) ∙ t)

          left_is : length (rest_after s 4) ≡ length fourth_rest - g.end
          left_is = length-drop _ (rest_after s 3) ∙ rw (fourth.ends, fourth_is)

          pub left_over : g.end < length fourth_rest → Err LeftOver ≡ read_of s
          unfolding read_of
          left_over h =
              let some = ne_eqb (length (rest_after s 4)) 0 (λ z. absurd (omega (arith, left_is))) in
              sym (simp (le-leb (length s) 65536 short, first.test, second.test, third.test, fourth.test, some))

          module _ (ends : length fourth_rest ≤ g.end) where
            none_left : length (rest_after s 4) ≡ 0
            none_left = omega (arith, left_is)

            pub unequal : (b.count ≡ d.count → ⊥) → Err Unequal ≡ read_of s
            unfolding read_of
            unequal h =
                let none = eq-eqb (length (rest_after s 4)) 0 none_left in
                let other = ne_eqb (count_after s 1) (count_after s 2) (λ z. h (second.counts ∙ z ∙ sym third.counts)) in
                sym (simp (le-leb (length s) 65536 short, first.test, second.test, third.test, fourth.test, none, other))

            module _ (agree : b.count ≡ d.count) where
              abbrev fit : Bool
              fit = domains_fit (entries_in injection_size injection_in g.count (drop 4 fourth_rest))

              fit_is : fit ≡ domains_fit (entries_in injection_size injection_in (count_after s 3) (drop 4 (rest_after s 3)))
              fit_is = rw (fourth.counts, fourth_is)

              same : count_after s 1 ≡ count_after s 2
              same = sym second.counts ∙ agree ∙ third.counts

              pub wide : fit ≡ false → Err WideDomain ≡ read_of s
              unfolding read_of
              wide h =
                  let none = eq-eqb (length (rest_after s 4)) 0 none_left in
                  let same = eq-eqb (count_after s 1) (count_after s 2) same in
                  let not = sym fit_is ∙ h in
                  sym (simp (le-leb (length s) 65536 short, first.test, second.test, third.test, fourth.test, none, same, not))

              pub accepted : fit ≡ true → Ok (4 + a.count + b.count + d.count + g.count) ≡ read_of s
              unfolding read_of
              accepted h =
                  let none = eq-eqb (length (rest_after s 4)) 0 none_left in
                  let same = eq-eqb (count_after s 1) (count_after s 2) same in
                  let all = sym fit_is ∙ h in
                  let gone : 4 + a.count + b.count + d.count + g.count ≡ gone_through s =
                  omega (arith, first.counts, second.counts, third.counts, fourth.counts) in
                  rw gone (sym (simp (le-leb (length s) 65536 short, first.test, second.test, third.test, fourth.test, none, same, all)))
