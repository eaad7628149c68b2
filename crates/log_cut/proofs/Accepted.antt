-- OF AN ACCEPTED LOG every entry stands whole. And no log has more of them than bytes.
-- Assumes nothing.
use mathlib.Core.Path.{◌≡◌, refl}
use mathlib.Core.Bool.{Bool, true, false, cond}
use mathlib.Core.List.{List}
use Prim.Native.Nat.{ℕ, ◌+◌, ◌-◌, ◌/◌, ◌≤◌, ◌<◌}
use native.Mathlib.Nat.{min-le_right, div-le_self, le-mul_of_pos_right}
use native.Mathlib.Omega.{arith}
use borrow.Author.Tests.{le-leb}
use lib.ListN.{length, length-drop}
use Rattle.log_section.specs.Section.{injection_size, count_of, end_of, whole_of, after_of, rest_after, whole_after}
use Rattle.log_section.specs.Log.{entries_of}
use Rattle.trap_log.specs.Answer.{read_of}
use Rattle.std.specs.Prelude.{Ok}
use Rattle.log_section.proofs.Found.{whole_is}
use Rattle.trap_log.proofs.RoundTrip.{accepts}
use Rattle.log_cut.specs.Whole.{standing, whole_entries, count_in}
use Rattle.log_cut.proofs.Rests.{past_end}
use Rattle.log_cut.proofs.Standings.{all_standing}
use Rattle.log_cut.proofs.Given.{standing_counted, injections_counted}

module _ (s : List ℕ) where
  pub accepted_whole : {gone : ℕ} → read_of s ≡ Ok gone → whole_entries s ≡ entries_of s
  unfolding whole_entries entries_of
  accepted_whole e =
      let a = accepts s e in
      let whole : whole_after s 3 ≡ true =
      simp (
        le-leb 4 (length (rest_after s 3)) a.injections.counted,
        le-leb (end_of injection_size (rest_after s 3)) (length (rest_after s 3))
            a.injections.within,
      ) in
      rw (
        all_standing 1 (rest_after s 0) (omega arith) a.editions,
        all_standing 8 (rest_after s 1) (omega arith) a.syndromes,
        all_standing 16 (rest_after s 2) (omega arith) a.addresses,
        whole,
      )

-- the entries of a section, and what is left after it, are no more than what stands behind its count
few_in : (size : ℕ) (rest : List ℕ) → 0 < size → standing size rest + length (after_of size rest) ≤ length rest - 4
few_in size rest some = go (whole_of size rest) refl
  where
    go : (t : Bool) → whole_of size rest ≡ t → standing size rest + length (after_of size rest) ≤ length rest - 4
    go true e =
        let w = whole_is size rest e in
        omega (
          arith,
          all_standing size rest some w,
          w.within,
          le-mul_of_pos_right (count_of rest) some,
          length-drop (end_of size rest) rest,
        )
    go false e =
        omega (
          arith,
          past_end size rest e,
          length-drop (end_of size rest) rest,
          min-le_right (count_of rest) ((length rest - 4) / size),
          div-le_self (length rest - 4) size,
        )

few_injections : (rest : List ℕ) → cond (whole_of injection_size rest) (count_of rest) 0 ≤ length rest
few_injections rest = go (whole_of injection_size rest) refl
  where
    go : (t : Bool) → whole_of injection_size rest ≡ t → cond t (count_of rest) 0 ≤ length rest
    go true e = omega (arith, (whole_is injection_size rest e).within)
    go false e = omega arith

pub few_whole : (s : List ℕ) → count_in (whole_entries s) 0 + count_in (whole_entries s) 1 + count_in (whole_entries s) 3 ≤ length s - 4
few_whole s =
    omega (
      arith,
      standing_counted s 0 (omega arith) (λ e. omega arith),
      standing_counted s 1 (omega arith) (λ e. omega arith),
      injections_counted s,
      few_in 1 (rest_after s 0) (omega arith),
      few_in 8 (rest_after s 1) (omega arith),
      few_in 16 (rest_after s 2) (omega arith),
      few_injections (rest_after s 3),
    )
