-- The ways to an answer of the writer, by its tests; the promise that each keeps; and the four sections that a log is put together from.
-- Assumes nothing.
use mathlib.Core.Path.{◌≡◌, refl, sym, ap, ◌∙◌, subst}
use mathlib.Core.Bool.{true, false, cond}
use mathlib.Core.List.{List, ◌++◌, append_assoc}
use Prim.Native.Nat.{ℕ, ◌+◌, ◌*◌, ◌≤◌, ◌<◌, min}
use native.Mathlib.Omega.{arith}
use borrow.Author.Tests.{le-leb, lt-leb, eq-eqb, ne_eqb}
use lib.Dec.{eqb}
use Rattle.std.specs.Prelude.{Result, Ok, Err}
use lib.ListN.{length, drop, length-append}
use lib.Seq.{sets, sets-eq}
use Rattle.bits.proofs.Deciding.{decide_relabel, answer_is}
use Rattle.log_section.specs.Section.{injection_size}
use Rattle.log_section.specs.Log.{byte, word, pair, injection, domains_fit, section_bytes, log_of}
use Rattle.trap_log.proofs.RoundTrip.{numbers_length, pairs_length}
use Rattle.log_writer.specs.Lists.{Lists, paired, entries_from}
use Rattle.log_writer.specs.Write.{number_of, length_in, length_by, write_tests, written_of, buffer_after, Writing}
use Rattle.log_writer.specs.declared.answer.WriteRefusal.{WriteRefusal}
use Rattle.log_writer.specs.declared.answer.WriteRefusal.TheVariants.{TooLong, Unequal, NoRoom, WideDomain}
use Rattle.log_writer.proofs.Putting.{sets_both, paired_length}

-- number and length follow from the answer
pub promised : (l : Lists) (before after : List ℕ) (a : Result ℕ WriteRefusal) → a ≡ written_of l (length before)
    → after ≡ buffer_after a (log_of (entries_from l)) before → Writing l before after a
unfolding written_of
promised l before after a e b =
    let P : Result ℕ WriteRefusal → Type 0 = λ x. length_in x ≡ cond (eqb (number_of x) 0) (length_by l) 0 in
    let tests = write_tests l (length before) in
    record {
      answer = e;
      number = ap number_of e ∙ decide_relabel number_of tests (Ok (length_by l));
      written = subst P (sym e) (answer_is P tests (Ok (length_by l)) (refl, (refl, (refl, (refl, tt)))) refl);
      buffer = b;
    }

module _ (l : Lists) (room : ℕ) where
  pub too_long_lem : 65536 < length_by l → Err TooLong ≡ written_of l room
  unfolding written_of
  too_long_lem h = sym (simp (lt-leb (length_by l) 65536 h))

  module _ (short : length_by l ≤ 65536) where
    pub other_fars : (length l.syndromes ≡ length l.fars → ⊥) → Err Unequal ≡ written_of l room
    unfolding written_of
    other_fars h = sym (simp (le-leb (length_by l) 65536 short, ne_eqb (length l.syndromes) (length l.fars) h))

    module _ (fars_agree : length l.syndromes ≡ length l.fars) where
      pub other_hpfars : (length l.syndromes ≡ length l.hpfars → ⊥) → Err Unequal ≡ written_of l room
      unfolding written_of
      other_hpfars h =
          sym (simp (
            le-leb (length_by l) 65536 short,
            eq-eqb (length l.syndromes) (length l.fars) fars_agree,
            ne_eqb (length l.syndromes) (length l.hpfars) h,
          ))

      module _ (hpfars_agree : length l.syndromes ≡ length l.hpfars) where
        pub wide_domain_lem : domains_fit l.injections ≡ false → Err WideDomain ≡ written_of l room
        unfolding written_of
        wide_domain_lem wide =
            sym (simp (
              le-leb (length_by l) 65536 short,
              eq-eqb (length l.syndromes) (length l.fars) fars_agree,
              eq-eqb (length l.syndromes) (length l.hpfars) hpfars_agree,
              wide,
            ))

        module _ (fit : domains_fit l.injections ≡ true) where
          pub no_room_lem : room < length_by l → Err NoRoom ≡ written_of l room
          unfolding written_of
          no_room_lem h =
              sym (simp (
                le-leb (length_by l) 65536 short,
                eq-eqb (length l.syndromes) (length l.fars) fars_agree,
                eq-eqb (length l.syndromes) (length l.hpfars) hpfars_agree,
                fit,
                lt-leb (length_by l) room h,
              ))

          pub has_room : length_by l ≤ room → Ok (length_by l) ≡ written_of l room
          unfolding written_of
          has_room h =
              sym (simp (
                le-leb (length_by l) 65536 short,
                eq-eqb (length l.syndromes) (length l.fars) fars_agree,
                eq-eqb (length l.syndromes) (length l.hpfars) hpfars_agree,
                fit,
                le-leb (length_by l) room h,
              ))

-- the length that the code works out, which stops one past the longest log
pub long_by : (n all : ℕ) → n ≡ min all 65537 → 65536 < n → 65536 < all
long_by n all e h = omega arith

pub short_by : (n all : ℕ) → n ≡ min all 65537 → n ≤ 65536 → n ≡ all
short_by n all e h = omega arith

-- four parts put one behind the other, and what lies past them
four_parts : (a b c d out : List ℕ) (second third fourth end : ℕ) → second ≡ length a → third ≡ second + length b
    → fourth ≡ third + length c
    → end ≡ fourth + length d → end ≤ length out
    → sets (sets (sets (sets out 0 a) second b) third c) fourth d ≡ (a ++ (b ++ (c ++ d))) ++ drop end out
four_parts a b c d out second third fourth end e₂ e₃ e₄ e h =
    let l₂ = length-append a b in
    let l₃ = length-append (a ++ b) c in
    let l₄ = length-append (a ++ b ++ c) d in
    let whole : a ++ b ++ c ++ d ≡ a ++ (b ++ (c ++ d)) = append_assoc (a ++ b) c d ∙ append_assoc a b (c ++ d) in
    let n : 0 + length (a ++ b ++ c ++ d) ≡ end = omega arith in
    ap (λ (l : List ℕ). sets (sets l third c) fourth d) (sets_both a b out 0 second (omega arith))
    ∙ ap (λ (l : List ℕ). sets l fourth d) (sets_both (a ++ b) c out 0 third (omega arith))
    ∙ sets_both (a ++ b ++ c) d out 0 fourth (omega arith)
    ∙ sets-eq (a ++ b ++ c ++ d) out 0 (omega arith)
    ∙ rw (n, whole)

-- the log's four sections
module _ (l : Lists) (out : List ℕ) (agree : length l.fars ≡ length l.hpfars) where
  abbrev addresses : List ℕ
  addresses = section_bytes pair (paired l.fars l.hpfars)

  pub sections_put : (second third fourth end : ℕ) → second ≡ 0 + 4 + length l.editions → third ≡ second + 4 + length l.syndromes * 8
      → fourth ≡ third + 4 + length l.fars * 16 → end ≡ fourth + 4 + length l.injections * 2 → end ≤ length out
      → sets (sets (sets (sets out 0 (section_bytes byte l.editions)) second (section_bytes word l.syndromes)) third addresses) fourth
      (section_bytes injection l.injections)
      ≡ log_of (entries_from l) ++ drop end out
  unfolding log_of
  sections_put second third fourth end e₂ e₃ e₄ e h =
      let l₁ = numbers_length 1 l.editions in
      let l₂ = numbers_length 8 l.syndromes in
      let l₃ = pairs_length (paired l.fars l.hpfars) in
      let n = paired_length l.fars l.hpfars agree in
      let l₄ = numbers_length injection_size l.injections in
      four_parts (section_bytes byte l.editions) (section_bytes word l.syndromes) addresses (section_bytes injection l.injections) out
      second third fourth end (omega arith) (omega arith) (omega arith) (omega arith) h
