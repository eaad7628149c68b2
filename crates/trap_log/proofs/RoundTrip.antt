-- The laws of request C-14 on the format: a log that is accepted is the log of its entries, and the log of any entries is accepted with
-- them. Assumes nothing.
use mathlib.Core.Path.{◌≡◌, refl, sym, ap, subst, ◌∙◌}
use mathlib.Core.Bool.{true}
use mathlib.Core.List.{List, [], ◌∷◌, ◌++◌, append_assoc, append-nil}
use Prim.Native.Nat.{ℕ, zero, suc, ◌+◌, ◌-◌, ◌*◌, ◌^◌, ◌≤◌, ◌<◌}
use native.Mathlib.Nat.{le-mul_of_pos_right}
use native.Mathlib.Omega.{arith}
use borrow.Author.Tests.{le-leb, leb-true, eq-eqb, eqb-true}
use lib.Dec.{lit<}
use Rattle.std.specs.Prelude.{Ok}
use lib.ListN.{length, take, drop, get_or, length-append, length-drop}
use lib.Seq.{take_at, drop_at, take-add, length-take-le}
use Rattle.log_section.specs.Number.{little, number, Bytes}
use Rattle.bits.proofs.Deciding.{all_pass}
use Rattle.log_section.specs.Section.{injection_size, sizes, count_of, end_of, after_of, rest_after, count_after}
use Rattle.log_section.specs.Log.{Address, Entries, byte, word, pair, injection, bytes_word, pair_in, domains_fit, section_bytes, entries_in}
use Rattle.log_section.specs.Log.{log_of, body_after, injections_of, entries_of, gone_through}
use Rattle.trap_log.specs.Answer.{read_tests, read_of}
use Rattle.trap_log.proofs.Answers.{Gone, read_gone, all_passed}
use Rattle.log_section.proofs.Numbers.{length_little, number_little, little_number, bytes_drop, bytes_take}
use Rattle.log_section.proofs.Found.{Whole, whole_is}
use Rattle.log_section.proofs.Codec.{Each, Stands, section_length, section_stands, section_read, section_again, entries_count}

pub none : (l : List ℕ) → length l ≡ 0 → l ≡ []
none [] h = refl
none (x ∷ l) h = absurd (omega arith)

-- numbers of so many bytes: an entry of the editions, the syndromes and the injections, and half of an address
module _ (width : ℕ) where
  -- a number fits so many bytes
  abbrev pub Fitting : ℕ → Type 0
  Fitting n = n < 256 ^ width

  number_back : (n : ℕ) (rest : List ℕ) → Fitting n → number (take width (little width n ++ rest)) ≡ n
  number_back n rest h = ap number (take_at (little width n) rest width (length_little width n)) ∙ number_little width n h

  number_again : (s : List ℕ) → Bytes s → width ≤ length s → little width (number (take width s)) ≡ take width s
  number_again s b h = rw (length-take-le width s h) at (little_number (take width s) (bytes_take width s b))

  -- a section of such numbers
  pub numbers_again : (s : List ℕ) → Bytes s → Whole width s
      → section_bytes (little width) (entries_in width (λ x. number (take width x)) (count_of s) (drop 4 s)) ++ after_of width s ≡ s
  numbers_again = section_again width (little width) (λ x. number (take width x)) Fitting (length_little width) number_back number_again

  pub numbers_last : (s : List ℕ) → Bytes s → Whole width s → length (after_of width s) ≡ 0
      → section_bytes (little width) (entries_in width (λ x. number (take width x)) (count_of s) (drop 4 s)) ≡ s
  numbers_last s b w h =
      let section : List ℕ = section_bytes (little width) (entries_in width (λ x. number (take width x)) (count_of s) (drop 4 s)) in
      sym (append-nil section) ∙ ap (λ (l : List ℕ). section ++ l) (sym (none (after_of width s) h)) ∙ numbers_again s b w

  pub numbers_length : (entries : List ℕ) → length (section_bytes (little width) entries) ≡ 4 + length entries * width
  numbers_length = section_length width (little width) (λ x. number (take width x)) Fitting (length_little width) number_back number_again

  pub numbers_stand : (entries : List ℕ) (rest s : List ℕ) → length entries < 2 ^ 32 → s ≡ section_bytes (little width) entries ++ rest
      → Stands width (length entries) s rest
  numbers_stand = section_stands width (little width) (λ x. number (take width x)) Fitting (length_little width) number_back number_again

  numbers_read : (entries : List ℕ) (rest s : List ℕ) → length entries < 2 ^ 32 → s ≡ section_bytes (little width) entries ++ rest
      → Each Fitting entries → entries_in width (λ x. number (take width x)) (count_of s) (drop 4 s) ≡ entries
  numbers_read = section_read width (little width) (λ x. number (take width x)) Fitting (length_little width) number_back number_again

-- an address fits its sixteen bytes
pub record PairFits (a : Address) : Type 0 where
  pub far : Fitting 8 a.far
  pub hpfar : Fitting 8 a.hpfar

pub pair_sized : (a : Address) → length (pair a) ≡ 16
pair_sized a = rw (length-append, length_little 8 a.far, length_little 8 a.hpfar)

pair_back : (a : Address) (rest : List ℕ) → PairFits a → pair_in (pair a ++ rest) ≡ a
pair_back a rest f =
    let e : pair a ++ rest ≡ little 8 a.far ++ (little 8 a.hpfar ++ rest) = append_assoc (little 8 a.far) (little 8 a.hpfar)
    rest in
    let far : bytes_word (pair a ++ rest) ≡ a.far = ap bytes_word e ∙ number_back 8 a.far (little 8 a.hpfar ++ rest) f.far in
    let hpfar : bytes_word (drop 8 (pair a ++ rest)) ≡ a.hpfar =
    ap (λ (s : List ℕ). bytes_word (drop 8 s)) e ∙ ap bytes_word
    (drop_at (little 8 a.far) (little 8 a.hpfar ++ rest) 8 (length_little 8 a.far))
    ∙ number_back 8 a.hpfar rest f.hpfar in
    rw (far, hpfar)

pair_again : (s : List ℕ) → Bytes s → 16 ≤ length s → pair (pair_in s) ≡ take 16 s
pair_again s b h =
    rw (number_again 8 s b (omega arith), number_again 8 (drop 8 s) (bytes_drop 8 s b) (rw length-drop (omega arith)))
    (sym (take-add 8 8 s))

pub pairs_length : (entries : List Address) → length (section_bytes pair entries) ≡ 4 + length entries * 16
pairs_length = section_length 16 pair pair_in PairFits pair_sized pair_back pair_again

-- what `Ok` says of a log
pub record Accepts (s : List ℕ) (gone : ℕ) : Type 0 where
  pub short : length s ≤ 65536
  pub editions : Whole 1 (rest_after s 0)
  pub syndromes : Whole 8 (rest_after s 1)
  pub addresses : Whole 16 (rest_after s 2)
  pub injections : Whole injection_size (rest_after s 3)
  pub none_left : length (rest_after s 4) ≡ 0
  pub agree : count_after s 1 ≡ count_after s 2
  pub domains : domains_fit (injections_of s) ≡ true
  pub told : gone ≡ gone_through s

pub accepts : (s : List ℕ) {gone : ℕ} → read_of s ≡ Ok gone → Accepts s gone
accepts s e =
    let f = all_passed s e in
    record {
      short = leb-true (length s) 65536 f.0;
      editions = whole_is 1 (rest_after s 0) f.1.0;
      syndromes = whole_is 8 (rest_after s 1) f.1.1.0;
      addresses = whole_is 16 (rest_after s 2) f.1.1.1.0;
      injections = whole_is injection_size (rest_after s 3) f.1.1.1.1.0;
      none_left = eqb-true (length (rest_after s 4)) 0 f.1.1.1.1.1.0;
      agree = eqb-true (count_after s 1) (count_after s 2) f.1.1.1.1.1.1.0;
      domains = f.1.1.1.1.1.1.1.0;
      told = subst (Gone s) e (read_gone s);
    }

-- THE NUMBER GONE THROUGH is the one that the log's bytes define, and at most the log's length less 12
gone_section : (size : ℕ) → 0 < size → (s : List ℕ) → Whole size s → 4 + count_of s + length (after_of size s) ≤ length s
gone_section size some s w =
    omega (arith, w.within, le-mul_of_pos_right (count_of s) some, length-drop (end_of size s) s)

pub gone_bound : (s : List ℕ) {gone : ℕ} → read_of s ≡ Ok gone → (gone ≡ gone_through s) × (gone ≤ length s - 12)
gone_bound s e =
    let a = accepts s e in (
      a.told,
      omega (
        arith,
        gone_section 1 (lit< tt) (rest_after s 0) a.editions,
        gone_section 8 (lit< tt) (rest_after s 1) a.syndromes,
        gone_section 16 (lit< tt) (rest_after s 2) a.addresses,
        gone_section injection_size (lit< tt) (rest_after s 3) a.injections,
      ),
    )

-- WRITTEN AGAIN: an accepted log is the log of its entries, byte for byte
module _ (s : List ℕ) (b : Bytes s) where
  bytes_after : (n : ℕ) → Bytes (rest_after s n)
  bytes_after zero = b
  bytes_after (suc n) = bytes_drop (end_of (get_or sizes n 0) (rest_after s n)) (rest_after s n) (bytes_after n)

  pub log_again : {gone : ℕ} → read_of s ≡ Ok gone → log_of (entries_of s) ≡ s
  unfolding log_of entries_of
  log_again e =
      let a = accepts s e in
      let fourth = numbers_last injection_size (rest_after s 3) (bytes_after 3) a.injections a.none_left in
      let third = section_again 16 pair pair_in PairFits pair_sized pair_back pair_again (rest_after s 2) (bytes_after 2) a.addresses in
      let second = numbers_again 8 (rest_after s 1) (bytes_after 1) a.syndromes in
      let first = numbers_again 1 s b a.editions in
      rw (fourth, third, second, first)

-- its syndromes and addresses agree
pub entries_agree : (s : List ℕ) {gone : ℕ} → read_of s ≡ Ok gone → length (entries_of s).syndromes ≡ length (entries_of s).addresses
unfolding entries_of
entries_agree s e =
    entries_count 8 bytes_word (count_after s 1) (body_after s 1) ∙ (accepts s e).agree
    ∙ sym (entries_count 16 pair_in (count_after s 2) (body_after s 2))

-- and each of its domains is at most 15
pub entries_fit : (s : List ℕ) {gone : ℕ} → read_of s ≡ Ok gone → domains_fit (entries_of s).injections ≡ true
unfolding entries_of
entries_fit s e = (accepts s e).domains

-- what the writer's slices and tests make sure of entries: they fit, syndromes and addresses agree, each domain is at most 15, and the log
-- is not too long
pub record Writable (e : Entries) : Type 0 where
  pub editions : Each (Fitting 1) e.editions
  pub syndromes : Each (Fitting 8) e.syndromes
  pub addresses : Each PairFits e.addresses
  pub injections : Each (Fitting injection_size) e.injections
  pub agree : length e.syndromes ≡ length e.addresses
  pub domains : domains_fit e.injections ≡ true
  pub short : length (log_of e) ≤ 65536

-- three sections, and whatever stands behind them
module _ (e : Entries) (fourth : List ℕ) where
  abbrev third : List ℕ
  third = section_bytes pair e.addresses ++ fourth

  abbrev second : List ℕ
  second = section_bytes word e.syndromes ++ third

  abbrev pub three_then : List ℕ
  three_then = section_bytes byte e.editions ++ second

  pub three_length : length three_then ≡ 12 + length e.editions + length e.syndromes * 8 + length e.addresses * 16 + length fourth
  three_length =
      omega (
        arith,
        length-append (section_bytes byte e.editions) second,
        length-append (section_bytes word e.syndromes) third,
        length-append (section_bytes pair e.addresses) fourth,
        numbers_length 1 e.editions,
        numbers_length 8 e.syndromes,
        pairs_length e.addresses,
      )

  module _ (s : List ℕ) (is : s ≡ three_then) (short : length s ≤ 65536) where
    measured : length s ≡ 12 + length e.editions + length e.syndromes * 8 + length e.addresses * 16 + length fourth
    measured = ap length is ∙ three_length

    pub editions_stand : Stands 1 (length e.editions) s second
    editions_stand = numbers_stand 1 e.editions second s (omega (arith, measured)) is

    pub syndromes_stand : Stands 8 (length e.syndromes) (rest_after s 1) third
    syndromes_stand = numbers_stand 8 e.syndromes third (rest_after s 1) (omega (arith, measured)) editions_stand.after

    pub addresses_stand : Stands 16 (length e.addresses) (rest_after s 2) fourth
    addresses_stand =
        section_stands 16 pair pair_in PairFits pair_sized pair_back pair_again e.addresses fourth (rest_after s 2)
        (omega (arith, measured))
        syndromes_stand.after

pub log_length : (e : Entries) → length (log_of e)
    ≡ 16 + length e.editions + length e.syndromes * 8 + length e.addresses * 16 + length e.injections * injection_size
unfolding log_of
log_length e = omega (arith, three_length e (section_bytes injection e.injections), numbers_length injection_size e.injections)

-- ACCEPTED: the log of writable entries is read, and holds those entries
module _ (e : Entries) (w : Writable e) where
  abbrev s : List ℕ
  s = log_of e

  abbrev last : List ℕ
  last = section_bytes injection e.injections

  is : s ≡ three_then e last
  unfolding log_of
  is = refl

  few : (length e.editions < 2 ^ 32) × (length e.syndromes < 2 ^ 32) × (length e.addresses < 2 ^ 32)
      × (length e.injections < 2 ^ 32)
  few =
      let l = log_length e in
      let h = w.short in
      (omega arith, omega arith, omega arith, omega arith)

  editions : Stands 1 (length e.editions) s (second e last)
  editions = editions_stand e last s is w.short

  syndromes : Stands 8 (length e.syndromes) (rest_after s 1) (third e last)
  syndromes = syndromes_stand e last s is w.short

  addresses : Stands 16 (length e.addresses) (rest_after s 2) last
  addresses = addresses_stand e last s is w.short

  ends : rest_after s 3 ≡ last ++ []
  ends = addresses.after ∙ sym (append-nil last)

  injections : Stands injection_size (length e.injections) (rest_after s 3) []
  injections = numbers_stand injection_size e.injections [] (rest_after s 3) few.3 ends

  injections_back : injections_of s ≡ e.injections
  injections_back = numbers_read injection_size e.injections [] (rest_after s 3) few.3 ends w.injections

  pub log_accepted : read_of (log_of e)
      ≡ Ok (4 + length e.editions + length e.syndromes + length e.addresses + length e.injections)
  unfolding read_of
  log_accepted =
      all_pass (read_tests s) (Ok (gone_through s)) (
        le-leb (length s) 65536 w.short,
        (
          editions.whole,
          (
            syndromes.whole,
            (
              addresses.whole,
              (
                injections.whole,
                (
                  eq-eqb (length (rest_after s 4)) 0 (ap length injections.after),
                  (
                    eq-eqb (count_after s 1) (count_after s 2) (syndromes.counts ∙ w.agree ∙ sym addresses.counts),
                    (ap domains_fit injections_back ∙ w.domains, tt),
                  ),
                ),
              ),
            ),
          ),
        ),
      )
      ∙ (ap Ok (omega (arith, editions.counts, syndromes.counts, addresses.counts, injections.counts)))

  pub log_entries : entries_of (log_of e) ≡ e
  unfolding entries_of
  log_entries =
      rw (
        numbers_read 1 e.editions (second e last) s few.0 is w.editions,
        numbers_read 8 e.syndromes (third e last) (rest_after s 1) few.1 editions.after w.syndromes,
        section_read 16 pair pair_in PairFits pair_sized pair_back pair_again e.addresses last (rest_after s 2) few.2
            syndromes.after w.addresses,
        injections_back,
      )
