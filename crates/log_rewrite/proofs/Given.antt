-- Of a log that is taken: its sections' counts, the bytes of its editions, the words of its traps and its injections, as the reader gives
-- them. Assumes nothing.
use mathlib.Core.Path.{◌≡◌, refl, sym, ap, ◌∙◌}
use mathlib.Core.Bool.{true, false}
use mathlib.Core.List.{List, [], ◌∷◌}
use Prim.Native.Nat.{ℕ, zero, suc, ◌+◌, ◌-◌, ◌≤◌, ◌<◌}
use native.Mathlib.Nat.{add-zero, sub-zero}
use native.Mathlib.Omega.{arith}
use borrow.Author.Count.{below_more}
use lib.Dec.{lit<}
use Rattle.std.specs.Prelude.{Result, Ok, Err, Option, Some}
use lib.ListN.{length, take, drop, get_or, set, length-drop}
use lib.Seq.{drop-drop, ext_get_or, get_or-take, get_or-set_same, get_or-set_other, length-take-le}
use Rattle.log_section.specs.Number.{number}
use Rattle.log_section.specs.Section.{injection_size, sizes, end_of, rest_after, count_after}
use Rattle.log_section.specs.Log.{Address, nowhere, byte_in, bytes_word as word_at, pair_in, injection_in, injection_byte, domain_of, entries_in, entries_of}
use Rattle.log_section.specs.Log.{body_after}
use Rattle.trap_log.specs.Answer.{number_of, read_of}
use Rattle.log_section.specs.Look.{section_at, start_after}
use Rattle.trap_log.specs.declared.answer.LogRefusal.{LogRefusal}
use Rattle.trap_log.specs.declared.answer.LogRefusal.TheVariants.{TooLong, CutShort, LeftOver, Unequal, WideDomain}
use Rattle.log_section.specs.declared.entry.Place.{Place}
use Rattle.log_section.specs.declared.entry.Entry.{Entry}
use Rattle.log_section.specs.declared.entry.Look.{Look}
use Rattle.log_section.proofs.Codec.{entries_count}
use Rattle.log_section.proofs.Places.{standing, end_in}
use Rattle.trap_log.proofs.Given.{rest_at, section_stands_at}
use Rattle.trap_log.proofs.RoundTrip.{accepts}
use Rattle.log_reader.specs.Reader.{place_after, look_in}
use Rattle.log_reader.proofs.Gives.{reader_stands, reader_gives}
use Rattle.log_writer.specs.Lists.{Lists, fars_of, hpfars_of, lists_of}
use Rattle.log_writer.proofs.Again.{fars_length, hpfars_length}
use Rattle.log_rewrite.specs.Rewrite.{Taken}
use Rattle.log_rewrite.specs.Inner.{count_in, entry_word, half_in}

pub accepted : (a : Result ℕ LogRefusal) → number_of a ≡ 0 → (gone : ℕ) × (a ≡ Ok gone)
accepted (Ok gone) e = (gone, refl)
accepted (Err TooLong) e = absurd (omega arith)
accepted (Err (CutShort section)) e = absurd (omega arith)
accepted (Err LeftOver) e = absurd (omega arith)
accepted (Err Unequal) e = absurd (omega arith)
accepted (Err WideDomain) e = absurd (omega arith)

-- bytes that are read one by one are the bytes
bytes_read : (n : ℕ) (s : List ℕ) → n ≤ length s → entries_in 1 byte_in n s ≡ take n s
unfolding number
bytes_read zero s h = refl
bytes_read (suc n) [] h = absurd (omega arith)
bytes_read (suc n) (b ∷ s) h = rw (add-zero b) (ap (λ (rest : List ℕ). b ∷ rest) (bytes_read n s (omega arith)))

-- one word more in a buffer
pub one_more : (out : List ℕ) (i w : ℕ) (rule : ℕ → ℕ) → i < length out → ((k : ℕ) → k < i → get_or out k 0 ≡ rule k) → w ≡ rule i
    → (k : ℕ) → k < i + 1 → get_or (set out i w) k 0 ≡ rule k
one_more out i w rule h before e =
    below_more (λ k. get_or (set out i w) k 0 ≡ rule k) i
    (λ k below. get_or-set_other out i k w 0 (λ same. absurd (omega arith)) ∙ before k below)
    (get_or-set_same out i w 0 h ∙ e)

-- an address's words in their lists
fars_at : (l : List Address) (i : ℕ) → get_or (fars_of l) i 0 ≡ (get_or l i nowhere).far
fars_at [] i = refl
fars_at (a ∷ l) zero = refl
fars_at (a ∷ l) (suc i) = fars_at l i

hpfars_at : (l : List Address) (i : ℕ) → get_or (hpfars_of l) i 0 ≡ (get_or l i nowhere).hpfar
hpfars_at [] i = refl
hpfars_at (a ∷ l) zero = refl
hpfars_at (a ∷ l) (suc i) = hpfars_at l i

module _ (s : List ℕ) (t : Taken s) where
  pub taken : read_of s ≡ Ok (accepted (read_of s) t).0
  taken = (accepted (read_of s) t).1

  pub stands : (n : ℕ) → n < 4 → place_after s n ≡ record { passed = n; at = start_after s n }
  stands n h = reader_stands s taken n (omega arith)

  pub counted : (n : ℕ) → n < 4 → count_in (look_in s n 0).section ≡ count_after s n
  counted n h =
      ap (λ (p : Place). count_in (section_at s p.passed p.at)) (stands n h) ∙ ap count_in (section_stands_at s taken n h)

  ends : (n : ℕ) → n < 4 → start_after s n + end_of (get_or sizes n 0) (rest_after s n) ≤ length s
  ends n h = end_in s n (start_after s n) (standing s n (start_after s n) (section_stands_at s taken n h))

  -- a section of one byte each, behind its count
  module _ (n : ℕ) (h : n < 4) (one : get_or sizes n 0 ≡ 1) where
    pub bytes_within : start_after s n + 4 + count_after s n ≤ length s
    bytes_within = omega (arith, ends n h, ap (λ (size : ℕ). end_of size (rest_after s n)) one)

    pub bytes_behind : (first end : ℕ) → first ≡ start_after s n + 4 → end ≡ first + count_after s n
        → take (end - first) (drop first s) ≡ entries_in 1 byte_in (count_after s n) (body_after s n)
    bytes_behind first end e f =
        let size : end - first ≡ count_after s n = omega arith in
        let body : body_after s n ≡ drop first s =
        ap (drop 4) (rest_at s n) ∙ drop-drop 4 (start_after s n) s ∙ ap (λ (k : ℕ). drop k s) (sym e) in
        rw (size, body) (sym (bytes_read (count_after s n) (drop first s) (omega (arith, length-drop first s, bytes_within))))

  -- a syndrome and its address are 24 bytes
  pub few_traps : count_after s 1 ≤ 2730
  few_traps = omega (arith, (accepts s taken).short, (accepts s taken).agree, ends 1 (lit< tt), ends 2 (lit< tt))

  -- an injection is two bytes
  pub few_injections : count_after s 3 ≤ 32760
  few_injections = omega (arith, (accepts s taken).short, ends 3 (lit< tt))

  -- a buffer that holds a number of each entry of a section begins with the numbers of the section
  module _ (n : ℕ) (h : n < 4) (number_in : Option Entry → ℕ) (words : List ℕ) (all : length words ≡ count_after s n)
      (same : (i : ℕ) → i < count_after s n → number_in (look_in s n i).entry ≡ get_or words i 0) where
    words_given : (out : List ℕ) → count_after s n ≤ length out
        → ((i : ℕ) → i < length out → get_or out i 0 ≡ number_in (look_in s n i).entry) → take (count_after s n) out ≡ words
    words_given out room holds =
        let l : length (take (count_after s n) out) ≡ count_after s n = length-take-le (count_after s n) out room in
        ext_get_or 0 (take (count_after s n) out) words (l ∙ sym all)
        (λ i below. get_or-take (count_after s n) out i 0 (omega arith) ∙ holds i (omega arith) ∙ same i (omega arith))

  module _ (out : List ℕ) (room : count_after s 1 ≤ length out) where
    pub syndromes_given : ((i : ℕ) → i < length out → get_or out i 0 ≡ entry_word (look_in s 1 i).entry false)
        → take (count_after s 1) out ≡ (entries_of s).syndromes
    unfolding entries_of
    syndromes_given =
        words_given 1 (lit< tt) (λ e. entry_word e false) (entries_of s).syndromes (entries_count 8 word_at (count_after s 1) (body_after s 1))
        (λ i below. ap (λ (l : Look). entry_word l.entry false) (reader_gives s taken 1 i (lit< tt) below)) out room

  agree : count_after s 1 ≡ count_after s 2
  agree = (accepts s taken).agree

  module _ (out : List ℕ) (room : count_after s 1 ≤ length out) where
    pub fars_given : ((i : ℕ) → i < length out → get_or out i 0 ≡ entry_word (look_in s 2 i).entry false)
        → take (count_after s 1) out ≡ fars_of (entries_of s).addresses
    unfolding entries_of
    fars_given holds =
        let addresses = (entries_of s).addresses in
        ap (λ (n : ℕ). take n out) agree
        ∙ words_given 2 (lit< tt) (λ e. entry_word e false) (fars_of addresses)
        (fars_length addresses ∙ entries_count 16 pair_in (count_after s 2) (body_after s 2))
        (λ i below. ap (λ (l : Look). entry_word l.entry false) (reader_gives s taken 2 i (lit< tt) below) ∙ sym (fars_at addresses i))
        out (omega (arith, agree)) holds

    pub hpfars_given : ((i : ℕ) → i < length out → get_or out i 0 ≡ entry_word (look_in s 2 i).entry true)
        → take (count_after s 1) out ≡ hpfars_of (entries_of s).addresses
    unfolding entries_of
    hpfars_given holds =
        let addresses = (entries_of s).addresses in
        ap (λ (n : ℕ). take n out) agree
        ∙ words_given 2 (lit< tt) (λ e. entry_word e true) (hpfars_of addresses)
        (hpfars_length addresses ∙ entries_count 16 pair_in (count_after s 2) (body_after s 2))
        (λ i below. ap (λ (l : Look). entry_word l.entry true) (reader_gives s taken 2 i (lit< tt) below) ∙ sym (hpfars_at addresses i))
        out (omega (arith, agree)) holds

  -- an injection's own byte and its domain make its number again
  halves : (n : ℕ) → half_in (Some (Entry.Injection (injection_byte n) (domain_of n))) ≡ n
  halves n = omega arith

  pub injections_given : (out : List ℕ) → count_after s 3 ≤ length out
      → ((i : ℕ) → i < length out → get_or out i 0 ≡ half_in (look_in s 3 i).entry) → take (count_after s 3) out ≡ (entries_of s).injections
  unfolding entries_of
  injections_given =
      words_given 3 (lit< tt) half_in (entries_of s).injections (entries_count injection_size injection_in (count_after s 3) (body_after s 3))
      (λ i below. ap (λ (l : Look). half_in l.entry) (reader_gives s taken 3 i (lit< tt) below)
      ∙ halves (get_or (entries_of s).injections i 0))

  -- the slices that the writer is called with are the lists of the log's entries
  module _ (n m : ℕ) (count : n ≡ count_after s 1) (last : m ≡ count_after s 3) (e i x y z : List ℕ)
      (editions : e ≡ entries_in 1 byte_in (count_after s 0) (body_after s 0))
      (injections : (k : ℕ) → k < length i → get_or i k 0 ≡ half_in (look_in s 3 k).entry) (room-i : 32760 ≤ length i)
      (syndromes : (k : ℕ) → k < length x → get_or x k 0 ≡ entry_word (look_in s 1 k).entry false) (room-x : 2730 ≤ length x)
      (fars : (k : ℕ) → k < length y → get_or y k 0 ≡ entry_word (look_in s 2 k).entry false) (room-y : 2730 ≤ length y)
      (hpfars : (k : ℕ) → k < length z → get_or z k 0 ≡ entry_word (look_in s 2 k).entry true) (room-z : 2730 ≤ length z) where
    first_words : (out : List ℕ) → take (n - 0) out ≡ take (count_after s 1) out
    first_words out = ap (λ (k : ℕ). take k out) (sub-zero n ∙ count)

    pub lists_given : ◌≡◌ {A = Lists}
        record { editions = e; syndromes = take (n - 0) x; fars = take (n - 0) y; hpfars = take (n - 0) z; injections = take (m - 0) i }
        (lists_of (entries_of s))
    unfolding entries_of
    lists_given =
        let p = first_words x ∙ syndromes_given x (omega (arith, few_traps)) syndromes in
        let q = first_words y ∙ fars_given y (omega (arith, few_traps)) fars in
        let r = first_words z ∙ hpfars_given z (omega (arith, few_traps)) hpfars in
        let t = ap (λ (k : ℕ). take k i) (sub-zero m ∙ last) ∙ injections_given i (omega (arith, few_injections)) injections in
        λ j. record { editions = editions j; syndromes = p j; fars = q j; hpfars = r j; injections = t j }
