-- The laws of requests C-14 and C-21 on reading and writing: an accepted log, its entries written again, gives the same bytes; and what was
-- written is accepted with the same entries.
-- Assumes nothing.
use mathlib.Core.Path.{◌≡◌, refl, sym, ap, ◌∙◌}
use mathlib.Core.Bool.{true}
use mathlib.Core.List.{List, [], ◌∷◌}
use Prim.Native.Nat.{ℕ, suc, ◌+◌, ◌^◌, ◌≤◌, ◌<◌}
use native.Mathlib.Omega.{arith}
use Rattle.std.specs.Prelude.{Ok, Err}
use lib.ListN.{length, take, drop, get_or}
use lib.Seq.{take_at, drop_at}
use Rattle.log_section.specs.Number.{Bytes}
use Rattle.log_section.specs.Section.{injection_size}
use Rattle.log_section.specs.Log.{Address, Entries, domains_fit, log_of, entries_of}
use Rattle.trap_log.specs.Answer.{read_of}
use Rattle.log_section.proofs.Codec.{Each}
use Rattle.log_section.proofs.Domains.{domains_fit_exactly}
use Rattle.trap_log.proofs.RoundTrip.{Fitting, PairFits, Writable, accepts, log_length, log_again, log_accepted, log_entries, entries_agree}
use Rattle.trap_log.proofs.RoundTrip.{entries_fit}
use Rattle.log_writer.specs.Lists.{Lists, paired, entries_from, fars_of, hpfars_of, lists_of}
use Rattle.log_writer.specs.Write.{number_of, length_in, length_by, written_of, buffer_after}
use Rattle.log_writer.specs.declared.answer.WriteRefusal.TheVariants.{NoRoom}
use Rattle.log_writer.proofs.Putting.{paired_length}
use Rattle.log_writer.proofs.Tests.{no_room_lem, has_room}
use Rattle.log_writer.proofs.Answers.{zero_exactly}

-- the two lists of some addresses make the addresses again
pub fars_length : (addresses : List Address) → length (fars_of addresses) ≡ length addresses
fars_length [] = refl
fars_length (a ∷ rest) = ap suc (fars_length rest)

pub hpfars_length : (addresses : List Address) → length (hpfars_of addresses) ≡ length addresses
hpfars_length [] = refl
hpfars_length (a ∷ rest) = ap suc (hpfars_length rest)

paired_again : (addresses : List Address) → paired (fars_of addresses) (hpfars_of addresses) ≡ addresses
paired_again [] = refl
paired_again (a ∷ rest) = ap (λ (more : List Address). a ∷ more) (paired_again rest)

-- WRITTEN AGAIN: for every accepted log and every buffer, 17 where the log has no room there, else the same bytes at its front
module _ (s : List ℕ) (b : Bytes s) {gone : ℕ} (e : read_of s ≡ Ok gone) where
  -- the entries of the log
  abbrev own : Entries
  own = entries_of s

  pub same_bytes : log_of (entries_from (lists_of own)) ≡ s
  same_bytes =
      ap (λ (x : List Address). log_of record {
        editions = own.editions;
        syndromes = own.syndromes;
        addresses = x;
        injections
            = own.injections;
      })
      (paired_again own.addresses)
      ∙ log_again s b e

  agree : length own.syndromes ≡ length own.addresses
  agree = entries_agree s e

  same_length : length_by (lists_of own) ≡ length s
  same_length =
      omega (arith, log_length own, ap length (log_again s b e), fars_length own.addresses, hpfars_length own.addresses)

  fars_agree : length own.syndromes ≡ length (fars_of own.addresses)
  fars_agree = agree ∙ sym (fars_length own.addresses)

  hpfars_agree : length own.syndromes ≡ length (hpfars_of own.addresses)
  hpfars_agree = agree ∙ sym (hpfars_length own.addresses)

  short : length_by (lists_of own) ≤ 65536
  short = rw same_length (accepts s e).short

  pub written_again : (room : ℕ) → length s ≤ room → written_of (lists_of own) room ≡ Ok (length s)
  written_again room h =
      sym (has_room (lists_of own) room short fars_agree hpfars_agree (entries_fit s e) (rw same_length h)) ∙ ap Ok same_length

  pub no_room_again : (room : ℕ) → room < length s → written_of (lists_of own) room ≡ Err NoRoom
  no_room_again room h = sym (no_room_lem (lists_of own) room short fars_agree hpfars_agree (entries_fit s e) (rw same_length h))

-- slices of bytes and of 64-bit words hold what fits their entries
each : (width : ℕ) (l : List ℕ) → ((i : ℕ) → get_or l i 0 < 256 ^ width) → Each (Fitting width) l
each width [] f = tt
each width (n ∷ rest) f = (f 0, each width rest (λ i. f (suc i)))

each_pair : (fars hpfars : List ℕ) → ((i : ℕ) → get_or fars i 0 < 256 ^ 8) → ((i : ℕ) → get_or hpfars i 0 < 256 ^ 8)
    → Each PairFits (paired fars hpfars)
each_pair [] hpfars f g = tt
each_pair (far ∷ fars) [] f g = tt
each_pair (far ∷ fars) (hpfar ∷ hpfars) f g =
    (record { far = f 0; hpfar = g 0 }, each_pair fars hpfars (λ i. f (suc i)) (λ i. g (suc i)))

-- what the slices' types say of their lists: bytes, words of 64 bits, and numbers of 16
pub record Fits (l : Lists) : Type 0 where
  pub editions : Bytes l.editions
  pub syndromes : (i : ℕ) → get_or l.syndromes i 0 < 2 ^ 64
  pub fars : (i : ℕ) → get_or l.fars i 0 < 2 ^ 64
  pub hpfars : (i : ℕ) → get_or l.hpfars i 0 < 2 ^ 64
  pub injections : (i : ℕ) → get_or l.injections i 0 < 2 ^ 16

-- READ BACK: what was written into any buffer is accepted, with the entries that were given, and what lies past it is as it was
module _ (l : Lists) (fits : Fits l) (before : List ℕ) {n : ℕ} (w : written_of l (length before) ≡ Ok n) where
  -- the entries that the lists make
  abbrev given : Entries
  given = entries_from l

  -- the buffer after they were written
  abbrev after : List ℕ
  after = buffer_after (written_of l (length before)) (log_of given) before

  fit : domains_fit l.injections ≡ true
  fit = (domains_fit_exactly l.injections).1 ((zero_exactly l (length before)).0 (ap number_of w)).2

  tests : (length_by l ≤ 65536) × (length l.syndromes ≡ length l.fars) × (length l.syndromes ≡ length l.hpfars)
      × (n ≡ length_by l)
  tests =
      let t = (zero_exactly l (length before)).0 (ap number_of w) in
      let same = has_room l (length before) t.0 t.1.0 t.1.1 fit t.3 in
      (t.0, t.1.0, t.1.1, sym (ap length_in (same ∙ w)))

  count : length (paired l.fars l.hpfars) ≡ length l.fars
  count = paired_length l.fars l.hpfars (sym tests.1 ∙ tests.2)

  whole : length (log_of given) ≡ n
  whole = omega (arith, log_length given, count, tests)

  writable : Writable given
  writable =
      record {
        editions = each 1 l.editions fits.editions;
        syndromes = each 8 l.syndromes fits.syndromes;
        addresses = each_pair l.fars l.hpfars fits.fars fits.hpfars;
        injections = each injection_size l.injections fits.injections;
        agree = tests.1 ∙ sym count;
        domains = fit;
        short = omega (arith, whole, tests);
      }

  -- the bytes that were written, and those past them
  pub front : take n after ≡ log_of given
  front = rw w (take_at (log_of given) (drop n before) n whole)

  pub past_kept : drop n after ≡ drop n before
  past_kept = rw w (drop_at (log_of given) (drop n before) n whole)

  pub accepted_back : read_of (take n after)
      ≡ Ok (4 + length l.editions + length l.syndromes + length l.fars + length l.injections)
  accepted_back = ap read_of front ∙ log_accepted given writable ∙ ap Ok (omega (arith, count))

  pub entries_back : entries_of (take n after) ≡ given
  entries_back = ap entries_of front ∙ log_entries given writable
