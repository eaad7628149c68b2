-- The law of request C-21 on older logs: one with an injection in it is refused 13, section 4; one without is read as before.
-- Assumes nothing.
use mathlib.Core.Path.{◌≡◌, refl, sym, ap, ◌∙◌}
use mathlib.Core.Bool.{false}
use mathlib.Core.List.{List, [], append-nil}
use Prim.Native.Nat.{ℕ, ◌+◌, ◌*◌, ◌≤◌, ◌<◌}
use native.Mathlib.Omega.{arith}
use borrow.Author.Tests.{le-leb}
use lib.Dec.{lit≤}
use Rattle.std.specs.Prelude.{Ok, Err}
use lib.ListN.{length}
use Rattle.log_section.specs.Section.{injection_size, whole_after, rest_after}
use Rattle.log_section.specs.Log.{Entries, byte, section_bytes, log_of, entries_of}
use Rattle.trap_log.specs.Answer.{read_of}
use Rattle.trap_log.specs.Older.{older_log}
use Rattle.trap_log.specs.declared.answer.LogRefusal.TheVariants.{CutShort}
use Rattle.trap_log.proofs.Answers.{cut_short_exactly}
use Rattle.log_section.proofs.Codec.{Stands}
use Rattle.log_section.proofs.Found.{not_found, entries_cut}
use Rattle.trap_log.proofs.RoundTrip.{none, numbers_length, numbers_stand, Writable, three_then, three_length, editions_stand}
use Rattle.trap_log.proofs.RoundTrip.{syndromes_stand, addresses_stand, log_accepted, log_entries}

-- WITH AN INJECTION: the last section is one byte short for each
module _ (e : Entries) (short : length (older_log e) ≤ 65536) where
  abbrev s : List ℕ
  s = older_log e

  abbrev last : List ℕ
  last = section_bytes byte e.injections

  is : s ≡ three_then e last
  unfolding older_log
  is = refl

  rest : rest_after s 3 ≡ last
  rest = (addresses_stand e last s is short).after

  left : length (rest_after s 3) ≡ 4 + length e.injections * 1
  left = ap length rest ∙ numbers_length 1 e.injections

  counted : Stands 1 (length e.injections) (rest_after s 3) []
  counted =
      numbers_stand 1 e.injections [] (rest_after s 3)
      (omega (arith, three_length e last, ap length is, numbers_length 1 e.injections))
      (rest ∙ sym (append-nil last))

  cut : 0 < length e.injections → whole_after s 3 ≡ false
  cut some =
      not_found injection_size (rest_after s 3)
      (sym (entries_cut injection_size (rest_after s 3) (omega (arith, left)) (omega (arith, left, counted.counts))))

  pub older_refused : 0 < length e.injections → read_of (older_log e) ≡ Err (CutShort 4)
  older_refused some =
      (cut_short_exactly s 4 (lit≤ tt) (lit≤ tt)).1 (
        le-leb (length s) 65536 short,
        (
          (editions_stand e last s is short).whole,
          (
            (syndromes_stand e last s is short).whole,
            ((addresses_stand e last s is short).whole, cut some),
          ),
        ),
      )

-- WITHOUT: it is a log of today's form
older_same : (e : Entries) → length e.injections ≡ 0 → older_log e ≡ log_of e
unfolding older_log log_of
older_same e nothing = rw (none e.injections nothing)

pub older_accepted : (e : Entries) → Writable e → length e.injections ≡ 0
    → read_of (older_log e) ≡ Ok (4 + length e.editions + length e.syndromes + length e.addresses)
older_accepted e w nothing = ap read_of (older_same e nothing) ∙ log_accepted e w ∙ ap Ok (omega arith)

pub older_entries : (e : Entries) → Writable e → length e.injections ≡ 0 → entries_of (older_log e) ≡ e
older_entries e w nothing = ap entries_of (older_same e nothing) ∙ log_entries e w
