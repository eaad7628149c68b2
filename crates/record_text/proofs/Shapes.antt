-- The rows of each kind of record, over a word that holds its fields, are its layout's fields under their names.
-- Assumes nothing.
use mathlib.Core.Path.{◌≡◌, refl}
use mathlib.Core.Bool.{true}
use Prim.Native.Nat.{ℕ}
use Rattle.bits.proofs.Among.{among_each}
use Rattle.bits.proofs.Fields.{AllBack, flag_back}
use Rattle.names.specs.Table.{labels, sources, label_at, values_at}
use Rattle.field_text.specs.Rows.{row_labels, row_highs, row_lows, row_tests, row_lists, row_other_tests, row_other_lists, row_in, values_in}
use Rattle.field_text.specs.Rows.{tests_of, tests, shape_firsts, shape_counts, shape_rows}
use Rattle.field_text.proofs.Fields.{rows_of}
use Rattle.layout.specs.Fields.{fields_of}
use Rattle.record.specs.Class.{plain_classes, mcr_classes, mcrr_classes, call_classes, debug_classes, head_of}
use Rattle.record.specs.declared.kinds.Record.{Record}
use Rattle.record_text.specs.Names.{names_of, call_names}
use Rattle.names.specs.Class.{classes}
use Rattle.names.specs.Value.{registers}

module _ (w : ℕ) where
  -- the rows of a class are the record's
  abbrev At : ℕ → Record → Type 0
  At class r = shape_rows class w ≡ rows_of (names_of r) (fields_of r)

  pub rows_agree : (r : Record) → (head_of r).own ≡ true → AllBack w (fields_of r) → At (head_of r).class r
  unfolding shape_rows row_in values_in tests_of tests row_labels row_highs row_lows row_tests row_lists row_other_tests row_other_lists shape_firsts shape_counts
      label_at values_at labels sources
  rows_agree (Record.Plain r) own b =
      among_each plain_classes (λ c. At c (Record.Plain r)) (refl, (refl, (refl, tt))) r.class own
  rows_agree (Record.Wfx r) own b = rw (flag_back w 24 r.cv b.1.1.0)
  rows_agree (Record.Mcr r) own b =
      let cv = flag_back w 24 r.cv b.1.1.0 in
      among_each mcr_classes (λ c. At c (Record.Mcr r)) (rw cv, (rw cv, (rw cv, tt))) r.class own
  rows_agree (Record.Mcrr r) own b =
      let cv = flag_back w 24 r.cv b.1.1.0 in
      among_each mcrr_classes (λ c. At c (Record.Mcrr r)) (rw cv, (rw cv, tt)) r.class own
  rows_agree (Record.Ldc r) own b = rw (flag_back w 24 r.cv b.1.1.0, b.1.1.1.1.1.1.1.0)
  rows_agree (Record.Simd r) own b = rw (flag_back w 24 r.cv b.1.1.0)
  rows_agree (Record.Call r) own b =
      among_each call_classes (λ c. shape_rows c w ≡ rows_of (call_names classes registers c) (fields_of (Record.Call r)))
      (refl, (refl, (refl, (refl, (refl, (refl, tt)))))) r.class own
  rows_agree (Record.Smc r) own b =
      rw (flag_back w 24 r.cv b.1.1.0, flag_back w 19 r.ccknownpass b.1.1.1.1.0)
  rows_agree (Record.InstructionAbort r) own b = rw b.1.1.1.1.1.1.0
  rows_agree (Record.DataAbort r) own b =
      let late = b.1.1.1.1.1.1.1.1.1.1.1 in
      rw (flag_back w 24 r.isv b.1.1.0, flag_back w 8 r.cm late.0, flag_back w 6 r.wnr late.1.1.0, late.1.1.1.0)
  rows_agree (Record.Debug r) own b =
      among_each debug_classes (λ c. At c (Record.Debug r)) (refl, (refl, tt)) r.class own
  rows_agree (Record.Step r) own b = rw (flag_back w 24 r.isv b.1.1.0)
  rows_agree (Record.Watchpoint r) own b = rw (flag_back w 8 r.cm b.1.1.0)
  rows_agree (Record.SError r) own b = rw b.1.1.1.1.0
  rows_agree (Record.System r) own b = refl
