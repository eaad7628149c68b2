-- What stands at a word's bits fits them.
-- Assumes nothing.
use mathlib.Core.Bool.{Bool, true, false, cond}
use mathlib.Core.Path.{◌≡◌}
use Prim.Native.Nat.{ℕ}
use lib.Dec.{T, eqb, ltb}
use Rattle.bits.specs.Among.{among}
use Rattle.bits.specs.Field.{field_of}
use Rattle.bits.specs.Layout.{fitting}
use Rattle.reason.proofs.Fits.{field_fits}
use Rattle.record.specs.Class.{mcr_classes, mcrr_classes}
use Rattle.record.specs.Split.{wfx_at, call_at, smc_at}
use Rattle.short_layout.specs.Fields.{fields_of}
use Rattle.short_record.specs.Class.{call_classes}
use Rattle.short_record.specs.Split.{mcr_at, mcrr_at, ldc_at, simd_at, instruction_abort_at, data_abort_at, record_of, record_at}
use Rattle.short_record.specs.declared.kinds.Record.{Record}

pick : (b : Bool) (x y : Record) → T (fitting (fields_of x)) → T (fitting (fields_of y)) → T (fitting (fields_of (cond b x y)))
pick true x y h k = h
pick false x y h k = k

fits_of : (c w : ℕ) → ltb c 64 ≡ true → T (fitting (fields_of (record_of c w)))
unfolding record_of
fits_of c w h =
    pick (eqb c 0x01) (Record.Wfx (wfx_at w)) _ (simp (field_fits w 23 20) tt)
    (pick (among mcr_classes c) (Record.Mcr (mcr_at c w)) _
    (simp (h, field_fits w 23 20, field_fits w 19 17, field_fits w 16 14, field_fits w 13 10, field_fits w 8 5, field_fits w 4 1) tt)
    (pick (among mcrr_classes c) (Record.Mcrr (mcrr_at c w)) _
    (simp (h, field_fits w 23 20, field_fits w 19 16, field_fits w 13 10, field_fits w 8 5, field_fits w 4 1) tt)
    (pick (eqb c 0x06) (Record.Ldc (ldc_at w)) _ (simp (field_fits w 23 20, field_fits w 19 12, field_fits w 8 5, field_fits w 3 1) tt)
    (pick (eqb c 0x07) (Record.Simd (simd_at w)) _ (simp (field_fits w 23 20, field_fits w 3 0) tt)
    (pick (among call_classes c) (Record.Call (call_at c w)) _ (simp (h, field_fits w 15 0) tt)
    (pick (eqb c 0x13) (Record.Smc (smc_at w)) _ (simp (field_fits w 23 20) tt)
    (pick (eqb c 0x20) (Record.InstructionAbort (instruction_abort_at w)) _ (simp (field_fits w 5 0) tt)
    (pick (eqb c 0x24) (Record.DataAbort (data_abort_at w)) _
    (simp (field_fits w 23 22, field_fits w 19 16, field_fits w 11 10, field_fits w 5 0) tt)
    (simp (h) tt)))))))))

pub fits_at : (w : ℕ) → T (fitting (fields_of (record_at w)))
fits_at w = fits_of (field_of w 31 26) w (field_fits w 31 26)
