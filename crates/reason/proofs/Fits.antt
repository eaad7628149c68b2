-- What stands at a word's bits fits them.
-- Assumes nothing.
use mathlib.Core.Path.{◌≡◌}
use mathlib.Core.Bool.{Bool, true, false, cond}
use Prim.Native.Nat.{ℕ, ◌^◌}
use native.Mathlib.Nat.{mod-lt}
use borrow.Author.Tests.{lt-ltb}
use lib.Dec.{T, eqb, ltb}
use lib.Pow.{pow_pos}
use Rattle.bits.specs.Among.{among}
use Rattle.bits.specs.Field.{width_of, field_of}
use Rattle.bits.specs.Layout.{fitting}
use Rattle.layout.specs.Fields.{fields_of}
use Rattle.record.specs.Class.{mcr_classes, mcrr_classes, call_classes, debug_classes}
use Rattle.record.specs.Split.{wfx_at, mcr_at, mcrr_at, ldc_at, simd_at, call_at, smc_at, instruction_abort_at, data_abort_at, debug_at}
use Rattle.record.specs.Split.{step_at, watchpoint_at, serror_at, system_at, record_of, record_at}
use Rattle.record.specs.declared.kinds.Record.{Record}

pub field_fits : (w high low : ℕ) → ltb (field_of w high low) (2 ^ width_of high low) ≡ true
field_fits w high low = lt-ltb (field_of w high low) (2 ^ width_of high low) (mod-lt _ (pow_pos (width_of high low)))

pick : (b : Bool) (x y : Record) → T (fitting (fields_of x)) → T (fitting (fields_of y)) → T (fitting (fields_of (cond b x y)))
pick true x y h k = h
pick false x y h k = k

fits_of : (c w : ℕ) → ltb c 64 ≡ true → T (fitting (fields_of (record_of c w)))
unfolding record_of
fits_of c w h =
    pick (eqb c 0x01) (Record.Wfx (wfx_at w)) _ (simp (field_fits w 23 20) tt)
    (pick (among mcr_classes c) (Record.Mcr (mcr_at c w)) _
    (simp (h, field_fits w 23 20, field_fits w 19 17, field_fits w 16 14, field_fits w 13 10, field_fits w 9 5, field_fits w 4 1) tt)
    (pick (among mcrr_classes c) (Record.Mcrr (mcrr_at c w)) _
    (simp (h, field_fits w 23 20, field_fits w 19 16, field_fits w 14 10, field_fits w 9 5, field_fits w 4 1) tt)
    (pick (eqb c 0x06) (Record.Ldc (ldc_at w)) _ (simp (field_fits w 23 20, field_fits w 19 12, field_fits w 9 5, field_fits w 3 1) tt)
    (pick (eqb c 0x07) (Record.Simd (simd_at w)) _ (simp (field_fits w 23 20) tt)
    (pick (among call_classes c) (Record.Call (call_at c w)) _ (simp (h, field_fits w 15 0) tt)
    (pick (eqb c 0x13) (Record.Smc (smc_at w)) _ (simp (field_fits w 23 20) tt)
    (pick (eqb c 0x20) (Record.InstructionAbort (instruction_abort_at w)) _ (simp (field_fits w 12 11, field_fits w 5 0) tt)
    (pick (eqb c 0x24) (Record.DataAbort (data_abort_at w)) _
    (simp (field_fits w 23 22, field_fits w 20 16, field_fits w 12 11, field_fits w 5 0) tt)
    (pick (among debug_classes c) (Record.Debug (debug_at c w)) _ (simp (h) tt)
    (pick (eqb c 0x32) (Record.Step (step_at w)) _ tt
    (pick (eqb c 0x34) (Record.Watchpoint (watchpoint_at w)) _ tt
    (pick (eqb c 0x2F) (Record.SError (serror_at w)) _ (simp (field_fits w 12 10, field_fits w 5 0) tt)
    (pick (eqb c 0x18) (Record.System (system_at w)) _
    (simp (field_fits w 21 20, field_fits w 19 17, field_fits w 16 14, field_fits w 13 10, field_fits w 9 5, field_fits w 4 1) tt)
    (simp (h) tt))))))))))))))

pub fits_at : (w : ℕ) → T (fitting (fields_of (record_at w)))
fits_at w = fits_of (field_of w 31 26) w (field_fits w 31 26)
