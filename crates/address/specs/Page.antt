-- What FAR and HPFAR hold where they count (01, 'Addresses of an abort').
use Rattle.std.specs.Prelude.{ℕ, ◌+◌, ◌*◌, ◌^◌, Bool, cond, ◌&&◌, ◌||◌, eqb}
use Rattle.bits.specs.Field.{field_of}
use Rattle.edition.specs.Feature.{lpa}
use Rattle.record.specs.Origin.{from_aarch64}
use Rattle.record.specs.declared.origin.Origin.{Origin}
use Rattle.registers.specs.declared.Far.{Far}
use Rattle.registers.specs.declared.Hpfar.{Hpfar}

-- the page number is HPFAR 43:4 with LPA, else 39:4 (02, C-16)
abbrev pub page_top : ℕ → ℕ
page_top e = cond (lpa e) 43 39

-- other bits of HPFAR must be 0
abbrev pub hpfar_rule : ℕ → Hpfar → Bool
hpfar_rule e hpfar = eqb (field_of hpfar.0 63 (page_top e + 1)) 0 && eqb (field_of hpfar.0 3 0) 0

-- and so must 63:32 of FAR, where the trap came from AArch32; from AArch64 they are free (02, C-23)
abbrev pub far_rule : Origin → Far → Bool
far_rule o far = from_aarch64 o || eqb (field_of far.0 63 32) 0

-- a page is 4096 bytes
abbrev pub page_address : Hpfar → ℕ
page_address hpfar = field_of hpfar.0 43 4 * 2 ^ 12
