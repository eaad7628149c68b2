-- Fault codes by kind, level and walk (001, IFSC and DFSC). The laws of proofs/Codes.antt compare them with the tables that stand elsewhere.
use Rattle.std.specs.Prelude.{ℕ, Bool, cond, ◌||◌, eqb, leb, Option, Some, None}
use Rattle.bits.specs.Field.{field_of}
use Rattle.bits.specs.Test.{between}
use Rattle.cause.specs.declared.kind.Cause.{Cause}
use Rattle.cause.specs.declared.kind.Kind.{Kind}
use Rattle.cause.specs.declared.kind.Level.{Level}

-- the first that holds; no edition has a code but those of the manual's table, of which 0x35 is the last
--     0x00 to 0x03, 0x29   address size         0x10 to 0x17   external       0x30   TLB conflict
--     0x04 to 0x07, 0x2B   translation          0x18 to 0x1F   parity         0x31   unsupported atomic hardware update
--     0x08 to 0x0B         access flag          0x21           alignment      0x34   lockdown
--     0x0C to 0x0F         permission                                         0x35   unsupported exclusive or atomic access
unfoldable pub kind_of : ℕ → Kind
kind_of code =
    cond (leb code 0x03 || eqb code 0x29) Kind.AddressSize
    (cond (leb code 0x07 || eqb code 0x2B) Kind.Translation
    (cond (leb code 0x0B) Kind.AccessFlag
    (cond (leb code 0x0F) Kind.Permission
    (cond (leb code 0x17) Kind.External
    (cond (leb code 0x1F) Kind.Parity
    (cond (eqb code 0x21) Kind.Alignment
    (cond (eqb code 0x30) Kind.TlbConflict
    (cond (eqb code 0x31) Kind.Update
    (cond (eqb code 0x34) Kind.Lockdown Kind.Exclusive)))))))))

-- level -1 has codes of its own; of the other codes with a level it stands in bits 1:0
unfoldable pub level_of : ℕ → Option Level
level_of code =
    cond (eqb code 0x13 || eqb code 0x1B || eqb code 0x29 || eqb code 0x2B) (Some Level.Minus1)
    (cond (leb code 0x0F || between 0x14 0x17 code || between 0x1C 0x1F code) (Some (Level.At (field_of code 1 0))) None)

-- S1PTW, a stage 2 fault on a stage 1 walk; or an external abort or a parity error on a walk
abbrev pub walk_of : Bool → ℕ → Bool
walk_of s1ptw code = s1ptw || between 0x13 0x17 code || between 0x1B 0x1F code

abbrev pub cause_at : Bool → ℕ → Cause
cause_at s1ptw code = record { kind = kind_of code; level = level_of code; walk = walk_of s1ptw code }
