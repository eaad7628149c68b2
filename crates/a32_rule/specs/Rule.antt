-- The rules of the forms (02, C-18), one by one, from the decoding of each encoding A1: each is true where the manual calls the fields
-- neither UNPREDICTABLE nor another instruction. n, t and m are the numbers of Rn, Rt and Rm; `back` says that the base is written back.
use Rattle.std.specs.Prelude.{ℕ, ◌+◌, ◌%◌, Bool, true, false, not, ◌&&◌, ◌||◌, List, [], ◌∷◌, eqb}
use Rattle.bits.specs.Among.{among}
use Rattle.bits.specs.Field.{bit_of}
use Rattle.a32_fields.specs.declared.kinds.Transfer.{Transfer}
use Rattle.a32_fields.specs.declared.kinds.Transfer.TheVariants.{Ldr, Str, Ldrb, Strb, Ldrh, Strh, Ldrsb, Ldrsh, Ldrd, Strd}

-- P 0 with W 1 is an unprivileged form (LDRT, STRT, LDRBT, STRBT, LDRHT, STRHT, LDRSBT, LDRSHT), and of LDRD and STRD UNPREDICTABLE
abbrev pub pw_rule : Bool → Bool → Bool
pw_rule p w = p || not w

-- the base is written back: post-indexed or pre-indexed
abbrev pub writes_back : Bool → Bool → Bool
writes_back p w = not p || w

-- a base that is written back is neither 15 nor transferred
abbrev pub back_rule : Bool → ℕ → List ℕ → Bool
back_rule back n ts = not (back && among (15 ∷ ts) n)

-- two registers: Rt and the one after it
abbrev pub pair : ℕ → List ℕ
pair t = t ∷ (t + 1) ∷ []

-- the first of two is even and not 14: the second would be 15
abbrev pub pair_rule : ℕ → Bool
pair_rule t = eqb (t % 2) 0 && not (eqb t 14)

-- An immediate offset. A load with base 15 is a literal and not this form.
abbrev pub immediate_rule : Transfer → Bool → ℕ → ℕ → Bool
immediate_rule Ldr back n t = not (eqb n 15) && back_rule back n (t ∷ [])
immediate_rule Str back n t = back_rule back n (t ∷ [])
immediate_rule Ldrb back n t = not (eqb t 15) && not (eqb n 15) && back_rule back n (t ∷ [])
immediate_rule Strb back n t = not (eqb t 15) && back_rule back n (t ∷ [])
immediate_rule Ldrh back n t = not (eqb t 15) && not (eqb n 15) && back_rule back n (t ∷ [])
immediate_rule Strh back n t = not (eqb t 15) && back_rule back n (t ∷ [])
immediate_rule Ldrsb back n t = not (eqb t 15) && not (eqb n 15) && back_rule back n (t ∷ [])
immediate_rule Ldrsh back n t = not (eqb t 15) && not (eqb n 15) && back_rule back n (t ∷ [])
immediate_rule Ldrd back n t = pair_rule t && not (eqb n 15) && back_rule back n (pair t)
immediate_rule Strd back n t = pair_rule t && back_rule back n (pair t)

-- An offset register, which is never 15. LDRD doesn't load over it.
abbrev pub register_rule : Transfer → Bool → ℕ → ℕ → ℕ → Bool
register_rule Ldr back n t m = not (eqb m 15) && back_rule back n (t ∷ [])
register_rule Str back n t m = not (eqb m 15) && back_rule back n (t ∷ [])
register_rule Ldrb back n t m = not (eqb t 15) && not (eqb m 15) && back_rule back n (t ∷ [])
register_rule Strb back n t m = not (eqb t 15) && not (eqb m 15) && back_rule back n (t ∷ [])
register_rule Ldrh back n t m = not (eqb t 15) && not (eqb m 15) && back_rule back n (t ∷ [])
register_rule Strh back n t m = not (eqb t 15) && not (eqb m 15) && back_rule back n (t ∷ [])
register_rule Ldrsb back n t m = not (eqb t 15) && not (eqb m 15) && back_rule back n (t ∷ [])
register_rule Ldrsh back n t m = not (eqb t 15) && not (eqb m 15) && back_rule back n (t ∷ [])
register_rule Ldrd back n t m = not (among (pair t) m) && pair_rule t && not (eqb m 15) && back_rule back n (pair t)
register_rule Strd back n t m = pair_rule t && not (eqb m 15) && back_rule back n (pair t)

-- A literal. There is none of a store.
abbrev pub literal_rule : Transfer → ℕ → Bool
literal_rule Ldr t = true
literal_rule Str t = false
literal_rule Ldrb t = not (eqb t 15)
literal_rule Strb t = false
literal_rule Ldrh t = not (eqb t 15)
literal_rule Strh t = false
literal_rule Ldrsb t = not (eqb t 15)
literal_rule Ldrsh t = not (eqb t 15)
literal_rule Ldrd t = pair_rule t
literal_rule Strd t = false

-- LDM and STM in their four modes: a base that isn't 15, and some register. LDM doesn't write back a base that it loads; STM may store one.
abbrev pub multiple_rule : Bool → Bool → ℕ → ℕ → Bool
multiple_rule load w n list = not (eqb n 15) && not (eqb list 0) && not (load && w && bit_of list n)
