-- `a32_words::access_words` meets its contract: one word more stands in its place, and with the last three the words are those of the
-- parts, in their order.
-- Assumes nothing.
use Rattle.std.proofs.Common.{◌≡◌, ℕ, List, [], ◌∷◌, ◌++◌, length, set, refl, ap, ◌∙◌, arith}
use Rattle.std.proofs.lemmas.List.Edits.{length-paste}
use lib.Seq.{paste}
use Rattle.signed.specs.Signed.{signed, sum_of}
use Rattle.record_words.specs.Words.{zeros}
use Rattle.record_words.proofs.Placed.{one_more}
use Rattle.a32_transfer.specs.Shape.{shape_of}
use Rattle.a32_transfer.specs.declared.shape.Shape.{Shape}
use Rattle.a32_access.specs.declared.access.Access.{Access}
use Rattle.a32_fields.specs.declared.kinds.Fields.{Fields}
use Rattle.a32_words.specs.Words.{form_number, fields_after, shape_words, access_words}
use Rattle.a32_words.proofs.access_words.Goals as goal

-- what the first loop begins with
abbrev begun : ℕ → List ℕ
begun form = form ∷ zeros 15

-- what the loops leave, with the last three words
abbrev ended : List ℕ → ℕ → ℕ → ℕ → List ℕ
ended words count address added = set (set (set words 13 count) 14 address) 15 added

all_parts : (f : Fields) (form : ℕ) (shape : Shape) (count address added : ℕ)
    → ended (paste (paste (begun form) 1 (fields_after f) 9) 10 (shape_words shape) 3) count address added
    ≡ form ∷ (fields_after f ++ (shape_words shape ++ (count ∷ address ∷ added ∷ [])))
all_parts (Fields.Immediate r) form shape count address added = refl
all_parts (Fields.Register r) form shape count address added = refl
all_parts (Fields.Literal r) form shape count address added = refl
all_parts (Fields.Multiple r) form shape count address added = refl

parts : (a : Access) {form added n m : ℕ} {after moved first second : List ℕ} → form ≡ form_number a.fields → after ≡ fields_after a.fields
    → moved ≡ shape_words (shape_of a.fields) → added ≡ sum_of 0 (signed a.change) → n ≡ 9 → first ≡ paste (begun form) 1 after n → m ≡ 3
    → second ≡ paste first 10 moved m → ended second a.count a.address added ≡ access_words a
unfolding access_words
parts a form after moved added nine first three second =
    (λ i. ended (second i) a.count a.address (added i))
    ∙ (λ i. ended (paste (first i) 10 (moved i) (three i)) a.count a.address (sum_of 0 (signed a.change)))
    ∙ (λ i. ended (paste (paste (begun (form i)) 1 (after i) (nine i)) 10 (shape_words (shape_of a.fields)) 3) a.count a.address
    (sum_of 0 (signed a.change)))
    ∙ all_parts a.fields (form_number a.fields) (shape_of a.fields) a.count a.address (sum_of 0 (signed a.change))

pub loop-i-preserved : goal.loop-i-preserved
loop-i-preserved c =
    one_more (begun c.form_number.result) 1 c.fields_after-after.result c.loop-i.i c.loop-i.invariant (omega arith) (omega arith) (omega arith)

pub loop-i-2-preserved : goal.loop-i-2-preserved
loop-i-2-preserved c =
    let sixteen =
    ap length c.loop-i.invariant
    ∙ length-paste (begun c.form_number.result) 1 c.fields_after-after.result c.loop-i.i (omega arith) (omega arith) in
    one_more c.loop-i.words 10 c.shape_words-moved.result c.loop-i-2.i c.loop-i-2.invariant (omega arith) (omega (arith, sixteen)) (omega arith)

pub returns : goal.returns
returns c =
    let nine : c.loop-i.i ≡ 9 = omega arith in
    let three : c.loop-i-2.i ≡ 3 = omega arith in
    parts c.args.access c.form_number.ensures c.fields_after-after.ensures
    (c.shape_words-moved.ensures ∙ ap shape_words c.shape_of.ensures) c.sum.ensures nine c.loop-i.invariant three c.loop-i-2.invariant
