-- What an edition's having a record gives.
-- Assumes nothing.
use mathlib.Core.Path.{◌≡◌, ◌∙◌, sym}
use mathlib.Core.Bool.{true, false, ◌&&◌, true≢false}
use Prim.Native.Nat.{ℕ, ◌<◌}
use borrow.Author.Tests.{ltb-true}
use lib.Dec.{T}
use Rattle.bits.specs.Layout.{fitting}
use Rattle.bits.proofs.Booleans.{and_left, and_right, holds, not_true_false}
use Rattle.edition.specs.Feature.{editions, is_edition}
use Rattle.edition.proofs.Masks.{empty_mask}
use Rattle.record.specs.Class.{is_class, head_of}
use Rattle.layout.specs.Fields.{fields_of}
use Rattle.record.specs.declared.origin.Origin.{Origin}
use Rattle.record.specs.declared.kinds.Record.{Record}
use Rattle.layout_rule.specs.Rule.{layout_rule}
use Rattle.rule.specs.Has.{edition_rule, record_class, record_il, lawful, has, editions_of}

module _ (o : Origin) (e : ℕ) (r : Record) (h : has o e r ≡ true) where
  both_parts : (is_edition e && lawful o r) ≡ true
  unfolding has
  both_parts = and_left (is_edition e && lawful o r) (edition_rule e r) h

  pub has_edition : e < editions
  has_edition = ltb-true e editions (and_left (is_edition e) (lawful o r) both_parts)

  has_lawful : (record_class o r && record_il o r && (fitting (fields_of r) && layout_rule o r)) ≡ true
  unfolding lawful
  has_lawful = and_right (is_edition e) (lawful o r) both_parts

  heads : (record_class o r && record_il o r) ≡ true
  heads = and_left (record_class o r && record_il o r) (fitting (fields_of r) && layout_rule o r) has_lawful

  pub has_class : record_class o r ≡ true
  has_class = and_left (record_class o r) (record_il o r) heads

  pub has_own : (head_of r).own ≡ true
  has_own = and_left (head_of r).own (is_class o (head_of r).class) has_class

  pub has_origin : is_class o (head_of r).class ≡ true
  has_origin = and_right (head_of r).own (is_class o (head_of r).class) has_class

  pub has_il : record_il o r ≡ true
  has_il = and_right (record_class o r) (record_il o r) heads

  allowed : (fitting (fields_of r) && layout_rule o r) ≡ true
  allowed = and_right (record_class o r && record_il o r) (fitting (fields_of r) && layout_rule o r) has_lawful

  pub has_fits : T (fitting (fields_of r))
  has_fits = holds (and_left (fitting (fields_of r)) (layout_rule o r) allowed)

  pub has_layout : layout_rule o r ≡ true
  has_layout = and_right (fitting (fields_of r)) (layout_rule o r) allowed

-- no edition has a record of a class that the origin lacks
pub origin_lacks : (o : Origin) (r : Record) → is_class o (head_of r).class ≡ false → editions_of o r ≡ 0
origin_lacks o r lacking =
    sym (empty_mask (λ e. has o e r) (λ e. not_true_false (has o e r) (λ h. true≢false (sym (has_origin o e r h) ∙ lacking))))
