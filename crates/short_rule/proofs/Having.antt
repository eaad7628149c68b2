-- What an edition's having a record gives.
-- Assumes nothing.
use mathlib.Core.Path.{◌≡◌}
use mathlib.Core.Bool.{true, ◌&&◌}
use Prim.Native.Nat.{ℕ, ◌<◌}
use borrow.Author.Tests.{ltb-true}
use lib.Dec.{T}
use Rattle.bits.specs.Layout.{fitting}
use Rattle.bits.proofs.Booleans.{and_left, and_right, holds}
use Rattle.short_rule.specs.Edition.{editions, is_edition}
use Rattle.short_record.specs.Class.{head_of}
use Rattle.short_layout.specs.Fields.{fields_of}
use Rattle.short_record.specs.declared.kinds.Record.{Record}
use Rattle.short_rule.specs.Rule.{layout_rule}
use Rattle.short_rule.specs.Code.{edition_rule}
use Rattle.short_rule.specs.Has.{record_il, lawful, has}

module _ (e : ℕ) (r : Record) (h : has e r ≡ true) where
  both_parts : (is_edition e && lawful r) ≡ true
  unfolding has
  both_parts = and_left (is_edition e && lawful r) (edition_rule e r) h

  pub has_edition : e < editions
  has_edition = ltb-true e editions (and_left (is_edition e) (lawful r) both_parts)

  has_lawful : ((head_of r).own && record_il r && (fitting (fields_of r) && layout_rule r)) ≡ true
  unfolding lawful
  has_lawful = and_right (is_edition e) (lawful r) both_parts

  heads : ((head_of r).own && record_il r) ≡ true
  heads = and_left ((head_of r).own && record_il r) (fitting (fields_of r) && layout_rule r) has_lawful

  pub has_own : (head_of r).own ≡ true
  has_own = and_left (head_of r).own (record_il r) heads

  pub has_il : record_il r ≡ true
  has_il = and_right (head_of r).own (record_il r) heads

  allowed : (fitting (fields_of r) && layout_rule r) ≡ true
  allowed = and_right ((head_of r).own && record_il r) (fitting (fields_of r) && layout_rule r) has_lawful

  pub has_fits : T (fitting (fields_of r))
  has_fits = holds (and_left (fitting (fields_of r)) (layout_rule r) allowed)

  pub has_layout : layout_rule r ≡ true
  has_layout = and_right (fitting (fields_of r)) (layout_rule r) allowed
