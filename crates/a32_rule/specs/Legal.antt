-- Legal fields (02, C-18): those of some word among these forms whose decoding the manual doesn't call UNPREDICTABLE. The condition isn't
-- 1111, each field fits its bits, and the form's own rule holds.
use Rattle.std.specs.Prelude.{ℕ, Bool, not, ◌&&◌, eqb}
use Rattle.bits.specs.Layout.{fitting}
use Rattle.a32_fields.specs.Layout.{fields_of}
use Rattle.a32_rule.specs.Rule.{pw_rule, writes_back, immediate_rule, register_rule, literal_rule, multiple_rule}
use Rattle.a32_fields.specs.declared.kinds.Fields.{Fields}

abbrev pub condition_of : Fields → ℕ
condition_of (Fields.Immediate r) = r.cond
condition_of (Fields.Register r) = r.cond
condition_of (Fields.Literal r) = r.cond
condition_of (Fields.Multiple r) = r.cond

abbrev pub form_rule : Fields → Bool
form_rule (Fields.Immediate r) = pw_rule r.p r.w && immediate_rule r.transfer (writes_back r.p r.w) r.rn r.rt
form_rule (Fields.Register r) = pw_rule r.p r.w && register_rule r.transfer (writes_back r.p r.w) r.rn r.rt r.rm
form_rule (Fields.Literal r) = literal_rule r.transfer r.rt
form_rule (Fields.Multiple r) = multiple_rule r.load r.w r.rn r.list

unfoldable pub legal : Fields → Bool
legal f = not (eqb (condition_of f) 15) && fitting (fields_of f) && form_rule f
