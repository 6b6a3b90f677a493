use Rattle.std.proofs.Common.{refl, sym, ap, ◌∙◌}
use Rattle.go_type.specs.Levels.{tree_of}
use Rattle.js_values.specs.Numbers.{constant_count}
use Rattle.js_values.proofs.Forms.{of_const, of_expr, no_count}
use Rattle.js_values.proofs.numbers.constant_count.Goals as goal

pub returns-in-Const : goal.returns-in-Const
returns-in-Const c = λ ts.
    c.count_in.ensures (tree_of ts c.in-Const.ty) ∙ sym (ap constant_count (of_const ts c.args.e.now c.deref.result.now c.deref.ensures c.in-Const.ty c.in-Const.value c.in-Const.is))

pub returns-in_default : goal.returns-in_default
returns-in_default c = λ ts.
    sym (ap constant_count (of_expr ts c.args.e.now c.deref.result.now c.deref.result.now c.deref.ensures refl) ∙ no_count ts c.deref.result.now c.in_default.not-Const)
