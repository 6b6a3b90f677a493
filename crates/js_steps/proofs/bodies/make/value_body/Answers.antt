use Rattle.std.proofs.Common.{refl, []}
use Rattle.js_code.specs.Names.{names_of}
use Rattle.js_tree.specs.View.{expr_view}
use Rattle.js_code.specs.FunctionCode.{table_with}
use Rattle.js_steps.proofs.BodiesMade.{value_sound, value_body}
use Rattle.js_steps.proofs.bodies.make.value_body.Goals as goal

pub of-requires : goal.of-requires
of-requires c =
    let functions = names_of c.args.functions.now.set.keys in
    let globals = names_of c.args.globals.now.set.keys in
    record { sound = (table_with functions globals [], value_sound functions globals (expr_view c.args.e.now) c.in_ok-made.made c.in_ok-made.ensures.value) }

pub invariant_of-result : goal.invariant_of-result
invariant_of-result c =
    let functions = names_of c.args.functions.now.set.keys in
    let globals = names_of c.args.globals.now.set.keys in
    record {
      sound = ∣ (table_with functions globals [], value_sound functions globals (expr_view c.args.e.now) c.in_ok-made.made c.in_ok-made.ensures.value) ∣₁;
      marked = c.in_ok-marks.ensures.value;
    }

pub returns : goal.returns
returns c = record {
  value = λ script n.
      value_body (names_of c.args.functions.now.set.keys) (names_of c.args.globals.now.set.keys) (expr_view c.args.e.now) c.in_ok-made.made _ c.in_ok-made.ensures.value refl refl refl script n;
}
