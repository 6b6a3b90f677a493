use Rattle.std.proofs.Common.{refl}
use Rattle.js_code.specs.Names.{names_of, distinct}
use Rattle.js_tree.specs.Evaluate.{scope_of}
use Rattle.js_tree.specs.View.{function_view}
use Rattle.js_code.specs.FunctionCode.{table_with}
use Rattle.js_steps.proofs.BodiesMade.{function_sound, function_body}
use Rattle.js_steps.proofs.bodies.make.body_of.Goals as goal

pub of-requires : goal.of-requires
of-requires c =
    let functions = names_of c.args.functions.now.set.keys in
    let globals = names_of c.args.globals.now.set.keys in
    let f = function_view c.args.f.now in
    record { sound = (table_with functions globals (distinct (scope_of f).names), function_sound functions globals f c.in_ok-made.made c.in_ok-made.ensures.value) }

pub invariant_of-result : goal.invariant_of-result
invariant_of-result c =
    let functions = names_of c.args.functions.now.set.keys in
    let globals = names_of c.args.globals.now.set.keys in
    let f = function_view c.args.f.now in
    record {
      sound = ∣ (table_with functions globals (distinct (scope_of f).names), function_sound functions globals f c.in_ok-made.made c.in_ok-made.ensures.value) ∣₁;
      marked = c.in_ok-marks.ensures.value;
    }

pub returns : goal.returns
returns c = record {
  value = λ script n.
      function_body (names_of c.args.functions.now.set.keys) (names_of c.args.globals.now.set.keys) c.args.f c.in_ok-made.made _ c.in_ok-made.ensures.value refl refl refl refl refl script n;
}
