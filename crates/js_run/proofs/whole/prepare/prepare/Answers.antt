use Rattle.std.proofs.Common.{sym, ap, subst, ◌∙◌, List, length}
use Rattle.js_tree.specs.Script.{Item, Name}
use Rattle.js_code.specs.Names.{distinct, function_names, global_names}
use Rattle.js_steps.specs.Bodies.{AreNames}
use Rattle.js_run.specs.Firsts.{AreFirsts}
use Rattle.js_run.proofs.whole.prepare.prepare.Goals as goal

pub returns : goal.returns
returns c = record {
  value = λ script e s.
      let names : AreNames script _ _ = record {
        functions_are = c.in_ok-functions.ensures.value ∙ ap (λ (xs : List Item). distinct (function_names xs)) (sym e);
        globals_are = c.in_ok-globals.ensures.value ∙ ap (λ (xs : List Item). distinct (global_names xs)) (sym e);
      } in
      record {
        program = c.in_ok-made.ensures.value script e s names;
        firsts = subst (λ (xs : List Item). AreFirsts script xs c.in_ok-firsts.firsts.items) (sym e) (c.in_ok-firsts.ensures.value script names);
        globals = c.len.ensures ∙ ap (λ (xs : List Name). length xs) names.globals_are;
        start = c.in_ok-start.ensures.value script names;
      };
}
