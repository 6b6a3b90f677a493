use Rattle.std.proofs.Common.{refl, sym, ◌∙◌}
use Rattle.js_code.specs.Parts.{as_expr, expr_at}
use Rattle.js_value.specs.declared.heap.value.Value.TheVariants.{Nothing}
use Rattle.std.specs.Prelude.{Ok}
use Rattle.js_steps.specs.declared.frames.frame.Task.TheVariants.{Give}
use Rattle.js_steps.specs.Moment.{expr_does}
use Rattle.js_steps.specs.FoundLaws.{simple_marked}
use Rattle.js_steps.specs.WayLaws.{goes_none}
use Rattle.js_steps.specs.PopLaws.{steps_in}
use Rattle.js_steps.proofs.Found.{found_in, found_none}
use Rattle.js_steps.proofs.steps.evaluate.evaluate.Goals as goal

pub simple-requires : goal.simple-requires
simple-requires c = record { simple = simple_marked c.args.state.now.body.now c.args.i (sym c.is_simple.ensures.value ∙ c.if-is_simple.true) }

pub returns-then-is_simple : goal.returns-then-is_simple
returns-then-is_simple c = record { keeps = found_in c.args.env.now c.args.stack.now.items c.args.state.now c.simple.new.state c.args.i c.in_ok-v.v c.in_ok-v.ensures.same c.in_ok-v.ensures.value }

pub returns-in_err-v : goal.returns-in_err-v
returns-in_err-v c = record { keeps = found_none c.args.env.now c.args.stack.now.items c.args.state.now c.simple.new.state c.from_residual.result _ c.args.i c.from_residual.ensures.1 c.in_err-v.ensures.value }

pub begin-requires : goal.begin-requires
begin-requires c = record { held = sym c.in-Some.ensures.value }

pub returns-in-None : goal.returns-in-None
returns-in-None c = record {
  keeps =
      let s = c.args.state.now in
      let stack = c.args.stack.now.items in
      steps_in c.args.env.now stack stack s s (Ok (Give Nothing)) (λ st m. expr_does st (expr_at m.trees c.args.i) m)
      (goes_none stack s c.args.i (Give Nothing) (λ st t m. expr_does st (as_expr t) m) (sym c.in-None.ensures.value) (λ st m. refl));
}
