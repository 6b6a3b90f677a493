use Rattle.std.proofs.Common.{◌≡◌, sym, subst, ◌∙◌, slice_get, Some}
use Rattle.js_code.specs.Held.{part_of}
use Rattle.js_value.specs.HeapSeen.{value_of}
use Rattle.js_steps.specs.declared.bodies.body.Body.{Body}
use Rattle.std.specs.Borrow.{Bor}
use Rattle.js_steps.specs.PartWaits.{third_does}
use Rattle.js_steps.specs.FoundLaws.{found_value, simple_marked}
use Rattle.js_steps.specs.WayLaws.{found_stopped}
use Rattle.js_steps.proofs.operands.operands.third.Goals as goal

pub simple-requires : goal.simple-requires
simple-requires c = record { simple = simple_marked c.args.state.now.body.now c.args.e (sym c.is_simple.ensures.value ∙ c.if-is_simple.true) }

pub returns-then-is_simple : goal.returns-then-is_simple
returns-then-is_simple c = record {
  keeps =
      found_value c.args.stack.now.items c.args.stack.now.items c.args.state.now c.simple.new.state c.with_third.new.state c.in_ok-x.x c.with_third.result c.args.e (λ st x m. third_does (slice_get m.trees c.args.i) (value_of c.args.u) (value_of c.args.v) x m)
      c.in_ok-x.ensures.same c.in_ok-x.ensures.value (c.with_third.ensures.keeps c.args.stack.now.items c.args.i (subst (λ (k : Bor Body). slice_get k.now.code c.args.i ≡ Some (part_of c.args.part)) (sym c.in_ok-x.ensures.same.body) c.requires.held));
}

pub returns-in_err-x : goal.returns-in_err-x
returns-in_err-x c = record {
  keeps = found_stopped c.args.stack.now.items c.args.state.now c.simple.new.state c.from_residual.result _ c.args.e (λ st x m. third_does (slice_get m.trees c.args.i) (value_of c.args.u) (value_of c.args.v) x m) c.from_residual.ensures.1 c.in_err-x.ensures.value;
}

pub returns : goal.returns
returns c = record { keeps = c.wait.ensures.keeps c.args.state.now }
