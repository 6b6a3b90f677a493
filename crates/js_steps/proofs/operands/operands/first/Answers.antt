use Rattle.std.proofs.Common.{◌≡◌, sym, subst, ◌∙◌, slice_get, Some}
use Rattle.js_code.specs.Held.{part_of}
use Rattle.js_steps.specs.declared.bodies.body.Body.{Body}
use Rattle.std.specs.Borrow.{Bor}
use Rattle.js_steps.specs.PartWaits.{first_does}
use Rattle.js_steps.specs.FoundLaws.{found_value, simple_marked}
use Rattle.js_steps.specs.WayLaws.{found_stopped}
use Rattle.js_steps.proofs.operands.operands.first.Goals as goal

pub simple-requires : goal.simple-requires
simple-requires c = record { simple = simple_marked c.args.state.now.body.now c.args.e (sym c.is_simple.ensures.value ∙ c.if-is_simple.true) }

pub with_first-requires : goal.with_first-requires
with_first-requires c = record { held = subst (λ (k : Bor Body). slice_get k.now.code c.args.i ≡ Some (part_of c.args.part)) (sym c.in_ok-v.ensures.same.body) c.requires.held }

pub returns-then-is_simple : goal.returns-then-is_simple
returns-then-is_simple c = record {
  keeps =
      found_value c.args.stack.now.items c.with_first.new.stack.items c.args.state.now c.simple.new.state c.with_first.new.state c.in_ok-v.v c.with_first.result c.args.e (λ st v m. first_does st (slice_get m.trees c.args.i) v m)
      c.in_ok-v.ensures.same c.in_ok-v.ensures.value c.with_first.ensures.keeps;
}

pub returns-in_err-v : goal.returns-in_err-v
returns-in_err-v c = record {
  keeps = found_stopped c.args.stack.now.items c.args.state.now c.simple.new.state c.from_residual.result _ c.args.e (λ st v m. first_does st (slice_get m.trees c.args.i) v m) c.from_residual.ensures.1 c.in_err-v.ensures.value;
}

pub returns : goal.returns
returns c = record { keeps = c.wait.ensures.keeps c.args.state.now }
