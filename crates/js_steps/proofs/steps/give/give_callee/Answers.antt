use Rattle.std.proofs.Common.{refl, sym, slice_get}
use Rattle.std.specs.Prelude.{Ok}
use Rattle.js_value.specs.HeapSeen.{value_of}
use Rattle.js_steps.specs.declared.frames.frame.Task.TheVariants.{Give}
use Rattle.js_steps.specs.PartWaits.{callee_does}
use Rattle.js_steps.specs.WayLaws.{goes_none}
use Rattle.js_steps.specs.PopLaws.{steps_in}
use Rattle.js_steps.proofs.steps.give.give_callee.Goals as goal

pub callee_part-requires : goal.callee_part-requires
callee_part-requires c = record { held = sym c.in-Some.ensures.value }

pub returns-in-None : goal.returns-in-None
returns-in-None c = record {
  keeps =
      let s = c.args.state.now in
      let stack = c.args.stack.now.items in
      let v = value_of c.args.v in
      steps_in c.args.env.now stack stack s s (Ok (Give c.args.v)) (λ st m. callee_does st c.args.usage (slice_get m.trees c.args.i) v m)
      (goes_none stack s c.args.i (Give c.args.v) (λ st t m. callee_does st c.args.usage t v m) (sym c.in-None.ensures.value) (λ st m. refl));
}
