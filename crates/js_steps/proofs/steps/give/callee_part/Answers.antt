use Rattle.std.proofs.Common.{refl, Some, slice_get}
use Rattle.std.specs.Prelude.{Ok}
use Rattle.js_code.specs.Held.{part_of}
use Rattle.js_code.specs.Parts.{tree_of}
use Rattle.js_value.specs.HeapSeen.{value_of}
use Rattle.js_steps.specs.declared.frames.frame.Task.TheVariants.{Give}
use Rattle.js_steps.specs.PartWaits.{callee_does}
use Rattle.js_steps.specs.WayLaws.{goes_step, part_by}
use Rattle.js_steps.specs.PopLaws.{steps_in}
use Rattle.js_steps.proofs.Callee.{callee_goes, no_callee}
use Rattle.js_steps.proofs.steps.give.callee_part.Goals as goal

pub returns-in-Call : goal.returns-in-Call
returns-in-Call c = record {
  keeps =
      callee_goes c.args.env.now c.args.stack.now.items c.with_callee.new.stack.items c.args.state.now c.with_callee.new.state c.with_callee.result c.args.i c.args.part c.in-Call.at c.in-Call.callee c.in-Call.list c.args.usage (value_of c.args.v)
      c.requires.held c.in-Call.is c.with_callee.ensures.keeps;
}

pub returns-in_default : goal.returns-in_default
returns-in_default c = record {
  keeps =
      let s = c.args.state.now in
      let stack = c.args.stack.now.items in
      let v = value_of c.args.v in
      let t = Give c.args.v in
      steps_in c.args.env.now stack stack s s (Ok t) (λ st m. callee_does st c.args.usage (slice_get m.trees c.args.i) v m)
      (part_by stack stack s s (Ok t) c.args.i c.args.part c.args.part (λ st o m. callee_does st c.args.usage o v m) c.requires.held refl
      (goes_step stack s t (λ st m. callee_does st c.args.usage (Some (tree_of m.trees (part_of c.args.part))) v m) (λ st m. no_callee c.args.part c.in_default.not-Call st c.args.usage m.trees v m)));
}
