use Rattle.std.proofs.Common.{ap}
use Rattle.js_value.specs.ValueSeen.{value_of}
use Rattle.js_eval.specs.Seen.{setting_of, world_of}
use Rattle.js_eval.proofs.Follows.{stops_then}
use Rattle.js_eval.proofs.Parts.{stopped}
use Rattle.js_eval.proofs.Loops.{stops_as}
use Rattle.js_eval.proofs.Globals.{globals_next, globals_set, globals_other, globals_done}
use Rattle.js_eval.proofs.start.set_globals.Goals.{in-Global+in_ok-v+in_ok-set_local, in_default}
use Rattle.js_eval.proofs.start.set_globals.Goals as goal

pub returns-in_err-v : goal.returns-in_err-v
returns-in_err-v c = record {
  value = λ d. stopped d _ c.from_residual.result _ _ _ _ c.from_residual.ensures.1
      (stops_as d _ _ _ _ _ (globals_next (setting_of c.args.context.now d) c.deref-item-items.result.now c.args.context.now.script.now.items.items c.loop-item.item-index c.item-item.result c.in-Global.x c.in-Global.e c.in-Global.field-2 (world_of c.args.world.now) (world_of c.loop-item.world) c.deref-item-items.ensures.value (c.loop-item.invariant d) c.loop-item-test.true c.item-item.is c.in-Global.is)
      (stops_then d _ _ _ _ _ (c.in_err-v.ensures.value d)));
}

pub loop-item-preserved : goal.loop-item-preserved
loop-item-preserved c = λ d. elim c.match-item.branch [
  | in-Global+in_ok-v+in_ok-set_local w ↦
      globals_set (setting_of c.args.context.now d) c.deref-item-items.result.now c.loop-item.item-index c.item-item.result w.in-Global.x w.in-Global.e w.in-Global.field-2 (world_of c.args.world.now) (world_of c.loop-item.world) (world_of w.eval.new.world) (world_of c.match-item.world) (value_of w.in_ok-v.v) (c.loop-item.invariant d) c.loop-item-test.true c.item-item.is w.in-Global.is (w.in_ok-v.ensures.value d) (rw w.world-is (ap (λ g. record (world_of w.eval.new.world) { globals = g }) (w.in_ok-set_local.ensures.value)))
  | in_default w ↦
      rw w.world-is (globals_other (setting_of c.args.context.now d) c.deref-item-items.result.now c.loop-item.item-index c.item-item.result (world_of c.args.world.now) (world_of c.loop-item.world) (c.loop-item.invariant d) c.loop-item-test.true c.item-item.is w.in_default.not-Global)
]

pub returns : goal.returns
returns c = record { value = λ d. globals_done (setting_of c.args.context.now d) c.deref-item-items.result.now c.args.context.now.script.now.items.items c.loop-item.item-index (world_of c.args.world.now) (world_of c.loop-item.world) c.deref-item-items.ensures.value (c.loop-item.invariant d) c.loop-item-test.false }
