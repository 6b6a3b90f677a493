use Rattle.js_tree.specs.View.{script_view}
use Rattle.js_eval.specs.Seen.{world_of}
use Rattle.js_eval.proofs.Ended.{ran_as, refused_as, handed_on}
use Rattle.js_eval.proofs.start.run_sound.Goals as goal

pub returns-in_err-end : goal.returns-in_err-end
returns-in_err-end c = record {
  runs = handed_on (script_view c.args.script.now) c.args.choices.now c.args.depth c.args.ticks c.from_residual.result c.in_err-end.field-0.0 c.from_residual.ensures.1
      (refused_as (script_view c.args.script.now) c.args.choices.now c.args.depth c.args.ticks c.run_all-outcome.result c.in_err-end.field-0.0 (world_of c.run_all-outcome.new.world) c.in_err-end.ensures.value
      (λ d. rw (c.new.ensures.items, c.new-2.ensures.items, c.new-3.ensures.items) at (c.run_all-outcome.ensures.value d)));
}

pub returns : goal.returns
returns c = record {
  runs = rw c.saturating_sub.ensures
      (ran_as (script_view c.args.script.now) c.args.choices.now c.args.depth c.args.ticks c.run_all-outcome.result c.in_ok-end.end (world_of c.run_all-outcome.new.world) c.in_ok-end.ensures.value
      (λ d. rw (c.new.ensures.items, c.new-2.ensures.items, c.new-3.ensures.items) at (c.run_all-outcome.ensures.value d)));
}
