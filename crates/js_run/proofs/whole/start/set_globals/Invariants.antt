use Rattle.std.proofs.Common.{◌≤◌, ◌+◌, ℕ, List, length, drop}
use Rattle.gj_base.specs.Sink.{SinkState}
use Rattle.js_tree.specs.Script.{Item, ScriptTree}
use Rattle.js_steps.specs.Bodies.{IsProgram}
use Rattle.js_run.specs.Firsts.{AreFirsts}
use Rattle.js_run.specs.Points.{Reached, items_left}
use Rattle.js_run.proofs.Globals.{FirstsLeft}
use Rattle.js_run.proofs.whole.start.set_globals.Given as goal

-- the point before the variables that are left
abbrev pub invariant-loop-first : goal.invariant-loop-first
invariant-loop-first g l = record {
  room : length (g.C.Choices.taken l.choices) + l.steps ≤ length (g.C.Choices.taken l.fn.choices) + l.fn.steps;
  goes : (script : ScriptTree) (budget : ℕ) (taken : List ℕ) (sink : SinkState) (items : List Item) → IsProgram script l.env.functions.now → AreFirsts script items l.firsts
      → Reached script budget taken (g.C.Choices.taken l.fn.choices) sink (g.O.Sink.state l.fn.out) l.fn.state (items_left items)
      → FirstsLeft script budget taken (g.C.Choices.taken l.choices) sink (g.O.Sink.state l.out) l.state (drop l.first-index l.firsts);
}
