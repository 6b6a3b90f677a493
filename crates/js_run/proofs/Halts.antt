-- What stops a run, at a point that its steps have reached.
use Rattle.std.proofs.Common.{◌≡◌, ap, sym, ◌∙◌, subst, arith, ℕ, ◌+◌, List, [], ◌++◌, append_assoc, length}
use Rattle.std.specs.Prelude.{Err}
use Rattle.std.proofs.lemmas.List.{append-nil}
use Rattle.gj_base.specs.Counts.{Begins}
use Rattle.gj_base.specs.Sink.{SinkState, appended, FailedIn}
use Rattle.js_tree.specs.Script.{ScriptTree}
use Rattle.js_tree.specs.Value as run
use Rattle.js_tree.specs.Value.{World, over}
use Rattle.js_tree.specs.Evaluate.{choice_number}
use Rattle.js_tree.specs.ScriptRun.{script_run, result_of}
use Rattle.js_steps.specs.declared.frames.frame.Frame.{Frame}
use Rattle.js_steps.specs.declared.frames.state.State.{State}
use Rattle.js_steps.specs.Moment.{Out}
use Rattle.js_steps.specs.Stack.{end_of}
use Rattle.js_steps.specs.Stands.{Before, world_of}
use Rattle.js_run.specs.declared.walks.stop.Stop.{Stop}
use Rattle.js_run.specs.declared.walks.stop.Stop.TheVariants.{WriteFault, NoMemory, Over}
use Rattle.js_run.specs.Stays.{world_at}
use Rattle.js_run.specs.Walks.{Agrees, Moves, Goes}
use Rattle.js_run.specs.WalkLaws.{moves_then, agrees_first, agrees_second}
use Rattle.js_run.specs.GrowthLaws.{reached_begins, text_begins}
use Rattle.js_run.specs.Runs.{BeginsWith}
use Rattle.js_run.specs.Points.{Stops, beginning}

-- a text begins itself, and what it begins
pub begins_same : (p : List ℕ) → Begins p p
begins_same p = ([], sym (append-nil p))

pub begins_then : (p q r : List ℕ) → Begins p q → Begins q r → Begins p r
begins_then p q r h g = (h.0 ++ g.0, g.1 ∙ ap (λ (x : List ℕ). x ++ g.0) h.1 ∙ append_assoc p h.0 g.0)

-- the numbers of two parts of a run
from_start : (choices numbers : List ℕ) → BeginsWith numbers choices → Agrees choices 0 numbers
from_start choices numbers a = λ i l. let z : 0 + i ≡ i = omega arith in ap (choice_number choices) z ∙ a i l

pub begins_first : (choices ns ms : List ℕ) → BeginsWith (ns ++ ms) choices → BeginsWith ns choices
begins_first choices ns ms a = λ i l. let z : 0 + i ≡ i = omega arith in ap (choice_number choices) (sym z) ∙ agrees_first choices 0 ns ms (from_start choices (ns ++ ms) a) i l

pub agrees_rest : (choices ns ms : List ℕ) (place : ℕ) → place ≡ 0 + length ns → BeginsWith (ns ++ ms) choices → Agrees choices place ms
agrees_rest choices ns ms place e a = agrees_second choices 0 place ns ms e (from_start choices (ns ++ ms) a)

module _ (script : ScriptTree) (choices : List ℕ) (budget : ℕ) where
  -- what is left to be done comes to what all of the run comes to
  pub record ComesTo (all : Out) : Type 0 where
    pub overs : (e : run.End) (w : World) → over e w ≡ all → result_of budget (over e w) ≡ script_run script choices budget
    pub later : Begins (world_at all).printed (script_run script choices budget).printed

  pub stops : (stop : Stop) (b : Before) (all : Out) (ns ms : List ℕ) (k0 k1 k2 : SinkState) (stack : List Frame) (s : State) → ComesTo all → Moves beginning b ns k0 k1
      → Goes script choices budget b all ms k1 k2 stack s (Err stop) → Stops stop script choices budget (ns ++ ms) k0 k2 s
  stops (Over e) b all ns ms k0 k1 k2 stack s c m g =
      record { before = g.0; variables = g.2.0; moves = moves_then beginning b g.0 ns ms k0 k1 k2 m g.1; is = c.overs (end_of e) (world_of g.0 g.2.0 s) g.2.1 }
  stops WriteFault b all ns ms k0 k1 k2 stack s c m g =
      let x = g.1 in
      let r = x.3 in
      let mv = moves_then beginning b r.before ns ms k0 k1 g.0 m r.moves in
      record {
        before = r.before.printed;
        text = x.2.now;
        begins =
            begins_then (r.before.printed ++ x.2.now) (world_at all).printed (script_run script choices budget).printed (text_begins script choices budget b all ms k1 g.0 x.0 x.1 x.2 r x.4) c.later;
        failed = subst (λ (k : SinkState). FailedIn x.2.now k k2) (mv.written ∙ ap (appended k0) (sym mv.printed)) x.5;
      }
  stops NoMemory b all ns ms k0 k1 k2 stack s c m g =
      let t = g.1.0 in
      let r = g.1.1 in
      let kept = g.1.2 in
      let mv = moves_then beginning b r.before ns ms k0 k1 g.0 m r.moves in
      let sink : g.0 ≡ appended k0 r.before.printed = mv.written ∙ ap (appended k0) (sym mv.printed) in
      record {
        part = r.before.printed;
        begins = begins_then r.before.printed (world_at all).printed (script_run script choices budget).printed (reached_begins script choices budget b all ms k1 g.0 t r) c.later;
        bytes = kept.bytes ∙ ap (λ (k : SinkState). k.bytes) sink;
        faults = kept.faults ∙ ap (λ (k : SinkState). k.faults) sink;
      }
