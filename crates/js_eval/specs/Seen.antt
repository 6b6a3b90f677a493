-- What the plain program's values stand for in the definitions.
use Rattle.std.specs.Prelude.{◌≡◌, ℕ, List, map, Option, option_map, Result, Ok, Err}
use Rattle.std.specs.Borrow.{Bor}
use Rattle.js_tree.specs.Script.{Name}
use Rattle.js_tree.specs.Script as tree
use Rattle.js_tree.specs.View.{script_view}
use Rattle.js_tree.specs.Value as run
use Rattle.js_tree.specs.Evaluate as run_part
use Rattle.js_value.specs.ValueSeen.{value_of, objects_of, entries_of}
use Rattle.js_value.specs.declared.value.entries.Entry.{Entry}
use Rattle.js_value.specs.declared.value.value.Value.{Value}
use Rattle.js_eval.specs.Limited.{Deeper, limited}
use Rattle.js_eval.specs.declared.world.World.{World}
use Rattle.js_eval.specs.declared.state.End.{End}
use Rattle.js_eval.specs.declared.state.End.TheVariants as end
use Rattle.js_eval.specs.declared.state.Stop.{Stop}
use Rattle.js_eval.specs.declared.state.Stop.TheVariants as stop
use Rattle.js_eval.specs.declared.state.Flow.{Flow}
use Rattle.js_eval.specs.declared.state.Flow.TheVariants as flow
use Rattle.js_eval.specs.declared.state.Context.{Context}
use Rattle.js_eval.specs.declared.state.Scope.{Scope}
use Rattle.js_eval.specs.declared.names.Host.{Host}
use Rattle.js_eval.specs.declared.names.Host.TheVariants as host

abbrev pub world_of : World → run.World
world_of w = record { left = w.left; printed = w.printed.items; taken = w.taken; objects = objects_of w.objects.items; globals = entries_of w.globals.items }

abbrev pub end_of : End → run.End
end_of end.Going = run.Going
end_of (end.Ended c t) = run.Ended c t
end_of (end.Stuck at) = run.Stuck at

abbrev pub flow_of : Flow → run_part.Flow
flow_of flow.Onward = run_part.onward
flow_of (flow.Breaks x) = run_part.breaks x.now
flow_of (flow.Continues x) = run_part.continues x.now
flow_of (flow.Returns v) = run_part.returns (option_map value_of v)

abbrev pub host_of : Host → run_part.Host
host_of host.Write = run_part.write
host_of host.Pick = run_part.pick
host_of host.Finish = run_part.finish

abbrev pub names_of : List (Bor Name) → List Name
names_of xs = map (λ x. x.now) xs

abbrev pub scope_of : Scope → run_part.Scope
scope_of s = record { names = names_of s.names.now; caught = option_map value_of s.caught }

-- the script's items, the numbers and the limits of a context
abbrev pub setting_of : Context → Deeper → run_part.Setting
setting_of c deeper = limited deeper (script_view c.script.now) c.choices.now c.depth c.fuel

abbrev pub option_value_of : Option Value → Option run.Value
option_value_of v = option_map value_of v

abbrev pub values_of : List Value → List run.Value
values_of vs = map value_of vs

-- where a call that is nested too deep would always end the run so, the run ends so
abbrev pub Stops : {S B : Type 0} → Deeper → Stop → S → run.World → run.Outcome S B → Type 0
Stops deeper (stop.Throw at v) s w o = o ≡ run.throws at (value_of v) s
Stops deeper (stop.Over e) s w o = o ≡ run.over (end_of e) w
Stops deeper stop.TooDeep s w o =
    (e : run.End) → ((n : ℕ) (f : tree.Function) (vs : List run.Value) (w : run.World) → deeper n f vs w ≡ run.over e w) → o ≡ run.over e w
Stops deeper stop.NoMemory s w o = Unit {0}

-- what a result says of an outcome: the answer and the state, a throw, or the run's end; want of memory says nothing
abbrev pub Gives : {S A B : Type 0} → Deeper → (A → B) → Result A Stop → S → run.World → run.Outcome S B → Type 0
Gives deeper view (Ok a) s w o = o ≡ run.gives (view a) s
Gives deeper view (Err x) s w o = Stops deeper x s w o

-- a result in the world as it was left, for whatever is done where calls nest too deep
abbrev pub Does : {A B : Type 0} → (A → B) → Result A Stop → World → (Deeper → run.Outcome run.World B) → Type 0
Does view r w o = (deeper : Deeper) → Gives deeper view r (world_of w) (world_of w) (o deeper)

abbrev pub frame_of : List Entry → World → run.Frame
frame_of ls w = record { locals = entries_of ls; world = world_of w }

-- the same, with the locals of a call
abbrev pub DoesIn : {A B : Type 0} → (A → B) → Result A Stop → List Entry → World → (Deeper → run.Outcome run.Frame B) → Type 0
DoesIn view r ls w o = (deeper : Deeper) → Gives deeper view r (frame_of ls w) (world_of w) (o deeper)

-- a result that leaves the world as it is, in every world
abbrev pub DoesAnywhere : {A B : Type 0} → (A → B) → Result A Stop → (run.World → run.Outcome run.World B) → Type 0
DoesAnywhere view r o = (deeper : Deeper) (w : run.World) → Gives deeper view r w w (o w)
