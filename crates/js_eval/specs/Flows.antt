-- How statements complete, on what the plain program has.
use Rattle.std.specs.Prelude.{◌≡◌, ◌+◌, ◌%◌, ℕ, pos, List, Option, Some, None, Result, Ok, Err, Bool, true, false}
use Rattle.js_tree.specs.Script as tree
use Rattle.js_tree.specs.View.{script_view}
use Rattle.js_tree.specs.Value as run
use Rattle.js_tree.specs.Evaluate as part
use Rattle.js_value.specs.declared.value.value.Value.{Value}
use Rattle.js_eval.specs.declared.state.Context.{Context}
use Rattle.js_eval.specs.declared.state.Flow.{Flow}
use Rattle.js_eval.specs.declared.state.Stop.{Stop}
use Rattle.js_eval.specs.declared.state.Tried.{Tried}
use Rattle.js_eval.specs.declared.state.Tried.TheVariants as tried
use Rattle.js_value.specs.ValueSeen.{value_of}
use Rattle.js_eval.specs.Limited.{Deeper, enter_limited}
use Rattle.js_eval.specs.Seen.{flow_of, option_value_of, setting_of, Gives, Stops}

-- whether the statements after one are left out
abbrev pub leaves : part.Flow → Bool
leaves part.onward = false
leaves _ = true

-- the next turn, or how the loop completes
abbrev pub turned : Option Flow → (run.Frame → run.Outcome run.Frame part.Flow) → run.Frame → run.Outcome run.Frame part.Flow
turned None next f = next f
turned (Some flow) next f = run.gives (flow_of flow) f

-- a body's completion gives its call this
abbrev pub CompletesCall : Result Flow Stop → Result (Option Value) Stop → Type 0
CompletesCall completion r =
    (deeper : Deeper) (o : run.Outcome run.Frame part.Flow) (f : run.Frame) → Gives deeper flow_of completion f f.world o
    → Gives deeper option_value_of r f.world f.world (part.call_result o)

-- the block after `try` comes to this, or it threw a value
abbrev pub Tries : Result Flow Stop → Tried → Type 0
Tries completion (tried.Done r) =
    (deeper : Deeper) (o : run.Outcome run.Frame part.Flow) (f : run.Frame) (handler : run.Value → run.Frame → run.Outcome run.Frame part.Flow)
    → Gives deeper flow_of completion f f.world o → Gives deeper flow_of r f f.world (part.rescued o handler)
Tries completion (tried.Threw v) =
    (deeper : Deeper) (o : run.Outcome run.Frame part.Flow) (f : run.Frame) (handler : run.Value → run.Frame → run.Outcome run.Frame part.Flow)
    → Gives deeper flow_of completion f f.world o → part.rescued o handler ≡ handler (value_of v) f

-- what `$pick` does with a number from 2 to 2^32 - 1
abbrev pub picks : List ℕ → ℕ → run.World → part.Called
picks choices k w =
    run.and_then (run.tick w) (λ _ w. run.gives (Some (run.whole (pos (part.choice_number choices w.taken % k)))) (record w { taken = w.taken + 1 }))

-- what a call does after its tick: its function's body, or what is done where calls nest too deep
abbrev pub Nests : Context → Result Context Stop → Type 0
Nests c (Ok nested) =
    (deeper : Deeper) (f : tree.Function) (vs : List run.Value) (w : run.World)
    → enter_limited deeper (script_view c.script.now) c.choices.now c.depth c.fuel f vs w ≡ part.body_does (setting_of nested deeper) f vs w
Nests c (Err stop) =
    (deeper : Deeper) (f : tree.Function) (vs : List run.Value) (w : run.World)
    → Stops deeper stop w w (enter_limited deeper (script_view c.script.now) c.choices.now c.depth c.fuel f vs w)

-- calls may nest one less deep
pub record IsNested (c nested : Context) : Type 0 where
  pub depth : c.depth ≡ nested.depth + 1
  pub script : nested.script ≡ c.script
