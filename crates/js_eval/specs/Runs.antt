-- The run of a script, as the plain program tells it.
use Rattle.std.specs.Prelude.{◌≡◌, ℕ, List, [], Option, None, Result, Ok, Err}
use Rattle.js_tree.specs.Script.{ScriptTree}
use Rattle.js_tree.specs.View.{script_view}
use Rattle.js_tree.specs.Value as run
use Rattle.js_tree.specs.Evaluate as part
use Rattle.js_tree.specs.Static.{static_fault}
use Rattle.js_tree.specs.ScriptRun.{ScriptResult, script_run, run_all, first_world, result_of, set_globals, call_start}
use Rattle.js_eval.specs.declared.state.Context.{Context}
use Rattle.js_eval.specs.declared.world.World.{World}
use Rattle.js_eval.specs.declared.state.End.{End}
use Rattle.js_eval.specs.declared.state.Stop.{Stop}
use Rattle.js_eval.specs.declared.state.Stop.TheVariants as stop
use Rattle.js_value.specs.declared.value.value.Value.{Value}
use Rattle.js_eval.specs.declared.start.ScriptRun.{ScriptRun}
use Rattle.js_eval.specs.declared.start.RunRefusal.{RunRefusal}
use Rattle.js_eval.specs.declared.start.RunRefusal.TheVariants as refusal
use Rattle.js_eval.specs.Limited.{Deeper, limited}
use Rattle.js_eval.specs.Seen.{end_of, setting_of, world_of}

abbrev pub run_view : ScriptRun → ScriptResult
run_view r = record { printed = r.printed.items; taken = r.taken; ticks = r.ticks; end = end_of r.end }

-- what is done where calls nest too deep: the run ends so
abbrev pub ends_so : run.End → Deeper
ends_so e n f vs w = run.over e w

-- calls nest deeper than so deep: however such a call would end the run, so the run ends
abbrev pub NestsDeeper : ScriptTree → List ℕ → ℕ → ℕ → Type 0
NestsDeeper script choices ticks depth =
    (e : run.End) → (w : run.World) × (run_all (limited (ends_so e) script choices depth ticks) (first_world ticks) ≡ run.over e w)

-- the script run; `TooDeep` only where calls nest deeper than so deep
abbrev pub RunsAs : ScriptTree → List ℕ → ℕ → ℕ → Result ScriptRun RunRefusal → Type 0
RunsAs script choices ticks depth (Ok r) = run_view r ≡ script_run script choices ticks
RunsAs script choices ticks depth (Err refusal.TooDeep) = (static_fault script ≡ None) × NestsDeeper script choices ticks depth
RunsAs script choices ticks depth (Err refusal.NoMemory) = Unit {0}

-- the same, where no rule is broken
abbrev pub RunsSound : ScriptTree → List ℕ → ℕ → ℕ → Result ScriptRun RunRefusal → Type 0
RunsSound script choices ticks depth (Ok r) =
    run_view r ≡ result_of ticks (run_all (part.setting script choices ticks) (first_world ticks))
RunsSound script choices ticks depth (Err refusal.TooDeep) = NestsDeeper script choices ticks depth
RunsSound script choices ticks depth (Err refusal.NoMemory) = Unit {0}

-- what a run does, in a context
abbrev pub run_all_of : Context → World → Deeper → part.Called
run_all_of c w d = run_all (setting_of c d) (world_of w)

abbrev pub set_globals_of : Context → World → Deeper → run.Outcome run.World (Unit {0})
set_globals_of c w d = set_globals (setting_of c d) (script_view c.script.now).items (world_of w)

abbrev pub call_start_of : Context → World → Deeper → part.Called
call_start_of c w d = call_start (setting_of c d) (world_of w)

-- the end of a run that came to this
abbrev pub EndsAs : Result (Option Value) Stop → Result End RunRefusal → Type 0
EndsAs (Ok v) (Ok e) = end_of e ≡ run.Ended 0 []
EndsAs (Err (stop.Throw at v)) (Ok e) = end_of e ≡ run.Stuck at
EndsAs (Err (stop.Over e)) (Ok e') = e' ≡ e
EndsAs (Err stop.TooDeep) (Err refusal.TooDeep) = Unit {0}
EndsAs (Err stop.NoMemory) (Err refusal.NoMemory) = Unit {0}
EndsAs _ _ = ⊥
