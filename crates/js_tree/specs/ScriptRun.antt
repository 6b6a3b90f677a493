-- ECMA-262 5.1, 14 and 16, and own: the run of a script, with a list of numbers that zeros follow, and so many ticks.
use Rattle.std.specs.Prelude.{ℕ, ◌-◌, List, [], ◌∷◌, Option, Some, None}
use Rattle.js_tree.specs.Script.{Item, function_item, global_item, ScriptTree}
use Rattle.js_tree.specs.Value.{End, Ended, Stuck, World, Outcome, gives, throws, over, and_then, given, with_entry}
use Rattle.js_tree.specs.Evaluate.{Setting, setting, Scope, Called, eval, name_value, call_value}
use Rattle.js_tree.specs.Static.{static_fault}

-- what was printed, how many numbers and ticks were taken, and how the run ended
pub record ScriptResult : Type 0 where
  pub printed : List ℕ
  pub taken : ℕ
  pub ticks : ℕ
  pub end : End

-- outside every function there are no locals
abbrev pub top_scope : Scope
top_scope = record { names = []; caught = None }

-- top-level variables are set in order
abbrev pub set_globals : Setting → List Item → World → Outcome World (Unit {0})
set_globals st [] w = gives tt w
set_globals st (function_item f ∷ rest) w = set_globals st rest w
set_globals st (global_item at x e ∷ rest) w =
    and_then (eval st top_scope [] e w) (λ v w. set_globals st rest (record w { globals = with_entry x v w.globals }))

-- the start function is called, and what it gives is dropped
abbrev pub call_start : Setting → World → Called
call_start st w =
    and_then (given st.script.start_at (name_value st top_scope [] st.script.start w) w) (λ v w. call_value st st.script.start_at v [] w)

-- a run that returned has ended with 0 and no text; a throw that is not caught has no meaning
abbrev pub end_of : Called → End
end_of (gives v w) = Ended 0 []
end_of (throws at v w) = Stuck at
end_of (over e w) = e

abbrev pub world_of : Called → World
world_of (gives v w) = w
world_of (throws at v w) = w
world_of (over e w) = w

abbrev pub result_of : ℕ → Called → ScriptResult
result_of n o = record { printed = (world_of o).printed; taken = (world_of o).taken; ticks = n - (world_of o).left; end = end_of o }

-- nothing was printed, taken, made or set
abbrev pub first_world : ℕ → World
first_world n = record { left = n; printed = []; taken = 0; objects = []; globals = [] }

abbrev pub run_all : Setting → World → Called
run_all st w = and_then (set_globals st st.script.items w) (λ _ w. call_start st w)

abbrev pub run_if_sound : Option ℕ → ScriptTree → List ℕ → ℕ → ScriptResult
run_if_sound None script choices n = result_of n (run_all (setting script choices n) (first_world n))
run_if_sound (Some at) script choices n = record { printed = []; taken = 0; ticks = 0; end = Stuck at }

-- the run of a script with n ticks; static rules are tested first
abbrev pub script_run : ScriptTree → List ℕ → ℕ → ScriptResult
script_run script choices n = run_if_sound (static_fault script) script choices n
