-- The beginning of a run.
use Rattle.std.proofs.Common.{◌≡◌, refl, ap, sym, ◌∙◌, subst, ℕ, ◌≤◌, List, [], ◌∷◌, length, Option, None, arith}
use Rattle.std.specs.Prelude.{replicate, Result, Ok, Err}
use Rattle.std.specs.Result.{IsErrAnd}
use Rattle.std.specs.Borrow.{Bor}
use Rattle.std.proofs.lemmas.List.{append-nil}
use Rattle.gj_base.specs.Sink.{SinkState}
use Rattle.js_tree.specs.declared.tree.JsFunction.{JsFunction}
use Rattle.js_tree.specs.Script.{Name, Expr, name, ScriptTree}
use Rattle.js_tree.specs.Value as run
use Rattle.js_tree.specs.Value.{Value, World}
use Rattle.js_tree.specs.Evaluate.{setting}
use Rattle.js_tree.specs.Static.{static_fault}
use Rattle.js_tree.specs.ScriptRun.{script_run, run_if_sound, run_all, result_of}
use Rattle.js_code.specs.Names.{distinct, global_names}
use Rattle.js_code.specs.Slots.{slots_of}
use Rattle.js_value.specs.HeapSeen.{objects_of}
use Rattle.js_value.specs.declared.heap.value.Value as held
use Rattle.js_simple.specs.Seen.{slots_in}
use Rattle.js_steps.specs.Bodies.{IsBody, IsValueBody, names_in, names_of_it}
use Rattle.js_steps.specs.declared.bodies.body.Body.{Body}
use Rattle.js_steps.specs.declared.frames.state.State.{State}
use Rattle.js_steps.specs.Stands.{Variables}
use Rattle.js_run.specs.WalkLaws.{moves_none, appended_none}
use Rattle.js_run.specs.declared.whole.answer.RunEnd.{RunEnd}
use Rattle.js_run.specs.declared.whole.answer.RunRefusal.{RunRefusal}
use Rattle.js_run.specs.declared.whole.answer.RunRefusal.TheVariants.{NoMemory}
use Rattle.js_run.specs.Firsts.{IsFirstState}
use Rattle.js_run.specs.Points.{Reached, beginning, items_left, value_then, call_left}
use Rattle.js_run.specs.Runs.{RunsAs}
use Rattle.js_run.proofs.Globals.{reached_as}

no_slots : (names : List Name) → slots_of names [] ≡ slots_in (replicate (length names) (let o : Option held.Value = None in o))
no_slots [] = refl
no_slots (x ∷ names) = ap (λ (os : List (Option Value)). None ∷ os) (no_slots names)

abbrev nothing_set : Variables
nothing_set = record { globals = []; locals = []; callers = [] }

abbrev first_world : ℕ → List run.Object → World
first_world n os = record { left = n; printed = []; taken = 0; objects = os; globals = [] }

pub first_point : (script : ScriptTree) (budget count : ℕ) (taken : List ℕ) (sink : SinkState) (body : Bor Body) (e : Expr) (s : State) → static_fault script ≡ None → count ≡ length (distinct (global_names script.items))
    → IsValueBody script body.now e → IsFirstState count body budget s → Reached script budget taken taken sink sink s (items_left script.items)
first_point script budget count taken sink body e s sound n h f = record {
  numbers = [];
  took = sym (append-nil taken);
  at = λ choices a. record {
    before = beginning;
    variables = nothing_set;
    moves = moves_none beginning sink;
    stands = record {
      body = subst (λ (x : Bor Body). IsBody script x.now) (sym f.body_is) h.body;
      locals =
          ap (λ (x : Bor Body). slots_of (distinct (names_in x.now)) []) f.body_is
          ∙ ap (λ (g : Option (Bor JsFunction)). slots_of (distinct (names_of_it g)) []) h.function
          ∙ ap slots_in (sym f.locals);
      globals =
          no_slots (distinct (global_names script.items))
          ∙ ap (λ (k : ℕ). slots_in (replicate k (let o : Option held.Value = None in o))) (sym n)
          ∙ ap slots_in (sym f.globals);
      only = λ x q. refl;
      callers = refl;
      few = subst (λ (k : ℕ). k ≤ budget) (sym f.left) (omega arith);
    };
    is =
        ap (λ (k : ℕ). result_of budget (run_all (setting script choices budget) (first_world k (objects_of s.objects.items)))) f.left
        ∙ ap (λ os. result_of budget (run_all (setting script choices budget) (first_world budget (objects_of os)))) f.objects
        ∙ ap (λ (x : Option ℕ). run_if_sound x script choices budget) (sym sound);
  };
}

-- memory was refused before anything was done
nothing_run : (script : ScriptTree) (budget : ℕ) (taken : List ℕ) (sink : SinkState) → RunsAs script budget (Err NoMemory) taken taken sink sink
nothing_run script budget taken sink = record {
  numbers = [];
  took = sym (append-nil taken);
  ticks = 0;
  is = λ choices a. record {
    part = [];
    begins = ((script_run script choices budget).printed, refl);
    bytes = ap (λ (k : SinkState). k.bytes) (appended_none sink);
    faults = refl;
  };
}

-- the same, as a refusal of a call
pub nothing_so : (script : ScriptTree) (budget : ℕ) (taken : List ℕ) (sink : SinkState) (r : Result RunEnd RunRefusal) → IsErrAnd r (λ x. x ≡ NoMemory) → RunsAs script budget r taken taken sink sink
nothing_so script budget taken sink (Ok x) h = absurd h
nothing_so script budget taken sink (Err x) h = subst (λ (y : RunRefusal). RunsAs script budget (Err y) taken taken sink sink) (sym h) (nothing_run script budget taken sink)

-- the name that is called
pub start_point : (script : ScriptTree) (budget : ℕ) (t t1 : List ℕ) (k k1 : SinkState) (s : State) → Reached script budget t t1 k k1 s (items_left [])
    → Reached script budget t t1 k k1 s (value_then (name script.start_at script.start) (call_left script.start_at))
start_point script budget t t1 k k1 s = reached_as script budget t t1 k k1 s (items_left []) (value_then (name script.start_at script.start) (call_left script.start_at)) (λ choices w. refl)
