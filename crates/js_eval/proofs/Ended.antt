-- What a run ends with.
use Rattle.std.specs.Result.{IsErrAnd}
use Rattle.std.proofs.Common.{◌≡◌, refl, ap, sym, subst, ◌∙◌, ℕ, List, ◌-◌, Option, None}
use Rattle.std.specs.Prelude.{Result, Ok, Err}
use Rattle.js_tree.specs.Script.{Function, ScriptTree}
use Rattle.js_tree.specs.Value as run
use Rattle.js_tree.specs.Evaluate.{Called, Setting, setting, enter_within}
use Rattle.js_tree.specs.Static.{static_fault}
use Rattle.js_tree.specs.ScriptRun.{ScriptResult, result_of, run_if_sound, run_all, first_world}
use Rattle.js_value.specs.declared.value.value.Value.{Value}
use Rattle.js_eval.specs.declared.state.End.{End}
use Rattle.js_eval.specs.declared.state.Stop.{Stop}
use Rattle.js_eval.specs.declared.state.Stop.TheVariants.{Throw, Over, TooDeep, NoMemory}
use Rattle.js_eval.specs.declared.start.ScriptRun.{ScriptRun}
use Rattle.js_eval.specs.declared.start.RunRefusal.{RunRefusal}
use Rattle.js_eval.specs.declared.start.RunRefusal.TheVariants as refusal
use Rattle.js_eval.specs.Limited.{Deeper, limited}
use Rattle.js_eval.specs.Seen.{end_of, option_value_of, Gives}
use Rattle.js_eval.specs.Runs.{EndsAs, RunsAs, RunsSound, ends_so}
use Rattle.js_eval.proofs.Nested.{enter_is}

abbrev with_enter : ScriptTree → List ℕ → (Function → List run.Value → run.World → Called) → Setting
with_enter script choices enter = record { script = script; choices = choices; enter = enter }

-- calls nested deeper may do what they do
pub setting_is : (script : ScriptTree) (choices : List ℕ) (d n : ℕ) → limited (enter_within script choices) script choices d n ≡ setting script choices n
setting_is script choices d n = ap (with_enter script choices) (enter_is script choices d n)

-- the result with a world and an end
abbrev pub result_with : ℕ → run.World → run.End → ScriptResult
result_with n w e = record { printed = w.printed; taken = w.taken; ticks = n - w.left; end = e }

pub ended_as : (n : ℕ) (r : Result (Option Value) Stop) (e : End) (w : run.World) (deeper : Deeper) (o : Called) → EndsAs r (Ok e) → Gives deeper option_value_of r w w o
    → result_of n o ≡ result_with n w (end_of e)
ended_as n (Ok v) e w deeper o h g = ap (result_of n) g ∙ ap (result_with n w) (sym h)
ended_as n (Err (Throw at v)) e w deeper o h g = ap (result_of n) g ∙ ap (result_with n w) (sym h)
ended_as n (Err (Over x)) e w deeper o h g = ap (result_of n) g ∙ ap (λ (x : End). result_with n w (end_of x)) (sym h)
ended_as n (Err TooDeep) e w deeper o h g = absurd h
ended_as n (Err NoMemory) e w deeper o h g = absurd h

-- the result where calls may nest so deep is the script run's
pub ran_as : (script : ScriptTree) (choices : List ℕ) (d n : ℕ) (r : Result (Option Value) Stop) (e : End) (w : run.World) → EndsAs r (Ok e)
    → ((deeper : Deeper) → Gives deeper option_value_of r w w (run_all (limited deeper script choices d n) (first_world n)))
    → result_with n w (end_of e) ≡ result_of n (run_all (setting script choices n) (first_world n))
ran_as script choices d n r e w h g =
    sym (ended_as n r e w (enter_within script choices) (run_all (limited (enter_within script choices) script choices d n) (first_world n)) h (g (enter_within script choices)))
    ∙ ap (λ (st : Setting). result_of n (run_all st (first_world n))) (setting_is script choices d n)

pub too_deep_as : (r : Result (Option Value) Stop) (w : run.World) (o : Deeper → Called) → EndsAs r (Err refusal.TooDeep)
    → ((deeper : Deeper) → Gives deeper option_value_of r w w (o deeper)) → (e : run.End) → (v : run.World) × (o (ends_so e) ≡ run.over e v)
too_deep_as (Ok v) w o h g e = absurd h
too_deep_as (Err (Throw at v)) w o h g e = absurd h
too_deep_as (Err (Over x)) w o h g e = absurd h
too_deep_as (Err TooDeep) w o h g e = (w, g (ends_so e) e (λ n f vs w. refl))
too_deep_as (Err NoMemory) w o h g e = absurd h

-- a refusal of a run's end is one of the run
pub refused_as : (script : ScriptTree) (choices : List ℕ) (d n : ℕ) (r : Result (Option Value) Stop) (x : RunRefusal) (w : run.World) → EndsAs r (Err x)
    → ((deeper : Deeper) → Gives deeper option_value_of r w w (run_all (limited deeper script choices d n) (first_world n)))
    → RunsSound script choices n d (Err x)
refused_as script choices d n r refusal.TooDeep w h g = too_deep_as r w (λ deeper. run_all (limited deeper script choices d n) (first_world n)) h g
refused_as script choices d n r refusal.NoMemory w h g = tt

-- where no rule is broken
pub runs_as : (script : ScriptTree) (choices : List ℕ) (n d : ℕ) (r : Result ScriptRun RunRefusal) → static_fault script ≡ None → RunsSound script choices n d r → RunsAs script choices n d r
runs_as script choices n d (Ok r) q h = h ∙ sym (ap (λ (f : Option ℕ). run_if_sound f script choices n) q)
runs_as script choices n d (Err refusal.TooDeep) q h = (q, h)
runs_as script choices n d (Err refusal.NoMemory) q h = tt

-- what `?` hands on is the refusal that it was handed
pub handed_on : (script : ScriptTree) (choices : List ℕ) (d n : ℕ) (r : Result ScriptRun RunRefusal) (x : RunRefusal) → IsErrAnd r (λ y. y ≡ x) → RunsSound script choices n d (Err x) → RunsSound script choices n d r
handed_on script choices d n (Ok r) x h g = absurd h
handed_on script choices d n (Err y) x h g = subst (λ (x : RunRefusal). RunsSound script choices n d (Err x)) (sym h) g
