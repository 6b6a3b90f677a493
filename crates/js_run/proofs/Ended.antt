-- What the runner answers.
use Rattle.std.proofs.Common.{◌≡◌, refl, ap, sym, ◌∙◌, subst, arith, ℕ, ◌-◌, List, [], length, Some}
use Rattle.std.specs.Prelude.{Result, Ok, Err}
use Rattle.std.specs.Result.{IsErrAnd}
use Rattle.std.proofs.lemmas.List.{append-nil}
use Rattle.gj_base.specs.Sink.{SinkState, appended}
use Rattle.js_tree.specs.Script.{ScriptTree}
use Rattle.js_tree.specs.Value as run
use Rattle.js_tree.specs.Static.{static_fault}
use Rattle.js_tree.specs.ScriptRun.{ScriptResult, run_if_sound}
use Rattle.js_steps.specs.declared.frames.frame.End.{End}
use Rattle.js_steps.specs.Stack.{end_of}
use Rattle.js_steps.specs.declared.frames.state.State.{State}
use Rattle.js_run.specs.declared.walks.stop.Stop.TheVariants as stop
use Rattle.js_run.specs.WalkLaws.{appended_none}
use Rattle.js_run.specs.declared.whole.answer.RunEnd.{RunEnd}
use Rattle.js_run.specs.declared.whole.answer.RunRefusal.{RunRefusal}
use Rattle.js_run.specs.declared.whole.answer.RunRefusal.TheVariants as refusal
use Rattle.js_run.specs.Points.{Reached, Stopped, nothing_left}
use Rattle.js_run.specs.Runs.{RunsAs, Ran, end_in}

-- a refusal as an answer
pub is_refused : (r : Result RunEnd RunRefusal) → IsErrAnd r (λ x. x ≡ refusal.NoMemory) → Err refusal.NoMemory ≡ r
is_refused (Ok x) h = absurd h
is_refused (Err x) h = sym (ap Err h)

module _ (script : ScriptTree) (budget : ℕ) (t t1 : List ℕ) (k k1 : SinkState) (s : State) where
  -- it returned
  pub returned : (x : RunEnd) → end_in x ≡ run.Ended 0 [] → Reached script budget t t1 k k1 s nothing_left → RunsAs script budget (Ok x) t t1 k k1
  returned x e r = record {
    numbers = r.numbers;
    took = r.took;
    ticks = budget - s.left;
    is = λ choices a.
        let p = r.at choices a in
        let n : p.before.taken ≡ length r.numbers = omega (arith, p.moves.count) in
        subst (λ (y : ScriptResult). Ran y (end_in x) (length r.numbers) (budget - s.left) k k1) p.is
        (record { end_is = sym e; taken_is = n; ticks_are = refl; written = p.moves.written ∙ ap (appended k) (sym p.moves.printed) });
  }

  -- it was over
  pub over_so : (e : End) (x : RunEnd) → end_in x ≡ end_of e → Stopped script budget t t1 k k1 s (stop.Over e) → RunsAs script budget (Ok x) t t1 k k1
  over_so e x q r = record {
    numbers = r.numbers;
    took = r.took;
    ticks = budget - s.left;
    is = λ choices a.
        let p = r.at choices a in
        let n : p.before.taken ≡ length r.numbers = omega (arith, p.moves.count) in
        subst (λ (y : ScriptResult). Ran y (end_in x) (length r.numbers) (budget - s.left) k k1) p.is
        (record { end_is = sym q; taken_is = n; ticks_are = refl; written = p.moves.written ∙ ap (appended k) (sym p.moves.printed) });
  }

  -- it was over, and there was no memory to tell how
  pub over_untold : (e : End) → Stopped script budget t t1 k k1 s (stop.Over e) → RunsAs script budget (Err refusal.NoMemory) t t1 k k1
  over_untold e r = record {
    numbers = r.numbers;
    took = r.took;
    ticks = 0;
    is = λ choices a.
        let p = r.at choices a in
        let sink : k1 ≡ appended k p.before.printed = p.moves.written ∙ ap (appended k) (sym p.moves.printed) in
        record {
          part = p.before.printed;
          begins = ([], sym (ap (λ (y : ScriptResult). y.printed) p.is) ∙ sym (append-nil p.before.printed));
          bytes = ap (λ (y : SinkState). y.bytes) sink;
          faults = ap (λ (y : SinkState). y.faults) sink;
        };
  }

  pub failed_so : Stopped script budget t t1 k k1 s stop.WriteFault → RunsAs script budget (Err refusal.WriteFault) t t1 k k1
  failed_so r = record { numbers = r.numbers; took = r.took; ticks = 0; is = λ choices a. r.at choices a }

  pub refused_so : Stopped script budget t t1 k k1 s stop.NoMemory → RunsAs script budget (Err refusal.NoMemory) t t1 k k1
  refused_so r = record { numbers = r.numbers; took = r.took; ticks = 0; is = λ choices a. r.at choices a }

-- a rule is broken
pub broken : (script : ScriptTree) (budget at : ℕ) (taken : List ℕ) (sink : SinkState) → Some at ≡ static_fault script → (x : RunEnd) → end_in x ≡ run.Stuck at
    → RunsAs script budget (Ok x) taken taken sink sink
broken script budget at taken sink e x q = record {
  numbers = [];
  took = sym (append-nil taken);
  ticks = 0;
  is = λ choices a.
      subst (λ (y : ScriptResult). Ran y (end_in x) 0 0 sink sink) (ap (λ f. run_if_sound f script choices budget) e)
      (record { end_is = sym q; taken_is = refl; ticks_are = refl; written = appended_none sink });
}
