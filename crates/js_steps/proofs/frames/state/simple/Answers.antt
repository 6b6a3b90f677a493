use Rattle.std.proofs.Common.{refl}
use Rattle.std.specs.Prelude.{Ok, Err}
use Rattle.js_value.specs.HeapSeen.{value_of}
use Rattle.js_steps.specs.declared.frames.state.State.{State}
use Rattle.js_steps.specs.Stands.{OnlyObjects}
use Rattle.js_steps.specs.FoundLaws.{finds_eval, finds_stop, value_at}
use Rattle.js_steps.proofs.frames.state.simple.Goals as goal

pub invariant_of-c : goal.invariant_of-c
invariant_of-c c = record { sound = c.args.state.now.body.now.sound }

pub returns : goal.returns
returns c =
    let s = c.args.state.now in
    let s1 : State = record s { objects = c.eval.new.objects } in
    let only : OnlyObjects s s1 = record { left = refl; globals = refl; body = refl; locals = refl; caught = refl } in
    record {
      value =
          finds_eval s s1 _ (Ok c.in_ok-v.v) c.args.i c.in_ok-v.ensures.value
          (record { code = refl; locals = c.as_slice-locals.ensures.value; globals = c.as_slice-globals.ensures.value; caught = refl }) only;
      same = only;
    }

pub returns-in_err-v : goal.returns-in_err-v
returns-in_err-v c =
    let s = c.args.state.now in
    let s1 : State = record s { objects = c.eval.new.objects } in
    let only : OnlyObjects s s1 = record { left = refl; globals = refl; body = refl; locals = refl; caught = refl } in
    record {
      value =
          finds_stop value_of s s1 c.from_residual.result _ (value_at c.args.i) c.from_residual.ensures.1
          (finds_eval s s1 _ (Err _) c.args.i c.in_err-v.ensures.value
          (record { code = refl; locals = c.as_slice-locals.ensures.value; globals = c.as_slice-globals.ensures.value; caught = refl }) only);
      same = only;
    }
