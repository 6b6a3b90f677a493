use Rattle.std.proofs.Common.{refl}
use Rattle.std.specs.Prelude.{Ok, Err}
use Rattle.js_value.specs.HeapSeen.{values_of}
use Rattle.js_steps.specs.declared.frames.state.State.{State}
use Rattle.js_steps.specs.Stands.{OnlyObjects}
use Rattle.js_steps.specs.FoundLaws.{finds_all, finds_stop, values_at}
use Rattle.js_steps.proofs.frames.state.simple_onto.Goals as goal

pub invariant_of-c : goal.invariant_of-c
invariant_of-c c = record { sound = c.args.state.now.body.now.sound }

pub returns : goal.returns
returns c =
    let s = c.args.state.now in
    let s1 : State = record s { objects = c.eval_onto.new.objects } in
    let only : OnlyObjects s s1 = record { left = refl; globals = refl; body = refl; locals = refl; caught = refl } in
    record {
      value =
          finds_all s s1 _ (Ok tt) c.args.values.now.items c.eval_onto.new.values.items c.args.list c.in_ok-eval_onto.ensures.value
          (record { code = refl; locals = c.as_slice-locals.ensures.value; globals = c.as_slice-globals.ensures.value; caught = refl }) only;
      same = only;
    }

pub returns-in_err-eval_onto : goal.returns-in_err-eval_onto
returns-in_err-eval_onto c =
    let s = c.args.state.now in
    let s1 : State = record s { objects = c.eval_onto.new.objects } in
    let only : OnlyObjects s s1 = record { left = refl; globals = refl; body = refl; locals = refl; caught = refl } in
    record {
      value =
          finds_stop (λ _. values_of c.eval_onto.new.values.items) s s1 c.from_residual.result _ (values_at c.args.values.now.items c.args.list) c.from_residual.ensures.1
          (finds_all s s1 _ (Err _) c.args.values.now.items c.eval_onto.new.values.items c.args.list c.in_err-eval_onto.ensures.value
          (record { code = refl; locals = c.as_slice-locals.ensures.value; globals = c.as_slice-globals.ensures.value; caught = refl }) only);
      same = only;
    }
