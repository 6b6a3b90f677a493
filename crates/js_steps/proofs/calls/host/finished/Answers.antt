use Rattle.std.proofs.Common.{◌≡◌, sym, ap, subst, ◌∙◌, arith, List, length}
use Rattle.std.proofs.lemmas.Bool.{ltb-true, ltb-false}
use Rattle.std.proofs.lemmas.List.{length-map}
use Rattle.js_tree.specs.Evaluate.{finished}
use Rattle.js_value.specs.HeapSeen.{value_of, values_of}
use Rattle.js_value.specs.declared.heap.value.Value.{Value}
use Rattle.js_steps.specs.Moment.{called_here}
use Rattle.js_steps.specs.Stands.{Steps}
use Rattle.js_steps.proofs.Given.{two_only, not_two_finished}
use Rattle.js_steps.proofs.Goes.{stuck}
use Rattle.js_steps.proofs.calls.host.finished.Goals as goal
use Rattle.js_steps.proofs.calls.host.finished.Goals.{in_default-via-then-values-lt2, in_default-via-else-values-lt2+else-values-lt3}

pub returns-in-len2 : goal.returns-in-len2
returns-in-len2 c = record {
  keeps = λ stack u.
      subst (λ (vs : List Value). Steps stack c.args.state.now stack c.finish.new.state c.finish.result (λ _ m. called_here c.args.at u m (finished c.args.at (values_of vs) m.world)))
      (sym (two_only c.args.values.now c.code-item.result c.text-item.result c.in-len2.len_at_least c.in-len2.len_below c.code-item.is c.text-item.is)) (c.finish.ensures.keeps stack u);
}

pub returns-in_default : goal.returns-in_default
returns-in_default c =
    let none : length c.args.values.now ≡ 2 → ⊥ =
    λ e. elim c.in_default.branch [ in_default-via-then-values-lt2 w ↦ omega (arith, ltb-true, ltb-false, e) | in_default-via-else-values-lt2+else-values-lt3 w ↦ omega (arith, ltb-true, ltb-false, e) ] in
    record {
      keeps = λ stack u.
          stuck stack c.args.state.now c.args.at (λ _ m. called_here c.args.at u m (finished c.args.at (values_of c.args.values.now) m.world))
          (λ st m. ap (called_here c.args.at u m) (not_two_finished c.args.at (values_of c.args.values.now) m.world (λ q. none (sym (length-map c.args.values.now value_of) ∙ q))));
    }
