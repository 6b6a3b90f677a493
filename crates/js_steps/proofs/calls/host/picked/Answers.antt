use Rattle.std.proofs.Common.{◌≡◌, sym, ap, subst, ◌∙◌, arith, List, length}
use Rattle.std.proofs.lemmas.Bool.{ltb-true, ltb-false}
use Rattle.std.proofs.lemmas.List.{length-map}
use Rattle.js_tree.specs.Evaluate.{picked}
use Rattle.js_value.specs.HeapSeen.{value_of, values_of}
use Rattle.js_value.specs.declared.heap.value.Value.{Value}
use Rattle.js_steps.specs.Moment.{called_here}
use Rattle.js_steps.specs.Stands.{Steps}
use Rattle.js_steps.proofs.Given.{one_only, not_one_picked}
use Rattle.js_steps.proofs.Goes.{stuck}
use Rattle.js_steps.proofs.calls.host.picked.Goals as goal
use Rattle.js_steps.proofs.calls.host.picked.Goals.{in_default-via-then-values-lt1, in_default-via-else-values-lt1+else-values-lt2}

pub returns-in-len1 : goal.returns-in-len1
returns-in-len1 c = record {
  keeps = λ stack s.
      subst (λ (vs : List Value). Steps stack s stack s c.pick.result (λ st m. called_here c.args.at c.args.usage m (picked c.args.at st.choices (values_of vs) m.world)))
      (sym (one_only c.args.values.now c.k-item.result c.in-len1.len_at_least c.in-len1.len_below c.k-item.is)) (c.pick.ensures.keeps stack s);
}

pub returns-in_default : goal.returns-in_default
returns-in_default c =
    let none : length c.args.values.now ≡ 1 → ⊥ =
    λ e. elim c.in_default.branch [ in_default-via-then-values-lt1 w ↦ omega (arith, ltb-true, ltb-false, e) | in_default-via-else-values-lt1+else-values-lt2 w ↦ omega (arith, ltb-true, ltb-false, e) ] in
    record {
      keeps = λ stack s.
          stuck stack s c.args.at (λ st m. called_here c.args.at c.args.usage m (picked c.args.at st.choices (values_of c.args.values.now) m.world))
          (λ st m. ap (called_here c.args.at c.args.usage m) (not_one_picked c.args.at st.choices (values_of c.args.values.now) m.world (λ q. none (sym (length-map c.args.values.now value_of) ∙ q))));
    }
