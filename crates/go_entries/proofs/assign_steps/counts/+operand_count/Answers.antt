use Rattle.std.proofs.Common.{◌∙◌, sym, ap, arith}
use Rattle.go_core.specs.Assign.{operand_count}
use Rattle.go_state.proofs.TodoLemmas.{if_ok}
use Rattle.go_entries.proofs.PlaceLemmas.{field_place, elem_place}
use Rattle.go_entries.proofs.assign_steps.counts.+operand_count.Goals as goal

pub returns-in-Field : goal.returns-in-Field
returns-in-Field t c = record {
  value = if_ok c.operand_count.result (λ n h ts p g.
      h ts p g ∙ sym (ap (operand_count p g) (field_place ts c.args.place.now c.deref.result.now c.deref.ensures _ _ _ c.in-Field.is))) c.operand_count.ensures.value;
}

pub returns-in_ok-others-in-Elem : goal.returns-in_ok-others-in-Elem
returns-in_ok-others-in-Elem t c = record {
  value = if_ok c.more.result (λ n h ts p g.
      let e = ap (operand_count p g) (elem_place ts c.args.place.now c.deref.result.now c.deref.ensures _ _ _ c.in-Elem.is) in
      let k = c.in_ok-others-in-Elem.ensures.value ts p g in
      omega (arith, e, k, h)) c.more.ensures.value;
}
