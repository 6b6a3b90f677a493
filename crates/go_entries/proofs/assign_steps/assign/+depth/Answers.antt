use Rattle.std.proofs.Common.{ap, arith}
use Rattle.go_core.specs.Assign.{depth}
use Rattle.go_state.proofs.TodoLemmas.{if_ok}
use Rattle.go_entries.proofs.PlaceLemmas.{field_place, elem_place}
use Rattle.go_entries.proofs.assign_steps.assign.+depth.Goals as goal

pub returns-in_ok-others-in-Field : goal.returns-in_ok-others-in-Field
returns-in_ok-others-in-Field t c = record {
  value = if_ok c.sum.result (λ n h ts.
      let e = ap depth (field_place ts c.args.place.now c.deref.result.now c.deref.ensures _ _ _ c.in-Field.is) in
      let k = c.in_ok-others-in-Field.ensures.value ts in
      omega (arith, e, k, h)) c.sum.ensures.value;
}

pub returns-in_ok-others-in-Elem : goal.returns-in_ok-others-in-Elem
returns-in_ok-others-in-Elem t c = record {
  value = if_ok c.sum-in-Elem.result (λ n h ts.
      let e = ap depth (elem_place ts c.args.place.now c.deref.result.now c.deref.ensures _ _ _ c.in-Elem.is) in
      let k = c.in_ok-others-in-Elem.ensures.value ts in
      omega (arith, e, k, h)) c.sum-in-Elem.ensures.value;
}
