use Rattle.std.proofs.Common.{ap, sym, ◌∙◌}
use Rattle.std.proofs.lemmas.List.{nil_from_length}
use Rattle.go_type.specs.Table.{places, names, size}
use Rattle.go_typing.specs.Call.{values_alone}
use Rattle.go_calls.specs.CallView.{operands_view, PlacedBelow}
use Rattle.go_calls.specs.Passed.{passing_then}
use Rattle.go_calls.proofs.OrderLemmas.{view_last, rest_of_all, last_among}
use Rattle.go_calls.proofs.given.values.all_alone.Goals as goal

pub next_alone-requires-clause-within : goal.next_alone-requires-clause-within
next_alone-requires-clause-within c = last_among (PlacedBelow (size c.args.table.now)) c.operands.operands.items c.pop.new.self.items c.in-Some.placed c.in-Some.ensures.items c.operands.invariant.within

pub operands-preserved : goal.operands-preserved
operands-preserved c =
    let ts = places c.args.table.now in
    let ns = names c.args.table.now in
    let old = c.operands.operands.items in
    let new = c.pop.new.self.items in
    record {
      values =
          c.in_ok-next_alone.ensures.value (values_alone ns (operands_view ts new))
          ∙ ap (λ l. passing_then ts c.operands.passing (values_alone ns l)) (sym (view_last ts new c.in-Some.placed))
          ∙ ap (λ l. passing_then ts c.operands.passing (values_alone ns (operands_view ts l))) (sym c.in-Some.ensures.items)
          ∙ c.operands.invariant.values;
      within = rest_of_all (PlacedBelow (size c.args.table.now)) old new c.in-Some.placed c.in-Some.ensures.items c.operands.invariant.within;
    }

pub returns : goal.returns
returns c =
    let ts = places c.args.table.now in
    let ns = names c.args.table.now in
    record {
      value =
          ap (λ l. passing_then ts c.operands.passing (values_alone ns (operands_view ts l))) (sym (nil_from_length c.operands.operands.items (sym c.operands.operands.ok.0 ∙ c.in_default.ensures.cases.0)))
          ∙ c.operands.invariant.values;
    }
