use Rattle.std.proofs.Common.{◌≡◌, ◌∷◌, ap, sym, subst, ◌∙◌, rules}
use Rattle.go_type.specs.Levels.{trees_of}
use Rattle.go_type.specs.Table.{places, names, size}
use Rattle.go_typing.specs.Call.{values_at}
use Rattle.go_calls.specs.CallView.{operands_view, PlacedBelow}
use Rattle.go_calls.specs.Types.{AreTypesOf}
use Rattle.go_calls.specs.Passed.{passing_then}
use Rattle.go_calls.proofs.OrderLemmas.{view_last, rest_of_all, last_among, both_shorter}
use Rattle.go_calls.proofs.given.values.all_at.Goals as goal

pub next_at-requires-clause-within : goal.next_at-requires-clause-within
next_at-requires-clause-within c = last_among (PlacedBelow (size c.args.table.now)) c.params.operands.items c.take_last-placed.new.self.items c.take_last-placed.result c.take_last-placed.ensures.items c.params.invariant.within

pub params-preserved : goal.params-preserved
params-preserved c =
    let ts = places c.args.table.now in
    let ns = names c.args.table.now in
    let t = c.in-Some.t.now in
    let others = c.in-Some.others.now in
    let old = c.params.operands.items in
    let new = c.take_last-placed.new.self.items in
    let x = c.take_last-placed.result in
    let e : c.params.rest.now ≡ t ∷ others = search rules in
    record {
      values =
          c.in_ok-next_at.ensures.value (values_at ns (trees_of ts others) (operands_view ts new))
          ∙ ap (λ l. passing_then ts c.params.passing (values_at ns (trees_of ts (t ∷ others)) l)) (sym (view_last ts new x))
          ∙ ap (λ l. passing_then ts c.params.passing (values_at ns (trees_of ts (t ∷ others)) (operands_view ts l))) (sym c.take_last-placed.ensures.items)
          ∙ ap (λ l. passing_then ts c.params.passing (values_at ns (trees_of ts l) (operands_view ts old))) (sym e)
          ∙ c.params.invariant.values;
      params = (subst (λ l. AreTypesOf c.args.table.now l) e c.params.invariant.params).1;
      count = both_shorter c.params.rest.now others t old new x e c.take_last-placed.ensures.items c.params.invariant.count;
      within = rest_of_all (PlacedBelow (size c.args.table.now)) old new x c.take_last-placed.ensures.items c.params.invariant.within;
    }
