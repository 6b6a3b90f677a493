use Rattle.std.proofs.Common.{◌∙◌, ap, List, ◌++◌, map}
use Rattle.std.proofs.lemmas.Result.{on_ok_weaker}
use Rattle.go_typing.specs.Items as go
use Rattle.go_items.specs.ItemView.{item_view, type_in, values_in}
use Rattle.go_items.proofs.ItemLemmas.{same_count, other_count, with_all, with_none}
use Rattle.go_items.proofs.items.constant.spec_items.Goals as goal

pub returns-then-names-values : goal.returns-then-names-values
returns-then-names-values c = record {
  value =
      on_ok_weaker c.with_values.result
      (λ h.
      h
      ∙ ap (λ (z : List go.Item). map item_view c.args.items.now.items ++ z)
      (with_all c.args.number (type_in c.args.spec) c.args.names.now (values_in c.args.spec) _ c.values_of-values.ensures.value (same_count c.args.names.now c.values_of-values.result.now c.if-names-values.true)))
      c.with_values.ensures.value;
}

pub returns : goal.returns
returns c = record {
  value =
      on_ok_weaker c.without_values.result
      (λ h.
      h
      ∙ ap (λ (z : List go.Item). map item_view c.args.items.now.items ++ z)
      (with_none c.args.number (type_in c.args.spec) c.args.names.now (values_in c.args.spec) _ c.values_of-values.ensures.value (other_count c.args.names.now c.values_of-values.result.now c.if-names-values.false)))
      c.without_values.ensures.value;
}
