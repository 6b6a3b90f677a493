use Rattle.std.proofs.Common.{◌∙◌, sym, ap, List, [], ◌∷◌, ◌++◌, map}
use Rattle.go_typing.specs.Signature as go
use Rattle.go_items.specs.declared.items.param.Grouped.{Grouped}
use Rattle.go_items.specs.ParamView.{grouped_view}
use Rattle.go_items.proofs.ItemsParamLemmas.{one_result}
use Rattle.go_items.proofs.items.param.results_of.Goals as goal

pub returns-in_ok-push-in-Type : goal.returns-in_ok-push-in-Type
returns-in_ok-push-in-Type c = record {
  value =
      ap (map grouped_view) c.in_ok-push-in-Type.ensures.items
      ∙ ap (λ (gs : List Grouped). map grouped_view (gs ++ c.unnamed.result ∷ [])) c.new-all.ensures.items
      ∙ ap (λ (g : go.Param). g ∷ []) c.unnamed.ensures.value
      ∙ sym (one_result c.args.sig.now c.in-Type.ty c.in-Type.is);
}
