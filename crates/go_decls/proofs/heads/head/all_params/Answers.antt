use Rattle.std.proofs.Common.{◌∙◌, ap, List, ◌++◌, map}
use Rattle.std.proofs.lemmas.List.{map-append}
use Rattle.go_items.specs.ParamView.{grouped_view}
use Rattle.go_typing.specs.Signature as go
use Rattle.go_typing.specs.Signature.{Param}
use Rattle.go_syntax.specs.View.{sig_view}
use Rattle.go_decls.proofs.heads.head.all_params.Goals as goal

pub returns : goal.returns
returns c = record {
  value =
      ap (map grouped_view) c.in_ok-append.ensures.items ∙ map-append grouped_view c.in_ok-params.params.items c.in_ok-results.results.items
      ∙ ap (λ (ps : List Param). ps ++ map grouped_view c.in_ok-results.results.items) c.in_ok-params.ensures.value
      ∙ ap (λ (ps : List Param). go.params_of (sig_view c.args.sig.now) ++ ps) c.in_ok-results.ensures.value;
}
