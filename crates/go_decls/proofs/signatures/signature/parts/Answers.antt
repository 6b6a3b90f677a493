use Rattle.std.proofs.Common.{◌∙◌, sym, ap, List, ◌++◌, map}
use Rattle.go_operands.specs.AnswerView.{flaw_view}
use Rattle.go_items.specs.ParamView.{grouped_view}
use Rattle.go_items.specs.declared.items.param.Grouped.{Grouped}
use Rattle.go_typing.specs.Signature as go
use Rattle.go_typing.specs.Signature.{Param}
use Rattle.go_syntax.specs.View.{sig_view}
use Rattle.go_walk.specs.WalkView.{walk_outside}
use Rattle.go_decls.proofs.SigLemmas.{parts_told}
use Rattle.go_decls.proofs.signatures.signature.parts.Goals as goal

pub returns : goal.returns
returns c =
    let w = walk_outside c.args.env.now in
    let s = sig_view c.args.sig.now in
    let ex = ap (map grouped_view) c.as_slice.ensures.value ∙ c.in_ok-params.ensures.value in
    let ey = ap (map grouped_view) c.as_slice-2.ensures.value ∙ c.in_ok-results.ensures.value in
    let ez =
    c.as_slice-3.ensures.value ∙ c.in_ok-append.ensures.items ∙ ap (λ (zs : List Grouped). zs ++ c.in_ok-results.results.items) (sym c.as_slice.ensures.value)
    ∙ ap (λ (zs : List Grouped). c.as_slice.result.now ++ zs) (sym c.as_slice-2.ensures.value)
    in
    record {
      told =
          parts_told w s c.as_slice.result.now c.as_slice-2.result.now c.as_slice-3.result.now (map flaw_view c.args.own.now.items) (map flaw_view c.lists.new.own.items) (map flaw_view c.names_told.new.flaws.items) ex ey ez
          c.in_ok-types.ensures.told (c.in_ok-names_told.ensures.told w);
      types = c.in_ok-types.ensures.types ∙ ap (λ (ps : List Param). go.both (go.types_of w ps) (go.types_of w (map grouped_view c.as_slice-2.result.now))) ex ∙ ap (λ (ps : List Param). go.both (go.types_of w (go.params_of s)) (go.types_of w ps)) ey;
      within = c.in_ok-types.ensures.within;
      grows = c.in_ok-types.ensures.grows;
    }
