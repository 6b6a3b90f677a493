use Rattle.std.proofs.Common.{◌∙◌, ap, map}
use Rattle.std.specs.Prelude.{Option, Vec, option_map}
use Rattle.std.specs.declared.alloc.Global.{Global}
use Rattle.go_type.specs.Levels.{trees_of}
use Rattle.go_type.specs.declared.types.TypeId.{TypeId}
use Rattle.go_operands.specs.AnswerView.{flaw_view}
use Rattle.go_calls.specs.Words.{types_of}
use Rattle.go_items.specs.ParamView.{grouped_view}
use Rattle.go_typing.specs.Signature as go
use Rattle.go_operands.specs.EnvView.{table_of}
use Rattle.go_typing.specs.Walk.{Walk}
use Rattle.go_syntax.specs.View.{sig_view}
use Rattle.go_type.specs.Table.{size}
use Rattle.go_type.specs.Tree.{Tys}
use Rattle.go_walk.specs.WalkView.{walk_outside}
use Rattle.go_assign.proofs.GrowLemmas.{grows_on, same_walk}
use Rattle.go_decls.proofs.SigLemmas.{found_kept, found_below, lists_told}
use Rattle.go_decls.proofs.signatures.signature.lists.Goals as goal

pub returns : goal.returns
returns c =
    let a = c.args.env.now in
    let b = c.list_types.new.env in
    let d = c.list_types-2.new.env in
    let ps = map grouped_view c.args.params.now in
    let rs = map grouped_view c.args.results.now in
    let same = same_walk a b c.in_ok-first.ensures.grows in
    let second = option_map (λ (v : Vec TypeId Global). trees_of (types_of d) v.items) c.in_ok-second.second in
    record {
      told =
          lists_told (walk_outside a) (walk_outside b) (sig_view c.args.sig.now) ps rs c.params_place.result c.results_place.result (map flaw_view c.args.own.now.items) (map flaw_view c.list_types.new.flaws.items)
          (map flaw_view c.list_types-2.new.flaws.items) same c.params_place.ensures.value c.results_place.ensures.value c.in_ok-first.ensures.told c.in_ok-second.ensures.told;
      types =
          c.both.ensures.value (types_of d) ∙ ap (λ (o : Option Tys). go.both o second) (found_kept b d c.in_ok-first.first c.in_ok-second.ensures.grows c.in_ok-first.ensures.within ∙ c.in_ok-first.ensures.types)
          ∙ ap (go.both (go.types_of (walk_outside a) ps)) (c.in_ok-second.ensures.types ∙ ap (λ (w : Walk). go.types_of w rs) same);
      within = c.both.ensures.within (size (table_of d)) (found_below b d c.in_ok-first.first c.in_ok-second.ensures.grows c.in_ok-first.ensures.within) c.in_ok-second.ensures.within;
      grows = grows_on a b d c.in_ok-first.ensures.grows c.in_ok-second.ensures.grows;
    }
