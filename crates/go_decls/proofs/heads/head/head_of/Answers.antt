use Rattle.std.proofs.Common.{◌≡◌, ◌∙◌, sym, ap, List, map}
use Rattle.std.proofs.lemmas.List.{length-map}
use Rattle.std.specs.Prelude.{Option, option_map}
use Rattle.go_calls.specs.Words.{types_of}
use Rattle.go_assign.proofs.GrowLemmas.{grows_on, same_walk}
use Rattle.go_items.specs.ParamView.{grouped_view}
use Rattle.go_items.specs.declared.items.param.Grouped.{Grouped}
use Rattle.go_typing.specs.Signature as go
use Rattle.go_typing.specs.Functions.{too_far}
use Rattle.go_typing.specs.Signature.{SigTypes, type_of_param}
use Rattle.go_decls.specs.Bound.{type_view}
use Rattle.go_operands.specs.EnvView.{table_of}
use Rattle.go_decls.specs.SigView.{sig_found}
use Rattle.go_typing.specs.Walk.{Walk}
use Rattle.go_syntax.specs.View.{sig_view, block_view}
use Rattle.go_walk.specs.WalkView.{walk_outside}
use Rattle.go_decls.proofs.KeepLemmas.{keeps_before, types_kept, sig_kept, sig_below}
use Rattle.go_decls.proofs.HeadLemmas.{made_same, counted}
use Rattle.go_decls.proofs.heads.head.head_of.Goals as goal

pub returns-clause-view : goal.returns-clause-view
returns-clause-view c = λ ts k.
    let a = c.args.env.now in
    let w = walk_outside a in
    let s = sig_view c.args.sig.now in
    let b = c.sig_alone.new.env in
    let d = c.types_alone.new.env in
    let found = option_map (sig_found ts) c.in_ok-found.found in
    let same : found ≡ go.sig_types w s = sig_kept (table_of b) ts c.in_ok-found.found (keeps_before b d ts c.in_ok-types.ensures.grows k) c.in_ok-found.ensures.within ∙ c.in_ok-found.ensures.types in
    let here : walk_outside d ≡ w = same_walk a d (grows_on a b d c.in_ok-found.ensures.grows c.in_ok-types.ensures.grows) in
    made_same c.args.at c.in_ok-name.name _ (map grouped_view c.in_ok-params.params.items) _ found (go.sig_types w s) c.in_ok-is_named.is_named _ c.too_far-own_far.result _ (block_view c.args.b.now) c.in_ok-name.ensures.value
    c.in_ok-params.ensures.value same c.in_ok-is_named.ensures.value
    (c.too_far-own_far.ensures.value ts ∙ ap (λ (v : Walk). too_far c.args.far v c.args.at c.args.n.now found) here ∙ ap (λ (o : Option SigTypes). too_far c.args.far w c.args.at c.args.n.now o) same)

pub returns-clause-ready : goal.returns-clause-ready
returns-clause-ready c =
    let a = c.args.env.now in
    let b = c.sig_alone.new.env in
    let d = c.types_alone.new.env in
    let w = walk_outside a in
    let us = c.in_ok-types.types.items in
    let ps = c.in_ok-params.params.items in
    let each : map (type_view (types_of d)) us ≡ map (type_of_param w) (map grouped_view ps) =
    c.in_ok-types.ensures.types ∙ ap (λ (v : Walk). map (type_of_param v) (map grouped_view c.as_slice.result.now)) (same_walk a b c.in_ok-found.ensures.grows)
    ∙ ap (λ (gs : List Grouped). map (type_of_param w) (map grouped_view gs)) c.as_slice.ensures.value
    in
    record {
      count = sym (counted (type_of_param w) (type_view (types_of d)) (map grouped_view ps) us (sym each) ∙ length-map ps grouped_view);
      types = c.in_ok-types.ensures.within;
      sig = sig_below b d c.in_ok-found.found c.in_ok-types.ensures.grows c.in_ok-found.ensures.within;
      each = λ ts k. types_kept (table_of d) ts us k c.in_ok-types.ensures.within ∙ each;
    }

pub returns-clause-grows : goal.returns-clause-grows
returns-clause-grows c = grows_on c.args.env.now c.sig_alone.new.env c.types_alone.new.env c.in_ok-found.ensures.grows c.in_ok-types.ensures.grows
