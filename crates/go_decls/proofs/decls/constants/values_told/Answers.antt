use Rattle.std.proofs.Common.{◌∙◌, ap, sym, List, ◌++◌, map}
use Rattle.gj_base.specs.declared.place.Place.{Place}
use Rattle.go_operands.specs.AnswerView.{flaw_view}
use Rattle.go_calls.specs.Words.{types_of}
use Rattle.go_assign.specs.SpecView.{spec_view}
use Rattle.go_typing.specs.Told.{each_told}
use Rattle.go_typing.specs.Assign.{all_typed, all_in_flaws}
use Rattle.go_typing.specs.Declare.{names_count, spec_place, count_told}
use Rattle.go_syntax.specs.View.{expr_view, exprs_of}
use Rattle.go_walk.specs.WalkView.{walk_outside}
use Rattle.go_decls.proofs.DeclsConstantLemmas.{same_count, other_count, counted, uncounted}
use Rattle.go_decls.proofs.decls.constants.values_told.Goals as goal

pub returns-then-names-values : goal.returns-then-names-values
returns-then-names-values c =
    let w = walk_outside c.args.env.now in
    let ns = c.args.names.now in
    let ys = exprs_of (map expr_view c.args.values.now) in
    record {
      told =
          counted (names_count ns ys) (each_told w (spec_view (types_of c.args.env.now) c.args.ty) ns ys) (count_told (spec_view (types_of c.args.env.now) c.args.ty) (spec_place ns c.args.at) (all_typed w ys) (all_in_flaws w ys)) (map flaw_view c.args.flaws.now.items)
          (map flaw_view c.each_told.new.flaws.items) (same_count ns c.args.values.now c.if-names-values.true) c.in_ok-each_told.ensures.told;
      grows = c.in_ok-each_told.ensures.grows;
    }

pub returns : goal.returns
returns c =
    let w = walk_outside c.args.env.now in
    let ns = c.args.names.now in
    let ys = exprs_of (map expr_view c.args.values.now) in
    let old = map flaw_view c.args.flaws.now.items in
    record {
      told =
          uncounted (names_count ns ys) (each_told w (spec_view (types_of c.args.env.now) c.args.ty) ns ys) (count_told (spec_view (types_of c.args.env.now) c.args.ty) (spec_place ns c.args.at) (all_typed w ys) (all_in_flaws w ys)) old (map flaw_view c.miscounted.new.flaws.items)
          (other_count ns c.args.values.now c.if-names-values.false)
          (c.in_ok-miscounted.ensures.told ∙ ap (λ (p : Place). old ++ count_told (spec_view (types_of c.args.env.now) c.args.ty) p (all_typed w ys) (all_in_flaws w ys)) c.place_of.ensures.value);
      grows = c.in_ok-miscounted.ensures.grows;
    }
