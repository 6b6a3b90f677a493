use Rattle.std.proofs.Common.{◌∙◌, ap, sym, subst, List, ◌++◌, map}
use Rattle.go_operands.specs.AnswerView.{flaw_view}
use Rattle.go_calls.specs.Words.{types_of}
use Rattle.go_assign.specs.SpecView.{spec_view}
use Rattle.go_assign.proofs.GrowLemmas.{grows_on, same_walk}
use Rattle.go_items.specs.ItemView.{type_in, values_in}
use Rattle.go_typing.specs.Answer.{Flaw}
use Rattle.go_walk.specs.WalkView.{walk_outside}
use Rattle.go_decls.proofs.DeclsConstantLemmas.{spec_parts, spec_values}
use Rattle.go_decls.proofs.decls.constants.spec_in.Goals as goal

pub returns : goal.returns
returns c =
    let a = c.args.env.now in
    let b = c.type_of_spec.new.env in
    let old = map flaw_view c.args.flaws.now.items in
    let mid = map flaw_view c.move_flaws.new.flaws.items in
    let new = map flaw_view c.values_told.new.flaws.items in
    let s = spec_view (types_of b) c.in_ok-spec.spec.ty in
    record {
      told =
          spec_parts c.args.at (walk_outside a) (walk_outside b) c.args.names.now (type_in c.args.source) (values_in c.args.source) s old mid new (same_walk a b c.in_ok-spec.ensures.grows) c.in_ok-spec.ensures.ty
          (c.in_ok-move_flaws.ensures.told ∙ ap (λ (fs : List Flaw). old ++ fs) c.in_ok-spec.ensures.told)
          (spec_values c.args.at (walk_outside b) c.args.names.now s _ (values_in c.args.source) mid new c.values_of.ensures.value c.in_ok-values_told.ensures.told);
      grows = grows_on a b c.values_told.new.env c.in_ok-spec.ensures.grows c.in_ok-values_told.ensures.grows;
    }
