use Rattle.std.proofs.Common.{◌≡◌, ◌++◌, ◌∙◌, ◌+◌, List, sym, ap, subst, drop, map}
use Rattle.std.proofs.lemmas.List.{append-nil}
use Rattle.go_operands.specs.AnswerView.{flaw_view}
use Rattle.go_calls.specs.Words.{types_of}
use Rattle.go_assign.specs.SpecView.{spec_view}
use Rattle.go_assign.proofs.GrowLemmas.{spec_kept, spec_same}
use Rattle.go_typing.specs.Declare.{SpecType}
use Rattle.go_syntax.specs.View.{expr_view}
use Rattle.go_syntax.specs.declared.tree.Expr.{Expr}
use Rattle.go_typing.specs.Answer.{Flaw}
use Rattle.go_walk.specs.WalkView.{walk_outside}
use Rattle.go_decls.proofs.DeclsSteps.{next_at, past}
use Rattle.go_decls.proofs.DeclsConstantLemmas.{values_told, each_values, value_goes}
use Rattle.go_decls.proofs.DeclLemmas.{Goes, goes_first, goes_step}
use Rattle.go_decls.proofs.decls.constants.each_told.Goals as goal

pub value_told-requires : goal.value_told-requires
value_told-requires c = record { ty = spec_kept c.args.env.now c.loop-y.env c.args.ty c.loop-y.invariant.grows c.requires.ty }

pub loop-y-init : goal.loop-y-init
loop-y-init c = goes_first _ c.args.env.now c.args.values.now (map flaw_view c.args.flaws.now.items)

pub loop-y-preserved : goal.loop-y-preserved
loop-y-preserved c =
    let a = c.args.env.now in
    let b = c.loop-y.env in
    let s = spec_view (types_of a) c.args.ty in
    let now = map flaw_view c.loop-y.flaws.items in
    let es = c.args.values.now in
    goes_step (λ w xs. values_told w s xs) a b c.value_told.new.env (drop c.loop-y.y-index es) (drop (c.loop-y.y-index + 1) es) es (map flaw_view c.args.flaws.now.items) now (map flaw_view c.value_told.new.flaws.items)
    (value_goes (walk_outside b) s (spec_view (types_of b) c.args.ty) c.y-item.result (drop (c.loop-y.y-index + 1) es) (drop c.loop-y.y-index es) now (map flaw_view c.value_told.new.flaws.items)
    (spec_same a b c.args.ty c.loop-y.invariant.grows c.requires.ty) (next_at es c.loop-y.y-index c.y-item.result c.loop-y-test.true c.y-item.is) c.in_ok-value_told.ensures.told)
    c.in_ok-value_told.ensures.grows c.loop-y.invariant

pub returns : goal.returns
returns c =
    let a = c.args.env.now in
    let w = walk_outside a in
    let s = spec_view (types_of a) c.args.ty in
    let es = c.args.values.now in
    let now = map flaw_view c.loop-y.flaws.items in
    record {
      told =
          sym (append-nil now) ∙ ap (λ (xs : List Expr). now ++ values_told w s xs) (sym (past es c.loop-y.y-index c.loop-y-test.false)) ∙ c.loop-y.invariant.told_so
          ∙ ap (λ (fs : List Flaw). map flaw_view c.args.flaws.now.items ++ fs) (sym (each_values w s c.args.names.now es c.requires.count));
      grows = c.loop-y.invariant.grows;
    }
