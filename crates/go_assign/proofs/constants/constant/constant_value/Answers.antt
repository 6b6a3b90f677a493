use Rattle.std.proofs.Common.{◌≡◌, map}
use Rattle.std.proofs.lemmas.Result.{IfOk-weaker}
use Rattle.go_operands.specs.AnswerView.{flaw_view}
use Rattle.go_calls.specs.Words.{types_of, names_of}
use Rattle.go_operands.specs.View.{decl_of}
use Rattle.go_typing.specs.Declare as declare
use Rattle.go_typing.specs.Declare.{constant_decl}
use Rattle.go_syntax.specs.View.{expr_view}
use Rattle.go_expr.specs.Raw.{raw_view}
use Rattle.go_walk.specs.WalkView.{walk_outside}
use Rattle.go_assign.specs.declared.constants.constant.Constant.{Constant}
use Rattle.go_assign.specs.SpecView.{spec_view, constant_raw}
use Rattle.go_assign.proofs.GrowLemmas.{constant_before, constant_told_before}
use Rattle.go_assign.proofs.constants.constant.constant_value.Goals as goal

pub returns-in-Ok-clause-what : goal.returns-in-Ok-clause-what
returns-in-Ok-clause-what c =
    let a = c.args.env.now in
    let b = c.raw_in.new.env in
    let y = expr_view c.args.y.now in
    let r = raw_view (types_of b) c.in-Ok.raw in
    IfOk-weaker c.by_spec.result (λ (k : Constant). decl_of (types_of b) k.what ≡ constant_decl (constant_raw (names_of b) (spec_view (types_of b) c.args.spec) r).answer)
    (λ (k : Constant). decl_of (types_of b) k.what ≡ constant_decl (declare.constant_value (walk_outside a) (spec_view (types_of a) c.args.spec) y).answer)
    (λ k h. constant_before a b c.args.spec y r (decl_of (types_of b) k.what) c.in-Ok.ensures.grows c.requires.spec c.in-Ok.ensures.view h) c.by_spec.ensures.what

pub returns-in-Ok-clause-told : goal.returns-in-Ok-clause-told
returns-in-Ok-clause-told c =
    let a = c.args.env.now in
    let b = c.raw_in.new.env in
    let y = expr_view c.args.y.now in
    let r = raw_view (types_of b) c.in-Ok.raw in
    IfOk-weaker c.by_spec.result (λ (k : Constant). map flaw_view k.flaws.items ≡ (constant_raw (names_of b) (spec_view (types_of b) c.args.spec) r).flaws)
    (λ (k : Constant). map flaw_view k.flaws.items ≡ (declare.constant_value (walk_outside a) (spec_view (types_of a) c.args.spec) y).flaws)
    (λ k h. constant_told_before a b c.args.spec y r (map flaw_view k.flaws.items) c.in-Ok.ensures.grows c.requires.spec c.in-Ok.ensures.view h) c.by_spec.ensures.told
