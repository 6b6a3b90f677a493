use Rattle.std.proofs.Common.{map, subst, sym}
use Rattle.go_operands.specs.AnswerView.{flaw_view}
use Rattle.go_items.specs.ParamView.{grouped_view}
use Rattle.go_decls.proofs.ParamLemmas.{Typed, typed_first, typed_step, typed_told, typed_types}
use Rattle.go_decls.proofs.signatures.types.types_of.Goals as goal

pub loop-p-init : goal.loop-p-init
loop-p-init c =
    let a = c.args.env.now in
    let all = map grouped_view c.args.params.now in
    let fs = map flaw_view c.args.flaws.now.items in
    subst (Typed a a all all fs fs) (sym c.new-all.ensures.items) (typed_first a all fs)

pub loop-p-preserved : goal.loop-p-preserved
loop-p-preserved c =
    typed_step c.args.env.now c.loop-p.env c.param_type.new.env c.args.params.now c.loop-p.p-index c.p-item.result (map flaw_view c.args.flaws.now.items) (map flaw_view c.loop-p.flaws.items) (map flaw_view c.param_type.new.flaws.items)
    c.loop-p.all.items _ c.in_ok-ty.ty c.loop-p-test.true c.p-item.is c.in_ok-ty.ensures.told c.in_ok-ty.ensures.ty c.in_ok-ty.ensures.within c.in_ok-ty.ensures.grows c.in_ok-push.ensures.items c.loop-p.invariant

pub returns : goal.returns
returns c = record {
  told = typed_told c.args.env.now c.loop-p.env c.args.params.now c.loop-p.p-index (map flaw_view c.args.flaws.now.items) (map flaw_view c.loop-p.flaws.items) c.loop-p.all.items c.loop-p-test.false c.loop-p.invariant;
  types = typed_types c.args.env.now c.loop-p.env c.args.params.now c.loop-p.p-index (map flaw_view c.args.flaws.now.items) (map flaw_view c.loop-p.flaws.items) c.loop-p.all.items c.loop-p-test.false c.loop-p.invariant;
  within = c.loop-p.invariant.within;
  grows = c.loop-p.invariant.grows;
}
