use Rattle.std.proofs.Common.{◌≡◌, ℕ, List, [], map, refl}
use Rattle.go_syntax.specs.View.{expr_view}
use Rattle.go_operands.specs.AnswerView.{flaw_view}
use Rattle.go_walk.specs.SetsHas.{has_name}
use Rattle.go_walk.specs.WalkView.{walk_outside}
use Rattle.go_assign.proofs.WalkLemmas.{stays_on}
use Rattle.go_define.specs.FreshView.{plain_name}
use Rattle.go_define.proofs.FreshLemmas.{stays_not}
use Rattle.go_define.proofs.NameLemmas.{seen_after, seen_more, told_back, told_step, names_end}
use Rattle.go_define.proofs.define.names.each_told.Goals as goal

pub loop-x-init : goal.loop-x-init
loop-x-init c = ([], λ y b. c.new-seen.ensures y, refl, stays_not c.args.walk.now)

pub loop-x-preserved : goal.loop-x-preserved
loop-x-preserved c =
    let e = c.x-item.result in
    let a = c.args.walk.now in
    let b = c.loop-x.walk in
    let seen = c.loop-x.invariant.0 in
    let before = map flaw_view c.loop-x.flaws.items in
    let after = map flaw_view c.told_one.new.flaws.items in
    let f = λ (y : List ℕ). has_name y c.loop-x.seen in (
      seen_after seen (plain_name (expr_view e)),
      seen_more seen f (λ y. has_name y c.told_one.new.seen) (plain_name (expr_view e)) c.in_ok-told_one.ensures.seen c.loop-x.invariant.1,
      told_step (walk_outside a.env) seen f c.args.xs.now c.loop-x.x-index e before after _ c.loop-x-test.true c.x-item.is c.loop-x.invariant.1 (told_back a b f (expr_view e) before after c.loop-x.invariant.3 c.in_ok-told_one.ensures.told) c.loop-x.invariant.2,
      stays_on a b c.told_one.new.walk c.loop-x.invariant.3 c.in_ok-told_one.ensures.stays,
    )

pub returns-clause-told : goal.returns-clause-told
returns-clause-told c = names_end (walk_outside c.args.walk.now.env) c.loop-x.invariant.0 c.args.xs.now c.loop-x.x-index (map flaw_view c.loop-x.flaws.items) _ c.loop-x-test.false c.loop-x.invariant.2

pub returns-clause-stays : goal.returns-clause-stays
returns-clause-stays c = c.loop-x.invariant.3
