use Rattle.std.proofs.Common.{arith, map, get_or}
use Rattle.go_core.specs.CoreView.{target_view}
use Rattle.go_operands.specs.AnswerView.{flaw_view}
use Rattle.go_calls.specs.Words.{types_of}
use Rattle.go_assign.specs.LeftView.{left_view, lefts_view}
use Rattle.go_assign.proofs.SeveralLemmas.{no_type, in_range, takes_step, told_step, target_step}
use Rattle.go_assign.proofs.assign.several.take_each.Goals as goal

pub loop-t-preserved : goal.loop-t-preserved
loop-t-preserved c =
    let ts0 = types_of c.args.env.now in
    let is = c.args.types.now in
    let i = c.loop-t.t-index in
    let olds = lefts_view ts0 c.loop-t.lefts in
    let news = lefts_view ts0 c.next_left.new.lefts in
    let l = left_view ts0 c.in-Some.left in
    record {
      lefts = c.next_left.ensures.within;
      count = let a = c.in-Some.ensures.count in let b = c.loop-t.invariant.count in omega (arith, a, b);
      takes = takes_step ts0 olds news l is i (get_or is i no_type) c.loop-t.all c.both-all.result c.takes-fits.result _ c.loop-t-test.true (in_range is i no_type c.loop-t-test.true) c.in-Some.ensures.view c.takes-fits.ensures.value c.both-all.ensures.value c.loop-t.invariant.takes;
      told = told_step olds news l (map flaw_view c.loop-t.flaws.items) (map flaw_view c.take_one.new.flaws.items) _ c.in-Some.ensures.view c.in_ok-take_one-in-Some.ensures.told c.loop-t.invariant.told;
      targets = λ ts k. target_step olds news l (map (target_view ts) c.loop-t.targets.items) (map (target_view ts) c.take_one.new.targets.items) _ c.in-Some.ensures.view (c.in_ok-take_one-in-Some.ensures.targets ts k) (c.loop-t.invariant.targets ts k);
    }
