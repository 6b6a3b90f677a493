use Rattle.std.proofs.Common.{◌+◌, arith, subst, List, [], drop}
use Rattle.std.proofs.lemmas.List.{drop_all}
use Rattle.js_run.specs.declared.whole.prepare.First.{First}
use Rattle.js_run.specs.Firsts.{AreFirsts}
use Rattle.js_run.specs.Points.{items_left}
use Rattle.js_run.proofs.Values.{stopped_stage}
use Rattle.js_run.proofs.Globals.{next_first, no_first, drop_next}
use Rattle.js_run.proofs.whole.start.set_globals.Goals as goal

pub loop-first-init : goal.loop-first-init
loop-first-init g c = record { room = omega arith; goes = λ script budget taken sink items program a reached. (items, a, reached) }

pub loop-first-preserved : goal.loop-first-preserved
loop-first-preserved g c = record {
  room = omega (arith, c.loop-first.invariant.room, c.set_global.ensures.room);
  goes = λ script budget taken sink items program a reached.
      let i = c.loop-first.first-index in
      let fs = c.args.firsts.now in
      let f = c.first-item.result in
      let left = c.loop-first.invariant.goes script budget taken sink items program a reached in
      let n = next_first script budget taken _ sink _ c.loop-first.state f (drop (i + 1) fs) left.0 (subst (λ (xs : List First). AreFirsts script left.0 xs) (drop_next fs i f c.loop-first-test.true c.first-item.is) left.1) left.2 in
      (n.rest, n.more, c.in_ok-set_global.ensures.goes script budget taken sink n.at n.name n.value n.rest program n.is n.reached);
}

pub returns : goal.returns
returns g c = record {
  room = c.loop-first.invariant.room;
  goes = λ script budget taken sink items program a reached.
      let left = c.loop-first.invariant.goes script budget taken sink items program a reached in
      no_first script budget taken _ sink _ c.loop-first.state left.0 (subst (λ (xs : List First). AreFirsts script left.0 xs) (drop_all c.loop-first.first-index c.args.firsts.now c.loop-first-test.false) left.1) left.2;
}

pub returns-in_err-set_global : goal.returns-in_err-set_global
returns-in_err-set_global g c = record {
  room = omega (arith, c.loop-first.invariant.room, c.set_global.ensures.room);
  goes = λ script budget taken sink items program a reached.
      let i = c.loop-first.first-index in
      let fs = c.args.firsts.now in
      let f = c.first-item.result in
      let left = c.loop-first.invariant.goes script budget taken sink items program a reached in
      let n = next_first script budget taken _ sink _ c.loop-first.state f (drop (i + 1) fs) left.0 (subst (λ (xs : List First). AreFirsts script left.0 xs) (drop_next fs i f c.loop-first-test.true c.first-item.is) left.1) left.2 in
      stopped_stage script budget taken _ sink _ c.set_global.new.state _ c.from_residual.result (λ _. items_left []) c.from_residual.ensures.1
      (c.in_err-set_global.ensures.goes script budget taken sink n.at n.name n.value n.rest program n.is n.reached);
}
