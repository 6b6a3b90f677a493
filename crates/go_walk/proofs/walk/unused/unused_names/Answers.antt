use Rattle.std.proofs.Common.{◌∙◌, ◌+◌, sym, ap, List, ◌++◌, drop, map}
use Rattle.std.proofs.lemmas.List.{append-nil}
use Rattle.go_syntax.specs.declared.tree.Name.{Name}
use Rattle.go_operands.specs.AnswerView.{flaw_view}
use Rattle.go_typing.specs.Walk.{unused}
use Rattle.go_walk.proofs.WalkSteps.{next_at, past}
use Rattle.go_walk.proofs.UsedLemmas.{unused_step}
use Rattle.go_walk.proofs.walk.unused.unused_names.Goals as goal

pub loop-n-preserved : goal.loop-n-preserved
loop-n-preserved c =
    let n = c.n-item.result in
    unused_step (map flaw_view c.loop-n.flaws.items) (map flaw_view c.told_one.new.flaws.items) n (drop (c.loop-n.n-index + 1) c.args.names.now) c.args.used.now c.has.result (c.has.ensures.value ∙ c.in_ok-used.ensures.value n.place) c.in_ok-told_one.ensures.value
    ∙ ap (λ (ns : List Name). map flaw_view c.loop-n.flaws.items ++ unused ns c.args.used.now) (sym (next_at c.args.names.now c.loop-n.n-index n c.loop-n-test.true c.n-item.is))
    ∙ c.loop-n.invariant

pub returns : goal.returns
returns c = record {
  value =
      sym (append-nil (map flaw_view c.loop-n.flaws.items))
      ∙ ap (λ (ns : List Name). map flaw_view c.loop-n.flaws.items ++ unused ns c.args.used.now) (sym (past c.args.names.now c.loop-n.n-index c.loop-n-test.false))
      ∙ c.loop-n.invariant;
}
