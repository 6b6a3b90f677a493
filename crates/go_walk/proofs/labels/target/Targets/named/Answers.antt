use Rattle.std.proofs.Common.{arith, ◌∙◌, ap, sym, map, List}
use Rattle.std.specs.Prelude.{reverse}
use Rattle.go_typing.specs.Statements.{target_named}
use Rattle.go_walk.specs.declared.labels.target.Target.{Target}
use Rattle.go_walk.specs.Left.{target_of}
use Rattle.go_walk.proofs.LabelsSteps.{all_of}
use Rattle.go_walk.proofs.TargetLemmas.{named_found, named_past}
use Rattle.go_walk.proofs.labels.target.Targets.named.Goals as goal

pub loop-i-init : goal.loop-i-init
loop-i-init c = record {
  within = omega arith;
  left = ap (λ (ts : List Target). target_named c.args.loops c.args.x.now (reverse (map target_of ts))) (all_of target_of c.args.self.now.items.items c.len-i.result (c.len-i.ensures ∙ c.args.self.now.items.ok.0));
}

pub loop-i-preserved : goal.loop-i-preserved
loop-i-preserved c = record {
  within = omega arith;
  left =
      named_past c.args.loops c.loop-i.i c.args.self.now.items.items c.index-target.result.now c.loop-i-test.true c.loop-i.invariant.within c.index-target.ensures c.args.x.now (sym c.is_named.ensures.value ∙ c.if-is_named.false)
      ∙ c.loop-i.invariant.left;
}

pub returns-then-is_named : goal.returns-then-is_named
returns-then-is_named c = record {
  value =
      c.left.ensures.value
      ∙ sym (named_found c.args.loops c.loop-i.i c.args.self.now.items.items c.index-target.result.now c.loop-i-test.true c.loop-i.invariant.within c.index-target.ensures c.args.x.now (sym c.is_named.ensures.value ∙ c.if-is_named.true))
      ∙ c.loop-i.invariant.left;
}
