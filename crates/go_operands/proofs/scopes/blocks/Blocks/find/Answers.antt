use Rattle.std.proofs.Common.{◌∙◌, ◌-◌, ap, sym}
use Rattle.go_operands.specs.declared.scopes.scope.Scope.{Scope}
use Rattle.go_operands.specs.Held.{what_in}
use Rattle.go_operands.specs.Holds.{held}
use Rattle.go_operands.proofs.HeldLemmas.{seek-down, seek-found}
use Rattle.go_operands.proofs.scopes.blocks.Blocks.find.Goals as goal

pub returns-in-Some : goal.returns-in-Some
returns-in-Some c = record {
  value =
      sym (seek-found c.args.name.now (c.loop-i.i - 1) c.args.self.now.scopes.items c.in-Some.what.now
      (seek-down c.args.name.now c.loop-i.i c.args.self.now.scopes.items c.index.result.now c.loop-i-test.true c.loop-i.invariant.within c.loop-i.invariant.not_yet
      ∙ ap (λ (s : Scope). what_in c.args.name.now (held s)) (sym c.index.ensures) ∙ sym c.in-Some.ensures.value));
}
