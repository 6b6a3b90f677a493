use Rattle.std.proofs.Common.{◌∙◌, ◌-◌, ap, sym}
use Rattle.go_operands.specs.declared.scopes.scope.Scope.{Scope}
use Rattle.go_operands.specs.Held.{place_held}
use Rattle.go_operands.specs.Holds.{held}
use Rattle.go_operands.proofs.OriginLemmas.{sought-down, sought-found}
use Rattle.go_operands.proofs.scopes.blocks.Blocks.origin.Goals as goal

pub returns-in-Some : goal.returns-in-Some
returns-in-Some c = record {
  value =
      sym (sought-found c.args.name.now (c.loop-i.i - 1) c.args.self.now.scopes.items c.in-Some.place
      (sought-down c.args.name.now c.loop-i.i c.args.self.now.scopes.items c.index.result.now c.loop-i-test.true c.loop-i.invariant.within c.loop-i.invariant.not_yet
      ∙ ap (λ (s : Scope). place_held c.args.name.now (held s)) (sym c.index.ensures) ∙ sym c.in-Some.ensures.value));
}
