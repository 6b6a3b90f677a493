use Rattle.std.proofs.Common.{◌∙◌, ◌-◌, ap, map, take, ℕ}
use Rattle.go_operands.specs.Holds.{held}
use Rattle.go_operands.proofs.HeldLemmas.{without-last}
use Rattle.go_operands.proofs.scopes.blocks.Blocks.pop.Goals as goal

pub returns : goal.returns
returns c = record {
  value = ap (map held) c.pop.ensures.rest ∙ ap (λ (n : ℕ). map held (take (n - 1) c.args.self.now.scopes.items)) c.args.self.now.scopes.ok.0 ∙ without-last c.args.self.now.scopes.items;
}
