use Rattle.std.proofs.Common.{sym, subst}
use Rattle.go_type.specs.Table.{size}
use Rattle.go_operands.specs.Holds.{held, held_blocks, held_packages}
use Rattle.go_operands.specs.Counted.{number_of}
use Rattle.go_operands.specs.Within.{HeldsBelow, ScopesBelow, PackagesBelow}
use Rattle.go_operands.proofs.ReadyLemmas.{begins}
use Rattle.go_operands.proofs.UniverseLemmas.{universe-within}
use Rattle.go_operands.proofs.EnvLemmas.{made-new}
use Rattle.go_operands.proofs.scopes.env.Env.new.Goals as goal

pub invariant_of-result : goal.invariant_of-result
invariant_of-result c = record {
  begins = begins c.args.table c.requires;
  universe_within = subst (HeldsBelow (size c.args.table)) (sym c.in_ok-universe.ensures.value) (universe-within c.args.table c.requires);
  packages_within = subst (PackagesBelow (size c.args.table)) (sym c.new.ensures) tt;
  blocks_within = subst (ScopesBelow (size c.args.table)) (sym c.new-2.ensures) tt;
}

pub returns-clause-value : goal.returns-clause-value
returns-clause-value c =
    made-new c.args.table c.requires (held c.in_ok-universe.universe) (held_packages c.new.result) (held_blocks c.new-2.result) (number_of c.new-3.result.what)
    c.in_ok-universe.ensures.value c.new.ensures c.new-2.ensures c.new-3.ensures.value
