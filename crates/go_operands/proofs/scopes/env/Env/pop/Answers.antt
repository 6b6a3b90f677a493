use Rattle.std.proofs.Common.{◌∙◌, ap, sym, subst}
use Rattle.go_type.specs.Table.{size, places, names}
use Rattle.go_operands.specs.Holds.{held, held_blocks, held_packages}
use Rattle.go_operands.specs.Counted.{number_of}
use Rattle.go_operands.specs.Within.{ScopesBelow}
use Rattle.go_operands.proofs.WithinLemmas.{without-below}
use Rattle.go_operands.proofs.EnvLemmas.{made, pops}
use Rattle.go_operands.proofs.scopes.env.Env.pop.Goals as goal

pub invariant_of-self : goal.invariant_of-self
invariant_of-self c = record {
  begins = c.args.self.now.begins;
  universe_within = c.args.self.now.universe_within;
  packages_within = c.args.self.now.packages_within;
  blocks_within =
      subst (ScopesBelow (size c.args.self.now.table)) (sym c.pop.ensures.value) (without-below (size c.args.self.now.table) (held_blocks c.args.self.now.blocks) c.args.self.now.blocks_within);
}

pub returns-clause-value : goal.returns-clause-value
returns-clause-value c =
    let e = c.args.self.now in
    ap (made (places e.table) (names e.table) (number_of e.iota.what) (held e.universe) (held_packages e.packages) e.current) c.pop.ensures.value
    ∙ pops (places e.table) (names e.table) (number_of e.iota.what) (held e.universe) (held_packages e.packages) e.current (held_blocks e.blocks)
