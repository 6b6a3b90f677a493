use Rattle.go_type.specs.Table.{size, places}
use Rattle.go_operands.specs.Holds.{held, held_blocks, held_packages}
use Rattle.go_operands.specs.Counted.{number_of}
use Rattle.go_operands.proofs.ReadyLemmas.{begins-kept}
use Rattle.go_operands.proofs.WithinLemmas.{helds-more, scopes-more, packages-more}
use Rattle.go_operands.proofs.EnvLemmas.{made-grown}
use Rattle.go_operands.proofs.scopes.env.Env.add.Goals as goal

pub invariant_of-self : goal.invariant_of-self
invariant_of-self c =
    let e = c.args.self.now in
    record {
      begins = begins-kept e.table c.add.new.self c.add.ensures.kept c.add.ensures.counts.0 e.begins;
      universe_within = helds-more (size e.table) (size c.add.new.self) c.add.ensures.counts.0 (held e.universe) e.universe_within;
      packages_within = packages-more (size e.table) (size c.add.new.self) c.add.ensures.counts.0 (held_packages e.packages) e.packages_within;
      blocks_within = scopes-more (size e.table) (size c.add.new.self) c.add.ensures.counts.0 (held_blocks e.blocks) e.blocks_within;
    }

pub returns-clause-env : goal.returns-clause-env
returns-clause-env c =
    let e = c.args.self.now in
    made-grown (places e.table) (places c.add.new.self) (size e.table) c.add.ensures.kept (number_of e.iota.what) (held e.universe) (held_packages e.packages) e.current (held_blocks e.blocks)
    c.add.ensures.names e.universe_within e.packages_within e.blocks_within
