use Rattle.go_type.specs.Levels.{tree_of}
use Rattle.go_type.specs.Table.{places, names}
use Rattle.go_operands.specs.EnvView.{table_of, env_of}
use Rattle.go_items.proofs.StandLemmas.{type_sets}
use Rattle.go_items.proofs.binds.settle.set_type.Goals as goal

pub returns-clause-value : goal.returns-clause-value
returns-clause-value c = λ k new h s.
    let old = c.args.env.now in
    type_sets k (env_of old) (env_of c.set_named.new.self) c.args.id.0 (tree_of (places (table_of old)) c.args.under) (names (table_of c.set_named.new.self)) new c.set_named.ensures.env c.set_named.ensures.names h s
