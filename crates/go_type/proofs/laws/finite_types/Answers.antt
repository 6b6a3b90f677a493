use Rattle.go_type.proofs.EndlessLemmas.{derived, endless}
use Rattle.go_type.proofs.laws.finite_types.Goals as goal

pub returns-clause-derived : goal.returns-clause-derived
returns-clause-derived c =
    let s = c.args.table.now in
    derived s.levels.keys s.names.items s.rises s.names_below c.args.t.0 c.requires

pub returns-clause-endless : goal.returns-clause-endless
returns-clause-endless c =
    let s = c.args.table.now in
    endless s.levels.keys s.names.items s.rises s.names_below c.args.t.0 c.requires
