use Rattle.std.proofs.Common.{length}
use Rattle.go_type.proofs.Identity.{identity}
use Rattle.go_type.proofs.table.TypeTable.identical.Goals as goal

pub returns-clause-exact : goal.returns-clause-exact
returns-clause-exact c =
    let s = c.args.self.now in
    identity (length s.names.items) s.levels.keys s.rises s.distinct c.args.a c.args.b c.requires.a c.requires.b
