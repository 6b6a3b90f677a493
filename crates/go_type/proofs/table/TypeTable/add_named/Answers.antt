use Rattle.std.proofs.Common.{length, rules}
use Rattle.go_type.proofs.Names.{rises_named, below_named}
use Rattle.go_type.proofs.table.TypeTable.add_named.Goals as goal

pub invariant_of-self : goal.invariant_of-self
invariant_of-self c =
    let s = c.args.self.now in
    record {
      distinct = s.distinct;
      rises = rises_named s.levels.keys s.names.items c.push.new.self.items _ c.push.result c.push.ensures.items s.rises;
      names_below = below_named s.levels.keys s.names.items c.push.new.self.items _ (length s.levels.keys) c.push.result c.push.ensures.items s.names_below (tt, search rules);
    }
