use Rattle.std.proofs.Common.{length, refl}
use Rattle.go_type.specs.Levels.{trees, tree_of}
use Rattle.go_type.specs.Named.{with_under}
use Rattle.go_type.proofs.Names.{set_below, at_below, rises_set, named_set}
use Rattle.go_type.proofs.table.TypeTable.set_named.Goals as goal

pub invariant_of-self : goal.invariant_of-self
invariant_of-self c =
    let s = c.args.self.now in
    let w = c.index_mut-named.result.now in
    record {
      distinct = s.distinct;
      rises = rises_set s.levels.keys s.names.items c.args.id.0 _ s.rises;
      names_below = set_below (length s.levels.keys) s.names.items c.args.id.0 _ s.names_below
          (c.requires.under, (at_below (length s.levels.keys) s.names.items c.args.id.0 w c.requires.id c.index_mut-named.ensures.value s.names_below).1);
    }

pub returns-clause-names : goal.returns-clause-names
returns-clause-names c =
    let s = c.args.self.now in
    let ts = trees s.levels.keys in
    named_set ts s.names.items c.args.id.0 c.index_mut-named.result.now _ (with_under (tree_of ts c.args.under)) c.requires.id c.index_mut-named.ensures.value refl
