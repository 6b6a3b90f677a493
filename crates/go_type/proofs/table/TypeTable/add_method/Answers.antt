use Rattle.std.proofs.Common.{length}
use Rattle.go_type.specs.Levels.{trees}
use Rattle.go_type.specs.Named.{with_method, method_with}
use Rattle.go_type.specs.declared.types.Method.{Method}
use Rattle.go_type.proofs.Names.{set_below, at_below, rises_set, named_set, pushed_below, pushed_is}
use Rattle.go_type.proofs.table.TypeTable.add_method.Goals as goal

pub invariant_of-self : goal.invariant_of-self
invariant_of-self c =
    let s = c.args.self.now in
    let w = c.index_mut-named.result.now in
    let m : Method = record { name = c.args.name; pointer = c.args.pointer; sig = c.args.sig } in
    record {
      distinct = s.distinct;
      rises = rises_set s.levels.keys s.names.items c.args.id.0 _ s.rises;
      names_below = set_below (length s.levels.keys) s.names.items c.args.id.0 _ s.names_below
          (pushed_below (length s.levels.keys) w m c.push.new.self c.push.result c.push.ensures.value c.push.ensures.same
          (at_below (length s.levels.keys) s.names.items c.args.id.0 w c.requires.id c.index_mut-named.ensures.value s.names_below) c.requires.sig);
    }

pub returns-clause-names : goal.returns-clause-names
returns-clause-names c =
    let s = c.args.self.now in
    let ts = trees s.levels.keys in
    let w = c.index_mut-named.result.now in
    let m : Method = record { name = c.args.name; pointer = c.args.pointer; sig = c.args.sig } in
    named_set ts s.names.items c.args.id.0 w _ (with_method (method_with ts c.args.name c.args.pointer c.args.sig)) c.requires.id c.index_mut-named.ensures.value
    (pushed_is ts w m c.push.new.self c.in_ok-push.ensures.value)
