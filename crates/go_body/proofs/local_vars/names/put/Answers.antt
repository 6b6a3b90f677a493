use Rattle.std.specs.Prelude.{option_map}
use Rattle.go_type.specs.Levels.{tree_of}
use Rattle.go_calls.specs.Words.{types_of}
use Rattle.go_body.proofs.NameLemmas.{puts_from}
use Rattle.go_body.proofs.local_vars.names.put.Goals as goal

pub returns-in-Ok-and_target : goal.returns-in-Ok-and_target
returns-in-Ok-and_target c =
    let a = c.args.walk.now in
    record {
      puts = puts_from c.args.n.now c.args.at (option_map (tree_of (types_of a.env)) c.args.ty) a c.declared.new.walk c.args.out.now.items c.declared.new.out.items c.args.targets.now.items c.and_target.new.items.items c.in-Ok.target c.in-Ok.ensures.core c.in-Ok.ensures.target c.in-Ok.ensures.walk c.declared.ensures.table
          c.in-Ok-and_target.ensures.items;
    }
