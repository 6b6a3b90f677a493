use Rattle.std.proofs.Common.{◌∙◌, sym, ap}
use Rattle.go_type.specs.Levels.{tree_of}
use Rattle.go_type.specs.Table.{places}
use Rattle.go_core.specs.StepInterfaces.{basic_type}
use Rattle.go_slices.proofs.LevelLemmas.{basic_under, basic_itself}
use Rattle.go_slices.proofs.composites.interfaces.basic_type.Goals as goal

pub returns-then-is_basic : goal.returns-then-is_basic
returns-then-is_basic c =
    let ts = places c.args.c.now.table.now in
    let t = tree_of ts c.args.t in
    let under = c.underlying-under.ensures.tree in
    record {
      value =
          basic_under t (tree_of ts c.underlying-under.result) (sym c.is_basic.ensures.value ∙ c.if-is_basic.true)
          ∙ ap (basic_type t) under;
    }

pub returns-else-is_basic : goal.returns-else-is_basic
returns-else-is_basic c =
    let ts = places c.args.c.now.table.now in
    let t = tree_of ts c.args.t in
    let under = c.underlying-under.ensures.tree in
    record {
      value =
          basic_itself t (tree_of ts c.underlying-under.result) (sym c.is_basic.ensures.value ∙ c.if-is_basic.false)
          ∙ ap (basic_type t) under;
    }
