use Rattle.std.proofs.Common.{◌∙◌, sym, ap}
use Rattle.go_type.specs.Levels.{tree_of}
use Rattle.go_type.specs.Table.{places}
use Rattle.go_type.specs.Tree.{Ty, pointer}
use Rattle.go_core.specs.SameType.{same_type}
use Rattle.go_entries.proofs.entries.receiver.points_to.Goals as goal

pub returns-in-Some : goal.returns-in-Some
returns-in-Some c =
    let target = pointer (tree_of (places c.args.table.now) c.args.target) in
    record { value = c.level_points_to.ensures.value ∙ ap (λ (t : Ty). same_type t target) c.in-Some.ensures.tree }

pub returns-in-None : goal.returns-in-None
returns-in-None c =
    let target = pointer (tree_of (places c.args.table.now) c.args.target) in
    record { value = sym (ap (λ (t : Ty). same_type t target) c.in-None.ensures.none) }
