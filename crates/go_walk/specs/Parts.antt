-- Own: whether what stands in a statement is typed, by what stood before it.
use Rattle.std.specs.Prelude.{List, Bool, ◌==◌, ◌&&◌, not, drop}
use Rattle.gj_base.specs.declared.place.Place.{Place}
use Rattle.go_syntax.specs.Tree as t
use Rattle.go_typing.specs.Walk.{all_used, any_among}
use Rattle.go_typing.specs.Labels.{labels_in}
use Rattle.go_typing.specs.Statements.{name_places}
use Rattle.go_walk.specs.declared.walk.walk.Walk.{Walk}
use Rattle.go_walk.specs.declared.walk.parts.Before.{Before}

-- where nothing is told of its nodes (go_typing, `parts_typed`); wrong: where labels stand that have a fault
abbrev pub parts_since : Before → List Place → t.Stmt → Walk → Bool
parts_since b wrong s w =
    all_used (drop b.declared w.declared.items) w.used.items
    && not (any_among (name_places (labels_in s)) wrong)
    && (w.lost == b.lost)
