use Rattle.std.proofs.Common.{List, subst, sym}
use Rattle.go_type.specs.Levels.{level, tree_of, fields_of}
use Rattle.go_type.specs.Table.{places}
use Rattle.go_type.specs.Members.{sought, fields_found, shape_found}
use Rattle.go_type.specs.Hits.{Sees}
use Rattle.go_type.specs.declared.types.FieldRow.{FieldRow}
use Rattle.go_type.specs.declared.types.GoType.{GoType}
use Rattle.go_type.proofs.search.shape_hit.Goals as goal

pub returns-in-Struct-clause-seen : goal.returns-in-Struct-clause-seen
returns-in-Struct-clause-seen c =
    let ts = places c.args.table.now in
    let f = sought c.args.name.now c.args.«package».now in
    subst (λ (g : GoType). Sees ts (shape_found f (tree_of ts c.args.«of») (level ts g)) c.fields_hit.result) (sym c.in-Struct.is)
    (subst (λ (fs : List FieldRow). Sees ts (fields_found f 0 (fields_of ts fs)) c.fields_hit.result) c.as_slice.ensures (c.fields_hit.ensures.seen 0))
