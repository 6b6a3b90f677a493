use Rattle.std.proofs.Common.{◌≡◌, ◌+◌, ◌*◌, length}
use Rattle.go_type.specs.Levels.{trees_of, fields_of, specs_of}
use Rattle.go_type.specs.Table.{places}
use Rattle.go_core.specs.Untagged.{untagged_types, untagged_fields, untagged_specs}
use Rattle.go_sound_parts.proofs.alike.+alike.Given as goal

abbrev pub decreases-ids_alike : goal.decreases-ids_alike
decreases-ids_alike l = 5 * l.left

abbrev pub decreases-lists_alike : goal.decreases-lists_alike
decreases-lists_alike l = 5 * l.left + 1

abbrev pub decreases-fields_alike : goal.decreases-fields_alike
decreases-fields_alike l = 5 * l.left + 1

abbrev pub decreases-signatures_alike : goal.decreases-signatures_alike
decreases-signatures_alike l = 5 * l.left + 2

abbrev pub decreases-specs_alike : goal.decreases-specs_alike
decreases-specs_alike l = 5 * l.left + 3

abbrev pub decreases-levels_alike : goal.decreases-levels_alike
decreases-levels_alike l = 5 * l.left + 4

abbrev pub invariant-lists_alike-types : goal.invariant-lists_alike-types
invariant-lists_alike-types l =
    let ts = places l.table in
    untagged_types (trees_of ts l.xs) ≡ untagged_types (trees_of ts l.ys) → untagged_types (trees_of ts l.a) ≡ untagged_types (trees_of ts l.b)

abbrev pub decreases-lists_alike-types : goal.decreases-lists_alike-types
decreases-lists_alike-types l = length l.xs

abbrev pub invariant-fields_alike-fields : goal.invariant-fields_alike-fields
invariant-fields_alike-fields l =
    let ts = places l.table in
    untagged_fields (fields_of ts l.xs) ≡ untagged_fields (fields_of ts l.ys) → untagged_fields (fields_of ts l.a) ≡ untagged_fields (fields_of ts l.b)

abbrev pub decreases-fields_alike-fields : goal.decreases-fields_alike-fields
decreases-fields_alike-fields l = length l.xs

abbrev pub invariant-specs_alike-specs : goal.invariant-specs_alike-specs
invariant-specs_alike-specs l =
    let ts = places l.table in
    untagged_specs (specs_of ts l.xs) ≡ untagged_specs (specs_of ts l.ys) → untagged_specs (specs_of ts l.a) ≡ untagged_specs (specs_of ts l.b)

abbrev pub decreases-specs_alike-specs : goal.decreases-specs_alike-specs
decreases-specs_alike-specs l = length l.xs
