use Rattle.std.proofs.Common.{◌≡◌, ◌+◌, ◌*◌, length}
use Rattle.std.specs.List.{list_any}
use Rattle.go_type.specs.Levels.{fields_of, FieldsBelow}
use Rattle.go_type.specs.Table.{places, names, size}
use Rattle.go_type.specs.Chains.{bases_of, goes_deep}
use Rattle.go_type.proofs.search.+deep.Given as goal

abbrev pub decreases-goes_deep : goal.decreases-goes_deep
decreases-goes_deep l = 3 * l.depth

abbrev pub decreases-below_goes_deep : goal.decreases-below_goes_deep
decreases-below_goes_deep l = 3 * l.depth + 2

abbrev pub decreases-some_goes_deep : goal.decreases-some_goes_deep
decreases-some_goes_deep l = 3 * l.depth + 1

abbrev pub invariant-some_goes_deep-fields : goal.invariant-some_goes_deep-fields
invariant-some_goes_deep-fields l = record {
  rest : list_any (goes_deep (names l.table) l.depth) (bases_of (fields_of (places l.table) l.rest)) ≡ list_any (goes_deep (names l.table) l.depth) (bases_of (fields_of (places l.table) l.fields));
  below : FieldsBelow (size l.table) l.rest;
}

abbrev pub decreases-some_goes_deep-fields : goal.decreases-some_goes_deep-fields
decreases-some_goes_deep-fields l = length l.rest
