use Rattle.std.proofs.Common.{◌+◌, ◌*◌, ℕ, length}
use Rattle.go_type.specs.Levels.{fields_of, FieldsBelow}
use Rattle.go_type.specs.Table.{places, names, size}
use Rattle.go_type.specs.Members.{sought, members_at, through}
use Rattle.go_type.specs.Hits.{Sees, IsIn, join}
use Rattle.go_type.specs.declared.hits.Hit.{Hit}
use Rattle.go_type.proofs.search.+hits.Given as goal

abbrev pub decreases-hit_at : goal.decreases-hit_at
decreases-hit_at l = 4 * l.depth

abbrev pub decreases-below_hit : goal.decreases-below_hit
decreases-below_hit l = 4 * l.depth + 3

abbrev pub decreases-through_hit : goal.decreases-through_hit
decreases-through_hit l = 4 * l.depth + 2

abbrev pub decreases-embedded_hit : goal.decreases-embedded_hit
decreases-embedded_hit l = 4 * l.depth + 1

abbrev pub invariant-through_hit-fields : goal.invariant-through_hit-fields
invariant-through_hit-fields l = record {
  seen : (h : Hit) → ((j : ℕ) → Sees (places l.table) (through (members_at (names l.table) (sought l.name l.«package») l.depth) j (fields_of (places l.table) l.rest)) h)
      → (i : ℕ) → Sees (places l.table) (through (members_at (names l.table) (sought l.name l.«package») l.depth) i (fields_of (places l.table) l.fields)) (join l.hit h);
  below : FieldsBelow (size l.table) l.rest;
  within : IsIn (size l.table) l.hit;
}

abbrev pub decreases-through_hit-fields : goal.decreases-through_hit-fields
decreases-through_hit-fields l = length l.rest
