use Rattle.std.proofs.Common.{ℕ, length}
use Rattle.go_type.specs.Levels.{fields_of}
use Rattle.go_type.specs.Table.{places, size}
use Rattle.go_type.specs.Members.{sought, fields_found}
use Rattle.go_type.specs.Hits.{Sees, IsIn, join}
use Rattle.go_type.specs.declared.hits.Hit.{Hit}
use Rattle.go_type.proofs.search.fields_hit.Given as goal

abbrev pub invariant-fields : goal.invariant-fields
invariant-fields l = record {
  seen : (h : Hit) → ((j : ℕ) → Sees (places l.table) (fields_found (sought l.name l.«package») j (fields_of (places l.table) l.rest)) h)
      → (i : ℕ) → Sees (places l.table) (fields_found (sought l.name l.«package») i (fields_of (places l.table) l.fields)) (join l.hit h);
  within : IsIn (size l.table) l.hit;
}

abbrev pub decreases-fields : goal.decreases-fields
decreases-fields l = length l.rest
