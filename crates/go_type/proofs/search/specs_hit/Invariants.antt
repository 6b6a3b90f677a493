use Rattle.std.proofs.Common.{ℕ, length}
use Rattle.go_type.specs.Levels.{specs_of, tree_of, SpecsBelow}
use Rattle.go_type.specs.Table.{places, size}
use Rattle.go_type.specs.Members.{sought, specs_found}
use Rattle.go_type.specs.Hits.{Sees, IsIn, join}
use Rattle.go_type.specs.declared.hits.Hit.{Hit}
use Rattle.go_type.proofs.search.specs_hit.Given as goal

abbrev pub invariant-specs : goal.invariant-specs
invariant-specs l = record {
  seen : (h : Hit) → ((j : ℕ) → Sees (places l.table) (specs_found (sought l.name l.«package») (tree_of (places l.table) l.«of») (specs_of (places l.table) l.rest)) h)
      → (i : ℕ) → Sees (places l.table) (specs_found (sought l.name l.«package») (tree_of (places l.table) l.«of») (specs_of (places l.table) l.specs)) (join l.hit h);
  within : IsIn (size l.table) l.hit;
  below : SpecsBelow (size l.table) l.rest;
}

abbrev pub decreases-specs : goal.decreases-specs
decreases-specs l = length l.rest
