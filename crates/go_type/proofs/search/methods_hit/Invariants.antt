use Rattle.std.proofs.Common.{ℕ, length, map}
use Rattle.go_type.specs.Levels.{tree_of}
use Rattle.go_type.specs.Named.{method_of, MethodsBelow}
use Rattle.go_type.specs.Table.{places, size}
use Rattle.go_type.specs.Members.{sought, methods_found}
use Rattle.go_type.specs.Hits.{Sees, IsIn, join}
use Rattle.go_type.specs.declared.hits.Hit.{Hit}
use Rattle.go_type.proofs.search.methods_hit.Given as goal

abbrev pub invariant-methods : goal.invariant-methods
invariant-methods l = record {
  seen : (h : Hit) → ((j : ℕ) → Sees (places l.table) (methods_found (sought l.name l.«package») (tree_of (places l.table) l.«of») l.home (map (method_of (places l.table)) l.rest)) h)
      → (i : ℕ) → Sees (places l.table) (methods_found (sought l.name l.«package») (tree_of (places l.table) l.«of») l.home (map (method_of (places l.table)) l.methods)) (join l.hit h);
  within : IsIn (size l.table) l.hit;
  below : MethodsBelow (size l.table) l.rest;
}

abbrev pub decreases-methods : goal.decreases-methods
decreases-methods l = length l.rest
