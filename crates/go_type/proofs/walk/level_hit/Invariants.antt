use Rattle.std.proofs.Common.{ℕ, length}
use Rattle.go_type.specs.Table.{places, names, size}
use Rattle.go_type.specs.Members.{sought}
use Rattle.go_type.specs.Hits.{Sees, IsIn, join}
use Rattle.go_type.specs.Walk.{spread, AllWithin}
use Rattle.go_type.specs.declared.hits.Hit.{Hit}
use Rattle.go_type.proofs.walk.level_hit.Given as goal

abbrev pub invariant-level : goal.invariant-level
invariant-level l = record {
  seen : (h : Hit) → ((j : ℕ) → Sees (places l.table) (spread (names l.table) (places l.table) (sought l.name l.«package») l.rest) h)
      → (i : ℕ) → Sees (places l.table) (spread (names l.table) (places l.table) (sought l.name l.«package») l.level) (join l.hit h);
  within : IsIn (size l.table) l.hit;
  below : AllWithin (size l.table) l.rest;
}

abbrev pub decreases-level : goal.decreases-level
decreases-level l = length l.rest
