use Rattle.std.proofs.Common.{ℕ, suc, List, length}
use Rattle.std.specs.Prelude.{Bool}
use Rattle.go_type.specs.Table.{places, names, size}
use Rattle.go_type.specs.Walk.{total, Expands, AllWithin}
use Rattle.go_type.proofs.walk.expand.Given as goal

abbrev pub invariant-level : goal.invariant-level
invariant-level l = record {
  rest : (new : List (ℕ × Bool)) → Expands (names l.table) (places l.table) l.seen (λ f k. total (names l.table) (places l.table) f l.rest (suc k)) l.next.items new
      → Expands (names l.table) (places l.table) l.seen (λ f k. total (names l.table) (places l.table) f l.level (suc k)) l.fn.next.items new;
  within : AllWithin (size l.table) l.next.items;
  below : AllWithin (size l.table) l.rest;
}

abbrev pub decreases-level : goal.decreases-level
decreases-level l = length l.rest
