use Rattle.std.proofs.Common.{ℕ, List, length}
use Rattle.std.specs.Prelude.{Bool}
use Rattle.go_type.specs.Levels.{FieldsBelow}
use Rattle.go_type.specs.Table.{places, names, size}
use Rattle.go_type.specs.Walk.{Expands, AllWithin}
use Rattle.go_type.proofs.WalkLemmas.{fields_look}
use Rattle.go_type.proofs.walk.enter_fields.Given as goal

abbrev pub invariant-fields : goal.invariant-fields
invariant-fields l = record {
  rest : (new : List (ℕ × Bool)) → Expands (names l.table) (places l.table) l.seen (fields_look (names l.table) (places l.table) l.seen l.follows l.rest) l.next.items new
      → Expands (names l.table) (places l.table) l.seen (fields_look (names l.table) (places l.table) l.seen l.follows l.fields) l.fn.next.items new;
  within : AllWithin (size l.table) l.next.items;
  below : FieldsBelow (size l.table) l.rest;
}

abbrev pub decreases-fields : goal.decreases-fields
decreases-fields l = length l.rest
