use Rattle.std.proofs.Common.{◌≡◌, ℕ, ◌<◌, ◌+◌, [], length}
use Rattle.go_type.specs.Levels.{fields_of, FieldsBelow}
use Rattle.go_type.specs.Table.{places, names, size}
use Rattle.go_type.specs.Members.{sought, members_at, through}
use Rattle.go_type.proofs.paths.next.Given as goal

abbrev pub invariant-fields : goal.invariant-fields
invariant-fields l = record {
  rest : through (members_at (names l.table) (sought l.name l.«package») l.depth) 0 (fields_of (places l.table) l.fields) ≡ through (members_at (names l.table) (sought l.name l.«package») l.depth) l.place (fields_of (places l.table) l.rest);
  quiet : (e : ℕ) → e < l.depth → through (members_at (names l.table) (sought l.name l.«package») e) l.place (fields_of (places l.table) l.rest) ≡ [];
  below : FieldsBelow (size l.table) l.rest;
  counted : l.place + length l.rest ≡ length l.fields;
}

abbrev pub decreases-fields : goal.decreases-fields
decreases-fields l = length l.rest
