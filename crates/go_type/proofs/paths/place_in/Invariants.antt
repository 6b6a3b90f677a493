use Rattle.std.proofs.Common.{◌≡◌, ◌+◌, length}
use Rattle.go_type.specs.Levels.{fields_of}
use Rattle.go_type.specs.Table.{places}
use Rattle.go_type.specs.Members.{sought, fields_found}
use Rattle.go_type.proofs.paths.place_in.Given as goal

abbrev pub invariant-fields : goal.invariant-fields
invariant-fields l = record {
  rest : fields_found (sought l.name l.«package») 0 (fields_of (places l.table) l.fields) ≡ fields_found (sought l.name l.«package») l.place (fields_of (places l.table) l.rest);
  counted : l.place + length l.rest ≡ length l.fields;
}

abbrev pub decreases-fields : goal.decreases-fields
decreases-fields l = length l.rest
