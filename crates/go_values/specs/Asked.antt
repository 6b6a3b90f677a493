-- What is asked of the types that hold no others by value.
use Rattle.std.specs.Prelude.{Bool}
use Rattle.go_type.specs.Tree.{Ty}
use Rattle.go_type.specs.Parts.{compares, is_key}
use Rattle.go_values.specs.declared.layouts.holds.Asked.{Asked}
use Rattle.go_values.specs.declared.layouts.holds.Asked.TheVariants as asked

abbrev pub asked_of : Asked → Ty → Bool
asked_of asked.Compares = compares
asked_of asked.IsKey = is_key
