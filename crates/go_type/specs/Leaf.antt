-- The tests by name.
use Rattle.std.specs.Prelude.{Bool}
use Rattle.go_type.specs.Tree.{Ty}
use Rattle.go_type.specs.Parts.{compares, is_key, every}
use Rattle.go_type.specs.declared.parts.Leaf.{Leaf}
use Rattle.go_type.specs.declared.parts.Leaf.TheVariants.{Compares, IsKey, Every}

abbrev pub leaf_test : Leaf → Ty → Bool
leaf_test Compares = compares
leaf_test IsKey = is_key
leaf_test Every = every
