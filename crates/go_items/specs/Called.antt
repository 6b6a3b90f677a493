-- Own: the names that a call needs, by those of what is called and of its arguments.
use Rattle.std.specs.Prelude.{ℕ, List, [], ◌++◌}
use Rattle.go_items.specs.declared.needed.called.Look.{Look}
use Rattle.go_items.specs.declared.needed.called.Look.TheVariants.{Nothing, Arguments, All}

abbrev pub looked_at : Look → List (List ℕ) → List (List ℕ) → List (List ℕ)
looked_at Nothing fs xs = []
looked_at Arguments fs xs = xs
looked_at All fs xs = fs ++ xs
