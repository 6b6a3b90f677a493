-- Own: the names declared since there were so many, which count as used.
use Rattle.std.specs.Prelude.{ℕ, Bool, drop}
use Rattle.go_typing.specs.Walk.{Walk}
use Rattle.go_typing.specs.Statements.{and_places}

abbrev pub with_spared : Bool → ℕ → Walk → Walk
with_spared unbuilt names w = record w { used = and_places unbuilt (drop names w.declared) w.used }
