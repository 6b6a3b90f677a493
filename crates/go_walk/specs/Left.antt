-- What the loops and switches of the code stand for: the targets of go_typing, the innermost first.
use Rattle.std.specs.Prelude.{ℕ, List, [], ◌∷◌, map, reverse}
use Rattle.go_core.specs.declared.statement.Label.{Label}
use Rattle.go_typing.specs.Walk as walk
use Rattle.go_walk.specs.declared.labels.target.Target.{Target}
use Rattle.go_walk.specs.declared.labels.target.Targets.{Targets}

abbrev pub label_of : Label → ℕ
label_of l = l.0

abbrev pub target_of : Target → walk.Target
target_of t = record { label = t.label.0; name = t.name; is_loop = t.is_loop }

abbrev pub targets_of : Targets → List walk.Target
targets_of ts = reverse (map target_of ts.items.items)

abbrev pub without_first : List walk.Target → List walk.Target
without_first [] = []
without_first (t ∷ ts) = ts
