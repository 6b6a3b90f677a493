-- Own: names and labels that stand in a tree.
use Rattle.std.specs.Prelude.{ℕ, List, map}
use Rattle.std.specs.Borrow.{Bor}
use Rattle.go_syntax.specs.declared.tree.Name.{Name}

abbrev pub names_of : List (Bor Name) → List Name
names_of ns = map (λ n. n.now) ns

abbrev pub texts : List (Bor (List ℕ)) → List (List ℕ)
texts xs = map (λ x. x.now) xs
