use Rattle.std.proofs.Common.{◌≡◌, ◌++◌, List, drop}
use Rattle.go_type.specs.Tree.{Ty}
use Rattle.go_core.specs.Text.{joined, texts_of}
use Rattle.go_values.specs.ValuesSeen.{values_of}
use Rattle.go_values.proofs.values.output.push_joined.Given as goal

abbrev pub invariant-values : goal.invariant-values
invariant-values l =
    (ts : List Ty) → l.text.items ++ joined (texts_of (values_of ts (drop l.i l.values))) ≡ l.fn.text.items ++ joined (texts_of (values_of ts l.values))
