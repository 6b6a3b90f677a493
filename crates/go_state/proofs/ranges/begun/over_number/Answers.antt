use Rattle.std.proofs.Common.{◌∙◌, ◌∷◌, [], sym, ap, subst, rules}
use Rattle.std.specs.Int.{w128}
use Rattle.std.specs.Int.RustNames.{FitsSigned}
use Rattle.std.proofs.lemmas.Int.{to_z-of_z}
use Rattle.go_type.specs.Tree.{int}
use Rattle.go_core.specs.Control.{cursor_of}
use Rattle.go_core.specs.Memory as core
use Rattle.go_values.specs.ValuesSeen.{scalar_of}
use Rattle.go_values.proofs.ScalarLemmas.{whole_seen}
use Rattle.go_state.specs.RangesFound.{CursorFound}
use Rattle.go_state.proofs.ranges.begun.over_number.Goals as goal

pub returns-in-Whole : goal.returns-in-Whole
returns-in-Whole c =
    let fits : FitsSigned w128 c.in-Whole.n = search rules in
    let v = simp to_z-of_z at c.numbers_below.ensures.value in
    record {
      value = λ ts p g name m.
          subst (λ (y : core.Scalar). CursorFound ts c.numbers_below.result (cursor_of p g (int name) (y ∷ []) m)) (sym (ap (scalar_of ts) c.in-Whole.is ∙ whole_seen ts c.in-Whole.n)) (v ts p g name m);
    }
