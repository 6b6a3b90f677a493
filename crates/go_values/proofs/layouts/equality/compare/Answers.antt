use Rattle.std.proofs.Common.{◌≡◌, ◌∙◌, ap, subst, ℕ, List, Bool}
use Rattle.std.specs.Prelude.{IfOk}
use Rattle.go_type.specs.Levels.{tree_of}
use Rattle.go_type.specs.Table.{places, names}
use Rattle.go_core.specs.Layout.{shape_of, weight}
use Rattle.go_core.specs.Memory.{packed}
use Rattle.go_core.specs.Equality.{Verdict, taking, compare_all}
use Rattle.go_values.specs.Laid.{IsLaid}
use Rattle.go_values.specs.ValuesSeen.{value_of}
use Rattle.go_values.specs.LayoutsSeen.{verdict_of}
use Rattle.go_values.proofs.layouts.equality.compare.Goals as goal

pub returns : goal.returns
returns c =
    let w = c.args.table.now in
    let ts = places w in
    let shape = shape_of (names w) (tree_of ts c.args.t) in
    let laid : IsLaid ts c.in_ok-layout.layout shape = c.in_ok-layout.ensures.value in
    let f = c.in_ok-found.ensures.value ∙ ap (λ (fs : List Bool). compare_all (names w) fs (packed (value_of ts c.args.x.now)) (packed (value_of ts c.args.y.now))) (c.as_slice.ensures.value ∙ laid.flags_) in
    let e = ap (λ (k : ℕ). taking k (verdict_of c.in_ok-found.found)) (c.in_ok-units.ensures.value ts shape laid) ∙ ap (taking (weight shape)) f in
    record { value = subst (λ (x : Verdict). IfOk c.taking.result (λ v. verdict_of v ≡ x)) e c.taking.ensures.value }
