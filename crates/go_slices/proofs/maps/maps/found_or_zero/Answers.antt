use Rattle.std.proofs.Common.{◌∙◌, sym, ap, false, List}
use Rattle.std.specs.Borrow.{Bor}
use Rattle.std.specs.Prelude.{Option, option_map}
use Rattle.std.proofs.lemmas.Result.{IfOk-weaker}
use Rattle.go_type.specs.Levels.{tree_of}
use Rattle.go_type.specs.Table.{places, names}
use Rattle.go_core.specs.Layout.{Shape, shape_of}
use Rattle.go_core.specs.Memory.{Value}
use Rattle.go_core.specs.StepMaps.{with_ok, found_value, is_found}
use Rattle.go_type.specs.Tree.{Ty}
use Rattle.std.specs.Prelude.{Bool}
use Rattle.go_values.specs.ValuesSeen.{value_of}
use Rattle.go_values.specs.declared.values.scalar.Scalar.{Scalar}
use Rattle.go_slices.proofs.maps.maps.found_or_zero.Goals as goal

abbrev given : List Ty → Shape → Bool → Option (Bor (List Scalar)) → List Value
given ts s ok o = with_ok ok (found_value s (option_map (λ (x : Bor (List Scalar)). value_of ts x.now) o)) (is_found (option_map (λ (x : Bor (List Scalar)). value_of ts x.now) o))

pub returns-in-Some : goal.returns-in-Some
returns-in-Some c =
    let w = c.args.c.now.table.now in
    let ts = places w in
    let s = shape_of (names w) (tree_of ts c.args.value_type) in
    record { value = IfOk-weaker c.with_ok.result _ _ (λ vs h. h ts ∙ sym (ap (given ts s c.args.ok) c.in-Some.is)) c.with_ok.ensures.value }

pub returns-in_ok-zeros-in-None : goal.returns-in_ok-zeros-in-None
returns-in_ok-zeros-in-None c =
    let w = c.args.c.now.table.now in
    let ts = places w in
    let s = shape_of (names w) (tree_of ts c.args.value_type) in
    record {
      value = IfOk-weaker c.with_ok-in-None.result _ _ (λ vs h.
          h ts ∙ ap (λ (v : Value). with_ok c.args.ok v false) c.in_ok-zeros-in-None.ensures.value ∙ sym (ap (given ts s c.args.ok) c.in-None.is)) c.with_ok-in-None.ensures.value;
    }
