use Rattle.std.proofs.Common.{◌≡◌, ◌∙◌, ◌+◌, get_or, refl, sym, ap, subst, arith, rules, ℕ, List, Bool, true, false}
use Rattle.std.specs.Prelude.{IfOk}
use Rattle.go_type.specs.Levels.{tree_of}
use Rattle.go_type.specs.Table.{places, names}
use Rattle.go_core.specs.Layout.{shape_of, is_comparable}
use Rattle.go_core.specs.SameType.{same_type}
use Rattle.go_core.specs.Memory.{packed}
use Rattle.go_core.specs.Equality.{Verdict, taking, compare_all}
use Rattle.go_values.specs.Laid.{IsLaid}
use Rattle.go_values.specs.ValuesSeen.{value_of}
use Rattle.go_values.specs.LayoutsSeen.{verdict_of}
use Rattle.go_values.proofs.CompareLemmas.{starts, rest_from, goes_on, stops, ends_left, ends_right, refused_is, found_is}
use Rattle.go_values.proofs.layouts.equality.+compare.Goals as goal

pub compare_all-scalars-init : goal.compare_all-scalars-init
compare_all-scalars-init t c = starts _

pub compare_all-returns-then-i-xs : goal.compare_all-returns-then-i-xs
compare_all-returns-then-i-xs t c = record {
  value = ends_left (names c.args.table.now) (places c.args.table.now) c.args.looked.now c.args.xs.now c.args.ys.now c.scalars.i c.scalars.units _ (omega (arith, c.if-i-xs.true)) c.scalars.invariant;
}

pub compare_all-returns-then-i-ys : goal.compare_all-returns-then-i-ys
compare_all-returns-then-i-ys t c = record {
  value = ends_right (names c.args.table.now) (places c.args.table.now) c.args.looked.now c.args.xs.now c.args.ys.now c.scalars.i c.scalars.units _ (omega (arith, c.if-i-ys.true)) c.scalars.invariant;
}

pub compare_all-scalars-preserved : goal.compare_all-scalars-preserved
compare_all-scalars-preserved t c =
    goes_on (names c.args.table.now) (places c.args.table.now) c.args.looked.now c.args.xs.now c.args.ys.now c.scalars.i c.scalars.units c.in-Some.n (get_or c.args.looked.now c.scalars.i false) false c.index-xs-i.result c.index-ys-i.result (verdict_of c.in_ok-found.found) _
    (omega (arith, c.scalars-test.true)) (omega (arith, c.if-i-xs.false)) (omega (arith, c.if-i-ys.false)) refl c.index-xs-i.is c.index-ys-i.is c.in_ok-found.ensures.value c.in-Some.ensures.some c.scalars.invariant
    ∙ ap (λ (k : ℕ). taking k (rest_from (names c.args.table.now) (places c.args.table.now) c.args.looked.now c.args.xs.now c.args.ys.now (c.scalars.i + 1))) (sym c.in_ok-more-in-Some.ensures.value)

pub compare_all-returns-in-None : goal.compare_all-returns-in-None
compare_all-returns-in-None t c = record {
  value =
      let e = stops (names c.args.table.now) (places c.args.table.now) c.args.looked.now c.args.xs.now c.args.ys.now c.scalars.i c.scalars.units (get_or c.args.looked.now c.scalars.i false) false c.index-xs-i.result c.index-ys-i.result (verdict_of c.in_ok-found.found) _
      (omega (arith, c.scalars-test.true)) (omega (arith, c.if-i-xs.false)) (omega (arith, c.if-i-ys.false)) refl c.index-xs-i.is c.index-ys-i.is c.in_ok-found.ensures.value c.in-None.ensures.none c.scalars.invariant in
      subst (λ (w : Verdict). IfOk c.taking.result (λ v. verdict_of v ≡ w)) e c.taking.ensures.value;
}

pub compare_contents-returns-then-not-is_comparable : goal.compare_contents-returns-then-not-is_comparable
compare_contents-returns-then-not-is_comparable t c =
    let w = c.args.table.now in
    let s : c.same_type.result ≡ true = search rules in
    let n : c.is_comparable.result ≡ false = search rules in
    let laid = c.in_ok-layout.ensures.value in
    record {
      value = refused_is _ _ c.in_ok-units.units _ _ (sym s ∙ c.same_type.ensures.value) (sym n ∙ c.is_comparable.ensures.value) (c.in_ok-units.ensures.value (places w) (shape_of (names w) (tree_of (places w) c.args.t)) laid);
    }

pub compare_contents-returns : goal.compare_contents-returns
compare_contents-returns t c =
    let w = c.args.table.now in
    let ts = places w in
    let s : c.same_type.result ≡ true = search rules in
    let y : c.is_comparable.result ≡ true = search rules in
    let laid : IsLaid ts c.in_ok-layout.layout (shape_of (names w) (tree_of ts c.args.t)) = c.in_ok-layout.ensures.value in
    let f = c.in_ok-found.ensures.value ∙ ap (λ (fs : List Bool). compare_all (names w) fs (packed (value_of ts c.args.xs.now)) (packed (value_of ts c.args.ys.now))) (c.as_slice.ensures.value ∙ laid.flags_) in
    let e = found_is _ _ c.in_ok-units.units _ _ _ (sym s ∙ c.same_type.ensures.value) (sym y ∙ c.is_comparable.ensures.value) (c.in_ok-units.ensures.value ts (shape_of (names w) (tree_of ts c.args.t)) laid) f in
    record { value = subst (λ (x : Verdict). IfOk c.taking.result (λ v. verdict_of v ≡ x)) e c.taking.ensures.value }
