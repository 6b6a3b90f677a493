use Rattle.std.proofs.Common.{◌∙◌, ◌&&◌, not, sym, ap, subst, arith, ℕ, List}
use Rattle.std.proofs.lemmas.Result.{on_ok_weaker}
use Rattle.go_type.specs.Levels.{tree_of, fields_of}
use Rattle.go_type.specs.Table.{places, names}
use Rattle.go_core.specs.Layout.{Shape, copies, shape_with, parts_with, name_shape, is_blank}
use Rattle.go_values.specs.Laid.{Adds}
use Rattle.go_values.proofs.LayoutSteps.{copies_step, fields_step, fields_end, closes, leaf_shape}
use Rattle.go_values.proofs.layouts.layout.+lay.Goals as goal

pub lay_copies-copies-preserved : goal.lay_copies-copies-preserved
lay_copies-copies-preserved t c =
    copies_step (places c.args.table.now) c.args.out.now c.copies.out c.lay.new.out c.args.looked c.args.count c.copies._i _ (omega (arith, c.copies-test.true)) c.copies.invariant c.in_ok-lay.ensures.value

pub lay_fields-fields-preserved : goal.lay_fields-fields-preserved
lay_fields-fields-preserved t c =
    let named = c.is_compared-compared.ensures.value ∙ ap (λ (n : List ℕ). c.args.looked && not (is_blank n)) c.as_bytes.ensures in
    fields_step (places c.args.table.now) (name_shape (names c.args.table.now) c.args.left) c.args.out.now c.fields.out c.lay.new.out c.args.looked c.is_compared-compared.result c.args.fields.now c.fields.i
    c.index-fields-i.result c.type_at.result (omega (arith, c.fields-test.true)) (c.type_at.ensures.value c.index-fields-i.result) named c.fields.invariant c.in_ok-lay.ensures.value

pub lay_fields-returns : goal.lay_fields-returns
lay_fields-returns t c = record {
  value = fields_end (places c.args.table.now) (name_shape (names c.args.table.now) c.args.left) c.args.out.now c.fields.out c.args.looked c.args.fields.now c.fields.i (omega (arith, c.fields-test.false)) c.fields.invariant;
}

pub lay_array-returns : goal.lay_array-returns
lay_array-returns t c =
    let ts = places c.args.table.now in
    record {
      value = closes ts c.args.out.now c.lay_copies.new.out c.pad.new.out c.args.looked (copies c.args.count (shape_with (name_shape (names c.args.table.now) c.args.left) (tree_of ts c.args.element))) c.places_in-before.result
          c.places_in-before.ensures.value c.in_ok-lay_copies.ensures.value (λ h. c.in_ok-pad.ensures.zeros h ts) c.in_ok-pad.ensures.flags c.in_ok-pad.ensures.same c.in_ok-pad.ensures.composites;
    }

pub lay_struct-returns : goal.lay_struct-returns
lay_struct-returns t c =
    let ts = places c.args.table.now in
    record {
      value = closes ts c.args.out.now c.lay_fields.new.out c.pad.new.out c.args.looked (parts_with (name_shape (names c.args.table.now) c.args.left) (fields_of ts c.args.fields.now)) c.places_in-before.result
          c.places_in-before.ensures.value c.in_ok-lay_fields.ensures.value (λ h. c.in_ok-pad.ensures.zeros h ts) c.in_ok-pad.ensures.flags c.in_ok-pad.ensures.same c.in_ok-pad.ensures.composites;
    }

pub lay_named-returns-in-Some : goal.lay_named-returns-in-Some
lay_named-returns-in-Some t c = record {
  value = on_ok_weaker c.lay.result (subst (λ (s : Shape). Adds (places c.args.table.now) c.args.out.now c.lay.new.out c.args.looked s) (sym c.in-Some.ensures.some)) c.lay.ensures.value;
}

pub lay_named-returns-in-None : goal.lay_named-returns-in-None
lay_named-returns-in-None t c = record {
  value = on_ok_weaker c.lay_pointer.result (λ h. subst (λ (s : Shape). Adds (places c.args.table.now) c.args.out.now c.lay_pointer.new.out c.args.looked s) (sym c.in-None.ensures.none) (h (places c.args.table.now))) c.lay_pointer.ensures.value;
}

pub lay-returns-in_default : goal.lay-returns-in_default
lay-returns-in_default t c =
    let ts = places c.args.table.now in
    let of_name = name_shape (names c.args.table.now) c.args.left in
    let e = leaf_shape ts of_name c.get.result.now c.in_default.not-Array c.in_default.not-Struct c.in_default.not-Named ∙ ap (shape_with of_name) c.get.ensures.tree in
    record {
      value = on_ok_weaker c.lay_leaf.result (λ h. subst (λ (s : Shape). Adds ts c.args.out.now c.lay_leaf.new.out c.args.looked s) e (h ts ts)) c.lay_leaf.ensures.value;
    }
