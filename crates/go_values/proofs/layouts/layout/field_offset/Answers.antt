use Rattle.std.proofs.Common.{◌∙◌, arith}
use Rattle.go_type.specs.Table.{places, names}
use Rattle.go_core.specs.Layout.{name_shape}
use Rattle.go_values.proofs.LayoutSteps.{laid_parts_size}
use Rattle.go_values.proofs.OffsetLemmas.{field_there, field_past}
use Rattle.go_values.proofs.layouts.layout.field_offset.Goals as goal

pub returns-then-number-fields : goal.returns-then-number-fields
returns-then-number-fields c = record {
  value = field_past (places c.args.table.now) (name_shape (names c.args.table.now) c.args.left) c.args.fields.now c.args.number (omega (arith, c.if-number-fields.true));
}

pub returns : goal.returns
returns c =
    let w = c.args.table.now in
    record {
      value = field_there (places w) (name_shape (names w) c.args.left) c.args.fields.now c.args.number c.places_in.result (omega (arith, c.if-number-fields.false))
          (c.places_in.ensures.value ∙ laid_parts_size (places w) c.empty-before.result c.lay_fields.new.out _ c.empty-before.ensures.value.0 c.in_ok-lay_fields.ensures.value);
    }
