use Rattle.std.proofs.Common.{◌∙◌, sym, ap}
use Rattle.go_type.specs.declared.types.FieldRow.{FieldRow}
use Rattle.go_values.proofs.LayoutsLevelLemmas.{uncons, below_read}
use Rattle.go_values.proofs.layouts.fields.type_at.Goals as goal

pub returns : goal.returns
returns c =
    let fs = c.args.fields.now in
    let r = c.index-fields-i.result in
    let u = uncons fs c.args.i c.requires.i in
    record {
      value = λ d. ap (λ (f : FieldRow). f.ty) (u.at r ∙ sym (u.at d));
      below = below_read c.args.owner.0 fs c.args.i r c.requires.fields c.requires.i;
    }
