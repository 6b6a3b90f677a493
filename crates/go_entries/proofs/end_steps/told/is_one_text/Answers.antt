use Rattle.std.proofs.Common.{◌∙◌, sym, ap, arith, get_or, List}
use Rattle.go_type.specs.Levels.{trees_of}
use Rattle.go_type.specs.Table.{places}
use Rattle.go_type.specs.declared.types.TypeId.{TypeId}
use Rattle.go_core.specs.SameType.{same_types}
use Rattle.go_core.specs.StepInterfaces.{one_string}
use Rattle.go_slices.proofs.CompositesListLemmas.{no_type}
use Rattle.go_slices.proofs.SlicesListLemmas.{one_value}
use Rattle.go_entries.proofs.SignatureLemmas.{one_text, not_one}
use Rattle.go_entries.proofs.end_steps.told.is_one_text.Goals as goal

pub returns-then-ids-ne1 : goal.returns-then-ids-ne1
returns-then-ids-ne1 c = record { value = not_one (places c.args.table.now) c.args.ids.now c.if-ids-ne1.true }

pub returns : goal.returns
returns c =
    let ts = places c.args.table.now in
    let ids = c.args.ids.now in
    let e = one_value ids no_type (omega (arith, c.if-ids-ne1.false)) (omega (arith, c.if-ids-ne1.false)) in
    record { value = c.is_text.ensures.value ∙ one_text ts (get_or ids 0 no_type) ∙ sym (ap (λ (us : List TypeId). same_types (trees_of ts us) one_string) e) }
