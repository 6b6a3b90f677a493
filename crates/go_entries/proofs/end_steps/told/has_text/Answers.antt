use Rattle.std.proofs.Common.{◌∙◌, refl, ap, arith, length, List}
use Rattle.go_type.specs.Levels.{trees_of}
use Rattle.go_type.specs.Table.{places}
use Rattle.go_type.specs.declared.types.TypeId.{TypeId}
use Rattle.go_core.specs.CoreView.{func_view}
use Rattle.go_core.specs.SameType.{same_types}
use Rattle.go_core.specs.StepInterfaces.{one_string}
use Rattle.go_entries.proofs.SignatureLemmas.{has_params, is_variadic, by_results}
use Rattle.go_entries.proofs.end_steps.told.has_text.Goals as goal

pub returns-then-params-gt0 : goal.returns-then-params-gt0
returns-then-params-gt0 c =
    let ts = places c.args.table.now in
    record { value = has_params ts (func_view ts c.args.f.now) c.args.f.now.sig.params refl (omega (arith, c.if-params-gt0.true, ap length c.as_slice-params.ensures)) }

pub returns-then-f : goal.returns-then-f
returns-then-f c =
    let ts = places c.args.table.now in
    record { value = is_variadic ts (func_view ts c.args.f.now) c.args.f.now.sig.params refl c.if-f.true }

pub returns : goal.returns
returns c =
    let ts = places c.args.table.now in
    record {
      value =
          c.is_one_text.ensures.value
          ∙ ap (λ (us : List TypeId). same_types (trees_of ts us) one_string) c.as_slice.ensures
          ∙ by_results ts (func_view ts c.args.f.now) c.args.f.now.sig.params refl (λ h. omega (arith, h, c.if-params-gt0.false, ap length c.as_slice-params.ensures)) c.if-f.false;
    }
