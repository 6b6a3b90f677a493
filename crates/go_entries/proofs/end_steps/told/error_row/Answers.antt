use Rattle.std.proofs.Common.{◌∙◌, sym, ap}
use Rattle.go_type.specs.Table.{places}
use Rattle.go_core.specs.CoreView.{program_view}
use Rattle.go_core.specs.Memory as core
use Rattle.go_core.specs.StepInterfaces.{error_row}
use Rattle.go_values.specs.ValuesSeen.{scalar_of}
use Rattle.go_values.specs.declared.values.scalar.Scalar.{Scalar}
use Rattle.go_slices.proofs.CompositesScalarLemmas.{interface_seen}
use Rattle.go_entries.proofs.end_steps.told.error_row.Goals as goal

pub returns-in-Interface : goal.returns-in-Interface
returns-in-Interface c =
    let p = program_view c.args.p.now in
    let ts = places c.args.p.now.types in
    record {
      value =
          c.row_of_type.ensures.value core.no_scalars
          ∙ sym (ap (λ (x : Scalar). error_row p (scalar_of ts x)) c.in-Interface.is ∙ ap (λ (x : core.Scalar). error_row p x) (interface_seen ts c.in-Interface.ty _));
    }
