use Rattle.std.proofs.Common.{◌∙◌, sym, ap, arith, length, get_or, map, List}
use Rattle.std.specs.Prelude.{Option}
use Rattle.go_type.specs.Table.{places}
use Rattle.go_core.specs.CoreTree as core
use Rattle.go_core.specs.CoreView.{package_var_view, program_view}
use Rattle.go_core.specs.Run as running
use Rattle.go_core.specs.declared.program.PackageVar.{PackageVar}
use Rattle.go_state.proofs.ListsLemmas.{get_here}
use Rattle.go_state.specs.StateSeen.{tasks_of}
use Rattle.go_state.proofs.StartLemmas.{on_ok}
use Rattle.go_state.proofs.start.tasks.initialise.Goals as goal

pub returns : goal.returns
returns c =
    let q = program_view c.args.p.now in
    let ts = places c.args.p.now.types in
    let view = package_var_view ts in
    let items = c.args.p.now.globals.items.items in
    let old = tasks_of ts c.args.tasks.now.items in
    let counted = ap length c.as_slice-globals.ensures.value in
    let x = c.index-globals-number.result in
    record {
      value = on_ok c.initialise_by.result (λ h.
          h ts
          ∙ ap (λ (gs : List PackageVar). running.initialised (view x).initialiser (running.set_with (view x) 0 (map view gs)) old) c.as_slice-globals.ensures.value
          ∙ sym (ap (λ (o : Option core.PackageVar). running.initialised_at q o old)
          (get_here view items c.args.number x (omega (arith, counted, c.if-number-globals.false))
          (c.index-globals-number.is ∙ ap (λ (gs : List PackageVar). get_or gs c.args.number x) c.as_slice-globals.ensures.value)))) c.initialise_by.ensures.value;
    }
