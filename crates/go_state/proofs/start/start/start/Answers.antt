use Rattle.std.proofs.Common.{◌≡◌, ◌∙◌, ◌∷◌, ◌+◌, ◌++◌, [], ap, subst, map, List, ℕ}
use Rattle.go_type.specs.Table.{places, names}
use Rattle.go_type.specs.declared.table.TypeTable.{TypeTable}
use Rattle.go_core.specs.CoreView.{init_step_view, package_var_view, program_view}
use Rattle.go_core.specs.Goroutine as defined
use Rattle.go_core.specs.Memory.{Value}
use Rattle.go_core.specs.Run as running
use Rattle.go_core.specs.StepMemory as cells
use Rattle.go_core.specs.declared.program.PackageVar.{PackageVar}
use Rattle.go_values.specs.ValuesSeen.{value_of, map_of, channel_of}
use Rattle.go_values.specs.declared.values.memory.MapState.{MapState}
use Rattle.go_values.specs.declared.values.memory.Channel.{Channel}
use Rattle.go_state.specs.StateSeen.{goroutine_of}
use Rattle.go_state.specs.declared.state.state.Goroutine.{Goroutine}
use Rattle.go_state.proofs.StartLemmas.{begun}
use Rattle.go_state.proofs.start.start.start.Goals as goal

pub returns : goal.returns
returns c =
    let q = program_view c.args.p.now in
    let tp = c.args.p.now.types in
    let ts = places tp in
    let items = c.args.p.now.globals.items.items in
    let gs = c.as_slice-globals.result.now in
    let order = map init_step_view c.args.order.now.items.items in
    let later = defined.call_with (defined.the_function q.main) 0 ∷ defined.finish ∷ [] in
    let framed = λ (tasks : List defined.Task). (let x : defined.Goroutine = record { frames = running.first_frame tasks ∷ []; waiting = defined.able } in x) in
    let all = framed (running.init_tasks q order later) ∷ [] in
    let z = cells.global_zeros q.names q.globals in
    let goroutines =
    ap (map (goroutine_of ts)) c.in_ok-push.ensures.items
    ∙ ap (λ (xs : List Goroutine). map (goroutine_of ts) (xs ++ c.in_ok-first.first ∷ [])) c.new-goroutines.ensures.items
    ∙ ap (λ (x : defined.Goroutine). x ∷ []) (c.in_ok-first.ensures.value ts ∙ ap framed c.in_ok-tasks.ensures.value) in
    let zeros =
    subst (λ (v : TypeTable). value_of (places v) c.in_ok-cells.cells.items ≡ cells.global_zeros (names v) (map (package_var_view (places v)) gs)) c.requires c.in_ok-cells.ensures.value
    ∙ ap (λ (xs : List PackageVar). cells.global_zeros (names tp) (map (package_var_view ts) xs)) c.as_slice-globals.ensures.value in
    let weight =
    c.in_ok-weight.ensures.value
    ∙ ap (λ (v : TypeTable). cells.global_weight (names v) (map (package_var_view (places v)) gs)) c.requires
    ∙ ap (λ (xs : List PackageVar). cells.global_weight (names tp) (map (package_var_view ts) xs)) c.as_slice-globals.ensures.value in
    let n = c.in_ok-units.units in
    record {
      value =
          ap (λ (xs : List defined.Goroutine). begun xs (value_of ts c.in_ok-cells.cells.items) (map (map_of ts) c.new.result.items) (map (channel_of ts) c.new-2.result.items) c.new-3.result.items n) goroutines
          ∙ ap (λ (v : Value). begun all v (map (map_of ts) c.new.result.items) (map (channel_of ts) c.new-2.result.items) c.new-3.result.items n) zeros
          ∙ ap (λ (xs : List MapState). begun all z (map (map_of ts) xs) (map (channel_of ts) c.new-2.result.items) c.new-3.result.items n) c.new.ensures.items
          ∙ ap (λ (xs : List Channel). begun all z [] (map (channel_of ts) xs) c.new-3.result.items n) c.new-2.ensures.items
          ∙ ap (λ (xs : List ℕ). begun all z [] [] xs n) c.new-3.ensures.items
          ∙ ap (λ (k : ℕ). begun all z [] [] [] k) (c.in_ok-units.ensures.value ∙ ap (λ (k : ℕ). 1 + k) weight);
    }
