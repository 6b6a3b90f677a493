use Rattle.std.proofs.Common.{◌≡◌, ◌+◌, ap, sym, ◌∙◌, arith, ℕ, List}
use Rattle.go_type.specs.Named.{NamedTy}
use Rattle.go_type.specs.Levels.{tree_of}
use Rattle.go_type.specs.Table.{places, names}
use Rattle.go_core.specs.Assign.{bound_step}
use Rattle.go_core.specs.Calls.{Bindings, with_var}
use Rattle.go_core.specs.CoreView.{var_of}
use Rattle.go_core.specs.Goroutine.{with_memory}
use Rattle.go_core.specs.Layout.{shape_of}
use Rattle.go_core.specs.Memory.{Value, zeros}
use Rattle.std.specs.Prelude.{Some}
use Rattle.go_values.specs.ValuesSeen.{memory_of}
use Rattle.go_state.specs.StateSeen.{frame_of}
use Rattle.go_state.specs.Bound.{bindings_of}
use Rattle.go_entries.proofs.local_steps.variables.declare_step.Goals as goal

pub returns : goal.returns
returns c = record {
  value = λ p q g below s.
      let ts = places c.args.c.now.table.now in
      let ns = names c.args.c.now.table.now in
      let v = var_of ts c.args.var in
      let t = tree_of ts c.args.var.ty in
      let f = frame_of ts c.args.f.now in
      let b0 = bindings_of ts c.args.f.now.places.items c.args.m.now 0 in
      let s0 = with_memory (memory_of ts c.args.m.now) s in
      let z : 0 + c.in_ok-units.units ≡ c.in_ok-units.units = omega arith in
      ap (λ (b : Bindings). bound_step p g (Some b) f below s0)
      (ap (λ (ms : List NamedTy). with_var ms v (zeros (shape_of ms t)) b0) q
      ∙ ap (λ (x : Value). with_var ns v x b0) (sym c.in_ok-zeros.ensures.value)
      ∙ sym (c.in_ok-units.ensures.value 0)
      ∙ ap (λ (k : ℕ). bindings_of ts c.bind_var.new.at.items c.bind_var.new.m k) z);
}
