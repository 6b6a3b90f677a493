use Rattle.std.proofs.Common.{refl}
use Rattle.go_type.specs.Table.{places, names}
use Rattle.go_core.specs.CoreView.{var_of}
use Rattle.go_values.specs.ValuesSeen.{value_of, memory_of}
use Rattle.go_state.proofs.BindLemmas.{bound}
use Rattle.go_state.proofs.bindings.bind.bind_var.Goals as goal

pub returns : goal.returns
returns c =
    let w = c.args.c.now.table.now in
    let ts = places w in
    record {
      value = λ before.
          bound (names w) (var_of ts c.args.var) (value_of ts c.args.x.now) c.args.at.now.items _ _ (memory_of ts c.args.m.now) _ before c.in_ok-units.units
          c.in_ok-push.ensures.items refl (c.next_base-base.ensures.value ts) (c.in_ok-add_fresh.ensures.value ts) c.in_ok-units.ensures.value;
    }
