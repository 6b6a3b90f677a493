use Rattle.std.proofs.Common.{ap, sym, subst}
use Rattle.go_core.specs.Control.{var_written}
use Rattle.go_core.specs.CoreView.{option_var}
use Rattle.go_values.specs.ValuesSeen.{value_of, memory_of}
use Rattle.go_state.specs.StateSeen.{places_of}
use Rattle.go_state.specs.Bound.{Written}
use Rattle.go_entries.proofs.local_steps.range.set_var.Goals as goal

pub returns-in-None : goal.returns-in-None
returns-in-None c = record {
  value = λ ts p g. ap (λ o. var_written p g (option_var ts o) (value_of ts c.args.x.now) (places_of c.args.at.now) (memory_of ts c.args.m.now)) c.in-None.is;
}

pub returns-in-Some : goal.returns-in-Some
returns-in-Some c = record {
  value = λ ts p g.
      subst (λ o. Written ts c.set_at.result c.set_at.new.m (var_written p g (option_var ts o) (value_of ts c.args.x.now) (places_of c.args.at.now) (memory_of ts c.args.m.now)))
      (sym c.in-Some.is) (c.set_at.ensures.value ts p g);
}
