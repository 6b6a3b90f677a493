use Rattle.std.proofs.Common.{sym, subst}
use Rattle.js_tree.specs.Evaluate.{call_host}
use Rattle.js_code.specs.Places.{host_of}
use Rattle.js_code.specs.declared.slots.place.Host.{Host}
use Rattle.js_value.specs.HeapSeen.{values_of}
use Rattle.js_steps.specs.Moment.{called_here}
use Rattle.js_steps.specs.Stands.{Steps}
use Rattle.js_steps.proofs.calls.host.call_host.Goals as goal

pub returns-in-Write : goal.returns-in-Write
returns-in-Write c = record {
  keeps = λ stack.
      let s = c.args.state.now in
      subst (λ (h : Host). Steps stack s stack s c.written.result (λ st m. called_here c.args.at c.args.usage m (call_host st c.args.at (host_of h) (values_of c.args.values.now) m.world)))
      (sym c.in-Write.is) (c.written.ensures.keeps stack s);
}

pub returns-in-Pick : goal.returns-in-Pick
returns-in-Pick c = record {
  keeps = λ stack.
      let s = c.args.state.now in
      subst (λ (h : Host). Steps stack s stack s c.picked.result (λ st m. called_here c.args.at c.args.usage m (call_host st c.args.at (host_of h) (values_of c.args.values.now) m.world)))
      (sym c.in-Pick.is) (c.picked.ensures.keeps stack s);
}

pub returns-in-Finish : goal.returns-in-Finish
returns-in-Finish c = record {
  keeps = λ stack.
      let s = c.args.state.now in
      subst (λ (h : Host). Steps stack s stack c.finished.new.state c.finished.result (λ st m. called_here c.args.at c.args.usage m (call_host st c.args.at (host_of h) (values_of c.args.values.now) m.world)))
      (sym c.in-Finish.is) (c.finished.ensures.keeps stack c.args.usage);
}
