use Rattle.js_value.specs.HeapSeen.{value_of}
use Rattle.js_run.proofs.Starts.{start_ok, start_err, start_none}
use Rattle.js_run.proofs.whole.start.call_start.Goals as goal

pub returns : goal.returns
returns g c = record {
  goes = λ script budget taken sink program reached.
      start_ok c.args.env.now script budget taken _ _ sink _ _ c.args.state.now c.call_value.new.state c.finish.new.state c.args.at (value_of c.args.callee) c.new-stack.result.items c.call_value.new.stack.items c.finish.new.stack.items
      c.new-values.result.items c.new-stack.ensures.items c.new-values.ensures.items program reached c.return_in.result c.in_ok-first.first c.in_ok-done.done c.in_ok-first.ensures.keeps c.in_ok-done.ensures.answer c.in_ok-done.ensures.empty
      c.in_ok-done.ensures.keeps c.return_in.ensures.value;
}

pub returns-in_err-done : goal.returns-in_err-done
returns-in_err-done g c = record {
  goes = λ script budget taken sink program reached.
      start_err c.args.env.now script budget taken _ _ sink _ _ c.args.state.now c.call_value.new.state c.finish.new.state c.args.at (value_of c.args.callee) c.new-stack.result.items c.call_value.new.stack.items c.finish.new.stack.items
      c.new-values.result.items c.new-stack.ensures.items c.new-values.ensures.items program reached c.from_residual-in_err-done.result c.in_ok-first.first _ c.in_ok-first.ensures.keeps c.in_err-done.ensures.keeps c.from_residual-in_err-done.ensures.1;
}

pub returns-in_err-first : goal.returns-in_err-first
returns-in_err-first g c = record {
  goes = λ script budget taken sink program reached.
      start_none c.args.env.now script budget taken _ sink _ c.args.state.now c.call_value.new.state c.args.at (value_of c.args.callee) c.new-stack.result.items c.call_value.new.stack.items c.new-values.result.items c.new-stack.ensures.items
      c.new-values.ensures.items program reached c.from_residual.result _ c.in_err-first.ensures.keeps c.from_residual.ensures.1;
}
