use Rattle.js_run.proofs.Values.{value_ok, value_err}
use Rattle.js_run.proofs.whole.start.first_value.Goals as goal

pub returns : goal.returns
returns g c = record {
  room = c.finish.ensures.room;
  goes = λ script budget taken sink e more program h on reached.
      value_ok c.args.env.now script budget taken _ _ sink _ _ c.args.state.now c.outside.new.state c.finish.new.state c.args.body e more c.new-stack.result.items c.finish.new.stack.items c.new-stack.ensures.items program h on
      c.outside.ensures.same reached c.value_in.result c.in_ok-done.done c.in_ok-done.ensures.answer c.in_ok-done.ensures.empty c.in_ok-done.ensures.keeps c.value_in.ensures.value;
}

pub returns-in_err-done : goal.returns-in_err-done
returns-in_err-done g c = record {
  room = c.finish.ensures.room;
  goes = λ script budget taken sink e more program h on reached.
      value_err c.args.env.now script budget taken _ _ sink _ _ c.args.state.now c.outside.new.state c.finish.new.state c.args.body e more c.new-stack.result.items c.finish.new.stack.items c.new-stack.ensures.items program h on
      c.outside.ensures.same reached c.from_residual.result _ c.in_err-done.ensures.keeps c.from_residual.ensures.1;
}
