use Rattle.js_run.proofs.Prints.{dropped_write, needed_write, no_write, refused_write}
use Rattle.js_run.proofs.walks.outside.written.Goals as goal

pub returns-in-Dropped : goal.returns-in-Dropped
returns-in-Dropped g c = record {
  keeps = λ env stack taken. dropped_write env stack c.args.state.now c.tick.new.state taken c.args.at c.args.text c.args.usage _ _ c.in-Dropped.is c.in_ok-tick.ensures.ticks c.in_ok-write.ensures;
}

pub returns-in-Needed : goal.returns-in-Needed
returns-in-Needed g c = record {
  keeps = λ env stack taken. needed_write env stack c.args.state.now c.tick.new.state taken c.args.at c.args.text c.args.usage _ _ c.in-Needed.is c.in_ok-tick.ensures.ticks c.in_ok-write.ensures;
}

pub returns-in_err-tick : goal.returns-in_err-tick
returns-in_err-tick g c = record {
  keeps = λ env stack taken. no_write env stack c.args.state.now c.tick.new.state taken c.args.at c.args.text c.args.usage _ _ c.from_residual.result c.in_err-tick.ensures.ticks c.from_residual.ensures.1;
}

pub returns-in_err-write : goal.returns-in_err-write
returns-in_err-write g c = record {
  keeps = λ env stack taken.
      refused_write env stack c.args.state.now c.tick.new.state taken c.args.at c.args.text c.args.usage _ _ _ c.from_residual-in_err-write.result c.in_ok-tick.ensures.ticks c.in_err-write.ensures c.from_residual-in_err-write.ensures.1;
}
