use Rattle.go_state.proofs.TodoLemmas.{tasks_pieces, measure_pieces}
use Rattle.go_state.proofs.state.todo.push_pieces.Goals as goal

pub returns : goal.returns
returns c = record {
  value = λ ts. tasks_pieces ts c.args.pieces _ _ _ _ c.in_ok-push.ensures.items c.in_ok-push-2.ensures.items c.in_ok-push-3.ensures.items;
  weighs = measure_pieces c.args.pieces _ _ _ _ c.in_ok-push.ensures.items c.in_ok-push-2.ensures.items c.in_ok-push-3.ensures.items;
}
