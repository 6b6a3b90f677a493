use Rattle.js_body.specs.State.{temp_tree, depth}
use Rattle.js_plain.specs.Control.{chosen_set, left_at}
use Rattle.js_plain.specs.Lines.{then_does, only_runs}
use Rattle.js_plain.proofs.control.say_choice.Goals as goal

pub returns : goal.returns
returns c =
    let b = c.args.b.now in
    then_does b c.set_chosen.new.b c.leave_at.new.b (chosen_set c.args.n) (left_at c.args.c.chosen) (only_runs b c.set_chosen.new.b c.set_chosen.result (λ s. temp_tree (depth s)) (chosen_set c.args.n) c.set_chosen.ensures) c.leave_at.ensures
