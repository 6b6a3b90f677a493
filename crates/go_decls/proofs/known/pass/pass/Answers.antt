use Rattle.std.proofs.Common.{arith, ◌+◌, ℕ, List, subst, sym, drop, map, false, get_or}
use Rattle.go_items.specs.ItemView.{item_view}
use Rattle.go_operands.specs.EnvView.{env_of}
use Rattle.go_decls.specs.State.{Passed}
use Rattle.go_decls.proofs.PassLemmas.{next_in, past_in, pass_first, pass_step, count_step, count_true}
use Rattle.go_decls.proofs.known.pass.pass.Goals as goal

pub loop-n-init : goal.loop-n-init
loop-n-init c = record {
  value = λ ds named p. subst (λ (xs : List ℕ). Passed (map item_view c.args.items.now) xs c.args.todo.now false (env_of c.args.env.now)) (sym c.new.ensures.items) (pass_first (map item_view c.args.items.now) c.args.todo.now (env_of c.args.env.now) p);
  count = grind (arith, c.new.ensures.items);
}

pub loop-n-preserved : goal.loop-n-preserved
loop-n-preserved c =
    let all = map item_view c.args.items.now in
    let todo = c.args.todo.now in
    let i = c.loop-n.n-index in
    let left = c.loop-n.left in
    let n = get_or todo i 0 in
    record {
      value = λ ds named p.
          pass_step all left.numbers.items c.and_one.new.left.numbers.items n (drop (i + 1) todo) c.in_ok-is_typed.is_typed left.changed c.and_one.new.left.changed (env_of c.loop-n.env) (env_of c.one.new.env)
          (λ ns r. c.in_ok-is_typed.ensures.value ds ns named r) c.in_ok-and_one.ensures.numbers c.in_ok-and_one.ensures.changed
          (subst (λ (xs : List ℕ). Passed all left.numbers.items xs left.changed (env_of c.loop-n.env)) (next_in todo i 0 c.loop-n-test.true) (c.loop-n.invariant.value ds named p));
      count = count_step left.numbers.items c.and_one.new.left.numbers.items n i c.in_ok-is_typed.is_typed left.changed c.and_one.new.left.changed c.in_ok-and_one.ensures.numbers c.in_ok-and_one.ensures.changed c.loop-n.invariant.count;
    }

pub returns : goal.returns
returns c = record {
  value = λ ds named p.
      subst (λ (xs : List ℕ). Passed (map item_view c.args.items.now) c.loop-n.left.numbers.items xs c.loop-n.left.changed (env_of c.loop-n.env)) (past_in c.args.todo.now c.loop-n.n-index c.loop-n-test.false) (c.loop-n.invariant.value ds named p);
  fewer = λ h. count_true c.args.todo.now c.loop-n.left.numbers.items c.loop-n.n-index c.loop-n.left.changed h c.loop-n.invariant.count (omega arith);
}
