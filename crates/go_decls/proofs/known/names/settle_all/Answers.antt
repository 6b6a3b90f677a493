use Rattle.std.proofs.Common.{List, ℕ, Bool, [], subst, sym, true, map}
use Rattle.go_items.specs.ItemView.{item_view}
use Rattle.go_operands.specs.EnvView.{env_of}
use Rattle.go_decls.specs.State.{Passed}
use Rattle.go_decls.proofs.PassLemmas.{pass_again}
use Rattle.go_decls.proofs.DoneLemmas.{all_done}
use Rattle.go_decls.proofs.known.names.settle_all.Goals as goal

pub passes-init : goal.passes-init
passes-init c = λ ds named p. p

pub passes-preserved : goal.passes-preserved
passes-preserved c = λ ds named p.
    let all = map item_view c.args.items.now in
    let left = c.in_ok-left.left in
    pass_again all left.numbers.items left.changed (env_of c.pass.new.env)
    (c.in_ok-left.ensures.value ds named (subst (λ (xs : List ℕ). Passed all xs [] true (env_of c.passes.env)) (sym c.as_slice.ensures.value) (c.passes.invariant ds named p)))

pub returns-else-changed : goal.returns-else-changed
returns-else-changed c = record {
  value = λ ds named p.
      let all = map item_view c.args.items.now in
      let left = c.in_ok-left.left in
      all_done ds all c.args.numbers.now left.numbers.items (env_of c.pass.new.env) c.settling.ensures.reached named
      (subst (λ (b : Bool). Passed all left.numbers.items [] b (env_of c.pass.new.env)) c.if-changed.false
      (c.in_ok-left.ensures.value ds named (subst (λ (xs : List ℕ). Passed all xs [] true (env_of c.passes.env)) (sym c.as_slice.ensures.value) (c.passes.invariant ds named p))));
}
