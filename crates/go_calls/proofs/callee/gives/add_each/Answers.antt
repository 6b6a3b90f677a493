use Rattle.std.proofs.Common.{arith, ◌≡◌, ◌∙◌, ◌+◌, ℕ, refl, sym, ap, subst, List, take}
use Rattle.std.specs.Borrow.{Bor}
use Rattle.go_typing.specs.Env.{Bind}
use Rattle.go_typing.specs.Scopes.{visible}
use Rattle.go_operands.specs.EnvView.{table_of}
use Rattle.go_calls.specs.Called.{texts}
use Rattle.go_calls.specs.Words.{scopes_of}
use Rattle.go_calls.specs.ResultTypes.{IsGiven, AreGiven}
use Rattle.go_calls.proofs.GivesLemmas.{kept_on, given_step}
use Rattle.go_calls.proofs.callee.gives.add_each.Goals as goal

pub loop-name-preserved : goal.loop-name-preserved
loop-name-preserved c =
    let same : scopes_of c.add.new.env ≡ scopes_of c.loop-name.env = ap visible c.in_ok-add.ensures.env in
    let before = subst (λ (ss : List (List Bind)). AreGiven ss c.loop-name.gives (texts (take c.loop-name.name-index c.args.names.now))) (sym same) c.loop-name.invariant.given in
    let this = subst (λ (b : Bor (List ℕ)). IsGiven (scopes_of c.add.new.env) c.add.new.gives b.now) c.name-item.is c.in_ok-add.ensures.given in
    record {
      right = c.in_ok-add.ensures.right;
      given = given_step (scopes_of c.add.new.env) c.loop-name.gives c.add.new.gives c.args.names.now c.loop-name.name-index (c.loop-name.name-index + 1) c.name-item.result refl c.loop-name-test.true before c.in_ok-add.ensures.more this;
      env = c.in_ok-add.ensures.env ∙ c.loop-name.invariant.env;
      kept = kept_on (table_of c.args.env.now) (table_of c.loop-name.env) (table_of c.add.new.env) c.loop-name.invariant.kept c.in_ok-add.ensures.kept c.loop-name.invariant.size;
      size = omega arith;
      count = c.in_ok-add.ensures.counts.1 ∙ c.loop-name.invariant.count;
      literals = λ q. c.in_ok-add.ensures.literals q ∙ c.loop-name.invariant.literals q;
    }
