use Rattle.std.proofs.Common.{sym}
use Rattle.go_syntax.specs.View.{expr_view}
use Rattle.go_body.proofs.TypeLemmas.{spec_again, spec_first}
use Rattle.go_body.proofs.local.types.one_spec.Goals as goal

pub first_spec-requires-clause-missing : goal.first_spec-requires-clause-missing
first_spec-requires-clause-missing c = λ ts. sym (c.in-None.ensures.value ts)

pub returns-in_ok-again-in-Some : goal.returns-in_ok-again-in-Some
returns-in_ok-again-in-Some c =
    record {
      does = λ out. spec_again c.args.n.now c.args.alias (expr_view c.args.e.now) c.in-Some.at c.args.walk.now c.again.new.walk c.args.flaws.now.items c.again.new.flaws.items out c.in-Some.ensures.value (c.in_ok-again-in-Some.ensures.does out);
    }

pub returns-in_ok-first_spec-in-None : goal.returns-in_ok-first_spec-in-None
returns-in_ok-first_spec-in-None c =
    record {
      does = λ out. spec_first c.args.n.now c.args.alias (expr_view c.args.e.now) c.args.walk.now c.first_spec.new.walk c.args.flaws.now.items c.first_spec.new.flaws.items out c.in-None.ensures.value (c.in_ok-first_spec-in-None.ensures.does out);
    }
