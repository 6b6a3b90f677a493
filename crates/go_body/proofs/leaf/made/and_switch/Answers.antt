use Rattle.std.proofs.Common.{◌∙◌, map}
use Rattle.go_core.specs.CoreTree as core
use Rattle.go_core.specs.CoreView.{tests_of, clauses_of}
use Rattle.go_walk.specs.ClauseView.{clause_view}
use Rattle.go_body.proofs.LeafLemmas.{one_more}
use Rattle.go_body.proofs.leaf.made.and_switch.Goals as goal

pub returns-in-Ok : goal.returns-in-Ok
returns-in-Ok c = record {
  core = λ ts.
      one_more ts c.args.out.now.items c.and_stmt.new.items.items c.in-Ok.whole
      (core.switch_on c.args.label.0 (tests_of ts c.args.made.tests.items) (clauses_of (map (clause_view ts) c.args.made.clauses.items)) c.args.made.default) c.in_ok-and_stmt-in-Ok.ensures.items
      (c.in-Ok.ensures.value ts ∙ (λ j. core.switch_on c.args.label.0 (tests_of ts c.args.made.tests.items) (c.clauses.ensures.value ts j) c.args.made.default));
}
