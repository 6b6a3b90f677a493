use Rattle.go_define.proofs.CaseLemmas.{one_test}
use Rattle.go_define.proofs.simple.cases.and_test.Goals as goal

pub returns-in-Ok : goal.returns-in-Ok
returns-in-Ok c = record {
  tests = λ ts rest. one_test ts rest c.args.tests.now.items c.push.new.self.items c.test.result c.args.whole c.args.number c.in-Ok.ensures.items (c.test.ensures.condition ts) c.test.ensures.clause;
}
