use Rattle.std.proofs.Common.{map}
use Rattle.std.specs.Prelude.{option_map}
use Rattle.go_syntax.specs.View.{expr_view, exprs_of}
use Rattle.go_type.specs.Levels.{tree_of}
use Rattle.go_operands.specs.EnvView.{table_of}
use Rattle.go_calls.specs.Words.{types_of}
use Rattle.go_walk.specs.WalkView.{walk_of}
use Rattle.go_assign.specs.Passed.{stays}
use Rattle.go_define.proofs.PassedLemmas.{passes_on}
use Rattle.go_define.proofs.CaseLemmas.{case_before, cases_step, cases_end}
use Rattle.go_define.proofs.simple.cases.case_tests.Goals as goal

pub loop-x-preserved : goal.loop-x-preserved
loop-x-preserved c = record {
  passes = passes_on stays stays c.args.walk.now c.loop-x.walk c.one_case.new.walk c.loop-x.invariant.passes c.in_ok-one_case.ensures.passes;
  cases = λ us ks h.
      cases_step (walk_of us c.args.walk.now) c.args.tag.0 (option_map (tree_of (types_of c.args.walk.now.env)) c.args.ty) c.args.number (exprs_of (map expr_view c.args.xs.now)) c.args.xs.now c.loop-x.x-index c.x-item.result ks
      (table_of c.loop-x.walk.env) (table_of c.one_case.new.walk.env) c.args.flaws.now.items c.loop-x.flaws.items c.one_case.new.flaws.items c.args.tests.now.items c.loop-x.tests.items c.one_case.new.tests.items c.loop-x.seen c.one_case.new.seen
      c.in_ok-one_case.ensures.passes.kept c.in_ok-one_case.ensures.passes.counts c.loop-x-test.true c.x-item.is (c.loop-x.invariant.cases us ks h)
      (λ js k.
      case_before us c.args.walk.now c.loop-x.walk c.one_case.new.walk c.args.ty c.args.tag.0 c.args.number (expr_view c.x-item.result) c.loop-x.flaws.items c.one_case.new.flaws.items c.loop-x.tests.items c.one_case.new.tests.items c.one_case.new.seen js
      c.loop-x.invariant.passes c.requires.ty (c.in_ok-one_case.ensures.cases us js k));
}

pub returns-clause-cases : goal.returns-clause-cases
returns-clause-cases c = λ us ks h.
    cases_end (walk_of us c.args.walk.now) c.args.tag.0 (option_map (tree_of (types_of c.args.walk.now.env)) c.args.ty) c.args.number (exprs_of (map expr_view c.args.xs.now)) c.args.xs.now c.loop-x.x-index ks (table_of c.loop-x.walk.env)
    c.args.flaws.now.items c.loop-x.flaws.items c.args.tests.now.items c.loop-x.tests.items c.loop-x.seen c.loop-x-test.false (c.loop-x.invariant.cases us ks h)
