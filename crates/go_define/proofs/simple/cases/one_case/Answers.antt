use Rattle.std.proofs.Common.{sym, subst}
use Rattle.std.specs.Prelude.{Option, option_map}
use Rattle.go_syntax.specs.Tree as t
use Rattle.go_syntax.specs.View.{expr_view}
use Rattle.go_type.specs.Levels.{tree_of}
use Rattle.go_type.specs.declared.types.TypeId.{TypeId}
use Rattle.go_operands.specs.EnvView.{table_of}
use Rattle.go_calls.specs.Words.{types_of}
use Rattle.go_typing.specs.Statements.{case_tests}
use Rattle.go_walk.specs.WalkView.{walk_of}
use Rattle.go_define.specs.CaseView.{Cases}
use Rattle.go_define.proofs.simple.cases.one_case.Goals as goal

pub returns-in_ok-typed_case-in-Some-clause-cases : goal.returns-in_ok-typed_case-in-Some-clause-cases
returns-in_ok-typed_case-in-Some-clause-cases c = λ us ks h.
    subst (λ (o : Option TypeId). Cases (case_tests (walk_of us c.args.walk.now) c.args.tag.0 (option_map (tree_of (types_of c.args.walk.now.env)) o) c.args.number (t.MoreExprs (expr_view c.args.x.now) t.NoExprs) ks) (table_of c.typed_case.new.walk.env) c.args.flaws.now.items c.typed_case.new.flaws.items c.args.tests.now.items c.typed_case.new.tests.items c.typed_case.new.seen)
    (sym c.in-Some.is) (c.in_ok-typed_case-in-Some.ensures.cases us ks h)

pub returns-in_ok-lost_case-in-None-clause-cases : goal.returns-in_ok-lost_case-in-None-clause-cases
returns-in_ok-lost_case-in-None-clause-cases c = λ us ks h.
    subst (λ (o : Option TypeId). Cases (case_tests (walk_of us c.args.walk.now) c.args.tag.0 (option_map (tree_of (types_of c.args.walk.now.env)) o) c.args.number (t.MoreExprs (expr_view c.args.x.now) t.NoExprs) ks) (table_of c.lost_case.new.walk.env) c.args.flaws.now.items c.lost_case.new.flaws.items c.args.tests.now.items c.lost_case.new.tests.items c.args.seen.now)
    (sym c.in-None.is) (c.in_ok-lost_case-in-None.ensures.cases us ks h)
