use Rattle.go_syntax.specs.View.{expr_view}
use Rattle.go_calls.specs.Words.{types_of}
use Rattle.go_expr.specs.Raw.{raw_view}
use Rattle.go_define.proofs.CaseLemmas as lemma
use Rattle.go_define.proofs.simple.cases.typed_case.Goals as goal

pub returns-in_ok-see-in-Ok-clause-cases : goal.returns-in_ok-see-in-Ok-clause-cases
returns-in_ok-see-in-Ok-clause-cases c = λ us ks h.
    lemma.typed_case us c.args.walk.now c.constant_at.new.walk c.raw_typed.new.walk c.args.ty c.args.tag.0 c.args.number (expr_view c.args.x.now) (raw_view (types_of c.raw_typed.new.walk.env) c.in-Ok.raw) c.in_ok-k.k
    c.args.flaws.now.items c.compare_raw.new.flaws.items c.see.new.flaws.items c.args.tests.now.items c.compare_raw.new.tests.items c.see.new.seen ks c.in_ok-k.ensures.passes c.in-Ok.ensures.passes c.requires.ty c.in-Ok.ensures.view
    (c.in_ok-k.ensures.value us) c.in_ok-compare_raw-in-Ok.ensures.told c.in_ok-compare_raw-in-Ok.ensures.tests (c.in_ok-see-in-Ok.ensures.told ks h) (c.in_ok-see-in-Ok.ensures.seen ks h)
