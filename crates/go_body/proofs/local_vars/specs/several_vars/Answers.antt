use Rattle.std.proofs.Common.{arith}
use Rattle.go_calls.specs.Words.{types_of}
use Rattle.go_expr.specs.Raw.{raws_view}
use Rattle.go_assign.specs.SpecView.{spec_view}
use Rattle.go_body.proofs.VarLemmas.{several_same, several_other}
use Rattle.go_body.proofs.local_vars.specs.several_vars.Goals as goal

pub returns-then-types-names : goal.returns-then-types-names
returns-then-types-names c =
    let a = c.args.walk.now in
    let ts = types_of a.env in
    record {
      does = several_other c.args.at (spec_view ts c.args.s) c.args.names.now (raws_view ts c.args.raws) ts c.args.types.now a c.miscounted.new.walk c.args.flaws.now.items c.miscounted.new.flaws.items c.args.out.now.items c.miscounted.new.out.items
          (λ same. let b = c.if-types-names.true in omega (arith, b, same)) c.in_ok-miscounted.ensures.does;
    }

pub returns : goal.returns
returns c =
    let a = c.args.walk.now in
    let ts = types_of a.env in
    record {
      does = several_same c.args.at (spec_view ts c.args.s) c.args.names.now (raws_view ts c.args.raws) ts c.args.types.now a c.first_vars.new.walk c.args.flaws.now.items c.first_vars.new.flaws.items c.args.out.now.items c.first_vars.new.out.items
          (let b = c.if-types-names.false in omega (arith, b)) c.in_ok-first_vars.ensures.does;
    }
