use Rattle.std.proofs.Common.{arith}
use Rattle.go_operands.specs.EnvView.{table_of}
use Rattle.go_calls.specs.Words.{types_of}
use Rattle.go_expr.specs.Raw.{raws_view}
use Rattle.go_define.proofs.BackLemmas.{several_same, several_other}
use Rattle.go_define.proofs.simple.returned.several_back.Goals as goal

pub returns-then-types-results : goal.returns-then-types-results
returns-then-types-results c =
    let e = c.args.env.now in
    let ts = types_of e in
    record {
      adds = several_other (table_of e) c.args.at ts c.args.results.now c.args.types.now (raws_view ts c.args.raws) c.args.flaws.now.items c.miscounted.new.flaws.items c.args.out.now.items
          (λ same. let b = c.if-types-results.true in omega (arith, b, same)) (c.in_ok-miscounted.ensures.adds c.args.out.now.items);
    }

pub returns : goal.returns
returns c =
    let e = c.args.env.now in
    let ts = types_of e in
    record {
      adds = several_same (table_of e) c.args.at ts c.args.results.now c.args.types.now (raws_view ts c.args.raws) c.args.flaws.now.items c.first_back.new.flaws.items c.args.out.now.items c.first_back.new.out.items
          (let b = c.if-types-results.false in omega (arith, b)) c.in_ok-first_back.ensures.adds;
    }
