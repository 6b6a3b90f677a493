use Rattle.std.proofs.Common.{arith}
use Rattle.go_operands.specs.EnvView.{table_of}
use Rattle.go_calls.specs.Words.{types_of, names_of}
use Rattle.go_define.proofs.BackLemmas.{each_same, each_other}
use Rattle.go_define.proofs.simple.returned.each_back.Goals as goal

pub returns-then-len-results : goal.returns-then-len-results
returns-then-len-results c =
    let e = c.args.env.now in
    record {
      adds = each_other (table_of e) (names_of e) c.args.at (types_of e) c.args.results.now c.args.raws.items.items c.args.flaws.now.items c.miscounted.new.flaws.items c.args.out.now.items
          (λ same. let a = c.len.ensures in let b = c.if-len-results.true in omega (arith, a, b, same)) (c.in_ok-miscounted.ensures.adds c.args.out.now.items);
    }

pub returns : goal.returns
returns c =
    let e = c.args.env.now in
    record {
      adds = each_same (table_of e) (names_of e) c.args.at (types_of e) c.args.results.now c.args.raws.items.items c.args.flaws.now.items c.all_back.new.flaws.items c.args.out.now.items c.all_back.new.out.items
          (let a = c.len.ensures in let b = c.if-len-results.false in omega (arith, a, b)) c.in_ok-all_back.ensures.adds;
    }
