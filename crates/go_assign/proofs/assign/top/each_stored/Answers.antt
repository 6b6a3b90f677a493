use Rattle.std.proofs.Common.{arith}
use Rattle.go_operands.specs.EnvView.{table_of}
use Rattle.go_calls.specs.Words.{types_of, names_of}
use Rattle.go_assign.proofs.TopLemmas.{each_many, each_miscounted}
use Rattle.go_assign.proofs.assign.top.each_stored.Goals as goal

pub returns-in-Ok : goal.returns-in-Ok
returns-in-Ok c =
    let e = c.args.env.now in
    record {
      adds = each_many (table_of e) (names_of e) c.args.at (types_of e) c.args.lefts.items.items c.args.raws.items.items c.args.flaws.now.items c.assign_each.new.flaws.items c.args.out.now.items c.assign_each.new.out.items
          (let x = c.len.ensures in let y = c.len-2.ensures in let z = c.if-len.true in omega (arith, x, y, z)) c.in-Ok.ensures.adds;
    }

pub returns-in-Ok-miscounted : goal.returns-in-Ok-miscounted
returns-in-Ok-miscounted c =
    let e = c.args.env.now in
    record {
      adds = each_miscounted (table_of e) (names_of e) c.args.at (types_of e) c.args.lefts.items.items c.args.raws.items.items c.args.flaws.now.items c.miscounted.new.flaws.items c.args.out.now.items
          (λ same. let x = c.len.ensures in let y = c.len-2.ensures in let z = c.if-len.false in omega (arith, x, y, z, same)) c.in-Ok-miscounted.ensures.told;
    }
