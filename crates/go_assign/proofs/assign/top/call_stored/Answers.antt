use Rattle.std.proofs.Common.{arith}
use Rattle.go_operands.specs.EnvView.{table_of}
use Rattle.go_calls.specs.Words.{types_of, names_of}
use Rattle.go_expr.specs.Raw.{raw_view, raws_view}
use Rattle.go_assign.proofs.TopLemmas.{call_many, call_miscounted}
use Rattle.go_assign.proofs.assign.top.call_stored.Goals as goal

pub returns-in-Ok : goal.returns-in-Ok
returns-in-Ok c =
    let e = c.args.env.now in
    record {
      adds = call_miscounted (table_of e) (names_of e) c.args.at (types_of e) c.args.lefts.items.items (raws_view (types_of e) c.args.raws) c.args.types.now c.args.flaws.now.items c.miscounted.new.flaws.items c.args.out.now.items
          (λ same. let a = c.len.ensures in let b = c.if-len-types.true in omega (arith, a, b, same)) c.in-Ok.ensures.told;
    }

pub returns-in-Ok-assign_call : goal.returns-in-Ok-assign_call
returns-in-Ok-assign_call c =
    let e = c.args.env.now in
    record {
      adds = call_many (table_of e) (names_of e) c.args.at (types_of e) c.args.lefts.items.items (raws_view (types_of e) c.args.raws) (raws_view (types_of e) c.next_raw.new.raws) (raw_view (types_of e) c.in-Some.raw) c.args.types.now c.args.flaws.now.items c.assign_call.new.flaws.items c.args.out.now.items c.assign_call.new.out.items
          (let a = c.len.ensures in let b = c.if-len-types.false in omega (arith, a, b)) c.in-Some.ensures.view c.in-Ok-assign_call.ensures.adds;
    }
