use Rattle.std.proofs.Common.{arith, map}
use Rattle.go_operands.specs.AnswerView.{flaw_view}
use Rattle.go_calls.specs.Words.{types_of, names_of}
use Rattle.go_define.proofs.AllLemmas.{by_values_many, by_values_not}
use Rattle.go_define.proofs.define.all.by_values.Goals as goal

pub returns-in-Ok : goal.returns-in-Ok
returns-in-Ok c =
    let e = c.args.walk.now.env in
    record {
      does = by_values_many (names_of e) c.args.at (map flaw_view c.args.fs.items) (types_of e) c.args.freshes.items.items c.args.raws.items.items c.args.walk.now c.define_values.new.walk c.args.flaws.now.items c.define_values.new.flaws.items c.args.out.now.items c.define_values.new.out.items
          (let x = c.len.ensures in let y = c.len-2.ensures in let z = c.if-len.true in omega (arith, x, y, z)) c.in-Ok.ensures.does;
    }

pub returns-in-Ok-define_not : goal.returns-in-Ok-define_not
returns-in-Ok-define_not c =
    let e = c.args.walk.now.env in
    record {
      does = by_values_not (names_of e) c.args.at (map flaw_view c.args.fs.items) (types_of e) c.args.freshes.items.items c.args.raws.items.items c.args.walk.now c.define_not.new.walk c.args.flaws.now.items c.define_not.new.flaws.items c.args.out.now.items
          (λ same. let x = c.len.ensures in let y = c.len-2.ensures in let z = c.if-len.false in omega (arith, x, y, z, same)) (c.in-Ok-define_not.ensures.does c.args.out.now.items);
    }
