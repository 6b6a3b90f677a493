use Rattle.std.proofs.Common.{ap, sym, false}
use Rattle.go_operands.specs.EnvView.{table_of}
use Rattle.go_calls.specs.Words.{types_of}
use Rattle.go_operands.specs.AnswerView.{answer_view}
use Rattle.go_operands.specs.declared.answers.answer.Answer as code
use Rattle.go_define.specs.SimpleTold.{Told, performed, fault}
use Rattle.go_define.proofs.ToldLemmas.{adds_same}
use Rattle.go_define.proofs.simple.expression.unperformed.Goals as goal

pub returns-in_ok-refused-in-Value : goal.returns-in_ok-refused-in-Value
returns-in_ok-refused-in-Value c =
    let e = c.args.env.now in
    let view : code.Answer → Told = λ a. performed false c.args.at (answer_view (types_of e) a) in
    record {
      adds = adds_same (table_of e) (fault c.args.at 93) (view c.args.answer) c.args.flaws.now.items c.refused.new.flaws.items c.args.out.now.items c.args.out.now.items (ap view (sym c.in-Value.is)) (c.in_ok-refused-in-Value.ensures.adds c.args.out.now.items);
    }

pub returns-in_ok-refused-in-Constant : goal.returns-in_ok-refused-in-Constant
returns-in_ok-refused-in-Constant c =
    let e = c.args.env.now in
    let view : code.Answer → Told = λ a. performed false c.args.at (answer_view (types_of e) a) in
    record {
      adds = adds_same (table_of e) (fault c.args.at 93) (view c.args.answer) c.args.flaws.now.items c.refused-in-Constant.new.flaws.items c.args.out.now.items c.args.out.now.items (ap view (sym c.in-Constant.is)) (c.in_ok-refused-in-Constant.ensures.adds c.args.out.now.items);
    }

pub returns-in_ok-refused-in-Truth : goal.returns-in_ok-refused-in-Truth
returns-in_ok-refused-in-Truth c =
    let e = c.args.env.now in
    let view : code.Answer → Told = λ a. performed false c.args.at (answer_view (types_of e) a) in
    record {
      adds = adds_same (table_of e) (fault c.args.at 93) (view c.args.answer) c.args.flaws.now.items c.refused-in-Truth.new.flaws.items c.args.out.now.items c.args.out.now.items (ap view (sym c.in-Truth.is)) (c.in_ok-refused-in-Truth.ensures.adds c.args.out.now.items);
    }

pub returns-in_ok-refused-in-Nil : goal.returns-in_ok-refused-in-Nil
returns-in_ok-refused-in-Nil c =
    let e = c.args.env.now in
    let view : code.Answer → Told = λ a. performed false c.args.at (answer_view (types_of e) a) in
    record {
      adds = adds_same (table_of e) (fault c.args.at 93) (view c.args.answer) c.args.flaws.now.items c.refused-in-Nil.new.flaws.items c.args.out.now.items c.args.out.now.items (ap view (sym c.in-Nil.is)) (c.in_ok-refused-in-Nil.ensures.adds c.args.out.now.items);
    }

pub returns-in_ok-refused-in-Pending : goal.returns-in_ok-refused-in-Pending
returns-in_ok-refused-in-Pending c =
    let e = c.args.env.now in
    let view : code.Answer → Told = λ a. performed false c.args.at (answer_view (types_of e) a) in
    record {
      adds = adds_same (table_of e) (fault c.args.at 93) (view c.args.answer) c.args.flaws.now.items c.refused-in-Pending.new.flaws.items c.args.out.now.items c.args.out.now.items (ap view (sym c.in-Pending.is)) (c.in_ok-refused-in-Pending.ensures.adds c.args.out.now.items);
    }

pub returns-in_ok-refused-in-Type : goal.returns-in_ok-refused-in-Type
returns-in_ok-refused-in-Type c =
    let e = c.args.env.now in
    let view : code.Answer → Told = λ a. performed false c.args.at (answer_view (types_of e) a) in
    record {
      adds = adds_same (table_of e) (fault c.args.at 93) (view c.args.answer) c.args.flaws.now.items c.refused-in-Type.new.flaws.items c.args.out.now.items c.args.out.now.items (ap view (sym c.in-Type.is)) (c.in_ok-refused-in-Type.ensures.adds c.args.out.now.items);
    }

pub returns-in_ok-refused-in-Package : goal.returns-in_ok-refused-in-Package
returns-in_ok-refused-in-Package c =
    let e = c.args.env.now in
    let view : code.Answer → Told = λ a. performed false c.args.at (answer_view (types_of e) a) in
    record {
      adds = adds_same (table_of e) (fault c.args.at 93) (view c.args.answer) c.args.flaws.now.items c.refused-in-Package.new.flaws.items c.args.out.now.items c.args.out.now.items (ap view (sym c.in-Package.is)) (c.in_ok-refused-in-Package.ensures.adds c.args.out.now.items);
    }

pub returns-in_ok-refused-in-BuiltIn : goal.returns-in_ok-refused-in-BuiltIn
returns-in_ok-refused-in-BuiltIn c =
    let e = c.args.env.now in
    let view : code.Answer → Told = λ a. performed false c.args.at (answer_view (types_of e) a) in
    record {
      adds = adds_same (table_of e) (fault c.args.at 93) (view c.args.answer) c.args.flaws.now.items c.refused-in-BuiltIn.new.flaws.items c.args.out.now.items c.args.out.now.items (ap view (sym c.in-BuiltIn.is)) (c.in_ok-refused-in-BuiltIn.ensures.adds c.args.out.now.items);
    }

pub returns-in_ok-refused-in-Blank : goal.returns-in_ok-refused-in-Blank
returns-in_ok-refused-in-Blank c =
    let e = c.args.env.now in
    let view : code.Answer → Told = λ a. performed false c.args.at (answer_view (types_of e) a) in
    record {
      adds = adds_same (table_of e) (fault c.args.at 93) (view c.args.answer) c.args.flaws.now.items c.refused-in-Blank.new.flaws.items c.args.out.now.items c.args.out.now.items (ap view (sym c.in-Blank.is)) (c.in_ok-refused-in-Blank.ensures.adds c.args.out.now.items);
    }
