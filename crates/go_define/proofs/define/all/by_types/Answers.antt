use Rattle.std.proofs.Common.{arith, map}
use Rattle.go_type.specs.Levels.{trees_of}
use Rattle.go_operands.specs.AnswerView.{flaw_view}
use Rattle.go_calls.specs.Words.{types_of, names_of}
use Rattle.go_expr.specs.Raw.{raw_view, raws_view}
use Rattle.go_define.specs.FreshView.{freshes_view}
use Rattle.go_define.proofs.AllLemmas.{by_types_many, by_types_not, by_none}
use Rattle.go_define.proofs.define.all.by_types.Goals as goal

pub returns-in-Ok : goal.returns-in-Ok
returns-in-Ok c =
    let e = c.args.walk.now.env in
    record {
      does = by_types_not (names_of e) c.args.at (map flaw_view c.args.fs.items) (types_of e) c.args.freshes.items.items (raws_view (types_of e) c.args.raws) c.args.types.now c.args.walk.now c.define_not.new.walk c.args.flaws.now.items c.define_not.new.flaws.items c.args.out.now.items
          (λ same. let a = c.len.ensures in let b = c.if-len-types.true in omega (arith, a, b, same)) (c.in-Ok.ensures.does c.args.out.now.items);
    }

pub returns-in-Ok-define_types : goal.returns-in-Ok-define_types
returns-in-Ok-define_types c =
    let e = c.args.walk.now.env in
    record {
      does = by_types_many (names_of e) c.args.at (map flaw_view c.args.fs.items) (types_of e) c.args.freshes.items.items (raws_view (types_of e) c.args.raws) (raws_view (types_of e) c.next_raw.new.raws) (raw_view (types_of e) c.in-Some.raw) c.args.types.now c.args.walk.now c.define_types.new.walk c.args.flaws.now.items
          c.define_types.new.flaws.items c.args.out.now.items c.define_types.new.out.items (let a = c.len.ensures in let b = c.if-len-types.false in omega (arith, a, b)) c.in-Some.ensures.view c.in-Ok-define_types.ensures.does;
    }

pub returns-in-Ok-define_not : goal.returns-in-Ok-define_not
returns-in-Ok-define_not c =
    let e = c.args.walk.now.env in
    record {
      does = by_none (names_of e) c.args.at (map flaw_view c.args.fs.items) (freshes_view (types_of e) c.args.freshes) (raws_view (types_of e) c.args.raws) (types_of e) c.new.result.items (trees_of (types_of e) c.args.types.now) c.args.walk.now c.define_not-in-None.new.walk c.args.flaws.now.items
          c.define_not-in-None.new.flaws.items c.args.out.now.items c.in-None.ensures.view c.new.ensures.items (c.in-Ok-define_not.ensures.does c.args.out.now.items);
    }
