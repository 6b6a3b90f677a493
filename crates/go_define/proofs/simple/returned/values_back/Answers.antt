use Rattle.std.proofs.Common.{drop}
use Rattle.go_type.specs.Levels.{trees_of}
use Rattle.go_type.specs.declared.types.TypeId.{TypeId}
use Rattle.go_calls.specs.Words.{types_of, names_of}
use Rattle.go_expr.specs.Raw.{raw_view, raws_view}
use Rattle.go_define.proofs.BackLemmas.{back_told, back_values, back_told_none, back_values_none, back_values_end}
use Rattle.go_define.proofs.simple.returned.values_back.Goals as goal

pub returns-in-None-clause-told : goal.returns-in-None-clause-told
returns-in-None-clause-told c =
    let e = c.args.env.now in
    let ts = types_of e in
    back_told_none (names_of e) (trees_of ts (drop c.loop-t.t-index c.args.results.now)) (raws_view ts c.loop-t.raws) c.loop-t.flaws.items _ c.in-None.ensures.view c.loop-t.invariant.told

pub returns-in-None-clause-values : goal.returns-in-None-clause-values
returns-in-None-clause-values c =
    let e = c.args.env.now in
    let ts = types_of e in
    λ us k. back_values_none (names_of e) (trees_of ts (drop c.loop-t.t-index c.args.results.now)) us (raws_view ts c.loop-t.raws) c.loop-t.values.items _ c.in-None.ensures.view (c.loop-t.invariant.values us k)

pub loop-t-preserved : goal.loop-t-preserved
loop-t-preserved c =
    let e = c.args.env.now in
    let ts = types_of e in
    let is = c.args.results.now in
    let i = c.loop-t.t-index in
    let d : TypeId = record { 0 = 0 } in
    let olds = raws_view ts c.loop-t.raws in
    let news = raws_view ts c.next_raw.new.raws in
    let r = raw_view ts c.in-Some.raw in
    record {
      told = back_told (names_of e) ts is i d r news olds c.loop-t.flaws.items c.one_back.new.flaws.items _ c.loop-t-test.true c.in-Some.ensures.view c.in_ok-one_back-in-Some.ensures.told c.loop-t.invariant.told;
      values = λ us k. back_values (names_of e) ts us is i d r news olds c.loop-t.values.items c.one_back.new.values.items _ c.loop-t-test.true c.in-Some.ensures.view (c.in_ok-one_back-in-Some.ensures.values us k) (c.loop-t.invariant.values us k);
      within = c.next_raw.ensures.within;
    }

pub returns-clause-values : goal.returns-clause-values
returns-clause-values c =
    let e = c.args.env.now in
    let ts = types_of e in
    λ us k. back_values_end (names_of e) ts us c.args.results.now c.loop-t.t-index (raws_view ts c.loop-t.raws) c.loop-t.values.items _ c.loop-t-test.false (c.loop-t.invariant.values us k)
