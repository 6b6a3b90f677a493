use Rattle.std.proofs.Common.{◌∙◌, refl, ap, Bool, true, false}
use Rattle.go_type.specs.Levels.{trees_of}
use Rattle.go_type.specs.Table.{places}
use Rattle.go_type.specs.declared.table.TypeTable.{TypeTable}
use Rattle.go_core.specs.SameType.{same_types}
use Rattle.go_operands.specs.EnvView.{table_of}
use Rattle.go_calls.specs.Words.{types_of}
use Rattle.go_expr.specs.Raw.{raw_view}
use Rattle.go_define.proofs.BackLemmas.{types_same, types_other}
use Rattle.go_define.proofs.simple.returned.call_back.Goals as goal

pub returns-then-not-same_types : goal.returns-then-not-same_types
returns-then-not-same_types c =
    let e = c.args.env.now in
    let ts = types_of e in
    let test : TypeTable → Bool = λ t. same_types (trees_of (places t) c.args.results.now) (trees_of (places t) c.args.types.now) in
    record {
      adds = types_other (table_of e) (trees_of ts c.args.results.now) (trees_of ts c.args.types.now) (raw_view ts c.args.raw) false c.args.flaws.now.items c.other_types.new.flaws.items c.args.out.now.items c.args.out.now.items (c.if-not-same_types.ensures ∙ ap test c.table.ensures.value) refl (c.in_ok-other_types.ensures.adds c.args.out.now.items);
    }

pub returns : goal.returns
returns c =
    let e = c.args.env.now in
    let ts = types_of e in
    let test : TypeTable → Bool = λ t. same_types (trees_of (places t) c.args.results.now) (trees_of (places t) c.args.types.now) in
    record {
      adds = types_same (table_of e) (trees_of ts c.args.results.now) (trees_of ts c.args.types.now) (raw_view ts c.args.raw) true c.args.flaws.now.items c.args.flaws.now.items c.args.out.now.items c.whole_back.new.out.items (c.if-not-same_types.ensures ∙ ap test c.table.ensures.value) refl (c.in_ok-whole_back.ensures.adds c.args.flaws.now.items);
    }
