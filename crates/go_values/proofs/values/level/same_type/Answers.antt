use Rattle.std.proofs.Common.{◌∙◌, sym, ap, arith}
use Rattle.go_type.specs.Levels.{tree_of}
use Rattle.go_type.specs.Table.{places}
use Rattle.go_type.specs.Tree.{Ty}
use Rattle.go_core.specs.SameType.{same_type}
use Rattle.go_values.proofs.ValuesLevelLemmas.{outside}
use Rattle.go_values.proofs.SameTypes.{same_is}
use Rattle.go_values.proofs.values.level.same_type.Goals as goal

pub returns-then-a-len : goal.returns-then-a-len
returns-then-a-len c =
    let w = c.args.table.now in
    record { value = c.is_bool.ensures.value ∙ ap (λ (u : Ty). same_type u (tree_of (places w) c.args.b)) (sym (outside w c.args.a (omega (arith, c.if-a-len.true, c.len.ensures.value)))) }

pub returns-then-b-len : goal.returns-then-b-len
returns-then-b-len c =
    let w = c.args.table.now in
    record { value = c.is_bool-then-b-len.ensures.other ∙ ap (λ (u : Ty). same_type (tree_of (places w) c.args.a) u) (sym (outside w c.args.b (omega (arith, c.if-b-len.true, c.len-2.ensures.value)))) }

pub returns : goal.returns
returns c = record {
  value =
      let ts = places c.args.table.now in
      same_is (tree_of ts c.args.a) (tree_of ts c.args.b) c.identical.result c.identical.ensures.exact.0 c.identical.ensures.exact.1;
}
