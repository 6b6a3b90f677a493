use Rattle.std.proofs.Common.{arith, ◌∙◌, sym, ap, subst, List, length, map}
use Rattle.go_items.specs.ParamView.{grouped_view}
use Rattle.go_items.specs.declared.items.param.Grouped.{Grouped}
use Rattle.go_typing.specs.Signature.{type_of_param, all_bound}
use Rattle.go_decls.specs.Bound.{type_view, TypesBelow}
use Rattle.go_operands.specs.EnvView.{table_of}
use Rattle.go_typing.specs.Walk.{Walk}
use Rattle.go_type.specs.Table.{size}
use Rattle.go_type.specs.declared.table.TypeTable.{TypeTable}
use Rattle.go_walk.specs.WalkView.{walk_of, Keeps}
use Rattle.go_decls.proofs.heads.begin.begin.Goals as goal

pub bind_all-requires-clause-depth : goal.bind_all-requires-clause-depth
bind_all-requires-clause-depth c = let d = c.in_ok-begin.ensures.depth in omega (arith, d)

pub bind_all-requires-clause-count : goal.bind_all-requires-clause-count
bind_all-requires-clause-count c = ap length c.as_slice.ensures.value ∙ c.requires.count ∙ sym (ap length c.as_slice-2.ensures.value)

pub bind_all-requires-clause-below : goal.bind_all-requires-clause-below
bind_all-requires-clause-below c =
    subst (λ (t : TypeTable). TypesBelow (size t) c.as_slice-2.result.now) (sym c.in_ok-begin.ensures.table)
    (subst (TypesBelow (size (table_of c.args.walk.now.env))) (sym c.as_slice-2.ensures.value) c.requires.below)

pub returns : goal.returns
returns c = record {
  value = λ ts w k each.
      c.in_ok-bind_all.ensures.value ts w (subst (λ (t : TypeTable). Keeps t ts) (sym c.in_ok-begin.ensures.table) k)
      (ap (map (type_view ts)) c.as_slice-2.ensures.value ∙ each ∙ sym (ap (λ (gs : List Grouped). map (type_of_param w) (map grouped_view gs)) c.as_slice.ensures.value))
      ∙ ap (λ (gs : List Grouped). all_bound w (map grouped_view gs) (walk_of ts c.begin.new.self)) c.as_slice.ensures.value
      ∙ ap (λ (v : Walk). all_bound w (map grouped_view c.args.head.now.params.items) v) (c.in_ok-begin.ensures.value ts);
  depth = c.in_ok-bind_all.ensures.depth ∙ c.in_ok-begin.ensures.depth;
  table = c.in_ok-bind_all.ensures.table ∙ c.in_ok-begin.ensures.table;
}
