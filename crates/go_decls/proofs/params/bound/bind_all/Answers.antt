use Rattle.std.proofs.Common.{arith, ◌≡◌, ◌<◌, ◌∙◌, sym, subst, length, get_or, refl}
use Rattle.std.specs.Prelude.{None, option_map}
use Rattle.go_items.specs.ParamView.{named_view}
use Rattle.go_items.specs.declared.items.param.Grouped.{Grouped}
use Rattle.go_typing.specs.Signature.{bound}
use Rattle.go_type.specs.Table.{size}
use Rattle.go_type.specs.declared.table.TypeTable.{TypeTable}
use Rattle.go_operands.specs.EnvView.{table_of}
use Rattle.go_walk.specs.WalkView.{walk_of, Keeps}
use Rattle.go_decls.specs.Bound.{type_view, TypeBelow}
use Rattle.go_decls.proofs.BoundLemmas.{type_below, bound_step, bound_end}
use Rattle.go_decls.proofs.params.bound.bind_all.Goals as goal

pub bind-requires-clause-below : goal.bind-requires-clause-below
bind-requires-clause-below c =
    let inside : c.loop-i.i < length c.args.types.now = omega arith in
    let first = type_below (size (table_of c.args.walk.now.env)) c.args.types.now c.loop-i.i None inside c.requires.below in
    subst (λ (t : TypeTable). TypeBelow (size t) (get_or c.args.types.now c.loop-i.i None)) (sym c.loop-i.invariant.table) first

pub loop-i-init : goal.loop-i-init
loop-i-init c = record { value = λ ts w keeps types. refl; depth = refl; table = refl }

pub loop-i-preserved : goal.loop-i-preserved
loop-i-preserved c = record {
  value = λ ts w keeps types.
      bound_step ts w c.args.types.now c.args.params.now c.loop-i.i None c.index-params-i.result (walk_of ts c.args.walk.now) (walk_of ts c.loop-i.walk) (walk_of ts c.bind.new.walk) c.loop-i-test.true c.requires.count c.index-params-i.is
      types
      (subst (λ (p : Grouped). walk_of ts c.bind.new.walk ≡ bound (option_map named_view p.name) (type_view ts (get_or c.args.types.now c.loop-i.i None)) (walk_of ts c.loop-i.walk)) (sym c.index-params-i.is)
      (c.in_ok-bind.ensures.value ts (subst (λ (t : TypeTable). Keeps t ts) (sym c.loop-i.invariant.table) keeps)))
      (c.loop-i.invariant.value ts w keeps types);
  depth = c.in_ok-bind.ensures.depth ∙ c.loop-i.invariant.depth;
  table = c.in_ok-bind.ensures.table ∙ c.loop-i.invariant.table;
}

pub returns-clause-value : goal.returns-clause-value
returns-clause-value c = λ ts w keeps types. bound_end w c.args.params.now c.loop-i.i (walk_of ts c.args.walk.now) (walk_of ts c.loop-i.walk) c.loop-i-test.false (c.loop-i.invariant.value ts w keeps types)
