use Rattle.std.proofs.Common.{◌≡◌, ◌∙◌, sym, ap, subst, refl}
use Rattle.go_typing.specs.Items.{type_item}
use Rattle.go_type.specs.Levels.{tree_of}
use Rattle.go_type.specs.Named.{IsUnnamed}
use Rattle.go_type.specs.Table.{places}
use Rattle.go_type.specs.declared.table.TypeTable.{TypeTable}
use Rattle.go_operands.specs.EnvView.{table_of, env_of}
use Rattle.go_sound.specs.Rows.{known_by}
use Rattle.go_items.specs.Stands.{Stands}
use Rattle.go_decls.proofs.TypeLemmas.{type_typed, type_decl_is, under_is}
use Rattle.go_decls.proofs.known.types.set_under.Goals as goal

pub set_type-requires-clause-unnamed : goal.set_type-requires-clause-unnamed
set_type-requires-clause-unnamed c =
    let same : tree_of (places (table_of c.settle.new.env)) c.args.under ≡ tree_of (places (table_of c.args.env.now)) c.args.under =
    ap (λ (t : TypeTable). tree_of (places t) c.args.under) c.settle.ensures.rest.0 ∙ c.add.ensures.kept c.args.under c.requires.under in
    subst IsUnnamed (sym same) c.requires.unnamed

pub returns : goal.returns
returns c = record {
  value = λ e rs b f.
      let old = c.args.env.now in
      let v = tree_of (places (table_of old)) c.args.of in
      let at = c.in_ok-id.id.0 in
      let item = type_item c.args.n.now c.args.number e in
      type_typed rs c.args.index c.args.n.now c.args.number e c.args.numbers.now (env_of old) (env_of c.settle.new.env) (env_of c.set_type.new.env) (tree_of (places (table_of c.settle.new.env)) c.args.under) v at b f
      (under_is (table_of old) (table_of c.add.new.self) (table_of c.settle.new.env) (known_by rs).names c.args.under c.args.of c.requires.tree c.requires.under c.add.ensures.kept c.settle.ensures.rest.0 b.stands.names)
      c.in_ok-id.ensures.value
      (c.settle.ensures.value item rs (subst (Stands (known_by rs)) (sym c.add.ensures.env) b.stands) refl b.row b.names
      (type_decl_is (known_by rs) c.args.n.now c.args.number e v (tree_of (places (table_of c.add.new.self)) c.in_ok-own.own) at f c.in_ok-own.ensures.tree c.in_ok-id.ensures.value))
      c.set_type.ensures.value;
}
