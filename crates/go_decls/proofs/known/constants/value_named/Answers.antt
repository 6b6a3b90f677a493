use Rattle.std.proofs.Common.{◌∙◌, sym, ap, subst, refl}
use Rattle.std.specs.Prelude.{Some}
use Rattle.go_typing.specs.Items.{constant_item}
use Rattle.go_typing.specs.Known.{constant_found}
use Rattle.go_items.specs.ItemView.{type_in, values_in}
use Rattle.go_typing.specs.Walk.{Walk}
use Rattle.go_syntax.specs.View.{expr_view}
use Rattle.go_type.specs.Table.{places, size}
use Rattle.go_type.specs.declared.table.TypeTable.{TypeTable}
use Rattle.go_operands.specs.EnvView.{env_of}
use Rattle.go_operands.specs.View.{decl_of}
use Rattle.go_operands.specs.Within.{DeclaredBelow}
use Rattle.go_sound.specs.Rows.{known_by}
use Rattle.go_decls.proofs.KnownConstantLemmas.{counted, uncounted}
use Rattle.go_decls.proofs.TypeLemmas.{before_on}
use Rattle.go_decls.proofs.known.constants.value_named.Goals as goal

pub settle_name-requires : goal.settle_name-requires
settle_name-requires c = subst (λ (t : TypeTable). DeclaredBelow (size t) c.in_ok-found.found.what) (sym c.count-2.ensures.rest.0) c.in_ok-found.ensures.within

pub returns : goal.returns
returns c = record {
  value = λ rs b.
      let y = expr_view c.args.y.now in
      let u = type_in c.args.spec in
      let item = constant_item c.args.n.now c.args.number u (Some y) (values_in c.args.spec) in
      let back = uncounted (env_of c.args.env.now) (env_of c.count.new.self) (env_of c.constant_in.new.env) (env_of c.count-2.new.self) c.args.number b.stands.iota c.count.ensures.value c.in_ok-found.ensures.grows.env c.count-2.ensures.value in
      c.settle_name.ensures.value item rs (before_on rs c.args.index item c.args.numbers.now (env_of c.args.env.now) (env_of c.count-2.new.self) back b) refl (λ ns o p. refl)
      (ap (λ (t : TypeTable). decl_of (places t) c.in_ok-found.found.what) c.count-2.ensures.rest.0 ∙ c.in_ok-found.ensures.what
      ∙ ap (λ (w : Walk). constant_found w u (Some y)) (counted (known_by rs) c.args.env.now c.count.new.self c.args.number b.stands c.count.ensures.value));
}
