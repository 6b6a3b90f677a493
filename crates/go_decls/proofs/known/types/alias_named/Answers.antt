use Rattle.std.proofs.Common.{◌∙◌, ap, refl}
use Rattle.go_typing.specs.Items.{alias_item}
use Rattle.go_typing.specs.Known.{alias_decl}
use Rattle.go_syntax.specs.View.{expr_view}
use Rattle.go_type.specs.Table.{places, size}
use Rattle.go_operands.specs.EnvView.{table_of, env_of}
use Rattle.go_sound.specs.Rows.{known_by}
use Rattle.go_decls.proofs.TypeLemmas.{before_on, found_is}
use Rattle.go_decls.proofs.known.types.alias_named.Goals as goal

pub settle_name-requires : goal.settle_name-requires
settle_name-requires c = c.alias_of.ensures.within (size (table_of c.type_found.new.env)) c.in_ok-found.ensures.within

pub returns : goal.returns
returns c = record {
  value = λ rs b.
      let e = expr_view c.args.ty.now in
      let item = alias_item c.args.n.now e in
      c.settle_name.ensures.value item rs (before_on rs c.args.index item c.args.numbers.now (env_of c.args.env.now) (env_of c.type_found.new.env) c.in_ok-found.ensures.grows.env b) refl (λ ns o p. refl)
      (c.alias_of.ensures.value (places (table_of c.type_found.new.env)) ∙ ap alias_decl (found_is (known_by rs) c.args.env.now e _ b.stands c.in_ok-found.ensures.ty));
}
