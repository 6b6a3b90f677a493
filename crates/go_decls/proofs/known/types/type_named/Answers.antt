use Rattle.std.proofs.Common.{◌∙◌, sym, ap}
use Rattle.go_typing.specs.Items.{type_item}
use Rattle.go_typing.specs.Known.{named_type, type_decl}
use Rattle.go_syntax.specs.View.{expr_view}
use Rattle.go_type.specs.Levels.{tree_of}
use Rattle.go_type.specs.Table.{places}
use Rattle.std.specs.Prelude.{option_map}
use Rattle.go_operands.specs.EnvView.{table_of, env_of}
use Rattle.go_sound.specs.Rows.{known_by}
use Rattle.go_decls.proofs.OutcomeLemmas.{lost}
use Rattle.go_decls.proofs.TypeLemmas.{before_on, found_is}
use Rattle.go_decls.proofs.known.types.type_named.Goals as goal

pub returns-in-Some : goal.returns-in-Some
returns-in-Some c = record {
  value = λ rs b.
      let e = expr_view c.args.ty.now in
      let ts = places (table_of c.type_found.new.env) in
      c.in_ok-is_typed-in-Some.ensures.value e rs (before_on rs c.args.index (type_item c.args.n.now c.args.number e) c.args.numbers.now (env_of c.args.env.now) (env_of c.type_found.new.env) c.in_ok-found.ensures.grows.env b)
      (found_is (known_by rs) c.args.env.now e _ b.stands (sym (ap (option_map (tree_of ts)) c.in-Some.is) ∙ c.in_ok-found.ensures.ty));
}

pub returns : goal.returns
returns c = record {
  value = λ rs b.
      let e = expr_view c.args.ty.now in
      let ts = places (table_of c.type_found.new.env) in
      lost rs c.args.index (type_item c.args.n.now c.args.number e) c.args.numbers.now (env_of c.args.env.now) (env_of c.type_found.new.env) b c.in_ok-found.ensures.grows.env
      (sym (ap (type_decl (named_type c.args.number)) (found_is (known_by rs) c.args.env.now e _ b.stands (sym (ap (option_map (tree_of ts)) c.in-None.is) ∙ c.in_ok-found.ensures.ty))));
}
