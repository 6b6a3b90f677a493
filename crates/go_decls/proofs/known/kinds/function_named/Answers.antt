use Rattle.std.proofs.Common.{◌∙◌, ap, refl}
use Rattle.go_typing.specs.Items.{function_item}
use Rattle.go_typing.specs.Known.{function_decl}
use Rattle.go_typing.specs.Signature.{sig_types}
use Rattle.go_typing.specs.Walk.{Walk}
use Rattle.go_syntax.specs.View.{sig_view}
use Rattle.go_type.specs.Table.{places, size}
use Rattle.go_operands.specs.EnvView.{table_of, env_of}
use Rattle.go_sound.specs.Rows.{known_by}
use Rattle.go_decls.proofs.OutcomeLemmas.{is_outside}
use Rattle.go_decls.proofs.TypeLemmas.{before_on}
use Rattle.go_decls.proofs.known.kinds.function_named.Goals as goal

pub settle_name-requires : goal.settle_name-requires
settle_name-requires c = c.function_of.ensures.within (size (table_of c.sig_types.new.env)) c.in_ok-types.ensures.within

pub returns : goal.returns
returns c = record {
  value = λ rs b.
      let s = sig_view c.args.sig.now in
      let item = function_item c.args.n.now c.args.id.0 s in
      c.settle_name.ensures.value item rs (before_on rs c.args.index item c.args.numbers.now (env_of c.args.env.now) (env_of c.sig_types.new.env) c.in_ok-types.ensures.grows.env b) refl (λ ns o p. refl)
      (c.function_of.ensures.value (places (table_of c.sig_types.new.env)) ∙ ap (function_decl c.args.id.0) (c.in_ok-types.ensures.types ∙ ap (λ (w : Walk). sig_types w s) (is_outside (known_by rs) c.args.env.now b.stands)));
}
