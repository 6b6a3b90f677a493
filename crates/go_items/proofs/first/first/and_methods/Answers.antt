use Rattle.std.proofs.Common.{◌<◌, ◌∙◌, ap, ℕ, subst, sym}
use Rattle.go_type.specs.Table.{places, size}
use Rattle.go_typing.specs.Scopes as scopes
use Rattle.go_operands.specs.EnvView.{table_of, env_of}
use Rattle.go_items.specs.Steps.{named_text}
use Rattle.go_items.proofs.FirstLemmas.{text_is, text_below, text_in, none_in, methods_are, names_env, on_both}
use Rattle.go_items.proofs.first.first.and_methods.Goals as goal

pub and_method-requires : goal.and_method-requires
and_method-requires c =
    let t = table_of c.args.env.now in
    record { id = c.requires.id; within = c.requires.within; results = text_in (size t) c.in_ok-results.results c.in_ok-results.ensures.value (text_below t c.requires.predeclared) }

pub and_method-requires-2 : goal.and_method-requires-2
and_method-requires-2 c =
    let t = table_of c.and_method.new.env in
    record { id = c.requires.id; within = subst (λ (n : ℕ). c.args.id.0 < n) (sym c.in_ok-and_method.ensures.counts.1) c.requires.within; results = none_in (size t) c.new.result c.new.ensures }

pub returns : goal.returns
returns c =
    let a = c.args.env.now in
    let b = c.and_method.new.env in
    let d = c.and_method-2.new.env in
    let first = c.in_ok-and_method.ensures.env named_text c.requires.names in
    let second = c.in_ok-and_method-2.ensures.env _ (ap (λ (e : scopes.Env). e.named_types) first) in
    record {
      env =
          names_env (env_of d) (env_of a) _ _ (on_both (env_of d) (env_of b) (env_of a) _ _ second first)
          (methods_are (places (table_of a)) (places (table_of b)) _ _ c.in_ok-results.results c.new.result c.as_slice.ensures c.as_slice-2.ensures c.in_ok-results.ensures.value c.new.ensures (text_is (table_of a) c.requires.predeclared));
      places = c.in_ok-and_method-2.ensures.places ∙ c.in_ok-and_method.ensures.places;
      counts = (c.in_ok-and_method-2.ensures.counts.0 ∙ c.in_ok-and_method.ensures.counts.0, c.in_ok-and_method-2.ensures.counts.1 ∙ c.in_ok-and_method.ensures.counts.1);
    }
