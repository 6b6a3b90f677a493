use Rattle.std.proofs.Common.{◌<◌, ◌∙◌, ap, ℕ, subst, sym}
use Rattle.go_typing.specs.Scopes as scopes
use Rattle.go_operands.specs.EnvView.{table_of, env_of}
use Rattle.go_items.proofs.FirstLemmas.{has_same, on_both}
use Rattle.go_items.proofs.first.first.and_runtime.Goals as goal

pub and_text-requires : goal.and_text-requires
and_text-requires c = record {
  predeclared = has_same (table_of c.args.env.now) (table_of c.and_name.new.env) c.in_ok-id.ensures.places c.in_ok-id.ensures.size c.requires.predeclared;
  id = c.in_ok-id.ensures.id ∙ c.requires.count;
  within = c.in_ok-id.ensures.within;
  names = ap (λ (e : scopes.Env). e.named_types) c.in_ok-id.ensures.env;
}

pub and_methods-requires : goal.and_methods-requires
and_methods-requires c =
    let b = table_of c.and_name.new.env in
    record {
      predeclared = has_same b (table_of c.and_text.new.env) c.and_text.ensures.places c.and_text.ensures.counts.0 (has_same (table_of c.args.env.now) b c.in_ok-id.ensures.places c.in_ok-id.ensures.size c.requires.predeclared);
      id = c.in_ok-id.ensures.id ∙ c.requires.count;
      within = subst (λ (n : ℕ). c.in_ok-id.id.0 < n) (sym c.and_text.ensures.counts.1) c.in_ok-id.ensures.within;
      names = ap (λ (e : scopes.Env). e.named_types) c.and_text.ensures.env;
    }

pub returns : goal.returns
returns c =
    let a = env_of c.args.env.now in
    let b = env_of c.and_name.new.env in
    let d = env_of c.and_text.new.env in
    let e = env_of c.and_methods.new.env in
    record {
      id = c.in_ok-id.ensures.id ∙ c.requires.count;
      within = subst (λ (n : ℕ). c.in_ok-id.id.0 < n) (sym (c.in_ok-and_methods.ensures.counts.1 ∙ c.and_text.ensures.counts.1)) c.in_ok-id.ensures.within;
      env = on_both e b a _ _ (on_both e d b _ _ c.in_ok-and_methods.ensures.env c.and_text.ensures.env) c.in_ok-id.ensures.env;
    }
