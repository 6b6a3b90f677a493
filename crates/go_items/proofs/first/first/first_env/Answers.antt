use Rattle.std.proofs.Common.{◌∙◌, ap}
use Rattle.go_typing.specs.Known.{first_names}
use Rattle.go_type.specs.Tree as ty
use Rattle.go_typing.specs.Scopes as scopes
use Rattle.go_operands.specs.EnvView.{env_of, with_types}
use Rattle.go_items.proofs.FirstLemmas.{stands_first}
use Rattle.go_items.proofs.first.first.first_env.Goals as goal

pub and_runtime-requires : goal.and_runtime-requires
and_runtime-requires c = record { predeclared = c.in_ok-env.ensures.predeclared; count = c.in_ok-env.ensures.count; names = ap (λ (e : scopes.Env). e.named_types) c.in_ok-env.ensures.env }

pub returns : goal.returns
returns c = record {
  stands = stands_first (env_of c.add.new.self) (c.in_ok-hidden.ensures.env ∙ c.in_ok-id.ensures.env ∙ ap (with_types first_names) c.in_ok-env.ensures.env);
  hidden = c.in_ok-hidden.ensures.tree ∙ ap ty.named c.in_ok-id.ensures.id;
  within = c.in_ok-hidden.ensures.within;
}

pub invariant_of-env : goal.invariant_of-env
invariant_of-env c =
    let e = c.and_runtime.new.env in
    record { begins = e.begins; universe_within = e.universe_within; packages_within = e.packages_within; blocks_within = e.blocks_within }

pub invariant_of-env-in_err-hidden : goal.invariant_of-env-in_err-hidden
invariant_of-env-in_err-hidden c =
    let e = c.add.new.self in
    record { begins = e.begins; universe_within = e.universe_within; packages_within = e.packages_within; blocks_within = e.blocks_within }
