use Rattle.std.proofs.Common.{◌∙◌, ap, ℕ, List}
use Rattle.go_type.specs.Table.{places}
use Rattle.go_typing.specs.Env.{lookup}
use Rattle.go_typing.specs.Scopes.{visible}
use Rattle.go_operands.specs.EnvView.{table_of, env_of}
use Rattle.go_typing.specs.Walk.{is_untyped}
use Rattle.go_walk.proofs.walk.uses.names_untyped.Goals as goal

pub returns-in-Some : goal.returns-in-Some
returns-in-Some c = record {
  value =
      let e = c.args.env.now in
      c.is_untyped.ensures.value (places (table_of e)) ∙ ap is_untyped (c.in-Some.ensures.value ∙ ap (λ (y : List ℕ). lookup y (visible (env_of e))) c.as_bytes.ensures);
}

pub returns-in-None : goal.returns-in-None
returns-in-None c = record {
  value = ap is_untyped (c.in-None.ensures.value ∙ ap (λ (y : List ℕ). lookup y (visible (env_of c.args.env.now))) c.as_bytes.ensures);
}
