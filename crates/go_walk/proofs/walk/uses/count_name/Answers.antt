use Rattle.std.proofs.Common.{◌∙◌, sym}
use Rattle.go_operands.specs.EnvView.{env_of}
use Rattle.go_typing.specs.Env.{lookup}
use Rattle.go_typing.specs.Scopes.{visible}
use Rattle.go_typing.specs.Walk.{is_untyped}
use Rattle.go_walk.proofs.PartLemmas.{none_lost}
use Rattle.go_walk.proofs.walk.uses.count_name.Goals as goal

pub returns : goal.returns
returns c = record {
  value = none_lost (is_untyped (lookup c.args.x.now (visible (env_of c.args.env.now)))) c.args.lost.now (sym c.names_untyped.ensures.value ∙ c.if-names_untyped.false);
}
