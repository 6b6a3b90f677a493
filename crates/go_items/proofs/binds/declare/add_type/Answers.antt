use Rattle.go_operands.specs.EnvView.{env_of}
use Rattle.go_items.proofs.StandLemmas.{type_added}
use Rattle.go_items.proofs.binds.declare.add_type.Goals as goal

pub returns : goal.returns
returns c = record {
  value = λ k h.
      type_added k (env_of c.args.env.now) (env_of c.add_named.new.self) c.args.n.now c.in_ok-text.text c.new.result c.in_ok-text.ensures.cases c.new.ensures c.in_ok-add_named.ensures.env h;
}
