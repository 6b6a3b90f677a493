use Rattle.std.proofs.Common.{◌∙◌, sym, refl}
use Rattle.go_type.specs.Table.{places}
use Rattle.go_operands.specs.EnvView.{table_of, env_of}
use Rattle.go_decls.proofs.OutcomeLemmas.{unknown_is, known_is, lost, settled}
use Rattle.go_decls.proofs.known.settled.settle_name.Goals as goal

pub returns-then-is_unknown : goal.returns-then-is_unknown
returns-then-is_unknown c = record {
  value = λ i rs b q s d.
      let e = env_of c.args.env.now in
      lost rs c.args.index i c.args.numbers.now e e b refl (sym d ∙ unknown_is (places (table_of c.args.env.now)) c.args.what (sym c.is_unknown.ensures.value ∙ c.if-is_unknown.true));
}

pub returns : goal.returns
returns c = record {
  value = λ i rs b q s d.
      settled rs c.args.index i c.args.numbers.now (env_of c.args.env.now) (env_of c.settle.new.env) b s
      (λ h. known_is (places (table_of c.args.env.now)) c.args.what (sym c.is_unknown.ensures.value ∙ c.if-is_unknown.false) (d ∙ h))
      (c.settle.ensures.value i rs b.stands q b.row b.names d);
}
