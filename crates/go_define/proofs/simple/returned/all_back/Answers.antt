use Rattle.go_operands.specs.EnvView.{table_of}
use Rattle.go_define.proofs.BackLemmas.{adds_back}
use Rattle.go_define.proofs.simple.returned.all_back.Goals as goal

pub returns-in_ok-and_return-in-Ok : goal.returns-in_ok-and_return-in-Ok
returns-in_ok-and_return-in-Ok c = record {
  adds = adds_back (table_of c.args.env.now) _ _ c.args.flaws.now.items c.values_back.new.flaws.items c.args.out.now.items c.and_return.new.out.items c.values_back.new.values.items c.in-Ok.ensures.told c.in_ok-and_return-in-Ok.ensures.core c.in-Ok.ensures.values;
}
