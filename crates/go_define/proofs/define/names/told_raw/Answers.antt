use Rattle.std.proofs.Common.{map}
use Rattle.go_operands.specs.AnswerView.{flaw_view}
use Rattle.go_define.proofs.NameLemmas.{raw_told}
use Rattle.go_define.proofs.define.names.told_raw.Goals as goal

pub returns-in-Ok-told_known : goal.returns-in-Ok-told_known
returns-in-Ok-told_known c = record {
  told = λ ts. raw_told ts c.args.raw c.is_known-known.result (map flaw_view c.args.flaws.now.items) (map flaw_view c.move_flaws.new.flaws.items) (map flaw_view c.told_known.new.flaws.items) (c.is_known-known.ensures ts) c.in-Ok.ensures.told c.in-Ok-told_known.ensures.told;
}
