use Rattle.std.proofs.Common.{map}
use Rattle.go_operands.specs.AnswerView.{flaw_view}
use Rattle.go_body.proofs.WholeLemmas.{whole_clean, whole_other}
use Rattle.go_body.proofs.leaf.whole.told_whole.Goals as goal

pub returns-then-is_clean : goal.returns-then-is_clean
returns-then-is_clean c = record {
  told = whole_clean c.args.around.now c.args.end c.args.before (map flaw_view c.args.labels.items) c.args.walk.now c.args.ends c.is_clean.result c.args.flaws.now.items c.move_flaws.new.flaws.items c.told_unused.new.flaws.items
      c.in_ok-move_flaws.ensures.told c.in_ok-told_unused.ensures.value c.is_clean.ensures.value c.told_typed.new.flaws.items c.if-is_clean.true c.in_ok-told_typed.ensures.told;
}

pub returns : goal.returns
returns c = record {
  told = whole_other c.args.around.now c.args.end c.args.before (map flaw_view c.args.labels.items) c.args.walk.now c.args.ends c.is_clean.result c.args.flaws.now.items c.move_flaws.new.flaws.items c.told_unused.new.flaws.items
      c.in_ok-move_flaws.ensures.told c.in_ok-told_unused.ensures.value c.is_clean.ensures.value c.if-is_clean.false;
}
