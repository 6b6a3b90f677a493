use Rattle.std.proofs.Common.{◌∙◌, ap, map, Bool, ◌&&◌}
use Rattle.go_operands.specs.AnswerView.{flaw_view}
use Rattle.go_expr.specs.Raw.{raws_view}
use Rattle.go_define.proofs.AllLemmas.{parts_told}
use Rattle.go_define.proofs.define.all.parts_told.Goals as goal

pub returns-in-Ok-told_where_typed : goal.returns-in-Ok-told_where_typed
returns-in-Ok-told_where_typed c = record {
  told = λ ts. parts_told c.args.at c.args.code (raws_view ts c.args.raws) (map flaw_view c.args.fs.items) (map flaw_view c.args.flaws.now.items) (map flaw_view c.told_where_typed.new.flaws.items) (map flaw_view c.move_all.new.flaws.items) (map flaw_view c.move_flaws.new.flaws.items) c.new-parts.result.items c.args.typed c.both_typed-known.result
      c.new-parts.ensures.items (c.both_typed-known.ensures.value ∙ ap (λ (b : Bool). c.args.typed && b) (c.all_known-values.ensures.value ts)) (c.in-Ok.ensures.told ts) c.in-Ok-move_flaws.ensures.told c.in-Ok-told_where_typed.ensures.told;
}
