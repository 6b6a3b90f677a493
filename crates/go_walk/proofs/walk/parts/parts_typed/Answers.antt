use Rattle.std.proofs.Common.{◌∙◌, sym, drop, ◌==◌}
use Rattle.go_syntax.specs.View.{stmt_view}
use Rattle.go_typing.specs.Labels.{labels_in}
use Rattle.go_typing.specs.Statements.{name_places}
use Rattle.go_typing.specs.Walk.{all_used, any_among}
use Rattle.go_walk.proofs.PartLemmas.{first_not, second_not, third_is}
use Rattle.go_walk.proofs.walk.parts.parts_typed.Goals as goal

pub returns-then-not-is_all_used : goal.returns-then-not-is_all_used
returns-then-not-is_all_used c = record {
  value =
      let w = c.args.walk.now in
      first_not (all_used (drop c.args.before.declared w.declared.items) w.used.items) (any_among (name_places (labels_in (stmt_view c.args.s.now))) c.args.wrong.now) (w.lost == c.args.before.lost)
      (sym c.in_ok-is_all_used.ensures.value ∙ c.if-not-is_all_used.true);
}

pub returns-then-is_wrong : goal.returns-then-is_wrong
returns-then-is_wrong c = record {
  value =
      let w = c.args.walk.now in
      second_not (all_used (drop c.args.before.declared w.declared.items) w.used.items) (any_among (name_places (labels_in (stmt_view c.args.s.now))) c.args.wrong.now) (w.lost == c.args.before.lost)
      (sym c.in_ok-is_all_used.ensures.value ∙ c.if-not-is_all_used.false) (sym c.in_ok-is_wrong.ensures.value ∙ c.if-is_wrong.true);
}

pub returns : goal.returns
returns c = record {
  value =
      let w = c.args.walk.now in
      third_is (all_used (drop c.args.before.declared w.declared.items) w.used.items) (any_among (name_places (labels_in (stmt_view c.args.s.now))) c.args.wrong.now) (w.lost == c.args.before.lost)
      (sym c.in_ok-is_all_used.ensures.value ∙ c.if-not-is_all_used.false) (sym c.in_ok-is_wrong.ensures.value ∙ c.if-is_wrong.false);
}
