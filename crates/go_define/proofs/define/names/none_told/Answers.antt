use Rattle.std.proofs.Common.{◌∙◌, ap, map, Bool, ◌&&◌}
use Rattle.go_syntax.specs.View.{expr_view}
use Rattle.go_operands.specs.AnswerView.{flaw_view}
use Rattle.go_calls.specs.Words.{types_of}
use Rattle.go_expr.specs.Raw.{raws_view}
use Rattle.go_define.specs.FreshView.{freshes_view, spots_typed}
use Rattle.go_define.proofs.NameLemmas.{new_all}
use Rattle.go_define.proofs.define.names.none_told.Goals as goal

pub returns-in-Ok : goal.returns-in-Ok
returns-in-Ok c =
    let ts = types_of c.args.env.now in
    record {
      told = new_all c.args.at c.first_in.result (map expr_view c.args.xs.now) (freshes_view ts c.args.freshes.now) (raws_view ts c.args.raws.now) c.any_new-found.result c.both_typed-fine.result (map flaw_view c.args.flaws.now.items) (map flaw_view c.told_new.new.flaws.items) (c.any_new-found.ensures.value ts)
          (c.both_typed-fine.ensures.value ∙ ap (λ (b : Bool). b && c.all_fine-values.result) (c.names_typed-typed.ensures.value ts) ∙ ap (λ (b : Bool). spots_typed (freshes_view ts c.args.freshes.now) && b) (c.all_fine-values.ensures.value ts))
          c.first_in.ensures.value c.in-Ok.ensures.told;
    }
