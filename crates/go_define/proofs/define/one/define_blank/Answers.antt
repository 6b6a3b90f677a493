use Rattle.std.proofs.Common.{◌∙◌, ap, List, [], ◌∷◌, ◌++◌, map}
use Rattle.go_core.specs.CoreTree.{Target}
use Rattle.go_core.specs.CoreView.{expr_view, target_view}
use Rattle.go_operands.specs.AnswerView.{flaw_view}
use Rattle.go_calls.specs.Words.{types_of, names_of}
use Rattle.go_expr.specs.Raw.{raw_view}
use Rattle.go_assign.specs.Settled.{valued_view, alone}
use Rattle.go_define.proofs.DefineLemmas.{value_same, told_same}
use Rattle.go_define.proofs.define.one.define_blank.Goals as goal

pub returns-in-Ok-and_both-clause-targets : goal.returns-in-Ok-and_both-clause-targets
returns-in-Ok-and_both-clause-targets c = λ ts. c.in-Ok-and_both.ensures.targets ts ∙ ap (λ (g : Target). map (target_view ts) c.args.targets.now.items ++ g ∷ []) (c.blank.ensures.value ts)

pub returns-in-Ok-and_both-clause-values : goal.returns-in-Ok-and_both-clause-values
returns-in-Ok-and_both-clause-values c =
    let e = c.args.env.now in
    λ ts k. value_same (map (expr_view ts) c.args.cores.now.items) (map (expr_view ts) c.and_both.new.cores.items) (valued_view (types_of e) c.in-Ok.valued) (alone (names_of e) (raw_view (types_of e) c.args.raw)) c.in-Ok.ensures.view (c.in-Ok-and_both.ensures.values ts k)

pub returns-in-Ok-and_both-clause-told : goal.returns-in-Ok-and_both-clause-told
returns-in-Ok-and_both-clause-told c =
    let e = c.args.env.now in
    told_same (map flaw_view c.args.flaws.now.items) (map flaw_view c.and_both.new.flaws.items) (valued_view (types_of e) c.in-Ok.valued) (alone (names_of e) (raw_view (types_of e) c.args.raw)) c.in-Ok.ensures.view c.in-Ok-and_both.ensures.told
