use Rattle.std.proofs.Common.{◌∙◌, ap}
use Rattle.go_core.specs.CoreTree as core
use Rattle.go_type.specs.Levels.{tree_of}
use Rattle.go_items.proofs.hidden.functions.text_back.Goals as goal

pub returns-in_ok-back-in-Ok-convert : goal.returns-in_ok-back-in-Ok-convert
returns-in_ok-back-in-Ok-convert c = record {
  value = λ ts.
      c.in_ok-back-in-Ok-convert.ensures.value ts
      ∙ ap (λ (e : core.Expr). core.return_ (core.expr e core.no_exprs)) (c.in-Ok-convert.ensures.value ts ∙ ap (core.convert (tree_of ts c.args.hidden) (tree_of ts c.args.text)) (c.in-Ok.ensures.value ts));
}
