use Rattle.std.proofs.Common.{◌∙◌, sym, ap, Bool, ◌&&◌, map}
use Rattle.go_core.specs.CoreTree.{Stmts}
use Rattle.go_core.specs.CoreView.{func_view, stmt_view, stmts_of}
use Rattle.js_prints.specs.Prints.{all_print}
use Rattle.js_prints.proofs.Views.{stmts_whole}
use Rattle.js_prints.proofs.kind.prints_alone.Goals as goal

pub returns-then-captures_none : goal.returns-then-captures_none
returns-then-captures_none c = record {
  value = λ ts.
      c.all_print.ensures.value ts
      ∙ ap (λ ss. all_print (stmts_of (map (stmt_view ts) ss))) c.as_slice.ensures.value
      ∙ ap (λ (ss : Stmts). all_print ss) (sym (stmts_whole ts c.args.f.now.body))
      ∙ ap (λ (b : Bool). b && all_print (func_view ts c.args.f.now).body) (sym c.if-captures_none.true ∙ c.captures_none.ensures.value ts);
}

pub returns-else-captures_none : goal.returns-else-captures_none
returns-else-captures_none c = record {
  value = λ ts.
      c.if-captures_none.false
      ∙ sym (ap (λ (b : Bool). b && all_print (func_view ts c.args.f.now).body) (sym (c.captures_none.ensures.value ts) ∙ c.if-captures_none.false));
}
