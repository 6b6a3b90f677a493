use Rattle.std.proofs.Common.{◌∙◌, sym, ap, map}
use Rattle.go_core.specs.CoreTree.{Stmt, Exprs}
use Rattle.go_core.specs.CoreView.{expr_view, exprs_of}
use Rattle.js_prints.specs.Prints.{are_texts, is_print}
use Rattle.js_prints.proofs.Views.{stmt_at, stmt_Print, exprs_whole}
use Rattle.js_prints.proofs.kind.is_print.Goals as goal

pub returns-in-Print : goal.returns-in-Print
returns-in-Print c = record {
  value = λ ts.
      c.are_texts.ensures.value ts
      ∙ ap (λ es. are_texts (exprs_of (map (expr_view ts) es))) c.as_slice.ensures.value
      ∙ ap (λ (es : Exprs). are_texts es) (sym (exprs_whole ts c.in-Print.operands))
      ∙ ap (λ (s : Stmt). is_print s) (sym (stmt_at ts c.args.s.now c.deref.result.now c.deref.ensures ∙ stmt_Print ts c.deref.result.now c.in-Print.operands c.in-Print.ends_line c.in-Print.is));
}
