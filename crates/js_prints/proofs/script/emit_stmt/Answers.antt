use Rattle.std.proofs.Common.{◌∙◌, ◌++◌, sym, ap, List, ℕ, map, [], ◌∷◌}
use Rattle.std.proofs.lemmas.List.{map-append}
use Rattle.go_core.specs.CoreTree.{Exprs}
use Rattle.go_core.specs.CoreTree as tree
use Rattle.go_core.specs.CoreView.{expr_view, exprs_of}
use Rattle.js_tree.specs.Script as script
use Rattle.js_tree.specs.View.{stmt_view}
use Rattle.js_prints.specs.Emitted.{output, texts_in, write_of, writes_of}
use Rattle.js_prints.proofs.Printing.{fits_after}
use Rattle.js_prints.proofs.Views.{stmt_at, stmt_Print, exprs_whole}
use Rattle.js_prints.proofs.script.emit_stmt.Goals as goal

pub returns-in_ok-push-in-Print-clause-value : goal.returns-in_ok-push-in-Print-clause-value
returns-in_ok-push-in-Print-clause-value c = λ ts.
    let old = map stmt_view c.args.calls.now.items in
    ap (map stmt_view) c.in_ok-push-in-Print.ensures.items
    ∙ map-append stmt_view c.args.calls.now.items (c.in_ok-write-in-Print.field-0 ∷ [])
    ∙ ap (λ (s : script.Stmt). old ++ s ∷ []) c.in_ok-write-in-Print.ensures.value
    ∙ ap (λ (bytes : List ℕ). old ++ write_of bytes ∷ []) (c.in_ok-bytes-in-Print.ensures.value ts)
    ∙ ap (λ es. old ++ write_of (output c.in-Print.ends_line (texts_in (exprs_of (map (expr_view ts) es)))) ∷ []) c.as_slice.ensures.value
    ∙ ap (λ (es : Exprs). old ++ write_of (output c.in-Print.ends_line (texts_in es)) ∷ []) (sym (exprs_whole ts c.in-Print.operands))
    ∙ ap (λ (s : tree.Stmt). old ++ writes_of s) (sym (stmt_at ts c.args.stmt.now c.deref.result.now c.deref.ensures ∙ stmt_Print ts c.deref.result.now c.in-Print.operands c.in-Print.ends_line c.in-Print.is))

pub returns-in_ok-push-in-Print-clause-printable : goal.returns-in_ok-push-in-Print-clause-printable
returns-in_ok-push-in-Print-clause-printable c =
    fits_after (map stmt_view c.args.calls.now.items) (map stmt_view c.push.new.self.items) (stmt_view c.in_ok-write-in-Print.field-0) (ap (map stmt_view) c.in_ok-push-in-Print.ensures.items ∙ map-append stmt_view c.args.calls.now.items (c.in_ok-write-in-Print.field-0 ∷ [])) c.in_ok-write-in-Print.ensures.printable
