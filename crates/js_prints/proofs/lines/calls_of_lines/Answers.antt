use Rattle.std.proofs.Common.{arith, ◌∙◌, ◌+◌, ◌++◌, [], ◌∷◌, sym, ap, append_assoc, append-nil, ℕ, List, drop, map}
use Rattle.std.proofs.lemmas.List.{map-append}
use Rattle.go_core.specs.Text.{line_of}
use Rattle.js_tree.specs.Script as script
use Rattle.js_tree.specs.View.{stmt_view}
use Rattle.js_prints.specs.Emitted.{write_of, all_writes_of}
use Rattle.js_prints.specs.Lines.{print_lines}
use Rattle.js_prints.proofs.Printing.{fits_after}
use Rattle.js_prints.proofs.ListLemmas.{left_at, none_left}
use Rattle.js_prints.proofs.lines.calls_of_lines.Goals as goal

pub loop-text-preserved : goal.loop-text-preserved
loop-text-preserved c =
    let old = map stmt_view c.loop-text.calls.items in
    let text = c.text-item.result in
    let rest = all_writes_of (print_lines (drop (c.loop-text.text-index + 1) c.args.texts.now)) in
    let pushed = ap (map stmt_view) c.in_ok-push.ensures.items ∙ map-append stmt_view c.loop-text.calls.items (c.in_ok-write.field-0 ∷ []) in
    record {
      emitted = ap (λ (ws : List script.Stmt). ws ++ rest) (pushed ∙ ap (λ (s : script.Stmt). old ++ s ∷ []) (c.in_ok-write.ensures.value ∙ ap write_of (c.in_ok-line.ensures.value ∙ ap (λ (bytes : List ℕ). line_of (bytes ∷ [])) c.as_bytes.ensures)))
          ∙ append_assoc old (write_of (line_of (text ∷ [])) ∷ []) rest
          ∙ sym (ap (λ (xs : List (List ℕ)). old ++ all_writes_of (print_lines xs)) (left_at c.args.texts.now c.loop-text.text-index text c.loop-text-test.true c.text-item.is))
          ∙ c.loop-text.invariant.emitted;
      printable = fits_after old (map stmt_view c.push.new.self.items) (stmt_view c.in_ok-write.field-0) pushed c.in_ok-write.ensures.printable c.loop-text.invariant.printable;
    }

pub returns-clause-value : goal.returns-clause-value
returns-clause-value c =
    let none = none_left c.args.texts.now c.loop-text.text-index (omega (arith, c.loop-text-test.false)) in
    sym (append-nil (map stmt_view c.loop-text.calls.items)) ∙ sym (ap (λ (xs : List (List ℕ)). map stmt_view c.loop-text.calls.items ++ all_writes_of (print_lines xs)) none) ∙ c.loop-text.invariant.emitted
