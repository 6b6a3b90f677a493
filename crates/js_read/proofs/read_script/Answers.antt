use Rattle.std.proofs.Common.{rules, refl, subst, []}
use Rattle.std.specs.Prelude.{MatchResult, Ok}
use Rattle.js_tree.specs.View.{script_view}
use Rattle.js_grammar.specs.Goals.{whole}
use Rattle.js_grammar.specs.Reads.{Reads}
use Rattle.js_read.specs.Unread.{Treeless}
use Rattle.js_grammar.specs.Tokens.{places}
use Rattle.js_read.proofs.Whole.{no_front, unread, all_read}
use Rattle.js_read.proofs.read_script.Goals as goal

pub returns-then-not-begins : goal.returns-then-not-begins
returns-then-not-begins c = no_front c.args.bytes.now c.preamble-front.result.now c.begins.result c.syntax.result c.preamble-front.ensures c.begins.ensures.value (search rules) c.syntax.ensures

pub returns-in_err-tokens : goal.returns-in_err-tokens
returns-in_err-tokens c = unread c.args.bytes.now c.preamble-front.result.now _ c.from_residual.result _ refl c.preamble-front.ensures c.from_residual.ensures.1 c.in_err-tokens.ensures

pub returns : goal.returns
returns c = all_read c.reads_scripts.ensures c.one_list.ensures c.args.bytes.now c.preamble-front.result.now c.begins.result _ (places c.in_ok-tokens.tokens.items) c.whole.result c.preamble-front.ensures c.begins.ensures.value (search rules) refl c.in_ok-tokens.ensures
    (subst (λ z. MatchResult c.whole.result (λ s. Reads whole (places z) (Ok (script_view s, []))) (λ e. Treeless (places z) e)) c.as_slice.ensures.value c.whole.ensures)
