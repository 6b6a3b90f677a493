use Rattle.std.proofs.Common.{ℕ, List, Some, subst}
use Rattle.js_tree.specs.Script as script
use Rattle.js_tree.specs.Script.{Stmts, no_stmts}
use Rattle.js_pool.specs.Tree as tree
use Rattle.js_body.specs.State.{says, block_tree}
use Rattle.js_body.specs.Tells.{LineIs}
use Rattle.js_plain.specs.Control.{block_line, label_bytes}
use Rattle.js_plain.specs.Lines.{block_closed, switch_line}
use Rattle.js_plain.proofs.control.close_at.Goals as goal

pub returns : goal.returns
returns c =
    let f : List ℕ → Stmts → script.Stmt = λ k ss. script.switch 0 (Some k) (tree.number 0) (script.case 0 ss script.no_cases) in
    block_closed c.args.b.now c.close-block.new.self c.block_at.new.self c.args.mark.0 c.close-block.result _ (block_line c.args.n) c.close-block.ensures c.block_at.ensures
    (λ end x ls h. subst (λ (k : List ℕ). LineIs end x (says (f k (block_tree ls no_stmts)))) c.label_name.ensures (switch_line h))
