use Rattle.std.proofs.Common.{List, reverse, sym, subst}
use Rattle.js_pool.specs.Stands.{HeldAt}
use Rattle.js_pool.specs.declared.node.Stmt.{Stmt}
use Rattle.js_body.specs.Tells.{LinesAre}
use Rattle.js_body.proofs.body.Body.only_set.Goals as goal

pub returns : goal.returns
returns c ls k =
    let p = c.args.self.now.pool in
    let h = subst (λ (zs : List Stmt). HeldAt zs c.args.block.from c.args.block.many k.stmts) (sym c.as_slice.ensures.value) k.held in
    c.only_set.ensures p ls (subst (λ (xs : List Stmt). LinesAre p (reverse xs) ls) (sym (c.of.ensures k.stmts h)) k.lines)
