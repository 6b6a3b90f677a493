-- Own: the parts of a statement, of which the last one stands for it.
use Rattle.std.specs.Prelude.{List, Some, None}
use Rattle.js_tree.specs.Script as tree
use Rattle.js_tree.specs.Script.{Stmt, Stmts, no_stmts, stmt, Else, Cases}
use Rattle.js_code.specs.Names.{index_in}
use Rattle.js_code.specs.Places.{Table, target_of}
use Rattle.js_code.specs.Parts.{Part, declare, assign, store, perform, push, remove, branch, while, forever, switch, return_nothing, return, throw, break, continue, attempt, done, then, no_else, else_block, else_if, no_cases, default, case, last, with_part}
use Rattle.js_code.specs.ExprParts.{with_expr}

abbrev mutual
  -- parts, and after them those of a statement
  pub with_stmt : Table → List Part → Stmt → List Part
  with_stmt t ps (tree.declare at x e) = let a = with_expr t ps e in with_part a (declare at x (index_in t.locals x) (last a))
  with_stmt t ps (tree.assign at x e) = let a = with_expr t ps e in with_part a (assign at x (target_of t x) (last a))
  with_stmt t ps (tree.store at e i v) =
      let a = with_expr t ps e in let b = with_expr t a i in let c = with_expr t b v in with_part c (store at (last a) (last b) (last c))
  with_stmt t ps (tree.perform at e) = let a = with_expr t ps e in with_part a (perform at (last a))
  with_stmt t ps (tree.push at e v) =
      let a = with_expr t ps e in let b = with_expr t a v in with_part b (push at (last a) (last b))
  with_stmt t ps (tree.remove at e k) =
      let a = with_expr t ps e in let b = with_expr t a k in with_part b (remove at (last a) (last b))
  with_stmt t ps (tree.branch at e ss x) =
      let a = with_expr t ps e in let b = with_stmts t a ss in let c = with_else t b x in with_part c (branch at (last a) (last b) (last c))
  with_stmt t ps (tree.while at l e ss) =
      let a = with_expr t ps e in let b = with_stmts t a ss in with_part b (while at l (last a) (last b))
  with_stmt t ps (tree.forever at l ss) = let a = with_stmts t ps ss in with_part a (forever at l (last a))
  with_stmt t ps (tree.switch at l e cs) =
      let a = with_expr t ps e in let b = with_cases t a cs in with_part b (switch at l (last a) (last b))
  with_stmt t ps (tree.return at None) = with_part ps (return_nothing at)
  with_stmt t ps (tree.return at (Some e)) = let a = with_expr t ps e in with_part a (return at (last a))
  with_stmt t ps (tree.throw at e) = let a = with_expr t ps e in with_part a (throw at (last a))
  with_stmt t ps (tree.break at l) = with_part ps (break at l)
  with_stmt t ps (tree.continue at l) = with_part ps (continue at l)
  with_stmt t ps (tree.attempt at ss hs) =
      let a = with_stmts t ps ss in let b = with_stmts t a hs in with_part b (attempt at (last a) (last b))

  -- those of statements in order, from the last one on
  pub with_stmts : Table → List Part → Stmts → List Part
  with_stmts t ps no_stmts = with_part ps done
  with_stmts t ps (stmt s ss) =
      let b = with_stmts t ps ss in let a = with_stmt t b s in with_part a (then (last a) (last b))

  -- those of what stands after the block of an `if`
  pub with_else : Table → List Part → Else → List Part
  with_else t ps tree.no_else = with_part ps no_else
  with_else t ps (tree.else_block ss) = let a = with_stmts t ps ss in with_part a (else_block (last a))
  with_else t ps (tree.else_if at e ss x) =
      let a = with_expr t ps e in let b = with_stmts t a ss in let c = with_else t b x in with_part c (else_if at (last a) (last b) (last c))

  -- those of the cases of a `switch`, from the last one on
  pub with_cases : Table → List Part → Cases → List Part
  with_cases t ps tree.no_cases = with_part ps no_cases
  with_cases t ps (tree.default ss) = let a = with_stmts t ps ss in with_part a (default (last a))
  with_cases t ps (tree.case n ss cs) =
      let b = with_cases t ps cs in let a = with_stmts t b ss in with_part a (case n (last a) (last b))
