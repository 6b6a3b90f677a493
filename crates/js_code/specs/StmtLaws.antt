-- The parts of statements stand for them.
use Rattle.std.proofs.Common.{refl, List, Some, None}
use Rattle.js_tree.specs.Script as tree
use Rattle.js_tree.specs.Script.{Stmt, Stmts, no_stmts, stmt, Else, Cases}
use Rattle.js_code.specs.Names.{index_in}
use Rattle.js_code.specs.Places.{Table, target_of}
use Rattle.js_code.specs.Parts.{Part, declare, assign, store, perform, push, remove, branch, while, forever, switch, return_nothing, return, throw, break, continue, attempt, done, then, no_else, else_block, else_if, no_cases, default, case, one, single, block, other, cases, as_expr, as_stmt, as_stmts, as_else, as_cases, last}
use Rattle.js_code.specs.ExprParts.{with_expr}
use Rattle.js_code.specs.StmtParts.{with_stmt, with_stmts, with_else, with_cases}
use Rattle.js_code.specs.PartClauses.{Adds}
use Rattle.js_code.specs.PartLaws.{leaf, of_one, of_two, of_three}
use Rattle.js_code.specs.ExprLaws.{adds_expr}

mutual
  adds_stmt : (t : Table) (ps : List Part) (s : Stmt) → Adds t ps (with_stmt t ps s) (single s)
  adds_stmt t ps (tree.declare at x e) =
      let a = with_expr t ps e in
      of_one t ps a (one e) (declare at x (index_in t.locals x) (last a)) (λ o. single (tree.declare at x (as_expr o))) (adds_expr t ps e) refl refl refl
  adds_stmt t ps (tree.assign at x e) =
      let a = with_expr t ps e in
      of_one t ps a (one e) (assign at x (target_of t x) (last a)) (λ o. single (tree.assign at x (as_expr o))) (adds_expr t ps e) refl refl refl
  adds_stmt t ps (tree.store at d e f) =
      let a = with_expr t ps d in
      let b = with_expr t a e in
      let c = with_expr t b f in
      of_three t ps a b c (one d) (one e) (one f) (store at (last a) (last b) (last c)) (λ x y z. single (tree.store at (as_expr x) (as_expr y) (as_expr z)))
      (adds_expr t ps d) (adds_expr t a e) (adds_expr t b f) refl tt refl
  adds_stmt t ps (tree.perform at e) =
      let a = with_expr t ps e in
      of_one t ps a (one e) (perform at (last a)) (λ o. single (tree.perform at (as_expr o))) (adds_expr t ps e) refl tt refl
  adds_stmt t ps (tree.push at d e) =
      let a = with_expr t ps d in
      let b = with_expr t a e in
      of_two t ps a b (one d) (one e) (push at (last a) (last b)) (λ x y. single (tree.push at (as_expr x) (as_expr y))) (adds_expr t ps d) (adds_expr t a e) refl tt refl
  adds_stmt t ps (tree.remove at d e) =
      let a = with_expr t ps d in
      let b = with_expr t a e in
      of_two t ps a b (one d) (one e) (remove at (last a) (last b)) (λ x y. single (tree.remove at (as_expr x) (as_expr y))) (adds_expr t ps d) (adds_expr t a e) refl tt refl
  adds_stmt t ps (tree.branch at e ss w) =
      let a = with_expr t ps e in
      let b = with_stmts t a ss in
      let c = with_else t b w in
      of_three t ps a b c (one e) (block ss) (other w) (branch at (last a) (last b) (last c)) (λ x y z. single (tree.branch at (as_expr x) (as_stmts y) (as_else z)))
      (adds_expr t ps e) (adds_stmts t a ss) (adds_else t b w) refl tt refl
  adds_stmt t ps (tree.while at l e ss) =
      let a = with_expr t ps e in
      let b = with_stmts t a ss in
      of_two t ps a b (one e) (block ss) (while at l (last a) (last b)) (λ x y. single (tree.while at l (as_expr x) (as_stmts y))) (adds_expr t ps e) (adds_stmts t a ss) refl tt refl
  adds_stmt t ps (tree.forever at l ss) =
      let a = with_stmts t ps ss in
      of_one t ps a (block ss) (forever at l (last a)) (λ o. single (tree.forever at l (as_stmts o))) (adds_stmts t ps ss) refl tt refl
  adds_stmt t ps (tree.switch at l e cs) =
      let a = with_expr t ps e in
      let b = with_cases t a cs in
      of_two t ps a b (one e) (cases cs) (switch at l (last a) (last b)) (λ x y. single (tree.switch at l (as_expr x) (as_cases y))) (adds_expr t ps e) (adds_cases t a cs) refl tt refl
  adds_stmt t ps (tree.return at None) = leaf t ps (return_nothing at) (single (tree.return at None)) refl tt refl
  adds_stmt t ps (tree.return at (Some e)) =
      let a = with_expr t ps e in
      of_one t ps a (one e) (return at (last a)) (λ o. single (tree.return at (Some (as_expr o)))) (adds_expr t ps e) refl tt refl
  adds_stmt t ps (tree.throw at e) =
      let a = with_expr t ps e in
      of_one t ps a (one e) (throw at (last a)) (λ o. single (tree.throw at (as_expr o))) (adds_expr t ps e) refl tt refl
  adds_stmt t ps (tree.break at l) = leaf t ps (break at l) (single (tree.break at l)) refl tt refl
  adds_stmt t ps (tree.continue at l) = leaf t ps (continue at l) (single (tree.continue at l)) refl tt refl
  adds_stmt t ps (tree.attempt at ss hs) =
      let a = with_stmts t ps ss in
      let b = with_stmts t a hs in
      of_two t ps a b (block ss) (block hs) (attempt at (last a) (last b)) (λ x y. single (tree.attempt at (as_stmts x) (as_stmts y))) (adds_stmts t ps ss) (adds_stmts t a hs) refl tt refl

  pub adds_stmts : (t : Table) (ps : List Part) (ss : Stmts) → Adds t ps (with_stmts t ps ss) (block ss)
  adds_stmts t ps no_stmts = leaf t ps done (block no_stmts) refl tt refl
  adds_stmts t ps (stmt s ss) =
      let b = with_stmts t ps ss in
      let a = with_stmt t b s in
      of_two t ps b a (block ss) (single s) (then (last a) (last b)) (λ y x. block (stmt (as_stmt x) (as_stmts y))) (adds_stmts t ps ss) (adds_stmt t b s) refl tt refl

  adds_else : (t : Table) (ps : List Part) (w : Else) → Adds t ps (with_else t ps w) (other w)
  adds_else t ps tree.no_else = leaf t ps no_else (other tree.no_else) refl tt refl
  adds_else t ps (tree.else_block ss) =
      let a = with_stmts t ps ss in
      of_one t ps a (block ss) (else_block (last a)) (λ o. other (tree.else_block (as_stmts o))) (adds_stmts t ps ss) refl tt refl
  adds_else t ps (tree.else_if at e ss w) =
      let a = with_expr t ps e in
      let b = with_stmts t a ss in
      let c = with_else t b w in
      of_three t ps a b c (one e) (block ss) (other w) (else_if at (last a) (last b) (last c)) (λ x y z. other (tree.else_if at (as_expr x) (as_stmts y) (as_else z)))
      (adds_expr t ps e) (adds_stmts t a ss) (adds_else t b w) refl tt refl

  adds_cases : (t : Table) (ps : List Part) (cs : Cases) → Adds t ps (with_cases t ps cs) (cases cs)
  adds_cases t ps tree.no_cases = leaf t ps no_cases (cases tree.no_cases) refl tt refl
  adds_cases t ps (tree.default ss) =
      let a = with_stmts t ps ss in
      of_one t ps a (block ss) (default (last a)) (λ o. cases (tree.default (as_stmts o))) (adds_stmts t ps ss) refl tt refl
  adds_cases t ps (tree.case n ss cs) =
      let b = with_cases t ps cs in
      let a = with_stmts t b ss in
      of_two t ps b a (cases cs) (block ss) (case n (last a) (last b)) (λ y x. cases (tree.case n (as_stmts x) (as_cases y))) (adds_cases t ps cs) (adds_stmts t b ss) refl tt refl
