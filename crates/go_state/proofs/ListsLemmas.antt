-- Lists of nodes from a place on.
use Rattle.std.proofs.Common.{◌≡◌, subst, ◌<◌, ◌≤◌, ◌+◌, refl, ap, sym, ◌∙◌, arith, ℕ, zero, suc, List, [], ◌∷◌, length, get_or, drop, map, rules}
use Rattle.std.specs.Prelude.{Some, None, slice_get, Bool}
use Rattle.std.proofs.lemmas.List.{length-map}
use Rattle.go_type.specs.Tree.{Ty}
use Rattle.go_core.specs.CoreTree as core
use Rattle.go_core.specs.Goroutine.{Task}
use Rattle.go_core.specs.Opened.{all_opened}
use Rattle.go_core.specs.CoreView.{expr_view, exprs_view, exprs_of, elements_of, pairs_of, stmt_view, stmts_view, stmts_of, clauses_of, cases_of, communication_view, target_view}
use Rattle.go_core.specs.declared.node.CoreExpr.{CoreExpr}
use Rattle.go_core.specs.declared.statement.CoreStmt.{CoreStmt}
use Rattle.go_core.specs.declared.statement.Target.{Target}
use Rattle.go_core.specs.declared.statement.Communication.{Communication}
use Rattle.go_core.specs.declared.statement.Targets.{Targets}
use Rattle.go_core.specs.declared.node.CoreExprs.{CoreExprs, out-CoreExprs, fold_out-CoreExprs}
use Rattle.go_core.specs.declared.node.CoreElement.{CoreElement, out-CoreElement, fold_out-CoreElement}
use Rattle.go_core.specs.declared.node.CoreElements.{CoreElements, out-CoreElements, fold_out-CoreElements}
use Rattle.go_core.specs.declared.node.CorePair.{CorePair, out-CorePair, fold_out-CorePair}
use Rattle.go_core.specs.declared.node.CorePairs.{CorePairs, out-CorePairs, fold_out-CorePairs}
use Rattle.go_core.specs.declared.statement.CoreStmts.{CoreStmts, out-CoreStmts, fold_out-CoreStmts}
use Rattle.go_core.specs.declared.statement.CoreClause.{CoreClause, out-CoreClause, fold_out-CoreClause}
use Rattle.go_core.specs.declared.statement.CoreClauses.{CoreClauses, out-CoreClauses, fold_out-CoreClauses}
use Rattle.go_core.specs.declared.statement.CoreCase.{CoreCase, out-CoreCase, fold_out-CoreCase}
use Rattle.go_core.specs.declared.statement.CoreCases.{CoreCases, out-CoreCases, fold_out-CoreCases}
use Rattle.go_state.specs.Weight.{stmts_weight, stmt_weight_at}
use Rattle.go_state.specs.TasksSeen.{opened_at, exprs_from, elements_from, elements_view, element_view, pairs_from, pairs_view, pair_view, stmts_listed, stmts_from, targets_from, clauses_from, clauses_view, clause_view, cases_from, cases_view, case_view}

pub drop_here : {A B : Type 0} (f : A → B) (xs : List A) (n : ℕ) (x : A) → n < length xs → x ≡ get_or xs n x → drop n (map f xs) ≡ f x ∷ drop (n + 1) (map f xs)
drop_here f [] n x l e = absurd (omega arith)
drop_here f (y ∷ ys) zero x l e = ap (λ z. f z ∷ map f ys) (sym e)
drop_here f (y ∷ ys) (suc n) x l e = drop_here f ys n x (omega arith) e ∙ ap (λ k. f x ∷ drop k (map f (y ∷ ys))) (next n)
  where
    next : (n : ℕ) → suc (n + 1) ≡ suc n + 1
    next n = omega arith

pub drop_past : {A B : Type 0} (f : A → B) (xs : List A) (n : ℕ) → length xs ≤ n → drop n (map f xs) ≡ []
drop_past f [] zero l = refl
drop_past f [] (suc n) l = refl
drop_past f (y ∷ ys) zero l = absurd (omega arith)
drop_past f (y ∷ ys) (suc n) l = drop_past f ys n (omega arith)

pub get_here : {A B : Type 0} (f : A → B) (xs : List A) (n : ℕ) (x : A) → n < length xs → x ≡ get_or xs n x → slice_get (map f xs) n ≡ Some (f x)
get_here f [] n x l e = absurd (omega arith)
get_here f (y ∷ ys) zero x l e = ap (λ z. Some (f z)) (sym e)
get_here f (y ∷ ys) (suc n) x l e = get_here f ys n x (omega arith) e

pub get_past : {A B : Type 0} (f : A → B) (xs : List A) (n : ℕ) → length xs ≤ n → slice_get (map f xs) n ≡ None
get_past f [] n l = refl
get_past f (y ∷ ys) zero l = absurd (omega arith)
get_past f (y ∷ ys) (suc n) l = get_past f ys n (omega arith)

-- ---- whole lists

pub exprs_whole : (ts : List Ty) (es : CoreExprs) → exprs_view ts es ≡ exprs_from ts es 0
exprs_whole ts es = search (rules, fold_out-CoreExprs)

pub elements_whole : (ts : List Ty) (es : CoreElements) → elements_view ts es ≡ elements_from ts es 0
elements_whole ts es = search (rules, fold_out-CoreElements)

pub element_is : (ts : List Ty) (e : CoreElement) (rest : core.Elements) → element_view ts e rest ≡ core.element (out-CoreElement e).index (expr_view ts (out-CoreElement e).value) rest
element_is ts e rest = search (rules, fold_out-CoreElement)

pub pairs_whole : (ts : List Ty) (ps : CorePairs) → pairs_view ts ps ≡ pairs_from ts ps 0
pairs_whole ts ps = search (rules, fold_out-CorePairs)

pub pair_is : (ts : List Ty) (p : CorePair) (rest : core.Pairs) → pair_view ts p rest ≡ core.pair (expr_view ts (out-CorePair p).key) (expr_view ts (out-CorePair p).value) rest
pair_is ts p rest = search (rules, fold_out-CorePair)

pub stmts_whole : (ts : List Ty) (ss : CoreStmts) → stmts_view ts ss ≡ stmts_from ts ss 0
stmts_whole ts ss = search (rules, fold_out-CoreStmts)

pub clauses_whole : (ts : List Ty) (cs : CoreClauses) → clauses_view ts cs ≡ clauses_from ts cs 0
clauses_whole ts cs = search (rules, fold_out-CoreClauses)

pub clause_is : (ts : List Ty) (c : CoreClause) (rest : core.Clauses) → clause_view ts c rest ≡ core.clause (stmts_view ts (out-CoreClause c).body) (out-CoreClause c).falls_through rest
clause_is ts c rest = search (rules, fold_out-CoreClause)

pub cases_whole : (ts : List Ty) (cs : CoreCases) → cases_view ts cs ≡ cases_from ts cs 0
cases_whole ts cs = search (rules, fold_out-CoreCases)

pub case_is : (ts : List Ty) (c : CoreCase) (rest : core.Cases) → case_view ts c rest ≡ core.case (communication_view ts (out-CoreCase c).communication) (stmts_view ts (out-CoreCase c).body) rest
case_is ts c rest = search (rules, fold_out-CoreCase)

-- ---- the next node of a list, and those after it

module _ (ts : List Ty) where
  pub exprs_next : (es : CoreExprs) (xs : List CoreExpr) (n : ℕ) (x : CoreExpr) → xs ≡ (out-CoreExprs es).items.items → n < length xs → x ≡ get_or xs n x
      → exprs_from ts es n ≡ core.expr (expr_view ts x) (exprs_from ts es (n + 1))
  exprs_next es xs n x h l e =
      ap exprs_of (subst (λ (ys : List CoreExpr). drop n (map (expr_view ts) ys) ≡ expr_view ts x ∷ drop (n + 1) (map (expr_view ts) ys)) h (drop_here (expr_view ts) xs n x l e))

  pub exprs_end : (es : CoreExprs) (xs : List CoreExpr) (n : ℕ) → xs ≡ (out-CoreExprs es).items.items → length xs ≤ n → exprs_from ts es n ≡ core.no_exprs
  exprs_end es xs n h l = ap exprs_of (subst (λ (ys : List CoreExpr). drop n (map (expr_view ts) ys) ≡ []) h (drop_past (expr_view ts) xs n l))

  pub elements_next : (es : CoreElements) (xs : List CoreElement) (n : ℕ) (x : CoreElement) → xs ≡ (out-CoreElements es).items.items → n < length xs → x ≡ get_or xs n x
      → elements_from ts es n ≡ core.element (out-CoreElement x).index (expr_view ts (out-CoreElement x).value) (elements_from ts es (n + 1))
  elements_next es xs n x h l e =
      ap elements_of (subst (λ (ys : List CoreElement). drop n (map (element_view ts) ys) ≡ element_view ts x ∷ drop (n + 1) (map (element_view ts) ys)) h (drop_here (element_view ts) xs n x l e))
      ∙ element_is ts x (elements_from ts es (n + 1))

  pub elements_end : (es : CoreElements) (xs : List CoreElement) (n : ℕ) → xs ≡ (out-CoreElements es).items.items → length xs ≤ n → elements_from ts es n ≡ core.no_elements
  elements_end es xs n h l = ap elements_of (subst (λ (ys : List CoreElement). drop n (map (element_view ts) ys) ≡ []) h (drop_past (element_view ts) xs n l))

  pub pairs_next : (es : CorePairs) (xs : List CorePair) (n : ℕ) (x : CorePair) → xs ≡ (out-CorePairs es).items.items → n < length xs → x ≡ get_or xs n x
      → pairs_from ts es n ≡ core.pair (expr_view ts (out-CorePair x).key) (expr_view ts (out-CorePair x).value) (pairs_from ts es (n + 1))
  pairs_next es xs n x h l e =
      ap pairs_of (subst (λ (ys : List CorePair). drop n (map (pair_view ts) ys) ≡ pair_view ts x ∷ drop (n + 1) (map (pair_view ts) ys)) h (drop_here (pair_view ts) xs n x l e))
      ∙ pair_is ts x (pairs_from ts es (n + 1))

  pub pairs_end : (es : CorePairs) (xs : List CorePair) (n : ℕ) → xs ≡ (out-CorePairs es).items.items → length xs ≤ n → pairs_from ts es n ≡ core.no_pairs
  pairs_end es xs n h l = ap pairs_of (subst (λ (ys : List CorePair). drop n (map (pair_view ts) ys) ≡ []) h (drop_past (pair_view ts) xs n l))

  pub stmts_next : (ss : CoreStmts) (xs : List CoreStmt) (n : ℕ) (x : CoreStmt) → xs ≡ (out-CoreStmts ss).items.items → n < length xs → x ≡ get_or xs n x
      → stmts_from ts ss n ≡ core.stmt (stmt_view ts x) (stmts_from ts ss (n + 1))
  stmts_next ss xs n x h l e =
      ap stmts_of (subst (λ (ys : List CoreStmt). drop n (map (stmt_view ts) ys) ≡ stmt_view ts x ∷ drop (n + 1) (map (stmt_view ts) ys)) h (drop_here (stmt_view ts) xs n x l e))

  pub stmts_end : (ss : CoreStmts) (xs : List CoreStmt) (n : ℕ) → xs ≡ (out-CoreStmts ss).items.items → length xs ≤ n → stmts_from ts ss n ≡ core.no_stmts
  stmts_end ss xs n h l = ap stmts_of (subst (λ (ys : List CoreStmt). drop n (map (stmt_view ts) ys) ≡ []) h (drop_past (stmt_view ts) xs n l))

  pub stmt_here : (ss : CoreStmts) (xs : List CoreStmt) (n : ℕ) (x : CoreStmt) → xs ≡ (out-CoreStmts ss).items.items → n < length xs → x ≡ get_or xs n x
      → slice_get (stmts_listed ts ss) n ≡ Some (stmt_view ts x)
  stmt_here ss xs n x h l e = subst (λ (ys : List CoreStmt). slice_get (map (stmt_view ts) ys) n ≡ Some (stmt_view ts x)) h (get_here (stmt_view ts) xs n x l e)

  pub stmt_past : (ss : CoreStmts) (xs : List CoreStmt) (n : ℕ) → xs ≡ (out-CoreStmts ss).items.items → length xs ≤ n → slice_get (stmts_listed ts ss) n ≡ None
  stmt_past ss xs n h l = subst (λ (ys : List CoreStmt). slice_get (map (stmt_view ts) ys) n ≡ None) h (get_past (stmt_view ts) xs n l)

  pub clauses_next : (es : CoreClauses) (xs : List CoreClause) (n : ℕ) (x : CoreClause) → xs ≡ (out-CoreClauses es).items.items → n < length xs → x ≡ get_or xs n x
      → clauses_from ts es n ≡ core.clause (stmts_view ts (out-CoreClause x).body) (out-CoreClause x).falls_through (clauses_from ts es (n + 1))
  clauses_next es xs n x h l e =
      ap clauses_of (subst (λ (ys : List CoreClause). drop n (map (clause_view ts) ys) ≡ clause_view ts x ∷ drop (n + 1) (map (clause_view ts) ys)) h (drop_here (clause_view ts) xs n x l e))
      ∙ clause_is ts x (clauses_from ts es (n + 1))

  pub clauses_end : (es : CoreClauses) (xs : List CoreClause) (n : ℕ) → xs ≡ (out-CoreClauses es).items.items → length xs ≤ n → clauses_from ts es n ≡ core.no_clauses
  clauses_end es xs n h l = ap clauses_of (subst (λ (ys : List CoreClause). drop n (map (clause_view ts) ys) ≡ []) h (drop_past (clause_view ts) xs n l))

  pub cases_next : (es : CoreCases) (xs : List CoreCase) (n : ℕ) (x : CoreCase) → xs ≡ (out-CoreCases es).items.items → n < length xs → x ≡ get_or xs n x
      → cases_from ts es n ≡ core.case (communication_view ts (out-CoreCase x).communication) (stmts_view ts (out-CoreCase x).body) (cases_from ts es (n + 1))
  cases_next es xs n x h l e =
      ap cases_of (subst (λ (ys : List CoreCase). drop n (map (case_view ts) ys) ≡ case_view ts x ∷ drop (n + 1) (map (case_view ts) ys)) h (drop_here (case_view ts) xs n x l e))
      ∙ case_is ts x (cases_from ts es (n + 1))

  pub cases_end : (es : CoreCases) (xs : List CoreCase) (n : ℕ) → xs ≡ (out-CoreCases es).items.items → length xs ≤ n → cases_from ts es n ≡ core.no_cases
  cases_end es xs n h l = ap cases_of (subst (λ (ys : List CoreCase). drop n (map (case_view ts) ys) ≡ []) h (drop_past (case_view ts) xs n l))

  pub targets_next : (es : Targets) (xs : List Target) (n : ℕ) (x : Target) → xs ≡ es.items.items → n < length xs → x ≡ get_or xs n x
      → targets_from ts es n ≡ target_view ts x ∷ targets_from ts es (n + 1)
  targets_next es xs n x h l e = subst (λ (ys : List Target). drop n (map (target_view ts) ys) ≡ target_view ts x ∷ drop (n + 1) (map (target_view ts) ys)) h (drop_here (target_view ts) xs n x l e)

  pub targets_end : (es : Targets) (xs : List Target) (n : ℕ) → xs ≡ es.items.items → length xs ≤ n → targets_from ts es n ≡ []
  targets_end es xs n h l = subst (λ (ys : List Target). drop n (map (target_view ts) ys) ≡ []) h (drop_past (target_view ts) xs n l)

  -- ---- by the form of the next node

  pub target_next : (es : Targets) (xs : List Target) (n : ℕ) (x y : Target) → xs ≡ es.items.items → n < length xs → x ≡ get_or xs n x → x ≡ y
      → targets_from ts es n ≡ target_view ts y ∷ targets_from ts es (n + 1)
  target_next es xs n x y h l e f = targets_next es xs n x h l e ∙ ap (λ z. target_view ts z ∷ targets_from ts es (n + 1)) f

  pub case_next : (es : CoreCases) (xs : List CoreCase) (n : ℕ) (x : CoreCase) (y : Communication) → xs ≡ (out-CoreCases es).items.items → n < length xs → x ≡ get_or xs n x
      → (out-CoreCase x).communication ≡ y
      → cases_from ts es n ≡ core.case (communication_view ts y) (stmts_view ts (out-CoreCase x).body) (cases_from ts es (n + 1))
  case_next es xs n x y h l e f = cases_next es xs n x h l e ∙ ap (λ z. core.case (communication_view ts z) (stmts_view ts (out-CoreCase x).body) (cases_from ts es (n + 1))) f

  pub clause_next : (es : CoreClauses) (xs : List CoreClause) (n : ℕ) (x : CoreClause) (b : Bool) → xs ≡ (out-CoreClauses es).items.items → n < length xs → x ≡ get_or xs n x
      → (out-CoreClause x).falls_through ≡ b
      → clauses_from ts es n ≡ core.clause (stmts_from ts (out-CoreClause x).body 0) b (clauses_from ts es (n + 1))
  clause_next es xs n x b h l e f =
      clauses_next es xs n x h l e
      ∙ ap (λ (c : Bool). core.clause (stmts_view ts (out-CoreClause x).body) c (clauses_from ts es (n + 1))) f
      ∙ ap (λ (ss : core.Stmts). core.clause ss b (clauses_from ts es (n + 1))) (stmts_whole ts (out-CoreClause x).body)

  -- ---- the one statement at a place, and those after it

  run_in : (xs : List core.Stmt) (n : ℕ) (rest : List Task) → n < length xs
      → opened_at (slice_get xs n) (all_opened (stmts_of (drop (n + 1) xs)) rest) ≡ all_opened (stmts_of (drop n xs)) rest
  run_in [] n rest l = absurd (omega arith)
  run_in (x ∷ xs) zero rest l = refl
  run_in (x ∷ xs) (suc n) rest l = ap (λ k. opened_at (slice_get xs n) (all_opened (stmts_of (drop k (x ∷ xs))) rest)) (next n) ∙ run_in xs n rest (omega arith)
    where
      next : (n : ℕ) → suc n + 1 ≡ suc (n + 1)
      next n = omega arith

  pub run_next : (ss : CoreStmts) (n : ℕ) (rest : List Task) → n < length (out-CoreStmts ss).items.items
      → opened_at (slice_get (stmts_listed ts ss) n) (all_opened (stmts_from ts ss (n + 1)) rest) ≡ all_opened (stmts_from ts ss n) rest
  run_next ss n rest l = let k = length-map (out-CoreStmts ss).items.items (stmt_view ts) in run_in (stmts_listed ts ss) n rest (omega (arith, k))

  weighs_in : (xs : List core.Stmt) (n : ℕ) → n < length xs
      → stmts_weight (stmts_of (drop n xs)) ≡ stmt_weight_at (slice_get xs n) + stmts_weight (stmts_of (drop (n + 1) xs)) + 1
  weighs_in [] n l = absurd (omega arith)
  weighs_in (x ∷ xs) zero l = refl
  weighs_in (x ∷ xs) (suc n) l = weighs_in xs n (omega arith) ∙ ap (λ k. stmt_weight_at (slice_get xs n) + stmts_weight (stmts_of (drop k (x ∷ xs))) + 1) (next n)
    where
      next : (n : ℕ) → suc (n + 1) ≡ suc n + 1
      next n = omega arith

  pub run_smaller : (ss : CoreStmts) (n : ℕ) → n < length (out-CoreStmts ss).items.items
      → stmt_weight_at (slice_get (stmts_listed ts ss) n) + stmts_weight (stmts_from ts ss (n + 1)) + 0 < stmts_weight (stmts_from ts ss n)
  run_smaller ss n l =
      let k = length-map (out-CoreStmts ss).items.items (stmt_view ts) in
      let e = weighs_in (stmts_listed ts ss) n (omega (arith, k)) in
      omega (arith, e)

-- ---- weights

pub two_less : (a b w : ℕ) → w ≡ a + b + 1 → a + b + 0 < w
two_less a b w e = omega arith

pub three_less : (a b c w : ℕ) → w ≡ a + b + c + 1 → a + b + c < w
three_less a b c w e = omega arith

pub one_less : (b w : ℕ) → w ≡ 0 + b + 1 → b + 0 + 0 < w
one_less b w e = omega arith

pub one_of_two : (a b w : ℕ) → w ≡ a + b + 1 → a + 0 + 0 < w
one_of_two a b w e = omega arith
