-- What a walk over statements goes down in: a number for each part of a statement, above the numbers of its own parts.
use Rattle.std.proofs.Common.{arith, ◌≡◌, ◌<◌, ◌+◌, ℕ, zero, suc, sym, subst, List, [], ◌∷◌, map, length, get_or}
use Rattle.std.specs.Prelude.{Option, Some, None, option_map, Vec}
use Rattle.std.specs.declared.alloc.Global.{Global}
use Rattle.go_syntax.specs.Tree as t
use Rattle.go_syntax.specs.View.{expr_view, maybe_expr, maybe_stmt, stmt_view, stmts_of, block_view, clause_view, joined}
use Rattle.go_syntax.specs.declared.tree.Stmt.{Stmt}
use Rattle.go_syntax.specs.declared.tree.Expr.{Expr}
use Rattle.go_syntax.specs.declared.tree.Name.{Name}
use Rattle.go_syntax.specs.declared.tree.Block.{Block, out-Block}
use Rattle.go_syntax.specs.declared.tree.Clause.{Clause, out-Clause}
use Rattle.go_syntax.specs.declared.tree.StmtForm.{StmtForm}
use Rattle.go_syntax.specs.declared.tree.StmtForm.TheVariants as form
use Rattle.go_body.proofs.ViewLemmas.{view_Block, view_If, view_For, view_Switch, view_Labeled, block_whole, clause_whole}

abbrev mutual
  pub stmt_size : t.Stmt → ℕ
  stmt_size (t.BlockStmt at b) = block_size b + 1
  stmt_size (t.IfStmt at init x b other) = maybe_size init + block_size b + maybe_size other + 2
  stmt_size (t.ForStmt at init x post b) = maybe_size init + maybe_size post + block_size b + 3
  stmt_size (t.SwitchStmt at init x cs) = maybe_size init + clauses_size cs + 2
  stmt_size (t.LabeledStmt at n s) = stmt_size s + 1
  stmt_size _ = 0

  pub maybe_size : t.MaybeStmt → ℕ
  maybe_size t.NoStmt = 0
  maybe_size (t.AStmt s) = stmt_size s + 1

  pub block_size : t.Block → ℕ
  block_size (t.BlockOf at ss end) = stmts_size ss + 2

  pub stmts_size : t.Stmts → ℕ
  stmts_size t.NoStmts = 0
  stmts_size (t.MoreStmts s ss) = stmt_size s + stmts_size ss + 1

  pub clauses_size : t.Clauses → ℕ
  clauses_size t.NoClauses = 0
  clauses_size (t.MoreClauses at xs ss cs) = stmts_size ss + clauses_size cs + 3

abbrev pub of_maybe : Option Stmt → ℕ
of_maybe o = maybe_size (maybe_stmt (option_map stmt_view o))

abbrev pub of_stmts : List Stmt → ℕ
of_stmts ss = stmts_size (stmts_of (map stmt_view ss))

abbrev pub of_clauses : List Clause → ℕ
of_clauses cs = clauses_size (joined (map clause_view cs) t.NoClauses)

-- ---- numbers

one_more : (a : ℕ) → a < a + 1
one_more a = omega arith

one_of_three : (a b c : ℕ) → a + b + c + 1 < a + b + c + 2
one_of_three a b c = omega arith

two_of_three : (a b c : ℕ) → a + b + c + 2 < a + b + c + 3
two_of_three a b c = omega arith

one_of_two : (a b : ℕ) → a + b + 1 < a + b + 2
one_of_two a b = omega arith

first_of : (a b : ℕ) → a < a + b + 1
first_of a b = omega arith

later_of : (a b c : ℕ) → a < b → a < c + b + 1
later_of a b c h = omega (arith, h)

first_clause : (a b : ℕ) → a + 2 < a + b + 3
first_clause a b = omega arith

later_clause : (a b c : ℕ) → a < b → a < c + b + 3
later_clause a b c h = omega (arith, h)

fewer : (i n : ℕ) → suc i < suc n → i < n
fewer i n h = omega (arith, h)

end_of : (a : ℕ) → a + 1 < a + 2
end_of a = omega arith

-- ---- the forms of a statement

module _ (s : Stmt) (x : StmtForm) where
  pub block_less : (b : Block) → x ≡ s.form.value → x ≡ form.Block b → block_size (block_view b) < stmt_size (stmt_view s)
  block_less b p e = subst (λ (y : t.Stmt). block_size (block_view b) < stmt_size y) (sym (view_Block s x b p e)) (one_more (block_size (block_view b)))

  pub if_less : (init : Option Stmt) (y : Expr) (b : Block) (other : Option Stmt) → x ≡ s.form.value → x ≡ form.If init y b other → of_maybe init + block_size (block_view b) + of_maybe other + 1 < stmt_size (stmt_view s)
  if_less init y b other p e =
      subst (λ (z : t.Stmt). of_maybe init + block_size (block_view b) + of_maybe other + 1 < stmt_size z) (sym (view_If s x init y b other p e)) (one_of_three (of_maybe init) (block_size (block_view b)) (of_maybe other))

  pub for_less : (init : Option Stmt) (y : Option Expr) (post : Option Stmt) (b : Block) → x ≡ s.form.value → x ≡ form.For init y post b → of_maybe init + of_maybe post + block_size (block_view b) + 2 < stmt_size (stmt_view s)
  for_less init y post b p e =
      subst (λ (z : t.Stmt). of_maybe init + of_maybe post + block_size (block_view b) + 2 < stmt_size z) (sym (view_For s x init y post b p e)) (two_of_three (of_maybe init) (of_maybe post) (block_size (block_view b)))

  pub switch_less : (init : Option Stmt) (y : Option Expr) (cs : List Clause) (b : Vec Clause Global) → x ≡ s.form.value → x ≡ form.Switch init y b → cs ≡ b.items → of_maybe init + of_clauses cs + 1 < stmt_size (stmt_view s)
  switch_less init y cs b p e q =
      subst (λ (zs : List Clause). of_maybe init + of_clauses zs + 1 < stmt_size (stmt_view s)) (sym q)
      (subst (λ (z : t.Stmt). of_maybe init + of_clauses b.items + 1 < stmt_size z) (sym (view_Switch s x init y b p e)) (one_of_two (of_maybe init) (of_clauses b.items)))

  pub label_less : (l : Name) (r : Stmt) → x ≡ s.form.value → x ≡ form.Labeled l r → stmt_size (stmt_view r) < stmt_size (stmt_view s)
  label_less l r p e = subst (λ (z : t.Stmt). stmt_size (stmt_view r) < stmt_size z) (sym (view_Labeled s x l r p e)) (one_more (stmt_size (stmt_view r)))

-- ---- lists

pub some_less : (o : Option Stmt) (s : Stmt) → o ≡ Some s → stmt_size (stmt_view s) < of_maybe o
some_less o s e = subst (λ (z : Option Stmt). stmt_size (stmt_view s) < of_maybe z) (sym e) (one_more (stmt_size (stmt_view s)))

stmt_at : (ss : List Stmt) (i : ℕ) (d : Stmt) → i < length ss → stmt_size (stmt_view (get_or ss i d)) < of_stmts ss
stmt_at [] i d l = absurd (omega (arith, l))
stmt_at (s ∷ ss) zero d l = first_of (stmt_size (stmt_view s)) (of_stmts ss)
stmt_at (s ∷ ss) (suc i) d l = later_of (stmt_size (stmt_view (get_or ss i d))) (of_stmts ss) (stmt_size (stmt_view s)) (stmt_at ss i d (fewer i (length ss) l))

pub stmt_less : (ss : List Stmt) (i : ℕ) (s : Stmt) → s ≡ get_or ss i s → i < length ss → stmt_size (stmt_view s) < of_stmts ss
stmt_less ss i s e l = subst (λ (z : Stmt). stmt_size (stmt_view z) < of_stmts ss) (sym e) (stmt_at ss i s l)

pub block_parts : (b : Block) (ss : List Stmt) → ss ≡ (out-Block b).stmts.items → of_stmts ss + 1 < block_size (block_view b)
block_parts b ss e =
    subst (λ (zs : List Stmt). of_stmts zs + 1 < block_size (block_view b)) (sym e)
    (subst (λ (z : t.Block). of_stmts (out-Block b).stmts.items + 1 < block_size z) (sym (block_whole b)) (end_of (of_stmts (out-Block b).stmts.items)))

clause_first : (c : Clause) (rest : t.Clauses) → of_stmts (out-Clause c).body.items + 2 < clauses_size (clause_view c rest)
clause_first c rest = subst (λ (z : t.Clauses). of_stmts (out-Clause c).body.items + 2 < clauses_size z) (sym (clause_whole c rest)) (first_clause (of_stmts (out-Clause c).body.items) (clauses_size rest))

clause_later : (n : ℕ) (c : Clause) (rest : t.Clauses) → n < clauses_size rest → n < clauses_size (clause_view c rest)
clause_later n c rest h = subst (λ (z : t.Clauses). n < clauses_size z) (sym (clause_whole c rest)) (later_clause n (clauses_size rest) (of_stmts (out-Clause c).body.items) h)

clause_at : (cs : List Clause) (i : ℕ) (d : Clause) → i < length cs → of_stmts (out-Clause (get_or cs i d)).body.items + 2 < of_clauses cs
clause_at [] i d l = absurd (omega (arith, l))
clause_at (c ∷ cs) zero d l = clause_first c (joined (map clause_view cs) t.NoClauses)
clause_at (c ∷ cs) (suc i) d l = clause_later (of_stmts (out-Clause (get_or cs i d)).body.items + 2) c (joined (map clause_view cs) t.NoClauses) (clause_at cs i d (fewer i (length cs) l))

pub clause_less : (cs : List Clause) (i : ℕ) (c : Clause) → c ≡ get_or cs i c → i < length cs → of_stmts (out-Clause c).body.items + 2 < of_clauses cs
clause_less cs i c e l = subst (λ (z : Clause). of_stmts (out-Clause z).body.items + 2 < of_clauses cs) (sym e) (clause_at cs i c l)

pub clause_parts : (c : Clause) (ss : List Stmt) → ss ≡ (out-Clause c).body.items → of_stmts ss + 1 < of_stmts (out-Clause c).body.items + 2
clause_parts c ss e = subst (λ (zs : List Stmt). of_stmts zs + 1 < of_stmts (out-Clause c).body.items + 2) (sym e) (end_of (of_stmts (out-Clause c).body.items))
