-- Short words for the rows: bodies of functions with their places, and what is told of them.
use Rattle.std.specs.Prelude.{ℕ, zero, suc, codes, List, [], ◌∷◌, false, Some, None}
use Rattle.go_syntax.specs.Tree as t
use Rattle.go_syntax.specs.declared.tree.Name.{Name}
use Rattle.go_type.specs.Tree.{Tys, no_tys}
use Rattle.go_core.specs.CoreTree as core
use Rattle.go_typing.specs.Env.{universe}
use Rattle.go_typing.specs.Answer.{Flaw}
use Rattle.go_typing.specs.TypingRowWords.{at, names, declared, exprs}
use Rattle.go_typing.specs.Walk.{Walk, Around}
use Rattle.go_typing.specs.Statements.{function_body}

abbrev pub stmts : List t.Stmt → t.Stmts
stmts [] = t.NoStmts
stmts (s ∷ ss) = t.MoreStmts s (stmts ss)

-- a block by the offsets of its braces
abbrev pub block : ℕ → List t.Stmt → ℕ → t.Block
block n ss m = t.BlockOf (at n) (stmts ss) (at m)

abbrev pub id : List ℕ → ℕ → Name
id x n = record { place = at n; text = x }

-- a clause of a switch before the others
abbrev pub clause : ℕ → List t.Expr → List t.Stmt → t.Clauses → t.Clauses
clause n xs ss cs = t.MoreClauses (at n) (exprs xs) (stmts ss) cs

-- names with their type and their values, before others
abbrev pub spec : List Name → t.MaybeExpr → List t.Expr → t.ValueSpecs → t.ValueSpecs
spec ns u xs vs = t.MoreValues ns u (exprs xs) vs

-- the variables of the rows of expressions are declared outside; the function's own scope is empty
abbrev pub start : Walk
start = record { names = names; scopes = universe None ∷ declared ∷ [] ∷ []; next = 20; next_label = 0; vars = []; declared = []; used = []; lost = 0 }

abbrev pub around : Tys → Around
around rs = record { results = Some rs; named_results = false; targets = []; label = None; wrong_labels = []; too_far = None }

-- in a function with these results
-- so many clauses `case b:`, before the others
abbrev pub clauses_like : ℕ → t.Clauses → t.Clauses
clauses_like zero cs = cs
clauses_like (suc n) cs = clause 0 (t.NameExpr (at 0) (codes "b") ∷ []) [] (clauses_like n cs)

abbrev pub told_in : Tys → t.Block → List Flaw
told_in rs b = (function_body b (around rs) start).flaws

abbrev pub told : t.Block → List Flaw
told b = told_in no_tys b

abbrev pub core_of : t.Block → List core.Stmt
core_of b = (function_body b (around no_tys) start).core
