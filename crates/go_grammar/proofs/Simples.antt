-- Simple statements are read; where one stands in a header, from its first token on.
use Rattle.std.proofs.Common.{◌≡◌, ℕ, Bool, true, false, not, ◌&&◌, ◌||◌, List, [], ◌∷◌, ◌++◌, refl, ◌∙◌, ap}
use Rattle.std.proofs.lemmas.Bool.{and_right}
use Rattle.go_syntax.specs.Tree as t
use Rattle.go_syntax.specs.Token.{Token}
use Rattle.go_syntax.specs.declared.operator.Operator.TheVariants as o
use Rattle.go_grammar.specs.Classes.{place_of}
use Rattle.go_grammar.specs.Context.{wants_brace}
use Rattle.go_grammar.specs.Limits.{expr_fits, stmt_fits, labels}
use Rattle.go_grammar.specs.Frames.{Mode, AStmt, OfExpr, OfStmt, Done, Stack, Operand, Chain, Simple}
use Rattle.go_grammar.specs.Grammar.{IsExpr, one_expr, IsSimple, exprs_stmt, assign, op_assign, define, send, increment, decrement}
use Rattle.go_grammar.specs.Nodes.{is_op, begins_expr}
use Rattle.go_grammar.specs.Parsed.{run}
use Rattle.go_grammar.specs.StmtSteps.{takes_guard, is_tag, is_listed}
use Rattle.go_grammar.proofs.Stepping.{ctx}
use Rattle.go_grammar.proofs.Starting.{first_is, first_of_more}
use Rattle.go_grammar.proofs.Readings.{ExprReads}
use Rattle.go_grammar.proofs.Begins.{place_of_more}
use Rattle.go_grammar.proofs.ChainRules as chain
use Rattle.go_grammar.proofs.ListRules as list
use Rattle.go_grammar.proofs.OperandRules.{Inside}
use Rattle.go_grammar.proofs.Exprs.{level_reads, exprs_read, exprs_first}
use Rattle.go_grammar.proofs.SimpleRules as rule
use Rattle.go_grammar.proofs.StmtReadings.{EndsStmt, StmtBraceMay, spot, SimpleReads}

-- an expression of any level
pub one_reads : (b : ℕ) → Inside b → (h : Bool) (ts : List Token) (e : t.Expr) → IsExpr 1 h ts e → ExprReads b h ts e
one_reads b i h ts e d = chain.expr_reads b h ts e (level_reads b i d)

pub simple_reads : (b : ℕ) → Inside b → {h : Bool} {ts : List Token} {x : t.Stmt} → IsSimple h ts x → SimpleReads b h ts x
simple_reads b i (exprs_stmt {h} {ts} {es} d) = rule.exprs_stmt_reads b h ts es d (list.exprs_whole d) (exprs_read b i d)
simple_reads b i (assign {h} {ts} {us} {xs} {ys} {u} d x d') = rule.assign_reads b h ts us xs ys u (list.exprs_whole d) (exprs_read b i d) x (exprs_first d') d' (list.exprs_whole d') (exprs_read b i d') (place_of_more begins_expr ts (u ∷ us) (exprs_first d))
simple_reads b i (op_assign {h} {ts} {us} {xs} {ys} {u} op d x d') = rule.op_assign_reads b h ts us xs ys u op (list.exprs_whole d) (exprs_read b i d) x d' (list.exprs_whole d') (exprs_read b i d') (place_of_more begins_expr ts (u ∷ us) (exprs_first d))
simple_reads b i (define {h} {ts} {us} {xs} {ys} {u} d x d') = rule.define_reads b h ts us xs ys u (list.exprs_whole d) (exprs_read b i d) x (exprs_first d') d' (list.exprs_whole d') (exprs_read b i d') (place_of_more begins_expr ts (u ∷ us) (exprs_first d))
simple_reads b i (send {h} {ts} {us} {cs} {e} {u} d may x d') = rule.send_reads b h ts us cs e u d (list.exprs_whole d) (exprs_read b i d) may x (one_reads b i h us e d') (place_of_more begins_expr ts (u ∷ us) (exprs_first d))
simple_reads b i (increment {h} {ts} {es} {u} d x) = rule.increment_reads b h ts es u (list.exprs_whole d) (exprs_read b i d) x (place_of_more begins_expr ts (u ∷ []) (exprs_first d))
simple_reads b i (decrement {h} {ts} {es} {u} d x) = rule.decrement_reads b h ts es u (list.exprs_whole d) (exprs_read b i d) x (place_of_more begins_expr ts (u ∷ []) (exprs_first d))

pub simple_first : {h : Bool} {ts : List Token} {x : t.Stmt} → IsSimple h ts x → first_is begins_expr ts ≡ true
simple_first (exprs_stmt d) = exprs_first d
simple_first (assign {ts} {us} {u} d x d') = first_of_more begins_expr ts (u ∷ us) (exprs_first d)
simple_first (op_assign {ts} {us} {u} op d x d') = first_of_more begins_expr ts (u ∷ us) (exprs_first d)
simple_first (define {ts} {us} {u} d x d') = first_of_more begins_expr ts (u ∷ us) (exprs_first d)
simple_first (send {ts} {us} {u} d may x d') = first_of_more begins_expr ts (u ∷ us) (exprs_first d)
simple_first (increment {ts} {u} d x) = first_of_more begins_expr ts (u ∷ []) (exprs_first d)
simple_first (decrement {ts} {u} d x) = first_of_more begins_expr ts (u ∷ []) (exprs_first d)

pub simple_labels : {h : Bool} {ts : List Token} {x : t.Stmt} → IsSimple h ts x → labels x ≡ 0
simple_labels (exprs_stmt d) = refl
simple_labels (assign d x d') = refl
simple_labels (op_assign op d x d') = refl
simple_labels (define d x d') = refl
simple_labels (send d may x d') = refl
simple_labels (increment d x) = refl
simple_labels (decrement d x) = refl

-- the stack begins a simple statement at a token
abbrev pub StartsSimple : ℕ → Bool → Mode → Stack → Stack → Type 0
StartsSimple b h m s s' = (u : Token) (us : List Token) → begins_expr u.kind ≡ true → run (u ∷ us) s ≡ run (u ∷ us) (OfExpr (Operand (ctx 0 b h (takes_guard m))) ∷ OfExpr (Chain (ctx 0 b h (takes_guard m))) ∷ OfStmt (Simple (spot b h m u.place) []) ∷ s')

simple_from : (b : ℕ) (h : Bool) (ts : List Token) (x : t.Stmt) → first_is begins_expr ts ≡ true → SimpleReads b h ts x → stmt_fits b x ≡ true → (m : Mode) → is_tag m ≡ false → is_listed m ≡ false → (s s' : Stack) → StartsSimple b h m s s' → (u : Token) (us : List Token) → EndsStmt u → StmtBraceMay h x u → run (ts ++ u ∷ us) s ≡ run (u ∷ us) (Done (AStmt x) ∷ s')
simple_from b h [] x first ih fits m plain unlisted s s' starts u us hu brace = cc
simple_from b h (v ∷ ts) x first ih fits m plain unlisted s s' starts u us hu brace =
    starts v (ts ++ u ∷ us) first ∙ ih fits m plain u us s' hu (and_right _ _ unlisted) brace

pub simple_in : (b : ℕ) → Inside b → {h : Bool} {ts : List Token} {x : t.Stmt} → IsSimple h ts x → stmt_fits b x ≡ true → (m : Mode) → is_tag m ≡ false → is_listed m ≡ false → (s s' : Stack) → StartsSimple b h m s s' → (u : Token) (us : List Token) → EndsStmt u → StmtBraceMay h x u → run (ts ++ u ∷ us) s ≡ run (u ∷ us) (Done (AStmt x) ∷ s')
simple_in b i {h} {ts} {x} d fits m plain unlisted s s' starts u us hu brace = simple_from b h ts x (simple_first d) (simple_reads b i d) fits m plain unlisted s s' starts u us hu brace

-- an expression in its place
pub expr_in_simple : (b : ℕ) → Inside b → {h : Bool} {ts : List Token} {e : t.Expr} → IsExpr 1 h ts e → expr_fits b 0 e ≡ true → (m : Mode) → is_tag m ≡ false → is_listed m ≡ false → (s s' : Stack) → StartsSimple b h m s s' → (u : Token) (us : List Token) → EndsStmt u → (is_op o.LeftBrace u && (not h || wants_brace e)) ≡ false → run (ts ++ u ∷ us) s ≡ run (u ∷ us) (Done (AStmt (t.ExprStmt (place_of ts) (t.MoreExprs e t.NoExprs))) ∷ s')
expr_in_simple b i {h} {ts} {e} d fits m plain unlisted s s' starts u us hu brace =
    simple_in b i {h = h} {ts = ts} {x = t.ExprStmt (place_of ts) (t.MoreExprs e t.NoExprs)} (exprs_stmt (one_expr d)) (ap (λ x. x && true) fits) m plain unlisted s s' starts u us hu brace
