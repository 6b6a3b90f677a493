-- Each rule on `switch` and `select`.
use Rattle.std.proofs.Common.{◌≡◌, ℕ, true, false, ◌||◌, List, [], ◌∷◌, ◌++◌, refl, sym, ◌∙◌, ap, append_assoc}
use Rattle.gj_base.specs.declared.place.Place.{Place}
use Rattle.go_syntax.specs.Tree as t
use Rattle.go_syntax.specs.Token.{Token}
use Rattle.go_syntax.specs.View.{exprs_of, stmts_of, joined}
use Rattle.go_syntax.specs.declared.kind.TokenKind.{TokenKind}
use Rattle.go_syntax.specs.declared.kind.TokenKind.TheVariants as kind
use Rattle.go_syntax.specs.declared.keyword.Keyword.TheVariants as word
use Rattle.go_syntax.specs.declared.operator.Operator.TheVariants as o
use Rattle.go_grammar.specs.Classes.{IsOp, IsWord, IsSemicolon, written, inserted, place_before}
use Rattle.go_grammar.specs.Frames.{AnExpr, AStmt, OfExpr, OfStmt, OfSwitch, Done, Stack, Operand, Chain, AfterLabel, Subject, OnTag, OnGuard, SwitchPart, InSwitchBraces, Case, ClauseBody}
use Rattle.go_grammar.specs.Limits.{stmts_fit, clauses_fit}
use Rattle.go_grammar.specs.Grammar.{AreExprs, AreStmts, AreClauses, no_clauses, case_clause, default_clause}
use Rattle.go_grammar.specs.Nodes.{is_semicolon, begins_stmt}
use Rattle.go_grammar.specs.Parsed.{run}
use Rattle.go_grammar.specs.StmtSteps.{ends_clause, switch_of}
use Rattle.go_grammar.proofs.Stepping.{ctx, of_kind, run_assoc, first_part, second_part, halts_op}
use Rattle.go_grammar.proofs.Readings.{halted_expr, joined_and}
use Rattle.go_grammar.proofs.ListRules as list
use Rattle.go_grammar.proofs.ListRules.{front_of, last_of, GoesOn}
use Rattle.go_grammar.proofs.OperandRules.{Inside}
use Rattle.go_grammar.proofs.Exprs.{exprs_read}
use Rattle.go_grammar.proofs.StmtReadings.{EndsList, list_close, list_case, list_default}
use Rattle.go_grammar.proofs.StmtRules.{HoldsStmts, Lists, stmts_list, stmts_whole, stmt_starts, begins_stmt_kind}

-- a token that ends the statements of a clause
pub data EndsClause (u : Token) : Type 0 where
  at_case : IsWord word.Case u → EndsClause u
  at_default : IsWord word.Default u → EndsClause u
  at_close : IsOp o.RightBrace u → EndsClause u

pub clause_list : (u : Token) → EndsClause u → EndsList u
clause_list u (at_case h) = list_case h
clause_list u (at_default h) = list_default h
clause_list u (at_close h) = list_close h

pub stmt_no_end : (k : TokenKind) → begins_stmt_kind k ≡ true → (ends_clause (of_kind k) || is_semicolon k) ≡ false
stmt_no_end kind.Semi h = sym h
stmt_no_end kind.Auto h = sym h
stmt_no_end (kind.Op o.RightBrace) h = sym h
stmt_no_end (kind.Word word.Case) h = sym h
stmt_no_end (kind.Word word.Default) h = sym h
stmt_no_end _ h = refl

abbrev pub Clauses : Type 0
Clauses = List (t.Clauses → t.Clauses)

abbrev pub switch_part : ℕ → Place → t.MaybeStmt → Subject → Clauses → SwitchPart
switch_part b at init x items = record { blocks = b; place = at; init = init; subject = x; clauses = items }

clause_begins : (b : ℕ) (p : Place) (init : t.MaybeStmt) (z : Subject) (items : Clauses) (at : Place) (es : List t.Expr) (s : Stack) (xs : List t.Stmt) (u : Token) (us : List Token) → begins_stmt u ≡ true → run (u ∷ us) (OfSwitch (ClauseBody (switch_part b p init z items) at es xs) ∷ s) ≡ run (u ∷ us) (OfStmt (AfterLabel b 0) ∷ OfSwitch (ClauseBody (switch_part b p init z items) at es xs) ∷ s)
clause_begins b p init z items at es s xs u us h =
    let no_end : (ends_clause u || is_semicolon u.kind) ≡ false = stmt_no_end u.kind h in
    stmt_starts u us (OfSwitch (ClauseBody (switch_part b p init z items) at es xs)) s (OfSwitch (ClauseBody (switch_part b p init z items) at es xs) ∷ s) b 0 h (simp no_end)

clause_empty : (x : SwitchPart) (at : Place) (es : List t.Expr) (s : Stack) (xs : List t.Stmt) (u : Token) (us : List Token) → IsSemicolon u → run (u ∷ us) (OfSwitch (ClauseBody x at es xs) ∷ s) ≡ run us (OfSwitch (ClauseBody x at es xs) ∷ s)
clause_empty x at es s xs u us (written h) = simp h
clause_empty x at es s xs u us (inserted h) = simp h

clause_more : (x : SwitchPart) (at : Place) (es : List t.Expr) (s : Stack) (xs : List t.Stmt) (y : t.Stmt) (u : Token) (us : List Token) → IsSemicolon u → run (u ∷ us) (Done (AStmt y) ∷ OfSwitch (ClauseBody x at es xs) ∷ s) ≡ run us (OfSwitch (ClauseBody x at es (xs ++ y ∷ [])) ∷ s)
clause_more x at es s xs y u us (written h) = simp h
clause_more x at es s xs y u us (inserted h) = simp h

clause_over : (x : SwitchPart) (at : Place) (es : List t.Expr) (s : Stack) (xs : List t.Stmt) (y : t.Stmt) (u : Token) (us : List Token) → EndsClause u → run (u ∷ us) (Done (AStmt y) ∷ OfSwitch (ClauseBody x at es xs) ∷ s) ≡ run (u ∷ us) (OfSwitch (ClauseBody x at es (xs ++ y ∷ [])) ∷ s)
clause_over x at es s xs y u us (at_case h) = simp h.word
clause_over x at es s xs y u us (at_default h) = simp h.word
clause_over x at es s xs y u us (at_close h) = simp h.op

clause_holds : (b : ℕ) (p : Place) (init : t.MaybeStmt) (z : Subject) (items : Clauses) (at : Place) (es : List t.Expr) (s : Stack) → HoldsStmts b (λ xs. OfSwitch (ClauseBody (switch_part b p init z items) at es xs)) EndsClause s
clause_holds b p init z items at es s = record {
  begins = clause_begins b p init z items at es s;
  empty = clause_empty (switch_part b p init z items) at es s;
  more = clause_more (switch_part b p init z items) at es s;
  over = clause_over (switch_part b p init z items) at es s;
  ends = clause_list;
}

-- the clause is put to those before it
clause_done : (b : ℕ) (p : Place) (init : t.MaybeStmt) (z : Subject) (items : Clauses) (at : Place) (es : List t.Expr) (xs : List t.Stmt) (s : Stack) (u : Token) (us : List Token) → EndsClause u → run (u ∷ us) (OfSwitch (ClauseBody (switch_part b p init z items) at es xs) ∷ s) ≡ run (u ∷ us) (OfSwitch (InSwitchBraces (switch_part b p init z (items ++ (λ rest. t.MoreClauses at (exprs_of es) (stmts_of xs) rest) ∷ []))) ∷ s)
clause_done b p init z items at es xs s u us (at_case h) = simp h.word
clause_done b p init z items at es xs s u us (at_default h) = simp h.word
clause_done b p init z items at es xs s u us (at_close h) = simp h.op

-- the first token after a clause's statements
record NextClause (at : Place) (ts : List Token) (rest : List Token) : Type 0 where
  pub head : Token
  pub tail : List Token
  pub are : ts ++ rest ≡ head ∷ tail
  pub ends : EndsClause head
  pub place : head.place ≡ place_before ts at

next_clause : (at : Place) (ts : List Token) (cs : t.Clauses) → AreClauses at ts cs → (w : Token) (ws : List Token) → IsOp o.RightBrace w → w.place ≡ at → NextClause at ts (w ∷ ws)
next_clause at _ _ no_clauses w ws hw place = record { head = w; tail = ws; are = refl; ends = at_close hw; place = place }
next_clause at _ _ (case_clause {ts} {us} {vs} {u} {v} hu des hv dss dcs) w ws hw place = record { head = u; tail = ((ts ++ v ∷ us) ++ vs) ++ w ∷ ws; are = refl; ends = at_case hu; place = refl }
next_clause at _ _ (default_clause {us} {vs} {u} {v} hu hv dss dcs) w ws hw place = record { head = u; tail = ((v ∷ us) ++ vs) ++ w ∷ ws; are = refl; ends = at_default hu; place = refl }

abbrev pub switched : Place → t.MaybeStmt → Subject → t.Clauses → t.Stmt
switched at init (OnTag e) cs = t.SwitchStmt at init e cs
switched at init (OnGuard y e) cs = t.TypeSwitchStmt at init y e cs

switch_is : (b : ℕ) (at : Place) (init : t.MaybeStmt) (z : Subject) (items : Clauses) → switch_of (switch_part b at init z items) z ≡ switched at init z (joined items t.NoClauses)
switch_is b at init (OnTag e) items = refl
switch_is b at init (OnGuard y e) items = refl

-- clauses, with the `}` after them
abbrev pub ClausesRead : ℕ → Place → List Token → t.Clauses → Type 0
ClausesRead b at ts cs = clauses_fit b cs ≡ true → (p : Place) (init : t.MaybeStmt) (z : Subject) (items : Clauses) (w : Token) (ws : List Token) (s : Stack) → IsOp o.RightBrace w → w.place ≡ at → run (ts ++ w ∷ ws) (OfSwitch (InSwitchBraces (switch_part b p init z items)) ∷ s) ≡ run ws (Done (AStmt (switched p init z (joined items cs))) ∷ s)

no_clauses_read : (b : ℕ) (at : Place) → ClausesRead b at [] t.NoClauses
no_clauses_read b at fits p init z items w ws s hw place =
    let closed : run (w ∷ ws) (OfSwitch (InSwitchBraces (switch_part b p init z items)) ∷ s) ≡ run ws (Done (AStmt (switch_of (switch_part b p init z items) z)) ∷ s) = simp hw.op in
    closed ∙ ap (λ x. run ws (Done (AStmt x) ∷ s)) (switch_is b p init z items)

-- the statements of a clause, from its `:` on
clause_body : (b : ℕ) → Lists b → (at : Place) (us' vs : List Token) (ss : t.Stmts) (cs : t.Clauses) → AreStmts (place_before vs at) us' ss → AreClauses at vs cs → stmts_fit b ss ≡ true → ClausesRead b at vs cs → clauses_fit b cs ≡ true → (p : Place) (init : t.MaybeStmt) (z : Subject) (items : Clauses) (at' : Place) (es : List t.Expr) (w : Token) (ws : List Token) (s : Stack) → IsOp o.RightBrace w → w.place ≡ at → run ((us' ++ vs) ++ w ∷ ws) (OfSwitch (ClauseBody (switch_part b p init z items) at' es []) ∷ s) ≡ run ws (Done (AStmt (switched p init z (joined items (t.MoreClauses at' (exprs_of es) ss cs)))) ∷ s)
clause_body b lists at us' vs ss cs dss dcs fits ih fits' p init z items at' es w ws s hw place =
    let n = next_clause at vs cs dcs w ws hw place in
    let f = λ (rest : t.Clauses). t.MoreClauses at' (exprs_of es) ss rest in
    let g = λ (rest : t.Clauses). t.MoreClauses at' (exprs_of es) (stmts_of (stmts_list ss)) rest in
    run_assoc us' vs (w ∷ ws) (OfSwitch (ClauseBody (switch_part b p init z items) at' es []) ∷ s)
    ∙ (ap (λ ys. run (us' ++ ys) (OfSwitch (ClauseBody (switch_part b p init z items) at' es []) ∷ s)) n.are
    ∙ (lists (place_before vs at) us' ss dss fits (λ xs. OfSwitch (ClauseBody (switch_part b p init z items) at' es xs)) EndsClause s (clause_holds b p init z items at' es s) [] n.head n.tail n.ends n.place
    ∙ (clause_done b p init z items at' es (stmts_list ss) s n.head n.tail n.ends
    ∙ (ap (λ ys. run ys (OfSwitch (InSwitchBraces (switch_part b p init z (items ++ g ∷ []))) ∷ s)) (sym n.are)
    ∙ (ih fits' p init z (items ++ g ∷ []) w ws s hw place
    ∙ (ap (λ ys. run ws (Done (AStmt (switched p init z ys)) ∷ s)) (joined_and items g cs)
    ∙ ap (λ ys. run ws (Done (AStmt (switched p init z (joined items (t.MoreClauses at' (exprs_of es) ys cs)))) ∷ s)) (stmts_whole ss)))))))

case_goes : (b : ℕ) (p : Place) (init : t.MaybeStmt) (z : Subject) (items : Clauses) (at : Place) (s : Stack) → GoesOn b 0 false (λ es. OfSwitch (Case (switch_part b p init z items) at es)) s
case_goes b p init z items at s fs e v vs hv first = simp hv.op

case_reads : (b : ℕ) → Inside b → Lists b → (at : Place) (ts us' vs : List Token) (es : t.Exprs) (ss : t.Stmts) (cs : t.Clauses) (u v : Token) → IsWord word.Case u → AreExprs false ts es → IsOp o.Colon v → AreStmts (place_before vs at) us' ss → AreClauses at vs cs → ClausesRead b at vs cs → ClausesRead b at (u ∷ ts ++ v ∷ us' ++ vs) (t.MoreClauses u.place es ss cs)
case_reads b i lists at ts us' vs es ss cs u v hu des hv dss dcs ih fits p init z items w ws s hw place =
    let x : SwitchPart = switch_part b p init z items in
    let all : List t.Expr = front_of es ++ last_of es ∷ [] in
    let rest : List Token = (us' ++ vs) ++ w ∷ ws in
    let taken : run (u ∷ (ts ++ v ∷ rest)) (OfSwitch (InSwitchBraces x) ∷ s) ≡ run (ts ++ v ∷ rest) (OfExpr (Operand (ctx 0 b false false)) ∷ OfExpr (Chain (ctx 0 b false false)) ∷ OfSwitch (Case x u.place []) ∷ s) = simp hu.word in
    let colon : run (v ∷ rest) (Done (AnExpr (last_of es)) ∷ OfSwitch (Case x u.place (front_of es)) ∷ s) ≡ run rest (OfSwitch (ClauseBody x u.place all []) ∷ s) = simp hv.op in
    ap (λ ys. run ys (OfSwitch (InSwitchBraces x) ∷ s)) (append_assoc (u ∷ ts ++ v ∷ us') vs (w ∷ ws) ∙ (append_assoc (u ∷ ts) (v ∷ us') (vs ++ w ∷ ws) ∙ ap (λ ys. u ∷ (ts ++ v ∷ ys)) (sym (append_assoc us' vs (w ∷ ws)))))
    ∙ (taken
    ∙ (exprs_read b i des 0 false (first_part _ _ (first_part _ _ fits)) (λ xs. OfSwitch (Case x u.place xs)) [] s (case_goes b p init z items u.place s) v rest (halted_expr false (last_of es) (halts_op hv refl))
    ∙ (colon
    ∙ (clause_body b lists at us' vs ss cs dss dcs (second_part _ _ (first_part _ _ fits)) ih (second_part _ _ fits) p init z items u.place all w ws s hw place
    ∙ ap (λ ys. run ws (Done (AStmt (switched p init z (joined items (t.MoreClauses u.place ys ss cs)))) ∷ s)) (list.exprs_whole des)))))

default_reads : (b : ℕ) → Lists b → (at : Place) (us' vs : List Token) (ss : t.Stmts) (cs : t.Clauses) (u v : Token) → IsWord word.Default u → IsOp o.Colon v → AreStmts (place_before vs at) us' ss → AreClauses at vs cs → ClausesRead b at vs cs → ClausesRead b at (u ∷ v ∷ us' ++ vs) (t.MoreClauses u.place t.NoExprs ss cs)
default_reads b lists at us' vs ss cs u v hu hv dss dcs ih fits p init z items w ws s hw place =
    let x : SwitchPart = switch_part b p init z items in
    let rest : List Token = (us' ++ vs) ++ w ∷ ws in
    let taken : run (u ∷ v ∷ rest) (OfSwitch (InSwitchBraces x) ∷ s) ≡ run rest (OfSwitch (ClauseBody x u.place [] []) ∷ s) = simp (hu.word, hv.op) in
    taken
    ∙ clause_body b lists at us' vs ss cs dss dcs (first_part _ _ fits) ih (second_part _ _ fits) p init z items u.place [] w ws s hw place

pub clauses_read : (b : ℕ) → Inside b → Lists b → {at : Place} {ts : List Token} {cs : t.Clauses} → AreClauses at ts cs → ClausesRead b at ts cs
clauses_read b i lists (no_clauses {at}) = no_clauses_read b at
clauses_read b i lists (case_clause {at} {ts} {us} {vs} {es} {ss} {cs} {u} {v} hu des hv dss dcs) = case_reads b i lists at ts us vs es ss cs u v hu des hv dss dcs (clauses_read b i lists dcs)
clauses_read b i lists (default_clause {at} {us} {vs} {ss} {cs} {u} {v} hu hv dss dcs) = default_reads b lists at us vs ss cs u v hu hv dss dcs (clauses_read b i lists dcs)
