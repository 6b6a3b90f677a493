-- Each rule on `select`.
use Rattle.std.proofs.Common.{◌≡◌, ◌≤◌, ◌+◌, ℕ, true, false, ◌||◌, List, [], ◌∷◌, ◌++◌, refl, sym, ◌∙◌, ap, append_assoc, arith}
use Rattle.std.proofs.lemmas.Bool.{and_left}
use Rattle.gj_base.specs.declared.place.Place.{Place}
use Rattle.go_syntax.specs.Tree as t
use Rattle.go_syntax.specs.Token.{Token}
use Rattle.go_syntax.specs.View.{stmts_of, joined}
use Rattle.go_syntax.specs.declared.keyword.Keyword.TheVariants as word
use Rattle.go_syntax.specs.declared.operator.Operator.TheVariants as o
use Rattle.go_grammar.specs.Classes.{IsOp, IsWord, IsSemicolon, written, inserted, place_before}
use Rattle.go_grammar.specs.Frames.{Headed, AStmt, OfStmt, OfSwitch, Done, Stack, Simple, AfterLabel, SelectPart, InSelect, CommCase, CommBody}
use Rattle.go_grammar.specs.Limits.{has_room, stmts_fit, comms_fit}
use Rattle.go_grammar.specs.Grammar.{AreStmts, IsSimple, AreComms, no_comms, case_comm, default_comm}
use Rattle.go_grammar.specs.Nodes.{is_op, is_semicolon, begins_stmt}
use Rattle.go_grammar.specs.Parsed.{run}
use Rattle.go_grammar.specs.StmtSteps.{ends_clause}
use Rattle.go_grammar.proofs.Stepping.{ctx, of_kind, run_assoc, first_part, second_part}
use Rattle.go_grammar.proofs.Starting.{starts_expr}
use Rattle.go_grammar.proofs.Readings.{joined_and}
use Rattle.go_grammar.proofs.OperandRules.{Inside}
use Rattle.go_grammar.proofs.Simples.{StartsSimple, simple_in}
use Rattle.go_grammar.proofs.StmtReadings.{ends_colon, spot}
use Rattle.go_grammar.proofs.StmtRules.{StmtReads, HoldsStmts, Lists, Below, inside_of, stmts_list, stmts_whole, stmt_starts}
use Rattle.go_grammar.proofs.SwitchRules.{EndsClause, at_case, at_default, at_close, clause_list, stmt_no_end}

abbrev Comms : Type 0
Comms = List (t.Comms → t.Comms)

abbrev select_part : ℕ → Place → Comms → SelectPart
select_part b at items = record { blocks = b; place = at; comms = items }

comm_begins : (b : ℕ) (p : Place) (items : Comms) (at : Place) (z : t.MaybeStmt) (s : Stack) (xs : List t.Stmt) (u : Token) (us : List Token) → begins_stmt u ≡ true → run (u ∷ us) (OfSwitch (CommBody (select_part b p items) at z xs) ∷ s) ≡ run (u ∷ us) (OfStmt (AfterLabel b 0) ∷ OfSwitch (CommBody (select_part b p items) at z xs) ∷ s)
comm_begins b p items at z s xs u us h =
    let no_end : (ends_clause u || is_semicolon u.kind) ≡ false = stmt_no_end u.kind h in
    stmt_starts u us (OfSwitch (CommBody (select_part b p items) at z xs)) s (OfSwitch (CommBody (select_part b p items) at z xs) ∷ s) b 0 h (simp no_end)

comm_empty : (x : SelectPart) (at : Place) (z : t.MaybeStmt) (s : Stack) (xs : List t.Stmt) (u : Token) (us : List Token) → IsSemicolon u → run (u ∷ us) (OfSwitch (CommBody x at z xs) ∷ s) ≡ run us (OfSwitch (CommBody x at z xs) ∷ s)
comm_empty x at z s xs u us (written h) = simp h
comm_empty x at z s xs u us (inserted h) = simp h

comm_more : (x : SelectPart) (at : Place) (z : t.MaybeStmt) (s : Stack) (xs : List t.Stmt) (y : t.Stmt) (u : Token) (us : List Token) → IsSemicolon u → run (u ∷ us) (Done (AStmt y) ∷ OfSwitch (CommBody x at z xs) ∷ s) ≡ run us (OfSwitch (CommBody x at z (xs ++ y ∷ [])) ∷ s)
comm_more x at z s xs y u us (written h) = simp h
comm_more x at z s xs y u us (inserted h) = simp h

comm_over : (x : SelectPart) (at : Place) (z : t.MaybeStmt) (s : Stack) (xs : List t.Stmt) (y : t.Stmt) (u : Token) (us : List Token) → EndsClause u → run (u ∷ us) (Done (AStmt y) ∷ OfSwitch (CommBody x at z xs) ∷ s) ≡ run (u ∷ us) (OfSwitch (CommBody x at z (xs ++ y ∷ [])) ∷ s)
comm_over x at z s xs y u us (at_case h) = simp h.word
comm_over x at z s xs y u us (at_default h) = simp h.word
comm_over x at z s xs y u us (at_close h) = simp h.op

comm_holds : (b : ℕ) (p : Place) (items : Comms) (at : Place) (z : t.MaybeStmt) (s : Stack) → HoldsStmts b (λ xs. OfSwitch (CommBody (select_part b p items) at z xs)) EndsClause s
comm_holds b p items at z s = record {
  begins = comm_begins b p items at z s;
  empty = comm_empty (select_part b p items) at z s;
  more = comm_more (select_part b p items) at z s;
  over = comm_over (select_part b p items) at z s;
  ends = clause_list;
}

comm_done : (b : ℕ) (p : Place) (items : Comms) (at : Place) (z : t.MaybeStmt) (xs : List t.Stmt) (s : Stack) (u : Token) (us : List Token) → EndsClause u → run (u ∷ us) (OfSwitch (CommBody (select_part b p items) at z xs) ∷ s) ≡ run (u ∷ us) (OfSwitch (InSelect (select_part b p (items ++ (λ rest. t.MoreComms at z (stmts_of xs) rest) ∷ []))) ∷ s)
comm_done b p items at z xs s u us (at_case h) = simp h.word
comm_done b p items at z xs s u us (at_default h) = simp h.word
comm_done b p items at z xs s u us (at_close h) = simp h.op

-- the first token after a clause's statements
record NextComm (at : Place) (ts : List Token) (rest : List Token) : Type 0 where
  pub head : Token
  pub tail : List Token
  pub are : ts ++ rest ≡ head ∷ tail
  pub ends : EndsClause head
  pub place : head.place ≡ place_before ts at

next_comm : (at : Place) (ts : List Token) (cs : t.Comms) → AreComms at ts cs → (w : Token) (ws : List Token) → IsOp o.RightBrace w → w.place ≡ at → NextComm at ts (w ∷ ws)
next_comm at _ _ no_comms w ws hw place = record { head = w; tail = ws; are = refl; ends = at_close hw; place = place }
next_comm at _ _ (case_comm {ts} {us} {vs} {u} {v} hu des hv dss dcs) w ws hw place = record { head = u; tail = ((ts ++ v ∷ us) ++ vs) ++ w ∷ ws; are = refl; ends = at_case hu; place = refl }
next_comm at _ _ (default_comm {us} {vs} {u} {v} hu hv dss dcs) w ws hw place = record { head = u; tail = ((v ∷ us) ++ vs) ++ w ∷ ws; are = refl; ends = at_default hu; place = refl }

-- clauses, with the `}` after them
abbrev CommsRead : ℕ → Place → List Token → t.Comms → Type 0
CommsRead b at ts cs = comms_fit b cs ≡ true → (p : Place) (items : Comms) (w : Token) (ws : List Token) (s : Stack) → IsOp o.RightBrace w → w.place ≡ at → run (ts ++ w ∷ ws) (OfSwitch (InSelect (select_part b p items)) ∷ s) ≡ run ws (Done (AStmt (t.SelectStmt p (joined items cs))) ∷ s)

no_comms_read : (b : ℕ) (at : Place) → CommsRead b at [] t.NoComms
no_comms_read b at fits p items w ws s hw place = simp hw.op

comm_body : (b : ℕ) → Lists b → (at : Place) (us' vs : List Token) (ss : t.Stmts) (cs : t.Comms) → AreStmts (place_before vs at) us' ss → AreComms at vs cs → stmts_fit b ss ≡ true → CommsRead b at vs cs → comms_fit b cs ≡ true → (p : Place) (items : Comms) (at' : Place) (z : t.MaybeStmt) (w : Token) (ws : List Token) (s : Stack) → IsOp o.RightBrace w → w.place ≡ at → run ((us' ++ vs) ++ w ∷ ws) (OfSwitch (CommBody (select_part b p items) at' z []) ∷ s) ≡ run ws (Done (AStmt (t.SelectStmt p (joined items (t.MoreComms at' z ss cs)))) ∷ s)
comm_body b lists at us' vs ss cs dss dcs fits ih fits' p items at' z w ws s hw place =
    let n = next_comm at vs cs dcs w ws hw place in
    let g = λ (rest : t.Comms). t.MoreComms at' z (stmts_of (stmts_list ss)) rest in
    run_assoc us' vs (w ∷ ws) (OfSwitch (CommBody (select_part b p items) at' z []) ∷ s)
    ∙ (ap (λ ys. run (us' ++ ys) (OfSwitch (CommBody (select_part b p items) at' z []) ∷ s)) n.are
    ∙ (lists (place_before vs at) us' ss dss fits (λ xs. OfSwitch (CommBody (select_part b p items) at' z xs)) EndsClause s (comm_holds b p items at' z s) [] n.head n.tail n.ends n.place
    ∙ (comm_done b p items at' z (stmts_list ss) s n.head n.tail n.ends
    ∙ (ap (λ ys. run ys (OfSwitch (InSelect (select_part b p (items ++ g ∷ []))) ∷ s)) (sym n.are)
    ∙ (ih fits' p (items ++ g ∷ []) w ws s hw place
    ∙ (ap (λ ys. run ws (Done (AStmt (t.SelectStmt p ys)) ∷ s)) (joined_and items g cs)
    ∙ ap (λ ys. run ws (Done (AStmt (t.SelectStmt p (joined items (t.MoreComms at' z ys cs)))) ∷ s)) (stmts_whole ss)))))))

comm_starts : (b : ℕ) (p : Place) (items : Comms) (at : Place) (s : Stack) → StartsSimple b false Headed (OfSwitch (CommCase (select_part b p items) at) ∷ s) (OfSwitch (CommCase (select_part b p items) at) ∷ s)
comm_starts b p items at s u us first = starts_expr u us (OfSwitch (CommCase (select_part b p items) at)) s (OfStmt (Simple (spot b false Headed u.place) []) ∷ OfSwitch (CommCase (select_part b p items) at) ∷ s) (ctx 0 b false false) refl

colon_no_brace : {u : Token} → IsOp o.Colon u → is_op o.LeftBrace u ≡ false
colon_no_brace h = ap (λ k. is_op o.LeftBrace (of_kind k)) h.op

case_comm_reads : (b : ℕ) → Inside b → Lists b → (at : Place) (ts us' vs : List Token) (x : t.Stmt) (ss : t.Stmts) (cs : t.Comms) (u v : Token) → IsWord word.Case u → IsSimple false ts x → IsOp o.Colon v → AreStmts (place_before vs at) us' ss → AreComms at vs cs → CommsRead b at vs cs → CommsRead b at (u ∷ ts ++ v ∷ us' ++ vs) (t.MoreComms u.place (t.AStmt x) ss cs)
case_comm_reads b i lists at ts us' vs x ss cs u v hu dx hv dss dcs ih fits p items w ws s hw place =
    let y : SelectPart = select_part b p items in
    let rest : List Token = (us' ++ vs) ++ w ∷ ws in
    let taken : run (u ∷ (ts ++ v ∷ rest)) (OfSwitch (InSelect y) ∷ s) ≡ run (ts ++ v ∷ rest) (OfSwitch (CommCase y u.place) ∷ s) = simp hu.word in
    let colon : run (v ∷ rest) (Done (AStmt x) ∷ OfSwitch (CommCase y u.place) ∷ s) ≡ run rest (OfSwitch (CommBody y u.place (t.AStmt x) []) ∷ s) = simp hv.op in
    ap (λ ys. run ys (OfSwitch (InSelect y) ∷ s)) (append_assoc (u ∷ ts ++ v ∷ us') vs (w ∷ ws) ∙ (append_assoc (u ∷ ts) (v ∷ us') (vs ++ w ∷ ws) ∙ ap (λ ys. u ∷ (ts ++ v ∷ ys)) (sym (append_assoc us' vs (w ∷ ws)))))
    ∙ (taken
    ∙ (simple_in b i dx (first_part _ _ (first_part _ _ fits)) Headed refl refl (OfSwitch (CommCase y u.place) ∷ s) (OfSwitch (CommCase y u.place) ∷ s) (comm_starts b p items u.place s) v rest (ends_colon hv) (and_left _ _ (colon_no_brace hv))
    ∙ (colon
    ∙ comm_body b lists at us' vs ss cs dss dcs (second_part _ _ (first_part _ _ fits)) ih (second_part _ _ fits) p items u.place (t.AStmt x) w ws s hw place)))

default_comm_reads : (b : ℕ) → Lists b → (at : Place) (us' vs : List Token) (ss : t.Stmts) (cs : t.Comms) (u v : Token) → IsWord word.Default u → IsOp o.Colon v → AreStmts (place_before vs at) us' ss → AreComms at vs cs → CommsRead b at vs cs → CommsRead b at (u ∷ v ∷ us' ++ vs) (t.MoreComms u.place t.NoStmt ss cs)
default_comm_reads b lists at us' vs ss cs u v hu hv dss dcs ih fits p items w ws s hw place =
    let y : SelectPart = select_part b p items in
    let rest : List Token = (us' ++ vs) ++ w ∷ ws in
    let taken : run (u ∷ v ∷ rest) (OfSwitch (InSelect y) ∷ s) ≡ run rest (OfSwitch (CommBody y u.place t.NoStmt []) ∷ s) = simp (hu.word, hv.op) in
    taken
    ∙ comm_body b lists at us' vs ss cs dss dcs (first_part _ _ fits) ih (second_part _ _ fits) p items u.place t.NoStmt w ws s hw place

comms_read : (b : ℕ) → Inside b → Lists b → {at : Place} {ts : List Token} {cs : t.Comms} → AreComms at ts cs → CommsRead b at ts cs
comms_read b i lists (no_comms {at}) = no_comms_read b at
comms_read b i lists (case_comm {at} {ts} {us} {vs} {s = x} {ss} {cs} {u} {v} hu dx hv dss dcs) = case_comm_reads b i lists at ts us vs x ss cs u v hu dx hv dss dcs (comms_read b i lists dcs)
comms_read b i lists (default_comm {at} {us} {vs} {ss} {cs} {u} {v} hu hv dss dcs) = default_comm_reads b lists at us vs ss cs u v hu hv dss dcs (comms_read b i lists dcs)

same_depth : (b : ℕ) → b ≤ b
same_depth b = omega arith

below_next : (b : ℕ) → Below b → Below (b + 1)
below_next b below c le room = below c (omega arith) room

pub select_stmt_reads : (b : ℕ) → Below b → (at : Place) (ts : List Token) (cs : t.Comms) (v w x : Token) → IsWord word.Select v → IsOp o.LeftBrace w → AreComms x.place ts cs → IsOp o.RightBrace x → StmtReads b at (v ∷ w ∷ ts ++ x ∷ []) (t.SelectStmt v.place cs)
select_stmt_reads b below at ts cs v w x hv hw d hx fits n short u us s hu place =
    let room : has_room b ≡ true = first_part _ _ fits in
    let within : comms_fit (b + 1) cs ≡ true = second_part _ _ fits in
    let opened : run (v ∷ w ∷ (ts ++ x ∷ u ∷ us)) (OfStmt (AfterLabel b n) ∷ s) ≡ run (ts ++ x ∷ u ∷ us) (OfSwitch (InSelect (select_part (b + 1) v.place [])) ∷ s) = simp (hv.word, hw.op, room) in
    run_assoc (v ∷ w ∷ ts) (x ∷ []) (u ∷ us) (OfStmt (AfterLabel b n) ∷ s)
    ∙ (opened
    ∙ comms_read (b + 1) (inside_of (b + 1) (below_next b below)) (below b (same_depth b) room) d within v.place [] x (u ∷ us) s hx refl)
