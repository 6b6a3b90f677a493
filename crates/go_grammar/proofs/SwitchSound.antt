-- Each step of a frame of a `switch` or a `select` keeps the invariant.
use Rattle.std.proofs.Common.{◌≡◌, ◌+◌, ◌||◌, Bool, true, ℕ, List, [], ◌∷◌, ◌++◌, Option, Some, None, refl, ap, sym, ◌∙◌, subst, append_assoc, append-nil}
use Rattle.gj_base.specs.declared.place.Place.{Place}
use Rattle.go_syntax.specs.Tree as t
use Rattle.go_syntax.specs.Token.{Token}
use Rattle.go_syntax.specs.View.{joined, exprs_of, stmts_of}
use Rattle.go_syntax.specs.declared.keyword.Keyword.TheVariants as word
use Rattle.go_syntax.specs.declared.operator.Operator.TheVariants as o
use Rattle.go_syntax.specs.declared.tree.Name.{Name}
use Rattle.go_grammar.specs.Classes.{IsOp, IsWord, name_of, place_before}
use Rattle.go_grammar.specs.Grammar as g
use Rattle.go_grammar.specs.Grammar.{IsExpr, AreExprs, AreStmts, IsStmt, IsSimple, IsBlock, IsIf, IsFor, IsBefore, IsCondition, PerhapsSimple, PerhapsHeaderExpr, IsGuard, AreClauses, AreComms}
use Rattle.go_grammar.specs.Limits.{has_room}
use Rattle.go_grammar.specs.Frames as f
use Rattle.go_grammar.specs.Frames.{Ctx, new_ctx, header_ctx, Mode, Listed, Headed, InFor, InSwitch, InTag, ControlFrame, SwitchFrame, IfPart, ForPart, SwitchPart, SelectPart, Subject, Frame, OfExpr, OfStmt, OfDecl, OfControl, OfSwitch, Done, Stack, Flow, Goes, Over, Stuck, Deep, Value, AnExpr, AGuard, ARanging, ABlock, AStmt}
use Rattle.go_grammar.specs.Nodes.{is_op, is_word, is_semicolon, expr_in}
use Rattle.go_grammar.proofs.TokenLemmas.{op_of, word_of, semicolon_is}
use Rattle.go_grammar.proofs.Wanted.{IsOpenGuard, open_guard, open_named_guard, SimpleIs, a_stmt, Want, WStmt, Is, to_expr, to_simple}
use Rattle.go_grammar.proofs.HeldStmts as h
use Rattle.go_grammar.proofs.HeldStmts.{HoldsControl, waits_control, HoldsSwitch, waits_switch, StmtsHeld, IfHeld, ForHeld, RangeHeld, SubjectHeld, ClausesHeld, CommsHeld, SwitchHeld, SelectHeld, CaseHeld, CommHeld}
use Rattle.go_grammar.proofs.Stands.{DoneIs, Opens, o_stuck, o_deep, Good, good, stuck, open_one, open_at, open_operand, within_new, good_at, opens_at, good_if, good_op, open_if}
use Rattle.go_grammar.proofs.PartSound.{exprs_done, exprs_more, no_exprs}
use Rattle.go_grammar.proofs.StmtSound.{simple_opens, stmt_opens, no_stmts, ListEnds, ends_none, ends_more}
use Rattle.go_grammar.specs.StmtSteps.{open_switch, switch_of, clauses, comms, after_clause_stmt, after_comm_stmt, ends_clause, switch_row, switch_meets_expr, switch_with, switch_meets_stmt, guard_meets_switch}
use Rattle.go_grammar.proofs.SigSound.{joined_more}
use Rattle.go_grammar.proofs.ControlSound.{condition_is}

-- the `{` of a switch
switch_opens : {m : Bool} {v : Token} {ss us : List Token} {init : t.MaybeStmt} {x : Subject} (u : Token) (b : ℕ) (s : Stack) → IsWord word.Switch v → IsBefore ss init → (is_op o.LeftBrace u ≡ true → SubjectHeld x us) → Opens u (WStmt m) (v ∷ ss ++ us) s (open_switch u b v.place init x s)
switch_opens {v = v} {ss} {us} {init} {x} u b s k d i =
    open_if (is_op o.LeftBrace u) (λ q. open_if (has_room b) (λ r. open_one (OfSwitch (f.InSwitchBraces (record { blocks = b + 1; place = v.place; init = init; subject = x; clauses = [] }))) (h.in_switch (λ p. h.switch_held k d (i q) (op_of q) (record { held = λ at us r e d. d })))) (λ r. o_deep)) (λ n. o_stuck)

switch_done : {m : Bool} {x : SwitchPart} {ts : List Token} (u : Token) → SwitchHeld u.place x ts → IsOp o.RightBrace u → DoneIs (AStmt (switch_of x x.subject)) (ts ++ u ∷ []) (WStmt m)
switch_done u (h.switch_held {xs} {cs} k d (h.on_tag i) b c) q = record { is = λ x. a_stmt (g.switch_stmt (g.expr_switch k d i b (subst (λ z. AreClauses u.place z (joined xs t.NoClauses)) (append-nil cs) (c.held u.place [] t.NoClauses refl g.no_clauses)) q)) }
switch_done u (h.switch_held {xs} {cs} k d (h.on_guard i) b c) q = record { is = λ x. a_stmt (g.switch_stmt (g.type_switch k d i b (subst (λ z. AreClauses u.place z (joined xs t.NoClauses)) (append-nil cs) (c.held u.place [] t.NoClauses refl g.no_clauses)) q)) }

select_done : {m : Bool} {x : SelectPart} {ts : List Token} (u : Token) → SelectHeld u.place x ts → IsOp o.RightBrace u → DoneIs (AStmt (t.SelectStmt x.place (joined x.comms t.NoComms))) (ts ++ u ∷ []) (WStmt m)
select_done u (h.select_held {xs} {cs} k b c) q = record { is = λ x. a_stmt (g.select_stmt k b (subst (λ z. AreComms u.place z (joined xs t.NoComms)) (append-nil cs) (c.held u.place [] t.NoComms refl g.no_comms)) q) }

clauses_good : {m : Bool} {ts : List Token} (x : SwitchPart) (u : Token) (s : Stack) → SwitchHeld u.place x ts → Good u (WStmt m) ts s (clauses u x s)
clauses_good {ts = ts} x u s k =
    good_if (is_word word.Case u) (λ q. good (open_operand (OfSwitch (f.Case x u.place [])) (new_ctx x.blocks) (ts ++ u ∷ []) refl (h.case_ k (word_of q) no_exprs) to_expr)) (λ n.
    good_if (is_word word.Default u) (λ q. good (open_one (OfSwitch (f.Default x u.place)) (h.default_ k (word_of q)))) (λ n.
    good_op o.RightBrace (λ q. good (open_one (Done (AStmt (switch_of x x.subject))) (switch_done u k q))) (λ n. stuck)))

comms_good : {m : Bool} {ts : List Token} (x : SelectPart) (u : Token) (s : Stack) → SelectHeld u.place x ts → Good u (WStmt m) ts s (comms u x s)
comms_good x u s k =
    good_if (is_word word.Case u) (λ q. good (open_one (OfSwitch (f.CommCase x u.place)) (h.comm_case k (word_of q)))) (λ n.
    good_if (is_word word.Default u) (λ q. good (open_one (OfSwitch (f.CommDefault x u.place)) (h.comm_default k (word_of q)))) (λ n.
    good_op o.RightBrace (λ q. good (open_one (Done (AStmt (t.SelectStmt x.place (joined x.comms t.NoComms)))) (select_done u k q))) (λ n. stuck)))

-- a clause before other clauses
clause_is : {p : Place} {us vs rs : List Token} {es : List t.Expr} {r : t.Clauses} {ss : t.Stmts} (at : Place) → CaseHeld p us es → AreStmts (place_before rs at) vs ss → AreClauses at rs r → AreClauses at (us ++ vs ++ rs) (t.MoreClauses p (exprs_of es) ss r)
clause_is {vs = vs} {rs} {r = r} {ss} at (h.a_case {ts} {es} {u} {v} k d q) i j = subst (λ z. AreClauses at (z ++ rs) (t.MoreClauses u.place (exprs_of es) ss r)) (sym (append_assoc (u ∷ ts) (v ∷ []) vs)) (g.case_clause k d q i j)
clause_is at (h.a_default k q) i j = g.default_clause k q i j

comm_is : {p : Place} {us vs rs : List Token} {y : t.MaybeStmt} {r : t.Comms} {ss : t.Stmts} (at : Place) → CommHeld p us y → AreStmts (place_before rs at) vs ss → AreComms at rs r → AreComms at (us ++ vs ++ rs) (t.MoreComms p y ss r)
comm_is {vs = vs} {rs} {r = r} {ss} at (h.a_comm {ts} {s} {u} {v} k d q) i j = subst (λ z. AreComms at (z ++ rs) (t.MoreComms u.place (t.AStmt s) ss r)) (sym (append_assoc (u ∷ ts) (v ∷ []) vs)) (g.case_comm k d q i j)
comm_is at (h.a_default_comm k q) i j = g.default_comm k q i j

case_place : {p : Place} {us : List Token} {es : List t.Expr} (vs : List Token) (at : Place) → CaseHeld p us es → place_before (us ++ vs) at ≡ p
case_place vs at (h.a_case k d q) = refl
case_place vs at (h.a_default k q) = refl

comm_place : {p : Place} {us : List Token} {y : t.MaybeStmt} (vs : List Token) (at : Place) → CommHeld p us y → place_before (us ++ vs) at ≡ p
comm_place vs at (h.a_comm k d q) = refl
comm_place vs at (h.a_default_comm k q) = refl

clauses_more : {p q : Place} {cs us vs : List Token} {xs : List (t.Clauses → t.Clauses)} {es : List t.Expr} {ss : t.Stmts} → ClausesHeld p cs xs → CaseHeld p us es → AreStmts q vs ss → ClausesHeld q (cs ++ (us ++ vs)) (xs ++ (λ rest. t.MoreClauses p (exprs_of es) ss rest) ∷ [])
clauses_more {p} {q} {cs} {us} {vs} {xs} {es} {ss} k c d = record {
  held = λ at rs r e j.
      let node : t.Clauses → t.Clauses = λ rest. t.MoreClauses p (exprs_of es) ss rest in
      let front = subst (λ z. place_before z at ≡ p) (sym (append_assoc us vs rs)) (case_place (vs ++ rs) at c) in
      subst (λ z. AreClauses at (cs ++ (us ++ vs) ++ rs) z) (sym (joined_more xs node r))
      (subst (λ z. AreClauses at z (joined xs (node r))) (sym (append_assoc cs (us ++ vs) rs)) (k.held at (us ++ vs ++ rs) (node r) front (clause_is at c (subst (λ z. AreStmts z vs ss) (sym e) d) j)));
}

comms_more : {p q : Place} {cs us vs : List Token} {xs : List (t.Comms → t.Comms)} {y : t.MaybeStmt} {ss : t.Stmts} → CommsHeld p cs xs → CommHeld p us y → AreStmts q vs ss → CommsHeld q (cs ++ (us ++ vs)) (xs ++ (λ rest. t.MoreComms p y ss rest) ∷ [])
comms_more {p} {q} {cs} {us} {vs} {xs} {y} {ss} k c d = record {
  held = λ at rs r e j.
      let node : t.Comms → t.Comms = λ rest. t.MoreComms p y ss rest in
      let front = subst (λ z. place_before z at ≡ p) (sym (append_assoc us vs rs)) (comm_place (vs ++ rs) at c) in
      subst (λ z. AreComms at (cs ++ (us ++ vs) ++ rs) z) (sym (joined_more xs node r))
      (subst (λ z. AreComms at z (joined xs (node r))) (sym (append_assoc cs (us ++ vs) rs)) (k.held at (us ++ vs ++ rs) (node r) front (comm_is at c (subst (λ z. AreStmts z vs ss) (sym e) d) j)));
}

-- a `switch` with a clause more
switch_more : {q : Place} {at : Place} {x : SwitchPart} {ts us vs : List Token} {es : List t.Expr} {ss : t.Stmts} → SwitchHeld at x ts → CaseHeld at us es → AreStmts q vs ss → SwitchHeld q (record x { clauses = x.clauses ++ (λ rest. t.MoreClauses at (exprs_of es) ss rest) ∷ [] }) (ts ++ us ++ vs)
switch_more {q} {at} {us = us} {vs} {es} {ss} (h.switch_held {b} {init} {subject} {xs} {ss = bs} {us = is} {cs} {u} {v} k d i p c) e j =
    subst (λ z. SwitchHeld q (record { blocks = b; place = u.place; init = init; subject = subject; clauses = xs ++ (λ rest. t.MoreClauses at (exprs_of es) ss rest) ∷ [] }) z)
    (sym (append_assoc (u ∷ bs ++ is ++ v ∷ cs) us vs ∙ append_assoc (u ∷ bs ++ is) (v ∷ cs) (us ++ vs)))
    (h.switch_held k d i p (clauses_more c e j))

select_more : {q : Place} {at : Place} {x : SelectPart} {ts us vs : List Token} {y : t.MaybeStmt} {ss : t.Stmts} → SelectHeld at x ts → CommHeld at us y → AreStmts q vs ss → SelectHeld q (record x { comms = x.comms ++ (λ rest. t.MoreComms at y ss rest) ∷ [] }) (ts ++ us ++ vs)
select_more {q} {at} {us = us} {vs} {y} {ss} (h.select_held {b} {xs} {cs} {u} {v} k p c) e j =
    subst (λ z. SelectHeld q (record { blocks = b; place = u.place; comms = xs ++ (λ rest. t.MoreComms at y ss rest) ∷ [] }) z) (sym (append_assoc (u ∷ v ∷ cs) us vs)) (h.select_held k p (comms_more c e j))

clause_good : {m : Bool} {at : Place} {ts us vs : List Token} {es : List t.Expr} {ss : List t.Stmt} (x : SwitchPart) (u : Token) (s : Stack) → SwitchHeld at x ts → CaseHeld at us es → ListEnds u vs ss → Good u (WStmt m) (ts ++ us ++ vs) s (after_clause_stmt u x at es ss s)
clause_good {at = at} {ts} {us} {vs} {es} {ss} x u s k c l =
    good_if (is_semicolon u.kind) (λ q. good (open_at (OfSwitch (f.ClauseBody x at es ss)) (append_assoc (ts ++ us) vs (u ∷ [])) (h.clause_body k c (l.goes_on (semicolon_is q)))))
    (λ n. clauses_good (record x { clauses = x.clauses ++ (λ rest. t.MoreClauses at (exprs_of es) (stmts_of ss) rest) ∷ [] }) u s (switch_more k c l.is))

comm_good : {m : Bool} {at : Place} {ts us vs : List Token} {y : t.MaybeStmt} {ss : List t.Stmt} (x : SelectPart) (u : Token) (s : Stack) → SelectHeld at x ts → CommHeld at us y → ListEnds u vs ss → Good u (WStmt m) (ts ++ us ++ vs) s (after_comm_stmt u x at y ss s)
comm_good {at = at} {ts} {us} {vs} {y} {ss} x u s k c l =
    good_if (is_semicolon u.kind) (λ q. good (open_at (OfSwitch (f.CommBody x at y ss)) (append_assoc (ts ++ us) vs (u ∷ [])) (h.comm_body k c (l.goes_on (semicolon_is q)))))
    (λ n. comms_good (record x { comms = x.comms ++ (λ rest. t.MoreComms at y (stmts_of ss) rest) ∷ [] }) u s (select_more k c l.is))

pub switch_row_good : {x : SwitchFrame} {ts : List Token} {w : Want} (u : Token) (s : Stack) → HoldsSwitch x ts w → Good u w ts s (switch_row u x s)
switch_row_good u s (h.switch_head {m} {b} {u = v} k) =
    good_if (is_semicolon u.kind) (λ q. good (open_one (OfSwitch (f.SwitchTag b v.place t.NoStmt)) (h.switch_tag k (g.before g.without_simple (semicolon_is q))))) (λ n.
    good_op o.LeftBrace (λ q. good (switch_opens u b s k g.nothing_before (λ z. h.on_tag g.without_condition))) (λ n.
    good (within_new (OfSwitch (f.SwitchHead b v.place)) (h.switch_head k) (simple_opens u (header_ctx b) InSwitch (OfSwitch (f.SwitchHead b v.place) ∷ s) (to_simple refl (λ z. refl) (λ z. refl)) refl))))
switch_row_good u s (h.switch_tag {m} {b} {init} {ts} {u = v} k d) =
    good_op o.LeftBrace (λ q. good (opens_at (sym (append-nil (v ∷ ts))) (switch_opens u b s k d (λ z. h.on_tag g.without_condition))))
    (λ n. good (within_new (OfSwitch (f.SwitchTag b v.place init)) (h.switch_tag k d) (simple_opens u (header_ctx b) InTag (OfSwitch (f.SwitchTag b v.place init) ∷ s) (to_simple refl (λ z. refl) (λ z. refl)) refl)))
switch_row_good u s (h.guard_end {m} {b} k d i) = good (switch_opens u b s k d (λ z. h.on_guard i))
switch_row_good u s (h.in_switch {m} {x} k) = clauses_good x u s (k u.place)
switch_row_good u s (h.default_ {m} {x} {ts} {u = v} k d) =
    good_op o.Colon (λ q. good (open_at (OfSwitch (f.ClauseBody x v.place [] [])) (append_assoc ts (v ∷ []) (u ∷ []) ∙ sym (append-nil (ts ++ v ∷ u ∷ []))) (h.clause_body k (h.a_default d q) no_stmts))) (λ n. stuck)
switch_row_good u s (h.clause_body {m} {x} {at} {es} {ss} k c l) =
    good_if (ends_clause u || is_semicolon u.kind) (λ q. clause_good x u s k c (ends_none u l))
    (λ n. good (within_new (OfSwitch (f.ClauseBody x at es ss)) (h.clause_body k c l) (stmt_opens u x.blocks 0 (OfSwitch (f.ClauseBody x at es ss) ∷ s))))
switch_row_good u s (h.select_open {m} {b} {u = v} k) =
    good_op o.LeftBrace (λ q. good (open_if (has_room b) (λ r. open_one (OfSwitch (f.InSelect (record { blocks = b + 1; place = v.place; comms = [] }))) (h.in_select (λ p. h.select_held k q (record { held = λ at us r e d. d })))) (λ r. o_deep))) (λ n. stuck)
switch_row_good u s (h.in_select {m} {x} k) = comms_good x u s (k u.place)
switch_row_good u s (h.comm_case {m} {x} {ts} {u = v} k d) = good (within_new (OfSwitch (f.CommCase x v.place)) (h.comm_case k d) (simple_opens u (new_ctx x.blocks) Headed (OfSwitch (f.CommCase x v.place) ∷ s) (to_simple refl (λ z. absurd (cc)) (λ z. absurd (cc))) refl))
switch_row_good u s (h.comm_default {m} {x} {ts} {u = v} k d) =
    good_op o.Colon (λ q. good (open_at (OfSwitch (f.CommBody x v.place t.NoStmt [])) (append_assoc ts (v ∷ []) (u ∷ []) ∙ sym (append-nil (ts ++ v ∷ u ∷ []))) (h.comm_body k (h.a_default_comm d q) no_stmts))) (λ n. stuck)
switch_row_good u s (h.comm_body {m} {x} {at} {y} {ss} k c l) =
    good_if (ends_clause u || is_semicolon u.kind) (λ q. comm_good x u s k c (ends_none u l))
    (λ n. good (within_new (OfSwitch (f.CommBody x at y ss)) (h.comm_body k c l) (stmt_opens u x.blocks 0 (OfSwitch (f.CommBody x at y ss) ∷ s))))
switch_row_good u s _ = stuck

pub switch_expr_good : {x : SwitchFrame} {ts : List Token} {w : Want} (vs : List Token) (u : Token) (e : t.Expr) (s : Stack) → HoldsSwitch x ts w → Is u (waits_switch x) (AnExpr e) vs → Good u w (ts ++ vs) s (switch_meets_expr u x e s)
switch_expr_good vs u e s (h.case_ {m} {x} {es} {ts} {us} {u = v} k d l) i =
    good_at (append_assoc ts (v ∷ us) vs)
    (good_op o.Comma (λ q. good (open_operand (OfSwitch (f.Case x v.place (es ++ e ∷ []))) (new_ctx x.blocks) (ts ++ v ∷ (us ++ vs ++ u ∷ [])) (append_assoc ts (v ∷ (us ++ vs)) (u ∷ [])) (h.case_ k d (exprs_more l (i.0) q)) to_expr)) (λ n.
    good_op o.Colon (λ q. good (open_at (OfSwitch (f.ClauseBody x v.place (es ++ e ∷ []) [])) (append_assoc ts (v ∷ (us ++ vs)) (u ∷ []) ∙ sym (append-nil (ts ++ v ∷ (us ++ vs ++ u ∷ [])))) (h.clause_body k (h.a_case d (exprs_done l (i.0)) q) no_stmts))) (λ n. stuck)))
switch_expr_good vs u e s _ i = stuck

switch_with_good : {m : Bool} {v : Token} {ss vs : List Token} {init : t.MaybeStmt} {y : t.Stmt} (u : Token) (b : ℕ) (s : Stack) (e : Option t.Expr) → expr_in y ≡ e → IsWord word.Switch v → IsBefore ss init → SimpleIs u true vs y → Opens u (WStmt m) (v ∷ ss ++ vs) s (switch_with u b v.place init e s)
switch_with_good u b s None q k d i = o_stuck
switch_with_good u b s (Some e) q k d i = switch_opens u b s k d (λ z. h.on_tag (g.with_condition (condition_is i q z)))

pub switch_stmt_good : {x : SwitchFrame} {ts : List Token} {w : Want} (vs : List Token) (u : Token) (y : t.Stmt) (s : Stack) → HoldsSwitch x ts w → Is u (waits_switch x) (AStmt y) vs → Good u w (ts ++ vs) s (switch_meets_stmt u x y s)
switch_stmt_good vs u y s (h.switch_head {m} {b} {u = v} k) i =
    good_if (is_semicolon u.kind) (λ q. good (open_one (OfSwitch (f.SwitchTag b v.place (t.AStmt y))) (h.switch_tag k (g.before (g.with_simple i.simple) (semicolon_is q)))))
    (λ n. good (switch_with_good u b s (expr_in y) refl k g.nothing_before i))
switch_stmt_good vs u y s (h.switch_tag {m} {b} k d) i = good (switch_with_good u b s (expr_in y) refl k d i)
switch_stmt_good vs u y s (h.clause_body {m} {x} {ts = ts} {us} {vs = rs} k c l) (a_stmt d) = good_at (append_assoc (ts ++ us) rs vs) (clause_good x u s k c (ends_more u l d))
switch_stmt_good vs u y s (h.comm_case {m} {x} {ts} {u = v} k d) i =
    good_op o.Colon (λ q. good (open_at (OfSwitch (f.CommBody x v.place (t.AStmt y) [])) (ap (λ z. z ++ u ∷ []) (append_assoc ts (v ∷ []) vs) ∙ append_assoc ts (v ∷ vs) (u ∷ []) ∙ sym (append-nil (ts ++ v ∷ (vs ++ u ∷ [])))) (h.comm_body k (h.a_comm d i.simple q) no_stmts))) (λ n. stuck)
switch_stmt_good vs u y s (h.comm_body {m} {x} {ts = ts} {us} {vs = rs} k c l) (a_stmt d) = good_at (append_assoc (ts ++ us) rs vs) (comm_good x u s k c (ends_more u l d))
switch_stmt_good vs u y s _ i = stuck

guard_is : {ts : List Token} {y : Option Name} {e : t.Expr} {u : Token} → IsOpenGuard ts y e → IsOp o.RightParen u → IsGuard (ts ++ u ∷ []) y e
guard_is {u = u} (open_guard {ys} {e} {d} {p} {w} i wd a b c) q = subst (λ z. IsGuard z None e) (sym (append_assoc ys (d ∷ p ∷ w ∷ []) (u ∷ []))) (g.guard i wd a b c q)
guard_is {u = u} (open_named_guard {ys} {e} {y} {z = y'} {d} {p} {w} n m i wd a b c) q = subst (λ z. IsGuard z (Some (name_of y)) e) (sym (append_assoc (y ∷ y' ∷ ys) (d ∷ p ∷ w ∷ []) (u ∷ []))) (g.named_guard n m i wd a b c q)

pub switch_guard_good : {x : SwitchFrame} {ts : List Token} {w : Want} (vs : List Token) (u : Token) (y : Option Name) (e : t.Expr) (s : Stack) → HoldsSwitch x ts w → Is u (waits_switch x) (AGuard y e) vs → Good u w (ts ++ vs) s (guard_meets_switch u x y e s)
switch_guard_good vs u y e s (h.switch_head {m} {b} {u = v} k) i = good_op o.RightParen (λ q. good (open_one (OfSwitch (f.GuardEnd b v.place t.NoStmt y e)) (h.guard_end k g.nothing_before (guard_is (i.2) q)))) (λ n. stuck)
switch_guard_good vs u y e s (h.switch_tag {m} {b} {init} {ts} {u = v} k d) i = good_op o.RightParen (λ q. good (open_at (OfSwitch (f.GuardEnd b v.place init y e)) (append_assoc (v ∷ ts) vs (u ∷ [])) (h.guard_end k d (guard_is (i.2) q)))) (λ n. stuck)
switch_guard_good vs u y e s _ i = stuck
