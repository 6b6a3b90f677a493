-- Each step of a frame of an `if` or a `for` keeps the invariant.
use Rattle.std.proofs.Common.{◌≡◌, ◌+◌, Bool, true, false, ℕ, List, [], ◌∷◌, ◌++◌, Option, Some, None, refl, ap, sym, ◌∙◌, subst, append_assoc}
use Rattle.go_syntax.specs.Tree as t
use Rattle.go_syntax.specs.Token.{Token}
use Rattle.go_syntax.specs.View.{exprs_of}
use Rattle.go_syntax.specs.declared.keyword.Keyword.TheVariants as word
use Rattle.go_syntax.specs.declared.operator.Operator.TheVariants as o
use Rattle.go_grammar.specs.Classes.{IsWord}
use Rattle.go_grammar.specs.Context.{wants_brace, stmt_wants_brace}
use Rattle.go_grammar.specs.Grammar as g
use Rattle.go_grammar.specs.Grammar.{IsExpr, AreExprs, AreStmts, IsStmt, IsSimple, IsBlock, IsIf, IsFor, IsBefore, IsCondition, PerhapsSimple, PerhapsHeaderExpr, IsGuard, AreClauses, AreComms}
use Rattle.go_grammar.specs.Limits.{has_room, one_longer}
use Rattle.go_grammar.specs.Frames as f
use Rattle.go_grammar.specs.Frames.{Ctx, new_ctx, header_ctx, Mode, Listed, Headed, InFor, InSwitch, InTag, ControlFrame, SwitchFrame, IfPart, ForPart, SwitchPart, SelectPart, Subject, Frame, OfExpr, OfStmt, OfDecl, OfControl, OfSwitch, Done, Stack, Flow, Goes, Over, Stuck, Deep, Value, AnExpr, AGuard, ARanging, ABlock, AStmt}
use Rattle.go_grammar.specs.Nodes.{is_op, is_word, is_semicolon, place_of_block, expr_in}
use Rattle.go_grammar.specs.ExprSteps.{open_block}
use Rattle.go_grammar.proofs.TokenLemmas.{op_of, word_of, semicolon_is}
use Rattle.go_grammar.proofs.Wanted.{IsRanging, ranging_assign, ranging_define, SimpleIs, a_stmt, Want, WStmt, Is, to_expr, to_simple, TakesIf, if_to_stmt, if_to_else, TakesBlock, to_block, to_else}
use Rattle.go_grammar.proofs.HeldStmts as h
use Rattle.go_grammar.proofs.HeldStmts.{HoldsControl, waits_control, HoldsSwitch, waits_switch, StmtsHeld, IfHeld, ForHeld, RangeHeld, SubjectHeld, ClausesHeld, CommsHeld, SwitchHeld, SelectHeld, CaseHeld, CommHeld}
use Rattle.go_grammar.proofs.Stands.{Holds, waits, Opens, o_stuck, o_deep, Good, good, over, stuck, open_one, open_on, open_operand, within_new, good_at, good_if, good_op, open_if, short}
use Rattle.go_grammar.proofs.BeginSound.{expr_opens}
use Rattle.go_grammar.proofs.ExprSound.{starts_place}
use Rattle.go_grammar.proofs.StmtSound.{simple_opens, no_stmts}
use Rattle.go_grammar.specs.StmtSteps.{new_if, if_with, for_with, if_of, control_row, control_meets_expr, control_meets_stmt, control_meets_ranging, control_meets_block}

same_expr : (x y : t.Expr) → Some x ≡ Some y → x ≡ y
same_expr x y q = cc

-- the one expression of a statement
pub alone_brace : (y : t.Stmt) (e : t.Expr) → expr_in y ≡ Some e → stmt_wants_brace y ≡ wants_brace e
alone_brace (t.ExprStmt at (t.MoreExprs x t.NoExprs)) e q = ap wants_brace (same_expr x e q)
alone_brace (t.ExprStmt at t.NoExprs) e q = absurd (cc)
alone_brace (t.ExprStmt at (t.MoreExprs x (t.MoreExprs z zs))) e q = absurd (cc)
alone_brace _ e q = absurd (cc)

pub condition_is : {u : Token} {ts : List Token} {y : t.Stmt} {e : t.Expr} → SimpleIs u true ts y → expr_in y ≡ Some e → is_op o.LeftBrace u ≡ true → IsCondition ts e
condition_is {y = y} {e} d q b = g.condition (d.alone e q) (sym (alone_brace y e q) ∙ d.brace b)

-- a block after what ends at its `{`
pub block_after : {w : Want} {ts : List Token} (x : Frame) (u : Token) (b : ℕ) (s : Stack) → (is_op o.LeftBrace u ≡ true → Holds x ts w) → TakesBlock (waits x w) → Opens u w ts s (open_block u b (x ∷ s))
block_after x u b s hold k =
    open_if (is_op o.LeftBrace u) (λ q. open_if (has_room b) (λ r. open_on x (OfStmt (f.InBlock (b + 1) u.place [])) (hold q) (h.in_block k (op_of q) no_stmts)) (λ r. o_deep)) (λ n. o_stuck)

if_done : {w : Want} {ts : List Token} {y : t.Stmt} (u : Token) → TakesIf w → IsIf ts y → Is u w (AStmt y) ts
if_done u if_to_stmt d = a_stmt (g.if_stmt d)
if_done u if_to_else d = d

pub control_row_good : {x : ControlFrame} {ts : List Token} {w : Want} (u : Token) (s : Stack) → HoldsControl x ts w → Good u w ts s (control_row u x s)
control_row_good u s (h.at_if {b} {n} {u = v} k m) =
    let x : IfPart = record { blocks = b; place = v.place; elses = n; init = t.NoStmt } in
    good_if (is_semicolon u.kind) (λ q. good (open_one (OfControl (f.Condition x)) (h.condition k m (g.before g.without_simple (semicolon_is q)))))
    (λ q. good (within_new (OfControl (f.AtIf x)) (h.at_if k m) (simple_opens u (header_ctx b) Headed (OfControl (f.AtIf x) ∷ s) (to_simple refl (λ z. refl) (λ z. refl)) refl)))
control_row_good u s (h.condition {b} {n} {init} {u = v} k m d) =
    let x : IfPart = record { blocks = b; place = v.place; elses = n; init = init } in
    good (within_new (OfControl (f.Condition x)) (h.condition k m d) (expr_opens u (header_ctx b) (OfControl (f.Condition x) ∷ s) to_expr tt))
control_row_good u s (h.at_else {x} {e} {b} k i d m) =
    good_if (is_word word.If u) (λ q. good (open_on (OfControl (f.Other x e b)) (OfControl (f.AtIf (new_if x.blocks u.place (one_longer x.elses)))) (h.other k i d m) (h.at_if if_to_else (word_of q))))
    (λ q. good (block_after (OfControl (f.Other x e b)) u x.blocks s (λ z. h.other k i d m) to_else))
control_row_good u s (h.at_for {m} {b} {u = v} k) =
    let x : ForPart = record { blocks = b; place = v.place } in
    good_op o.LeftBrace (λ q. good (block_after (OfControl (f.ForBody x t.NoStmt t.NoExpr t.NoStmt)) u b s (λ z. h.for_body (record { held = λ us c d. g.for_condition k g.without_condition d })) to_block)) (λ n.
    good_if (is_semicolon u.kind) (λ q. good (open_one (OfControl (f.ForCondition x t.NoStmt)) (h.for_condition k g.without_simple (semicolon_is q)))) (λ n.
    good_if (is_word word.Range u) (λ q. good (open_operand (OfControl (f.AtRange x [] false)) (header_ctx b) (v ∷ u ∷ []) refl (h.at_range (record { held = λ us vs e c d i. g.for_range k (word_of q) d i })) to_expr)) (λ n.
    good (within_new (OfControl (f.AtFor x)) (h.at_for k) (simple_opens u (header_ctx b) InFor (OfControl (f.AtFor x) ∷ s) (to_simple refl (λ z. refl) (λ z. refl)) refl)))))
control_row_good u s (h.for_condition {m} {b} {init} {u = v} k d q) =
    let x : ForPart = record { blocks = b; place = v.place } in
    good_if (is_semicolon u.kind) (λ p. good (open_one (OfControl (f.Post x init t.NoExpr)) (h.post k d q g.without_header_expr (semicolon_is p))))
    (λ n. good (within_new (OfControl (f.ForCondition x init)) (h.for_condition k d q) (expr_opens u (header_ctx b) (OfControl (f.ForCondition x init) ∷ s) to_expr tt)))
control_row_good u s (h.post {m} {b} {init} {e} {u = v} k d q i p) =
    let x : ForPart = record { blocks = b; place = v.place } in
    good_op o.LeftBrace (λ z. good (block_after (OfControl (f.ForBody x init e t.NoStmt)) u b s (λ z. h.for_body (record { held = λ us c j. g.for_clauses k d q i p g.without_post j })) to_block))
    (λ n. good (within_new (OfControl (f.Post x init e)) (h.post k d q i p) (simple_opens u (header_ctx b) Headed (OfControl (f.Post x init e) ∷ s) (to_simple refl (λ z. refl) (λ z. refl)) refl)))
control_row_good u s _ = stuck

pub control_expr_good : {x : ControlFrame} {ts : List Token} {w : Want} (vs : List Token) (u : Token) (e : t.Expr) (s : Stack) → HoldsControl x ts w → Is u (waits_control x) (AnExpr e) vs → Good u w (ts ++ vs) s (control_meets_expr u x e s)
control_expr_good vs u e s (h.condition {b} {n} {init} {u = v} k m d) i =
    let x : IfPart = record { blocks = b; place = v.place; elses = n; init = init } in
    let a = i.1 in
    good (block_after (OfControl (f.Then x e)) u b s (λ z. h.then_ k (h.if_held m d (g.condition (i.0) (a.brace z)))) to_block)
control_expr_good vs u e s (h.for_condition {m} {b} {init} {ts} {u = v} {v = y} k d q) i =
    good_at (append_assoc (v ∷ ts) (y ∷ []) vs) (good_if (is_semicolon u.kind) (λ p. good (open_one (OfControl (f.Post (record { blocks = b; place = v.place }) init (t.AnExpr e))) (h.post k d q (g.with_header_expr (i.0)) (semicolon_is p)))) (λ n. stuck))
control_expr_good vs u e s (h.at_range {m} {x} {es} {fresh} k) i =
    let a = i.1 in
    good (block_after (OfControl (f.RangeBody x es fresh e)) u x.blocks s (λ z. h.range_body (record { held = λ us c d. k.held vs us e c (g.condition (i.0) (a.brace z)) d })) to_block)
control_expr_good vs u e s _ i = stuck

if_with_good : {w : Want} {v : Token} {vs : List Token} {y : t.Stmt} (b n : ℕ) (u : Token) (s : Stack) (e : Option t.Expr) → expr_in y ≡ e → TakesIf w → IsWord word.If v → SimpleIs u true vs y → Opens u w (v ∷ vs) s (if_with u (record { blocks = b; place = v.place; elses = n; init = t.NoStmt }) e s)
if_with_good b n u s None q k m d = o_stuck
if_with_good {v = v} b n u s (Some e) q k m d = block_after (OfControl (f.Then (record { blocks = b; place = v.place; elses = n; init = t.NoStmt }) e)) u b s (λ z. h.then_ k (h.if_held m g.nothing_before (condition_is d q z))) to_block

for_with_good : {m : Bool} {v : Token} {vs : List Token} {y : t.Stmt} (b : ℕ) (u : Token) (s : Stack) (e : Option t.Expr) → expr_in y ≡ e → IsWord word.For v → SimpleIs u true vs y → Opens u (WStmt m) (v ∷ vs) s (for_with u (record { blocks = b; place = v.place }) e s)
for_with_good b u s None q k d = o_stuck
for_with_good {v = v} b u s (Some e) q k d = block_after (OfControl (f.ForBody (record { blocks = b; place = v.place }) t.NoStmt (t.AnExpr e) t.NoStmt)) u b s (λ z. h.for_body (record { held = λ us c i. g.for_condition k (g.with_condition (condition_is d q z)) i })) to_block

-- an `if` with what follows its `else`
else_is : {w : Want} {x : IfPart} {e : t.Expr} {b : t.Block} {ts us vs : List Token} {v : Token} {y : t.Stmt} (u : Token) → TakesIf w → IfHeld x e ts → IsBlock us b → IsWord word.Else v → g.IsElse vs y → Is u w (AStmt (if_of x e b (t.AStmt y))) (ts ++ us ++ v ∷ vs)
else_is u k (h.if_held m d c) i p j = if_done u k (g.with_else m d c i p j)

then_is : {w : Want} {x : IfPart} {e : t.Expr} {b : t.Block} {ts us : List Token} (u : Token) → TakesIf w → IfHeld x e ts → IsBlock us b → Is u w (AStmt (if_of x e b t.NoStmt)) (ts ++ us)
then_is u k (h.if_held m d c) i = if_done u k (g.without_else m d c i)

pub control_stmt_good : {x : ControlFrame} {ts : List Token} {w : Want} (vs : List Token) (u : Token) (y : t.Stmt) (s : Stack) → HoldsControl x ts w → Is u (waits_control x) (AStmt y) vs → Good u w (ts ++ vs) s (control_meets_stmt u x y s)
control_stmt_good vs u y s (h.at_if {b} {n} {u = v} k m) i =
    good_if (is_semicolon u.kind) (λ q. good (open_one (OfControl (f.Condition (record { blocks = b; place = v.place; elses = n; init = t.AStmt y }))) (h.condition k m (g.before (g.with_simple i.simple) (semicolon_is q)))))
    (λ q. good (if_with_good b n u s (expr_in y) refl k m i))
control_stmt_good vs u y s (h.other {ts} {us} {u = v} k i d m) j = good_at (append_assoc (ts ++ us) (v ∷ []) vs) (over (else_is u k i d m (g.else_if j)))
control_stmt_good vs u y s (h.at_for {m} {b} {u = v} k) i =
    good_if (is_semicolon u.kind) (λ q. good (open_one (OfControl (f.ForCondition (record { blocks = b; place = v.place }) (t.AStmt y))) (h.for_condition k (g.with_simple i.simple) (semicolon_is q))))
    (λ n. good (for_with_good b u s (expr_in y) refl k i))
control_stmt_good vs u y s (h.post {m} {b} {init} {e} {ts} {us} {u = v} {v = x} {w = z} k d q i p) j =
    good_at (append_assoc (v ∷ ts ++ x ∷ us) (z ∷ []) vs) (good (block_after (OfControl (f.ForBody (record { blocks = b; place = v.place }) init e (t.AStmt y))) u b s (λ l. h.for_body (record { held = λ ws c r. g.for_clauses k d q i p (g.with_post j.simple (j.brace l)) r })) to_block))
control_stmt_good vs u y s _ i = stuck

ranging_held : {v : Token} {vs : List Token} {es : List t.Expr} {fresh : Bool} → IsWord word.For v → IsRanging vs es fresh → RangeHeld (v ∷ vs) (λ e b. t.RangeStmt v.place (exprs_of es) fresh e b)
ranging_held {v} k (ranging_assign {ts} {es} {v = y} {w = z} d q r) = record { held = λ us vs e b c i. subst (λ n. IsFor (n ++ vs) (t.RangeStmt v.place (exprs_of es) false e b)) (sym (append_assoc (v ∷ ts) (y ∷ z ∷ []) us)) (g.for_range_assign k d q r c i) }
ranging_held {v} k (ranging_define {ts} {es} {v = y} {w = z} d q r) = record { held = λ us vs e b c i. subst (λ n. IsFor (n ++ vs) (t.RangeStmt v.place (exprs_of es) true e b)) (sym (append_assoc (v ∷ ts) (y ∷ z ∷ []) us)) (g.for_range_define k d q r c i) }

pub control_ranging_good : {x : ControlFrame} {ts : List Token} {w : Want} (vs : List Token) (u : Token) (es : List t.Expr) (fresh : Bool) (s : Stack) → HoldsControl x ts w → Is u (waits_control x) (ARanging es fresh) vs → Good u w (ts ++ vs) s (control_meets_ranging u x es fresh s)
control_ranging_good vs u es fresh s (h.at_for {m} {b} {u = v} k) i =
    let x : ForPart = record { blocks = b; place = v.place } in
    good (within_new (OfControl (f.AtRange x es fresh)) (h.at_range (ranging_held k (i.2))) (expr_opens u (header_ctx b) (OfControl (f.AtRange x es fresh) ∷ s) to_expr tt))
control_ranging_good vs u es fresh s _ i = stuck

pub control_block_good : {x : ControlFrame} {ts : List Token} {w : Want} (vs : List Token) (u : Token) (c : t.Block) (s : Stack) → HoldsControl x ts w → Is u (waits_control x) (ABlock c) vs → Good u w (ts ++ vs) s (control_meets_block u x c s)
control_block_good vs u c s (h.then_ {x} {e} k i) j =
    good_if (is_word word.Else u) (λ q. good (short x.elses u.place (open_one (OfControl (f.AtElse x e c)) (h.at_else k i (j.0) (word_of q))))) (λ n. over (then_is u k i (j.0)))
control_block_good vs u c s (h.other {ts} {us} {u = v} k i d m) j =
    good_at (append_assoc (ts ++ us) (v ∷ []) vs) (over (else_is u k i d m (subst (λ z. g.IsElse vs (t.BlockStmt z c)) (starts_place vs (place_of_block c) (j.1)) (g.else_block (j.0)))))
control_block_good vs u c s (h.for_body k) j = over (a_stmt (g.for_stmt (k.held vs c (j.0))))
control_block_good vs u c s (h.range_body k) j = over (a_stmt (g.for_stmt (k.held vs c (j.0))))
control_block_good vs u c s _ j = stuck
