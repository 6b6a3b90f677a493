-- Limits: the steps of `if`, `for`, `switch` and `select` keep the invariant.
use Rattle.std.proofs.Common.{◌≡◌, ◌≤◌, ◌+◌, ◌||◌, Bool, true, false, ℕ, List, [], ◌∷◌, ◌++◌, Option, Some, None, refl, sym, subst, arith}
use Rattle.gj_base.specs.declared.place.Place.{Place}
use Rattle.go_syntax.specs.Tree as t
use Rattle.go_syntax.specs.Token.{Token}
use Rattle.go_syntax.specs.View.{joined, exprs_of, stmts_of}
use Rattle.go_syntax.specs.declared.keyword.Keyword.TheVariants as word
use Rattle.go_syntax.specs.declared.operator.Operator.TheVariants as o
use Rattle.go_syntax.specs.declared.tree.Name.{Name}
use Rattle.go_grammar.specs.Limits.{has_room, one_longer, last_parts, prefixes, elses, expr_fits, maybe_fits, exprs_fit, block_fits, stmts_fit, maybe_stmt_fits, stmt_fits, clauses_fit, comms_fit}
use Rattle.go_grammar.specs.Frames as f
use Rattle.go_grammar.specs.Frames.{Ctx, new_ctx, header_ctx, inside, deeper, Base, Braces, Elems, StructPart, InterfacePart, Embedded, Params, Role, ParamsPart, Mode, Listed, Headed, InFor, InSwitch, InTag, Spot, IfPart, ForPart, Subject, SwitchPart, SelectPart, ValuesPart, TypesPart, FilePart, ExprFrame, PartFrame, TypeFrame, FieldFrame, SigFrame, StmtFrame, ControlFrame, SwitchFrame, DeclFrame, FileFrame, Frame, OfExpr, OfPart, OfType, OfField, OfSig, OfStmt, OfControl, OfSwitch, OfDecl, OfFile, Done, Stack, Flow, Goes, Over, Stuck, Deep, Long, Value, AnExpr, AChain, AGuard, ARanging, ASig, ABlock, AStmt, ADecl}
use Rattle.go_grammar.specs.Nodes.{is_word, is_semicolon, expr_in}
use Rattle.go_grammar.proofs.FitHeld as k
use Rattle.go_grammar.proofs.FitHeld.{TailFits, GuardFits, Bound, LNone, LFile, LUnary, LExpr, LType, LSig, LBlock, LStmt, LElse, LDecl, Fit, KExpr, l_expr, BaseFits, ElemsFit, BracesFit, KPart, l_part, KType, l_type, FieldsFit, MembersFit, StructFits, InterfaceFits, KField, l_field, ParamsFit, RoleFits, KSig, l_sig, SpotFits, KStmt, l_stmt, IfBound, KControl, l_control, SubjectFits, ClausesFit, CommsFit, SwitchFits, SelectFits, KSwitch, l_switch, ValuesFit, TypesFit, KDecl, l_decl, ReceiverFits, KFile, l_file}
use Rattle.go_grammar.proofs.FitStack.{Goal, done, stuck, Begun, b_stuck, b_deep, as_goal, one, two, above, an_expr, g_if, b_if, g_op, b_op, in_short, both, long_is, short_is}
use Rattle.go_grammar.specs.Nodes.{block_stmt}
use Rattle.go_grammar.specs.ExprSteps.{open_block}
use Rattle.go_grammar.specs.StmtSteps.{new_if, for_block, then_block, if_with, for_with, if_of, control_row, control_meets_expr, control_meets_stmt, control_meets_ranging, control_meets_block, open_switch, switch_of, clauses, comms, after_clause_stmt, after_comm_stmt, ends_clause, switch_row, switch_meets_expr, switch_with, switch_meets_stmt, guard_meets_switch}
use Rattle.go_grammar.proofs.SigSound.{joined_more}
use Rattle.go_grammar.proofs.FitTypes.{expr_begun}
use Rattle.go_grammar.proofs.FitExprs.{block_begun, exprs_and, and_two}
use Rattle.go_grammar.proofs.FitStmts.{stmts_and, simple_begun, stmt_begun}

headed : (j : ℕ) → Headed ≡ Listed j → j ≡ 0
headed j q = absurd (cc)

in_for : (j : ℕ) → InFor ≡ Listed j → j ≡ 0
in_for j q = absurd (cc)

in_switch : (j : ℕ) → InSwitch ≡ Listed j → j ≡ 0
in_switch j q = absurd (cc)

in_tag : (j : ℕ) → InTag ≡ Listed j → j ≡ 0
in_tag j q = absurd (cc)

same_expr : (x y : t.Expr) → Some x ≡ Some y → x ≡ y
same_expr x y q = cc

-- the one expression of a statement
alone_fits : (b : ℕ) (y : t.Stmt) (e : t.Expr) → stmt_fits b y ≡ true → expr_in y ≡ Some e → expr_fits b 0 e ≡ true
alone_fits b (t.ExprStmt at (t.MoreExprs x t.NoExprs)) e p q = subst (λ z. expr_fits b 0 z ≡ true) (same_expr x e q) ((and_two (expr_fits b 0 x) true p).0)
alone_fits b (t.ExprStmt at t.NoExprs) e p q = absurd (cc)
alone_fits b (t.ExprStmt at (t.MoreExprs x (t.MoreExprs z zs))) e p q = absurd (cc)
alone_fits b _ e p q = absurd (cc)

other_begun : {n : ℕ} (u : Token) (b : ℕ) (s : Stack) → Begun (LElse b n) s (open_block u b s)
other_begun u b s = b_op u o.LeftBrace (b_if (has_room b) (λ r. one (OfStmt (f.InBlock (b + 1) u.place [])) (k.in_other r refl)) (λ r. b_deep)) b_stuck

few : {x : IfPart} {w : Bound} → IfBound x w → x.elses ≤ 500
few {x} (k.if_stmt q l) = omega (arith, q)
few (k.if_other l) = l

with_init : {x : IfPart} {w : Bound} (y : t.MaybeStmt) → IfBound x w → IfBound (record x { init = y }) w
with_init y (k.if_stmt q l) = k.if_stmt q l
with_init y (k.if_other l) = k.if_other l

if_fits : {x : IfPart} {w : Bound} (e : t.Expr) (b : t.Block) (y : t.MaybeStmt) → IfBound x w → maybe_stmt_fits x.blocks x.init ≡ true → expr_fits x.blocks 0 e ≡ true → block_fits x.blocks b ≡ true → maybe_stmt_fits x.blocks y ≡ true → elses y + x.elses ≤ 500 → Fit w (AStmt (if_of x e b y))
if_fits e b y (k.if_stmt q l) i p z m h = (both (both (both (both (short_is (elses y) (omega (arith, h))) i) p) z) m, omega (arith, l))
if_fits e b y (k.if_other l) i p z m h = (both (both (both (both (short_is (elses y) (omega (arith, h))) i) p) z) m, omega (arith, h))

no_init : (x : IfPart) → x.init ≡ t.NoStmt → maybe_stmt_fits x.blocks x.init ≡ true
no_init x q = subst (λ z. maybe_stmt_fits x.blocks z ≡ true) (sym q) refl

pub control_row_fits : {x : ControlFrame} {w : Bound} (u : Token) (s : Stack) → KControl x w → Goal w s (control_row u x s)
control_row_fits u s (k.at_if {x} i q) =
    g_if (is_semicolon u.kind) (λ z. as_goal (one (OfControl (f.Condition x)) (k.condition i (no_init x q)))) (λ z. as_goal (above (OfControl (f.AtIf x)) (k.at_if i q) (simple_begun u (header_ctx x.blocks) Headed (OfControl (f.AtIf x) ∷ s) refl (omega arith) headed)))
control_row_fits u s (k.condition {x} i p) = as_goal (above (OfControl (f.Condition x)) (k.condition i p) (expr_begun u (header_ctx x.blocks) (OfControl (f.Condition x) ∷ s)))
control_row_fits u s (k.at_else {x} {e} {b} i p q z h) =
    g_if (is_word word.If u) (λ y. as_goal (two (OfControl (f.Other x e b)) (OfControl (f.AtIf (new_if x.blocks u.place (one_longer x.elses)))) (k.other i p q z h) (k.at_if (k.if_other (let l = long_is x.elses h in omega (arith, l, h))) refl)))
    (λ y. as_goal (above (OfControl (f.Other x e b)) (k.other i p q z h) (other_begun u x.blocks (OfControl (f.Other x e b) ∷ s))))
control_row_fits u s (k.at_for {x} l) =
    g_op u o.LeftBrace (as_goal (above (OfControl (f.ForBody x t.NoStmt t.NoExpr t.NoStmt)) (k.for_body l refl refl refl) (block_begun u x.blocks (OfControl (f.ForBody x t.NoStmt t.NoExpr t.NoStmt) ∷ s))))
    (g_if (is_semicolon u.kind) (λ z. as_goal (one (OfControl (f.ForCondition x t.NoStmt)) (k.for_condition l refl))) (λ z.
    g_if (is_word word.Range u) (λ z. as_goal (an_expr (OfControl (f.AtRange x [] false)) (header_ctx x.blocks) (k.at_range l refl) refl)) (λ z.
    as_goal (above (OfControl (f.AtFor x)) (k.at_for l) (simple_begun u (header_ctx x.blocks) InFor (OfControl (f.AtFor x) ∷ s) refl (omega arith) in_for)))))
control_row_fits u s (k.for_condition {x} {init} l p) =
    g_if (is_semicolon u.kind) (λ z. as_goal (one (OfControl (f.Post x init t.NoExpr)) (k.post l p refl))) (λ z. as_goal (above (OfControl (f.ForCondition x init)) (k.for_condition l p) (expr_begun u (header_ctx x.blocks) (OfControl (f.ForCondition x init) ∷ s))))
control_row_fits u s (k.post {x} {init} {e} l p q) =
    g_op u o.LeftBrace (as_goal (above (OfControl (f.ForBody x init e t.NoStmt)) (k.for_body l p q refl) (block_begun u x.blocks (OfControl (f.ForBody x init e t.NoStmt) ∷ s))))
    (as_goal (above (OfControl (f.Post x init e)) (k.post l p q) (simple_begun u (header_ctx x.blocks) Headed (OfControl (f.Post x init e) ∷ s) refl (omega arith) headed)))
control_row_fits u s _ = stuck

then_begun : {w : Bound} (u : Token) (x : IfPart) (e : t.Expr) (s : Stack) → IfBound x w → maybe_stmt_fits x.blocks x.init ≡ true → expr_fits x.blocks 0 e ≡ true → Begun w s (then_block u x e s)
then_begun u x e s i p q = above (OfControl (f.Then x e)) (k.then_ i p q) (block_begun u x.blocks (OfControl (f.Then x e) ∷ s))

for_begun : {n : ℕ} (u : Token) (x : ForPart) (init : t.MaybeStmt) (e : t.MaybeExpr) (p : t.MaybeStmt) (s : Stack) → n ≤ 500 → maybe_stmt_fits x.blocks init ≡ true → maybe_fits x.blocks 0 e ≡ true → maybe_stmt_fits x.blocks p ≡ true → Begun (LStmt x.blocks n) s (for_block u x init e p s)
for_begun u x init e p s l i j h = above (OfControl (f.ForBody x init e p)) (k.for_body l i j h) (block_begun u x.blocks (OfControl (f.ForBody x init e p) ∷ s))

pub control_expr_fits : {x : ControlFrame} {w : Bound} (u : Token) (e : t.Expr) (s : Stack) → KControl x w → Fit (l_control x) (AnExpr e) → Goal w s (control_meets_expr u x e s)
control_expr_fits u e s (k.condition {x} i p) j = as_goal (then_begun u x e s i p j)
control_expr_fits u e s (k.for_condition {x} {init} l p) j = g_if (is_semicolon u.kind) (λ z. as_goal (one (OfControl (f.Post x init (t.AnExpr e))) (k.post l p j))) (λ z. stuck)
control_expr_fits u e s (k.at_range {x} {es} {fresh} l p) j = as_goal (above (OfControl (f.RangeBody x es fresh e)) (k.range_body l p j) (block_begun u x.blocks (OfControl (f.RangeBody x es fresh e) ∷ s)))
control_expr_fits u e s _ j = stuck

if_with_begun : {w : Bound} (u : Token) (x : IfPart) (y : t.Stmt) (e : Option t.Expr) (s : Stack) → expr_in y ≡ e → IfBound x w → maybe_stmt_fits x.blocks x.init ≡ true → stmt_fits x.blocks y ≡ true → Begun w s (if_with u x e s)
if_with_begun u x y None s q i p j = b_stuck
if_with_begun u x y (Some e) s q i p j = then_begun u x e s i p (alone_fits x.blocks y e j q)

for_with_begun : {n : ℕ} (u : Token) (x : ForPart) (y : t.Stmt) (e : Option t.Expr) (s : Stack) → expr_in y ≡ e → n ≤ 500 → stmt_fits x.blocks y ≡ true → Begun (LStmt x.blocks n) s (for_with u x e s)
for_with_begun u x y None s q l j = b_stuck
for_with_begun u x y (Some e) s q l j = for_begun u x t.NoStmt (t.AnExpr e) t.NoStmt s l refl (alone_fits x.blocks y e j q) refl

pub control_stmt_fits : {x : ControlFrame} {w : Bound} (u : Token) (y : t.Stmt) (s : Stack) → KControl x w → Fit (l_control x) (AStmt y) → Goal w s (control_meets_stmt u x y s)
control_stmt_fits u y s (k.at_if {x} i q) j =
    g_if (is_semicolon u.kind) (λ z. as_goal (one (OfControl (f.Condition (record x { init = t.AStmt y }))) (k.condition (with_init (t.AStmt y) i) (j.0)))) (λ z. as_goal (if_with_begun u x y (expr_in y) s refl i (no_init x q) (j.0)))
control_stmt_fits u y s (k.other {x} {e} {b} i p q z h) j = done (if_fits e b (t.AStmt y) i p q z (j.0) (let l = long_is x.elses h in let m = j.1 in omega (arith, l, m)))
control_stmt_fits u y s (k.at_for {x} l) j =
    g_if (is_semicolon u.kind) (λ z. as_goal (one (OfControl (f.ForCondition x (t.AStmt y))) (k.for_condition l (j.0)))) (λ z. as_goal (for_with_begun u x y (expr_in y) s refl l (j.0)))
control_stmt_fits u y s (k.post {x} {init} {e} l p q) j = as_goal (for_begun u x init e (t.AStmt y) s l p q (j.0))
control_stmt_fits u y s _ j = stuck

pub control_ranging_fits : {x : ControlFrame} {w : Bound} (u : Token) (es : List t.Expr) (fresh : Bool) (s : Stack) → KControl x w → Fit (l_control x) (ARanging es fresh) → Goal w s (control_meets_ranging u x es fresh s)
control_ranging_fits u es fresh s (k.at_for {x} l) j = as_goal (above (OfControl (f.AtRange x es fresh)) (k.at_range l j) (expr_begun u (header_ctx x.blocks) (OfControl (f.AtRange x es fresh) ∷ s)))
control_ranging_fits u es fresh s _ j = stuck

pub control_block_fits : {x : ControlFrame} {w : Bound} (u : Token) (c : t.Block) (s : Stack) → KControl x w → Fit (l_control x) (ABlock c) → Goal w s (control_meets_block u x c s)
control_block_fits u c s (k.then_ {x} {e} i p q) j =
    g_if (is_word word.Else u) (λ z. as_goal (in_short x.elses u.place (λ h. one (OfControl (f.AtElse x e c)) (k.at_else i p q j h)))) (λ z. done (if_fits e c t.NoStmt i p q j refl (let l = few i in omega (arith, l))))
control_block_fits u c s (k.other {x} {e} {b} i p q z h) j = done (if_fits e b (t.AStmt (block_stmt c)) i p q z j (omega (arith, h)))
control_block_fits u c s (k.for_body l p q z) j = done (both (both (both p q) z) j, omega (arith, l))
control_block_fits u c s (k.range_body l p q) j = done (both (both p q) j, omega (arith, l))
control_block_fits u c s _ j = stuck

-- switch
switch_begun : {n : ℕ} (u : Token) (b : ℕ) (at : Place) (init : t.MaybeStmt) (x : Subject) (s : Stack) → n ≤ 500 → maybe_stmt_fits b init ≡ true → SubjectFits b x → Begun (LStmt b n) s (open_switch u b at init x s)
switch_begun u b at init x s l p i =
    b_op u o.LeftBrace (b_if (has_room b) (λ r. one (OfSwitch (f.InSwitchBraces (record { blocks = b + 1; place = at; init = init; subject = x; clauses = [] }))) (k.in_switch l (record { room = r; blocks = refl; init = p; subject = i; clauses = record { fit = λ z q. q } }))) (λ r. b_deep)) b_stuck

clauses_all : {b : ℕ} {x : SwitchPart} → SwitchFits b x → clauses_fit (b + 1) (joined x.clauses t.NoClauses) ≡ true
clauses_all {b} {x} i = let c = i.clauses in subst (λ z. clauses_fit z (joined x.clauses t.NoClauses) ≡ true) i.blocks (c.fit t.NoClauses refl)

guard_room : {b : ℕ} {e : t.Expr} → GuardFits b 0 0 e → has_room (prefixes e) ≡ true
guard_room {e = e} i = subst (λ z. has_room z ≡ true) (let q : 0 + prefixes e ≡ prefixes e = omega arith in q) i.room

subject_done : {b n : ℕ} {x : SwitchPart} (y : Subject) → n ≤ 500 → SwitchFits b x → SubjectFits b y → Fit (LStmt b n) (AStmt (switch_of x y))
subject_done _ l i (k.on_tag p) = (both (both (both i.init p) i.room) (clauses_all i), omega (arith, l))
subject_done _ l i (k.on_guard {e = e} g) = (both (both (both (both (both i.init (short_is (last_parts e + 1) g.parts)) (guard_room g)) g.fits) i.room) (clauses_all i), omega (arith, l))

select_done : {b n : ℕ} {x : SelectPart} → n ≤ 500 → SelectFits b x → Fit (LStmt b n) (AStmt (t.SelectStmt x.place (joined x.comms t.NoComms)))
select_done {b} {x = x} l i = let c = i.comms in (both i.room (subst (λ z. comms_fit z (joined x.comms t.NoComms) ≡ true) i.blocks (c.fit t.NoComms refl)), omega (arith, l))

clauses_fits : {b n : ℕ} (x : SwitchPart) (u : Token) (s : Stack) → n ≤ 500 → SwitchFits b x → Goal (LStmt b n) s (clauses u x s)
clauses_fits x u s l i =
    g_if (is_word word.Case u) (λ q. as_goal (an_expr (OfSwitch (f.Case x u.place [])) (new_ctx x.blocks) (k.case_ l i refl) refl)) (λ q.
    g_if (is_word word.Default u) (λ q. as_goal (one (OfSwitch (f.Default x u.place)) (k.default_ l i))) (λ q.
    g_op u o.RightBrace (as_goal (one (Done (AStmt (switch_of x x.subject))) (subject_done x.subject l i i.subject))) stuck))

comms_fits : {b n : ℕ} (x : SelectPart) (u : Token) (s : Stack) → n ≤ 500 → SelectFits b x → Goal (LStmt b n) s (comms u x s)
comms_fits x u s l i =
    g_if (is_word word.Case u) (λ q. as_goal (one (OfSwitch (f.CommCase x u.place)) (k.comm_case l i))) (λ q.
    g_if (is_word word.Default u) (λ q. as_goal (one (OfSwitch (f.CommDefault x u.place)) (k.comm_default l i))) (λ q.
    g_op u o.RightBrace (as_goal (one (Done (AStmt (t.SelectStmt x.place (joined x.comms t.NoComms)))) (select_done l i))) stuck))

clause_fits : {b n : ℕ} (x : SwitchPart) (u : Token) (at : Place) (es : List t.Expr) (ss : List t.Stmt) (s : Stack) → n ≤ 500 → SwitchFits b x → exprs_fit x.blocks 0 (exprs_of es) ≡ true → stmts_fit x.blocks (stmts_of ss) ≡ true → Goal (LStmt b n) s (after_clause_stmt u x at es ss s)
clause_fits x u at es ss s l i p q =
    let node : t.Clauses → t.Clauses = λ rest. t.MoreClauses at (exprs_of es) (stmts_of ss) rest in
    let c = i.clauses in
    g_if (is_semicolon u.kind) (λ z. as_goal (one (OfSwitch (f.ClauseBody x at es ss)) (k.clause_body l i p q)))
    (λ z. clauses_fits (record x { clauses = x.clauses ++ node ∷ [] }) u s l (record { room = i.room; blocks = i.blocks; init = i.init; subject = i.subject; clauses = record { fit = λ r h. subst (λ y. clauses_fit x.blocks y ≡ true) (sym (joined_more x.clauses node r)) (c.fit (node r) (both (both p q) h)) } }))

comm_fits : {b n : ℕ} (x : SelectPart) (u : Token) (at : Place) (y : t.MaybeStmt) (ss : List t.Stmt) (s : Stack) → n ≤ 500 → SelectFits b x → maybe_stmt_fits x.blocks y ≡ true → stmts_fit x.blocks (stmts_of ss) ≡ true → Goal (LStmt b n) s (after_comm_stmt u x at y ss s)
comm_fits x u at y ss s l i p q =
    let node : t.Comms → t.Comms = λ rest. t.MoreComms at y (stmts_of ss) rest in
    let c = i.comms in
    g_if (is_semicolon u.kind) (λ z. as_goal (one (OfSwitch (f.CommBody x at y ss)) (k.comm_body l i p q)))
    (λ z. comms_fits (record x { comms = x.comms ++ node ∷ [] }) u s l (record { room = i.room; blocks = i.blocks; comms = record { fit = λ r h. subst (λ v. comms_fit x.blocks v ≡ true) (sym (joined_more x.comms node r)) (c.fit (node r) (both (both p q) h)) } }))

pub switch_row_fits : {x : SwitchFrame} {w : Bound} (u : Token) (s : Stack) → KSwitch x w → Goal w s (switch_row u x s)
switch_row_fits u s (k.switch_head {b} {at = at} l) =
    g_if (is_semicolon u.kind) (λ q. as_goal (one (OfSwitch (f.SwitchTag b at t.NoStmt)) (k.switch_tag l refl))) (λ q.
    g_op u o.LeftBrace (as_goal (switch_begun u b at t.NoStmt (f.OnTag t.NoExpr) s l refl (k.on_tag refl)))
    (as_goal (above (OfSwitch (f.SwitchHead b at)) (k.switch_head l) (simple_begun u (header_ctx b) InSwitch (OfSwitch (f.SwitchHead b at) ∷ s) refl (omega arith) in_switch))))
switch_row_fits u s (k.switch_tag {b} {at = at} {init} l p) =
    g_op u o.LeftBrace (as_goal (switch_begun u b at init (f.OnTag t.NoExpr) s l p (k.on_tag refl)))
    (as_goal (above (OfSwitch (f.SwitchTag b at init)) (k.switch_tag l p) (simple_begun u (header_ctx b) InTag (OfSwitch (f.SwitchTag b at init) ∷ s) refl (omega arith) in_tag)))
switch_row_fits u s (k.guard_end {b} {at = at} {init} {y} {e} l p g) = as_goal (switch_begun u b at init (f.OnGuard y e) s l p (k.on_guard g))
switch_row_fits u s (k.in_switch {x = x} l i) = clauses_fits x u s l i
switch_row_fits u s (k.default_ {x = x} {at} l i) = g_op u o.Colon (as_goal (one (OfSwitch (f.ClauseBody x at [] [])) (k.clause_body l i refl refl))) stuck
switch_row_fits u s (k.clause_body {x = x} {at} {es} {ss} l i p q) =
    g_if (ends_clause u || is_semicolon u.kind) (λ z. clause_fits x u at es ss s l i p q) (λ z. as_goal (above (OfSwitch (f.ClauseBody x at es ss)) (k.clause_body l i p q) (stmt_begun u x.blocks 0 (OfSwitch (f.ClauseBody x at es ss) ∷ s) (omega arith))))
switch_row_fits u s (k.select_open {b} {at = at} l) =
    g_op u o.LeftBrace (as_goal (b_if (has_room b) (λ r. one (OfSwitch (f.InSelect (record { blocks = b + 1; place = at; comms = [] }))) (k.in_select l (record { room = r; blocks = refl; comms = record { fit = λ z q. q } }))) (λ r. b_deep))) stuck
switch_row_fits u s (k.in_select {x = x} l i) = comms_fits x u s l i
switch_row_fits u s (k.comm_case {x = x} {at} l i) = as_goal (above (OfSwitch (f.CommCase x at)) (k.comm_case l i) (simple_begun u (new_ctx x.blocks) Headed (OfSwitch (f.CommCase x at) ∷ s) refl (omega arith) headed))
switch_row_fits u s (k.comm_default {x = x} {at} l i) = g_op u o.Colon (as_goal (one (OfSwitch (f.CommBody x at t.NoStmt [])) (k.comm_body l i refl refl))) stuck
switch_row_fits u s (k.comm_body {x = x} {at} {y} {ss} l i p q) =
    g_if (ends_clause u || is_semicolon u.kind) (λ z. comm_fits x u at y ss s l i p q) (λ z. as_goal (above (OfSwitch (f.CommBody x at y ss)) (k.comm_body l i p q) (stmt_begun u x.blocks 0 (OfSwitch (f.CommBody x at y ss) ∷ s) (omega arith))))
switch_row_fits u s _ = stuck

pub switch_expr_fits : {x : SwitchFrame} {w : Bound} (u : Token) (e : t.Expr) (s : Stack) → KSwitch x w → Fit (l_switch x) (AnExpr e) → Goal w s (switch_meets_expr u x e s)
switch_expr_fits u e s (k.case_ {x = x} {at} {es} l i p) j =
    let z = exprs_and x.blocks 0 e es p j in
    g_op u o.Comma (as_goal (an_expr (OfSwitch (f.Case x at (es ++ e ∷ []))) (new_ctx x.blocks) (k.case_ l i z) refl)) (g_op u o.Colon (as_goal (one (OfSwitch (f.ClauseBody x at (es ++ e ∷ []) [])) (k.clause_body l i z refl))) stuck)
switch_expr_fits u e s _ j = stuck

switch_with_begun : {n : ℕ} (u : Token) (b : ℕ) (at : Place) (init : t.MaybeStmt) (y : t.Stmt) (e : Option t.Expr) (s : Stack) → expr_in y ≡ e → n ≤ 500 → maybe_stmt_fits b init ≡ true → stmt_fits b y ≡ true → Begun (LStmt b n) s (switch_with u b at init e s)
switch_with_begun u b at init y None s q l p j = b_stuck
switch_with_begun u b at init y (Some e) s q l p j = switch_begun u b at init (f.OnTag (t.AnExpr e)) s l p (k.on_tag (alone_fits b y e j q))

pub switch_stmt_fits : {x : SwitchFrame} {w : Bound} (u : Token) (y : t.Stmt) (s : Stack) → KSwitch x w → Fit (l_switch x) (AStmt y) → Goal w s (switch_meets_stmt u x y s)
switch_stmt_fits u y s (k.switch_head {b} {at = at} l) j =
    g_if (is_semicolon u.kind) (λ q. as_goal (one (OfSwitch (f.SwitchTag b at (t.AStmt y))) (k.switch_tag l (j.0)))) (λ q. as_goal (switch_with_begun u b at t.NoStmt y (expr_in y) s refl l refl (j.0)))
switch_stmt_fits u y s (k.switch_tag {b} {at = at} {init} l p) j = as_goal (switch_with_begun u b at init y (expr_in y) s refl l p (j.0))
switch_stmt_fits u y s (k.clause_body {x = x} {at} {es} {ss} l i p q) j = clause_fits x u at es (ss ++ y ∷ []) s l i p (stmts_and x.blocks y ss q (j.0))
switch_stmt_fits u y s (k.comm_case {x = x} {at} l i) j = g_op u o.Colon (as_goal (one (OfSwitch (f.CommBody x at (t.AStmt y) [])) (k.comm_body l i (j.0) refl))) stuck
switch_stmt_fits u y s (k.comm_body {x = x} {at} {y = z} {ss} l i p q) j = comm_fits x u at z (ss ++ y ∷ []) s l i p (stmts_and x.blocks y ss q (j.0))
switch_stmt_fits u y s _ j = stuck

pub switch_guard_fits : {x : SwitchFrame} {w : Bound} (u : Token) (y : Option Name) (e : t.Expr) (s : Stack) → KSwitch x w → Fit (l_switch x) (AGuard y e) → Goal w s (guard_meets_switch u x y e s)
switch_guard_fits u y e s (k.switch_head {b} {at = at} l) j = g_op u o.RightParen (as_goal (one (OfSwitch (f.GuardEnd b at t.NoStmt y e)) (k.guard_end l refl j))) stuck
switch_guard_fits u y e s (k.switch_tag {b} {at = at} {init} l p) j = g_op u o.RightParen (as_goal (one (OfSwitch (f.GuardEnd b at init y e)) (k.guard_end l p j))) stuck
switch_guard_fits u y e s _ j = stuck
