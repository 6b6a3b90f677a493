-- Limits: the steps of statements keep the invariant.
use Rattle.std.proofs.Common.{◌≡◌, ◌≤◌, ◌+◌, ◌&&◌, ◌||◌, Bool, true, false, ℕ, List, [], ◌∷◌, ◌++◌, Option, Some, None, refl, ap, sym, ◌∙◌, subst, arith, is_some}
use Rattle.gj_base.specs.declared.place.Place.{Place}
use Rattle.gj_base.specs.declared.kind.Op.{Op}
use Rattle.go_syntax.specs.Tree as t
use Rattle.go_syntax.specs.Token.{Token}
use Rattle.go_syntax.specs.View.{exprs_of, stmts_of}
use Rattle.go_syntax.specs.declared.kind.TokenKind.{TokenKind}
use Rattle.go_syntax.specs.declared.kind.TokenKind.TheVariants as kind
use Rattle.go_syntax.specs.declared.keyword.Keyword.{Keyword}
use Rattle.go_syntax.specs.declared.keyword.Keyword.TheVariants as word
use Rattle.go_syntax.specs.declared.operator.Operator.TheVariants as o
use Rattle.go_syntax.specs.declared.tree.Name.{Name}
use Rattle.go_grammar.specs.Limits.{has_room, one_longer, labels, expr_fits, exprs_fit, stmts_fit, stmt_fits}
use Rattle.go_grammar.specs.Frames as f
use Rattle.go_grammar.specs.Frames.{Ctx, new_ctx, header_ctx, inside, deeper, Base, Braces, Elems, StructPart, InterfacePart, Embedded, Params, Role, ParamsPart, Mode, Listed, Headed, InFor, InSwitch, InTag, Spot, IfPart, ForPart, Subject, SwitchPart, SelectPart, ValuesPart, TypesPart, FilePart, ExprFrame, PartFrame, TypeFrame, FieldFrame, SigFrame, StmtFrame, ControlFrame, SwitchFrame, DeclFrame, FileFrame, Frame, OfExpr, OfPart, OfType, OfField, OfSig, OfStmt, OfControl, OfSwitch, OfDecl, OfFile, Done, Stack, Flow, Goes, Over, Stuck, Deep, Long, Value, AnExpr, AChain, AGuard, ARanging, ASig, ABlock, AStmt, ADecl}
use Rattle.go_grammar.specs.Nodes.{is_op, is_word, is_name_token, is_semicolon}
use Rattle.go_grammar.proofs.FitHeld as k
use Rattle.go_grammar.proofs.FitHeld.{TailFits, GuardFits, Bound, LNone, LFile, LUnary, LExpr, LType, LSig, LBlock, LStmt, LElse, LDecl, Fit, KExpr, l_expr, BaseFits, ElemsFit, BracesFit, KPart, l_part, KType, l_type, FieldsFit, MembersFit, StructFits, InterfaceFits, KField, l_field, ParamsFit, RoleFits, KSig, l_sig, SpotFits, KStmt, l_stmt, IfBound, KControl, l_control, SubjectFits, ClausesFit, CommsFit, SwitchFits, SelectFits, KSwitch, l_switch, ValuesFit, TypesFit, KDecl, l_decl, ReceiverFits, KFile, l_file}
use Rattle.go_grammar.proofs.FitStack.{Goal, done, stuck, Begun, b_stuck, as_goal, one, two, above, an_expr, g_if, b_if, g_op, b_op, in_short, both, long_is, short_is}
use Rattle.go_grammar.specs.Classes.{name_of, assign_op}
use Rattle.go_grammar.specs.Context.{is_name}
use Rattle.go_grammar.specs.Nodes.{begins_expr, begins_stmt}
use Rattle.go_grammar.specs.StmtSteps.{takes_guard, is_tag, is_for, is_listed, is_one_name, begin_simple, begin_decl, begin_word_stmt, begin_stmt, after_stmt, break_to, right_side, stmt_row, after_label_name, label_in, after_all, after_assign_op, after_left, stmt_meets_expr, guard_meets_simple, stmt_meets_stmt, stmt_meets_block, stmt_meets_decl, new_if}
use Rattle.go_grammar.proofs.FitTypes.{expr_begun}
use Rattle.go_grammar.proofs.FitExprs.{block_begun, exprs_and, and_two}

pub stmts_and : (b : ℕ) (y : t.Stmt) (ss : List t.Stmt) → stmts_fit b (stmts_of ss) ≡ true → stmt_fits b y ≡ true → stmts_fit b (stmts_of (ss ++ y ∷ [])) ≡ true
stmts_and b y [] p i = both i refl
stmts_and b y (x ∷ xs) p i = let z = and_two (stmt_fits b x) (stmts_fit b (stmts_of xs)) p in both (z.0) (stmts_and b y xs (z.1) i)

pub simple_begun : {n : ℕ} (u : Token) (c : Ctx) (m : Mode) (s : Stack) → c.depth ≡ 0 → n ≤ 500 → ((j : ℕ) → m ≡ Listed j → j ≡ n) → Begun (LStmt c.blocks n) s (begin_simple u c m s)
simple_begun u c m s q l h =
    let x : Spot = record { ctx = c; mode = m; place = u.place } in
    above (OfStmt (f.Simple x [])) (k.simple (record { depth = q; count = l; labels = h }) refl) (expr_begun u (record c { guard = takes_guard m }) (OfStmt (f.Simple x []) ∷ s))

headed : {n : ℕ} (j : ℕ) → Headed ≡ Listed j → j ≡ n
headed j q = absurd (cc)

pub decl_begun : (u : Token) (b : ℕ) (s : Stack) → Begun (LDecl b) s (begin_decl u b s)
decl_begun u b s =
    b_if (is_word word.Type u) (λ q. one (OfDecl (f.AtTypes (record { blocks = b; place = u.place; group = false; specs = [] }))) (k.at_types (record { fit = λ r z. z })))
    (λ q. one (OfDecl (f.AtValues (record { blocks = b; place = u.place; constant = is_word word.Const u; group = false; specs = [] }))) (k.at_values (record { fit = λ r z. z })))

word_begun : {n : ℕ} (u : Token) (x : Keyword) (b : ℕ) (s : Stack) → n ≤ 500 → Begun (LStmt b n) s (begin_word_stmt u x b s)
word_begun u word.Const b s l = above (OfStmt f.Declared) (k.declared l) (decl_begun u b (OfStmt f.Declared ∷ s))
word_begun u word.Type b s l = above (OfStmt f.Declared) (k.declared l) (decl_begun u b (OfStmt f.Declared ∷ s))
word_begun u word.Var b s l = above (OfStmt f.Declared) (k.declared l) (decl_begun u b (OfStmt f.Declared ∷ s))
word_begun u word.Go b s l = an_expr (OfStmt (f.AtGo u.place)) (new_ctx b) (k.at_go l) refl
word_begun u word.Defer b s l = an_expr (OfStmt (f.AtDefer u.place)) (new_ctx b) (k.at_defer l) refl
word_begun u word.Return b s l = one (OfStmt (f.AtReturn b u.place)) (k.at_return l)
word_begun u word.Break b s l = one (OfStmt (f.AtBreak u.place true)) (k.at_break l)
word_begun u word.Continue b s l = one (OfStmt (f.AtBreak u.place false)) (k.at_break l)
word_begun u word.Fallthrough b s l = one (Done (AStmt (t.FallthroughStmt u.place))) (refl, omega (arith, l))
word_begun u word.If b s l = one (OfControl (f.AtIf (new_if b u.place 0))) (k.at_if (k.if_stmt refl l) refl)
word_begun u word.For b s l = one (OfControl (f.AtFor (record { blocks = b; place = u.place }))) (k.at_for l)
word_begun u word.Switch b s l = one (OfSwitch (f.SwitchHead b u.place)) (k.switch_head l)
word_begun u word.Select b s l = one (OfSwitch (f.SelectOpen b u.place)) (k.select_open l)
word_begun u _ b s l = simple_begun u (new_ctx b) Headed s refl l headed

listed : (n j : ℕ) → Listed n ≡ Listed j → j ≡ n
listed n j q = cc

stmt_kind_begun : (j : TokenKind) (at : Place) (x : List ℕ) (b n : ℕ) (s : Stack) → n ≤ 500 → Begun (LStmt b n) s (begin_stmt (record { kind = j; place = at; text = x }) b n s)
stmt_kind_begun (kind.Op y) at x b n s l = let u : Token = record { kind = (kind.Op y); place = at; text = x } in b_op u o.LeftBrace (above (OfStmt f.Inner) (k.inner l) (block_begun u b (OfStmt f.Inner ∷ s))) (simple_begun u (new_ctx b) (Listed n) s refl l (listed n))
stmt_kind_begun kind.Name at x b n s l = let u : Token = record { kind = kind.Name; place = at; text = x } in b_op u o.LeftBrace (above (OfStmt f.Inner) (k.inner l) (block_begun u b (OfStmt f.Inner ∷ s))) (simple_begun u (new_ctx b) (Listed n) s refl l (listed n))
stmt_kind_begun kind.Int at x b n s l = let u : Token = record { kind = kind.Int; place = at; text = x } in b_op u o.LeftBrace (above (OfStmt f.Inner) (k.inner l) (block_begun u b (OfStmt f.Inner ∷ s))) (simple_begun u (new_ctx b) (Listed n) s refl l (listed n))
stmt_kind_begun kind.Rune at x b n s l = let u : Token = record { kind = kind.Rune; place = at; text = x } in b_op u o.LeftBrace (above (OfStmt f.Inner) (k.inner l) (block_begun u b (OfStmt f.Inner ∷ s))) (simple_begun u (new_ctx b) (Listed n) s refl l (listed n))
stmt_kind_begun kind.Str at x b n s l = let u : Token = record { kind = kind.Str; place = at; text = x } in b_op u o.LeftBrace (above (OfStmt f.Inner) (k.inner l) (block_begun u b (OfStmt f.Inner ∷ s))) (simple_begun u (new_ctx b) (Listed n) s refl l (listed n))
stmt_kind_begun kind.Semi at x b n s l = let u : Token = record { kind = kind.Semi; place = at; text = x } in b_op u o.LeftBrace (above (OfStmt f.Inner) (k.inner l) (block_begun u b (OfStmt f.Inner ∷ s))) (simple_begun u (new_ctx b) (Listed n) s refl l (listed n))
stmt_kind_begun kind.Auto at x b n s l = let u : Token = record { kind = kind.Auto; place = at; text = x } in b_op u o.LeftBrace (above (OfStmt f.Inner) (k.inner l) (block_begun u b (OfStmt f.Inner ∷ s))) (simple_begun u (new_ctx b) (Listed n) s refl l (listed n))
stmt_kind_begun kind.End at x b n s l = let u : Token = record { kind = kind.End; place = at; text = x } in b_op u o.LeftBrace (above (OfStmt f.Inner) (k.inner l) (block_begun u b (OfStmt f.Inner ∷ s))) (simple_begun u (new_ctx b) (Listed n) s refl l (listed n))
stmt_kind_begun (kind.Word y) at x b n s l = let u : Token = record { kind = kind.Word y; place = at; text = x } in b_op u o.LeftBrace (above (OfStmt f.Inner) (k.inner l) (block_begun u b (OfStmt f.Inner ∷ s))) (word_begun u y b s l)

pub stmt_begun : (u : Token) (b n : ℕ) (s : Stack) → n ≤ 500 → Begun (LStmt b n) s (begin_stmt u b n s)
stmt_begun u b n s l = stmt_kind_begun u.kind u.place u.text b n s l

-- the bounds of a block
data BlockIs : ℕ → Bound → Type 0 where
  to_block : {b : ℕ} → BlockIs b (LBlock b)
  to_other : {b n : ℕ} → BlockIs b (LElse b n)

block_kept : {b : ℕ} {w : Bound} (at : Place) (ss : List t.Stmt) → BlockIs b w → has_room b ≡ true → stmts_fit (b + 1) (stmts_of ss) ≡ true → KStmt (f.InBlock (b + 1) at ss) w
block_kept at ss to_block r p = k.in_block r p
block_kept at ss to_other r p = k.in_other r p

block_done : {b : ℕ} {w : Bound} (at at' : Place) (ss : List t.Stmt) → BlockIs b w → has_room b ≡ true → stmts_fit (b + 1) (stmts_of ss) ≡ true → Fit w (ABlock (t.BlockOf at (stmts_of ss) at'))
block_done at at' ss to_block r p = both r p
block_done at at' ss to_other r p = both r p

after_fits : {b : ℕ} {w : Bound} (u : Token) (at : Place) (ss : List t.Stmt) (s : Stack) → BlockIs b w → has_room b ≡ true → stmts_fit (b + 1) (stmts_of ss) ≡ true → Goal w s (after_stmt u (b + 1) at ss s)
after_fits {b} u at ss s i r p =
    g_if (is_semicolon u.kind) (λ q. as_goal (one (OfStmt (f.InBlock (b + 1) at ss)) (block_kept at ss i r p))) (λ q. g_op u o.RightBrace (as_goal (one (Done (ABlock (t.BlockOf at (stmts_of ss) u.place))) (block_done at u.place ss i r p))) stuck)

block_row : {b : ℕ} {w : Bound} (u : Token) (at : Place) (ss : List t.Stmt) (s : Stack) → BlockIs b w → has_room b ≡ true → stmts_fit (b + 1) (stmts_of ss) ≡ true → Goal w s (stmt_row u (f.InBlock (b + 1) at ss) s)
block_row {b} {w} u at ss s i r p =
    g_if (is_semicolon u.kind || is_op o.RightBrace u) (λ q. after_fits u at ss s i r p) (λ q. as_goal (above (OfStmt (f.InBlock (b + 1) at ss)) (block_kept at ss i r p) (stmt_begun u (b + 1) 0 (OfStmt (f.InBlock (b + 1) at ss) ∷ s) (omega arith))))

break_fits : (b n : ℕ) (at : Place) (is : Bool) (x : Option Name) → n ≤ 500 → Fit (LStmt b n) (AStmt (break_to at is x))
break_fits b n at true x l = (refl, omega (arith, l))
break_fits b n at false x l = (refl, omega (arith, l))

right_begun : {n : ℕ} (x : Spot) (u : Token) (es : List t.Expr) (fresh : Bool) (s : Stack) → SpotFits x n → exprs_fit x.ctx.blocks 0 (exprs_of es) ≡ true → Begun (LStmt x.ctx.blocks n) s (right_side u x es fresh s)
right_begun x u es true s i p = above (OfStmt (f.Defined x es [])) (k.defined i p refl) (expr_begun u (record x.ctx { guard = takes_guard x.mode && is_one_name es }) (OfStmt (f.Defined x es []) ∷ s))
right_begun x u es false s i p = above (OfStmt (f.Assigned x es None [])) (k.assigned i p refl) (expr_begun u x.ctx (OfStmt (f.Assigned x es None []) ∷ s))

pub stmt_row_fits : {x : StmtFrame} {w : Bound} (u : Token) (s : Stack) → KStmt x w → Goal w s (stmt_row u x s)
stmt_row_fits u s (k.in_block {at = at} {ss} r p) = block_row u at ss s to_block r p
stmt_row_fits u s (k.in_other {at = at} {ss} r p) = block_row u at ss s to_other r p
stmt_row_fits u s (k.at_return {at} {b} l) = g_if (begins_expr u.kind) (λ q. as_goal (above (OfStmt (f.Returned b at [])) (k.returned l refl) (expr_begun u (new_ctx b) (OfStmt (f.Returned b at []) ∷ s)))) (λ q. done (refl, omega (arith, l)))
stmt_row_fits u s (k.at_break {at} {is} {b} {n} l) = g_if (is_name_token u.kind) (λ q. as_goal (one (Done (AStmt (break_to at is (Some (name_of u))))) (break_fits b n at is (Some (name_of u)) l))) (λ q. done (break_fits b n at is None l))
stmt_row_fits u s (k.after_label {b} {n} l) = g_if (begins_stmt u) (λ q. as_goal (stmt_begun u b n s l)) (λ q. done (refl, omega (arith, l)))
stmt_row_fits u s (k.right {x} {es} {fresh} i p) = g_if (is_for x.mode && is_word word.Range u) (λ q. as_goal (one (Done (ARanging es fresh)) p)) (λ q. as_goal (right_begun x u es fresh s i p))
stmt_row_fits u s _ = stuck

-- a label
label_begun : {n : ℕ} (x : Spot) (m : Mode) (y : Option Name) (s : Stack) → n ≤ 500 → ((j : ℕ) → m ≡ Listed j → j ≡ n) → Begun (LStmt x.ctx.blocks n) s (after_label_name x m y s)
label_begun {n} x (Listed j) (Some y) s l h =
    in_short j y.place (λ m.
    let q = h j refl in
    let z : one_longer j ≡ n + 1 = long_is j m ∙ ap (λ i. i + 1) q in
    two (OfStmt (f.Labeled y)) (OfStmt (f.AfterLabel x.ctx.blocks (one_longer j))) (k.labeled (omega (arith, q, m))) (subst (λ i. KStmt (f.AfterLabel x.ctx.blocks (one_longer j)) (LStmt x.ctx.blocks i)) z (k.after_label (omega (arith, z, q, m)))))
label_begun x _ y s l h = b_stuck

all_fits : {n : ℕ} (x : Spot) (u : Token) (es : List t.Expr) (s : Stack) → SpotFits x n → exprs_fit x.ctx.blocks 0 (exprs_of es) ≡ true → Goal (LStmt x.ctx.blocks n) s (after_all u x es s)
all_fits x u es s i p =
    let l = i.count in
    g_op u o.Arrow (as_goal (an_expr (OfStmt (f.Sent x.place es)) x.ctx (k.sent l p) (ap (LExpr x.ctx.blocks) (sym i.depth))))
    (g_if (is_op o.Increment u || is_op o.Decrement u) (λ q. as_goal (one (Done (AStmt (t.IncDecStmt x.place (exprs_of es) (is_op o.Increment u)))) (p, omega (arith, l)))) (λ q.
    g_if (is_op o.Colon u && is_listed x.mode && is_some (label_in es)) (λ q. as_goal (label_begun x x.mode (label_in es) s l i.labels)) (λ q. done (p, omega (arith, l)))))

op_fits : {n : ℕ} (x : Spot) (u : Token) (es : List t.Expr) (y : Option Op) (s : Stack) → SpotFits x n → exprs_fit x.ctx.blocks 0 (exprs_of es) ≡ true → Goal (LStmt x.ctx.blocks n) s (after_assign_op u x es y s)
op_fits x u es (Some op) s i p = as_goal (an_expr (OfStmt (f.Assigned x es (Some op) [])) x.ctx (k.assigned i p refl) refl)
op_fits x u es None s i p = all_fits x u es s i p

left_fits : {n : ℕ} (x : Spot) (u : Token) (es : List t.Expr) (e : t.Expr) (s : Stack) → SpotFits x n → exprs_fit x.ctx.blocks 0 (exprs_of (es ++ e ∷ [])) ≡ true → Goal (LStmt x.ctx.blocks n) s (after_left u x es e s)
left_fits x u es e s i p =
    let l = i.count in
    g_if (is_tag x.mode) (λ q. g_if (is_op o.Define u && is_name e) (λ z. as_goal (one (OfStmt (f.Right x (es ++ e ∷ []) true)) (k.right i p))) (λ z. done (p, omega (arith, l))))
    (λ q. g_op u o.Comma (as_goal (an_expr (OfStmt (f.Simple x (es ++ e ∷ []))) x.ctx (k.simple i p) refl))
    (g_if (is_op o.Assign u || is_op o.Define u) (λ z. as_goal (one (OfStmt (f.Right x (es ++ e ∷ []) (is_op o.Define u))) (k.right i p))) (λ z. op_fits x u (es ++ e ∷ []) (assign_op u.kind) s i p)))

-- at depth 0
flat : {n : ℕ} {x : Spot} (e : t.Expr) → SpotFits x n → expr_fits x.ctx.blocks x.ctx.depth e ≡ true → expr_fits x.ctx.blocks 0 e ≡ true
flat {x = x} e i p = subst (λ z. expr_fits x.ctx.blocks z e ≡ true) i.depth p

pub stmt_expr_fits : {x : StmtFrame} {w : Bound} (u : Token) (e : t.Expr) (s : Stack) → KStmt x w → Fit (l_stmt x w) (AnExpr e) → Goal w s (stmt_meets_expr u x e s)
stmt_expr_fits u e s (k.at_go l) i = done (i, omega (arith, l))
stmt_expr_fits u e s (k.at_defer l) i = done (i, omega (arith, l))
stmt_expr_fits u e s (k.returned {at} {es} {b} l p) i = g_op u o.Comma (as_goal (an_expr (OfStmt (f.Returned b at (es ++ e ∷ []))) (new_ctx b) (k.returned l (exprs_and b 0 e es p i)) refl)) (done (exprs_and b 0 e es p i, omega (arith, l)))
stmt_expr_fits u e s (k.simple {x} {es} j p) i = left_fits x u es e s j (exprs_and x.ctx.blocks 0 e es p (flat e j i))
stmt_expr_fits u e s (k.assigned {x} {es} {es'} {op} j p q) i =
    let z = exprs_and x.ctx.blocks 0 e es' q (flat e j i) in let l = j.count in
    g_op u o.Comma (as_goal (an_expr (OfStmt (f.Assigned x es op (es' ++ e ∷ []))) x.ctx (k.assigned j p z) refl)) (done (both p z, omega (arith, l)))
stmt_expr_fits u e s (k.defined {x} {es} {es'} j p q) i =
    let z = exprs_and x.ctx.blocks 0 e es' q (flat e j i) in let l = j.count in
    g_if (is_tag x.mode) (λ y. stuck) (λ y. g_op u o.Comma (as_goal (an_expr (OfStmt (f.Defined x es (es' ++ e ∷ []))) x.ctx (k.defined j p z) refl)) (done (both p z, omega (arith, l))))
stmt_expr_fits u e s (k.sent l p) i = done (both p i, omega (arith, l))
stmt_expr_fits u e s _ i = stuck

flat_guard : {n : ℕ} {x : Spot} {e : t.Expr} → SpotFits x n → GuardFits x.ctx.blocks x.ctx.depth 0 e → GuardFits x.ctx.blocks 0 0 e
flat_guard {x = x} {e} i p = subst (λ z. GuardFits x.ctx.blocks z 0 e) i.depth p

pub stmt_guard_fits : {x : StmtFrame} {w : Bound} (y : Option Name) (e : t.Expr) (s : Stack) → KStmt x w → Fit (l_stmt x w) (AGuard y e) → Goal w s (guard_meets_simple x e s)
stmt_guard_fits y e s (k.simple {x} j p) i = done (flat_guard j i)
stmt_guard_fits y e s (k.defined {x} j p q) i = done (flat_guard j i)
stmt_guard_fits y e s _ i = stuck

label_fits : (b n : ℕ) (y : Name) (x : t.Stmt) → stmt_fits b x ≡ true → labels x + (n + 1) ≤ 500 → Fit (LStmt b n) (AStmt (t.LabeledStmt y.place y x))
label_fits b n y x i l = (both (short_is (labels x + 1) (omega (arith, l))) i, omega (arith, l))

pub stmt_stmt_fits : {x : StmtFrame} {w : Bound} (u : Token) (y : t.Stmt) (s : Stack) → KStmt x w → Fit (l_stmt x w) (AStmt y) → Goal w s (stmt_meets_stmt u x y s)
stmt_stmt_fits u y s (k.in_block {b} {at} {ss} r p) i = after_fits u at (ss ++ y ∷ []) s to_block r (stmts_and (b + 1) y ss p (i.0))
stmt_stmt_fits u y s (k.in_other {b} {at = at} {ss} r p) i = after_fits u at (ss ++ y ∷ []) s to_other r (stmts_and (b + 1) y ss p (i.0))
stmt_stmt_fits u y s (k.labeled {y = z} {b} {n} h) i = done (label_fits b n z y (i.0) (i.1))
stmt_stmt_fits u y s _ i = stuck

pub stmt_block_fits : {x : StmtFrame} {w : Bound} (b : t.Block) (s : Stack) → KStmt x w → Fit (l_stmt x w) (ABlock b) → Goal w s (stmt_meets_block x b s)
stmt_block_fits b s (k.inner l) i = done (i, omega (arith, l))
stmt_block_fits b s _ i = stuck

pub stmt_decl_fits : {x : StmtFrame} {w : Bound} (d : t.Decl) (s : Stack) → KStmt x w → Fit (l_stmt x w) (ADecl d) → Goal w s (stmt_meets_decl x d s)
stmt_decl_fits d s (k.declared l) i = done (i, omega (arith, l))
stmt_decl_fits d s _ i = stuck
