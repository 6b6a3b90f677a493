-- Limits: the steps of expressions and parts keep the invariant.
use Rattle.std.proofs.Common.{◌≡◌, ◌≤◌, ◌+◌, ◌&&◌, not, Bool, true, false, ℕ, List, [], ◌∷◌, ◌++◌, Option, Some, None, refl, sym, subst, arith, nat_lt, if◌then◌else◌, is_some}
use Rattle.gj_base.specs.declared.place.Place.{Place}
use Rattle.gj_base.specs.declared.kind.Op.{Op}
use Rattle.go_syntax.specs.Tree as t
use Rattle.go_syntax.specs.Token.{Token}
use Rattle.go_syntax.specs.View.{joined, exprs_of}
use Rattle.go_syntax.specs.declared.keyword.Keyword.TheVariants as word
use Rattle.go_syntax.specs.declared.operator.Operator.TheVariants as o
use Rattle.go_syntax.specs.declared.tree.Name.{Name}
use Rattle.go_syntax.specs.declared.tree.Prefix.{Prefix}
use Rattle.go_syntax.specs.declared.tree.ChanDir.TheVariants as dir
use Rattle.go_grammar.specs.Limits.{has_room, one_deeper, one_longer, is_short, operators, parts, last_parts, prefixes, expr_fits, maybe_fits, exprs_fit, elems_fit}
use Rattle.go_grammar.specs.Frames as f
use Rattle.go_grammar.specs.Frames.{Ctx, new_ctx, header_ctx, inside, deeper, Base, Braces, Elems, StructPart, InterfacePart, Embedded, Params, Role, ParamsPart, Mode, Listed, Headed, InFor, InSwitch, InTag, Spot, IfPart, ForPart, Subject, SwitchPart, SelectPart, ValuesPart, TypesPart, FilePart, ExprFrame, PartFrame, TypeFrame, FieldFrame, SigFrame, StmtFrame, ControlFrame, SwitchFrame, DeclFrame, FileFrame, Frame, OfExpr, OfPart, OfType, OfField, OfSig, OfStmt, OfControl, OfSwitch, OfDecl, OfFile, Done, Stack, Flow, Goes, Over, Stuck, Deep, Long, Value, AnExpr, AChain, AGuard, ARanging, ASig, ABlock, AStmt, ADecl}
use Rattle.go_grammar.specs.Nodes.{is_op, is_word, is_name_token, maybe, place_of_expr, unary, binary, select, slice, call}
use Rattle.go_grammar.proofs.FitHeld as k
use Rattle.go_grammar.proofs.FitHeld.{TailFits, GuardFits, Bound, LNone, LFile, LUnary, LExpr, LType, LSig, LBlock, LStmt, LElse, LDecl, Fit, KExpr, l_expr, BaseFits, ElemsFit, BracesFit, KPart, l_part, KType, l_type, FieldsFit, MembersFit, StructFits, InterfaceFits, KField, l_field, ParamsFit, RoleFits, KSig, l_sig, SpotFits, KStmt, l_stmt, IfBound, KControl, l_control, SubjectFits, ClausesFit, CommsFit, SwitchFits, SelectFits, KSwitch, l_switch, ValuesFit, TypesFit, KDecl, l_decl, ReceiverFits, KFile, l_file}
use Rattle.go_grammar.proofs.FitStack.{Goal, done, stuck, Begun, b_stuck, b_deep, as_goal, one, two, above, an_expr, g_if, b_if, g_op, b_op, in_room, in_short, both, deep_is, long_is, short_is}
use Rattle.go_grammar.specs.Classes.{name_of, binary_op, level}
use Rattle.go_grammar.specs.Context.{takes_literal, is_receive}
use Rattle.go_grammar.specs.ExprSteps.{tail, open_block, expr_row, expr_meets, chain_meets, guard_meets, func_meets, body_meets, first_operand, right_operand, then_right, part_done, begin_value, close_literal, part_row, part_meets}
use Rattle.go_grammar.proofs.SigSound.{joined_more}
use Rattle.go_grammar.proofs.FitTypes.{bare, type_begun, operand_begun, expr_begun, one_more, maybe_more}

-- the `{` of a block
pub block_begun : (u : Token) (b : ℕ) (s : Stack) → Begun (LBlock b) s (open_block u b s)
block_begun u b s = b_op u o.LeftBrace (b_if (has_room b) (λ r. one (OfStmt (f.InBlock (b + 1) u.place [])) (k.in_block r refl)) (λ r. b_deep)) b_stuck

-- an operand goes on as a left one
right_begun : {k : ℕ} (e : t.Expr) (c : Ctx) (u : Token) (n : ℕ) (x : Op) (s : Stack) → expr_fits c.blocks c.depth e ≡ true → operators e + k ≤ n → Begun (LUnary c.blocks c.depth k) s (then_right u c n e x s)
right_begun {k = j} e c u n x s i l =
    in_short n u.place (λ m. let q = long_is n m in two (OfExpr (f.Left c (one_longer n) e x)) (OfExpr (f.Operand c)) (k.left i (omega (arith, q, l)) (omega (arith, q, m))) (k.operand (omega (arith, q, m))))

first_fits : (e : t.Expr) (c : Ctx) (u : Token) (n : ℕ) (s : Stack) (x : Option Op) → expr_fits c.blocks c.depth e ≡ true → operators e + 0 ≤ n → Goal (LExpr c.blocks c.depth) s (first_operand u c n e s x)
first_fits e c u n s None i l = done i
first_fits e c u n s (Some x) i l = as_goal (above (OfExpr (f.Chain c)) k.chain (right_begun e c u n x (OfExpr (f.Chain c) ∷ s) i l))

binary_fits : (b d : ℕ) (a e : t.Expr) (at : Place) (x : Op) → expr_fits b d a ≡ true → expr_fits b d e ≡ true → operators a + 1 + operators e ≤ 500 → expr_fits b d (t.BinaryExpr at a x e) ≡ true
binary_fits b d a e at x p q l = both (both (short_is (operators a + 1 + operators e) l) p) q

right_fits : {k : ℕ} (a e : t.Expr) (c : Ctx) (u : Token) (m : ℕ) (x : Op) (s : Stack) (y : Option Op) → expr_fits c.blocks c.depth a ≡ true → expr_fits c.blocks c.depth e ≡ true → operators e + (operators a + 1 + k) ≤ m → m ≤ 500 → Goal (LUnary c.blocks c.depth k) s (right_operand u c m a x e s y)
right_fits a e c u m x s None p i l h' = done (binary_fits c.blocks c.depth a e (place_of_expr a) x p i (omega (arith, l, h')), omega (arith, l), h')
right_fits a e c u m x s (Some y) p i l h' =
    g_if (nat_lt (level x) (level y)) (λ q. as_goal (above (OfExpr (f.Left c m a x)) (k.left p (omega (arith, l)) h') (right_begun e c u m y (OfExpr (f.Left c m a x) ∷ s) i l)))
    (λ q. done (binary_fits c.blocks c.depth a e (place_of_expr a) x p i (omega (arith, l, h')), omega (arith, l), h'))

-- the tail of an operand
pub tail_fits : {k : ℕ} {e : t.Expr} (c : Ctx) (u : Token) (n : ℕ) (s : Stack) → k ≤ 500 → n ≤ 500 → expr_fits c.blocks c.depth e ≡ true → TailFits n e → Goal (LUnary c.blocks c.depth k) s (tail u c n e s)
tail_fits {e = e} c u n s l m i tf =
    let x : Base = record { ctx = c; count = n; expr = e } in
    g_op u o.Dot (as_goal (in_short n u.place (λ h. one (OfPart (f.Dot x)) (k.dot (record { fits = i; tail = tf; short = h; chain = l })))))
    (g_op u o.LeftBracket (as_goal (in_room c (λ r. in_short n u.place (λ h. one (OfPart (f.Bracket x)) (k.bracket (record { fits = i; tail = tf; short = h; chain = l }) r)))))
    (g_op u o.LeftParen (as_goal (in_room c (λ r. in_short n u.place (λ h. one (OfPart (f.Args x [])) (k.args (record { fits = i; tail = tf; short = h; chain = l }) r refl)))))
    (g_if (is_op o.LeftBrace u && takes_literal c.header e)
    (λ q. as_goal (in_room c (λ r. in_short n u.place (λ h. one (OfPart (f.InBraces (record { ctx = c; count = n; place = place_of_expr e; ty = Some e }) [])) (k.in_braces (k.typed (record { fits = i; tail = tf; short = h; chain = l }) r (record { fit = λ z q. q })))))))
    (λ q. done (i, tf.ops)))))

pub expr_row_fits : {x : ExprFrame} {w : Bound} (u : Token) (s : Stack) → KExpr x w → Goal w s (expr_row u x s)
expr_row_fits u s (k.operand {c} l) = as_goal (operand_begun u c s l)
expr_row_fits u s (k.tail {c} {n} l m i tf) = tail_fits c u n s l m i tf
expr_row_fits u s _ = stuck

-- a prefix
record UnaryFits (b d : ℕ) (e e' : t.Expr) : Type 0 where
  fits : expr_fits b d e' ≡ true
  ops : operators e' ≡ 0
  last : last_parts e' ≡ last_parts e
  room : has_room (d + 1 + prefixes e) ≡ true → has_room (d + prefixes e') ≡ true

room_moves : (d n : ℕ) → has_room (d + 1 + n) ≡ true → has_room (d + (n + 1)) ≡ true
room_moves d n r = subst (λ z. has_room z ≡ true) (let q : d + 1 + n ≡ d + (n + 1) = omega arith in q) r

room_here : (d : ℕ) → has_room d ≡ true → has_room (d + 0) ≡ true
room_here d r = subst (λ z. has_room z ≡ true) (let q : d ≡ d + 0 = omega arith in q) r

channel_fits : {b d : ℕ} (at at' : Place) (p : Prefix) (e : t.Expr) (z : Bool) → has_room d ≡ true → expr_fits b (d + 1) (t.ChanType at' dir.Both e) ≡ true → UnaryFits b d (t.ChanType at' dir.Both e) (if z then t.ChanType at dir.Receive e else t.UnaryExpr at p (t.ChanType at' dir.Both e))
channel_fits {b} {d} at at' p e true r i = record { fits = subst (λ z. (has_room (d + 1) && expr_fits b z e) ≡ true) (let q : d + 1 + 1 ≡ d + 2 = omega arith in q) i; ops = refl; last = refl; room = λ z. room_here d r }
channel_fits {d = d} at at' p e false r i = record { fits = both r i; ops = refl; last = refl; room = λ z. room_moves d 0 z }

unary_fits : {b d : ℕ} (at : Place) (p : Prefix) (e : t.Expr) → has_room d ≡ true → expr_fits b (d + 1) e ≡ true → UnaryFits b d e (unary at p e)
unary_fits at p (t.ChanType at' dir.Both e) r i = channel_fits at at' p e (is_receive p) r i
unary_fits {d = d} at p e r i = record { fits = both r i; ops = refl; last = refl; room = λ z. room_moves d (prefixes e) z }

pub expr_meets_fits : {x : ExprFrame} {w : Bound} (u : Token) (e : t.Expr) (s : Stack) → KExpr x w → Fit (l_expr x w) (AnExpr e) → Goal w s (expr_meets u x e s)
expr_meets_fits u e s (k.before {at} {p} {b} {d} l r) i = let z = unary_fits {b = b} {d = d} at p e r (one_more b d e r (i.0)) in done (z.fits, z.ops)
expr_meets_fits u e s (k.chain {c}) i = first_fits e c u 0 s (binary_op u.kind) (i.0) (omega (arith, i.1))
expr_meets_fits u e s (k.left {c} {n} {a} {op} p l h) i = right_fits a e c u n op s (binary_op u.kind) p (i.0) (omega (arith, i.1, l)) h
expr_meets_fits u e s (k.in_parens {c} {at} l r) i = g_op u o.RightParen (as_goal (one (OfExpr (f.Tail c 0 (t.ParenExpr at e))) (k.tail l (omega arith) (both r (one_more c.blocks c.depth e r i)) (bare refl refl refl refl)))) stuck
expr_meets_fits u e s (k.type_operand {c} l) i = tail_fits c u 0 s l (omega arith) (i.0) (i.1 refl)
expr_meets_fits u e s _ i = stuck

pub chain_meets_fits : {x : ExprFrame} {w : Bound} (u : Token) (m : ℕ) (e : t.Expr) (s : Stack) → KExpr x w → Fit (l_expr x w) (AChain m e) → Goal w s (chain_meets u x m e s)
chain_meets_fits u m e s (k.chain {c}) i = first_fits e c u m s (binary_op u.kind) (i.0) (i.1)
chain_meets_fits u m e s (k.left {c} {n} {a} {op} p l h) i = right_fits a e c u m op s (binary_op u.kind) p (i.0) (i.1) (i.2)
chain_meets_fits u m e s _ i = stuck

before_guard : {b d k : ℕ} (at : Place) (p : Prefix) (e : t.Expr) → k ≤ 500 → has_room d ≡ true → GuardFits b (one_deeper d) 0 e → GuardFits b d k (unary at p e)
before_guard {b} {d} at p e l r i =
    let z = unary_fits {b = b} {d = d} at p e r (one_more b d e r i.fits) in
    record { fits = z.fits; ops = omega (arith, z.ops, l); parts = subst (λ y. y + 1 ≤ 500) (sym z.last) i.parts; room = z.room (subst (λ y. has_room (y + prefixes e) ≡ true) (deep_is d r) i.room) }

left_guard : {k : ℕ} (b d : ℕ) (a e : t.Expr) (x : Op) → expr_fits b d a ≡ true → GuardFits b d (operators a + 1 + k) e → GuardFits b d k (binary a x e)
left_guard b d a e x p i = let h = i.ops in record { fits = binary_fits b d a e (place_of_expr a) x p i.fits (omega (arith, h)); ops = omega (arith, h); parts = i.parts; room = i.room }

pub guard_meets_fits : {x : ExprFrame} {w : Bound} (y : Option Name) (e : t.Expr) (s : Stack) → KExpr x w → Fit (l_expr x w) (AGuard y e) → Goal w s (guard_meets x y e s)
guard_meets_fits y e s (k.before {at} {p} l r) i = done (before_guard at p e l r i)
guard_meets_fits y e s (k.chain {c}) i = done i
guard_meets_fits y e s (k.left {c} {n} {a} {op} p l h) i = done (left_guard c.blocks c.depth a e op p i)
guard_meets_fits y e s _ i = stuck

pub func_fits : {x : ExprFrame} {w : Bound} (u : Token) (sig : t.Sig) (s : Stack) → KExpr x w → Fit (l_expr x w) (ASig sig) → Goal w s (func_meets u x sig s)
func_fits u sig s (k.at_func {c} {at} l) i =
    g_op u o.LeftBrace (as_goal (above (OfExpr (f.AtBody c at sig)) (k.at_body l i) (block_begun u c.blocks (OfExpr (f.AtBody c at sig) ∷ s)))) (tail_fits c u 0 s l (omega arith) i (bare refl refl refl refl))
func_fits u sig s _ i = stuck

pub body_fits : {x : ExprFrame} {w : Bound} (u : Token) (b : t.Block) (s : Stack) → KExpr x w → Fit (l_expr x w) (ABlock b) → Goal w s (body_meets u x b s)
body_fits u b s (k.at_body {c} l p) i = tail_fits c u 0 s l (omega arith) (both p i) (bare refl refl refl refl)
body_fits u b s _ i = stuck

-- parts
pub and_two : (a b : Bool) → (a && b) ≡ true → (a ≡ true) × (b ≡ true)
and_two true b q = (refl, q)
and_two false b q = absurd (cc)

pub exprs_and : (b d : ℕ) (e : t.Expr) (es : List t.Expr) → exprs_fit b d (exprs_of es) ≡ true → expr_fits b d e ≡ true → exprs_fit b d (exprs_of (es ++ e ∷ [])) ≡ true
exprs_and b d e [] p i = both i refl
exprs_and b d e (x ∷ xs) p i = let z = and_two (expr_fits b d x) (exprs_fit b d (exprs_of xs)) p in both (z.0) (exprs_and b d e xs (z.1) i)

exprs_deep : (b d : ℕ) (es : t.Exprs) → has_room d ≡ true → exprs_fit b (one_deeper d) es ≡ true → exprs_fit b (d + 1) es ≡ true
exprs_deep b d es r p = subst (λ z. exprs_fit b z es ≡ true) (deep_is d r) p

elems_deep : (b d : ℕ) (es : t.Elems) → has_room d ≡ true → elems_fit b (one_deeper d) es ≡ true → elems_fit b (d + 1) es ≡ true
elems_deep b d es r p = subst (λ z. elems_fit b z es ≡ true) (deep_is d r) p

-- an operand with one part more
front : {x : Base} {j : ℕ} → BaseFits x j → (is_short (parts x.expr + 1) && expr_fits x.ctx.blocks x.ctx.depth x.expr) ≡ true
front {x} i = let tf = i.tail in both (short_is (parts x.expr + 1) (let a = tf.parts in let b = i.short in omega (arith, a, b))) i.fits

done_fits : {j : ℕ} (e : t.Expr) (x : Base) (s : Stack) → BaseFits x j → expr_fits x.ctx.blocks x.ctx.depth e ≡ true → parts e ≡ parts x.expr + 1 → last_parts e ≡ parts x.expr + 1 → operators e ≡ 0 → prefixes e ≡ 0 → Begun (LUnary x.ctx.blocks x.ctx.depth j) s (part_done x e s)
done_fits e x s i p q q' m n =
    let tf = i.tail in let a = tf.parts in let h = i.short in let l = long_is x.count h in
    one (OfExpr (f.Tail x.ctx (one_longer x.count) e)) (k.tail i.chain (omega (arith, l, h)) p (record { parts = omega (arith, q, l, a); last = omega (arith, q', l, a); ops = m; prefixes = n }))

slice_fits : {j : ℕ} (x : Base) (s : Stack) (lo hi mo : Option t.Expr) → BaseFits x j → has_room x.ctx.depth ≡ true → maybe_fits x.ctx.blocks (one_deeper x.ctx.depth) (maybe lo) ≡ true → maybe_fits x.ctx.blocks (one_deeper x.ctx.depth) (maybe hi) ≡ true → maybe_fits x.ctx.blocks (one_deeper x.ctx.depth) (maybe mo) ≡ true → Begun (LUnary x.ctx.blocks x.ctx.depth j) s (part_done x (slice x.expr lo hi mo) s)
slice_fits x s lo hi mo i r p q z = done_fits (slice x.expr lo hi mo) x s i (both (both (both (both (front i) r) (maybe_more x.ctx.blocks x.ctx.depth (maybe lo) r p)) (maybe_more x.ctx.blocks x.ctx.depth (maybe hi) r q)) (maybe_more x.ctx.blocks x.ctx.depth (maybe mo) r z)) refl refl refl refl

call_fits : {j : ℕ} (x : Base) (s : Stack) (es : List t.Expr) (spread : Bool) → BaseFits x j → has_room x.ctx.depth ≡ true → exprs_fit x.ctx.blocks (one_deeper x.ctx.depth) (exprs_of es) ≡ true → Begun (LUnary x.ctx.blocks x.ctx.depth j) s (part_done x (call x.expr es spread) s)
call_fits x s es spread i r p = done_fits (call x.expr es spread) x s i (both (both (front i) r) (exprs_deep x.ctx.blocks x.ctx.depth (exprs_of es) r p)) refl refl refl refl

value_begun : (u : Token) (c : Ctx) (s : Stack) → Begun (LExpr c.blocks c.depth) s (begin_value u c s)
value_begun u c s = b_op u o.LeftBrace (in_room c (λ r. one (OfPart (f.InBraces (record { ctx = c; count = 0; place = u.place; ty = None }) [])) (k.in_braces (k.bare r (record { fit = λ z q. q }))))) (expr_begun u c s)

close_fits : {x : Braces} {xs : Elems} {w : Bound} (s : Stack) → BracesFit x xs w → Begun w s (close_literal x xs x.ty s)
close_fits s (k.typed {c} {n} {at = at} {e} {xs} i r m) = done_fits (t.LiteralExpr at (t.AnExpr e) (joined xs t.NoElems)) (record { ctx = c; count = n; expr = e }) s i (both (both (front i) r) (elems_deep c.blocks c.depth (joined xs t.NoElems) r (m.fit t.NoElems refl))) refl refl refl refl
close_fits s (k.bare {c} {at = at} {xs} r m) = one (Done (AnExpr (t.LiteralExpr at t.NoExpr (joined xs t.NoElems)))) (both r (elems_deep c.blocks c.depth (joined xs t.NoElems) r (m.fit t.NoElems refl)))

elems_more : {b d : ℕ} {xs : Elems} (key : t.MaybeExpr) (e : t.Expr) → ElemsFit b d xs → maybe_fits b d key ≡ true → expr_fits b d e ≡ true → ElemsFit b d (xs ++ (λ rest. t.MoreElems key e rest) ∷ [])
elems_more {b} {d} {xs} key e m p i = record { fit = λ r q. subst (λ z. elems_fit b d z ≡ true) (sym (joined_more xs (λ rest. t.MoreElems key e rest) r)) (m.fit (t.MoreElems key e r) (both (both p i) q)) }

braces_more : {x : Braces} {xs : Elems} {w : Bound} (key : t.MaybeExpr) (e : t.Expr) → BracesFit x xs w → maybe_fits x.ctx.blocks (one_deeper x.ctx.depth) key ≡ true → expr_fits x.ctx.blocks (one_deeper x.ctx.depth) e ≡ true → BracesFit x (xs ++ (λ rest. t.MoreElems key e rest) ∷ []) w
braces_more key e (k.typed i r m) p q = k.typed i r (elems_more key e m p q)
braces_more key e (k.bare r m) p q = k.bare r (elems_more key e m p q)

guard_done : {j : ℕ} (x : Base) → BaseFits x j → has_room x.ctx.depth ≡ true → GuardFits x.ctx.blocks x.ctx.depth j x.expr
guard_done x i r =
    let tf = i.tail in let o' = tf.ops in let p = tf.prefixes in let l = tf.last in let h = i.short in let c = i.chain in
    record { fits = i.fits; ops = omega (arith, o', c); parts = omega (arith, l, h); room = subst (λ z. has_room (x.ctx.depth + z) ≡ true) (sym p) (room_here x.ctx.depth r) }

key_fits : {x : Braces} {xs : Elems} {w : Bound} (e : t.Expr) (key : Option t.Expr) (s : Stack) → BracesFit x xs w → expr_fits x.ctx.blocks (one_deeper x.ctx.depth) e ≡ true → Goal w s (if is_some key then Stuck else Goes (OfPart (f.Keyed x xs e) ∷ s))
key_fits {x} {xs} e None s m i = as_goal (one (OfPart (f.Keyed x xs e)) (k.keyed m i))
key_fits e (Some y) s m i = stuck

pub part_row_fits : {x : PartFrame} {w : Bound} (u : Token) (s : Stack) → KPart x w → Goal w s (part_row u x s)
part_row_fits u s (k.dot {x} i) =
    g_if (is_name_token u.kind) (λ q. as_goal (done_fits (select x.expr (name_of u)) x s i (front i) refl refl refl refl)) (λ q. g_op u o.LeftParen (as_goal (in_room x.ctx (λ r. one (OfPart (f.AssertOpen x)) (k.assert_open i r)))) stuck)
part_row_fits u s (k.assert_open {x} i r) =
    g_if (x.ctx.guard && is_word word.Type u) (λ q. as_goal (one (Done (AGuard None x.expr)) (guard_done x i r))) (λ q. as_goal (above (OfPart (f.Asserted x)) (k.asserted i r) (type_begun u (inside x.ctx) (OfPart (f.Asserted x) ∷ s))))
part_row_fits u s (k.bracket {x} i r) = g_op u o.Colon (as_goal (one (OfPart (f.High x None)) (k.high i r refl))) (as_goal (above (OfPart (f.Index x)) (k.index i r) (expr_begun u (inside x.ctx) (OfPart (f.Index x) ∷ s))))
part_row_fits u s (k.high {x} {i = lo} i r p) = g_op u o.RightBracket (as_goal (slice_fits x s lo None None i r p refl refl)) (as_goal (above (OfPart (f.HighExpr x lo)) (k.high_expr i r p) (expr_begun u (inside x.ctx) (OfPart (f.HighExpr x lo) ∷ s))))
part_row_fits u s (k.args {x} {es = es} i r p) = g_op u o.RightParen (as_goal (call_fits x s es false i r p)) (as_goal (above (OfPart (f.Arg x es)) (k.arg i r p) (expr_begun u (inside x.ctx) (OfPart (f.Arg x es) ∷ s))))
part_row_fits u s (k.spread {x} {es = es} {comma} i r p) =
    g_op u o.RightParen (as_goal (call_fits x s es true i r p)) (g_if (is_op o.Comma u && not comma) (λ q. as_goal (one (OfPart (f.Spread x es true)) (k.spread i r p))) (λ q. stuck))
part_row_fits u s (k.in_braces {x} {xs} m) = g_op u o.RightBrace (as_goal (close_fits s m)) (as_goal (above (OfPart (f.Element x xs None)) (k.element m refl) (value_begun u (inside x.ctx) (OfPart (f.Element x xs None) ∷ s))))
part_row_fits u s (k.keyed {x} {xs} {key} m p) = as_goal (above (OfPart (f.Element x xs (Some key))) (k.element m p) (value_begun u (inside x.ctx) (OfPart (f.Element x xs (Some key)) ∷ s)))
part_row_fits u s _ = stuck

pub part_meets_fits : {x : PartFrame} {w : Bound} (u : Token) (e : t.Expr) (s : Stack) → KPart x w → Fit (l_part x) (AnExpr e) → Goal w s (part_meets u x e s)
part_meets_fits u e s (k.asserted {x} i r) j = g_op u o.RightParen (as_goal (done_fits (t.AssertExpr (place_of_expr x.expr) x.expr e) x s i (both (both (front i) r) (one_more x.ctx.blocks x.ctx.depth e r (j.0))) refl refl refl refl)) stuck
part_meets_fits u e s (k.index {x} i r) j =
    g_op u o.RightBracket (as_goal (done_fits (t.IndexExpr (place_of_expr x.expr) x.expr e) x s i (both (both (front i) r) (one_more x.ctx.blocks x.ctx.depth e r j)) refl refl refl refl)) (g_op u o.Colon (as_goal (one (OfPart (f.High x (Some e))) (k.high i r j))) stuck)
part_meets_fits u e s (k.high_expr {x} {i = lo} i r p) j =
    g_op u o.RightBracket (as_goal (slice_fits x s lo (Some e) None i r p j refl)) (g_op u o.Colon (as_goal (an_expr (OfPart (f.Most x lo e)) (inside x.ctx) (k.most i r p j) refl)) stuck)
part_meets_fits u e s (k.most {x} {i = lo} {j = hi} i r p q) j = g_op u o.RightBracket (as_goal (slice_fits x s lo (Some hi) (Some e) i r p q j)) stuck
part_meets_fits u e s (k.arg {x} {es = es} i r p) j =
    g_op u o.Comma (as_goal (one (OfPart (f.Args x (es ++ e ∷ []))) (k.args i r (exprs_and x.ctx.blocks (one_deeper x.ctx.depth) e es p j))))
    (g_op u o.RightParen (as_goal (call_fits x s (es ++ e ∷ []) false i r (exprs_and x.ctx.blocks (one_deeper x.ctx.depth) e es p j)))
    (g_op u o.Ellipsis (as_goal (one (OfPart (f.Spread x (es ++ e ∷ []) false)) (k.spread i r (exprs_and x.ctx.blocks (one_deeper x.ctx.depth) e es p j)))) stuck))
part_meets_fits u e s (k.element {x} {xs} {key} m p) j =
    g_op u o.Colon (key_fits e key s m j)
    (g_op u o.Comma (as_goal (one (OfPart (f.InBraces x (xs ++ (λ rest. t.MoreElems (maybe key) e rest) ∷ []))) (k.in_braces (braces_more (maybe key) e m p j))))
    (g_op u o.RightBrace (as_goal (close_fits s (braces_more (maybe key) e m p j))) stuck))
part_meets_fits u e s _ j = stuck
