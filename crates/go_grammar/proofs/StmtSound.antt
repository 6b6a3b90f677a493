-- Each step of a frame of a statement keeps the invariant.
use Rattle.std.proofs.Common.{◌≡◌, ◌&&◌, ◌||◌, Bool, true, false, ℕ, List, [], ◌∷◌, ◌++◌, Option, Some, None, refl, ap, sym, ◌∙◌, subst, append_assoc, append-nil, arith, is_some, ⊎_elim}
use Rattle.gj_base.specs.declared.place.Place.{Place}
use Rattle.gj_base.specs.declared.kind.Op.{Op}
use Rattle.go_syntax.specs.Tree as t
use Rattle.go_syntax.specs.Token.{Token}
use Rattle.go_syntax.specs.View.{exprs_of, stmts_of}
use Rattle.go_syntax.specs.declared.kind.TokenKind.{TokenKind}
use Rattle.go_syntax.specs.declared.kind.TokenKind.TheVariants as kind
use Rattle.go_syntax.specs.declared.keyword.Keyword.TheVariants as word
use Rattle.go_syntax.specs.declared.operator.Operator.TheVariants as o
use Rattle.go_syntax.specs.declared.tree.Name.{Name}
use Rattle.go_syntax.specs.declared.keyword.Keyword.{Keyword}
use Rattle.go_grammar.specs.Classes.{IsOp, IsWord, IsSemicolon, assign_op, name_of}
use Rattle.go_grammar.specs.Context.{MayFollow, MayFollowLast, wants_brace, last_wants_brace, is_name}
use Rattle.go_grammar.specs.Grammar as g
use Rattle.go_grammar.specs.Grammar.{IsExpr, AreExprs, AreStmts, IsStmt, IsSimple, IsBlock, IsDecl}
use Rattle.go_grammar.specs.Limits.{one_longer}
use Rattle.go_grammar.specs.Frames as f
use Rattle.go_grammar.specs.Frames.{Ctx, new_ctx, Mode, Listed, Headed, InFor, InSwitch, InTag, Spot, StmtFrame, Frame, OfExpr, OfStmt, OfDecl, OfControl, OfSwitch, Done, Stack, Flow, Goes, Over, Stuck, Value, AnExpr, AGuard, ARanging, ABlock, AStmt, ADecl}
use Rattle.go_grammar.specs.Nodes.{is_op, is_word, is_name_token, is_semicolon, begins_expr, begins_stmt, place_of_decl, place_of_block, name_in, expr_in}
use Rattle.go_grammar.specs.ExprSteps.{then_expr}
use Rattle.go_grammar.specs.StmtSteps.{takes_guard, is_tag, is_for, is_listed, is_one_name, begin_simple, begin_decl, begin_word_stmt, begin_stmt, after_stmt, right_side, stmt_row, after_label_name, label_in, after_all, after_assign_op, after_left, stmt_meets_expr, last_name, guard_meets_simple, stmt_meets_stmt, stmt_meets_block, stmt_meets_decl, new_if}
use Rattle.go_grammar.proofs.TokenLemmas.{op_of, word_of, no_word, name_is, semicolon_is}
use Rattle.go_grammar.proofs.Wanted.{AnyFirst, FirstAt, AllowsFirst, Starts, IsNameAt, name_at, After, IsGuardOf, guard_of, IsOpenGuard, open_guard, open_named_guard, IsRanging, ranging_assign, ranging_define, SimpleIs, a_stmt, a_missing, Want, WExpr, WStmt, Is, TakesExpr, to_expr, TakesSimple, to_listed, to_stmt, to_simple, if_to_stmt, TakesBlock, to_block, to_else, TakesDecl, to_decl}
use Rattle.go_grammar.proofs.HeldExprs.{ExprsHeld}
use Rattle.go_grammar.proofs.HeldStmts as h
use Rattle.go_grammar.proofs.HeldStmts.{HoldsStmt, waits_stmt, header_of, StmtsHeld, stmts_onto, LabelFact, SideHeld, ValueWord, const_word, var_word}
use Rattle.go_grammar.proofs.Stands.{DoneIs, Opens, o_stuck, Good, good, over, stuck, open_one, open_new, open_operand, within, within_new, good_at, good_if, good_op, open_if, open_op, short}
use Rattle.go_grammar.proofs.BeginSound.{expr_opens}
use Rattle.go_grammar.proofs.ExprSound.{block_opens, starts_more, starts_place, of_unary, and_parts}
use Rattle.go_grammar.proofs.PartSound.{exprs_done, exprs_more, no_exprs}

-- lists of statements
stmts_more : (ss : List t.Stmt) (x : t.Stmt) (r : t.Stmts) → stmts_onto (ss ++ x ∷ []) r ≡ stmts_onto ss (t.MoreStmts x r)
stmts_more [] x r = refl
stmts_more (y ∷ ys) x r = ap (t.MoreStmts y) (stmts_more ys x r)

stmts_are : (ss : List t.Stmt) → stmts_of ss ≡ stmts_onto ss t.NoStmts
stmts_are [] = refl
stmts_are (x ∷ xs) = ap (t.MoreStmts x) (stmts_are xs)

pub no_stmts : StmtsHeld [] []
no_stmts = record { held = λ at us r d. d }

-- a list before `;`, or at its end before the token
pub record ListEnds (u : Token) (ts : List Token) (ss : List t.Stmt) : Type 0 where
  pub goes_on : IsSemicolon u → StmtsHeld (ts ++ u ∷ []) ss
  pub is : AreStmts u.place ts (stmts_of ss)

pub ends_none : {ts : List Token} {ss : List t.Stmt} (u : Token) → StmtsHeld ts ss → ListEnds u ts ss
ends_none {ts} {ss} u k = record {
  goes_on = λ q. record { held = λ at us r d. subst (λ z. AreStmts at z (stmts_onto ss r)) (sym (append_assoc ts (u ∷ []) us)) (k.held at (u ∷ us) r (g.missing_stmt q d)) };
  is = subst (λ z. AreStmts u.place z (stmts_of ss)) (append-nil ts) (subst (λ z. AreStmts u.place (ts ++ []) z) (sym (stmts_are ss)) (k.held u.place [] t.NoStmts g.no_stmts));
}

pub ends_more : {ts us : List Token} {ss : List t.Stmt} {x : t.Stmt} (u : Token) → StmtsHeld ts ss → IsStmt u.place us x → ListEnds u (ts ++ us) (ss ++ x ∷ [])
ends_more {ts} {us} {ss} {x} u k d = record {
  goes_on = λ q. record { held = λ at vs r i. subst (λ z. AreStmts at z (stmts_onto (ss ++ x ∷ []) r)) (sym (append_assoc ts us (u ∷ vs)) ∙ sym (append_assoc (ts ++ us) (u ∷ []) vs)) (subst (λ z. AreStmts at (ts ++ (us ++ u ∷ vs)) z) (sym (stmts_more ss x r)) (k.held at (us ++ u ∷ vs) (t.MoreStmts x r) (g.more_stmts d q i))) };
  is = subst (λ z. AreStmts u.place (ts ++ us) z) (sym (stmts_are (ss ++ x ∷ []) ∙ stmts_more ss x t.NoStmts)) (k.held u.place us (t.MoreStmts x t.NoStmts) (g.last_stmt d));
}

-- a simple statement is one of its class
pub simple_is : {w : Want} {h : Bool} {m : Mode} {ts : List Token} {s : t.Stmt} (u : Token) → TakesSimple w h m → SimpleIs u h ts s → Is u w (AStmt s) ts
simple_is u to_listed d = a_stmt (g.simple d.simple)
simple_is u to_stmt d = a_stmt (g.simple d.simple)
simple_is u (to_simple a b c) d = d

-- what a simple statement begins with
pub simple_opens : {w : Want} (u : Token) (c : Ctx) (m : Mode) (s : Stack) → TakesSimple w c.header m → c.guard ≡ false → Opens u w [] s (begin_simple u c m s)
simple_opens u c m s k q =
    let x : Spot = record { ctx = c; mode = m; place = u.place } in
    within (OfStmt (f.Simple x [])) [] (h.simple_first k q) (expr_opens u (record c { guard = takes_guard m }) (OfStmt (f.Simple x []) ∷ s) to_expr refl)

value_word : {u : Token} (b : Bool) → (b ≡ true → IsWord word.Const u) → (b ≡ false → IsWord word.Var u) → ValueWord b u
value_word true m n = const_word (m refl)
value_word false m n = var_word (n refl)

pub decl_opens : {w : Want} (u : Token) (b : ℕ) (s : Stack) → TakesDecl w → (is_word word.Type u ≡ false → is_word word.Const u ≡ false → IsWord word.Var u) → Opens u w [] s (begin_decl u b s)
decl_opens u b s k v =
    open_if (is_word word.Type u) (λ q. open_one (OfDecl (f.AtTypes (record { blocks = b; place = u.place; group = false; specs = [] }))) (h.at_types k (word_of q)))
    (λ q. open_one (OfDecl (f.AtValues (record { blocks = b; place = u.place; constant = is_word word.Const u; group = false; specs = [] }))) (h.at_values k (value_word (is_word word.Const u) (λ z. word_of z) (λ z. v q z))))

word_stmt_opens : {m : Bool} (u : Token) (x : Keyword) (b : ℕ) (s : Stack) → IsWord x u → Opens u (WStmt m) [] s (begin_word_stmt u x b s)
word_stmt_opens u word.Const b s k = within (OfStmt f.Declared) [] h.declared (decl_opens u b (OfStmt f.Declared ∷ s) to_decl (λ p q. absurd (no_word q k)))
word_stmt_opens u word.Type b s k = within (OfStmt f.Declared) [] h.declared (decl_opens u b (OfStmt f.Declared ∷ s) to_decl (λ p q. absurd (no_word p k)))
word_stmt_opens u word.Var b s k = within (OfStmt f.Declared) [] h.declared (decl_opens u b (OfStmt f.Declared ∷ s) to_decl (λ p q. k))
word_stmt_opens u word.Go b s k = open_operand (OfStmt (f.AtGo u.place)) (new_ctx b) (u ∷ []) refl (h.at_go k) to_expr
word_stmt_opens u word.Defer b s k = open_operand (OfStmt (f.AtDefer u.place)) (new_ctx b) (u ∷ []) refl (h.at_defer k) to_expr
word_stmt_opens u word.Return b s k = open_one (OfStmt (f.AtReturn b u.place)) (h.at_return k)
word_stmt_opens u word.Break b s k = open_one (OfStmt (f.AtBreak u.place true)) (h.at_break k)
word_stmt_opens u word.Continue b s k = open_one (OfStmt (f.AtBreak u.place false)) (h.at_continue k)
word_stmt_opens u word.Fallthrough b s k = open_one (Done (AStmt (t.FallthroughStmt u.place))) (record { is = λ x. a_stmt (g.fallthrough_stmt k) })
word_stmt_opens u word.If b s k = open_one (OfControl (f.AtIf (new_if b u.place 0))) (h.at_if if_to_stmt k)
word_stmt_opens u word.For b s k = open_one (OfControl (f.AtFor (record { blocks = b; place = u.place }))) (h.at_for k)
word_stmt_opens u word.Switch b s k = open_one (OfSwitch (f.SwitchHead b u.place)) (h.switch_head k)
word_stmt_opens u word.Select b s k = open_one (OfSwitch (f.SelectOpen b u.place)) (h.select_open k)
word_stmt_opens u _ b s k = simple_opens u (new_ctx b) Headed s to_stmt refl

stmt_kind_opens : {m : Bool} (k : TokenKind) (at : Place) (x : List ℕ) (b n : ℕ) (s : Stack) → Opens (record { kind = k; place = at; text = x }) (WStmt m) [] s (begin_stmt (record { kind = k; place = at; text = x }) b n s)
stmt_kind_opens (kind.Op y) at x b n s = let u : Token = record { kind = (kind.Op y); place = at; text = x } in open_op o.LeftBrace (λ q. within (OfStmt f.Inner) [] h.inner (block_opens u b (OfStmt f.Inner ∷ s))) (λ q. simple_opens u (new_ctx b) (Listed n) s to_listed refl)
stmt_kind_opens kind.Name at x b n s = let u : Token = record { kind = kind.Name; place = at; text = x } in open_op o.LeftBrace (λ q. within (OfStmt f.Inner) [] h.inner (block_opens u b (OfStmt f.Inner ∷ s))) (λ q. simple_opens u (new_ctx b) (Listed n) s to_listed refl)
stmt_kind_opens kind.Int at x b n s = let u : Token = record { kind = kind.Int; place = at; text = x } in open_op o.LeftBrace (λ q. within (OfStmt f.Inner) [] h.inner (block_opens u b (OfStmt f.Inner ∷ s))) (λ q. simple_opens u (new_ctx b) (Listed n) s to_listed refl)
stmt_kind_opens kind.Rune at x b n s = let u : Token = record { kind = kind.Rune; place = at; text = x } in open_op o.LeftBrace (λ q. within (OfStmt f.Inner) [] h.inner (block_opens u b (OfStmt f.Inner ∷ s))) (λ q. simple_opens u (new_ctx b) (Listed n) s to_listed refl)
stmt_kind_opens kind.Str at x b n s = let u : Token = record { kind = kind.Str; place = at; text = x } in open_op o.LeftBrace (λ q. within (OfStmt f.Inner) [] h.inner (block_opens u b (OfStmt f.Inner ∷ s))) (λ q. simple_opens u (new_ctx b) (Listed n) s to_listed refl)
stmt_kind_opens kind.Semi at x b n s = let u : Token = record { kind = kind.Semi; place = at; text = x } in open_op o.LeftBrace (λ q. within (OfStmt f.Inner) [] h.inner (block_opens u b (OfStmt f.Inner ∷ s))) (λ q. simple_opens u (new_ctx b) (Listed n) s to_listed refl)
stmt_kind_opens kind.Auto at x b n s = let u : Token = record { kind = kind.Auto; place = at; text = x } in open_op o.LeftBrace (λ q. within (OfStmt f.Inner) [] h.inner (block_opens u b (OfStmt f.Inner ∷ s))) (λ q. simple_opens u (new_ctx b) (Listed n) s to_listed refl)
stmt_kind_opens kind.End at x b n s = let u : Token = record { kind = kind.End; place = at; text = x } in open_op o.LeftBrace (λ q. within (OfStmt f.Inner) [] h.inner (block_opens u b (OfStmt f.Inner ∷ s))) (λ q. simple_opens u (new_ctx b) (Listed n) s to_listed refl)
stmt_kind_opens (kind.Word y) at x b n s = let u : Token = record { kind = kind.Word y; place = at; text = x } in open_op o.LeftBrace (λ q. within (OfStmt f.Inner) [] h.inner (block_opens u b (OfStmt f.Inner ∷ s))) (λ q. word_stmt_opens u y b s (record { word = refl }))

-- a statement
pub stmt_opens : {m : Bool} (u : Token) (b n : ℕ) (s : Stack) → Opens u (WStmt m) [] s (begin_stmt u b n s)
stmt_opens u b n s = stmt_kind_opens u.kind u.place u.text b n s

block_is : {w : Want} {ts : List Token} {b : t.Block} (u : Token) → TakesBlock w → IsBlock ts b → Starts ts (place_of_block b) → Is u w (ABlock b) ts
block_is u to_block d p = (d, p)
block_is u to_else d p = (d, p)

-- after a statement of a block
after_stmt_good : {w : Want} {v : Token} {ts : List Token} {ss : List t.Stmt} (u : Token) (b : ℕ) (s : Stack) → TakesBlock w → IsOp o.LeftBrace v → ListEnds u ts ss → Good u w (v ∷ ts) s (after_stmt u b v.place ss s)
after_stmt_good {v = v} {ts} {ss} u b s tk p k =
    good_if (is_semicolon u.kind) (λ q. good (open_one (OfStmt (f.InBlock b v.place ss)) (h.in_block tk p (k.goes_on (semicolon_is q))))) (λ n.
    good_op o.RightBrace (λ q. good (open_one (Done (ABlock (t.BlockOf v.place (stmts_of ss) u.place))) (record { is = λ x. block_is x tk (g.block_braces p k.is q) refl }))) (λ n. stuck))

-- `range` after `=` or `:=`
ranging_is : {w : Want} {h : Bool} {m : Mode} {ts : List Token} {es : List t.Expr} {fresh : Bool} {at : Place} {v : Token} (u : Token) → TakesSimple w h m → is_for m ≡ true → SideHeld h ts es fresh at → IsWord word.Range v → Is u w (ARanging es fresh) (ts ++ v ∷ [])
ranging_is u to_listed p d r = absurd (cc)
ranging_is u to_stmt p d r = absurd (cc)
ranging_is {m = m} {es = es} {v = v} u (to_simple {h = hd} l a b) p (h.side_assign {ts} {v = y} d st lf q) r = (a p, p, subst (λ z. IsRanging z es false) (sym (append_assoc ts (y ∷ []) (v ∷ []))) (ranging_assign (subst (λ z. AreExprs z ts (exprs_of es)) (a p) d) q r))
ranging_is {m = m} {es = es} {v = v} u (to_simple {h = hd} l a b) p (h.side_define {ts} {v = y} d st lf q) r = (a p, p, subst (λ z. IsRanging z es true) (sym (append_assoc ts (y ∷ []) (v ∷ []))) (ranging_define (subst (λ z. AreExprs z ts (exprs_of es)) (a p) d) q r))

pub done_is : {w : Want} {ts : List Token} {v : Value} → ((x : Token) → Is x w v ts) → DoneIs v ts w
done_is i = record { is = i }

right_good : {es : List t.Expr} {fresh : Bool} {w : Want} {ts : List Token} (x : Spot) (u : Token) (s : Stack) → TakesSimple w x.ctx.header x.mode → x.ctx.guard ≡ false → SideHeld x.ctx.header ts es fresh x.place → Opens u w ts s (right_side u x es fresh s)
right_good {w = w} x u s k q (h.side_define {ts} {es} {v = y} d st lf p) =
    within_new (OfStmt (f.Defined x es [])) (h.defined_first k q (h.side_define d st lf p)) (expr_opens u (record x.ctx { guard = takes_guard x.mode && is_one_name es }) (OfStmt (f.Defined x es []) ∷ s) to_expr tt)
right_good {w = w} x u s k q (h.side_assign {ts} {es} {v = y} d st lf p) =
    let held : HoldsStmt (f.Assigned x es None []) (ts ++ y ∷ []) w = subst (λ z. HoldsStmt (f.Assigned x es None []) z w) (append-nil (ts ++ y ∷ [])) (h.assigned k q (h.side_assign d st lf p) no_exprs) in
    within_new (OfStmt (f.Assigned x es None [])) held (expr_opens u x.ctx (OfStmt (f.Assigned x es None []) ∷ s) to_expr tt)

pub stmt_row_good : {x : StmtFrame} {ts : List Token} {w : Want} (u : Token) (s : Stack) → HoldsStmt x ts w → Good u w ts s (stmt_row u x s)
stmt_row_good u s (h.in_block {b} {ss} {ts} {u = v} tk p k) =
    good_if (is_semicolon u.kind || is_op o.RightBrace u) (λ q. after_stmt_good u b s tk p (ends_none u k))
    (λ n. good (within_new (OfStmt (f.InBlock b v.place ss)) (h.in_block tk p k) (stmt_opens u b 0 (OfStmt (f.InBlock b v.place ss) ∷ s))))
stmt_row_good u s (h.at_return {b} {u = v} k) =
    good_if (begins_expr u.kind) (λ q. good (within_new (OfStmt (f.Returned b v.place [])) (h.returned k no_exprs) (expr_opens u (new_ctx b) (OfStmt (f.Returned b v.place []) ∷ s) to_expr tt)))
    (λ n. over (a_stmt (g.return_none k)))
stmt_row_good u s (h.at_break {u = v} k) =
    good_if (is_name_token u.kind) (λ q. good (open_one (Done (AStmt (t.BreakStmt v.place (Some (name_of u))))) (done_is (λ x. a_stmt (g.break_stmt k (g.with_name (name_is q))))))) (λ n. over (a_stmt (g.break_stmt k g.without_name)))
stmt_row_good u s (h.at_continue {u = v} k) =
    good_if (is_name_token u.kind) (λ q. good (open_one (Done (AStmt (t.ContinueStmt v.place (Some (name_of u))))) (done_is (λ x. a_stmt (g.continue_stmt k (g.with_name (name_is q))))))) (λ n. over (a_stmt (g.continue_stmt k g.without_name)))
stmt_row_good u s (h.after_label {b} {n}) = good_if (begins_stmt u) (λ q. good (stmt_opens u b n s)) (λ q. over a_missing)
stmt_row_good u s (h.right {x} {es} {fresh} k p d) =
    good_if (is_for x.mode && is_word word.Range u) (λ q. let both = and_parts (is_for x.mode) (is_word word.Range u) q in good (open_one (Done (ARanging es fresh)) (done_is (λ y. ranging_is y k (both.0) d (word_of (both.1)))))) (λ n. good (right_good x u s k p d))
stmt_row_good u s _ = stuck

same_some : {A : Type 0} (x y : A) → Some x ≡ Some y → x ≡ y
same_some x y q = cc

-- the one expression of a statement, and its brace
one_is : {h : Bool} {ts : List Token} (at : Place) (es : List t.Expr) (e : t.Expr) → (es ≡ [] → IsExpr 1 h ts e) → (x : t.Expr) → expr_in (t.ExprStmt at (exprs_of (es ++ e ∷ []))) ≡ Some x → IsExpr 1 h ts x
one_is {h} {ts} at [] e d x q = subst (λ z. IsExpr 1 h ts z) (same_some e x q) (d refl)
one_is at (y ∷ []) e d x q = absurd (cc)
one_is at (y ∷ z ∷ es) e d x q = absurd (cc)

last_brace : (es : List t.Expr) (e : t.Expr) → last_wants_brace (exprs_of (es ++ e ∷ [])) ≡ wants_brace e
last_brace [] e = refl
last_brace (x ∷ []) e = refl
last_brace (x ∷ y ∷ es) e = last_brace (y ∷ es) e

last_follows : (es : List t.Expr) (e : t.Expr) (u : Token) → MayFollow e u → MayFollowLast (exprs_of (es ++ e ∷ [])) u
last_follows [] e u m = m
last_follows (x ∷ []) e u m = m
last_follows (x ∷ y ∷ es) e u m = last_follows (y ∷ es) e u m

-- expressions that are the left side of a statement, or all of it
record LeftIs (u : Token) (h : Bool) (at : Place) (ts us : List Token) (es : List t.Expr) (e : t.Expr) : Type 0 where
  before : ExprsHeld h ts es
  expr : IsExpr 1 h us e
  starts : Starts (ts ++ us) at
  follow : MayFollow e u
  brace : is_op o.LeftBrace u ≡ true → wants_brace e ≡ false
  label : LabelFact (ts ++ us) (es ++ e ∷ [])
  alone : es ≡ [] → IsExpr 1 h (ts ++ us) e

exprs_are : {u : Token} {h : Bool} {at : Place} {ts us : List Token} {es : List t.Expr} {e : t.Expr} → LeftIs u h at ts us es e → AreExprs h (ts ++ us) (exprs_of (es ++ e ∷ []))
exprs_are l = exprs_done l.before l.expr

-- expressions alone
alone_is : {u : Token} {h : Bool} {at : Place} {ts us : List Token} {es : List t.Expr} {e : t.Expr} → LeftIs u h at ts us es e → SimpleIs u h (ts ++ us) (t.ExprStmt at (exprs_of (es ++ e ∷ [])))
alone_is {u} {h} {at} {ts} {us} {es} {e} l = record {
  simple = subst (λ z. IsSimple h (ts ++ us) (t.ExprStmt z (exprs_of (es ++ e ∷ [])))) (starts_place (ts ++ us) at l.starts) (g.exprs_stmt (exprs_are l));
  alone = λ x q. one_is at es e l.alone x q;
  brace = λ b. last_brace es e ∙ l.brace b;
}

-- a comma after an expression
comma_opens : {x : Spot} {w : Want} {ts us : List Token} {e : t.Expr} (u : Token) (es : List t.Expr) (s : Stack) → TakesSimple w x.ctx.header x.mode → x.ctx.guard ≡ false → LeftIs u x.ctx.header x.place ts us es e → IsOp o.Comma u → Opens u w (ts ++ us) s (then_expr x.ctx (OfStmt (f.Simple x (es ++ e ∷ [])) ∷ s))
comma_opens {x} {ts = ts} {us} {e} u [] s k q l c = open_operand (OfStmt (f.Simple x (e ∷ []))) x.ctx (ts ++ us ++ u ∷ []) refl (h.simple_more k q (exprs_more l.before l.expr c) (starts_more (ts ++ us) (u ∷ []) x.place l.starts)) to_expr
comma_opens {x} {ts = ts} {us} {e} u (y ∷ es) s k q l c = open_operand (OfStmt (f.Simple x (y ∷ es ++ e ∷ []))) x.ctx (ts ++ us ++ u ∷ []) refl (h.simple_more k q (exprs_more l.before l.expr c) (starts_more (ts ++ us) (u ∷ []) x.place l.starts)) to_expr

side_is : {u : Token} {h : Bool} {at : Place} {ts us : List Token} {es : List t.Expr} {e : t.Expr} (b : Bool) → (b ≡ true → IsOp o.Define u) → (b ≡ false → IsOp o.Assign u) → LeftIs u h at ts us es e → SideHeld h (ts ++ us ++ u ∷ []) (es ++ e ∷ []) b at
side_is true m n l = h.side_define (exprs_are l) l.starts l.label (m refl)
side_is false m n l = h.side_assign (exprs_are l) l.starts l.label (n refl)

or_second : (a b : Bool) → (a || b) ≡ true → b ≡ false → a ≡ true
or_second true b q p = refl
or_second false b q p = absurd (cc)

or_pick : (a b : Bool) → (a || b) ≡ true → a ≡ false → b ≡ true
or_pick true b q p = absurd (cc)
or_pick false b q p = q

takes_header : {w : Want} {h : Bool} {m : Mode} → TakesSimple w h m → header_of w ≡ h
takes_header to_listed = refl
takes_header to_stmt = refl
takes_header (to_simple a b c) = refl

-- `++` or `--`
step_is : {u : Token} {h : Bool} {at : Place} {ts us : List Token} {es : List t.Expr} {e : t.Expr} (b : Bool) → (b ≡ true → IsOp o.Increment u) → (b ≡ false → IsOp o.Decrement u) → LeftIs u h at ts us es e → (x : Token) → SimpleIs x h (ts ++ us ++ u ∷ []) (t.IncDecStmt at (exprs_of (es ++ e ∷ [])) b)
step_is {u} {h} {at} {ts} {us} {es} {e} true m n l x = record { simple = subst (λ z. IsSimple h (ts ++ us ++ u ∷ []) (t.IncDecStmt z (exprs_of (es ++ e ∷ [])) true)) (starts_place (ts ++ us) at l.starts) (g.increment (exprs_are l) (m refl)); alone = λ y q. absurd (cc); brace = λ y. refl }
step_is {u} {h} {at} {ts} {us} {es} {e} false m n l x = record { simple = subst (λ z. IsSimple h (ts ++ us ++ u ∷ []) (t.IncDecStmt z (exprs_of (es ++ e ∷ [])) false)) (starts_place (ts ++ us) at l.starts) (g.decrement (exprs_are l) (n refl)); alone = λ y q. absurd (cc); brace = λ y. refl }

label_here : {m : Bool} {ts : List Token} (u : Token) (x : Spot) (n : ℕ) (z : Name) (s : Stack) → IsNameAt ts z → IsOp o.Colon u → Opens u (WStmt m) ts s (after_label_name x (Listed n) (Some z) s)
label_here u x n _ s (name_at {u = v} k) q = short n v.place (open_new (OfStmt (f.Labeled (name_of v))) (OfStmt (f.AfterLabel x.ctx.blocks (one_longer n))) (h.labeled k q) h.after_label)

-- a label
label_opens : {w : Want} {hd : Bool} {ts : List Token} (u : Token) (x : Spot) (m : Mode) (y : Option Name) (s : Stack) → TakesSimple w hd m → is_listed m ≡ true → ((z : Name) → y ≡ Some z → IsNameAt ts z) → IsOp o.Colon u → Opens u w ts s (after_label_name x m y s)
label_opens u x (Listed n) None s to_listed p d q = o_stuck
label_opens {ts = ts} u x (Listed n) (Some z) s to_listed p d q = label_here u x n z s (d z refl) q
label_opens u x m y s (to_simple a b c) p d q = absurd (cc)
label_opens u x Headed y s to_stmt p d q = absurd (cc)

after_all_good : {w : Want} {ts us : List Token} {e : t.Expr} (x : Spot) (u : Token) (es : List t.Expr) (s : Stack) → TakesSimple w x.ctx.header x.mode → x.ctx.guard ≡ false → LeftIs u x.ctx.header x.place ts us es e → Good u w (ts ++ us) s (after_all u x (es ++ e ∷ []) s)
after_all_good {w} {ts} {us} {e} x u es s k p l =
    good_op o.Arrow (λ q. good (open_operand (OfStmt (f.Sent x.place (es ++ e ∷ []))) x.ctx (ts ++ us ++ u ∷ []) refl (h.sent k (exprs_are l) l.starts (last_follows es e u l.follow) q) (subst (λ z. TakesExpr (WExpr (header_of w) false AnyFirst) x.ctx.header z AnyFirst) (sym p) (subst (λ z. TakesExpr (WExpr (header_of w) false AnyFirst) z false AnyFirst) (takes_header k) to_expr)))) (λ n.
    good_if (is_op o.Increment u || is_op o.Decrement u)
    (λ q. good (open_one (Done (AStmt (t.IncDecStmt x.place (exprs_of (es ++ e ∷ [])) (is_op o.Increment u)))) (done_is (λ y. simple_is y k (step_is (is_op o.Increment u) (λ z. op_of z) (λ z. op_of (or_pick (is_op o.Increment u) (is_op o.Decrement u) q z)) l y))))) (λ n.
    good_if (is_op o.Colon u && is_listed x.mode && is_some (label_in (es ++ e ∷ [])))
    (λ q. let one = and_parts (is_op o.Colon u && is_listed x.mode) (is_some (label_in (es ++ e ∷ []))) q in let two = and_parts (is_op o.Colon u) (is_listed x.mode) (one.0) in good (label_opens u x x.mode (label_in (es ++ e ∷ [])) s k (two.1) l.label (op_of (two.0))))
    (λ n. over (simple_is u k (alone_is l)))))

after_op_good : {w : Want} {ts us : List Token} {e : t.Expr} (x : Spot) (u : Token) (es : List t.Expr) (s : Stack) (y : Option Op) → y ≡ assign_op u.kind → TakesSimple w x.ctx.header x.mode → x.ctx.guard ≡ false → LeftIs u x.ctx.header x.place ts us es e → Good u w (ts ++ us) s (after_assign_op u x (es ++ e ∷ []) y s)
after_op_good {ts = ts} {us} {e} x u es s (Some op) q k p l = good (open_operand (OfStmt (f.Assigned x (es ++ e ∷ []) (Some op) [])) x.ctx (ts ++ us ++ u ∷ []) refl (h.op_assigned k p (exprs_are l) l.starts (record { assign = sym q }) no_exprs) to_expr)
after_op_good x u es s None q k p l = after_all_good x u es s k p l

after_left_good : {w : Want} {ts us : List Token} {e : t.Expr} (x : Spot) (u : Token) (es : List t.Expr) (s : Stack) → TakesSimple w x.ctx.header x.mode → x.ctx.guard ≡ false → LeftIs u x.ctx.header x.place ts us es e → Good u w (ts ++ us) s (after_left u x es e s)
after_left_good {ts = ts} {us} {e} x u es s k p l =
    good_if (is_tag x.mode)
    (λ z. good_if (is_op o.Define u && is_name e) (λ q. good (open_one (OfStmt (f.Right x (es ++ e ∷ []) true)) (h.right k p (side_is true (λ y. op_of ((and_parts (is_op o.Define u) (is_name e) q).0)) (λ y. absurd (cc)) l)))) (λ n. over (simple_is u k (alone_is l))))
    (λ z. good_op o.Comma (λ q. good (comma_opens u es s k p l q)) (λ n.
    good_if (is_op o.Assign u || is_op o.Define u)
    (λ q. good (open_one (OfStmt (f.Right x (es ++ e ∷ []) (is_op o.Define u))) (h.right k p (side_is (is_op o.Define u) (λ y. op_of y) (λ y. op_of (or_second (is_op o.Assign u) (is_op o.Define u) q y)) l))))
    (λ n. after_op_good x u es s (assign_op u.kind) refl k p l)))

starts_of : (ts : List Token) (p : Place) → AllowsFirst (FirstAt p) ts → Starts ts p
starts_of [] p a = absurd a
starts_of (u ∷ us) p a = sym a

-- several expressions are no name
no_label : {ts : List Token} (x : t.Expr) (es : List t.Expr) (e : t.Expr) → LabelFact ts (x ∷ es ++ e ∷ [])
no_label x [] e y q = absurd (cc)
no_label x (z ∷ es) e y q = absurd (cc)

-- what an assignment is
sides_are : {hd : Bool} {ts vs : List Token} {es : List t.Expr} {at : Place} (es' : List t.Expr) → SideHeld hd ts es false at → AreExprs hd vs (exprs_of es') → IsSimple hd (ts ++ vs) (t.AssignStmt at (exprs_of es) None (exprs_of es'))
sides_are {hd} {vs = vs} es' (h.side_assign {ts} {es} {at} {v} d st lf q) i = subst (λ z. IsSimple hd z (t.AssignStmt at (exprs_of es) None (exprs_of es'))) (sym (append_assoc ts (v ∷ []) vs)) (subst (λ z. IsSimple hd (ts ++ v ∷ vs) (t.AssignStmt z (exprs_of es) None (exprs_of es'))) (starts_place ts at st) (g.assign d q i))

defined_are : {hd : Bool} {ts vs : List Token} {es : List t.Expr} {at : Place} (es' : List t.Expr) → SideHeld hd ts es true at → AreExprs hd vs (exprs_of es') → IsSimple hd (ts ++ vs) (t.DefineStmt at (exprs_of es) (exprs_of es'))
defined_are {hd} {vs = vs} es' (h.side_define {ts} {es} {at} {v} d st lf q) i = subst (λ z. IsSimple hd z (t.DefineStmt at (exprs_of es) (exprs_of es'))) (sym (append_assoc ts (v ∷ []) vs)) (subst (λ z. IsSimple hd (ts ++ v ∷ vs) (t.DefineStmt z (exprs_of es) (exprs_of es'))) (starts_place ts at st) (g.define d q i))

sent_is : {w : Want} {h : Bool} {m : Mode} {ts vs : List Token} {e : t.Expr} {v : Token} (at : Place) (es : List t.Expr) (u : Token) (s : Stack) → TakesSimple w h m → AreExprs h ts (exprs_of es) → Starts ts at → MayFollowLast (exprs_of es) v → IsOp o.Arrow v → IsExpr 1 (header_of w) vs e → After u AnyFirst vs e → Is u w (AStmt (t.SendStmt at (exprs_of es) e)) (ts ++ v ∷ vs)
sent_is {w} {h} {m} {ts} {vs} {e} {v} at es u s k d st mf q i a =
    simple_is u k (record { simple = subst (λ z. IsSimple h (ts ++ v ∷ vs) (t.SendStmt z (exprs_of es) e)) (starts_place ts at st) (g.send d mf q (subst (λ z. IsExpr 1 z vs e) (takes_header k) i)); alone = λ y q. absurd (cc); brace = λ b. a.brace b })

pub stmt_expr_good : {x : StmtFrame} {ts : List Token} {w : Want} (vs : List Token) (u : Token) (e : t.Expr) (s : Stack) → HoldsStmt x ts w → Is u (waits_stmt x w) (AnExpr e) vs → Good u w (ts ++ vs) s (stmt_meets_expr u x e s)
stmt_expr_good vs u e s (h.at_go k) i = over (a_stmt (g.go_expr k (i.0)))
stmt_expr_good vs u e s (h.at_defer k) i = over (a_stmt (g.defer_expr k (i.0)))
stmt_expr_good vs u e s (h.returned {b} {es} {ts} {u = v} k l) i =
    good_op o.Comma (λ q. good (open_operand (OfStmt (f.Returned b v.place (es ++ e ∷ []))) (new_ctx b) (v ∷ (ts ++ vs ++ u ∷ [])) refl (h.returned k (exprs_more l (i.0) q)) to_expr)) (λ n. over (a_stmt (g.return_exprs k (exprs_done l (i.0)))))
stmt_expr_good vs u e s (h.simple_first {x} k p) i =
    let a = i.1 in
    after_left_good x u [] s k p (record { before = no_exprs; expr = i.0; starts = starts_of vs x.place a.first; follow = a.follow; brace = a.brace; label = a.named; alone = λ z. i.0 })
stmt_expr_good vs u e s (h.simple_more {x} {e = y} {es} {ts = ts} k p l st) i =
    let a = i.1 in
    after_left_good x u (y ∷ es) s k p (record { before = l; expr = i.0; starts = starts_more ts vs x.place st; follow = a.follow; brace = a.brace; label = no_label y es e; alone = λ z. absurd (cc) })
stmt_expr_good vs u e s (h.assigned {x} {es} {es'} {ts = ts} {us} k p d l) i =
    let a = i.1 in
    good_at (append_assoc ts us vs) (good_op o.Comma (λ q. good (open_operand (OfStmt (f.Assigned x es None (es' ++ e ∷ []))) x.ctx (ts ++ (us ++ vs ++ u ∷ [])) (append_assoc ts (us ++ vs) (u ∷ [])) (h.assigned k p d (exprs_more l (i.0) q)) to_expr))
    (λ n. over (simple_is u k (record { simple = sides_are (es' ++ e ∷ []) d (exprs_done l (i.0)); alone = λ y q. absurd (cc); brace = λ b. last_brace es' e ∙ a.brace b }))))
stmt_expr_good vs u e s (h.op_assigned {x} {es} {es'} {op} {w} {ts} {us} {v} k p d st q l) i =
    let a = i.1 in
    good_at (append_assoc ts (v ∷ us) vs) (good_op o.Comma (λ c. good (open_operand (OfStmt (f.Assigned x es (Some op) (es' ++ e ∷ []))) x.ctx (ts ++ v ∷ (us ++ vs ++ u ∷ [])) (append_assoc ts (v ∷ (us ++ vs)) (u ∷ [])) (h.op_assigned k p d st q (exprs_more l (i.0) c)) to_expr))
    (λ n. over (simple_is u k (record { simple = subst (λ z. IsSimple x.ctx.header (ts ++ v ∷ (us ++ vs)) (t.AssignStmt z (exprs_of es) (Some op) (exprs_of (es' ++ e ∷ [])))) (starts_place ts x.place st) (g.op_assign op d q (exprs_done l (i.0))); alone = λ y q. absurd (cc); brace = λ b. last_brace es' e ∙ a.brace b }))))
stmt_expr_good vs u e s (h.defined_first {x} {es} {ts = ts} k p d) i =
    let a = i.1 in
    good_if (is_tag x.mode) (λ q. stuck) (λ z. good_op o.Comma (λ q. good (open_operand (OfStmt (f.Defined x es (e ∷ []))) x.ctx (ts ++ (vs ++ u ∷ [])) (append_assoc ts vs (u ∷ [])) (h.defined_more k p d (exprs_more no_exprs (i.0) q)) to_expr))
    (λ n. over (simple_is u k (record { simple = defined_are (e ∷ []) d (exprs_done no_exprs (i.0)); alone = λ y q. absurd (cc); brace = λ b. a.brace b }))))
stmt_expr_good vs u e s (h.defined_more {x} {es} {es'} {e = y} {ts = ts} {us} k p d l) i =
    let a = i.1 in
    good_at (append_assoc ts us vs) (good_if (is_tag x.mode) (λ q. stuck) (λ z. good_op o.Comma (λ q. good (open_operand (OfStmt (f.Defined x es (y ∷ es' ++ e ∷ []))) x.ctx (ts ++ (us ++ vs ++ u ∷ [])) (append_assoc ts (us ++ vs) (u ∷ [])) (h.defined_more k p d (exprs_more l (i.0) q)) to_expr))
    (λ n. over (simple_is u k (record { simple = defined_are (y ∷ es' ++ e ∷ []) d (exprs_done l (i.0)); alone = λ y q. absurd (cc); brace = λ b. last_brace (y ∷ es') e ∙ a.brace b })))))
stmt_expr_good vs u e s (h.sent {m} {at} {es} {w} {ts} {v} k d st mf q) i =
    good_at (append_assoc ts (v ∷ []) vs) (over (sent_is at es u s k d st mf q (i.0) (i.1)))
stmt_expr_good vs u e s _ i = stuck

-- a guard goes through
guard_is : {w : Want} {h : Bool} {m : Mode} {ts : List Token} {e : t.Expr} {x : Option Name} (u : Token) → TakesSimple w h m → takes_guard m ≡ true → (h ≡ true → IsOpenGuard ts x e) → Is u w (AGuard x e) ts
guard_is u to_listed p d = absurd (cc)
guard_is u to_stmt p d = absurd (cc)
guard_is u (to_simple a b c) p d = (c p, p, d (c p))

guard_expr : {h : Bool} {ts : List Token} {e : t.Expr} → IsGuardOf 1 h ts e → h ≡ true → IsOpenGuard ts None e
guard_expr (guard_of {ys} {e} d st wd p q r) z = open_guard (subst (λ y. IsExpr 1 y ys e) z (⊎_elim (λ a. of_unary 1 (omega arith) a) (λ b. b.1) d)) wd p q r

named_guard : {h : Bool} {ts us : List Token} {y : Name} {e : t.Expr} {v : Token} → IsNameAt us y → IsOp o.Define v → IsGuardOf 1 h ts e → h ≡ true → IsOpenGuard (us ++ v ∷ ts) (Some y) e
named_guard (name_at n) q (guard_of {ys} {e} d st wd p p' r) z = open_named_guard n q (subst (λ y. IsExpr 1 y ys e) z (⊎_elim (λ a. of_unary 1 (omega arith) a) (λ b. b.1) d)) wd p p' r

named_expr : (e : t.Expr) → is_name e ≡ true → (y : Name) × (name_in e ≡ Some y) × (name_in e ≡ Some y)
named_expr (t.NameExpr at x) q = (record { place = at; text = x }, refl, refl)
named_expr _ q = absurd (cc)

one_name : (es : List t.Expr) → is_one_name es ≡ true → (y : Name) × (label_in es ≡ Some y) × (last_name es ≡ Some y)
one_name [] q = absurd (cc)
one_name (e ∷ []) q = named_expr e q
one_name (e ∷ x ∷ es) q = absurd (cc)

defined_guard : {w : Want} {hd : Bool} {m : Mode} {ts vs : List Token} {at : Place} {e : t.Expr} (u : Token) (es : List t.Expr) → TakesSimple w hd m → (takes_guard m && is_one_name es) ≡ true → SideHeld hd ts es true at → IsGuardOf 1 hd vs e → Is u w (AGuard (last_name es) e) (ts ++ vs)
defined_guard {w} {hd} {m} {vs = vs} {e = e} u es k p (h.side_define {ts} {v} d st lf q) i =
    let both = and_parts (takes_guard m) (is_one_name es) p in
    let y = one_name es (both.1) in
    subst (λ z. Is u w (AGuard z e) ((ts ++ v ∷ []) ++ vs)) (sym (y.2)) (guard_is u k (both.0) (λ z. subst (λ r. IsOpenGuard r (Some (y.0)) e) (sym (append_assoc ts (v ∷ []) vs)) (named_guard (lf (y.0) (y.1)) q i z)))

pub stmt_guard_good : {x : StmtFrame} {ts : List Token} {w : Want} (vs : List Token) (u : Token) (y : Option Name) (e : t.Expr) (s : Stack) → HoldsStmt x ts w → Is u (waits_stmt x w) (AGuard y e) vs → Good u w (ts ++ vs) s (guard_meets_simple x e s)
stmt_guard_good vs u y e s (h.simple_first {x} k p) i = over (guard_is u k (i.0) (guard_expr (i.2)))
stmt_guard_good vs u y e s (h.simple_more {x} k p l st) i = absurd (let a = i.0 in cc)
stmt_guard_good vs u y e s (h.defined_first {x} {es} k p d) i = over (defined_guard u es k (i.0) d (i.2))
stmt_guard_good vs u y e s (h.defined_more {x} k p d l) i = absurd (let a = i.0 in cc)
stmt_guard_good vs u y e s _ i = stuck

pub stmt_stmt_good : {x : StmtFrame} {ts : List Token} {w : Want} (vs : List Token) (u : Token) (y : t.Stmt) (s : Stack) → HoldsStmt x ts w → Is u (waits_stmt x w) (AStmt y) vs → Good u w (ts ++ vs) s (stmt_meets_stmt u x y s)
stmt_stmt_good vs u y s (h.in_block {b} tk p k) (a_stmt d) = after_stmt_good u b s tk p (ends_more u k d)
stmt_stmt_good vs u y s (h.labeled n q) (a_stmt d) = over (a_stmt (g.label n q d))
stmt_stmt_good vs u y s (h.labeled n q) a_missing = over (a_stmt (g.label_of_none n q))
stmt_stmt_good vs u y s _ i = stuck

pub stmt_block_good : {x : StmtFrame} {ts : List Token} {w : Want} (vs : List Token) (u : Token) (b : t.Block) (s : Stack) → HoldsStmt x ts w → Is u (waits_stmt x w) (ABlock b) vs → Good u w (ts ++ vs) s (stmt_meets_block x b s)
stmt_block_good vs u b s (h.inner {m}) i = over (a_stmt (subst (λ z. IsStmt u.place vs (t.BlockStmt z b)) (starts_place vs (place_of_block b) (i.1)) (g.block (i.0))))
stmt_block_good vs u b s _ i = stuck

pub stmt_decl_good : {x : StmtFrame} {ts : List Token} {w : Want} (vs : List Token) (u : Token) (d : t.Decl) (s : Stack) → HoldsStmt x ts w → Is u (waits_stmt x w) (ADecl d) vs → Good u w (ts ++ vs) s (stmt_meets_decl x d s)
stmt_decl_good vs u d s (h.declared {m}) i = over (a_stmt (subst (λ z. IsStmt u.place vs (t.DeclStmt z d)) (starts_place vs (place_of_decl d) (i.1)) (g.declaration (i.0))))
stmt_decl_good vs u d s _ i = stuck
