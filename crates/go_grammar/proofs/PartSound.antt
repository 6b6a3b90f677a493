-- Each step of a frame of a part keeps the invariant.
use Rattle.std.proofs.Common.{◌≡◌, ◌&&◌, not, Bool, true, false, List, [], ◌∷◌, ◌++◌, Option, Some, None, refl, ap, sym, ◌∙◌, subst, append_assoc, append-nil, if◌then◌else◌, is_some, inl}
use Rattle.gj_base.specs.declared.place.Place.{Place}
use Rattle.go_syntax.specs.Tree as t
use Rattle.go_syntax.specs.Token.{Token}
use Rattle.go_syntax.specs.View.{joined, exprs_of}
use Rattle.go_syntax.specs.declared.keyword.Keyword.TheVariants as word
use Rattle.go_syntax.specs.declared.operator.Operator.TheVariants as o
use Rattle.go_grammar.specs.Classes.{IsOp, IsWord, IsName, name_of, place_of}
use Rattle.go_grammar.specs.Context.{MayFollow, wants_brace, wants_result, wants_dot}
use Rattle.go_grammar.specs.Grammar as g
use Rattle.go_grammar.specs.Grammar.{IsExpr, IsPrimary, AreExprs, AreElems, IsValue, IsElem, PerhapsExpr, IsLiteral}
use Rattle.go_grammar.specs.Frames as f
use Rattle.go_grammar.specs.Frames.{Ctx, inside, PartFrame, Base, Braces, Frame, OfExpr, OfPart, OfType, Done, Stack, Flow, Goes, Stuck, AnExpr, AGuard, Elems}
use Rattle.go_grammar.specs.Nodes.{is_op, is_word, is_name_token, place_of_expr, name_in, maybe, select, slice, call}
use Rattle.go_grammar.specs.Limits.{one_longer}
use Rattle.go_grammar.specs.ExprSteps.{part_done, begin_value, close_literal, part_row, part_meets}
use Rattle.go_grammar.proofs.TokenLemmas.{op_of, word_of, name_is}
use Rattle.go_grammar.proofs.Wanted.{First, AnyFirst, AllowsFirst, Starts, guard_of, Want, WValue, Is, TakesExpr, to_expr, to_value}
use Rattle.go_grammar.proofs.HeldExprs as h
use Rattle.go_grammar.proofs.HeldExprs.{HoldsPart, waits_part, onto, ExprsHeld, ElemsHeld, BaseHeld, LiteralHeld, KeyHeld, ArgsHeld, SpreadHeld}
use Rattle.go_grammar.proofs.Stands.{Opens, Good, good, stuck, open_one, open_at, open_operand, within_new, good_at, good_if, good_op, open_op, room}
use Rattle.go_grammar.proofs.BeginSound.{type_opens, expr_opens, unnamed}
use Rattle.go_grammar.proofs.SigSound.{joined_more}
use Rattle.go_grammar.proofs.ExprSound.{starts_more, first_more, starts_place, and_parts}

-- lists of expressions
onto_more : (es : List t.Expr) (e : t.Expr) (r : t.Exprs) → onto (es ++ e ∷ []) r ≡ onto es (t.MoreExprs e r)
onto_more [] e r = refl
onto_more (x ∷ xs) e r = ap (t.MoreExprs x) (onto_more xs e r)

exprs_onto : (es : List t.Expr) → exprs_of es ≡ onto es t.NoExprs
exprs_onto [] = refl
exprs_onto (x ∷ xs) = ap (t.MoreExprs x) (exprs_onto xs)

pub exprs_done : {h : Bool} {ts us : List Token} {es : List t.Expr} {e : t.Expr} → ExprsHeld h ts es → IsExpr 1 h us e → AreExprs h (ts ++ us) (exprs_of (es ++ e ∷ []))
exprs_done {h} {ts} {us} {es} {e} k d = subst (λ z. AreExprs h (ts ++ us) z) (sym (exprs_onto (es ++ e ∷ []) ∙ onto_more es e t.NoExprs)) (k.held us (t.MoreExprs e t.NoExprs) (g.one_expr d))

pub exprs_more : {h : Bool} {ts us : List Token} {es : List t.Expr} {e : t.Expr} {u : Token} → ExprsHeld h ts es → IsExpr 1 h us e → IsOp o.Comma u → ExprsHeld h ((ts ++ us) ++ u ∷ []) (es ++ e ∷ [])
exprs_more {h} {ts} {us} {es} {e} {u} k d q = record {
  held = λ vs r i.
      subst (λ z. AreExprs h ((ts ++ us) ++ u ∷ [] ++ vs) z) (sym (onto_more es e r)) (subst (λ z. AreExprs h z (onto es (t.MoreExprs e r))) (sym (append_assoc ts us (u ∷ vs)) ∙ sym (append_assoc (ts ++ us) (u ∷ []) vs)) (k.held (us ++ u ∷ vs) (t.MoreExprs e r) (g.more_exprs d q i)));
}

pub no_exprs : {h : Bool} → ExprsHeld h [] []
no_exprs = record { held = λ us r i. i }

args_held : {ts : List Token} {es : List t.Expr} → ArgsHeld ts es → ExprsHeld false ts es
args_held h.no_args = no_exprs
args_held (h.some_args d q k) = k

-- what stands before and more
pub record Extends (ts us : List Token) : Type 0 where
  pub starts : (p : Place) → Starts ts p → Starts us p
  pub first : (r : First) → AllowsFirst r ts → AllowsFirst r us

pub no_more : (ts : List Token) → Extends ts ts
no_more ts = record { starts = λ p a. a; first = λ r a. a }

pub and_more : {ts us : List Token} → Extends ts us → (vs : List Token) → Extends ts (us ++ vs)
and_more {us = us} k vs = record { starts = λ p a. starts_more us vs p (k.starts p a); first = λ r a. first_more us vs r (k.first r a) }

-- a part that ends with the token
done_good : {x : Base} {w : Want} {ts ws : List Token} (u : Token) (e : t.Expr) (s : Stack) → BaseHeld x ts w → Extends ts ws → ((h : Bool) → IsPrimary h ts x.expr → IsPrimary h (ws ++ u ∷ []) e) → place_of_expr e ≡ place_of_expr x.expr → name_in e ≡ None → wants_result e ≡ false → wants_brace e ≡ false → wants_dot e ≡ false → Good u w ws s (part_done x e s)
done_good {ts = ts} {ws} u e s (h.base {c} {n} {r} {e = e'} d p a) k make q z m b wd =
    let l = and_more k (u ∷ []) in
    good (open_one (OfExpr (f.Tail c (one_longer n) e)) (h.tail (make c.header d) (subst (λ y. Starts (ws ++ u ∷ []) y) (sym q) (l.starts (place_of_expr e') p)) (l.first r a) (unnamed e z) m b wd))

-- the place of a part is that of its operand
base_place : {x : Base} {w : Want} {ts : List Token} → BaseHeld x ts w → place_of ts ≡ place_of_expr x.expr
base_place {ts = ts} (h.base {e} d p a) = starts_place ts (place_of_expr e) p

select_done : {x : Base} {w : Want} {ts : List Token} {d : Token} (u : Token) (s : Stack) → BaseHeld x ts w → wants_dot x.expr ≡ false → IsOp o.Dot d → IsName u → Good u w (ts ++ d ∷ []) s (part_done x (select x.expr (name_of u)) s)
select_done {x} {ts = ts} {d} u s k wd q n = done_good u (select x.expr (name_of u)) s k (and_more (no_more ts) (d ∷ [])) (λ h i. subst (λ z. IsPrimary h z (select x.expr (name_of u))) (sym (append_assoc ts (d ∷ []) (u ∷ []))) (subst (λ z. IsPrimary h (ts ++ d ∷ u ∷ []) (t.SelectExpr z x.expr (name_of u))) (base_place k) (g.select i wd q n))) refl refl refl refl refl

slice_done : {x : Base} {w : Want} {ts us vs : List Token} {v y : Token} (i j : Option t.Expr) (u : Token) (s : Stack) → BaseHeld x ts w → MayFollow x.expr v → IsOp o.LeftBracket v → PerhapsExpr us (maybe i) → IsOp o.Colon y → PerhapsExpr vs (maybe j) → IsOp o.RightBracket u → Good u w (ts ++ v ∷ us ++ y ∷ vs) s (part_done x (slice x.expr i j None) s)
slice_done {x} {ts = ts} {us} {vs} {v} {y} i j u s k m b lo c hi q =
    done_good u (slice x.expr i j None) s k (and_more (and_more (no_more ts) (v ∷ us)) (y ∷ vs)) (λ h d.
    subst (λ z. IsPrimary h (ts ++ v ∷ us ++ y ∷ vs ++ u ∷ []) (t.SliceExpr z x.expr (maybe i) (maybe j) t.NoExpr)) (base_place k) (g.slice d m b lo c hi q)) refl refl refl refl refl

full_done : {x : Base} {w : Want} {ts us vs xs : List Token} {j e : t.Expr} {v y z : Token} (i : Option t.Expr) (u : Token) (s : Stack) → BaseHeld x ts w → MayFollow x.expr v → IsOp o.LeftBracket v → PerhapsExpr us (maybe i) → IsOp o.Colon y → IsExpr 1 false vs j → IsOp o.Colon z → IsExpr 1 false xs e → IsOp o.RightBracket u → Good u w (ts ++ v ∷ us ++ y ∷ vs ++ z ∷ xs) s (part_done x (slice x.expr i (Some j) (Some e)) s)
full_done {x} {ts = ts} {us} {vs} {xs} {j} {e} {v} {y} {z} i u s k m b lo c hi c' mo q =
    done_good u (slice x.expr i (Some j) (Some e)) s k (and_more (and_more (and_more (no_more ts) (v ∷ us)) (y ∷ vs)) (z ∷ xs)) (λ h d.
    subst (λ n. IsPrimary h (ts ++ v ∷ us ++ y ∷ vs ++ z ∷ xs ++ u ∷ []) (t.SliceExpr n x.expr (maybe i) (t.AnExpr j) (t.AnExpr e))) (base_place k) (g.full_slice d m b lo c hi c' mo q)) refl refl refl refl refl

-- arguments, with what is after them
call_done : {x : Base} {w : Want} {ts us ss cs : List Token} {spread comma : Bool} {v : Token} (es : List t.Expr) (u : Token) (s : Stack) → BaseHeld x ts w → MayFollow x.expr v → IsOp o.LeftParen v → AreExprs false us (exprs_of es) → g.PerhapsOp o.Ellipsis ss spread → g.PerhapsOp o.Comma cs comma → IsOp o.RightParen u → Good u w (ts ++ v ∷ us ++ ss ++ cs) s (part_done x (call x.expr es spread) s)
call_done {x} {ts = ts} {us} {ss} {cs} {spread} {v = v} es u s k m b d p c q =
    done_good u (call x.expr es spread) s k (and_more (and_more (and_more (no_more ts) (v ∷ us)) ss) cs) (λ h i.
    subst (λ z. IsPrimary h (ts ++ v ∷ us ++ ss ++ cs ++ u ∷ []) (t.CallExpr z x.expr (exprs_of es) spread)) (base_place k) (g.call i m b d p c q)) refl refl refl refl refl

args_done : {x : Base} {w : Want} {ts us : List Token} {es : List t.Expr} {v : Token} (u : Token) (s : Stack) → BaseHeld x ts w → MayFollow x.expr v → IsOp o.LeftParen v → ArgsHeld us es → IsOp o.RightParen u → Good u w (ts ++ v ∷ us) s (part_done x (call x.expr es false) s)
args_done {x} {ts = ts} {v = v} u s k m b h.no_args q =
    done_good u (call x.expr [] false) s k (and_more (no_more ts) (v ∷ [])) (λ h i. subst (λ z. IsPrimary h z (call x.expr [] false)) (sym (append_assoc ts (v ∷ []) (u ∷ []))) (subst (λ z. IsPrimary h (ts ++ v ∷ u ∷ []) (t.CallExpr z x.expr t.NoExprs false)) (base_place k) (g.call_of_none i m b q))) refl refl refl refl refl
args_done {ts = ts} {v = v} u s k m b (h.some_args {ts = rs} {es} {v = c'} d c l) q =
    good_at (sym (append_assoc ts (v ∷ rs) (c' ∷ [])) ∙ ap (λ z. z ++ c' ∷ []) (sym (append-nil (ts ++ v ∷ rs)))) (call_done es u s k m b d g.without_op (g.with_op c) q)

spread_done : {x : Base} {w : Want} {ts us ss : List Token} {comma : Bool} {v : Token} (es : List t.Expr) (u : Token) (s : Stack) → BaseHeld x ts w → MayFollow x.expr v → IsOp o.LeftParen v → AreExprs false us (exprs_of es) → SpreadHeld ss comma → IsOp o.RightParen u → Good u w (ts ++ v ∷ us ++ ss) s (part_done x (call x.expr es true) s)
spread_done {ts = ts} {us} {v = v} es u s k m b d (h.spread {u = y} q) r = good_at (sym (append-nil (ts ++ v ∷ us ++ y ∷ []))) (call_done es u s k m b d (g.with_op q) g.without_op r)
spread_done {ts = ts} {us} {v = v} es u s k m b d (h.spread_comma {u = y} {v = z} q c) r = good_at (sym (append_assoc (ts ++ v ∷ us) (y ∷ []) (z ∷ []))) (call_done es u s k m b d (g.with_op q) (g.with_op c) r)

-- a value of a literal
pub value_opens : (u : Token) (c : Ctx) (s : Stack) → c.header ≡ false → c.guard ≡ false → Opens u WValue [] s (begin_value u c s)
value_opens u c s hq gq =
    open_op o.LeftBrace (λ q. room c (open_one (OfPart (f.InBraces (record { ctx = c; count = 0; place = u.place; ty = None }) [])) (h.in_braces (h.bare_literal q (record { held = λ us r i. i }))))) (λ n.
    expr_opens u c s (subst (λ z. TakesExpr WValue z c.guard AnyFirst) (sym hq) (subst (λ z. TakesExpr WValue false z AnyFirst) (sym gq) to_value)) tt)

-- the `}` of a literal
close_literal_good : {x : Braces} {xs : Elems} {w : Want} {ts us : List Token} (u : Token) (s : Stack) (ys : Elems) → LiteralHeld x xs ts w → ((rs : List Token) → ElemsHeld rs xs → AreElems (rs ++ us) (joined ys t.NoElems)) → IsOp o.RightBrace u → Good u w (ts ++ us) s (close_literal x ys x.ty s)
close_literal_good {us} u s ys (h.typed_literal {c} {n} {r} {e} {ss} {ts} {u = v} d p a l b k) make q =
    let rest : List Token = ss ++ (v ∷ ((ts ++ us) ++ u ∷ [])) in
    good (open_at (OfExpr (f.Tail c (one_longer n) (t.LiteralExpr (place_of_expr e) (t.AnExpr e) (joined ys t.NoElems)))) (ap (λ z. z ++ u ∷ []) (append_assoc ss (v ∷ ts) us) ∙ append_assoc ss (v ∷ (ts ++ us)) (u ∷ []))
    (h.tail (subst (λ z. IsPrimary c.header rest (t.LiteralExpr z (t.AnExpr e) (joined ys t.NoElems))) (starts_place ss (place_of_expr e) p) (g.literal d l (g.literal_braces b (make ts k) q))) (starts_more ss (v ∷ ((ts ++ us) ++ u ∷ [])) (place_of_expr e) p) (first_more ss (v ∷ ((ts ++ us) ++ u ∷ [])) r a) (unnamed (t.LiteralExpr (place_of_expr e) (t.AnExpr e) (joined ys t.NoElems)) refl) refl refl refl))
close_literal_good u s ys (h.bare_literal {ts} {u = v} b k) make q =
    good (open_one (Done (AnExpr (t.LiteralExpr v.place t.NoExpr (joined ys t.NoElems)))) (record { is = λ x. g.literal_value (g.literal_braces b (make ts k) q) }))

-- an element
elem_is : {ts us : List Token} {key : Option t.Expr} {e : t.Expr} → KeyHeld ts key → IsValue us e → IsElem (ts ++ us) (maybe key) e
elem_is h.no_key d = g.plain_elem d
elem_is {us = us} {e = e} (h.a_key {ts} {e = k} {u} i q) d = subst (λ z. IsElem z (t.AnExpr k) e) (sym (append_assoc ts (u ∷ []) us)) (g.keyed_elem i q d)

elems_done : {rs us : List Token} {xs : Elems} {key : t.MaybeExpr} {e : t.Expr} → ElemsHeld rs xs → IsElem us key e → AreElems (rs ++ us) (joined (xs ++ (λ rest. t.MoreElems key e rest) ∷ []) t.NoElems)
elems_done {rs} {us} {xs} {key} {e} k d = subst (λ z. AreElems (rs ++ us) z) (sym (joined_more xs (λ rest. t.MoreElems key e rest) t.NoElems)) (k.held us (t.MoreElems key e t.NoElems) (g.last_elem d))

elems_more : {rs us : List Token} {xs : Elems} {key : t.MaybeExpr} {e : t.Expr} {u : Token} → ElemsHeld rs xs → IsElem us key e → IsOp o.Comma u → ElemsHeld ((rs ++ us) ++ u ∷ []) (xs ++ (λ rest. t.MoreElems key e rest) ∷ [])
elems_more {rs} {us} {xs} {key} {e} {u} k d q = record {
  held = λ vs r i.
      subst (λ z. AreElems (((rs ++ us) ++ u ∷ []) ++ vs) z) (sym (joined_more xs (λ rest. t.MoreElems key e rest) r)) (subst (λ z. AreElems z (joined xs (t.MoreElems key e r))) (sym (append_assoc rs us (u ∷ vs)) ∙ sym (append_assoc (rs ++ us) (u ∷ []) vs)) (k.held (us ++ u ∷ vs) (t.MoreElems key e r) (g.more_elems d q i)));
}

-- a comma after an element
comma_good : {x : Braces} {xs : Elems} {w : Want} {ts us : List Token} {key : t.MaybeExpr} {e : t.Expr} (u : Token) (s : Stack) → LiteralHeld x xs ts w → IsElem us key e → IsOp o.Comma u → Good u w (ts ++ us) s (Goes (OfPart (f.InBraces x (xs ++ (λ rest. t.MoreElems key e rest) ∷ [])) ∷ s))
comma_good {us} {key} {e} u s (h.typed_literal {c} {n} {r} {e = y} {xs} {ss} {ts} {u = v} d p a l b k) i q =
    good (open_at (OfPart (f.InBraces (record { ctx = c; count = n; place = place_of_expr y; ty = Some y }) (xs ++ (λ rest. t.MoreElems key e rest) ∷ []))) (ap (λ z. z ++ u ∷ []) (append_assoc ss (v ∷ ts) us) ∙ append_assoc ss (v ∷ (ts ++ us)) (u ∷ [])) (h.in_braces (h.typed_literal d p a l b (elems_more k i q))))
comma_good {us} {key} {e} u s (h.bare_literal {c} {n} {xs} {ts} {u = v} b k) i q =
    good (open_one (OfPart (f.InBraces (record { ctx = c; count = n; place = v.place; ty = None }) (xs ++ (λ rest. t.MoreElems key e rest) ∷ []))) (h.in_braces (h.bare_literal b (elems_more k i q))))

elems_none : {xs : Elems} (rs : List Token) → ElemsHeld rs xs → AreElems (rs ++ []) (joined xs t.NoElems)
elems_none rs k = k.held [] t.NoElems g.no_elems

guard_good : {x : Base} {w : Want} {ts : List Token} {d p : Token} (u : Token) (s : Stack) → BaseHeld x ts w → wants_dot x.expr ≡ false → IsOp o.Dot d → IsOp o.LeftParen p → x.ctx.guard ≡ true → IsWord word.Type u → Good u w (ts ++ d ∷ p ∷ []) s (Goes (Done (AGuard None x.expr) ∷ s))
guard_good {ts} {d} {p} u s (h.base {e} i y a) wd q r z m = good (open_at (Done (AGuard None e)) (append_assoc ts (d ∷ p ∷ []) (u ∷ [])) (record { is = λ x. (z, refl, guard_of (inl (g.primary i)) y wd q r m) }))

-- a comma after `...`
spread_comma_good : {x : Base} {w : Want} {ts us ss : List Token} {es : List t.Expr} {comma : Bool} {v : Token} (u : Token) (s : Stack) → BaseHeld x ts w → MayFollow x.expr v → IsOp o.LeftParen v → AreExprs false us (exprs_of es) → SpreadHeld ss comma → (is_op o.Comma u && not comma) ≡ true → Good u w (ts ++ v ∷ us ++ ss) s (Goes (OfPart (f.Spread x es true) ∷ s))
spread_comma_good {x} {ts = ts} {us} {es = es} {v = v} u s k m b d (h.spread {u = y} q) c =
    good (open_at (OfPart (f.Spread x es true)) (append_assoc (ts ++ v ∷ us) (y ∷ []) (u ∷ [])) (h.spread k m b d (h.spread_comma q (op_of ((and_parts (is_op o.Comma u) true c).0)))))
spread_comma_good u s k m b d (h.spread_comma q r) c = absurd (let z = and_parts (is_op o.Comma u) false c in let z' = z.1 in cc)

element_new : {x : Braces} {xs : Elems} {w : Want} {ts : List Token} → LiteralHeld x xs ts w → HoldsPart (f.Element x xs None) ts w
element_new {x} {xs} {w} {ts} k = subst (λ z. HoldsPart (f.Element x xs None) z w) (append-nil ts) (h.element k h.no_key)

-- a colon after a key
key_good : {x : Braces} {xs : Elems} {w : Want} {ts us vs : List Token} {key : Option t.Expr} {e : t.Expr} (u : Token) (s : Stack) → LiteralHeld x xs ts w → KeyHeld us key → IsValue vs e → IsOp o.Colon u → Good u w (ts ++ (us ++ vs)) s (if is_some key then Stuck else Goes (OfPart (f.Keyed x xs e) ∷ s))
key_good {x} {xs} {ts = ts} {vs = vs} {e = e} u s k h.no_key d q = good (open_at (OfPart (f.Keyed x xs e)) (append_assoc ts vs (u ∷ [])) (h.keyed k (h.a_key d q)))
key_good u s k (h.a_key i r) d q = stuck

pub part_row_good : {x : PartFrame} {ts : List Token} {w : Want} (u : Token) (s : Stack) → HoldsPart x ts w → Good u w ts s (part_row u x s)
part_row_good u s (h.dot {x} {ts} {u = v} k wd d) =
    good_if (is_name_token u.kind) (λ q. select_done u s k wd d (name_is q)) (λ n.
    good_op o.LeftParen (λ q. good (room x.ctx (open_at (OfPart (f.AssertOpen x)) (append_assoc ts (v ∷ []) (u ∷ [])) (h.assert_open k wd d q)))) (λ m. stuck))
part_row_good u s (h.assert_open {x} k wd d p) =
    good_if (x.ctx.guard && is_word word.Type u) (λ q. let both = and_parts x.ctx.guard (is_word word.Type u) q in guard_good u s k wd d p (both.0) (word_of (both.1)))
    (λ n. good (within_new (OfPart (f.Asserted x)) (h.asserted k wd d p) (type_opens u (inside x.ctx) (OfPart (f.Asserted x) ∷ s) tt)))
part_row_good u s (h.bracket {x} {ts} {u = v} k m b) =
    good_op o.Colon (λ q. good (open_one (OfPart (f.High x None)) (h.high k m b g.without_expr q)))
    (λ n. good (within_new (OfPart (f.Index x)) (h.index k m b) (expr_opens u (inside x.ctx) (OfPart (f.Index x) ∷ s) to_expr tt)))
part_row_good u s (h.high {x} {i} k m b lo c) =
    good_op o.RightBracket (λ q. slice_done i None u s k m b lo c g.without_expr q)
    (λ n. good (within_new (OfPart (f.HighExpr x i)) (h.high_expr k m b lo c) (expr_opens u (inside x.ctx) (OfPart (f.HighExpr x i) ∷ s) to_expr tt)))
part_row_good u s (h.args {x} {es} k m b a) =
    good_op o.RightParen (λ q. args_done u s k m b a q)
    (λ n. good (within_new (OfPart (f.Arg x es)) (h.arg k m b (args_held a)) (expr_opens u (inside x.ctx) (OfPart (f.Arg x es) ∷ s) to_expr tt)))
part_row_good u s (h.spread {x} {ts} {us} {ss} {es} {comma} {u = v} k m b d c) =
    good_op o.RightParen (λ q. spread_done es u s k m b d c q)
    (λ n. good_if (is_op o.Comma u && not comma) (λ q. spread_comma_good u s k m b d c q) (λ n. stuck))
part_row_good u s (h.in_braces {x} {xs} {ts} k) =
    good_op o.RightBrace (λ q. good_at (sym (append-nil ts)) (close_literal_good u s xs k elems_none q))
    (λ n. good (within_new (OfPart (f.Element x xs None)) (element_new k) (value_opens u (inside x.ctx) (OfPart (f.Element x xs None) ∷ s) refl refl)))
part_row_good u s (h.keyed {x} {xs} {key} k i) = good (within_new (OfPart (f.Element x xs (Some key))) (h.element k i) (value_opens u (inside x.ctx) (OfPart (f.Element x xs (Some key)) ∷ s) refl refl))
part_row_good u s _ = stuck

pub part_meets_good : {x : PartFrame} {ts : List Token} {w : Want} (vs : List Token) (u : Token) (e : t.Expr) (s : Stack) → HoldsPart x ts w → Is u (waits_part x) (AnExpr e) vs → Good u w (ts ++ vs) s (part_meets u x e s)
part_meets_good vs u e s (h.asserted {x} {ts} {u = d} {v = p} k wd dq pq) i =
    good_op o.RightParen (λ q. good_at (append_assoc ts (d ∷ p ∷ []) vs) (done_good u (t.AssertExpr (place_of_expr x.expr) x.expr e) s k (and_more (no_more ts) (d ∷ p ∷ vs)) (λ h j. subst (λ z. IsPrimary h (ts ++ d ∷ p ∷ vs ++ u ∷ []) (t.AssertExpr z x.expr e)) (base_place k) (g.assert j wd dq pq (i.0) q)) refl refl refl refl refl)) (λ n. stuck)
part_meets_good vs u e s (h.index {x} {ts} {u = v} k m b) i =
    good_at (append_assoc ts (v ∷ []) vs)
    (good_op o.RightBracket (λ q. done_good u (t.IndexExpr (place_of_expr x.expr) x.expr e) s k (and_more (no_more ts) (v ∷ vs)) (λ h j. subst (λ z. IsPrimary h (ts ++ v ∷ vs ++ u ∷ []) (t.IndexExpr z x.expr e)) (base_place k) (g.index j m b (i.0) q)) refl refl refl refl refl) (λ n.
    good_op o.Colon (λ q. good (open_one (OfPart (f.High x (Some e))) (h.high k m b (g.with_expr (i.0)) q))) (λ n. stuck)))
part_meets_good vs u e s (h.high_expr {x} {ts} {us} {i = lo'} {u = v} {v = y} k m b lo c) i =
    good_at (append_assoc (ts ++ v ∷ us) (y ∷ []) vs)
    (good_op o.RightBracket (λ q. slice_done lo' (Some e) u s k m b lo c (g.with_expr (i.0)) q) (λ n.
    good_op o.Colon (λ q. good (open_operand (OfPart (f.Most x lo' e)) (inside x.ctx) (ts ++ v ∷ us ++ y ∷ vs ++ u ∷ []) refl (h.most k m b lo c (i.0) q) to_expr)) (λ n. stuck)))
part_meets_good vs u e s (h.most {x} {ts} {us} {vs = js} {i = lo'} {u = v} {v = y} {y = z} k m b lo c hi c') i =
    good_at (append_assoc (ts ++ v ∷ us ++ y ∷ js) (z ∷ []) vs)
    (good_op o.RightBracket (λ q. full_done lo' u s k m b lo c hi c' (i.0) q) (λ n. stuck))
part_meets_good vs u e s (h.arg {x} {ts} {us} {es} {u = v} k m b l) i =
    good_at (append_assoc ts (v ∷ us) vs)
    (good_op o.Comma (λ q. good (open_at (OfPart (f.Args x (es ++ e ∷ []))) (append_assoc ts (v ∷ (us ++ vs)) (u ∷ [])) (h.args k m b (h.some_args (exprs_done l (i.0)) q (exprs_more l (i.0) q))))) (λ n.
    good_op o.RightParen (λ q. good_at (sym (append-nil (ts ++ v ∷ (us ++ vs))) ∙ sym (append-nil (ts ++ v ∷ (us ++ vs) ++ []))) (call_done (es ++ e ∷ []) u s k m b (exprs_done l (i.0)) g.without_op g.without_op q)) (λ n.
    good_op o.Ellipsis (λ q. good (open_one (OfPart (f.Spread x (es ++ e ∷ []) false)) (h.spread k m b (exprs_done l (i.0)) (h.spread q)))) (λ n. stuck))))
part_meets_good vs u e s (h.element {x} {xs} {ts} {us} {key} k i) j =
    good_at (append_assoc ts us vs)
    (good_op o.Colon (λ q. key_good u s k i j q) (λ n.
    good_op o.Comma (λ q. comma_good u s k (elem_is i j) q) (λ n.
    good_op o.RightBrace (λ q. close_literal_good u s (xs ++ (λ rest. t.MoreElems (maybe key) e rest) ∷ []) k (λ rs l. elems_done l (elem_is i j)) q) (λ n. stuck))))
part_meets_good vs u e s _ i = stuck
