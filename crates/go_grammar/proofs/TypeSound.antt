-- Each step of a frame of a type keeps the invariant.
use Rattle.std.proofs.Common.{◌≡◌, ◌&&◌, false, List, [], ◌∷◌, ◌++◌, Some, None, refl, append_assoc}
use Rattle.go_syntax.specs.Tree as t
use Rattle.go_syntax.specs.Token.{Token}
use Rattle.go_syntax.specs.declared.keyword.Keyword.TheVariants as word
use Rattle.go_syntax.specs.declared.operator.Operator.TheVariants as o
use Rattle.go_grammar.specs.Classes.{name_of}
use Rattle.go_grammar.specs.Context.{MayFollow, NotArrow, wants_brace, wants_dot, type_wants_dot, is_literal_type}
use Rattle.go_grammar.specs.Grammar as g
use Rattle.go_grammar.specs.Grammar.{IsType, IsBegunType}
use Rattle.go_grammar.specs.Frames as f
use Rattle.go_grammar.specs.Frames.{Ctx, inside, TypeFrame, Frame, OfExpr, OfType, OfSig, OfField, Done, Stack, AnExpr, ASig}
use Rattle.go_grammar.specs.Nodes.{is_op, is_word, is_name_token, place_of_expr, name_in}
use Rattle.go_grammar.specs.ExprSteps.{type_row, type_meets, type_sig_meets}
use Rattle.go_grammar.proofs.TokenLemmas.{no_op, word_of, name_is}
use Rattle.go_grammar.proofs.Wanted.{NoArrow, AllowsFirst, Want, Is, to_expr, TakesBegun, to_type, to_begun}
use Rattle.go_grammar.proofs.HeldExprs as h
use Rattle.go_grammar.proofs.HeldExprs.{HoldsType, waits_type}
use Rattle.go_grammar.proofs.Stands.{Good, good, over, stuck, open_one, open_new, within_new, good_at, good_if, good_op, room}
use Rattle.go_grammar.proofs.BeginSound.{type_opens, expr_opens}

not_arrow : (ts : List Token) → AllowsFirst NoArrow ts → NotArrow ts
not_arrow [] a = absurd a
not_arrow (u ∷ us) a = no_op a

pub begun_is : {w : Want} (u : Token) {x : Token} {us : List Token} {e : t.Expr} → TakesBegun w x → IsBegunType (x ∷ us) e → place_of_expr e ≡ x.place → MayFollow e u → wants_brace e ≡ is_literal_type e → name_in e ≡ None → (type_wants_dot e && is_op o.Dot u) ≡ false → (wants_dot e && is_op o.Dot u) ≡ false → Is u w (AnExpr e) (x ∷ us)
begun_is u (to_type a) d p m b n wt wd = (g.begun_type d, a, m, wt)
begun_is u (to_begun a) d p m b n wt wd = (d, a, p, m, b, n, wd)

pub type_row_good : {x : TypeFrame} {ts : List Token} {w : Want} (u : Token) (s : Stack) → HoldsType x ts w → Good u w ts s (type_row u x s)
type_row_good u s (h.a_type {c}) = good (type_opens u c s tt)
type_row_good u s (h.type_name {u = v} n a) = good_op o.Dot (λ q. good (open_one (OfType (f.TypeDot (t.NameExpr v.place v.text))) (h.type_dot n a q))) (λ q. over (g.type_name (g.plain_name n), a, refl, q))
type_row_good u s (h.type_dot {u = v} n a d) = good_if (is_name_token u.kind) (λ q. good (open_one (Done (AnExpr (t.SelectExpr v.place (t.NameExpr v.place v.text) (name_of u)))) (record { is = λ x. (g.type_name (g.package_name n d (name_is q)), a, refl, refl) }))) (λ q. stuck)
type_row_good u s (h.type_bracket {c} {w} {u = v} b k) =
    good_op o.RightBracket (λ q. good (open_new (OfType (f.SliceOf v.place)) (OfType (f.AType (inside c))) (h.slice_of b q k) h.a_type)) (λ n.
    good_op o.Ellipsis (λ q. good (open_one (OfType (f.Dots c v.place)) (h.dots b q k))) (λ n.
    good (within_new (OfType (f.Len c v.place)) (h.len b k) (expr_opens u (inside c) (OfType (f.Len c v.place) ∷ s) to_expr tt))))
type_row_good u s (h.dots {c} {u = v} b d k) = good_op o.RightBracket (λ q. good (open_new (OfType (f.ArrayOf v.place None)) (OfType (f.AType (inside c))) (h.counted_array_of b d q k) h.a_type)) (λ n. stuck)
type_row_good u s (h.map_open {c} {u = v} m k) = good_op o.LeftBracket (λ q. good (room c (open_new (OfType (f.Key c v.place)) (OfType (f.AType (inside c))) (h.key m q k) h.a_type))) (λ n. stuck)
type_row_good u s (h.chan_open {c} {u = v} m k) =
    good_op o.Arrow (λ q. good (open_new (OfType (f.SendOf v.place)) (OfType (f.AType c)) (h.send_of m q k) h.a_type)) (λ n.
    good (within_new (OfType (f.BothOf v.place)) (h.both_of m k) (type_opens u c (OfType (f.BothOf v.place) ∷ s) n)))
type_row_good u s (h.arrow {c} {u = v} p a) = good_if (is_word word.Chan u) (λ q. good (room c (open_new (OfType (f.ReceiveOf v.place)) (OfType (f.AType (inside c))) (h.receive_of p (word_of q) a) h.a_type))) (λ n. stuck)
type_row_good u s (h.struct_open {c} {u = v} m k) = good_op o.LeftBrace (λ q. good (room c (open_one (OfField (f.InStruct (record { ctx = inside c; place = v.place; fields = [] }))) (h.in_struct (h.struct_held m q k (record { held = λ us r d. d })))))) (λ n. stuck)
type_row_good u s (h.interface_open {c} {u = v} m k) = good_op o.LeftBrace (λ q. good (room c (open_one (OfField (f.InInterface (record { ctx = inside c; place = v.place; members = [] }))) (h.in_interface (h.interface_held m q k (record { held = λ us r d. d })))))) (λ n. stuck)
type_row_good u s _ = stuck

pub type_meets_good : {x : TypeFrame} {ts : List Token} {w : Want} (vs : List Token) (u : Token) (e : t.Expr) (s : Stack) → HoldsType x ts w → Is u (waits_type x) (AnExpr e) vs → Good u w (ts ++ vs) s (type_meets u x e s)
type_meets_good vs u e s (h.type_parens {u = v} p a) i = good_op o.RightParen (λ q. good (open_one (Done (AnExpr (t.ParenExpr v.place e))) (record { is = λ x. (g.type_parens p (i.0) q, a, refl, refl) }))) (λ n. stuck)
type_meets_good vs u e s (h.star p a) i = over (g.pointer_type p (i.0), a, i.2, i.3)
type_meets_good vs u e s (h.len {c} {u = v} b k) i = good_op o.RightBracket (λ q. good (open_new (OfType (f.ArrayOf v.place (Some e))) (OfType (f.AType (inside c))) (h.array_of b (i.0) q k) h.a_type)) (λ n. stuck)
type_meets_good vs u e s (h.slice_of b c k) i = over (begun_is u k (g.slice_type b c (i.0)) refl (i.2) refl refl (i.3) (i.3))
type_meets_good vs u e s (h.array_of {ts} {u = v} {v = x} b d c k) i = good_at (append_assoc (v ∷ ts) (x ∷ []) vs) (over (begun_is u k (g.array_type b d c (i.0)) refl (i.2) refl refl (i.3) (i.3)))
type_meets_good vs u e s (h.counted_array_of b d c k) i = over (begun_is u k (g.counted_array_type b d c (i.0)) refl (i.2) refl refl (i.3) (i.3))
type_meets_good vs u e s (h.key {c} {u = v} m b k) i = good_op o.RightBracket (λ q. good (open_new (OfType (f.MapOf v.place e)) (OfType (f.AType (inside c))) (h.map_of m b (i.0) q k) h.a_type)) (λ n. stuck)
type_meets_good vs u e s (h.map_of {ts} {u = v} {v = y} {x} m b d c k) i = good_at (append_assoc (v ∷ y ∷ ts) (x ∷ []) vs) (over (begun_is u k (g.map_type m b d c (i.0)) refl (i.2) refl refl (i.3) (i.3)))
type_meets_good vs u e s (h.both_of m k) i = over (begun_is u k (g.chan_type m (not_arrow vs (i.1)) (i.0)) refl (i.2) refl refl (i.3) (i.3))
type_meets_good vs u e s (h.send_of m b k) i = over (begun_is u k (g.send_type m b (i.0)) refl (i.2) refl refl (i.3) (i.3))
type_meets_good vs u e s (h.receive_of p m a) i = over (g.receive_type p m (i.0), a, i.2, i.3)
type_meets_good vs u e s _ i = stuck

pub type_sig_good : {x : TypeFrame} {ts : List Token} {w : Want} (vs : List Token) (u : Token) (sig : t.Sig) (s : Stack) → HoldsType x ts w → Is u (waits_type x) (ASig sig) vs → Good u w (ts ++ vs) s (type_sig_meets x sig s)
type_sig_good vs u sig s (h.func_of p a) i = over (g.function_type p (i.0), a, i.1, i.2)
type_sig_good vs u sig s _ i = stuck
