-- Each step of a frame of a signature keeps the invariant.
use Rattle.std.proofs.Common.{◌≡◌, ◌||◌, Bool, true, false, List, [], ◌∷◌, ◌++◌, Option, Some, None, refl, ap, sym, ◌∙◌, subst, append_assoc, append-nil}
use Rattle.gj_base.specs.declared.place.Place.{Place}
use Rattle.go_syntax.specs.Tree as t
use Rattle.go_syntax.specs.Token.{Token}
use Rattle.go_syntax.specs.View.{joined}
use Rattle.go_syntax.specs.declared.operator.Operator.TheVariants as o
use Rattle.go_syntax.specs.declared.tree.Name.{Name}
use Rattle.go_grammar.specs.Classes.{IsOp, name_of, place_of, begins_type}
use Rattle.go_grammar.specs.Grammar as g
use Rattle.go_grammar.specs.Grammar.{IsType, IsParam, AreParams, AreParamsInside, StartsNoList}
use Rattle.go_grammar.specs.Frames as f
use Rattle.go_grammar.specs.Frames.{Ctx, inside, SigFrame, Frame, OfType, OfSig, OfFile, Done, Stack, AnExpr, ASig, Role, Params}
use Rattle.go_grammar.specs.Nodes.{is_op, is_name_token}
use Rattle.go_grammar.specs.ExprSteps.{open_params, close_params, end_param, sig_row, sig_meets}
use Rattle.go_grammar.proofs.TokenLemmas.{no_op, name_is}
use Rattle.go_grammar.proofs.Wanted.{NoParen, FirstAt, AllowsFirst, Want, Is}
use Rattle.go_grammar.proofs.HeldExprs as h
use Rattle.go_grammar.proofs.HeldExprs.{HoldsSig, waits_sig, ParamsHeld, RoleHeld, ParamsOpen}
use Rattle.go_grammar.proofs.HeldStmts as hs
use Rattle.go_grammar.proofs.Stands.{Opens, o_stuck, Good, good, over, stuck, open_one, open_at, open_two, open_new, within_new, good_at, good_if, good_op, open_op, room}
use Rattle.go_grammar.proofs.BeginSound.{type_opens}

-- a part put at the end
pub joined_more : {A : Type 0} (xs : List (A → A)) (x : A → A) (r : A) → joined (xs ++ x ∷ []) r ≡ joined xs (x r)
joined_more [] x r = refl
joined_more (y ∷ ys) x r = ap y (joined_more ys x r)

pub first_at : (p : Place) (ts : List Token) → AllowsFirst (FirstAt p) ts → place_of ts ≡ p
first_at p [] a = absurd a
first_at p (u ∷ us) a = a

no_list : (ts : List Token) → AllowsFirst NoParen ts → StartsNoList ts
no_list [] a = absurd a
no_list (u ∷ us) a = g.starts_no_list (no_op a)

-- the `(` of a list
pub params_opens : {x : Role} {w : Want} {ts : List Token} (u : Token) (c : Ctx) (s : Stack) → RoleHeld x ts w → Opens u w ts s (open_params u c x s)
params_opens {x} u c s k =
    open_op o.LeftParen (λ q. room c (open_one (OfSig (f.InParams (record { ctx = c; place = u.place; items = []; role = x }))) (h.in_params (h.params_open k q (record { held = λ us r d. d }))))) (λ n. o_stuck)

-- the list's parameters, the last one without its comma
params_done : {ts us : List Token} {xs : Params} {x : Option Name} {variadic : Bool} {e : t.Expr} (at : Place) → ParamsHeld ts xs → IsParam us x variadic e → place_of us ≡ at → AreParamsInside (ts ++ us) (joined (xs ++ (λ rest. t.MoreParams at x variadic e rest) ∷ []) t.NoParams)
params_done {ts} {us} {xs} {x} {variadic} {e} at k d p =
    subst (λ z. AreParamsInside (ts ++ us) z) (ap (λ q. joined xs (t.MoreParams q x variadic e t.NoParams)) p ∙ sym (joined_more xs (λ rest. t.MoreParams at x variadic e rest) t.NoParams))
    (k.held us (t.MoreParams (place_of us) x variadic e t.NoParams) (g.last_param d))

params_more : {ts us : List Token} {xs : Params} {x : Option Name} {variadic : Bool} {e : t.Expr} {u : Token} (at : Place) → ParamsHeld ts xs → IsParam us x variadic e → place_of us ≡ at → IsOp o.Comma u → ParamsHeld ((ts ++ us) ++ u ∷ []) (xs ++ (λ rest. t.MoreParams at x variadic e rest) ∷ [])
params_more {ts} {us} {xs} {x} {variadic} {e} {u} at k d p q = record {
  held = λ vs r i.
      subst (λ z. AreParamsInside z (joined (xs ++ (λ rest. t.MoreParams at x variadic e rest) ∷ []) r)) (sym (append_assoc ts us (u ∷ vs)) ∙ sym (append_assoc (ts ++ us) (u ∷ []) vs))
      (subst (λ z. AreParamsInside (ts ++ (us ++ u ∷ vs)) z) (ap (λ q. joined xs (t.MoreParams q x variadic e r)) p ∙ sym (joined_more xs (λ rest. t.MoreParams at x variadic e rest) r))
      (k.held (us ++ u ∷ vs) (t.MoreParams (place_of us) x variadic e r) (g.more_params d q i)));
}

-- the `)` of a list
close_good : {x : Role} {w : Want} {ss ts : List Token} {v : Token} (xs : Params) (u : Token) (c : Ctx) (s : Stack) → RoleHeld x ss w → IsOp o.LeftParen v → AreParamsInside ts (joined xs t.NoParams) → IsOp o.RightParen u → Good u w (ss ++ v ∷ ts) s (close_params (record { ctx = c; place = v.place; items = xs; role = x }) x s)
close_good {v = v} xs u c s h.params_role p d q = good (open_one (OfSig (f.AfterParams c v.place xs)) (h.after_params (g.params_in_parens p d q)))
close_good {ss = ss} {ts} {v} xs u c s (h.results_role {at} {xs = ys} k) p d q =
    good (open_at (Done (ASig (t.SigOf at (joined ys t.NoParams) (t.ManyResults v.place (joined xs t.NoParams))))) (append_assoc ss (v ∷ ts) (u ∷ [])) (record { is = λ x. (g.with_results k (g.params_in_parens p d q), refl, refl) }))
close_good {v = v} xs u c s (h.receiver_role {u = y} k) p d q =
    good (open_one (OfFile (f.FuncName y.place v.place xs)) (hs.func_name k (g.params_in_parens p d q)))

-- the end of a parameter
param_good : {x : f.ParamsPart} {w : Want} {ts us : List Token} {y : Option Name} {variadic : Bool} {e : t.Expr} (u : Token) (at : Place) (s : Stack) → ParamsOpen x ts w → IsParam us y variadic e → place_of us ≡ at → Good u w (ts ++ us) s (end_param u x at y variadic e s)
param_good {us} {y} {variadic} {e} u at s (h.params_open {c} {x} {xs} {ss} {ts} {u = v} k p d) i q =
    let more : t.Params → t.Params = λ rest. t.MoreParams at y variadic e rest in
    good_at (append_assoc ss (v ∷ ts) us)
    (good_op o.Comma
    (λ z. good (open_at (OfSig (f.InParams (record { ctx = c; place = v.place; items = xs ++ more ∷ []; role = x }))) (append_assoc ss (v ∷ (ts ++ us)) (u ∷ [])) (h.in_params (h.params_open k p (params_more at d i q z)))))
    (λ n. good_op o.RightParen (λ z. close_good (xs ++ more ∷ []) u c s k p (params_done at d i q) z) (λ n. stuck)))

-- `)` right after `(` or a comma
close_empty : {x : f.ParamsPart} {w : Want} {ts : List Token} (u : Token) (s : Stack) → ParamsOpen x ts w → IsOp o.RightParen u → Good u w ts s (close_params x x.role s)
close_empty u s (h.params_open {c} {xs} {ts} k p d) q = close_good xs u c s k p (subst (λ z. AreParamsInside z (joined xs t.NoParams)) (append-nil ts) (d.held [] t.NoParams g.no_params)) q

pub sig_row_good : {x : SigFrame} {ts : List Token} {w : Want} (u : Token) (s : Stack) → HoldsSig x ts w → Good u w ts s (sig_row u x s)
sig_row_good u s (h.sig_open {c}) = good (params_opens u c s h.params_role)
sig_row_good u s (h.in_params {x} {w} {ts} k) =
    good_op o.RightParen (λ q. close_empty u s k q) (λ n.
    good_if (is_name_token u.kind) (λ q. good (open_one (OfSig (f.ParamName x (name_of u))) (h.param_name k (name_is q)))) (λ n.
    good_op o.Ellipsis (λ q. good (open_new (OfSig (f.Param x u.place None true)) (OfType (f.AType (inside x.ctx))) (h.variadic_param k q) h.a_type)) (λ n.
    good (within_new (OfSig (f.Param x u.place None false)) (h.plain_param k) (type_opens u (inside x.ctx) (OfSig (f.Param x u.place None false) ∷ s) refl)))))
sig_row_good u s (h.param_name {x} {w} {ts} {u = v} k n) =
    good_if (is_op o.Comma u || is_op o.RightParen u) (λ q. param_good u v.place s k (g.param_type g.without_op (g.type_name (g.plain_name n))) refl) (λ m.
    good_op o.Dot (λ q. good (open_two (OfSig (f.Param x v.place None false)) (OfType (f.TypeDot (t.NameExpr v.place v.text))) ts (v ∷ u ∷ []) (append_assoc ts (v ∷ []) (u ∷ [])) (h.plain_param k) (h.type_dot n refl q))) (λ m.
    good_op o.Ellipsis (λ q. good (open_two (OfSig (f.Param x v.place (Some (name_of v)) true)) (OfType (f.AType (inside x.ctx))) (ts ++ v ∷ u ∷ []) [] (append_assoc ts (v ∷ []) (u ∷ []) ∙ sym (append-nil (ts ++ v ∷ u ∷ []))) (h.named_variadic_param k n q) h.a_type)) (λ m.
    good (within_new (OfSig (f.Param x v.place (Some (name_of v)) false)) (h.named_param k n) (type_opens u (inside x.ctx) (OfSig (f.Param x v.place (Some (name_of v)) false) ∷ s) tt)))))
sig_row_good u s (h.after_params {c} {at} {xs} k) =
    good_op o.LeftParen (λ q. good (params_opens u c s (h.results_role k))) (λ n.
    good_if (begins_type u.kind) (λ q. good (within_new (OfSig (f.Result at xs)) (h.result k) (type_opens u (inside c) (OfSig (f.Result at xs) ∷ s) n))) (λ q. over (g.without_results k, q, refl)))
sig_row_good u s _ = stuck

pub sig_meets_good : {x : SigFrame} {ts : List Token} {w : Want} (vs : List Token) (u : Token) (e : t.Expr) (s : Stack) → HoldsSig x ts w → Is u (waits_sig x) (AnExpr e) vs → Good u w (ts ++ vs) s (sig_meets u x e s)
sig_meets_good vs u e s (h.plain_param {at} k) i = param_good u at s k (g.param_type g.without_op (i.0)) (first_at at vs (i.1))
sig_meets_good vs u e s (h.variadic_param {ts} {u = v} k q) i = good_at (append_assoc ts (v ∷ []) vs) (param_good u v.place s k (g.param_type (g.with_op q) (i.0)) refl)
sig_meets_good vs u e s (h.named_param {ts} {u = v} k n) i = good_at (append_assoc ts (v ∷ []) vs) (param_good u v.place s k (g.named_param n g.without_op (i.0)) refl)
sig_meets_good vs u e s (h.named_variadic_param {ts} {u = v} {v = y} k n q) i = good_at (append_assoc ts (v ∷ y ∷ []) vs) (param_good u v.place s k (g.named_param n (g.with_op q) (i.0)) refl)
sig_meets_good vs u e s (h.result k) i = over (g.with_result k (no_list vs (i.1)) (i.0), i.2, i.3)
sig_meets_good vs u e s _ i = stuck
