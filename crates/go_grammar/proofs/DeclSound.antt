-- Each step of a frame of a declaration keeps the invariant.
use Rattle.std.proofs.Common.{◌≡◌, Bool, true, false, List, [], ◌∷◌, ◌++◌, refl, ap, sym, ◌∙◌, subst, append_assoc, append-nil, if◌then◌else◌}
use Rattle.go_syntax.specs.Tree as t
use Rattle.go_syntax.specs.Token.{Token}
use Rattle.go_syntax.specs.View.{joined, exprs_of}
use Rattle.go_syntax.specs.declared.operator.Operator.TheVariants as o
use Rattle.go_syntax.specs.declared.tree.Name.{Name}
use Rattle.go_grammar.specs.Classes.{IsOp, IsSemicolon, name_of, begins_type}
use Rattle.go_grammar.specs.Grammar as g
use Rattle.go_grammar.specs.Grammar.{AreNames, IsType, AreExprs, IsDecl, IsConst, IsVar, IsTypeSpec, AreConsts, AreVars, AreTypeSpecs}
use Rattle.go_grammar.specs.Files as gf
use Rattle.go_grammar.specs.Frames as f
use Rattle.go_grammar.specs.Frames.{Ctx, new_ctx, DeclFrame, ValuesPart, TypesPart, Frame, OfType, OfDecl, Done, Stack, Flow, AnExpr, ADecl}
use Rattle.go_grammar.specs.Nodes.{is_name_token, is_semicolon, place_of_decl}
use Rattle.go_grammar.specs.StmtSteps.{value_decl, end_value, type_decl, end_type, first_value, first_type, decl_row, decl_meets_expr}
use Rattle.go_grammar.proofs.TokenLemmas.{name_is, semicolon_is}
use Rattle.go_grammar.proofs.Wanted.{Starts, Want, Is, to_expr, TakesDecl, to_decl, to_top}
use Rattle.go_grammar.proofs.HeldExprs as he
use Rattle.go_grammar.proofs.HeldStmts as h
use Rattle.go_grammar.proofs.HeldStmts.{HoldsDecl, waits_decl, ValueWord, AreValues, ValuesHeld, ValuesOpen, TypesHeld, TypesOpen, PerhapsType}
use Rattle.go_grammar.proofs.Stands.{DoneIs, Opens, o_stuck, Good, good, over, stuck, open_one, open_at, open_two, open_operand, within_new, good_at, good_if, good_op, open_if}
use Rattle.go_grammar.proofs.BeginSound.{type_opens}
use Rattle.go_grammar.proofs.SigSound.{joined_more}
use Rattle.go_grammar.proofs.PartSound.{exprs_done, exprs_more, no_exprs}
use Rattle.go_grammar.proofs.FieldSound.{names_more}

-- a declaration is one of its class
decl_is : {w : Want} {ts : List Token} {d : t.Decl} (u : Token) → TakesDecl w → IsDecl ts d → Starts ts (place_of_decl d) → Is u w (ADecl d) ts
decl_is u to_decl d p = (d, p)
decl_is u to_top d p = gf.top_decl d

-- one spec
data IsOne : Bool → List Token → t.ValueSpecs → Type 0 where
  one_const : {ts : List Token} {xs : t.ValueSpecs} → IsConst ts xs → IsOne true ts xs
  one_var : {ts : List Token} {xs : t.ValueSpecs} → IsVar ts xs → IsOne false ts xs

last_value : {c : Bool} {ts : List Token} {xs : t.ValueSpecs} → IsOne c ts xs → AreValues c ts xs
last_value (one_const d) = h.are_consts (g.last_const d)
last_value (one_var d) = h.are_vars (g.last_var d)

more_values : {c : Bool} {ts us : List Token} {ys : List Name} {ty : t.MaybeExpr} {es : t.Exprs} {r : t.ValueSpecs} {u : Token} → IsOne c ts (t.MoreValues ys ty es t.NoValues) → IsSemicolon u → AreValues c us r → AreValues c (ts ++ u ∷ us) (t.MoreValues ys ty es r)
more_values (one_const d) q (h.are_consts i) = h.are_consts (g.more_consts d q i)
more_values (one_var d) q (h.are_vars i) = h.are_vars (g.more_vars d q i)

no_value : (c : Bool) → AreValues c [] t.NoValues
no_value true = h.are_consts g.no_consts
no_value false = h.are_vars g.no_vars

one_done : {w : Want} {us : List Token} {xs : t.ValueSpecs} {v : Token} {c : Bool} (u : Token) → TakesDecl w → ValueWord c v → IsOne c us xs → Is u w (ADecl (if c then t.ConstDecl v.place xs else t.VarDecl v.place xs)) (v ∷ us)
one_done u k (h.const_word m) (one_const d) = decl_is u k (g.const_decl m d) refl
one_done u k (h.var_word m) (one_var d) = decl_is u k (g.var_decl m d) refl

group_done : {w : Want} {us : List Token} {xs : t.ValueSpecs} {v y : Token} {c : Bool} (u : Token) → TakesDecl w → ValueWord c v → IsOp o.LeftParen y → AreValues c us xs → IsOp o.RightParen u → DoneIs (ADecl (if c then t.ConstDecl v.place xs else t.VarDecl v.place xs)) (v ∷ y ∷ us ++ u ∷ []) w
group_done u k (h.const_word m) p (h.are_consts d) q = record { is = λ x. decl_is x k (g.const_group m p d q) refl }
group_done u k (h.var_word m) p (h.are_vars d) q = record { is = λ x. decl_is x k (g.var_group m p d q) refl }

values_done : {c : Bool} {ts us : List Token} {xs : List (t.ValueSpecs → t.ValueSpecs)} {ys : List Name} {ty : t.MaybeExpr} {es : t.Exprs} → ValuesHeld c ts xs → IsOne c us (t.MoreValues ys ty es t.NoValues) → AreValues c (ts ++ us) (joined (xs ++ (λ rest. t.MoreValues ys ty es rest) ∷ []) t.NoValues)
values_done {c} {ts} {us} {xs} {ys} {ty} {es} k d = subst (λ z. AreValues c (ts ++ us) z) (sym (joined_more xs (λ rest. t.MoreValues ys ty es rest) t.NoValues)) (k.held us (t.MoreValues ys ty es t.NoValues) (last_value d))

values_more : {c : Bool} {ts us : List Token} {xs : List (t.ValueSpecs → t.ValueSpecs)} {ys : List Name} {ty : t.MaybeExpr} {es : t.Exprs} {u : Token} → ValuesHeld c ts xs → IsOne c us (t.MoreValues ys ty es t.NoValues) → IsSemicolon u → ValuesHeld c (ts ++ us ++ u ∷ []) (xs ++ (λ rest. t.MoreValues ys ty es rest) ∷ [])
values_more {c} {ts} {us} {xs} {ys} {ty} {es} {u} k d q = record {
  held = λ vs r i.
      subst (λ z. AreValues c (ts ++ us ++ u ∷ [] ++ vs) z) (sym (joined_more xs (λ rest. t.MoreValues ys ty es rest) r)) (subst (λ z. AreValues c z (joined xs (t.MoreValues ys ty es r))) (sym (append_assoc ts us (u ∷ vs)) ∙ sym (append_assoc (ts ++ us) (u ∷ []) vs)) (k.held (us ++ u ∷ vs) (t.MoreValues ys ty es r) (more_values d q i)));
}

-- the end of a spec
value_good : {w : Want} {ts us : List Token} (x : ValuesPart) (ys : List Name) (ty : t.MaybeExpr) (es : List t.Expr) (u : Token) (s : Stack) → TakesDecl w → ValuesOpen x ts → IsOne x.constant us (t.MoreValues ys ty (exprs_of es) t.NoValues) → Good u w (ts ++ us) s (end_value u x ys ty es s)
value_good _ ys ty es u s k (h.one_value {b} {constant} m) d = over (one_done u k m d)
value_good _ ys ty es u s k (h.values_group {b} {constant} {xs} {ts} {u = v} m p l) d =
    let x : ValuesPart = record { blocks = b; place = v.place; constant = constant; group = true; specs = xs ++ (λ rest. t.MoreValues ys ty (exprs_of es) rest) ∷ [] } in
    good_if (is_semicolon u.kind) (λ q. good (open_one (OfDecl (f.ValueGroup x)) (h.value_group k m p (values_more l d (semicolon_is q))))) (λ n.
    good_op o.RightParen (λ q. good (open_one (Done (ADecl (value_decl x))) (group_done u k m p (values_done l d) q))) (λ n. stuck))

types_done : {ts us : List Token} {xs : List (t.TypeSpecs → t.TypeSpecs)} {y : Name} {alias : Bool} {e : t.Expr} → TypesHeld ts xs → IsTypeSpec us (t.MoreTypes y alias e t.NoTypes) → AreTypeSpecs (ts ++ us) (joined (xs ++ (λ rest. t.MoreTypes y alias e rest) ∷ []) t.NoTypes)
types_done {ts} {us} {xs} {y} {alias} {e} k d = subst (λ z. AreTypeSpecs (ts ++ us) z) (sym (joined_more xs (λ rest. t.MoreTypes y alias e rest) t.NoTypes)) (k.held us (t.MoreTypes y alias e t.NoTypes) (g.last_type_spec d))

types_more : {ts us : List Token} {xs : List (t.TypeSpecs → t.TypeSpecs)} {y : Name} {alias : Bool} {e : t.Expr} {u : Token} → TypesHeld ts xs → IsTypeSpec us (t.MoreTypes y alias e t.NoTypes) → IsSemicolon u → TypesHeld (ts ++ us ++ u ∷ []) (xs ++ (λ rest. t.MoreTypes y alias e rest) ∷ [])
types_more {ts} {us} {xs} {y} {alias} {e} {u} k d q = record {
  held = λ vs r i.
      subst (λ z. AreTypeSpecs (ts ++ us ++ u ∷ [] ++ vs) z) (sym (joined_more xs (λ rest. t.MoreTypes y alias e rest) r)) (subst (λ z. AreTypeSpecs z (joined xs (t.MoreTypes y alias e r))) (sym (append_assoc ts us (u ∷ vs)) ∙ sym (append_assoc (ts ++ us) (u ∷ []) vs)) (k.held (us ++ u ∷ vs) (t.MoreTypes y alias e r) (g.more_type_specs d q i)));
}

type_good : {w : Want} {ts us : List Token} (x : TypesPart) (y : Name) (alias : Bool) (e : t.Expr) (u : Token) (s : Stack) → TakesDecl w → TypesOpen x ts → IsTypeSpec us (t.MoreTypes y alias e t.NoTypes) → Good u w (ts ++ us) s (end_type u x y alias e s)
type_good _ y alias e u s k (h.one_type {b} m) d = over (decl_is u k (g.type_decl m d) refl)
type_good _ y alias e u s k (h.types_group {b} {xs} {ts} {u = v} m p l) d =
    let x : TypesPart = record { blocks = b; place = v.place; group = true; specs = xs ++ (λ rest. t.MoreTypes y alias e rest) ∷ [] } in
    good_if (is_semicolon u.kind) (λ q. good (open_one (OfDecl (f.TypeGroup x)) (h.type_group k m p (types_more l d (semicolon_is q))))) (λ n.
    good_op o.RightParen (λ q. good (open_one (Done (ADecl (type_decl x))) (record { is = λ z. decl_is z k (g.type_group m p (types_done l d) q) refl }))) (λ n. stuck))

first_value_opens : {w : Want} {ts : List Token} (x : ValuesPart) (u : Token) (s : Stack) → TakesDecl w → ValuesOpen x ts → Opens u w ts s (first_value u x s)
first_value_opens x u s k l = open_if (is_name_token u.kind) (λ q. open_one (OfDecl (f.ValueNames x (name_of u ∷ []))) (h.value_names k l (g.one_name (name_is q)))) (λ n. o_stuck)

first_type_opens : {w : Want} {ts : List Token} (x : TypesPart) (u : Token) (s : Stack) → TakesDecl w → TypesOpen x ts → Opens u w ts s (first_type u x s)
first_type_opens x u s k l = open_if (is_name_token u.kind) (λ q. open_one (OfDecl (f.DeclaredName x (name_of u))) (h.declared_name k l (name_is q))) (λ n. o_stuck)

repeated : {ts : List Token} {ys : List Name} (c : Bool) → c ≡ true → AreNames ts ys → IsOne c ts (t.MoreValues ys t.NoExpr t.NoExprs t.NoValues)
repeated true q d = one_const (g.repeated_const d)
repeated false q d = absurd (cc)

unset : {ts us : List Token} {ys : List Name} {e : t.Expr} (c : Bool) → c ≡ false → AreNames ts ys → IsType us e → IsOne c (ts ++ us) (t.MoreValues ys (t.AnExpr e) t.NoExprs t.NoValues)
unset true q d i = absurd (cc)
unset false q d i = one_var (g.unset_var d i)

spec_is : {us vs ws : List Token} {ys : List Name} {ty : t.MaybeExpr} {es : t.Exprs} {v : Token} (c : Bool) → AreNames us ys → PerhapsType vs ty → IsOp o.Assign v → AreExprs false ws es → IsOne c (us ++ vs ++ v ∷ ws) (t.MoreValues ys ty es t.NoValues)
spec_is {us} {ws = ws} {ys} {es = es} {v} true n h.no_type q d = one_const (subst (λ z. IsConst (z ++ v ∷ ws) (t.MoreValues ys t.NoExpr es t.NoValues)) (sym (append-nil us)) (g.untyped_const n q d))
spec_is {us} {ws = ws} {ys} {es = es} {v} false n h.no_type q d = one_var (subst (λ z. IsVar (z ++ v ∷ ws) (t.MoreValues ys t.NoExpr es t.NoValues)) (sym (append-nil us)) (g.untyped_var n q d))
spec_is true n (h.some_type i) q d = one_const (g.typed_const n i q d)
spec_is false n (h.some_type i) q d = one_var (g.typed_var n i q d)

pub decl_row_good : {x : DeclFrame} {ts : List Token} {w : Want} (u : Token) (s : Stack) → HoldsDecl x ts w → Good u w ts s (decl_row u x s)
decl_row_good u s (h.at_values {b = b} {constant} {u = v} k m) =
    good_op o.LeftParen (λ q. good (open_one (OfDecl (f.ValueGroup (record { blocks = b; place = v.place; constant = constant; group = true; specs = [] }))) (h.value_group k m q (record { held = λ us r d. d }))))
    (λ n. good (first_value_opens (record { blocks = b; place = v.place; constant = constant; group = false; specs = [] }) u s k (h.one_value m)))
decl_row_good u s (h.value_group {b = b} {constant} {xs} {ts} {u = v} k m p l) =
    let x : ValuesPart = record { blocks = b; place = v.place; constant = constant; group = true; specs = xs } in
    good_op o.RightParen (λ q. good (open_one (Done (ADecl (value_decl x))) (group_done u k m p (subst (λ z. AreValues constant z (joined xs t.NoValues)) (append-nil ts) (l.held [] t.NoValues (no_value constant))) q)))
    (λ n. good (first_value_opens x u s k (h.values_group m p l)))
decl_row_good u s (h.next_value {x = x} {ys} {ts} {us} {v} k l d q) =
    good_if (is_name_token u.kind) (λ p. good (open_at (OfDecl (f.ValueNames x (ys ++ name_of u ∷ []))) (append_assoc (ts ++ us) (v ∷ []) (u ∷ []) ∙ append_assoc ts us (v ∷ u ∷ [])) (h.value_names k l (names_more d q (g.one_name (name_is p)))))) (λ n. stuck)
decl_row_good u s (h.value_names {x = x} {ys} {ts} {us} k l d) =
    good_op o.Comma (λ q. good (open_one (OfDecl (f.NextValue x ys)) (h.next_value k l d q))) (λ n.
    good_op o.Assign (λ q. good (open_operand (OfDecl (f.ValueExprs x ys t.NoExpr [])) (new_ctx x.blocks) (ts ++ us ++ [] ++ u ∷ []) (ap (λ z. z ++ u ∷ []) (sym (append-nil (ts ++ us)))) (h.value_exprs k l d h.no_type q no_exprs) to_expr)) (λ n.
    good_if (begins_type u.kind) (λ q. good (within_new (OfDecl (f.ValueType x ys)) (h.value_type k l d) (type_opens u (new_ctx x.blocks) (OfDecl (f.ValueType x ys) ∷ s) tt))) (λ n.
    good_if x.constant (λ q. value_good x ys t.NoExpr [] u s k l (repeated x.constant q d)) (λ n. stuck))))
decl_row_good u s (h.at_types {b = b} {u = v} k m) =
    good_op o.LeftParen (λ q. good (open_one (OfDecl (f.TypeGroup (record { blocks = b; place = v.place; group = true; specs = [] }))) (h.type_group k m q (record { held = λ us r d. d }))))
    (λ n. good (first_type_opens (record { blocks = b; place = v.place; group = false; specs = [] }) u s k (h.one_type m)))
decl_row_good u s (h.type_group {b = b} {xs} {ts} {u = v} k m p l) =
    let x : TypesPart = record { blocks = b; place = v.place; group = true; specs = xs } in
    good_op o.RightParen (λ q. good (open_one (Done (ADecl (type_decl x))) (record { is = λ z. decl_is z k (g.type_group m p (subst (λ z. AreTypeSpecs z (joined xs t.NoTypes)) (append-nil ts) (l.held [] t.NoTypes g.no_type_specs)) q) refl })))
    (λ n. good (first_type_opens x u s k (h.types_group m p l)))
decl_row_good u s (h.declared_name {x = x} {ts} {u = v} k l n) =
    good_op o.Assign (λ q. good (open_two (OfDecl (f.DeclaredType x (name_of v) true)) (OfType (f.AType (new_ctx x.blocks))) (ts ++ v ∷ u ∷ []) [] (append_assoc ts (v ∷ []) (u ∷ []) ∙ sym (append-nil (ts ++ v ∷ u ∷ []))) (h.declared_type k l n (g.with_op q)) he.a_type))
    (λ m. good (within_new (OfDecl (f.DeclaredType x (name_of v) false)) (h.declared_type k l n g.without_op) (type_opens u (new_ctx x.blocks) (OfDecl (f.DeclaredType x (name_of v) false) ∷ s) tt)))
decl_row_good u s _ = stuck

pub decl_expr_good : {x : DeclFrame} {ts : List Token} {w : Want} (vs : List Token) (u : Token) (e : t.Expr) (s : Stack) → HoldsDecl x ts w → Is u (waits_decl x) (AnExpr e) vs → Good u w (ts ++ vs) s (decl_meets_expr u x e s)
decl_expr_good vs u e s (h.value_type {x = x} {ys} {ts} {us} k l d) i =
    good_op o.Assign (λ q. good (open_operand (OfDecl (f.ValueExprs x ys (t.AnExpr e) [])) (new_ctx x.blocks) (ts ++ us ++ vs ++ u ∷ []) refl (h.value_exprs k l d (h.some_type (i.0)) q no_exprs) to_expr))
    (λ n. good_if x.constant (λ q. stuck) (λ q. good_at (append_assoc ts us vs) (value_good x ys (t.AnExpr e) [] u s k l (unset x.constant q d (i.0)))))
decl_expr_good vs u e s (h.value_exprs {x = x} {ys} {ty} {es} {ts} {us} {vs = rs} {ws} {v} k l d p q m) i =
    good_at (append_assoc (ts ++ us ++ rs) (v ∷ ws) vs)
    (good_op o.Comma (λ c. good (open_operand (OfDecl (f.ValueExprs x ys ty (es ++ e ∷ []))) (new_ctx x.blocks) (ts ++ us ++ rs ++ v ∷ (ws ++ vs ++ u ∷ [])) (append_assoc (ts ++ us ++ rs) (v ∷ (ws ++ vs)) (u ∷ [])) (h.value_exprs k l d p q (exprs_more m (i.0) c)) to_expr))
    (λ n. good_at (ap (λ z. z ++ v ∷ (ws ++ vs)) (append_assoc ts us rs) ∙ append_assoc ts (us ++ rs) (v ∷ (ws ++ vs))) (value_good x ys ty (es ++ e ∷ []) u s k l (spec_is x.constant d p q (exprs_done m (i.0))))))
decl_expr_good vs u e s (h.declared_type {x = x} {alias} {ts} {ss} {u = v} k l n p) i = good_at (append_assoc ts (v ∷ ss) vs) (type_good x (name_of v) alias e u s k l (g.type_spec n p (i.0)))
decl_expr_good vs u e s _ i = stuck
