-- Each rule on declarations.
use Rattle.std.proofs.Common.{◌≡◌, ℕ, Bool, true, false, if◌then◌else◌, ◌&&◌, List, [], ◌∷◌, ◌++◌, refl, sym, ◌∙◌, ap, subst, append_assoc}
use Rattle.gj_base.specs.declared.place.Place.{Place}
use Rattle.go_syntax.specs.Tree as t
use Rattle.go_syntax.specs.Token.{Token}
use Rattle.go_syntax.specs.View.{exprs_of, joined}
use Rattle.go_syntax.specs.declared.kind.TokenKind.{TokenKind}
use Rattle.go_syntax.specs.declared.kind.TokenKind.TheVariants as kind
use Rattle.go_syntax.specs.declared.operator.Operator.TheVariants as o
use Rattle.go_syntax.specs.declared.tree.Name.{Name}
use Rattle.go_grammar.specs.Classes.{IsOp, IsName, IsSemicolon, written, inserted, name_of, place_of, begins_type}
use Rattle.go_grammar.specs.Frames.{AnExpr, ADecl, OfExpr, OfType, OfDecl, Done, Stack, Operand, Chain, AType, ValuesPart, TypesPart, AtValues, ValueGroup, NextValue, ValueNames, ValueType, ValueExprs, AtTypes, TypeGroup, DeclaredName, DeclaredType}
use Rattle.go_grammar.specs.Limits.{expr_fits, exprs_fit, maybe_fits, values_fit, types_fit}
use Rattle.go_grammar.specs.Grammar.{AreNames, one_name, more_names, PerhapsOp, without_op, with_op, AreExprs, IsType, IsDecl, const_decl, const_group, type_decl, type_group, var_decl, var_group, IsConst, repeated_const, untyped_const, typed_const, IsVar, unset_var, untyped_var, typed_var, type_spec, AreConsts, no_consts, last_const, more_consts, AreVars, no_vars, last_var, more_vars, AreTypeSpecs, no_type_specs, last_type_spec, more_type_specs}
use Rattle.go_grammar.specs.Nodes.{is_op, place_of_decl}
use Rattle.go_grammar.specs.Parsed.{run}
use Rattle.go_grammar.proofs.Stepping.{ctx, of_kind, run_assoc, first_part, second_part, Halts, halts_op, halts_semicolon, halted_type}
use Rattle.go_grammar.proofs.Starting.{starts_type, from_first}
use Rattle.go_grammar.proofs.Begins.{type_begins}
use Rattle.go_grammar.proofs.Readings.{halted_expr, joined_and}
use Rattle.go_grammar.proofs.ListRules as list
use Rattle.go_grammar.proofs.ListRules.{front_of, last_of, GoesOn}
use Rattle.go_grammar.proofs.OperandRules.{Inside}
use Rattle.go_grammar.proofs.Exprs.{type_reads, exprs_read}
use Rattle.go_grammar.proofs.StmtReadings.{EndsList}
use Rattle.go_grammar.proofs.StmtRules.{DeclReads}

-- a token that ends a part of a declaration
record EndsSpec (u : Token) : Type 0 where
  pub halts : Halts u
  pub no_comma : is_op o.Comma u ≡ false
  pub no_assign : is_op o.Assign u ≡ false

list_halts : (u : Token) → EndsList u → Halts u
list_halts u h = record {
  no_type = h.ends.no_type;
  no_dot = h.ends.no_dot;
  no_bracket = h.ends.no_bracket;
  no_paren = h.ends.no_paren;
  no_brace = h.no_brace;
  no_binary = h.ends.no_binary;
}

spec_list : (u : Token) → EndsList u → EndsSpec u
spec_list u h = record { halts = list_halts u h; no_comma = h.ends.no_comma; no_assign = h.ends.no_assign }

spec_paren : (u : Token) → IsOp o.RightParen u → EndsSpec u
spec_paren u h = record { halts = halts_op h refl; no_comma = ap (λ k. is_op o.Comma (of_kind k)) h.op; no_assign = ap (λ k. is_op o.Assign (of_kind k)) h.op }

spec_semicolon : (u : Token) → IsSemicolon u → EndsSpec u
spec_semicolon u (written h) = record { halts = halts_semicolon (written h); no_comma = ap (λ k. is_op o.Comma (of_kind k)) h; no_assign = ap (λ k. is_op o.Assign (of_kind k)) h }
spec_semicolon u (inserted h) = record { halts = halts_semicolon (inserted h); no_comma = ap (λ k. is_op o.Comma (of_kind k)) h; no_assign = ap (λ k. is_op o.Assign (of_kind k)) h }

abbrev Values : Type 0
Values = List (t.ValueSpecs → t.ValueSpecs)

abbrev values_part : ℕ → Place → Bool → Bool → Values → ValuesPart
values_part b at constant group items = record { blocks = b; place = at; constant = constant; group = group; specs = items }

abbrev values_decl : Bool → Place → t.ValueSpecs → t.Decl
values_decl constant at xs = if constant then t.ConstDecl at xs else t.VarDecl at xs

names_after : (ts : List Token) (xs : List Name) → AreNames ts xs → (x : ValuesPart) (ys : List Name) (s : Stack) (rest : List Token) → run (ts ++ rest) (OfDecl (NextValue x ys) ∷ s) ≡ run rest (OfDecl (ValueNames x (ys ++ xs)) ∷ s)
names_after _ _ (one_name {u} n) x ys s rest = simp n.name
names_after _ _ (more_names {u} {v} {ts} {xs} n comma d) x ys s rest =
    let y : Name = record { place = u.place; text = u.text } in
    let head : run (u ∷ v ∷ ts ++ rest) (OfDecl (NextValue x ys) ∷ s) ≡ run (ts ++ rest) (OfDecl (NextValue x (ys ++ y ∷ [])) ∷ s) = simp (n.name, comma.op) in
    head ∙ (names_after ts xs d x (ys ++ y ∷ []) s rest
    ∙ ap (λ zs. run rest (OfDecl (ValueNames x zs) ∷ s)) (append_assoc ys (y ∷ []) xs))

names_read : (ts : List Token) (xs : List Name) → AreNames ts xs → (x : ValuesPart) (s s' : Stack) → ((u : Token) (us : List Token) → IsName u → run (u ∷ us) s ≡ run us (OfDecl (ValueNames x (name_of u ∷ [])) ∷ s')) → (rest : List Token) → run (ts ++ rest) s ≡ run rest (OfDecl (ValueNames x xs) ∷ s')
names_read _ _ (one_name {u} n) x s s' starts rest = starts u rest n
names_read _ _ (more_names {u} {v} {ts} {xs} n comma d) x s s' starts rest =
    let y : Name = record { place = u.place; text = u.text } in
    let head : run (v ∷ ts ++ rest) (OfDecl (ValueNames x (y ∷ [])) ∷ s') ≡ run (ts ++ rest) (OfDecl (NextValue x (y ∷ [])) ∷ s') = simp comma.op in
    starts u (v ∷ ts ++ rest) n ∙ (head ∙ names_after ts xs d x (y ∷ []) s' rest)

-- at its end the stack has one part more
record EndsValue (b : ℕ) (at : Place) (c g : Bool) (items : Values) (f : t.ValueSpecs → t.ValueSpecs) (left s : Stack) : Type 0 where
  pub alone : g ≡ false → (u : Token) (us : List Token) → EndsSpec u → run (u ∷ us) left ≡ run (u ∷ us) (Done (ADecl (values_decl c at (joined (items ++ f ∷ []) t.NoValues))) ∷ s)
  pub on_semicolon : g ≡ true → (u : Token) (us : List Token) → IsSemicolon u → run (u ∷ us) left ≡ run us (OfDecl (ValueGroup (values_part b at c g (items ++ f ∷ []))) ∷ s)
  pub on_close : g ≡ true → (u : Token) (us : List Token) → IsOp o.RightParen u → run (u ∷ us) left ≡ run us (Done (ADecl (values_decl c at (joined (items ++ f ∷ []) t.NoValues))) ∷ s)

-- a part of a declaration leads to such a stack
record SpecReads (b : ℕ) (ts : List Token) (at : Place) (c g : Bool) (items : Values) (f : t.ValueSpecs → t.ValueSpecs) (start s : Stack) : Type 0 where
  pub left : Stack
  pub leads : (u : Token) (us : List Token) → EndsSpec u → run (ts ++ u ∷ us) start ≡ run (u ∷ us) left
  pub ends : EndsValue b at c g items f left s

names_semicolon : (b : ℕ) (at : Place) (c g : Bool) (items : Values) (ys : List Name) (s : Stack) → c ≡ true → g ≡ true → (u : Token) (us : List Token) → IsSemicolon u → run (u ∷ us) (OfDecl (ValueNames (values_part b at c g items) ys) ∷ s) ≡ run us (OfDecl (ValueGroup (values_part b at c g (items ++ (λ rest. t.MoreValues ys t.NoExpr t.NoExprs rest) ∷ []))) ∷ s)
names_semicolon b at c g items ys s hc hg u us (written h) = simp (h, hc, hg)
names_semicolon b at c g items ys s hc hg u us (inserted h) = simp (h, hc, hg)

names_alone : (b : ℕ) (at : Place) (c g : Bool) (items : Values) (ys : List Name) (s : Stack) → c ≡ true → g ≡ false → (u : Token) (us : List Token) → EndsSpec u → run (u ∷ us) (OfDecl (ValueNames (values_part b at c g items) ys) ∷ s) ≡ run (u ∷ us) (Done (ADecl (values_decl c at (joined (items ++ (λ rest. t.MoreValues ys t.NoExpr t.NoExprs rest) ∷ []) t.NoValues))) ∷ s)
names_alone b at c g items ys s hc hg u us x =
    let no_comma : is_op o.Comma u ≡ false = x.no_comma in
    let no_assign : is_op o.Assign u ≡ false = x.no_assign in
    let no_type : begins_type u.kind ≡ false = x.halts.no_type in
    simp (no_comma, no_assign, no_type, hc, hg)

names_end : (b : ℕ) (at : Place) (c g : Bool) (items : Values) (ys : List Name) (s : Stack) → c ≡ true → EndsValue b at c g items (λ rest. t.MoreValues ys t.NoExpr t.NoExprs rest) (OfDecl (ValueNames (values_part b at c g items) ys) ∷ s) s
names_end b at c g items ys s hc = record {
  alone = λ hg. names_alone b at c g items ys s hc hg;
  on_semicolon = λ hg. names_semicolon b at c g items ys s hc hg;
  on_close = λ hg u us h. simp (h.op, hc, hg);
}

exprs_semicolon : (b : ℕ) (at : Place) (c g : Bool) (items : Values) (ys : List Name) (ty : t.MaybeExpr) (es : List t.Expr) (e : t.Expr) (s : Stack) → g ≡ true → (u : Token) (us : List Token) → IsSemicolon u → run (u ∷ us) (Done (AnExpr e) ∷ OfDecl (ValueExprs (values_part b at c g items) ys ty es) ∷ s) ≡ run us (OfDecl (ValueGroup (values_part b at c g (items ++ (λ rest. t.MoreValues ys ty (exprs_of (es ++ e ∷ [])) rest) ∷ []))) ∷ s)
exprs_semicolon b at c g items ys ty es e s hg u us (written h) = simp (h, hg)
exprs_semicolon b at c g items ys ty es e s hg u us (inserted h) = simp (h, hg)

exprs_alone : (b : ℕ) (at : Place) (c g : Bool) (items : Values) (ys : List Name) (ty : t.MaybeExpr) (es : List t.Expr) (e : t.Expr) (s : Stack) → g ≡ false → (u : Token) (us : List Token) → EndsSpec u → run (u ∷ us) (Done (AnExpr e) ∷ OfDecl (ValueExprs (values_part b at c g items) ys ty es) ∷ s) ≡ run (u ∷ us) (Done (ADecl (values_decl c at (joined (items ++ (λ rest. t.MoreValues ys ty (exprs_of (es ++ e ∷ [])) rest) ∷ []) t.NoValues))) ∷ s)
exprs_alone b at c g items ys ty es e s hg u us x = let no_comma : is_op o.Comma u ≡ false = x.no_comma in simp (no_comma, hg)

exprs_end : (b : ℕ) (at : Place) (c g : Bool) (items : Values) (ys : List Name) (ty : t.MaybeExpr) (es : List t.Expr) (e : t.Expr) (s : Stack) → EndsValue b at c g items (λ rest. t.MoreValues ys ty (exprs_of (es ++ e ∷ [])) rest) (Done (AnExpr e) ∷ OfDecl (ValueExprs (values_part b at c g items) ys ty es) ∷ s) s
exprs_end b at c g items ys ty es e s = record {
  alone = λ hg. exprs_alone b at c g items ys ty es e s hg;
  on_semicolon = λ hg. exprs_semicolon b at c g items ys ty es e s hg;
  on_close = λ hg u us h. simp (h.op, hg);
}

type_semicolon : (b : ℕ) (at : Place) (c g : Bool) (items : Values) (ys : List Name) (e : t.Expr) (s : Stack) → c ≡ false → g ≡ true → (u : Token) (us : List Token) → IsSemicolon u → run (u ∷ us) (Done (AnExpr e) ∷ OfDecl (ValueType (values_part b at c g items) ys) ∷ s) ≡ run us (OfDecl (ValueGroup (values_part b at c g (items ++ (λ rest. t.MoreValues ys (t.AnExpr e) t.NoExprs rest) ∷ []))) ∷ s)
type_semicolon b at c g items ys e s hc hg u us (written h) = simp (h, hc, hg)
type_semicolon b at c g items ys e s hc hg u us (inserted h) = simp (h, hc, hg)

type_alone : (b : ℕ) (at : Place) (c g : Bool) (items : Values) (ys : List Name) (e : t.Expr) (s : Stack) → c ≡ false → g ≡ false → (u : Token) (us : List Token) → EndsSpec u → run (u ∷ us) (Done (AnExpr e) ∷ OfDecl (ValueType (values_part b at c g items) ys) ∷ s) ≡ run (u ∷ us) (Done (ADecl (values_decl c at (joined (items ++ (λ rest. t.MoreValues ys (t.AnExpr e) t.NoExprs rest) ∷ []) t.NoValues))) ∷ s)
type_alone b at c g items ys e s hc hg u us x = let no_assign : is_op o.Assign u ≡ false = x.no_assign in simp (no_assign, hc, hg)

type_end : (b : ℕ) (at : Place) (c g : Bool) (items : Values) (ys : List Name) (e : t.Expr) (s : Stack) → c ≡ false → EndsValue b at c g items (λ rest. t.MoreValues ys (t.AnExpr e) t.NoExprs rest) (Done (AnExpr e) ∷ OfDecl (ValueType (values_part b at c g items) ys) ∷ s) s
type_end b at c g items ys e s hc = record {
  alone = λ hg. type_alone b at c g items ys e s hc hg;
  on_semicolon = λ hg. type_semicolon b at c g items ys e s hc hg;
  on_close = λ hg u us h. simp (h.op, hc, hg);
}

type_no_comma : (k : TokenKind) → begins_type k ≡ true → is_op o.Comma (of_kind k) ≡ false
type_no_comma (kind.Op o.Comma) h = sym h
type_no_comma _ h = refl

type_no_assign : (k : TokenKind) → begins_type k ≡ true → is_op o.Assign (of_kind k) ≡ false
type_no_assign (kind.Op o.Assign) h = sym h
type_no_assign _ h = refl

value_type_begins : (b : ℕ) (at : Place) (c g : Bool) (items : Values) (ys : List Name) (s : Stack) (u : Token) (us : List Token) → begins_type u.kind ≡ true → run (u ∷ us) (OfDecl (ValueNames (values_part b at c g items) ys) ∷ s) ≡ run (u ∷ us) (OfType (AType (ctx 0 b false false)) ∷ OfDecl (ValueType (values_part b at c g items) ys) ∷ s)
value_type_begins b at c g items ys s u us h =
    let no_comma : is_op o.Comma u ≡ false = type_no_comma u.kind h in
    let no_assign : is_op o.Assign u ≡ false = type_no_assign u.kind h in
    starts_type u us (OfDecl (ValueNames (values_part b at c g items) ys)) s (OfDecl (ValueType (values_part b at c g items) ys) ∷ s) (ctx 0 b false false) (simp (no_comma, no_assign, h))

values_go : (b : ℕ) (at : Place) (c g : Bool) (items : Values) (ys : List Name) (ty : t.MaybeExpr) (s : Stack) → GoesOn b 0 false (λ es. OfDecl (ValueExprs (values_part b at c g items) ys ty es)) s
values_go b at c g items ys ty s fs e v vs hv first = simp hv.op

abbrev Named : ValuesPart → Stack → Stack → Type 0
Named x start s = (u : Token) (us : List Token) → IsName u → run (u ∷ us) start ≡ run us (OfDecl (ValueNames x (name_of u ∷ [])) ∷ s)

-- Names alone
repeated_spec : (b : ℕ) (ts : List Token) (names : List Name) → AreNames ts names → (at : Place) (g : Bool) (items : Values) (start s : Stack) → Named (values_part b at true g items) start s → SpecReads b ts at true g items (λ rest. t.MoreValues names t.NoExpr t.NoExprs rest) start s
repeated_spec b ts names ns at g items start s named = record {
  left = OfDecl (ValueNames (values_part b at true g items) names) ∷ s;
  leads = λ u us x. names_read ts names ns (values_part b at true g items) start s named (u ∷ us);
  ends = names_end b at true g items names s refl;
}

-- expressions after the `=`
values_lead : (b : ℕ) → Inside b → (us' : List Token) (es : t.Exprs) → AreExprs false us' es → exprs_fit b 0 es ≡ true → (at : Place) (c g : Bool) (items : Values) (ys : List Name) (ty : t.MaybeExpr) (s : Stack) (u : Token) (us : List Token) → EndsSpec u → run (us' ++ u ∷ us) (OfExpr (Operand (ctx 0 b false false)) ∷ OfExpr (Chain (ctx 0 b false false)) ∷ OfDecl (ValueExprs (values_part b at c g items) ys ty []) ∷ s) ≡ run (u ∷ us) (Done (AnExpr (last_of es)) ∷ OfDecl (ValueExprs (values_part b at c g items) ys ty (front_of es)) ∷ s)
values_lead b i us' es d fits at c g items ys ty s u us x = exprs_read b i d 0 false fits (λ fs. OfDecl (ValueExprs (values_part b at c g items) ys ty fs)) [] s (values_go b at c g items ys ty s) u us (halted_expr false (last_of es) x.halts)

untyped_leads : (b : ℕ) → Inside b → (ts us' : List Token) (names : List Name) (es : t.Exprs) (v : Token) → AreNames ts names → IsOp o.Assign v → AreExprs false us' es → exprs_fit b 0 es ≡ true → (at : Place) (c g : Bool) (items : Values) (start s : Stack) → Named (values_part b at c g items) start s → (u : Token) (us : List Token) → EndsSpec u → run ((ts ++ v ∷ us') ++ u ∷ us) start ≡ run (u ∷ us) (Done (AnExpr (last_of es)) ∷ OfDecl (ValueExprs (values_part b at c g items) names t.NoExpr (front_of es)) ∷ s)
untyped_leads b i ts us' names es v ns hv d fits at c g items start s named u us x =
    let taken : run (v ∷ us' ++ u ∷ us) (OfDecl (ValueNames (values_part b at c g items) names) ∷ s) ≡ run (us' ++ u ∷ us) (OfExpr (Operand (ctx 0 b false false)) ∷ OfExpr (Chain (ctx 0 b false false)) ∷ OfDecl (ValueExprs (values_part b at c g items) names t.NoExpr []) ∷ s) = simp hv.op in
    run_assoc ts (v ∷ us') (u ∷ us) start
    ∙ (names_read ts names ns (values_part b at c g items) start s named (v ∷ us' ++ u ∷ us)
    ∙ (taken
    ∙ values_lead b i us' es d fits at c g items names t.NoExpr s u us x))

-- Names "=" Exprs
untyped_spec : (b : ℕ) → Inside b → (ts us' : List Token) (names : List Name) (es : t.Exprs) (v : Token) → AreNames ts names → IsOp o.Assign v → AreExprs false us' es → exprs_fit b 0 es ≡ true → (at : Place) (c g : Bool) (items : Values) (start s : Stack) → Named (values_part b at c g items) start s → SpecReads b (ts ++ v ∷ us') at c g items (λ rest. t.MoreValues names t.NoExpr es rest) start s
untyped_spec b i ts us' names es v ns hv d fits at c g items start s named = record {
  left = Done (AnExpr (last_of es)) ∷ OfDecl (ValueExprs (values_part b at c g items) names t.NoExpr (front_of es)) ∷ s;
  leads = untyped_leads b i ts us' names es v ns hv d fits at c g items start s named;
  ends = subst (λ zs. EndsValue b at c g items (λ rest. t.MoreValues names t.NoExpr zs rest) (Done (AnExpr (last_of es)) ∷ OfDecl (ValueExprs (values_part b at c g items) names t.NoExpr (front_of es)) ∷ s) s) (list.exprs_whole d) (exprs_end b at c g items names t.NoExpr (front_of es) (last_of es) s);
}

-- names and their type, up to the token after it
type_lead : (b : ℕ) → Inside b → (ts us' : List Token) (names : List Name) (e : t.Expr) → AreNames ts names → IsType us' e → expr_fits b 0 e ≡ true → (at : Place) (c g : Bool) (items : Values) (start s : Stack) → Named (values_part b at c g items) start s → (u : Token) (us : List Token) → Halts u → run ((ts ++ us') ++ u ∷ us) start ≡ run (u ∷ us) (Done (AnExpr e) ∷ OfDecl (ValueType (values_part b at c g items) names) ∷ s)
type_lead b i ts us' names e ns d fits at c g items start s named u us hu =
    run_assoc ts us' (u ∷ us) start
    ∙ (names_read ts names ns (values_part b at c g items) start s named (us' ++ u ∷ us)
    ∙ (from_first begins_type us' (OfDecl (ValueNames (values_part b at c g items) names) ∷ s) (OfType (AType (ctx 0 b false false)) ∷ OfDecl (ValueType (values_part b at c g items) names) ∷ s) (type_begins d) (value_type_begins b at c g items names s) (u ∷ us)
    ∙ type_reads b i d 0 false false fits u us (OfDecl (ValueType (values_part b at c g items) names) ∷ s) (halted_type e hu)))

-- Names Type
unset_spec : (b : ℕ) → Inside b → (ts us' : List Token) (names : List Name) (e : t.Expr) → AreNames ts names → IsType us' e → expr_fits b 0 e ≡ true → (at : Place) (g : Bool) (items : Values) (start s : Stack) → Named (values_part b at false g items) start s → SpecReads b (ts ++ us') at false g items (λ rest. t.MoreValues names (t.AnExpr e) t.NoExprs rest) start s
unset_spec b i ts us' names e ns d fits at g items start s named = record {
  left = Done (AnExpr e) ∷ OfDecl (ValueType (values_part b at false g items) names) ∷ s;
  leads = λ u us x. type_lead b i ts us' names e ns d fits at false g items start s named u us x.halts;
  ends = type_end b at false g items names e s refl;
}

typed_leads : (b : ℕ) → Inside b → (ts us' vs : List Token) (names : List Name) (e : t.Expr) (es : t.Exprs) (v : Token) → AreNames ts names → IsType us' e → IsOp o.Assign v → AreExprs false vs es → expr_fits b 0 e ≡ true → exprs_fit b 0 es ≡ true → (at : Place) (c g : Bool) (items : Values) (start s : Stack) → Named (values_part b at c g items) start s → (u : Token) (us : List Token) → EndsSpec u → run ((ts ++ us' ++ v ∷ vs) ++ u ∷ us) start ≡ run (u ∷ us) (Done (AnExpr (last_of es)) ∷ OfDecl (ValueExprs (values_part b at c g items) names (t.AnExpr e) (front_of es)) ∷ s)
typed_leads b i ts us' vs names e es v ns dt hv d fits_e fits at c g items start s named u us x =
    let taken : run (v ∷ vs ++ u ∷ us) (Done (AnExpr e) ∷ OfDecl (ValueType (values_part b at c g items) names) ∷ s) ≡ run (vs ++ u ∷ us) (OfExpr (Operand (ctx 0 b false false)) ∷ OfExpr (Chain (ctx 0 b false false)) ∷ OfDecl (ValueExprs (values_part b at c g items) names (t.AnExpr e) []) ∷ s) = simp hv.op in
    run_assoc (ts ++ us') (v ∷ vs) (u ∷ us) start
    ∙ (type_lead b i ts us' names e ns dt fits_e at c g items start s named v (vs ++ u ∷ us) (halts_op hv refl)
    ∙ (taken
    ∙ values_lead b i vs es d fits at c g items names (t.AnExpr e) s u us x))

-- Names Type "=" Exprs
typed_spec : (b : ℕ) → Inside b → (ts us' vs : List Token) (names : List Name) (e : t.Expr) (es : t.Exprs) (v : Token) → AreNames ts names → IsType us' e → IsOp o.Assign v → AreExprs false vs es → expr_fits b 0 e ≡ true → exprs_fit b 0 es ≡ true → (at : Place) (c g : Bool) (items : Values) (start s : Stack) → Named (values_part b at c g items) start s → SpecReads b (ts ++ us' ++ v ∷ vs) at c g items (λ rest. t.MoreValues names (t.AnExpr e) es rest) start s
typed_spec b i ts us' vs names e es v ns dt hv d fits_e fits at c g items start s named = record {
  left = Done (AnExpr (last_of es)) ∷ OfDecl (ValueExprs (values_part b at c g items) names (t.AnExpr e) (front_of es)) ∷ s;
  leads = typed_leads b i ts us' vs names e es v ns dt hv d fits_e fits at c g items start s named;
  ends = subst (λ zs. EndsValue b at c g items (λ rest. t.MoreValues names (t.AnExpr e) zs rest) (Done (AnExpr (last_of es)) ∷ OfDecl (ValueExprs (values_part b at c g items) names (t.AnExpr e) (front_of es)) ∷ s) s) (list.exprs_whole d) (exprs_end b at c g items names (t.AnExpr e) (front_of es) (last_of es) s);
}

-- what a part puts before the rest
abbrev put : t.ValueSpecs → t.ValueSpecs → t.ValueSpecs
put t.NoValues rest = rest
put (t.MoreValues names ty es more) rest = t.MoreValues names ty es rest

const_spec : (b : ℕ) → Inside b → {ts : List Token} {xs : t.ValueSpecs} → IsConst ts xs → values_fit b 0 xs ≡ true → (at : Place) (g : Bool) (items : Values) (start s : Stack) → Named (values_part b at true g items) start s → SpecReads b ts at true g items (put xs) start s
const_spec b i (repeated_const {ts} {names} ns) fits at g items start s named = repeated_spec b ts names ns at g items start s named
const_spec b i (untyped_const {ts} {us} {names} {es} {u} ns hu d) fits at g items start s named = untyped_spec b i ts us names es u ns hu d (first_part _ _ fits) at true g items start s named
const_spec b i (typed_const {ts} {us} {vs} {names} {e} {es} {u} ns dt hu d) fits at g items start s named = typed_spec b i ts us vs names e es u ns dt hu d (first_part _ _ (first_part _ _ fits)) (second_part _ _ (first_part _ _ fits)) at true g items start s named

var_spec : (b : ℕ) → Inside b → {ts : List Token} {xs : t.ValueSpecs} → IsVar ts xs → values_fit b 0 xs ≡ true → (at : Place) (g : Bool) (items : Values) (start s : Stack) → Named (values_part b at false g items) start s → SpecReads b ts at false g items (put xs) start s
var_spec b i (unset_var {ts} {us} {names} {e} ns dt) fits at g items start s named = unset_spec b i ts us names e ns dt (first_part _ _ (first_part _ _ fits)) at g items start s named
var_spec b i (untyped_var {ts} {us} {names} {es} {u} ns hu d) fits at g items start s named = untyped_spec b i ts us names es u ns hu d (first_part _ _ fits) at false g items start s named
var_spec b i (typed_var {ts} {us} {vs} {names} {e} {es} {u} ns dt hu d) fits at g items start s named = typed_spec b i ts us vs names e es u ns dt hu d (first_part _ _ (first_part _ _ fits)) (second_part _ _ (first_part _ _ fits)) at false g items start s named

const_one : {ts : List Token} {xs : t.ValueSpecs} → IsConst ts xs → put xs t.NoValues ≡ xs
const_one (repeated_const ns) = refl
const_one (untyped_const ns hu d) = refl
const_one (typed_const ns dt hu d) = refl

var_one : {ts : List Token} {xs : t.ValueSpecs} → IsVar ts xs → put xs t.NoValues ≡ xs
var_one (unset_var ns dt) = refl
var_one (untyped_var ns hu d) = refl
var_one (typed_var ns dt hu d) = refl

group_named : (b : ℕ) (at : Place) (c : Bool) (items : Values) (s : Stack) → Named (values_part b at c true items) (OfDecl (ValueGroup (values_part b at c true items)) ∷ s) s
group_named b at c items s u us n = simp n.name

-- parts of a group, with the `)` after them
abbrev GroupReads : ℕ → Bool → List Token → t.ValueSpecs → Type 0
GroupReads b c ts xs = values_fit b 0 xs ≡ true → (at : Place) (items : Values) (v : Token) (us : List Token) (s : Stack) → IsOp o.RightParen v → run (ts ++ v ∷ us) (OfDecl (ValueGroup (values_part b at c true items)) ∷ s) ≡ run us (Done (ADecl (values_decl c at (joined items xs))) ∷ s)

no_group : (b : ℕ) (c : Bool) → GroupReads b c [] t.NoValues
no_group b c fits at items v us s hv = simp hv.op

last_group : (b : ℕ) (c : Bool) (ts : List Token) (xs : t.ValueSpecs) (at : Place) (items : Values) (s : Stack) → SpecReads b ts at c true items (put xs) (OfDecl (ValueGroup (values_part b at c true items)) ∷ s) s → put xs t.NoValues ≡ xs → (v : Token) (us : List Token) → IsOp o.RightParen v → run (ts ++ v ∷ us) (OfDecl (ValueGroup (values_part b at c true items)) ∷ s) ≡ run us (Done (ADecl (values_decl c at (joined items xs))) ∷ s)
last_group b c ts xs at items s r one v us hv =
    r.leads v us (spec_paren v hv)
    ∙ (r.ends.on_close refl v us hv
    ∙ ap (λ ys. run us (Done (ADecl (values_decl c at ys)) ∷ s)) (joined_and items (put xs) t.NoValues ∙ ap (λ ys. joined items ys) one))

more_group : (b : ℕ) (c : Bool) (ts us' : List Token) (f : t.ValueSpecs → t.ValueSpecs) (rest : t.ValueSpecs) (w : Token) (at : Place) (items : Values) (s : Stack) → SpecReads b ts at c true items f (OfDecl (ValueGroup (values_part b at c true items)) ∷ s) s → IsSemicolon w → values_fit b 0 rest ≡ true → GroupReads b c us' rest → (v : Token) (us : List Token) → IsOp o.RightParen v → run ((ts ++ w ∷ us') ++ v ∷ us) (OfDecl (ValueGroup (values_part b at c true items)) ∷ s) ≡ run us (Done (ADecl (values_decl c at (joined items (f rest)))) ∷ s)
more_group b c ts us' f rest w at items s r hw fits ih v us hv =
    run_assoc ts (w ∷ us') (v ∷ us) (OfDecl (ValueGroup (values_part b at c true items)) ∷ s)
    ∙ (r.leads w (us' ++ v ∷ us) (spec_semicolon w hw)
    ∙ (r.ends.on_semicolon refl w (us' ++ v ∷ us) hw
    ∙ (ih fits at (items ++ f ∷ []) v us s hv
    ∙ ap (λ ys. run us (Done (ADecl (values_decl c at ys)) ∷ s)) (joined_and items f rest))))

alone_fits : (b : ℕ) (xs : List Name) (ty : t.MaybeExpr) (es : t.Exprs) (rest : t.ValueSpecs) → values_fit b 0 (t.MoreValues xs ty es rest) ≡ true → values_fit b 0 (t.MoreValues xs ty es t.NoValues) ≡ true
alone_fits b xs ty es rest h = ap (λ x. x && true) (first_part (maybe_fits b 0 ty && exprs_fit b 0 es) (values_fit b 0 rest) h)

consts_read : (b : ℕ) → Inside b → {ts : List Token} {xs : t.ValueSpecs} → AreConsts ts xs → GroupReads b true ts xs
consts_read b i no_consts fits at items v us s hv = no_group b true refl at items v us s hv
consts_read b i (last_const {ts} {xs} d) fits at items v us s hv = last_group b true ts xs at items s (const_spec b i d fits at true items _ s (group_named b at true items s)) (const_one d) v us hv
consts_read b i (more_consts {ts} {us = us'} {xs} {ty} {es} {rest} {u} d hu ds) fits at items v us s hv =
    more_group b true ts us' (λ more. t.MoreValues xs ty es more) rest u at items s (const_spec b i d (alone_fits b xs ty es rest fits) at true items _ s (group_named b at true items s)) hu (second_part (maybe_fits b 0 ty && exprs_fit b 0 es) (values_fit b 0 rest) fits) (consts_read b i ds) v us hv

vars_read : (b : ℕ) → Inside b → {ts : List Token} {xs : t.ValueSpecs} → AreVars ts xs → GroupReads b false ts xs
vars_read b i no_vars fits at items v us s hv = no_group b false refl at items v us s hv
vars_read b i (last_var {ts} {xs} d) fits at items v us s hv = last_group b false ts xs at items s (var_spec b i d fits at true items _ s (group_named b at false items s)) (var_one d) v us hv
vars_read b i (more_vars {ts} {us = us'} {xs} {ty} {es} {rest} {u} d hu ds) fits at items v us s hv =
    more_group b false ts us' (λ more. t.MoreValues xs ty es more) rest u at items s (var_spec b i d (alone_fits b xs ty es rest fits) at true items _ s (group_named b at false items s)) hu (second_part (maybe_fits b 0 ty && exprs_fit b 0 es) (values_fit b 0 rest) fits) (vars_read b i ds) v us hv

-- `type`

abbrev Types : Type 0
Types = List (t.TypeSpecs → t.TypeSpecs)

abbrev types_part : ℕ → Place → Bool → Types → TypesPart
types_part b at group items = record { blocks = b; place = at; group = group; specs = items }

declared_begins : (x : TypesPart) (y : Name) (s : Stack) (u : Token) (us : List Token) → begins_type u.kind ≡ true → run (u ∷ us) (OfDecl (DeclaredName x y) ∷ s) ≡ run (u ∷ us) (OfType (AType (ctx 0 x.blocks false false)) ∷ OfDecl (DeclaredType x y false) ∷ s)
declared_begins x y s u us h =
    let no_assign : is_op o.Assign u ≡ false = type_no_assign u.kind h in
    starts_type u us (OfDecl (DeclaredName x y)) s (OfDecl (DeclaredType x y false) ∷ s) (ctx 0 x.blocks false false) (simp no_assign)

abbrev TypeNamed : TypesPart → Stack → Stack → Type 0
TypeNamed x start s = (u : Token) (us : List Token) → IsName u → run (u ∷ us) start ≡ run us (OfDecl (DeclaredName x (name_of u)) ∷ s)

-- name ["="] Type, up to the token after it
type_spec_lead : (b : ℕ) → Inside b → (ss ts : List Token) (alias : Bool) (e : t.Expr) (v : Token) → IsName v → PerhapsOp o.Assign ss alias → IsType ts e → expr_fits b 0 e ≡ true → (at : Place) (g : Bool) (items : Types) (start s : Stack) → TypeNamed (types_part b at g items) start s → (u : Token) (us : List Token) → Halts u → run ((v ∷ ss ++ ts) ++ u ∷ us) start ≡ run (u ∷ us) (Done (AnExpr e) ∷ OfDecl (DeclaredType (types_part b at g items) (name_of v) alias) ∷ s)
type_spec_lead b i _ ts _ e v n without_op d fits at g items start s named u us hu =
    named v (ts ++ u ∷ us) n
    ∙ (from_first begins_type ts (OfDecl (DeclaredName (types_part b at g items) (name_of v)) ∷ s) (OfType (AType (ctx 0 b false false)) ∷ OfDecl (DeclaredType (types_part b at g items) (name_of v) false) ∷ s) (type_begins d) (declared_begins (types_part b at g items) (name_of v) s) (u ∷ us)
    ∙ type_reads b i d 0 false false fits u us (OfDecl (DeclaredType (types_part b at g items) (name_of v) false) ∷ s) (halted_type e hu))
type_spec_lead b i _ ts _ e v n (with_op {u = w} hw) d fits at g items start s named u us hu =
    let alias : run (w ∷ (ts ++ u ∷ us)) (OfDecl (DeclaredName (types_part b at g items) (name_of v)) ∷ s) ≡ run (ts ++ u ∷ us) (OfType (AType (ctx 0 b false false)) ∷ OfDecl (DeclaredType (types_part b at g items) (name_of v) true) ∷ s) = simp hw.op in
    named v (w ∷ (ts ++ u ∷ us)) n
    ∙ (alias
    ∙ type_reads b i d 0 false false fits u us (OfDecl (DeclaredType (types_part b at g items) (name_of v) true) ∷ s) (halted_type e hu))

declared_semicolon : (b : ℕ) (at : Place) (items : Types) (y : Name) (alias : Bool) (e : t.Expr) (s : Stack) (u : Token) (us : List Token) → IsSemicolon u → run (u ∷ us) (Done (AnExpr e) ∷ OfDecl (DeclaredType (types_part b at true items) y alias) ∷ s) ≡ run us (OfDecl (TypeGroup (types_part b at true (items ++ (λ rest. t.MoreTypes y alias e rest) ∷ []))) ∷ s)
declared_semicolon b at items y alias e s u us (written h) = simp h
declared_semicolon b at items y alias e s u us (inserted h) = simp h

type_group_named : (b : ℕ) (at : Place) (items : Types) (s : Stack) → TypeNamed (types_part b at true items) (OfDecl (TypeGroup (types_part b at true items)) ∷ s) s
type_group_named b at items s u us n = simp n.name

abbrev TypeGroupReads : ℕ → List Token → t.TypeSpecs → Type 0
TypeGroupReads b ts xs = types_fit b 0 xs ≡ true → (at : Place) (items : Types) (v : Token) (us : List Token) (s : Stack) → IsOp o.RightParen v → run (ts ++ v ∷ us) (OfDecl (TypeGroup (types_part b at true items)) ∷ s) ≡ run us (Done (ADecl (t.TypeDecl at (joined items xs))) ∷ s)

type_specs_read : (b : ℕ) → Inside b → {ts : List Token} {xs : t.TypeSpecs} → AreTypeSpecs ts xs → TypeGroupReads b ts xs
type_specs_read b i no_type_specs fits at items v us s hv = simp hv.op
type_specs_read b i (last_type_spec (type_spec {ss} {ts} {alias} {e} {u = w} n p d)) fits at items v us s hv =
    let closed : run (v ∷ us) (Done (AnExpr e) ∷ OfDecl (DeclaredType (types_part b at true items) (name_of w) alias) ∷ s) ≡ run us (Done (ADecl (t.TypeDecl at (joined (items ++ (λ rest. t.MoreTypes (name_of w) alias e rest) ∷ []) t.NoTypes))) ∷ s) = simp hv.op in
    type_spec_lead b i ss ts alias e w n p d (first_part (expr_fits b 0 e) true fits) at true items (OfDecl (TypeGroup (types_part b at true items)) ∷ s) s (type_group_named b at items s) v us (halts_op hv refl)
    ∙ (closed ∙ ap (λ ys. run us (Done (ADecl (t.TypeDecl at ys)) ∷ s)) (joined_and items (λ rest. t.MoreTypes (name_of w) alias e rest) t.NoTypes))
type_specs_read b i (more_type_specs {us = us'} {rest} {u} (type_spec {ss} {ts} {alias} {e} {u = w} n p d) hu ds) fits at items v us s hv =
    let f = λ (more : t.TypeSpecs). t.MoreTypes (name_of w) alias e more in
    run_assoc (w ∷ ss ++ ts) (u ∷ us') (v ∷ us) (OfDecl (TypeGroup (types_part b at true items)) ∷ s)
    ∙ (type_spec_lead b i ss ts alias e w n p d (first_part (expr_fits b 0 e) (types_fit b 0 rest) fits) at true items (OfDecl (TypeGroup (types_part b at true items)) ∷ s) s (type_group_named b at items s) u (us' ++ v ∷ us) (halts_semicolon hu)
    ∙ (declared_semicolon b at items (name_of w) alias e s u (us' ++ v ∷ us) hu
    ∙ (type_specs_read b i ds (second_part (expr_fits b 0 e) (types_fit b 0 rest) fits) at (items ++ f ∷ []) v us s hv
    ∙ ap (λ ys. run us (Done (ADecl (t.TypeDecl at ys)) ∷ s)) (joined_and items f rest))))

-- declarations

values_named : (b : ℕ) (at : Place) (c : Bool) (s : Stack) → Named (values_part b at c false []) (OfDecl (AtValues (values_part b at c false [])) ∷ s) s
values_named b at c s u us n = simp n.name

types_named : (b : ℕ) (at : Place) (s : Stack) → TypeNamed (types_part b at false []) (OfDecl (AtTypes (types_part b at false [])) ∷ s) s
types_named b at s u us n = simp n.name

pub decl_reads : (b : ℕ) → Inside b → {ts : List Token} {x : t.Decl} → IsDecl ts x → DeclReads b ts x
decl_reads b i (const_decl {ts} {xs} {u = w} hw d) fits s s' starts u us hu =
    let r = const_spec b i d fits w.place false [] (OfDecl (AtValues (values_part b w.place true false [])) ∷ s') s' (values_named b w.place true s') in
    starts.on_const w (ts ++ u ∷ us) hw
    ∙ (r.leads u us (spec_list u hu)
    ∙ (r.ends.alone refl u us (spec_list u hu)
    ∙ ap (λ ys. run (u ∷ us) (Done (ADecl (t.ConstDecl w.place ys)) ∷ s')) (const_one d)))
decl_reads b i (const_group {ts} {xs} {u = w} {v} {w = x} hw hv ds hx) fits s s' starts u us hu =
    let opened : run (v ∷ (ts ++ x ∷ u ∷ us)) (OfDecl (AtValues (values_part b w.place true false [])) ∷ s') ≡ run (ts ++ x ∷ u ∷ us) (OfDecl (ValueGroup (values_part b w.place true true [])) ∷ s') = simp hv.op in
    run_assoc (w ∷ v ∷ ts) (x ∷ []) (u ∷ us) s
    ∙ (starts.on_const w (v ∷ (ts ++ x ∷ u ∷ us)) hw
    ∙ (opened ∙ consts_read b i ds fits w.place [] x (u ∷ us) s' hx))
decl_reads b i (var_decl {ts} {xs} {u = w} hw d) fits s s' starts u us hu =
    let r = var_spec b i d fits w.place false [] (OfDecl (AtValues (values_part b w.place false false [])) ∷ s') s' (values_named b w.place false s') in
    starts.on_var w (ts ++ u ∷ us) hw
    ∙ (r.leads u us (spec_list u hu)
    ∙ (r.ends.alone refl u us (spec_list u hu)
    ∙ ap (λ ys. run (u ∷ us) (Done (ADecl (t.VarDecl w.place ys)) ∷ s')) (var_one d)))
decl_reads b i (var_group {ts} {xs} {u = w} {v} {w = x} hw hv ds hx) fits s s' starts u us hu =
    let opened : run (v ∷ (ts ++ x ∷ u ∷ us)) (OfDecl (AtValues (values_part b w.place false false [])) ∷ s') ≡ run (ts ++ x ∷ u ∷ us) (OfDecl (ValueGroup (values_part b w.place false true [])) ∷ s') = simp hv.op in
    run_assoc (w ∷ v ∷ ts) (x ∷ []) (u ∷ us) s
    ∙ (starts.on_var w (v ∷ (ts ++ x ∷ u ∷ us)) hw
    ∙ (opened ∙ vars_read b i ds fits w.place [] x (u ∷ us) s' hx))
decl_reads b i (type_decl {u = w} hw (type_spec {ss} {ts} {alias} {e} {u = y} n p d)) fits s s' starts u us hu =
    starts.on_type w ((y ∷ ss ++ ts) ++ u ∷ us) hw
    ∙ type_spec_lead b i ss ts alias e y n p d (first_part (expr_fits b 0 e) true fits) w.place false [] (OfDecl (AtTypes (types_part b w.place false [])) ∷ s') s' (types_named b w.place s') u us (list_halts u hu)
decl_reads b i (type_group {ts} {xs} {u = w} {v} {w = x} hw hv ds hx) fits s s' starts u us hu =
    let opened : run (v ∷ (ts ++ x ∷ u ∷ us)) (OfDecl (AtTypes (types_part b w.place false [])) ∷ s') ≡ run (ts ++ x ∷ u ∷ us) (OfDecl (TypeGroup (types_part b w.place true [])) ∷ s') = simp hv.op in
    run_assoc (w ∷ v ∷ ts) (x ∷ []) (u ∷ us) s
    ∙ (starts.on_type w (v ∷ (ts ++ x ∷ u ∷ us)) hw
    ∙ (opened ∙ type_specs_read b i ds fits w.place [] x (u ∷ us) s' hx))

pub decl_place : {ts : List Token} {x : t.Decl} → IsDecl ts x → place_of_decl x ≡ place_of ts
decl_place (const_decl h d) = refl
decl_place (const_group h k d l) = refl
decl_place (type_decl h d) = refl
decl_place (type_group h k d l) = refl
decl_place (var_decl h d) = refl
decl_place (var_group h k d l) = refl
