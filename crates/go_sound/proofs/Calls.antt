-- Expression statements, `return` and branches of which nothing is told.
use Rattle.std.proofs.Common.{◌≡◌, ◌==◌, ◌||◌, not, ℕ, suc, length, List, [], ◌∷◌, ◌++◌, append-nil, refl, sym, subst, ap, ◌∙◌, Bool, true, false, Option, Some, None, if◌then◌else◌, Contains}
use Rattle.gj_base.specs.declared.place.Place.{Place}
use Rattle.go_const.specs.declared.constant.Const.{Const}
use Rattle.go_syntax.specs.Tree as t
use Rattle.go_syntax.specs.declared.tree.Name.{Name}
use Rattle.go_type.specs.Tree as ty
use Rattle.go_type.specs.Tree.{Ty, Tys, no_tys, more_tys}
use Rattle.go_type.specs.Named.{NamedTy}
use Rattle.go_core.specs.SameType.{same_types}
use Rattle.go_core.proofs.SameTypeLemmas.{types_one}
use Rattle.go_core.specs.CoreTree as core
use Rattle.go_core.specs.CoreTree.{Var, CoreProgram, break_, continue_}
use Rattle.go_core.specs.TypeOf.{types_of, all_types, listed_types}
use Rattle.go_core.specs.SoundNode as node
use Rattle.go_core.specs.Sound.{SoundExpr, SoundExprs, SoundStmt, Returns, labels_for}
use Rattle.go_typing.specs.Answer.{Flaw, flaw, Answer, value, pending, type_, package_, built_in, blank, does, wrong, untyped_part, bad, where_known, all_known, Part}
use Rattle.go_typing.specs.Call as calls
use Rattle.go_typing.specs.Call.{given, same_count, one_count, Given, each, several, no_givens, Values, values, values_at, only_value, call_with, function_given, spread_given, function_row}
use Rattle.go_typing.specs.Typing.{Callee, a_function, a_built_in, by_value, place_of, parts, paren_row, call_row}
use Rattle.go_typing.specs.Walk.{Walk, Around, Target, did, faulty, uses, uses_all}
use Rattle.go_typing.specs.Expressions.{answer_in, flaws_in, value_at, core_of}
use Rattle.go_typing.specs.Assign.{same_number, several_right, first_right}
use Rattle.go_typing.specs.Statements.{count_types, values_of, performed, called_in, expression, returned_each, is_empty, wrong_count, returned_call, returned_by, returned_to, returned_in, returned, innermost, is_named, target_named, branch_did, branch}
use Rattle.go_sound.specs.Added.{TypesAreSet}
use Rattle.go_sound.specs.SoundTyped.{AllHaveOperators, IsScalarType, AreScalarTypes, ScopesAreSound}
use Rattle.go_sound.specs.SoundValues.{IsReady}
use Rattle.go_sound.proofs.SoundWords.{AnswerSound, IsSound, DeclaresNothing}
use Rattle.go_sound.proofs.SoundCalls.{CallsSound}
use Rattle.go_sound.proofs.SoundNodes.{CalleeSound, callee_sound}
use Rattle.go_sound.proofs.SoundBodies.{no_first, no_second}
use Rattle.go_sound.specs.SoundStatements.{TargetsAreAround}
use Rattle.go_sound.proofs.Words.{at_vars, after_var, Extends, extends_same}
use Rattle.go_sound.proofs.Ready.{State, Like, like_same, like_uses, like_uses_all, ready_like, before_like, Done, scoped_like, done_quiet, done_also, adds_like}
use Rattle.go_sound.proofs.Here.{Here, here, value_there, never_told, AreSeveralHere}
use Rattle.go_sound.proofs.Stores.{right_several}

-- ---- what a call of a function gives

abbrev call_type : Tys → Ty
call_type (more_tys u no_tys) = u
call_type rs = ty.tuple rs

-- a value of the type of the call, and none of a variadic function
abbrev IsCallOf : Answer → (variadic : Bool) → Tys → Type 0
IsCallOf (value c u k) true rs = ⊥
IsCallOf (value c u k) false rs = u ≡ call_type rs
IsCallOf _ variadic rs = Unit {0}

of_if : (b : Bool) (x y : Answer) (v : Bool) (rs : Tys) → IsCallOf x v rs → IsCallOf y v rs → IsCallOf (if b then x else y) v rs
of_if true x y v rs h k = h
of_if false x y v rs h k = k

of_known : (b : Bool) (x : Answer) (v : Bool) (rs : Tys) → IsCallOf x v rs → IsCallOf (where_known b x) v rs
of_known true x v rs h = h
of_known false x v rs h = tt

call_of : (id : ℕ) (rs : Tys) (vs : Values) → IsCallOf (call_with id rs vs) false rs
call_of id no_tys (values es) = refl
call_of id (more_tys u no_tys) (values es) = refl
call_of id (more_tys u (more_tys s ss)) (values es) = refl
call_of id rs (calls.unfit f fs) = tt

given_of : (ns : List NamedTy) (at : Place) (id : ℕ) (ps rs : Tys) (g : Given) → IsCallOf (function_given ns at id ps rs g) false rs
given_of ns at id ps rs (each xs) = of_if (same_count ps xs) _ (bad at 60) false rs (call_of id rs (values_at ns ps xs)) tt
given_of ns at id ps rs (several q c ts) = of_if (one_count ps ts) _ (bad at 60) false rs (of_if (same_types ps ts) _ (bad q 61) false rs (call_of id rs (values (only_value c))) tt) tt
given_of ns at id ps rs (no_givens f fs) = tt

spread_of : (ns : List NamedTy) (at : Place) (rs : Tys) (g : Given) → IsCallOf (spread_given ns at g) false rs
spread_of ns at rs (no_givens f fs) = tt
spread_of ns at rs (each xs) = tt
spread_of ns at rs (several q c ts) = tt

row_of : (ns : List NamedTy) (at : Place) (id : ℕ) (ps rs : Tys) (v spread : Bool) (xs : List Part) → IsCallOf (function_row ns at id ps rs v spread xs) v rs
row_of ns at id ps rs true spread xs = of_known (all_known xs) (bad at 0) true rs tt
row_of ns at id ps rs false true xs = of_known (all_known xs) _ false rs (spread_of ns at rs (given xs))
row_of ns at id ps rs false false xs = of_known (all_known xs) _ false rs (given_of ns at id ps rs (given xs))

paren_of : (x : Answer) (v : Bool) (rs : Tys) → IsCallOf x v rs → IsCallOf (paren_row x) v rs
paren_of (value c u k) v rs h = h
paren_of (wrong f fs) v rs h = tt
paren_of (pending q b) v rs h = tt
paren_of (type_ u) v rs h = tt
paren_of (package_ q) v rs h = tt
paren_of (built_in b) v rs h = tt
paren_of blank v rs h = tt
paren_of (does s) v rs h = tt
paren_of untyped_part v rs h = tt

abbrev is_function : Callee → Bool
is_function (a_function id ps rs v) = true
is_function _ = false

no_function : (id : ℕ) (ps rs : Tys) (v : Bool) → by_value ≡ a_function id ps rs v → ⊥
no_function id ps rs v e = let f : false ≡ true = ap is_function e in cc

type_count : (ts : Tys) → length (listed_types ts) ≡ count_types ts
type_count no_tys = refl
type_count (more_tys u us) = ap suc (type_count us)

-- ---- what declares nothing leaves nothing

pub nothing_after : (s : core.Stmt) (vs : List Var) → DeclaresNothing s → after_var s vs ≡ vs
nothing_after (core.declare v) vs h = absurd h
nothing_after _ vs h = refl

module _ (p : CoreProgram) (a : node.Around) (vs : List Var) (b : Around) (w : Walk) (st : State p a vs b w) where
  -- ---- expression statements

  record IsCalled (e : t.Expr) (id : ℕ) (ps rs : Tys) (v : Bool) : Type 0 where
    pub of_type : IsCallOf (answer_in w e) v rs
    pub callable : CallsSound p (at_vars a vs) id ps rs v

  called_here : (e : t.Expr) (id : ℕ) (ps rs : Tys) (v : Bool) → called_in w e ≡ a_function id ps rs v → IsCalled e id ps rs v
  called_here (t.CallExpr at f xs spread) id ps rs v e = record {
    of_type = subst (λ (c : Callee). IsCallOf (call_row w.names at c (record { place = place_of f; answer = answer_in w f }) spread (parts w.names w.scopes xs)) v rs) (sym e) (row_of w.names at id ps rs v spread (parts w.names w.scopes xs));
    callable = subst (CalleeSound p (at_vars a vs)) e (callee_sound p (at_vars a vs) w.scopes scopes f);
  }
    where
      scopes : ScopesAreSound p (at_vars a vs) w.scopes
      scopes = let r = st.ready in r.scopes
  called_here (t.ParenExpr at x) id ps rs v e = let h = called_here x id ps rs v e in record { of_type = paren_of (answer_in w x) v rs h.of_type; callable = h.callable }
  called_here _ id ps rs v e = absurd (no_function id ps rs v e)

  -- the value of a call, of a scalar type or of several
  value_performed : (rs : Tys) (c : core.Expr) (u : Ty) (k : Option Const) → AreScalarTypes p rs → u ≡ call_type rs → AnswerSound p (at_vars a vs) (value c u k) → SoundExpr p (at_vars a vs) c × (length (types_of p.names c) ≡ values_of u)
  value_performed rs c (ty.tuple us) k s e h = (h.0, ap length h.1 ∙ type_count us)
  value_performed rs c (ty.untyped d) k s e h = absurd (never rs s e)
    where
      never : (qs : Tys) → AreScalarTypes p qs → ty.untyped d ≡ call_type qs → ⊥
      never (more_tys x no_tys) i j = let f : false ≡ true = subst (IsScalarType p) (sym j) i.0 in cc
      never no_tys i j = cc
      never (more_tys x (more_tys y ys)) i j = cc
  value_performed rs c ty.nil k s e h = absurd (never rs s e)
    where
      never : (qs : Tys) → AreScalarTypes p qs → ty.nil ≡ call_type qs → ⊥
      never (more_tys x no_tys) i j = let f : false ≡ true = subst (IsScalarType p) (sym j) i.0 in cc
      never no_tys i j = cc
      never (more_tys x (more_tys y ys)) i j = cc
  value_performed rs c _ k s e h = (h.sound, ap length h.gives)

  call_performed : (e : t.Expr) (id : ℕ) (ps rs : Tys) (v : Bool) (c : core.Expr) (u : Ty) (k : Option Const) → IsCalled e id ps rs v → answer_in w e ≡ value c u k → Here p (at_vars a vs) w st.ready (answer_in w e)
      → SoundExpr p (at_vars a vs) c × (length (types_of p.names c) ≡ values_of u)
  call_performed e id ps rs true c u k h i m = absurd (subst (λ (x : Answer). IsCallOf x true rs) i h.of_type)
  call_performed e id ps rs false c u k h i m =
      let q = h.callable in
      let s : IsSound p (at_vars a vs) (value c u k) = subst (IsSound p (at_vars a vs)) i m.is_sound in
      value_performed rs c u k q.results_scalar (subst (λ (x : Answer). IsCallOf x false rs) i h.of_type) s.is_sound

  nothing_done : (fs : List Flaw) (u : Walk) → Like w u → Done p a vs w (faulty fs u)
  nothing_done fs u l = done_quiet p a vs w (faulty fs u) (record { nothing = refl; scoped = scoped_like p a vs w u l (record { ready = st.ready; before = st.before }); adds = adds_like p w u l })

  one_done : (s : core.Stmt) (u : Walk) → Like w u → SoundStmt p (at_vars a vs) s → DeclaresNothing s → Done p a vs w (did (s ∷ []) u)
  one_done s u l h n = record {
    is_sound = (h, tt);
    extends = subst (Extends w.next vs) (sym (nothing_after s vs n)) (extends_same w.next vs);
    ready = subst (λ (us : List Var). IsReady p (at_vars a us) u) (sym (nothing_after s vs n)) (ready_like p (at_vars a vs) w u l st.ready);
    before = before_like w u l st.before;
    adds = adds_like p w u l;
  }

  does_done : (e : t.Expr) (s : core.Stmt) (u : Walk) → Like w u → answer_in w e ≡ does s → Here p (at_vars a vs) w st.ready (answer_in w e) → Done p a vs w (did (s ∷ []) u)
  does_done e s u l i m = let q : IsSound p (at_vars a vs) (does s) = subst (IsSound p (at_vars a vs)) i m.is_sound in let r = q.is_sound in one_done s u l r.0 r.1

  performed_done : (e : t.Expr) (at : Place) (u : Walk) → Like w u → Here p (at_vars a vs) w st.ready (answer_in w e) → (c : Callee) → called_in w e ≡ c → (x : Answer) → answer_in w e ≡ x → (performed at c x u).flaws ≡ [] → Done p a vs w (performed at c x u)
  performed_done e at u l m (a_function id ps rs v) i (value c k z) j h =
      let r = call_performed e id ps rs v c k z (called_here e id ps rs v i) j m in one_done (core.perform c (values_of k)) u l (r.0, r.1) tt
  performed_done e at u l m (a_function id ps rs v) i (does s) j h = does_done e s u l j m
  performed_done e at u l m (a_function id ps rs v) i (wrong f fs) j h = nothing_done [] u l
  performed_done e at u l m (a_function id ps rs v) i untyped_part j h = nothing_done [] u l
  performed_done e at u l m (a_function id ps rs v) i _ j h = cc
  performed_done e at u l m (a_built_in d) i (does s) j h = does_done e s u l j m
  performed_done e at u l m (a_built_in d) i (wrong f fs) j h = nothing_done [] u l
  performed_done e at u l m (a_built_in d) i untyped_part j h = nothing_done [] u l
  performed_done e at u l m (a_built_in d) i _ j h = cc
  performed_done e at u l m by_value i (does s) j h = does_done e s u l j m
  performed_done e at u l m by_value i (wrong f fs) j h = nothing_done [] u l
  performed_done e at u l m by_value i untyped_part j h = nothing_done [] u l
  performed_done e at u l m by_value i _ j h = cc

  pub expression_done : (at : Place) (xs : t.Exprs) → AllHaveOperators xs → (expression at xs w).flaws ≡ [] → Done p a vs w (expression at xs w)
  expression_done at (t.MoreExprs e t.NoExprs) o h =
      done_also p a vs w (flaws_in w e) (performed (place_of e) (called_in w e) (answer_in w e) (uses e w))
      (performed_done e (place_of e) (uses e w) (like_uses e w st.ready.all_typed) (here p (at_vars a vs) w st.ready e o.0) (called_in w e) refl (answer_in w e) refl (no_second (flaws_in w e) _ h))
  expression_done at t.NoExprs o h = absurd (never_told p (at_vars a vs) w st.ready t.NoExprs (flaw at 84) h)
  expression_done at (t.MoreExprs e (t.MoreExprs f fs)) o h = absurd (never_told p (at_vars a vs) w st.ready (t.MoreExprs e (t.MoreExprs f fs)) (flaw at 84) h)

  -- ---- `return`

  results_set : TypesAreSet w.names a.results
  results_set = let q = st.around in q.results_set

  results_scalar : AreScalarTypes p a.results
  results_scalar = let q = st.around in q.results_scalar

  each_returned : (us : Tys) (ys : t.Exprs) → same_number ys us ≡ true → AreScalarTypes p us → TypesAreSet w.names us → AllHaveOperators ys → (returned_each w us ys).0.flaws ≡ []
      → SoundExprs p (at_vars a vs) (returned_each w us ys).1 × (all_types p.names (returned_each w us ys).1 ≡ listed_types us)
  each_returned no_tys t.NoExprs n s m o h = (tt, refl)
  each_returned no_tys (t.MoreExprs y ys) n s m o h = let e : false ≡ true = n in cc
  each_returned (more_tys u us) t.NoExprs n s m o h = let e : false ≡ true = n in cc
  each_returned (more_tys u us) (t.MoreExprs y ys) n s m o h =
      let v = value_there p (at_vars a vs) w st.ready u y o.0 s.0 m.0 (no_first (value_at w u y).flaws _ h) in
      let r = each_returned us ys n s.1 m.1 o.1 (no_second (value_at w u y).flaws _ h) in
      ((v.is_sound, r.0), ap (λ (ts : List Ty). ts ++ all_types p.names (returned_each w us ys).1) v.gives ∙ ap (λ (ts : List Ty). u ∷ ts) r.1)

  returns_all : (rs : Tys) → Returns rs (listed_types rs)
  returns_all no_tys = tt
  returns_all (more_tys u us) = refl

  return_done : (es : core.Exprs) (u : Walk) → Like w u → SoundExprs p (at_vars a vs) es → all_types p.names es ≡ listed_types a.results → Done p a vs w (did (core.return_ es ∷ []) u)
  return_done es u l s e = one_done (core.return_ es) u l (s, subst (Returns a.results) (sym e) (returns_all a.results)) tt

  call_returned : (at : Place) (y : t.Expr) (us : Tys) → AreSeveralHere p (at_vars a vs) w st.ready (core_of (answer_in w y)) us → (returned_call at w a.results y us).flaws ≡ [] → Done p a vs w (returned_call at w a.results y us)
  call_returned at y us m h = by_count (count_types a.results == count_types us) h
    where
      by_types : (c : Bool) → same_types a.results us ≡ c → (if c then did (core.return_ (core.expr (core_of (answer_in w y)) core.no_exprs) ∷ []) (uses y w) else faulty (flaw (place_of y) 61 ∷ []) (uses y w)).flaws ≡ []
          → Done p a vs w (if c then did (core.return_ (core.expr (core_of (answer_in w y)) core.no_exprs) ∷ []) (uses y w) else faulty (flaw (place_of y) 61 ∷ []) (uses y w))
      by_types true e g =
          return_done (core.expr (core_of (answer_in w y)) core.no_exprs) (uses y w) (like_uses y w st.ready.all_typed) (m.is_sound, tt)
          (append-nil (types_of p.names (core_of (answer_in w y))) ∙ m.give ∙ ap listed_types (sym (types_one a.results us e)))
      by_types false e g = cc

      by_count : (c : Bool)
          → (if c then (if same_types a.results us then did (core.return_ (core.expr (core_of (answer_in w y)) core.no_exprs) ∷ []) (uses y w) else faulty (flaw (place_of y) 61 ∷ []) (uses y w)) else wrong_count at w (t.MoreExprs y t.NoExprs)).flaws ≡ []
          → Done p a vs w (if c then (if same_types a.results us then did (core.return_ (core.expr (core_of (answer_in w y)) core.no_exprs) ∷ []) (uses y w) else faulty (flaw (place_of y) 61 ∷ []) (uses y w)) else wrong_count at w (t.MoreExprs y t.NoExprs))
      by_count true g = by_types (same_types a.results us) refl g
      by_count false g = absurd (never_told p (at_vars a vs) w st.ready (t.MoreExprs y t.NoExprs) (flaw at 88) g)

  by_returned : (at : Place) (ys : t.Exprs) → AllHaveOperators ys → (o : Option Tys) → several_right w ys ≡ o → (returned_by at w a.results ys o).flaws ≡ [] → Done p a vs w (returned_by at w a.results ys o)
  by_returned at ys q None e h = by_number (same_number ys a.results) refl h
    where
      by_number : (c : Bool) → same_number ys a.results ≡ c
          → (if c then record { core = core.return_ (returned_each w a.results ys).1 ∷ []; flaws = (returned_each w a.results ys).0.flaws; walk = uses_all ys w } else wrong_count at w ys).flaws ≡ []
          → Done p a vs w (if c then record { core = core.return_ (returned_each w a.results ys).1 ∷ []; flaws = (returned_each w a.results ys).0.flaws; walk = uses_all ys w } else wrong_count at w ys)
      by_number true n g =
          let r = each_returned a.results ys n results_scalar results_set q g in
          let d = return_done (returned_each w a.results ys).1 (uses_all ys w) (like_uses_all ys w st.ready.all_typed) r.0 r.1 in
          record { is_sound = d.is_sound; extends = d.extends; ready = d.ready; before = d.before; adds = d.adds }
      by_number false n g = absurd (never_told p (at_vars a vs) w st.ready ys (flaw at 88) g)
  by_returned at ys q (Some us) e h = call_returned at (first_right ys (t.NameExpr at [])) us (right_several p (at_vars a vs) w st.ready ys (t.NameExpr at []) us q e) h

  to_returned : (at : Place) (named : Bool) (ys : t.Exprs) → AllHaveOperators ys → (returned_to at a.results named ys w).flaws ≡ [] → Done p a vs w (returned_to at a.results named ys w)
  to_returned at named t.NoExprs q h = by_test (is_empty a.results || named) h
    where
      by_test : (c : Bool) → (if c then did (core.return_ core.no_exprs ∷ []) w else faulty (flaw at 88 ∷ []) w).flaws ≡ [] → Done p a vs w (if c then did (core.return_ core.no_exprs ∷ []) w else faulty (flaw at 88 ∷ []) w)
      by_test true g = one_done (core.return_ core.no_exprs) w (like_same w) (tt, tt) tt
      by_test false g = cc
  to_returned at named (t.MoreExprs y ys) q h = by_returned at (t.MoreExprs y ys) q (several_right w (t.MoreExprs y ys)) refl h

  pub returned_done : (at : Place) (ys : t.Exprs) → AllHaveOperators ys → (returned at b ys w).flaws ≡ [] → Done p a vs w (returned at b ys w)
  returned_done at ys q h =
      subst (λ (o : Option Tys). (returned_in at o b.named_results ys w).flaws ≡ [] → Done p a vs w (returned_in at o b.named_results ys w)) (sym results) (λ g. to_returned at b.named_results ys q g) h
    where
      results : b.results ≡ Some a.results
      results = let r = st.around in r.results

  -- ---- branches

  abbrev Leads : Bool → ℕ → Type 0
  Leads loops label = Contains a.breaks label × (loops ≡ true → Contains a.continues label)

  some_number : (i j : ℕ) → Some i ≡ Some j → i ≡ j
  some_number i j e = ap (or_this i) e
    where
      or_this : ℕ → Option ℕ → ℕ
      or_this k None = k
      or_this k (Some n) = n

  -- a target that is left, or continued
  leads_to : (loops is_loop : Bool) (i label : ℕ) → (is_loop || not loops) ≡ true → Contains a.breaks i × (is_loop ≡ true → Contains a.continues i) → i ≡ label → Leads loops label
  leads_to true true i label e h j = (subst (Contains a.breaks) j h.0, λ k. subst (Contains a.continues) j (h.1 refl))
  leads_to true false i label e h j = let f : false ≡ true = e in cc
  leads_to false is_loop i label e h j = (subst (Contains a.breaks) j h.0, λ k. cc)

  innermost_leads : (loops : Bool) (gs : List Target) (label : ℕ) → TargetsAreAround a gs → innermost loops gs ≡ Some label → Leads loops label
  innermost_leads loops [] label h e = let f : None ≡ Some label = e in cc
  innermost_leads loops (g ∷ gs) label h e = by_test (innermost_leads loops gs label h.2) (g.is_loop || not loops) refl e
    where
      by_test : (innermost loops gs ≡ Some label → Leads loops label) → (c : Bool) → (g.is_loop || not loops) ≡ c → (if c then Some g.label else innermost loops gs) ≡ Some label → Leads loops label
      by_test others true i j = leads_to loops g.is_loop g.label label i (h.0, h.1) (some_number g.label label j)
      by_test others false i j = others j

  named_leads : (loops : Bool) (x : List ℕ) (gs : List Target) (label : ℕ) → TargetsAreAround a gs → target_named loops x gs ≡ Some label → Leads loops label
  named_leads loops x [] label h e = let f : None ≡ Some label = e in cc
  named_leads loops x (g ∷ gs) label h e = by_name (named_leads loops x gs label h.2) (is_named x g.name) e
    where
      by_test : (c : Bool) → (g.is_loop || not loops) ≡ c → (if c then Some g.label else None) ≡ Some label → Leads loops label
      by_test true i j = leads_to loops g.is_loop g.label label i (h.0, h.1) (some_number g.label label j)
      by_test false i j = let f : None ≡ Some label = j in cc

      by_name : (target_named loops x gs ≡ Some label → Leads loops label) → (c : Bool) → (if c then (if g.is_loop || not loops then Some g.label else None) else target_named loops x gs) ≡ Some label → Leads loops label
      by_name others true j = by_test (g.is_loop || not loops) refl j
      by_name others false j = others j

  around : TargetsAreAround a b.targets
  around = let r = st.around in r.targets

  branch_done_by : (at : Place) (kind : core.BranchKind) (o : Option ℕ) → ((label : ℕ) → o ≡ Some label → Contains (labels_for kind (at_vars a vs)) label) → (branch_did at kind o w).flaws ≡ [] → Done p a vs w (branch_did at kind o w)
  branch_done_by at kind None f h = cc
  branch_done_by at kind (Some label) f h = one_done (core.branch kind label) w (like_same w) (f label refl) tt

  pub break_done : (at : Place) (n : Option Name) → (branch at break_ false n b w).flaws ≡ [] → Done p a vs w (branch at break_ false n b w)
  break_done at None h = branch_done_by at break_ (innermost false b.targets) (λ label e. let l = innermost_leads false b.targets label around e in l.0) h
  break_done at (Some n) h = branch_done_by n.place break_ (target_named false n.text b.targets) (λ label e. let l = named_leads false n.text b.targets label around e in l.0) h

  pub continue_done : (at : Place) (n : Option Name) → (branch at continue_ true n b w).flaws ≡ [] → Done p a vs w (branch at continue_ true n b w)
  continue_done at None h = branch_done_by at continue_ (innermost true b.targets) (λ label e. let l = innermost_leads true b.targets label around e in l.1 refl) h
  continue_done at (Some n) h = branch_done_by n.place continue_ (target_named true n.text b.targets) (λ label e. let l = named_leads true n.text b.targets label around e in l.1 refl) h
