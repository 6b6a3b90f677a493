-- Variable declarations of which nothing is told.
use Rattle.std.proofs.Common.{◌≡◌, List, [], ◌∷◌, ◌++◌, refl, sym, subst, Bool, true, false, Option, Some, None, if◌then◌else◌}
use Rattle.gj_base.specs.declared.place.Place.{Place}
use Rattle.go_syntax.specs.Tree as t
use Rattle.go_syntax.specs.declared.tree.Name.{Name}
use Rattle.go_type.specs.Tree.{Ty, Tys, no_tys, more_tys}
use Rattle.go_core.specs.SameType.{same_type}
use Rattle.go_core.proofs.SameTypeLemmas.{type_one}
use Rattle.go_core.specs.CoreTree as core
use Rattle.go_core.specs.CoreTree.{Target, Var, CoreProgram}
use Rattle.go_core.specs.SoundNode as node
use Rattle.go_type.specs.Named.{NamedTy}
use Rattle.go_typing.specs.Answer.{flaw}
use Rattle.go_typing.specs.Typing.{place_of}
use Rattle.go_typing.specs.Walk.{Walk, Around, Did, and_then, is_there, redeclared, var_of, with_variable, uses_all}
use Rattle.go_typing.specs.Expressions.{answer_in, value_at, value_alone, type_in, core_of, type_of}
use Rattle.go_typing.specs.Assign.{several_right, first_right, Defined, all_typed, all_in_flaws}
use Rattle.go_typing.specs.Declare.{SpecType, no_type, of_type, lost_type, spec_type_of, spec_type, spec_type_flaws, type_uses, spec_value, spec_var_type, declare_one, declare_stmts, declare_target, var_each, var_zero, fits_spec, spec_or, var_types, names_count, names_number, var_miscounted, var_by, var_values, var_spec, var_specs, spec_place, spec_known, count_told}
use Rattle.go_sound.specs.Added.{TypeIsSet, TypesAreSet}
use Rattle.go_sound.specs.GoesOn.{GoesOn}
use Rattle.go_sound.specs.SoundTyped.{HasOperators, AllHaveOperators, BoundHasOperators, IsScalarType, AreScalarTypes}
use Rattle.go_sound.specs.SoundValues.{IsReady}
use Rattle.go_sound.specs.Lost.{NothingUnknown}
use Rattle.go_sound.proofs.SoundWords.{scalar_good}
use Rattle.go_sound.proofs.SoundBodies.{no_first, no_second}
use Rattle.go_sound.proofs.GoesOnSteps.{stays, variable_on}
use Rattle.go_sound.proofs.GoesOnBodies.{zero_on, each_on, types_on, parts_used, var_spec_on, var_specs_on}
use Rattle.go_sound.specs.Grammar.{IsTypedOrValued, VarsOfGrammar}
use Rattle.go_sound.specs.SoundStatements.{Holds}
use Rattle.go_sound.proofs.Words.{at_vars, after_vars, extends_var}
use Rattle.go_sound.proofs.Ready.{State, Like, like_same, like_uses, like_uses_all, holds_part, Done, done_none, done_then, state_on, Scoped, scoped_like, done_scoped, done_also, done_like, like_more}
use Rattle.go_sound.proofs.Here.{SpecHere, spec_there, value_there, any_there, never_told_with, spec_is_known, AreSeveralHere, several_there}
use Rattle.go_sound.proofs.Defines.{At, at_state, DefinedHere, TypesHere, Others, OthersOf, defined_none, types_none, new_here, types_new, alone_value, stored_done, call_here, IsCall, right_call, scoped_variable, held_variable, variable_names, adds_variable}

module _ (p : CoreProgram) (a : node.Around) (w : Walk) where
  -- ---- a name with its value

  abbrev var_one_if : SpecType → Name → t.Expr → (Walk → Defined) → Walk → Option Place → Defined
  var_one_if s n y others u q =
      let v = spec_value w s y in
      let d = others (declare_one n q (spec_var_type s v.answer) u) in
      record {
        before = declare_stmts q u (spec_var_type s v.answer) ++ d.before;
        targets = declare_target q u (spec_var_type s v.answer) ∷ d.targets;
        values = core.expr (core_of v.answer) d.values;
        flaws = redeclared n q ++ v.flaws ++ d.flaws;
        walk = d.walk;
      }

  one_here : (s : SpecType) (n : Name) (y : t.Expr) (f : Walk → Defined) (vs : List Var) (u : Walk) → ((v : Walk) → GoesOn v (f v).walk) → Others p a w f → (h : At p a w vs u) → HasOperators y → SpecHere p (at_vars a vs) w h.ready s → (q : Option Place)
      → Holds p a.declarable u (var_one_if s n y f u q).walk → (var_one_if s n y f u q).flaws ≡ []
      → DefinedHere p a vs u (var_one_if s n y f u q).before (var_one_if s n y f u q).targets (var_one_if s n y f u q).values (var_one_if s n y f u q).walk
  one_here s n y f vs u g others h o i (Some at) k m = cc
  one_here no_type n y f vs u g others h o i None k m =
      let e = no_first (value_alone w y).flaws _ m in
      let v = any_there p (at_vars a vs) w h.ready y o e in
      new_here p a w vs u n (value_alone w y) f g others h (type_of (value_alone w y).answer) v.type_ v.has_type v.scalar v.set (alone_value p a w y v.type_ o v.has_type e) k (no_second (value_alone w y).flaws _ m)
  one_here (of_type ty) n y f vs u g others h o i None k m =
      new_here p a w vs u n (value_at w ty y) f g others h (Some ty) ty refl i.0 i.1 (λ us r. let v = value_there p (at_vars a us) w r ty y o i.0 i.1 (no_first (value_at w ty y).flaws _ m) in (v.is_sound, v.gives)) k
      (no_second (value_at w ty y).flaws _ m)
  one_here lost_type n y f vs u g others h o i None k m = absurd i

  -- what is known of the type stays so, whatever else comes
  spec_same : (s : SpecType) (vs us : List Var) (r : IsReady p (at_vars a vs) w) (q : IsReady p (at_vars a us) w) → SpecHere p (at_vars a vs) w r s → SpecHere p (at_vars a us) w q s
  spec_same no_type vs us r q i = tt
  spec_same (of_type ty) vs us r q i = i
  spec_same lost_type vs us r q i = i

  each_here : (s : SpecType) (ns : List Name) (ys : t.Exprs) → AllHaveOperators ys → (us : List Var) (q : IsReady p (at_vars a us) w) → SpecHere p (at_vars a us) w q s → Others p a w (var_each w s ns ys)
  each_here s (n ∷ ns) (t.MoreExprs y ys) o us q i vs u h k m =
      one_here s n y (var_each w s ns ys) vs u (λ v. each_on w s ns ys v) (each_here s ns ys o.1 us q i) h o.0 (spec_same s us vs q h.ready i) (is_there n u) k m
  each_here s [] ys o us q i vs u h k m = defined_none p a w vs u h
  each_here s (n ∷ ns) t.NoExprs o us q i vs u h k m = defined_none p a w vs u h

  -- ---- the several values of a call

  abbrev var_type_if : SpecType → t.Expr → Name → Ty → (Walk → Defined) → Walk → Option Place → Defined
  var_type_if s y n v others u q =
      let d = others (declare_one n q (spec_or s v) u) in
      record {
        before = declare_stmts q u (spec_or s v) ++ d.before;
        targets = declare_target q u (spec_or s v) ∷ d.targets;
        values = d.values;
        flaws = redeclared n q ++ (if fits_spec s v then [] else flaw (place_of y) 61 ∷ []) ++ d.flaws;
        walk = d.walk;
      }

  one_type_here : (s : SpecType) (y : t.Expr) (n : Name) (v : Ty) (ts : Tys) (f : Walk → Defined) (vs : List Var) (u : Walk) → ((x : Walk) → GoesOn x (f x).walk) → OthersOf p a w ts f → (h : At p a w vs u) → IsScalarType p v → TypeIsSet w.names v
      → SpecHere p (at_vars a vs) w h.ready s → (q : Option Place) → Holds p a.declarable u (var_type_if s y n v f u q).walk → (var_type_if s y n v f u q).flaws ≡ []
      → TypesHere p a vs u (var_type_if s y n v f u q).before (var_type_if s y n v f u q).targets (more_tys v ts) (var_type_if s y n v f u q).walk
  one_type_here s y n v ts f vs u g others h c d i (Some at) k m = cc
  one_type_here no_type y n v ts f vs u g others h c d i None k m = types_new p a w vs u n v ts f g others h c d k m
  one_type_here (of_type ty) y n v ts f vs u g others h c d i None k m = by_test (same_type ty v) refl m
    where
      made : (f (with_variable n ty u)).flaws ≡ []
          → TypesHere p a vs u (core.declare (var_of u.next ty) ∷ (f (with_variable n ty u)).before) (core.to_place ty (core.local_ u.next) ∷ (f (with_variable n ty u)).targets) (more_tys ty ts) (f (with_variable n ty u)).walk
      made e = types_new p a w vs u n ty ts f g others h i.0 i.1 k e

      by_test : (b : Bool) → same_type ty v ≡ b → (if b then [] else flaw (place_of y) 61 ∷ []) ++ (f (with_variable n ty u)).flaws ≡ []
          → TypesHere p a vs u (core.declare (var_of u.next ty) ∷ (f (with_variable n ty u)).before) (core.to_place ty (core.local_ u.next) ∷ (f (with_variable n ty u)).targets) (more_tys v ts) (f (with_variable n ty u)).walk
      by_test true e j =
          subst (λ (x : Ty). TypesHere p a vs u (core.declare (var_of u.next ty) ∷ (f (with_variable n ty u)).before) (core.to_place ty (core.local_ u.next) ∷ (f (with_variable n ty u)).targets) (more_tys x ts) (f (with_variable n ty u)).walk)
          (type_one ty v e) (made j)
      by_test false e j = cc
  one_type_here lost_type y n v ts f vs u g others h c d i None k m = absurd i

  each_type_here : (s : SpecType) (y : t.Expr) (ns : List Name) (ts : Tys) → names_number ns ts ≡ true → AreScalarTypes p ts → TypesAreSet w.names ts → (us : List Var) (q : IsReady p (at_vars a us) w) → SpecHere p (at_vars a us) w q s
      → OthersOf p a w ts (var_types s y ns ts)
  each_type_here s y (n ∷ ns) (more_tys v ts) e c d us q i vs u h k m =
      one_type_here s y n v ts (var_types s y ns ts) vs u (λ x. types_on s y ns ts x) (each_type_here s y ns ts e c.1 d.1 us q i) h c.0 d.0 (spec_same s us vs q h.ready i) (is_there n u) k m
  each_type_here s y [] no_tys e c d us q i vs u h k m = types_none p a w vs u h
  each_type_here s y [] (more_tys v ts) e c d us q i vs u h k m = let f : false ≡ true = e in cc
  each_type_here s y (n ∷ ns) no_tys e c d us q i vs u h k m = let f : false ≡ true = e in cc

-- ---- variables that are zero

zero_done : (p : CoreProgram) (a : node.Around) (u : Ty) → IsScalarType p u → (ns : List Name) (vs : List Var) (w : Walk) → TypeIsSet w.names u → Scoped p a vs w → Holds p a.declarable w (var_zero (of_type u) ns w).walk
    → (var_zero (of_type u) ns w).flaws ≡ [] → Done p a vs w (var_zero (of_type u) ns w)
zero_done p a u c [] vs w s h k m = done_scoped p a vs w h
zero_done p a u c (n ∷ ns) vs w s h k m = by_place (λ us v i j l g. zero_done p a u c ns us v i j l g) (is_there n w) k m
  where
    by_place : ((us : List Var) (v : Walk) → TypeIsSet v.names u → Scoped p a us v → Holds p a.declarable v (var_zero (of_type u) ns v).walk → (var_zero (of_type u) ns v).flaws ≡ [] → Done p a us v (var_zero (of_type u) ns v)) → (q : Option Place) → Holds p a.declarable w (var_zero (of_type u) ns (declare_one n q (Some u) w)).walk → redeclared n q ++ (var_zero (of_type u) ns (declare_one n q (Some u) w)).flaws ≡ []
        → Done p a vs w (and_then (record { core = declare_stmts q w (Some u); flaws = redeclared n q; walk = declare_one n q (Some u) w }) (var_zero (of_type u) ns))
    by_place others (Some at) l i = cc
    by_place others None l i =
        done_then p a vs w (record { core = core.declare (var_of w.next u) ∷ []; flaws = []; walk = with_variable n u w }) (var_zero (of_type u) ns (with_variable n u w)) (variable_on n u w)
        (record { is_sound = ((held_variable p a.declarable n u w (var_zero (of_type u) ns (with_variable n u w)).walk (zero_on (of_type u) ns (with_variable n u w)) l, scalar_good p u c), tt); extends = extends_var (var_of w.next u) vs; ready = next.ready; before = next.before; adds = adds_variable p w n u c })
        (others (var_of w.next u ∷ vs) (with_variable n u w) (subst (λ (ms : List NamedTy). TypeIsSet ms u) (sym (variable_names n u w)) s) next
        (holds_part p a.declarable w (with_variable n u w) (var_zero (of_type u) ns (with_variable n u w)).walk (var_zero (of_type u) ns (with_variable n u w)).walk (variable_on n u w) (stays (var_zero (of_type u) ns (with_variable n u w)).walk) l) i)
      where
        next : Scoped p a (var_of w.next u ∷ vs) (with_variable n u w)
        next = scoped_variable p a vs w n u c s h

like_type : (u : t.MaybeExpr) (w : Walk) → NothingUnknown w.scopes → Like w (type_uses u w)
like_type t.NoExpr w h = like_same w
like_type (t.AnExpr e) w h = like_uses e w h

pub like_parts : (ys : t.Exprs) (u : t.MaybeExpr) (w : Walk) → NothingUnknown w.scopes → Like w (uses_all ys (type_uses u w))
like_parts ys u w h = like_more w (type_uses u w) (uses_all ys (type_uses u w)) h (like_type u w h) (λ k. like_uses_all ys (type_uses u w) k)

-- ---- a specification

abbrev var_call_if : Place → Walk → SpecType → List Name → t.Expr → Tys → Walk → Bool → Did
var_call_if at w s ns y ts u c =
    if c then (let d = var_types s y ns ts u in record { core = d.before ++ core.store d.targets (core.expr (core_of (answer_in w y)) core.no_exprs) ∷ []; flaws = d.flaws; walk = d.walk })
    else var_miscounted at w s ns (t.MoreExprs y t.NoExprs) u

abbrev var_each_if : Place → Walk → SpecType → List Name → t.Exprs → Walk → Bool → Did
var_each_if at w s ns ys u c = if c then (let d = var_each w s ns ys u in record { core = d.before ++ core.store d.targets d.values ∷ []; flaws = d.flaws; walk = d.walk }) else var_miscounted at w s ns ys u

module _ (p : CoreProgram) (a : node.Around) (vs : List Var) (b : Around) (w : Walk) (st : State p a vs b w) where
  no_count : (at : Place) (s : SpecType) (ns : List Name) (ys : t.Exprs) (u : Walk) → SpecHere p (at_vars a vs) w st.ready s → (var_miscounted at w s ns ys u).flaws ≡ [] → ⊥
  no_count at s ns ys u i h = never_told_with p (at_vars a vs) w st.ready (spec_known s) ys (flaw (spec_place ns at) 84) (spec_is_known p (at_vars a vs) w st.ready s i) (no_first (count_told s (spec_place ns at) (all_typed w ys) (all_in_flaws w ys)) _ h)

  by_done : (at : Place) (s : SpecType) (ns : List Name) (ys : t.Exprs) (u : Walk) → Like w u → AllHaveOperators ys → SpecHere p (at_vars a vs) w st.ready s → (o : Option Tys) → several_right w ys ≡ o → Holds p a.declarable u (var_by at w s ns ys o u).walk
      → (var_by at w s ns ys o u).flaws ≡ [] → Done p a vs w (var_by at w s ns ys o u)
  by_done at s ns ys u l q i None e k h = by_count (names_count ns ys) k h
    where
      by_count : (c : Bool) → Holds p a.declarable u (var_each_if at w s ns ys u c).walk → (var_each_if at w s ns ys u c).flaws ≡ [] → Done p a vs w (var_each_if at w s ns ys u c)
      by_count true j g =
          stored_done p a w vs u (var_each w s ns ys u).before (var_each w s ns ys u).targets (var_each w s ns ys u).values _ (var_each w s ns ys u).walk l
          (each_here p a w s ns ys q vs st.ready i vs u (at_state p a w vs b u l st) j g)
      by_count false j g = absurd (no_count at s ns ys u i g)
  by_done at s ns ys u l q i (Some ts) e k h = by_number (names_number ns ts) refl k h
    where
      y : t.Expr
      y = first_right ys (t.NameExpr at [])

      call : IsCall w ys (t.NameExpr at []) ts
      call = right_call w ys (t.NameExpr at []) ts q e

      several : AreSeveralHere p (at_vars a vs) w st.ready (core_of (answer_in w y)) ts
      several = several_there p (at_vars a vs) w st.ready y ts call.has_operators call.several

      by_number : (c : Bool) → names_number ns ts ≡ c → Holds p a.declarable u (var_call_if at w s ns y ts u c).walk → (var_call_if at w s ns y ts u c).flaws ≡ [] → Done p a vs w (var_call_if at w s ns y ts u c)
      by_number true n j g =
          let h2 = at_state p a w vs b u l st in
          stored_done p a w vs u (var_types s y ns ts u).before (var_types s y ns ts u).targets (core.expr (core_of (answer_in w y)) core.no_exprs) _ (var_types s y ns ts u).walk l
          (call_here p a w vs u (var_types s y ns ts u).before (var_types s y ns ts u).targets ts y (var_types s y ns ts u).walk h2 call.has_operators call.several
          (each_type_here p a w s y ns ts n several.scalar several.set vs st.ready i vs u h2 j g))
      by_number false n j g = absurd (no_count at s ns (t.MoreExprs y t.NoExprs) u i g)

  zero_values : (e : t.Expr) (ns : List Name) (u : Walk) → Like w u → (o : Option Ty) → SpecHere p (at_vars a vs) w st.ready (spec_type_of o) → Holds p a.declarable u (var_zero (spec_type_of o) ns u).walk → (var_zero (spec_type_of o) ns u).flaws ≡ []
      → Done p a vs w (var_zero (spec_type_of o) ns u)
  zero_values e ns u l None i k h = absurd i
  zero_values e ns u l (Some ty) i k h =
      done_like p a vs w u (var_zero (of_type ty) ns u) l
      (zero_done p a ty i.0 ns vs u (subst (λ (ms : List NamedTy). TypeIsSet ms ty) (sym l.names) i.1) (scoped_like p a vs w u l (record { ready = st.ready; before = st.before })) k h)

  values_done : (at : Place) (x : t.MaybeExpr) (ns : List Name) (ys : t.Exprs) (u : Walk) → Like w u → IsTypedOrValued x ys → AllHaveOperators ys → SpecHere p (at_vars a vs) w st.ready (spec_type w x)
      → Holds p a.declarable u (var_values at w (spec_type w x) ns ys u).walk → (var_values at w (spec_type w x) ns ys u).flaws ≡ [] → Done p a vs w (var_values at w (spec_type w x) ns ys u)
  values_done at t.NoExpr ns t.NoExprs u l v q i k h = absurd v
  values_done at (t.AnExpr e) ns t.NoExprs u l v q i k h = zero_values e ns u l (type_of (type_in w e).answer) i k h
  values_done at x ns (t.MoreExprs y ys) u l v q i k h = by_done at (spec_type w x) ns (t.MoreExprs y ys) u l q i (several_right w (t.MoreExprs y ys)) refl k h

  spec_done : (at : Place) (ns : List Name) (x : t.MaybeExpr) (ys : t.Exprs) → IsTypedOrValued x ys → BoundHasOperators x → AllHaveOperators ys → Holds p a.declarable w (var_spec at ns x ys w).walk → (var_spec at ns x ys w).flaws ≡ []
      → Done p a vs w (var_spec at ns x ys w)
  spec_done at ns x ys v o q k h =
      done_also p a vs w (spec_type_flaws w x) (var_values at w (spec_type w x) ns ys (uses_all ys (type_uses x w)))
      (values_done at x ns ys (uses_all ys (type_uses x w)) (like_parts ys x w st.ready.all_typed) v q (spec_there p (at_vars a vs) w st.ready x o (no_first (spec_type_flaws w x) _ h)) held (no_second (spec_type_flaws w x) _ h))
    where
      held : Holds p a.declarable (uses_all ys (type_uses x w)) (var_spec at ns x ys w).walk
      held = holds_part p a.declarable w (uses_all ys (type_uses x w)) (var_spec at ns x ys w).walk (var_spec at ns x ys w).walk (parts_used ys x w) (stays (var_spec at ns x ys w).walk) k

pub var_specs_done : (p : CoreProgram) (a : node.Around) (at : Place) (xs : t.ValueSpecs) → VarsOfGrammar xs → (vs : List Var) (b : Around) (w : Walk) → State p a vs b w → Holds p a.declarable w (var_specs at xs w).walk → (var_specs at xs w).flaws ≡ []
    → Done p a vs w (var_specs at xs w)
var_specs_done p a at t.NoValues o vs b w s k h = done_none p a vs b w s
var_specs_done p a at (t.MoreValues ns u ys xs) o vs b w s k h =
    done_then p a vs w d (var_specs at xs d.walk) (var_spec_on at ns u ys w) first
    (var_specs_done p a at xs o.3 (after_vars d.core vs) b d.walk (state_on p a vs b w d s (var_spec_on at ns u ys w) first)
    (holds_part p a.declarable w d.walk (var_specs at xs d.walk).walk (var_specs at xs d.walk).walk (var_spec_on at ns u ys w) (stays (var_specs at xs d.walk).walk) k) (no_second d.flaws _ h))
  where
    d : Did
    d = var_spec at ns u ys w

    first : Done p a vs w d
    first = spec_done p a vs b w s at ns u ys o.0 o.1 o.2 (holds_part p a.declarable w w d.walk (var_specs at xs d.walk).walk (stays w) (var_specs_on at xs d.walk) k) (no_first d.flaws _ h)
