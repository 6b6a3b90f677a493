-- Variables that statements declare: short declarations and variable declarations of which nothing is told.
use Rattle.std.proofs.Common.{◌≡◌, ◌≤◌, ◌<◌, ℕ, suc, List, [], ◌∷◌, ◌++◌, refl, sym, subst, ap, ◌∙◌, arith, Bool, true, false, ◌&&◌, Option, Some, None, if◌then◌else◌, Contains}
use Rattle.std.proofs.lemmas.List.Elements.{Contains-append_left, Contains-push}
use Rattle.gj_base.specs.declared.place.Place.{Place}
use Rattle.go_syntax.specs.Tree as t
use Rattle.go_syntax.specs.declared.tree.Name.{Name}
use Rattle.go_type.specs.Tree.{Ty, Tys, no_tys, more_tys}
use Rattle.go_type.specs.Named.{NamedTy}
use Rattle.go_core.specs.CoreTree as core
use Rattle.go_core.specs.CoreTree.{Target, Var, CoreProgram}
use Rattle.go_core.specs.TypeOf.{listed_types}
use Rattle.go_core.specs.SoundNode as node
use Rattle.go_core.specs.Sound.{Gives, LiesAt, SoundExpr, SoundStmts, SoundTargets}
use Rattle.go_typing.specs.Env.{Decl, variable, unknown, is_blank}
use Rattle.go_typing.specs.Answer.{Flaw, flaw}
use Rattle.go_typing.specs.Scopes.{last_changed, with_bind}
use Rattle.go_typing.specs.Typing.{place_of}
use Rattle.go_typing.specs.Walk.{Walk, Around, Did, body, bind_of, is_there, with_name, fresh, var_of, noted, with_variable, uses_all}
use Rattle.go_typing.specs.Expressions.{Valued, answer_in, value_alone, core_of, type_of, several_types}
use Rattle.go_typing.specs.Assign.{left_of, left_flaws, target_of, takes, value_for, same_number, count_of, several_right, first_right, Fresh, new_name, old_name, blank_name, no_name, fresh_of, Defined, with_new, new_stmts, new_target, define_new, define_one, define_each, define_flaws, defined_did, define_type_new, define_type, define_types, define_miscounted, define_by, define, sides_typed, sides_told, old_flaws, names_flaws, first_place, undeclared, where_typed, all_typed, all_in_flaws, fresh_uses}
use Rattle.go_sound.specs.Added.{TypeIsSet, TypesAreSet}
use Rattle.go_sound.specs.GoesOn.{GoesOn}
use Rattle.go_sound.specs.SoundTyped.{HasOperators, AllHaveOperators, IsScalarType, AreScalarTypes}
use Rattle.go_sound.specs.SoundValues.{IsReady}
use Rattle.go_sound.proofs.SoundWords.{scalar_good}
use Rattle.go_sound.proofs.SoundBodies.{no_first, no_second}
use Rattle.go_sound.proofs.GoesOnSteps.{stays, then_on, define_each_on, define_types_on, variable_on, uses_all_on, fresh_sides_on}
use Rattle.go_sound.specs.SoundStatements.{VariablesBefore, Holds}
use Rattle.go_sound.proofs.Words.{at_vars, after_vars, after_append, sound_append, Extends, extends_same, extends_then, extends_less, extends_var, newest, one_of_three, two_of_three, three_of_three}
use Rattle.go_sound.proofs.Ready.{State, Like, like_same, like_noted, ready_vars, holds_part, Done, Scoped, scoped_like, scoped_named, scoped_fresh, Adds, adds_none, adds_like, adds_then, adds_var, like_fresh_sides}
use Rattle.go_sound.proofs.Here.{any_there, never_told_before, AreSeveralHere, several_there}
use Rattle.go_sound.proofs.Stores.{left_here, Stored, stored_none, stored_more, stored_several, left_stored, target_takes, sides_untold}

-- ---- a variable comes

abbrev pub with_scope : Name → Decl → Walk → Walk
with_scope n d w = record w { scopes = last_changed (with_bind (bind_of n d)) w.scopes }

pub if_names : (c : Bool) (w v : Walk) → v.names ≡ w.names → (if c then w else v).names ≡ w.names
if_names true w v h = refl
if_names false w v h = h

pub if_vars : (c : Bool) (w v : Walk) → v.vars ≡ w.vars → (if c then w else v).vars ≡ w.vars
if_vars true w v h = refl
if_vars false w v h = h

pub if_next : (c : Bool) (w v : Walk) → v.next ≡ w.next → (if c then w else v).next ≡ w.next
if_next true w v h = refl
if_next false w v h = h

pub if_lost : (c : Bool) (w v : Walk) → v.lost ≡ w.lost → (if c then w else v).lost ≡ w.lost
if_lost true w v h = refl
if_lost false w v h = h

pub named_names : (n : Name) (d : Decl) (w : Walk) → (with_name n d w).names ≡ w.names
named_names n d w = if_names (is_blank n.text) w (with_scope n d w) refl

noted_vars : (n : Name) (w : Walk) → (noted n w).vars ≡ w.vars
noted_vars n w = if_vars (is_blank n.text) w (record w { declared = w.declared ++ n ∷ [] }) refl

pub variable_names : (n : Name) (u : Ty) (w : Walk) → (with_variable n u w).names ≡ w.names
variable_names n u w = let l = like_noted n (fresh u w) in named_names n (variable w.next u) (noted n (fresh u w)) ∙ l.names

variable_vars : (n : Name) (u : Ty) (w : Walk) → (with_variable n u w).vars ≡ w.vars ++ var_of w.next u ∷ []
variable_vars n u w = if_vars (is_blank n.text) (noted n (fresh u w)) (with_scope n (variable w.next u) (noted n (fresh u w))) refl ∙ noted_vars n (fresh u w)

variable_next : (n : Name) (u : Ty) (w : Walk) → (with_variable n u w).next ≡ suc w.next
variable_next n u w = let l = like_noted n (fresh u w) in if_next (is_blank n.text) (noted n (fresh u w)) (with_scope n (variable w.next u) (noted n (fresh u w))) refl ∙ l.next

variable_lost : (n : Name) (u : Ty) (w : Walk) → (with_variable n u w).lost ≡ w.lost
variable_lost n u w = let l = like_noted n (fresh u w) in if_lost (is_blank n.text) (noted n (fresh u w)) (with_scope n (variable w.next u) (noted n (fresh u w))) refl ∙ l.lost

abbrev number_or : ℕ → Decl → ℕ
number_or k (variable id u) = id
number_or k _ = k

pub variable_number : (i j : ℕ) (u v : Ty) → variable i u ≡ variable j v → i ≡ j
variable_number i j u v e = ap (number_or 0) e

abbrev is_variable : Decl → Bool
is_variable (variable id u) = true
is_variable _ = false

pub variable_known : (id : ℕ) (u : Ty) → variable id u ≡ unknown → ⊥
variable_known id u e = let f : true ≡ false = ap is_variable e in cc

pub scoped_variable : (p : CoreProgram) (a : node.Around) (vs : List Var) (w : Walk) (n : Name) (u : Ty) → IsScalarType p u → TypeIsSet w.names u → Scoped p a vs w → Scoped p a (var_of w.next u ∷ vs) (with_variable n u w)
scoped_variable p a vs w n u s t h =
    scoped_named p a (var_of w.next u ∷ vs) (noted n (fresh u w)) n (variable w.next u) (s, newest (var_of w.next u) vs) (subst (λ (ns : List NamedTy). TypeIsSet ns u) (sym same.names) t) (variable_known w.next u) before
    (scoped_like p a (var_of w.next u ∷ vs) (fresh u w) (noted n (fresh u w)) same (scoped_fresh p a vs w u h))
  where
    same : Like (fresh u w) (noted n (fresh u w))
    same = like_noted n (fresh u w)

    before : (id : ℕ) (v : Ty) → variable w.next u ≡ variable id v → id < (noted n (fresh u w)).next
    before id v e = let i = variable_number w.next id u v e in let j = same.next in omega arith

pub adds_variable : (p : CoreProgram) (w : Walk) (n : Name) (u : Ty) → IsScalarType p u → Adds p w (with_variable n u w)
adds_variable p w n u s = adds_var p w (with_variable n u w) (var_of w.next u) (variable_vars n u w) (variable_names n u w) (variable_lost n u w) s

pub adds_named : (p : CoreProgram) (w : Walk) (n : Name) (d : Decl) → Adds p w (with_name n d w)
adds_named p w n d = adds_none p w (with_name n d w) (if_vars (is_blank n.text) w (with_scope n d w) refl) (named_names n d w) (if_lost (is_blank n.text) w (with_scope n d w) refl)

-- the program holds a variable that is declared
pub held_variable : (p : CoreProgram) (declarable : List Var) (n : Name) (u : Ty) (w z : Walk) → GoesOn (with_variable n u w) z → Holds p declarable w z → Contains declarable (var_of w.next u)
held_variable p declarable n u w z g h =
    h.variables (var_of w.next u) (omega arith)
    (subst (λ (xs : List Var). Contains xs (var_of w.next u)) (sym g.variables_added) (Contains-append_left (with_variable n u w).vars g.variables (var_of w.next u)
    (subst (λ (xs : List Var). Contains xs (var_of w.next u)) (sym (variable_vars n u w)) (Contains-push w.vars (var_of w.next u)))))

-- ---- several names, one after the other: values are typed in w, and names come to u

pub record At (p : CoreProgram) (a : node.Around) (w : Walk) (vs : List Var) (u : Walk) : Type 0 where
  pub ready : IsReady p (at_vars a vs) w
  pub before : VariablesBefore w.next w.scopes
  pub less : w.next ≤ u.next
  pub names : u.names ≡ w.names
  pub scoped : Scoped p a vs u

pub record DefinedHere (p : CoreProgram) (a : node.Around) (vs : List Var) (u : Walk) (bs : List core.Stmt) (gs : List Target) (es : core.Exprs) (z : Walk) : Type 0 where
  pub declared : SoundStmts p (at_vars a vs) (body bs)
  pub extends : Extends u.next vs (after_vars bs vs)
  pub scoped : Scoped p a (after_vars bs vs) z
  pub stored : Stored p (at_vars a (after_vars bs vs)) gs es
  pub adds : Adds p u z

pub record TypesHere (p : CoreProgram) (a : node.Around) (vs : List Var) (u : Walk) (bs : List core.Stmt) (gs : List Target) (us : Tys) (z : Walk) : Type 0 where
  pub declared : SoundStmts p (at_vars a vs) (body bs)
  pub extends : Extends u.next vs (after_vars bs vs)
  pub scoped : Scoped p a (after_vars bs vs) z
  pub targets : SoundTargets p (at_vars a (after_vars bs vs)) gs (listed_types us)
  pub adds : Adds p u z

some_ty : (u v : Ty) → Some u ≡ Some v → u ≡ v
some_ty u v e = ap (or_this u) e
  where
    or_this : Ty → Option Ty → Ty
    or_this s None = s
    or_this s (Some t) = t

module _ (p : CoreProgram) (a : node.Around) (w : Walk) where
  pub at_state : (vs : List Var) (b : Around) (u : Walk) → Like w u → State p a vs b w → At p a w vs u
  at_state vs b u l s = record { ready = s.ready; before = s.before; less = let e = l.next in omega arith; names = l.names; scoped = scoped_like p a vs w u l (record { ready = s.ready; before = s.before }) }

  at_variable : (vs : List Var) (u : Walk) (n : Name) (ty : Ty) → IsScalarType p ty → TypeIsSet w.names ty → At p a w vs u → At p a w (var_of u.next ty ∷ vs) (with_variable n ty u)
  at_variable vs u n ty s t h = record {
    ready = ready_vars p a w.next vs (var_of u.next ty ∷ vs) w (extends_less w.next u.next vs (var_of u.next ty ∷ vs) h.less (extends_var (var_of u.next ty) vs)) h.before h.ready;
    before = h.before;
    less = let e = variable_next n ty u in let l = h.less in omega arith;
    names = variable_names n ty u ∙ h.names;
    scoped = scoped_variable p a vs u n ty s (subst (λ (ns : List NamedTy). TypeIsSet ns ty) (sym h.names) t) h.scoped;
  }

  -- what is ready is so with more variables
  ready_after : (vs us : List Var) (u : Walk) → At p a w vs u → Extends u.next vs us → IsReady p (at_vars a us) w
  ready_after vs us u h e = ready_vars p a w.next vs us w (extends_less w.next u.next vs us h.less e) h.before h.ready

  new_extends : (vs : List Var) (u : Walk) (n : Name) (ty : Ty) (us : List Var) → Extends (with_variable n ty u).next (var_of u.next ty ∷ vs) us → Extends u.next vs us
  new_extends vs u n ty us e = extends_then u.next (with_variable n ty u).next vs (var_of u.next ty ∷ vs) us (let f = variable_next n ty u in omega arith) (extends_var (var_of u.next ty) vs) e

  -- the variable lies there
  new_place : (vs : List Var) (u : Walk) (n : Name) (ty : Ty) (us : List Var) → Extends (with_variable n ty u).next (var_of u.next ty ∷ vs) us → LiesAt p us (core.local_ u.next) ty
  new_place vs u n ty us e = e.same u.next (let f = variable_next n ty u in omega arith) ∙ newest (var_of u.next ty) vs

  defined_new : (vs : List Var) (u : Walk) (n : Name) (ty : Ty) (c : core.Expr) (bs : List core.Stmt) (gs : List Target) (es : core.Exprs) (z : Walk) → IsScalarType p ty → Contains a.declarable (var_of u.next ty)
      → ((us : List Var) → IsReady p (at_vars a us) w → SoundExpr p (at_vars a us) c × Gives p c ty) → At p a w vs u → DefinedHere p a (var_of u.next ty ∷ vs) (with_variable n ty u) bs gs es z
      → DefinedHere p a vs u (core.declare (var_of u.next ty) ∷ bs) (core.to_place ty (core.local_ u.next) ∷ gs) (core.expr c es) z
  defined_new vs u n ty c bs gs es z s k value h d =
      let v = value (after_vars bs (var_of u.next ty ∷ vs)) (ready_after vs (after_vars bs (var_of u.next ty ∷ vs)) u h (new_extends vs u n ty (after_vars bs (var_of u.next ty ∷ vs)) d.extends)) in
      let l = new_place vs u n ty (after_vars bs (var_of u.next ty ∷ vs)) d.extends in
      record {
        declared = ((k, scalar_good p ty s), d.declared);
        extends = new_extends vs u n ty (after_vars bs (var_of u.next ty ∷ vs)) d.extends;
        scoped = d.scoped;
        adds = adds_then p u (with_variable n ty u) z (adds_variable p u n ty s) d.adds;
        stored = stored_more p (at_vars a (after_vars bs (var_of u.next ty ∷ vs))) (core.to_place ty (core.local_ u.next)) c ty gs es v.0 v.1 ((ty, l), l, refl) d.stored;
      }

  defined_old : (vs : List Var) (u : Walk) (g : Target) (c : core.Expr) (bs : List core.Stmt) (gs : List Target) (es : core.Exprs) (z : Walk)
      → ((us : List Var) → IsReady p (at_vars a us) w → Stored p (at_vars a us) gs es → Stored p (at_vars a us) (g ∷ gs) (core.expr c es)) → At p a w vs u → DefinedHere p a vs u bs gs es z
      → DefinedHere p a vs u bs (g ∷ gs) (core.expr c es) z
  defined_old vs u g c bs gs es z store h d = record {
    declared = d.declared;
    extends = d.extends;
    scoped = d.scoped;
    adds = d.adds;
    stored = store (after_vars bs vs) (ready_after vs (after_vars bs vs) u h d.extends) d.stored;
  }

  pub defined_none : (vs : List Var) (u : Walk) → At p a w vs u → DefinedHere p a vs u [] [] core.no_exprs u
  defined_none vs u h = record { declared = tt; extends = extends_same u.next vs; scoped = h.scoped; stored = stored_none p (at_vars a vs); adds = adds_like p u u (like_same u) }

  -- what comes after
  abbrev pub Others : (Walk → Defined) → Type 0
  Others f = (vs : List Var) (u : Walk) → At p a w vs u → Holds p a.declarable u (f u).walk → (f u).flaws ≡ [] → DefinedHere p a vs u (f u).before (f u).targets (f u).values (f u).walk

  new_holds : (u : Walk) (n : Name) (ty : Ty) (z : Walk) → Holds p a.declarable u z → Holds p a.declarable (with_variable n ty u) z
  new_holds u n ty z h = holds_part p a.declarable u (with_variable n ty u) z z (variable_on n ty u) (stays z) h

  -- a new variable of the type of a value
  pub new_here : (vs : List Var) (u : Walk) (n : Name) (v : Valued) (f : Walk → Defined) → ((x : Walk) → GoesOn x (f x).walk) → Others f → At p a w vs u → (o : Option Ty) (ty : Ty) → o ≡ Some ty → IsScalarType p ty → TypeIsSet w.names ty
      → ((us : List Var) → IsReady p (at_vars a us) w → SoundExpr p (at_vars a us) (core_of v.answer) × Gives p (core_of v.answer) ty) → Holds p a.declarable u (f (with_new n o u)).walk → (f (with_new n o u)).flaws ≡ []
      → DefinedHere p a vs u (new_stmts u o ++ (f (with_new n o u)).before) (new_target u o ∷ (f (with_new n o u)).targets) (core.expr (core_of v.answer) (f (with_new n o u)).values) (f (with_new n o u)).walk
  new_here vs u n v f g others h None ty e s t value k m = let i : None ≡ Some ty = e in cc
  new_here vs u n v f g others h (Some x) ty e s t value k m = subst (λ (y : Ty). IsScalarType p y → TypeIsSet w.names y → ((us : List Var) → IsReady p (at_vars a us) w → SoundExpr p (at_vars a us) (core_of v.answer) × Gives p (core_of v.answer) y)
      → DefinedHere p a vs u (core.declare (var_of u.next x) ∷ (f (with_variable n x u)).before) (core.to_place x (core.local_ u.next) ∷ (f (with_variable n x u)).targets) (core.expr (core_of v.answer) (f (with_variable n x u)).values) (f (with_variable n x u)).walk)
      (some_ty x ty e) made s t value
    where
      made : IsScalarType p x → TypeIsSet w.names x → ((us : List Var) → IsReady p (at_vars a us) w → SoundExpr p (at_vars a us) (core_of v.answer) × Gives p (core_of v.answer) x)
          → DefinedHere p a vs u (core.declare (var_of u.next x) ∷ (f (with_variable n x u)).before) (core.to_place x (core.local_ u.next) ∷ (f (with_variable n x u)).targets) (core.expr (core_of v.answer) (f (with_variable n x u)).values) (f (with_variable n x u)).walk
      made q r here =
          defined_new vs u n x (core_of v.answer) (f (with_variable n x u)).before (f (with_variable n x u)).targets (f (with_variable n x u)).values (f (with_variable n x u)).walk q
          (held_variable p a.declarable n x u (f (with_variable n x u)).walk (g (with_variable n x u)) k) here h
          (others (var_of u.next x ∷ vs) (with_variable n x u) (at_variable vs u n x q r h) (new_holds u n x (f (with_variable n x u)).walk k) m)

  -- any value, with any further variables
  pub alone_value : (y : t.Expr) (ty : Ty) → HasOperators y → type_of (value_alone w y).answer ≡ Some ty → (value_alone w y).flaws ≡ [] → (us : List Var) → IsReady p (at_vars a us) w
      → SoundExpr p (at_vars a us) (core_of (value_alone w y).answer) × Gives p (core_of (value_alone w y).answer) ty
  alone_value y ty o e h us r =
      let v = any_there p (at_vars a us) w r y o h in
      (v.is_sound, subst (Gives p (core_of (value_alone w y).answer)) (some_ty v.type_ ty (sym v.has_type ∙ e)) v.gives)

  -- a value for `_`
  blank_value : (vs : List Var) (u : Walk) (y : t.Expr) (f : Walk → Defined) → Others f → At p a w vs u → HasOperators y → Holds p a.declarable u (f u).walk → (value_alone w y).flaws ++ (f u).flaws ≡ []
      → DefinedHere p a vs u (f u).before (core.blank ∷ (f u).targets) (core.expr (core_of (value_alone w y).answer) (f u).values) (f u).walk
  blank_value vs u y f others h o k m =
      defined_old vs u core.blank (core_of (value_alone w y).answer) (f u).before (f u).targets (f u).values (f u).walk stored h (others vs u h k (no_second (value_alone w y).flaws _ m))
    where
      stored : (us : List Var) → IsReady p (at_vars a us) w → Stored p (at_vars a us) (f u).targets (f u).values → Stored p (at_vars a us) (core.blank ∷ (f u).targets) (core.expr (core_of (value_alone w y).answer) (f u).values)
      stored us r q = let v = any_there p (at_vars a us) w r y o (no_first (value_alone w y).flaws _ m) in stored_more p (at_vars a us) core.blank (core_of (value_alone w y).answer) v.type_ (f u).targets (f u).values v.is_sound v.gives tt q

  -- `xs := ys`, name by name

  one_here : (vs : List Var) (u : Walk) (x : Fresh) (y : t.Expr) (f : Walk → Defined) → ((v : Walk) → GoesOn v (f v).walk) → Others f → At p a w vs u → HasOperators y → Holds p a.declarable u (define_one w u x y f).walk → (define_one w u x y f).flaws ≡ []
      → DefinedHere p a vs u (define_one w u x y f).before (define_one w u x y f).targets (define_one w u x y f).values (define_one w u x y f).walk
  one_here vs u (new_name n) y f g others h o k m = by_place (is_there n u) k m
    where
      by_place : (q : Option Place) → Holds p a.declarable u (define_new w u n q y f).walk → (define_new w u n q y f).flaws ≡ []
          → DefinedHere p a vs u (define_new w u n q y f).before (define_new w u n q y f).targets (define_new w u n q y f).values (define_new w u n q y f).walk
      by_place None l i =
          let e = no_first (value_alone w y).flaws _ i in
          let v = any_there p (at_vars a vs) w h.ready y o e in
          new_here vs u n (value_alone w y) f g others h (type_of (value_alone w y).answer) v.type_ v.has_type v.scalar v.set (alone_value y v.type_ o v.has_type e) l (no_second (value_alone w y).flaws _ i)
      by_place (Some at) l i = blank_value vs u y f others h o l i
  one_here vs u (old_name e) y f g others h o k m =
      defined_old vs u (target_of (left_of w e)) (core_of (value_for w (left_of w e) y).answer) (f u).before (f u).targets (f u).values (f u).walk
      (λ us r q. left_stored p (at_vars a us) w r e y (f u).targets (f u).values o (no_first (value_for w (left_of w e) y).flaws _ m) q) h (others vs u h k (no_second (value_for w (left_of w e) y).flaws _ m))
  one_here vs u blank_name y f g others h o k m = blank_value vs u y f others h o k m
  one_here vs u (no_name q) y f g others h o k m = blank_value vs u y f others h o k m

  each_here : (xs ys : t.Exprs) → AllHaveOperators ys → Others (define_each w xs ys)
  each_here (t.MoreExprs x xs) (t.MoreExprs y ys) o vs u h k m = one_here vs u (fresh_of w x) y (define_each w xs ys) (λ v. define_each_on w xs ys v) (each_here xs ys o.1) h o.0 k m
  each_here t.NoExprs ys o vs u h k m = defined_none vs u h
  each_here (t.MoreExprs x xs) t.NoExprs o vs u h k m = defined_none vs u h

  -- ---- the several values of a call, name by name

  abbrev pub OthersOf : Tys → (Walk → Defined) → Type 0
  OthersOf us f = (vs : List Var) (u : Walk) → At p a w vs u → Holds p a.declarable u (f u).walk → (f u).flaws ≡ [] → TypesHere p a vs u (f u).before (f u).targets us (f u).walk

  pub types_none : (vs : List Var) (u : Walk) → At p a w vs u → TypesHere p a vs u [] [] no_tys u
  types_none vs u h = record { declared = tt; extends = extends_same u.next vs; scoped = h.scoped; targets = tt; adds = adds_like p u u (like_same u) }

  pub types_new : (vs : List Var) (u : Walk) (n : Name) (ty : Ty) (us : Tys) (f : Walk → Defined) → ((x : Walk) → GoesOn x (f x).walk) → OthersOf us f → At p a w vs u → IsScalarType p ty → TypeIsSet w.names ty
      → Holds p a.declarable u (f (with_variable n ty u)).walk → (f (with_variable n ty u)).flaws ≡ []
      → TypesHere p a vs u (core.declare (var_of u.next ty) ∷ (f (with_variable n ty u)).before) (core.to_place ty (core.local_ u.next) ∷ (f (with_variable n ty u)).targets) (more_tys ty us) (f (with_variable n ty u)).walk
  types_new vs u n ty us f g others h s t k m =
      let d = others (var_of u.next ty ∷ vs) (with_variable n ty u) (at_variable vs u n ty s t h) (new_holds u n ty (f (with_variable n ty u)).walk k) m in
      let l = new_place vs u n ty (after_vars (f (with_variable n ty u)).before (var_of u.next ty ∷ vs)) d.extends in
      record {
        declared = ((held_variable p a.declarable n ty u (f (with_variable n ty u)).walk (g (with_variable n ty u)) k, scalar_good p ty s), d.declared);
        extends = new_extends vs u n ty (after_vars (f (with_variable n ty u)).before (var_of u.next ty ∷ vs)) d.extends;
        scoped = d.scoped;
        adds = adds_then p u (with_variable n ty u) (f (with_variable n ty u)).walk (adds_variable p u n ty s) d.adds;
        targets = (((ty, l), l, refl), d.targets);
      }

  types_blank : (vs : List Var) (u : Walk) (ty : Ty) (us : Tys) (f : Walk → Defined) → OthersOf us f → At p a w vs u → Holds p a.declarable u (f u).walk → (f u).flaws ≡ []
      → TypesHere p a vs u (f u).before (core.blank ∷ (f u).targets) (more_tys ty us) (f u).walk
  types_blank vs u ty us f others h k m = let d = others vs u h k m in record { declared = d.declared; extends = d.extends; scoped = d.scoped; targets = (tt, d.targets); adds = d.adds }

  one_type_here : (vs : List Var) (u : Walk) (y : t.Expr) (x : Fresh) (ty : Ty) (us : Tys) (f : Walk → Defined) → ((v : Walk) → GoesOn v (f v).walk) → OthersOf us f → At p a w vs u → IsScalarType p ty → TypeIsSet w.names ty
      → Holds p a.declarable u (define_type w u y x ty f).walk → (define_type w u y x ty f).flaws ≡ [] → TypesHere p a vs u (define_type w u y x ty f).before (define_type w u y x ty f).targets (more_tys ty us) (define_type w u y x ty f).walk
  one_type_here vs u y (new_name n) ty us f g others h s t k m = by_place (is_there n u) k m
    where
      by_place : (q : Option Place) → Holds p a.declarable u (define_type_new u n q ty f).walk → (define_type_new u n q ty f).flaws ≡ []
          → TypesHere p a vs u (define_type_new u n q ty f).before (define_type_new u n q ty f).targets (more_tys ty us) (define_type_new u n q ty f).walk
      by_place None l i = types_new vs u n ty us f g others h s t l i
      by_place (Some at) l i = types_blank vs u ty us f others h l i
  one_type_here vs u y (old_name e) ty us f g others h s t k m =
      let d = others vs u h k (three_of_three (left_flaws (left_of w e)) (if takes (left_of w e) ty then [] else flaw (place_of y) 61 ∷ []) (f u).flaws m) in
      let r = ready_after vs (after_vars (f u).before vs) u h d.extends in
      record {
        declared = d.declared;
        extends = d.extends;
        scoped = d.scoped;
        adds = d.adds;
        targets = (
          target_takes p (at_vars a (after_vars (f u).before vs)) w r (left_of w e) ty (left_here p (at_vars a (after_vars (f u).before vs)) w r e (one_of_three (left_flaws (left_of w e)) (if takes (left_of w e) ty then [] else flaw (place_of y) 61 ∷ []) (f u).flaws m))
              (taken (takes (left_of w e) ty) refl (two_of_three (left_flaws (left_of w e)) (if takes (left_of w e) ty then [] else flaw (place_of y) 61 ∷ []) (f u).flaws m)),
          d.targets,
        );
      }
    where
      taken : (c : Bool) → takes (left_of w e) ty ≡ c → (if c then [] else flaw (place_of y) 61 ∷ []) ≡ [] → takes (left_of w e) ty ≡ true
      taken true i j = i
      taken false i j = cc
  one_type_here vs u y blank_name ty us f g others h s t k m = types_blank vs u ty us f others h k m
  one_type_here vs u y (no_name q) ty us f g others h s t k m = types_blank vs u ty us f others h k m

  each_type_here : (y : t.Expr) (xs : t.Exprs) (us : Tys) → same_number xs us ≡ true → AreScalarTypes p us → TypesAreSet w.names us → OthersOf us (define_types w y xs us)
  each_type_here y (t.MoreExprs x xs) (more_tys ty us) n s t vs u h k m =
      one_type_here vs u y (fresh_of w x) ty us (define_types w y xs us) (λ v. define_types_on w y xs us v) (each_type_here y xs us n s.1 t.1) h s.0 t.0 k m
  each_type_here y t.NoExprs no_tys n s t vs u h k m = types_none vs u h
  each_type_here y t.NoExprs (more_tys ty us) n s t vs u h k m = let e : false ≡ true = n in cc
  each_type_here y (t.MoreExprs x xs) no_tys n s t vs u h k m = let e : false ≡ true = n in cc

  -- ---- what is declared, and then stored

  pub stored_done : (vs : List Var) (u : Walk) (bs : List core.Stmt) (gs : List Target) (es : core.Exprs) (fs : List Flaw) (z : Walk) → Like w u → DefinedHere p a vs u bs gs es z
      → Done p a vs w (record { core = bs ++ core.store gs es ∷ []; flaws = fs; walk = z })
  stored_done vs u bs gs es fs z l d = record {
    is_sound = sound_append p a bs (core.store gs es ∷ []) vs d.declared ((q.values, q.targets), tt);
    extends = subst (Extends w.next vs) (sym joined) (extends_less w.next u.next vs (after_vars bs vs) (let e = l.next in omega arith) d.extends);
    ready = subst (λ (us : List Var). IsReady p (at_vars a us) z) (sym joined) c.ready;
    before = c.before;
    adds = adds_then p w u z (adds_like p w u l) d.adds;
  }
    where
      q : Stored p (at_vars a (after_vars bs vs)) gs es
      q = d.stored

      c : Scoped p a (after_vars bs vs) z
      c = d.scoped

      joined : after_vars (bs ++ core.store gs es ∷ []) vs ≡ after_vars bs vs
      joined = after_append bs (core.store gs es ∷ []) vs

  -- the one call whose values are stored
  pub call_here : (vs : List Var) (u : Walk) (bs : List core.Stmt) (gs : List Target) (us : Tys) (y : t.Expr) (z : Walk) → At p a w vs u → HasOperators y → several_types (answer_in w y) ≡ Some us → TypesHere p a vs u bs gs us z
      → DefinedHere p a vs u bs gs (core.expr (core_of (answer_in w y)) core.no_exprs) z
  call_here vs u bs gs us y z h o e d =
      let m = several_there p (at_vars a (after_vars bs vs)) w (ready_after vs (after_vars bs vs) u h d.extends) y us o e in
      record { declared = d.declared; extends = d.extends; scoped = d.scoped; stored = stored_several p (at_vars a (after_vars bs vs)) gs (core_of (answer_in w y)) us m.is_sound m.give d.targets; adds = d.adds }

-- the call that stands alone on the right
pub record IsCall (w : Walk) (ys : t.Exprs) (d : t.Expr) (us : Tys) : Type 0 where
  pub has_operators : HasOperators (first_right ys d)
  pub several : several_types (answer_in w (first_right ys d)) ≡ Some us

pub right_call : (w : Walk) (ys : t.Exprs) (d : t.Expr) (us : Tys) → AllHaveOperators ys → several_right w ys ≡ Some us → IsCall w ys d us
right_call w t.NoExprs d us o e = let f : None ≡ Some us = e in cc
right_call w (t.MoreExprs y t.NoExprs) d us o e = record { has_operators = o.0; several = e }
right_call w (t.MoreExprs y (t.MoreExprs z zs)) d us o e = let f : None ≡ Some us = e in cc

abbrev define_call_if : Place → Walk → List Flaw → t.Exprs → t.Expr → Tys → Walk → Bool → Did
define_call_if at w fs xs y us u c =
    if c then (let d = define_types w y xs us u in record { core = d.before ++ core.store d.targets (core.expr (core_of (answer_in w y)) core.no_exprs) ∷ []; flaws = d.flaws ++ fs; walk = d.walk })
    else define_miscounted at w fs xs (t.MoreExprs y t.NoExprs) u

module _ (p : CoreProgram) (a : node.Around) (vs : List Var) (b : Around) (w : Walk) (s : State p a vs b w) where
  -- ---- `xs := ys`

  -- a fault of the statement itself is told
  sides_always : (f : Flaw) (fs : List Flaw) (xs ys : t.Exprs) → (fs ≡ [] → old_flaws w xs ≡ [] → sides_typed w xs ≡ true) → sides_told f w fs xs ys ≡ [] → ⊥
  sides_always f fs xs ys sides h =
      let told = where_typed (sides_typed w xs && all_typed w ys) (all_in_flaws w ys ++ fs) (f ∷ []) in
      never_told_before p (at_vars a vs) w s.ready (sides_typed w xs) fs ys f (λ q. sides q (no_second told (old_flaws w xs) h)) (no_first told (old_flaws w xs) h)

  names_untold : (xs : t.Exprs) → names_flaws w [] xs ≡ [] → old_flaws w xs ≡ [] → sides_typed w xs ≡ true
  names_untold xs q o = sides_untold p (at_vars a vs) w s.ready [] xs q o

  pub none_undeclared : (at : Place) (xs ys : t.Exprs) → (undeclared at xs ys w).flaws ≡ [] → ⊥
  none_undeclared at xs ys h = sides_always (flaw (first_place xs at) 83) (names_flaws w [] xs) xs ys (names_untold xs) h

  define_by_done : (at : Place) (fs : List Flaw) (xs ys : t.Exprs) (u : Walk) → (fs ≡ [] → old_flaws w xs ≡ [] → sides_typed w xs ≡ true) → Like w u → AllHaveOperators ys → (o : Option Tys) → several_right w ys ≡ o → Holds p a.declarable u (define_by at w fs xs ys o u).walk
      → (define_by at w fs xs ys o u).flaws ≡ [] → Done p a vs w (define_by at w fs xs ys o u)
  define_by_done at fs xs ys u sides l q None e k h = by_count (count_of xs ys) k h
    where
      by_count : (c : Bool) → Holds p a.declarable u (if c then defined_did fs (define_each w xs ys u) else define_miscounted at w fs xs ys u).walk → (if c then defined_did fs (define_each w xs ys u) else define_miscounted at w fs xs ys u).flaws ≡ []
          → Done p a vs w (if c then defined_did fs (define_each w xs ys u) else define_miscounted at w fs xs ys u)
      by_count true i g =
          stored_done p a w vs u (define_each w xs ys u).before (define_each w xs ys u).targets (define_each w xs ys u).values _ (define_each w xs ys u).walk l
          (each_here p a w xs ys q vs u (at_state p a w vs b u l s) i (no_first (define_each w xs ys u).flaws fs g))
      by_count false i g = absurd (sides_always (flaw at 84) fs xs ys sides g)
  define_by_done at fs xs ys u sides l q (Some us) e k h = by_number (same_number xs us) refl k h
    where
      y : t.Expr
      y = first_right ys (t.NameExpr at [])

      call : IsCall w ys (t.NameExpr at []) us
      call = right_call w ys (t.NameExpr at []) us q e

      several : AreSeveralHere p (at_vars a vs) w s.ready (core_of (answer_in w y)) us
      several = several_there p (at_vars a vs) w s.ready y us call.has_operators call.several

      by_number : (c : Bool) → same_number xs us ≡ c → Holds p a.declarable u (define_call_if at w fs xs y us u c).walk → (define_call_if at w fs xs y us u c).flaws ≡ [] → Done p a vs w (define_call_if at w fs xs y us u c)
      by_number true n i g =
          let h2 = at_state p a w vs b u l s in
          stored_done p a w vs u (define_types w y xs us u).before (define_types w y xs us u).targets (core.expr (core_of (answer_in w y)) core.no_exprs) _ (define_types w y xs us u).walk l
          (call_here p a w vs u (define_types w y xs us u).before (define_types w y xs us u).targets us y (define_types w y xs us u).walk h2 call.has_operators call.several
          (each_type_here p a w y xs us n several.scalar several.set vs u h2 i (no_first (define_types w y xs us u).flaws fs g)))
      by_number false n i g = absurd (sides_always (flaw at 84) fs xs (t.MoreExprs y t.NoExprs) sides g)

  pub define_done : (at : Place) (xs ys : t.Exprs) → AllHaveOperators ys → Holds p a.declarable w (define at xs ys w).walk → (define at xs ys w).flaws ≡ [] → Done p a vs w (define at xs ys w)
  define_done at xs ys q k h = define_by_done at (define_flaws at w xs ys) xs ys (uses_all ys (fresh_uses xs w))
      (λ q o. names_untold xs (no_first (names_flaws w [] xs) _ q) o) (like_fresh_sides xs ys w s.ready.all_typed) q (several_right w ys) refl held h
    where
      held : Holds p a.declarable (uses_all ys (fresh_uses xs w)) (define at xs ys w).walk
      held =
          holds_part p a.declarable w (uses_all ys (fresh_uses xs w)) (define at xs ys w).walk (define at xs ys w).walk (then_on w (fresh_uses xs w) _ (fresh_sides_on xs w) (uses_all_on ys (fresh_uses xs w))) (stays (define at xs ys w).walk) k
