-- The variables of a function's parameters and results, in the function's scope.
use Rattle.std.proofs.Common.{◌≡◌, ◌<◌, ◌==◌, ℕ, suc, List, [], ◌∷◌, ◌++◌, append_assoc, append-nil, refl, sym, subst, ap, ◌∙◌, arith, Bool, true, false, Option, Some, None, if◌then◌else◌, bytes_eq, ne_eqb, eq-eqb}
use Rattle.gj_base.specs.declared.place.Place.{Place}
use Rattle.go_syntax.specs.declared.tree.Name.{Name}
use Rattle.go_type.specs.Tree.{Ty}
use Rattle.go_type.specs.Named.{NamedTy}
use Rattle.go_core.specs.CoreTree.{Var, CoreProgram}
use Rattle.go_core.specs.TypeOf.{var_type}
use Rattle.go_core.specs.SoundNode as node
use Rattle.go_core.specs.SoundNode.{types_of_vars}
use Rattle.go_typing.specs.Env.{Decl, variable, Bind, is_blank}
use Rattle.go_typing.specs.Scopes.{last_changed, last_scope, with_bind, place_in}
use Rattle.go_typing.specs.Walk.{Walk, is_there, redeclared, with_name, bind_of, fresh, var_of}
use Rattle.go_typing.specs.Signature.{Param, type_of_param, name_flaws, bound_name, bound, all_bound, names_flaws, inside}
use Rattle.go_sound.specs.Added.{TypeIsSet}
use Rattle.go_sound.specs.GoesOn.{AreNumbered}
use Rattle.go_sound.specs.SoundTyped.{IsScalarType}
use Rattle.go_sound.specs.SoundValues.{IsReady}
use Rattle.go_sound.proofs.SoundBodies.{no_first, no_second}
use Rattle.go_sound.proofs.GoesOnSteps.{one_after}
use Rattle.go_sound.proofs.Words.{at_vars, Extends, IsThere}
use Rattle.go_sound.proofs.Ready.{numbers_grow, ready_vars, type_still, Scoped, scoped_named, Adds, adds_like, like_same, adds_then, adds_var}
use Rattle.go_sound.proofs.Defines.{with_scope, if_vars, if_next, named_names, variable_number, variable_known, adds_named}
use Rattle.go_sound.proofs.Signatures.{IsTypedParam, AllTyped, types_in}

-- ---- a variable comes after those in scope

-- no variable of these has the number that comes next
none_yet : (k m : ℕ) (vs : List Var) → AreNumbered k vs m → var_type m vs ≡ None
none_yet k m [] h = refl
none_yet k m (v ∷ vs) h =
    let l = numbers_grow (suc k) m vs h.1 in
    ap (λ (b : Bool). if b then Some v.type_ else var_type m vs) (ne_eqb v.id m (λ e. let f = h.0 in omega arith)) ∙ none_yet (suc k) m vs h.1

var_after : (id : ℕ) (vs : List Var) (v : Var) → (v.id ≡ id → ⊥) → var_type id (vs ++ v ∷ []) ≡ var_type id vs
var_after id [] v n = ap (λ (b : Bool). if b then Some v.type_ else None) (ne_eqb v.id id n)
var_after id (x ∷ vs) v n = ap (λ (o : Option Ty). if x.id == id then Some x.type_ else o) (var_after id vs v n)

var_last : (vs : List Var) (v : Var) → var_type v.id vs ≡ None → var_type v.id (vs ++ v ∷ []) ≡ Some v.type_
var_last [] v h = ap (λ (b : Bool). if b then Some v.type_ else None) (eq-eqb v.id v.id refl)
var_last (x ∷ vs) v h = by_test (λ k. var_last vs v k) (x.id == v.id) h
  where
    by_test : (var_type v.id vs ≡ None → var_type v.id (vs ++ v ∷ []) ≡ Some v.type_) → (b : Bool) → (if b then Some x.type_ else var_type v.id vs) ≡ None → (if b then Some x.type_ else var_type v.id (vs ++ v ∷ [])) ≡ Some v.type_
    by_test f true k = cc
    by_test f false k = f k

there_after : (id : ℕ) (vs : List Var) (v : Var) → IsThere id vs → IsThere id (vs ++ v ∷ [])
there_after id [] v h = let e : None ≡ Some h.0 = h.1 in cc
there_after id (x ∷ vs) v h = by_test (λ k. there_after id vs v k) (x.id == id) h
  where
    by_test : (IsThere id vs → IsThere id (vs ++ v ∷ [])) → (b : Bool) → (u : Ty) × ((if b then Some x.type_ else var_type id vs) ≡ Some u) → (u : Ty) × ((if b then Some x.type_ else var_type id (vs ++ v ∷ [])) ≡ Some u)
    by_test f true k = k
    by_test f false k = f k

extends_after : (vs : List Var) (v : Var) → Extends v.id vs (vs ++ v ∷ [])
extends_after vs v = record { same = λ id l. var_after id vs v (λ e. omega arith); there = λ id h. there_after id vs v h }

numbered_after : (k m : ℕ) (vs : List Var) (u : Ty) → AreNumbered k vs m → AreNumbered k (vs ++ var_of m u ∷ []) (suc m)
numbered_after k m vs u h = one_after k m (suc m) vs (var_of m u ∷ []) h (refl, refl)

types_after : (vs : List Var) (v : Var) → types_of_vars (vs ++ v ∷ []) ≡ types_of_vars vs ++ v.type_ ∷ []
types_after [] v = refl
types_after (x ∷ vs) v = ap (λ (ts : List Ty). x.type_ ∷ ts) (types_after vs v)

-- ---- names that stand at the same places

last_of : (ss : List (List Bind)) (s : List Bind) → last_scope (ss ++ s ∷ []) ≡ s
last_of [] s = refl
last_of (r ∷ []) s = refl
last_of (r ∷ q ∷ ss) s = last_of (q ∷ ss) s

changed_last : (f : List Bind → List Bind) (ss : List (List Bind)) (s : List Bind) → last_changed f (ss ++ s ∷ []) ≡ ss ++ f s ∷ []
changed_last f [] s = refl
changed_last f (r ∷ []) s = refl
changed_last f (r ∷ q ∷ ss) s = ap (λ (ts : List (List Bind)). r ∷ ts) (changed_last f (q ∷ ss) s)

abbrev or_place : Option Place → Option Place → Option Place
or_place None o = o
or_place (Some p) o = Some p

place_push : (x : List ℕ) (s : List Bind) (b : Bind) → place_in x (s ++ b ∷ []) ≡ or_place (place_in x s) (if bytes_eq b.name x then Some b.place else None)
place_push x [] b = refl
place_push x (c ∷ s) b = by_test (bytes_eq c.name x) (place_push x s b)
  where
    by_test : (t : Bool) → place_in x (s ++ b ∷ []) ≡ or_place (place_in x s) (if bytes_eq b.name x then Some b.place else None)
        → (if t then Some c.place else place_in x (s ++ b ∷ [])) ≡ or_place (if t then Some c.place else place_in x s) (if bytes_eq b.name x then Some b.place else None)
    by_test true h = refl
    by_test false h = h

pub record Parallel (u v : Walk) : Type 0 where
  pub outer : List (List Bind)
  pub scope : List Bind
  pub is : u.scopes ≡ outer ++ scope ∷ []
  pub other_outer : List (List Bind)
  pub other_scope : List Bind
  pub other_is : v.scopes ≡ other_outer ++ other_scope ∷ []
  pub same : (x : List ℕ) → place_in x scope ≡ place_in x other_scope

same_there : (n : Name) (u v : Walk) → Parallel u v → is_there n u ≡ is_there n v
same_there n u v h = ap (λ (o : Option Place). if is_blank n.text then None else o) (ap (λ (ss : List (List Bind)). place_in n.text (last_scope ss)) h.is ∙ ap (place_in n.text) (last_of h.outer h.scope) ∙ h.same n.text ∙ sym (ap (λ (ss : List (List Bind)). place_in n.text (last_scope ss)) h.other_is ∙ ap (place_in n.text) (last_of h.other_outer h.other_scope)))

-- the same name comes to both
parallel_named : (n : Name) (d e : Decl) (u v : Walk) → Parallel u v → Parallel (with_name n d u) (with_name n e v)
parallel_named n d e u v h = by_test (is_blank n.text)
  where
    by_test : (c : Bool) → Parallel (if c then u else record u { scopes = last_changed (with_bind (bind_of n d)) u.scopes }) (if c then v else record v { scopes = last_changed (with_bind (bind_of n e)) v.scopes })
    by_test true = h
    by_test false = record {
      outer = h.outer;
      scope = h.scope ++ bind_of n d ∷ [];
      is = ap (last_changed (with_bind (bind_of n d))) h.is ∙ changed_last (with_bind (bind_of n d)) h.outer h.scope;
      other_outer = h.other_outer;
      other_scope = h.other_scope ++ bind_of n e ∷ [];
      other_is = ap (last_changed (with_bind (bind_of n e))) h.other_is ∙ changed_last (with_bind (bind_of n e)) h.other_outer h.other_scope;
      same = λ x. place_push x h.scope (bind_of n d) ∙ ap (λ (o : Option Place). or_place o (if bytes_eq n.text x then Some n.place else None)) (h.same x) ∙ sym (place_push x h.other_scope (bind_of n e));
    }

parallel_fresh : (r s : Ty) (u v : Walk) → Parallel u v → Parallel (fresh r u) (fresh s v)
parallel_fresh r s u v h = record { outer = h.outer; scope = h.scope; is = h.is; other_outer = h.other_outer; other_scope = h.other_scope; other_is = h.other_is; same = h.same }

-- ---- parameters and results, one after the other

-- the variables so far are in scope, with the numbers from one on
pub record Header (p : CoreProgram) (a : node.Around) (w : Walk) (start : ℕ) (v : Walk) : Type 0 where
  pub scoped : Scoped p a v.vars v
  pub numbered : AreNumbered start v.vars v.next
  pub types : List NamedTy
  pub names : v.names ≡ w.names ++ types

header_fresh : (p : CoreProgram) (a : node.Around) (w : Walk) (start : ℕ) (v : Walk) (ty : Ty) → Header p a w start v → Header p a w start (fresh ty v)
header_fresh p a w start v ty h = record {
  scoped = record { ready = record { scopes = on.scopes; types_set = on.types_set; all_typed = on.all_typed; further = on.further; names_kept = on.names_kept }; before = λ x id q e. let l = s.before x id q e in omega arith };
  numbered = numbered_after start v.next v.vars ty h.numbered;
  types = h.types;
  names = h.names;
}
  where
    s : Scoped p a v.vars v
    s = h.scoped

    on : IsReady p (at_vars a (v.vars ++ var_of v.next ty ∷ [])) v
    on = ready_vars p a v.next v.vars (v.vars ++ var_of v.next ty ∷ []) v (extends_after v.vars (var_of v.next ty)) s.before s.ready

header_named : (p : CoreProgram) (a : node.Around) (w : Walk) (start : ℕ) (v : Walk) (n : Name) (ty : Ty) → IsScalarType p ty → TypeIsSet w.names ty → Header p a w start v → Header p a w start (with_name n (variable v.next ty) (fresh ty v))
header_named p a w start v n ty s t h = record {
  scoped = subst (λ (us : List Var). Scoped p a us (with_name n (variable v.next ty) (fresh ty v))) (sym vars) named;
  numbered = subst (λ (us : List Var). AreNumbered start us (with_name n (variable v.next ty) (fresh ty v)).next) (sym vars) (subst (AreNumbered start (fresh ty v).vars) (sym next) f.numbered);
  types = h.types;
  names = named_names n (variable v.next ty) (fresh ty v) ∙ h.names;
}
  where
    f : Header p a w start (fresh ty v)
    f = header_fresh p a w start v ty h

    vars : (with_name n (variable v.next ty) (fresh ty v)).vars ≡ (fresh ty v).vars
    vars = if_vars (is_blank n.text) (fresh ty v) (with_scope n (variable v.next ty) (fresh ty v)) refl

    next : (with_name n (variable v.next ty) (fresh ty v)).next ≡ (fresh ty v).next
    next = if_next (is_blank n.text) (fresh ty v) (with_scope n (variable v.next ty) (fresh ty v)) refl

    before : (id : ℕ) (u : Ty) → variable v.next ty ≡ variable id u → id < suc v.next
    before id u e = let i = variable_number v.next id ty u e in omega arith

    named : Scoped p a (fresh ty v).vars (with_name n (variable v.next ty) (fresh ty v))
    named =
        scoped_named p a (fresh ty v).vars (fresh ty v) n (variable v.next ty) (s, var_last v.vars (var_of v.next ty) (none_yet start v.next v.vars h.numbered))
        (subst (λ (ns : List NamedTy). TypeIsSet ns ty) (sym h.names) (type_still w.names h.types ty t)) (variable_known v.next ty) before f.scoped

-- what comes of a parameter
pub record Bound (p : CoreProgram) (a : node.Around) (w : Walk) (start : ℕ) (ty : Ty) (u v u2 v2 : Walk) : Type 0 where
  pub parallel : Parallel u2 v2
  pub header : Header p a w start v2
  pub types : types_of_vars v2.vars ≡ types_of_vars v.vars ++ ty ∷ []
  pub adds : Adds p v v2

one_ty : (x y : Ty) → Some x ≡ Some y → x ≡ y
one_ty x y e = ap (or_this x) e
  where
    or_this : Ty → Option Ty → Ty
    or_this z None = z
    or_this z (Some u) = u

one_bound : (p : CoreProgram) (a : node.Around) (w : Walk) (start : ℕ) (n : Option Name) (o : Option Ty) (ty : Ty) → o ≡ Some ty → IsScalarType p ty → TypeIsSet w.names ty → (u v : Walk) → Parallel u v → name_flaws n u ≡ [] → Header p a w start v
    → Bound p a w start ty u v (bound n o u) (bound n o v)
one_bound p a w start n None ty e s t u v h k i = let f : None ≡ Some ty = e in cc
one_bound p a w start None (Some x) ty e s t u v h k i = subst (λ (y : Ty). Bound p a w start y u v (fresh x u) (fresh x v)) (one_ty x ty e) (record {
  parallel = parallel_fresh x x u v h;
  header = header_fresh p a w start v x i;
  types = types_after v.vars (var_of v.next x);
  adds = adds_var p v (fresh x v) (var_of v.next x) refl refl refl (subst (IsScalarType p) (sym (one_ty x ty e)) s);
})
one_bound p a w start (Some n) (Some x) ty e s t u v h k i = by_places (is_there n u) (is_there n v) (same_there n u v h) k
  where
    scalar : IsScalarType p x
    scalar = subst (IsScalarType p) (sym (one_ty x ty e)) s

    set : TypeIsSet w.names x
    set = subst (TypeIsSet w.names) (sym (one_ty x ty e)) t

    vars : (with_name n (variable v.next x) (fresh x v)).vars ≡ (fresh x v).vars
    vars = if_vars (is_blank n.text) (fresh x v) (with_scope n (variable v.next x) (fresh x v)) refl

    by_places : (q r : Option Place) → q ≡ r → redeclared n q ≡ [] → Bound p a w start ty u v (bound_name n (Some x) q u) (bound_name n (Some x) r v)
    by_places (Some at) r f j = cc
    by_places None (Some at) f j = cc
    by_places None None f j = subst (λ (y : Ty). Bound p a w start y u v (with_name n (variable u.next x) (fresh x u)) (with_name n (variable v.next x) (fresh x v))) (one_ty x ty e) (record {
      parallel = parallel_named n (variable u.next x) (variable v.next x) (fresh x u) (fresh x v) (parallel_fresh x x u v h);
      header = header_named p a w start v n x scalar set i;
      types = ap types_of_vars vars ∙ types_after v.vars (var_of v.next x);
      adds = adds_then p v (fresh x v) (with_name n (variable v.next x) (fresh x v)) (adds_var p v (fresh x v) (var_of v.next x) refl refl refl scalar) (adds_named p (fresh x v) n (variable v.next x));
    })

pub record AllBound (p : CoreProgram) (a : node.Around) (w : Walk) (start : ℕ) (ts : List Ty) (v v2 : Walk) : Type 0 where
  pub header : Header p a w start v2
  pub types : types_of_vars v2.vars ≡ types_of_vars v.vars ++ ts
  pub adds : Adds p v v2

pub all_bound_here : (p : CoreProgram) (a : node.Around) (w : Walk) (start : ℕ) (qs : List Param) (h : AllTyped p w qs) (u v : Walk) → Parallel u v → names_flaws w qs u ≡ [] → Header p a w start v
    → AllBound p a w start (types_in p w qs h) v (all_bound w qs v)
all_bound_here p a w start [] h u v r k i = record { header = i; types = sym (append-nil (types_of_vars v.vars)); adds = adds_like p v v (like_same v) }
all_bound_here p a w start (q ∷ qs) h u v r k i =
    more (all_bound_here p a w start qs h.1 (bound q.name (type_of_param w q) u) (bound q.name (type_of_param w q) v) first.parallel (no_second (name_flaws q.name u) _ k) first.header)
  where
    x : IsTypedParam p w q
    x = h.0

    first : Bound p a w start x.type_ u v (bound q.name (type_of_param w q) u) (bound q.name (type_of_param w q) v)
    first = one_bound p a w start q.name (type_of_param w q) x.type_ x.found x.scalar x.set u v r (no_first (name_flaws q.name u) _ k) i

    more : AllBound p a w start (types_in p w qs h.1) (bound q.name (type_of_param w q) v) (all_bound w qs (bound q.name (type_of_param w q) v)) → AllBound p a w start (x.type_ ∷ types_in p w qs h.1) v (all_bound w qs (bound q.name (type_of_param w q) v))
    more m = record {
      header = m.header;
      types = m.types ∙ ap (λ (ts : List Ty). ts ++ types_in p w qs h.1) first.types ∙ append_assoc (types_of_vars v.vars) (x.type_ ∷ []) (types_in p w qs h.1);
      adds = adds_then p v (bound q.name (type_of_param w q) v) (all_bound w qs (bound q.name (type_of_param w q) v)) first.adds m.adds;
    }

-- a function's own scope begins with no name, whatever is known before it
pub inside_parallel : (w v : Walk) → Parallel (inside w) (inside v)
inside_parallel w v = record { outer = w.scopes; scope = []; is = refl; other_outer = v.scopes; other_scope = []; other_is = refl; same = λ x. refl }
