-- What must hold where a statement begins, and how it goes on.
use Rattle.std.proofs.Common.{◌≡◌, ◌≤◌, ◌<◌, ◌⊎◌, inl, inr, ℕ, suc, List, [], ◌∷◌, ◌++◌, append_assoc, refl, sym, subst, ap, ◌∙◌, arith, IsTrue, Bool, true, false, Option, Some, None, if◌then◌else◌, bytes_eq, slice_get, Contains, ◌+◌}
use Rattle.std.proofs.lemmas.List.Elements.{Contains-append_left, Contains-push_cases}
use Rattle.go_syntax.specs.Tree as t
use Rattle.go_syntax.specs.declared.tree.Name.{Name}
use Rattle.go_type.specs.Tree as ty
use Rattle.go_type.specs.Tree.{Ty, Tys, no_tys, more_tys}
use Rattle.go_type.specs.Named.{NamedTy}
use Rattle.go_core.specs.CoreTree as core
use Rattle.go_core.specs.CoreTree.{Var, CoreFunc, CoreProgram}
use Rattle.go_core.specs.SoundNode as sound
use Rattle.go_core.specs.SoundNode.{AreInScope, CallsFunction}
use Rattle.go_core.specs.Sound.{SoundStmts}
use Rattle.go_typing.specs.Env.{Decl, variable, global, constant, type_name, function, imported, nil_value, refused, unknown, Bind, find, lookup, or_in, is_blank}
use Rattle.go_typing.specs.Env as env
use Rattle.go_typing.specs.Answer.{Flaw}
use Rattle.go_typing.specs.Convert.{is_scalar}
use Rattle.go_typing.specs.Scopes.{last_changed, with_bind}
use Rattle.go_typing.specs.Uses.{names_in, names_in_all}
use Rattle.go_typing.specs.Walk.{Walk, Around, Did, did, after, also, pushed, popped, within, with_name, bind_of, fresh, var_of, noted, is_untyped, count_untyped, with_lost, uses, uses_all, body}
use Rattle.go_typing.specs.Assign.{left_use, left_uses, is_name, is_bare, fresh_use, fresh_uses}
use Rattle.go_sound.specs.Added.{TypeIsSet, TypesAreSet, DeclIsSet, ScopesAreSet}
use Rattle.go_sound.specs.GoesOn.{AreNumbered, GoesOn}
use Rattle.go_sound.specs.Lost.{NothingUnknown}
use Rattle.go_sound.specs.SoundTyped.{IsScalarType, DeclIsSound, OptionIsSound, ScopesAreSound}
use Rattle.go_sound.specs.SoundValues.{IsReady}
use Rattle.go_sound.proofs.AddedTypes.{still_set}
use Rattle.go_sound.proofs.GoesOnSteps.{scopes_left}
use Rattle.go_sound.specs.SoundStatements.{VariablesBefore, IsAround, Holds}
use Rattle.go_sound.proofs.Words.{at_vars, after_vars, after_append, sound_append, Extends, extends_var, extends_same, extends_then, extends_less, IsThere}

-- ---- variables come to those in scope

in_scope_on : (vs us : List Var) → ((id : ℕ) → IsThere id vs → IsThere id us) → (xs : List ℕ) → AreInScope xs vs → AreInScope xs us
in_scope_on vs us f [] h = tt
in_scope_on vs us f (x ∷ xs) h = (f x h.0, in_scope_on vs us f xs h.1)

calls_on : (vs us : List Var) → ((id : ℕ) → IsThere id vs → IsThere id us) → (o : Option CoreFunc) (ts : List Ty) (rs : Tys) → CallsFunction o vs ts rs → CallsFunction o us ts rs
calls_on vs us f None ts rs h = h
calls_on vs us f (Some g) ts rs h = (in_scope_on vs us f g.captured h.0, h.1, h.2)

-- a name that stands for a variable stands for one with a number before this one
abbrev pub IsBefore : ℕ → Decl → Type 0
IsBefore n d = (id : ℕ) (u : Ty) → d ≡ variable id u → id < n

decl_on : (p : CoreProgram) (a : sound.Around) (n : ℕ) (vs us : List Var) → Extends n vs us → (d : Decl) → IsBefore n d → DeclIsSound p (at_vars a vs) d → DeclIsSound p (at_vars a us) d
decl_on p a n vs us e (variable id u) b h = (h.0, e.same id (b id u refl) ∙ h.1)
decl_on p a n vs us e (global number u) b h = h
decl_on p a n vs us e (constant k u) b h = h
decl_on p a n vs us e (type_name u) b h = h
decl_on p a n vs us e (function id ps rs true) b h = tt
decl_on p a n vs us e (function id ps rs false) b h = (calls_on vs us e.there (slice_get p.funcs id) _ rs h.0, h.1, h.2, h.3)
decl_on p a n vs us e (imported path) b h = tt
decl_on p a n vs us e (env.built_in c) b h = tt
decl_on p a n vs us e nil_value b h = tt
decl_on p a n vs us e (refused code) b h = tt
decl_on p a n vs us e unknown b h = tt

scopes_on : (p : CoreProgram) (a : sound.Around) (n : ℕ) (vs us : List Var) → Extends n vs us → (ss : List (List Bind)) → VariablesBefore n ss → ScopesAreSound p (at_vars a vs) ss
    → ScopesAreSound p (at_vars a us) ss
scopes_on p a n vs us e ss b h x = by_case (lookup x ss) refl (h x)
  where
    by_case : (o : Option Decl) → lookup x ss ≡ o → OptionIsSound p (at_vars a vs) o → OptionIsSound p (at_vars a us) o
    by_case None f s = tt
    by_case (Some d) f s = decl_on p a n vs us e d (λ id u g. b x id u (f ∙ ap (λ (c : Decl). Some c) g)) s

pub ready_vars : (p : CoreProgram) (a : sound.Around) (n : ℕ) (vs us : List Var) (w : Walk) → Extends n vs us → VariablesBefore n w.scopes → IsReady p (at_vars a vs) w → IsReady p (at_vars a us) w
ready_vars p a n vs us w e b r = record {
  scopes = scopes_on p a n vs us e w.scopes b r.scopes;
  types_set = r.types_set;
  all_typed = r.all_typed;
  further = r.further;
  names_kept = r.names_kept;
}

-- ---- named types come to the others

mutual
  pub type_still : (ns more : List NamedTy) (u : Ty) → TypeIsSet ns u → TypeIsSet (ns ++ more) u
  type_still ns more (ty.named id) h = (h.0, still_set ns more id h.0 h.1)
  type_still ns more (ty.tuple us) h = types_still ns more us h
  type_still ns more _ h = tt

  pub types_still : (ns more : List NamedTy) (us : Tys) → TypesAreSet ns us → TypesAreSet (ns ++ more) us
  types_still ns more no_tys h = tt
  types_still ns more (more_tys u us) h = (type_still ns more u h.0, types_still ns more us h.1)

decl_still : (ns more : List NamedTy) (d : Decl) → DeclIsSet ns d → DeclIsSet (ns ++ more) d
decl_still ns more (variable id u) h = type_still ns more u h
decl_still ns more (global number u) h = type_still ns more u h
decl_still ns more (constant k u) h = type_still ns more u h
decl_still ns more (type_name u) h = type_still ns more u h
decl_still ns more (function id ps rs v) h = (types_still ns more ps h.0, types_still ns more rs h.1)
decl_still ns more (imported path) h = tt
decl_still ns more (env.built_in c) h = tt
decl_still ns more nil_value h = tt
decl_still ns more (refused code) h = tt
decl_still ns more unknown h = tt

scopes_still : (ns more : List NamedTy) (ss : List (List Bind)) → ScopesAreSet ns ss → ScopesAreSet (ns ++ more) ss
scopes_still ns more ss h x d e = decl_still ns more d (h x d e)

-- the program has the named types so far, and further ones
abbrev pub NamesOf : CoreProgram → Walk → Type 0
NamesOf p w = (further : List NamedTy) × (p.names ≡ w.names ++ further)

pub ready_later : (p : CoreProgram) (a : sound.Around) (w v : Walk) (types : List NamedTy) → v.names ≡ w.names ++ types → v.scopes ≡ w.scopes → NamesOf p v → IsReady p a w → IsReady p a v
ready_later p a w v types e f n r = record {
  scopes = subst (λ (ss : List (List Bind)). ScopesAreSound p a ss) (sym f) r.scopes;
  types_set = subst (λ (ns : List NamedTy). ScopesAreSet ns v.scopes) (sym e) (subst (λ (ss : List (List Bind)). ScopesAreSet (w.names ++ types) ss) (sym f) (scopes_still w.names types w.scopes r.types_set));
  all_typed = subst NothingUnknown (sym f) r.all_typed;
  further = n.0;
  names_kept = n.1;
}

-- ---- a name comes to those in scope

pub found_push : (x : List ℕ) (s : List Bind) (b : Bind) → (find x (s ++ b ∷ []) ≡ find x s) ⊎ (find x (s ++ b ∷ []) ≡ Some b.what)
found_push x [] b = by_test (bytes_eq b.name x)
  where
    by_test : (c : Bool) → ((if c then Some b.what else None) ≡ None) ⊎ ((if c then Some b.what else None) ≡ Some b.what)
    by_test true = inr refl
    by_test false = inl refl
found_push x (d ∷ s) b = by_test (bytes_eq d.name x) (found_push x s b)
  where
    by_test : (c : Bool) → (find x (s ++ b ∷ []) ≡ find x s) ⊎ (find x (s ++ b ∷ []) ≡ Some b.what)
        → ((if c then Some d.what else find x (s ++ b ∷ [])) ≡ (if c then Some d.what else find x s)) ⊎ ((if c then Some d.what else find x (s ++ b ∷ [])) ≡ Some b.what)
    by_test true h = inl refl
    by_test false h = h

-- each name stands for what it did, or for what was added
pub found_changed : (x : List ℕ) (b : Bind) (ss : List (List Bind)) → (lookup x (last_changed (with_bind b) ss) ≡ lookup x ss) ⊎ (lookup x (last_changed (with_bind b) ss) ≡ Some b.what)
found_changed x b [] = inl refl
found_changed x b (s ∷ []) = found_push x s b
found_changed x b (s ∷ r ∷ ss) = by_case (found_changed x b (r ∷ ss))
  where
    by_case : (lookup x (last_changed (with_bind b) (r ∷ ss)) ≡ lookup x (r ∷ ss)) ⊎ (lookup x (last_changed (with_bind b) (r ∷ ss)) ≡ Some b.what)
        → (or_in (lookup x (last_changed (with_bind b) (r ∷ ss))) (find x s) ≡ or_in (lookup x (r ∷ ss)) (find x s)) ⊎ (or_in (lookup x (last_changed (with_bind b) (r ∷ ss))) (find x s) ≡ Some b.what)
    by_case (inl e) = inl (ap (λ (o : Option Decl). or_in o (find x s)) e)
    by_case (inr e) = inr (ap (λ (o : Option Decl). or_in o (find x s)) e)

some_same : (d e : Decl) → Some d ≡ Some e → d ≡ e
some_same d e h = ap (option_or d) h
  where
    option_or : Decl → Option Decl → Decl
    option_or c None = c
    option_or c (Some f) = f

-- the scopes are others, in which each name stands for what it did, or for this
pub ready_changed : (p : CoreProgram) (a : sound.Around) (w : Walk) (ts : List (List Bind)) (c : Decl) → ((x : List ℕ) → (lookup x ts ≡ lookup x w.scopes) ⊎ (lookup x ts ≡ Some c)) → DeclIsSound p a c → DeclIsSet w.names c
    → (c ≡ unknown → ⊥) → IsReady p a w → IsReady p a (record w { scopes = ts })
ready_changed p a w ts c f s k u r = record {
  scopes = λ x. scope x (f x);
  types_set = λ x d e. set x d e (f x);
  all_typed = λ x e. typed x e (f x);
  further = r.further;
  names_kept = r.names_kept;
}
  where
    scope : (x : List ℕ) → (lookup x ts ≡ lookup x w.scopes) ⊎ (lookup x ts ≡ Some c) → OptionIsSound p a (lookup x ts)
    scope x (inl e) = subst (OptionIsSound p a) (sym e) (r.scopes x)
    scope x (inr e) = subst (OptionIsSound p a) (sym e) s

    set : (x : List ℕ) (d : Decl) → lookup x ts ≡ Some d → (lookup x ts ≡ lookup x w.scopes) ⊎ (lookup x ts ≡ Some c) → DeclIsSet w.names d
    set x d e (inl g) = r.types_set x d (sym g ∙ e)
    set x d e (inr g) = subst (DeclIsSet w.names) (some_same c d (sym g ∙ e)) k

    typed : (x : List ℕ) → lookup x ts ≡ Some unknown → (lookup x ts ≡ lookup x w.scopes) ⊎ (lookup x ts ≡ Some c) → ⊥
    typed x e (inl g) = r.all_typed x (sym g ∙ e)
    typed x e (inr g) = u (some_same c unknown (sym g ∙ e))

before_changed : (n : ℕ) (ss : List (List Bind)) (b : Bind) → IsBefore n b.what → VariablesBefore n ss → VariablesBefore n (last_changed (with_bind b) ss)
before_changed n ss b i h x id u e = by_case (found_changed x b ss)
  where
    by_case : (lookup x (last_changed (with_bind b) ss) ≡ lookup x ss) ⊎ (lookup x (last_changed (with_bind b) ss) ≡ Some b.what) → id < n
    by_case (inl f) = h x id u (sym f ∙ e)
    by_case (inr f) = i id u (some_same b.what (variable id u) (sym f ∙ e))

-- ---- the state of a statement

pub record State (p : CoreProgram) (a : sound.Around) (vs : List Var) (b : Around) (w : Walk) : Type 0 where
  pub ready : IsReady p (at_vars a vs) w
  pub before : VariablesBefore w.next w.scopes
  pub around : IsAround p a b w

-- nothing that is looked at has changed
pub record Like (w v : Walk) : Type 0 where
  pub names : v.names ≡ w.names
  pub scopes : v.scopes ≡ w.scopes
  pub next : v.next ≡ w.next
  pub labels : v.next_label ≡ w.next_label
  pub vars : v.vars ≡ w.vars
  pub lost : v.lost ≡ w.lost

pub like_same : (w : Walk) → Like w w
like_same w = record { names = refl; scopes = refl; next = refl; labels = refl; vars = refl; lost = refl }

pub like_then : (w v u : Walk) → Like w v → Like v u → Like w u
like_then w v u h k = record { names = k.names ∙ h.names; scopes = k.scopes ∙ h.scopes; next = k.next ∙ h.next; labels = k.labels ∙ h.labels; vars = k.vars ∙ h.vars; lost = k.lost ∙ h.lost }

-- where each name is typed, none is lost
typed_one : (o : Option Decl) → (o ≡ Some unknown → ⊥) → is_untyped o ≡ false
typed_one (Some unknown) h = absurd (h refl)
typed_one _ h = refl

none_untyped : (ss : List (List Bind)) → NothingUnknown ss → (xs : List (List ℕ)) → count_untyped xs ss ≡ 0
none_untyped ss h [] = refl
none_untyped ss h (x ∷ xs) = by_test (is_untyped (lookup x ss)) (typed_one (lookup x ss) (h x)) (none_untyped ss h xs)
  where
    by_test : (c : Bool) → c ≡ false → count_untyped xs ss ≡ 0 → (if c then 1 else 0) + count_untyped xs ss ≡ 0
    by_test true e g = let f : true ≡ false = e in cc
    by_test false e g = omega arith

none_lost : (xs : List (List ℕ)) (w : Walk) → NothingUnknown w.scopes → (with_lost xs w).lost ≡ w.lost
none_lost xs w h = let e = none_untyped w.scopes h xs in omega arith

like_lost : (xs : List (List ℕ)) (w : Walk) → NothingUnknown w.scopes → Like w (with_lost xs w)
like_lost xs w h = record { names = refl; scopes = refl; next = refl; labels = refl; vars = refl; lost = none_lost xs w h }

pub like_uses : (e : t.Expr) (w : Walk) → NothingUnknown w.scopes → Like w (uses e w)
like_uses e w h = record { names = refl; scopes = refl; next = refl; labels = refl; vars = refl; lost = none_lost (names_in e) w h }

pub like_uses_all : (es : t.Exprs) (w : Walk) → NothingUnknown w.scopes → Like w (uses_all es w)
like_uses_all es w h = record { names = refl; scopes = refl; next = refl; labels = refl; vars = refl; lost = none_lost (names_in_all es) w h }

pub like_noted : (n : Name) (w : Walk) → Like w (noted n w)
like_noted n w = by_test (is_blank n.text)
  where
    by_test : (c : Bool) → Like w (if c then w else record w { declared = w.declared ++ n ∷ [] })
    by_test true = like_same w
    by_test false = record { names = refl; scopes = refl; next = refl; labels = refl; vars = refl; lost = refl }

like_if : (w : Walk) (c : Bool) (v u : Walk) → Like w v → Like w u → Like w (if c then v else u)
like_if w true v u h k = h
like_if w false v u h k = k

typed_like : (w v : Walk) → Like w v → NothingUnknown w.scopes → NothingUnknown v.scopes
typed_like w v l h = subst NothingUnknown (sym l.scopes) h

-- another use, where all is typed as before
pub like_more : (w v u : Walk) → NothingUnknown w.scopes → Like w v → (NothingUnknown v.scopes → Like v u) → Like w u
like_more w v u h l k = like_then w v u l (k (typed_like w v l h))

like_side : (e : t.Expr) (w : Walk) → NothingUnknown w.scopes → Like w (left_use e w)
like_side e w h = like_if w (is_name e) (with_lost (names_in e) w) (uses e w) (like_lost (names_in e) w h) (like_uses e w h)

like_left : (es : t.Exprs) (w : Walk) → NothingUnknown w.scopes → Like w (left_uses es w)
like_left t.NoExprs w h = like_same w
like_left (t.MoreExprs e es) w h = like_more w (left_use e w) (left_uses es (left_use e w)) h (like_side e w h) (λ k. like_left es (left_use e w) k)

like_fresh : (es : t.Exprs) (w : Walk) → NothingUnknown w.scopes → Like w (fresh_uses es w)
like_fresh t.NoExprs w h = like_same w
like_fresh (t.MoreExprs e es) w h = like_more w (fresh_use e w) (fresh_uses es (fresh_use e w)) h (like_if w (is_bare e) w (left_use e w) (like_same w) (like_side e w h)) (λ k. like_fresh es (fresh_use e w) k)

-- the uses of both sides
pub like_sides : (xs ys : t.Exprs) (w : Walk) → NothingUnknown w.scopes → Like w (uses_all ys (left_uses xs w))
like_sides xs ys w h = like_more w (left_uses xs w) (uses_all ys (left_uses xs w)) h (like_left xs w h) (λ k. like_uses_all ys (left_uses xs w) k)

pub like_fresh_sides : (xs ys : t.Exprs) (w : Walk) → NothingUnknown w.scopes → Like w (uses_all ys (fresh_uses xs w))
like_fresh_sides xs ys w h = like_more w (fresh_uses xs w) (uses_all ys (fresh_uses xs w)) h (like_fresh xs w h) (λ k. like_uses_all ys (fresh_uses xs w) k)

pub like_two : (x y : t.Expr) (w : Walk) → NothingUnknown w.scopes → Like w (uses x (uses y w))
like_two x y w h = like_more w (uses y w) (uses x (uses y w)) h (like_uses y w h) (λ k. like_uses x (uses y w) k)

types_at : (ns ms : List NamedTy) (us : Tys) → ms ≡ ns → TypesAreSet ns us → TypesAreSet ms us
types_at ns ms us e h = subst (λ (ks : List NamedTy). TypesAreSet ks us) (sym e) h

pub ready_like : (p : CoreProgram) (a : sound.Around) (w v : Walk) → Like w v → IsReady p a w → IsReady p a v
ready_like p a w v l r = record {
  scopes = subst (λ (ss : List (List Bind)). ScopesAreSound p a ss) (sym l.scopes) r.scopes;
  types_set = subst (λ (ns : List NamedTy). ScopesAreSet ns v.scopes) (sym l.names) (subst (λ (ss : List (List Bind)). ScopesAreSet w.names ss) (sym l.scopes) r.types_set);
  all_typed = subst NothingUnknown (sym l.scopes) r.all_typed;
  further = r.further;
  names_kept = r.names_kept ∙ ap (λ (ns : List NamedTy). ns ++ r.further) (sym l.names);
}

pub before_like : (w v : Walk) → Like w v → VariablesBefore w.next w.scopes → VariablesBefore v.next v.scopes
before_like w v l h = subst (λ (n : ℕ). VariablesBefore n v.scopes) (sym l.next) (subst (VariablesBefore w.next) (sym l.scopes) h)

pub state_like : (p : CoreProgram) (a : sound.Around) (vs : List Var) (b : Around) (w v : Walk) → Like w v → State p a vs b w → State p a vs b v
state_like p a vs b w v l s = record {
  ready = ready_like p (at_vars a vs) w v l s.ready;
  before = before_like w v l s.before;
  around = record {
    results = s.around.results;
    results_scalar = s.around.results_scalar;
    results_set = types_at w.names v.names a.results l.names s.around.results_set;
    targets = s.around.targets;
    labels_before = λ label c. subst (λ (n : ℕ). label < n) (sym l.labels) (s.around.labels_before label c);
  };
}

-- ---- what is around goes on

pub numbers_grow : (k m : ℕ) (xs : List Var) → AreNumbered k xs m → k ≤ m
numbers_grow k m [] h = omega arith
numbers_grow k m (x ∷ xs) h = let l = numbers_grow (suc k) m xs h.1 in omega arith

pub next_on : (w v : Walk) → GoesOn w v → w.next ≤ v.next
next_on w v g = numbers_grow w.next v.next g.variables g.numbered

pub around_on : (p : CoreProgram) (a : sound.Around) (b : Around) (w v : Walk) → GoesOn w v → IsAround p a b w → IsAround p a b v
around_on p a b w v g s = record {
  results = s.results;
  results_scalar = s.results_scalar;
  results_set = types_at (w.names ++ g.types) v.names a.results g.types_added (types_still w.names g.types a.results s.results_set);
  targets = s.targets;
  labels_before = λ label c. let l = s.labels_before label c in let m = g.labels in omega arith;
}

pub before_more : (m n : ℕ) (ss : List (List Bind)) → m ≤ n → VariablesBefore m ss → VariablesBefore n ss
before_more m n ss l h x id u e = let i = h x id u e in omega arith

-- what is held of a whole is held of its part
pub holds_part : (p : CoreProgram) (declarable : List Var) (w v u z : Walk) → GoesOn w v → GoesOn u z → Holds p declarable w z → Holds p declarable v u
holds_part p declarable w v u z g k h = record {
  variables = λ x l c. let m = next_on w v g in h.variables x (omega arith) (subst (λ (xs : List Var). Contains xs x) (sym k.variables_added) (Contains-append_left u.vars k.variables x c));
  further = k.types ++ h.further;
  names_kept = h.names_kept ∙ ap (λ (ns : List NamedTy). ns ++ h.further) k.types_added ∙ append_assoc u.names k.types h.further;
}

pub names_of : (p : CoreProgram) (declarable : List Var) (w v : Walk) → Holds p declarable w v → NamesOf p v
names_of p declarable w v h = (h.further, h.names_kept)

-- ---- what is added

-- what a type's name stands for is scalar
abbrev pub StandsForScalar : NamedTy → Type 0
StandsForScalar x = (u : Ty) × (x.under ≡ Some u) × IsTrue (is_scalar u)

-- variables that are added are of scalar types, and types that are added stand for such; no name is lost
pub record Adds (p : CoreProgram) (w v : Walk) : Type 0 where
  pub good : (x : Var) → Contains v.vars x → Contains w.vars x ⊎ IsScalarType p x.type_
  pub stands : (x : NamedTy) → Contains v.names x → Contains w.names x ⊎ StandsForScalar x
  pub lost : v.lost ≡ w.lost

pub adds_none : (p : CoreProgram) (w v : Walk) → v.vars ≡ w.vars → v.names ≡ w.names → v.lost ≡ w.lost → Adds p w v
adds_none p w v e f l = record { lost = l; good = λ x c. inl (subst (λ (xs : List Var). Contains xs x) e c); stands = λ x c. inl (subst (λ (xs : List NamedTy). Contains xs x) f c) }

pub adds_like : (p : CoreProgram) (w v : Walk) → Like w v → Adds p w v
adds_like p w v l = adds_none p w v l.vars l.names l.lost

pub adds_then : (p : CoreProgram) (w v u : Walk) → Adds p w v → Adds p v u → Adds p w u
adds_then p w v u h k = record { lost = k.lost ∙ h.lost; good = λ x c. var x (k.good x c); stands = λ x c. named x (k.stands x c) }
  where
    var : (x : Var) → Contains v.vars x ⊎ IsScalarType p x.type_ → Contains w.vars x ⊎ IsScalarType p x.type_
    var x (inl c) = h.good x c
    var x (inr s) = inr s

    named : (x : NamedTy) → Contains v.names x ⊎ StandsForScalar x → Contains w.names x ⊎ StandsForScalar x
    named x (inl c) = h.stands x c
    named x (inr s) = inr s

pub adds_var : (p : CoreProgram) (w v : Walk) (y : Var) → v.vars ≡ w.vars ++ y ∷ [] → v.names ≡ w.names → v.lost ≡ w.lost → IsScalarType p y.type_ → Adds p w v
adds_var p w v y e f l s = record { lost = l; good = λ x c. by_case x (Contains-push_cases w.vars y x (subst (λ (xs : List Var). Contains xs x) e c)); stands = λ x c. inl (subst (λ (xs : List NamedTy). Contains xs x) f c) }
  where
    by_case : (x : Var) → Contains w.vars x ⊎ (y ≡ x) → Contains w.vars x ⊎ IsScalarType p x.type_
    by_case x (inl c) = inl c
    by_case x (inr g) = inr (subst (λ (z : Var). IsScalarType p z.type_) g s)

pub adds_type : (p : CoreProgram) (w v : Walk) (y : NamedTy) → v.vars ≡ w.vars → v.names ≡ w.names ++ y ∷ [] → v.lost ≡ w.lost → StandsForScalar y → Adds p w v
adds_type p w v y e f l s = record { lost = l; good = λ x c. inl (subst (λ (xs : List Var). Contains xs x) e c); stands = λ x c. by_case x (Contains-push_cases w.names y x (subst (λ (xs : List NamedTy). Contains xs x) f c)) }
  where
    by_case : (x : NamedTy) → Contains w.names x ⊎ (y ≡ x) → Contains w.names x ⊎ StandsForScalar x
    by_case x (inl c) = inl c
    by_case x (inr g) = inr (subst StandsForScalar g s)

-- ---- what comes of a statement

pub record Done (p : CoreProgram) (a : sound.Around) (vs : List Var) (w : Walk) (d : Did) : Type 0 where
  pub is_sound : SoundStmts p (at_vars a vs) (body d.core)
  pub extends : Extends w.next vs (after_vars d.core vs)
  pub ready : IsReady p (at_vars a (after_vars d.core vs)) d.walk
  pub before : VariablesBefore d.walk.next d.walk.scopes
  pub adds : Adds p w d.walk

pub state_on : (p : CoreProgram) (a : sound.Around) (vs : List Var) (b : Around) (w : Walk) (d : Did) → State p a vs b w → GoesOn w d.walk → Done p a vs w d → State p a (after_vars d.core vs) b d.walk
state_on p a vs b w d s g h = record { ready = h.ready; before = h.before; around = around_on p a b w d.walk g s.around }

-- nothing comes of it
pub done_none : (p : CoreProgram) (a : sound.Around) (vs : List Var) (b : Around) (w : Walk) → State p a vs b w → Done p a vs w (did [] w)
done_none p a vs b w s = record { is_sound = tt; extends = extends_same w.next vs; ready = s.ready; before = s.before; adds = adds_like p w w (like_same w) }

pub done_then : (p : CoreProgram) (a : sound.Around) (vs : List Var) (w : Walk) (d e : Did) → GoesOn w d.walk → Done p a vs w d → Done p a (after_vars d.core vs) d.walk e → Done p a vs w (after d e)
done_then p a vs w d e g h k = record {
  is_sound = sound_append p a d.core e.core vs h.is_sound k.is_sound;
  extends = subst (Extends w.next vs) (sym joined) (extends_then w.next d.walk.next vs (after_vars d.core vs) (after_vars e.core (after_vars d.core vs)) (next_on w d.walk g) h.extends k.extends);
  ready = subst (λ (us : List Var). IsReady p (at_vars a us) e.walk) (sym joined) k.ready;
  before = k.before;
  adds = adds_then p w d.walk e.walk h.adds k.adds;
}
  where
    joined : after_vars (d.core ++ e.core) vs ≡ after_vars e.core (after_vars d.core vs)
    joined = after_append d.core e.core vs

-- ---- scopes that are opened and closed

pub lookup_pushed : (x : List ℕ) (ss : List (List Bind)) → lookup x (ss ++ [] ∷ []) ≡ lookup x ss
lookup_pushed x [] = refl
lookup_pushed x (s ∷ ss) = ap (λ (o : Option Decl). or_in o (find x s)) (lookup_pushed x ss)

-- a scope without names changes nothing
pub ready_pushed : (p : CoreProgram) (a : sound.Around) (w v : Walk) → v.scopes ≡ w.scopes ++ [] ∷ [] → v.names ≡ w.names → IsReady p a w → IsReady p a v
ready_pushed p a w v e f r = record {
  scopes = λ x. subst (OptionIsSound p a) (sym (same x)) (r.scopes x);
  types_set = λ x d g. subst (λ (ns : List NamedTy). DeclIsSet ns d) (sym f) (r.types_set x d (sym (same x) ∙ g));
  all_typed = λ x g. r.all_typed x (sym (same x) ∙ g);
  further = r.further;
  names_kept = r.names_kept ∙ ap (λ (ns : List NamedTy). ns ++ r.further) (sym f);
}
  where
    same : (x : List ℕ) → lookup x v.scopes ≡ lookup x w.scopes
    same x = ap (lookup x) e ∙ lookup_pushed x w.scopes

pub state_pushed : (p : CoreProgram) (a : sound.Around) (vs : List Var) (b : Around) (w : Walk) → State p a vs b w → State p a vs b (pushed w)
state_pushed p a vs b w s = record {
  ready = record {
    scopes = λ x. subst (OptionIsSound p (at_vars a vs)) (sym (lookup_pushed x w.scopes)) (s.ready.scopes x);
    types_set = λ x d e. s.ready.types_set x d (sym (lookup_pushed x w.scopes) ∙ e);
    all_typed = λ x e. s.ready.all_typed x (sym (lookup_pushed x w.scopes) ∙ e);
    further = s.ready.further;
    names_kept = s.ready.names_kept;
  };
  before = λ x id u e. s.before x id u (sym (lookup_pushed x w.scopes) ∙ e);
  around = record {
    results = s.around.results;
    results_scalar = s.around.results_scalar;
    results_set = s.around.results_set;
    targets = s.around.targets;
    labels_before = s.around.labels_before;
  };
}

-- where the scopes are as they were
pub state_later : (p : CoreProgram) (a : sound.Around) (vs : List Var) (b : Around) (w v : Walk) → State p a vs b w → GoesOn w v → v.scopes ≡ w.scopes → NamesOf p v → State p a vs b v
state_later p a vs b w v s g e n = record {
  ready = ready_later p (at_vars a vs) w v g.types g.types_added e n s.ready;
  before = subst (VariablesBefore v.next) (sym e) (before_more w.next v.next w.scopes (next_on w v g) s.before);
  around = around_on p a b w v g s.around;
}

-- what is said inside of scopes that are closed
pub record Says (p : CoreProgram) (a : sound.Around) (vs : List Var) (w : Walk) (d : Did) : Type 0 where
  pub is_sound : SoundStmts p (at_vars a vs) (body d.core)
  pub extends : Extends w.next vs (after_vars d.core vs)
  pub adds : Adds p w d.walk

pub says : (p : CoreProgram) (a : sound.Around) (vs : List Var) (w : Walk) (d : Did) → Done p a vs w d → Says p a vs w d
says p a vs w d h = record { is_sound = h.is_sound; extends = h.extends; adds = h.adds }

-- what the program holds of a block it holds inside
pub holds_inside : (p : CoreProgram) (declarable : List Var) (w z : Walk) → Holds p declarable w (popped z) → Holds p declarable (pushed w) z
holds_inside p declarable w z h = record { variables = λ x l c. h.variables x l c; further = h.further; names_kept = h.names_kept }

pub done_within : (p : CoreProgram) (a : sound.Around) (vs : List Var) (b : Around) (w : Walk) (f : Walk → Did) → State p a vs b w → GoesOn (pushed w) (f (pushed w)).walk → NamesOf p (f (pushed w)).walk
    → Says p a vs (pushed w) (f (pushed w)) → Done p a vs w (within f w)
done_within p a vs b w f s g n h = record {
  is_sound = h.is_sound;
  adds = record { good = λ x c. q.good x c; stands = λ x c. q.stands x c; lost = q.lost };
  extends = h.extends;
  ready = ready_later p (at_vars a (after_vars (f (pushed w)).core vs)) w (popped (f (pushed w)).walk) g.types g.types_added (scopes_left f w g) n
      (ready_vars p a w.next vs (after_vars (f (pushed w)).core vs) w h.extends s.before s.ready);
  before = subst (VariablesBefore (f (pushed w)).walk.next) (sym (scopes_left f w g)) (before_more w.next (f (pushed w)).walk.next w.scopes (next_on (pushed w) (f (pushed w)).walk g) s.before);
}
  where
    q : Adds p (pushed w) (f (pushed w)).walk
    q = h.adds

-- ---- names and variables that come to the scope

pub ready_named : (p : CoreProgram) (a : sound.Around) (w : Walk) (n : Name) (d : Decl) → DeclIsSound p a d → DeclIsSet w.names d → (d ≡ unknown → ⊥) → IsReady p a w → IsReady p a (with_name n d w)
ready_named p a w n d s k u r = by_test (is_blank n.text)
  where
    by_test : (c : Bool) → IsReady p a (if c then w else record w { scopes = last_changed (with_bind (bind_of n d)) w.scopes })
    by_test true = r
    by_test false = ready_changed p a w (last_changed (with_bind (bind_of n d)) w.scopes) d (λ x. found_changed x (bind_of n d) w.scopes) s k u r

pub before_named : (w : Walk) (n : Name) (d : Decl) → IsBefore w.next d → VariablesBefore w.next w.scopes → VariablesBefore (with_name n d w).next (with_name n d w).scopes
before_named w n d i h = by_test (is_blank n.text)
  where
    by_test : (c : Bool) → VariablesBefore (if c then w else record w { scopes = last_changed (with_bind (bind_of n d)) w.scopes }).next (if c then w else record w { scopes = last_changed (with_bind (bind_of n d)) w.scopes }).scopes
    by_test true = h
    by_test false = before_changed w.next w.scopes (bind_of n d) i h

-- what is known of the names, the last of the variables aside
pub record Scoped (p : CoreProgram) (a : sound.Around) (vs : List Var) (w : Walk) : Type 0 where
  pub ready : IsReady p (at_vars a vs) w
  pub before : VariablesBefore w.next w.scopes

pub scoped_like : (p : CoreProgram) (a : sound.Around) (vs : List Var) (w v : Walk) → Like w v → Scoped p a vs w → Scoped p a vs v
scoped_like p a vs w v l s = record { ready = ready_like p (at_vars a vs) w v l s.ready; before = before_like w v l s.before }

pub scoped_named : (p : CoreProgram) (a : sound.Around) (vs : List Var) (w : Walk) (n : Name) (d : Decl) → DeclIsSound p (at_vars a vs) d → DeclIsSet w.names d → (d ≡ unknown → ⊥) → IsBefore w.next d
    → Scoped p a vs w → Scoped p a vs (with_name n d w)
scoped_named p a vs w n d s k u i h = record { ready = ready_named p (at_vars a vs) w n d s k u h.ready; before = before_named w n d i h.before }

pub scoped_fresh : (p : CoreProgram) (a : sound.Around) (vs : List Var) (w : Walk) (u : Ty) → Scoped p a vs w → Scoped p a (var_of w.next u ∷ vs) (fresh u w)
scoped_fresh p a vs w u s = record { ready = same_ready; before = λ x id q e. let l = s.before x id q e in omega arith }
  where
    on : IsReady p (at_vars a (var_of w.next u ∷ vs)) w
    on = ready_vars p a w.next vs (var_of w.next u ∷ vs) w (extends_var (var_of w.next u) vs) s.before s.ready

    same_ready : IsReady p (at_vars a (var_of w.next u ∷ vs)) (fresh u w)
    same_ready = record { scopes = on.scopes; types_set = on.types_set; all_typed = on.all_typed; further = on.further; names_kept = on.names_kept }

-- ---- more of what comes of a statement

pub done_scoped : (p : CoreProgram) (a : sound.Around) (vs : List Var) (w : Walk) → Scoped p a vs w → Done p a vs w (did [] w)
done_scoped p a vs w s = record { is_sound = tt; extends = extends_same w.next vs; ready = s.ready; before = s.before; adds = adds_like p w w (like_same w) }

-- it says nothing
pub record Quiet (p : CoreProgram) (a : sound.Around) (vs : List Var) (w : Walk) (d : Did) : Type 0 where
  pub adds : Adds p w d.walk
  pub nothing : d.core ≡ []
  pub scoped : Scoped p a vs d.walk

pub done_quiet : (p : CoreProgram) (a : sound.Around) (vs : List Var) (w : Walk) (d : Did) → Quiet p a vs w d → Done p a vs w d
done_quiet p a vs w d q = record {
  is_sound = subst (λ (ss : List core.Stmt). SoundStmts p (at_vars a vs) (body ss)) (sym q.nothing) tt;
  extends = subst (λ (ss : List core.Stmt). Extends w.next vs (after_vars ss vs)) (sym q.nothing) (extends_same w.next vs);
  ready = subst (λ (ss : List core.Stmt). IsReady p (at_vars a (after_vars ss vs)) d.walk) (sym q.nothing) c.ready;
  before = c.before;
  adds = q.adds;
}
  where
    c : Scoped p a vs d.walk
    c = q.scoped

pub done_also : (p : CoreProgram) (a : sound.Around) (vs : List Var) (w : Walk) (fs : List Flaw) (d : Did) → Done p a vs w d → Done p a vs w (also fs d)
done_also p a vs w fs d h = record { is_sound = h.is_sound; extends = h.extends; ready = h.ready; before = h.before; adds = h.adds }

pub done_like : (p : CoreProgram) (a : sound.Around) (vs : List Var) (w u : Walk) (d : Did) → Like w u → Done p a vs u d → Done p a vs w d
done_like p a vs w u d l h = record { is_sound = h.is_sound; extends = extends_less w.next u.next vs (after_vars d.core vs) (let e = l.next in omega arith) h.extends; ready = h.ready; before = h.before; adds = adds_then p w u d.walk (adds_like p w u l) h.adds }

-- ---- what else stands around

decl_around : (p : CoreProgram) (a c : sound.Around) (vs : List Var) (d : Decl) → DeclIsSound p (at_vars a vs) d → DeclIsSound p (at_vars c vs) d
decl_around p a c vs (variable id u) h = h
decl_around p a c vs (global number u) h = h
decl_around p a c vs (constant k u) h = h
decl_around p a c vs (type_name u) h = h
decl_around p a c vs (function id ps rs true) h = h
decl_around p a c vs (function id ps rs false) h = h
decl_around p a c vs (imported path) h = tt
decl_around p a c vs (env.built_in b) h = tt
decl_around p a c vs nil_value h = tt
decl_around p a c vs (refused code) h = tt
decl_around p a c vs unknown h = tt

pub ready_around : (p : CoreProgram) (a c : sound.Around) (vs : List Var) (w : Walk) → IsReady p (at_vars a vs) w → IsReady p (at_vars c vs) w
ready_around p a c vs w r = record { scopes = λ x. by_case (lookup x w.scopes) (r.scopes x); types_set = r.types_set; all_typed = r.all_typed; further = r.further; names_kept = r.names_kept }
  where
    by_case : (o : Option Decl) → OptionIsSound p (at_vars a vs) o → OptionIsSound p (at_vars c vs) o
    by_case None h = tt
    by_case (Some d) h = decl_around p a c vs d h
