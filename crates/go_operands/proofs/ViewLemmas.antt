-- What scopes with ids do is what scopes with trees do.
use Rattle.std.proofs.Common.{◌∙◌, refl, sym, ap, cond}
use Rattle.std.specs.Prelude.{◌≡◌, ◌<◌, ℕ, List, [], ◌∷◌, ◌++◌, Option, Some, None, Bool, true, false, bytes_eq, map, option_map}
use Rattle.std.proofs.lemmas.List.{map-append}
use Rattle.gj_base.specs.declared.place.Place.{Place}
use Rattle.go_type.specs.Tree.{Ty, more_tys}
use Rattle.go_type.specs.Levels.{tree_of, trees_of, IdsBelow}
use Rattle.go_type.specs.declared.types.TypeId.{TypeId}
use Rattle.go_typing.specs.Env as go
use Rattle.go_typing.specs.Env.{Decl, Bind, find, or_in, lookup}
use Rattle.go_typing.specs.Scopes.{PackageScope, scope_of, has_package, with_package, without_last, last_changed, package_changed, last_scope, place_in, with_bind, settle_in}
use Rattle.go_operands.specs.declared.scopes.declared.Declared.{Declared}
use Rattle.go_operands.specs.declared.scopes.declared.Declared.TheVariants as as_
use Rattle.go_operands.specs.Held.{Held, HeldPackage, what_in, place_held, settle_held, first_of, seek, last_with, last_of, without_innermost, held_at, has_held, enter_held, package_with}
use Rattle.go_operands.specs.View.{decl_of, bind_of, binds_of, package_of}
use Rattle.go_operands.specs.Within.{DeclaredBelow, HeldsBelow, ScopesBelow, PackagesBelow}

-- ---- one scope

module _ (ts : List Ty) where
  pub find-binds : (x : List ℕ) (hs : List Held) → find x (binds_of ts hs) ≡ option_map (decl_of ts) (what_in x hs)
  find-binds x [] = refl
  find-binds x (h ∷ hs) = by (bytes_eq h.name x) (find-binds x hs)
    where
      by : (b : Bool) → find x (binds_of ts hs) ≡ option_map (decl_of ts) (what_in x hs)
          → cond b (Some (decl_of ts h.what)) (find x (binds_of ts hs)) ≡ option_map (decl_of ts) (cond b (Some h.what) (what_in x hs))
      by true rest = refl
      by false rest = rest

  pub place-binds : (x : List ℕ) (hs : List Held) → place_in x (binds_of ts hs) ≡ place_held x hs
  place-binds x [] = refl
  place-binds x (h ∷ hs) = ap (λ (o : Option Place). cond (bytes_eq h.name x) (Some h.place) o) (place-binds x hs)

  pub add-binds : (h : Held) (hs : List Held) → binds_of ts (hs ++ h ∷ []) ≡ with_bind (bind_of ts h) (binds_of ts hs)
  add-binds h hs = map-append (bind_of ts) hs (h ∷ [])

  pub settle-binds : (x : List ℕ) (d : Declared) (hs : List Held) → binds_of ts (settle_held x d hs) ≡ settle_in x (decl_of ts d) (binds_of ts hs)
  settle-binds x d [] = refl
  settle-binds x d (h ∷ hs) = by (bytes_eq h.name x) (settle-binds x d hs)
    where
      by : (b : Bool) → binds_of ts (settle_held x d hs) ≡ settle_in x (decl_of ts d) (binds_of ts hs)
          → binds_of ts (cond b (record h { what = d } ∷ hs) (h ∷ settle_held x d hs))
          ≡ cond b (record (bind_of ts h) { what = decl_of ts d } ∷ binds_of ts hs) (bind_of ts h ∷ settle_in x (decl_of ts d) (binds_of ts hs))
      by true rest = refl
      by false rest = ap (λ (bs : List Bind). bind_of ts h ∷ bs) rest

  -- ---- open scopes

  pub lookup-scopes : (x : List ℕ) (ss : List (List Held)) → lookup x (map (binds_of ts) ss) ≡ option_map (decl_of ts) (seek x ss)
  lookup-scopes x [] = refl
  lookup-scopes x (s ∷ ss) = ap (λ (o : Option Decl). or_in o (find x (binds_of ts s))) (lookup-scopes x ss) ∙ by (seek x ss)
    where
      by : (o : Option Declared) → or_in (option_map (decl_of ts) o) (find x (binds_of ts s)) ≡ option_map (decl_of ts) (first_of o (what_in x s))
      by (Some d) = refl
      by None = find-binds x s

  pub last-scope : (ss : List (List Held)) → last_scope (map (binds_of ts) ss) ≡ binds_of ts (last_of ss)
  last-scope [] = refl
  last-scope (s ∷ []) = refl
  last-scope (s ∷ r ∷ ss) = last-scope (r ∷ ss)

  pub last-view : (change : List Held → List Held) (changes : List Bind → List Bind) (ss : List (List Held))
      → binds_of ts (change (last_of ss)) ≡ changes (binds_of ts (last_of ss)) → map (binds_of ts) (last_with change ss) ≡ last_changed changes (map (binds_of ts) ss)
  last-view change changes [] h = refl
  last-view change changes (s ∷ []) h = ap (λ (bs : List Bind). bs ∷ []) h
  last-view change changes (s ∷ r ∷ ss) h = ap (λ (bss : List (List Bind)). binds_of ts s ∷ bss) (last-view change changes (r ∷ ss) h)

  pub without-view : (ss : List (List Held)) → map (binds_of ts) (without_innermost ss) ≡ without_last (map (binds_of ts) ss)
  without-view [] = refl
  without-view (s ∷ []) = refl
  without-view (s ∷ r ∷ ss) = ap (λ (bss : List (List Bind)). binds_of ts s ∷ bss) (without-view (r ∷ ss))

  -- ---- packages

  pub scope-view : (path : List ℕ) (ps : List HeldPackage) → scope_of path (map (package_of ts) ps) ≡ binds_of ts (held_at path ps)
  scope-view path [] = refl
  scope-view path (p ∷ ps) = by (bytes_eq p.path path) (scope-view path ps)
    where
      by : (b : Bool) → scope_of path (map (package_of ts) ps) ≡ binds_of ts (held_at path ps)
          → cond b (binds_of ts p.binds) (scope_of path (map (package_of ts) ps)) ≡ binds_of ts (cond b p.binds (held_at path ps))
      by true rest = refl
      by false rest = rest

  pub package-view : (change : List Held → List Held) (changes : List Bind → List Bind) (path : List ℕ) (ps : List HeldPackage)
      → binds_of ts (change (held_at path ps)) ≡ changes (binds_of ts (held_at path ps))
      → map (package_of ts) (package_with change path ps) ≡ package_changed changes path (map (package_of ts) ps)
  package-view change changes path [] h = refl
  package-view change changes path (p ∷ ps) h = by (bytes_eq p.path path) h (package-view change changes path ps)
    where
      by : (b : Bool) → binds_of ts (change (cond b p.binds (held_at path ps))) ≡ changes (binds_of ts (cond b p.binds (held_at path ps)))
          → (binds_of ts (change (held_at path ps)) ≡ changes (binds_of ts (held_at path ps))
          → map (package_of ts) (package_with change path ps) ≡ package_changed changes path (map (package_of ts) ps))
          → map (package_of ts) (cond b (record p { binds = change p.binds } ∷ ps) (p ∷ package_with change path ps))
          ≡ cond b (record (package_of ts p) { binds = changes (binds_of ts p.binds) } ∷ map (package_of ts) ps) (package_of ts p ∷ package_changed changes path (map (package_of ts) ps))
      by true k rest = ap (λ (bs : List Bind). record (package_of ts p) { binds = bs } ∷ map (package_of ts) ps) k
      by false k rest = ap (λ (qs : List PackageScope). package_of ts p ∷ qs) (rest k)

  pub has-view : (path : List ℕ) (ps : List HeldPackage) → has_package path (map (package_of ts) ps) ≡ has_held path ps
  has-view path [] = refl
  has-view path (p ∷ ps) = ap (λ (b : Bool). cond (bytes_eq p.path path) true b) (has-view path ps)

  pub enter-view : (path : List ℕ) (ps : List HeldPackage) → map (package_of ts) (enter_held path ps) ≡ with_package path (map (package_of ts) ps)
  enter-view path ps =
      by (has_held path ps)
      ∙ ap (λ (b : Bool). cond b (map (package_of ts) ps) (map (package_of ts) ps ++ record { path = path; binds = [] } ∷ [])) (sym (has-view path ps))
    where
      by : (b : Bool) → map (package_of ts) (cond b ps (ps ++ record { path = path; binds = [] } ∷ []))
          ≡ cond b (map (package_of ts) ps) (map (package_of ts) ps ++ record { path = path; binds = [] } ∷ [])
      by true = refl
      by false = map-append (package_of ts) ps (record { path = path; binds = [] } ∷ [])

-- what changes nothing in the scope of a package changes nothing
pub package-same : (change : List Held → List Held) (path : List ℕ) (ps : List HeldPackage) → change (held_at path ps) ≡ held_at path ps → package_with change path ps ≡ ps
package-same change path [] h = refl
package-same change path (p ∷ ps) h = by (bytes_eq p.path path) h (package-same change path ps)
  where
    by : (b : Bool) → change (cond b p.binds (held_at path ps)) ≡ cond b p.binds (held_at path ps)
        → (change (held_at path ps) ≡ held_at path ps → package_with change path ps ≡ ps) → cond b (record p { binds = change p.binds } ∷ ps) (p ∷ package_with change path ps) ≡ p ∷ ps
    by true k rest = ap (λ (hs : List Held). record p { binds = hs } ∷ ps) k
    by false k rest = ap (λ (qs : List HeldPackage). p ∷ qs) (rest k)

pub last-same : (change : List Held → List Held) (ss : List (List Held)) → change (last_of ss) ≡ last_of ss → last_with change ss ≡ ss
last-same change [] h = refl
last-same change (s ∷ []) h = ap (λ (hs : List Held). hs ∷ []) h
last-same change (s ∷ r ∷ ss) h = ap (λ (hss : List (List Held)). s ∷ hss) (last-same change (r ∷ ss) h)

-- ---- look-up through all scopes

pub or_assoc : (a b c : Option Decl) → or_in (or_in a b) c ≡ or_in a (or_in b c)
or_assoc (Some d) b c = refl
or_assoc None b c = refl

pub lookup-append : (x : List ℕ) (ss rs : List (List Bind)) → lookup x (ss ++ rs) ≡ or_in (lookup x rs) (lookup x ss)
lookup-append x [] rs = ending (lookup x rs)
  where
    ending : (o : Option Decl) → o ≡ or_in o None
    ending (Some d) = refl
    ending None = refl
lookup-append x (s ∷ ss) rs = ap (λ (o : Option Decl). or_in o (find x s)) (lookup-append x ss rs) ∙ or_assoc (lookup x rs) (lookup x ss) (find x s)

pub find-append : (x : List ℕ) (bs cs : List Bind) → find x (bs ++ cs) ≡ or_in (find x bs) (find x cs)
find-append x [] cs = refl
find-append x (b ∷ bs) cs = by (bytes_eq b.name x) (find-append x bs cs)
  where
    by : (t : Bool) → find x (bs ++ cs) ≡ or_in (find x bs) (find x cs) → cond t (Some b.what) (find x (bs ++ cs)) ≡ or_in (cond t (Some b.what) (find x bs)) (find x cs)
    by true rest = refl
    by false rest = rest

-- ---- where trees stay

module _ (old new : List Ty) (n : ℕ) (kept : (t : TypeId) → t.0 < n → tree_of new t ≡ tree_of old t) where
  trees-grown : (is : List TypeId) → IdsBelow n is → trees_of new is ≡ trees_of old is
  trees-grown [] h = refl
  trees-grown (i ∷ is) h = ap (λ (t : Ty). more_tys t (trees_of new is)) (kept i h.0) ∙ ap (more_tys (tree_of old i)) (trees-grown is h.1)

  pub decl-grown : (d : Declared) → DeclaredBelow n d → decl_of new d ≡ decl_of old d
  decl-grown (as_.Var v t) h = ap (go.variable v.0) (kept t h)
  decl-grown (as_.Global k t) h = ap (go.global k) (kept t h)
  decl-grown (as_.Const k t) h = ap (go.constant k) (kept t h)
  decl-grown (as_.TypeName t) h = ap go.type_name (kept t h)
  decl-grown (as_.Func f s) h =
      ap (λ ps. go.function f.0 ps (trees_of new s.results) s.variadic) (trees-grown s.params h.0) ∙ ap (λ rs. go.function f.0 (trees_of old s.params) rs s.variadic) (trees-grown s.results h.1)
  decl-grown (as_.Import path) h = refl
  decl-grown (as_.Builtin b) h = refl
  decl-grown as_.Nil h = refl
  decl-grown (as_.Refused k) h = refl
  decl-grown as_.Unknown h = refl

  pub binds-grown : (hs : List Held) → HeldsBelow n hs → binds_of new hs ≡ binds_of old hs
  binds-grown [] h = refl
  binds-grown (b ∷ hs) h =
      ap (λ (d : Decl). record { name = b.name; place = b.place; what = d } ∷ binds_of new hs) (decl-grown b.what h.0) ∙ ap (λ (bs : List Bind). bind_of old b ∷ bs) (binds-grown hs h.1)

  pub scopes-grown : (ss : List (List Held)) → ScopesBelow n ss → map (binds_of new) ss ≡ map (binds_of old) ss
  scopes-grown [] h = refl
  scopes-grown (s ∷ ss) h = ap (λ (bs : List Bind). bs ∷ map (binds_of new) ss) (binds-grown s h.0) ∙ ap (λ (bss : List (List Bind)). binds_of old s ∷ bss) (scopes-grown ss h.1)

  pub packages-grown : (ps : List HeldPackage) → PackagesBelow n ps → map (package_of new) ps ≡ map (package_of old) ps
  packages-grown [] h = refl
  packages-grown (p ∷ ps) h =
      ap (λ (bs : List Bind). record { path = p.path; binds = bs } ∷ map (package_of new) ps) (binds-grown p.binds h.0) ∙ ap (λ (qs : List PackageScope). package_of old p ∷ qs) (packages-grown ps h.1)
