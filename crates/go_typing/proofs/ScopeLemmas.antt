-- Scopes as they are entered, left and filled.
use Rattle.std.proofs.Common.{◌≡◌, ℕ, List, [], ◌∷◌, ◌++◌, Bool, true, false, Option, Some, None, refl, sym, ap, ◌∙◌, if◌then◌else◌, bytes_eq}
use Rattle.std.proofs.lemmas.Slice.Eq.{bytes_eq-Decides}
use Rattle.std.proofs.lemmas.List.{append_assoc}
use Rattle.gj_base.specs.declared.place.Place.{Place}
use Rattle.go_typing.specs.Env.{Decl, Bind, find, lookup, or_in, iota_in}
use Rattle.go_typing.specs.Scopes.{PackageScope, Env, scope_of, package_scopes, visible, without_last, last_changed, package_changed, outside_changed, innermost_changed, last_scope, innermost_of, innermost, place_in, with_bind, declared_at, in_block, PopsWhatWasPushed, InnermostDecides, DeclaresInside, KeepsFirst, KeepsOthers}

-- ---- the last scope

without_last-append : (ss : List (List Bind)) (s : List Bind) → without_last (ss ++ s ∷ []) ≡ ss
without_last-append [] s = refl
without_last-append (r ∷ []) s = refl
without_last-append (r ∷ q ∷ qs) s = ap (λ (ts : List (List Bind)). r ∷ ts) (without_last-append (q ∷ qs) s)

last_scope-append : (ss : List (List Bind)) (s : List Bind) → last_scope (ss ++ s ∷ []) ≡ s
last_scope-append [] s = refl
last_scope-append (r ∷ []) s = refl
last_scope-append (r ∷ q ∷ qs) s = last_scope-append (q ∷ qs) s

last_changed-append : (f : List Bind → List Bind) (ss : List (List Bind)) (s : List Bind) → last_changed f (ss ++ s ∷ []) ≡ ss ++ f s ∷ []
last_changed-append f [] s = refl
last_changed-append f (r ∷ []) s = refl
last_changed-append f (r ∷ q ∷ qs) s = ap (λ (ts : List (List Bind)). r ∷ ts) (last_changed-append f (q ∷ qs) s)

innermost_of-append : (ss : List (List Bind)) (s : List Bind) (env : Env) → innermost_of (ss ++ s ∷ []) env ≡ s
innermost_of-append [] s env = refl
innermost_of-append (r ∷ rs) s env = last_scope-append (r ∷ rs) s

changed-append : (f : List Bind → List Bind) (ss : List (List Bind)) (s : List Bind) (env : Env)
    → innermost_changed f (ss ++ s ∷ []) env ≡ record env { blocks = ss ++ f s ∷ [] }
changed-append f [] s env = refl
changed-append f (r ∷ rs) s env = ap (λ (ts : List (List Bind)). record env { blocks = ts }) (last_changed-append f (r ∷ rs) s)

pub pops : PopsWhatWasPushed
pops env = ap (λ (ts : List (List Bind)). record env { blocks = ts }) (without_last-append env.blocks [])

-- ---- look-up

or_in-none : (o : Option Decl) → or_in o None ≡ o
or_in-none None = refl
or_in-none (Some d) = refl

or_in-assoc : (a b c : Option Decl) → or_in (or_in a b) c ≡ or_in a (or_in b c)
or_in-assoc None b c = refl
or_in-assoc (Some d) b c = refl

lookup-append : (x : List ℕ) (ss : List (List Bind)) (s : List Bind) → lookup x (ss ++ s ∷ []) ≡ or_in (find x s) (lookup x ss)
lookup-append x [] s = sym (or_in-none (find x s))
lookup-append x (r ∷ rs) s = ap (λ (o : Option Decl). or_in o (find x r)) (lookup-append x rs s) ∙ or_in-assoc (find x s) (lookup x rs) (find x r)

pub decides : InnermostDecides
decides x ss s d h = lookup-append x ss s ∙ ap (λ (o : Option Decl). or_in o (lookup x ss)) h

same_bytes : (x : List ℕ) → bytes_eq x x ≡ true
same_bytes x = (bytes_eq-Decides x x).1 refl

find_new : (b : Bind) (c : Bool) → c ≡ true → (if c then Some b.what else None) ≡ Some b.what
find_new b true h = refl
find_new b false h = let e : false ≡ true = h in cc

-- a name that is new in the scope is found where it was added
find-with_bind : (b : Bind) (bs : List Bind) → place_in b.name bs ≡ None → find b.name (bs ++ b ∷ []) ≡ Some b.what
find-with_bind b [] h = find_new b (bytes_eq b.name b.name) (same_bytes b.name)
find-with_bind b (c ∷ cs) h = by_test (bytes_eq c.name b.name) h (find-with_bind b cs)
  where
    by_test : (e : Bool) → (if e then Some c.place else place_in b.name cs) ≡ None → (place_in b.name cs ≡ None → find b.name (cs ++ b ∷ []) ≡ Some b.what)
        → (if e then Some c.what else find b.name (cs ++ b ∷ [])) ≡ Some b.what
    by_test true k r = let f : Some c.place ≡ None = k in cc
    by_test false k r = r k

blocks_last : (env : Env) (ss : List (List Bind)) (s : List Bind) → visible (in_block ss s env) ≡ visible (record env { blocks = ss }) ++ s ∷ []
blocks_last env ss s = ap (λ (ts : List (List Bind)). (env.universe_scope ++ iota_in env.iota) ∷ ts) (sym (append_assoc (package_scopes env env.current) ss (s ∷ [])))

declared_new : (b : Bind) (env : Env) (o : Option Place) → o ≡ None → declared_at b o env ≡ innermost_changed (with_bind b) env.blocks env
declared_new b env o h = ap (λ (p : Option Place). declared_at b p env) h

pub declares : DeclaresInside
declares env ss s b h =
    let e = declared_new b (in_block ss s env) (place_in b.name (innermost_of (ss ++ s ∷ []) (in_block ss s env))) (ap (place_in b.name) (innermost_of-append ss s (in_block ss s env)) ∙ h) in
    let c = changed-append (with_bind b) ss s (in_block ss s env) in
    ap (λ (x : Env). lookup b.name (visible x)) (e ∙ c)
    ∙ ap (lookup b.name) (blocks_last env ss (with_bind b s))
    ∙ decides b.name (visible (record env { blocks = ss })) (with_bind b s) b.what (find-with_bind b s h)

pub keeps_first : KeepsFirst
keeps_first env b at h = ap (λ (p : Option Place). declared_at b p env) h

-- ---- other names

find_other : (x : List ℕ) (b : Bind) → bytes_eq b.name x ≡ false → (bs : List Bind) → find x (bs ++ b ∷ []) ≡ find x bs
find_other x b h [] = by_test (bytes_eq b.name x) h
  where
    by_test : (e : Bool) → e ≡ false → (if e then Some b.what else None) ≡ None
    by_test false k = refl
    by_test true k = let f : true ≡ false = k in cc
find_other x b h (c ∷ cs) = ap (λ (o : Option Decl). if bytes_eq c.name x then Some c.what else o) (find_other x b h cs)

-- the same where a scope comes after it
find_other_before : (x : List ℕ) (b : Bind) → bytes_eq b.name x ≡ false → (bs cs : List Bind) → find x ((bs ++ b ∷ []) ++ cs) ≡ find x (bs ++ cs)
find_other_before x b h [] cs = by_test (bytes_eq b.name x) h
  where
    by_test : (e : Bool) → e ≡ false → (if e then Some b.what else find x cs) ≡ find x cs
    by_test false k = refl
    by_test true k = let f : true ≡ false = k in cc
find_other_before x b h (c ∷ bs) cs = ap (λ (o : Option Decl). if bytes_eq c.name x then Some c.what else o) (find_other_before x b h bs cs)

module _ (x : List ℕ) (b : Bind) (h : bytes_eq b.name x ≡ false) where
  last_other : (ss : List (List Bind)) → lookup x (last_changed (with_bind b) ss) ≡ lookup x ss
  last_other [] = refl
  last_other (s ∷ []) = ap (λ (o : Option Decl). or_in None o) (find_other x b h s)
  last_other (s ∷ r ∷ rs) = ap (λ (o : Option Decl). or_in o (find x s)) (last_other (r ∷ rs))

  -- look-up in front of scopes that are alike
  lookup_front : (fs ss ts : List (List Bind)) → lookup x ss ≡ lookup x ts → lookup x (fs ++ ss) ≡ lookup x (fs ++ ts)
  lookup_front [] ss ts e = e
  lookup_front (f ∷ fs) ss ts e = ap (λ (o : Option Decl). or_in o (find x f)) (lookup_front fs ss ts e)

  scope_other : (path : List ℕ) (ps : List PackageScope) → find x (scope_of path (package_changed (with_bind b) path ps)) ≡ find x (scope_of path ps)
  scope_other path [] = refl
  scope_other path (p ∷ ps) = by_test (bytes_eq p.path path) refl (scope_other path ps)
    where
      by_test : (e : Bool) → bytes_eq p.path path ≡ e → find x (scope_of path (package_changed (with_bind b) path ps)) ≡ find x (scope_of path ps)
          → find x (scope_of path (if e then record p { binds = with_bind b p.binds } ∷ ps else p ∷ package_changed (with_bind b) path ps)) ≡ find x (if e then p.binds else scope_of path ps)
      by_test true k r = ap (λ (c : Bool). find x (if c then with_bind b p.binds else scope_of path ps)) k ∙ find_other x b h p.binds
      by_test false k r = ap (λ (c : Bool). find x (if c then p.binds else scope_of path (package_changed (with_bind b) path ps))) k ∙ r

  outside_other : (env : Env) (o : Option (List ℕ)) → env.current ≡ o → env.blocks ≡ [] → lookup x (visible (outside_changed (with_bind b) o env)) ≡ lookup x (visible env)
  outside_other env None c e =
      ap (λ (f : Option Decl). or_in (lookup x (package_scopes env env.current ++ env.blocks)) f) (find_other_before x b h env.universe_scope (iota_in env.iota))
  outside_other env (Some path) c e =
      ap (λ (ts : List (List Bind)). or_in (lookup x ts) (find x (env.universe_scope ++ iota_in env.iota)))
      (ap (λ (o : Option (List ℕ)). package_scopes (outside_changed (with_bind b) (Some path) env) o ++ env.blocks) c)
      ∙ ap (λ (d : Option Decl). or_in d (find x (env.universe_scope ++ iota_in env.iota))) (package_other env.blocks)
      ∙ ap (λ (ts : List (List Bind)). or_in (lookup x ts) (find x (env.universe_scope ++ iota_in env.iota)))
      (ap (λ (o : Option (List ℕ)). package_scopes env o ++ env.blocks) (sym c))
    where
      package_other : (ss : List (List Bind)) → lookup x (scope_of path (package_changed (with_bind b) path env.packages) ∷ ss) ≡ lookup x (scope_of path env.packages ∷ ss)
      package_other ss = ap (λ (o : Option Decl). or_in (lookup x ss) o) (scope_other path env.packages)

  changed_other : (env : Env) (ss : List (List Bind)) → env.blocks ≡ ss → lookup x (visible (innermost_changed (with_bind b) ss env)) ≡ lookup x (visible env)
  changed_other env [] e = outside_other env env.current refl e
  changed_other env (s ∷ ss) e =
      lookup_front ((env.universe_scope ++ iota_in env.iota) ∷ package_scopes env env.current) (last_changed (with_bind b) (s ∷ ss)) (s ∷ ss) (last_other (s ∷ ss))
      ∙ ap (λ (ts : List (List Bind)). lookup x ((env.universe_scope ++ iota_in env.iota) ∷ package_scopes env env.current ++ ts)) (sym e)

pub keeps_others : KeepsOthers
keeps_others env b x h = by_place (place_in b.name (innermost env))
  where
    by_place : (o : Option Place) → lookup x (visible (declared_at b o env)) ≡ lookup x (visible env)
    by_place (Some at) = refl
    by_place None = changed_other x b h env env.blocks refl
