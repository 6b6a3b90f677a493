-- What the calls of an environment do to the scopes that are visible.
use Rattle.std.proofs.Common.{arith, ◌≡◌, ◌<◌, ◌+◌, ℕ, zero, suc, ◌∙◌, refl, sym, ap, List, [], ◌∷◌, ◌++◌, Option, Some, None, length, append_assoc, Bool, true, false, cond, bytes_eq}
use Rattle.std.proofs.lemmas.List.{append-nil}
use Rattle.gj_base.specs.declared.place.Place.{Place}
use Rattle.go_type.specs.Named.{NamedTy}
use Rattle.go_typing.specs.Env.{Bind, iota_in}
use Rattle.go_typing.specs.Scopes as scopes
use Rattle.go_typing.specs.Scopes.{Env, visible, package_scopes, without_last, last_changed, last_scope, with_bind, place_in, innermost}
use Rattle.go_typing.specs.Walk.{place_found, first_of, declared_place}
use Rattle.go_typing.specs.Declare.{with_iota}
use Rattle.go_operands.specs.EnvView.{with_types}
use Rattle.go_operands.specs.Held.{first_place}
use Rattle.go_operands.specs.Origin.{origin}

-- the scope of the package doesn't change with the open ones
package_same : (e : Env) (bs : List (List Bind)) (cur : Option (List ℕ)) → package_scopes (record e { blocks = bs }) cur ≡ package_scopes e cur
package_same e bs None = refl
package_same e bs (Some path) = refl

package_counted : (e : Env) (n : Option ℕ) (cur : Option (List ℕ)) → package_scopes (record e { iota = n }) cur ≡ package_scopes e cur
package_counted e n None = refl
package_counted e n (Some path) = refl

-- the scopes outside the open ones
abbrev outside : Env → List (List Bind)
outside e = (e.universe_scope ++ iota_in e.iota) ∷ package_scopes e e.current

with_blocks : (e : Env) (bs : List (List Bind)) → visible (record e { blocks = bs }) ≡ outside e ++ bs
with_blocks e bs = ap (λ (ss : List (List Bind)). (e.universe_scope ++ iota_in e.iota) ∷ ss ++ bs) (package_same e bs e.current)

pub pushes : (e : Env) → visible (scopes.pushed e) ≡ visible e ++ [] ∷ []
pushes e = with_blocks e (e.blocks ++ [] ∷ []) ∙ sym (append_assoc (outside e) e.blocks ([] ∷ []))

pub types_same : (ns : List NamedTy) (e : Env) → visible (with_types ns e) ≡ visible e
types_same ns e = ap (λ (ss : List (List Bind)). (e.universe_scope ++ iota_in e.iota) ∷ ss ++ e.blocks) (by e.current)
  where
    by : (cur : Option (List ℕ)) → package_scopes (with_types ns e) cur ≡ package_scopes e cur
    by None = refl
    by (Some path) = refl

-- ---- the last one

without : (ss rs : List (List Bind)) → 0 < length rs → without_last (ss ++ rs) ≡ ss ++ without_last rs
without [] rs h = refl
without (s ∷ []) [] h = absurd (omega arith)
without (s ∷ []) (r ∷ rs) h = refl
without (s ∷ t ∷ ss) rs h = ap (λ (us : List (List Bind)). s ∷ us) (without (t ∷ ss) rs h)

changed : (f : List Bind → List Bind) (ss rs : List (List Bind)) → 0 < length rs → last_changed f (ss ++ rs) ≡ ss ++ last_changed f rs
changed f [] rs h = refl
changed f (s ∷ []) [] h = absurd (omega arith)
changed f (s ∷ []) (r ∷ rs) h = refl
changed f (s ∷ t ∷ ss) rs h = ap (λ (us : List (List Bind)). s ∷ us) (changed f (t ∷ ss) rs h)

last_one : (ss rs : List (List Bind)) → 0 < length rs → last_scope (ss ++ rs) ≡ last_scope rs
last_one [] rs h = refl
last_one (s ∷ []) [] h = absurd (omega arith)
last_one (s ∷ []) (r ∷ rs) h = refl
last_one (s ∷ t ∷ ss) rs h = last_one (t ∷ ss) rs h

pub pops : (e : Env) → 0 < length e.blocks → visible (scopes.popped e) ≡ without_last (visible e)
pops e h = with_blocks e (without_last e.blocks) ∙ sym (without (outside e) e.blocks h)

innermost_last : (e : Env) (bs : List (List Bind)) → 0 < length bs → last_scope bs ≡ scopes.innermost_of bs e
innermost_last e [] h = absurd (omega arith)
innermost_last e (b ∷ bs) h = refl

pub inside : (e : Env) → 0 < length e.blocks → last_scope (visible e) ≡ innermost e
inside e h = last_one (outside e) e.blocks h ∙ innermost_last e e.blocks h

-- a name that the innermost scope hasn't
pub declares : (e : Env) (b : Bind) → 0 < length e.blocks → place_in b.name (innermost e) ≡ None → visible (scopes.declared b e) ≡ last_changed (with_bind b) (visible e)
declares e b h q =
    ap (λ (o : Option Place). visible (scopes.declared_at b o e)) q ∙ in_blocks e.blocks h ∙ with_blocks e (last_changed (with_bind b) e.blocks) ∙ sym (changed (with_bind b) (outside e) e.blocks h)
  where
    in_blocks : (bs : List (List Bind)) → 0 < length bs → visible (scopes.innermost_changed (with_bind b) bs e) ≡ visible (record e { blocks = last_changed (with_bind b) bs })
    in_blocks [] k = absurd (omega arith)
    in_blocks (s ∷ bs) k = refl

-- ---- how many are open

without_count : (ss : List (List Bind)) → 0 < length ss → length (without_last ss) + 1 ≡ length ss
without_count [] h = absurd (omega arith)
without_count (s ∷ []) h = refl
without_count (s ∷ r ∷ ss) h = let rest : length (without_last (r ∷ ss)) + 1 ≡ length (r ∷ ss) = without_count (r ∷ ss) (omega arith) in omega (arith, rest)

pub pop_count : (e f : Env) → 0 < length e.blocks → f ≡ scopes.popped e → length f.blocks + 1 ≡ length e.blocks
pop_count e f h q = ap (λ (g : Env). length g.blocks + 1) q ∙ without_count e.blocks h

changed_count : (f : List Bind → List Bind) (ss : List (List Bind)) → length (last_changed f ss) ≡ length ss
changed_count f [] = refl
changed_count f (s ∷ []) = refl
changed_count f (s ∷ r ∷ ss) = ap suc (changed_count f (r ∷ ss))

pub declare_count : (e f : Env) (b : Bind) → f ≡ scopes.declared b e → length f.blocks ≡ length e.blocks
declare_count e f b q = ap (λ (g : Env). length g.blocks) q ∙ at (place_in b.name (innermost e))
  where
    outer : (cur : Option (List ℕ)) → length (scopes.outside_changed (with_bind b) cur e).blocks ≡ length e.blocks
    outer None = refl
    outer (Some path) = refl

    open_ : (bs : List (List Bind)) → e.blocks ≡ bs → length (scopes.innermost_changed (with_bind b) bs e).blocks ≡ length e.blocks
    open_ [] r = outer e.current
    open_ (s ∷ bs) r = changed_count (with_bind b) (s ∷ bs) ∙ ap length (sym r)

    at : (o : Option Place) → length (scopes.declared_at b o e).blocks ≡ length e.blocks
    at (Some p) = refl
    at None = open_ e.blocks refl

-- ---- constants

pub counts : (e : Env) (n : ℕ) → e.iota ≡ None → visible (scopes.counting (Some n) e) ≡ with_iota n (visible e)
counts e n h =
    ap (λ (ss : List (List Bind)). (e.universe_scope ++ iota_in (Some n)) ∷ ss ++ e.blocks) (package_counted e (Some n) e.current)
    ∙ ap (λ (s : List Bind). (s ++ iota_in (Some n)) ∷ package_scopes e e.current ++ e.blocks) (sym (ap (λ (o : Option ℕ). e.universe_scope ++ iota_in o) h ∙ append-nil e.universe_scope))

-- ---- where a name is declared

abbrev pub listed : Option Place → List Place
listed None = []
listed (Some p) = p ∷ []

found : (x : List ℕ) (bs : List Bind) → place_found x bs ≡ listed (place_in x bs)
found x [] = refl
found x (b ∷ bs) = by (bytes_eq b.name x) (found x bs)
  where
    by : (t : Bool) → place_found x bs ≡ listed (place_in x bs) → cond t (b.place ∷ []) (place_found x bs) ≡ listed (cond t (Some b.place) (place_in x bs))
    by true rest = refl
    by false rest = rest

pub stands : (x : List ℕ) (ss : List (List Bind)) → declared_place x ss ≡ listed (origin x ss)
stands x [] = refl
stands x (s ∷ ss) = ap (λ (ps : List Place). first_of ps (place_found x s)) (stands x ss) ∙ ap (first_of (listed (origin x ss))) (found x s) ∙ first (origin x ss) (place_in x s)
  where
    first : (o p : Option Place) → first_of (listed o) (listed p) ≡ listed (first_place o p)
    first None p = refl
    first (Some q) p = refl
