-- Where names are declared: the scopes of the code and those with trees.
use Rattle.std.proofs.Common.{arith, ◌∙◌, refl, sym, ap, subst, cond, drop}
use Rattle.std.specs.Prelude.{◌≡◌, ◌<◌, ◌≤◌, ◌-◌, ℕ, pos, zero, suc, List, [], ◌∷◌, ◌++◌, Option, Some, None, Bool, true, false, bytes_eq, codes, map, length, get_or}
use Rattle.gj_base.specs.declared.place.Place.{Place}
use Rattle.go_const.specs.declared.constant.Const.TheVariants as form
use Rattle.go_type.specs.Tree.{Ty}
use Rattle.go_type.specs.Named.{NamedTy}
use Rattle.go_typing.specs.Env.{Bind, iota_in, nowhere}
use Rattle.go_typing.specs.Scopes.{visible, place_in}
use Rattle.go_typing.specs.Scopes as scopes
use Rattle.go_operands.specs.declared.scopes.declared.Declared.{Declared}
use Rattle.go_operands.specs.declared.scopes.declared.Declared.TheVariants as as_
use Rattle.go_operands.specs.declared.scopes.scope.Scope.{Scope}
use Rattle.go_operands.specs.Held.{Held, HeldPackage, place_held, first_place, sought, held_at}
use Rattle.go_operands.specs.Holds.{held}
use Rattle.go_operands.specs.View.{binds_of}
use Rattle.go_operands.specs.Counted.{Counts, number_of, place_named, place_of}
use Rattle.go_operands.specs.EnvView.{place_current}
use Rattle.go_operands.specs.Origin.{origin}
use Rattle.go_operands.proofs.HeldLemmas.{other_way}
use Rattle.go_operands.proofs.ViewLemmas.{place-binds, scope-view}
use Rattle.go_operands.proofs.EnvLemmas.{made}

-- ---- from the inside out

sought-step : (x : List ℕ) (i : ℕ) (ss : List Scope) (d : Scope) → i < length ss → sought x (map held (drop (suc i) ss)) ≡ None
    → sought x (map held (drop i ss)) ≡ place_held x (held (get_or ss i d))
sought-step x i [] d h e = absurd (omega arith)
sought-step x zero (s ∷ ss) d h e = ap (λ (o : Option Place). first_place o (place_held x (held s))) e
sought-step x (suc i) (s ∷ ss) d h e = sought-step x i ss d (omega arith) e

pub sought-down : (x : List ℕ) (i : ℕ) (ss : List Scope) (d : Scope) → 0 < i → i ≤ length ss → sought x (map held (drop i ss)) ≡ None
    → sought x (map held (drop (i - 1) ss)) ≡ place_held x (held (get_or ss (i - 1) d))
sought-down x zero ss d k h e = absurd (omega arith)
sought-down x (suc i) ss d k h e =
    let less : suc i - 1 ≡ i = omega arith in
    subst (λ (n : ℕ). sought x (map held (drop n ss)) ≡ place_held x (held (get_or ss n d))) (sym less) (sought-step x i ss d (omega arith) e)

pub sought-found : (x : List ℕ) (i : ℕ) (ss : List Scope) (p : Place) → sought x (map held (drop i ss)) ≡ Some p → sought x (map held ss) ≡ Some p
sought-found x zero ss p h = h
sought-found x (suc i) [] p h = h
sought-found x (suc i) (s ∷ ss) p h = ap (λ (o : Option Place). first_place o (place_held x (held s))) (sought-found x i ss p h)

-- ---- all scopes

first_assoc : (a b c : Option Place) → first_place (first_place a b) c ≡ first_place a (first_place b c)
first_assoc (Some p) b c = refl
first_assoc None b c = refl

place-append : (x : List ℕ) (bs cs : List Bind) → place_in x (bs ++ cs) ≡ first_place (place_in x bs) (place_in x cs)
place-append x [] cs = refl
place-append x (b ∷ bs) cs = by (bytes_eq b.name x) (place-append x bs cs)
  where
    by : (t : Bool) → place_in x (bs ++ cs) ≡ first_place (place_in x bs) (place_in x cs) → cond t (Some b.place) (place_in x (bs ++ cs)) ≡ first_place (cond t (Some b.place) (place_in x bs)) (place_in x cs)
    by true rest = refl
    by false rest = rest

origin-append : (x : List ℕ) (ss rs : List (List Bind)) → origin x (ss ++ rs) ≡ first_place (origin x rs) (origin x ss)
origin-append x [] rs = ending (origin x rs)
  where
    ending : (o : Option Place) → o ≡ first_place o None
    ending (Some p) = refl
    ending None = refl
origin-append x (s ∷ ss) rs = ap (λ (o : Option Place). first_place o (place_in x s)) (origin-append x ss rs) ∙ first_assoc (origin x rs) (origin x ss) (place_in x s)

iota-place : (x : List ℕ) (c : Option Declared) → Counts c → place_in x (iota_in (number_of c)) ≡ place_named x c
iota-place x None k = by (bytes_eq x (codes "iota"))
  where
    by : (b : Bool) → None ≡ place_of (cond b None None)
    by true = refl
    by false = refl
iota-place x (Some (as_.Const (form.Int (pos n)) t)) k = by (bytes_eq x (codes "iota")) (other_way (codes "iota") x)
  where
    by : (b : Bool) → bytes_eq (codes "iota") x ≡ b → cond (bytes_eq (codes "iota") x) (Some nowhere) None ≡ place_of (cond b (Some (as_.Const (form.Int (pos n)) t)) None)
    by true q = ap (λ (b : Bool). cond b (Some nowhere) None) q
    by false q = ap (λ (b : Bool). cond b (Some nowhere) None) q
iota-place x _ k = absurd k

module _ (ts : List Ty) (ns : List NamedTy) (counted : Option Declared) (counts : Counts counted) where
  origin-scopes : (x : List ℕ) (ss : List (List Held)) → origin x (map (binds_of ts) ss) ≡ sought x ss
  origin-scopes x [] = refl
  origin-scopes x (s ∷ ss) = ap (λ (o : Option Place). first_place o (place_in x (binds_of ts s))) (origin-scopes x ss) ∙ ap (first_place (sought x ss)) (place-binds ts x s)

  package-origin : (x : List ℕ) (cur : Option (List ℕ)) (us : List Held) (ps : List HeldPackage) (ss : List (List Held))
      → origin x (scopes.package_scopes (made ts ns (number_of counted) us ps cur ss) cur) ≡ place_current x cur ps
  package-origin x None us ps ss = refl
  package-origin x (Some path) us ps ss = ap (place_in x) (scope-view ts path ps) ∙ place-binds ts x (held_at path ps)

  pub originates : (x : List ℕ) (us : List Held) (ps : List HeldPackage) (cur : Option (List ℕ)) (ss : List (List Held))
      → origin x (visible (made ts ns (number_of counted) us ps cur ss))
      ≡ first_place (sought x ss) (first_place (place_current x cur ps) (first_place (place_held x us) (place_named x counted)))
  originates x us ps cur ss =
      let e : scopes.Env = made ts ns (number_of counted) us ps cur ss in
      let outer : place_in x (binds_of ts us ++ iota_in (number_of counted)) ≡ first_place (place_held x us) (place_named x counted) =
      place-append x (binds_of ts us) (iota_in (number_of counted))
      ∙ ap (λ (o : Option Place). first_place o (place_in x (iota_in (number_of counted)))) (place-binds ts x us)
      ∙ ap (first_place (place_held x us)) (iota-place x counted counts) in
      let within : origin x (scopes.package_scopes e cur ++ map (binds_of ts) ss) ≡ first_place (sought x ss) (place_current x cur ps) =
      origin-append x (scopes.package_scopes e cur) (map (binds_of ts) ss)
      ∙ ap (λ (o : Option Place). first_place o (origin x (scopes.package_scopes e cur))) (origin-scopes x ss)
      ∙ ap (first_place (sought x ss)) (package-origin x cur us ps ss) in
      ap (λ (o : Option Place). first_place o (place_in x (binds_of ts us ++ iota_in (number_of counted)))) within
      ∙ ap (first_place (first_place (sought x ss) (place_current x cur ps))) outer
      ∙ first_assoc (sought x ss) (place_current x cur ps) (first_place (place_held x us) (place_named x counted))
