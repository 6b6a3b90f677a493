-- Package variables, and the types of those that one initialiser sets.
use Rattle.std.proofs.Common.{◌≡◌, refl, sym, ap, ◌∙◌, subst, arith}
use Rattle.std.specs.Prelude.{ℕ, map, suc, ◌+◌, List, [], ◌∷◌, ◌++◌, Bool, true, false, if◌then◌else◌, Option, Some, slice_get}
use Rattle.go_type.specs.Tree.{Ty, no_tys}
use Rattle.go_type.specs.Levels.{tree_of, trees_of}
use Rattle.go_type.specs.declared.types.TypeId.{TypeId}
use Rattle.go_core.specs.declared.program.PackageRow as rows
use Rattle.go_core.specs.declared.program.PackageVar as declared
use Rattle.go_core.specs.CoreTree.{Expr, PackageVar, CoreProgram, bound}
use Rattle.go_core.specs.CoreView.{package_row_view, package_var_view}
use Rattle.go_core.specs.TypeOf.{listed_types, types_of}
use Rattle.go_core.specs.Sound.{SoundExpr}
use Rattle.go_core.specs.Run.{set_with}
use Rattle.go_core.specs.SoundProgram.{types_at, type_in, SoundInitialiser}
use Rattle.go_is_sound.specs.Variables.{HasHolder, HasPackage, Holder, is_set_with, types_set, with_set}
use Rattle.go_is_sound.proofs.ListLemmas.{here, later}

module _ (q : CoreProgram) (x : PackageVar) where
  set_from : (k : ℕ) (vs : List PackageVar) → ((i : ℕ) → slice_get q.globals (k + i) ≡ slice_get vs i) → types_at q (set_with x k vs) ≡ types_set x vs
  set_from k [] h = refl
  set_from k (v ∷ vs) h = by_test (is_set_with x v) (set_from (suc k) vs (λ i. ap (slice_get q.globals) (let e : suc k + i ≡ k + suc i = omega arith in e) ∙ h (suc i)))
    where
      at_place : slice_get q.globals k ≡ Some v
      at_place = ap (slice_get q.globals) (let e : k ≡ k + 0 = omega arith in e) ∙ h 0

      by_test : (b : Bool) → types_at q (set_with x (suc k) vs) ≡ types_set x vs
          → types_at q (if b then k ∷ set_with x (suc k) vs else set_with x (suc k) vs) ≡ (if b then v.type_ ∷ types_set x vs else types_set x vs)
      by_test true e = ap (λ (o : Option PackageVar). type_in o ++ types_at q (set_with x (suc k) vs)) at_place ∙ ap (λ (us : List Ty). v.type_ ∷ us) e
      by_test false e = e

  pub set_types_at : types_at q (set_with x 0 q.globals) ≡ types_set x q.globals
  set_types_at = set_from 0 q.globals (λ i. ap (slice_get q.globals) (let e : 0 + i ≡ i = omega arith in e))

pub listed_push : (ts : List Ty) (xs : List TypeId) (t : TypeId) (us : List Ty) → listed_types (trees_of ts (xs ++ t ∷ [])) ++ us ≡ listed_types (trees_of ts xs) ++ tree_of ts t ∷ us
listed_push ts [] t us = refl
listed_push ts (x ∷ xs) t us = ap (λ (vs : List Ty). tree_of ts x ∷ vs) (listed_push ts xs t us)

-- a type after the others, where the initialiser sets the variable
pub listed_set : (ts : List Ty) (x v : PackageVar) (xs ys : List TypeId) (t : TypeId) (us : List Ty) → ys ≡ xs ++ t ∷ [] → v.type_ ≡ tree_of ts t → is_set_with x v ≡ true
    → listed_types (trees_of ts ys) ++ us ≡ listed_types (trees_of ts xs) ++ with_set x v us
listed_set ts x v xs ys t us e f b =
    ap (λ (zs : List TypeId). listed_types (trees_of ts zs) ++ us) e ∙ listed_push ts xs t us ∙ ap (λ (u : Ty). listed_types (trees_of ts xs) ++ u ∷ us) (sym f)
    ∙ ap (λ (c : Bool). listed_types (trees_of ts xs) ++ (if c then v.type_ ∷ us else us)) (sym b)

pub listed_same : (ts : List Ty) (x v : PackageVar) (xs : List TypeId) (us : List Ty) → is_set_with x v ≡ false → listed_types (trees_of ts xs) ++ us ≡ listed_types (trees_of ts xs) ++ with_set x v us
listed_same ts x v xs us b = ap (λ (c : Bool). listed_types (trees_of ts xs) ++ (if c then v.type_ ∷ us else us)) (sym b)

-- one value for each variable that it sets
pub initialiser_of : (q : CoreProgram) (x : PackageVar) (e : Expr) (types : List Ty)
    → SoundExpr q (record { vars = []; declarable = x.vars; results = no_tys; breaks = []; continues = [] }) e → x.first ≡ x.number
    → types_of q.names e ≡ types → types ≡ types_set x q.globals → SoundInitialiser q x (bound e)
initialiser_of q x e types s f t u = (s, f, t ∙ u ∙ sym (set_types_at q x))

-- ---- where a variable is declared

pub package_here : (rs : List rows.PackageRow) (r : rows.PackageRow) (others : List rows.PackageRow) (path : List ℕ) → rs ≡ r ∷ others → r.path ≡ path → HasPackage (map package_row_view rs) path
package_here rs r others path e h =
    subst (λ (xs : List rows.PackageRow). HasPackage (map package_row_view xs) path) (sym e)
    (record { row = package_row_view r; has_row = here (package_row_view r) (map package_row_view others); of_row = h })

pub package_later : (rs : List rows.PackageRow) (r : rows.PackageRow) (others : List rows.PackageRow) (path : List ℕ) → rs ≡ r ∷ others → HasPackage (map package_row_view others) path → HasPackage (map package_row_view rs) path
package_later rs r others path e h =
    subst (λ (xs : List rows.PackageRow). HasPackage (map package_row_view xs) path) (sym e)
    (record { row = h.row; has_row = later (package_row_view r) h.row (map package_row_view others) h.has_row; of_row = h.of_row })

pub holder_here : (ts : List Ty) (ys : List declared.PackageVar) (y : declared.PackageVar) (others : List declared.PackageVar) (x : PackageVar) → ys ≡ y ∷ others
    → Holder (package_var_view ts y) x → HasHolder (map (package_var_view ts) ys) x
holder_here ts ys y others x e h =
    subst (λ (zs : List declared.PackageVar). HasHolder (map (package_var_view ts) zs) x) (sym e)
    (record { holder = package_var_view ts y; is_holder = here (package_var_view ts y) (map (package_var_view ts) others); holds = h })

pub holder_later : (ts : List Ty) (ys : List declared.PackageVar) (y : declared.PackageVar) (others : List declared.PackageVar) (x : PackageVar) → ys ≡ y ∷ others
    → HasHolder (map (package_var_view ts) others) x → HasHolder (map (package_var_view ts) ys) x
holder_later ts ys y others x e h =
    subst (λ (zs : List declared.PackageVar). HasHolder (map (package_var_view ts) zs) x) (sym e)
    (record { holder = h.holder; is_holder = later (package_var_view ts y) h.holder (map (package_var_view ts) others) h.is_holder; holds = h.holds })
