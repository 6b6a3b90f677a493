-- A named type that is added and set.
use Rattle.std.proofs.Common.{◌≡◌, ◌<◌, ◌≤◌, ℕ, suc, ◌∙◌, refl, sym, ap, subst, List, [], ◌∷◌, ◌++◌, length, map, Option, Some, false}
use Rattle.std.specs.Prelude.{slice_get, slice_set}
use Rattle.gj_base.specs.declared.place.Place.{Place}
use Rattle.go_syntax.specs.declared.tree.Name.{Name}
use Rattle.go_type.specs.Tree as ty
use Rattle.go_type.specs.Tree.{Ty}
use Rattle.go_type.specs.Named.{NamedTy, SetsName, named_of, new_name, with_under}
use Rattle.go_type.specs.Levels.{tree_of, trees}
use Rattle.go_type.specs.Table.{places, names, name_count, size, KeepsTrees}
use Rattle.go_type.specs.Underlying.{underlying}
use Rattle.go_type.specs.declared.table.TypeTable.{TypeTable}
use Rattle.go_type.specs.declared.types.TypeId.{TypeId}
use Rattle.go_core.specs.CoreTree.{Var}
use Rattle.go_typing.specs.Env.{Bind, type_name}
use Rattle.go_typing.specs.Scopes as scopes
use Rattle.go_operands.specs.EnvView.{with_types}
use Rattle.go_typing.specs.Walk.{with_name}
use Rattle.go_typing.specs.Declare.{declare_type}
use Rattle.go_walk.specs.WalkView.{named_for}
use Rattle.go_walk.proofs.WalkLemmas.{made}

pub mapped_length : {A B : Type 0} (f : A → B) (xs : List A) → length xs ≡ length (map f xs)
mapped_length f [] = refl
mapped_length f (x ∷ xs) = ap suc (mapped_length f xs)

got : (ns : List NamedTy) (x : NamedTy) → slice_get (ns ++ x ∷ []) (length ns) ≡ Some x
got [] x = refl
got (y ∷ ns) x = got ns x

put : (ns : List NamedTy) (x z : NamedTy) → slice_set (ns ++ x ∷ []) (length ns) z ≡ ns ++ z ∷ []
put [] x z = refl
put (y ∷ ns) x z = ap (λ (ms : List NamedTy). y ∷ ms) (put ns x z)

-- the last one is set
pub sets_last : (ns ms ks : List NamedTy) (i : ℕ) (x : NamedTy) (t : Ty) → i ≡ length ns → ms ≡ ns ++ x ∷ [] → SetsName ms i (with_under t) ks → ks ≡ ns ++ with_under t x ∷ []
sets_last ns ms ks i x t e q sets =
    sets x (ap (λ (ys : List NamedTy). slice_get ys i) q ∙ ap (slice_get (ns ++ x ∷ [])) e ∙ got ns x)
    ∙ ap (λ (ys : List NamedTy). slice_set ys i (with_under t x)) q
    ∙ ap (λ (k : ℕ). slice_set (ns ++ x ∷ []) k (with_under t x)) e
    ∙ put ns x (with_under t x)

abbrev named_in : List ℕ → List ℕ → Ty → NamedTy
named_in x p t = record { name = x; package_ = p; under = Some t; methods = [] }

pub named_same : (ns : List NamedTy) (x y p : List ℕ) (t u : Ty) → x ≡ y → p ≡ [] → t ≡ u → ns ++ named_in x p t ∷ [] ≡ ns ++ named_for y u ∷ []
named_same ns x y p t u a b c = λ j. ns ++ named_in (a j) (b j) (c j) ∷ []

pub counted : (t : TypeTable) → name_count t ≡ length (names t)
counted t = mapped_length (named_of (trees t.levels.keys)) t.names.items

-- an environment with a named type that is added and then set
pub adds_type : (d e f g : scopes.Env) (ns ms ks : List NamedTy) (i : ℕ) (x y p : List ℕ) (t u : Ty) → e ≡ with_types (ns ++ new_name x p ∷ []) d → ms ≡ e.named_types → f ≡ with_types ks e → g ≡ f
    → i ≡ length ns → SetsName ms i (with_under t) ks → x ≡ y → p ≡ [] → t ≡ u → g ≡ with_types (ns ++ named_for y u ∷ []) d
adds_type d e f g ns ms ks i x y p t u added read set kept k sets a b c =
    let listed : ms ≡ ns ++ new_name x p ∷ [] = read ∙ ap (λ (v : scopes.Env). v.named_types) added in
    let last : ks ≡ ns ++ named_for y u ∷ [] = sets_last ns ms ks i (new_name x p) t k listed sets ∙ named_same ns x y p t u a b c in
    kept ∙ set ∙ ap (with_types ks) added ∙ ap (λ (zs : List NamedTy). with_types zs d) last

-- what the other type stands for, read in the table before
pub read_before : (s t : TypeTable) (under of : TypeId) → t ≡ s → tree_of (places t) under ≡ underlying (names t) (tree_of (places t) of) → tree_of (places s) under ≡ underlying (names s) (tree_of (places s) of)
read_before s t under of e h = subst (λ (r : TypeTable). tree_of (places r) under ≡ underlying (names r) (tree_of (places r) of)) e h

-- trees that an earlier table has
pub keeps_over : (s t u : TypeTable) → places t ≡ places s → size t ≡ size s → KeepsTrees t u → KeepsTrees s u
keeps_over s t u p n k = λ i h. k i (subst (λ (m : ℕ). i.0 < m) (sym n) h) ∙ ap (λ (ts : List Ty). tree_of ts i) p

pub declares_type : (n : Name) (u t : Ty) (ns ms : List NamedTy) (ss rs : List (List Bind)) (next label : ℕ) (vs : List Var) (ds : List Name) (us : List Place) (lost : ℕ) → t ≡ ty.named (length ns) → ms ≡ ns ++ named_for n.text (underlying ns u) ∷ [] → rs ≡ ss
    → with_name n (type_name t) (made ms rs next label vs ds us lost) ≡ declare_type n false (Some u) (made ns ss next label vs ds us lost)
declares_type n u t ns ms ss rs next label vs ds us lost a b c = λ j. with_name n (type_name (a j)) (made (b j) (c j) next label vs ds us lost)
