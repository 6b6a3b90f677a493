-- Where a package begins.
use Rattle.std.proofs.Common.{arith, ◌≡◌, ◌<◌, ◌∙◌, ℕ, refl, sym, ap, subst, List, [], ◌∷◌, ◌++◌, false}
use Rattle.std.specs.Prelude.{codes, Some}
use Rattle.go_type.specs.Tree as ty
use Rattle.go_type.specs.Tree.{Ty, Tys, no_tys, more_tys}
use Rattle.go_type.specs.Levels.{tree_of, trees_of, SigBelow}
use Rattle.go_type.specs.Named.{NamedTy, IsUnnamed, SetsName, with_method, method_with}
use Rattle.go_type.specs.Predeclared.{predeclared, predeclared_names}
use Rattle.go_type.specs.Table.{places, size}
use Rattle.go_type.specs.declared.types.Sig.{Sig}
use Rattle.go_type.specs.declared.types.TypeId.{TypeId}
use Rattle.go_type.specs.declared.table.TypeTable.{TypeTable}
use Rattle.go_typing.specs.Scopes as scopes
use Rattle.go_typing.specs.Scopes.{new_env, entered}
use Rattle.go_operands.specs.RulesReady.{HasPredeclared}
use Rattle.go_operands.specs.EnvView.{with_types}
use Rattle.go_typing.specs.Known.{first_names}
use Rattle.go_items.specs.Steps.{named_text}
use Rattle.go_items.specs.Stands.{Stands}

pub has_all : (t : TypeTable) → places t ≡ predeclared → size t ≡ 20 → HasPredeclared t
has_all t h k = record { begins = λ i l. ap (λ (ts : List Ty). tree_of ts i) h; size = omega (arith, k) }

pub has_same : (a b : TypeTable) → places b ≡ places a → size b ≡ size a → HasPredeclared a → HasPredeclared b
has_same a b h k p = record { begins = λ i l. ap (λ (ts : List Ty). tree_of ts i) h ∙ p.begins i l; size = let q = p.size in omega (arith, k, q) }

-- the type of strings
abbrev pub text : TypeId
text = record { 0 = 1 }

pub text_is : (t : TypeTable) → HasPredeclared t → tree_of (places t) text ≡ ty.str
text_is t p = p.begins text (omega arith)

pub text_unnamed : (t : TypeTable) → HasPredeclared t → IsUnnamed (tree_of (places t) text)
text_unnamed t p = subst IsUnnamed (sym (text_is t p)) tt

pub text_below : (t : TypeTable) → HasPredeclared t → 1 < size t
text_below t p = let q = p.size in omega (arith, q)

-- the last name changes
pub last_set : (i : ℕ) (x : NamedTy) (f : NamedTy → NamedTy) (old new : List NamedTy) → i ≡ 1 → old ≡ predeclared_names ++ x ∷ [] → SetsName old i f new → new ≡ predeclared_names ++ f x ∷ []
last_set i x f old new e h s = from (subst (λ (n : ℕ). SetsName old n f new) e s)
  where
    from : SetsName old 1 f new → new ≡ predeclared_names ++ f x ∷ []
    from g = (subst (λ (ns : List NamedTy). SetsName ns 1 f new) h g) x refl

pub names_env : (e d : scopes.Env) (ms ns : List NamedTy) → e ≡ with_types ms d → ms ≡ ns → e ≡ with_types ns d
names_env e d ms ns h k = h ∙ ap (λ (xs : List NamedTy). with_types xs d) k

pub stands_first : (e : scopes.Env) → e ≡ with_types first_names (entered [] (new_env predeclared_names)) → Stands (record { binds = []; names = first_names }) e
stands_first e h = subst (Stands (record { binds = []; names = first_names })) (sym h) (record { names = refl; universe = refl; iota = refl; blocks = refl; entered = refl; scope = refl })

-- ---- both methods

abbrev pub plain : List TypeId → List TypeId → Sig
plain ps rs = record { params = ps; results = rs; variadic = false }

pub text_in : (n : ℕ) (rs : List TypeId) → rs ≡ text ∷ [] → 1 < n → SigBelow n (plain [] rs)
text_in n rs h l = subst (λ (is : List TypeId). SigBelow n (plain [] is)) (sym h) (tt, (l, tt))

pub none_in : (n : ℕ) (rs : List TypeId) → rs ≡ [] → SigBelow n (plain [] rs)
none_in n rs h = subst (λ (is : List TypeId). SigBelow n (plain [] is)) (sym h) (tt, tt)

abbrev with_both : List ℕ → List ℕ → Tys → Tys → List NamedTy
with_both x y us vs = predeclared_names
    ++ record {
      name = codes "runtimeError";
      package_ = [];
      under = Some ty.str;
      methods = record { name = x; pointer = false; params = no_tys; results = us; variadic = false } ∷ record { name = y; pointer = false; params = no_tys; results = vs; variadic = false } ∷ [];
    } ∷ []

pub methods_are : (ts us : List Ty) (x y : List ℕ) (rs ps : List TypeId) → x ≡ codes "Error" → y ≡ codes "RuntimeError" → rs ≡ text ∷ [] → ps ≡ [] → tree_of ts text ≡ ty.str
    → predeclared_names ++ with_method (method_with us y false (plain [] ps)) (with_method (method_with ts x false (plain [] rs)) named_text) ∷ [] ≡ first_names
methods_are ts us x y rs ps ex ey er ep h =
    ap (λ (z : List ℕ). with_both z y (trees_of ts rs) (trees_of us ps)) ex ∙ ap (λ (z : List ℕ). with_both (codes "Error") z (trees_of ts rs) (trees_of us ps)) ey
    ∙ ap (λ (is : List TypeId). with_both (codes "Error") (codes "RuntimeError") (trees_of ts is) (trees_of us ps)) er
    ∙ ap (λ (is : List TypeId). with_both (codes "Error") (codes "RuntimeError") (trees_of ts (text ∷ [])) (trees_of us is)) ep
    ∙ ap (λ (u : Ty). with_both (codes "Error") (codes "RuntimeError") (more_tys u no_tys) no_tys) h

-- ---- one change after the other

pub on_both : (e d b : scopes.Env) (ms ns : List NamedTy) → e ≡ with_types ns d → d ≡ with_types ms b → e ≡ with_types ns b
on_both e d b ms ns h k = h ∙ ap (λ (x : scopes.Env). with_types ns x) k
