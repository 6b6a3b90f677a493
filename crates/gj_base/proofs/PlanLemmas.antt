-- A map of std, seen as a finite map.
use Rattle.std.proofs.Common.{◌≡◌, cond, List, [], ◌∷◌, Some, refl, sym, ap, ◌∙◌}
use Rattle.std.specs.declared.cmp.Ordering.{Ordering}
use Rattle.std.specs.Ordering.{eq_by_cmp}
use Rattle.std.specs.Cmp.{IsTotalOrder, eq_by_cmp_equiv}
use Rattle.std.specs.BTreeMap.{is_at}
use Rattle.std.specs.Map.{lookup}
use Rattle.std.specs.FinMap as map
use Rattle.std.specs.FinMap.{IsAntisymmetric, find, from_entries, get-from_entries, get-insert, same_map}

find-lookup : {K X : Type 0} (R : K → K → Ordering) (q : K) (es : List (K × X)) → find R q es ≡ lookup (is_at (R q)) es
find-lookup R q [] = refl
find-lookup R q (e ∷ es) = ap (cond (eq_by_cmp R q e.0) (Some e.1)) (find-lookup R q es)

-- what the finite map of some entries has at a key
pub get-lookup : {K X : Type 0} {R : K → K → Ordering} (o : IsTotalOrder R) (es : List (K × X)) (q : K) → map.get (from_entries {R = R} es) q ≡ lookup (is_at (R q)) es
get-lookup {R = R} o es q = get-from_entries o es q ∙ find-lookup R q es

-- where only the value at one key is new, that is an insertion
pub updated : {K X : Type 0} {R : K → K → Ordering} (o : IsTotalOrder R) → IsAntisymmetric R → (old new : List (K × X)) (k : K) (v : X) → ((q : K) → lookup (is_at (R q)) new ≡ cond (is_at (R k) q) (Some v) (lookup (is_at (R q)) old)) → from_entries {R = R} new ≡ map.insert (from_entries old) k v
updated {R = R} o same old new k v each =
    same_map o same _ _ (λ q.
    get-lookup o new q
    ∙ each q
    ∙ ap (λ b. cond b (Some v) (lookup (is_at (R q)) old)) ((eq_by_cmp_equiv o).symm k q)
    ∙ ap (cond (eq_by_cmp R q k) (Some v)) (sym (get-lookup o old q))
    ∙ sym (get-insert o (from_entries old) k v q))
