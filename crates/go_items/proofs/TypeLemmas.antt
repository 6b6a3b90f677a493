-- What a named type of the package stands for, where one row more is typed.
use Rattle.std.proofs.Common.{arith, ◌≡◌, ◌+◌, ℕ, zero, suc, length, List, [], ◌∷◌, ◌++◌, refl, sym, subst, ap, ◌∙◌, append_assoc, Option, Some, option_map}
use Rattle.std.specs.Prelude.{slice_set}
use Rattle.go_syntax.specs.Tree as t
use Rattle.go_syntax.specs.declared.tree.Name.{Name}
use Rattle.go_type.specs.Tree.{Ty}
use Rattle.go_type.specs.Named.{NamedTy}
use Rattle.go_type.specs.Underlying.{underlying}
use Rattle.go_typing.specs.Items.{Item, constant_item, type_item, alias_item, function_item, variable_item, init_item}
use Rattle.go_typing.specs.Known.{Known, type_found}
use Rattle.go_sound.proofs.KnownWords.{NumberedTo, seam, one_longer}
use Rattle.go_sound.specs.Rows.{Row, items_in, named_row, types_by, under_of, typed_at}
use Rattle.go_items.specs.Stands.{IsRow, IsSetAt}

set_seam : (ps : List NamedTy) (x y : NamedTy) (xs : List NamedTy) → slice_set (ps ++ x ∷ xs) (length ps) y ≡ ps ++ y ∷ xs
set_seam [] x y xs = refl
set_seam (p ∷ ps) x y xs = ap (λ (ns : List NamedTy). p ∷ ns) (set_seam ps x y xs)

abbrev named_by_row : Name → Option Ty → NamedTy
named_by_row n o = record { name = n.text; package_ = []; under = o; methods = [] }

pub type_set : (k : Known) (base j m : ℕ) (ps : List NamedTy) (rs : List Row) (n : ℕ) (x : Name) (number : ℕ) (e : t.Expr) (u : Ty) → length ps ≡ base + j → NumberedTo j (items_in rs) m
    → IsRow rs n (type_item x number e) → option_map (underlying k.names) (type_found k e) ≡ Some u → IsSetAt (base + number) u (ps ++ types_by rs) (ps ++ types_by (typed_at k n rs))
type_set k base j m ps [] n x number e u l g h f = absurd h
type_set k base j m ps (r ∷ rs) zero x number e u l g h f =
    subst (λ (i : Item). IsSetAt (base + number) u (ps ++ named_row i r.under (types_by rs)) (ps ++ named_row i (under_of k i) (types_by rs))) (sym h)
    (subst (λ (o : Option Ty). IsSetAt (base + number) u (ps ++ named_by_row x r.under ∷ types_by rs) (ps ++ named_by_row x o ∷ types_by rs)) (sym f)
    (subst (λ (a : ℕ). IsSetAt a u (ps ++ named_by_row x r.under ∷ types_by rs) (ps ++ named_by_row x (Some u) ∷ types_by rs)) place
    (record { row = named_by_row x r.under; was = seam ps (named_by_row x r.under) (types_by rs); now = sym (set_seam ps (named_by_row x r.under) (named_by_row x (Some u)) (types_by rs)) })))
  where
    number_is : number ≡ j
    number_is = by_item r.item h g
      where
        by_item : (i : Item) → i ≡ type_item x number e → NumberedTo j (i ∷ items_in rs) m → number ≡ j
        by_item i q w = let v = subst (λ (y : Item). NumberedTo j (y ∷ items_in rs) m) q w in v.0

    place : length ps ≡ base + number
    place = l ∙ ap (λ (a : ℕ). base + a) (sym number_is)
type_set k base j m ps (r ∷ rs) (suc n) x number e u l g h f =
    by_item r.item g (λ a qs b c. type_set k base a m qs rs n x number e u b c h f)
  where
    by_item : (i : Item) → NumberedTo j (i ∷ items_in rs) m
        → ((a : ℕ) (qs : List NamedTy) → length qs ≡ base + a → NumberedTo a (items_in rs) m → IsSetAt (base + number) u (qs ++ types_by rs) (qs ++ types_by (typed_at k n rs)))
        → IsSetAt (base + number) u (ps ++ named_row i r.under (types_by rs)) (ps ++ named_row i r.under (types_by (typed_at k n rs)))
    by_item (type_item y number2 z) w v =
        subst (λ (ns : List NamedTy). IsSetAt (base + number) u ns (ps ++ named_by_row y r.under ∷ types_by (typed_at k n rs))) (append_assoc ps (named_by_row y r.under ∷ []) (types_by rs))
        (subst (λ (ns : List NamedTy). IsSetAt (base + number) u ((ps ++ named_by_row y r.under ∷ []) ++ types_by rs) ns) (append_assoc ps (named_by_row y r.under ∷ []) (types_by (typed_at k n rs)))
        (v (suc j) (ps ++ named_by_row y r.under ∷ []) (let b = one_longer ps (named_by_row y r.under) in omega arith) w.1))
    by_item (constant_item y number2 z o all) w v = v j ps l w
    by_item (alias_item y z) w v = v j ps l w
    by_item (function_item y id s) w v = v j ps l w
    by_item (variable_item y) w v = v j ps l w
    by_item (init_item y) w v = v j ps l w

-- any other row leaves the types as they are
pub types_kept : (k : Known) (i : Item) (rs : List Row) (n : ℕ) → IsRow rs n i → ((ns : List NamedTy) (o p : Option Ty) → named_row i o ns ≡ named_row i p ns) → types_by (typed_at k n rs) ≡ types_by rs
types_kept k i [] n h f = absurd h
types_kept k i (r ∷ rs) zero h f = subst (λ (y : Item). named_row y (under_of k y) (types_by rs) ≡ named_row y r.under (types_by rs)) (sym h) (f (types_by rs) (under_of k i) r.under)
types_kept k i (r ∷ rs) (suc n) h f = ap (named_row r.item r.under) (types_kept k i rs n h f)
