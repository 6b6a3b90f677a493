-- The types of what calls give, as more of them come.
use Rattle.std.proofs.Common.{arith, ◌≡◌, ◌<◌, ◌≤◌, ◌+◌, ℕ, zero, suc, ◌∙◌, refl, sym, ap, subst, List, [], ◌∷◌, Bool, true, false, cond, bytes_eq, true≢false, Option, Some, length, get_or, take}
use Rattle.std.specs.Prelude.{Vec}
use Rattle.std.specs.Borrow.{Bor}
use Rattle.std.specs.Map.{lookup}
use Rattle.std.specs.declared.alloc.Global.{Global}
use Rattle.std.proofs.lemmas.Slice.Eq.{bytes_eq-Decides}
use Rattle.indexmap.specs.IndexMap.{insert_entry}
use Rattle.go_type.specs.Table.{size, KeepsTrees}
use Rattle.go_type.specs.declared.types.TypeId.{TypeId}
use Rattle.go_type.specs.declared.table.TypeTable.{TypeTable}
use Rattle.go_typing.specs.Env.{Bind}
use Rattle.go_calls.specs.Called.{texts}
use Rattle.go_calls.specs.declared.callee.gives.Gives.{Gives}
use Rattle.go_calls.specs.ResultTypes.{IsGiven, AreGiven, HasMore}

same_name : (x y : List ℕ) → bytes_eq x y ≡ true → x ≡ y
same_name x y h = grind (arith, bytes_eq-Decides)

own_name : (x : List ℕ) → bytes_eq x x ≡ true
own_name x = grind (arith, bytes_eq-Decides)

-- ---- one more entry

abbrev is_named : List ℕ → Vec ℕ Global → Bool
is_named x k = bytes_eq x k.items

abbrev same_key : Vec ℕ Global → Vec ℕ Global → Bool
same_key x k = bytes_eq x.items k.items

twice : (b : Bool) (t u : TypeId) (o : Option TypeId) → cond b (Some t) o ≡ cond b (Some t) (cond b (Some u) o)
twice true t u o = refl
twice false t u o = refl

either : (b c : Bool) (t u : TypeId) (o : Option TypeId) → (b ≡ true → c ≡ true → ⊥) → cond b (Some u) (cond c (Some t) o) ≡ cond c (Some t) (cond b (Some u) o)
either true true t u o h = absurd (h refl refl)
either true false t u o h = refl
either false true t u o h = refl
either false false t u o h = refl

inserted : (es : List (Vec ℕ Global × TypeId)) (k : Vec ℕ Global) (t : TypeId) (y : List ℕ)
    → lookup (is_named y) (insert_entry same_key es k t) ≡ cond (bytes_eq y k.items) (Some t) (lookup (is_named y) es)
inserted [] k t y = refl
inserted (e ∷ es) k t y = by (bytes_eq k.items e.0.items) refl (inserted es k t y)
  where
    not_both : bytes_eq k.items e.0.items ≡ false → bytes_eq y e.0.items ≡ true → bytes_eq y k.items ≡ true → ⊥
    not_both p h i = true≢false (sym (subst (λ (z : List ℕ). bytes_eq k.items z ≡ true) (sym (same_name y k.items i) ∙ same_name y e.0.items h) (own_name k.items)) ∙ p)

    by : (b : Bool) → bytes_eq k.items e.0.items ≡ b → lookup (is_named y) (insert_entry same_key es k t) ≡ cond (bytes_eq y k.items) (Some t) (lookup (is_named y) es)
        → lookup (is_named y) (cond b ((e.0, t) ∷ es) (e ∷ insert_entry same_key es k t)) ≡ cond (bytes_eq y k.items) (Some t) (cond (bytes_eq y e.0.items) (Some e.1) (lookup (is_named y) es))
    by true p rest =
        twice (bytes_eq y e.0.items) t e.1 (lookup (is_named y) es)
        ∙ ap (λ (z : List ℕ). cond (bytes_eq y z) (Some t) (cond (bytes_eq y e.0.items) (Some e.1) (lookup (is_named y) es))) (sym (same_name k.items e.0.items p))
    by false p rest =
        ap (λ (o : Option TypeId). cond (bytes_eq y e.0.items) (Some e.1) o) rest
        ∙ either (bytes_eq y e.0.items) (bytes_eq y k.items) t e.1 (lookup (is_named y) es) (not_both p)

pub inserted_at : (es : List (Vec ℕ Global × TypeId)) (k : Vec ℕ Global) (t : TypeId) (x y : List ℕ) → k.items ≡ x
    → lookup (is_named y) (insert_entry same_key es k t) ≡ cond (bytes_eq y x) (Some t) (lookup (is_named y) es)
inserted_at es k t x y h = inserted es k t y ∙ ap (λ (z : List ℕ). cond (bytes_eq y z) (Some t) (lookup (is_named y) es)) h

-- ---- one name after another

pub kept_on : (a b c : TypeTable) → KeepsTrees a b → KeepsTrees b c → size a ≤ size b → KeepsTrees a c
kept_on a b c p q s = λ t h. q t (omega arith) ∙ p t h

given_next : (ss : List (List Bind)) (g h : Gives) (xs : List (Bor (List ℕ))) (i : ℕ) (d : Bor (List ℕ)) → i < length xs → AreGiven ss g (texts (take i xs)) → HasMore ss g h
    → IsGiven ss h (get_or xs i d).now → AreGiven ss h (texts (take (suc i) xs))
given_next ss g h [] i d l a m this = absurd (omega arith)
given_next ss g h (x ∷ xs) zero d l a m this = (this, tt)
given_next ss g h (x ∷ xs) (suc i) d l a m this = (m.more x.now a.0, given_next ss g h xs i d (omega arith) a.1 m this)

pub given_step : (ss : List (List Bind)) (g h : Gives) (xs : List (Bor (List ℕ))) (i j : ℕ) (d : Bor (List ℕ)) → j ≡ i + 1 → i < length xs → AreGiven ss g (texts (take i xs)) → HasMore ss g h
    → IsGiven ss h (get_or xs i d).now → AreGiven ss h (texts (take j xs))
given_step ss g h xs i j d e l a m this = let f : j ≡ suc i = omega arith in subst (λ (n : ℕ). AreGiven ss h (texts (take n xs))) (sym f) (given_next ss g h xs i d l a m this)
