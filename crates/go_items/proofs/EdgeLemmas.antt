-- The edges of the graph are what declarations need.
use Rattle.std.proofs.Common.{◌≡◌, ◌⊎◌, inl, inr, ℕ, zero, suc, ◌∙◌, List, [], ◌∷◌, ◌++◌, refl, sym, subst, ap, true, false, bytes_eq, length, map, get_or, slice_get}
use Rattle.std.specs.Prelude.{Option, Some, None, Vec, ◌↔◌}
use Rattle.std.specs.declared.alloc.Global.{Global}
use Rattle.go_typing.specs.Env.{Bind}
use Rattle.go_typing.specs.Items.{Item}
use Rattle.go_typing.specs.Cycles.{is_among}
use Rattle.go_graph.specs.Cycle.{lists, Edge}
use Rattle.go_sound.proofs.Among.{same_text, own_text, or_either, or_first, or_second}
use Rattle.go_items.specs.Leads.{first_number, needs_at, Leads}
use Rattle.go_items.specs.Stated.{stated, and_number, targets_by, edges_by}
use Rattle.go_items.proofs.NeedsParamLemmas.{stated_needs, needs_stated}

module _ (f : List ℕ → Option ℕ) where
  abbrev Found : List (List ℕ) → ℕ → Type 0
  Found xs m = (x : List ℕ) × (is_among x xs ≡ true) × (f x ≡ Some m)

  abbrev IsIn : ℕ → List ℕ → Type 0
  IsIn m ns = (k : ℕ) × (slice_get ns k ≡ Some m)

  later : (y : List ℕ) (ys : List (List ℕ)) (m : ℕ) → Found ys m → Found (y ∷ ys) m
  later y ys m r = (r.0, or_second (bytes_eq y r.0) (is_among r.0 ys) r.1, r.2)

  in_targets : (xs : List (List ℕ)) (k m : ℕ) → slice_get (targets_by f xs) k ≡ Some m → Found xs m
  in_targets [] k m h = let e : None ≡ Some m = h in cc
  in_targets (x ∷ xs) k m h = by_number (f x) refl k h (λ j e. in_targets xs j m e)
    where
      by_number : (o : Option ℕ) → f x ≡ o → (j : ℕ) → slice_get (and_number o (targets_by f xs)) j ≡ Some m → ((i : ℕ) → slice_get (targets_by f xs) i ≡ Some m → Found xs m) → Found (x ∷ xs) m
      by_number None e j q g = later x xs m (g j q)
      by_number (Some n) e zero q g = (x, or_first (bytes_eq x x) (is_among x xs) (own_text x), e ∙ q)
      by_number (Some n) e (suc j) q g = later x xs m (g j q)

  to_targets : (xs : List (List ℕ)) (x : List ℕ) (m : ℕ) → is_among x xs ≡ true → f x ≡ Some m → IsIn m (targets_by f xs)
  to_targets [] x m h e = let g : false ≡ true = h in cc
  to_targets (y ∷ ys) x m h e = by_case (or_either (bytes_eq y x) (is_among x ys) h) (λ k. to_targets ys x m k e)
    where
      deeper : (o : Option ℕ) → IsIn m (targets_by f ys) → IsIn m (and_number o (targets_by f ys))
      deeper None r = r
      deeper (Some n) r = (suc r.0, r.1)

      by_case : (bytes_eq y x ≡ true) ⊎ (is_among x ys ≡ true) → (is_among x ys ≡ true → IsIn m (targets_by f ys)) → IsIn m (targets_by f (y ∷ ys))
      by_case (inl q) g = subst (λ (o : Option ℕ). IsIn m (and_number o (targets_by f ys))) (sym (ap f (same_text y x q) ∙ e)) (zero, refl)
      by_case (inr q) g = deeper (f y) (g q)

  module _ (ss : List (List Bind)) where
    edge_out : (is : List Item) (n k m : ℕ) → slice_get (get_or (edges_by f ss is) n []) k ≡ Some m → Found (needs_at ss is n) m
    edge_out [] n k m h = let e : None ≡ Some m = h in cc
    edge_out (i ∷ is) zero k m h = let r = in_targets (stated ss i) k m h in (r.0, stated_needs ss r.0 i r.1, r.2)
    edge_out (i ∷ is) (suc n) k m h = edge_out is n k m h

    edge_in : (is : List Item) (n : ℕ) (x : List ℕ) (m : ℕ) → is_among x (needs_at ss is n) ≡ true → f x ≡ Some m → IsIn m (get_or (edges_by f ss is) n [])
    edge_in [] n x m h e = let g : false ≡ true = h in cc
    edge_in (i ∷ is) zero x m h e = to_targets (stated ss i) x m (needs_stated ss x i h) e
    edge_in (i ∷ is) (suc n) x m h e = edge_in is n x m h e

    pub edges_exact : (is : List Item) → ((x : List ℕ) → f x ≡ first_number x is) → (es : List (List ℕ)) → es ≡ edges_by f ss is → (n m : ℕ) → Edge es n m ↔ Leads ss is n m
    edges_exact is same es e n m = (
      λ g. (let r = edge_out is n g.0 m (subst (λ (xs : List (List ℕ)). slice_get (get_or xs n []) g.0 ≡ Some m) e g.1) in (r.0, r.1, sym (same r.0) ∙ r.2)),
      λ l. (let r = edge_in is n l.0 m l.1 (same l.0 ∙ l.2) in (r.0, subst (λ (xs : List (List ℕ)). slice_get (get_or xs n []) r.0 ≡ Some m) (sym e) r.1)),
    )

    pub edges_length : (is : List Item) → length (edges_by f ss is) ≡ length is
    edges_length [] = refl
    edges_length (i ∷ is) = ap suc (edges_length is)

pub count_lists : (vs : List (Vec ℕ Global)) → length (lists vs) ≡ length vs
count_lists [] = refl
count_lists (v ∷ vs) = ap suc (count_lists vs)

pub count_items : {X Y : Type 0} (f : X → Y) (xs : List X) → length (map f xs) ≡ length xs
count_items f [] = refl
count_items f (x ∷ xs) = ap suc (count_items f xs)

-- the edges of one more node
pub one_more_list : (vs : List (Vec ℕ Global)) (v : Vec ℕ Global) (js : List ℕ) (rest : List (List ℕ)) → v.items ≡ js → lists (vs ++ v ∷ []) ++ rest ≡ lists vs ++ js ∷ rest
one_more_list [] v js rest h = ap (λ (ks : List ℕ). ks ∷ rest) h
one_more_list (w ∷ vs) v js rest h = ap (λ (ls : List (List ℕ)). w.items ∷ ls) (one_more_list vs v js rest h)
