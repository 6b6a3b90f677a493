-- Cycles of the graph are names that need themselves.
use Rattle.std.proofs.Common.{arith, ◌≡◌, ◌+◌, ◌||◌, ℕ, zero, suc, ◌∙◌, List, [], ◌∷◌, refl, sym, subst, ap, Bool, true, false, if◌then◌else◌, bytes_eq, get_or}
use Rattle.std.specs.Prelude.{Some, None, Result, Ok, Err, IfOk, IsTrue, ◌↔◌}
use Rattle.go_typing.specs.Env.{Bind}
use Rattle.go_typing.specs.Items.{Item, name_of}
use Rattle.go_typing.specs.Cycles.{is_among, needs_of, needs_named, needs_itself}
use Rattle.go_graph.specs.Cycle.{Edge, Walks, IsOnCycle}
use Rattle.go_graph.specs.Order.{IsOrdered}
use Rattle.go_sound.specs.Circle.{texts, Needs, NeedsBy, NeedsItself}
use Rattle.go_sound.proofs.Among.{own_text, or_first, or_second}
use Rattle.go_sound.proofs.Reached.{reaches_itself}
use Rattle.go_items.specs.Leads.{number_from, first_number, needs_at, Leads, TellsFrom, Tells, IsInOrder}
use Rattle.go_items.proofs.NumberLemmas.{NamedFrom, named_from, one_name, turned, neither, same_answer, some_same}

module _ (ss : List (List Bind)) (all : List Item) where
  -- what the first declaration of a name needs is what its number does
  needs_from : (n : ℕ) (x : List ℕ) (is : List Item) (m k : ℕ) → number_from n x is ≡ Some m → m ≡ n + k → needs_named ss all x is ≡ needs_at ss is k
  needs_from n x [] m k h e = let f : None ≡ Some m = h in cc
  needs_from n x (i ∷ is) m zero h e = by_test (bytes_eq x (name_of i).text) (turned (name_of i).text x) h (λ f. named_from (suc n) x is m f)
    where
      by_test : (b : Bool) → bytes_eq (name_of i).text x ≡ b → (if b then Some n else number_from (suc n) x is) ≡ Some m → (number_from (suc n) x is ≡ Some m → NamedFrom (suc n) x is m)
          → (if bytes_eq (name_of i).text x then needs_of ss i else needs_named ss all x is) ≡ needs_of ss i
      by_test true t q g = ap (λ (b : Bool). if b then needs_of ss i else needs_named ss all x is) t
      by_test false t q g = let r = (g q).1 in absurd (omega arith)
  needs_from n x (i ∷ is) m (suc k) h e = by_test (bytes_eq x (name_of i).text) (turned (name_of i).text x) h (λ q. needs_from (suc n) x is m k q (omega arith))
    where
      by_test : (b : Bool) → bytes_eq (name_of i).text x ≡ b → (if b then Some n else number_from (suc n) x is) ≡ Some m → (number_from (suc n) x is ≡ Some m → needs_named ss all x is ≡ needs_at ss is k)
          → (if bytes_eq (name_of i).text x then needs_of ss i else needs_named ss all x is) ≡ needs_at ss is k
      by_test true t q g = let r : n ≡ m = some_same n m q in absurd (omega arith)
      by_test false t q g = ap (λ (b : Bool). if b then needs_of ss i else needs_named ss all x is) t ∙ g q

  abbrev IsNumber : List ℕ → ℕ → Type 0
  IsNumber x m = first_number x all ≡ Some m

  needs_first : (x : List ℕ) (m : ℕ) → IsNumber x m → needs_named ss all x all ≡ needs_at ss all m
  needs_first x m h = needs_from 0 x all m m h (omega arith)

  -- what needs something is declared
  has_number : (n : ℕ) (x y : List ℕ) (is : List Item) → is_among y (needs_named ss all x is) ≡ true → (m : ℕ) × (number_from n x is ≡ Some m)
  has_number n x y [] h = let e : false ≡ true = h in cc
  has_number n x y (i ∷ is) h = by_test (bytes_eq x (name_of i).text) (turned (name_of i).text x) (λ q. has_number (suc n) x y is q)
    where
      by_test : (b : Bool) → bytes_eq (name_of i).text x ≡ b → (is_among y (needs_named ss all x is) ≡ true → (m : ℕ) × (number_from (suc n) x is ≡ Some m)) → (m : ℕ) × ((if b then Some n else number_from (suc n) x is) ≡ Some m)
      by_test true t g = (n, refl)
      by_test false t g = g (subst (λ (b : Bool). is_among y (if b then needs_of ss i else needs_named ss all x is) ≡ true) t h)

  is_declared : (n : ℕ) (x : List ℕ) (is : List Item) (m : ℕ) → number_from n x is ≡ Some m → is_among x (texts is) ≡ true
  is_declared n x [] m h = let e : None ≡ Some m = h in cc
  is_declared n x (i ∷ is) m h = by_test (bytes_eq x (name_of i).text) (turned (name_of i).text x) h (λ q. is_declared (suc n) x is m q)
    where
      by_test : (b : Bool) → bytes_eq (name_of i).text x ≡ b → (if b then Some n else number_from (suc n) x is) ≡ Some m → (number_from (suc n) x is ≡ Some m → is_among x (texts is) ≡ true)
          → (bytes_eq (name_of i).text x || is_among x (texts is)) ≡ true
      by_test true t q g = or_first (bytes_eq (name_of i).text x) (is_among x (texts is)) t
      by_test false t q g = or_second (bytes_eq (name_of i).text x) (is_among x (texts is)) (g q)

  module _ (es : List (List ℕ)) (edges : (n m : ℕ) → Edge es n m ↔ Leads ss all n m) where
    -- ---- from the graph to names

    abbrev Next : List ℕ → ℕ → Type 0
    Next x m = (y : List ℕ) × Needs ss all x y × IsNumber y m

    edge_needs : (x : List ℕ) (n m : ℕ) → IsNumber x n → Edge es n m → Next x m
    edge_needs x n m h e = let l = (edges n m).0 e in (l.0, subst (λ (ns : List (List ℕ)). is_among l.0 ns ≡ true) (sym (needs_first x n h)) l.1, l.2)

    needs_edge : (x y : List ℕ) (n m : ℕ) → IsNumber x n → IsNumber y m → Needs ss all x y → Edge es n m
    needs_edge x y n m h k q = (edges n m).1 (y, subst (λ (ns : List (List ℕ)). is_among y ns ≡ true) (needs_first x n h) q, k)

    abbrev NamedWay : List ℕ → ℕ → Type 0
    NamedWay x m = (zs : List (List ℕ)) × (y : List ℕ) × NeedsBy ss all x zs y × IsNumber y m

    way_names : (n : ℕ) (ks : List ℕ) (m : ℕ) (x : List ℕ) → IsNumber x n → Walks es n ks m → NamedWay x m
    way_names n [] m x h w = ([], x, refl, subst (IsNumber x) w h)
    way_names n (k ∷ ks) m x h w =
        let r = edge_needs x n k h w.0 in
        let s = way_names k ks m r.0 r.2 w.1 in (r.0 ∷ s.0, s.1, (r.1, s.2), s.3)

    cycle_name : (x : List ℕ) (n : ℕ) → IsNumber x n → IsOnCycle es n → NeedsItself ss all x
    cycle_name x n h c =
        let r = edge_needs x n c.0 h c.2 in
        let s = way_names c.0 c.1 n r.0 r.2 c.3 in
        (r.0, s.0, r.1, subst (λ (v : List ℕ). NeedsBy ss all r.0 s.0 v) (one_name s.1 x all n s.3 h) s.2)

    -- ---- and back

    abbrev NumberedWay : List ℕ → ℕ → Type 0
    NumberedWay z m = (n : ℕ) × (ks : List ℕ) × IsNumber z n × Walks es n ks m

    way_numbers : (z : List ℕ) (zs : List (List ℕ)) (y : List ℕ) (m : ℕ) → NeedsBy ss all z zs y → IsNumber y m → NumberedWay z m
    way_numbers z [] y m w h = (m, [], subst (λ (v : List ℕ). IsNumber v m) (sym w) h, refl)
    way_numbers z (u ∷ us) y m w h =
        let r = way_numbers u us y m w.1 h in
        let s = has_number 0 z u all w.0 in (s.0, r.0 ∷ r.1, s.1, (needs_edge z u s.0 r.0 s.1 r.2 w.0, r.3))

    name_cycle : (x : List ℕ) (n : ℕ) → IsNumber x n → NeedsItself ss all x → IsOnCycle es n
    name_cycle x n h c = let r = way_numbers c.0 c.1 x n c.3 h in (r.0, r.1, needs_edge x c.0 n r.0 h r.2 c.2, r.3)

    -- ---- what is told

    module _ (told : List Bool) (exact : (i : ℕ) → IsTrue (get_or told i false) ↔ IsOnCycle es i) where
      tells_one : (i : Item) (n : ℕ) → IsNumber (name_of i).text n → needs_named ss all (name_of i).text all ≡ needs_of ss i → get_or told n false ≡ needs_itself ss all i
      tells_one i n h e =
          let law = reaches_itself ss all i (is_declared 0 (name_of i).text all n h) e in
          same_answer (get_or told n false) (needs_itself ss all i) (λ t. law.1 (cycle_name (name_of i).text n h ((exact n).0 t))) (λ t. (exact n).1 (name_cycle (name_of i).text n h (law.0 t)))

      tells_from : (n : ℕ) (seen : List (List ℕ)) (is : List Item) → ((x : List ℕ) → is_among x seen ≡ false → first_number x all ≡ number_from n x is)
          → ((x : List ℕ) → is_among x seen ≡ false → needs_named ss all x all ≡ needs_named ss all x is) → TellsFrom ss all told n seen is
      tells_from n seen [] f g = tt
      tells_from n seen (i ∷ is) f g = (here, tells_from (suc n) ((name_of i).text ∷ seen) is numbers needs)
        where
          here : is_among (name_of i).text seen ≡ false → get_or told n false ≡ needs_itself ss all i
          here e =
              tells_one i n (f (name_of i).text e ∙ ap (λ (b : Bool). if b then Some n else number_from (suc n) (name_of i).text is) (own_text (name_of i).text))
              (g (name_of i).text e ∙ ap (λ (b : Bool). if b then needs_of ss i else needs_named ss all (name_of i).text is) (own_text (name_of i).text))

          numbers : (x : List ℕ) → (bytes_eq (name_of i).text x || is_among x seen) ≡ false → first_number x all ≡ number_from (suc n) x is
          numbers x h =
              let r = neither (bytes_eq (name_of i).text x) (is_among x seen) h in
              f x r.1 ∙ ap (λ (b : Bool). if b then Some n else number_from (suc n) x is) (turned x (name_of i).text ∙ r.0)

          needs : (x : List ℕ) → (bytes_eq (name_of i).text x || is_among x seen) ≡ false → needs_named ss all x all ≡ needs_named ss all x is
          needs x h =
              let r = neither (bytes_eq (name_of i).text x) (is_among x seen) h in
              g x r.1 ∙ ap (λ (b : Bool). if b then needs_of ss i else needs_named ss all x is) r.0

      pub tells : Tells ss all told
      tells = tells_from 0 [] all (λ x h. refl) (λ x h. refl)

      pub in_order : (nodes : List ℕ) → IsOrdered es nodes → IsInOrder ss all told nodes
      in_order nodes h n m l e = h n m ((edges n m).1 l) (λ c. let t : true ≡ false = sym ((exact n).1 c) ∙ e in cc)

-- what follows from two facts of an answer
pub both_ok : {T E : Type 0} (r : Result T E) (P Q R : T → Type 0) → ((x : T) → P x → Q x → R x) → IfOk r P → IfOk r Q → IfOk r R
both_ok (Ok x) P Q R f h k = f x h k
both_ok (Err e) P Q R f h k = tt
