-- What is tested says which nodes are on a cycle.
use Rattle.std.proofs.Common.{arith, ◌≡◌, ◌<◌, ◌≤◌, ℕ, zero, suc, refl, sym, ap, subst, List, [], ◌∷◌, ◌++◌, Some, Bool, false, length, get_or, slice_get, inl, inr}
use Rattle.std.specs.Prelude.{IsTrue, ◌↔◌}
use Rattle.go_graph.specs.Cycle.{Edge, Walks, IsOnCycle}
use Rattle.go_graph.specs.Joined.{number, Falls, first_of, Joins, JoinsAll, Stays}
use Rattle.go_graph.proofs.ListLemmas.{less_or}

-- one way after another
pub join : (es : List (List ℕ)) (i : ℕ) (ks : List ℕ) (j : ℕ) (ls : List ℕ) (m : ℕ) → Walks es i ks j → Walks es j ls m → Walks es i (ks ++ ls) m
join es i [] j ls m w v = subst (λ (x : ℕ). Walks es x ls m) (sym w) v
join es i (k ∷ ks) j ls m w v = (w.0, join es k ks j ls m w.1 v)

-- a node that leads to another one is in the graph
beyond : (es : List (List ℕ)) (i : ℕ) → length es ≤ i → get_or es i [] ≡ []
beyond [] i h = refl
beyond (e ∷ es) zero h = absurd (omega arith)
beyond (e ∷ es) (suc i) h = beyond es i (omega arith)

nothing : (k j : ℕ) → slice_get {X = ℕ} [] k ≡ Some j → ⊥
nothing k j e = cc

module _ (es : List (List ℕ)) where
  abbrev Reaches : ℕ → ℕ → Type 0
  Reaches i j = (ks : List ℕ) × Walks es i ks j

  module _ (of first met far : List ℕ) (falls : Falls es of) (joins : JoinsAll es of first met far) where
    abbrev root : ℕ → ℕ
    root i = first_of of first i

    same_root : (i j : ℕ) → number of i ≡ number of j → root i ≡ root j
    same_root i j e = ap (λ (c : ℕ). get_or first c 0) e

    -- the first node of a component leads to each of its nodes
    led_by : (i : ℕ) → Joins es of first met far i → ((p : ℕ) → p < length es → get_or met p 0 < get_or met i 0 → Reaches (root p) p) → Reaches (root i) i
    led_by i (inl e) before = ([], e)
    led_by i (inr (a, b)) before =
        let p = a.0 in
        let r = before p a.1 a.4 in
        subst (λ (x : ℕ). Reaches x i) (same_root p i a.3) (r.0 ++ i ∷ [], join es (root p) r.0 p (i ∷ []) i r.1 (a.2, refl))

    led : (n i : ℕ) → i < length es → get_or met i 0 < n → Reaches (root i) i
    led zero i h k = absurd (omega arith)
    led (suc n) i h k = led_by i (joins i h) (λ p w l. led n p w (omega (arith, l, k)))

    -- each node leads to the first one of its component
    back_by : (i : ℕ) → Joins es of first met far i → ((q : ℕ) → q < length es → get_or far q 0 < get_or far i 0 → Reaches q (root q)) → Reaches i (root i)
    back_by i (inl e) before = ([], sym e)
    back_by i (inr (a, b)) before =
        let q = b.0 in
        let r = before q b.1 b.4 in
        (q ∷ r.0, (b.2, subst (λ (x : ℕ). Walks es q r.0 x) (same_root q i b.3) r.1))

    back : (n i : ℕ) → i < length es → get_or far i 0 < n → Reaches i (root i)
    back zero i h k = absurd (omega arith)
    back (suc n) i h k = back_by i (joins i h) (λ q w l. back n q w (omega (arith, l, k)))

    pub stays_on : (i : ℕ) → i < length es → Stays es of i → IsOnCycle es i
    stays_on i h s =
        let j = s.0 in
        let within = (falls i j s.1).0 in
        let there = back (suc (get_or far j 0)) j within (omega arith) in
        let here = led (suc (get_or met i 0)) i h (omega arith) in
        let onward : Walks es j there.0 (root i) = subst (λ (x : ℕ). Walks es j there.0 x) (same_root j i s.2) there.1 in
        (j, there.0 ++ here.0, s.1, join es j there.0 (root i) here.0 i onward here.1)

    -- along a way numbers don't rise
    sinks : (ks : List ℕ) (i j : ℕ) → Walks es i ks j → number of j ≤ number of i
    sinks [] i j w = subst (λ (x : ℕ). number of x ≤ number of i) w (omega arith)
    sinks (k ∷ ks) i j w =
        let rest : number of j ≤ number of k = sinks ks k j w.1 in
        let first_step : number of k ≤ number of i = (falls i k w.0).1 in
        omega arith

    pub on_stays : (i : ℕ) → IsOnCycle es i → Stays es of i
    on_stays i c =
        let k = c.0 in
        let rest : number of i ≤ number of k = sinks c.1 k i c.3 in
        let first_step : number of k ≤ number of i = (falls i k c.2).1 in
        (k, c.2, omega arith)

pub in_graph : (es : List (List ℕ)) (i j : ℕ) → Edge es i j → i < length es
in_graph es i j e =
    elim (less_or i (length es)) [
      | inl h ↦ h
      | inr h ↦ absurd (nothing e.0 j (subst (λ (xs : List ℕ). slice_get xs e.0 ≡ Some j) (beyond es i h) e.1))
    ]

-- which nodes of a graph are on a cycle, where an answer says of each node whether an edge stays
pub exactly : (es : List (List ℕ)) (of first met far : List ℕ) → Falls es of → JoinsAll es of first met far
    → (bs : List Bool) → ((i : ℕ) → IsTrue (get_or bs i false) ↔ Stays es of i) → (i : ℕ) → IsTrue (get_or bs i false) ↔ IsOnCycle es i
exactly es of first met far falls joins bs each i = (
  λ t. (let s = (each i).0 t in stays_on es of first met far falls joins i (in_graph es i s.0 s.1) s),
  λ c. (each i).1 (on_stays es of first met far falls joins i c),
)
