-- Along an edge from a node that is on no cycle, numbers fall.
use Rattle.std.proofs.Common.{arith, ◌≡◌, ◌<◌, ◌≤◌, ◌+◌, ◌++◌, ℕ, zero, suc, ◌∙◌, refl, sym, ap, subst, List, [], ◌∷◌, Bool, true, false, true≢false, cond, Some, length, get_or, slice_get, inl, inr}
use Rattle.std.proofs.lemmas.List.{get_or_past}
use Rattle.std.proofs.lemmas.List.Sums.{sum_by-cons}
use Rattle.std.specs.List.{range_with_len}
use Rattle.std.specs.List.Sorted.{IsNonDecreasingBy}
use Rattle.std.specs.Prelude.{IsTrue, ◌↔◌}
use Rattle.go_graph.specs.Cycle.{Edge, IsOnCycle}
use Rattle.go_graph.specs.Joined.{number, Falls, Stays}
use Rattle.go_graph.specs.Order.{IsOrdered}
use Rattle.go_graph.specs.Search.{IsReached, MarksReached, Descends, marked, rank}
use Rattle.go_graph.proofs.ListLemmas.{less_or, get_within}
use Rattle.go_graph.proofs.CycleLemmas.{in_graph}
use Rattle.go_graph.proofs.SearchLemmas.{true_within}

-- the number of a node, by what a search from it marks
abbrev pub IsRank : List (List ℕ) → (i n : ℕ) → Type 0
IsRank es i n = (marks : List Bool) × MarksReached es i marks × (n ≡ rank marks i)

not_true : (b : Bool) → (IsTrue b → ⊥) → b ≡ false
not_true false h = refl
not_true true h = absurd (h refl)

-- what is marked here is marked there
abbrev IsWithin : List Bool → List Bool → Type 0
IsWithin cs bs = (k : ℕ) → IsTrue (get_or cs k false) → IsTrue (get_or bs k false)

tail_within : (c b : Bool) (cs bs : List Bool) → IsWithin (c ∷ cs) (b ∷ bs) → IsWithin cs bs
tail_within c b cs bs h k = h (suc k)

one_marked : (bs : List Bool) → marked (true ∷ bs) ≡ 1 + marked bs
one_marked bs = sum_by-cons (λ (b : Bool). cond b 1 0) true bs

not_marked : (bs : List Bool) → marked (false ∷ bs) ≡ 0 + marked bs
not_marked bs = sum_by-cons (λ (b : Bool). cond b 1 0) false bs

fewer : (cs bs : List Bool) → length cs ≡ length bs → IsWithin cs bs → marked cs ≤ marked bs
fewer [] bs e h = omega arith
fewer (c ∷ cs) [] e h = absurd (omega arith)
fewer (false ∷ cs) (false ∷ bs) e h = let rest : marked cs ≤ marked bs = fewer cs bs (omega arith) (tail_within false false cs bs h) in omega (arith, rest, not_marked cs, not_marked bs)
fewer (false ∷ cs) (true ∷ bs) e h = let rest : marked cs ≤ marked bs = fewer cs bs (omega arith) (tail_within false true cs bs h) in omega (arith, rest, not_marked cs, one_marked bs)
fewer (true ∷ cs) (true ∷ bs) e h = let rest : marked cs ≤ marked bs = fewer cs bs (omega arith) (tail_within true true cs bs h) in omega (arith, rest, one_marked cs, one_marked bs)
fewer (true ∷ cs) (false ∷ bs) e h = absurd (true≢false (sym (h zero refl)))

fewer_by_one : (cs bs : List Bool) → length cs ≡ length bs → IsWithin cs bs → (j : ℕ) → get_or cs j false ≡ false → IsTrue (get_or bs j false) → marked cs < marked bs
fewer_by_one [] [] e h j f t = absurd (true≢false (sym t))
fewer_by_one [] (b ∷ bs) e h j f t = absurd (omega arith)
fewer_by_one (c ∷ cs) [] e h j f t = absurd (omega arith)
fewer_by_one (true ∷ cs) (b ∷ bs) e h zero f t = absurd (true≢false f)
fewer_by_one (false ∷ cs) (false ∷ bs) e h zero f t = absurd (true≢false (sym t))
fewer_by_one (false ∷ cs) (true ∷ bs) e h zero f t = let rest : marked cs ≤ marked bs = fewer cs bs (omega arith) (tail_within false true cs bs h) in omega (arith, rest, not_marked cs, one_marked bs)
fewer_by_one (true ∷ cs) (false ∷ bs) e h (suc j) f t = absurd (true≢false (sym (h zero refl)))
fewer_by_one (true ∷ cs) (true ∷ bs) e h (suc j) f t = let rest : marked cs < marked bs = fewer_by_one cs bs (omega arith) (tail_within true true cs bs h) j f t in omega (arith, rest, one_marked cs, one_marked bs)
fewer_by_one (false ∷ cs) (true ∷ bs) e h (suc j) f t = let rest : marked cs < marked bs = fewer_by_one cs bs (omega arith) (tail_within false true cs bs h) j f t in omega (arith, rest, not_marked cs, one_marked bs)
fewer_by_one (false ∷ cs) (false ∷ bs) e h (suc j) f t = let rest : marked cs < marked bs = fewer_by_one cs bs (omega arith) (tail_within false false cs bs h) j f t in omega (arith, rest, not_marked cs, not_marked bs)

-- what is told of the nodes in a list, and holds of no others
pub everywhere : (P : ℕ → Type 0) (bs : List Bool) → ((i : ℕ) → i < length bs → (IsTrue (get_or bs i false) ↔ P i)) → ((i : ℕ) → P i → i < length bs) → (i : ℕ) → IsTrue (get_or bs i false) ↔ P i
everywhere P bs each within i = (λ t. (each i (true_within bs i t)).0 t, λ p. (each i (within i p)).1 p)

-- the numbers from one on, and the next one
pub count_up : (a n m : ℕ) → m ≡ a + n → range_with_len a n ++ m ∷ [] ≡ range_with_len a (suc n)
count_up a zero m e = ap (λ (x : ℕ). x ∷ []) (omega (arith, e))
count_up a (suc n) m e = ap (λ (xs : List ℕ). a ∷ xs) (count_up (a + 1) n m (omega (arith, e)))

module _ (es : List (List ℕ)) where
  -- a node is marked from itself where it is on a cycle
  pub told_here : (i : ℕ) (bs : List Bool) (b : Bool) → MarksReached es i bs → b ≡ get_or bs i false → IsTrue b ↔ IsOnCycle es i
  told_here i bs b mb e = (
    λ t. ((mb.1 i).0 (subst (λ (x : Bool). IsTrue x) e t)).0,
    λ c. subst (λ (x : Bool). IsTrue x) (sym e) ((mb.1 i).1 (c, in_graph es i c.0 c.2)),
  )

  -- what a node leads to, one that leads to it leads to
  further : (i j k : ℕ) → Edge es i j → IsReached es j k → IsReached es i k
  further i j k e r = (j, r.0 ∷ r.1, e, (r.2, r.3))

  within_by : (i j : ℕ) (bs cs : List Bool) → Edge es i j → MarksReached es i bs → MarksReached es j cs → IsWithin cs bs
  within_by i j bs cs e mb mc k t = let r = (mc.1 k).0 t in (mb.1 k).1 (further i j k e r.0, r.1)

  rank_falls_by : (i j : ℕ) (bs cs : List Bool) → Edge es i j → j < length es → MarksReached es i bs → MarksReached es j cs → (b : Bool) → get_or cs j false ≡ b → cond b (marked cs) (marked cs + 1) < marked bs + 1
  rank_falls_by i j bs cs e h mb mc true f = let rest : marked cs ≤ marked bs = fewer cs bs (mc.0 ∙ sym mb.0) (within_by i j bs cs e mb mc) in omega (arith, rest)
  rank_falls_by i j bs cs e h mb mc false f = let rest : marked cs < marked bs = fewer_by_one cs bs (mc.0 ∙ sym mb.0) (within_by i j bs cs e mb mc) j f ((mb.1 j).1 ((j, [], e, refl), h)) in omega (arith, rest)

  rank_at : (i : ℕ) (bs : List Bool) → MarksReached es i bs → (IsOnCycle es i → ⊥) → rank bs i ≡ marked bs + 1
  rank_at i bs mb off = ap (λ (b : Bool). cond b (marked bs) (marked bs + 1)) (not_true (get_or bs i false) (λ t. off ((mb.1 i).0 t).0))

  rank_falls : (i j n m : ℕ) → Edge es i j → j < length es → (IsOnCycle es i → ⊥) → IsRank es i n → IsRank es j m → m < n
  rank_falls i j n m e h off r q =
      let less = rank_falls_by i j r.0 q.0 e h r.1 q.1 (get_or q.0 j false) refl in
      let top : n ≡ marked r.0 + 1 = r.2 ∙ rank_at i r.0 r.1 off in
      omega (arith, less, top, q.2)

  off_cycle : (told : List Bool) → ((i : ℕ) → IsTrue (get_or told i false) ↔ IsOnCycle es i) → (i : ℕ) → get_or told i false ≡ false → IsOnCycle es i → ⊥
  off_cycle told each i f c = true≢false (sym ((each i).1 c) ∙ f)

  -- by the numbers of the plain search
  pub descends_by_ranks : (told : List Bool) (numbers : List ℕ) → ((i : ℕ) → IsTrue (get_or told i false) ↔ IsOnCycle es i) → length numbers ≡ length es → ((i : ℕ) → i < length es → IsRank es i (get_or numbers i 0)) → Descends es told numbers
  descends_by_ranks told numbers each count ranks i j e f = elim (less_or j (length es)) [ inl h ↦ inside h | inr h ↦ outside h ]
    where
      off : IsOnCycle es i → ⊥
      off = off_cycle told each i f

      here : IsRank es i (get_or numbers i 0)
      here = ranks i (in_graph es i j e)

      inside : j < length es → get_or numbers j 0 < get_or numbers i 0
      inside h = rank_falls i j (get_or numbers i 0) (get_or numbers j 0) e h off here (ranks j h)

      outside : length es ≤ j → get_or numbers j 0 < get_or numbers i 0
      outside h =
          let none : get_or numbers j 0 ≡ 0 = get_or_past numbers j 0 (omega (arith, h, count)) in
          let top : get_or numbers i 0 ≡ marked here.0 + 1 = here.2 ∙ rank_at i here.0 here.1 off in
          omega (arith, none, top)

  -- by the components that were tested
  pub descends_by_components : (of : List ℕ) → Falls es of → (told : List Bool) → ((i : ℕ) → IsTrue (get_or told i false) ↔ Stays es of i) → Descends es told of
  descends_by_components of falls told each i j e f =
      let least = (falls i j e).1 in
      elim (less_or (number of j) (number of i)) [
        | inl h ↦ h
        | inr h ↦ absurd (true≢false (sym ((each i).1 (j, e, omega (arith, h, least))) ∙ f))
      ]

  item_at : (xs : List ℕ) (a x : ℕ) → slice_get xs a ≡ Some x → get_or xs a 0 ≡ x
  item_at [] a x e = absurd (cc)
  item_at (y ∷ ys) zero x e = cc
  item_at (y ∷ ys) (suc a) x e = item_at ys a x e

  -- nodes in the order of such numbers
  pub ordered : (told : List Bool) (numbers xs : List ℕ) → ((i : ℕ) → IsTrue (get_or told i false) ↔ IsOnCycle es i) → Descends es told numbers → IsNonDecreasingBy (λ i. get_or numbers i 0) xs → IsOrdered es xs
  ordered told numbers xs each falls up i j e off a b sa sb = elim (less_or a b) [ inl h ↦ h | inr h ↦ absurd (rises h) ]
    where
      less : get_or numbers j 0 < get_or numbers i 0
      less = falls i j e (not_true (get_or told i false) (λ t. off ((each i).0 t)))

      rises : b ≤ a → ⊥
      rises h =
          let most = up b a 0 h (get_within xs a j sa) in
          let left = ap (λ (k : ℕ). get_or numbers k 0) (item_at xs b i sb) in
          let right = ap (λ (k : ℕ). get_or numbers k 0) (item_at xs a j sa) in
          omega (arith, most, left, right, less)
