-- A plain search from a node marks what it leads to, and nothing else.
use Rattle.std.proofs.Common.{arith, ◌≡◌, ◌≢◌, ◌<◌, ◌≤◌, ◌+◌, ◌⊎◌, ℕ, zero, suc, ◌∙◌, refl, sym, ap, subst, List, [], ◌∷◌, ◌++◌, Some, Bool, true, false, true≢false, cond, length, get_or, slice_get, set, drop, replicate, inl, inr, length-set, drop-cons, add-one}
use Rattle.std.proofs.lemmas.List.{get_or-set_other, get_or-set_same, length-replicate}
use Rattle.std.specs.Prelude.{IsTrue}
use Rattle.go_graph.specs.Cycle.{Edge, Walks}
use Rattle.go_graph.specs.Search.{IsReached, MarksReached, visit_all}
use Rattle.go_graph.proofs.ListLemmas.{less_or, before_next, get_at, get_within, one_item}
use Rattle.go_graph.proofs.CycleLemmas.{join, in_graph}
use Rattle.go_graph.proofs.StaysLemmas.{length_more}

pub same_or_not : (i j : ℕ) → (i ≡ j) ⊎ (i ≢ j)
same_or_not i j =
    elim (less_or i j) [
      | inl h ↦ inr (omega (arith, h))
      | inr h ↦ elim (less_or j i) [ inl l ↦ inr (omega (arith, l)) | inr l ↦ inl (omega (arith, h, l)) ]
    ]

-- what isn't marked is in the graph
pub open_within : (bs : List Bool) (j : ℕ) → get_or bs j true ≡ false → j < length bs
open_within [] j e = absurd (true≢false e)
open_within (b ∷ bs) zero e = omega arith
open_within (b ∷ bs) (suc j) e = let rest : j < length bs = open_within bs j e in omega (arith, rest)

-- how many nodes aren't marked
abbrev pub unmarked : List Bool → ℕ
unmarked [] = 0
unmarked (true ∷ bs) = unmarked bs
unmarked (false ∷ bs) = suc (unmarked bs)

pub none_marked : (n : ℕ) → unmarked (replicate n false) ≡ n
none_marked zero = refl
none_marked (suc n) = ap suc (none_marked n)

-- one more is marked
one_less : (bs : List Bool) (j : ℕ) → get_or bs j true ≡ false → unmarked (set bs j true) + 1 ≡ unmarked bs
one_less [] j e = absurd (true≢false e)
one_less (true ∷ bs) zero e = absurd (true≢false e)
one_less (false ∷ bs) zero e = omega arith
one_less (true ∷ bs) (suc j) e = one_less bs j e
one_less (false ∷ bs) (suc j) e = let rest : unmarked (set bs j true) + 1 ≡ unmarked bs = one_less bs j e in omega (arith, rest)

-- what is marked stays so
set_keeps : (bs : List Bool) (j i : ℕ) (d : Bool) → IsTrue (get_or bs i d) → IsTrue (get_or (set bs j true) i d)
set_keeps [] j i d t = t
set_keeps (b ∷ bs) zero zero d t = refl
set_keeps (b ∷ bs) zero (suc i) d t = t
set_keeps (b ∷ bs) (suc j) zero d t = t
set_keeps (b ∷ bs) (suc j) (suc i) d t = set_keeps bs j i d t

set_marks : (bs : List Bool) (j : ℕ) → IsTrue (get_or (set bs j true) j true)
set_marks [] j = refl
set_marks (b ∷ bs) zero = refl
set_marks (b ∷ bs) (suc j) = set_marks bs j

-- ---- the queue

abbrev pub IsIn : List ℕ → ℕ → Type 0
IsIn xs p = (k : ℕ) × (slice_get xs k ≡ Some p)

last_split : (xs : List ℕ) (x k p : ℕ) → slice_get (xs ++ x ∷ []) k ≡ Some p → (slice_get xs k ≡ Some p) ⊎ (p ≡ x)
last_split [] x zero p e = inr (cc)
last_split [] x (suc k) p e = absurd (cc)
last_split (y ∷ ys) x zero p e = inl e
last_split (y ∷ ys) x (suc k) p e = last_split ys x k p e

last_in : (xs : List ℕ) (x : ℕ) → IsIn (xs ++ x ∷ []) x
last_in [] x = (zero, refl)
last_in (y ∷ ys) x = let rest = last_in ys x in (suc rest.0, rest.1)

front_in : (xs : List ℕ) (x k p : ℕ) → slice_get xs k ≡ Some p → slice_get (xs ++ x ∷ []) k ≡ Some p
front_in [] x k p e = absurd (cc)
front_in (y ∷ ys) x zero p e = e
front_in (y ∷ ys) x (suc k) p e = front_in ys x k p e

-- ---- visits

in_both : (P : List Bool × List ℕ → Type 0) (b : Bool) (x y : List Bool × List ℕ) → (b ≡ true → P x) → (b ≡ false → P y) → P (cond b x y)
in_both P true x y f g = f refl
in_both P false x y f g = g refl

-- of a list from a place on
visit_next : (js : List ℕ) (i : ℕ) (m : List Bool) (q : List ℕ) → i < length js
    → visit_all (drop i js) m q ≡ cond (get_or m (get_or js i 0) true) (visit_all (drop (i + 1) js) m q) (visit_all (drop (i + 1) js) (set m (get_or js i 0) true) (q ++ get_or js i 0 ∷ []))
visit_next js i m q h = ap (λ (xs : List ℕ). visit_all xs m q) (drop-cons js i 0 h ∙ ap (λ (n : ℕ). get_or js i 0 ∷ drop n js) (sym (add-one i)))

pub visit_old : (js : List ℕ) (i : ℕ) (m : List Bool) (q : List ℕ) → i < length js → get_or m (get_or js i 0) true ≡ true → visit_all (drop (i + 1) js) m q ≡ visit_all (drop i js) m q
visit_old js i m q h e = sym (visit_next js i m q h ∙ ap (λ (b : Bool). cond b (visit_all (drop (i + 1) js) m q) (visit_all (drop (i + 1) js) (set m (get_or js i 0) true) (q ++ get_or js i 0 ∷ []))) e)

pub visit_new : (js : List ℕ) (i : ℕ) (m : List Bool) (q : List ℕ) → i < length js → get_or m (get_or js i 0) true ≡ false → visit_all (drop (i + 1) js) (set m (get_or js i 0) true) (q ++ get_or js i 0 ∷ []) ≡ visit_all (drop i js) m q
visit_new js i m q h e = sym (visit_next js i m q h ∙ ap (λ (b : Bool). cond b (visit_all (drop (i + 1) js) m q) (visit_all (drop (i + 1) js) (set m (get_or js i 0) true) (q ++ get_or js i 0 ∷ []))) e)

visit_keeps : (js : List ℕ) (m : List Bool) (q : List ℕ) (i : ℕ) → IsTrue (get_or m i true) → IsTrue (get_or (visit_all js m q).0 i true)
visit_keeps [] m q i t = t
visit_keeps (j ∷ js) m q i t = in_both (λ (r : List Bool × List ℕ). IsTrue (get_or r.0 i true)) (get_or m j true) (visit_all js m q) (visit_all js (set m j true) (q ++ j ∷ []))
    (λ e. visit_keeps js m q i t)
    (λ e. visit_keeps js (set m j true) (q ++ j ∷ []) i (set_keeps m j i true t))

visit_front : (js : List ℕ) (m : List Bool) (q : List ℕ) (k p : ℕ) → slice_get q k ≡ Some p → slice_get (visit_all js m q).1 k ≡ Some p
visit_front [] m q k p e = e
visit_front (j ∷ js) m q k p e = in_both (λ (r : List Bool × List ℕ). slice_get r.1 k ≡ Some p) (get_or m j true) (visit_all js m q) (visit_all js (set m j true) (q ++ j ∷ []))
    (λ f. visit_front js m q k p e)
    (λ f. visit_front js (set m j true) (q ++ j ∷ []) k p (front_in q j k p e))

visit_marks : (js : List ℕ) (m : List Bool) (q : List ℕ) (k j : ℕ) → slice_get js k ≡ Some j → IsTrue (get_or (visit_all js m q).0 j true)
visit_marks [] m q k j e = absurd (cc)
visit_marks (x ∷ js) m q zero j e =
    let same : x ≡ j = cc in
    in_both (λ (r : List Bool × List ℕ). IsTrue (get_or r.0 j true)) (get_or m x true) (visit_all js m q) (visit_all js (set m x true) (q ++ x ∷ []))
    (λ f. visit_keeps js m q j (subst (λ (y : ℕ). IsTrue (get_or m y true)) same f))
    (λ f. visit_keeps js (set m x true) (q ++ x ∷ []) j (subst (λ (y : ℕ). IsTrue (get_or (set m x true) y true)) same (set_marks m x)))
visit_marks (x ∷ js) m q (suc k) j e = in_both (λ (r : List Bool × List ℕ). IsTrue (get_or r.0 j true)) (get_or m x true) (visit_all js m q) (visit_all js (set m x true) (q ++ x ∷ []))
    (λ f. visit_marks js m q k j e)
    (λ f. visit_marks js (set m x true) (q ++ x ∷ []) k j e)

-- nothing but what is in the graph is marked
pub true_within : (bs : List Bool) (j : ℕ) → IsTrue (get_or bs j false) → j < length bs
true_within [] j t = absurd (true≢false (sym t))
true_within (b ∷ bs) zero t = omega arith
true_within (b ∷ bs) (suc j) t = let rest : j < length bs = true_within bs j t in omega (arith, rest)

marked_within : (bs : List Bool) (j : ℕ) → j < length bs → IsTrue (get_or bs j true) → IsTrue (get_or bs j false)
marked_within [] j h t = absurd (omega (arith, h))
marked_within (b ∷ bs) zero h t = t
marked_within (b ∷ bs) (suc j) h t = marked_within bs j (omega (arith, h)) t

all_false : (n i : ℕ) → get_or (replicate n false) i false ≡ false
all_false zero i = refl
all_false (suc n) zero = refl
all_false (suc n) (suc i) = all_false n i

-- a node from which the search goes on: the one that it began at, or a marked one
abbrev pub IsSource : List Bool → (start p : ℕ) → Type 0
IsSource marks start p = (p ≡ start) ⊎ IsTrue (get_or marks p false)

-- each edge from such a node leads to a marked one, or out of the graph
abbrev pub IsClosed : List (List ℕ) → List Bool → ℕ → Type 0
IsClosed es marks start = (p j : ℕ) → IsSource marks start p → Edge es p j → IsTrue (get_or marks j true)

-- what a search keeps: marks and a queue
pub record Searches (es : List (List ℕ)) (start : ℕ) (m : List Bool) (q : List ℕ) : Type 0 where
  pub count : length m ≡ length es
  pub reached : (i : ℕ) → IsTrue (get_or m i false) → IsReached es start i
  pub sources : (k p : ℕ) → slice_get q k ≡ Some p → IsSource m start p
  pub queued : (p : ℕ) → IsSource m start p → IsIn q p
  pub sum : unmarked m + length q ≡ length es + 1

-- the edges of the first nodes of the queue lead to marked nodes
abbrev pub IsClosedBelow : List (List ℕ) → List Bool → List ℕ → ℕ → Type 0
IsClosedBelow es m q n = (k p j : ℕ) → k < n → slice_get q k ≡ Some p → Edge es p j → IsTrue (get_or m j true)

module _ (es : List (List ℕ)) (start : ℕ) where
  -- where an edge from such a node leads
  led : (bs : List Bool) (p j : ℕ) → ((i : ℕ) → IsTrue (get_or bs i false) → IsReached es start i) → IsSource bs start p → Edge es p j → IsReached es start j
  led bs p j before source edge = elim source [
    | inl e ↦ (j, [], subst (λ (x : ℕ). Edge es x j) e edge, refl)
    | inr m ↦ (let r = before p m in (r.0, r.1 ++ j ∷ [], r.2, join es r.0 r.1 p (j ∷ []) j r.3 (edge, refl)))
  ]

  source_kept : (m : List Bool) (j p : ℕ) → IsSource m start p → IsSource (set m j true) start p
  source_kept m j p s = elim s [ inl e ↦ inl e | inr t ↦ inr (set_keeps m j p false t) ]

  source_before : (m : List Bool) (j p : ℕ) → p ≢ j → IsSource (set m j true) start p → IsSource m start p
  source_before m j p n s = elim s [ inl e ↦ inl e | inr t ↦ inr (subst (λ (b : Bool). IsTrue b) (get_or-set_other m j p true false n) t) ]

  visit_one : (m : List Bool) (q : List ℕ) (j p : ℕ) → Searches es start m q → IsSource m start p → Edge es p j → get_or m j true ≡ false → Searches es start (set m j true) (q ++ j ∷ [])
  visit_one m q j p s source e f =
      let less : unmarked (set m j true) + 1 ≡ unmarked m = one_less m j f in
      let longer : length (q ++ j ∷ []) ≡ length q + 1 = length_more q j (length q) refl in
      let here : IsTrue (get_or (set m j true) j false) = get_or-set_same m j true false (open_within m j f) in
      record {
        count = length-set m j true ∙ s.count;
        reached = λ i t. elim (same_or_not i j) [
          | inl g ↦ subst (λ (x : ℕ). IsReached es start x) (sym g) (led m p j s.reached source e)
          | inr g ↦ s.reached i (subst (λ (b : Bool). IsTrue b) (get_or-set_other m j i true false g) t)
        ];
        sources = λ k x g. elim (last_split q j k x g) [
          | inl l ↦ source_kept m j x (s.sources k x l)
          | inr l ↦ inr (subst (λ (y : ℕ). IsTrue (get_or (set m j true) y false)) (sym l) here)
        ];
        queued = λ x t. elim (same_or_not x j) [
          | inl g ↦ subst (λ (y : ℕ). IsIn (q ++ j ∷ []) y) (sym g) (last_in q j)
          | inr g ↦ (let old = s.queued x (source_before m j x g t) in (old.0, front_in q j old.0 x old.1))
        ];
        sum = omega (arith, less, longer, s.sum);
      }

  visit_list : (js : List ℕ) (m : List Bool) (q : List ℕ) (p : ℕ) → Searches es start m q → IsSource m start p → ((k j : ℕ) → slice_get js k ≡ Some j → Edge es p j) → Searches es start (visit_all js m q).0 (visit_all js m q).1
  visit_list [] m q p s source leads = s
  visit_list (j ∷ js) m q p s source leads = in_both (λ (r : List Bool × List ℕ). Searches es start r.0 r.1) (get_or m j true) (visit_all js m q) (visit_all js (set m j true) (q ++ j ∷ []))
      (λ f. visit_list js m q p s source (λ k. leads (suc k)))
      (λ f. visit_list js (set m j true) (q ++ j ∷ []) p (visit_one m q j p s source (leads zero j refl) f) (source_kept m j p source) (λ k. leads (suc k)))

  -- one more node of the queue
  pub visit_node : (m : List Bool) (q : List ℕ) (n p : ℕ) → slice_get q n ≡ Some p → Searches es start m q → Searches es start (visit_all (get_or es p []) m q).0 (visit_all (get_or es p []) m q).1
  visit_node m q n p spot s = visit_list (get_or es p []) m q p s (s.sources n p spot) (λ k j e. (k, e))

  pub closed_node : (m : List Bool) (q : List ℕ) (n p : ℕ) → slice_get q n ≡ Some p → n < length q → IsClosedBelow es m q n → IsClosedBelow es (visit_all (get_or es p []) m q).0 (visit_all (get_or es p []) m q).1 (n + 1)
  closed_node m q n p spot h closed k x j l g e =
      let js = get_or es p [] in
      elim (before_next k n l) [
        | inl b ↦
            let old : slice_get q k ≡ Some (get_or q k 0) = get_at q k (omega (arith, b, h)) in
            let same : get_or q k 0 ≡ x = one_item (visit_all js m q).1 k (get_or q k 0) x (visit_front js m q k (get_or q k 0) old) g in
            visit_keeps js m q j (closed k x j b (subst (λ (y : ℕ). slice_get q k ≡ Some y) same old) e)
        | inr b ↦
            let same : x ≡ p = one_item (visit_all js m q).1 n x p (subst (λ (y : ℕ). slice_get (visit_all js m q).1 y ≡ Some x) b g) (visit_front js m q n p spot) in
            visit_marks js m q e.0 j (subst (λ (y : ℕ). slice_get (get_or es y []) e.0 ≡ Some j) same e.1)
      ]

  pub longer_node : (m : List Bool) (q : List ℕ) (n p : ℕ) → slice_get q n ≡ Some p → n < length (visit_all (get_or es p []) m q).1
  longer_node m q n p spot = get_within (visit_all (get_or es p []) m q).1 n p (visit_front (get_or es p []) m q n p spot)

  pub starts : (m : List Bool) → m ≡ replicate (length es) false → Searches es start m (start ∷ [])
  starts m e = subst (λ (bs : List Bool). Searches es start bs (start ∷ [])) (sym e) (record {
    count = length-replicate (length es) false;
    reached = λ i t. absurd (unset i t);
    sources = λ k p g. only k p g;
    queued = λ p s. elim s [ inl g ↦ (zero, ap Some (sym g)) | inr t ↦ absurd (unset p t) ];
    sum = omega (arith, none_marked (length es));
  })
    where
      unset : (i : ℕ) → IsTrue (get_or (replicate (length es) false) i false) → ⊥
      unset i t = true≢false (sym t ∙ all_false (length es) i)

      only : (k p : ℕ) → slice_get (start ∷ []) k ≡ Some p → IsSource (replicate (length es) false) start p
      only zero p g = inl (cc)
      only (suc k) p g = absurd (cc)

  -- where no edge leads on, each node of the graph to which a way leads is marked
  all_marked : (bs : List Bool) → length bs ≡ length es → IsClosed es bs start → (j : ℕ) → j < length es → (ks : List ℕ) (p k : ℕ) → IsSource bs start p → Edge es p k → Walks es k ks j → IsTrue (get_or bs j false)
  all_marked bs e closed j h [] p k s f w = marked_within bs j (omega (arith, e, h)) (subst (λ (x : ℕ). IsTrue (get_or bs x true)) w (closed p k s f))
  all_marked bs e closed j h (l ∷ ls) p k s f w =
      let within : k < length es = in_graph es k l w.0 in
      all_marked bs e closed j h ls k l (inr (marked_within bs k (omega (arith, e, within)) (closed p k s f))) w.0 w.1

  pub marks_reached : (bs : List Bool) → length bs ≡ length es → ((i : ℕ) → IsTrue (get_or bs i false) → IsReached es start i) → IsClosed es bs start → MarksReached es start bs
  marks_reached bs e sound closed = (
    e,
    λ j. (
      λ t. (let within : j < length bs = true_within bs j t in (sound j t, omega (arith, within, e))),
      λ r. all_marked bs e closed j r.1 r.0.1 start r.0.0 (inl refl) r.0.2 r.0.3,
    ),
  )

-- once the whole queue is gone through, no edge leads on
pub all_closed : (es : List (List ℕ)) (start : ℕ) (m : List Bool) (q : List ℕ) (n : ℕ) → Searches es start m q → IsClosedBelow es m q n → length q ≤ n → IsClosed es m start
all_closed es start m q n s closed h p j source e =
    let spot = s.queued p source in
    let within : spot.0 < length q = get_within q spot.0 p spot.1 in
    closed spot.0 p j (omega (arith, within, h)) spot.1 e
