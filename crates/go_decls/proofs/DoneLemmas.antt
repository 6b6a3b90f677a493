-- Where no more can be typed, all is known.
use Rattle.std.proofs.Common.{arith, ◌≡◌, ◌<◌, ◌⊎◌, inl, inr, ◌∙◌, ◌+◌, ℕ, zero, suc, List, [], ◌∷◌, length, map, get_or, refl, sym, subst, ap, ◌++◌, Bool, true, false}
use Rattle.std.specs.Prelude.{IsPermutation}
use Rattle.std.specs.List.{Contains, range_with_len}
use Rattle.std.proofs.lemmas.List.Sorted.{Contains-permutation}
use Rattle.std.proofs.lemmas.List.FromFn.{length-range_with_len, get_or-range_with_len}
use Rattle.go_syntax.specs.Tree as t
use Rattle.go_typing.specs.Answer.{Flaw}
use Rattle.go_typing.specs.Env.{Bind, unknown}
use Rattle.go_typing.specs.Scopes.{Env, visible}
use Rattle.go_typing.specs.Cycles.{cycles_from, cycle_flaws}
use Rattle.go_items.specs.Leads.{Tells}
use Rattle.go_sound.specs.Circles.{CirclesStay}
use Rattle.go_decls.proofs.OutcomeLemmas.{is_visible}
use Rattle.go_typing.specs.Items.{Item, items_of}
use Rattle.go_typing.specs.Known.{Known, decl_of, nothing_known}
use Rattle.go_typing.specs.Checked.{known_in}
use Rattle.go_walk.specs.declared.sets.numbers.NameMap.{NameMap}
use Rattle.go_sound.specs.Rows.{Row, unset_rows, known_by, IsDone, ReachesKnown}
use Rattle.go_sound.proofs.RowLemmas.{unset_known}
use Rattle.go_items.specs.Stands.{Stands, IsRow}
use Rattle.go_decls.specs.State.{Named, rows_of, CantBeTyped, Has, IsUntyped, Passed}

-- ---- the end

is_done : (k : Known) (rs : List Row) → ((m : ℕ) → IsUntyped rs m → (i : Item) → IsRow rs m i → decl_of k i ≡ unknown) → IsDone k rs
is_done k [] f = tt
is_done k (r ∷ rs) f = (λ h. f zero h r.item refl, is_done k rs (λ m h i q. f (suc m) h i q))

pub all_done : (ds : List t.Decl) (is : List Item) (numbers : NameMap) (left : List ℕ) (e : Env) → ReachesKnown → Named ds is numbers → Passed is left [] false e → Stands (known_in ds) e
all_done ds is numbers left e law n h = subst (λ (k : Known). Stands k e) reached h.reached
  where
    by_place : (m : ℕ) → Has left m ⊎ Has [] m → CantBeTyped (rows_of is h.typed) m
    by_place m (inl a) = h.stuck refl m a
    by_place m (inr a) = absurd a

    done : IsDone (known_by (rows_of is h.typed)) (rows_of is h.typed)
    done = is_done (known_by (rows_of is h.typed)) (rows_of is h.typed) (λ m u i q. by_place m (h.untyped m u) i q)

    here : (js : List Item) → is ≡ js → IsDone (known_by (rows_of js h.typed)) (rows_of js h.typed)
    here js q = subst (λ (ks : List Item). IsDone (known_by (rows_of ks h.typed)) (rows_of ks h.typed)) q done

    reached : known_by (rows_of is h.typed) ≡ known_in ds
    reached = ap (λ (js : List Item). known_by (rows_of js h.typed)) n.items ∙ law ds h.typed (here (items_of ds) n.items)

-- ---- the start

contains_has : (xs : List ℕ) (m k : ℕ) → k < length xs → get_or xs k m ≡ m → Has xs m
contains_has [] m k l h = absurd (omega arith)
contains_has (x ∷ xs) m zero l h = inl h
contains_has (x ∷ xs) m (suc k) l h = inr (contains_has xs m k (omega arith) h)

pub all_there : (n : ℕ) (nodes : List ℕ) (m : ℕ) → IsPermutation (range_with_len 0 n) nodes → m < n → Has nodes m
all_there n nodes m p l =
    let c = Contains-permutation (range_with_len 0 n) nodes m p here in
    contains_has nodes m c.0 c.1 c.2
  where
    here : Contains (range_with_len 0 n) m
    here = let k = length-range_with_len 0 n in (m, omega arith, get_or-range_with_len 0 n m m l ∙ (let q : 0 + m ≡ m = omega arith in q))

untyped_there : (is : List Item) (m : ℕ) → IsUntyped (unset_rows is) m → m < length is
untyped_there [] m h = absurd h
untyped_there (i ∷ is) zero h = omega arith
untyped_there (i ∷ is) (suc m) h = let k = untyped_there is m h in omega arith

pub first_passed : (is : List Item) (nodes : List ℕ) (e : Env) → IsPermutation (range_with_len 0 (length is)) nodes → Stands (nothing_known is) e → Passed is nodes [] true e
first_passed is nodes e p h = record {
  typed = [];
  reached = subst (λ (k : Known). Stands k e) (sym (unset_known is)) h;
  untyped = λ m u. inl (all_there (length is) nodes m p (untyped_there is m u));
  stuck = λ q m a. absurd (apart q);
}
  where
    apart : true ≡ false → ⊥
    apart q = cc

mapped : {X Y : Type 0} (f : X → Y) (xs : List X) → length xs ≡ length (map f xs)
mapped f [] = refl
mapped f (x ∷ xs) = ap suc (mapped f xs)

pub start_passed : {X : Type 0} (f : X → Item) (xs : List X) (ds : List t.Decl) (nodes : List ℕ) (e : Env) → IsPermutation (range_with_len 0 (length xs)) nodes → map f xs ≡ items_of ds → Stands (nothing_known (items_of ds)) e
    → Passed (map f xs) nodes [] true e
start_passed f xs ds nodes e p q h =
    first_passed (map f xs) nodes e (subst (λ (n : ℕ). IsPermutation (range_with_len 0 n) nodes) (mapped f xs) p) (subst (λ (is : List Item). Stands (nothing_known is) e) (sym q) h)

-- ---- circles

pub circles_told : (ds : List t.Decl) (is : List Item) (e : Env) (told : List Bool) (old new : List Flaw) → CirclesStay → is ≡ items_of ds → Stands (nothing_known is) e → Tells (visible e) is told
    → ((ss : List (List Bind)) → Tells ss is told → new ≡ old ++ cycles_from ss is [] is) → new ≡ old ++ cycle_flaws (known_in ds).binds (items_of ds)
circles_told ds is e told old new law q s tells f =
    f (visible e) tells ∙ ap (λ (ss : List (List Bind)). old ++ cycles_from ss is [] is) (is_visible (nothing_known is) e s)
    ∙ ap (λ (js : List Item). old ++ cycle_flaws (nothing_known js).binds js) q ∙ ap (λ (fs : List Flaw). old ++ fs) (law ds)
