-- The `.go` names of a list, gathered one by one.
use Rattle.std.proofs.Common.{◌≡◌, ◌++◌, ℕ, List, [], ◌∷◌, Bool, true, false, cond, ◌&&◌, ◌||◌, ◌<◌, length, refl, sym, ap, ◌∙◌, arith}
use Rattle.std.specs.Prelude.{bytes_eq}
use Rattle.std.specs.List.{list_any}
use Rattle.std.specs.List.Sorted.{IsStrictlySortedBy}
use Rattle.std.specs.Ordering.{nat_cmp}
use Rattle.std.specs.Cmp.Lexicographic.{slice_cmp}
use Rattle.std.specs.BTreeSet.{BTreeSet, contains, UpdatesBy}
use Rattle.std.specs.BTreeMap.{is_at}
use Rattle.std.proofs.lemmas.List.Folds.{list_any-append}
use Rattle.std.proofs.lemmas.Slice.Eq.{bytes_eq-Decides}
use Rattle.std.proofs.lemmas.Map.Text.{is_eq-slice_cmp}
use Rattle.std.specs.Cmp.Lexicographic.{nat_list_cmp_total, nat_list_eq_equiv}
use Rattle.std.proofs.lemmas.Map.Views.{btree_set_contains_iff, Contains-from_any, list_any-from_Contains}
use Rattle.std.proofs.lemmas.Map.Lookups.{exact_bytes}
use Rattle.go_load.specs.GoFiles.{is_go_name}
use Rattle.go_load.specs.Names.{SortsGoNames}

-- a name is gathered or left out, by the test; what is left to look at is one name shorter
bytes_eq-sym : (x y : List ℕ) → bytes_eq x y ≡ bytes_eq y x
bytes_eq-sym x y = by (bytes_eq x y) (bytes_eq y x) refl refl
  where
    by : (a b : Bool) → bytes_eq x y ≡ a → bytes_eq y x ≡ b → a ≡ b
    by true b p q =
        let same : x ≡ y = (bytes_eq-Decides x y).0 p in
        sym ((bytes_eq-Decides y x).1 (sym same)) ∙ q
    by false true p q =
        let same : y ≡ x = (bytes_eq-Decides y x).0 q in
        sym p ∙ (bytes_eq-Decides x y).1 (sym same)
    by false false p q = refl

turn : (e g r f a : Bool) → (e ≡ true → g ≡ true) → (f || ((r || (e || false)) && g)) ≡ a → (cond e true f || (r && g)) ≡ a
turn true true true true a h e = e
turn true true true false a h e = e
turn true true false true a h e = e
turn true true false false a h e = e
turn true false r f a h e = let bad : false ≡ true = h refl in cc
turn false g true f a h e = e
turn false g false f a h e = e

left_out : (e g r f a : Bool) → (e ≡ true → g ≡ false) → (f || ((r || (e || false)) && g)) ≡ a → (f || (r && g)) ≡ a
left_out true true r f a h e = let bad : true ≡ false = h refl in cc
left_out true false true f a h e = e
left_out true false false f a h e = e
left_out false g true f a h e = e
left_out false g false f a h e = e

pub gathered : (names rest : List (List ℕ)) (name : List ℕ) (old new : BTreeSet (List ℕ)) (q : List ℕ) → names ≡ rest ++ name ∷ [] → is_go_name name ≡ true
    → UpdatesBy (slice_cmp nat_cmp) (slice_cmp nat_cmp name) old new true
    → (a : Bool) → (contains (slice_cmp nat_cmp) old q || (list_any (bytes_eq q) names && is_go_name q)) ≡ a
    → (contains (slice_cmp nat_cmp) new q || (list_any (bytes_eq q) rest && is_go_name q)) ≡ a
gathered names rest name old new q split go updates a h =
    let same : is_at (slice_cmp nat_cmp name) q ≡ bytes_eq q name = is_eq-slice_cmp name q ∙ bytes_eq-sym name q in
    let kept : contains (slice_cmp nat_cmp) new q ≡ cond (bytes_eq q name) true (contains (slice_cmp nat_cmp) old q) =
    updates.0 q ∙ ap (λ (b : Bool). cond b true (contains (slice_cmp nat_cmp) old q)) same in
    let next = turn (bytes_eq q name) (is_go_name q) (list_any (bytes_eq q) rest) (contains (slice_cmp nat_cmp) old q) a
    (λ e. let is_name : q ≡ name = (bytes_eq-Decides q name).0 e in ap is_go_name is_name ∙ go)
    (ap (λ (b : Bool). contains (slice_cmp nat_cmp) old q || (b && is_go_name q)) (sym (ap (list_any (bytes_eq q)) split ∙ list_any-append (bytes_eq q) rest (name ∷ []))) ∙ h) in
    ap (λ (b : Bool). b || (list_any (bytes_eq q) rest && is_go_name q)) kept ∙ next

pub passed_over : (names rest : List (List ℕ)) (name q : List ℕ) (f : Bool) → names ≡ rest ++ name ∷ [] → is_go_name name ≡ false
    → (a : Bool) → (f || (list_any (bytes_eq q) names && is_go_name q)) ≡ a → (f || (list_any (bytes_eq q) rest && is_go_name q)) ≡ a
passed_over names rest name q f split go a h =
    left_out (bytes_eq q name) (is_go_name q) (list_any (bytes_eq q) rest) f a
    (λ e. let same : q ≡ name = (bytes_eq-Decides q name).0 e in ap is_go_name same ∙ go)
    (ap (λ (b : Bool). f || (b && is_go_name q)) (sym (ap (list_any (bytes_eq q)) split ∙ list_any-append (bytes_eq q) rest (name ∷ []))) ∙ h)

-- what was gathered from all names are their `.go` names
pub sorts : (names : List (List ℕ)) (found : BTreeSet (List ℕ)) → IsStrictlySortedBy (slice_cmp nat_cmp) found.keys
    → ((q : List ℕ) → contains (slice_cmp nat_cmp) found q ≡ (list_any (bytes_eq q) names && is_go_name q)) → SortsGoNames names found.keys
sorts names found rising chosen = record {
  rising = rising;
  chosen = λ q. (
    (λ there. let both : (list_any (bytes_eq q) names && is_go_name q) ≡ true = sym (chosen q) ∙ (btree_set_contains_iff nat_list_cmp_total exact_bytes found q).1 there in
        (Contains-from_any (λ x y e. (bytes_eq-Decides x y).0 e) q names (first_true _ _ both), second_true (list_any (bytes_eq q) names) _ both)),
    (λ both. (btree_set_contains_iff nat_list_cmp_total exact_bytes found q).0 (chosen q ∙ both_true _ _ (list_any-from_Contains nat_list_eq_equiv q names both.0) both.1)),
  );
}
  where
    first_true : (a b : Bool) → (a && b) ≡ true → a ≡ true
    first_true true b e = refl
    first_true false b e = e

    second_true : (a b : Bool) → (a && b) ≡ true → b ≡ true
    second_true true b e = e
    second_true false b e = cc

    both_true : (a b : Bool) → a ≡ true → b ≡ true → (a && b) ≡ true
    both_true true b p q = q
    both_true false b p q = p

-- no name is left to look at
pub finished : (names : List (List ℕ)) (q : List ℕ) (f a : Bool) → names ≡ [] → (f || (list_any (bytes_eq q) names && is_go_name q)) ≡ a → f ≡ a
finished names q true a none e = e
finished names q false a none e = ap (λ (ns : List (List ℕ)). list_any (bytes_eq q) ns && is_go_name q) (sym none) ∙ e
