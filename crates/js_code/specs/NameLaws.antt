-- Names once each, and their slots.
use Rattle.std.proofs.Common.{arith, ◌≡◌, ℕ, suc, ◌+◌, ◌∙◌, refl, sym, ap, subst, List, [], ◌∷◌, ◌++◌, Option, Some, None, Bool, true, false, cond, not, ◌||◌, is_some, length, append_assoc, nat_lt, true≢false, bytes_eq, option_map, slice_get}
use Rattle.std.specs.Borrow.{Bor}
use Rattle.std.specs.List.{list_any, position, position_or_len}
use Rattle.std.proofs.lemmas.Slice.Eq.{bytes_eq-Decides}
use Rattle.std.proofs.lemmas.Bool.Decides.{nat_tests}
use Rattle.std.proofs.lemmas.List.{append-nil, map-append}
use Rattle.std.proofs.lemmas.List.Folds.{list_any-append}
use Rattle.std.proofs.lemmas.List.Sums.{fold-append}
use Rattle.indexmap.specs.IndexSet.{insert_key}
use Rattle.js_tree.specs.Script.{Name}
use Rattle.js_tree.specs.Value.{holds}
use Rattle.js_tree.specs.Static.{has_twice}
use Rattle.js_code.specs.Names.{is_among, with_name, with_names, distinct, index_in, names_of}

-- names that the test finds equal are equal
pub same_name : (x y : Name) → bytes_eq x y ≡ true → x ≡ y
same_name x y h = grind (arith, bytes_eq-Decides)

pub own_name : (x : Name) → bytes_eq x x ≡ true
own_name x = grind (arith, bytes_eq-Decides)

pub other_way : (x y : Name) → bytes_eq x y ≡ bytes_eq y x
other_way x y = by (bytes_eq x y) (bytes_eq y x) refl refl
  where
    by : (a b : Bool) → bytes_eq x y ≡ a → bytes_eq y x ≡ b → bytes_eq x y ≡ bytes_eq y x
    by true b p q = p ∙ sym (subst (λ (z : Name). bytes_eq z x ≡ true) (same_name x y p) (own_name x))
    by false false p q = p ∙ sym q
    by false true p q = absurd (true≢false (sym (subst (λ (z : Name). bytes_eq z y ≡ true) (same_name y x q) (own_name y)) ∙ p))

or_false : (b : Bool) → (b || false) ≡ b
or_false true = refl
or_false false = refl

pub or_is : (a b : Bool) → cond a true b ≡ (a || b)
or_is true b = refl
or_is false b = refl

pub holds-is_among : (x : Name) (ys : List Name) → holds x ys ≡ is_among ys x
holds-is_among x [] = refl
holds-is_among x (y ∷ ys) = ap (λ (b : Bool). cond (bytes_eq x y) true b) (holds-is_among x ys) ∙ or_is (bytes_eq x y) (is_among ys x)

-- one more name
pub is_among-with_name : (xs : List Name) (y x : Name) → is_among (with_name xs y) x ≡ (is_among xs x || bytes_eq x y)
is_among-with_name xs y x = by (is_among xs y) (bytes_eq x y) refl refl
  where
    by : (b c : Bool) → is_among xs y ≡ b → bytes_eq x y ≡ c → is_among (cond b xs (xs ++ y ∷ [])) x ≡ (is_among xs x || c)
    by true true p q = let e : is_among xs x ≡ true = ap (is_among xs) (same_name x y q) ∙ p in e ∙ sym (ap (λ (b : Bool). b || true) e)
    by true false p q = sym (or_false (is_among xs x))
    by false c p q = list_any-append (bytes_eq x) xs (y ∷ []) ∙ ap (λ (b : Bool). is_among xs x || (b || false)) q ∙ ap (λ (b : Bool). is_among xs x || b) (or_false c)

pub is_among-with_names : (xs ys : List Name) (x : Name) → is_among (with_names xs ys) x ≡ (is_among xs x || is_among ys x)
is_among-with_names xs [] x = sym (or_false (is_among xs x))
is_among-with_names xs (y ∷ ys) x =
    let rest : is_among (with_names (with_name xs y) ys) x ≡ (is_among (with_name xs y) x || is_among ys x) = is_among-with_names (with_name xs y) ys x in
    rest ∙ ap (λ (b : Bool). b || is_among ys x) (is_among-with_name xs y x) ∙ or_assoc (is_among xs x) (bytes_eq x y) (is_among ys x)
  where
    or_assoc : (a b c : Bool) → ((a || b) || c) ≡ (a || (b || c))
    or_assoc true b c = refl
    or_assoc false b c = refl

-- once each
twice_more : (xs : List Name) (y : Name) → has_twice (xs ++ y ∷ []) ≡ (has_twice xs || is_among xs y)
twice_more [] y = refl
twice_more (x ∷ xs) y =
    ap (λ (b : Bool). cond b true (has_twice (xs ++ y ∷ []))) ends
    ∙ ap (λ (b : Bool). cond (holds x xs || bytes_eq x y) true b) (twice_more xs y)
    ∙ cases (holds x xs) (bytes_eq x y) (has_twice xs) (is_among xs y)
    ∙ ap (λ (b : Bool). cond (holds x xs) true (has_twice xs) || (b || is_among xs y)) (other_way x y)
  where
    ends : holds x (xs ++ y ∷ []) ≡ (holds x xs || bytes_eq x y)
    ends =
        holds-is_among x (xs ++ y ∷ []) ∙ list_any-append (bytes_eq x) xs (y ∷ [])
        ∙ ap (λ (b : Bool). b || (bytes_eq x y || false)) (sym (holds-is_among x xs)) ∙ ap (λ (b : Bool). holds x xs || b) (or_false (bytes_eq x y))

    cases : (a b c d : Bool) → cond (a || b) true (c || d) ≡ (cond a true c || (b || d))
    cases true b c d = refl
    cases false true true d = refl
    cases false true false d = refl
    cases false false c d = refl

twice-with_name : (xs : List Name) (y : Name) → has_twice (with_name xs y) ≡ has_twice xs
twice-with_name xs y = by (is_among xs y) refl
  where
    by : (b : Bool) → is_among xs y ≡ b → has_twice (cond b xs (xs ++ y ∷ [])) ≡ has_twice xs
    by true p = refl
    by false p = twice_more xs y ∙ ap (λ (b : Bool). has_twice xs || b) p ∙ or_false (has_twice xs)

twice-with_names : (xs ys : List Name) → has_twice (with_names xs ys) ≡ has_twice xs
twice-with_names xs [] = refl
twice-with_names xs (y ∷ ys) = twice-with_names (with_name xs y) ys ∙ twice-with_name xs y

pub distinct_once : (xs : List Name) → has_twice (distinct xs) ≡ false
distinct_once xs = twice-with_names [] xs

-- what comes later is not among names that stand once each
not_before : (xs ys : List Name) (y : Name) → has_twice (xs ++ y ∷ ys) ≡ false → is_among xs y ≡ false
not_before [] ys y h = refl
not_before (x ∷ xs) ys y h = by (holds x (xs ++ y ∷ ys)) refl (not_before xs ys y)
  where
    apart : holds x (xs ++ y ∷ ys) ≡ false → bytes_eq x y ≡ false
    apart p = first (bytes_eq x y) (is_among xs x) (is_among ys x) (sym (list_any-append (bytes_eq x) xs (y ∷ ys)) ∙ sym (holds-is_among x (xs ++ y ∷ ys)) ∙ p)
      where
        first : (a b c : Bool) → (b || (a || c)) ≡ false → a ≡ false
        first a true c q = absurd (true≢false q)
        first true false c q = absurd (true≢false q)
        first false false c q = refl

    by : (b : Bool) → holds x (xs ++ y ∷ ys) ≡ b → (has_twice (xs ++ y ∷ ys) ≡ false → is_among xs y ≡ false) → (bytes_eq y x || is_among xs y) ≡ false
    by true p next = absurd (true≢false (sym (ap (λ (b : Bool). cond b true (has_twice (xs ++ y ∷ ys))) p) ∙ h))
    by false p next =
        let rest : has_twice (xs ++ y ∷ ys) ≡ false = sym (ap (λ (b : Bool). cond b true (has_twice (xs ++ y ∷ ys))) p) ∙ h in
        ap (λ (b : Bool). b || is_among xs y) (other_way y x ∙ apart p) ∙ next rest

-- names that stand once each stay as they are
pub with_names-once : (xs ys : List Name) → has_twice (xs ++ ys) ≡ false → with_names xs ys ≡ xs ++ ys
with_names-once xs [] h = sym (append-nil xs)
with_names-once xs (y ∷ ys) h =
    let new : is_among xs y ≡ false = not_before xs ys y h in
    let more : with_name xs y ≡ xs ++ y ∷ [] = ap (λ (b : Bool). cond b xs (xs ++ y ∷ [])) new in
    ap (λ (zs : List Name). with_names zs ys) more
    ∙ with_names-once (xs ++ y ∷ []) ys (subst (λ (zs : List Name). has_twice zs ≡ false) (sym (append_assoc xs (y ∷ []) ys)) h)
    ∙ append_assoc xs (y ∷ []) ys

-- names are only added at the end
pub with_names-more : (xs ys : List Name) → (zs : List Name) × (with_names xs ys ≡ xs ++ zs)
with_names-more xs [] = ([], sym (append-nil xs))
with_names-more xs (y ∷ ys) = by (is_among xs y) (with_names-more xs ys) (with_names-more (xs ++ y ∷ []) ys)
  where
    by : (b : Bool) → ((zs : List Name) × (with_names xs ys ≡ xs ++ zs)) → ((zs : List Name) × (with_names (xs ++ y ∷ []) ys ≡ (xs ++ y ∷ []) ++ zs))
        → (zs : List Name) × (with_names (cond b xs (xs ++ y ∷ [])) ys ≡ xs ++ zs)
    by true same more = same
    by false same more = (y ∷ more.0, more.1 ∙ append_assoc xs (y ∷ []) more.0)

-- slots
pub index-is_among : (xs : List Name) (x : Name) → is_some (index_in xs x) ≡ is_among xs x
index-is_among [] x = refl
index-is_among (y ∷ ys) x = by (bytes_eq x y) (index_in ys x) (index-is_among ys x)
  where
    by : (b : Bool) (o : Option ℕ) → is_some o ≡ is_among ys x → is_some (cond b (Some 0) (option_map suc o)) ≡ (b || is_among ys x)
    by true o h = refl
    by false None h = h
    by false (Some i) h = h

option_apart : {A : Type 0} {a : A} → None ≡ Some a → ⊥
option_apart e = cc

pub index_found : (xs : List Name) (x : Name) (i : ℕ) → index_in xs x ≡ Some i → slice_get xs i ≡ Some x
index_found [] x i h = absurd (option_apart h)
index_found (y ∷ ys) x i h = by (bytes_eq x y) (index_in ys x) refl refl (index_found ys x) h
  where
    by : (b : Bool) (o : Option ℕ) → bytes_eq x y ≡ b → index_in ys x ≡ o → ((j : ℕ) → index_in ys x ≡ Some j → slice_get ys j ≡ Some x) → cond b (Some 0) (option_map suc o) ≡ Some i → slice_get (y ∷ ys) i ≡ Some x
    by true o p q next h = let e : 0 ≡ i = cc in subst (λ (j : ℕ). slice_get (y ∷ ys) j ≡ Some x) e (ap Some (sym (same_name x y p)))
    by false None p q next h = absurd (option_apart h)
    by false (Some j) p q next h = let e : suc j ≡ i = cc in subst (λ (k : ℕ). slice_get (y ∷ ys) k ≡ Some x) e (next j q)

-- where a set of names finds one
pub position_is : (keys : List (Bor Name)) (x : Name) → position (λ k. bytes_eq x k.now) keys ≡ index_in (names_of keys) x
position_is [] x = refl
position_is (k ∷ keys) x = by (bytes_eq x k.now) (index_in (names_of keys) x) (position_is keys x)
  where
    past : (n m : ℕ) → cond (nat_lt (1 + n) (suc m)) (Some (1 + n)) None ≡ option_map suc (cond (nat_lt n m) (Some n) None)
    past n m = grind (arith, nat_tests)

    by : (b : Bool) (o : Option ℕ) → position (λ k. bytes_eq x k.now) keys ≡ o
        → cond (nat_lt (cond (not b) (1 + position_or_len (λ k. bytes_eq x k.now) keys) 0) (suc (length keys))) (Some (cond (not b) (1 + position_or_len (λ k. bytes_eq x k.now) keys) 0)) None
        ≡ cond b (Some 0) (option_map suc o)
    by true o h = grind (arith, nat_tests)
    by false o h = past (position_or_len (λ k. bytes_eq x k.now) keys) (length keys) ∙ ap (option_map suc) h

pub list_any_is : (keys : List (Bor Name)) (x : Name) → list_any (λ k. bytes_eq x k.now) keys ≡ is_among (names_of keys) x
list_any_is [] x = refl
list_any_is (k ∷ keys) x = ap (λ (b : Bool). bytes_eq x k.now || b) (list_any_is keys x)

-- one more name in a set of names
pub insert_is : (keys : List (Bor Name)) (k : Bor Name) → names_of (insert_key (λ a b. bytes_eq a.now b.now) keys k) ≡ with_name (names_of keys) k.now
insert_is keys k = by (list_any (λ j. bytes_eq k.now j.now) keys) (list_any_is keys k.now)
  where
    by : (b : Bool) → b ≡ is_among (names_of keys) k.now → names_of (cond b keys (keys ++ k ∷ [])) ≡ with_name (names_of keys) k.now
    by true e = ap (λ (b : Bool). cond b (names_of keys) (names_of keys ++ k.now ∷ [])) e
    by false e = map-append (λ (j : Bor Name). j.now) keys (k ∷ []) ∙ ap (λ (b : Bool). cond b (names_of keys) (names_of keys ++ k.now ∷ [])) e

-- names after names
pub with_names_append : (xs ys zs : List Name) → with_names xs (ys ++ zs) ≡ with_names (with_names xs ys) zs
with_names_append xs ys zs = fold-append with_name xs ys zs
