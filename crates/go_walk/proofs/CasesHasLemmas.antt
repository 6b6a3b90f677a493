-- What a set of constants answers after one more came in.
use Rattle.std.proofs.Common.{arith, ◌≡◌, ℕ, ◌∙◌, refl, sym, ap, List, [], ◌∷◌, ◌++◌, Bool, true, false, cond, ◌||◌, bytes_eq}
use Rattle.std.specs.Prelude.{ℤ}
use Rattle.std.specs.Ordering.{int_eq}
use Rattle.std.specs.List.{list_any}
use Rattle.std.proofs.lemmas.Slice.Eq.{bytes_eq-Decides}
use Rattle.std.proofs.lemmas.List.Folds.{list_any-append}
use Rattle.indexmap.specs.IndexSet.{insert_key}
use Rattle.go_const.specs.declared.constant.Const.{Const}
use Rattle.go_const.specs.declared.constant.Const.TheVariants as form
use Rattle.go_typing.specs.Statements.{same_constant}
use Rattle.go_walk.specs.declared.cases.seen.ConstSet.{ConstSet}
use Rattle.go_walk.specs.CasesHas.{has_const}

-- what is there already
there : (b c : Bool) → (c ≡ true → b ≡ true) → b ≡ (c || b)
there b true h = h refl
there b false h = refl

-- what comes last
last : (b c : Bool) → (b || (c || false)) ≡ (c || b)
last true true = refl
last true false = refl
last false true = refl
last false false = refl

module _ {K : Type 0} (eq : K → K → Bool) (test : K → Bool) (k : K) (same : test k ≡ true → (ks : List K) → list_any (eq k) ks ≡ list_any test ks) where
  inserted : (ks : List K) → list_any test (insert_key eq ks k) ≡ (test k || list_any test ks)
  inserted ks = by (list_any (eq k) ks) refl
    where
      by : (b : Bool) → list_any (eq k) ks ≡ b → list_any test (cond b ks (ks ++ k ∷ [])) ≡ (test k || list_any test ks)
      by true p = there (list_any test ks) (test k) (λ h. sym (same h ks) ∙ p)
      by false p = list_any-append test ks (k ∷ []) ∙ last (list_any test ks) (test k)

same_text : (x y : List ℕ) → bytes_eq x y ≡ true → x ≡ y
same_text x y h = grind (arith, bytes_eq-Decides)

same_number : (x y : ℤ) → int_eq x y ≡ true → x ≡ y
same_number x y h = grind (arith)

pub texts_inserted : (keys : List (List ℕ)) (k y : List ℕ) → list_any (bytes_eq y) (insert_key bytes_eq keys k) ≡ (bytes_eq y k || list_any (bytes_eq y) keys)
texts_inserted keys k y = inserted bytes_eq (bytes_eq y) k (λ h ks. ap (λ (x : List ℕ). list_any (bytes_eq x) ks) (sym (same_text y k h))) keys

pub numbers_inserted : (keys : List ℤ) (k y : ℤ) → list_any (int_eq y) (insert_key int_eq keys k) ≡ (int_eq y k || list_any (int_eq y) keys)
numbers_inserted keys k y = inserted int_eq (int_eq y) k (λ h ks. ap (λ (x : ℤ). list_any (int_eq x) ks) (sym (same_number y k h))) keys

-- ---- one constant more, by its form

pub true_in : (q : Const) (s : ConstSet) → has_const q (record s { has_true = true }) ≡ (same_constant q (form.Bool true) || has_const q s)
true_in (form.Bool true) s = refl
true_in (form.Bool false) s = refl
true_in (form.Int n) s = refl
true_in (form.Rune n) s = refl
true_in (form.Text t) s = refl

pub false_in : (q : Const) (s : ConstSet) → has_const q (record s { has_false = true }) ≡ (same_constant q (form.Bool false) || has_const q s)
false_in (form.Bool true) s = refl
false_in (form.Bool false) s = refl
false_in (form.Int n) s = refl
false_in (form.Rune n) s = refl
false_in (form.Text t) s = refl

pub rune_in : (q : Const) (n : ℤ) (s : ConstSet) → has_const q s ≡ (same_constant q (form.Rune n) || has_const q s)
rune_in (form.Bool true) n s = refl
rune_in (form.Bool false) n s = refl
rune_in (form.Int m) n s = refl
rune_in (form.Rune m) n s = refl
rune_in (form.Text t) n s = refl

pub number_in : (q : Const) (n : ℤ) (s t : ConstSet) → t.has_true ≡ s.has_true → t.has_false ≡ s.has_false → t.numbers.keys ≡ insert_key int_eq s.numbers.keys n → t.texts.keys ≡ s.texts.keys
    → has_const q t ≡ (same_constant q (form.Int n) || has_const q s)
number_in (form.Bool true) n s t a b h e = a
number_in (form.Bool false) n s t a b h e = b
number_in (form.Int m) n s t a b h e = ap (list_any (int_eq m)) h ∙ numbers_inserted s.numbers.keys n m
number_in (form.Rune m) n s t a b h e = refl
number_in (form.Text x) n s t a b h e = ap (list_any (bytes_eq x)) e

pub text_in : (q : Const) (x : List ℕ) (s t : ConstSet) → t.has_true ≡ s.has_true → t.has_false ≡ s.has_false → t.numbers.keys ≡ s.numbers.keys → t.texts.keys ≡ insert_key bytes_eq s.texts.keys x
    → has_const q t ≡ (same_constant q (form.Text x) || has_const q s)
text_in (form.Bool true) x s t a b e h = a
text_in (form.Bool false) x s t a b e h = b
text_in (form.Int m) x s t a b e h = ap (list_any (int_eq m)) e
text_in (form.Rune m) x s t a b e h = refl
text_in (form.Text y) x s t a b e h = ap (list_any (bytes_eq y)) h ∙ texts_inserted s.texts.keys x y
