-- Names, numbers and signs: the longest at their place.
use Rattle.std.proofs.Common.{arith, ◌≡◌, ◌∙◌, sym, subst, ap, inl, inr, ℕ, suc, ◌^◌, ◌≤◌, ◌<◌, List, [], ◌∷◌, ◌++◌, length, take, drop, get_or, Option, Some, None, Bool, true, false, refl, ⊎_elim, eq-eqb, rules}
use Rattle.std.specs.Prelude.{not, ◌⊎◌, ◌==◌, ◌&&◌, ◌||◌, nat_le, nat_lt, bytes_eq, if◌then◌else◌}
use Rattle.std.specs.List.{list_all}
use Rattle.std.specs.Str.{all_ascii_digits}
use Rattle.std.specs.Fmt.{decimal}
use Rattle.std.proofs.lemmas.Bool.{eqb-true, eqb-false, leb-true, le-leb, ne_eqb, cases_lt, ltb-true, ltb-false}
use Rattle.std.proofs.Math.Seq.{take-append_seam, drop-append_seam}
use Rattle.std.proofs.lemmas.Slice.Eq.{bytes_eq-Decides}
use Rattle.std.proofs.lemmas.Fmt.{decimal-digits_value, digits_decimal, digits_value-decimal, first_decimal, decimal_nonempty, decimal_digit}
use Rattle.std.proofs.lemmas.Str.Parse.{IsNumeralModel, numerals_by_fold}
use Rattle.js_tree.specs.Printable.{is_name_byte, is_in_range}
use Rattle.js_tree.specs.Lexical.{is_digit, punctuators, is_one_of, is_longest, begins, goes_on}
use Rattle.js_grammar.specs.Scan.{value_after, leads_with_zero, number_of, run, longest}

pub both_true : (a b : Bool) → (a && b) ≡ true → (a ≡ true) × (b ≡ true)
both_true true b q = (refl, q)
both_true false b q = absurd (cc)

some_is : {X : Type 0} (a b : X) (o : Option X) → o ≡ Some a → o ≡ Some b → a ≡ b
some_is a b o p q = cc

-- names: how far one goes

run_stops : (rest : List ℕ) → goes_on rest ≡ false → run rest ≡ 0
run_stops [] q = refl
run_stops (c ∷ cs) q = ap (λ z. if z then suc (run cs) else 0) q

run_all : (w rest : List ℕ) → list_all is_name_byte w ≡ true → goes_on rest ≡ false → run (w ++ rest) ≡ length w
run_all [] rest p q = run_stops rest q
run_all (c ∷ cs) rest p q =
    let b = both_true (is_name_byte c) (list_all is_name_byte cs) p in
    ap (λ z. if z then suc (run (cs ++ rest)) else 0) b.0 ∙ ap suc (run_all cs rest b.1 q)

pub run_take : (w rest : List ℕ) → list_all is_name_byte w ≡ true → goes_on rest ≡ false → take (run (w ++ rest)) (w ++ rest) ≡ w
run_take w rest p q = ap (λ n. take n (w ++ rest)) (run_all w rest p q) ∙ take-append_seam w rest

pub run_drop : (w rest : List ℕ) → list_all is_name_byte w ≡ true → goes_on rest ≡ false → drop (run (w ++ rest)) (w ++ rest) ≡ rest
run_drop w rest p q = ap (λ n. drop n (w ++ rest)) (run_all w rest p q) ∙ drop-append_seam w rest

pub record Run (text : List ℕ) : Type 0 where
  pub front : list_all is_name_byte (take (run text) text) ≡ true
  pub back : goes_on (drop (run text) text) ≡ false

run_by : (b : Bool) (c : ℕ) (cs : List ℕ) → is_name_byte c ≡ b → Run cs → (list_all is_name_byte (take (if b then suc (run cs) else 0) (c ∷ cs)) ≡ true) × (goes_on (drop (if b then suc (run cs) else 0) (c ∷ cs)) ≡ false)
run_by true c cs q h = (ap (λ z. z && list_all is_name_byte (take (run cs) cs)) q ∙ h.front, h.back)
run_by false c cs q h = (refl, q)

pub run_is : (text : List ℕ) → Run text
run_is [] = record { front = refl; back = refl }
run_is (c ∷ cs) = let h = run_by (is_name_byte c) c cs refl (run_is cs) in record { front = h.0; back = h.1 }

-- signs: of those that a text begins with the longest

le_same : (c : ℕ) → (c == c) ≡ true
le_same c = eq-eqb c c refl

begins_itself : (s rest : List ℕ) → begins s (s ++ rest) ≡ true
begins_itself [] rest = refl
begins_itself (c ∷ cs) rest = ap (λ z. z && begins cs (cs ++ rest)) (le_same c) ∙ begins_itself cs rest

pub begins_is : (p text : List ℕ) → begins p text ≡ true → take (length p) text ≡ p
begins_is [] text q = refl
begins_is (c ∷ cs) [] q = absurd (cc)
begins_is (c ∷ cs) (x ∷ xs) q =
    let b = both_true (c == x) (begins cs xs) q in
    ap (λ z. z ∷ take (length cs) xs) (sym (eqb-true c x b.0)) ∙ ap (λ z. c ∷ z) (begins_is cs xs b.1)

or_right : (a b : Bool) → b ≡ true → (a || b) ≡ true
or_right true b q = refl
or_right false b q = q

pub or_true : (a b : Bool) → (a || b) ≡ true → (a ≡ true) ⊎ (b ≡ true)
or_true true b q = inl refl
or_true false b q = inr q

same_bytes : (xs : List ℕ) → bytes_eq xs xs ≡ true
same_bytes xs = (bytes_eq-Decides xs xs).1 refl

abbrev larger : Bool → ℕ → ℕ → ℕ
larger b m n = if b then m else n

larger_left_by : (t a : Bool) (n m : ℕ) → (a && nat_lt n m) ≡ t → n ≤ larger t m n
larger_left_by true a n m q = let h = ltb-true n m (both_true a (nat_lt n m) q).1 in omega (arith, h)
larger_left_by false a n m q = omega arith

larger_left : (a : Bool) (n m : ℕ) → n ≤ larger (a && nat_lt n m) m n
larger_left a n m = larger_left_by (a && nat_lt n m) a n m refl

larger_right_by : (t : Bool) (n m : ℕ) → nat_lt n m ≡ t → m ≤ larger t m n
larger_right_by true n m q = omega arith
larger_right_by false n m q = ltb-false n m q

larger_right : (n m : ℕ) → m ≤ larger (true && nat_lt n m) m n
larger_right n m = larger_right_by (nat_lt n m) n m refl

longest_least : (ps : List (List ℕ)) (n : ℕ) (text : List ℕ) → n ≤ longest ps n text
longest_least [] n text = omega arith
longest_least (p ∷ ps) n text =
    let a = larger_left (begins p text) n (length p) in
    let b = longest_least ps (larger (begins p text && nat_lt n (length p)) (length p) n) text in
    omega (arith, a, b)

head_under : (b : Bool) (p : List ℕ) (n k : ℕ) → larger (b && nat_lt n (length p)) (length p) n ≤ k → (not b || nat_le (length p) k) ≡ true
head_under true p n k h = let a = larger_right n (length p) in le-leb (length p) k (omega (arith, a, h))
head_under false p n k h = refl

pub longest_is : (ps : List (List ℕ)) (n : ℕ) (text s : List ℕ) → longest ps n text ≤ length s → is_longest ps s text ≡ true
longest_is [] n text s h = refl
longest_is (p ∷ ps) n text s h =
    let m = larger (begins p text && nat_lt n (length p)) (length p) n in
    let b = longest_least ps m text in
    ap (λ z. z && is_longest ps s text) (head_under (begins p text) p n (length s) (omega (arith, b, h))) ∙ longest_is ps m text s h

pub record From (ps : List (List ℕ)) (text : List ℕ) (m : ℕ) : Type 0 where
  pub sign : List ℕ
  pub among : is_one_of ps sign ≡ true
  pub first : begins sign text ≡ true
  pub long : length sign ≡ m

from_more : (p : List ℕ) (ps : List (List ℕ)) (text : List ℕ) (m : ℕ) → From ps text m → From (p ∷ ps) text m
from_more p ps text m h = record { sign = h.sign; among = or_right (bytes_eq p h.sign) (is_one_of ps h.sign) h.among; first = h.first; long = h.long }

from_by : (b : Bool) (p : List ℕ) (ps : List (List ℕ)) (n : ℕ) (text : List ℕ) → (begins p text && nat_lt n (length p)) ≡ b → ((m : ℕ) (text : List ℕ) → (longest ps m text ≡ m) ⊎ From ps text (longest ps m text)) → (longest ps (larger b (length p) n) text ≡ n) ⊎ From (p ∷ ps) text (longest ps (larger b (length p) n) text)
from_by true p ps n text q f =
    ⊎_elim
    (λ e. inr (record { sign = p; among = ap (λ z. z || is_one_of ps p) (same_bytes p); first = (both_true (begins p text) (nat_lt n (length p)) q).0; long = sym e }))
    (λ h. inr (from_more p ps text _ h))
    (f (length p) text)
from_by false p ps n text q f =
    ⊎_elim (λ e. inl e) (λ h. inr (from_more p ps text _ h)) (f n text)

pub longest_from : (ps : List (List ℕ)) (n : ℕ) (text : List ℕ) → (longest ps n text ≡ n) ⊎ From ps text (longest ps n text)
longest_from [] n text = inl refl
longest_from (p ∷ ps) n text = from_by (begins p text && nat_lt n (length p)) p ps n text refl (longest_from ps)

under_if : (t : Bool) (p s : List ℕ) (n : ℕ) → length p ≤ length s → n ≤ length s → larger t (length p) n ≤ length s
under_if true p s n a b = a
under_if false p s n a b = b

under_by : (b : Bool) (p s : List ℕ) (n : ℕ) → (not b || nat_le (length p) (length s)) ≡ true → n ≤ length s → larger (b && nat_lt n (length p)) (length p) n ≤ length s
under_by true p s n q h = under_if (nat_lt n (length p)) p s n (leb-true (length p) (length s) q) h
under_by false p s n q h = h

longest_under : (ps : List (List ℕ)) (s : List ℕ) (n : ℕ) (text : List ℕ) → is_longest ps s text ≡ true → n ≤ length s → longest ps n text ≤ length s
longest_under [] s n text q h = h
longest_under (p ∷ ps) s n text q h =
    let b = both_true (not (begins p text) || nat_le (length p) (length s)) (is_longest ps s text) q in
    longest_under ps s (larger (begins p text && nat_lt n (length p)) (length p) n) text b.1 (under_by (begins p text) p s n b.0 h)

longest_over : (ps : List (List ℕ)) (s : List ℕ) (n : ℕ) (text : List ℕ) → is_one_of ps s ≡ true → begins s text ≡ true → length s ≤ longest ps n text
longest_over [] s n text q h = absurd (cc)
longest_over (p ∷ ps) s n text q h =
    ⊎_elim
    (λ e.
    let same : s ≡ p = sym ((bytes_eq-Decides p s).0 e) in
    let first : begins p text ≡ true = ap (λ z. begins z text) (sym same) ∙ h in
    let a : length p ≤ larger (begins p text && nat_lt n (length p)) (length p) n = subst (λ z. length p ≤ larger (z && nat_lt n (length p)) (length p) n) (sym first) (larger_right n (length p)) in
    let b = longest_least ps (larger (begins p text && nat_lt n (length p)) (length p) n) text in
    let c : length s ≡ length p = ap length same in
    omega (arith, a, b, c))
    (λ e. longest_over ps s (larger (begins p text && nat_lt n (length p)) (length p) n) text e h)
    (or_true (bytes_eq p s) (is_one_of ps s) q)

pub sign_exact : (s rest : List ℕ) → is_one_of punctuators s ≡ true → is_longest punctuators s (s ++ rest) ≡ true → longest punctuators 0 (s ++ rest) ≡ length s
sign_exact s rest p q =
    let a = longest_under punctuators s 0 (s ++ rest) q (omega arith) in
    let b = longest_over punctuators s 0 (s ++ rest) p (begins_itself s rest) in
    omega (arith, a, b)

among_all : (f : List ℕ → Bool) (ps : List (List ℕ)) (s : List ℕ) → list_all f ps ≡ true → is_one_of ps s ≡ true → f s ≡ true
among_all f [] s a q = absurd (cc)
among_all f (p ∷ ps) s a q =
    let b = both_true (f p) (list_all f ps) a in
    ⊎_elim (λ e. ap f (sym ((bytes_eq-Decides p s).0 e)) ∙ b.0) (λ e. among_all f ps s b.1 e) (or_true (bytes_eq p s) (is_one_of ps s) q)

abbrev pub sign_like : List ℕ → Bool
sign_like [] = false
sign_like (c ∷ cs) = not (is_digit c) && (not (is_name_byte c) && not (c == 34))

pub sign_first : (s : List ℕ) → is_one_of punctuators s ≡ true → sign_like s ≡ true
sign_first s q = among_all sign_like punctuators s refl q

-- numbers

own : IsNumeralModel (λ ds. all_ascii_digits ds ≡ true) (value_after 0)
own = numerals_by_fold _ (search rules) value_after (search rules)

leads_not : (ds : List ℕ) → 48 < get_or ds 0 0 → leads_with_zero ds ≡ false
leads_not [] h = refl
leads_not (c ∷ []) h = refl
leads_not (c ∷ d ∷ cs) h = ne_eqb c 48 (λ e. omega (arith, e, h))

leads_decimal : (n : ℕ) → n < 2 ^ 64 → leads_with_zero (decimal n) ≡ false
leads_decimal n small =
    ⊎_elim
    (λ z. let zero_is : 0 ≡ n = omega (arith, z) in subst (λ k. leads_with_zero (decimal k) ≡ false) zero_is (ap leads_with_zero (decimal_digit 0 (omega arith))))
    (λ some. leads_not (decimal n) (first_decimal n (omega (arith, some)) small))
    (cases_lt n 1)

in_range_small : (n : ℕ) → is_in_range n ≡ true → n < 2 ^ 64
in_range_small n q = let h = leb-true n (2 ^ 53) q in omega (arith, h)

pub number_exact : (n : ℕ) → is_in_range n ≡ true → number_of (decimal n) ≡ Some n
number_exact n q =
    let small = in_range_small n q in
    let v : value_after 0 (decimal n) ≡ n = digits_value-decimal own n small in
    let d : all_ascii_digits (decimal n) ≡ true = digits_decimal own n small in
    let l : leads_with_zero (decimal n) ≡ false = leads_decimal n small in
    let r : is_in_range (value_after 0 (decimal n)) ≡ true = ap is_in_range v ∙ q in
    ap (λ z. if z && not (leads_with_zero (decimal n)) && is_in_range (value_after 0 (decimal n)) then Some (value_after 0 (decimal n)) else None) d
    ∙ (ap (λ z. if not z && is_in_range (value_after 0 (decimal n)) then Some (value_after 0 (decimal n)) else None) l
    ∙ (ap (λ z. if z then Some (value_after 0 (decimal n)) else None) r ∙ ap (λ z. Some z) v))

pub record Numeral (ds : List ℕ) (n : ℕ) : Type 0 where
  pub is : decimal n ≡ ds
  pub within : is_in_range n ≡ true

lead_one : (ds : List ℕ) → 0 < length ds → leads_with_zero ds ≡ false → get_or ds 0 0 ≡ 48 → length ds ≡ 1
lead_one [] some l e = absurd (omega (arith, some))
lead_one (c ∷ []) some l e = refl
lead_one (c ∷ d ∷ cs) some l e = absurd (eqb-false c 48 l e)

numeral_by : (a b c : Bool) (ds : List ℕ) (n : ℕ) → 0 < length ds → all_ascii_digits ds ≡ a → leads_with_zero ds ≡ b → is_in_range (value_after 0 ds) ≡ c → (if a && not b && c then Some (value_after 0 ds) else None) ≡ Some n → Numeral ds n
numeral_by true false true ds n some p q r h =
    let e : value_after 0 ds ≡ n = some_is (value_after 0 ds) n (Some (value_after 0 ds)) refl h in
    record {
      is = ap decimal (sym e) ∙ decimal-digits_value own ds p some (lead_one ds some q) (in_range_small (value_after 0 ds) r);
      within = ap is_in_range (sym e) ∙ r;
    }
numeral_by false b c ds n some p q r h = absurd (cc)
numeral_by true true c ds n some p q r h = absurd (cc)
numeral_by true false false ds n some p q r h = absurd (cc)

pub number_found : (ds : List ℕ) (n : ℕ) → 0 < length ds → number_of ds ≡ Some n → Numeral ds n
number_found ds n some q = numeral_by (all_ascii_digits ds) (leads_with_zero ds) (is_in_range (value_after 0 ds)) ds n some refl refl refl q

pub digit_is_name : (c : ℕ) → is_digit c ≡ true → is_name_byte c ≡ true
digit_is_name c q =
    let a = or_right (nat_le 97 c && nat_le c 122 || nat_le 65 c && nat_le c 90) (nat_le 48 c && nat_le c 57) q in
    ap (λ z. z || c == 95 || c == 36) a

digits_are_names : (ds : List ℕ) → all_ascii_digits ds ≡ true → list_all is_name_byte ds ≡ true
digits_are_names [] q = refl
digits_are_names (c ∷ cs) q =
    let b = both_true (is_digit c) (all_ascii_digits cs) q in
    ap (λ z. z && list_all is_name_byte cs) (digit_is_name c b.0) ∙ digits_are_names cs b.1

pub decimal_is_name : (n : ℕ) → is_in_range n ≡ true → list_all is_name_byte (decimal n) ≡ true
decimal_is_name n q = digits_are_names (decimal n) (digits_decimal own n (in_range_small n q))

pub record Headed (f : ℕ → Bool) (s : List ℕ) : Type 0 where
  pub c : ℕ
  pub cs : List ℕ
  pub is : s ≡ c ∷ cs
  pub head : f c ≡ true

digits_headed : (ds : List ℕ) → all_ascii_digits ds ≡ true → 0 < length ds → Headed is_digit ds
digits_headed [] q h = absurd (omega (arith, h))
digits_headed (c ∷ cs) q h = record { c = c; cs = cs; is = refl; head = (both_true (is_digit c) (all_ascii_digits cs) q).0 }

pub decimal_headed : (n : ℕ) → is_in_range n ≡ true → Headed is_digit (decimal n)
decimal_headed n q = let small = in_range_small n q in digits_headed (decimal n) (digits_decimal own n small) (decimal_nonempty n small)
