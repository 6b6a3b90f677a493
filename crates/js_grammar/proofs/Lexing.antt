-- The first token of a text is the one that the definition has there.
use Rattle.std.proofs.Common.{arith, ◌≡◌, ◌∙◌, sym, subst, ap, ℕ, suc, ◌<◌, List, [], ◌∷◌, ◌++◌, length, take, drop, Option, Some, None, Bool, true, false, refl, append_assoc, ⊎_elim}
use Rattle.std.specs.Prelude.{not, ◌==◌, ◌&&◌, ◌||◌, if◌then◌else◌}
use Rattle.std.specs.List.{list_all}
use Rattle.std.specs.Fmt.{decimal}
use Rattle.std.proofs.lemmas.Bool.{eqb-true, eqb-false, ne_eqb}
use Rattle.std.proofs.lemmas.List.{take-append-drop}
use Rattle.std.proofs.Math.Seq.{take-append_seam, drop-append_seam}
use Rattle.js_tree.specs.Printed.{bytes_text, string_text}
use Rattle.js_tree.specs.Printable.{is_name_byte, is_in_range, is_byte}
use Rattle.js_tree.specs.Lexical.{Token, identifier_name, punctuator, numeric_literal, string_literal, is_digit, is_identifier_name, punctuators, is_one_of, is_longest, goes_on, number_goes_on, is_token, spelling, ends}
use Rattle.js_grammar.specs.declared.scan.Inside.TheVariants.{Plain}
use Rattle.js_grammar.specs.Scan.{Scanned, scan, number_of, run, dot_follows, longest, Found, numbered, quoted, signed, token_at}
use Rattle.js_grammar.proofs.Strings.{scan_text, scan_is}
use Rattle.js_grammar.proofs.Words.{both_true, run_take, run_drop, run_is, sign_exact, sign_first, sign_like, number_exact, number_found, decimal_is_name, decimal_headed, longest_is, longest_from, From, begins_is, digit_is_name}

not_true : (b : Bool) → not b ≡ true → b ≡ false
not_true true q = absurd (cc)
not_true false q = refl

or_false : (a b : Bool) → (a || b) ≡ false → (a ≡ false) × (b ≡ false)
or_false true b q = absurd (cc)
or_false false b q = (refl, q)

number_stops : (rest : List ℕ) → number_goes_on rest ≡ false → (goes_on rest ≡ false) × (dot_follows rest ≡ false)
number_stops [] q = (refl, refl)
number_stops (c ∷ cs) q = or_false (is_name_byte c) (c == 46) q

number_ends : (rest : List ℕ) → goes_on rest ≡ false → dot_follows rest ≡ false → number_goes_on rest ≡ false
number_ends [] p q = refl
number_ends (c ∷ cs) p q = ap (λ z. z || c == 46) p ∙ q

name_exact : (x rest : List ℕ) → is_identifier_name x ≡ true → goes_on rest ≡ false → token_at (x ++ rest) ≡ Some (identifier_name x, rest)
name_exact [] rest p q = absurd (cc)
name_exact (c ∷ cs) rest p q =
    let b = both_true (not (is_digit c)) (list_all is_name_byte (c ∷ cs)) p in
    let n = both_true (is_name_byte c) (list_all is_name_byte cs) b.1 in
    let text = c ∷ (cs ++ rest) in
    ap (λ z. if z then numbered (number_of (take (run text) text)) (drop (run text) text) else if is_name_byte c then Some (identifier_name (take (run text) text), drop (run text) text) else if c == 34 then quoted (scan Plain (cs ++ rest)) else signed (longest punctuators 0 text) text) (not_true (is_digit c) b.0)
    ∙ (ap (λ z. if z then Some (identifier_name (take (run text) text), drop (run text) text) else if c == 34 then quoted (scan Plain (cs ++ rest)) else signed (longest punctuators 0 text) text) n.0
    ∙ (ap (λ z. Some (identifier_name z, drop (run text) text)) (run_take (c ∷ cs) rest b.1 q) ∙ ap (λ z. Some (identifier_name (c ∷ cs), z)) (run_drop (c ∷ cs) rest b.1 q)))

sign_token_exact : (s rest : List ℕ) → is_one_of punctuators s ≡ true → is_longest punctuators s (s ++ rest) ≡ true → sign_like s ≡ true → token_at (s ++ rest) ≡ Some (punctuator s, rest)
sign_token_exact [] rest p q h = absurd (cc)
sign_token_exact (c ∷ cs) rest p q h =
    let a = both_true (not (is_digit c)) (not (is_name_byte c) && not (c == 34)) h in
    let b = both_true (not (is_name_byte c)) (not (c == 34)) a.1 in
    let text = c ∷ (cs ++ rest) in
    let nonzero : (length (c ∷ cs) == 0) ≡ false = ne_eqb (length (c ∷ cs)) 0 (λ e. omega (arith, e)) in
    ap (λ z. if z then numbered (number_of (take (run text) text)) (drop (run text) text) else if is_name_byte c then Some (identifier_name (take (run text) text), drop (run text) text) else if c == 34 then quoted (scan Plain (cs ++ rest)) else signed (longest punctuators 0 text) text) (not_true (is_digit c) a.0)
    ∙ (ap (λ z. if z then Some (identifier_name (take (run text) text), drop (run text) text) else if c == 34 then quoted (scan Plain (cs ++ rest)) else signed (longest punctuators 0 text) text) (not_true (is_name_byte c) b.0)
    ∙ (ap (λ z. if z then quoted (scan Plain (cs ++ rest)) else signed (longest punctuators 0 text) text) (not_true (c == 34) b.1)
    ∙ (ap (λ z. signed z text) (sign_exact (c ∷ cs) rest p q)
    ∙ (ap (λ z. if z then None else Some (punctuator (take (length (c ∷ cs)) text), drop (length (c ∷ cs)) text)) nonzero
    ∙ (ap (λ z. Some (punctuator z, drop (length (c ∷ cs)) text)) (take-append_seam (c ∷ cs) rest) ∙ ap (λ z. Some (punctuator (c ∷ cs), z)) (drop-append_seam (c ∷ cs) rest))))))

numeral_exact : (n c : ℕ) (cs rest : List ℕ) → decimal n ≡ c ∷ cs → is_digit c ≡ true → is_in_range n ≡ true → number_goes_on rest ≡ false → token_at ((c ∷ cs) ++ rest) ≡ Some (numeric_literal n, rest)
numeral_exact n c cs rest e d q g =
    let text = c ∷ (cs ++ rest) in
    let stop = number_stops rest g in
    let name : list_all is_name_byte (c ∷ cs) ≡ true = ap (list_all is_name_byte) (sym e) ∙ decimal_is_name n q in
    let value : number_of (take (run text) text) ≡ Some n = ap number_of (run_take (c ∷ cs) rest name stop.0) ∙ (ap number_of (sym e) ∙ number_exact n q) in
    ap (λ z. if z then numbered (number_of (take (run text) text)) (drop (run text) text) else if is_name_byte c then Some (identifier_name (take (run text) text), drop (run text) text) else if c == 34 then quoted (scan Plain (cs ++ rest)) else signed (longest punctuators 0 text) text) d
    ∙ (ap (λ z. numbered z (drop (run text) text)) value ∙ (ap (λ z. numbered (Some n) z) (run_drop (c ∷ cs) rest name stop.0)
    ∙ ap (λ z. if z then None else Some (numeric_literal n, rest)) stop.1))

string_exact : (s rest : List ℕ) → list_all is_byte s ≡ true → token_at (string_text s ++ rest) ≡ Some (string_literal s, rest)
string_exact s rest q =
    ap (λ z. token_at (34 ∷ z)) (append_assoc (bytes_text s) (34 ∷ []) rest) ∙ ap quoted (scan_text s rest q)

-- a token that ends there is found
pub token_exact : (t : Token) (rest : List ℕ) → is_token t ≡ true → ends t rest ≡ true → token_at (spelling t ++ rest) ≡ Some (t, rest)
token_exact (identifier_name x) rest p q = name_exact x rest p (not_true (goes_on rest) q)
token_exact (punctuator s) rest p q = sign_token_exact s rest p q (sign_first s p)
token_exact (numeric_literal n) rest p q =
    let h = decimal_headed n p in
    ap (λ z. token_at (z ++ rest)) h.is ∙ numeral_exact n h.c h.cs rest h.is h.head p (not_true (number_goes_on rest) q)
token_exact (string_literal s) rest p q = string_exact s rest p

abbrev found_one : Token → List ℕ → Found
found_one t rest = Some (t, rest)

-- the text is this token, which ends there, and what follows
pub record Spelt (text : List ℕ) (t : Token) (rest : List ℕ) : Type 0 where
  pub is : text ≡ spelling t ++ rest
  pub token : is_token t ≡ true
  pub ends_there : ends t rest ≡ true

some_same : (a b : Token × List ℕ) → Some a ≡ Some b → a ≡ b
some_same a b q = cc

same_found : (a b : Token × List ℕ) (text : List ℕ) → Spelt text a.0 a.1 → Some a ≡ Some b → Spelt text b.0 b.1
same_found a b text h q = subst (λ (z : Token × List ℕ). Spelt text z.0 z.1) (some_same a b q) h

whole_again : (n : ℕ) (text : List ℕ) → text ≡ take n text ++ drop n text
whole_again n text = sym (take-append-drop n text)

numbered_by : (b : Bool) (n : ℕ) (w r text : List ℕ) (t : Token) (rest : List ℕ) → number_of w ≡ Some n → text ≡ w ++ r → 0 < length w → goes_on r ≡ false → dot_follows r ≡ b → (if b then None else found_one (numeric_literal n) r) ≡ found_one t rest → Spelt text t rest
numbered_by true n w r text t rest e i some g d q = absurd (cc)
numbered_by false n w r text t rest e i some g d q =
    let h = number_found w n some e in
    same_found (numeric_literal n, r) (t, rest) text (record { is = i ∙ ap (λ z. z ++ r) (sym h.is); token = h.within; ends_there = ap not (number_ends r g d) }) q

numbered_found : (o : Option ℕ) (w r text : List ℕ) (b : Bool) (t : Token) (rest : List ℕ) → number_of w ≡ o → text ≡ w ++ r → 0 < length w → goes_on r ≡ false → dot_follows r ≡ b → numbered o r ≡ Some (t, rest) → Spelt text t rest
numbered_found None w r text b t rest e i some g d q = absurd (cc)
numbered_found (Some n) w r text b t rest e i some g d q =
    numbered_by b n w r text t rest e i some g d (ap (λ z. if z then None else Some (numeric_literal n, r)) (sym d) ∙ q)

quoted_found : (o : Scanned) (cs : List ℕ) (t : Token) (rest : List ℕ) → scan Plain cs ≡ o → quoted o ≡ Some (t, rest) → Spelt (34 ∷ cs) t rest
quoted_found None cs t rest e q = absurd (cc)
quoted_found (Some p) cs t rest e q =
    let h = scan_is cs p.0 p.1 e in
    same_found (string_literal p.0, p.1) (t, rest) (34 ∷ cs) (record {
      is = ap (λ z. 34 ∷ z) (h.is ∙ sym (append_assoc (bytes_text p.0) (34 ∷ []) p.1));
      token = h.each;
      ends_there = refl;
    }) q

-- the longest of some signs that a text begins with
record Longest (ps : List (List ℕ)) (m : ℕ) (text : List ℕ) : Type 0 where
  among : is_one_of ps (take m text) ≡ true
  longest_there : is_longest ps (take m text) text ≡ true

longest_taken : (ps : List (List ℕ)) (m : ℕ) (text : List ℕ) → longest ps 0 text ≡ m → (m == 0) ≡ false → Longest ps m text
longest_taken ps m text e z =
    ⊎_elim
    (λ (none : longest ps 0 text ≡ 0). absurd (eqb-false m 0 z (sym e ∙ none)))
    (λ (h : From ps text (longest ps 0 text)).
    let taken : take m text ≡ h.sign = ap (λ k. take k text) (sym (h.long ∙ e)) ∙ begins_is h.sign text h.first in
    let there : is_longest ps h.sign text ≡ true = longest_is ps 0 text h.sign (omega (arith, h.long)) in
    record { among = ap (is_one_of ps) taken ∙ h.among; longest_there = ap (λ k. is_longest ps k text) taken ∙ there })
    (longest_from ps 0 text)

signed_found : (b : Bool) (m : ℕ) (text : List ℕ) (t : Token) (rest : List ℕ) → ((m == 0) ≡ false → Longest punctuators m text) → (m == 0) ≡ b → (if b then None else found_one (punctuator (take m text)) (drop m text)) ≡ found_one t rest → Spelt text t rest
signed_found true m text t rest f z q = absurd (cc)
signed_found false m text t rest f z q =
    let h = f z in
    let w = whole_again m text in
    same_found (punctuator (take m text), drop m text) (t, rest) text (record {
      is = w;
      token = h.among;
      ends_there = ap (is_longest punctuators (take m text)) (sym w) ∙ h.longest_there;
    }) q

found_by : (a b e : Bool) (c : ℕ) (cs : List ℕ) (t : Token) (rest : List ℕ) → is_digit c ≡ a → is_name_byte c ≡ b → (c == 34) ≡ e → (a ≡ true → b ≡ true)
    → (if a then numbered (number_of (take (run (c ∷ cs)) (c ∷ cs))) (drop (run (c ∷ cs)) (c ∷ cs)) else if b then Some (identifier_name (take (run (c ∷ cs)) (c ∷ cs)), drop (run (c ∷ cs)) (c ∷ cs)) else if e then quoted (scan Plain cs) else signed (longest punctuators 0 (c ∷ cs)) (c ∷ cs)) ≡ Some (t, rest) → Spelt (c ∷ cs) t rest
found_by true b e c cs t rest p r s k q =
    let text = c ∷ cs in
    let one : run text ≡ suc (run cs) = ap (λ z. if z then suc (run cs) else 0) (r ∙ k refl) in
    let some : 0 < length (take (run text) text) = subst (λ n. 0 < length (take n text)) (sym one) (omega arith) in
    numbered_found (number_of (take (run text) text)) (take (run text) text) (drop (run text) text) text (dot_follows (drop (run text) text)) t rest refl (whole_again (run text) text) some (run_is text).back refl q
found_by false true e c cs t rest p r s k q =
    let text = c ∷ cs in
    let one : run text ≡ suc (run cs) = ap (λ z. if z then suc (run cs) else 0) r in
    let front : take (run text) text ≡ c ∷ take (run cs) cs = ap (λ n. take n text) one in
    let names : list_all is_name_byte (c ∷ take (run cs) cs) ≡ true = ap (list_all is_name_byte) (sym front) ∙ (run_is text).front in
    let name : is_identifier_name (take (run text) text) ≡ true = ap is_identifier_name front ∙ (ap (λ z. not z && list_all is_name_byte (c ∷ take (run cs) cs)) p ∙ names) in
    same_found (identifier_name (take (run text) text), drop (run text) text) (t, rest) text (record { is = whole_again (run text) text; token = name; ends_there = ap not (run_is text).back }) q
found_by false false true c cs t rest p r s k q =
    subst (λ z. Spelt (z ∷ cs) t rest) (sym (eqb-true c 34 s)) (quoted_found (scan Plain cs) cs t rest refl q)
found_by false false false c cs t rest p r s k q =
    signed_found (longest punctuators 0 (c ∷ cs) == 0) (longest punctuators 0 (c ∷ cs)) (c ∷ cs) t rest (longest_taken punctuators (longest punctuators 0 (c ∷ cs)) (c ∷ cs) refl) refl q

-- what is found is a token that ends there
pub token_found : (text : List ℕ) (t : Token) (rest : List ℕ) → token_at text ≡ Some (t, rest) → Spelt text t rest
token_found [] t rest q = absurd (cc)
token_found (c ∷ cs) t rest q = found_by (is_digit c) (is_name_byte c) (c == 34) c cs t rest refl refl refl (digit_is_name c) q
