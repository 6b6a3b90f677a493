-- The first token of a text by the byte that it begins with.
use Rattle.std.proofs.Common.{arith, ◌≡◌, ◌∙◌, sym, ap, ℕ, ◌+◌, ◌-◌, ◌<◌, List, [], ◌∷◌, ◌++◌, length, take, drop, get_or, Some, true, false, refl, add-one}
use Rattle.std.specs.Prelude.{◌==◌, if◌then◌else◌}
use Rattle.std.proofs.lemmas.List.{take_all}
use Rattle.js_tree.specs.Printable.{is_name_byte}
use Rattle.js_tree.specs.Lexical.{identifier_name, string_literal, is_digit, punctuators}
use Rattle.js_grammar.specs.declared.scan.Inside.TheVariants.{Plain}
use Rattle.js_grammar.specs.Scan.{scan, bytes_of, number_of, run, longest, Found, numbered, quoted, signed, token_at}
use Rattle.js_grammar.specs.Signs.{longest_sign, first_signs, second_signs, third_signs, fourth_signs, fifth_signs, sixth_signs}

-- looking for the signs of one list and then of another is looking for those of both
longest_append : (ps qs : List (List ℕ)) (n : ℕ) (text : List ℕ) → longest (ps ++ qs) n text ≡ longest qs (longest ps n text) text
longest_append [] qs n text = refl
longest_append (p ∷ ps) qs n text = longest_append ps qs _ text

longer : (ps qs : List (List ℕ)) (n m r : ℕ) (text : List ℕ) → m ≡ longest ps n text → r ≡ longest qs m text → r ≡ longest (ps ++ qs) n text
longer ps qs n m r text q h = h ∙ (ap (λ z. longest qs z text) q ∙ sym (longest_append ps qs n text))

six_lists : (ps qs rs us vs ws : List (List ℕ)) (text : List ℕ) (a b c d e f : ℕ) → a ≡ longest ps 0 text → b ≡ longest qs a text → c ≡ longest rs b text
    → d ≡ longest us c text → e ≡ longest vs d text → f ≡ longest ws e text → f ≡ longest (ps ++ (qs ++ (rs ++ (us ++ (vs ++ ws))))) 0 text
six_lists ps qs rs us vs ws text a b c d e f qa qb qc qd qe qf =
    longer ps (qs ++ (rs ++ (us ++ (vs ++ ws)))) 0 a f text qa
    (longer qs (rs ++ (us ++ (vs ++ ws))) a b f text qb
    (longer rs (us ++ (vs ++ ws)) b c f text qc
    (longer us (vs ++ ws) c d f text qd
    (longer vs ws d e f text qe qf))))

-- the lists of eight signs are all signs
pub sign_is : (text : List ℕ) (a b c d e f : ℕ) → a ≡ longest first_signs 0 text → b ≡ longest second_signs a text → c ≡ longest third_signs b text
    → d ≡ longest fourth_signs c text → e ≡ longest fifth_signs d text → f ≡ longest sixth_signs e text → f ≡ longest_sign text
unfolding longest_sign
sign_is text a b c d e f qa qb qc qd qe qf =
    six_lists first_signs second_signs third_signs fourth_signs fifth_signs sixth_signs text a b c d e f qa qb qc qd qe qf

token_other : (c : ℕ) (cs : List ℕ) (r : Found) → is_digit c ≡ false → is_name_byte c ≡ false
    → (if c == 34 then quoted (scan Plain cs) else signed (longest_sign (c ∷ cs)) (c ∷ cs)) ≡ r → token_at (c ∷ cs) ≡ r
unfolding longest_sign
token_other c cs r d n q =
    let text = c ∷ cs in
    ap (λ z. if z then numbered (number_of (take (run text) text)) (drop (run text) text) else if is_name_byte c then Some (identifier_name (take (run text) text), drop (run text) text) else if c == 34 then quoted (scan Plain cs) else signed (longest punctuators 0 text) text) d
    ∙ (ap (λ z. if z then Some (identifier_name (take (run text) text), drop (run text) text) else if c == 34 then quoted (scan Plain cs) else signed (longest punctuators 0 text) text) n ∙ q)

-- a sign
pub token_sign : (text : List ℕ) (r : Found) → 0 < length text → is_digit (get_or text 0 0) ≡ false → is_name_byte (get_or text 0 0) ≡ false → (get_or text 0 0 == 34) ≡ false
    → signed (longest_sign text) text ≡ r → token_at text ≡ r
token_sign [] r lt d n k q = absurd (omega (arith, lt))
token_sign (c ∷ cs) r lt d n k q =
    token_other c cs r d n (ap (λ z. if z then quoted (scan Plain cs) else signed (longest_sign (c ∷ cs)) (c ∷ cs)) k ∙ q)

after_quote : (c : ℕ) (cs : List ℕ) → take (length (c ∷ cs) - 1) (drop 1 (c ∷ cs)) ≡ cs
after_quote c cs = take_all (length (c ∷ cs) - 1) cs (omega arith)

-- a string
pub token_string : (text : List ℕ) (n : ℕ) → 0 < length text → is_digit (get_or text 0 0) ≡ false → is_name_byte (get_or text 0 0) ≡ false → (get_or text 0 0 == 34) ≡ true
    → quoted (scan Plain (take (length text - 1) (drop 1 text))) ≡ Some (string_literal (bytes_of (scan Plain (take (length text - 1) (drop 1 text)))), drop n (take (length text - 1) (drop 1 text)))
    → token_at text ≡ Some (string_literal (bytes_of (scan Plain (take (length text - 1) (drop 1 text)))), drop (n + 1) text)
token_string [] n lt d m k q = absurd (omega (arith, lt))
token_string (c ∷ cs) n lt d m k q =
    let rest = take (length (c ∷ cs) - 1) (drop 1 (c ∷ cs)) in
    let e : rest ≡ cs = after_quote c cs in
    let past : drop n rest ≡ drop (n + 1) (c ∷ cs) = ap (drop n) e ∙ ap (λ z. drop z (c ∷ cs)) (sym (add-one n)) in
    token_other c cs (Some (string_literal (bytes_of (scan Plain rest)), drop (n + 1) (c ∷ cs))) d m
    (ap (λ z. if z then quoted (scan Plain cs) else signed (longest_sign (c ∷ cs)) (c ∷ cs)) k
    ∙ (ap (λ z. quoted (scan Plain z)) (sym e) ∙ (q ∙ ap (λ z. Some (string_literal (bytes_of (scan Plain rest)), z)) past)))
