-- A text has at most one list of tokens, which reading from left to right finds.
use Rattle.std.proofs.Common.{arith, ◌≡◌, ◌∙◌, sym, subst, ap, ℕ, ◌+◌, List, [], ◌∷◌, ◌++◌, length, Option, Some, None, Bool, true, false, refl, ⊎_elim}
use Rattle.std.specs.Prelude.{not, ◌==◌, ◌&&◌, ◌||◌}
use Rattle.js_tree.specs.Lexical.{Token, Placed, is_gap, is_token, spelling, ends, is_restricted, Splits, end, token}
use Rattle.js_grammar.specs.Scan.{token_at}
use Rattle.std.proofs.lemmas.Bool.{eqb-true}
use Rattle.js_grammar.proofs.Words.{both_true, or_true}
use Rattle.js_grammar.proofs.Lexing.{token_exact, token_found}

abbrev pub put : Token → ℕ → Placed
put t at = record { token = t; at = at }

-- a byte that may stand between tokens
abbrev pub is_space : Bool → ℕ → Bool
is_space newlines c = c == 32 || newlines && c == 10

-- the first token after a gap, or none
pub data Seen : (newlines : Bool) (at : ℕ) (text : List ℕ) (tokens : List Placed) → Type 0 where
  nothing : {newlines : Bool} {at : ℕ} {text : List ℕ} → is_gap newlines text ≡ true → Seen newlines at text []
  something : {newlines : Bool} {at : ℕ} {text rest : List ℕ} {tokens : List Placed} (gap : List ℕ) (t : Token) → text ≡ gap ++ spelling t ++ rest
      → is_gap newlines gap ≡ true → is_token t ≡ true → ends t rest ≡ true → Splits (not (is_restricted t)) (at + length gap + length (spelling t)) rest tokens
      → Seen newlines at text (put t (at + length gap) ∷ tokens)

pub seen : {newlines : Bool} {at : ℕ} {text : List ℕ} {tokens : List Placed} → Splits newlines at text tokens → Seen newlines at text tokens
seen (end gap q) = nothing q
seen (token gap t q p e s) = something gap t refl q p e s

pub splits_at : (newlines : Bool) (a b : ℕ) (text : List ℕ) (tokens : List Placed) → a ≡ b → Splits newlines a text tokens → Splits newlines b text tokens
splits_at newlines a b text tokens q s = subst (λ z. Splits newlines z text tokens) q s

-- one more byte of a gap before what is split
pub gap_step : (newlines : Bool) (at c : ℕ) (cs : List ℕ) (tokens : List Placed) → is_space newlines c ≡ true → Splits newlines (at + 1) cs tokens → Splits newlines at (c ∷ cs) tokens
gap_step newlines at c cs tokens q (end gap p) = end (c ∷ gap) (ap (λ z. z && is_gap newlines gap) q ∙ p)
gap_step newlines at c cs tokens q (token {rest = rest} {tokens = more} gap t p k e s) =
    let here : at + length (c ∷ gap) ≡ at + 1 + length gap = omega arith in
    let s2 : Splits (not (is_restricted t)) (at + length (c ∷ gap) + length (spelling t)) rest more = splits_at _ _ _ rest more (ap (λ z. z + length (spelling t)) (sym here)) s in
    subst (λ z. Splits newlines at (c ∷ (gap ++ spelling t ++ rest)) (put t z ∷ more)) here
    (token (c ∷ gap) t (ap (λ z. z && is_gap newlines gap) q ∙ p) k e s2)

-- a token that is found stands there, before what follows it
pub token_step : (newlines : Bool) (at : ℕ) (text rest : List ℕ) (t : Token) (tokens : List Placed) → token_at text ≡ Some (t, rest) → Splits (not (is_restricted t)) (at + length (spelling t)) rest tokens → Splits newlines at text (put t at ∷ tokens)
token_step newlines at text rest t tokens q s =
    let h = token_found text t rest q in
    let zero_gap : at + length {A = ℕ} [] ≡ at = omega arith in
    let s2 : Splits (not (is_restricted t)) (at + length {A = ℕ} [] + length (spelling t)) rest tokens = splits_at _ _ _ rest tokens (ap (λ z. z + length (spelling t)) (sym zero_gap)) s in
    let made : Splits newlines at ([] ++ spelling t ++ rest) (put t (at + length {A = ℕ} []) ∷ tokens) = token [] t refl h.token h.ends_there s2 in
    subst (λ z. Splits newlines at z (put t at ∷ tokens)) (sym h.is) (subst (λ z. Splits newlines at (spelling t ++ rest) (put t z ∷ tokens)) zero_gap made)

head_same : (a b : ℕ) (xs ys : List ℕ) → a ∷ xs ≡ b ∷ ys → (a ≡ b) × (xs ≡ ys)
head_same a b xs ys q = (cc, cc)

clash : {X : Type 0} (b : Bool) → b ≡ true → b ≡ false → X
clash b p q = absurd (cc)

found_same : (o a b : List Placed) → o ≡ a → o ≡ b → a ≡ b
found_same o a b p q = sym p ∙ q

some_same : (a b : Token × List ℕ) (o : Option (Token × List ℕ)) → o ≡ Some a → o ≡ Some b → a ≡ b
some_same a b o p q = cc

pair_same : (a b : Token × List ℕ) (x y : List ℕ) → x ≡ y → token_at x ≡ Some a → token_at y ≡ Some b → a ≡ b
pair_same a b x y e p q = some_same a b (token_at x) p (ap token_at e ∙ q)

pub none_some : {X : Type 0} (a : Token × List ℕ) (o : Option (Token × List ℕ)) → o ≡ None → o ≡ Some a → X
none_some a o p q = absurd (cc)

-- what is split and begins with a token goes on after it
pub record Goes (newlines : Bool) (at : ℕ) (t : Token) (rest : List ℕ) (all : List Placed) : Type 0 where
  pub tail : List Placed
  pub is : all ≡ put t at ∷ tail
  pub splits : Splits (not (is_restricted t)) (at + length (spelling t)) rest tail

goes_by : (gap : List ℕ) (newlines : Bool) (at c : ℕ) (cs rest rest2 : List ℕ) (t u : Token) (tokens : List Placed) → is_space newlines c ≡ false → token_at (c ∷ cs) ≡ Some (t, rest) → c ∷ cs ≡ gap ++ spelling u ++ rest2 → is_gap newlines gap ≡ true → is_token u ≡ true → ends u rest2 ≡ true
    → Splits (not (is_restricted u)) (at + length gap + length (spelling u)) rest2 tokens → Goes newlines at t rest (put u (at + length gap) ∷ tokens)
goes_by [] newlines at c cs rest rest2 t u tokens n f e q p k s =
    let same = pair_same (u, rest2) (t, rest) (spelling u ++ rest2) (c ∷ cs) (sym e) (token_exact u rest2 p k) f in
    let zero_gap : at + length {A = ℕ} [] ≡ at = omega arith in
    let s2 : Splits (not (is_restricted u)) (at + length (spelling u)) rest2 tokens = splits_at _ _ _ rest2 tokens (ap (λ z. z + length (spelling u)) zero_gap) s in
    record {
      tail = tokens;
      is = ap (λ z. put u z ∷ tokens) zero_gap ∙ ap (λ (z : Token × List ℕ). put z.0 at ∷ tokens) same;
      splits = subst (λ (z : Token × List ℕ). Splits (not (is_restricted z.0)) (at + length (spelling z.0)) z.1 tokens) same s2;
    }
goes_by (g ∷ gs) newlines at c cs rest rest2 t u tokens n f e q p k s =
    let h = head_same c g cs (gs ++ spelling u ++ rest2) e in
    clash (is_space newlines c) (ap (is_space newlines) h.0 ∙ (both_true (is_space newlines g) (is_gap newlines gs) q).0) n

pub token_back : (newlines : Bool) (at c : ℕ) (cs rest : List ℕ) (t : Token) (all : List Placed) → is_space newlines c ≡ false → token_at (c ∷ cs) ≡ Some (t, rest) → Seen newlines at (c ∷ cs) all → Goes newlines at t rest all
token_back newlines at c cs rest t all n f (nothing q) = clash (is_space newlines c) (both_true (is_space newlines c) (is_gap newlines cs) q).0 n
token_back newlines at c cs rest t all n f (something {rest = rest2} {tokens = tokens} gap u e q p k s) = goes_by gap newlines at c cs rest rest2 t u tokens n f e q p k s

none_by : (gap : List ℕ) (newlines : Bool) (c : ℕ) (cs rest2 : List ℕ) (u : Token) → is_space newlines c ≡ false → token_at (c ∷ cs) ≡ None → c ∷ cs ≡ gap ++ spelling u ++ rest2 → is_gap newlines gap ≡ true → is_token u ≡ true → ends u rest2 ≡ true → ⊥
none_by [] newlines c cs rest2 u n f e q p k = none_some (u, rest2) (token_at (c ∷ cs)) f (ap token_at e ∙ token_exact u rest2 p k)
none_by (g ∷ gs) newlines c cs rest2 u n f e q p k =
    let h = head_same c g cs (gs ++ spelling u ++ rest2) e in
    clash (is_space newlines c) (ap (is_space newlines) h.0 ∙ (both_true (is_space newlines g) (is_gap newlines gs) q).0) n

-- where no token is found nothing is split
pub no_token : (newlines : Bool) (at c : ℕ) (cs : List ℕ) (all : List Placed) → is_space newlines c ≡ false → token_at (c ∷ cs) ≡ None → Seen newlines at (c ∷ cs) all → ⊥
no_token newlines at c cs all n f (nothing q) = clash (is_space newlines c) (both_true (is_space newlines c) (is_gap newlines cs) q).0 n
no_token newlines at c cs all n f (something {rest = rest2} gap u e q p k s) = none_by gap newlines c cs rest2 u n f e q p k

pub space_none : (newlines : Bool) (c : ℕ) (cs : List ℕ) → is_space newlines c ≡ true → token_at (c ∷ cs) ≡ None
space_none newlines c cs q =
    ⊎_elim
    (λ e. subst (λ z. token_at (z ∷ cs) ≡ None) (sym (eqb-true c 32 e)) refl)
    (λ e. subst (λ z. token_at (z ∷ cs) ≡ None) (sym (eqb-true c 10 (both_true newlines (c == 10) e).1)) refl)
    (or_true (c == 32) (newlines && c == 10) q)

back_by : (gap : List ℕ) (newlines : Bool) (at c : ℕ) (cs rest : List ℕ) (u : Token) (tokens : List Placed) → is_space newlines c ≡ true → c ∷ cs ≡ gap ++ spelling u ++ rest → is_gap newlines gap ≡ true → is_token u ≡ true → ends u rest ≡ true
    → Splits (not (is_restricted u)) (at + length gap + length (spelling u)) rest tokens → Splits newlines (at + 1) cs (put u (at + length gap) ∷ tokens)
back_by [] newlines at c cs rest u tokens n e q p k s = none_some (u, rest) (token_at (c ∷ cs)) (space_none newlines c cs n) (ap token_at e ∙ token_exact u rest p k)
back_by (g ∷ gs) newlines at c cs rest u tokens n e q p k s =
    let h = head_same c g cs (gs ++ spelling u ++ rest) e in
    let here : at + length (g ∷ gs) ≡ at + 1 + length gs = omega arith in
    let s2 : Splits (not (is_restricted u)) (at + 1 + length gs + length (spelling u)) rest tokens = splits_at _ _ _ rest tokens (ap (λ z. z + length (spelling u)) here) s in
    let made : Splits newlines (at + 1) (gs ++ spelling u ++ rest) (put u (at + 1 + length gs) ∷ tokens) = token gs u (both_true (is_space newlines g) (is_gap newlines gs) q).1 p k s2 in
    subst (λ z. Splits newlines (at + 1) z (put u (at + length (g ∷ gs)) ∷ tokens)) (sym h.1) (subst (λ z. Splits newlines (at + 1) (gs ++ spelling u ++ rest) (put u z ∷ tokens)) (sym here) made)

-- what is split and begins with a byte of a gap is split after it
pub gap_back : (newlines : Bool) (at c : ℕ) (cs : List ℕ) (all : List Placed) → is_space newlines c ≡ true → Seen newlines at (c ∷ cs) all → Splits newlines (at + 1) cs all
gap_back newlines at c cs all n (nothing q) = end cs (both_true (is_space newlines c) (is_gap newlines cs) q).1
gap_back newlines at c cs all n (something {rest = rest} {tokens = tokens} gap u e q p k s) = back_by gap newlines at c cs rest u tokens n e q p k s

none_left : (gap : List ℕ) (u : Token) (rest : List ℕ) → [] ≡ gap ++ spelling u ++ rest → is_token u ≡ true → ends u rest ≡ true → ⊥
none_left [] u rest e p k = none_some (u, rest) (token_at []) refl (ap token_at e ∙ token_exact u rest p k)
none_left (g ∷ gs) u rest e p k = cc

pub end_back : (newlines : Bool) (at : ℕ) (all : List Placed) → Seen newlines at [] all → all ≡ []
end_back newlines at all (nothing q) = refl
end_back newlines at all (something {rest = rest} gap u e q p k s) = absurd (none_left gap u rest e p k)
