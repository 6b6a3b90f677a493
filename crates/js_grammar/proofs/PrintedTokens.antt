-- Tokens at the front of a printed text, before whatever follows them.
use Rattle.std.proofs.Common.{arith, ◌≡◌, ◌∙◌, sym, subst, ap, ap₂, ℕ, ◌+◌, ◌≤◌, List, [], ◌∷◌, ◌++◌, length, Some, None, Bool, true, false, refl, eq-eqb}
use Rattle.std.specs.Prelude.{not, ◌==◌, ◌&&◌, ◌||◌, if◌then◌else◌}
use Rattle.std.proofs.lemmas.Bool.{eqb-true, leb-true, le-leb}
use Rattle.js_tree.specs.Lexical.{Token, identifier_name, punctuator, numeric_literal, string_literal, Placed, Splits, is_token, ends, spelling, is_restricted, is_gap, is_identifier_name, goes_on, number_goes_on}
use Rattle.js_tree.specs.Script.{Name, Expr}
use Rattle.js_tree.specs.Erase.{erase_expr}
use Rattle.js_tree.specs.Printable.{is_name, is_name_byte, fits}
use Rattle.js_tree.specs.Scripts.{after, same_token, Expression}
use Rattle.js_grammar.proofs.Heads.{same_bytes}
use Rattle.js_grammar.proofs.Words.{both_true}
use Rattle.js_grammar.proofs.Lexing.{token_exact}
use Rattle.js_grammar.proofs.Splitting.{put, gap_step, token_step, splits_at}

-- what follows goes on with no name, and with no dot unless there may be one
abbrev pub stops : Bool → List ℕ → Bool
stops dot [] = true
stops dot (c ∷ cs) = not (is_name_byte c) && (not (c == 46) || dot)

or_more : (a b : Bool) → (a || false) ≡ true → (a || b) ≡ true
or_more true b q = refl
or_more false b q = absurd (cc)

pub stops_more : (dot : Bool) (r : List ℕ) → stops false r ≡ true → stops dot r ≡ true
stops_more dot [] q = refl
stops_more dot (c ∷ cs) q =
    let b = both_true (not (is_name_byte c)) (not (c == 46) || false) q in
    ap (λ z. z && (not (c == 46) || dot)) b.0 ∙ or_more (not (c == 46)) dot b.1

pub name_stops : (dot : Bool) (r : List ℕ) → stops dot r ≡ true → not (goes_on r) ≡ true
name_stops dot [] q = refl
name_stops dot (c ∷ cs) q = (both_true (not (is_name_byte c)) (not (c == 46) || dot) q).0

neither : (a b : Bool) → not a ≡ true → (not b || false) ≡ true → not (a || b) ≡ true
neither true b p q = absurd (cc)
neither false true p q = absurd (cc)
neither false false p q = refl

pub number_stops : (r : List ℕ) → stops false r ≡ true → not (number_goes_on r) ≡ true
number_stops [] q = refl
number_stops (c ∷ cs) q =
    let b = both_true (not (is_name_byte c)) (not (c == 46) || false) q in
    neither (is_name_byte c) (c == 46) b.0 b.1

-- a token before what is split
pub first : (t : Token) (at : ℕ) (r : List ℕ) (rest : List Placed) → is_token t ≡ true → ends t r ≡ true → Splits (not (is_restricted t)) (at + length (spelling t)) r rest → (newlines : Bool) → Splits newlines at (spelling t ++ r) (put t at ∷ rest)
first t at r rest p e s newlines = token_step newlines at (spelling t ++ r) r t rest (token_exact t r p e) s

-- a space before what is split
pub spaced : (at : ℕ) (r : List ℕ) (ts : List Placed) → ((newlines : Bool) → Splits newlines (at + 1) r ts) → (newlines : Bool) → Splits newlines at (32 ∷ r) ts
spaced at r ts s newlines = gap_step newlines at 32 r ts refl (s newlines)

-- a newline before what is split
pub on_next_line : (at : ℕ) (r : List ℕ) (ts : List Placed) → Splits true (at + 1) r ts → Splits true at (10 ∷ r) ts
on_next_line at r ts s = gap_step true at 10 r ts refl s

-- a margin before what is split
pub past_margin : (m : List ℕ) (at : ℕ) (r : List ℕ) (ts : List Placed) → is_gap true m ≡ true → Splits true (at + length m) r ts → Splits true at (m ++ r) ts
past_margin [] at r ts q s = let e : at + length {A = ℕ} [] ≡ at = omega arith in splits_at true (at + length {A = ℕ} []) at r ts e s
past_margin (c ∷ cs) at r ts q s =
    let b = both_true (c == 32 || true && c == 10) (is_gap true cs) q in
    let e : at + length (c ∷ cs) ≡ at + 1 + length cs = omega arith in
    gap_step true at c (cs ++ r) ts b.0 (past_margin cs (at + 1) r ts b.1 (splits_at true (at + length (c ∷ cs)) (at + 1 + length cs) r ts e s))

same_self : (t : Token) → same_token t t ≡ true
same_self (identifier_name x) = same_bytes x
same_self (punctuator x) = same_bytes x
same_self (numeric_literal n) = eq-eqb n n refl
same_self (string_literal x) = same_bytes x

-- past a token that comes first, and past those after it
pub past : (d : ℕ) (x : Token) (xs : List Token) (at : ℕ) (ts us : List Placed) → fits d ≡ true → after d xs ts ≡ Some us → after d (x ∷ xs) (put x at ∷ ts) ≡ Some us
past d x xs at ts us f q = ap (λ b. if b && fits d then after d xs ts else None) (same_self x) ∙ (ap (λ b. if b then after d xs ts else None) f ∙ q)

pub past_one : (d : ℕ) (x : Token) (at : ℕ) (ts : List Placed) → fits d ≡ true → after d (x ∷ []) (put x at ∷ ts) ≡ Some ts
past_one d x at ts f = past d x [] at ts ts f refl

pub fits_less : (a b : ℕ) → a ≤ b → fits b ≡ true → fits a ≡ true
fits_less a b h q = let k = leb-true b 1000 q in le-leb a 1000 (omega (arith, h, k))

pub name_first : (x : Name) → is_name x ≡ true → (cs : List ℕ) × (x ≡ 36 ∷ cs)
name_first [] q = absurd (cc)
name_first (c ∷ cs) q = (cs, ap (λ z. z ∷ cs) (eqb-true c 36 (both_true (c == 36) _ q).0))

-- a name is a token
pub name_token : (x : Name) → is_name x ≡ true → is_identifier_name x ≡ true
name_token [] q = absurd (cc)
name_token (c ∷ cs) q =
    let b = both_true (c == 36) _ q in
    subst (λ z. is_identifier_name (z ∷ cs) ≡ true) (sym (eqb-true c 36 b.0)) b.1

-- an expression was printed so before what follows
pub record Out (d k n at : ℕ) (text : List ℕ) (rest : List Placed) (e : Expr) : Type 0 where
  pub tokens : List Placed
  pub tree : Expr
  pub splits : (newlines : Bool) → Splits newlines at text tokens
  pub derives : Expression d k n tokens rest tree
  pub same : erase_expr tree ≡ erase_expr e

-- an expression is printed so before anything that stops it
pub record Shown (dot : Bool) (d k n at : ℕ) (text : List ℕ) (e : Expr) : Type 0 where
  pub last : ℕ
  pub before : (r : List ℕ) (rest : List Placed) → stops dot r ≡ true → Splits true last r rest → Out d k n at (text ++ r) rest e

-- the same of two parts is the same of what they make
pub two_same : {X : Type 0} (f : Expr → Expr → X) (a b u v : Expr) → erase_expr a ≡ erase_expr u → erase_expr b ≡ erase_expr v → f (erase_expr a) (erase_expr b) ≡ f (erase_expr u) (erase_expr v)
two_same f a b u v p q = ap₂ f p q
