-- What the tests of the first tokens say.
use Rattle.std.proofs.Common.{arith, ◌≡◌, ◌∙◌, sym, subst, ap, ℕ, ◌≤◌, ◌<◌, List, [], ◌∷◌, Option, Some, None, Result, Ok, Err, Bool, true, false, refl, eq-eqb}
use Rattle.std.specs.Prelude.{IsTrue, ◌&&◌, nat_le, codes, bytes_eq, if◌then◌else◌}
use Rattle.std.proofs.lemmas.Slice.Eq.{bytes_eq-Decides}
use Rattle.std.proofs.lemmas.Bool.{leb-true}
use Rattle.js_tree.specs.Lexical.{Token, identifier_name, punctuator, numeric_literal, string_literal, Placed}
use Rattle.js_tree.specs.Script.{Name}
use Rattle.js_tree.specs.Printable.{is_name, is_own_name, fits}
use Rattle.js_tree.specs.Scripts.{after, sign, sign_token, same_token}
use Rattle.js_tree.specs.declared.tree.UnaryOp.{UnaryOp}
use Rattle.js_tree.specs.declared.tree.UnaryOp.TheVariants as one
use Rattle.js_tree.specs.declared.tree.BinaryOp.{BinaryOp}
use Rattle.js_tree.specs.declared.tree.BinaryOp.TheVariants as two
use Rattle.js_grammar.specs.declared.refusal.ReadRefusal.{ReadRefusal}
use Rattle.js_grammar.specs.declared.token.Infix.{Infix}
use Rattle.js_grammar.specs.declared.token.Infix.TheVariants as join
use Rattle.js_grammar.specs.Tokens.{infix_at, infix_among, one_sign, comparisons, long_signs, first_of, between, sign_at, infix_level, infix_token, is_first}
use Rattle.js_grammar.specs.Steps.{skipped, taken, wrong, name_at, name_of, own_of, number_at, number_of, string_at, string_of}

-- past these tokens, each nested so deep
pub record After (d : ℕ) (xs : List Token) (ts us : List Placed) : Type 0 where
  pub is : after d xs ts ≡ Some us

abbrev pub okay : {X : Type 0} → X → Result X ReadRefusal
okay x = Ok x

pub ok_is : {X : Type 0} (a b : X) → okay a ≡ okay b → a ≡ b
ok_is a b q = cc

some_is : {X : Type 0} (a b : X) (o : Option X) → o ≡ Some a → o ≡ Some b → a ≡ b
some_is a b o p q = cc

both_true : (a b : Bool) → (a && b) ≡ true → (a ≡ true) × (b ≡ true)
both_true true b q = (refl, q)
both_true false b q = absurd (cc)

pub same_bytes : (xs : List ℕ) → bytes_eq xs xs ≡ true
same_bytes xs = (bytes_eq-Decides xs xs).1 refl

by_test : (t : Bool) (ts us vs : List Placed) (f : List Placed → Option (List Placed)) → (if t then Some ts else None) ≡ Some us → f us ≡ Some vs → (if t then f ts else None) ≡ Some vs
by_test true ts us vs f a b = ap f (some_is ts us (Some ts) refl a) ∙ b
by_test false ts us vs f a b = absurd (cc)

joined_after : (d : ℕ) (x : Token) (xs : List Token) (ts us vs : List Placed) → after d (x ∷ []) ts ≡ Some us → after d xs us ≡ Some vs → after d (x ∷ xs) ts ≡ Some vs
joined_after d x xs [] us vs a b = absurd (cc)
joined_after d x xs (p ∷ ts) us vs a b = by_test (same_token x p.token && fits d) ts us vs (after d xs) a b

-- one token and then others are all of them
pub and_then_after : {d : ℕ} {x : Token} {xs : List Token} {ts us vs : List Placed} → After d (x ∷ []) ts us → After d xs us vs → After d (x ∷ xs) ts vs
and_then_after {d = d} {x = x} {xs = xs} {ts = ts} {us = us} {vs = vs} a b = record { is = joined_after d x xs ts us vs a.is b.is }

token_after : (t b : Bool) (ts us : List Placed) → t ≡ true → (if b then Some ts else None) ≡ Some us → (if t && b then Some ts else None) ≡ Some us
token_after t b ts us q h = ap (λ z. if z && b then Some ts else None) q ∙ h

pub first_after : (d : ℕ) (x : Token) (ts us : List Placed) → is_first x ts ≡ true → skipped d ts ≡ Some us → after d (x ∷ []) ts ≡ Some us
first_after d x [] us q h = absurd (cc)
first_after d x (p ∷ ts) us q h = token_after (same_token x p.token) (fits d) ts us q h

first_of_list : (b : Bool) (j i : Infix) (o : Option Infix) (f : Infix → Bool) → f j ≡ b → (o ≡ Some i → f i ≡ true) → (if b then Some j else o) ≡ Some i → f i ≡ true
first_of_list true j i o f e h q = let p : j ≡ i = cc in ap f (sym p) ∙ e
first_of_list false j i o f e h q = h q

among_first : (is : List Infix) (ts : List Placed) (i : Infix) → infix_among is ts ≡ Some i → is_first (infix_token i) ts ≡ true
among_first [] ts i q = absurd (cc)
among_first (j ∷ is) ts i q = first_of_list (is_first (infix_token j) ts) j i (infix_among is ts) (λ k. is_first (infix_token k) ts) refl (among_first is ts i) q

pub record Found (least level : ℕ) (i : Infix) (ts : List Placed) : Type 0 where
  pub at_head : infix_at ts ≡ Some i
  pub above : least ≤ infix_level i
  pub below : infix_level i ≤ level

found_test : (a b : Bool) (j i : Infix) (least level : ℕ) → nat_le least (infix_level j) ≡ a → nat_le (infix_level j) level ≡ b → (if a && b then Some j else None) ≡ Some i → (Some j ≡ Some i) × (least ≤ infix_level i) × (infix_level i ≤ level)
found_test true true j i least level p q r =
    let e : j ≡ i = cc in
    (r, subst (λ k. least ≤ infix_level k) e (leb-true _ _ p), subst (λ k. infix_level k ≤ level) e (leb-true _ _ q))
found_test true false j i least level p q r = absurd (cc)
found_test false b j i least level p q r = absurd (cc)

found_if : (o : Option Infix) (least level : ℕ) (i : Infix) → between least level o ≡ Some i → (o ≡ Some i) × (least ≤ infix_level i) × (infix_level i ≤ level)
found_if None least level i q = absurd (cc)
found_if (Some j) least level i q = found_test (nat_le least (infix_level j)) (nat_le (infix_level j) level) j i least level refl refl q

pub infix_there : (least level : ℕ) (i : Infix) (ts : List Placed) → between least level (infix_at ts) ≡ Some i → Found least level i ts
infix_there least level i ts q = let f = found_if (infix_at ts) least level i q in record { at_head = f.0; above = f.1; below = f.2 }

head_is : (ts : List Placed) (i : Infix) (a b : Option Infix) → {c : Option Infix} → (a ≡ Some i → is_first (infix_token i) ts ≡ true) → (b ≡ Some i → is_first (infix_token i) ts ≡ true) → (c ≡ Some i → is_first (infix_token i) ts ≡ true) → first_of a (first_of b c) ≡ Some i → is_first (infix_token i) ts ≡ true
head_is ts i (Some j) b f g h q = f q
head_is ts i None (Some j) f g h q = g q
head_is ts i None None f g h q = h q

pub infix_after : (d : ℕ) (i : Infix) (ts us : List Placed) → infix_at ts ≡ Some i → skipped d ts ≡ Some us → After d (infix_token i ∷ []) ts us
infix_after d i ts us q h = record { is = first_after d (infix_token i) ts us (head_is ts i (infix_among one_sign ts) (infix_among comparisons ts) (among_first one_sign ts i) (among_first comparisons ts i) (among_first long_signs ts i) q) h }

bit : UnaryOp → Bool → Bool → Bool → Bool
bit one.Negate a b c = a
bit one.Complement a b c = b
bit one.Not a b c = c

signs : (op : UnaryOp) (a b c : Bool) → (if a then Some one.Negate else if b then Some one.Complement else if c then Some one.Not else None) ≡ Some op → bit op a b c ≡ true
unfolding bit
signs op true b c q = let e : one.Negate ≡ op = cc in subst (λ z. bit z true b c ≡ true) e refl
signs op false true c q = let e : one.Complement ≡ op = cc in subst (λ z. bit z false true c ≡ true) e refl
signs op false false true q = let e : one.Not ≡ op = cc in subst (λ z. bit z false false true ≡ true) e refl
signs op false false false q = absurd (cc)

bit_is : (op : UnaryOp) (ts : List Placed) → bit op (is_first (sign (codes "-")) ts) (is_first (sign (codes "~")) ts) (is_first (sign (codes "!")) ts) ≡ is_first (sign_token op) ts
unfolding bit
bit_is one.Negate ts = refl
bit_is one.Complement ts = refl
bit_is one.Not ts = refl

pub sign_there : (op : UnaryOp) (ts : List Placed) (d : ℕ) (us : List Placed) → sign_at ts ≡ Some op → skipped d ts ≡ Some us → After d (sign_token op ∷ []) ts us
sign_there op ts d us q h = record { is = first_after d (sign_token op) ts us (sym (bit_is op ts) ∙ signs op _ _ _ q) h }

op_bound : (op : BinaryOp) → (0 < infix_level (join.Op op)) × (infix_level (join.Op op) ≤ 10)
op_bound two.Add = (omega arith, omega arith)
op_bound two.Subtract = (omega arith, omega arith)
op_bound two.Multiply = (omega arith, omega arith)
op_bound two.Divide = (omega arith, omega arith)
op_bound two.Remainder = (omega arith, omega arith)
op_bound two.BitOr = (omega arith, omega arith)
op_bound two.BitAnd = (omega arith, omega arith)
op_bound two.BitXor = (omega arith, omega arith)
op_bound two.ShiftLeft = (omega arith, omega arith)
op_bound two.ShiftRight = (omega arith, omega arith)
op_bound two.ShiftRightUnsigned = (omega arith, omega arith)
op_bound two.Less = (omega arith, omega arith)
op_bound two.LessEqual = (omega arith, omega arith)
op_bound two.Greater = (omega arith, omega arith)
op_bound two.GreaterEqual = (omega arith, omega arith)
op_bound two.Same = (omega arith, omega arith)
op_bound two.Different = (omega arith, omega arith)
op_bound two.In = (omega arith, omega arith)

pub level_bound : (i : Infix) → (0 < infix_level i) × (infix_level i ≤ 10)
level_bound (join.Op op) = op_bound op
level_bound join.And = (omega arith, omega arith)
level_bound join.Or = (omega arith, omega arith)

pub taken_some : (o : Option (List Placed)) (v : Unit {0}) (us : List Placed) → taken o ≡ okay (v, us) → o ≡ Some us
taken_some None v us q = absurd (cc)
taken_some (Some ts) v us q = ap (λ z. Some z.1) (ok_is (tt, ts) (v, us) q)

abbrev Named : Name → Bool → Token → List Placed → List Placed → Type 0
Named x b t ts us = IsTrue (is_name x) × ((if same_token (identifier_name x) t && b then Some ts else None) ≡ Some us)

abbrev name_ok : Name → List Placed → Result (Name × List Placed) ReadRefusal
name_ok x us = Ok (x, us)

name_test : (a b : Bool) (y x : Name) (ts us : List Placed) → is_name y ≡ a → (if a && b then name_ok y ts else wrong) ≡ name_ok x us → Named x b (identifier_name y) ts us
name_test true true y x ts us p q =
    let e = ok_is (y, ts) (x, us) q in
    let f : y ≡ x = ap (λ z. z.0) e in
    (ap is_name (sym f) ∙ p, ap (λ z. if z && true then Some ts else None) (ap (λ z. bytes_eq x z) f ∙ same_bytes x) ∙ ap (λ z. Some z.1) e)
name_test true false y x ts us p q = absurd (cc)
name_test false b y x ts us p q = absurd (cc)

name_some : (t : Token) (b : Bool) (ts us : List Placed) (x : Name) → name_of b t ts ≡ okay (x, us) → Named x b t ts us
name_some (identifier_name y) b ts us x q = name_test (is_name y) b y x ts us refl q
name_some (punctuator y) b ts us x q = absurd (cc)
name_some (numeric_literal n) b ts us x q = absurd (cc)
name_some (string_literal y) b ts us x q = absurd (cc)

pub name_there : (d : ℕ) (ts us : List Placed) (x : Name) → name_at d ts ≡ okay (x, us) → IsTrue (is_name x) × After d (identifier_name x ∷ []) ts us
name_there d [] us x q = absurd (cc)
name_there d (p ∷ ts) us x q = let h = name_some p.token (fits d) ts us x q in (h.0, record { is = h.1 })

own_test : (b : Bool) (p : Name × List Placed) (x : Name) (us : List Placed) → is_own_name p.0 ≡ b → (if b then okay p else wrong) ≡ okay (x, us) → IsTrue (is_own_name x) × (okay p ≡ okay (x, us))
own_test true p x us h q = (ap (λ z. is_own_name z.0) (sym (ok_is p (x, us) q)) ∙ h, q)
own_test false p x us h q = absurd (cc)

own_some : (r : Result (Name × List Placed) ReadRefusal) (x : Name) (us : List Placed) → own_of r ≡ okay (x, us) → IsTrue (is_own_name x) × (r ≡ okay (x, us))
own_some (Ok p) x us q = own_test (is_own_name p.0) p x us refl q
own_some (Err e) x us q = absurd (cc)

pub own_there : (d : ℕ) (ts us : List Placed) (x : Name) → own_of (name_at d ts) ≡ okay (x, us) → IsTrue (is_own_name x) × After d (identifier_name x ∷ []) ts us
own_there d ts us x q = let h = own_some (name_at d ts) x us q in (h.0, (name_there d ts us x h.1).1)

number_some : (t : Token) (b : Bool) (ts us : List Placed) (n : ℕ) → number_of b t ts ≡ okay (n, us) → (if same_token (numeric_literal n) t && b then Some ts else None) ≡ Some us
number_some (numeric_literal m) true ts us n q =
    let e = ok_is (m, ts) (n, us) q in
    let f : m ≡ n = ap (λ z. z.0) e in
    ap (λ z. if z && true then Some ts else None) (eq-eqb n m (sym f)) ∙ ap (λ z. Some z.1) e
number_some (numeric_literal m) false ts us n q = absurd (cc)
number_some (identifier_name y) b ts us x q = absurd (cc)
number_some (punctuator y) b ts us x q = absurd (cc)
number_some (string_literal y) b ts us x q = absurd (cc)

pub number_there : (d : ℕ) (ts us : List Placed) (n : ℕ) → number_at d ts ≡ okay (n, us) → After d (numeric_literal n ∷ []) ts us
number_there d [] us x q = absurd (cc)
number_there d (p ∷ ts) us x q = record { is = number_some p.token (fits d) ts us x q }

string_some : (t : Token) (b : Bool) (ts us : List Placed) (s : List ℕ) → string_of b t ts ≡ okay (s, us) → (if same_token (string_literal s) t && b then Some ts else None) ≡ Some us
string_some (string_literal m) true ts us s q =
    let e = ok_is (m, ts) (s, us) q in
    let f : m ≡ s = ap (λ z. z.0) e in
    ap (λ z. if z && true then Some ts else None) (ap (λ z. bytes_eq s z) f ∙ same_bytes s) ∙ ap (λ z. Some z.1) e
string_some (string_literal m) false ts us s q = absurd (cc)
string_some (identifier_name y) b ts us x q = absurd (cc)
string_some (punctuator y) b ts us x q = absurd (cc)
string_some (numeric_literal y) b ts us x q = absurd (cc)

pub string_there : (d : ℕ) (ts us : List Placed) (s : List ℕ) → string_at d ts ≡ okay (s, us) → After d (string_literal s ∷ []) ts us
string_there d [] us x q = absurd (cc)
string_there d (p ∷ ts) us x q = record { is = string_some p.token (fits d) ts us x q }
