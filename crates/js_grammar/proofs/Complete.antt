-- What is an expression is read as it: the steps of each goal come to each derivation.
use Rattle.std.proofs.Common.{arith, ◌≡◌, ◌∙◌, sym, subst, ap, inl, inr, ℕ, suc, ◌+◌, ◌≤◌, ◌<◌, List, [], ◌∷◌, ◌++◌, Option, Some, None, Result, Ok, Err, Bool, true, false, refl, append_assoc, append-nil, ⊎_elim}
use Rattle.std.specs.Prelude.{not, ◌⊎◌, ◌==◌, ◌&&◌, ◌||◌, nat_le, codes, bytes_eq, if◌then◌else◌}
use Rattle.std.proofs.lemmas.Slice.Eq.{bytes_eq-Decides}
use Rattle.std.proofs.lemmas.Bool.{eqb-true, le-leb, lt-leb, ne_eqb, cases_lt}
use Rattle.std.proofs.Common.{eq-eqb}
use Rattle.js_tree.specs.Lexical.{Token, identifier_name, punctuator, numeric_literal, string_literal, Placed}
use Rattle.js_tree.specs.Script as tree
use Rattle.js_tree.specs.Script.{Name, Expr, Exprs, no_exprs, expr}
use Rattle.js_tree.specs.View.{exprs_of}
use Rattle.js_tree.specs.Printable.{is_name, fits}
use Rattle.js_tree.specs.Scripts as rule
use Rattle.js_tree.specs.Scripts.{after, at_of, word, sign, op_token, sign_token, same_token, Expression, Expressions, MoreExpressions}
use Rattle.js_tree.specs.declared.tree.UnaryOp.{UnaryOp}
use Rattle.js_tree.specs.declared.tree.UnaryOp.TheVariants as one
use Rattle.js_tree.specs.declared.tree.BinaryOp.TheVariants as two
use Rattle.js_grammar.specs.declared.refusal.ReadRefusal.{ReadRefusal}
use Rattle.js_grammar.specs.declared.refusal.ReadRefusal.TheVariants as refusal
use Rattle.js_grammar.specs.declared.token.Infix.{Infix}
use Rattle.js_grammar.specs.declared.token.Infix.TheVariants as join
use Rattle.js_grammar.specs.Tokens.{infix_at, between, sign_at, infix_level, infix_token, joined, is_first, is_second}
use Rattle.js_grammar.specs.Goals as goal
use Rattle.js_grammar.specs.Goals.{Goal, Gives}
use Rattle.js_grammar.specs.Steps.{before, skipped, taken, left, right, open_bracket, close_bracket, dot, comma, colon, begins_part, begins_atom, begins, is_name_token, is_number_token, is_string_token, rest_of}
use Rattle.js_grammar.specs.Reads.{Reads, reads, answered, called, held, failed, no_infix, an_infix, no_sign, a_sign}
use Rattle.js_grammar.proofs.Heads.{okay, level_bound}

abbrev pub put : Token → ℕ → Placed
put x at = record { token = x; at = at }

pub both_true : (a b : Bool) → (a && b) ≡ true → (a ≡ true) × (b ≡ true)
both_true true b q = (refl, q)
both_true false b q = absurd (cc)

some_is : {X : Type 0} (a b : X) (o : Option X) → o ≡ Some a → o ≡ Some b → a ≡ b
some_is a b o p q = cc

cond_some : (b : Bool) (ts us : List Placed) → (if b then Some ts else None) ≡ Some us → (b ≡ true) × (ts ≡ us)
cond_some true ts us q = (refl, some_is ts us (Some ts) refl q)
cond_some false ts us q = absurd (cc)

pub same_is : (x y : Token) → same_token x y ≡ true → x ≡ y
same_is (identifier_name x) (identifier_name y) q = ap (λ z. identifier_name z) ((bytes_eq-Decides x y).0 q)
same_is (punctuator x) (punctuator y) q = ap (λ z. punctuator z) ((bytes_eq-Decides x y).0 q)
same_is (numeric_literal x) (numeric_literal y) q = ap (λ z. numeric_literal z) (eqb-true x y q)
same_is (string_literal x) (string_literal y) q = ap (λ z. string_literal z) ((bytes_eq-Decides x y).0 q)
same_is (identifier_name x) (punctuator y) q = absurd (cc)
same_is (identifier_name x) (numeric_literal y) q = absurd (cc)
same_is (identifier_name x) (string_literal y) q = absurd (cc)
same_is (punctuator x) (identifier_name y) q = absurd (cc)
same_is (punctuator x) (numeric_literal y) q = absurd (cc)
same_is (punctuator x) (string_literal y) q = absurd (cc)
same_is (numeric_literal x) (identifier_name y) q = absurd (cc)
same_is (numeric_literal x) (punctuator y) q = absurd (cc)
same_is (numeric_literal x) (string_literal y) q = absurd (cc)
same_is (string_literal x) (identifier_name y) q = absurd (cc)
same_is (string_literal x) (punctuator y) q = absurd (cc)
same_is (string_literal x) (numeric_literal y) q = absurd (cc)

-- this token comes first, and these after it
pub record Head (d : ℕ) (x : Token) (ts us : List Placed) : Type 0 where
  pub at : ℕ
  pub is : ts ≡ put x at ∷ us
  pub deep : fits d ≡ true

pub head_of : (d : ℕ) (x : Token) (ts us : List Placed) → after d (x ∷ []) ts ≡ Some us → Head d x ts us
head_of d x [] us q = absurd (cc)
head_of d x (p ∷ ts) us q =
    let h = cond_some (same_token x p.token && fits d) ts us q in
    let b = both_true (same_token x p.token) (fits d) h.0 in
    let t : x ≡ p.token = same_is x p.token b.0 in
    record { at = p.at; is = ap (λ z. put z p.at ∷ ts) (sym t) ∙ ap (λ z. put x p.at ∷ z) h.1; deep = b.1 }

-- what holds of lists that begin so holds here
pub from_head : {d : ℕ} {x : Token} {ts us : List Placed} (P : List Placed → Type 0) → (h : Head d x ts us) → P (put x h.at ∷ us) → P ts
from_head P h p = subst P (sym h.is) p

pub record Parted (d : ℕ) (x : Token) (xs : List Token) (ts us : List Placed) : Type 0 where
  pub middle : List Placed
  pub head : after d (x ∷ []) ts ≡ Some middle
  pub rest : after d xs middle ≡ Some us

parted_by : (d : ℕ) (x : Token) (xs : List Token) (b : Bool) (ts us : List Placed) (p : Placed) → (same_token x p.token && fits d) ≡ b → (if b then after d xs ts else None) ≡ Some us → Parted d x xs (p ∷ ts) us
parted_by d x xs true ts us p e q = record { middle = ts; head = ap (λ z. if z then Some ts else None) e; rest = q }
parted_by d x xs false ts us p e q = absurd (cc)

pub parted : (d : ℕ) (x : Token) (xs : List Token) (ts us : List Placed) → after d (x ∷ xs) ts ≡ Some us → Parted d x xs ts us
parted d x xs [] us q = absurd (cc)
parted d x xs (p ∷ ts) us q = parted_by d x xs (same_token x p.token && fits d) ts us p refl q

pub tok : {d : ℕ} {x : Token} {ts us : List Placed} → after d (x ∷ []) ts ≡ Some us → Reads (goal.token d x) ts (Ok (tt, us))
tok q = reads (answered (ap taken q))

skips : (d : ℕ) (x : Token) (ts us : List Placed) → after d (x ∷ []) ts ≡ Some us → skipped d ts ≡ Some us
skips d x ts us q = let h = head_of d x ts us q in from_head (λ z. skipped d z ≡ Some us) h (ap (λ b. if b then Some us else None) h.deep)

pub down : (d : ℕ) (xs : List Token) (ts us : List Placed) → after (suc d) xs ts ≡ Some us → after (d + 1) xs ts ≡ Some us
down d xs ts us h = let q : suc d ≡ d + 1 = omega arith in subst (λ z. after z xs ts ≡ Some us) q h

pub deep : (d : ℕ) (ts : List Placed) (e : Expr) (us : List Placed) → Reads (goal.expression (suc d)) ts (Ok (e, us)) → Reads (goal.expression (d + 1)) ts (Ok (e, us))
deep d ts e us h = let q : suc d ≡ d + 1 = omega arith in subst (λ z. Reads (goal.expression z) ts (Ok (e, us))) q h

-- nothing that follows goes on with an expression of a tighter level
pub record Stops (k : ℕ) (rest : List Placed) : Type 0 where
  pub parts : begins_part rest ≡ false
  pub signs : (i : Infix) → infix_at rest ≡ Some i → infix_level i ≤ k

-- nothing that follows goes on with an expression
pub record Follows (rest : List Placed) : Type 0 where
  pub parts : begins_part rest ≡ false
  pub signs : infix_at rest ≡ None
  pub choice : is_first (sign (codes "?")) rest ≡ false

none_some : (o : Option Infix) (i : Infix) → o ≡ None → o ≡ Some i → ⊥
none_some o i p q = cc

follows_stops : (k : ℕ) (rest : List Placed) → Follows rest → Stops k rest
follows_stops k rest f = record { parts = f.parts; signs = λ i q. absurd (none_some (infix_at rest) i f.signs q) }

between_none : (o : Option Infix) (least level : ℕ) → ((i : Infix) → o ≡ Some i → infix_level i < least) → between least level o ≡ None
between_none None least level h = refl
between_none (Some i) least level h = ap (λ b. if b && nat_le (infix_level i) level then Some i else None) (lt-leb least (infix_level i) (h i refl))

chain_stops : (d least at level n : ℕ) (e : Expr) (rest : List Placed) → ((i : Infix) → infix_at rest ≡ Some i → infix_level i < least) → Reads (goal.chain d least at level n e) rest (Ok (e, rest))
chain_stops d least at level n e rest h = reads (no_infix (between_none (infix_at rest) least level h) (answered refl))

pub parts_stop : (d at n : ℕ) (e : Expr) (rest : List Placed) → begins_part rest ≡ false → Reads (goal.parts d at n e) rest (Ok ((e, n), rest))
parts_stop d at n e rest q = reads (failed q (answered refl))

-- whether what comes first begins an expression
abbrev pub opens : List Placed → Bool
opens ts = begins_atom ts || (is_first (sign (codes "-")) ts || is_first (sign (codes "~")) ts || is_first (sign (codes "!")) ts)

pub or_left : (a b : Bool) → a ≡ true → (a || b) ≡ true
or_left a b q = ap (λ z. z || b) q

clash : (b : Bool) → b ≡ true → b ≡ false → ⊥
clash b p q = cc

not_same : (x : Token) (p : Placed) (b : Bool) (ts : List Placed) → ((at : ℕ) (us : List Placed) → opens (put x at ∷ us) ≡ false) → opens (p ∷ ts) ≡ true → same_token x p.token ≡ b → b ≡ false
not_same x p false ts f q e = refl
not_same x p true ts f q e =
    let t : x ≡ p.token = same_is x p.token e in
    absurd (clash (opens (p ∷ ts)) q (subst (λ z. opens (put z p.at ∷ ts) ≡ false) t (f p.at ts)))

pub not_opening : (x : Token) (ts : List Placed) → ((at : ℕ) (us : List Placed) → opens (put x at ∷ us) ≡ false) → opens ts ≡ true → is_first x ts ≡ false
not_opening x [] f q = refl
not_opening x (p ∷ ts) f q = not_same x p (same_token x p.token) ts f q refl

-- what a derivation comes to, by its level
pub record Complete (d k n : ℕ) (ts rest : List Placed) (e : Expr) : Type 0 where
  pub opens : opens ts ≡ true
  pub starts : k ≡ 12 → begins_atom ts ≡ true
  pub parts : k ≡ 12 → (v : Expr × ℕ) (end : List Placed) → Reads (goal.parts d (at_of ts) n e) rest (Ok (v, end)) → Reads (goal.post d) ts (Ok (v, end))
  pub operand : k ≡ 11 → begins_part rest ≡ false → Reads (goal.unary d) ts (Ok (e, rest))
  pub chain : k ≤ 11 → Stops k rest → (least : ℕ) → 0 < least → least ≤ k → (v : Expr) (end : List Placed) → Reads (goal.chain d least (at_of ts) k n e) rest (Ok (v, end)) → Reads (goal.operation d least) ts (Ok (v, end))
  pub whole : k ≡ 0 → Follows rest → Reads (goal.expression d) ts (Ok (e, rest))

twelve : (d n : ℕ) (ts rest : List Placed) (e : Expr) → begins_atom ts ≡ true → ((v : Expr × ℕ) (end : List Placed) → Reads (goal.parts d (at_of ts) n e) rest (Ok (v, end)) → Reads (goal.post d) ts (Ok (v, end))) → Complete d 12 n ts rest e
twelve d n ts rest e s f = record {
  opens = or_left (begins_atom ts) _ s;
  starts = λ q. s;
  parts = λ q. f;
  operand = λ q. absurd (omega (arith, q));
  chain = λ le. absurd (omega (arith, le));
  whole = λ q. absurd (omega (arith, q));
}

-- an atom is read, and then its parts
atomic : (d : ℕ) (ts rest : List Placed) (e : Expr) → begins_atom ts ≡ true → Reads (goal.atom d) ts (Ok (e, rest)) → Complete d 12 0 ts rest e
atomic d ts rest e s a = twelve d 0 ts rest e s (λ v end m. reads (called a (called m (answered refl))))

-- one more part is read, and then those after it
part_then : (d n : ℕ) (ts us rest : List Placed) (e f : Expr) → Complete d 12 n ts us e → begins_part us ≡ true → Reads (goal.part (d + n) (at_of ts) e) us (Ok (f, rest)) → Complete d 12 (suc n) ts rest f
part_then d n ts us rest e f c b p =
    twelve d (suc n) ts rest f (c.starts refl) (λ v end m.
    let q : suc n ≡ n + 1 = omega arith in
    let again : Reads (goal.parts d (at_of ts) (n + 1) f) rest (Ok (v, end)) = subst (λ z. Reads (goal.parts d (at_of ts) z f) rest (Ok (v, end))) q m in
    c.parts refl v end (reads (held b (called p (called again (answered refl))))))

number_atom : (d at m : ℕ) (us : List Placed) → fits d ≡ true → Reads (goal.atom d) (put (numeric_literal m) at ∷ us) (Ok (tree.number at m, us))
number_atom d at m us q =
    let n : Reads (goal.number d) (put (numeric_literal m) at ∷ us) (Ok (m, us)) = reads (answered (ap (λ b. if b then okay (m, us) else Err (refusal.Syntax 0)) q)) in
    let l : Reads (goal.literal d) (put (numeric_literal m) at ∷ us) (Ok (tree.number at m, us)) = reads (failed refl (held refl (called n (answered refl)))) in
    reads (failed refl (failed refl (failed refl (called l (answered refl)))))

string_atom : (d at : ℕ) (s : List ℕ) (us : List Placed) → fits d ≡ true → Reads (goal.atom d) (put (string_literal s) at ∷ us) (Ok (tree.string at s, us))
string_atom d at s us q =
    let n : Reads (goal.string d) (put (string_literal s) at ∷ us) (Ok (s, us)) = reads (answered (ap (λ b. if b then okay (s, us) else Err (refusal.Syntax 0)) q)) in
    let l : Reads (goal.literal d) (put (string_literal s) at ∷ us) (Ok (tree.string at s, us)) = reads (failed refl (failed refl (held refl (called n (answered refl))))) in
    reads (failed refl (failed refl (failed refl (called l (answered refl)))))

worded : (d : ℕ) (w : List ℕ) (ts us : List Placed) (e : Expr) (rest : List Placed) → Head d (word w) ts us → is_name w ≡ false → bytes_eq (codes "String") w ≡ false → Reads (goal.word_literal d) ts (Ok (e, rest)) → Reads (goal.atom d) ts (Ok (e, rest))
worded d w ts us e rest h n s q =
    reads (failed (from_head (λ z. is_first left z ≡ false) h refl) (failed (from_head (λ z. is_first open_bracket z ≡ false) h refl)
    (failed (from_head (λ z. is_first (word (codes "String")) z ≡ false) h s) (called (reads
    (failed (from_head (λ z. begins is_name_token z ≡ false) h n) (failed (from_head (λ z. begins is_number_token z ≡ false) h refl)
    (failed (from_head (λ z. begins is_string_token z ≡ false) h refl) (called q (answered refl)))))) (answered refl)))))

dollar_first : (x : Name) → is_name x ≡ true → (cs : List ℕ) × (x ≡ 36 ∷ cs)
dollar_first [] q = absurd (cc)
dollar_first (c ∷ cs) q = (cs, ap (λ z. z ∷ cs) (eqb-true c 36 (both_true (c == 36) _ q).0))

not_string : (x : Name) → is_name x ≡ true → bytes_eq (codes "String") x ≡ false
not_string x q = let h = dollar_first x q in subst (λ z. bytes_eq (codes "String") z ≡ false) (sym h.1) refl

name_atom : (d at : ℕ) (x : Name) (us : List Placed) → is_name x ≡ true → fits d ≡ true → Reads (goal.atom d) (put (identifier_name x) at ∷ us) (Ok (tree.name at x, us))
name_atom d at x us p q =
    let both : (is_name x && fits d) ≡ true = ap (λ b. b && fits d) p ∙ q in
    let n : Reads (goal.name d) (put (identifier_name x) at ∷ us) (Ok (x, us)) = reads (answered (ap (λ b. if b then okay (x, us) else Err (refusal.Syntax 0)) both)) in
    reads (failed refl (failed refl (failed (not_string x p) (called (reads (held p (called n (answered refl)))) (answered refl)))))

pub name_begins : (x : Name) (at : ℕ) (us : List Placed) → is_name x ≡ true → begins_atom (put (identifier_name x) at ∷ us) ≡ true
name_begins x at us p = ap (λ b. b || false || false || false || false || bytes_eq (codes "true") x || bytes_eq (codes "false") x || bytes_eq (codes "null") x || bytes_eq (codes "Object") x || bytes_eq (codes "String") x) p

-- levels from looser to tighter
between_tighter : (o : Option Infix) (least k : ℕ) → ((i : Infix) → o ≡ Some i → infix_level i ≤ k) → between least (suc k) o ≡ between least k o
between_tighter None least k s = refl
between_tighter (Some i) least k s =
    let le = s i refl in
    ap (λ b. if nat_le least (infix_level i) && b then Some i else None) (le-leb (infix_level i) (suc k) (omega (arith, le)) ∙ sym (le-leb (infix_level i) k le))

some_if : (b : Bool) (j i : Infix) → (if b then Some j else None) ≡ Some i → Some j ≡ Some i
some_if true j i q = q
some_if false j i q = absurd (cc)

between_is : (o : Option Infix) (least k : ℕ) (i : Infix) → between least k o ≡ Some i → o ≡ Some i
between_is None least k i q = absurd (cc)
between_is (Some j) least k i q = some_if (nat_le least (infix_level j) && nat_le (infix_level j) k) j i q

same_if : (b : Bool) (x : ℕ) → (if b then x else x) ≡ x
same_if true x = refl
same_if false x = refl

-- a chain at one level, none of whose operators stand before, goes on as one at the next tighter level
level_step : (d least at k n : ℕ) (e : Expr) (rest : List Placed) (v : Expr) (end : List Placed) → Stops k rest → Reads (goal.chain d least at k 0 e) rest (Ok (v, end)) → Reads (goal.chain d least at (suc k) n e) rest (Ok (v, end))
level_step d least at k n e rest v end s (reads (no_infix q (answered f))) =
    reads (no_infix (between_tighter (infix_at rest) least k s.signs ∙ q) (answered f))
level_step d least at k n e rest v end s (reads (an_infix {i = i} q (called {vs = us} {v = t} a (called {vs = vs} {v = b} h (called {vs = ws} {v = w} m (answered f)))))) =
    let le = s.signs i (between_is (infix_at rest) least k i q) in
    let other : (infix_level i == suc k) ≡ false = ne_eqb (infix_level i) (suc k) (λ z. omega (arith, z, le)) in
    let same : before k 0 i ≡ before (suc k) n i = same_if (infix_level i == k) 0 ∙ sym (ap (λ c. if c then n else 0) other) in
    reads (an_infix (between_tighter (infix_at rest) least k s.signs ∙ q)
    (called (subst (λ z. Reads (goal.operator (d + z)) rest (Ok (t, us))) same a)
    (called (subst (λ z. Reads (goal.operation (d + z + 1) (infix_level i + 1)) us (Ok (b, vs))) same h)
    (called (subst (λ z. Reads (goal.chain d least at (infix_level i) (z + 1) (joined i at e b)) vs (Ok (w, ws))) same m) (answered f)))))

some_infix : (o : Option Infix) (j i : Infix) → o ≡ Some j → o ≡ Some i → j ≡ i
some_infix o j i p q = cc

between_own : (least l : ℕ) (i : Infix) → least ≤ infix_level i → between least (infix_level i) (Some i) ≡ Some i
between_own least l i le = ap (λ c. if c && nat_le (infix_level i) (infix_level i) then Some i else None) (le-leb least (infix_level i) le) ∙ ap (λ c. if c then Some i else None) (le-leb (infix_level i) (infix_level i) (omega arith))

-- an operator between two operands is read, and then the rest of the chain
join_then : (i : Infix) (d n m : ℕ) (ts us vs rest : List Placed) (a b : Expr) → Complete d (infix_level i) n ts us a → after (d + n) (infix_token i ∷ []) us ≡ Some vs
    → Complete (suc (d + n)) (suc (infix_level i)) m vs rest b → infix_at us ≡ Some i → begins_part us ≡ false → 0 < infix_level i → infix_level i ≤ 10
    → Complete d (infix_level i) (suc n) ts rest (joined i (at_of ts) a b)
join_then i d n m ts us vs rest a b x q y there no_part some ten = record {
  opens = x.opens;
  starts = λ z. absurd (omega (arith, z, ten));
  parts = λ z. absurd (omega (arith, z, ten));
  operand = λ z. absurd (omega (arith, z, ten));
  whole = λ z. absurd (omega (arith, z, some));
  chain = λ le s least some_least below v end h.
      let l = infix_level i in
      let own : Stops l us = record { parts = no_part; signs = λ j z. let e : j ≡ i = some_infix (infix_at us) j i z there in subst (λ w. infix_level w ≤ l) (sym e) (omega arith) } in
      let tight : Stops (suc l) rest = record { parts = s.parts; signs = λ j z. let w = s.signs j z in omega (arith, w) } in
      let in_chain : (l == l) ≡ true = eq-eqb l l refl in
      let count : before l n i ≡ n = ap (λ c. if c then n else 0) in_chain in
      let tail : Reads (goal.chain (suc (d + n)) (suc l) (at_of vs) (suc l) m b) rest (Ok (b, rest)) = chain_stops (suc (d + n)) (suc l) (at_of vs) (suc l) m b rest (λ j z. let w = s.signs j z in omega (arith, w)) in
      let right : Reads (goal.operation (suc (d + n)) (suc l)) vs (Ok (b, rest)) = y.chain (omega (arith, ten)) tight (suc l) (omega arith) (omega arith) b rest tail in
      let up : suc (d + n) ≡ d + n + 1 = omega arith in
      let up_level : suc l ≡ l + 1 = omega arith in
      let up_count : suc n ≡ n + 1 = omega arith in
      let right2 : Reads (goal.operation (d + n + 1) (l + 1)) vs (Ok (b, rest)) = subst (λ z. Reads (goal.operation z (l + 1)) vs (Ok (b, rest))) up (subst (λ z. Reads (goal.operation (suc (d + n)) z) vs (Ok (b, rest))) up_level right) in
      let more : Reads (goal.chain d least (at_of ts) l (n + 1) (joined i (at_of ts) a b)) rest (Ok (v, end)) = subst (λ z. Reads (goal.chain d least (at_of ts) l z (joined i (at_of ts) a b)) rest (Ok (v, end))) up_count h in
      let sign : Reads (goal.operator (d + n)) us (Ok (tt, vs)) = reads (answered (ap taken (skips (d + n) (infix_token i) us vs q))) in
      x.chain (omega (arith, ten)) own least some_least below v end
      (reads (an_infix (ap (between least l) there ∙ between_own least l i below)
      (called (subst (λ z. Reads (goal.operator (d + z)) us (Ok (tt, vs))) (sym count) sign)
      (called (subst (λ z. Reads (goal.operation (d + z + 1) (l + 1)) vs (Ok (b, rest))) (sym count) right2)
      (called (subst (λ z. Reads (goal.chain d least (at_of ts) l (z + 1) (joined i (at_of ts) a b)) rest (Ok (v, end))) (sym count) more) (answered refl))))));
}

own_head : (i : Infix) (at : ℕ) (us : List Placed) → (infix_at (put (infix_token i) at ∷ us) ≡ Some i) × (begins_part (put (infix_token i) at ∷ us) ≡ false)
own_head (join.Op two.Add) at us = (refl, refl)
own_head (join.Op two.Subtract) at us = (refl, refl)
own_head (join.Op two.Multiply) at us = (refl, refl)
own_head (join.Op two.Divide) at us = (refl, refl)
own_head (join.Op two.Remainder) at us = (refl, refl)
own_head (join.Op two.BitOr) at us = (refl, refl)
own_head (join.Op two.BitAnd) at us = (refl, refl)
own_head (join.Op two.BitXor) at us = (refl, refl)
own_head (join.Op two.ShiftLeft) at us = (refl, refl)
own_head (join.Op two.ShiftRight) at us = (refl, refl)
own_head (join.Op two.ShiftRightUnsigned) at us = (refl, refl)
own_head (join.Op two.Less) at us = (refl, refl)
own_head (join.Op two.LessEqual) at us = (refl, refl)
own_head (join.Op two.Greater) at us = (refl, refl)
own_head (join.Op two.GreaterEqual) at us = (refl, refl)
own_head (join.Op two.Same) at us = (refl, refl)
own_head (join.Op two.Different) at us = (refl, refl)
own_head (join.Op two.In) at us = (refl, refl)
own_head join.And at us = (refl, refl)
own_head join.Or at us = (refl, refl)

sign_heads : (i : Infix) (d : ℕ) (us vs : List Placed) → after d (infix_token i ∷ []) us ≡ Some vs → (infix_at us ≡ Some i) × (begins_part us ≡ false)
sign_heads i d us vs q =
    let h = head_of d (infix_token i) us vs q in
    from_head (λ z. (infix_at z ≡ Some i) × (begins_part z ≡ false)) h (own_head i h.at vs)

bracket_of : (a b : Bool) → (false || false || false || a || b || false || false || false || false || false) ≡ true → (a ≡ true) ⊎ (b ≡ true)
bracket_of true b q = inl refl
bracket_of false true q = inr refl
bracket_of false false q = absurd (cc)

unsigned_head : (t : Token) (at : ℕ) (us : List Placed) → begins_atom (put t at ∷ us) ≡ true → sign_at (put t at ∷ us) ≡ None
unsigned_head (identifier_name x) at us q = refl
unsigned_head (numeric_literal n) at us q = refl
unsigned_head (string_literal s) at us q = refl
unsigned_head (punctuator s) at us q =
    elim (bracket_of (bytes_eq (codes "(") s) (bytes_eq (codes "[") s) q) [
      | inl a ↦ subst (λ z. sign_at (put (punctuator z) at ∷ us) ≡ None) ((bytes_eq-Decides (codes "(") s).0 a) refl
      | inr b ↦ subst (λ z. sign_at (put (punctuator z) at ∷ us) ≡ None) ((bytes_eq-Decides (codes "[") s).0 b) refl
    ]

unsigned : (ts : List Placed) → begins_atom ts ≡ true → sign_at ts ≡ None
unsigned [] q = absurd (cc)
unsigned (p ∷ ts) q = unsigned_head p.token p.at ts q

loose_operand : (d k n : ℕ) (ts rest : List Placed) (e : Expr) → Complete d (suc k) n ts rest e → k ≡ 11 → begins_part rest ≡ false → Reads (goal.unary d) ts (Ok (e, rest))
loose_operand d k n ts rest e c q stop =
    let p = c.parts (ap suc q) (e, n) rest (parts_stop d (at_of ts) n e rest stop) in
    reads (no_sign (unsigned ts (c.starts (ap suc q))) (called p (answered refl)))

loosened : (d k n : ℕ) (ts rest : List Placed) (e : Expr) → k < 12 → Complete d (suc k) n ts rest e → Complete d k 0 ts rest e
loosened d k n ts rest e lt c = record {
  opens = c.opens;
  starts = λ q. absurd (omega (arith, q, lt));
  parts = λ q. absurd (omega (arith, q, lt));
  operand = loose_operand d k n ts rest e c;
  chain = λ le s least some below v end h.
      ⊎_elim
      (λ under. c.chain (omega (arith, under)) (record { parts = s.parts; signs = λ i z. let w = s.signs i z in omega (arith, w) }) least some (omega (arith, below)) v end (level_step d least (at_of ts) k n e rest v end s h))
      (λ over.
      let q : k ≡ 11 = omega (arith, over, le) in
      let here : Reads (goal.chain d least (at_of ts) 11 0 e) rest (Ok (v, end)) = subst (λ z. Reads (goal.chain d least (at_of ts) z 0 e) rest (Ok (v, end))) q h in
      reads (called (loose_operand d k n ts rest e c q s.parts) (called here (answered refl))))
      (cases_lt k 11);
  whole = λ q f.
      let op = c.chain (omega (arith, q)) (follows_stops (suc k) rest f) 1 (omega arith) (omega (arith, q)) e rest (chain_stops d 1 (at_of ts) (suc k) n e rest (λ i z. absurd (none_some (infix_at rest) i f.signs z))) in
      reads (called op (failed f.choice (answered refl)));
}

-- these signs end what stands before them
pub closes : (x : Token) → ((at : ℕ) (us : List Placed) → (begins_part (put x at ∷ us) ≡ false) × (infix_at (put x at ∷ us) ≡ None) × (is_first (sign (codes "?")) (put x at ∷ us) ≡ false)) → (d : ℕ) (ts us : List Placed) → after d (x ∷ []) ts ≡ Some us → Follows ts
closes x f d ts us q =
    let h = head_of d x ts us q in
    let g = f h.at us in
    from_head Follows h (record { parts = g.0; signs = g.1; choice = g.2 })

pub follows_right : (d : ℕ) (ts us : List Placed) → after d (right ∷ []) ts ≡ Some us → Follows ts
follows_right = closes right (λ at us. (refl, refl, refl))

follows_bracket : (d : ℕ) (ts us : List Placed) → after d (close_bracket ∷ []) ts ≡ Some us → Follows ts
follows_bracket = closes close_bracket (λ at us. (refl, refl, refl))

follows_comma : (d : ℕ) (ts us : List Placed) → after d (comma ∷ []) ts ≡ Some us → Follows ts
follows_comma = closes comma (λ at us. (refl, refl, refl))

follows_colon : (d : ℕ) (ts us : List Placed) → after d (colon ∷ []) ts ≡ Some us → Follows ts
follows_colon = closes colon (λ at us. (refl, refl, refl))

-- an expression and the bracket after it
pub enclosing : (d n : ℕ) (x : Token) (ts us rest : List Placed) (e : Expr) → Complete (suc d) 0 n ts us e → Follows us → after d (x ∷ []) us ≡ Some rest → Reads (goal.enclosed d x) ts (Ok (e, rest))
enclosing d n x ts us rest e c f q = reads (called (deep d ts e us (c.whole refl f)) (called (tok q) (answered refl)))

sign_head : (op : UnaryOp) (at : ℕ) (us : List Placed) → (sign_at (put (sign_token op) at ∷ us) ≡ Some op) × (opens (put (sign_token op) at ∷ us) ≡ true)
sign_head one.Negate at us = (refl, refl)
sign_head one.Complement at us = (refl, refl)
sign_head one.Not at us = (refl, refl)

abbrev list_of : Exprs → List Expr
list_of no_exprs = []
list_of (expr e es) = e ∷ list_of es

exprs_list : (es : Exprs) → exprs_of (list_of es) ≡ es
exprs_list no_exprs = refl
exprs_list (expr e es) = ap (λ z. expr e z) (exprs_list es)

abbrev expr_ok : Expr → List Placed → Result (Expr × List Placed) ReadRefusal
expr_ok e us = Ok (e, us)

-- a word after a dot begins a part, unless it is `push`
dotted : (d : ℕ) (w : List ℕ) (xs : List Token) (us vs : List Placed) → bytes_eq (codes "push") w ≡ false → after d (dot ∷ word w ∷ xs) us ≡ Some vs → begins_part us ≡ true
dotted d w xs us vs n q =
    let p = parted d dot (word w ∷ xs) us vs q in
    let r = parted d (word w) xs p.middle vs p.rest in
    let h = head_of d dot us p.middle p.head in
    let k = head_of d (word w) p.middle r.middle r.head in
    from_head (λ z. begins_part z ≡ true) h (from_head (λ z. not (is_first (word (codes "push")) z) ≡ true) k (ap not n))

-- what the second of these tokens is
second : (d : ℕ) (x y : Token) (xs : List Token) (us vs : List Placed) (P : List Placed → Type 0) → after d (x ∷ y ∷ xs) us ≡ Some vs → ((at : ℕ) (zs : List Placed) → P (put y at ∷ zs)) → P (rest_of us)
second d x y xs us vs P q f =
    let p = parted d x (y ∷ xs) us vs q in
    let r = parted d y xs p.middle vs p.rest in
    let h = head_of d x us p.middle p.head in
    let k = head_of d y p.middle r.middle r.head in
    from_head (λ z. P (rest_of z)) h (from_head P k (f k.at r.middle))

-- a part that begins with a dot is read by its word
membered : (d at : ℕ) (w : List ℕ) (xs : List Token) (us vs rest : List Placed) (e f : Expr) → after d (dot ∷ word w ∷ xs) us ≡ Some vs → Reads (goal.member d at e) us (Ok (f, rest)) → Reads (goal.part d at e) us (Ok (f, rest))
membered d at w xs us vs rest e f q m =
    let p = parted d dot (word w ∷ xs) us vs q in
    let h = head_of d dot us p.middle p.head in
    reads (failed (from_head (λ z. is_first left z ≡ false) h refl) (failed (from_head (λ z. is_first open_bracket z ≡ false) h refl) (called m (answered refl))))

-- the brackets that end expressions between commas
pub record Closer (x : Token) : Type 0 where
  pub follows : (d : ℕ) (ts us : List Placed) → after d (x ∷ []) ts ≡ Some us → Follows ts
  pub first : (d : ℕ) (ts us : List Placed) → after d (x ∷ []) ts ≡ Some us → (is_first x ts ≡ true) × (is_first comma ts ≡ false)
  pub opens_none : (at : ℕ) (us : List Placed) → opens (put x at ∷ us) ≡ false

closer_by : (x : Token) → ((at : ℕ) (us : List Placed) → (begins_part (put x at ∷ us) ≡ false) × (infix_at (put x at ∷ us) ≡ None) × (is_first (sign (codes "?")) (put x at ∷ us) ≡ false)) → ((at : ℕ) (us : List Placed) → (is_first x (put x at ∷ us) ≡ true) × (is_first comma (put x at ∷ us) ≡ false)) → ((at : ℕ) (us : List Placed) → opens (put x at ∷ us) ≡ false) → Closer x
closer_by x f g k = record {
  follows = closes x f;
  first = λ d ts us q. let h = head_of d x ts us q in from_head (λ z. (is_first x z ≡ true) × (is_first comma z ≡ false)) h (g h.at us);
  opens_none = k;
}

right_closer : Closer right
right_closer = closer_by right (λ at us. (refl, refl, refl)) (λ at us. (refl, refl)) (λ at us. refl)

bracket_closer : Closer close_bracket
bracket_closer = closer_by close_bracket (λ at us. (refl, refl, refl)) (λ at us. (refl, refl)) (λ at us. refl)

abbrev exprs_ok : List Expr → List Placed → Result (List Expr × List Placed) ReadRefusal
exprs_ok es us = Ok (es, us)

signed_operand : (d n : ℕ) (op : UnaryOp) (ts us rest : List Placed) (e : Expr) → after d (sign_token op ∷ []) ts ≡ Some us → Complete (suc d) 11 n us rest e → sign_at ts ≡ Some op → opens ts ≡ true → Complete d 11 0 ts rest (tree.unary (at_of ts) op e)
signed_operand d n op ts us rest e q c s o =
    let read : begins_part rest ≡ false → Reads (goal.unary d) ts (Ok (tree.unary (at_of ts) op e, rest)) = λ stop.
    let up : suc d ≡ d + 1 = omega arith in
    let inside : Reads (goal.unary (d + 1)) us (Ok (e, rest)) = subst (λ z. Reads (goal.unary z) us (Ok (e, rest))) up (c.operand refl stop) in
    reads (a_sign s (called (reads (answered (ap taken (skips d (sign_token op) ts us q)))) (called inside (answered refl)))) in
    record {
      opens = o;
      starts = λ z. absurd (omega (arith, z));
      parts = λ z. absurd (omega (arith, z));
      operand = λ z. read;
      chain = λ le st least some below v end h. reads (called (read st.parts) (called h (answered refl)));
      whole = λ z. absurd (omega (arith, z));
    }

chosen_by : (d n m l : ℕ) (ts us vs ws xs rest : List Placed) (t a b : Expr) → Complete d 1 n ts us t → after d (sign (codes "?") ∷ []) us ≡ Some vs → Complete (suc d) 0 m vs ws a → after (suc d) (colon ∷ []) ws ≡ Some xs → Complete (suc d) 0 l xs rest b → Complete d 0 0 ts rest (tree.choice (at_of ts) t a b)
chosen_by d n m l ts us vs ws xs rest t a b x q y r z = record {
  opens = x.opens;
  starts = λ e. absurd (omega (arith, e));
  parts = λ e. absurd (omega (arith, e));
  operand = λ e. absurd (omega (arith, e));
  chain = λ le s least some below. absurd (omega (arith, some, below));
  whole = λ e f.
      let h = head_of d (sign (codes "?")) us vs q in
      let none : infix_at us ≡ None = from_head (λ w. infix_at w ≡ None) h refl in
      let stop : Stops 1 us = record { parts = from_head (λ w. begins_part w ≡ false) h refl; signs = λ i p. absurd (none_some (infix_at us) i none p) } in
      let op = x.chain (omega arith) stop 1 (omega arith) (omega arith) t us (chain_stops d 1 (at_of ts) 1 n t us (λ i p. absurd (none_some (infix_at us) i none p))) in
      reads (called op (held (from_head (λ w. is_first (sign (codes "?")) w ≡ true) h refl) (called (tok q)
      (called (deep d vs a ws (y.whole refl (follows_colon (suc d) ws xs r))) (called (tok (down d (colon ∷ []) ws xs r)) (called (deep d xs b rest (z.whole refl f)) (answered refl)))))));
}

-- what stands after an expression among expressions
after_items : {c : ℕ} {ts us : List Placed} {es : Exprs} → MoreExpressions c ts us es → (d : ℕ) → c ≡ suc d → (x : Token) → Closer x → (rest : List Placed) → after d (x ∷ []) us ≡ Some rest → Follows ts
after_items (rule.no_more_expressions {ts = ts}) d r x k rest q = k.follows d ts rest q
after_items (rule.more_expressions {d = c} {ts = ts} {us = us} a y ys) d r x k rest q = follows_comma c ts us a

mutual
  pub complete : {d k n : ℕ} {ts rest : List Placed} {e : Expr} → Expression d k n ts rest e → Complete d k n ts rest e
  complete (rule.number {d = d} {m = m} {ts = ts} {rest = rest} q) =
      let h = head_of d (numeric_literal m) ts rest q in
      atomic d ts rest (tree.number (at_of ts) m) (from_head (λ z. begins_atom z ≡ true) h refl)
      (from_head (λ z. Reads (goal.atom d) z (Ok (tree.number (at_of z) m, rest))) h (number_atom d h.at m rest h.deep))
  complete (rule.string {d = d} {s = s} {ts = ts} {rest = rest} q) =
      let h = head_of d (string_literal s) ts rest q in
      atomic d ts rest (tree.string (at_of ts) s) (from_head (λ z. begins_atom z ≡ true) h refl)
      (from_head (λ z. Reads (goal.atom d) z (Ok (tree.string (at_of z) s, rest))) h (string_atom d h.at s rest h.deep))
  complete (rule.name {d = d} {x = x} {ts = ts} {rest = rest} p q) =
      let h = head_of d (identifier_name x) ts rest q in
      atomic d ts rest (tree.name (at_of ts) x) (from_head (λ z. begins_atom z ≡ true) h (name_begins x h.at rest p))
      (from_head (λ z. Reads (goal.atom d) z (Ok (tree.name (at_of z) x, rest))) h (name_atom d h.at x rest p h.deep))
  complete (rule.true_literal {d = d} {ts = ts} {rest = rest} q) =
      let h = head_of d (word (codes "true")) ts rest q in
      atomic d ts rest (tree.boolean (at_of ts) true) (from_head (λ z. begins_atom z ≡ true) h refl)
      (worded d (codes "true") ts rest (tree.boolean (at_of ts) true) rest h refl refl (reads (held (from_head (λ z. is_first (word (codes "true")) z ≡ true) h refl) (called (tok q) (answered refl)))))
  complete (rule.false_literal {d = d} {ts = ts} {rest = rest} q) =
      let h = head_of d (word (codes "false")) ts rest q in
      atomic d ts rest (tree.boolean (at_of ts) false) (from_head (λ z. begins_atom z ≡ true) h refl)
      (worded d (codes "false") ts rest (tree.boolean (at_of ts) false) rest h refl refl (reads (failed (from_head (λ z. is_first (word (codes "true")) z ≡ false) h refl)
      (held (from_head (λ z. is_first (word (codes "false")) z ≡ true) h refl) (called (tok q) (answered refl))))))
  complete (rule.null_literal {d = d} {ts = ts} {rest = rest} q) =
      let h = head_of d (word (codes "null")) ts rest q in
      atomic d ts rest (tree.null (at_of ts)) (from_head (λ z. begins_atom z ≡ true) h refl)
      (worded d (codes "null") ts rest (tree.null (at_of ts)) rest h refl refl (reads (failed (from_head (λ z. is_first (word (codes "true")) z ≡ false) h refl)
      (failed (from_head (λ z. is_first (word (codes "false")) z ≡ false) h refl)
      (held (from_head (λ z. is_first (word (codes "null")) z ≡ true) h refl) (called (tok q) (answered refl)))))))
  complete (rule.parentheses {d = d} {n = n} {ts = ts} {us = us} {vs = vs} {rest = rest} {e = e} q x r) =
      let h = head_of d left ts us q in
      atomic d ts rest e (from_head (λ z. begins_atom z ≡ true) h refl)
      (reads (held (from_head (λ z. is_first left z ≡ true) h refl) (called (tok q) (called (enclosing d n right us vs rest e (complete x) (follows_right d vs rest r) r) (answered refl)))))
  complete (rule.array {d = d} {ts = ts} {us = us} {vs = vs} {rest = rest} {es = es} q x r) =
      let h = head_of d open_bracket ts us q in
      atomic d ts rest (tree.array (at_of ts) es) (from_head (λ z. begins_atom z ≡ true) h refl)
      (reads (failed (from_head (λ z. is_first left z ≡ false) h refl) (held (from_head (λ z. is_first open_bracket z ≡ true) h refl)
      (called (tok q) (called (complete_list x d refl close_bracket bracket_closer rest r) (answered (ap (λ z. expr_ok (tree.array (at_of ts) z) rest) (exprs_list es))))))))
  complete (rule.dictionary {d = d} {ts = ts} {us = us} {vs = vs} {rest = rest} q a b) =
      let p = parted d (word (codes "Object")) (dot ∷ word (codes "create") ∷ left ∷ []) ts us q in
      let p2 = parted d dot (word (codes "create") ∷ left ∷ []) p.middle us p.rest in
      let p3 = parted d (word (codes "create")) (left ∷ []) p2.middle us p2.rest in
      let h = head_of d (word (codes "Object")) ts p.middle p.head in
      let dict : Reads (goal.dictionary d) ts (Ok (tree.dictionary (at_of ts), rest)) = reads (called (tok p.head) (called (tok p2.head) (called (tok p3.head) (called (tok p3.rest) (called (tok (down d (word (codes "null") ∷ []) us vs a)) (called (tok b) (answered refl))))))) in
      atomic d ts rest (tree.dictionary (at_of ts)) (from_head (λ z. begins_atom z ≡ true) h refl)
      (worded d (codes "Object") ts p.middle (tree.dictionary (at_of ts)) rest h refl refl (reads (failed (from_head (λ z. is_first (word (codes "true")) z ≡ false) h refl)
      (failed (from_head (λ z. is_first (word (codes "false")) z ≡ false) h refl)
      (failed (from_head (λ z. is_first (word (codes "null")) z ≡ false) h refl) (called dict (answered refl)))))))
  complete (rule.decimal_of {d = d} {n = n} {ts = ts} {us = us} {vs = vs} {rest = rest} {e = e} q x r) =
      let p = parted d (word (codes "String")) (left ∷ []) ts us q in
      let h = head_of d (word (codes "String")) ts p.middle p.head in
      let k = head_of d left p.middle us p.rest in
      let c : Reads (goal.converted d) ts (Ok (tree.decimal_of (at_of ts) e, rest)) =
      reads (held (from_head (λ z. is_second left z ≡ true) h (from_head (λ z. is_first left z ≡ true) k refl))
      (called (tok p.head) (called (tok p.rest) (called (enclosing d n right us vs rest e (complete x) (follows_right d vs rest r) r) (answered refl))))) in
      atomic d ts rest (tree.decimal_of (at_of ts) e) (from_head (λ z. begins_atom z ≡ true) h refl)
      (reads (failed (from_head (λ z. is_first left z ≡ false) h refl) (failed (from_head (λ z. is_first open_bracket z ≡ false) h refl)
      (held (from_head (λ z. is_first (word (codes "String")) z ≡ true) h refl) (called c (answered refl))))))
  complete (rule.from_char_code {d = d} {n = n} {ts = ts} {us = us} {vs = vs} {rest = rest} {e = e} q x r) =
      let p = parted d (word (codes "String")) (dot ∷ word (codes "fromCharCode") ∷ left ∷ []) ts us q in
      let p2 = parted d dot (word (codes "fromCharCode") ∷ left ∷ []) p.middle us p.rest in
      let p3 = parted d (word (codes "fromCharCode")) (left ∷ []) p2.middle us p2.rest in
      let h = head_of d (word (codes "String")) ts p.middle p.head in
      let k = head_of d dot p.middle p2.middle p2.head in
      let c : Reads (goal.converted d) ts (Ok (tree.from_char_code (at_of ts) e, rest)) =
      reads (failed (from_head (λ z. is_second left z ≡ false) h (from_head (λ z. is_first left z ≡ false) k refl))
      (called (tok p.head) (called (tok p2.head) (called (tok p3.head) (called (tok p3.rest) (called (enclosing d n right us vs rest e (complete x) (follows_right d vs rest r) r) (answered refl))))))) in
      atomic d ts rest (tree.from_char_code (at_of ts) e) (from_head (λ z. begins_atom z ≡ true) h refl)
      (reads (failed (from_head (λ z. is_first left z ≡ false) h refl) (failed (from_head (λ z. is_first open_bracket z ≡ false) h refl)
      (held (from_head (λ z. is_first (word (codes "String")) z ≡ true) h refl) (called c (answered refl))))))
  complete (rule.call {d = d} {n = n} {ts = ts} {us = us} {vs = vs} {ws = ws} {rest = rest} {f = f} {es = es} x q y r) =
      let h = head_of (d + n) left us vs q in
      part_then d n ts us rest f (tree.call (at_of ts) f es) (complete x) (from_head (λ z. begins_part z ≡ true) h refl)
      (reads (held (from_head (λ z. is_first left z ≡ true) h refl) (called (tok q)
      (called (complete_list y (d + n) refl right right_closer rest r) (answered (ap (λ z. expr_ok (tree.call (at_of ts) f z) rest) (exprs_list es)))))))
  complete (rule.index {d = d} {n = n} {m = m} {ts = ts} {us = us} {vs = vs} {ws = ws} {rest = rest} {e = e} {i = i} x q y r) =
      let h = head_of (d + n) open_bracket us vs q in
      part_then d n ts us rest e (tree.index (at_of ts) e i) (complete x) (from_head (λ z. begins_part z ≡ true) h refl)
      (reads (failed (from_head (λ z. is_first left z ≡ false) h refl) (held (from_head (λ z. is_first open_bracket z ≡ true) h refl)
      (called (tok q) (called (enclosing (d + n) m close_bracket vs ws rest i (complete y) (follows_bracket (d + n) ws rest r) r) (answered refl))))))
  complete (rule.length_of {d = d} {n = n} {ts = ts} {us = us} {rest = rest} {e = e} x q) =
      let p = parted (d + n) dot (word (codes "length") ∷ []) us rest q in
      part_then d n ts us rest e (tree.length_of (at_of ts) e) (complete x) (dotted (d + n) (codes "length") [] us rest refl q)
      (membered (d + n) (at_of ts) (codes "length") [] us rest rest e (tree.length_of (at_of ts) e) q
      (reads (held (second (d + n) dot (word (codes "length")) [] us rest (λ z. is_first (word (codes "length")) z ≡ true) q (λ at zs. refl))
      (called (tok p.head) (called (tok p.rest) (answered refl))))))
  complete (rule.pop {d = d} {n = n} {ts = ts} {us = us} {rest = rest} {e = e} x q) =
      let xs : List Token = left ∷ right ∷ [] in
      let p = parted (d + n) dot (word (codes "pop") ∷ left ∷ right ∷ []) us rest q in
      let p2 = parted (d + n) (word (codes "pop")) (left ∷ right ∷ []) p.middle rest p.rest in
      let p3 = parted (d + n) left (right ∷ []) p2.middle rest p2.rest in
      part_then d n ts us rest e (tree.pop (at_of ts) e) (complete x) (dotted (d + n) (codes "pop") (left ∷ right ∷ []) us rest refl q)
      (membered (d + n) (at_of ts) (codes "pop") (left ∷ right ∷ []) us rest rest e (tree.pop (at_of ts) e) q
      (reads (failed (second (d + n) dot (word (codes "pop")) (left ∷ right ∷ []) us rest (λ z. is_first (word (codes "length")) z ≡ false) q (λ at zs. refl))
      (held (second (d + n) dot (word (codes "pop")) (left ∷ right ∷ []) us rest (λ z. is_first (word (codes "pop")) z ≡ true) q (λ at zs. refl))
      (called (tok p.head) (called (tok p2.head) (called (tok p3.head) (called (tok p3.rest) (answered refl)))))))))
  complete (rule.char_code_at {d = d} {n = n} {m = m} {ts = ts} {us = us} {vs = vs} {ws = ws} {rest = rest} {e = e} {i = i} x q y r) =
      let p = parted (d + n) dot (word (codes "charCodeAt") ∷ left ∷ []) us vs q in
      let p2 = parted (d + n) (word (codes "charCodeAt")) (left ∷ []) p.middle vs p.rest in
      part_then d n ts us rest e (tree.char_code_at (at_of ts) e i) (complete x) (dotted (d + n) (codes "charCodeAt") (left ∷ []) us vs refl q)
      (membered (d + n) (at_of ts) (codes "charCodeAt") (left ∷ []) us vs rest e (tree.char_code_at (at_of ts) e i) q
      (reads (failed (second (d + n) dot (word (codes "charCodeAt")) (left ∷ []) us vs (λ z. is_first (word (codes "length")) z ≡ false) q (λ at zs. refl))
      (failed (second (d + n) dot (word (codes "charCodeAt")) (left ∷ []) us vs (λ z. is_first (word (codes "pop")) z ≡ false) q (λ at zs. refl))
      (held (second (d + n) dot (word (codes "charCodeAt")) (left ∷ []) us vs (λ z. is_first (word (codes "charCodeAt")) z ≡ true) q (λ at zs. refl))
      (called (tok p.head) (called (tok p2.head) (called (tok p2.rest) (called (enclosing (d + n) m right vs ws rest i (complete y) (follows_right (d + n) ws rest r) r) (answered refl))))))))))
  complete (rule.substring {d = d} {n = n} {m = m} {l = l} {ts = ts} {us = us} {vs = vs} {ws = ws} {xs = xs} {ys = ys} {rest = rest} {e = e} {i = i} {j = j} x q y a z r) =
      let p = parted (d + n) dot (word (codes "substring") ∷ left ∷ []) us vs q in
      let p2 = parted (d + n) (word (codes "substring")) (left ∷ []) p.middle vs p.rest in
      let s : Reads (goal.substring (d + n) (at_of ts) e) us (Ok (tree.substring (at_of ts) e i j, rest)) =
      reads (called (tok p.head) (called (tok p2.head) (called (tok p2.rest) (called (deep (d + n) vs i ws ((complete y).whole refl (follows_comma (suc (d + n)) ws xs a)))
      (called (tok (down (d + n) (comma ∷ []) ws xs a)) (called (enclosing (d + n) l right xs ys rest j (complete z) (follows_right (d + n) ys rest r) r) (answered refl))))))) in
      part_then d n ts us rest e (tree.substring (at_of ts) e i j) (complete x) (dotted (d + n) (codes "substring") (left ∷ []) us vs refl q)
      (membered (d + n) (at_of ts) (codes "substring") (left ∷ []) us vs rest e (tree.substring (at_of ts) e i j) q
      (reads (failed (second (d + n) dot (word (codes "substring")) (left ∷ []) us vs (λ z. is_first (word (codes "length")) z ≡ false) q (λ at zs. refl))
      (failed (second (d + n) dot (word (codes "substring")) (left ∷ []) us vs (λ z. is_first (word (codes "pop")) z ≡ false) q (λ at zs. refl))
      (failed (second (d + n) dot (word (codes "substring")) (left ∷ []) us vs (λ z. is_first (word (codes "charCodeAt")) z ≡ false) q (λ at zs. refl))
      (called s (answered refl)))))))
  complete (rule.unary {d = d} {n = n} {op = op} {ts = ts} {us = us} {rest = rest} {e = e} q x) =
      let h = head_of d (sign_token op) ts us q in
      let s = from_head (λ z. (sign_at z ≡ Some op) × (opens z ≡ true)) h (sign_head op h.at us) in
      signed_operand d n op ts us rest e q (complete x) s.0 s.1
  complete (rule.choice {d = d} {n = n} {m = m} {l = l} {ts = ts} {us = us} {vs = vs} {ws = ws} {xs = xs} {rest = rest} {t = t} {a = a} {b = b} x q y r z) =
      chosen_by d n m l ts us vs ws xs rest t a b (complete x) q (complete y) r (complete z)
  complete (rule.looser {d = d} {k = k} {n = n} {ts = ts} {rest = rest} {e = e} lt x) = loosened d k n ts rest e lt (complete x)
  complete (rule.binary {d = d} {n = n} {m = m} {op = op} {ts = ts} {us = us} {vs = vs} {rest = rest} {a = a} {b = b} x q y) =
      let bound = level_bound (join.Op op) in
      let h = sign_heads (join.Op op) (d + n) us vs q in
      join_then (join.Op op) d n m ts us vs rest a b (complete x) q (complete y) h.0 h.1 bound.0 bound.1
  complete (rule.both {d = d} {n = n} {m = m} {ts = ts} {us = us} {vs = vs} {rest = rest} {a = a} {b = b} x q y) =
      let h = sign_heads join.And (d + n) us vs q in
      join_then join.And d n m ts us vs rest a b (complete x) q (complete y) h.0 h.1 (omega arith) (omega arith)
  complete (rule.either {d = d} {n = n} {m = m} {ts = ts} {us = us} {vs = vs} {rest = rest} {a = a} {b = b} x q y) =
      let h = sign_heads join.Or (d + n) us vs q in
      join_then join.Or d n m ts us vs rest a b (complete x) q (complete y) h.0 h.1 (omega arith) (omega arith)

  complete_list : {c : ℕ} {ts us : List Placed} {es : Exprs} → Expressions c ts us es → (d : ℕ) → c ≡ suc d → (x : Token) → Closer x → (rest : List Placed) → after d (x ∷ []) us ≡ Some rest → Reads (goal.listed d x) ts (Ok (list_of es, rest))
  complete_list (rule.no_expressions {ts = ts}) d r x k rest q = reads (held (k.first d ts rest q).0 (called (tok q) (answered refl)))
  complete_list (rule.expressions {n = n} {ts = ts} {us = us} {rest = vs} {e = e} {es = es} y ys) d r x k rest q =
      let c = complete y in
      let f = after_items ys d r x k rest q in
      let first : Reads (goal.expression (d + 1)) ts (Ok (e, us)) = deep d ts e us (subst (λ z. Reads (goal.expression z) ts (Ok (e, us))) r (c.whole refl f)) in
      reads (failed (not_opening x ts k.opens_none c.opens) (called first (called (complete_more ys d r x k (e ∷ []) rest q) (answered refl))))

  complete_more : {c : ℕ} {ts us : List Placed} {es : Exprs} → MoreExpressions c ts us es → (d : ℕ) → c ≡ suc d → (x : Token) → Closer x → (front : List Expr) (rest : List Placed) → after d (x ∷ []) us ≡ Some rest → Reads (goal.more d x front) ts (Ok (front ++ list_of es, rest))
  complete_more (rule.no_more_expressions {ts = ts}) d r x k front rest q =
      reads (failed (k.first d ts rest q).1 (called (tok q) (answered (ap (λ z. exprs_ok z rest) (sym (append-nil front))))))
  complete_more (rule.more_expressions {n = n} {ts = ts} {us = us} {vs = vs} {rest = ws} {e = e} {es = es} a y ys) d r x k front rest q =
      let c = complete y in
      let f = after_items ys d r x k rest q in
      let next : Reads (goal.expression (d + 1)) us (Ok (e, vs)) = deep d us e vs (subst (λ z. Reads (goal.expression z) us (Ok (e, vs))) r (c.whole refl f)) in
      let a2 : after (d + 1) (comma ∷ []) ts ≡ Some us = down d (comma ∷ []) ts us (subst (λ z. after z (comma ∷ []) ts ≡ Some us) r a) in
      let h = head_of (d + 1) comma ts us a2 in
      reads (held (from_head (λ z. is_first comma z ≡ true) h refl) (called (tok a2) (called next (called (complete_more ys d r x k (front ++ e ∷ []) rest q)
      (answered (ap (λ z. exprs_ok z rest) (append_assoc front (e ∷ []) (list_of es))))))))
