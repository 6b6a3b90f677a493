-- What is a statement is read as it.
use Rattle.std.proofs.Common.{arith, ◌≡◌, ◌∙◌, sym, subst, ap, ℕ, suc, ◌+◌, List, [], ◌∷◌, ◌++◌, Option, Some, None, Result, Ok, Err, Bool, true, false, refl, append_assoc, append-nil}
use Rattle.std.specs.Prelude.{IsTrue, not, ◌&&◌, ◌||◌, nat_lt, codes, bytes_eq, if◌then◌else◌}
use Rattle.std.proofs.lemmas.Bool.{le-leb}
use Rattle.js_tree.specs.Lexical.{Token, identifier_name, numeric_literal, string_literal, Placed}
use Rattle.js_tree.specs.Script as tree
use Rattle.js_tree.specs.Script.{Name, Expr, Stmt, Stmts, no_stmts, stmt, Else, no_else, else_block, else_if, Cases, no_cases, Item, function_item, global_item, ScriptTree}
use Rattle.js_tree.specs.View.{stmts_of, cases_of}
use Rattle.js_tree.specs.Printable.{is_name, is_own_name, is_call, fits}
use Rattle.js_tree.specs.Scripts as rule
use Rattle.js_tree.specs.Scripts.{after, at_of, word, sign, Expression, Statement, Statements, Block, Otherwise, CaseClauses, same_token, Label, Target, Returned, Parameters, MoreParameters, Items, Body}
use Rattle.js_grammar.specs.declared.refusal.ReadRefusal.{ReadRefusal}
use Rattle.js_grammar.specs.declared.refusal.ReadRefusal.TheVariants as refusal
use Rattle.js_grammar.specs.Tokens.{is_first, is_second}
use Rattle.js_grammar.specs.Goals as goal
use Rattle.js_grammar.specs.Steps.{left, right, open_bracket, open_brace, close_brace, dot, comma, colon, semicolon, equals, begins_part, begins_atom, begins, is_name_token, ends_statements, is_push, rest_of, own_of}
use Rattle.js_grammar.specs.Reads.{Reads, reads, answered, called, held, failed}
use Rattle.js_grammar.proofs.Heads.{level_bound}
use Rattle.js_grammar.specs.declared.token.Infix.TheVariants as join
use Rattle.js_grammar.proofs.Complete.{put, head_of, from_head, parted, tok, down, Follows, closes, complete, enclosing, follows_right, parts_stop, not_opening, opens, both_true, name_begins, same_is, or_left}

follows_semicolon : (d : ℕ) (ts us : List Placed) → after d (semicolon ∷ []) ts ≡ Some us → Follows ts
follows_semicolon = closes semicolon (λ at us. (refl, refl, refl))

-- an expression before a semicolon
value_reads : (d n : ℕ) (ts us rest : List Placed) (e : Expr) → Expression d 0 n ts us e → after d (semicolon ∷ []) us ≡ Some rest → Reads (goal.expression d) ts (Ok (e, us))
value_reads d n ts us rest e x q = (complete x).whole refl (follows_semicolon d us rest q)

abbrev name_ok : Name → List Placed → Result (Name × List Placed) ReadRefusal
name_ok x us = Ok (x, us)

name_clash : {X : Type 0} (a b : Bool) → a ≡ false → b ≡ true → a ≡ true → X
name_clash a b p q r = absurd (cc)

own_answer : (a b : Bool) (x : Name) (us : List Placed) → is_name x ≡ a → is_own_name x ≡ true → b ≡ true → own_of (if a && b then name_ok x us else Err (refusal.Syntax 0)) ≡ name_ok x us
own_answer true true x us p q r = ap (λ c. if c then name_ok x us else Err (refusal.Syntax 0)) q
own_answer true false x us p q r = absurd (cc)
own_answer false b x us p q r = name_clash (is_name x) (is_own_name x) p q (both_true (is_name x) (not (bytes_eq x (codes "$catch"))) q).0

own_reads : (d : ℕ) (x : Name) (ts us : List Placed) → IsTrue (is_own_name x) → after d (identifier_name x ∷ []) ts ≡ Some us → Reads (goal.own_name d) ts (Ok (x, us))
own_reads d x ts us p q =
    let h = head_of d (identifier_name x) ts us q in
    from_head (λ z. Reads (goal.own_name d) z (Ok (x, us))) h (reads (answered (own_answer (is_name x) (fits d) x us refl p h.deep)))

own_is_name : (x : Name) → is_own_name x ≡ true → is_name x ≡ true
own_is_name x p = (both_true (is_name x) (not (bytes_eq x (codes "$catch"))) p).0

declaration_reads : (d n : ℕ) (x : Name) (ts us vs rest : List Placed) (e : Expr) → IsTrue (is_own_name x) → after d (word (codes "var") ∷ identifier_name x ∷ equals ∷ []) ts ≡ Some us → Expression d 0 n us vs e → after d (semicolon ∷ []) vs ≡ Some rest → Reads (goal.declaration d) ts (Ok ((x, e), rest))
declaration_reads d n x ts us vs rest e p q y r =
    let a = parted d (word (codes "var")) (identifier_name x ∷ equals ∷ []) ts us q in
    let b = parted d (identifier_name x) (equals ∷ []) a.middle us a.rest in
    reads (called (tok a.head) (called (own_reads d x a.middle b.middle p b.head) (called (tok b.rest) (called (value_reads d n us vs rest e y r) (called (tok r) (answered refl))))))

-- a statement that begins with a keyword
pub record Keyword (w : List ℕ) (ts : List Placed) : Type 0 where
  pub atom : begins_atom ts ≡ false
  pub named : begins is_name_token ts ≡ false
  pub rest : is_first (word (codes "else")) ts ≡ false
  pub goes_on : ends_statements ts ≡ false

keyword : (d : ℕ) (w : List ℕ) (ts us : List Placed) → ((at : ℕ) (vs : List Placed) → Keyword w (put (word w) at ∷ vs)) → after d (word w ∷ []) ts ≡ Some us → Keyword w ts
keyword d w ts us f q = let h = head_of d (word w) ts us q in from_head (λ z. Keyword w z) h (f h.at us)

-- the first of several tokens
first_of : (d : ℕ) (x : Token) (xs : List Token) (ts us : List Placed) (P : List Placed → Type 0) → after d (x ∷ xs) ts ≡ Some us → ((at : ℕ) (vs : List Placed) → P (put x at ∷ vs)) → P ts
first_of d x xs ts us P q f =
    let p = parted d x xs ts us q in
    let h = head_of d x ts p.middle p.head in
    from_head P h (f h.at p.middle)

second_of : (d : ℕ) (x y : Token) (xs : List Token) (ts us : List Placed) (P : List Placed → Type 0) → after d (x ∷ y ∷ xs) ts ≡ Some us → ((at b : ℕ) (vs : List Placed) → P (put x at ∷ put y b ∷ vs)) → P ts
second_of d x y xs ts us P q f =
    let p = parted d x (y ∷ xs) ts us q in
    let r = parted d y xs p.middle us p.rest in
    let h = head_of d x ts p.middle p.head in
    let k = head_of d y p.middle r.middle r.head in
    from_head P h (from_head (λ z. P (put x h.at ∷ z)) k (f h.at k.at r.middle))

abbrev is_simple : List Placed → Bool
is_simple ts = not (begins_atom ts) && (not (is_first (word (codes "if")) ts) && (not (is_first (word (codes "try")) ts) && not (is_first (word (codes "while")) ts || is_first (word (codes "for")) ts || is_first (word (codes "switch")) ts)))

not_true : (b : Bool) → not b ≡ true → b ≡ false
not_true true q = absurd (cc)
not_true false q = refl

simple_reads : (d : ℕ) (ts rest : List Placed) (s : Stmt) → is_simple ts ≡ true → Reads (goal.simple d) ts (Ok (s, rest)) → Reads (goal.statement d) ts (Ok (s, rest))
simple_reads d ts rest s q r =
    let a = both_true (not (begins_atom ts)) _ q in
    let b = both_true (not (is_first (word (codes "if")) ts)) _ a.1 in
    let c = both_true (not (is_first (word (codes "try")) ts)) _ b.1 in
    reads (failed (not_true _ a.0) (failed (not_true _ b.0) (failed (not_true _ c.0) (failed (not_true _ c.1) (called r (answered refl))))))

-- a list that begins otherwise does not begin with this token
excluded_by : (f : List Placed → Bool) (x : Token) (p : Placed) (b : Bool) (ts : List Placed) → ((at : ℕ) (us : List Placed) → f (put x at ∷ us) ≡ false) → f (p ∷ ts) ≡ true → same_token x p.token ≡ b → b ≡ false
excluded_by f x p false ts g q e = refl
excluded_by f x p true ts g q e =
    let t : x ≡ p.token = same_is x p.token e in
    name_clash (f (p ∷ ts)) true (subst (λ z. f (put z p.at ∷ ts) ≡ false) t (g p.at ts)) refl q

excluded : (f : List Placed → Bool) (x : Token) (ts : List Placed) → ((at : ℕ) (us : List Placed) → f (put x at ∷ us) ≡ false) → f ts ≡ true → is_first x ts ≡ false
excluded f x [] g q = refl
excluded f x (p ∷ ts) g q = excluded_by f x p (same_token x p.token) ts g q refl

-- how a statement begins
pub record Starts (ts : List Placed) : Type 0 where
  pub rest : is_first (word (codes "else")) ts ≡ false
  pub goes_on : ends_statements ts ≡ false

none_of : (a b c : Bool) → a ≡ false → b ≡ false → c ≡ false → (a || b || c) ≡ false
none_of a b c p q r = ap (λ z. z || b || c) p ∙ (ap (λ z. false || z || c) q ∙ r)

atom_starts : (ts : List Placed) → opens ts ≡ true → Starts ts
atom_starts [] q = absurd (cc)
atom_starts (p ∷ ts) q = record {
  rest = excluded opens (word (codes "else")) (p ∷ ts) (λ at us. refl) q;
  goes_on = none_of (is_first close_brace (p ∷ ts)) (is_first (word (codes "case")) (p ∷ ts)) (is_first (word (codes "default")) (p ∷ ts))
      (excluded opens close_brace (p ∷ ts) (λ at us. refl) q) (excluded opens (word (codes "case")) (p ∷ ts) (λ at us. refl) q) (excluded opens (word (codes "default")) (p ∷ ts) (λ at us. refl) q);
}

name_starts : (d : ℕ) (x : Name) (xs : List Token) (ts us : List Placed) → IsTrue (is_own_name x) → after d (identifier_name x ∷ xs) ts ≡ Some us → Starts ts
name_starts d x xs ts us p q = atom_starts ts (first_of d (identifier_name x) xs ts us (λ z. opens z ≡ true) q (λ at vs. or_left (begins_atom (put (identifier_name x) at ∷ vs)) _ (name_begins x at vs (own_is_name x p))))

word_starts : (d : ℕ) (w : List ℕ) (xs : List Token) (ts us : List Placed) → ((at : ℕ) (vs : List Placed) → Starts (put (word w) at ∷ vs)) → after d (word w ∷ xs) ts ≡ Some us → Starts ts
word_starts d w xs ts us f q = first_of d (word w) xs ts us Starts q f

label_starts : (d : ℕ) (w : List ℕ) (xs : List Token) (ts us vs : List Placed) (l : Option Name) → Label d ts us l → ((at : ℕ) (vs : List Placed) → Starts (put (word w) at ∷ vs)) → after d (word w ∷ xs) us ≡ Some vs → Starts ts
label_starts d w xs ts us vs None rule.no_label f q = word_starts d w xs ts vs f q
label_starts d w xs ts us vs (Some x) (rule.labelled p r) f q = name_starts d x (colon ∷ []) ts us p r

starts : {d : ℕ} {ts rest : List Placed} {s : Stmt} → Statement d ts rest s → Starts ts
starts (rule.declare {d = d} {x = x} {ts = ts} {us = us} p q y r) = word_starts d (codes "var") (identifier_name x ∷ equals ∷ []) ts us (λ at vs. record { rest = refl; goes_on = refl }) q
starts (rule.assign {d = d} {x = x} {ts = ts} {us = us} p q y r) = name_starts d x (equals ∷ []) ts us p q
starts (rule.store {ts = ts} x q y r a v c) = atom_starts ts (complete x).opens
starts (rule.perform {ts = ts} p x q) = atom_starts ts (complete x).opens
starts (rule.push {ts = ts} x q v r c) = atom_starts ts (complete x).opens
starts (rule.remove {d = d} {ts = ts} {us = us} q x a y r c) = word_starts d (codes "delete") [] ts us (λ at vs. record { rest = refl; goes_on = refl }) q
starts (rule.branch {d = d} {ts = ts} {us = us} q x r b o) = word_starts d (codes "if") (left ∷ []) ts us (λ at vs. record { rest = refl; goes_on = refl }) q
starts (rule.while {d = d} {l = l} {ts = ts} {us = us} {vs = vs} lab q x r b) = label_starts d (codes "while") (left ∷ []) ts us vs l lab (λ at zs. record { rest = refl; goes_on = refl }) q
starts (rule.forever {d = d} {l = l} {ts = ts} {us = us} {vs = vs} lab q x r b) = label_starts d (codes "for") (left ∷ []) ts us vs l lab (λ at zs. record { rest = refl; goes_on = refl }) q
starts (rule.switch {d = d} {l = l} {ts = ts} {us = us} {vs = vs} lab q x r b c) = label_starts d (codes "switch") (left ∷ []) ts us vs l lab (λ at zs. record { rest = refl; goes_on = refl }) q
starts (rule.return {d = d} {ts = ts} {us = us} q e r) = word_starts d (codes "return") [] ts us (λ at vs. record { rest = refl; goes_on = refl }) q
starts (rule.throw {d = d} {ts = ts} {us = us} q e r) = word_starts d (codes "throw") [] ts us (λ at vs. record { rest = refl; goes_on = refl }) q
starts (rule.break {d = d} {ts = ts} {us = us} q e r) = word_starts d (codes "break") [] ts us (λ at vs. record { rest = refl; goes_on = refl }) q
starts (rule.continue {d = d} {ts = ts} {us = us} q e r) = word_starts d (codes "continue") [] ts us (λ at vs. record { rest = refl; goes_on = refl }) q
starts (rule.attempt {d = d} {ts = ts} {us = us} q b r s t h) = word_starts d (codes "try") [] ts us (λ at vs. record { rest = refl; goes_on = refl }) q

-- what stands second, where a name comes first
data Lone (ts rest : List Placed) : Type 0 where
  nameless : begins is_name_token ts ≡ false → Lone ts rest
  alone : rest_of ts ≡ rest → Lone ts rest
  onward : is_first equals (rest_of ts) ≡ false → is_first colon (rest_of ts) ≡ false → Lone ts rest

part_lone : (ts us rest : List Placed) → Lone ts us → (is_first equals us ≡ false) × (is_first colon us ≡ false) → Lone ts rest
part_lone ts us rest (nameless q) h = nameless q
part_lone ts us rest (alone q) h = onward (ap (is_first equals) q ∙ h.0) (ap (is_first colon) q ∙ h.1)
part_lone ts us rest (onward a b) h = onward a b

abbrev not_next : List Placed → Type 0
not_next us = (is_first equals us ≡ false) × (is_first colon us ≡ false)

lone : {d k n : ℕ} {ts rest : List Placed} {e : Expr} → Expression d k n ts rest e → k ≡ 12 → Lone ts rest
lone (rule.number {d = d} {m = m} {ts = ts} {rest = rest} q) k = nameless (first_of d (numeric_literal m) [] ts rest (λ z. begins is_name_token z ≡ false) q (λ at vs. refl))
lone (rule.string {d = d} {s = s} {ts = ts} {rest = rest} q) k = nameless (first_of d (string_literal s) [] ts rest (λ z. begins is_name_token z ≡ false) q (λ at vs. refl))
lone (rule.true_literal {d = d} {ts = ts} {rest = rest} q) k = nameless (first_of d (word (codes "true")) [] ts rest (λ z. begins is_name_token z ≡ false) q (λ at vs. refl))
lone (rule.false_literal {d = d} {ts = ts} {rest = rest} q) k = nameless (first_of d (word (codes "false")) [] ts rest (λ z. begins is_name_token z ≡ false) q (λ at vs. refl))
lone (rule.null_literal {d = d} {ts = ts} {rest = rest} q) k = nameless (first_of d (word (codes "null")) [] ts rest (λ z. begins is_name_token z ≡ false) q (λ at vs. refl))
lone (rule.name {d = d} {x = x} {ts = ts} {rest = rest} p q) k = let h = head_of d (identifier_name x) ts rest q in alone (from_head (λ z. rest_of z ≡ rest) h refl)
lone (rule.parentheses {d = d} {ts = ts} {us = us} q x r) k = nameless (first_of d left [] ts us (λ z. begins is_name_token z ≡ false) q (λ at vs. refl))
lone (rule.array {d = d} {ts = ts} {us = us} q x r) k = nameless (first_of d open_bracket [] ts us (λ z. begins is_name_token z ≡ false) q (λ at vs. refl))
lone (rule.dictionary {d = d} {ts = ts} {us = us} q x r) k = nameless (first_of d (word (codes "Object")) (dot ∷ word (codes "create") ∷ left ∷ []) ts us (λ z. begins is_name_token z ≡ false) q (λ at vs. refl))
lone (rule.decimal_of {d = d} {ts = ts} {us = us} q x r) k = nameless (first_of d (word (codes "String")) (left ∷ []) ts us (λ z. begins is_name_token z ≡ false) q (λ at vs. refl))
lone (rule.from_char_code {d = d} {ts = ts} {us = us} q x r) k = nameless (first_of d (word (codes "String")) (dot ∷ word (codes "fromCharCode") ∷ left ∷ []) ts us (λ z. begins is_name_token z ≡ false) q (λ at vs. refl))
lone (rule.call {d = d} {n = n} {ts = ts} {us = us} {vs = vs} {rest = rest} x q y r) k = part_lone ts us rest (lone x refl) (first_of (d + n) left [] us vs not_next q (λ at zs. (refl, refl)))
lone (rule.index {d = d} {n = n} {ts = ts} {us = us} {vs = vs} {rest = rest} x q y r) k = part_lone ts us rest (lone x refl) (first_of (d + n) open_bracket [] us vs not_next q (λ at zs. (refl, refl)))
lone (rule.length_of {d = d} {n = n} {ts = ts} {us = us} {rest = rest} x q) k = part_lone ts us rest (lone x refl) (first_of (d + n) dot (word (codes "length") ∷ []) us rest not_next q (λ at zs. (refl, refl)))
lone (rule.pop {d = d} {n = n} {ts = ts} {us = us} {rest = rest} x q) k = part_lone ts us rest (lone x refl) (first_of (d + n) dot (word (codes "pop") ∷ left ∷ right ∷ []) us rest not_next q (λ at zs. (refl, refl)))
lone (rule.char_code_at {d = d} {n = n} {ts = ts} {us = us} {vs = vs} {rest = rest} x q y r) k = part_lone ts us rest (lone x refl) (first_of (d + n) dot (word (codes "charCodeAt") ∷ left ∷ []) us vs not_next q (λ at zs. (refl, refl)))
lone (rule.substring {d = d} {n = n} {ts = ts} {us = us} {vs = vs} {rest = rest} x q y a z r) k = part_lone ts us rest (lone x refl) (first_of (d + n) dot (word (codes "substring") ∷ left ∷ []) us vs not_next q (λ at zs. (refl, refl)))
lone (rule.unary q x) k = absurd (omega (arith, k))
lone (rule.binary {op = op} x q y) k = let l = level_bound (join.Op op) in absurd (omega (arith, k, l.1))
lone (rule.both x q y) k = absurd (omega (arith, k))
lone (rule.either x q y) k = absurd (omega (arith, k))
lone (rule.choice x q y r z) k = absurd (omega (arith, k))
lone (rule.looser lt x) k = absurd (omega (arith, k, lt))

second_is : (x : Token) (ts : List Placed) → is_second x ts ≡ is_first x (rest_of ts)
second_is x [] = refl
second_is x (p ∷ ts) = refl

and_false : (a b : Bool) → b ≡ false → (a && b) ≡ false
and_false true b q = q
and_false false b q = refl

-- neither an assignment nor a label
pub record Unnamed (ts : List Placed) : Type 0 where
  pub assigned : (begins is_name_token ts && is_second equals ts) ≡ false
  pub labelled : (begins is_name_token ts && is_second colon ts) ≡ false

unnamed : (ts us : List Placed) → Lone ts us → not_next us → Unnamed ts
unnamed ts us (nameless q) h = record { assigned = ap (λ z. z && is_second equals ts) q; labelled = ap (λ z. z && is_second colon ts) q }
unnamed ts us (alone q) h = record {
  assigned = and_false _ _ (second_is equals ts ∙ (ap (is_first equals) q ∙ h.0));
  labelled = and_false _ _ (second_is colon ts ∙ (ap (is_first colon) q ∙ h.1));
}
unnamed ts us (onward a b) h = record { assigned = and_false _ _ (second_is equals ts ∙ a); labelled = and_false _ _ (second_is colon ts ∙ b) }

-- what an expression does
effect_reads : (d n : ℕ) (ts us rest : List Placed) (e : Expr) (s : Stmt) → Expression d 12 n ts us e → Unnamed ts → begins_part us ≡ false → Reads (goal.effect_of d (at_of ts) n e) us (Ok (s, rest)) → Reads (goal.statement d) ts (Ok (s, rest))
effect_reads d n ts us rest e s x u stop r =
    let c = complete x in
    let post : Reads (goal.post d) ts (Ok ((e, n), us)) = c.parts refl (e, n) us (parts_stop d (at_of ts) n e us stop) in
    let effect : Reads (goal.effect d) ts (Ok (s, rest)) = reads (called post (called r (answered refl))) in
    let named : Reads (goal.named d) ts (Ok (s, rest)) = reads (failed u.assigned (failed u.labelled (called effect (answered refl)))) in
    reads (held (c.starts refl) (called named (answered refl)))

at_least : (n : ℕ) → nat_lt 0 (suc n) ≡ true
at_least n = le-leb 1 (suc n) (omega arith)

tested_reads : (d n : ℕ) (w : Token) (ts us vs rest : List Placed) (e : Expr) → after d (w ∷ left ∷ []) ts ≡ Some us → Expression (suc d) 0 n us vs e → after d (right ∷ []) vs ≡ Some rest → Reads (goal.tested d w) ts (Ok (e, rest))
tested_reads d n w ts us vs rest e q x r =
    let p = parted d w (left ∷ []) ts us q in
    reads (called (tok p.head) (called (tok p.rest) (called (enclosing d n right us vs rest e (complete x) (follows_right d vs rest r) r) (answered refl))))

-- after a label, where there is one
label_reads : (d : ℕ) (w : List ℕ) (xs : List Token) (ts us vs rest : List Placed) (l : Option Name) (s : Stmt) → Label d ts us l → after d (word w ∷ xs) us ≡ Some vs
    → ((at : ℕ) (zs : List Placed) → (begins_atom (put (word w) at ∷ zs) ≡ false) × (is_first (word (codes "if")) (put (word w) at ∷ zs) ≡ false) × (is_first (word (codes "try")) (put (word w) at ∷ zs) ≡ false) × ((is_first (word (codes "while")) (put (word w) at ∷ zs) || is_first (word (codes "for")) (put (word w) at ∷ zs) || is_first (word (codes "switch")) (put (word w) at ∷ zs)) ≡ true))
    → Reads (goal.turning d (at_of ts) l) us (Ok (s, rest)) → Reads (goal.statement d) ts (Ok (s, rest))
label_reads d w xs ts us vs rest None s rule.no_label q f r =
    let g = first_of d (word w) xs ts vs (λ z. (begins_atom z ≡ false) × (is_first (word (codes "if")) z ≡ false) × (is_first (word (codes "try")) z ≡ false) × ((is_first (word (codes "while")) z || is_first (word (codes "for")) z || is_first (word (codes "switch")) z) ≡ true)) q f in
    reads (failed g.0 (failed g.1 (failed g.2 (held g.3 (called r (answered refl))))))
label_reads d w xs ts us vs rest (Some x) s (rule.labelled p b) q f r =
    let a = parted d (identifier_name x) (colon ∷ []) ts us b in
    let n = own_is_name x p in
    let atom : begins_atom ts ≡ true = first_of d (identifier_name x) (colon ∷ []) ts us (λ z. begins_atom z ≡ true) b (λ at zs. name_begins x at zs n) in
    let one : (begins is_name_token ts && is_second equals ts) ≡ false = second_of d (identifier_name x) colon [] ts us (λ z. (begins is_name_token z && is_second equals z) ≡ false) b (λ at c zs. and_false _ _ refl) in
    let two : (begins is_name_token ts && is_second colon ts) ≡ true = second_of d (identifier_name x) colon [] ts us (λ z. (begins is_name_token z && is_second colon z) ≡ true) b (λ at c zs. ap (λ z. z && true) n) in
    let named : Reads (goal.named d) ts (Ok (s, rest)) = reads (failed one (held two (called (own_reads d x ts a.middle p a.head) (called (tok a.rest) (called r (answered refl)))))) in
    reads (held atom (called named (answered refl)))

abbrev list_of : Stmts → List Stmt
list_of no_stmts = []
list_of (stmt s ss) = s ∷ list_of ss

stmts_list : (ss : Stmts) → stmts_of (list_of ss) ≡ ss
stmts_list no_stmts = refl
stmts_list (stmt s ss) = ap (λ z. stmt s z) (stmts_list ss)

abbrev stmts_ok : Stmts → List Placed → Result (Stmts × List Placed) ReadRefusal
stmts_ok ss us = Ok (ss, us)

abbrev cases_ok : Cases → List Placed → Result (Cases × List Placed) ReadRefusal
cases_ok cs us = Ok (cs, us)

ends_not_else : (ts : List Placed) → ends_statements ts ≡ true → is_first (word (codes "else")) ts ≡ false
ends_not_else [] q = refl
ends_not_else (p ∷ ts) q = excluded ends_statements (word (codes "else")) (p ∷ ts) (λ at us. refl) q

after_first : {d : ℕ} {ts rest : List Placed} {ss : Stmts} → Statements d ts rest ss → ends_statements rest ≡ true → is_first (word (codes "else")) ts ≡ false
after_first (rule.no_statements {ts = ts}) q = ends_not_else ts q
after_first (rule.statements s ss) q = (starts s).rest

lifted : (P : ℕ → Type 0) (d : ℕ) → P (suc d) → P (d + 1)
lifted P d h = let q : suc d ≡ d + 1 = omega arith in subst P q h

all_read : (d : ℕ) (ts us : List Placed) (ss : Stmts) → Reads (goal.statements d []) ts (Ok (stmts_of ([] ++ list_of ss), us)) → Reads (goal.statements d []) ts (Ok (ss, us))
all_read d ts us ss r = subst (λ z. Reads (goal.statements d []) ts (Ok (z, us))) (stmts_list ss) r

clauses_push : (cs : List (Cases → Cases)) (c : Cases → Cases) (tail : Cases) → cases_of (cs ++ c ∷ []) tail ≡ cases_of cs (c tail)
clauses_push [] c tail = refl
clauses_push (x ∷ cs) c tail = ap x (clauses_push cs c tail)

clauses_end : {d : ℕ} {ts rest : List Placed} {cs : Cases} → CaseClauses d ts rest cs → ends_statements rest ≡ true → ends_statements ts ≡ true
clauses_end rule.no_clauses q = q
clauses_end (rule.default_clause {d = d} {ts = ts} {us = us} a ss) q = first_of d (word (codes "default")) (colon ∷ []) ts us (λ z. ends_statements z ≡ true) a (λ at zs. refl)
clauses_end (rule.case_clause {d = d} {n = n} {ts = ts} {us = us} a ss cs) q = first_of d (word (codes "case")) (numeric_literal n ∷ colon ∷ []) ts us (λ z. ends_statements z ≡ true) a (λ at zs. refl)

abbrev number_ok : ℕ → List Placed → Result (ℕ × List Placed) ReadRefusal
number_ok n us = Ok (n, us)

number_reads : (d n : ℕ) (ts us : List Placed) → after d (numeric_literal n ∷ []) ts ≡ Some us → Reads (goal.number d) ts (Ok (n, us))
number_reads d n ts us q =
    let h = head_of d (numeric_literal n) ts us q in
    from_head (λ z. Reads (goal.number d) z (Ok (n, us))) h (reads (answered (ap (λ b. if b then number_ok n us else Err (refusal.Syntax 0)) h.deep)))

abbrev target_ok : Option Name → List Placed → Result (Option Name × List Placed) ReadRefusal
target_ok l us = Ok (l, us)

target_reads : (d : ℕ) (ts us rest : List Placed) (l : Option Name) → Target d ts us l → after d (semicolon ∷ []) us ≡ Some rest → Reads (goal.target d) ts (Ok (l, us))
target_reads d ts us rest None rule.no_target q = reads (failed (first_of d semicolon [] ts rest (λ z. begins is_name_token z ≡ false) q (λ at zs. refl)) (answered refl))
target_reads d ts us rest (Some x) (rule.target p a) q =
    reads (held (first_of d (identifier_name x) [] ts us (λ z. begins is_name_token z ≡ true) a (λ at zs. own_is_name x p)) (called (own_reads d x ts us p a) (answered refl)))

returned_reads : (d : ℕ) (ts us vs rest : List Placed) (e : Option Expr) → after d (word (codes "return") ∷ []) ts ≡ Some us → Returned d us vs e → after d (semicolon ∷ []) vs ≡ Some rest → Reads (goal.returned d) ts (Ok (tree.return (at_of ts) e, rest))
returned_reads d ts us vs rest None a rule.nothing_returned q =
    reads (called (tok a) (held (first_of d semicolon [] us rest (λ z. is_first semicolon z ≡ true) q (λ at zs. refl)) (called (tok q) (answered refl))))
returned_reads d ts us vs rest (Some e) a (rule.returned {n = n} x) q =
    reads (called (tok a) (failed (not_opening semicolon us (λ at zs. refl) (complete x).opens) (called (value_reads d n us vs rest e x q) (called (tok q) (answered refl)))))

-- 12.13, 12.7, 12.8, 12.9: statements by one keyword
simple_word : (d : ℕ) (w : List ℕ) (ts us rest : List Placed) (s : Stmt) → after d (word w ∷ []) ts ≡ Some us → ((at : ℕ) (zs : List Placed) → is_simple (put (word w) at ∷ zs) ≡ true) → Reads (goal.simple d) ts (Ok (s, rest)) → Reads (goal.statement d) ts (Ok (s, rest))
simple_word d w ts us rest s q f r = simple_reads d ts rest s (first_of d (word w) [] ts us (λ z. is_simple z ≡ true) q f) r

jump_word : (d : ℕ) (w : List ℕ) (ts us rest : List Placed) (s : Stmt) → after d (word w ∷ []) ts ≡ Some us
    → ((at : ℕ) (zs : List Placed) → (is_simple (put (word w) at ∷ zs) ≡ true) × (is_first (word (codes "var")) (put (word w) at ∷ zs) ≡ false) × (is_first (word (codes "delete")) (put (word w) at ∷ zs) ≡ false) × (is_first (word (codes "return")) (put (word w) at ∷ zs) ≡ false))
    → Reads (goal.jump d) ts (Ok (s, rest)) → Reads (goal.statement d) ts (Ok (s, rest))
jump_word d w ts us rest s q f r =
    let g = first_of d (word w) [] ts us (λ z. (is_simple z ≡ true) × (is_first (word (codes "var")) z ≡ false) × (is_first (word (codes "delete")) z ≡ false) × (is_first (word (codes "return")) z ≡ false)) q f in
    simple_reads d ts rest s g.0 (reads (failed g.1 (failed g.2 (failed g.3 (called r (answered refl))))))

block_not_if : {d : ℕ} {ts rest : List Placed} {ss : Stmts} → Block d ts rest ss → is_first (word (codes "if")) ts ≡ false
block_not_if (rule.block {d = d} {ts = ts} {us = us} q x r) = first_of d open_brace [] ts us (λ w. is_first (word (codes "if")) w ≡ false) q (λ at w. refl)

mutual
  pub statement_reads : {d : ℕ} {ts rest : List Placed} {s : Stmt} → Statement d ts rest s → is_first (word (codes "else")) rest ≡ false → Reads (goal.statement d) ts (Ok (s, rest))
  statement_reads (rule.declare {d = d} {n = n} {x = x} {ts = ts} {us = us} {vs = vs} {rest = rest} {e = e} p q y r) z =
      let a = parted d (word (codes "var")) (identifier_name x ∷ equals ∷ []) ts us q in
      let v = first_of d (word (codes "var")) (identifier_name x ∷ equals ∷ []) ts us (λ w. is_first (word (codes "var")) w ≡ true) q (λ at zs. refl) in
      simple_word d (codes "var") ts a.middle rest (tree.declare (at_of ts) x e) a.head (λ at zs. refl)
      (reads (held v (called (declaration_reads d n x ts us vs rest e p q y r) (answered refl))))
  statement_reads (rule.assign {d = d} {n = n} {x = x} {ts = ts} {us = us} {vs = vs} {rest = rest} {e = e} p q y r) z =
      let a = parted d (identifier_name x) (equals ∷ []) ts us q in
      let m = own_is_name x p in
      let atom = first_of d (identifier_name x) (equals ∷ []) ts us (λ w. begins_atom w ≡ true) q (λ at zs. name_begins x at zs m) in
      let two = second_of d (identifier_name x) equals [] ts us (λ w. (begins is_name_token w && is_second equals w) ≡ true) q (λ at c zs. ap (λ w. w && true) m) in
      let named : Reads (goal.named d) ts (Ok (tree.assign (at_of ts) x e, rest)) = reads (held two (called (own_reads d x ts a.middle p a.head) (called (tok a.rest) (called (value_reads d n us vs rest e y r) (called (tok r) (answered refl)))))) in
      reads (held atom (called named (answered refl)))
  statement_reads (rule.store {d = d} {n = n} {m = m} {l = l} {ts = ts} {us = us} {vs = vs} {ws = ws} {xs = xs} {ys = ys} {zs = zs} {rest = rest} {e = e} {i = i} {v = v} x q y r a w c) z =
      let whole : Expression d 12 (suc n) ts xs (tree.index (at_of ts) e i) = rule.index x q y r in
      let u = unnamed ts us (lone x refl) (first_of (d + n) open_bracket [] us vs not_next q (λ at k. (refl, refl))) in
      let h = first_of d equals [] xs ys (λ k. (begins_part k ≡ false) × (is_push k ≡ false) × (is_first equals k ≡ true)) a (λ at k. (refl, refl, refl)) in
      let store : Reads (goal.store d (at_of ts) (suc n) (tree.index (at_of ts) e i)) xs (Ok (tree.store (at_of ts) e i v, rest)) =
      reads (held (ap (λ b. b && true) (at_least n)) (called (tok a) (called (value_reads d l ys zs rest v w c) (called (tok c) (answered refl))))) in
      effect_reads d (suc n) ts xs rest (tree.index (at_of ts) e i) (tree.store (at_of ts) e i v) whole u h.0 (reads (failed h.1 (held h.2 (called store (answered refl)))))
  statement_reads (rule.perform {d = d} {n = n} {ts = ts} {us = us} {rest = rest} {e = e} p x q) z =
      let u = unnamed ts us (lone x refl) (first_of d semicolon [] us rest not_next q (λ at k. (refl, refl))) in
      let h = first_of d semicolon [] us rest (λ k. (begins_part k ≡ false) × (is_push k ≡ false) × (is_first equals k ≡ false)) q (λ at k. (refl, refl, refl)) in
      effect_reads d (suc n) ts us rest e (tree.perform (at_of ts) e) x u h.0
      (reads (failed h.1 (failed h.2 (held (ap (λ b. b && is_call e) (at_least n) ∙ p) (called (tok q) (answered refl))))))
  statement_reads (rule.push {d = d} {n = n} {m = m} {ts = ts} {us = us} {vs = vs} {ws = ws} {xs = xs} {rest = rest} {e = e} {v = v} x q y r c) z =
      let a = parted (d + n) dot (word (codes "push") ∷ left ∷ []) us vs q in
      let b = parted (d + n) (word (codes "push")) (left ∷ []) a.middle vs a.rest in
      let u = unnamed ts us (lone x refl) (first_of (d + n) dot (word (codes "push") ∷ left ∷ []) us vs not_next q (λ at k. (refl, refl))) in
      let h = second_of (d + n) dot (word (codes "push")) (left ∷ []) us vs (λ k. (begins_part k ≡ false) × (is_push k ≡ true)) q (λ at o k. (refl, refl)) in
      effect_reads d n ts us rest e (tree.push (at_of ts) e v) x u h.0
      (reads (held h.1 (called (tok a.head) (called (tok b.head) (called (tok b.rest) (called (enclosing (d + n) m right vs ws xs v (complete y) (follows_right (d + n) ws xs r) r) (called (tok c) (answered refl))))))))
  statement_reads (rule.remove {d = d} {n = n} {m = m} {ts = ts} {us = us} {vs = vs} {ws = ws} {xs = xs} {ys = ys} {rest = rest} {e = e} {k = k} q x a y r c) z =
      let whole : Expression d 12 (suc n) us ys (tree.index (at_of us) e k) = rule.index x a y r in
      let stop = first_of d semicolon [] ys rest (λ w. begins_part w ≡ false) c (λ at w. refl) in
      let post : Reads (goal.post d) us (Ok ((tree.index (at_of us) e k, suc n), ys)) = (complete whole).parts refl (tree.index (at_of us) e k, suc n) ys (parts_stop d (at_of us) (suc n) (tree.index (at_of us) e k) ys stop) in
      let remove : Reads (goal.remove d) ts (Ok (tree.remove (at_of ts) e k, rest)) = reads (called (tok q) (called post (held (ap (λ b. b && true) (at_least n)) (called (tok c) (answered refl))))) in
      let v = first_of d (word (codes "delete")) [] ts us (λ w. (is_first (word (codes "var")) w ≡ false) × (is_first (word (codes "delete")) w ≡ true)) q (λ at w. (refl, refl)) in
      simple_word d (codes "delete") ts us rest (tree.remove (at_of ts) e k) q (λ at w. refl) (reads (failed v.0 (held v.1 (called remove (answered refl)))))
  statement_reads (rule.branch {d = d} {n = n} {ts = ts} {us = us} {vs = vs} {ws = ws} {xs = xs} {rest = rest} {t = t} {ss = ss} {other = other} q x r b o) z =
      let branch : Reads (goal.branch d) ts (Ok (tree.branch (at_of ts) t ss other, rest)) = reads (called (tested_reads d n (word (codes "if")) ts us vs ws t q x r) (called (block_reads b) (called (otherwise_reads o z) (answered refl)))) in
      let h = first_of d (word (codes "if")) (left ∷ []) ts us (λ w. (begins_atom w ≡ false) × (is_first (word (codes "if")) w ≡ true)) q (λ at w. (refl, refl)) in
      reads (failed h.0 (held h.1 (called branch (answered refl))))
  statement_reads (rule.while {d = d} {n = n} {l = l} {ts = ts} {us = us} {vs = vs} {ws = ws} {xs = xs} {rest = rest} {t = t} {ss = ss} lab q x r b) z =
      let h = first_of d (word (codes "while")) (left ∷ []) us vs (λ w. is_first (word (codes "while")) w ≡ true) q (λ at w. refl) in
      label_reads d (codes "while") (left ∷ []) ts us vs rest l (tree.while (at_of ts) l t ss) lab q (λ at w. (refl, refl, refl, refl))
      (reads (held h (called (tested_reads d n (word (codes "while")) us vs ws xs t q x r) (called (block_reads b) (answered refl)))))
  statement_reads (rule.forever {d = d} {l = l} {ts = ts} {us = us} {vs = vs} {ws = ws} {xs = xs} {rest = rest} {ss = ss} lab q a r b) z =
      let h = first_of d (word (codes "for")) (left ∷ []) us vs (λ w. (is_first (word (codes "while")) w ≡ false) × (is_first (word (codes "for")) w ≡ true)) q (λ at w. (refl, refl)) in
      let p = parted d (word (codes "for")) (left ∷ []) us vs q in
      let p2 = parted (suc d) semicolon (semicolon ∷ []) vs ws a in
      let turns : Reads (goal.forever d) us (Ok (tt, xs)) = reads (called (tok p.head) (called (tok p.rest) (called (tok (down d (semicolon ∷ []) vs p2.middle p2.head)) (called (tok (down d (semicolon ∷ []) p2.middle ws p2.rest)) (called (tok r) (answered refl)))))) in
      label_reads d (codes "for") (left ∷ []) ts us vs rest l (tree.forever (at_of ts) l ss) lab q (λ at w. (refl, refl, refl, refl))
      (reads (failed h.0 (held h.1 (called turns (called (block_reads b) (answered refl))))))
  statement_reads (rule.switch {d = d} {n = n} {l = l} {ts = ts} {us = us} {vs = vs} {ws = ws} {xs = xs} {ys = ys} {rest = rest} {e = e} {cs = cs} lab q x r b c) z =
      let h = first_of d (word (codes "switch")) (left ∷ []) us vs (λ w. (is_first (word (codes "while")) w ≡ false) × (is_first (word (codes "for")) w ≡ false)) q (λ at w. (refl, refl)) in
      let p = parted d right (open_brace ∷ []) ws xs r in
      let end = first_of d close_brace [] ys rest (λ w. (ends_statements w ≡ true) × (is_first (word (codes "case")) w ≡ false) × (is_first (word (codes "default")) w ≡ false)) c (λ at w. (refl, refl, refl)) in
      let all : Reads (goal.clauses (d + 1) []) xs (Ok (cs, ys)) = lifted (λ w. Reads (goal.clauses w []) xs (Ok (cs, ys))) d (clauses_read b end.0 end.1 end.2 []) in
      label_reads d (codes "switch") (left ∷ []) ts us vs rest l (tree.switch (at_of ts) l e cs) lab q (λ at w. (refl, refl, refl, refl))
      (reads (failed h.0 (failed h.1 (called (tested_reads d n (word (codes "switch")) us vs ws p.middle e q x p.head) (called (tok p.rest) (called all (called (tok c) (answered refl))))))))
  statement_reads (rule.return {d = d} {ts = ts} {us = us} {vs = vs} {rest = rest} {e = e} q x r) z =
      let v = first_of d (word (codes "return")) [] ts us (λ w. (is_first (word (codes "var")) w ≡ false) × (is_first (word (codes "delete")) w ≡ false) × (is_first (word (codes "return")) w ≡ true)) q (λ at w. (refl, refl, refl)) in
      simple_word d (codes "return") ts us rest (tree.return (at_of ts) e) q (λ at w. refl) (reads (failed v.0 (failed v.1 (held v.2 (called (returned_reads d ts us vs rest e q x r) (answered refl))))))
  statement_reads (rule.throw {d = d} {n = n} {ts = ts} {us = us} {vs = vs} {rest = rest} {e = e} q x r) z =
      let v = first_of d (word (codes "throw")) [] ts us (λ w. is_first (word (codes "throw")) w ≡ true) q (λ at w. refl) in
      jump_word d (codes "throw") ts us rest (tree.throw (at_of ts) e) q (λ at w. (refl, refl, refl, refl)) (reads (held v (called (tok q) (called (value_reads d n us vs rest e x r) (called (tok r) (answered refl))))))
  statement_reads (rule.break {d = d} {l = l} {ts = ts} {us = us} {vs = vs} {rest = rest} q x r) z =
      let v = first_of d (word (codes "break")) [] ts us (λ w. (is_first (word (codes "throw")) w ≡ false) × (is_first (word (codes "break")) w ≡ true)) q (λ at w. (refl, refl)) in
      jump_word d (codes "break") ts us rest (tree.break (at_of ts) l) q (λ at w. (refl, refl, refl, refl)) (reads (failed v.0 (held v.1 (called (tok q) (called (target_reads d us vs rest l x r) (called (tok r) (answered refl)))))))
  statement_reads (rule.continue {d = d} {l = l} {ts = ts} {us = us} {vs = vs} {rest = rest} q x r) z =
      let v = first_of d (word (codes "continue")) [] ts us (λ w. (is_first (word (codes "throw")) w ≡ false) × (is_first (word (codes "break")) w ≡ false)) q (λ at w. (refl, refl)) in
      jump_word d (codes "continue") ts us rest (tree.continue (at_of ts) l) q (λ at w. (refl, refl, refl, refl)) (reads (failed v.0 (failed v.1 (called (tok q) (called (target_reads d us vs rest l x r) (called (tok r) (answered refl)))))))
  statement_reads (rule.attempt {d = d} {ts = ts} {us = us} {vs = vs} {ws = ws} {xs = xs} {ys = ys} {rest = rest} {ss = ss} {handler = handler} q b r s t h) z =
      let p = parted d (word (codes "catch")) (left ∷ []) vs ws r in
      let attempt : Reads (goal.attempt d) ts (Ok (tree.attempt (at_of ts) ss handler, rest)) =
      reads (called (tok q) (called (block_reads b) (called (tok p.head) (called (tok p.rest) (called (tok (down d (identifier_name (codes "$catch") ∷ []) ws xs s)) (called (tok t) (called (block_reads h) (answered refl)))))))) in
      let f = first_of d (word (codes "try")) [] ts us (λ w. (begins_atom w ≡ false) × (is_first (word (codes "if")) w ≡ false) × (is_first (word (codes "try")) w ≡ true)) q (λ at w. (refl, refl, refl)) in
      reads (failed f.0 (failed f.1 (held f.2 (called attempt (answered refl)))))

  statements_read : {d : ℕ} {ts rest : List Placed} {ss : Stmts} → Statements d ts rest ss → ends_statements rest ≡ true → (front : List Stmt) → Reads (goal.statements d front) ts (Ok (stmts_of (front ++ list_of ss), rest))
  statements_read (rule.no_statements {ts = ts}) q front = reads (held q (answered (ap (λ z. stmts_ok (stmts_of z) ts) (sym (append-nil front)))))
  statements_read (rule.statements {us = us} {rest = rest} {s = s} {ss = ss} x xs) q front =
      reads (failed (starts x).goes_on (called (statement_reads x (after_first xs q)) (called (statements_read xs q (front ++ s ∷ []))
      (answered (ap (λ z. stmts_ok (stmts_of z) rest) (append_assoc front (s ∷ []) (list_of ss)))))))

  block_reads : {d : ℕ} {ts rest : List Placed} {ss : Stmts} → Block d ts rest ss → Reads (goal.block d) ts (Ok (ss, rest))
  block_reads (rule.block {d = d} {us = us} {vs = vs} {rest = rest} {ss = ss} q x r) =
      let end = first_of d close_brace [] vs rest (λ w. ends_statements w ≡ true) r (λ at w. refl) in
      let inside : Reads (goal.statements (d + 1) []) us (Ok (ss, vs)) = lifted (λ w. Reads (goal.statements w []) us (Ok (ss, vs))) d (all_read (suc d) us vs ss (statements_read x end [])) in
      reads (called (tok q) (called inside (called (tok r) (answered refl))))

  otherwise_reads : {d : ℕ} {ts rest : List Placed} {other : Else} → Otherwise d ts rest other → is_first (word (codes "else")) rest ≡ false → Reads (goal.otherwise d) ts (Ok (other, rest))
  otherwise_reads rule.nothing_otherwise z = reads (failed z (answered refl))
  otherwise_reads (rule.block_otherwise {d = d} {ts = ts} {us = us} {rest = rest} {ss = ss} q b) z =
      let h = first_of d (word (codes "else")) [] ts us (λ w. is_first (word (codes "else")) w ≡ true) q (λ at w. refl) in
      reads (held h (called (tok q) (failed (block_not_if b) (called (lifted (λ w. Reads (goal.block w) us (Ok (ss, rest))) d (block_reads b)) (answered refl)))))
  otherwise_reads (rule.branch_otherwise {d = d} {n = n} {ts = ts} {us = us} {vs = vs} {ws = ws} {xs = xs} {ys = ys} {rest = rest} {t = t} {ss = ss} {other = other} q a x r b o) z =
      let h = first_of d (word (codes "else")) [] ts us (λ w. is_first (word (codes "else")) w ≡ true) q (λ at w. refl) in
      let k = first_of (suc d) (word (codes "if")) (left ∷ []) us vs (λ w. is_first (word (codes "if")) w ≡ true) a (λ at w. refl) in
      reads (held h (called (tok q) (held k
      (called (lifted (λ w. Reads (goal.tested w (word (codes "if"))) us (Ok (t, xs))) d (tested_reads (suc d) n (word (codes "if")) us vs ws xs t a x r))
      (called (lifted (λ w. Reads (goal.block w) xs (Ok (ss, ys))) d (block_reads b))
      (called (lifted (λ w. Reads (goal.otherwise w) ys (Ok (other, rest))) d (otherwise_reads o z)) (answered refl)))))))

  clauses_read : {d : ℕ} {ts rest : List Placed} {cs : Cases} → CaseClauses d ts rest cs → ends_statements rest ≡ true → is_first (word (codes "case")) rest ≡ false → is_first (word (codes "default")) rest ≡ false → (front : List (Cases → Cases)) → Reads (goal.clauses d front) ts (Ok (cases_of front cs, rest))
  clauses_read rule.no_clauses e c f front = reads (failed c (failed f (answered refl)))
  clauses_read (rule.default_clause {d = d} {ts = ts} {us = us} {rest = rest} {ss = ss} a x) e c f front =
      let p = parted d (word (codes "default")) (colon ∷ []) ts us a in
      let h = first_of d (word (codes "default")) (colon ∷ []) ts us (λ w. (is_first (word (codes "case")) w ≡ false) × (is_first (word (codes "default")) w ≡ true)) a (λ at w. (refl, refl)) in
      reads (failed h.0 (held h.1 (called (tok p.head) (called (tok p.rest) (called (all_read d us rest ss (statements_read x e [])) (answered refl))))))
  clauses_read (rule.case_clause {d = d} {n = n} {ts = ts} {us = us} {vs = vs} {rest = rest} {ss = ss} {cs = cs} a x xs) e c f front =
      let p = parted d (word (codes "case")) (numeric_literal n ∷ colon ∷ []) ts us a in
      let p2 = parted d (numeric_literal n) (colon ∷ []) p.middle us p.rest in
      let h = first_of d (word (codes "case")) (numeric_literal n ∷ colon ∷ []) ts us (λ w. is_first (word (codes "case")) w ≡ true) a (λ at w. refl) in
      let one : Reads (goal.clause d) ts (Ok (tree.case n ss, vs)) = reads (called (tok p.head) (called (number_reads d n p.middle p2.middle p2.head) (called (tok p2.rest) (called (all_read d us vs ss (statements_read x (clauses_end xs e) [])) (answered refl))))) in
      reads (held h (called one (called (clauses_read xs e c f (front ++ tree.case n ss ∷ [])) (answered (ap (λ z. cases_ok z rest) (clauses_push front (tree.case n ss) cs))))))

abbrev names_ok : List Name → List Placed → Result (List Name × List Placed) ReadRefusal
names_ok xs us = Ok (xs, us)

abbrev items_ok : List Item → List Placed → Result (List Item × List Placed) ReadRefusal
items_ok xs us = Ok (xs, us)

more_parameters_read : {ts us : List Placed} {xs : List Name} → MoreParameters ts us xs → is_first comma us ≡ false → (front : List Name) → Reads (goal.more_parameters front) ts (Ok (front ++ xs, us))
more_parameters_read (rule.no_more_parameters {ts = ts}) q front = reads (failed q (answered (ap (λ z. names_ok z ts) (sym (append-nil front)))))
more_parameters_read (rule.more_parameters {x = x} {xs = xs} {ts = ts} {us = us} {rest = rest} p a m) q front =
    let b = parted 1 comma (identifier_name x ∷ []) ts us a in
    let h = first_of 1 comma (identifier_name x ∷ []) ts us (λ w. is_first comma w ≡ true) a (λ at w. refl) in
    reads (held h (called (tok b.head) (called (own_reads 1 x b.middle us p b.rest) (called (more_parameters_read m q (front ++ x ∷ [])) (answered (ap (λ z. names_ok z rest) (append_assoc front (x ∷ []) xs)))))))

parameters_read : {ts us : List Placed} {xs : List Name} → Parameters ts us xs → (rest : List Placed) → after 0 (right ∷ []) us ≡ Some rest → Reads goal.parameters ts (Ok (xs, us))
parameters_read (rule.no_parameters {ts = ts}) rest q = reads (held (first_of 0 right [] ts rest (λ w. is_first right w ≡ true) q (λ at w. refl)) (answered refl))
parameters_read (rule.parameters {x = x} {xs = xs} {ts = ts} {us = us} {rest = vs} p a m) rest q =
    let stop = first_of 0 right [] vs rest (λ w. is_first comma w ≡ false) q (λ at w. refl) in
    let h = first_of 1 (identifier_name x) [] ts us (λ w. is_first right w ≡ false) a (λ at w. refl) in
    reads (failed h (called (own_reads 1 x ts us p a) (called (more_parameters_read m stop (x ∷ [])) (answered refl))))

abbrev item_first : List Placed → Bool
item_first ts = is_first (word (codes "function")) ts || is_first (word (codes "var")) ts

pub items_read : {ts us : List Placed} {is : List Item} → Items ts us is → item_first us ≡ false → (front : List Item) → Reads (goal.items front) ts (Ok (front ++ is, us))
items_read (rule.no_items {ts = ts}) q front = reads (failed q (answered (ap (λ z. items_ok z ts) (sym (append-nil front)))))
items_read (rule.function {x = x} {xs = xs} {ts = ts} {us = us} {vs = vs} {ws = ws} {ys = ys} {rest = rest} {ss = ss} {items = items} p a m r b more) q front =
    let c = parted 0 (word (codes "function")) (identifier_name x ∷ left ∷ []) ts us a in
    let d = parted 0 (identifier_name x) (left ∷ []) c.middle us c.rest in
    let h = first_of 0 (word (codes "function")) (identifier_name x ∷ left ∷ []) ts us (λ w. (item_first w ≡ true) × (is_first (word (codes "var")) w ≡ false)) a (λ at w. (refl, refl)) in
    let i : Item = function_item (record { name = x; params = xs; body = ss; at = at_of ts }) in
    let one : Reads goal.item ts (Ok (i, ys)) = reads (failed h.1 (called (tok c.head) (called (own_reads 0 x c.middle d.middle p d.head) (called (tok d.rest) (called (parameters_read m ws r) (called (tok r) (called (block_reads b) (answered refl)))))))) in
    reads (held h.0 (called one (called (items_read more q (front ++ i ∷ [])) (answered (ap (λ z. items_ok z rest) (append_assoc front (i ∷ []) items))))))
items_read (rule.global {n = n} {x = x} {ts = ts} {us = us} {vs = vs} {ws = ws} {rest = rest} {e = e} {items = items} p a y r more) q front =
    let h = first_of 0 (word (codes "var")) (identifier_name x ∷ equals ∷ []) ts us (λ w. (item_first w ≡ true) × (is_first (word (codes "var")) w ≡ true)) a (λ at w. (refl, refl)) in
    let i : Item = global_item (at_of ts) x e in
    let one : Reads goal.item ts (Ok (i, ws)) = reads (held h.1 (called (declaration_reads 0 n x ts us vs ws e p a y r) (answered refl))) in
    reads (held h.0 (called one (called (items_read more q (front ++ i ∷ [])) (answered (ap (λ z. items_ok z rest) (append_assoc front (i ∷ []) items))))))

name_reads : (d : ℕ) (x : Name) (ts us : List Placed) → IsTrue (is_name x) → after d (identifier_name x ∷ []) ts ≡ Some us → Reads (goal.name d) ts (Ok (x, us))
name_reads d x ts us p q =
    let h = head_of d (identifier_name x) ts us q in
    let both : (is_name x && fits d) ≡ true = ap (λ b. b && fits d) p ∙ h.deep in
    from_head (λ z. Reads (goal.name d) z (Ok (x, us))) h (reads (answered (ap (λ b. if b then name_ok x us else Err (refusal.Syntax 0)) both)))

name_no_item : (x : Name) (at : ℕ) (us : List Placed) → is_name x ≡ true → item_first (put (identifier_name x) at ∷ us) ≡ false
name_no_item x at us p =
    let o = name_begins x at us p in
    let a = excluded opens (word (codes "function")) (put (identifier_name x) at ∷ us) (λ b w. refl) (or_left (begins_atom (put (identifier_name x) at ∷ us)) _ o) in
    let b = excluded opens (word (codes "var")) (put (identifier_name x) at ∷ us) (λ b w. refl) (or_left (begins_atom (put (identifier_name x) at ∷ us)) _ o) in
    ap (λ z. z || is_first (word (codes "var")) (put (identifier_name x) at ∷ us)) a ∙ b

abbrev script_answer : ScriptTree → Result (ScriptTree × List Placed) ReadRefusal
script_answer s = Ok (s, [])

script_ok : (s : ScriptTree) (start : List Placed) → s.start_at ≡ at_of start → script_answer (record { items = s.items; start = s.start; start_at = at_of start }) ≡ script_answer s
script_ok s start q = ap (λ z. script_answer (record { items = s.items; start = s.start; start_at = z })) (sym q)

-- the tokens of a script are read as it, to the last
pub whole_reads : (ts : List Placed) (s : ScriptTree) → Body ts s → Reads goal.whole ts (Ok (s, []))
whole_reads ts s b =
    let p = parted 0 (identifier_name s.start) (left ∷ right ∷ semicolon ∷ []) b.start [] b.call in
    let p2 = parted 0 left (right ∷ semicolon ∷ []) p.middle [] p.rest in
    let p3 = parted 0 right (semicolon ∷ []) p2.middle [] p2.rest in
    let stop = first_of 0 (identifier_name s.start) (left ∷ right ∷ semicolon ∷ []) b.start [] (λ w. item_first w ≡ false) b.call (λ at w. name_no_item s.start at w b.is_name) in
    reads (called (items_read b.items stop []) (called (name_reads 0 s.start b.start p.middle b.is_name p.head) (called (tok p2.head) (called (tok p3.head) (called (tok p3.rest) (answered (script_ok s b.start b.at)))))))
