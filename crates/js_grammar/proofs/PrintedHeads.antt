-- The first byte of a printed expression.
use Rattle.std.proofs.Common.{arith, ◌≡◌, ◌∙◌, sym, ap, ℕ, suc, ◌+◌, ◌≤◌, List, [], ◌∷◌, ◌++◌, Bool, true, false, refl}
use Rattle.std.specs.Prelude.{◌==◌, ◌&&◌, nat_lt, codes, if◌then◌else◌}
use Rattle.std.specs.Fmt.{decimal}
use Rattle.std.proofs.lemmas.Bool.{eqb-true, ltb-false}
use Rattle.js_tree.specs.Script.{Expr, number, string, boolean, null, name, unary, binary, both, either, choice, call, index, length_of, pop, char_code_at, substring, array, dictionary, decimal_of, from_char_code, Exprs}
use Rattle.js_tree.specs.Printed.{op_level, level, negates, is_number, dot_level, in_parentheses, within, before_dot, expr_text, exprs_text, bytes_text, dictionary_word, string_word, from_char_code_word, begins_within, begins_with_word}
use Rattle.js_tree.specs.Printable.{is_name, is_name_byte, is_in_range, fits, depth_within, parts, expr_fits, exprs_fit}
use Rattle.js_tree.specs.declared.tree.UnaryOp.{UnaryOp}
use Rattle.js_tree.specs.declared.tree.UnaryOp.TheVariants.{Negate, Complement, Not}
use Rattle.js_grammar.proofs.Words.{both_true, decimal_headed, digit_is_name}
use Rattle.js_grammar.proofs.PrintedTokens.{name_first}
use Rattle.js_grammar.proofs.PrintedLevels.{op_bound, differs}

-- the first byte of an expression's text
pub record Lead (w : List ℕ) (e : Expr) : Type 0 where
  pub c : ℕ
  pub cs : List ℕ
  pub is : w ≡ c ∷ cs
  pub goes : is_name_byte c ≡ begins_with_word e
  pub equals : (61 == c) ≡ false
  pub minus : 11 ≤ level e → negates e ≡ false → (45 == c) ≡ false

-- the same where one of level k may stand
pub record LeadWithin (k : ℕ) (w : List ℕ) (e : Expr) : Type 0 where
  pub c : ℕ
  pub cs : List ℕ
  pub is : w ≡ c ∷ cs
  pub goes : is_name_byte c ≡ begins_within k e (begins_with_word e)
  pub equals : (61 == c) ≡ false
  pub minus : 11 ≤ k → negates e ≡ false → (45 == c) ≡ false
  pub part : 12 ≤ k → (45 == c) ≡ false

not_by : (b : Bool) (k c : ℕ) → (k == c) ≡ b → is_name_byte c ≡ true → is_name_byte k ≡ false → (k == c) ≡ false
not_by false k c p q r = p
not_by true k c p q r = let e : k ≡ c = eqb-true k c p in differs (is_name_byte k) (ap is_name_byte e ∙ q) r

-- a byte of a name is no sign
not_name : (k c : ℕ) → is_name_byte c ≡ true → is_name_byte k ≡ false → (k == c) ≡ false
not_name k c q r = not_by (k == c) k c refl q r

-- what begins with a byte of a name
word_lead : (w : List ℕ) (e : Expr) (c : ℕ) (cs : List ℕ) → w ≡ c ∷ cs → is_name_byte c ≡ true → begins_with_word e ≡ true → Lead w e
word_lead w e c cs q n b = record { c = c; cs = cs; is = q; goes = n ∙ sym b; equals = not_name 61 c n refl; minus = λ le no. not_name 45 c n refl }

-- what is not negated and has no operator
part_none : (e : Expr) → 12 ≤ level e → negates e ≡ false
part_none (unary at op e) le = absurd (omega (arith, le))
part_none e le = refl

-- the first byte of an expression that fits
abbrev pub Leads : Expr → Type 0
Leads e = (c : ℕ) → expr_fits c e ≡ true → Lead (expr_text e) e

lead_by : (b : Bool) (k d : ℕ) (e : Expr) → nat_lt (level e) k ≡ b → Leads e → expr_fits (if b then suc d else d) e ≡ true → LeadWithin k (if b then in_parentheses (expr_text e) else expr_text e) e
lead_by true k d e p f q = record {
  c = 40;
  cs = expr_text e ++ 41 ∷ [];
  is = refl;
  goes = ap (λ b. if b then false else begins_with_word e) (sym p);
  equals = refl;
  minus = λ le no. refl;
  part = λ le. refl;
}
lead_by false k d e p f q =
    let h = f d q in
    let le = ltb-false (level e) k p in
    record {
      c = h.c;
      cs = h.cs;
      is = h.is;
      goes = h.goes ∙ ap (λ b. if b then false else begins_with_word e) (sym p);
      equals = h.equals;
      minus = λ el no. h.minus (omega (arith, el, le)) no;
      part = λ tw. h.minus (omega (arith, tw, le)) (part_none e (omega (arith, tw, le)));
    }

pub lead_within : (k d : ℕ) (e : Expr) → Leads e → expr_fits (depth_within k d e) e ≡ true → LeadWithin k (within k e (expr_text e)) e
lead_within k d e f q = lead_by (nat_lt (level e) k) k d e refl f q

-- an expression that begins with another, where one of level k may stand
front_lead : (k : ℕ) (w : List ℕ) (a e : Expr) → LeadWithin k w a → begins_with_word e ≡ begins_within k a (begins_with_word a) → (11 ≤ level e → 12 ≤ k) → Lead w e
front_lead k w a e h b le = record {
  c = h.c;
  cs = h.cs;
  is = h.is;
  goes = h.goes ∙ sym b;
  equals = h.equals;
  minus = λ el no. h.part (le el);
}

longer : (w more : List ℕ) (e : Expr) → Lead w e → Lead (w ++ more) e
longer w more e h = record { c = h.c; cs = h.cs ++ more; is = ap (λ z. z ++ more) h.is; goes = h.goes; equals = h.equals; minus = h.minus }

dot_by : (b : Bool) → 12 ≤ (if b then 13 else 12)
dot_by true = omega arith
dot_by false = omega arith

twelve_dot : (e : Expr) → 12 ≤ dot_level e
twelve_dot e = dot_by (is_number e)

number_lead : (at n d : ℕ) → expr_fits d (number at n) ≡ true → Lead (decimal n) (number at n)
number_lead at n d q =
    let h = decimal_headed n (both_true (fits d) (is_in_range n) q).1 in
    word_lead (decimal n) (number at n) h.c h.cs h.is (digit_is_name h.c h.head) refl

name_lead : (at : ℕ) (x : List ℕ) (d : ℕ) → expr_fits d (name at x) ≡ true → Lead x (name at x)
name_lead at x d q =
    let h = name_first x (both_true (fits d) (is_name x) q).1 in
    word_lead x (name at x) 36 h.0 h.1 refl refl

bool_lead : (at : ℕ) (b : Bool) → Lead (expr_text (boolean at b)) (boolean at b)
bool_lead at true = word_lead (codes "true") (boolean at true) 116 (codes "rue") refl refl refl
bool_lead at false = word_lead (codes "false") (boolean at false) 102 (codes "alse") refl refl refl

if_minus : (b : Bool) (w : List ℕ) → (cs : List ℕ) × ((if b then codes "- " else codes "-") ++ w ≡ 45 ∷ cs)
if_minus true w = (32 ∷ w, refl)
if_minus false w = (w, refl)

unary_lead : (at : ℕ) (op : UnaryOp) (e : Expr) → Lead (expr_text (unary at op e)) (unary at op e)
unary_lead at Negate e =
    let h = if_minus (negates e) (within 11 e (expr_text e)) in
    record { c = 45; cs = h.0; is = h.1; goes = refl; equals = refl; minus = λ le no. differs true refl no }
unary_lead at Complement e = record { c = 126; cs = within 11 e (expr_text e); is = refl; goes = refl; equals = refl; minus = λ le no. refl }
unary_lead at Not e = record { c = 33; cs = within 11 e (expr_text e); is = refl; goes = refl; equals = refl; minus = λ le no. refl }

array_lead : (at : ℕ) (es : Exprs) → Lead (codes "[" ++ exprs_text es ++ codes "]") (array at es)
array_lead at es = record { c = 91; cs = exprs_text es ++ codes "]"; is = refl; goes = refl; equals = refl; minus = λ le no. refl }

string_lead : (at : ℕ) (s : List ℕ) → Lead (expr_text (string at s)) (string at s)
string_lead at s = record { c = 34; cs = bytes_text s ++ codes "\""; is = refl; goes = refl; equals = refl; minus = λ le no. refl }

dictionary_lead : (at : ℕ) → Lead dictionary_word (dictionary at)
unfolding dictionary_word
dictionary_lead at = word_lead (codes "Object.create(null)") (dictionary at) 79 (codes "bject.create(null)") refl refl refl

string_of_lead : (at : ℕ) (e : Expr) (more : List ℕ) → Lead (string_word ++ more) (decimal_of at e)
unfolding string_word
string_of_lead at e more = word_lead (codes "String(" ++ more) (decimal_of at e) 83 (codes "tring(" ++ more) refl refl refl

char_code_lead : (at : ℕ) (e : Expr) (more : List ℕ) → Lead (from_char_code_word ++ more) (from_char_code at e)
unfolding from_char_code_word
char_code_lead at e more = word_lead (codes "String.fromCharCode(" ++ more) (from_char_code at e) 83 (codes "tring.fromCharCode(" ++ more) refl refl refl

-- the first byte of each expression that fits
pub lead : (e : Expr) (d : ℕ) → expr_fits d e ≡ true → Lead (expr_text e) e
lead (number at n) d q = number_lead at n d q
lead (string at s) d q = string_lead at s
lead (boolean at b) d q = bool_lead at b
lead (null at) d q = word_lead (codes "null") (null at) 110 (codes "ull") refl refl refl
lead (name at x) d q = name_lead at x d q
lead (unary at op e) d q = unary_lead at op e
lead (binary at op a b) d q =
    let p = (both_true (expr_fits (depth_within (op_level op) d a) a) _ q).0 in
    let m = op_bound op in
    longer _ _ (binary at op a b) (longer _ _ (binary at op a b) (front_lead (op_level op) (within (op_level op) a (expr_text a)) a (binary at op a b) (lead_within (op_level op) d a (lead a) p) refl (λ le. absurd (omega (arith, le, m)))))
lead (both at a b) d q =
    longer _ _ (both at a b) (longer _ _ (both at a b) (front_lead 2 (within 2 a (expr_text a)) a (both at a b) (lead_within 2 d a (lead a) (both_true (expr_fits (depth_within 2 d a) a) _ q).0) refl (λ le. absurd (omega (arith, le)))))
lead (either at a b) d q =
    longer _ _ (either at a b) (longer _ _ (either at a b) (front_lead 1 (within 1 a (expr_text a)) a (either at a b) (lead_within 1 d a (lead a) (both_true (expr_fits (depth_within 1 d a) a) _ q).0) refl (λ le. absurd (omega (arith, le)))))
lead (choice at t a b) d q =
    longer _ _ (choice at t a b) (longer _ _ (choice at t a b) (longer _ _ (choice at t a b) (longer _ _ (choice at t a b) (front_lead 1 (within 1 t (expr_text t)) t (choice at t a b) (lead_within 1 d t (lead t) (both_true (expr_fits (depth_within 1 d t) t) (expr_fits (suc d) a) (both_true (expr_fits (depth_within 1 d t) t && expr_fits (suc d) a) (expr_fits (suc d) b) q).0).0) refl (λ le. absurd (omega (arith, le)))))))
lead (call at f es) d q =
    longer _ _ (call at f es) (longer _ _ (call at f es) (longer _ _ (call at f es) (front_lead 12 (within 12 f (expr_text f)) f (call at f es) (lead_within 12 d f (lead f) (both_true (expr_fits (depth_within 12 d f) f) (fits (d + parts f)) (both_true (expr_fits (depth_within 12 d f) f && fits (d + parts f)) (exprs_fit (suc (d + parts f)) es) q).0).0) refl (λ le. omega arith))))
lead (index at e i) d q =
    longer _ _ (index at e i) (longer _ _ (index at e i) (longer _ _ (index at e i) (front_lead 12 (within 12 e (expr_text e)) e (index at e i) (lead_within 12 d e (lead e) (both_true (expr_fits (depth_within 12 d e) e) _ q).0) refl (λ le. omega arith))))
lead (length_of at e) d q =
    longer _ _ (length_of at e) (front_lead (dot_level e) (before_dot e (expr_text e)) e (length_of at e) (lead_within (dot_level e) d e (lead e) (both_true (expr_fits (depth_within (dot_level e) d e) e) _ q).0) refl (λ le. twelve_dot e))
lead (pop at e) d q =
    longer _ _ (pop at e) (front_lead (dot_level e) (before_dot e (expr_text e)) e (pop at e) (lead_within (dot_level e) d e (lead e) (both_true (expr_fits (depth_within (dot_level e) d e) e) _ q).0) refl (λ le. twelve_dot e))
lead (char_code_at at e i) d q =
    longer _ _ (char_code_at at e i) (longer _ _ (char_code_at at e i) (longer _ _ (char_code_at at e i) (front_lead (dot_level e) (before_dot e (expr_text e)) e (char_code_at at e i) (lead_within (dot_level e) d e (lead e) (both_true (expr_fits (depth_within (dot_level e) d e) e) _ q).0) refl (λ le. twelve_dot e))))
lead (substring at e i j) d q =
    longer _ _ (substring at e i j) (longer _ _ (substring at e i j) (longer _ _ (substring at e i j) (longer _ _ (substring at e i j) (longer _ _ (substring at e i j) (front_lead (dot_level e) (before_dot e (expr_text e)) e (substring at e i j) (lead_within (dot_level e) d e (lead e) (both_true (expr_fits (depth_within (dot_level e) d e) e) (expr_fits (suc (d + parts e)) i) (both_true (expr_fits (depth_within (dot_level e) d e) e && expr_fits (suc (d + parts e)) i) (expr_fits (suc (d + parts e)) j) q).0).0) refl (λ le. twelve_dot e))))))
lead (array at es) d q = array_lead at es
lead (dictionary at) d q = dictionary_lead at
lead (decimal_of at e) d q = longer _ _ (decimal_of at e) (string_of_lead at e (expr_text e))
lead (from_char_code at e) d q = longer _ _ (from_char_code at e) (char_code_lead at e (expr_text e))
