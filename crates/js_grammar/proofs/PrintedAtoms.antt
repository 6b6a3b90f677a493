-- Printed literals, names, brackets and conversions.
use Rattle.std.proofs.Common.{◌≡◌, sym, subst, ap, ap₂, ℕ, suc, ◌+◌, List, [], ◌∷◌, ◌++◌, length, Bool, true, false, refl, append_assoc}
use Rattle.std.specs.Prelude.{not, codes}
use Rattle.std.specs.List.{list_all}
use Rattle.js_tree.specs.Lexical.{Token, identifier_name, numeric_literal, string_literal, Placed, Splits, is_token, ends, spelling, is_restricted}
use Rattle.js_tree.specs.Script as tree
use Rattle.js_tree.specs.Script.{Expr, Exprs, no_exprs, expr}
use Rattle.js_tree.specs.Erase.{erase_expr, erase_exprs}
use Rattle.js_tree.specs.Printed.{expr_text, exprs_text, more_text, dictionary_word, string_word, from_char_code_word}
use Rattle.js_tree.specs.Printable.{fits, is_name, is_in_range, is_byte}
use Rattle.js_tree.specs.Scripts as rule
use Rattle.js_tree.specs.Scripts.{at_of, word, sign, Expression, Expressions, MoreExpressions}
use Rattle.js_grammar.specs.Steps.{left, right, open_bracket, close_bracket, dot, comma}
use Rattle.js_grammar.proofs.Splitting.{put}
use Rattle.js_grammar.proofs.PrintedTokens.{stops, name_stops, number_stops, first, spaced, past, past_one, name_first, name_token, Shown}
use Rattle.js_grammar.proofs.PrintedWithin.{retext}
use Rattle.js_grammar.proofs.PrintedLevels.{step_deep}

pub three : (a b c r : List ℕ) → ((a ++ b) ++ c) ++ r ≡ a ++ (b ++ (c ++ r))
three a b c r = simp append_assoc

pub four : (a b c d r : List ℕ) → (((a ++ b) ++ c) ++ d) ++ r ≡ a ++ (b ++ (c ++ (d ++ r)))
four a b c d r = simp append_assoc

pub five : (a b c d e r : List ℕ) → ((((a ++ b) ++ c) ++ d) ++ e) ++ r ≡ a ++ (b ++ (c ++ (d ++ (e ++ r))))
five a b c d e r = simp append_assoc

pub six : (a b c d e f r : List ℕ) → (((((a ++ b) ++ c) ++ d) ++ e) ++ f) ++ r ≡ a ++ (b ++ (c ++ (d ++ (e ++ (f ++ r)))))
six a b c d e f r = simp append_assoc

-- one token
leaf : (dots : Bool) (d at : ℕ) (t : Token) (e f : Expr) → is_token t ≡ true → is_restricted t ≡ false → ((r : List ℕ) → stops dots r ≡ true → ends t r ≡ true)
    → ((rest : List Placed) → Expression d 12 0 (put t at ∷ rest) rest f) → erase_expr f ≡ erase_expr e → Shown dots d 12 0 at (spelling t) e
leaf dots d at t e f p n stop x same = record {
  last = at + length (spelling t);
  before = λ r rest q sp. record {
    tokens = put t at ∷ rest;
    tree = f;
    splits = first t at r rest p (stop r q) (subst (λ z. Splits (not z) (at + length (spelling t)) r rest) (sym n) sp);
    derives = x rest;
    same = same;
  };
}

pub number_shown : (d at p n : ℕ) → fits d ≡ true → is_in_range n ≡ true → Shown false d 12 0 at (expr_text (tree.number p n)) (tree.number p n)
number_shown d at p n f q = leaf false d at (numeric_literal n) (tree.number p n) (tree.number at n) q refl (λ r s. number_stops r s) (λ rest. rule.number (past_one d (numeric_literal n) at rest f)) refl

pub string_shown : (d at p : ℕ) (s : List ℕ) → fits d ≡ true → list_all is_byte s ≡ true → Shown true d 12 0 at (expr_text (tree.string p s)) (tree.string p s)
string_shown d at p s f q = leaf true d at (string_literal s) (tree.string p s) (tree.string at s) q refl (λ r h. refl) (λ rest. rule.string (past_one d (string_literal s) at rest f)) refl

pub boolean_shown : (d at p : ℕ) (b : Bool) → fits d ≡ true → Shown true d 12 0 at (expr_text (tree.boolean p b)) (tree.boolean p b)
boolean_shown d at p true f = leaf true d at (word (codes "true")) (tree.boolean p true) (tree.boolean at true) refl refl (λ r h. name_stops true r h) (λ rest. rule.true_literal (past_one d (word (codes "true")) at rest f)) refl
boolean_shown d at p false f = leaf true d at (word (codes "false")) (tree.boolean p false) (tree.boolean at false) refl refl (λ r h. name_stops true r h) (λ rest. rule.false_literal (past_one d (word (codes "false")) at rest f)) refl

pub null_shown : (d at p : ℕ) → fits d ≡ true → Shown true d 12 0 at (expr_text (tree.null p)) (tree.null p)
null_shown d at p f = leaf true d at (word (codes "null")) (tree.null p) (tree.null at) refl refl (λ r h. name_stops true r h) (λ rest. rule.null_literal (past_one d (word (codes "null")) at rest f)) refl

-- a name is none of the words that no newline may follow
pub name_free : (x : List ℕ) → is_name x ≡ true → is_restricted (identifier_name x) ≡ false
name_free x q = let h = name_first x q in subst (λ z. is_restricted (identifier_name z) ≡ false) (sym h.1) refl

pub name_shown : (d at p : ℕ) (x : List ℕ) → fits d ≡ true → is_name x ≡ true → Shown true d 12 0 at (expr_text (tree.name p x)) (tree.name p x)
name_shown d at p x f q = leaf true d at (identifier_name x) (tree.name p x) (tree.name at x) (name_token x q) (name_free x q) (λ r h. name_stops true r h) (λ rest. rule.name q (past_one d (identifier_name x) at rest f)) refl

-- expressions with commas between were printed so before what follows
pub record OutList (d at : ℕ) (text : List ℕ) (rest : List Placed) (es : Exprs) : Type 0 where
  pub tokens : List Placed
  pub trees : Exprs
  pub splits : Splits true at text tokens
  pub derives : Expressions d tokens rest trees
  pub same : erase_exprs trees ≡ erase_exprs es

pub record ShownList (d at : ℕ) (text : List ℕ) (es : Exprs) : Type 0 where
  pub last : ℕ
  pub before : (r : List ℕ) (rest : List Placed) → stops false r ≡ true → Splits true last r rest → OutList d at (text ++ r) rest es

pub record OutMore (d at : ℕ) (text : List ℕ) (rest : List Placed) (es : Exprs) : Type 0 where
  pub tokens : List Placed
  pub trees : Exprs
  pub splits : Splits true at text tokens
  pub derives : MoreExpressions d tokens rest trees
  pub same : erase_exprs trees ≡ erase_exprs es

pub record ShownMore (d at : ℕ) (text : List ℕ) (es : Exprs) : Type 0 where
  pub last : ℕ
  pub before : (r : List ℕ) (rest : List Placed) → stops false r ≡ true → Splits true last r rest → OutMore d at (text ++ r) rest es

-- what stands after an expression among expressions stops it
more_stops : (es : Exprs) (r : List ℕ) → stops false r ≡ true → stops false (more_text es ++ r) ≡ true
more_stops no_exprs r q = q
more_stops (expr e es) r q = refl

pub no_more_shown : (d at : ℕ) → ShownMore d at [] no_exprs
no_more_shown d at = record { last = at; before = λ r rest q sp. record { tokens = rest; trees = no_exprs; splits = sp; derives = rule.no_more_expressions; same = refl } }

pub more_shown : (d n at : ℕ) (e : Expr) (es : Exprs) → fits d ≡ true → (x : Shown false d 0 n (at + 1 + 1) (expr_text e) e) → ShownMore d x.last (more_text es) es → ShownMore d at (codes ", " ++ expr_text e ++ more_text es) (expr e es)
more_shown d n at e es f x y = record {
  last = y.last;
  before = λ r rest q sp.
      let o2 = y.before r rest q sp in
      let o1 = x.before (more_text es ++ r) o2.tokens (more_stops es r q) o2.splits in
      let text = expr_text e ++ (more_text es ++ r) in
      let c = first comma at (32 ∷ text) o1.tokens refl refl (spaced (at + 1) text o1.tokens o1.splits true) in
      record {
        tokens = put comma at ∷ o1.tokens;
        trees = expr o1.tree o2.trees;
        splits = subst (λ z. Splits true at z (put comma at ∷ o1.tokens)) (sym (ap (λ z. 44 ∷ 32 ∷ z) (append_assoc (expr_text e) (more_text es) r))) (c true);
        derives = rule.more_expressions (past_one d comma at o1.tokens f) o1.derives o2.derives;
        same = ap₂ (λ a b. expr a b) o1.same o2.same;
      };
}

pub no_list_shown : (d at : ℕ) → ShownList d at [] no_exprs
no_list_shown d at = record { last = at; before = λ r rest q sp. record { tokens = rest; trees = no_exprs; splits = sp; derives = rule.no_expressions; same = refl } }

pub list_shown : (d n at : ℕ) (e : Expr) (es : Exprs) → (x : Shown false d 0 n at (expr_text e) e) → ShownMore d x.last (more_text es) es → ShownList d at (expr_text e ++ more_text es) (expr e es)
list_shown d n at e es x y = record {
  last = y.last;
  before = λ r rest q sp.
      let o2 = y.before r rest q sp in
      let o1 = x.before (more_text es ++ r) o2.tokens (more_stops es r q) o2.splits in
      record {
        tokens = o1.tokens;
        trees = expr o1.tree o2.trees;
        splits = subst (λ z. Splits true at z o1.tokens) (sym (append_assoc (expr_text e) (more_text es) r)) (o1.splits true);
        derives = rule.expressions o1.derives o2.derives;
        same = ap₂ (λ a b. expr a b) o1.same o2.same;
      };
}

pub array_shown : (d at p : ℕ) (es : Exprs) → fits d ≡ true → ShownList (suc d) (at + 1) (exprs_text es) es → Shown true d 12 0 at (codes "[" ++ exprs_text es ++ codes "]") (tree.array p es)
array_shown d at p es f x = record {
  last = x.last + 1;
  before = λ r rest q sp.
      let c = first close_bracket x.last r rest refl refl sp in
      let o = x.before (93 ∷ r) (put close_bracket x.last ∷ rest) refl (c true) in
      let b = first open_bracket at (exprs_text es ++ (93 ∷ r)) o.tokens refl refl o.splits in
      retext (three (codes "[") (exprs_text es) (codes "]") r) (record {
        tokens = put open_bracket at ∷ o.tokens;
        tree = tree.array at o.trees;
        splits = b;
        derives = rule.array (past_one d open_bracket at o.tokens f) o.derives (past_one d close_bracket x.last rest f);
        same = ap (λ z. tree.array 0 z) o.same;
      });
}

pub dictionary_shown : (d at p : ℕ) → fits (suc d) ≡ true → Shown true d 12 0 at dictionary_word (tree.dictionary p)
unfolding dictionary_word
dictionary_shown d at p f = record {
  last = at + 6 + 1 + 6 + 1 + 4 + 1;
  before = λ r rest q sp.
      let g = step_deep d f in
      let t5 = put right (at + 6 + 1 + 6 + 1 + 4) ∷ rest in
      let t4 = put (word (codes "null")) (at + 6 + 1 + 6 + 1) ∷ t5 in
      let t3 = put left (at + 6 + 1 + 6) ∷ t4 in
      let t2 = put (word (codes "create")) (at + 6 + 1) ∷ t3 in
      let t1 = put dot (at + 6) ∷ t2 in
      let s5 = first right (at + 6 + 1 + 6 + 1 + 4) r rest refl refl sp in
      let s4 = first (word (codes "null")) (at + 6 + 1 + 6 + 1) (codes ")" ++ r) t5 refl refl (s5 true) in
      let s3 = first left (at + 6 + 1 + 6) (codes "null)" ++ r) t4 refl refl (s4 true) in
      let s2 = first (word (codes "create")) (at + 6 + 1) (codes "(null)" ++ r) t3 refl refl (s3 true) in
      let s1 = first dot (at + 6) (codes "create(null)" ++ r) t2 refl refl (s2 true) in
      record {
        tokens = put (word (codes "Object")) at ∷ t1;
        tree = tree.dictionary at;
        splits = first (word (codes "Object")) at (codes ".create(null)" ++ r) t1 refl refl (s1 true);
        derives = rule.dictionary
            (past d (word (codes "Object")) (dot ∷ word (codes "create") ∷ left ∷ []) at t1 t4 g
            (past d dot (word (codes "create") ∷ left ∷ []) (at + 6) t2 t4 g
            (past d (word (codes "create")) (left ∷ []) (at + 6 + 1) t3 t4 g (past_one d left (at + 6 + 1 + 6) t4 g))))
            (past_one (suc d) (word (codes "null")) (at + 6 + 1 + 6 + 1) t5 f)
            (past_one d right (at + 6 + 1 + 6 + 1 + 4) rest g);
        same = refl;
      };
}

pub decimal_shown : (d n at p : ℕ) (w : List ℕ) (e : Expr) → fits d ≡ true → Shown false (suc d) 0 n (at + 6 + 1) w e → Shown true d 12 0 at (string_word ++ w ++ codes ")") (tree.decimal_of p e)
unfolding string_word
decimal_shown d n at p w e f x = record {
  last = x.last + 1;
  before = λ r rest q sp.
      let c = first right x.last r rest refl refl sp in
      let o = x.before (41 ∷ r) (put right x.last ∷ rest) refl (c true) in
      let t1 = put left (at + 6) ∷ o.tokens in
      let s1 = first left (at + 6) (w ++ (41 ∷ r)) o.tokens refl refl (o.splits true) in
      retext (three (codes "String(") w (codes ")") r) (record {
        tokens = put (word (codes "String")) at ∷ t1;
        tree = tree.decimal_of at o.tree;
        splits = first (word (codes "String")) at (codes "(" ++ (w ++ (41 ∷ r))) t1 refl refl (s1 true);
        derives = rule.decimal_of
            (past d (word (codes "String")) (left ∷ []) at t1 o.tokens f (past_one d left (at + 6) o.tokens f))
            o.derives (past_one d right x.last rest f);
        same = ap (λ z. tree.decimal_of 0 z) o.same;
      });
}

pub from_char_code_shown : (d n at p : ℕ) (w : List ℕ) (e : Expr) → fits d ≡ true → Shown false (suc d) 0 n (at + 6 + 1 + 12 + 1) w e → Shown true d 12 0 at (from_char_code_word ++ w ++ codes ")") (tree.from_char_code p e)
unfolding from_char_code_word
from_char_code_shown d n at p w e f x = record {
  last = x.last + 1;
  before = λ r rest q sp.
      let c = first right x.last r rest refl refl sp in
      let o = x.before (41 ∷ r) (put right x.last ∷ rest) refl (c true) in
      let t3 = put left (at + 6 + 1 + 12) ∷ o.tokens in
      let t2 = put (word (codes "fromCharCode")) (at + 6 + 1) ∷ t3 in
      let t1 = put dot (at + 6) ∷ t2 in
      let s3 = first left (at + 6 + 1 + 12) (w ++ (41 ∷ r)) o.tokens refl refl (o.splits true) in
      let s2 = first (word (codes "fromCharCode")) (at + 6 + 1) (codes "(" ++ (w ++ (41 ∷ r))) t3 refl refl (s3 true) in
      let s1 = first dot (at + 6) (codes "fromCharCode(" ++ (w ++ (41 ∷ r))) t2 refl refl (s2 true) in
      retext (three (codes "String.fromCharCode(") w (codes ")") r) (record {
        tokens = put (word (codes "String")) at ∷ t1;
        tree = tree.from_char_code at o.tree;
        splits = first (word (codes "String")) at (codes ".fromCharCode(" ++ (w ++ (41 ∷ r))) t1 refl refl (s1 true);
        derives = rule.from_char_code
            (past d (word (codes "String")) (dot ∷ word (codes "fromCharCode") ∷ left ∷ []) at t1 o.tokens f
            (past d dot (word (codes "fromCharCode") ∷ left ∷ []) (at + 6) t2 o.tokens f
            (past d (word (codes "fromCharCode")) (left ∷ []) (at + 6 + 1) t3 o.tokens f (past_one d left (at + 6 + 1 + 12) o.tokens f))))
            o.derives (past_one d right x.last rest f);
        same = ap (λ z. tree.from_char_code 0 z) o.same;
      });
}
