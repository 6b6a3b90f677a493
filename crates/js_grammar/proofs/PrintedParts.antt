-- Printed calls, indices and words after a dot.
use Rattle.std.proofs.Common.{◌≡◌, ap, ap₂, ℕ, suc, ◌+◌, List, [], ◌∷◌, ◌++◌, true, false, refl}
use Rattle.std.specs.Prelude.{codes}
use Rattle.js_tree.specs.Script as tree
use Rattle.js_tree.specs.Script.{Expr, Exprs}
use Rattle.js_tree.specs.Erase.{erase_expr}
use Rattle.js_tree.specs.Printed.{exprs_text, char_code_at_word, substring_word}
use Rattle.js_tree.specs.Printable.{fits}
use Rattle.js_tree.specs.Scripts as rule
use Rattle.js_tree.specs.Scripts.{at_of, word, sign}
use Rattle.js_grammar.specs.Steps.{left, right, open_bracket, close_bracket, dot, comma}
use Rattle.js_grammar.proofs.Splitting.{put}
use Rattle.js_grammar.proofs.PrintedTokens.{name_stops, first, spaced, past, past_one, two_same, Shown}
use Rattle.js_grammar.proofs.PrintedWithin.{retext}
use Rattle.js_grammar.proofs.PrintedLevels.{step_deep}
use Rattle.js_grammar.proofs.PrintedAtoms.{four, six, ShownList}
use Rattle.std.proofs.Common.{append_assoc}

pub call_shown : (d n at p : ℕ) (w : List ℕ) (g : Expr) (es : Exprs) → fits (d + n) ≡ true → (x : Shown false d 12 n at w g) → ShownList (suc (d + n)) (x.last + 1) (exprs_text es) es
    → Shown true d 12 (suc n) at (w ++ codes "(" ++ exprs_text es ++ codes ")") (tree.call p g es)
call_shown d n at p w g es f x y = record {
  last = y.last + 1;
  before = λ r rest q sp.
      let c = first right y.last r rest refl refl sp in
      let o2 = y.before (41 ∷ r) (put right y.last ∷ rest) refl (c true) in
      let b = first left x.last (exprs_text es ++ (41 ∷ r)) o2.tokens refl refl o2.splits in
      let o1 = x.before (40 ∷ (exprs_text es ++ (41 ∷ r))) (put left x.last ∷ o2.tokens) refl (b true) in
      retext (four w (codes "(") (exprs_text es) (codes ")") r) (record {
        tokens = o1.tokens;
        tree = tree.call (at_of o1.tokens) o1.tree o2.trees;
        splits = o1.splits;
        derives = rule.call o1.derives (past_one (d + n) left x.last o2.tokens f) o2.derives (past_one (d + n) right y.last rest f);
        same = ap₂ (λ a b. tree.call 0 a b) o1.same o2.same;
      });
}

pub index_shown : (d n m at p : ℕ) (w v : List ℕ) (e i : Expr) → fits (d + n) ≡ true → (x : Shown false d 12 n at w e) → Shown false (suc (d + n)) 0 m (x.last + 1) v i
    → Shown true d 12 (suc n) at (w ++ codes "[" ++ v ++ codes "]") (tree.index p e i)
index_shown d n m at p w v e i f x y = record {
  last = y.last + 1;
  before = λ r rest q sp.
      let c = first close_bracket y.last r rest refl refl sp in
      let o2 = y.before (93 ∷ r) (put close_bracket y.last ∷ rest) refl (c true) in
      let b = first open_bracket x.last (v ++ (93 ∷ r)) o2.tokens refl refl (o2.splits true) in
      let o1 = x.before (91 ∷ (v ++ (93 ∷ r))) (put open_bracket x.last ∷ o2.tokens) refl (b true) in
      retext (four w (codes "[") v (codes "]") r) (record {
        tokens = o1.tokens;
        tree = tree.index (at_of o1.tokens) o1.tree o2.tree;
        splits = o1.splits;
        derives = rule.index o1.derives (past_one (d + n) open_bracket x.last o2.tokens f) o2.derives (past_one (d + n) close_bracket y.last rest f);
        same = two_same (λ a b. tree.index 0 a b) o1.tree o2.tree e i o1.same o2.same;
      });
}

pub length_shown : (d n at p : ℕ) (w : List ℕ) (e : Expr) → fits (d + n) ≡ true → Shown true d 12 n at w e → Shown true d 12 (suc n) at (w ++ codes ".length") (tree.length_of p e)
length_shown d n at p w e f x = record {
  last = x.last + 1 + 6;
  before = λ r rest q sp.
      let t1 = put (word (codes "length")) (x.last + 1) ∷ rest in
      let s1 = first (word (codes "length")) (x.last + 1) r rest refl (name_stops true r q) sp in
      let s0 = first dot x.last (codes "length" ++ r) t1 refl refl (s1 true) in
      let o = x.before (codes ".length" ++ r) (put dot x.last ∷ t1) refl (s0 true) in
      retext (append_assoc w (codes ".length") r) (record {
        tokens = o.tokens;
        tree = tree.length_of (at_of o.tokens) o.tree;
        splits = o.splits;
        derives = rule.length_of o.derives (past (d + n) dot (word (codes "length") ∷ []) x.last t1 rest f (past_one (d + n) (word (codes "length")) (x.last + 1) rest f));
        same = ap (λ z. tree.length_of 0 z) o.same;
      });
}

pub pop_shown : (d n at p : ℕ) (w : List ℕ) (e : Expr) → fits (d + n) ≡ true → Shown true d 12 n at w e → Shown true d 12 (suc n) at (w ++ codes ".pop()") (tree.pop p e)
pop_shown d n at p w e f x = record {
  last = x.last + 1 + 3 + 1 + 1;
  before = λ r rest q sp.
      let t3 = put right (x.last + 1 + 3 + 1) ∷ rest in
      let t2 = put left (x.last + 1 + 3) ∷ t3 in
      let t1 = put (word (codes "pop")) (x.last + 1) ∷ t2 in
      let s3 = first right (x.last + 1 + 3 + 1) r rest refl refl sp in
      let s2 = first left (x.last + 1 + 3) (codes ")" ++ r) t3 refl refl (s3 true) in
      let s1 = first (word (codes "pop")) (x.last + 1) (codes "()" ++ r) t2 refl refl (s2 true) in
      let s0 = first dot x.last (codes "pop()" ++ r) t1 refl refl (s1 true) in
      let o = x.before (codes ".pop()" ++ r) (put dot x.last ∷ t1) refl (s0 true) in
      retext (append_assoc w (codes ".pop()") r) (record {
        tokens = o.tokens;
        tree = tree.pop (at_of o.tokens) o.tree;
        splits = o.splits;
        derives = rule.pop o.derives
            (past (d + n) dot (word (codes "pop") ∷ left ∷ right ∷ []) x.last t1 rest f
            (past (d + n) (word (codes "pop")) (left ∷ right ∷ []) (x.last + 1) t2 rest f
            (past (d + n) left (right ∷ []) (x.last + 1 + 3) t3 rest f (past_one (d + n) right (x.last + 1 + 3 + 1) rest f))));
        same = ap (λ z. tree.pop 0 z) o.same;
      });
}

pub char_code_at_shown : (d n m at p : ℕ) (w v : List ℕ) (e i : Expr) → fits (d + n) ≡ true → (x : Shown true d 12 n at w e) → Shown false (suc (d + n)) 0 m (x.last + 1 + 10 + 1) v i
    → Shown true d 12 (suc n) at (w ++ char_code_at_word ++ v ++ codes ")") (tree.char_code_at p e i)
unfolding char_code_at_word
char_code_at_shown d n m at p w v e i f x y = record {
  last = y.last + 1;
  before = λ r rest q sp.
      let c = first right y.last r rest refl refl sp in
      let o2 = y.before (41 ∷ r) (put right y.last ∷ rest) refl (c true) in
      let more = v ++ (41 ∷ r) in
      let t2 = put left (x.last + 1 + 10) ∷ o2.tokens in
      let t1 = put (word (codes "charCodeAt")) (x.last + 1) ∷ t2 in
      let s2 = first left (x.last + 1 + 10) more o2.tokens refl refl (o2.splits true) in
      let s1 = first (word (codes "charCodeAt")) (x.last + 1) (codes "(" ++ more) t2 refl refl (s2 true) in
      let s0 = first dot x.last (codes "charCodeAt(" ++ more) t1 refl refl (s1 true) in
      let o1 = x.before (codes ".charCodeAt(" ++ more) (put dot x.last ∷ t1) refl (s0 true) in
      retext (four w (codes ".charCodeAt(") v (codes ")") r) (record {
        tokens = o1.tokens;
        tree = tree.char_code_at (at_of o1.tokens) o1.tree o2.tree;
        splits = o1.splits;
        derives = rule.char_code_at o1.derives
            (past (d + n) dot (word (codes "charCodeAt") ∷ left ∷ []) x.last t1 o2.tokens f
            (past (d + n) (word (codes "charCodeAt")) (left ∷ []) (x.last + 1) t2 o2.tokens f (past_one (d + n) left (x.last + 1 + 10) o2.tokens f)))
            o2.derives (past_one (d + n) right y.last rest f);
        same = two_same (λ a b. tree.char_code_at 0 a b) o1.tree o2.tree e i o1.same o2.same;
      });
}

three_same : (a b c u v w : Expr) → erase_expr a ≡ erase_expr u → erase_expr b ≡ erase_expr v → erase_expr c ≡ erase_expr w → tree.substring 0 (erase_expr a) (erase_expr b) (erase_expr c) ≡ tree.substring 0 (erase_expr u) (erase_expr v) (erase_expr w)
three_same a b c u v w p q r = cc

pub substring_shown : (d n m l at p : ℕ) (w v u : List ℕ) (e i j : Expr) → fits (suc (d + n)) ≡ true → (x : Shown true d 12 n at w e) → (y : Shown false (suc (d + n)) 0 m (x.last + 1 + 9 + 1) v i) → Shown false (suc (d + n)) 0 l (y.last + 1 + 1) u j
    → Shown true d 12 (suc n) at (w ++ substring_word ++ v ++ codes ", " ++ u ++ codes ")") (tree.substring p e i j)
unfolding substring_word
substring_shown d n m l at p w v u e i j g x y z = record {
  last = z.last + 1;
  before = λ r rest q sp.
      let f = step_deep (d + n) g in
      let c = first right z.last r rest refl refl sp in
      let o3 = z.before (41 ∷ r) (put right z.last ∷ rest) refl (c true) in
      let last = u ++ (41 ∷ r) in
      let k = first comma y.last (32 ∷ last) o3.tokens refl refl (spaced (y.last + 1) last o3.tokens o3.splits true) in
      let o2 = y.before (44 ∷ 32 ∷ last) (put comma y.last ∷ o3.tokens) refl (k true) in
      let more = v ++ (44 ∷ 32 ∷ last) in
      let t2 = put left (x.last + 1 + 9) ∷ o2.tokens in
      let t1 = put (word (codes "substring")) (x.last + 1) ∷ t2 in
      let s2 = first left (x.last + 1 + 9) more o2.tokens refl refl (o2.splits true) in
      let s1 = first (word (codes "substring")) (x.last + 1) (codes "(" ++ more) t2 refl refl (s2 true) in
      let s0 = first dot x.last (codes "substring(" ++ more) t1 refl refl (s1 true) in
      let o1 = x.before (codes ".substring(" ++ more) (put dot x.last ∷ t1) refl (s0 true) in
      retext (six w (codes ".substring(") v (codes ", ") u (codes ")") r) (record {
        tokens = o1.tokens;
        tree = tree.substring (at_of o1.tokens) o1.tree o2.tree o3.tree;
        splits = o1.splits;
        derives = rule.substring {ts = o1.tokens} {e = o1.tree} o1.derives
            (past (d + n) dot (word (codes "substring") ∷ left ∷ []) x.last t1 o2.tokens f
            (past (d + n) (word (codes "substring")) (left ∷ []) (x.last + 1) t2 o2.tokens f (past_one (d + n) left (x.last + 1 + 9) o2.tokens f)))
            o2.derives (past_one (suc (d + n)) comma y.last o3.tokens g) o3.derives (past_one (d + n) right z.last rest f);
        same = three_same o1.tree o2.tree o3.tree e i j o1.same o2.same o3.same;
      });
}
