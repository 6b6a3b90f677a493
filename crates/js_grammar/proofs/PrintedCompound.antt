-- Printed statements with blocks.
use Rattle.std.proofs.Common.{◌≡◌, sym, subst, ap, ℕ, suc, ◌+◌, List, [], ◌∷◌, ◌++◌, length, Option, true, false, refl, append_assoc}
use Rattle.std.specs.Prelude.{codes}
use Rattle.std.specs.Fmt.{decimal}
use Rattle.js_tree.specs.Lexical.{identifier_name, numeric_literal, Placed, Splits, is_gap}
use Rattle.js_tree.specs.Script as tree
use Rattle.js_tree.specs.Script.{Name, Expr, Stmt, Stmts, Else, no_else, else_block, else_if, Cases, no_cases}
use Rattle.js_tree.specs.Erase.{erase_expr, erase_stmts, erase_else, erase_cases}
use Rattle.js_tree.specs.Printed.{in_braces, label_text, catch_word}
use Rattle.js_tree.specs.Printable.{is_own_label, is_in_range, fits}
use Rattle.js_tree.specs.Scripts as rule
use Rattle.js_tree.specs.Scripts.{at_of, word, sign}
use Rattle.js_grammar.specs.Steps.{left, right, open_brace, close_brace, colon, semicolon}
use Rattle.js_grammar.proofs.Splitting.{put}
use Rattle.js_grammar.proofs.PrintedTokens.{first, spaced, on_next_line, past_margin, past, past_one, Shown}
use Rattle.js_grammar.proofs.PrintedLevels.{step_deep}
use Rattle.js_grammar.proofs.PrintedAtoms.{three, four, five, six}
use Rattle.js_grammar.proofs.PrintedBlocks.{ShownStmt, ShownStmts, ShownBlock, OutElse, ShownElse, ShownCases, restmt, label_end, label_shown}

branched : (a u : Expr) (b v : Stmts) (c w : Else) → erase_expr a ≡ erase_expr u → erase_stmts b ≡ erase_stmts v → erase_else c ≡ erase_else w → tree.branch 0 (erase_expr a) (erase_stmts b) (erase_else c) ≡ tree.branch 0 (erase_expr u) (erase_stmts v) (erase_else w)
branched a u b v c w p q r = cc

pub branch_shown : (d n at p : ℕ) (u v w : List ℕ) (t : Expr) (ss : Stmts) (other : Else) → fits d ≡ true → (x : Shown false (suc d) 0 n (at + 2 + 1) u t) → (y : ShownBlock d (x.last + 1) v ss) → ShownElse d y.last w other
    → ShownStmt d at (codes "if(" ++ u ++ codes ")" ++ v ++ w) (tree.branch p t ss other)
branch_shown d n at p u v w t ss other f x y z = record {
  last = z.last;
  before = λ r rest sp.
      let o3 = z.before r rest sp in
      let o2 = y.before (w ++ r) o3.tokens o3.splits in
      let b = first right x.last (v ++ (w ++ r)) o2.tokens refl refl (o2.splits true) in
      let o1 = x.before (codes ")" ++ (v ++ (w ++ r))) (put right x.last ∷ o2.tokens) refl (b true) in
      let text = u ++ (codes ")" ++ (v ++ (w ++ r))) in
      let t1 = put left (at + 2) ∷ o1.tokens in
      let s1 = first left (at + 2) text o1.tokens refl refl (o1.splits true) in
      restmt (five (codes "if(") u (codes ")") v w r) (record {
        tokens = put (word (codes "if")) at ∷ t1;
        tree = tree.branch at o1.tree o2.trees o3.tree;
        splits = first (word (codes "if")) at (codes "(" ++ text) t1 refl refl (s1 true);
        derives = rule.branch (past d (word (codes "if")) (left ∷ []) at t1 o1.tokens f (past_one d left (at + 2) o1.tokens f)) o1.derives (past_one d right x.last o2.tokens f) o2.derives o3.derives;
        same = branched o1.tree t o2.trees ss o3.tree other o1.same o2.same o3.same;
      });
}

looped : (l : Option Name) (a u : Expr) (b v : Stmts) → erase_expr a ≡ erase_expr u → erase_stmts b ≡ erase_stmts v → tree.while 0 l (erase_expr a) (erase_stmts b) ≡ tree.while 0 l (erase_expr u) (erase_stmts v)
looped l a u b v p q = cc

pub while_shown : (l : Option Name) (d n at p : ℕ) (u v : List ℕ) (t : Expr) (ss : Stmts) → is_own_label l ≡ true → fits d ≡ true → (x : Shown false (suc d) 0 n (label_end l at + 5 + 1) u t) → ShownBlock d (x.last + 1) v ss
    → ShownStmt d at (label_text l ++ codes "while(" ++ u ++ codes ")" ++ v) (tree.while p l t ss)
while_shown l d n at p u v t ss q f x y = record {
  last = y.last;
  before = λ r rest sp.
      let o2 = y.before r rest sp in
      let b = first right x.last (v ++ r) o2.tokens refl refl (o2.splits true) in
      let o1 = x.before (codes ")" ++ (v ++ r)) (put right x.last ∷ o2.tokens) refl (b true) in
      let text = u ++ (codes ")" ++ (v ++ r)) in
      let start = label_end l at in
      let t1 = put left (start + 5) ∷ o1.tokens in
      let s1 = first left (start + 5) text o1.tokens refl refl (o1.splits true) in
      let s0 = first (word (codes "while")) start (codes "(" ++ text) t1 refl refl (s1 true) in
      let o0 = label_shown l d at (codes "while(" ++ text) (put (word (codes "while")) start ∷ t1) f q s0 in
      restmt (five (label_text l) (codes "while(") u (codes ")") v r) (record {
        tokens = o0.tokens;
        tree = tree.while (at_of o0.tokens) l o1.tree o2.trees;
        splits = o0.splits;
        derives = rule.while {ts = o0.tokens} o0.derives (past d (word (codes "while")) (left ∷ []) start t1 o1.tokens f (past_one d left (start + 5) o1.tokens f)) o1.derives (past_one d right x.last o2.tokens f) o2.derives;
        same = looped l o1.tree t o2.trees ss o1.same o2.same;
      });
}

pub forever_shown : (l : Option Name) (d at p : ℕ) (v : List ℕ) (ss : Stmts) → is_own_label l ≡ true → fits (suc d) ≡ true → ShownBlock d (label_end l at + 3 + 1 + 1 + 1 + 1) v ss
    → ShownStmt d at (label_text l ++ codes "for(;;)" ++ v) (tree.forever p l ss)
forever_shown l d at p v ss q g y = record {
  last = y.last;
  before = λ r rest sp.
      let f = step_deep d g in
      let o = y.before r rest sp in
      let text = v ++ r in
      let start = label_end l at in
      let t4 = put right (start + 3 + 1 + 1 + 1) ∷ o.tokens in
      let t3 = put semicolon (start + 3 + 1 + 1) ∷ t4 in
      let t2 = put semicolon (start + 3 + 1) ∷ t3 in
      let t1 = put left (start + 3) ∷ t2 in
      let s4 = first right (start + 3 + 1 + 1 + 1) text o.tokens refl refl (o.splits true) in
      let s3 = first semicolon (start + 3 + 1 + 1) (codes ")" ++ text) t4 refl refl (s4 true) in
      let s2 = first semicolon (start + 3 + 1) (codes ";)" ++ text) t3 refl refl (s3 true) in
      let s1 = first left (start + 3) (codes ";;)" ++ text) t2 refl refl (s2 true) in
      let s0 = first (word (codes "for")) start (codes "(;;)" ++ text) t1 refl refl (s1 true) in
      let o0 = label_shown l d at (codes "for(;;)" ++ text) (put (word (codes "for")) start ∷ t1) f q s0 in
      restmt (three (label_text l) (codes "for(;;)") v r) (record {
        tokens = o0.tokens;
        tree = tree.forever (at_of o0.tokens) l o.trees;
        splits = o0.splits;
        derives = rule.forever {ts = o0.tokens} o0.derives
            (past d (word (codes "for")) (left ∷ []) start t1 t2 f (past_one d left (start + 3) t2 f))
            (past (suc d) semicolon (semicolon ∷ []) (start + 3 + 1) t3 t4 g (past_one (suc d) semicolon (start + 3 + 1 + 1) t4 g))
            (past_one d right (start + 3 + 1 + 1 + 1) o.tokens f) o.derives;
        same = ap (λ z. tree.forever 0 l z) o.same;
      });
}

switched : (l : Option Name) (a u : Expr) (b v : Cases) → erase_expr a ≡ erase_expr u → erase_cases b ≡ erase_cases v → tree.switch 0 l (erase_expr a) (erase_cases b) ≡ tree.switch 0 l (erase_expr u) (erase_cases v)
switched l a u b v p q = cc

eight : (a b c d e f g r : List ℕ) → ((((a ++ b) ++ c) ++ d) ++ ((e ++ f) ++ g)) ++ r ≡ a ++ (b ++ (c ++ (d ++ (e ++ (f ++ (g ++ r))))))
eight a b c d e f g r = simp append_assoc

pub switch_shown : (l : Option Name) (d n at p : ℕ) (m u v : List ℕ) (e : Expr) (cs : Cases) → is_own_label l ≡ true → fits d ≡ true → is_gap true m ≡ true → (x : Shown false (suc d) 0 n (label_end l at + 6 + 1) u e) → ShownCases (suc d) (x.last + 1 + 1 + 1) v cs
    → ShownStmt d at (label_text l ++ codes "switch(" ++ u ++ codes ")" ++ in_braces m v) (tree.switch p l e cs)
switch_shown l d n at p m u v e cs q f g x y = record {
  last = y.last + length m + 1;
  before = λ r rest sp.
      let c = first close_brace (y.last + length m) r rest refl refl sp in
      let t4 = put close_brace (y.last + length m) ∷ rest in
      let o2 = y.before (m ++ (125 ∷ r)) t4 (past_margin m y.last (125 ∷ r) t4 g (c true)) in
      let body = v ++ (m ++ (125 ∷ r)) in
      let s3 = first open_brace (x.last + 1) (10 ∷ body) o2.tokens refl refl (on_next_line (x.last + 1 + 1) body o2.tokens o2.splits) in
      let t3 = put open_brace (x.last + 1) ∷ o2.tokens in
      let s2 = first right x.last (codes "{\n" ++ body) t3 refl refl (s3 true) in
      let t2 = put right x.last ∷ t3 in
      let o1 = x.before (codes "){\n" ++ body) t2 refl (s2 true) in
      let text = u ++ (codes "){\n" ++ body) in
      let start = label_end l at in
      let t1 = put left (start + 6) ∷ o1.tokens in
      let s1 = first left (start + 6) text o1.tokens refl refl (o1.splits true) in
      let s0 = first (word (codes "switch")) start (codes "(" ++ text) t1 refl refl (s1 true) in
      let o0 = label_shown l d at (codes "switch(" ++ text) (put (word (codes "switch")) start ∷ t1) f q s0 in
      restmt (eight (label_text l) (codes "switch(") u (codes ")") (codes "{\n" ++ v) m (codes "}") r) (record {
        tokens = o0.tokens;
        tree = tree.switch (at_of o0.tokens) l o1.tree o2.tree;
        splits = o0.splits;
        derives = rule.switch {ts = o0.tokens} {us = put (word (codes "switch")) start ∷ t1} {vs = o1.tokens} {e = o1.tree} o0.derives (past d (word (codes "switch")) (left ∷ []) start t1 o1.tokens f (past_one d left (start + 6) o1.tokens f)) o1.derives
            (past d right (open_brace ∷ []) x.last t3 o2.tokens f (past_one d open_brace (x.last + 1) o2.tokens f)) o2.derives (past_one d close_brace (y.last + length m) rest f);
        same = switched l o1.tree e o2.tree cs o1.same o2.same;
      });
}

attempted : (a u b v : Stmts) → erase_stmts a ≡ erase_stmts u → erase_stmts b ≡ erase_stmts v → tree.attempt 0 (erase_stmts a) (erase_stmts b) ≡ tree.attempt 0 (erase_stmts u) (erase_stmts v)
attempted a u b v p q = cc

pub attempt_shown : (d at p : ℕ) (m u v : List ℕ) (ss handler : Stmts) → fits (suc d) ≡ true → (x : ShownBlock d (at + 3) (in_braces m u) ss) → ShownBlock d (x.last + 5 + 1 + 6 + 1) v handler
    → ShownStmt d at (codes "try" ++ in_braces m u ++ catch_word ++ v) (tree.attempt p ss handler)
unfolding catch_word
attempt_shown d at p m u v ss handler g x y = record {
  last = y.last;
  before = λ r rest sp.
      let f = step_deep d g in
      let o2 = y.before r rest sp in
      let text = v ++ r in
      let t4 = put right (x.last + 5 + 1 + 6) ∷ o2.tokens in
      let t3 = put (identifier_name (codes "$catch")) (x.last + 5 + 1) ∷ t4 in
      let t2 = put left (x.last + 5) ∷ t3 in
      let t1 = put (word (codes "catch")) x.last ∷ t2 in
      let s4 = first right (x.last + 5 + 1 + 6) text o2.tokens refl refl (o2.splits true) in
      let s3 = first (identifier_name (codes "$catch")) (x.last + 5 + 1) (codes ")" ++ text) t4 refl refl (s4 true) in
      let s2 = first left (x.last + 5) (codes "$catch)" ++ text) t3 refl refl (s3 true) in
      let s1 = first (word (codes "catch")) x.last (codes "($catch)" ++ text) t2 refl refl (s2 true) in
      let o1 = x.before (codes "catch($catch)" ++ text) t1 (s1 true) in
      restmt (four (codes "try") (in_braces m u) (codes "catch($catch)") v r) (record {
        tokens = put (word (codes "try")) at ∷ o1.tokens;
        tree = tree.attempt at o1.trees o2.trees;
        splits = first (word (codes "try")) at (in_braces m u ++ (codes "catch($catch)" ++ text)) o1.tokens refl refl (o1.splits true);
        derives = rule.attempt (past_one d (word (codes "try")) at o1.tokens f) o1.derives
            (past d (word (codes "catch")) (left ∷ []) x.last t2 t3 f (past_one d left (x.last + 5) t3 f))
            (past_one (suc d) (identifier_name (codes "$catch")) (x.last + 5 + 1) t4 g) (past_one d right (x.last + 5 + 1 + 6) o2.tokens f) o2.derives;
        same = attempted o1.trees ss o2.trees handler o1.same o2.same;
      });
}

pub no_else_shown : (d at : ℕ) → ShownElse d at [] no_else
no_else_shown d at = record { last = at; before = λ r rest sp. record { tokens = rest; tree = no_else; splits = sp; derives = rule.nothing_otherwise; same = refl } }

pub else_block_shown : (d at : ℕ) (m u : List ℕ) (ss : Stmts) → fits d ≡ true → ShownBlock (suc d) (at + 4) (in_braces m u) ss → ShownElse d at (codes "else" ++ in_braces m u) (else_block ss)
else_block_shown d at m u ss f x = record {
  last = x.last;
  before = λ r rest sp.
      let o = x.before r rest sp in
      record {
        tokens = put (word (codes "else")) at ∷ o.tokens;
        tree = else_block o.trees;
        splits = first (word (codes "else")) at (in_braces m u ++ r) o.tokens refl refl (o.splits true) true;
        derives = rule.block_otherwise (past_one d (word (codes "else")) at o.tokens f) o.derives;
        same = ap (λ z. else_block z) o.same;
      };
}

elsed : (a u : Expr) (b v : Stmts) (c w : Else) → erase_expr a ≡ erase_expr u → erase_stmts b ≡ erase_stmts v → erase_else c ≡ erase_else w → else_if 0 (erase_expr a) (erase_stmts b) (erase_else c) ≡ else_if 0 (erase_expr u) (erase_stmts v) (erase_else w)
elsed a u b v c w p q r = cc

reelse : {d at : ℕ} {x y : List ℕ} {rest : List Placed} {other : Else} → x ≡ y → OutElse d at y rest other → OutElse d at x rest other
reelse {d = d} {at = at} {rest = rest} {other = other} q o = subst (λ z. OutElse d at z rest other) (sym q) o

pub else_if_shown : (d n at p : ℕ) (u v w : List ℕ) (t : Expr) (ss : Stmts) (other : Else) → fits (suc d) ≡ true → (x : Shown false (suc (suc d)) 0 n (at + 4 + 1 + 2 + 1) u t) → (y : ShownBlock (suc d) (x.last + 1) v ss) → ShownElse (suc d) y.last w other
    → ShownElse d at (codes "else if(" ++ u ++ codes ")" ++ v ++ w) (else_if p t ss other)
else_if_shown d n at p u v w t ss other g x y z = record {
  last = z.last;
  before = λ r rest sp.
      let f = step_deep d g in
      let o3 = z.before r rest sp in
      let o2 = y.before (w ++ r) o3.tokens o3.splits in
      let b = first right x.last (v ++ (w ++ r)) o2.tokens refl refl (o2.splits true) in
      let o1 = x.before (codes ")" ++ (v ++ (w ++ r))) (put right x.last ∷ o2.tokens) refl (b true) in
      let text = u ++ (codes ")" ++ (v ++ (w ++ r))) in
      let t2 = put left (at + 4 + 1 + 2) ∷ o1.tokens in
      let t1 = put (word (codes "if")) (at + 4 + 1) ∷ t2 in
      let s2 = first left (at + 4 + 1 + 2) text o1.tokens refl refl (o1.splits true) in
      let s1 = first (word (codes "if")) (at + 4 + 1) (codes "(" ++ text) t2 refl refl (s2 true) in
      let gap = spaced (at + 4) (codes "if(" ++ text) t1 s1 in
      reelse (five (codes "else if(") u (codes ")") v w r) (record {
        tokens = put (word (codes "else")) at ∷ t1;
        tree = else_if (at + 4 + 1) o1.tree o2.trees o3.tree;
        splits = first (word (codes "else")) at (codes " if(" ++ text) t1 refl refl (gap true) true;
        derives = rule.branch_otherwise {us = t1} (past_one d (word (codes "else")) at t1 f)
            (past (suc d) (word (codes "if")) (left ∷ []) (at + 4 + 1) t2 o1.tokens g (past_one (suc d) left (at + 4 + 1 + 2) o1.tokens g)) o1.derives
            (past_one (suc d) right x.last o2.tokens g) o2.derives o3.derives;
        same = elsed o1.tree t o2.trees ss o3.tree other o1.same o2.same o3.same;
      });
}

pub no_cases_shown : (d at : ℕ) → ShownCases d at [] no_cases
no_cases_shown d at = record { last = at; before = λ r rest sp. record { tokens = rest; tree = no_cases; splits = sp; derives = rule.no_clauses; same = refl } }

pub default_shown : (d at : ℕ) (m w : List ℕ) (ss : Stmts) → is_gap true m ≡ true → fits d ≡ true → ShownStmts d (at + length m + 7 + 1 + 1) w ss → ShownCases d at (m ++ codes "default:\n" ++ w) (tree.default ss)
default_shown d at m w ss g f x = record {
  last = x.last;
  before = λ r rest sp.
      let o = x.before r rest sp in
      let start = at + length m in
      let s1 = first colon (start + 7) (10 ∷ (w ++ r)) o.tokens refl refl (on_next_line (start + 7 + 1) (w ++ r) o.tokens o.splits) in
      let t1 = put colon (start + 7) ∷ o.tokens in
      let s0 = first (word (codes "default")) start (codes ":\n" ++ (w ++ r)) t1 refl refl (s1 true) in
      record {
        tokens = put (word (codes "default")) start ∷ t1;
        tree = tree.default o.trees;
        splits = subst (λ z. Splits true at z (put (word (codes "default")) start ∷ t1)) (sym (three m (codes "default:\n") w r))
            (past_margin m at (codes "default:\n" ++ (w ++ r)) (put (word (codes "default")) start ∷ t1) g (s0 true));
        derives = rule.default_clause (past d (word (codes "default")) (colon ∷ []) start t1 o.tokens f (past_one d colon (start + 7) o.tokens f)) o.derives;
        same = ap (λ z. tree.default z) o.same;
      };
}

cased : (n : ℕ) (a u : Stmts) (b v : Cases) → erase_stmts a ≡ erase_stmts u → erase_cases b ≡ erase_cases v → tree.case n (erase_stmts a) (erase_cases b) ≡ tree.case n (erase_stmts u) (erase_cases v)
cased n a u b v p q = cc

pub case_shown : (d at n : ℕ) (m w v : List ℕ) (ss : Stmts) (cs : Cases) → is_gap true m ≡ true → fits d ≡ true → is_in_range n ≡ true → (x : ShownStmts d (at + length m + 4 + 1 + length (decimal n) + 1 + 1) w ss) → ShownCases d x.last v cs
    → ShownCases d at (m ++ codes "case " ++ decimal n ++ codes ":\n" ++ w ++ v) (tree.case n ss cs)
case_shown d at n m w v ss cs g f k x y = record {
  last = y.last;
  before = λ r rest sp.
      let o2 = y.before r rest sp in
      let o1 = x.before (v ++ r) o2.tokens o2.splits in
      let text = w ++ (v ++ r) in
      let start = at + length m in
      let s2 = first colon (start + 4 + 1 + length (decimal n)) (10 ∷ text) o1.tokens refl refl (on_next_line (start + 4 + 1 + length (decimal n) + 1) text o1.tokens o1.splits) in
      let t2 = put colon (start + 4 + 1 + length (decimal n)) ∷ o1.tokens in
      let s1 = first (numeric_literal n) (start + 4 + 1) (codes ":\n" ++ text) t2 k refl (s2 true) in
      let t1 = put (numeric_literal n) (start + 4 + 1) ∷ t2 in
      let number = decimal n ++ (codes ":\n" ++ text) in
      let s0 = first (word (codes "case")) start (32 ∷ number) t1 refl refl (spaced (start + 4) number t1 s1 true) in
      record {
        tokens = put (word (codes "case")) start ∷ t1;
        tree = tree.case n o1.trees o2.tree;
        splits = subst (λ z. Splits true at z (put (word (codes "case")) start ∷ t1)) (sym (six m (codes "case ") (decimal n) (codes ":\n") w v r))
            (past_margin m at (codes "case " ++ number) (put (word (codes "case")) start ∷ t1) g (s0 true));
        derives = rule.case_clause (past d (word (codes "case")) (numeric_literal n ∷ colon ∷ []) start t1 o1.tokens f
            (past d (numeric_literal n) (colon ∷ []) (start + 4 + 1) t2 o1.tokens f (past_one d colon (start + 4 + 1 + length (decimal n)) o1.tokens f))) o1.derives o2.derives;
        same = cased n o1.trees ss o2.tree cs o1.same o2.same;
      };
}
