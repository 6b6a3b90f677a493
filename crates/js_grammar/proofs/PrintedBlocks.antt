-- Printed statements in lines, in braces and after labels.
use Rattle.std.proofs.Common.{◌≡◌, ◌∙◌, sym, subst, ap, ap₂, ℕ, suc, ◌+◌, List, [], ◌∷◌, ◌++◌, length, Option, Some, None, Bool, true, false, refl, append_assoc}
use Rattle.std.specs.Prelude.{not, ◌==◌, ◌&&◌, ◌||◌, codes}
use Rattle.js_tree.specs.Lexical.{identifier_name, Placed, Splits, goes_on, is_gap}
use Rattle.js_tree.specs.Script.{Name, Expr, Stmt, Stmts, no_stmts, stmt, Else, Cases}
use Rattle.js_tree.specs.Erase.{erase_expr, erase_stmt, erase_stmts, erase_else, erase_cases}
use Rattle.js_tree.specs.Printed.{deeper, in_braces, label_text}
use Rattle.js_tree.specs.Printable.{is_name, is_own_name, is_own_label, fits}
use Rattle.js_tree.specs.Scripts as rule
use Rattle.js_tree.specs.Scripts.{after, at_of, word, sign, Expression, Statement, Statements, Block, Otherwise, CaseClauses, Label}
use Rattle.js_grammar.specs.Steps.{open_brace, close_brace, colon, semicolon, equals}
use Rattle.js_grammar.proofs.Splitting.{put}
use Rattle.js_grammar.proofs.Words.{both_true}
use Rattle.js_grammar.proofs.PrintedTokens.{first, spaced, on_next_line, past_margin, past, past_one, name_token, Shown}
use Rattle.js_grammar.proofs.PrintedAtoms.{four, five, name_free}
use Rattle.js_grammar.proofs.PrintedOperators.{Between, between}

-- a statement was printed so before what follows
pub record OutStmt (d at : ℕ) (text : List ℕ) (rest : List Placed) (s : Stmt) : Type 0 where
  pub tokens : List Placed
  pub tree : Stmt
  pub splits : (newlines : Bool) → Splits newlines at text tokens
  pub derives : Statement d tokens rest tree
  pub same : erase_stmt tree ≡ erase_stmt s

-- a statement is printed so before anything
pub record ShownStmt (d at : ℕ) (text : List ℕ) (s : Stmt) : Type 0 where
  pub last : ℕ
  pub before : (r : List ℕ) (rest : List Placed) → Splits true last r rest → OutStmt d at (text ++ r) rest s

pub record OutStmts (d at : ℕ) (text : List ℕ) (rest : List Placed) (ss : Stmts) : Type 0 where
  pub tokens : List Placed
  pub trees : Stmts
  pub splits : Splits true at text tokens
  pub derives : Statements d tokens rest trees
  pub same : erase_stmts trees ≡ erase_stmts ss

pub record ShownStmts (d at : ℕ) (text : List ℕ) (ss : Stmts) : Type 0 where
  pub last : ℕ
  pub before : (r : List ℕ) (rest : List Placed) → Splits true last r rest → OutStmts d at (text ++ r) rest ss

pub record OutBlock (d at : ℕ) (text : List ℕ) (rest : List Placed) (ss : Stmts) : Type 0 where
  pub tokens : List Placed
  pub trees : Stmts
  pub splits : (newlines : Bool) → Splits newlines at text tokens
  pub derives : Block d tokens rest trees
  pub same : erase_stmts trees ≡ erase_stmts ss

pub record ShownBlock (d at : ℕ) (text : List ℕ) (ss : Stmts) : Type 0 where
  pub last : ℕ
  pub before : (r : List ℕ) (rest : List Placed) → Splits true last r rest → OutBlock d at (text ++ r) rest ss

pub record OutElse (d at : ℕ) (text : List ℕ) (rest : List Placed) (other : Else) : Type 0 where
  pub tokens : List Placed
  pub tree : Else
  pub splits : Splits true at text tokens
  pub derives : Otherwise d tokens rest tree
  pub same : erase_else tree ≡ erase_else other

pub record ShownElse (d at : ℕ) (text : List ℕ) (other : Else) : Type 0 where
  pub last : ℕ
  pub before : (r : List ℕ) (rest : List Placed) → Splits true last r rest → OutElse d at (text ++ r) rest other

pub record OutCases (d at : ℕ) (text : List ℕ) (rest : List Placed) (cs : Cases) : Type 0 where
  pub tokens : List Placed
  pub tree : Cases
  pub splits : Splits true at text tokens
  pub derives : CaseClauses d tokens rest tree
  pub same : erase_cases tree ≡ erase_cases cs

pub record ShownCases (d at : ℕ) (text : List ℕ) (cs : Cases) : Type 0 where
  pub last : ℕ
  pub before : (r : List ℕ) (rest : List Placed) → Splits true last r rest → OutCases d at (text ++ r) rest cs

pub restmt : {d at : ℕ} {x y : List ℕ} {rest : List Placed} {s : Stmt} → x ≡ y → OutStmt d at y rest s → OutStmt d at x rest s
restmt {d = d} {at = at} {rest = rest} {s = s} q o = subst (λ z. OutStmt d at z rest s) (sym q) o

-- margins are gaps
pub deeper_gap : (m : List ℕ) → is_gap true m ≡ true → is_gap true (deeper m) ≡ true
deeper_gap [] q = refl
deeper_gap (c ∷ cs) q =
    let b = both_true (c == 32 || true && c == 10) (is_gap true cs) q in
    ap (λ z. z && is_gap true (deeper cs)) b.0 ∙ deeper_gap cs b.1

-- a name before what is split
pub name_piece : (x : Name) (at : ℕ) (r : List ℕ) (rest : List Placed) → is_name x ≡ true → not (goes_on r) ≡ true → Splits true (at + length x) r rest → (newlines : Bool) → Splits newlines at (x ++ r) (put (identifier_name x) at ∷ rest)
name_piece x at r rest p q s = first (identifier_name x) at r rest (name_token x p) q (subst (λ z. Splits (not z) (at + length x) r rest) (sym (name_free x p)) s)

pub own_is_name : (x : Name) → is_own_name x ≡ true → is_name x ≡ true
own_is_name x p = (both_true (is_name x) _ p).0

pub equals_between : Between equals
equals_between = record { token = refl; free = refl; ends_there = λ r. refl }

-- lines

pub no_lines : (d at : ℕ) → ShownStmts d at [] no_stmts
no_lines d at = record { last = at; before = λ r rest sp. record { tokens = rest; trees = no_stmts; splits = sp; derives = rule.no_statements; same = refl } }

pub lines : (d at : ℕ) (m w v : List ℕ) (s : Stmt) (ss : Stmts) → is_gap true m ≡ true → (x : ShownStmt d (at + length m) w s) → ShownStmts d (x.last + 1) v ss → ShownStmts d at (m ++ w ++ codes "\n" ++ v) (stmt s ss)
lines d at m w v s ss g x y = record {
  last = y.last;
  before = λ r rest sp.
      let o2 = y.before r rest sp in
      let next = on_next_line x.last (v ++ r) o2.tokens o2.splits in
      let o1 = x.before (10 ∷ (v ++ r)) o2.tokens next in
      let s1 = past_margin m at (w ++ (10 ∷ (v ++ r))) o1.tokens g (o1.splits true) in
      record {
        tokens = o1.tokens;
        trees = stmt o1.tree o2.trees;
        splits = subst (λ z. Splits true at z o1.tokens) (sym (four m w (codes "\n") v r)) s1;
        derives = rule.statements o1.derives o2.derives;
        same = ap₂ (λ a b. stmt a b) o1.same o2.same;
      };
}

-- lines in braces
pub braces : (d at : ℕ) (m w : List ℕ) (ss : Stmts) → is_gap true m ≡ true → fits d ≡ true → ShownStmts (suc d) (at + 1 + 1) w ss → ShownBlock d at (in_braces m w) ss
braces d at m w ss g f x = record {
  last = x.last + length m + 1;
  before = λ r rest sp.
      let c = first close_brace (x.last + length m) r rest refl refl sp in
      let t2 = put close_brace (x.last + length m) ∷ rest in
      let o = x.before (m ++ (125 ∷ r)) t2 (past_margin m x.last (125 ∷ r) t2 g (c true)) in
      let text = w ++ (m ++ (125 ∷ r)) in
      let next = on_next_line (at + 1) text o.tokens o.splits in
      let b = first open_brace at (10 ∷ text) o.tokens refl refl next in
      record {
        tokens = put open_brace at ∷ o.tokens;
        trees = o.trees;
        splits = subst (λ z. (newlines : Bool) → Splits newlines at z (put open_brace at ∷ o.tokens)) (sym (four (codes "{\n") w m (codes "}") r)) b;
        derives = rule.block (past_one d open_brace at o.tokens f) o.derives (past_one d close_brace (x.last + length m) rest f);
        same = o.same;
      };
}

-- labels

abbrev pub label_end : Option Name → ℕ → ℕ
label_end None at = at
label_end (Some x) at = at + length x + 1

pub record OutLabel (d at : ℕ) (text : List ℕ) (rest : List Placed) (l : Option Name) : Type 0 where
  pub tokens : List Placed
  pub splits : (newlines : Bool) → Splits newlines at text tokens
  pub derives : Label d tokens rest l

pub label_shown : (l : Option Name) (d at : ℕ) (r : List ℕ) (rest : List Placed) → fits d ≡ true → is_own_label l ≡ true → ((newlines : Bool) → Splits newlines (label_end l at) r rest) → OutLabel d at (label_text l ++ r) rest l
label_shown None d at r rest f q s = record { tokens = rest; splits = s; derives = rule.no_label }
label_shown (Some x) d at r rest f q s =
    let t1 = put colon (at + length x) ∷ rest in
    let c = first colon (at + length x) r rest refl refl (s true) in
    let n = name_piece x at (58 ∷ r) t1 (own_is_name x q) refl (c true) in
    record {
      tokens = put (identifier_name x) at ∷ t1;
      splits = subst (λ z. (newlines : Bool) → Splits newlines at z (put (identifier_name x) at ∷ t1)) (sym (append_assoc x (codes ":") r)) n;
      derives = rule.labelled q (past d (identifier_name x) (colon ∷ []) at t1 rest f (past_one d colon (at + length x) rest f));
    }

-- a variable with its first value
pub record OutDeclared (d at : ℕ) (text : List ℕ) (x : Name) (rest : List Placed) (e : Expr) : Type 0 where
  pub n : ℕ
  pub tokens : List Placed
  pub us : List Placed
  pub vs : List Placed
  pub tree : Expr
  pub splits : (newlines : Bool) → Splits newlines at text tokens
  pub head : after d (word (codes "var") ∷ identifier_name x ∷ equals ∷ []) tokens ≡ Some us
  pub derives : Expression d 0 n us vs tree
  pub tail : after d (semicolon ∷ []) vs ≡ Some rest
  pub same : erase_expr tree ≡ erase_expr e

pub record ShownDeclared (d at : ℕ) (text : List ℕ) (x : Name) (e : Expr) : Type 0 where
  pub last : ℕ
  pub before : (r : List ℕ) (rest : List Placed) → Splits true last r rest → OutDeclared d at (text ++ r) x rest e

pub declared_shown : (d n at : ℕ) (x : Name) (w : List ℕ) (e : Expr) → fits d ≡ true → is_name x ≡ true → Shown false d 0 n (at + 3 + 1 + length x + 1 + 1 + 1) w e → ShownDeclared d at (codes "var " ++ x ++ codes " = " ++ w ++ codes ";") x e
declared_shown d n at x w e f p y = record {
  last = y.last + 1;
  before = λ r rest sp.
      let c = first semicolon y.last r rest refl refl sp in
      let o = y.before (59 ∷ r) (put semicolon y.last ∷ rest) refl (c true) in
      let text = w ++ (59 ∷ r) in
      let s2 = between equals (at + 3 + 1 + length x) text o.tokens equals_between o.splits in
      let t2 = put equals (at + 3 + 1 + length x + 1) ∷ o.tokens in
      let s1 = name_piece x (at + 3 + 1) (codes " = " ++ text) t2 p refl s2 in
      let t1 = put (identifier_name x) (at + 3 + 1) ∷ t2 in
      let s0 = first (word (codes "var")) at (32 ∷ (x ++ (codes " = " ++ text))) t1 refl refl (spaced (at + 3) (x ++ (codes " = " ++ text)) t1 s1 true) in
      record {
        n = n;
        tokens = put (word (codes "var")) at ∷ t1;
        us = o.tokens;
        vs = put semicolon y.last ∷ rest;
        tree = o.tree;
        splits = subst (λ z. (newlines : Bool) → Splits newlines at z (put (word (codes "var")) at ∷ t1)) (sym (five (codes "var ") x (codes " = ") (w) (codes ";") r)) s0;
        head = past d (word (codes "var")) (identifier_name x ∷ equals ∷ []) at t1 o.tokens f
            (past d (identifier_name x) (equals ∷ []) (at + 3 + 1) t2 o.tokens f (past_one d equals (at + 3 + 1 + length x + 1) o.tokens f));
        derives = o.derives;
        tail = past_one d semicolon y.last rest f;
        same = o.same;
      };
}
