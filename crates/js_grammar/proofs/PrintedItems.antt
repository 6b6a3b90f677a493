-- Each script that fits is printed as a script with its tree, places aside.
use Rattle.std.proofs.Common.{◌≡◌, sym, subst, ap, ap₂, ℕ, ◌+◌, List, [], ◌∷◌, ◌++◌, map, length, true, refl, append_assoc}
use Rattle.std.specs.Prelude.{not, ◌&&◌, codes}
use Rattle.std.specs.List.{list_all}
use Rattle.js_tree.specs.Lexical.{identifier_name, Placed, Splits, end, goes_on}
use Rattle.js_tree.specs.Script as tree
use Rattle.js_tree.specs.Script.{Name, Stmts, Function, Item, function_item, global_item, ScriptTree}
use Rattle.js_tree.specs.Erase.{erase_stmts, erase_item, erase}
use Rattle.js_tree.specs.Printed.{expr_text, declare_text, stmts_text, in_braces, names_text, more_names, items_text, preamble}
use Rattle.js_tree.specs.Printable.{is_name, is_own_name, expr_fits, stmts_fit, item_fits, is_printable}
use Rattle.js_tree.specs.Scripts as rule
use Rattle.js_tree.specs.Scripts.{at_of, word, Parameters, MoreParameters, Items, Body, IsScript}
use Rattle.js_grammar.specs.Steps.{left, right, comma, semicolon}
use Rattle.js_grammar.specs.ReadBack.{IsReadBack}
use Rattle.js_grammar.proofs.Splitting.{put}
use Rattle.js_grammar.proofs.Words.{both_true}
use Rattle.js_grammar.proofs.PrintedTokens.{first, spaced, on_next_line, past, past_one}
use Rattle.js_grammar.proofs.PrintedWithin.{alone}
use Rattle.js_grammar.proofs.PrintedLevels.{deep}
use Rattle.js_grammar.proofs.PrintedAtoms.{three}
use Rattle.js_grammar.proofs.PrintedExpr.{show}
use Rattle.js_grammar.proofs.PrintedBlocks.{ShownBlock, ShownDeclared, name_piece, own_is_name, braces, declared_shown}
use Rattle.js_grammar.proofs.PrintedStmt.{show_stmts}

-- names with commas between, before what goes on with no name
record OutMoreNames (at : ℕ) (text : List ℕ) (rest : List Placed) (xs : List Name) : Type 0 where
  tokens : List Placed
  splits : Splits true at text tokens
  derives : MoreParameters tokens rest xs

record ShownMoreNames (at : ℕ) (text : List ℕ) (xs : List Name) : Type 0 where
  last : ℕ
  before : (r : List ℕ) (rest : List Placed) → not (goes_on r) ≡ true → Splits true last r rest → OutMoreNames at (text ++ r) rest xs

more_names_stop : (xs : List Name) (r : List ℕ) → not (goes_on r) ≡ true → not (goes_on (more_names xs ++ r)) ≡ true
more_names_stop [] r q = q
more_names_stop (x ∷ xs) r q = refl

show_more_names : (xs : List Name) (at : ℕ) → list_all is_own_name xs ≡ true → ShownMoreNames at (more_names xs) xs
show_more_names [] at q = record { last = at; before = λ r rest e sp. record { tokens = rest; splits = sp; derives = rule.no_more_parameters } }
show_more_names (x ∷ xs) at q =
    let f = both_true (is_own_name x) (list_all is_own_name xs) q in
    let y = show_more_names xs (at + 1 + 1 + length x) f.1 in
    record {
      last = y.last;
      before = λ r rest e sp.
          let o = y.before r rest e sp in
          let text = more_names xs ++ r in
          let n = name_piece x (at + 1 + 1) text o.tokens (own_is_name x f.0) (more_names_stop xs r e) o.splits in
          let t1 = put (identifier_name x) (at + 1 + 1) ∷ o.tokens in
          let c = first comma at (32 ∷ (x ++ text)) t1 refl refl (spaced (at + 1) (x ++ text) t1 n true) in
          record {
            tokens = put comma at ∷ t1;
            splits = subst (λ z. Splits true at z (put comma at ∷ t1)) (sym (three (codes ", ") x (more_names xs) r)) (c true);
            derives = rule.more_parameters f.0 (past 1 comma (identifier_name x ∷ []) at t1 o.tokens refl (past_one 1 (identifier_name x) (at + 1 + 1) o.tokens refl)) o.derives;
          };
    }

record OutNames (at : ℕ) (text : List ℕ) (rest : List Placed) (xs : List Name) : Type 0 where
  tokens : List Placed
  splits : Splits true at text tokens
  derives : Parameters tokens rest xs

record ShownNames (at : ℕ) (text : List ℕ) (xs : List Name) : Type 0 where
  last : ℕ
  before : (r : List ℕ) (rest : List Placed) → not (goes_on r) ≡ true → Splits true last r rest → OutNames at (text ++ r) rest xs

show_names : (xs : List Name) (at : ℕ) → list_all is_own_name xs ≡ true → ShownNames at (names_text xs) xs
show_names [] at q = record { last = at; before = λ r rest e sp. record { tokens = rest; splits = sp; derives = rule.no_parameters } }
show_names (x ∷ xs) at q =
    let f = both_true (is_own_name x) (list_all is_own_name xs) q in
    let y = show_more_names xs (at + length x) f.1 in
    record {
      last = y.last;
      before = λ r rest e sp.
          let o = y.before r rest e sp in
          let n = name_piece x at (more_names xs ++ r) o.tokens (own_is_name x f.0) (more_names_stop xs r e) o.splits in
          let t1 = put (identifier_name x) at ∷ o.tokens in
          record {
            tokens = t1;
            splits = subst (λ z. Splits true at z t1) (sym (append_assoc x (more_names xs) r)) (n true);
            derives = rule.parameters f.0 (past_one 1 (identifier_name x) at o.tokens refl) o.derives;
          };
    }

-- items in order
pub record OutItems (at : ℕ) (text : List ℕ) (rest : List Placed) (items : List Item) : Type 0 where
  pub tokens : List Placed
  pub trees : List Item
  pub splits : Splits true at text tokens
  pub derives : Items tokens rest trees
  pub same : map erase_item trees ≡ map erase_item items

pub record ShownItems (at : ℕ) (text : List ℕ) (items : List Item) : Type 0 where
  pub last : ℕ
  pub before : (r : List ℕ) (rest : List Placed) → Splits true last r rest → OutItems at (text ++ r) rest items

regroup : (x ns u v r : List ℕ) → ((((((codes "function " ++ x) ++ codes "(") ++ ns) ++ codes ")") ++ u) ++ codes "\n" ++ v) ++ r ≡ codes "function " ++ (x ++ (40 ∷ (ns ++ (41 ∷ (u ++ (10 ∷ (v ++ r)))))))
regroup x ns u v r = simp append_assoc

function_same : (x : Name) (xs : List Name) (b v : Stmts) (c w : List Item) → erase_stmts b ≡ erase_stmts v → map erase_item c ≡ map erase_item w
    → function_item (record { name = x; params = xs; body = erase_stmts b; at = 0 }) ∷ map erase_item c ≡ function_item (record { name = x; params = xs; body = erase_stmts v; at = 0 }) ∷ map erase_item w
function_same x xs b v c w p q = ap₂ (λ y z. function_item (record { name = x; params = xs; body = y; at = 0 }) ∷ z) p q

function_first : (f : Function) (items : List Item) (at : ℕ) (u v : List ℕ) → is_own_name f.name ≡ true → (n : ShownNames (at + 8 + 1 + length f.name + 1) (names_text f.params) f.params) → (b : ShownBlock 0 (n.last + 1) u f.body) → ShownItems (b.last + 1) v items
    → ShownItems at (codes "function " ++ f.name ++ codes "(" ++ names_text f.params ++ codes ")" ++ u ++ codes "\n" ++ v) (function_item f ∷ items)
function_first f items at u v q n b y = record {
  last = y.last;
  before = λ r rest sp.
      let x = f.name in
      let o3 = y.before r rest sp in
      let o2 = b.before (10 ∷ (v ++ r)) o3.tokens (on_next_line b.last (v ++ r) o3.tokens o3.splits) in
      let body = u ++ (10 ∷ (v ++ r)) in
      let c = first right n.last body o2.tokens refl refl (o2.splits true) in
      let o1 = n.before (41 ∷ body) (put right n.last ∷ o2.tokens) refl (c true) in
      let text = names_text f.params ++ (41 ∷ body) in
      let t2 = put left (at + 8 + 1 + length x) ∷ o1.tokens in
      let s2 = first left (at + 8 + 1 + length x) text o1.tokens refl refl o1.splits in
      let t1 = put (identifier_name x) (at + 8 + 1) ∷ t2 in
      let s1 = name_piece x (at + 8 + 1) (40 ∷ text) t2 (own_is_name x q) refl (s2 true) in
      let t0 = put (word (codes "function")) at ∷ t1 in
      let s0 = first (word (codes "function")) at (32 ∷ (x ++ (40 ∷ text))) t1 refl refl (spaced (at + 8) (x ++ (40 ∷ text)) t1 s1 true) in
      record {
        tokens = t0;
        trees = function_item (record { name = x; params = f.params; body = o2.trees; at = at }) ∷ o3.trees;
        splits = subst (λ z. Splits true at z t0) (sym (regroup x (names_text f.params) u v r)) (s0 true);
        derives = rule.function {ts = t0} q (past 0 (word (codes "function")) (identifier_name x ∷ left ∷ []) at t1 o1.tokens refl
            (past 0 (identifier_name x) (left ∷ []) (at + 8 + 1) t2 o1.tokens refl (past_one 0 left (at + 8 + 1 + length x) o1.tokens refl)))
            o1.derives (past_one 0 right n.last o2.tokens refl) o2.derives o3.derives;
        same = function_same x f.params o2.trees f.body o3.trees items o2.same o3.same;
      };
}

pub global_first : (p at : ℕ) (x : Name) (e : tree.Expr) (items : List Item) (u v : List ℕ) → is_own_name x ≡ true → (d : ShownDeclared 0 at u x e) → ShownItems (d.last + 1) v items
    → ShownItems at (u ++ codes "\n" ++ v) (global_item p x e ∷ items)
global_first p at x e items u v q d y = record {
  last = y.last;
  before = λ r rest sp.
      let o2 = y.before r rest sp in
      let o1 = d.before (10 ∷ (v ++ r)) o2.tokens (on_next_line d.last (v ++ r) o2.tokens o2.splits) in
      record {
        tokens = o1.tokens;
        trees = global_item (at_of o1.tokens) x o1.tree ∷ o2.trees;
        splits = subst (λ z. Splits true at z o1.tokens) (sym (three u (codes "\n") v r)) (o1.splits true);
        derives = rule.global q o1.head o1.derives o1.tail o2.derives;
        same = ap₂ (λ a b. global_item 0 x a ∷ b) o1.same o2.same;
      };
}

pub show_items : (items : List Item) (at : ℕ) → list_all item_fits items ≡ true → ShownItems at (items_text items) items
show_items [] at q = record { last = at; before = λ r rest sp. record { tokens = rest; trees = []; splits = sp; derives = rule.no_items; same = refl } }
show_items (function_item f ∷ items) at q =
    let g = both_true (item_fits (function_item f)) (list_all item_fits items) q in
    let h = both_true (is_own_name f.name && list_all is_own_name f.params) (stmts_fit 1 f.body) g.0 in
    let k = both_true (is_own_name f.name) (list_all is_own_name f.params) h.0 in
    let n = show_names f.params (at + 8 + 1 + length f.name + 1) k.1 in
    let b = braces 0 (n.last + 1) [] (stmts_text (codes "  ") f.body) f.body refl refl (show_stmts f.body (codes "  ") 1 (n.last + 1 + 1 + 1) refl h.1) in
    function_first f items at (in_braces [] (stmts_text (codes "  ") f.body)) (items_text items) k.0 n b (show_items items (b.last + 1) g.1)
show_items (global_item p x e ∷ items) at q =
    let g = both_true (item_fits (global_item p x e)) (list_all item_fits items) q in
    let h = both_true (is_own_name x) (expr_fits 0 e) g.0 in
    let y = alone e 0 (at + 3 + 1 + length x + 1 + 1 + 1) (show e) h.1 in
    let d = declared_shown 0 y.n at x (expr_text e) e (deep e 0 h.1) (own_is_name x h.0) y.shown in
    global_first p at x e items (declare_text x e) (items_text items) h.0 d (show_items items (d.last + 1) g.1)

started : (a b c d : List ℕ) → ((a ++ b) ++ c) ++ d ≡ a ++ (b ++ (c ++ d))
started a b c d = simp append_assoc

-- items and the call at the end are a script
pub record Ended (bytes : List ℕ) (items : List Item) (x : Name) : Type 0 where
  pub tree : ScriptTree
  pub is_script : IsScript bytes tree
  pub same : erase tree ≡ record { items = map erase_item items; start = x; start_at = 0 }

pub ended : (items : List Item) (w : List ℕ) (x : Name) → is_name x ≡ true → ShownItems (length preamble) w items → Ended (preamble ++ w ++ x ++ codes "();\n") items x
ended items w x q y =
    let p = y.last + length x in
    let t3 = put semicolon (p + 1 + 1) ∷ [] in
    let t2 = put right (p + 1) ∷ t3 in
    let t1 = put left p ∷ t2 in
    let t0 = put (identifier_name x) y.last ∷ t1 in
    let last : Splits true (p + 1 + 1 + 1) (10 ∷ []) [] = end (10 ∷ []) refl in
    let s3 = first semicolon (p + 1 + 1) (10 ∷ []) [] refl refl last in
    let s2 = first right (p + 1) (codes ";\n") t3 refl refl (s3 true) in
    let s1 = first left p (codes ");\n") t2 refl refl (s2 true) in
    let s0 = name_piece x y.last (codes "();\n") t1 q refl (s1 true) in
    let o = y.before (x ++ codes "();\n") t0 (s0 true) in
    record {
      tree = record { items = o.trees; start = x; start_at = y.last };
      is_script = record {
        body = w ++ (x ++ codes "();\n");
        tokens = o.tokens;
        begins = started preamble w x (codes "();\n");
        splits = o.splits;
        derives = record {
          start = t0;
          items = o.derives;
          is_name = q;
          call = past 0 (identifier_name x) (left ∷ right ∷ semicolon ∷ []) y.last t1 [] refl (past 0 left (right ∷ semicolon ∷ []) p t2 [] refl (past 0 right (semicolon ∷ []) (p + 1) t3 [] refl (past_one 0 semicolon (p + 1 + 1) [] refl)));
          at = refl;
        };
      };
      same = ap (λ z. record { items = z; start = x; start_at = 0 }) o.same;
    }

-- the text of a script that fits is a script with its tree, places aside
pub read_back : (s : ScriptTree) → is_printable s ≡ true → IsReadBack s
read_back s q =
    let f = both_true (list_all item_fits s.items) (is_name s.start) q in
    let h = ended s.items (items_text s.items) s.start f.1 (show_items s.items (length preamble) f.0) in
    record { tree = h.tree; is_script = h.is_script; same = h.same }
