-- Neither the text of a script nor whether it has one depends on places.
use Rattle.std.proofs.Common.{◌≡◌, ◌∙◌, sym, ap, ap₂, ℕ, suc, ◌+◌, List, [], ◌∷◌, ◌++◌, map, Some, None, Bool, false, refl}
use Rattle.std.specs.Prelude.{◌==◌, ◌&&◌, nat_lt, codes, if◌then◌else◌}
use Rattle.std.specs.Fmt.{decimal}
use Rattle.std.specs.List.{list_all}
use Rattle.js_tree.specs.Script.{Expr, number, unary, binary, both, either, choice, call, index, length_of, pop, char_code_at, substring, array, decimal_of, from_char_code, Exprs, no_exprs, expr, Stmt, declare, assign, store, perform, push, remove, branch, while, forever, switch, return, throw, break, continue, attempt, Stmts, no_stmts, stmt, Else, no_else, else_block, else_if, Cases, no_cases, default, case, Item, function_item, global_item, ScriptTree}
use Rattle.js_tree.specs.Erase.{erase_expr, erase_exprs, erase_stmt, erase_stmts, erase_else, erase_cases, erase_item, erase}
use Rattle.js_tree.specs.Printed.{op_level, op_text, level, negates, sign_text, in_parentheses, within, is_number, dot_level, before_dot, char_code_at_word, substring_word, string_word, from_char_code_word, expr_text, exprs_text, more_text, begins_within, begins_with_word, gap, label_text, declare_text, deeper, in_braces, catch_word, stmt_text, stmts_text, else_text, cases_text, names_text, item_text, items_text, preamble, plain}
use Rattle.js_tree.specs.Printable.{is_own_name, is_own_label, is_in_range, is_name, is_call, fits, depth_within, operators, parts, expr_fits, exprs_fit, stmt_fits, stmts_fit, else_fits, cases_fit, item_fits, is_printable}
use Rattle.js_tree.specs.declared.tree.UnaryOp.{UnaryOp}
use Rattle.js_tree.specs.declared.tree.UnaryOp.TheVariants.{Negate, Complement, Not}

level_stays : (e : Expr) → level (erase_expr e) ≡ level e
level_stays (number at n) = refl
level_stays e = refl

negates_stays : (e : Expr) → negates (erase_expr e) ≡ negates e
negates_stays (number at n) = refl
negates_stays e = refl

number_stays : (e : Expr) → is_number (erase_expr e) ≡ is_number e
number_stays (number at n) = refl
number_stays e = refl

-- a call stays a call
pub call_stays : (e : Expr) → is_call (erase_expr e) ≡ is_call e
call_stays (number at n) = refl
call_stays e = refl

dot_level_stays : (e : Expr) → dot_level (erase_expr e) ≡ dot_level e
dot_level_stays e = ap (λ b. if b then 13 else 12) (number_stays e)

within_stays : (k : ℕ) (e : Expr) → expr_text (erase_expr e) ≡ expr_text e → within k (erase_expr e) (expr_text (erase_expr e)) ≡ within k e (expr_text e)
within_stays k e q = ap₂ (λ l t. if nat_lt l k then in_parentheses t else t) (level_stays e) q

dot_stays : (e : Expr) → expr_text (erase_expr e) ≡ expr_text e → before_dot (erase_expr e) (expr_text (erase_expr e)) ≡ before_dot e (expr_text e)
dot_stays e q = ap (λ k. within k (erase_expr e) (expr_text (erase_expr e))) (dot_level_stays e) ∙ within_stays (dot_level e) e q

sign_stays : (op : UnaryOp) (e : Expr) → sign_text op (erase_expr e) ≡ sign_text op e
sign_stays Negate e = ap (λ b. if b then codes "- " else codes "-") (negates_stays e)
sign_stays Complement e = refl
sign_stays Not e = refl

mutual
  text_stays : (e : Expr) → expr_text (erase_expr e) ≡ expr_text e
  text_stays (unary at op e) = ap₂ (λ x y. x ++ y) (sign_stays op e) (within_stays 11 e (text_stays e))
  text_stays (binary at op a b) = ap₂ (λ x y. x ++ op_text op ++ y) (within_stays (op_level op) a (text_stays a)) (within_stays (suc (op_level op)) b (text_stays b))
  text_stays (both at a b) = ap₂ (λ x y. x ++ codes " && " ++ y) (within_stays 2 a (text_stays a)) (within_stays 3 b (text_stays b))
  text_stays (either at a b) = ap₂ (λ x y. x ++ codes " || " ++ y) (within_stays 1 a (text_stays a)) (within_stays 2 b (text_stays b))
  text_stays (choice at t a b) =
      ap (λ x. x ++ codes " ? " ++ expr_text (erase_expr a) ++ codes " : " ++ expr_text (erase_expr b)) (within_stays 1 t (text_stays t))
      ∙ ap₂ (λ x y. within 1 t (expr_text t) ++ codes " ? " ++ x ++ codes " : " ++ y) (text_stays a) (text_stays b)
  text_stays (call at f es) = ap₂ (λ x y. x ++ codes "(" ++ y ++ codes ")") (within_stays 12 f (text_stays f)) (list_stays es)
  text_stays (index at e i) = ap₂ (λ x y. x ++ codes "[" ++ y ++ codes "]") (within_stays 12 e (text_stays e)) (text_stays i)
  text_stays (length_of at e) = ap (λ x. x ++ codes ".length") (dot_stays e (text_stays e))
  text_stays (pop at e) = ap (λ x. x ++ codes ".pop()") (dot_stays e (text_stays e))
  text_stays (char_code_at at e i) = ap₂ (λ x y. x ++ char_code_at_word ++ y ++ codes ")") (dot_stays e (text_stays e)) (text_stays i)
  text_stays (substring at e i j) =
      ap (λ x. x ++ substring_word ++ expr_text (erase_expr i) ++ codes ", " ++ expr_text (erase_expr j) ++ codes ")") (dot_stays e (text_stays e))
      ∙ ap₂ (λ x y. before_dot e (expr_text e) ++ substring_word ++ x ++ codes ", " ++ y ++ codes ")") (text_stays i) (text_stays j)
  text_stays (array at es) = ap (λ x. codes "[" ++ x ++ codes "]") (list_stays es)
  text_stays (decimal_of at e) = ap (λ x. string_word ++ x ++ codes ")") (text_stays e)
  text_stays (from_char_code at e) = ap (λ x. from_char_code_word ++ x ++ codes ")") (text_stays e)
  text_stays e = refl

  list_stays : (es : Exprs) → exprs_text (erase_exprs es) ≡ exprs_text es
  list_stays no_exprs = refl
  list_stays (expr e es) = ap₂ (λ x y. x ++ y) (text_stays e) (more_stays es)

  more_stays : (es : Exprs) → more_text (erase_exprs es) ≡ more_text es
  more_stays no_exprs = refl
  more_stays (expr e es) = ap₂ (λ x y. codes ", " ++ x ++ y) (text_stays e) (more_stays es)

begins_stays : (k : ℕ) (e : Expr) → begins_with_word (erase_expr e) ≡ begins_with_word e → begins_within k (erase_expr e) (begins_with_word (erase_expr e)) ≡ begins_within k e (begins_with_word e)
begins_stays k e q = ap₂ (λ l b. if nat_lt l k then false else b) (level_stays e) q

dot_begins_stays : (e : Expr) → begins_with_word (erase_expr e) ≡ begins_with_word e → begins_within (dot_level (erase_expr e)) (erase_expr e) (begins_with_word (erase_expr e)) ≡ begins_within (dot_level e) e (begins_with_word e)
dot_begins_stays e q = ap (λ k. begins_within k (erase_expr e) (begins_with_word (erase_expr e))) (dot_level_stays e) ∙ begins_stays (dot_level e) e q

word_stays : (e : Expr) → begins_with_word (erase_expr e) ≡ begins_with_word e
word_stays (binary at op a b) = begins_stays (op_level op) a (word_stays a)
word_stays (both at a b) = begins_stays 2 a (word_stays a)
word_stays (either at a b) = begins_stays 1 a (word_stays a)
word_stays (choice at t a b) = begins_stays 1 t (word_stays t)
word_stays (call at f es) = begins_stays 12 f (word_stays f)
word_stays (index at e i) = begins_stays 12 e (word_stays e)
word_stays (length_of at e) = dot_begins_stays e (word_stays e)
word_stays (pop at e) = dot_begins_stays e (word_stays e)
word_stays (char_code_at at e i) = dot_begins_stays e (word_stays e)
word_stays (substring at e i j) = dot_begins_stays e (word_stays e)
word_stays e = refl

gap_stays : (k : ℕ) (e : Expr) → gap k (erase_expr e) ≡ gap k e
gap_stays k e = ap (λ b. if b then codes " " else []) (begins_stays k e (word_stays e))

declare_stays : (x : List ℕ) (e : Expr) → declare_text x (erase_expr e) ≡ declare_text x e
declare_stays x e = ap (λ t. codes "var " ++ x ++ codes " = " ++ t ++ codes ";") (text_stays e)

mutual
  stmt_stays : (s : Stmt) (m : List ℕ) → stmt_text m (erase_stmt s) ≡ stmt_text m s
  stmt_stays (declare at x e) m = declare_stays x e
  stmt_stays (assign at x e) m = ap (λ t. x ++ codes " = " ++ t ++ codes ";") (text_stays e)
  stmt_stays (store at e i v) m =
      ap (λ t. t ++ codes "[" ++ expr_text (erase_expr i) ++ codes "] = " ++ expr_text (erase_expr v) ++ codes ";") (within_stays 12 e (text_stays e))
      ∙ ap₂ (λ x y. within 12 e (expr_text e) ++ codes "[" ++ x ++ codes "] = " ++ y ++ codes ";") (text_stays i) (text_stays v)
  stmt_stays (perform at e) m = ap (λ t. t ++ codes ";") (text_stays e)
  stmt_stays (push at e v) m = ap₂ (λ x y. x ++ codes ".push(" ++ y ++ codes ");") (dot_stays e (text_stays e)) (text_stays v)
  stmt_stays (remove at e k) m =
      ap (λ t. codes "delete" ++ t ++ within 12 (erase_expr e) (expr_text (erase_expr e)) ++ codes "[" ++ expr_text (erase_expr k) ++ codes "];") (gap_stays 12 e)
      ∙ ap₂ (λ x y. codes "delete" ++ gap 12 e ++ x ++ codes "[" ++ y ++ codes "];") (within_stays 12 e (text_stays e)) (text_stays k)
  stmt_stays (branch at t ss other) m =
      ap (λ x. codes "if(" ++ x ++ codes ")" ++ in_braces m (stmts_text (deeper m) (erase_stmts ss)) ++ else_text m (erase_else other)) (text_stays t)
      ∙ ap₂ (λ x y. codes "if(" ++ expr_text t ++ codes ")" ++ in_braces m x ++ y) (lines_stay ss (deeper m)) (else_stays other m)
  stmt_stays (while at l t ss) m = ap₂ (λ x y. label_text l ++ codes "while(" ++ x ++ codes ")" ++ in_braces m y) (text_stays t) (lines_stay ss (deeper m))
  stmt_stays (forever at l ss) m = ap (λ x. label_text l ++ codes "for(;;)" ++ in_braces m x) (lines_stay ss (deeper m))
  stmt_stays (switch at l e cs) m = ap₂ (λ x y. label_text l ++ codes "switch(" ++ x ++ codes ")" ++ in_braces m y) (text_stays e) (cases_stay cs (deeper m))
  stmt_stays (return at None) m = refl
  stmt_stays (return at (Some e)) m = ap₂ (λ x y. codes "return" ++ x ++ y ++ codes ";") (gap_stays 0 e) (text_stays e)
  stmt_stays (throw at e) m = ap₂ (λ x y. codes "throw" ++ x ++ y ++ codes ";") (gap_stays 0 e) (text_stays e)
  stmt_stays (break at l) m = refl
  stmt_stays (continue at l) m = refl
  stmt_stays (attempt at ss handler) m = ap₂ (λ x y. codes "try" ++ in_braces m x ++ catch_word ++ in_braces m y) (lines_stay ss (deeper m)) (lines_stay handler (deeper m))

  lines_stay : (ss : Stmts) (m : List ℕ) → stmts_text m (erase_stmts ss) ≡ stmts_text m ss
  lines_stay no_stmts m = refl
  lines_stay (stmt s ss) m = ap₂ (λ x y. m ++ x ++ codes "\n" ++ y) (stmt_stays s m) (lines_stay ss m)

  else_stays : (other : Else) (m : List ℕ) → else_text m (erase_else other) ≡ else_text m other
  else_stays no_else m = refl
  else_stays (else_block ss) m = ap (λ x. codes "else" ++ in_braces m x) (lines_stay ss (deeper m))
  else_stays (else_if at t ss other) m =
      ap (λ x. codes "else if(" ++ x ++ codes ")" ++ in_braces m (stmts_text (deeper m) (erase_stmts ss)) ++ else_text m (erase_else other)) (text_stays t)
      ∙ ap₂ (λ x y. codes "else if(" ++ expr_text t ++ codes ")" ++ in_braces m x ++ y) (lines_stay ss (deeper m)) (else_stays other m)

  cases_stay : (cs : Cases) (m : List ℕ) → cases_text m (erase_cases cs) ≡ cases_text m cs
  cases_stay no_cases m = refl
  cases_stay (default ss) m = ap (λ x. m ++ codes "default:\n" ++ x) (lines_stay ss m)
  cases_stay (case n ss rest) m = ap₂ (λ x y. m ++ codes "case " ++ decimal n ++ codes ":\n" ++ x ++ y) (lines_stay ss m) (cases_stay rest m)

item_stays : (i : Item) → item_text (erase_item i) ≡ item_text i
item_stays (function_item f) = ap (λ x. codes "function " ++ f.name ++ codes "(" ++ names_text f.params ++ codes ")" ++ in_braces [] x ++ codes "\n") (lines_stay f.body (codes "  "))
item_stays (global_item at x e) = ap (λ t. t ++ codes "\n") (declare_stays x e)

items_stay : (items : List Item) → items_text (map erase_item items) ≡ items_text items
items_stay [] = refl
items_stay (i ∷ items) = ap₂ (λ x y. x ++ y) (item_stays i) (items_stay items)

plain_stays : (s : ScriptTree) → plain (erase s) ≡ plain s
plain_stays s = ap (λ x. preamble ++ x ++ s.start ++ codes "();\n") (items_stay s.items)

-- scripts that are the same, places aside, have the same text
pub same_text : (s t : ScriptTree) → erase t ≡ erase s → plain t ≡ plain s
same_text s t q = sym (plain_stays t) ∙ (ap plain q ∙ plain_stays s)

operators_stay : (k : ℕ) (e : Expr) → operators k (erase_expr e) ≡ operators k e
operators_stay k (binary at op a b) = ap (λ n. if op_level op == k then suc n else 0) (operators_stay k a)
operators_stay k (both at a b) = ap (λ n. if k == 2 then suc n else 0) (operators_stay k a)
operators_stay k (either at a b) = ap (λ n. if k == 1 then suc n else 0) (operators_stay k a)
operators_stay k e = refl

parts_stay : (e : Expr) → parts (erase_expr e) ≡ parts e
parts_stay (call at f es) = ap suc (parts_stay f)
parts_stay (index at e i) = ap suc (parts_stay e)
parts_stay (length_of at e) = ap suc (parts_stay e)
parts_stay (pop at e) = ap suc (parts_stay e)
parts_stay (char_code_at at e i) = ap suc (parts_stay e)
parts_stay (substring at e i j) = ap suc (parts_stay e)
parts_stay e = refl

abbrev FitsStay : Expr → Type 0
FitsStay e = (d : ℕ) → expr_fits d (erase_expr e) ≡ expr_fits d e

within_fits_stay : (k d : ℕ) (e : Expr) → FitsStay e → expr_fits (depth_within k d (erase_expr e)) (erase_expr e) ≡ expr_fits (depth_within k d e) e
within_fits_stay k d e f = ap (λ l. expr_fits (if nat_lt l k then suc d else d) (erase_expr e)) (level_stays e) ∙ f (depth_within k d e)

dot_fits_stay : (d : ℕ) (e : Expr) → FitsStay e → expr_fits (depth_within (dot_level (erase_expr e)) d (erase_expr e)) (erase_expr e) ≡ expr_fits (depth_within (dot_level e) d e) e
dot_fits_stay d e f = ap (λ k. expr_fits (depth_within k d (erase_expr e)) (erase_expr e)) (dot_level_stays e) ∙ within_fits_stay (dot_level e) d e f

-- after the operators or parts of a chain
after_fits_stay : (d n m : ℕ) (e : Expr) → n ≡ m → FitsStay e → expr_fits (suc (d + n)) (erase_expr e) ≡ expr_fits (suc (d + m)) e
after_fits_stay d n m e q f = ap (λ z. expr_fits (suc (d + z)) (erase_expr e)) q ∙ f (suc (d + m))

operand_fits_stay : (k d n m : ℕ) (e : Expr) → n ≡ m → FitsStay e → expr_fits (depth_within k (suc (d + n)) (erase_expr e)) (erase_expr e) ≡ expr_fits (depth_within k (suc (d + m)) e) e
operand_fits_stay k d n m e q f = ap (λ z. expr_fits (depth_within k (suc (d + z)) (erase_expr e)) (erase_expr e)) q ∙ within_fits_stay k (suc (d + m)) e f

pub both_stay : {a b u v : Bool} → a ≡ u → b ≡ v → (a && b) ≡ (u && v)
both_stay p q = ap₂ (λ x y. x && y) p q

mutual
  fits_stay : (e : Expr) (d : ℕ) → expr_fits d (erase_expr e) ≡ expr_fits d e
  fits_stay (unary at op e) d = within_fits_stay 11 (suc d) e (fits_stay e)
  fits_stay (binary at op a b) d =
      both_stay (within_fits_stay (op_level op) d a (fits_stay a)) (operand_fits_stay (suc (op_level op)) d (operators (op_level op) (erase_expr a)) (operators (op_level op) a) b (operators_stay (op_level op) a) (fits_stay b))
  fits_stay (both at a b) d = both_stay (within_fits_stay 2 d a (fits_stay a)) (operand_fits_stay 3 d (operators 2 (erase_expr a)) (operators 2 a) b (operators_stay 2 a) (fits_stay b))
  fits_stay (either at a b) d = both_stay (within_fits_stay 1 d a (fits_stay a)) (operand_fits_stay 2 d (operators 1 (erase_expr a)) (operators 1 a) b (operators_stay 1 a) (fits_stay b))
  fits_stay (choice at t a b) d = both_stay (both_stay (within_fits_stay 1 d t (fits_stay t)) (fits_stay a (suc d))) (fits_stay b (suc d))
  fits_stay (call at f es) d =
      both_stay (both_stay (within_fits_stay 12 d f (fits_stay f)) (ap (λ n. fits (d + n)) (parts_stay f)))
      (ap (λ n. exprs_fit (suc (d + n)) (erase_exprs es)) (parts_stay f) ∙ list_fits_stay es (suc (d + parts f)))
  fits_stay (index at e i) d = both_stay (within_fits_stay 12 d e (fits_stay e)) (after_fits_stay d (parts (erase_expr e)) (parts e) i (parts_stay e) (fits_stay i))
  fits_stay (length_of at e) d = both_stay (dot_fits_stay d e (fits_stay e)) (ap (λ n. fits (d + n)) (parts_stay e))
  fits_stay (pop at e) d = both_stay (dot_fits_stay d e (fits_stay e)) (ap (λ n. fits (d + n)) (parts_stay e))
  fits_stay (char_code_at at e i) d = both_stay (dot_fits_stay d e (fits_stay e)) (after_fits_stay d (parts (erase_expr e)) (parts e) i (parts_stay e) (fits_stay i))
  fits_stay (substring at e i j) d =
      both_stay (both_stay (dot_fits_stay d e (fits_stay e)) (after_fits_stay d (parts (erase_expr e)) (parts e) i (parts_stay e) (fits_stay i)))
      (after_fits_stay d (parts (erase_expr e)) (parts e) j (parts_stay e) (fits_stay j))
  fits_stay (array at es) d = ap (λ b. fits d && b) (list_fits_stay es (suc d))
  fits_stay (decimal_of at e) d = fits_stay e (suc d)
  fits_stay (from_char_code at e) d = fits_stay e (suc d)
  fits_stay e d = refl

  list_fits_stay : (es : Exprs) (d : ℕ) → exprs_fit d (erase_exprs es) ≡ exprs_fit d es
  list_fits_stay no_exprs d = refl
  list_fits_stay (expr e es) d = both_stay (fits_stay e d) (list_fits_stay es d)

mutual
  stmt_fits_stay : (s : Stmt) (d : ℕ) → stmt_fits d (erase_stmt s) ≡ stmt_fits d s
  stmt_fits_stay (declare at x e) d = ap (λ b. is_own_name x && b) (fits_stay e d)
  stmt_fits_stay (assign at x e) d = ap (λ b. is_own_name x && b) (fits_stay e d)
  stmt_fits_stay (store at e i v) d =
      both_stay (both_stay (within_fits_stay 12 d e (fits_stay e)) (after_fits_stay d (parts (erase_expr e)) (parts e) i (parts_stay e) (fits_stay i))) (fits_stay v d)
  stmt_fits_stay (perform at e) d = both_stay (call_stays e) (fits_stay e d)
  stmt_fits_stay (push at e v) d = both_stay (dot_fits_stay d e (fits_stay e)) (after_fits_stay d (parts (erase_expr e)) (parts e) v (parts_stay e) (fits_stay v))
  stmt_fits_stay (remove at e k) d = both_stay (within_fits_stay 12 d e (fits_stay e)) (after_fits_stay d (parts (erase_expr e)) (parts e) k (parts_stay e) (fits_stay k))
  stmt_fits_stay (branch at t ss other) d = both_stay (both_stay (fits_stay t (suc d)) (lines_fit_stay ss (suc d))) (else_fits_stay other d)
  stmt_fits_stay (while at l t ss) d = both_stay (ap (λ b. is_own_label l && b) (fits_stay t (suc d))) (lines_fit_stay ss (suc d))
  stmt_fits_stay (forever at l ss) d = ap (λ b. is_own_label l && fits (suc d) && b) (lines_fit_stay ss (suc d))
  stmt_fits_stay (switch at l e cs) d = both_stay (ap (λ b. is_own_label l && b) (fits_stay e (suc d))) (cases_fit_stay cs (suc d))
  stmt_fits_stay (return at None) d = refl
  stmt_fits_stay (return at (Some e)) d = fits_stay e d
  stmt_fits_stay (throw at e) d = fits_stay e d
  stmt_fits_stay (break at l) d = refl
  stmt_fits_stay (continue at l) d = refl
  stmt_fits_stay (attempt at ss handler) d = both_stay (ap (λ b. fits (suc d) && b) (lines_fit_stay ss (suc d))) (lines_fit_stay handler (suc d))

  lines_fit_stay : (ss : Stmts) (d : ℕ) → stmts_fit d (erase_stmts ss) ≡ stmts_fit d ss
  lines_fit_stay no_stmts d = refl
  lines_fit_stay (stmt s ss) d = both_stay (stmt_fits_stay s d) (lines_fit_stay ss d)

  else_fits_stay : (other : Else) (d : ℕ) → else_fits d (erase_else other) ≡ else_fits d other
  else_fits_stay no_else d = refl
  else_fits_stay (else_block ss) d = ap (λ b. fits (suc d) && b) (lines_fit_stay ss (suc (suc d)))
  else_fits_stay (else_if at t ss other) d = both_stay (both_stay (fits_stay t (suc (suc d))) (lines_fit_stay ss (suc (suc d)))) (else_fits_stay other (suc d))

  cases_fit_stay : (cs : Cases) (d : ℕ) → cases_fit d (erase_cases cs) ≡ cases_fit d cs
  cases_fit_stay no_cases d = refl
  cases_fit_stay (default ss) d = ap (λ b. fits d && b) (lines_fit_stay ss d)
  cases_fit_stay (case n ss rest) d = both_stay (ap (λ b. fits d && is_in_range n && b) (lines_fit_stay ss d)) (cases_fit_stay rest d)

item_fits_stay : (i : Item) → item_fits (erase_item i) ≡ item_fits i
item_fits_stay (function_item f) = ap (λ b. is_own_name f.name && list_all is_own_name f.params && b) (lines_fit_stay f.body 1)
item_fits_stay (global_item at x e) = ap (λ b. is_own_name x && b) (fits_stay e 0)

items_fit_stay : (items : List Item) → list_all item_fits (map erase_item items) ≡ list_all item_fits items
items_fit_stay [] = refl
items_fit_stay (i ∷ items) = both_stay (item_fits_stay i) (items_fit_stay items)

printable_stays : (s : ScriptTree) → is_printable (erase s) ≡ is_printable s
printable_stays s = ap (λ b. b && is_name s.start) (items_fit_stay s.items)

-- scripts that are the same, places aside, have a text both or neither
pub same_printable : (s t : ScriptTree) → erase t ≡ erase s → is_printable t ≡ is_printable s
same_printable s t q = sym (printable_stays t) ∙ (ap is_printable q ∙ printable_stays s)
