-- Own: how each goal is read from left to right, one production after the other: ECMA-262 5.1, 11 to 14, cut to the subset.
use Rattle.std.specs.Prelude.{ℕ, ◌+◌, List, [], ◌∷◌, ◌++◌, Option, Some, None, Result, Ok, Err, Bool, true, false, not, if◌then◌else◌, nat_lt, ◌==◌, ◌&&◌, ◌||◌, codes}
use Rattle.js_tree.specs.Lexical.{Token, identifier_name, numeric_literal, string_literal, Placed}
use Rattle.js_tree.specs.Scripts.{after, at_of, word, sign}
use Rattle.js_tree.specs.Printable.{is_name, is_own_name, is_call, fits}
use Rattle.js_tree.specs.Script as tree
use Rattle.js_tree.specs.Script.{Name, Expr, Stmt, Stmts, Cases, no_cases, no_stmts, stmt, no_exprs, expr, no_else, else_block, else_if, function_item, global_item}
use Rattle.js_tree.specs.View.{exprs_of, stmts_of, cases_of}
use Rattle.js_tree.specs.declared.tree.UnaryOp.{UnaryOp}
use Rattle.js_grammar.specs.declared.token.Infix.{Infix}
use Rattle.js_grammar.specs.declared.refusal.ReadRefusal.{ReadRefusal}
use Rattle.js_grammar.specs.declared.refusal.ReadRefusal.TheVariants.{Syntax}
use Rattle.js_grammar.specs.Tokens.{is_first, is_second, infix_at, between, sign_at, infix_level, joined}
use Rattle.js_grammar.specs.Goals as goal
use Rattle.js_grammar.specs.Goals.{Goal, Gives}

abbrev pub Answer : Goal → Type 0
Answer g = Result (Gives g × List Placed) ReadRefusal

-- what a reading does next: it answers, reads a part, or looks at what comes first
pub data Steps (g : Goal) : Type 0 where
  answer : (r : Answer g) → Steps g
  call : (h : Goal) (us : List Placed) (next : Gives h → List Placed → Steps g) → Steps g
  test : (b : Bool) (p q : Steps g) → Steps g
  on_infix : (i : Option Infix) (p : Steps g) (q : Infix → Steps g) → Steps g
  on_sign : (s : Option UnaryOp) (p : Steps g) (q : UnaryOp → Steps g) → Steps g

abbrev pub wrong : {A : Type 0} → Result A ReadRefusal
wrong = Err (Syntax 0)

abbrev pub found : {g : Goal} → Gives g → List Placed → Steps g
found v us = answer (Ok (v, us))

-- past these tokens, each nested so deep
abbrev pub past : {g : Goal} → ℕ → List Token → List Placed → (List Placed → Steps g) → Steps g
past d [] ts next = next ts
past d (x ∷ xs) ts next = call (goal.token d x) ts (λ _ us. past d xs us next)

abbrev pub taken : Option (List Placed) → Result (Unit {0} × List Placed) ReadRefusal
taken None = wrong
taken (Some us) = Ok (tt, us)

-- past one token, whatever it is
abbrev pub skipped : ℕ → List Placed → Option (List Placed)
skipped d [] = None
skipped d (p ∷ ts) = if fits d then Some ts else None

abbrev pub name_of : Bool → Token → List Placed → Result (Name × List Placed) ReadRefusal
name_of b (identifier_name x) ts = if is_name x && b then Ok (x, ts) else wrong
name_of b _ ts = wrong

abbrev pub name_at : ℕ → List Placed → Result (Name × List Placed) ReadRefusal
name_at d [] = wrong
name_at d (p ∷ ts) = name_of (fits d) p.token ts

abbrev pub own_of : Result (Name × List Placed) ReadRefusal → Result (Name × List Placed) ReadRefusal
own_of (Ok p) = if is_own_name p.0 then Ok p else wrong
own_of (Err e) = Err e

abbrev pub number_of : Bool → Token → List Placed → Result (ℕ × List Placed) ReadRefusal
number_of b (numeric_literal n) ts = if b then Ok (n, ts) else wrong
number_of b _ ts = wrong

abbrev pub number_at : ℕ → List Placed → Result (ℕ × List Placed) ReadRefusal
number_at d [] = wrong
number_at d (p ∷ ts) = number_of (fits d) p.token ts

abbrev pub string_of : Bool → Token → List Placed → Result (List ℕ × List Placed) ReadRefusal
string_of b (string_literal s) ts = if b then Ok (s, ts) else wrong
string_of b _ ts = wrong

abbrev pub string_at : ℕ → List Placed → Result (List ℕ × List Placed) ReadRefusal
string_at d [] = wrong
string_at d (p ∷ ts) = string_of (fits d) p.token ts

abbrev pub is_number_token : Token → Bool
is_number_token (numeric_literal n) = true
is_number_token _ = false

abbrev pub is_string_token : Token → Bool
is_string_token (string_literal s) = true
is_string_token _ = false

abbrev pub is_name_token : Token → Bool
is_name_token (identifier_name x) = is_name x
is_name_token _ = false

abbrev pub begins : (Token → Bool) → List Placed → Bool
begins f [] = false
begins f (p ∷ ts) = f p.token

abbrev pub left : Token
left = sign (codes "(")

abbrev pub right : Token
right = sign (codes ")")

abbrev pub open_bracket : Token
open_bracket = sign (codes "[")

abbrev pub close_bracket : Token
close_bracket = sign (codes "]")

abbrev pub open_brace : Token
open_brace = sign (codes "{")

abbrev pub close_brace : Token
close_brace = sign (codes "}")

abbrev pub dot : Token
dot = sign (codes ".")

abbrev pub comma : Token
comma = sign (codes ",")

abbrev pub semicolon : Token
semicolon = sign (codes ";")

abbrev pub colon : Token
colon = sign (codes ":")

abbrev pub equals : Token
equals = sign (codes "=")

abbrev pub is_push : List Placed → Bool
is_push ts = is_first dot ts && is_second (word (codes "push")) ts

-- whether one more part of an expression comes first
abbrev pub begins_part : List Placed → Bool
begins_part ts = is_first left ts || is_first open_bracket ts || is_first dot ts && not (is_second (word (codes "push")) ts)

-- whether what comes first begins an expression without an operator before it
abbrev pub begins_atom : List Placed → Bool
begins_atom ts =
    begins is_name_token ts || begins is_number_token ts || begins is_string_token ts || is_first left ts || is_first open_bracket ts
    || is_first (word (codes "true")) ts || is_first (word (codes "false")) ts || is_first (word (codes "null")) ts
    || is_first (word (codes "Object")) ts || is_first (word (codes "String")) ts

-- what ends the statements of a block or a case
abbrev pub ends_statements : List Placed → Bool
ends_statements [] = true
ends_statements (p ∷ ts) =
    is_first close_brace (p ∷ ts) || is_first (word (codes "case")) (p ∷ ts) || is_first (word (codes "default")) (p ∷ ts)

abbrev pub is_index : Expr → Bool
is_index (tree.index at e i) = true
is_index _ = false

-- an element of an array as the target of a store, and as what is deleted
abbrev pub store_of : ℕ → Expr → Expr → Stmt
store_of at (tree.index p e i) v = tree.store at e i v
store_of at e v = tree.perform at v

abbrev pub remove_of : ℕ → Expr → Stmt
remove_of at (tree.index p e i) = tree.remove at e i
remove_of at e = tree.perform at e

-- how many operators of the chain at this level stand before
abbrev pub before : ℕ → ℕ → Infix → ℕ
before level n i = if infix_level i == level then n else 0

abbrev pub word_steps : (d : ℕ) (at : ℕ) (ts : List Placed) → Steps (goal.word_literal d)
word_steps d at ts =
    test (is_first (word (codes "true")) ts) (past d (word (codes "true") ∷ []) ts (λ us. found (tree.boolean at true) us))
    (test (is_first (word (codes "false")) ts) (past d (word (codes "false") ∷ []) ts (λ us. found (tree.boolean at false) us))
    (test (is_first (word (codes "null")) ts) (past d (word (codes "null") ∷ []) ts (λ us. found (tree.null at) us))
    (call (goal.dictionary d) ts found)))

abbrev pub member_steps : (d at : ℕ) (e : Expr) (ts us : List Placed) → Steps (goal.member d at e)
member_steps d at e ts us =
    test (is_first (word (codes "length")) us) (past d (dot ∷ word (codes "length") ∷ []) ts (λ vs. found (tree.length_of at e) vs))
    (test (is_first (word (codes "pop")) us) (past d (dot ∷ word (codes "pop") ∷ left ∷ right ∷ []) ts (λ vs. found (tree.pop at e) vs))
    (test (is_first (word (codes "charCodeAt")) us)
    (past d (dot ∷ word (codes "charCodeAt") ∷ left ∷ []) ts (λ vs. call (goal.enclosed d right) vs (λ i. found (tree.char_code_at at e i))))
    (call (goal.substring d at e) ts found)))

abbrev pub rest_of : List Placed → List Placed
rest_of [] = []
rest_of (p ∷ ts) = ts

abbrev pub steps : (g : Goal) → List Placed → Steps g
steps (goal.token d x) ts = answer (taken (after d (x ∷ []) ts))
steps (goal.operator d) ts = answer (taken (skipped d ts))
steps (goal.name d) ts = answer (name_at d ts)
steps (goal.own_name d) ts = answer (own_of (name_at d ts))
steps (goal.number d) ts = answer (number_at d ts)
steps (goal.string d) ts = answer (string_at d ts)
-- 11.12
steps (goal.expression d) ts =
    call (goal.operation d 1) ts (λ t us.
    test (is_first (sign (codes "?")) us)
    (past d (sign (codes "?") ∷ []) us (λ vs. call (goal.expression (d + 1)) vs (λ a ws. past (d + 1) (colon ∷ []) ws (λ xs.
    call (goal.expression (d + 1)) xs (λ b. found (tree.choice (at_of ts) t a b))))))
    (found t us))
-- 11.5 to 11.11
steps (goal.operation d least) ts =
    call (goal.unary d) ts (λ e us. call (goal.chain d least (at_of ts) 11 0 e) us found)
steps (goal.chain d least at level n e) ts =
    on_infix (between least level (infix_at ts)) (found e ts) (λ i.
    call (goal.operator (d + before level n i)) ts (λ _ us.
    call (goal.operation (d + before level n i + 1) (infix_level i + 1)) us (λ b vs.
    call (goal.chain d least at (infix_level i) (before level n i + 1) (joined i at e b)) vs found)))
-- 11.4
steps (goal.unary d) ts =
    on_sign (sign_at ts) (call (goal.post d) ts (λ p. found p.0)) (λ op.
    call (goal.operator d) ts (λ _ us. call (goal.unary (d + 1)) us (λ e. found (tree.unary (at_of ts) op e))))
-- 11.2
steps (goal.post d) ts = call (goal.atom d) ts (λ e us. call (goal.parts d (at_of ts) 0 e) us found)
steps (goal.parts d at n e) ts =
    test (begins_part ts) (call (goal.part (d + n) at e) ts (λ f us. call (goal.parts d at (n + 1) f) us found)) (found (e, n) ts)
steps (goal.part d at e) ts =
    test (is_first left ts)
    (past d (left ∷ []) ts (λ us. call (goal.listed d right) us (λ es. found (tree.call at e (exprs_of es)))))
    (test (is_first open_bracket ts)
    (past d (open_bracket ∷ []) ts (λ us. call (goal.enclosed d close_bracket) us (λ i. found (tree.index at e i))))
    (call (goal.member d at e) ts found))
steps (goal.member d at e) ts = member_steps d at e ts (rest_of ts)
steps (goal.substring d at e) ts =
    past d (dot ∷ word (codes "substring") ∷ left ∷ []) ts (λ us. call (goal.expression (d + 1)) us (λ i vs.
    past (d + 1) (comma ∷ []) vs (λ ws. call (goal.enclosed d right) ws (λ j. found (tree.substring at e i j)))))
-- 11.1
steps (goal.atom d) ts =
    test (is_first left ts) (past d (left ∷ []) ts (λ us. call (goal.enclosed d right) us found))
    (test (is_first open_bracket ts)
    (past d (open_bracket ∷ []) ts (λ us. call (goal.listed d close_bracket) us (λ es. found (tree.array (at_of ts) (exprs_of es)))))
    (test (is_first (word (codes "String")) ts) (call (goal.converted d) ts found) (call (goal.literal d) ts found)))
steps (goal.literal d) ts =
    test (begins is_name_token ts) (call (goal.name d) ts (λ x. found (tree.name (at_of ts) x)))
    (test (begins is_number_token ts) (call (goal.number d) ts (λ n. found (tree.number (at_of ts) n)))
    (test (begins is_string_token ts) (call (goal.string d) ts (λ s. found (tree.string (at_of ts) s)))
    (call (goal.word_literal d) ts found)))
steps (goal.word_literal d) ts = word_steps d (at_of ts) ts
steps (goal.dictionary d) ts =
    past d (word (codes "Object") ∷ dot ∷ word (codes "create") ∷ left ∷ []) ts (λ us.
    past (d + 1) (word (codes "null") ∷ []) us (λ vs. past d (right ∷ []) vs (λ ws. found (tree.dictionary (at_of ts)) ws)))
steps (goal.converted d) ts =
    test (is_second left ts)
    (past d (word (codes "String") ∷ left ∷ []) ts (λ us. call (goal.enclosed d right) us (λ e. found (tree.decimal_of (at_of ts) e))))
    (past d (word (codes "String") ∷ dot ∷ word (codes "fromCharCode") ∷ left ∷ []) ts (λ us.
    call (goal.enclosed d right) us (λ e. found (tree.from_char_code (at_of ts) e))))
-- an expression and the bracket after it
steps (goal.enclosed d x) ts =
    call (goal.expression (d + 1)) ts (λ e us. past d (x ∷ []) us (λ vs. found e vs))
-- expressions with commas between, or none, and the bracket after them
steps (goal.listed d x) ts =
    test (is_first x ts) (past d (x ∷ []) ts (λ us. found [] us))
    (call (goal.expression (d + 1)) ts (λ e us. call (goal.more d x (e ∷ [])) us found))
steps (goal.more d x es) ts =
    test (is_first comma ts)
    (past (d + 1) (comma ∷ []) ts (λ us. call (goal.expression (d + 1)) us (λ e vs. call (goal.more d x (es ++ e ∷ [])) vs found)))
    (past d (x ∷ []) ts (λ us. found es us))
-- 12.2
steps (goal.declaration d) ts =
    past d (word (codes "var") ∷ []) ts (λ us. call (goal.own_name d) us (λ x vs. past d (equals ∷ []) vs (λ ws.
    call (goal.expression d) ws (λ e xs. past d (semicolon ∷ []) xs (λ ys. found (x, e) ys)))))
steps (goal.statements d ss) ts =
    test (ends_statements ts) (found (stmts_of ss) ts)
    (call (goal.statement d) ts (λ s us. call (goal.statements d (ss ++ s ∷ [])) us found))
-- 12
steps (goal.statement d) ts =
    test (begins_atom ts) (call (goal.named d) ts found)
    (test (is_first (word (codes "if")) ts) (call (goal.branch d) ts found)
    (test (is_first (word (codes "try")) ts) (call (goal.attempt d) ts found)
    (test (is_first (word (codes "while")) ts || is_first (word (codes "for")) ts || is_first (word (codes "switch")) ts)
    (call (goal.turning d (at_of ts) None) ts found) (call (goal.simple d) ts found))))
steps (goal.simple d) ts =
    test (is_first (word (codes "var")) ts) (call (goal.declaration d) ts (λ p. found (tree.declare (at_of ts) p.0 p.1)))
    (test (is_first (word (codes "delete")) ts) (call (goal.remove d) ts found)
    (test (is_first (word (codes "return")) ts) (call (goal.returned d) ts found) (call (goal.jump d) ts found)))
steps (goal.block d) ts =
    past d (open_brace ∷ []) ts (λ us. call (goal.statements (d + 1) []) us (λ ss vs. past d (close_brace ∷ []) vs (λ ws. found ss ws)))
-- what begins with a name: an assignment, a label, or what the expression does
steps (goal.named d) ts =
    test (begins is_name_token ts && is_second equals ts)
    (call (goal.own_name d) ts (λ x us. past d (equals ∷ []) us (λ vs. call (goal.expression d) vs (λ e ws.
    past d (semicolon ∷ []) ws (λ xs. found (tree.assign (at_of ts) x e) xs)))))
    (test (begins is_name_token ts && is_second colon ts)
    (call (goal.own_name d) ts (λ x us. past d (colon ∷ []) us (λ vs. call (goal.turning d (at_of ts) (Some x)) vs found)))
    (call (goal.effect d) ts found))
steps (goal.effect d) ts = call (goal.post d) ts (λ p us. call (goal.effect_of d (at_of ts) p.1 p.0) us found)
steps (goal.effect_of d at n e) ts =
    test (is_push ts)
    (past (d + n) (dot ∷ word (codes "push") ∷ left ∷ []) ts (λ us. call (goal.enclosed (d + n) right) us (λ v vs.
    past d (semicolon ∷ []) vs (λ ws. found (tree.push at e v) ws))))
    (test (is_first equals ts) (call (goal.store d at n e) ts found)
    (test (nat_lt 0 n && is_call e) (past d (semicolon ∷ []) ts (λ us. found (tree.perform at e) us)) (answer wrong)))
steps (goal.store d at n e) ts =
    test (nat_lt 0 n && is_index e)
    (past d (equals ∷ []) ts (λ us. call (goal.expression d) us (λ v vs. past d (semicolon ∷ []) vs (λ ws. found (store_of at e v) ws))))
    (answer wrong)
steps (goal.remove d) ts =
    past d (word (codes "delete") ∷ []) ts (λ us. call (goal.post d) us (λ p vs.
    test (nat_lt 0 p.1 && is_index p.0) (past d (semicolon ∷ []) vs (λ ws. found (remove_of (at_of ts) p.0) ws)) (answer wrong)))
-- 12.9
steps (goal.returned d) ts =
    past d (word (codes "return") ∷ []) ts (λ us.
    test (is_first semicolon us) (past d (semicolon ∷ []) us (λ vs. found (tree.return (at_of ts) None) vs))
    (call (goal.expression d) us (λ e vs. past d (semicolon ∷ []) vs (λ ws. found (tree.return (at_of ts) (Some e)) ws))))
-- 12.7, 12.8, 12.13
steps (goal.jump d) ts =
    test (is_first (word (codes "throw")) ts)
    (past d (word (codes "throw") ∷ []) ts (λ us. call (goal.expression d) us (λ e vs. past d (semicolon ∷ []) vs (λ ws. found (tree.throw (at_of ts) e) ws))))
    (test (is_first (word (codes "break")) ts)
    (past d (word (codes "break") ∷ []) ts (λ us. call (goal.target d) us (λ l vs. past d (semicolon ∷ []) vs (λ ws. found (tree.break (at_of ts) l) ws))))
    (past d (word (codes "continue") ∷ []) ts (λ us. call (goal.target d) us (λ l vs. past d (semicolon ∷ []) vs (λ ws. found (tree.continue (at_of ts) l) ws)))))
steps (goal.target d) ts =
    test (begins is_name_token ts) (call (goal.own_name d) ts (λ x us. found (Some x) us)) (found None ts)
-- a word, and an expression in parentheses
steps (goal.tested d x) ts = past d (x ∷ left ∷ []) ts (λ us. call (goal.enclosed d right) us found)
-- 12.5
steps (goal.branch d) ts =
    call (goal.tested d (word (codes "if"))) ts (λ t us. call (goal.block d) us (λ ss vs. call (goal.otherwise d) vs (λ other.
    found (tree.branch (at_of ts) t ss other))))
steps (goal.otherwise d) ts =
    test (is_first (word (codes "else")) ts)
    (past d (word (codes "else") ∷ []) ts (λ us.
    test (is_first (word (codes "if")) us)
    (call (goal.tested (d + 1) (word (codes "if"))) us (λ t vs. call (goal.block (d + 1)) vs (λ ss ws. call (goal.otherwise (d + 1)) ws (λ other.
    found (else_if (at_of us) t ss other)))))
    (call (goal.block (d + 1)) us (λ ss. found (else_block ss)))))
    (found no_else ts)
-- 12.6, 12.11, after the label
steps (goal.turning d at l) ts =
    test (is_first (word (codes "while")) ts)
    (call (goal.tested d (word (codes "while"))) ts (λ t us. call (goal.block d) us (λ ss. found (tree.while at l t ss))))
    (test (is_first (word (codes "for")) ts)
    (call (goal.forever d) ts (λ _ us. call (goal.block d) us (λ ss. found (tree.forever at l ss))))
    (call (goal.tested d (word (codes "switch"))) ts (λ e us. past d (open_brace ∷ []) us (λ vs. call (goal.clauses (d + 1) []) vs (λ cs ws.
    past d (close_brace ∷ []) ws (λ xs. found (tree.switch at l e cs) xs))))))
steps (goal.forever d) ts =
    past d (word (codes "for") ∷ left ∷ []) ts (λ us. past (d + 1) (semicolon ∷ semicolon ∷ []) us (λ vs. past d (right ∷ []) vs (λ ws. found tt ws)))
steps (goal.clauses d cs) ts =
    test (is_first (word (codes "case")) ts)
    (call (goal.clause d) ts (λ c us. call (goal.clauses d (cs ++ c ∷ [])) us found))
    (test (is_first (word (codes "default")) ts)
    (past d (word (codes "default") ∷ colon ∷ []) ts (λ us. call (goal.statements d []) us (λ ss. found (cases_of cs (tree.default ss)))))
    (found (cases_of cs no_cases) ts))
steps (goal.clause d) ts =
    past d (word (codes "case") ∷ []) ts (λ us. call (goal.number d) us (λ n vs. past d (colon ∷ []) vs (λ ws.
    call (goal.statements d []) ws (λ ss. found (tree.case n ss)))))
-- 12.14
steps (goal.attempt d) ts =
    past d (word (codes "try") ∷ []) ts (λ us. call (goal.block d) us (λ ss vs. past d (word (codes "catch") ∷ left ∷ []) vs (λ ws.
    past (d + 1) (identifier_name (codes "$catch") ∷ []) ws (λ xs. past d (right ∷ []) xs (λ ys. call (goal.block d) ys (λ handler.
    found (tree.attempt (at_of ts) ss handler)))))))
-- 13, 14
steps goal.parameters ts =
    test (is_first right ts) (found [] ts) (call (goal.own_name 1) ts (λ x us. call (goal.more_parameters (x ∷ [])) us found))
steps (goal.more_parameters xs) ts =
    test (is_first comma ts)
    (past 1 (comma ∷ []) ts (λ us. call (goal.own_name 1) us (λ x vs. call (goal.more_parameters (xs ++ x ∷ [])) vs found)))
    (found xs ts)
steps (goal.items is) ts =
    test (is_first (word (codes "function")) ts || is_first (word (codes "var")) ts)
    (call goal.item ts (λ i us. call (goal.items (is ++ i ∷ [])) us found)) (found is ts)
steps goal.item ts =
    test (is_first (word (codes "var")) ts) (call (goal.declaration 0) ts (λ p. found (global_item (at_of ts) p.0 p.1)))
    (past 0 (word (codes "function") ∷ []) ts (λ us. call (goal.own_name 0) us (λ x vs. past 0 (left ∷ []) vs (λ ws.
    call goal.parameters ws (λ xs ys. past 0 (right ∷ []) ys (λ zs. call (goal.block 0) zs (λ ss.
    found (function_item (record { name = x; params = xs; body = ss; at = at_of ts })))))))))
steps goal.whole ts =
    call (goal.items []) ts (λ is us. call (goal.name 0) us (λ x vs. past 0 (left ∷ right ∷ semicolon ∷ []) vs (λ ws.
    found (record { items = is; start = x; start_at = at_of us }) ws)))
