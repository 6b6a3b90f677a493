-- The text of a script in the Plain style: one statement a line, two spaces for each open brace, one space round operators between operands and after commas. Layout is own.
use Rattle.std.specs.Prelude.{ℕ, suc, List, [], ◌∷◌, ◌++◌, Option, Some, None, Bool, true, false, if◌then◌else◌, nat_lt, nat_le, ◌==◌, ◌/◌, ◌%◌, ◌+◌, ◌&&◌, codes}
use Rattle.std.specs.Fmt.{decimal}
use Rattle.js_tree.specs.Script.{Name, Expr, number, string, boolean, null, name, unary, binary, both, either, choice, call, index, length_of, pop, char_code_at, substring, array, dictionary, decimal_of, from_char_code, Exprs, no_exprs, expr, Stmt, declare, assign, store, perform, push, remove, branch, while, forever, switch, return, throw, break, continue, attempt, Stmts, no_stmts, stmt, Else, no_else, else_block, else_if, Cases, no_cases, default, case, Function, Item, function_item, global_item, ScriptTree}
use Rattle.js_tree.specs.declared.tree.UnaryOp.{UnaryOp}
use Rattle.js_tree.specs.declared.tree.UnaryOp.TheVariants.{Negate, Complement, Not}
use Rattle.js_tree.specs.declared.tree.BinaryOp.{BinaryOp}
use Rattle.js_tree.specs.declared.tree.BinaryOp.TheVariants.{Add, Subtract, Multiply, Divide, Remainder, BitOr, BitAnd, BitXor, ShiftLeft, ShiftRight, ShiftRightUnsigned, Less, LessEqual, Greater, GreaterEqual, Same, Different, In}

-- 11.5 to 11.10: how tightly an operator binds its operands
abbrev pub op_level : BinaryOp → ℕ
op_level Multiply = 10
op_level Divide = 10
op_level Remainder = 10
op_level Add = 9
op_level Subtract = 9
op_level ShiftLeft = 8
op_level ShiftRight = 8
op_level ShiftRightUnsigned = 8
op_level Less = 7
op_level LessEqual = 7
op_level Greater = 7
op_level GreaterEqual = 7
op_level In = 7
op_level Same = 6
op_level Different = 6
op_level BitAnd = 5
op_level BitXor = 4
op_level BitOr = 3

-- 11.1, 11.2, 11.4, 11.11, 11.12: how tightly an expression binds, 12 where nothing can come between its parts
abbrev pub level : Expr → ℕ
level (choice at t a b) = 0
level (either at a b) = 1
level (both at a b) = 2
level (binary at op a b) = op_level op
level (unary at op e) = 11
level _ = 12

abbrev pub op_text : BinaryOp → List ℕ
op_text Add = codes " + "
op_text Subtract = codes " - "
op_text Multiply = codes " * "
op_text Divide = codes " / "
op_text Remainder = codes " % "
op_text BitOr = codes " | "
op_text BitAnd = codes " & "
op_text BitXor = codes " ^ "
op_text ShiftLeft = codes " << "
op_text ShiftRight = codes " >> "
op_text ShiftRightUnsigned = codes " >>> "
op_text Less = codes " < "
op_text LessEqual = codes " <= "
op_text Greater = codes " > "
op_text GreaterEqual = codes " >= "
op_text Same = codes " === "
op_text Different = codes " !== "
op_text In = codes " in "

abbrev pub is_negate : UnaryOp → Bool
is_negate Negate = true
is_negate _ = false

abbrev pub negates : Expr → Bool
negates (unary at op e) = is_negate op
negates _ = false

-- an operator before an operand; two `-` never join
abbrev pub sign_text : UnaryOp → Expr → List ℕ
sign_text Negate e = if negates e then codes "- " else codes "-"
sign_text Complement e = codes "~"
sign_text Not e = codes "!"

abbrev pub in_parentheses : List ℕ → List ℕ
in_parentheses text = codes "(" ++ text ++ codes ")"

-- the text of an expression where one of this level may stand
abbrev pub within : ℕ → Expr → List ℕ → List ℕ
within k e text = if nat_lt (level e) k then in_parentheses text else text

abbrev pub is_number : Expr → Bool
is_number (number at n) = true
is_number _ = false

abbrev pub dot_level : Expr → ℕ
dot_level e = if is_number e then 13 else 12

-- what stands before a `.`, where a number has parentheses too
abbrev pub before_dot : Expr → List ℕ → List ℕ
before_dot e text = within (dot_level e) e text

-- the lower-case hexadecimal digit of a number below 16
abbrev pub hex_digit : ℕ → ℕ
hex_digit n = if nat_lt n 10 then n + 48 else n + 87

abbrev pub escaped : ℕ → List ℕ
escaped c = codes "\\x" ++ hex_digit (c / 16) ∷ hex_digit (c % 16) ∷ []

-- 7.8.4: a byte in a string
abbrev pub byte_text : ℕ → List ℕ
byte_text c =
    if c == 34 then codes "\\\"" else if c == 92 then codes "\\\\"
    else if nat_le 32 c && nat_lt c 127 then c ∷ [] else escaped c

abbrev pub bytes_text : List ℕ → List ℕ
bytes_text [] = []
bytes_text (c ∷ cs) = byte_text c ++ bytes_text cs

abbrev pub string_text : List ℕ → List ℕ
string_text bytes = codes "\"" ++ bytes_text bytes ++ codes "\""

abbrev pub bool_text : Bool → List ℕ
bool_text true = codes "true"
bool_text false = codes "false"

-- long words, which proofs don't look into
unfoldable pub char_code_at_word : List ℕ
char_code_at_word = codes ".charCodeAt("

unfoldable pub substring_word : List ℕ
substring_word = codes ".substring("

unfoldable pub dictionary_word : List ℕ
dictionary_word = codes "Object.create(null)"

unfoldable pub string_word : List ℕ
string_word = codes "String("

unfoldable pub from_char_code_word : List ℕ
from_char_code_word = codes "String.fromCharCode("

abbrev mutual
  -- the text of an expression
  pub expr_text : Expr → List ℕ
  expr_text (number at n) = decimal n
  expr_text (string at s) = string_text s
  expr_text (boolean at b) = bool_text b
  expr_text (null at) = codes "null"
  expr_text (name at x) = x
  expr_text (unary at op e) = sign_text op e ++ within 11 e (expr_text e)
  expr_text (binary at op a b) =
      within (op_level op) a (expr_text a) ++ op_text op ++ within (suc (op_level op)) b (expr_text b)
  expr_text (both at a b) = within 2 a (expr_text a) ++ codes " && " ++ within 3 b (expr_text b)
  expr_text (either at a b) = within 1 a (expr_text a) ++ codes " || " ++ within 2 b (expr_text b)
  expr_text (choice at t a b) = within 1 t (expr_text t) ++ codes " ? " ++ expr_text a ++ codes " : " ++ expr_text b
  expr_text (call at f es) = within 12 f (expr_text f) ++ codes "(" ++ exprs_text es ++ codes ")"
  expr_text (index at e i) = within 12 e (expr_text e) ++ codes "[" ++ expr_text i ++ codes "]"
  expr_text (length_of at e) = before_dot e (expr_text e) ++ codes ".length"
  expr_text (pop at e) = before_dot e (expr_text e) ++ codes ".pop()"
  expr_text (char_code_at at e i) = before_dot e (expr_text e) ++ char_code_at_word ++ expr_text i ++ codes ")"
  expr_text (substring at e i j) =
      before_dot e (expr_text e) ++ substring_word ++ expr_text i ++ codes ", " ++ expr_text j ++ codes ")"
  expr_text (array at es) = codes "[" ++ exprs_text es ++ codes "]"
  expr_text (dictionary at) = dictionary_word
  expr_text (decimal_of at e) = string_word ++ expr_text e ++ codes ")"
  expr_text (from_char_code at e) = from_char_code_word ++ expr_text e ++ codes ")"

  -- expressions with commas between them
  pub exprs_text : Exprs → List ℕ
  exprs_text no_exprs = []
  exprs_text (expr e es) = expr_text e ++ more_text es

  pub more_text : Exprs → List ℕ
  more_text no_exprs = []
  more_text (expr e es) = codes ", " ++ expr_text e ++ more_text es

abbrev pub begins_within : ℕ → Expr → Bool → Bool
begins_within k e begins = if nat_lt (level e) k then false else begins

-- whether the text of an expression begins with a name, a keyword or a number
abbrev pub begins_with_word : Expr → Bool
begins_with_word (number at n) = true
begins_with_word (boolean at b) = true
begins_with_word (null at) = true
begins_with_word (name at x) = true
begins_with_word (binary at op a b) = begins_within (op_level op) a (begins_with_word a)
begins_with_word (both at a b) = begins_within 2 a (begins_with_word a)
begins_with_word (either at a b) = begins_within 1 a (begins_with_word a)
begins_with_word (choice at t a b) = begins_within 1 t (begins_with_word t)
begins_with_word (call at f es) = begins_within 12 f (begins_with_word f)
begins_with_word (index at e i) = begins_within 12 e (begins_with_word e)
begins_with_word (length_of at e) = begins_within (dot_level e) e (begins_with_word e)
begins_with_word (pop at e) = begins_within (dot_level e) e (begins_with_word e)
begins_with_word (char_code_at at e i) = begins_within (dot_level e) e (begins_with_word e)
begins_with_word (substring at e i j) = begins_within (dot_level e) e (begins_with_word e)
begins_with_word (dictionary at) = true
begins_with_word (decimal_of at e) = true
begins_with_word (from_char_code at e) = true
begins_with_word _ = false

-- between a keyword and an expression where one of this level may stand
abbrev pub gap : ℕ → Expr → List ℕ
gap k e = if begins_within k e (begins_with_word e) then codes " " else []

abbrev pub label_text : Option Name → List ℕ
label_text None = []
label_text (Some x) = x ++ codes ":"

-- a `break` or `continue` with the label that it leads to
abbrev pub jump_text : List ℕ → Option Name → List ℕ
jump_text word None = word ++ codes ";"
jump_text word (Some x) = word ++ codes " " ++ x ++ codes ";"

abbrev pub declare_text : Name → Expr → List ℕ
declare_text x e = codes "var " ++ x ++ codes " = " ++ expr_text e ++ codes ";"

abbrev pub return_text : Option Expr → List ℕ
return_text None = codes "return;"
return_text (Some e) = codes "return" ++ gap 0 e ++ expr_text e ++ codes ";"

-- the margin inside one more brace
abbrev pub deeper : List ℕ → List ℕ
deeper margin = margin ++ codes "  "

-- lines in braces
abbrev pub in_braces : List ℕ → List ℕ → List ℕ
in_braces margin lines = codes "{\n" ++ lines ++ margin ++ codes "}"

unfoldable pub catch_word : List ℕ
catch_word = codes "catch($catch)"

abbrev mutual
  -- a statement whose lines have this margin, from its first word to its last sign
  pub stmt_text : List ℕ → Stmt → List ℕ
  stmt_text m (declare at x e) = declare_text x e
  stmt_text m (assign at x e) = x ++ codes " = " ++ expr_text e ++ codes ";"
  stmt_text m (store at e i v) =
      within 12 e (expr_text e) ++ codes "[" ++ expr_text i ++ codes "] = " ++ expr_text v ++ codes ";"
  stmt_text m (perform at e) = expr_text e ++ codes ";"
  stmt_text m (push at e v) = before_dot e (expr_text e) ++ codes ".push(" ++ expr_text v ++ codes ");"
  stmt_text m (remove at e k) =
      codes "delete" ++ gap 12 e ++ within 12 e (expr_text e) ++ codes "[" ++ expr_text k ++ codes "];"
  stmt_text m (branch at t ss other) =
      codes "if(" ++ expr_text t ++ codes ")" ++ in_braces m (stmts_text (deeper m) ss) ++ else_text m other
  stmt_text m (while at l t ss) =
      label_text l ++ codes "while(" ++ expr_text t ++ codes ")" ++ in_braces m (stmts_text (deeper m) ss)
  stmt_text m (forever at l ss) = label_text l ++ codes "for(;;)" ++ in_braces m (stmts_text (deeper m) ss)
  stmt_text m (switch at l e cases) =
      label_text l ++ codes "switch(" ++ expr_text e ++ codes ")" ++ in_braces m (cases_text (deeper m) cases)
  stmt_text m (return at e) = return_text e
  stmt_text m (throw at e) = codes "throw" ++ gap 0 e ++ expr_text e ++ codes ";"
  stmt_text m (break at l) = jump_text (codes "break") l
  stmt_text m (continue at l) = jump_text (codes "continue") l
  stmt_text m (attempt at ss handler) =
      codes "try" ++ in_braces m (stmts_text (deeper m) ss) ++ catch_word ++ in_braces m (stmts_text (deeper m) handler)

  -- statements, each with its margin and its newline
  pub stmts_text : List ℕ → Stmts → List ℕ
  stmts_text m no_stmts = []
  stmts_text m (stmt s ss) = m ++ stmt_text m s ++ codes "\n" ++ stmts_text m ss

  pub else_text : List ℕ → Else → List ℕ
  else_text m no_else = []
  else_text m (else_block ss) = codes "else" ++ in_braces m (stmts_text (deeper m) ss)
  else_text m (else_if at t ss other) =
      codes "else if(" ++ expr_text t ++ codes ")" ++ in_braces m (stmts_text (deeper m) ss) ++ else_text m other

  pub cases_text : List ℕ → Cases → List ℕ
  cases_text m no_cases = []
  cases_text m (default ss) = m ++ codes "default:\n" ++ stmts_text m ss
  cases_text m (case n ss rest) =
      m ++ codes "case " ++ decimal n ++ codes ":\n" ++ stmts_text m ss ++ cases_text m rest

abbrev mutual
  -- names with commas between them
  pub names_text : List Name → List ℕ
  names_text [] = []
  names_text (x ∷ xs) = x ++ more_names xs

  pub more_names : List Name → List ℕ
  more_names [] = []
  more_names (x ∷ xs) = codes ", " ++ x ++ more_names xs

abbrev pub function_text : Function → List ℕ
function_text f =
    codes "function " ++ f.name ++ codes "(" ++ names_text f.params ++ codes ")" ++ in_braces [] (stmts_text (codes "  ") f.body)

abbrev pub item_text : Item → List ℕ
item_text (function_item f) = function_text f ++ codes "\n"
item_text (global_item at x e) = declare_text x e ++ codes "\n"

abbrev pub items_text : List Item → List ℕ
items_text [] = []
items_text (x ∷ xs) = item_text x ++ items_text xs

-- own: the lines at the head of each script, which make the functions of the host from those of an engine
unfoldable pub preamble : List ℕ
preamble =
    codes "var $fs=require(\"fs\");\nfunction $write(s){var b=Buffer.from(s,\"latin1\"),i=0;while(i<b.length){i+=$fs.writeSync(1,b,i);}}\nfunction $pick(k){return Math.floor(Math.random()*k);}\nfunction $end(c,t){var b=Buffer.from(t,\"latin1\"),i=0;while(i<b.length){i+=$fs.writeSync(2,b,i);}process.exit(c);}\n"

-- the Plain text of a script
abbrev pub plain : ScriptTree → List ℕ
plain script = preamble ++ items_text script.items ++ script.start ++ codes "();\n"
