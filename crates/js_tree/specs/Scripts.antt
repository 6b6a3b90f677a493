-- ECMA-262 5.1, 11 to 14, cut to the subset: which texts are scripts, and of which tree. One rule a production.
use Rattle.std.specs.Prelude.{◌≡◌, ℕ, suc, ◌+◌, ◌<◌, List, [], ◌∷◌, ◌++◌, length, Option, Some, None, Bool, true, false, if◌then◌else◌, ◌&&◌, IsTrue, codes, bytes_eq, ◌==◌}
use Rattle.js_tree.specs.Script as tree
use Rattle.js_tree.specs.Script.{Name, Expr, Exprs, no_exprs, expr, Stmt, Stmts, no_stmts, stmt, Else, no_else, else_block, else_if, Cases, no_cases, default, case, Item, function_item, global_item, ScriptTree}
use Rattle.js_tree.specs.Lexical.{Token, identifier_name, punctuator, numeric_literal, string_literal, Placed, Splits}
use Rattle.js_tree.specs.Printed.{op_level, preamble}
use Rattle.js_tree.specs.Printable.{is_name, is_own_name, is_call, fits}
use Rattle.js_tree.specs.declared.tree.UnaryOp.{UnaryOp}
use Rattle.js_tree.specs.declared.tree.UnaryOp.TheVariants.{Negate, Complement, Not}
use Rattle.js_tree.specs.declared.tree.BinaryOp.{BinaryOp}
use Rattle.js_tree.specs.declared.tree.BinaryOp.TheVariants.{Add, Subtract, Multiply, Divide, Remainder, BitOr, BitAnd, BitXor, ShiftLeft, ShiftRight, ShiftRightUnsigned, Less, LessEqual, Greater, GreaterEqual, Same, Different, In}

abbrev pub same_token : Token → Token → Bool
same_token (identifier_name x) (identifier_name y) = bytes_eq x y
same_token (punctuator x) (punctuator y) = bytes_eq x y
same_token (numeric_literal n) (numeric_literal m) = n == m
same_token (string_literal x) (string_literal y) = bytes_eq x y
same_token _ _ = false

-- what follows these tokens, where they come first, each nested so deep and no deeper than 1000
abbrev pub after : ℕ → List Token → List Placed → Option (List Placed)
after d [] ts = Some ts
after d (x ∷ xs) [] = None
after d (x ∷ xs) (p ∷ ts) = if same_token x p.token && fits d then after d xs ts else None

-- the offset of what begins with the first of these tokens
abbrev pub at_of : List Placed → ℕ
at_of [] = 0
at_of (p ∷ ts) = p.at

abbrev pub op_token : BinaryOp → Token
op_token Add = punctuator (codes "+")
op_token Subtract = punctuator (codes "-")
op_token Multiply = punctuator (codes "*")
op_token Divide = punctuator (codes "/")
op_token Remainder = punctuator (codes "%")
op_token BitOr = punctuator (codes "|")
op_token BitAnd = punctuator (codes "&")
op_token BitXor = punctuator (codes "^")
op_token ShiftLeft = punctuator (codes "<<")
op_token ShiftRight = punctuator (codes ">>")
op_token ShiftRightUnsigned = punctuator (codes ">>>")
op_token Less = punctuator (codes "<")
op_token LessEqual = punctuator (codes "<=")
op_token Greater = punctuator (codes ">")
op_token GreaterEqual = punctuator (codes ">=")
op_token Same = punctuator (codes "===")
op_token Different = punctuator (codes "!==")
op_token In = identifier_name (codes "in")

abbrev pub sign_token : UnaryOp → Token
sign_token Negate = punctuator (codes "-")
sign_token Complement = punctuator (codes "~")
sign_token Not = punctuator (codes "!")

abbrev pub word : List ℕ → Token
word = identifier_name

abbrev pub sign : List ℕ → Token
sign = punctuator

mutual
  -- 11: nested d deep, the tokens ts before those of rest are an expression that binds as tightly as level k says, in whose chain at this level n operators or parts stand.
  -- What follows the n-th of a chain is nested n deeper, operators and brackets as well.
  pub data Expression : (d k n : ℕ) (ts rest : List Placed) → Expr → Type 0 where
    number : {d m : ℕ} {ts rest : List Placed}
        → after d (numeric_literal m ∷ []) ts ≡ Some rest → Expression d 12 0 ts rest (tree.number (at_of ts) m)
    string : {d : ℕ} {s : List ℕ} {ts rest : List Placed}
        → after d (string_literal s ∷ []) ts ≡ Some rest → Expression d 12 0 ts rest (tree.string (at_of ts) s)
    true_literal : {d : ℕ} {ts rest : List Placed}
        → after d (word (codes "true") ∷ []) ts ≡ Some rest → Expression d 12 0 ts rest (tree.boolean (at_of ts) true)
    false_literal : {d : ℕ} {ts rest : List Placed}
        → after d (word (codes "false") ∷ []) ts ≡ Some rest → Expression d 12 0 ts rest (tree.boolean (at_of ts) false)
    null_literal : {d : ℕ} {ts rest : List Placed}
        → after d (word (codes "null") ∷ []) ts ≡ Some rest → Expression d 12 0 ts rest (tree.null (at_of ts))
    name : {d : ℕ} {x : Name} {ts rest : List Placed}
        → IsTrue (is_name x) → after d (identifier_name x ∷ []) ts ≡ Some rest → Expression d 12 0 ts rest (tree.name (at_of ts) x)
    -- 11.1.6, whose tree is that of the expression inside
    parentheses : {d n : ℕ} {ts us vs rest : List Placed} {e : Expr}
        → after d (sign (codes "(") ∷ []) ts ≡ Some us → Expression (suc d) 0 n us vs e → after d (sign (codes ")") ∷ []) vs ≡ Some rest
        → Expression d 12 0 ts rest e
    -- 11.1.4
    array : {d : ℕ} {ts us vs rest : List Placed} {es : Exprs}
        → after d (sign (codes "[") ∷ []) ts ≡ Some us → Expressions (suc d) us vs es → after d (sign (codes "]") ∷ []) vs ≡ Some rest
        → Expression d 12 0 ts rest (tree.array (at_of ts) es)
    dictionary : {d : ℕ} {ts us vs rest : List Placed}
        → after d (word (codes "Object") ∷ sign (codes ".") ∷ word (codes "create") ∷ sign (codes "(") ∷ []) ts ≡ Some us
        → after (suc d) (word (codes "null") ∷ []) us ≡ Some vs → after d (sign (codes ")") ∷ []) vs ≡ Some rest
        → Expression d 12 0 ts rest (tree.dictionary (at_of ts))
    decimal_of : {d n : ℕ} {ts us vs rest : List Placed} {e : Expr}
        → after d (word (codes "String") ∷ sign (codes "(") ∷ []) ts ≡ Some us
        → Expression (suc d) 0 n us vs e → after d (sign (codes ")") ∷ []) vs ≡ Some rest
        → Expression d 12 0 ts rest (tree.decimal_of (at_of ts) e)
    from_char_code : {d n : ℕ} {ts us vs rest : List Placed} {e : Expr}
        → after d (word (codes "String") ∷ sign (codes ".") ∷ word (codes "fromCharCode") ∷ sign (codes "(") ∷ []) ts ≡ Some us
        → Expression (suc d) 0 n us vs e → after d (sign (codes ")") ∷ []) vs ≡ Some rest
        → Expression d 12 0 ts rest (tree.from_char_code (at_of ts) e)
    -- 11.2: the parts after an atom
    call : {d n : ℕ} {ts us vs ws rest : List Placed} {f : Expr} {es : Exprs}
        → Expression d 12 n ts us f → after (d + n) (sign (codes "(") ∷ []) us ≡ Some vs
        → Expressions (suc (d + n)) vs ws es → after (d + n) (sign (codes ")") ∷ []) ws ≡ Some rest
        → Expression d 12 (suc n) ts rest (tree.call (at_of ts) f es)
    index : {d n m : ℕ} {ts us vs ws rest : List Placed} {e i : Expr}
        → Expression d 12 n ts us e → after (d + n) (sign (codes "[") ∷ []) us ≡ Some vs
        → Expression (suc (d + n)) 0 m vs ws i → after (d + n) (sign (codes "]") ∷ []) ws ≡ Some rest
        → Expression d 12 (suc n) ts rest (tree.index (at_of ts) e i)
    length_of : {d n : ℕ} {ts us rest : List Placed} {e : Expr}
        → Expression d 12 n ts us e → after (d + n) (sign (codes ".") ∷ word (codes "length") ∷ []) us ≡ Some rest
        → Expression d 12 (suc n) ts rest (tree.length_of (at_of ts) e)
    pop : {d n : ℕ} {ts us rest : List Placed} {e : Expr}
        → Expression d 12 n ts us e
        → after (d + n) (sign (codes ".") ∷ word (codes "pop") ∷ sign (codes "(") ∷ sign (codes ")") ∷ []) us ≡ Some rest
        → Expression d 12 (suc n) ts rest (tree.pop (at_of ts) e)
    char_code_at : {d n m : ℕ} {ts us vs ws rest : List Placed} {e i : Expr}
        → Expression d 12 n ts us e → after (d + n) (sign (codes ".") ∷ word (codes "charCodeAt") ∷ sign (codes "(") ∷ []) us ≡ Some vs
        → Expression (suc (d + n)) 0 m vs ws i → after (d + n) (sign (codes ")") ∷ []) ws ≡ Some rest
        → Expression d 12 (suc n) ts rest (tree.char_code_at (at_of ts) e i)
    substring : {d n m l : ℕ} {ts us vs ws xs ys rest : List Placed} {e i j : Expr}
        → Expression d 12 n ts us e → after (d + n) (sign (codes ".") ∷ word (codes "substring") ∷ sign (codes "(") ∷ []) us ≡ Some vs
        → Expression (suc (d + n)) 0 m vs ws i → after (suc (d + n)) (sign (codes ",") ∷ []) ws ≡ Some xs
        → Expression (suc (d + n)) 0 l xs ys j → after (d + n) (sign (codes ")") ∷ []) ys ≡ Some rest
        → Expression d 12 (suc n) ts rest (tree.substring (at_of ts) e i j)
    -- 11.4: an operator before its operand
    unary : {d n : ℕ} {op : UnaryOp} {ts us rest : List Placed} {e : Expr}
        → after d (sign_token op ∷ []) ts ≡ Some us → Expression (suc d) 11 n us rest e
        → Expression d 11 0 ts rest (tree.unary (at_of ts) op e)
    -- 11.5 to 11.10
    binary : {d n m : ℕ} {op : BinaryOp} {ts us vs rest : List Placed} {a b : Expr}
        → Expression d (op_level op) n ts us a → after (d + n) (op_token op ∷ []) us ≡ Some vs
        → Expression (suc (d + n)) (suc (op_level op)) m vs rest b
        → Expression d (op_level op) (suc n) ts rest (tree.binary (at_of ts) op a b)
    -- 11.11
    both : {d n m : ℕ} {ts us vs rest : List Placed} {a b : Expr}
        → Expression d 2 n ts us a → after (d + n) (sign (codes "&&") ∷ []) us ≡ Some vs → Expression (suc (d + n)) 3 m vs rest b
        → Expression d 2 (suc n) ts rest (tree.both (at_of ts) a b)
    either : {d n m : ℕ} {ts us vs rest : List Placed} {a b : Expr}
        → Expression d 1 n ts us a → after (d + n) (sign (codes "||") ∷ []) us ≡ Some vs → Expression (suc (d + n)) 2 m vs rest b
        → Expression d 1 (suc n) ts rest (tree.either (at_of ts) a b)
    -- 11.12: what follows `?` is nested one deeper
    choice : {d n m l : ℕ} {ts us vs ws xs rest : List Placed} {t a b : Expr}
        → Expression d 1 n ts us t → after d (sign (codes "?") ∷ []) us ≡ Some vs
        → Expression (suc d) 0 m vs ws a → after (suc d) (sign (codes ":") ∷ []) ws ≡ Some xs → Expression (suc d) 0 l xs rest b
        → Expression d 0 0 ts rest (tree.choice (at_of ts) t a b)
    -- what binds tighter stands where a looser one may, as a chain without an operator
    looser : {d k n : ℕ} {ts rest : List Placed} {e : Expr}
        → k < 12 → Expression d (suc k) n ts rest e → Expression d k 0 ts rest e

  -- expressions with commas between, or none
  pub data Expressions : (d : ℕ) (ts rest : List Placed) → Exprs → Type 0 where
    no_expressions : {d : ℕ} {ts : List Placed} → Expressions d ts ts no_exprs
    expressions : {d n : ℕ} {ts us rest : List Placed} {e : Expr} {es : Exprs}
        → Expression d 0 n ts us e → MoreExpressions d us rest es → Expressions d ts rest (expr e es)

  pub data MoreExpressions : (d : ℕ) (ts rest : List Placed) → Exprs → Type 0 where
    no_more_expressions : {d : ℕ} {ts : List Placed} → MoreExpressions d ts ts no_exprs
    more_expressions : {d n : ℕ} {ts us vs rest : List Placed} {e : Expr} {es : Exprs}
        → after d (sign (codes ",") ∷ []) ts ≡ Some us → Expression d 0 n us vs e → MoreExpressions d vs rest es
        → MoreExpressions d ts rest (expr e es)

-- 12.12: the name before a loop or a `switch`, where there is one
pub data Label : (d : ℕ) (ts rest : List Placed) → Option Name → Type 0 where
  no_label : {d : ℕ} {ts : List Placed} → Label d ts ts None
  labelled : {d : ℕ} {x : Name} {ts rest : List Placed}
      → IsTrue (is_own_name x) → after d (identifier_name x ∷ sign (codes ":") ∷ []) ts ≡ Some rest → Label d ts rest (Some x)

-- 12.7, 12.8: the name after `break` or `continue`, where there is one
pub data Target : (d : ℕ) (ts rest : List Placed) → Option Name → Type 0 where
  no_target : {d : ℕ} {ts : List Placed} → Target d ts ts None
  target : {d : ℕ} {x : Name} {ts rest : List Placed}
      → IsTrue (is_own_name x) → after d (identifier_name x ∷ []) ts ≡ Some rest → Target d ts rest (Some x)

-- 12.9: the expression after `return`, where there is one
pub data Returned : (d : ℕ) (ts rest : List Placed) → Option Expr → Type 0 where
  nothing_returned : {d : ℕ} {ts : List Placed} → Returned d ts ts None
  returned : {d n : ℕ} {ts rest : List Placed} {e : Expr} → Expression d 0 n ts rest e → Returned d ts rest (Some e)

mutual
  -- 12: nested d deep, the tokens ts before those of rest are a statement
  pub data Statement : (d : ℕ) (ts rest : List Placed) → Stmt → Type 0 where
    declare : {d n : ℕ} {x : Name} {ts us vs rest : List Placed} {e : Expr}
        → IsTrue (is_own_name x) → after d (word (codes "var") ∷ identifier_name x ∷ sign (codes "=") ∷ []) ts ≡ Some us
        → Expression d 0 n us vs e → after d (sign (codes ";") ∷ []) vs ≡ Some rest
        → Statement d ts rest (tree.declare (at_of ts) x e)
    assign : {d n : ℕ} {x : Name} {ts us vs rest : List Placed} {e : Expr}
        → IsTrue (is_own_name x) → after d (identifier_name x ∷ sign (codes "=") ∷ []) ts ≡ Some us
        → Expression d 0 n us vs e → after d (sign (codes ";") ∷ []) vs ≡ Some rest
        → Statement d ts rest (tree.assign (at_of ts) x e)
    store : {d n m l : ℕ} {ts us vs ws xs ys zs rest : List Placed} {e i v : Expr}
        → Expression d 12 n ts us e → after (d + n) (sign (codes "[") ∷ []) us ≡ Some vs
        → Expression (suc (d + n)) 0 m vs ws i → after (d + n) (sign (codes "]") ∷ []) ws ≡ Some xs
        → after d (sign (codes "=") ∷ []) xs ≡ Some ys → Expression d 0 l ys zs v → after d (sign (codes ";") ∷ []) zs ≡ Some rest
        → Statement d ts rest (tree.store (at_of ts) e i v)
    -- an expression whose last part is an argument list or `.pop()`
    perform : {d n : ℕ} {ts us rest : List Placed} {e : Expr}
        → IsTrue (is_call e) → Expression d 12 (suc n) ts us e → after d (sign (codes ";") ∷ []) us ≡ Some rest
        → Statement d ts rest (tree.perform (at_of ts) e)
    push : {d n m : ℕ} {ts us vs ws xs rest : List Placed} {e v : Expr}
        → Expression d 12 n ts us e → after (d + n) (sign (codes ".") ∷ word (codes "push") ∷ sign (codes "(") ∷ []) us ≡ Some vs
        → Expression (suc (d + n)) 0 m vs ws v → after (d + n) (sign (codes ")") ∷ []) ws ≡ Some xs → after d (sign (codes ";") ∷ []) xs ≡ Some rest
        → Statement d ts rest (tree.push (at_of ts) e v)
    remove : {d n m : ℕ} {ts us vs ws xs ys rest : List Placed} {e k : Expr}
        → after d (word (codes "delete") ∷ []) ts ≡ Some us → Expression d 12 n us vs e → after (d + n) (sign (codes "[") ∷ []) vs ≡ Some ws
        → Expression (suc (d + n)) 0 m ws xs k → after (d + n) (sign (codes "]") ∷ []) xs ≡ Some ys → after d (sign (codes ";") ∷ []) ys ≡ Some rest
        → Statement d ts rest (tree.remove (at_of ts) e k)
    branch : {d n : ℕ} {ts us vs ws xs rest : List Placed} {t : Expr} {ss : Stmts} {other : Else}
        → after d (word (codes "if") ∷ sign (codes "(") ∷ []) ts ≡ Some us → Expression (suc d) 0 n us vs t
        → after d (sign (codes ")") ∷ []) vs ≡ Some ws → Block d ws xs ss → Otherwise d xs rest other
        → Statement d ts rest (tree.branch (at_of ts) t ss other)
    while : {d n : ℕ} {l : Option Name} {ts us vs ws xs rest : List Placed} {t : Expr} {ss : Stmts}
        → Label d ts us l → after d (word (codes "while") ∷ sign (codes "(") ∷ []) us ≡ Some vs
        → Expression (suc d) 0 n vs ws t → after d (sign (codes ")") ∷ []) ws ≡ Some xs → Block d xs rest ss
        → Statement d ts rest (tree.while (at_of ts) l t ss)
    forever : {d : ℕ} {l : Option Name} {ts us vs ws xs rest : List Placed} {ss : Stmts}
        → Label d ts us l → after d (word (codes "for") ∷ sign (codes "(") ∷ []) us ≡ Some vs
        → after (suc d) (sign (codes ";") ∷ sign (codes ";") ∷ []) vs ≡ Some ws → after d (sign (codes ")") ∷ []) ws ≡ Some xs → Block d xs rest ss
        → Statement d ts rest (tree.forever (at_of ts) l ss)
    switch : {d n : ℕ} {l : Option Name} {ts us vs ws xs ys rest : List Placed} {e : Expr} {cs : Cases}
        → Label d ts us l → after d (word (codes "switch") ∷ sign (codes "(") ∷ []) us ≡ Some vs
        → Expression (suc d) 0 n vs ws e → after d (sign (codes ")") ∷ sign (codes "{") ∷ []) ws ≡ Some xs
        → CaseClauses (suc d) xs ys cs → after d (sign (codes "}") ∷ []) ys ≡ Some rest
        → Statement d ts rest (tree.switch (at_of ts) l e cs)
    return : {d : ℕ} {ts us vs rest : List Placed} {e : Option Expr}
        → after d (word (codes "return") ∷ []) ts ≡ Some us → Returned d us vs e → after d (sign (codes ";") ∷ []) vs ≡ Some rest
        → Statement d ts rest (tree.return (at_of ts) e)
    throw : {d n : ℕ} {ts us vs rest : List Placed} {e : Expr}
        → after d (word (codes "throw") ∷ []) ts ≡ Some us → Expression d 0 n us vs e → after d (sign (codes ";") ∷ []) vs ≡ Some rest
        → Statement d ts rest (tree.throw (at_of ts) e)
    break : {d : ℕ} {l : Option Name} {ts us vs rest : List Placed}
        → after d (word (codes "break") ∷ []) ts ≡ Some us → Target d us vs l → after d (sign (codes ";") ∷ []) vs ≡ Some rest
        → Statement d ts rest (tree.break (at_of ts) l)
    continue : {d : ℕ} {l : Option Name} {ts us vs rest : List Placed}
        → after d (word (codes "continue") ∷ []) ts ≡ Some us → Target d us vs l → after d (sign (codes ";") ∷ []) vs ≡ Some rest
        → Statement d ts rest (tree.continue (at_of ts) l)
    attempt : {d : ℕ} {ts us vs ws xs ys rest : List Placed} {ss handler : Stmts}
        → after d (word (codes "try") ∷ []) ts ≡ Some us → Block d us vs ss
        → after d (word (codes "catch") ∷ sign (codes "(") ∷ []) vs ≡ Some ws → after (suc d) (identifier_name (codes "$catch") ∷ []) ws ≡ Some xs
        → after d (sign (codes ")") ∷ []) xs ≡ Some ys → Block d ys rest handler
        → Statement d ts rest (tree.attempt (at_of ts) ss handler)

  pub data Statements : (d : ℕ) (ts rest : List Placed) → Stmts → Type 0 where
    no_statements : {d : ℕ} {ts : List Placed} → Statements d ts ts no_stmts
    statements : {d : ℕ} {ts us rest : List Placed} {s : Stmt} {ss : Stmts}
        → Statement d ts us s → Statements d us rest ss → Statements d ts rest (stmt s ss)

  -- 12.1
  pub data Block : (d : ℕ) (ts rest : List Placed) → Stmts → Type 0 where
    block : {d : ℕ} {ts us vs rest : List Placed} {ss : Stmts}
        → after d (sign (codes "{") ∷ []) ts ≡ Some us → Statements (suc d) us vs ss → after d (sign (codes "}") ∷ []) vs ≡ Some rest
        → Block d ts rest ss

  -- 12.5: what follows `else` is nested one deeper
  pub data Otherwise : (d : ℕ) (ts rest : List Placed) → Else → Type 0 where
    nothing_otherwise : {d : ℕ} {ts : List Placed} → Otherwise d ts ts no_else
    block_otherwise : {d : ℕ} {ts us rest : List Placed} {ss : Stmts}
        → after d (word (codes "else") ∷ []) ts ≡ Some us → Block (suc d) us rest ss → Otherwise d ts rest (else_block ss)
    branch_otherwise : {d n : ℕ} {ts us vs ws xs ys rest : List Placed} {t : Expr} {ss : Stmts} {other : Else}
        → after d (word (codes "else") ∷ []) ts ≡ Some us → after (suc d) (word (codes "if") ∷ sign (codes "(") ∷ []) us ≡ Some vs
        → Expression (suc (suc d)) 0 n vs ws t → after (suc d) (sign (codes ")") ∷ []) ws ≡ Some xs
        → Block (suc d) xs ys ss → Otherwise (suc d) ys rest other
        → Otherwise d ts rest (else_if (at_of us) t ss other)

  -- 12.11: with `default`, where it is there, as the last
  pub data CaseClauses : (d : ℕ) (ts rest : List Placed) → Cases → Type 0 where
    no_clauses : {d : ℕ} {ts : List Placed} → CaseClauses d ts ts no_cases
    default_clause : {d : ℕ} {ts us rest : List Placed} {ss : Stmts}
        → after d (word (codes "default") ∷ sign (codes ":") ∷ []) ts ≡ Some us → Statements d us rest ss → CaseClauses d ts rest (tree.default ss)
    case_clause : {d n : ℕ} {ts us vs rest : List Placed} {ss : Stmts} {cs : Cases}
        → after d (word (codes "case") ∷ numeric_literal n ∷ sign (codes ":") ∷ []) ts ≡ Some us → Statements d us vs ss → CaseClauses d vs rest cs
        → CaseClauses d ts rest (tree.case n ss cs)

-- names with commas between, or none
mutual
  pub data Parameters : (ts rest : List Placed) → List Name → Type 0 where
    no_parameters : {ts : List Placed} → Parameters ts ts []
    parameters : {x : Name} {xs : List Name} {ts us rest : List Placed}
        → IsTrue (is_own_name x) → after 1 (identifier_name x ∷ []) ts ≡ Some us → MoreParameters us rest xs → Parameters ts rest (x ∷ xs)

  pub data MoreParameters : (ts rest : List Placed) → List Name → Type 0 where
    no_more_parameters : {ts : List Placed} → MoreParameters ts ts []
    more_parameters : {x : Name} {xs : List Name} {ts us rest : List Placed}
        → IsTrue (is_own_name x) → after 1 (sign (codes ",") ∷ identifier_name x ∷ []) ts ≡ Some us → MoreParameters us rest xs
        → MoreParameters ts rest (x ∷ xs)

-- 13, 14: functions and variables
pub data Items : (ts rest : List Placed) → List Item → Type 0 where
  no_items : {ts : List Placed} → Items ts ts []
  function : {x : Name} {xs : List Name} {ts us vs ws ys rest : List Placed} {ss : Stmts} {items : List Item}
      → IsTrue (is_own_name x) → after 0 (word (codes "function") ∷ identifier_name x ∷ sign (codes "(") ∷ []) ts ≡ Some us
      → Parameters us vs xs → after 0 (sign (codes ")") ∷ []) vs ≡ Some ws → Block 0 ws ys ss → Items ys rest items
      → Items ts rest (function_item (record { name = x; params = xs; body = ss; at = at_of ts }) ∷ items)
  global : {n : ℕ} {x : Name} {ts us vs ws rest : List Placed} {e : Expr} {items : List Item}
      → IsTrue (is_own_name x) → after 0 (word (codes "var") ∷ identifier_name x ∷ sign (codes "=") ∷ []) ts ≡ Some us
      → Expression 0 0 n us vs e → after 0 (sign (codes ";") ∷ []) vs ≡ Some ws → Items ws rest items
      → Items ts rest (global_item (at_of ts) x e ∷ items)

-- the tokens after the preamble: items, and the call of the function that a run starts with
pub record Body (tokens : List Placed) (script : ScriptTree) : Type 0 where
  pub start : List Placed
  pub items : Items tokens start script.items
  pub is_name : IsTrue (is_name script.start)
  pub call : after 0 (identifier_name script.start ∷ sign (codes "(") ∷ sign (codes ")") ∷ sign (codes ";") ∷ []) start ≡ Some []
  pub at : script.start_at ≡ at_of start

-- the bytes are a script with this tree
pub record IsScript (bytes : List ℕ) (script : ScriptTree) : Type 0 where
  pub body : List ℕ
  pub tokens : List Placed
  pub begins : bytes ≡ preamble ++ body
  pub splits : Splits true (length preamble) body tokens
  pub derives : Body tokens script
