-- Names, numbers and strings of a tree that was read have the forms that a text asks for.
use Rattle.std.proofs.Common.{◌≡◌, ◌∙◌, subst, ap, ℕ, suc, ◌+◌, List, [], ◌∷◌, Option, Some, Bool, true, refl}
use Rattle.std.specs.Prelude.{◌&&◌, codes}
use Rattle.std.specs.List.{list_all}
use Rattle.js_tree.specs.Lexical.{Token, identifier_name, numeric_literal, string_literal, Placed, Splits, end, token, is_token}
use Rattle.js_tree.specs.Script.{Name, Expr, Exprs, Stmt, Stmts, Else, Cases, Item, ScriptTree}
use Rattle.js_tree.specs.Printable.{is_own_name, is_own_label}
use Rattle.js_tree.specs.Scripts as rule
use Rattle.js_tree.specs.Scripts.{after, word, sign, op_token, sign_token, Expression, Expressions, MoreExpressions, Label, Target, Returned, Statement, Statements, Block, Otherwise, CaseClauses, Parameters, MoreParameters, Items, IsScript}
use Rattle.js_grammar.proofs.Forms.{has_forms, have_forms, value_has_forms, stmt_has_forms, stmts_have_forms, else_has_forms, cases_have_forms, item_has_forms, IsFormed}
use Rattle.js_grammar.proofs.Words.{both_true}
use Rattle.js_grammar.proofs.Complete.{head_of, parted}

-- each of them is a token of the subset
abbrev good : List Placed → Bool
good = list_all (λ p. is_token p.token)

both_hold : {a b : Bool} → a ≡ true → b ≡ true → (a && b) ≡ true
both_hold {b = b} p q = ap (λ z. z && b) p ∙ q

split_good : {newlines : Bool} {at : ℕ} {text : List ℕ} {tokens : List Placed} → Splits newlines at text tokens → good tokens ≡ true
split_good (end gap q) = refl
split_good (token gap t q p e s) = both_hold p (split_good s)

first_token : (d : ℕ) (x : Token) (ts us : List Placed) → after d (x ∷ []) ts ≡ Some us → good ts ≡ true → is_token x ≡ true
first_token d x ts us q g =
    let h = head_of d x ts us q in
    (both_true (is_token x) (good us) (subst (λ z. good z ≡ true) h.is g)).0

same_some : (a b : List Placed) → Some a ≡ Some b → a ≡ b
same_some a b q = cc

past_good : (d : ℕ) (xs : List Token) (ts us : List Placed) → after d xs ts ≡ Some us → good ts ≡ true → good us ≡ true
past_good d [] ts us q g = subst (λ z. good z ≡ true) (same_some ts us q) g
past_good d (x ∷ xs) ts us q g =
    let p = parted d x xs ts us q in
    let h = head_of d x ts p.middle p.head in
    past_good d xs p.middle us p.rest (both_true (is_token x) (good p.middle) (subst (λ z. good z ≡ true) h.is g)).1

second_token : (d : ℕ) (x y : Token) (xs : List Token) (ts us : List Placed) → after d (x ∷ y ∷ xs) ts ≡ Some us → good ts ≡ true → is_token y ≡ true
second_token d x y xs ts us q g =
    let p = parted d x (y ∷ xs) ts us q in
    let r = parted d y xs p.middle us p.rest in
    first_token d y p.middle r.middle r.head (past_good d (x ∷ []) ts p.middle p.head g)

mutual
  formed : {d k n : ℕ} {ts rest : List Placed} {e : Expr} → Expression d k n ts rest e → good ts ≡ true → (has_forms e ≡ true) × (good rest ≡ true)
  formed (rule.number {d = d} {m = m} {ts = ts} {rest = rest} q1) g =
      let g1 = past_good d (numeric_literal m ∷ []) ts rest q1 g in
      let k1 = first_token d (numeric_literal m) ts rest q1 g in
      (k1, g1)
  formed (rule.string {d = d} {s = s} {ts = ts} {rest = rest} q1) g =
      let g1 = past_good d (string_literal s ∷ []) ts rest q1 g in
      let k1 = first_token d (string_literal s) ts rest q1 g in
      (k1, g1)
  formed (rule.true_literal {d = d} {ts = ts} {rest = rest} q1) g =
      let g1 = past_good d (word (codes "true") ∷ []) ts rest q1 g in
      (refl, g1)
  formed (rule.false_literal {d = d} {ts = ts} {rest = rest} q1) g =
      let g1 = past_good d (word (codes "false") ∷ []) ts rest q1 g in
      (refl, g1)
  formed (rule.null_literal {d = d} {ts = ts} {rest = rest} q1) g =
      let g1 = past_good d (word (codes "null") ∷ []) ts rest q1 g in
      (refl, g1)
  formed (rule.name {d = d} {x = x} {ts = ts} {rest = rest} q1 q2) g =
      let g2 = past_good d (identifier_name x ∷ []) ts rest q2 g in
      (q1, g2)
  formed (rule.parentheses {d = d} {ts = ts} {us = us} {vs = vs} {rest = rest} q1 q2 q3) g =
      let g1 = past_good d (sign (codes "(") ∷ []) ts us q1 g in
      let r2 = formed q2 g1 in
      let g3 = past_good d (sign (codes ")") ∷ []) vs rest q3 r2.1 in
      (r2.0, g3)
  formed (rule.array {d = d} {ts = ts} {us = us} {vs = vs} {rest = rest} q1 q2 q3) g =
      let g1 = past_good d (sign (codes "[") ∷ []) ts us q1 g in
      let r2 = list_formed q2 g1 in
      let g3 = past_good d (sign (codes "]") ∷ []) vs rest q3 r2.1 in
      (r2.0, g3)
  formed (rule.dictionary {d = d} {ts = ts} {us = us} {vs = vs} {rest = rest} q1 q2 q3) g =
      let g1 = past_good d (word (codes "Object") ∷ sign (codes ".") ∷ word (codes "create") ∷ sign (codes "(") ∷ []) ts us q1 g in
      let g2 = past_good (suc d) (word (codes "null") ∷ []) us vs q2 g1 in
      let g3 = past_good d (sign (codes ")") ∷ []) vs rest q3 g2 in
      (refl, g3)
  formed (rule.decimal_of {d = d} {ts = ts} {us = us} {vs = vs} {rest = rest} q1 q2 q3) g =
      let g1 = past_good d (word (codes "String") ∷ sign (codes "(") ∷ []) ts us q1 g in
      let r2 = formed q2 g1 in
      let g3 = past_good d (sign (codes ")") ∷ []) vs rest q3 r2.1 in
      (r2.0, g3)
  formed (rule.from_char_code {d = d} {ts = ts} {us = us} {vs = vs} {rest = rest} q1 q2 q3) g =
      let g1 = past_good d (word (codes "String") ∷ sign (codes ".") ∷ word (codes "fromCharCode") ∷ sign (codes "(") ∷ []) ts us q1 g in
      let r2 = formed q2 g1 in
      let g3 = past_good d (sign (codes ")") ∷ []) vs rest q3 r2.1 in
      (r2.0, g3)
  formed (rule.call {d = d} {n = n} {us = us} {vs = vs} {ws = ws} {rest = rest} q1 q2 q3 q4) g =
      let r1 = formed q1 g in
      let g2 = past_good (d + n) (sign (codes "(") ∷ []) us vs q2 r1.1 in
      let r3 = list_formed q3 g2 in
      let g4 = past_good (d + n) (sign (codes ")") ∷ []) ws rest q4 r3.1 in
      (both_hold r1.0 r3.0, g4)
  formed (rule.index {d = d} {n = n} {us = us} {vs = vs} {ws = ws} {rest = rest} q1 q2 q3 q4) g =
      let r1 = formed q1 g in
      let g2 = past_good (d + n) (sign (codes "[") ∷ []) us vs q2 r1.1 in
      let r3 = formed q3 g2 in
      let g4 = past_good (d + n) (sign (codes "]") ∷ []) ws rest q4 r3.1 in
      (both_hold r1.0 r3.0, g4)
  formed (rule.length_of {d = d} {n = n} {us = us} {rest = rest} q1 q2) g =
      let r1 = formed q1 g in
      let g2 = past_good (d + n) (sign (codes ".") ∷ word (codes "length") ∷ []) us rest q2 r1.1 in
      (r1.0, g2)
  formed (rule.pop {d = d} {n = n} {us = us} {rest = rest} q1 q2) g =
      let r1 = formed q1 g in
      let g2 = past_good (d + n) (sign (codes ".") ∷ word (codes "pop") ∷ sign (codes "(") ∷ sign (codes ")") ∷ []) us rest q2 r1.1 in
      (r1.0, g2)
  formed (rule.char_code_at {d = d} {n = n} {us = us} {vs = vs} {ws = ws} {rest = rest} q1 q2 q3 q4) g =
      let r1 = formed q1 g in
      let g2 = past_good (d + n) (sign (codes ".") ∷ word (codes "charCodeAt") ∷ sign (codes "(") ∷ []) us vs q2 r1.1 in
      let r3 = formed q3 g2 in
      let g4 = past_good (d + n) (sign (codes ")") ∷ []) ws rest q4 r3.1 in
      (both_hold r1.0 r3.0, g4)
  formed (rule.substring {d = d} {n = n} {us = us} {vs = vs} {ws = ws} {xs = xs} {ys = ys} {rest = rest} q1 q2 q3 q4 q5 q6) g =
      let r1 = formed q1 g in
      let g2 = past_good (d + n) (sign (codes ".") ∷ word (codes "substring") ∷ sign (codes "(") ∷ []) us vs q2 r1.1 in
      let r3 = formed q3 g2 in
      let g4 = past_good (suc (d + n)) (sign (codes ",") ∷ []) ws xs q4 r3.1 in
      let r5 = formed q5 g4 in
      let g6 = past_good (d + n) (sign (codes ")") ∷ []) ys rest q6 r5.1 in
      (both_hold (both_hold r1.0 r3.0) r5.0, g6)
  formed (rule.unary {d = d} {op = op} {ts = ts} {us = us} q1 q2) g =
      let g1 = past_good d (sign_token op ∷ []) ts us q1 g in
      let r2 = formed q2 g1 in
      (r2.0, r2.1)
  formed (rule.binary {d = d} {n = n} {op = op} {us = us} {vs = vs} q1 q2 q3) g =
      let r1 = formed q1 g in
      let g2 = past_good (d + n) (op_token op ∷ []) us vs q2 r1.1 in
      let r3 = formed q3 g2 in
      (both_hold r1.0 r3.0, r3.1)
  formed (rule.both {d = d} {n = n} {us = us} {vs = vs} q1 q2 q3) g =
      let r1 = formed q1 g in
      let g2 = past_good (d + n) (sign (codes "&&") ∷ []) us vs q2 r1.1 in
      let r3 = formed q3 g2 in
      (both_hold r1.0 r3.0, r3.1)
  formed (rule.either {d = d} {n = n} {us = us} {vs = vs} q1 q2 q3) g =
      let r1 = formed q1 g in
      let g2 = past_good (d + n) (sign (codes "||") ∷ []) us vs q2 r1.1 in
      let r3 = formed q3 g2 in
      (both_hold r1.0 r3.0, r3.1)
  formed (rule.choice {d = d} {us = us} {vs = vs} {ws = ws} {xs = xs} q1 q2 q3 q4 q5) g =
      let r1 = formed q1 g in
      let g2 = past_good d (sign (codes "?") ∷ []) us vs q2 r1.1 in
      let r3 = formed q3 g2 in
      let g4 = past_good (suc d) (sign (codes ":") ∷ []) ws xs q4 r3.1 in
      let r5 = formed q5 g4 in
      (both_hold (both_hold r1.0 r3.0) r5.0, r5.1)
  formed (rule.looser q1 q2) g =
      let r2 = formed q2 g in
      (r2.0, r2.1)

  list_formed : {d : ℕ} {ts rest : List Placed} {es : Exprs} → Expressions d ts rest es → good ts ≡ true → (have_forms es ≡ true) × (good rest ≡ true)
  list_formed rule.no_expressions g = (refl, g)
  list_formed (rule.expressions q1 q2) g =
      let r1 = formed q1 g in
      let r2 = more_formed q2 r1.1 in
      (both_hold r1.0 r2.0, r2.1)

  more_formed : {d : ℕ} {ts rest : List Placed} {es : Exprs} → MoreExpressions d ts rest es → good ts ≡ true → (have_forms es ≡ true) × (good rest ≡ true)
  more_formed rule.no_more_expressions g = (refl, g)
  more_formed (rule.more_expressions {d = d} {ts = ts} {us = us} q1 q2 q3) g =
      let g1 = past_good d (sign (codes ",") ∷ []) ts us q1 g in
      let r2 = formed q2 g1 in
      let r3 = more_formed q3 r2.1 in
      (both_hold r2.0 r3.0, r3.1)

label_formed : {d : ℕ} {ts rest : List Placed} {l : Option Name} → Label d ts rest l → good ts ≡ true → (is_own_label l ≡ true) × (good rest ≡ true)
label_formed rule.no_label g = (refl, g)
label_formed (rule.labelled {d = d} {x = x} {ts = ts} {rest = rest} q1 q2) g =
    let g2 = past_good d (identifier_name x ∷ sign (codes ":") ∷ []) ts rest q2 g in
    (q1, g2)

target_formed : {d : ℕ} {ts rest : List Placed} {l : Option Name} → Target d ts rest l → good ts ≡ true → (is_own_label l ≡ true) × (good rest ≡ true)
target_formed rule.no_target g = (refl, g)
target_formed (rule.target {d = d} {x = x} {ts = ts} {rest = rest} q1 q2) g =
    let g2 = past_good d (identifier_name x ∷ []) ts rest q2 g in
    (q1, g2)

value_formed : {d : ℕ} {ts rest : List Placed} {e : Option Expr} → Returned d ts rest e → good ts ≡ true → (value_has_forms e ≡ true) × (good rest ≡ true)
value_formed rule.nothing_returned g = (refl, g)
value_formed (rule.returned q1) g =
    let r1 = formed q1 g in
    (r1.0, r1.1)

mutual
  stmt_formed : {d : ℕ} {ts rest : List Placed} {s : Stmt} → Statement d ts rest s → good ts ≡ true → (stmt_has_forms s ≡ true) × (good rest ≡ true)
  stmt_formed (rule.declare {d = d} {x = x} {ts = ts} {us = us} {vs = vs} {rest = rest} q1 q2 q3 q4) g =
      let g2 = past_good d (word (codes "var") ∷ identifier_name x ∷ sign (codes "=") ∷ []) ts us q2 g in
      let r3 = formed q3 g2 in
      let g4 = past_good d (sign (codes ";") ∷ []) vs rest q4 r3.1 in
      (both_hold q1 r3.0, g4)
  stmt_formed (rule.assign {d = d} {x = x} {ts = ts} {us = us} {vs = vs} {rest = rest} q1 q2 q3 q4) g =
      let g2 = past_good d (identifier_name x ∷ sign (codes "=") ∷ []) ts us q2 g in
      let r3 = formed q3 g2 in
      let g4 = past_good d (sign (codes ";") ∷ []) vs rest q4 r3.1 in
      (both_hold q1 r3.0, g4)
  stmt_formed (rule.store {d = d} {n = n} {us = us} {vs = vs} {ws = ws} {xs = xs} {ys = ys} {zs = zs} {rest = rest} q1 q2 q3 q4 q5 q6 q7) g =
      let r1 = formed q1 g in
      let g2 = past_good (d + n) (sign (codes "[") ∷ []) us vs q2 r1.1 in
      let r3 = formed q3 g2 in
      let g4 = past_good (d + n) (sign (codes "]") ∷ []) ws xs q4 r3.1 in
      let g5 = past_good d (sign (codes "=") ∷ []) xs ys q5 g4 in
      let r6 = formed q6 g5 in
      let g7 = past_good d (sign (codes ";") ∷ []) zs rest q7 r6.1 in
      (both_hold (both_hold r1.0 r3.0) r6.0, g7)
  stmt_formed (rule.perform {d = d} {us = us} {rest = rest} q1 q2 q3) g =
      let r2 = formed q2 g in
      let g3 = past_good d (sign (codes ";") ∷ []) us rest q3 r2.1 in
      (both_hold q1 r2.0, g3)
  stmt_formed (rule.push {d = d} {n = n} {us = us} {vs = vs} {ws = ws} {xs = xs} {rest = rest} q1 q2 q3 q4 q5) g =
      let r1 = formed q1 g in
      let g2 = past_good (d + n) (sign (codes ".") ∷ word (codes "push") ∷ sign (codes "(") ∷ []) us vs q2 r1.1 in
      let r3 = formed q3 g2 in
      let g4 = past_good (d + n) (sign (codes ")") ∷ []) ws xs q4 r3.1 in
      let g5 = past_good d (sign (codes ";") ∷ []) xs rest q5 g4 in
      (both_hold r1.0 r3.0, g5)
  stmt_formed (rule.remove {d = d} {n = n} {ts = ts} {us = us} {vs = vs} {ws = ws} {xs = xs} {ys = ys} {rest = rest} q1 q2 q3 q4 q5 q6) g =
      let g1 = past_good d (word (codes "delete") ∷ []) ts us q1 g in
      let r2 = formed q2 g1 in
      let g3 = past_good (d + n) (sign (codes "[") ∷ []) vs ws q3 r2.1 in
      let r4 = formed q4 g3 in
      let g5 = past_good (d + n) (sign (codes "]") ∷ []) xs ys q5 r4.1 in
      let g6 = past_good d (sign (codes ";") ∷ []) ys rest q6 g5 in
      (both_hold r2.0 r4.0, g6)
  stmt_formed (rule.branch {d = d} {ts = ts} {us = us} {vs = vs} {ws = ws} q1 q2 q3 q4 q5) g =
      let g1 = past_good d (word (codes "if") ∷ sign (codes "(") ∷ []) ts us q1 g in
      let r2 = formed q2 g1 in
      let g3 = past_good d (sign (codes ")") ∷ []) vs ws q3 r2.1 in
      let r4 = block_formed q4 g3 in
      let r5 = else_formed q5 r4.1 in
      (both_hold (both_hold r2.0 r4.0) r5.0, r5.1)
  stmt_formed (rule.while {d = d} {us = us} {vs = vs} {ws = ws} {xs = xs} q1 q2 q3 q4 q5) g =
      let r1 = label_formed q1 g in
      let g2 = past_good d (word (codes "while") ∷ sign (codes "(") ∷ []) us vs q2 r1.1 in
      let r3 = formed q3 g2 in
      let g4 = past_good d (sign (codes ")") ∷ []) ws xs q4 r3.1 in
      let r5 = block_formed q5 g4 in
      (both_hold (both_hold r1.0 r3.0) r5.0, r5.1)
  stmt_formed (rule.forever {d = d} {us = us} {vs = vs} {ws = ws} {xs = xs} q1 q2 q3 q4 q5) g =
      let r1 = label_formed q1 g in
      let g2 = past_good d (word (codes "for") ∷ sign (codes "(") ∷ []) us vs q2 r1.1 in
      let g3 = past_good (suc d) (sign (codes ";") ∷ sign (codes ";") ∷ []) vs ws q3 g2 in
      let g4 = past_good d (sign (codes ")") ∷ []) ws xs q4 g3 in
      let r5 = block_formed q5 g4 in
      (both_hold r1.0 r5.0, r5.1)
  stmt_formed (rule.switch {d = d} {us = us} {vs = vs} {ws = ws} {xs = xs} {ys = ys} {rest = rest} q1 q2 q3 q4 q5 q6) g =
      let r1 = label_formed q1 g in
      let g2 = past_good d (word (codes "switch") ∷ sign (codes "(") ∷ []) us vs q2 r1.1 in
      let r3 = formed q3 g2 in
      let g4 = past_good d (sign (codes ")") ∷ sign (codes "{") ∷ []) ws xs q4 r3.1 in
      let r5 = cases_formed q5 g4 in
      let g6 = past_good d (sign (codes "}") ∷ []) ys rest q6 r5.1 in
      (both_hold (both_hold r1.0 r3.0) r5.0, g6)
  stmt_formed (rule.return {d = d} {ts = ts} {us = us} {vs = vs} {rest = rest} q1 q2 q3) g =
      let g1 = past_good d (word (codes "return") ∷ []) ts us q1 g in
      let r2 = value_formed q2 g1 in
      let g3 = past_good d (sign (codes ";") ∷ []) vs rest q3 r2.1 in
      (r2.0, g3)
  stmt_formed (rule.throw {d = d} {ts = ts} {us = us} {vs = vs} {rest = rest} q1 q2 q3) g =
      let g1 = past_good d (word (codes "throw") ∷ []) ts us q1 g in
      let r2 = formed q2 g1 in
      let g3 = past_good d (sign (codes ";") ∷ []) vs rest q3 r2.1 in
      (r2.0, g3)
  stmt_formed (rule.break {d = d} {ts = ts} {us = us} {vs = vs} {rest = rest} q1 q2 q3) g =
      let g1 = past_good d (word (codes "break") ∷ []) ts us q1 g in
      let r2 = target_formed q2 g1 in
      let g3 = past_good d (sign (codes ";") ∷ []) vs rest q3 r2.1 in
      (r2.0, g3)
  stmt_formed (rule.continue {d = d} {ts = ts} {us = us} {vs = vs} {rest = rest} q1 q2 q3) g =
      let g1 = past_good d (word (codes "continue") ∷ []) ts us q1 g in
      let r2 = target_formed q2 g1 in
      let g3 = past_good d (sign (codes ";") ∷ []) vs rest q3 r2.1 in
      (r2.0, g3)
  stmt_formed (rule.attempt {d = d} {ts = ts} {us = us} {vs = vs} {ws = ws} {xs = xs} {ys = ys} q1 q2 q3 q4 q5 q6) g =
      let g1 = past_good d (word (codes "try") ∷ []) ts us q1 g in
      let r2 = block_formed q2 g1 in
      let g3 = past_good d (word (codes "catch") ∷ sign (codes "(") ∷ []) vs ws q3 r2.1 in
      let g4 = past_good (suc d) (identifier_name (codes "$catch") ∷ []) ws xs q4 g3 in
      let g5 = past_good d (sign (codes ")") ∷ []) xs ys q5 g4 in
      let r6 = block_formed q6 g5 in
      (both_hold r2.0 r6.0, r6.1)

  stmts_formed : {d : ℕ} {ts rest : List Placed} {ss : Stmts} → Statements d ts rest ss → good ts ≡ true → (stmts_have_forms ss ≡ true) × (good rest ≡ true)
  stmts_formed rule.no_statements g = (refl, g)
  stmts_formed (rule.statements q1 q2) g =
      let r1 = stmt_formed q1 g in
      let r2 = stmts_formed q2 r1.1 in
      (both_hold r1.0 r2.0, r2.1)

  block_formed : {d : ℕ} {ts rest : List Placed} {ss : Stmts} → Block d ts rest ss → good ts ≡ true → (stmts_have_forms ss ≡ true) × (good rest ≡ true)
  block_formed (rule.block {d = d} {ts = ts} {us = us} {vs = vs} {rest = rest} q1 q2 q3) g =
      let g1 = past_good d (sign (codes "{") ∷ []) ts us q1 g in
      let r2 = stmts_formed q2 g1 in
      let g3 = past_good d (sign (codes "}") ∷ []) vs rest q3 r2.1 in
      (r2.0, g3)

  else_formed : {d : ℕ} {ts rest : List Placed} {other : Else} → Otherwise d ts rest other → good ts ≡ true → (else_has_forms other ≡ true) × (good rest ≡ true)
  else_formed rule.nothing_otherwise g = (refl, g)
  else_formed (rule.block_otherwise {d = d} {ts = ts} {us = us} q1 q2) g =
      let g1 = past_good d (word (codes "else") ∷ []) ts us q1 g in
      let r2 = block_formed q2 g1 in
      (r2.0, r2.1)
  else_formed (rule.branch_otherwise {d = d} {ts = ts} {us = us} {vs = vs} {ws = ws} {xs = xs} q1 q2 q3 q4 q5 q6) g =
      let g1 = past_good d (word (codes "else") ∷ []) ts us q1 g in
      let g2 = past_good (suc d) (word (codes "if") ∷ sign (codes "(") ∷ []) us vs q2 g1 in
      let r3 = formed q3 g2 in
      let g4 = past_good (suc d) (sign (codes ")") ∷ []) ws xs q4 r3.1 in
      let r5 = block_formed q5 g4 in
      let r6 = else_formed q6 r5.1 in
      (both_hold (both_hold r3.0 r5.0) r6.0, r6.1)

  cases_formed : {d : ℕ} {ts rest : List Placed} {cs : Cases} → CaseClauses d ts rest cs → good ts ≡ true → (cases_have_forms cs ≡ true) × (good rest ≡ true)
  cases_formed rule.no_clauses g = (refl, g)
  cases_formed (rule.default_clause {d = d} {ts = ts} {us = us} q1 q2) g =
      let g1 = past_good d (word (codes "default") ∷ sign (codes ":") ∷ []) ts us q1 g in
      let r2 = stmts_formed q2 g1 in
      (r2.0, r2.1)
  cases_formed (rule.case_clause {d = d} {n = n} {ts = ts} {us = us} q1 q2 q3) g =
      let g1 = past_good d (word (codes "case") ∷ numeric_literal n ∷ sign (codes ":") ∷ []) ts us q1 g in
      let k1 = second_token d (word (codes "case")) (numeric_literal n) (sign (codes ":") ∷ []) ts us q1 g in
      let r2 = stmts_formed q2 g1 in
      let r3 = cases_formed q3 r2.1 in
      (both_hold (both_hold k1 r2.0) r3.0, r3.1)

mutual
  names_formed : {ts rest : List Placed} {xs : List Name} → Parameters ts rest xs → good ts ≡ true → (list_all is_own_name xs ≡ true) × (good rest ≡ true)
  names_formed rule.no_parameters g = (refl, g)
  names_formed (rule.parameters {x = x} {ts = ts} {us = us} q1 q2 q3) g =
      let g2 = past_good 1 (identifier_name x ∷ []) ts us q2 g in
      let r3 = more_names_formed q3 g2 in
      (both_hold q1 r3.0, r3.1)

  more_names_formed : {ts rest : List Placed} {xs : List Name} → MoreParameters ts rest xs → good ts ≡ true → (list_all is_own_name xs ≡ true) × (good rest ≡ true)
  more_names_formed rule.no_more_parameters g = (refl, g)
  more_names_formed (rule.more_parameters {x = x} {ts = ts} {us = us} q1 q2 q3) g =
      let g2 = past_good 1 (sign (codes ",") ∷ identifier_name x ∷ []) ts us q2 g in
      let r3 = more_names_formed q3 g2 in
      (both_hold q1 r3.0, r3.1)

items_formed : {ts rest : List Placed} {items : List Item} → Items ts rest items → good ts ≡ true → (list_all item_has_forms items ≡ true) × (good rest ≡ true)
items_formed rule.no_items g = (refl, g)
items_formed (rule.function {x = x} {ts = ts} {us = us} {vs = vs} {ws = ws} q1 q2 q3 q4 q5 q6) g =
    let g2 = past_good 0 (word (codes "function") ∷ identifier_name x ∷ sign (codes "(") ∷ []) ts us q2 g in
    let r3 = names_formed q3 g2 in
    let g4 = past_good 0 (sign (codes ")") ∷ []) vs ws q4 r3.1 in
    let r5 = block_formed q5 g4 in
    let r6 = items_formed q6 r5.1 in
    (both_hold (both_hold (both_hold q1 r3.0) r5.0) r6.0, r6.1)
items_formed (rule.global {x = x} {ts = ts} {us = us} {vs = vs} {ws = ws} q1 q2 q3 q4 q5) g =
    let g2 = past_good 0 (word (codes "var") ∷ identifier_name x ∷ sign (codes "=") ∷ []) ts us q2 g in
    let r3 = formed q3 g2 in
    let g4 = past_good 0 (sign (codes ";") ∷ []) vs ws q4 r3.1 in
    let r5 = items_formed q5 g4 in
    (both_hold (both_hold q1 r3.0) r5.0, r5.1)

-- the tree of a script has the forms
pub script_formed : (bytes : List ℕ) (s : ScriptTree) → IsScript bytes s → IsFormed s
script_formed bytes s h = both_hold (items_formed h.derives.items (split_good h.splits)).0 h.derives.is_name
