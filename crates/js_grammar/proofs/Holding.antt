-- What each goal means in the grammar, and that steps keep it.
use Rattle.std.proofs.Common.{◌≡◌, subst, ℕ, suc, ◌+◌, ◌≤◌, ◌<◌, List, [], ◌∷◌, ◌++◌, Some, None, Ok, true, false}
use Rattle.std.specs.Prelude.{IsTrue, codes}
use Rattle.js_tree.specs.Lexical.{Token, identifier_name, numeric_literal, string_literal, Placed}
use Rattle.js_tree.specs.Script.{Name, Expr, Stmt, Stmts, Cases, case, Item, ScriptTree}
use Rattle.js_tree.specs.View.{exprs_of, stmts_of, cases_of}
use Rattle.js_tree.specs.Printable.{is_name, is_own_name}
use Rattle.js_tree.specs.Scripts.{at_of, word, Expression, Expressions, MoreExpressions, Statement, Statements, Block, Otherwise, CaseClauses, Target, Label, Parameters, MoreParameters, Items}
use Rattle.js_tree.specs.declared.tree.UnaryOp.{UnaryOp}
use Rattle.js_grammar.specs.declared.token.Infix.{Infix}
use Rattle.js_grammar.specs.Goals as goal
use Rattle.js_grammar.specs.Goals.{Goal, Gives}
use Rattle.js_grammar.specs.Steps.{Steps, answer, call, test, on_infix, on_sign, steps, skipped, left, right, semicolon, colon, equals}
use Rattle.js_grammar.proofs.Heads.{After, ok_is}
use Rattle.js_grammar.specs.Reads.{Reads, reads, Ends, answered, called, held, failed, no_infix, an_infix, no_sign, a_sign}

-- an expression with one more part
abbrev pub Longer : ℕ → ℕ → Expr → List Placed → Expr → List Placed → Type 0
Longer d at e ts f us =
    (c n : ℕ) (start : List Placed) → d ≡ c + n → at ≡ at_of start → Expression c 12 n start ts e → Expression c 12 (n + 1) start us f

-- a declaration as its name and its value
pub record Declares (d : ℕ) (ts : List Placed) (p : Name × Expr) (us : List Placed) : Type 0 where
  pub middle : List Placed
  pub end : List Placed
  pub n : ℕ
  pub own : IsTrue (is_own_name p.0)
  pub head : After d (word (codes "var") ∷ identifier_name p.0 ∷ equals ∷ []) ts middle
  pub value : Expression d 0 n middle end p.1
  pub last : After d (semicolon ∷ []) end us

-- a word and an expression in parentheses
pub record Tested (d : ℕ) (x : Token) (ts : List Placed) (e : Expr) (us : List Placed) : Type 0 where
  pub middle : List Placed
  pub end : List Placed
  pub n : ℕ
  pub head : After d (x ∷ left ∷ []) ts middle
  pub value : Expression (suc d) 0 n middle end e
  pub last : After d (right ∷ []) end us

-- `for (;;)`
pub record Turns (d : ℕ) (ts us : List Placed) : Type 0 where
  pub middle : List Placed
  pub end : List Placed
  pub head : After d (word (codes "for") ∷ left ∷ []) ts middle
  pub signs : After (suc d) (semicolon ∷ semicolon ∷ []) middle end
  pub last : After d (right ∷ []) end us

-- a case of a `switch`
pub record OneCase (d : ℕ) (ts : List Placed) (c : Cases → Cases) (us : List Placed) : Type 0 where
  pub n : ℕ
  pub body : Stmts
  pub middle : List Placed
  pub is : c ≡ case n body
  pub head : After d (word (codes "case") ∷ numeric_literal n ∷ colon ∷ []) ts middle
  pub value : Statements d middle us body

-- the tokens of a script, but for what follows it
pub record Whole (ts : List Placed) (s : ScriptTree) (us : List Placed) : Type 0 where
  pub start : List Placed
  pub items : Items ts start s.items
  pub is_name : IsTrue (is_name s.start)
  pub call : After 0 (identifier_name s.start ∷ left ∷ right ∷ semicolon ∷ []) start us
  pub at : s.start_at ≡ at_of start

abbrev pub Means : (g : Goal) → List Placed → Gives g → List Placed → Type 0
Means (goal.token d x) ts v us = After d (x ∷ []) ts us
Means (goal.operator d) ts v us = skipped d ts ≡ Some us
Means (goal.name d) ts x us = IsTrue (is_name x) × (After d (identifier_name x ∷ []) ts us)
Means (goal.own_name d) ts x us = IsTrue (is_own_name x) × (After d (identifier_name x ∷ []) ts us)
Means (goal.number d) ts n us = After d (numeric_literal n ∷ []) ts us
Means (goal.string d) ts s us = After d (string_literal s ∷ []) ts us
Means (goal.expression d) ts e us = (n : ℕ) × Expression d 0 n ts us e
Means (goal.operation d least) ts e us = 0 < least → least ≤ 11 → (n : ℕ) × Expression d least n ts us e
Means (goal.chain d least at level n e) ts f us =
    (start : List Placed) → at ≡ at_of start → least ≤ level → level ≤ 11 → Expression d level n start ts e → (m : ℕ) × Expression d least m start us f
Means (goal.unary d) ts e us = Expression d 11 0 ts us e
Means (goal.post d) ts p us = Expression d 12 p.1 ts us p.0
Means (goal.parts d at n e) ts p us = (start : List Placed) → at ≡ at_of start → Expression d 12 n start ts e → Expression d 12 p.1 start us p.0
Means (goal.part d at e) ts f us = Longer d at e ts f us
Means (goal.member d at e) ts f us = Longer d at e ts f us
Means (goal.substring d at e) ts f us = Longer d at e ts f us
Means (goal.atom d) ts e us = Expression d 12 0 ts us e
Means (goal.literal d) ts e us = Expression d 12 0 ts us e
Means (goal.word_literal d) ts e us = Expression d 12 0 ts us e
Means (goal.dictionary d) ts e us = Expression d 12 0 ts us e
Means (goal.converted d) ts e us = Expression d 12 0 ts us e
Means (goal.enclosed d x) ts e us =
    (m : ℕ) × (vs : List Placed) × Expression (suc d) 0 m ts vs e × (After d (x ∷ []) vs us)
Means (goal.listed d x) ts es us = (vs : List Placed) × Expressions (suc d) ts vs (exprs_of es) × (After d (x ∷ []) vs us)
Means (goal.more d x es) ts fs us =
    (gs : List Expr) × (vs : List Placed) × (fs ≡ es ++ gs) × MoreExpressions (suc d) ts vs (exprs_of gs) × (After d (x ∷ []) vs us)
Means (goal.declaration d) ts p us = Declares d ts p us
Means (goal.statements d ss) ts v us = (tail : List Stmt) × (v ≡ stmts_of (ss ++ tail)) × Statements d ts us (stmts_of tail)
Means (goal.statement d) ts s us = Statement d ts us s
Means (goal.simple d) ts s us = Statement d ts us s
Means (goal.block d) ts ss us = Block d ts us ss
Means (goal.named d) ts s us = Statement d ts us s
Means (goal.effect d) ts s us = Statement d ts us s
Means (goal.effect_of d at n e) ts s us = (start : List Placed) → at ≡ at_of start → Expression d 12 n start ts e → Statement d start us s
Means (goal.store d at n e) ts s us = (start : List Placed) → at ≡ at_of start → Expression d 12 n start ts e → Statement d start us s
Means (goal.remove d) ts s us = Statement d ts us s
Means (goal.returned d) ts s us = Statement d ts us s
Means (goal.jump d) ts s us = Statement d ts us s
Means (goal.target d) ts l us = Target d ts us l
Means (goal.tested d x) ts e us = Tested d x ts e us
Means (goal.branch d) ts s us = Statement d ts us s
Means (goal.otherwise d) ts s us = Otherwise d ts us s
Means (goal.turning d at l) ts s us = (start : List Placed) → at ≡ at_of start → Label d start ts l → Statement d start us s
Means (goal.forever d) ts v us = Turns d ts us
Means (goal.clauses d cs) ts v us = (tail : Cases) × (v ≡ cases_of cs tail) × CaseClauses d ts us tail
Means (goal.clause d) ts c us = OneCase d ts c us
Means (goal.attempt d) ts s us = Statement d ts us s
Means goal.parameters ts xs us = Parameters ts us xs
Means (goal.more_parameters xs) ts v us = (tail : List Name) × (v ≡ xs ++ tail) × MoreParameters ts us tail
Means (goal.items is) ts v us = (tail : List Item) × (v ≡ is ++ tail) × Items ts us tail
Means goal.item ts i us = (is : List Item) (end : List Placed) → Items us end is → Items ts end (i ∷ is)
Means goal.whole ts s us = Whole ts s us

-- whatever the steps end with, it holds
abbrev pub Holds : {g : Goal} → Steps g → (Gives g → List Placed → Type 0) → Type 0
Holds {g = g} (answer r) P = (v : Gives g) (us : List Placed) → r ≡ Ok (v, us) → P v us
Holds (call h us next) P = (v : Gives h) (vs : List Placed) → Means h us v vs → Holds (next v vs) P
Holds (test b p q) P = (b ≡ true → Holds p P) × (b ≡ false → Holds q P)
Holds (on_infix o p q) P = (o ≡ None → Holds p P) × ((i : Infix) → o ≡ Some i → Holds (q i) P)
Holds (on_sign o p q) P = (o ≡ None → Holds p P) × ((op : UnaryOp) → o ≡ Some op → Holds (q op) P)

module _ (sound : (g : Goal) (ts : List Placed) → Holds (steps g ts) (Means g ts)) where
  mutual
    pub read_means : {g : Goal} {ts : List Placed} {v : Gives g} {us : List Placed} (P : Gives g → List Placed → Type 0) → ((w : Gives g) (vs : List Placed) → Means g ts w vs → P w vs) → Reads g ts (Ok (v, us)) → P v us
    read_means {g = g} {ts = ts} {v = v} {us = us} P f (reads e) = f v us (end_holds (λ w vs. Means g ts w vs) e (sound g ts))

    end_holds : {g : Goal} {s : Steps g} {v : Gives g} {us : List Placed} (P : Gives g → List Placed → Type 0) → Ends g s (Ok (v, us)) → Holds s P → P v us
    end_holds {v = v} {us = us} P (answered x) h = h v us x
    end_holds P (called {h = k} {us = us} {vs = ws} {v = w} r e) h = end_holds P e (h w ws (read_means (λ x ys. Means k us x ys) (λ x ys m. m) r))
    end_holds P (held q e) h = end_holds P e (h.0 q)
    end_holds P (failed q e) h = end_holds P e (h.1 q)
    end_holds P (no_infix q e) h = end_holds P e (h.0 q)
    end_holds P (an_infix {i = i} q e) h = end_holds P e (h.1 i q)
    end_holds P (no_sign q e) h = end_holds P e (h.0 q)
    end_holds P (a_sign {op = op} q e) h = end_holds P e (h.1 op q)

-- steps that end here hold what is meant
pub give : (g : Goal) (ts : List Placed) (v : Gives g) (us : List Placed) → Means g ts v us → Holds {g = g} (answer (Ok (v, us))) (Means g ts)
give g ts v us m w vs q = subst (λ z. Means g ts z.0 z.1) (ok_is (v, us) (w, vs) q) m
