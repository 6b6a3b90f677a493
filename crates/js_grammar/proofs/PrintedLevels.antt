-- How tightly a printed expression binds, how many operators or parts its chain has, and how deep its first token is nested.
use Rattle.std.proofs.Common.{arith, ◌≡◌, sym, subst, ap, ℕ, zero, suc, ◌+◌, ◌≤◌, ◌<◌, List, Bool, true, false, refl, eq-eqb, ⊎_elim}
use Rattle.std.specs.Prelude.{◌&&◌, nat_lt, if◌then◌else◌}
use Rattle.std.specs.List.{list_all}
use Rattle.std.proofs.lemmas.Bool.{cases_lt, ne_eqb}
use Rattle.js_tree.specs.Lexical.{Placed}
use Rattle.js_tree.specs.Script.{Expr, number, string, boolean, null, name, unary, binary, both, either, choice, call, index, length_of, pop, char_code_at, substring, array, dictionary, decimal_of, from_char_code}
use Rattle.js_tree.specs.Printed.{op_level, level, is_number, dot_level}
use Rattle.js_tree.specs.Printable.{is_name, is_in_range, is_byte, fits, depth_within, operators, parts, expr_fits, exprs_fit}
use Rattle.js_tree.specs.Scripts as rule
use Rattle.js_tree.specs.Scripts.{Expression}
use Rattle.js_tree.specs.declared.tree.BinaryOp.{BinaryOp}
use Rattle.js_grammar.specs.declared.token.Infix.TheVariants as join
use Rattle.js_grammar.proofs.Heads.{level_bound}
use Rattle.js_grammar.proofs.Words.{both_true}
use Rattle.js_grammar.proofs.PrintedTokens.{fits_less}

-- how many operators or parts stand in the chain that an expression is
abbrev pub count : Expr → ℕ
count (binary at op a b) = suc (operators (op_level op) a)
count (both at a b) = suc (operators 2 a)
count (either at a b) = suc (operators 1 a)
count (call at f es) = suc (parts f)
count (index at e i) = suc (parts e)
count (length_of at e) = suc (parts e)
count (pop at e) = suc (parts e)
count (char_code_at at e i) = suc (parts e)
count (substring at e i j) = suc (parts e)
count _ = 0

-- whether a dot may follow the text of an expression
abbrev pub dotted : Expr → Bool
dotted (number at n) = false
dotted (unary at op e) = false
dotted (binary at op a b) = false
dotted (both at a b) = false
dotted (either at a b) = false
dotted (choice at t a b) = false
dotted _ = true

pub op_bound : (op : BinaryOp) → (0 < op_level op) × (op_level op ≤ 10)
op_bound op = level_bound (join.Op op)

pub level_under : (e : Expr) → level e ≤ 12
level_under (binary at op a b) = let h = op_bound op in omega (arith, h)
level_under e = omega arith

-- an expression of another level has no operators of this one
pub none_other : (e : Expr) (k : ℕ) → (level e ≡ k → ⊥) → operators k e ≡ 0
none_other (binary at op a b) k h = ap (λ z. if z then suc (operators k a) else 0) (ne_eqb (op_level op) k h)
none_other (both at a b) k h = ap (λ z. if z then suc (operators k a) else 0) (ne_eqb k 2 (λ e. h (sym e)))
none_other (either at a b) k h = ap (λ z. if z then suc (operators k a) else 0) (ne_eqb k 1 (λ e. h (sym e)))
none_other e k h = refl

twelve_none : {X : Type 0} (k : ℕ) → 12 ≡ k → k ≤ 10 → X
twelve_none k q le = absurd (omega (arith, q, le))

-- one of this level has as many as its chain
pub count_chain : (e : Expr) (k : ℕ) → level e ≡ k → 0 < k → k ≤ 10 → count e ≡ operators k e
count_chain (binary at op a b) k q some le =
    subst (λ z. suc (operators (op_level op) a) ≡ operators z (binary at op a b)) q (sym (ap (λ z. if z then suc (operators (op_level op) a) else 0) (eq-eqb (op_level op) (op_level op) refl)))
count_chain (both at a b) k q some le = subst (λ z. suc (operators 2 a) ≡ operators z (both at a b)) q refl
count_chain (either at a b) k q some le = subst (λ z. suc (operators 1 a) ≡ operators z (either at a b)) q refl
count_chain (choice at t a b) k q some le = absurd (omega (arith, q, some))
count_chain (unary at op e) k q some le = absurd (omega (arith, q, le))
count_chain e k q some le = twelve_none k q le

-- one that nothing can come between has as many as its parts
pub count_parts : (e : Expr) → level e ≡ 12 → count e ≡ parts e
count_parts (binary at op a b) q = let h = op_bound op in absurd (omega (arith, q, h))
count_parts (both at a b) q = absurd (omega (arith, q))
count_parts (either at a b) q = absurd (omega (arith, q))
count_parts e q = refl

under_none : {X : Type 0} → 12 < 12 → X
under_none lt = absurd (omega (arith, lt))

-- one that stands in parentheses there has no parts, and neither has a number
pub no_parts : (e : Expr) → level e < 12 → parts e ≡ 0
no_parts (call at f es) lt = under_none lt
no_parts (index at e i) lt = under_none lt
no_parts (length_of at e) lt = under_none lt
no_parts (pop at e) lt = under_none lt
no_parts (char_code_at at e i) lt = under_none lt
no_parts (substring at e i j) lt = under_none lt
no_parts e lt = refl

pub differs : {X : Type 0} (b : Bool) → b ≡ true → b ≡ false → X
differs b p q = absurd (cc)

-- before a dot stands a number in parentheses, or what a dot may follow
pub number_level : (e : Expr) → is_number e ≡ true → (level e ≡ 12) × (parts e ≡ 0)
number_level (number at n) q = (refl, refl)
number_level e q = differs false q refl

pub dotted_there : (e : Expr) → is_number e ≡ false → 12 ≤ level e → dotted e ≡ true
dotted_there (number at n) q le = differs true refl q
dotted_there (unary at op e) q le = absurd (omega (arith, le))
dotted_there (binary at op a b) q le = let h = op_bound op in absurd (omega (arith, le, h))
dotted_there (both at a b) q le = absurd (omega (arith, le))
dotted_there (either at a b) q le = absurd (omega (arith, le))
dotted_there (choice at t a b) q le = absurd (omega (arith, le))
dotted_there e q le = refl

-- an expression that binds tightly stands where a looser one may
pub lower : (j k : ℕ) {d n : ℕ} {ts rest : List Placed} {e : Expr} → k < j → j ≤ 12 → Expression d j n ts rest e → Expression d k 0 ts rest e
lower zero k lt le x = absurd (omega (arith, lt))
lower (suc j) k {d = d} {ts = ts} {rest = rest} {e = e} lt le x =
    ⊎_elim
    (λ under. lower j k under (omega (arith, le)) (rule.looser (omega (arith, le)) x))
    (λ over. let q : j ≡ k = omega (arith, over, lt) in subst (λ z. Expression d z 0 ts rest e) q (rule.looser (omega (arith, le)) x))
    (cases_lt k j)

if_deeper : (b : Bool) (d : ℕ) → d ≤ (if b then suc d else d)
if_deeper true d = omega arith
if_deeper false d = omega arith

pub within_deep : (k d : ℕ) (e : Expr) → ((c : ℕ) → expr_fits c e ≡ true → fits c ≡ true) → expr_fits (depth_within k d e) e ≡ true → fits d ≡ true
within_deep k d e f q = fits_less d (depth_within k d e) (if_deeper (nat_lt (level e) k) d) (f (depth_within k d e) q)

pub step_deep : (d : ℕ) → fits (suc d) ≡ true → fits d ≡ true
step_deep d q = fits_less d (suc d) (omega arith) q

-- where an expression fits, its first token does
pub deep : (e : Expr) (d : ℕ) → expr_fits d e ≡ true → fits d ≡ true
deep (number at n) d q = (both_true (fits d) (is_in_range n) q).0
deep (string at s) d q = (both_true (fits d) (list_all is_byte s) q).0
deep (boolean at b) d q = q
deep (null at) d q = q
deep (name at x) d q = (both_true (fits d) (is_name x) q).0
deep (unary at op e) d q = step_deep d (within_deep 11 (suc d) e (deep e) q)
deep (binary at op a b) d q = within_deep (op_level op) d a (deep a) (both_true (expr_fits (depth_within (op_level op) d a) a) _ q).0
deep (both at a b) d q = within_deep 2 d a (deep a) (both_true (expr_fits (depth_within 2 d a) a) _ q).0
deep (either at a b) d q = within_deep 1 d a (deep a) (both_true (expr_fits (depth_within 1 d a) a) _ q).0
deep (choice at t a b) d q = step_deep d (deep b (suc d) (both_true (expr_fits (depth_within 1 d t) t && expr_fits (suc d) a) (expr_fits (suc d) b) q).1)
deep (call at f es) d q = within_deep 12 d f (deep f) (both_true (expr_fits (depth_within 12 d f) f) (fits (d + parts f)) (both_true (expr_fits (depth_within 12 d f) f && fits (d + parts f)) (exprs_fit (suc (d + parts f)) es) q).0).0
deep (index at e i) d q = within_deep 12 d e (deep e) (both_true (expr_fits (depth_within 12 d e) e) _ q).0
deep (length_of at e) d q = within_deep (dot_level e) d e (deep e) (both_true (expr_fits (depth_within (dot_level e) d e) e) _ q).0
deep (pop at e) d q = within_deep (dot_level e) d e (deep e) (both_true (expr_fits (depth_within (dot_level e) d e) e) _ q).0
deep (char_code_at at e i) d q = within_deep (dot_level e) d e (deep e) (both_true (expr_fits (depth_within (dot_level e) d e) e) _ q).0
deep (substring at e i j) d q = within_deep (dot_level e) d e (deep e) (both_true (expr_fits (depth_within (dot_level e) d e) e) (expr_fits (suc (d + parts e)) i) (both_true (expr_fits (depth_within (dot_level e) d e) e && expr_fits (suc (d + parts e)) i) (expr_fits (suc (d + parts e)) j) q).0).0
deep (array at es) d q = (both_true (fits d) (exprs_fit (suc d) es) q).0
deep (dictionary at) d q = step_deep d q
deep (decimal_of at e) d q = step_deep d (deep e (suc d) q)
deep (from_char_code at e) d q = step_deep d (deep e (suc d) q)
