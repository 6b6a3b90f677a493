-- Expressions where one of a level may stand: in parentheses, or as they are.
use Rattle.std.proofs.Common.{arith, ◌≡◌, ◌∙◌, sym, subst, ap, ℕ, suc, ◌+◌, ◌≤◌, ◌<◌, List, [], ◌∷◌, ◌++◌, Bool, true, false, refl, append_assoc, ⊎_elim}
use Rattle.std.specs.Prelude.{nat_lt, codes, if◌then◌else◌}
use Rattle.std.proofs.lemmas.Bool.{cases_lt, ltb-true, ltb-false}
use Rattle.js_tree.specs.Lexical.{Placed}
use Rattle.js_tree.specs.Script.{Expr}
use Rattle.js_tree.specs.Printed.{level, is_number, dot_level, in_parentheses, within, before_dot, expr_text}
use Rattle.js_tree.specs.Printable.{fits, depth_within, operators, parts, expr_fits}
use Rattle.js_tree.specs.Scripts as rule
use Rattle.js_tree.specs.Scripts.{sign}
use Rattle.js_grammar.proofs.Splitting.{put}
use Rattle.js_grammar.proofs.PrintedTokens.{stops_more, first, past_one, Out, Shown}
use Rattle.js_grammar.proofs.PrintedLevels.{count, dotted, level_under, none_other, count_chain, count_parts, no_parts, number_level, dotted_there, lower, step_deep, deep}

-- the same expression before what its text is equal to
pub retext : {d k n at : ℕ} {x y : List ℕ} {rest : List Placed} {e : Expr} → x ≡ y → Out d k n at y rest e → Out d k n at x rest e
retext {d = d} {k = k} {n = n} {at = at} {rest = rest} {e = e} q o = subst (λ z. Out d k n at z rest e) (sym q) o

-- a dot need not be allowed
pub strict : {d k n at : ℕ} {w : List ℕ} {e : Expr} (dot : Bool) → Shown dot d k n at w e → Shown false d k n at w e
strict dot s = record { last = s.last; before = λ r rest q sp. s.before r rest (stops_more dot r q) sp }

-- an expression in parentheses
pub wrap : (dot : Bool) (d n at : ℕ) (w : List ℕ) (e : Expr) → fits d ≡ true → Shown false (suc d) 0 n (at + 1) w e → Shown dot d 12 0 at (in_parentheses w) e
wrap dot d n at w e f s = record {
  last = s.last + 1;
  before = λ r rest q sp.
      let close = first (sign (codes ")")) s.last r rest refl refl sp in
      let o = s.before (41 ∷ r) (put (sign (codes ")")) s.last ∷ rest) refl (close true) in
      let open_one = first (sign (codes "(")) at (w ++ (41 ∷ r)) o.tokens refl refl (o.splits true) in
      retext (ap (λ z. 40 ∷ z) (append_assoc w (41 ∷ []) r)) (record {
        tokens = put (sign (codes "(")) at ∷ o.tokens;
        tree = o.tree;
        splits = open_one;
        derives = rule.parentheses (past_one d (sign (codes "(")) at o.tokens f) o.derives (past_one d (sign (codes ")")) s.last rest f);
        same = o.same;
      });
}

-- one that binds tightly stands where a looser one may
pub loosen : (dot : Bool) (d j k n at : ℕ) (w : List ℕ) (e : Expr) → k < j → j ≤ 12 → Shown dot d j n at w e → Shown dot d k 0 at w e
loosen dot d j k n at w e lt le s = record {
  last = s.last;
  before = λ r rest q sp.
      let o = s.before r rest q sp in
      record { tokens = o.tokens; tree = o.tree; splits = o.splits; derives = lower j k lt le o.derives; same = o.same };
}

-- an expression is printed so where one of a level may stand
pub record Within (dot : Bool) (d k at : ℕ) (text : List ℕ) (e : Expr) : Type 0 where
  pub n : ℕ
  pub chain : 0 < k → k ≤ 10 → n ≡ operators k e
  pub parts : k ≡ 12 → n ≡ parts e
  pub shown : Shown dot d k n at text e

-- an expression is printed so at whatever depth it fits
abbrev pub Shows : Expr → Type 0
Shows e = (c b : ℕ) → expr_fits c e ≡ true → Shown (dotted e) c (level e) (count e) b (expr_text e) e

-- an expression by itself
pub record Alone (d at : ℕ) (e : Expr) : Type 0 where
  pub n : ℕ
  pub shown : Shown false d 0 n at (expr_text e) e

pub alone : (e : Expr) (d at : ℕ) → Shows e → expr_fits d e ≡ true → Alone d at e
alone e d at s q =
    ⊎_elim
    (λ some. record { n = 0; shown = strict (dotted e) (loosen (dotted e) d (level e) 0 (count e) at (expr_text e) e some (level_under e) (s d at q)) })
    (λ none.
    let z : level e ≡ 0 = omega (arith, none) in
    record { n = count e; shown = strict (dotted e) (subst (λ k. Shown (dotted e) d k (count e) at (expr_text e) e) z (s d at q)) })
    (cases_lt 0 (level e))

-- in parentheses, where one of level k may stand
wrapped : (dot : Bool) (d k at : ℕ) (e : Expr) → k ≤ 12 → level e < k → Shows e → expr_fits (suc d) e ≡ true → Within dot d k at (in_parentheses (expr_text e)) e
wrapped dot d k at e le lt s q =
    let a = alone e (suc d) (at + 1) s q in
    let w : Shown dot d 12 0 at (in_parentheses (expr_text e)) e = wrap dot d a.n at (expr_text e) e (step_deep d (deep e (suc d) q)) a.shown in
    ⊎_elim
    (λ (under : k < 12). record {
      n = 0;
      chain = λ some ten. sym (none_other e k (λ z. omega (arith, z, lt)));
      parts = λ z. sym (no_parts e (omega (arith, z, lt)));
      shown = loosen dot d 12 k 0 at (in_parentheses (expr_text e)) e under (omega arith) w;
    })
    (λ (over : 12 ≤ k).
    let z : 12 ≡ k = omega (arith, over, le) in
    record {
      n = 0;
      chain = λ some ten. absurd (omega (arith, z, ten));
      parts = λ p. sym (no_parts e (omega (arith, p, lt)));
      shown = subst (λ j. Shown dot d j 0 at (in_parentheses (expr_text e)) e) z w;
    })
    (cases_lt k 12)

-- as it is, where one of level k may stand
bare : (d k at : ℕ) (e : Expr) → k ≤ level e → Shows e → expr_fits d e ≡ true → Within (dotted e) d k at (expr_text e) e
bare d k at e ge s q =
    let h = level_under e in
    ⊎_elim
    (λ (under : k < level e). record {
      n = 0;
      chain = λ some ten. sym (none_other e k (λ z. omega (arith, z, under)));
      parts = λ z. absurd (omega (arith, z, under, h));
      shown = loosen (dotted e) d (level e) k (count e) at (expr_text e) e under h (s d at q);
    })
    (λ (over : level e ≤ k).
    let z : level e ≡ k = omega (arith, over, ge) in
    record {
      n = count e;
      chain = λ some ten. count_chain e k z some ten;
      parts = λ p. count_parts e (z ∙ p);
      shown = subst (λ j. Shown (dotted e) d j (count e) at (expr_text e) e) z (s d at q);
    })
    (cases_lt k (level e))

strict_within : {d k at : ℕ} {w : List ℕ} {e : Expr} (dot : Bool) → Within dot d k at w e → Within false d k at w e
strict_within dot h = record { n = h.n; chain = h.chain; parts = h.parts; shown = strict dot h.shown }

within_by : (b : Bool) (d k at : ℕ) (e : Expr) → k ≤ 12 → nat_lt (level e) k ≡ b → Shows e → expr_fits (if b then suc d else d) e ≡ true → Within false d k at (if b then in_parentheses (expr_text e) else expr_text e) e
within_by true d k at e le p s q = wrapped false d k at e le (ltb-true (level e) k p) s q
within_by false d k at e le p s q = strict_within (dotted e) (bare d k at e (ltb-false (level e) k p) s q)

-- where one of level k may stand
pub within_shown : (d k at : ℕ) (e : Expr) → k ≤ 12 → Shows e → expr_fits (depth_within k d e) e ≡ true → Within false d k at (within k e (expr_text e)) e
within_shown d k at e le s q = within_by (nat_lt (level e) k) d k at e le refl s q

-- before a dot
pub record Dotted (d at : ℕ) (text : List ℕ) (e : Expr) : Type 0 where
  pub shown : Shown true d 12 (parts e) at text e

dot_number : (b : Bool) (d at : ℕ) (e : Expr) → is_number e ≡ true → nat_lt (level e) 13 ≡ b → Shows e → expr_fits (if b then suc d else d) e ≡ true → Dotted d at (if b then in_parentheses (expr_text e) else expr_text e) e
dot_number false d at e num p s q = let h = number_level e num in let g = ltb-false (level e) 13 p in absurd (omega (arith, g, h))
dot_number true d at e num p s q =
    let h = number_level e num in
    let a = alone e (suc d) (at + 1) s q in
    let w : Shown true d 12 0 at (in_parentheses (expr_text e)) e = wrap true d a.n at (expr_text e) e (step_deep d (deep e (suc d) q)) a.shown in
    record { shown = subst (λ j. Shown true d 12 j at (in_parentheses (expr_text e)) e) (sym h.1) w }

dot_other : (b : Bool) (d at : ℕ) (e : Expr) → is_number e ≡ false → nat_lt (level e) 12 ≡ b → Shows e → expr_fits (if b then suc d else d) e ≡ true → Dotted d at (if b then in_parentheses (expr_text e) else expr_text e) e
dot_other true d at e num p s q =
    let h = wrapped true d 12 at e (omega arith) (ltb-true (level e) 12 p) s q in
    record { shown = subst (λ j. Shown true d 12 j at (in_parentheses (expr_text e)) e) (h.parts refl) h.shown }
dot_other false d at e num p s q =
    let le = ltb-false (level e) 12 p in
    let h = bare d 12 at e le s q in
    let t : Shown (dotted e) d 12 (parts e) at (expr_text e) e = subst (λ j. Shown (dotted e) d 12 j at (expr_text e) e) (h.parts refl) h.shown in
    record { shown = subst (λ b. Shown b d 12 (parts e) at (expr_text e) e) (dotted_there e num le) t }

dot_by : (b : Bool) (d at : ℕ) (e : Expr) → is_number e ≡ b → Shows e → expr_fits (depth_within (if b then 13 else 12) d e) e ≡ true → Dotted d at (within (if b then 13 else 12) e (expr_text e)) e
dot_by true d at e num s q = dot_number (nat_lt (level e) 13) d at e num refl s q
dot_by false d at e num s q = dot_other (nat_lt (level e) 12) d at e num refl s q

pub dot_shown : (d at : ℕ) (e : Expr) → Shows e → expr_fits (depth_within (dot_level e) d e) e ≡ true → Dotted d at (before_dot e (expr_text e)) e
dot_shown d at e s q = dot_by (is_number e) d at e refl s q
