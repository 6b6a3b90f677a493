-- Printed operators with their operands.
use Rattle.std.proofs.Common.{arith, ◌≡◌, ◌∙◌, sym, subst, ap, ap₂, ℕ, suc, ◌+◌, List, [], ◌∷◌, ◌++◌, length, Some, Bool, true, false, refl, append_assoc}
use Rattle.std.specs.Prelude.{◌==◌, not, codes, if◌then◌else◌}
use Rattle.js_tree.specs.Lexical.{Token, Placed, Splits, is_token, ends, spelling, is_restricted}
use Rattle.js_tree.specs.Script as tree
use Rattle.js_tree.specs.Script.{Expr}
use Rattle.js_tree.specs.Erase.{erase_expr}
use Rattle.js_tree.specs.Printed.{op_level, op_text, negates, sign_text}
use Rattle.js_tree.specs.Printable.{fits}
use Rattle.js_tree.specs.Scripts as rule
use Rattle.js_tree.specs.Scripts.{after, at_of, word, sign, op_token, sign_token, Expression}
use Rattle.js_tree.specs.declared.tree.UnaryOp.{UnaryOp}
use Rattle.js_tree.specs.declared.tree.UnaryOp.TheVariants as one
use Rattle.js_tree.specs.declared.tree.BinaryOp.{BinaryOp}
use Rattle.js_tree.specs.declared.tree.BinaryOp.TheVariants as two
use Rattle.js_grammar.proofs.Splitting.{put}
use Rattle.js_grammar.proofs.PrintedTokens.{first, spaced, past_one, Shown}
use Rattle.js_grammar.proofs.PrintedHeads.{LeadWithin}
use Rattle.js_grammar.proofs.PrintedWithin.{retext}
use Rattle.js_grammar.proofs.PrintedAtoms.{five}

-- a token that may stand between two spaces
pub record Between (t : Token) : Type 0 where
  pub token : is_token t ≡ true
  pub free : is_restricted t ≡ false
  pub ends_there : (r : List ℕ) → ends t (32 ∷ r) ≡ true

-- a token between two spaces, before what is split
pub between : (t : Token) (at : ℕ) (r : List ℕ) (ts : List Placed) → Between t → ((newlines : Bool) → Splits newlines (at + 1 + length (spelling t) + 1) r ts) → Splits true at (32 ∷ (spelling t ++ (32 ∷ r))) (put t (at + 1) ∷ ts)
between t at r ts b s =
    let gap : Splits true (at + 1 + length (spelling t)) (32 ∷ r) ts = spaced (at + 1 + length (spelling t)) r ts s true in
    let there = first t (at + 1) (32 ∷ r) ts b.token (b.ends_there r) (subst (λ z. Splits (not z) (at + 1 + length (spelling t)) (32 ∷ r) ts) (sym b.free) gap) in
    spaced at (spelling t ++ (32 ∷ r)) (put t (at + 1) ∷ ts) there true

op_between : (op : BinaryOp) → Between (op_token op)
op_between two.Add = record { token = refl; free = refl; ends_there = λ r. refl }
op_between two.Subtract = record { token = refl; free = refl; ends_there = λ r. refl }
op_between two.Multiply = record { token = refl; free = refl; ends_there = λ r. refl }
op_between two.Divide = record { token = refl; free = refl; ends_there = λ r. refl }
op_between two.Remainder = record { token = refl; free = refl; ends_there = λ r. refl }
op_between two.BitOr = record { token = refl; free = refl; ends_there = λ r. refl }
op_between two.BitAnd = record { token = refl; free = refl; ends_there = λ r. refl }
op_between two.BitXor = record { token = refl; free = refl; ends_there = λ r. refl }
op_between two.ShiftLeft = record { token = refl; free = refl; ends_there = λ r. refl }
op_between two.ShiftRight = record { token = refl; free = refl; ends_there = λ r. refl }
op_between two.ShiftRightUnsigned = record { token = refl; free = refl; ends_there = λ r. refl }
op_between two.Less = record { token = refl; free = refl; ends_there = λ r. refl }
op_between two.LessEqual = record { token = refl; free = refl; ends_there = λ r. refl }
op_between two.Greater = record { token = refl; free = refl; ends_there = λ r. refl }
op_between two.GreaterEqual = record { token = refl; free = refl; ends_there = λ r. refl }
op_between two.Same = record { token = refl; free = refl; ends_there = λ r. refl }
op_between two.Different = record { token = refl; free = refl; ends_there = λ r. refl }
op_between two.In = record { token = refl; free = refl; ends_there = λ r. refl }

op_spelled : (op : BinaryOp) → op_text op ≡ 32 ∷ (spelling (op_token op) ++ 32 ∷ [])
op_spelled two.Add = refl
op_spelled two.Subtract = refl
op_spelled two.Multiply = refl
op_spelled two.Divide = refl
op_spelled two.Remainder = refl
op_spelled two.BitOr = refl
op_spelled two.BitAnd = refl
op_spelled two.BitXor = refl
op_spelled two.ShiftLeft = refl
op_spelled two.ShiftRight = refl
op_spelled two.ShiftRightUnsigned = refl
op_spelled two.Less = refl
op_spelled two.LessEqual = refl
op_spelled two.Greater = refl
op_spelled two.GreaterEqual = refl
op_spelled two.Same = refl
op_spelled two.Different = refl
op_spelled two.In = refl

-- what joins two operands: its rule, and the tree that it makes
pub record Joins (t : Token) (k : ℕ) (made : ℕ → Expr → Expr → Expr) : Type 0 where
  pub there : Between t
  pub derives : {d n m : ℕ} {ts us vs rest : List Placed} {a b : Expr} → Expression d k n ts us a → after (d + n) (t ∷ []) us ≡ Some vs → Expression (suc (d + n)) (suc k) m vs rest b → Expression d k (suc n) ts rest (made (at_of ts) a b)
  pub same : (p q : ℕ) (a b u v : Expr) → erase_expr a ≡ erase_expr u → erase_expr b ≡ erase_expr v → erase_expr (made p a b) ≡ erase_expr (made q u v)

shifted : (w t v r : List ℕ) → ((w ++ (32 ∷ (t ++ 32 ∷ []))) ++ v) ++ r ≡ w ++ (32 ∷ (t ++ (32 ∷ (v ++ r))))
shifted w t v r = simp append_assoc

-- two operands with an operator between
joined : (t : Token) (k : ℕ) (made : ℕ → Expr → Expr → Expr) (d n m at p : ℕ) (w v : List ℕ) (a b : Expr) → Joins t k made → fits (d + n) ≡ true → (x : Shown false d k n at w a) → Shown false (suc (d + n)) (suc k) m (x.last + 1 + length (spelling t) + 1) v b
    → Shown false d k (suc n) at (w ++ (32 ∷ (spelling t ++ 32 ∷ [])) ++ v) (made p a b)
joined t k made d n m at p w v a b j f x y = record {
  last = y.last;
  before = λ r rest q sp.
      let o2 = y.before r rest q sp in
      let s = between t x.last (v ++ r) o2.tokens j.there o2.splits in
      let o1 = x.before (32 ∷ (spelling t ++ (32 ∷ (v ++ r)))) (put t (x.last + 1) ∷ o2.tokens) refl s in
      retext (shifted w (spelling t) v r) (record {
        tokens = o1.tokens;
        tree = made (at_of o1.tokens) o1.tree o2.tree;
        splits = o1.splits;
        derives = j.derives o1.derives (past_one (d + n) t (x.last + 1) o2.tokens f) o2.derives;
        same = j.same (at_of o1.tokens) p o1.tree o2.tree a b o1.same o2.same;
      });
}

pub binary_shown : (op : BinaryOp) (d n m at p : ℕ) (w v : List ℕ) (a b : Expr) → fits (d + n) ≡ true → (x : Shown false d (op_level op) n at w a) → Shown false (suc (d + n)) (suc (op_level op)) m (x.last + 1 + length (spelling (op_token op)) + 1) v b
    → Shown false d (op_level op) (suc n) at (w ++ op_text op ++ v) (tree.binary p op a b)
binary_shown op d n m at p w v a b f x y =
    subst (λ z. Shown false d (op_level op) (suc n) at (w ++ z ++ v) (tree.binary p op a b)) (sym (op_spelled op))
    (joined (op_token op) (op_level op) (λ q u t. tree.binary q op u t) d n m at p w v a b
    (record { there = op_between op; derives = λ h g k. rule.binary h g k; same = λ q s a b u t e g. ap₂ (λ y z. tree.binary 0 op y z) e g }) f x y)

pub both_shown : (d n m at p : ℕ) (w v : List ℕ) (a b : Expr) → fits (d + n) ≡ true → (x : Shown false d 2 n at w a) → Shown false (suc (d + n)) 3 m (x.last + 1 + 2 + 1) v b
    → Shown false d 2 (suc n) at (w ++ codes " && " ++ v) (tree.both p a b)
both_shown d n m at p w v a b f x y =
    joined (sign (codes "&&")) 2 (λ q u t. tree.both q u t) d n m at p w v a b
    (record { there = record { token = refl; free = refl; ends_there = λ r. refl }; derives = λ h g k. rule.both h g k; same = λ q s a b u t e g. ap₂ (λ y z. tree.both 0 y z) e g }) f x y

pub either_shown : (d n m at p : ℕ) (w v : List ℕ) (a b : Expr) → fits (d + n) ≡ true → (x : Shown false d 1 n at w a) → Shown false (suc (d + n)) 2 m (x.last + 1 + 2 + 1) v b
    → Shown false d 1 (suc n) at (w ++ codes " || " ++ v) (tree.either p a b)
either_shown d n m at p w v a b f x y =
    joined (sign (codes "||")) 1 (λ q u t. tree.either q u t) d n m at p w v a b
    (record { there = record { token = refl; free = refl; ends_there = λ r. refl }; derives = λ h g k. rule.either h g k; same = λ q s a b u t e g. ap₂ (λ y z. tree.either 0 y z) e g }) f x y

three_same : (a b c u v w : Expr) → erase_expr a ≡ erase_expr u → erase_expr b ≡ erase_expr v → erase_expr c ≡ erase_expr w → tree.choice 0 (erase_expr a) (erase_expr b) (erase_expr c) ≡ tree.choice 0 (erase_expr u) (erase_expr v) (erase_expr w)
three_same a b c u v w p q r = cc

pub choice_shown : (d n m l at p : ℕ) (w v u : List ℕ) (t a b : Expr) → fits (suc d) ≡ true → fits d ≡ true → (x : Shown false d 1 n at w t) → (y : Shown false (suc d) 0 m (x.last + 1 + 1 + 1) v a) → Shown false (suc d) 0 l (y.last + 1 + 1 + 1) u b
    → Shown false d 0 0 at (w ++ codes " ? " ++ v ++ codes " : " ++ u) (tree.choice p t a b)
choice_shown d n m l at p w v u t a b g f x y z = record {
  last = z.last;
  before = λ r rest q sp.
      let mark : Between (sign (codes "?")) = record { token = refl; free = refl; ends_there = λ k. refl } in
      let colon : Between (sign (codes ":")) = record { token = refl; free = refl; ends_there = λ k. refl } in
      let o3 = z.before r rest q sp in
      let s2 = between (sign (codes ":")) y.last (u ++ r) o3.tokens colon o3.splits in
      let o2 = y.before (codes " : " ++ (u ++ r)) (put (sign (codes ":")) (y.last + 1) ∷ o3.tokens) refl s2 in
      let s1 = between (sign (codes "?")) x.last (v ++ (codes " : " ++ (u ++ r))) o2.tokens mark o2.splits in
      let o1 = x.before (codes " ? " ++ (v ++ (codes " : " ++ (u ++ r)))) (put (sign (codes "?")) (x.last + 1) ∷ o2.tokens) refl s1 in
      retext (five w (codes " ? ") v (codes " : ") u r) (record {
        tokens = o1.tokens;
        tree = tree.choice (at_of o1.tokens) o1.tree o2.tree o3.tree;
        splits = o1.splits;
        derives = rule.choice o1.derives (past_one d (sign (codes "?")) (x.last + 1) o2.tokens f) o2.derives (past_one (suc d) (sign (codes ":")) (y.last + 1) o3.tokens g) o3.derives;
        same = three_same o1.tree o2.tree o3.tree t a b o1.same o2.same o3.same;
      });
}

minus_ends : (c : ℕ) (cs : List ℕ) → (45 == c) ≡ false → (61 == c) ≡ false → ends (sign (codes "-")) (c ∷ cs) ≡ true
minus_ends c cs p q = rw (p, q) refl

not_ends : (c : ℕ) (cs : List ℕ) → (61 == c) ≡ false → ends (sign (codes "!")) (c ∷ cs) ≡ true
not_ends c cs q = rw q refl

-- where the operand of a sign begins
abbrev pub operand_at : UnaryOp → Expr → ℕ → ℕ
operand_at one.Negate e at = if negates e then at + 1 + 1 else at + 1
operand_at one.Complement e at = at + 1
operand_at one.Not e at = at + 1

negate_by : (b : Bool) (d n at p : ℕ) (w : List ℕ) (e : Expr) → negates e ≡ b → fits d ≡ true → LeadWithin 11 w e → Shown false (suc d) 11 n (if b then at + 1 + 1 else at + 1) w e
    → Shown false d 11 0 at ((if b then codes "- " else codes "-") ++ w) (tree.unary p one.Negate e)
negate_by true d n at p w e k f h x = record {
  last = x.last;
  before = λ r rest q sp.
      let o = x.before r rest q sp in
      let gap = spaced (at + 1) (w ++ r) o.tokens o.splits true in
      record {
        tokens = put (sign (codes "-")) at ∷ o.tokens;
        tree = tree.unary at one.Negate o.tree;
        splits = first (sign (codes "-")) at (32 ∷ (w ++ r)) o.tokens refl refl gap;
        derives = rule.unary (past_one d (sign_token one.Negate) at o.tokens f) o.derives;
        same = ap (λ z. tree.unary 0 one.Negate z) o.same;
      };
}
negate_by false d n at p w e k f h x = record {
  last = x.last;
  before = λ r rest q sp.
      let o = x.before r rest q sp in
      let stop : ends (sign (codes "-")) (w ++ r) ≡ true = ap (λ z. ends (sign (codes "-")) (z ++ r)) h.is ∙ minus_ends h.c (h.cs ++ r) (h.minus (omega arith) k) h.equals in
      record {
        tokens = put (sign (codes "-")) at ∷ o.tokens;
        tree = tree.unary at one.Negate o.tree;
        splits = first (sign (codes "-")) at (w ++ r) o.tokens refl stop (o.splits true);
        derives = rule.unary (past_one d (sign_token one.Negate) at o.tokens f) o.derives;
        same = ap (λ z. tree.unary 0 one.Negate z) o.same;
      };
}

pub unary_shown : (op : UnaryOp) (d n at p : ℕ) (w : List ℕ) (e : Expr) → fits d ≡ true → LeadWithin 11 w e → Shown false (suc d) 11 n (operand_at op e at) w e
    → Shown false d 11 0 at (sign_text op e ++ w) (tree.unary p op e)
unary_shown one.Negate d n at p w e f h x = negate_by (negates e) d n at p w e refl f h x
unary_shown one.Complement d n at p w e f h x = record {
  last = x.last;
  before = λ r rest q sp.
      let o = x.before r rest q sp in
      record {
        tokens = put (sign (codes "~")) at ∷ o.tokens;
        tree = tree.unary at one.Complement o.tree;
        splits = first (sign (codes "~")) at (w ++ r) o.tokens refl refl (o.splits true);
        derives = rule.unary (past_one d (sign_token one.Complement) at o.tokens f) o.derives;
        same = ap (λ z. tree.unary 0 one.Complement z) o.same;
      };
}
unary_shown one.Not d n at p w e f h x = record {
  last = x.last;
  before = λ r rest q sp.
      let o = x.before r rest q sp in
      let stop : ends (sign (codes "!")) (w ++ r) ≡ true = ap (λ z. ends (sign (codes "!")) (z ++ r)) h.is ∙ not_ends h.c (h.cs ++ r) h.equals in
      record {
        tokens = put (sign (codes "!")) at ∷ o.tokens;
        tree = tree.unary at one.Not o.tree;
        splits = first (sign (codes "!")) at (w ++ r) o.tokens refl stop (o.splits true);
        derives = rule.unary (past_one d (sign_token one.Not) at o.tokens f) o.derives;
        same = ap (λ z. tree.unary 0 one.Not z) o.same;
      };
}
