-- What is read as an expression is one: each goal's steps hold what it means.
use Rattle.std.proofs.Common.{arith, ◌≡◌, ◌∙◌, sym, subst, ap, ℕ, zero, suc, ◌+◌, ◌-◌, ◌≤◌, ◌<◌, List, [], ◌∷◌, Some, Bool, true, false, if◌then◌else◌, refl, append_assoc, append-nil}
use Rattle.std.specs.Prelude.{◌==◌}
use Rattle.std.proofs.lemmas.Bool.{eqb-true, eqb-false}
use Rattle.js_tree.specs.Lexical.{Token, Placed}
use Rattle.js_tree.specs.Script as tree
use Rattle.js_tree.specs.Script.{Expr, Exprs, no_exprs, expr}
use Rattle.js_tree.specs.View.{exprs_of}
use Rattle.js_tree.specs.Scripts as rule
use Rattle.js_tree.specs.Scripts.{after, at_of, word, sign, op_token, sign_token, Expression, Expressions, MoreExpressions}
use Rattle.js_grammar.specs.declared.token.Infix.{Infix}
use Rattle.js_grammar.specs.declared.token.Infix.TheVariants as join
use Rattle.js_grammar.specs.Tokens.{infix_level, infix_token, joined}
use Rattle.js_grammar.specs.Goals as goal
use Rattle.js_grammar.specs.Goals.{Goal, Gives}
use Rattle.js_grammar.specs.Steps.{steps, before, skipped}
use Rattle.js_grammar.proofs.Holding.{Means, Holds, give}
use Rattle.js_grammar.proofs.Heads.{infix_there, infix_after, sign_there, and_then_after, level_bound, taken_some, After}

-- one nested deeper, as the program and as the grammar writes it
up : {d k n : ℕ} {ts us : List Placed} {e : Expr} → Expression (d + 1) k n ts us e → Expression (suc d) k n ts us e
up {d = d} {k = k} {n = n} {ts = ts} {us = us} {e = e} h = let q : d + 1 ≡ suc d = omega arith in subst (λ z. Expression z k n ts us e) q h

pub up_after : {d : ℕ} {xs : List Token} {ts us : List Placed} → After (d + 1) xs ts us → After (suc d) xs ts us
up_after {d = d} {xs = xs} {ts = ts} {us = us} h = let q : d + 1 ≡ suc d = omega arith in subst (λ z. After z xs ts us) q h

up_more : {d : ℕ} {ts us : List Placed} {es : Exprs} → MoreExpressions (d + 1) ts us es → MoreExpressions (suc d) ts us es
up_more {d = d} {ts = ts} {us = us} {es = es} h = let q : d + 1 ≡ suc d = omega arith in subst (λ z. MoreExpressions z ts us es) q h

counted : {d k n : ℕ} {ts us : List Placed} {e : Expr} → Expression d k (suc n) ts us e → Expression d k (n + 1) ts us e
counted {d = d} {k = k} {n = n} {ts = ts} {us = us} {e = e} h = let q : suc n ≡ n + 1 = omega arith in subst (λ z. Expression d k z ts us e) q h

-- an expression where one of a looser level may stand
lower : (c k n d : ℕ) (ts us : List Placed) (e : Expr) → k + suc c ≤ 12 → Expression d (k + suc c) n ts us e → Expression d k 0 ts us e
lower zero k n d ts us e le h = let q : k + suc zero ≡ suc k = omega arith in rule.looser (omega arith) (subst (λ z. Expression d z n ts us e) q h)
lower (suc c) k n d ts us e le h =
    let q : k + suc (suc c) ≡ suc k + suc c = omega arith in
    rule.looser (omega arith) (lower c (suc k) n d ts us e (omega arith) (subst (λ z. Expression d z n ts us e) q h))

looser_at : (k j n d : ℕ) (ts us : List Placed) (e : Expr) → k < j → j ≤ 12 → Expression d j n ts us e → Expression d k 0 ts us e
looser_at k j n d ts us e lt le h =
    let q : j ≡ k + suc (j - suc k) = omega arith in
    lower (j - suc k) k n d ts us e (omega arith) (subst (λ z. Expression d z n ts us e) q h)

-- at a level that is no tighter, with the count of its own chain
at_level : (k j n d : ℕ) (ts us : List Placed) (e : Expr) (b : Bool) → (k == j) ≡ b → k ≤ j → j ≤ 12 → Expression d j n ts us e → Expression d k (if b then n else 0) ts us e
at_level k j n d ts us e true q le small h = subst (λ z. Expression d z n ts us e) (sym (eqb-true k j q)) h
at_level k j n d ts us e false q le small h = looser_at k j n d ts us e (let ne = eqb-false k j q in omega (arith, ne)) small h

at_some_level : (k j n d : ℕ) (ts us : List Placed) (e : Expr) (b : Bool) → (k == j) ≡ b → k ≤ j → j ≤ 12 → Expression d j n ts us e → (m : ℕ) × Expression d k m ts us e
at_some_level k j n d ts us e b q le small h = (if b then n else 0, at_level k j n d ts us e b q le small h)

join_rule : (i : Infix) (d n m : ℕ) (ts us vs rest : List Placed) (a b : Expr) → Expression d (infix_level i) n ts us a → after (d + n) (infix_token i ∷ []) us ≡ Some vs → Expression (suc (d + n)) (suc (infix_level i)) m vs rest b → Expression d (infix_level i) (suc n) ts rest (joined i (at_of ts) a b)
join_rule (join.Op op) d n m ts us vs rest a b x q y = rule.binary x q y
join_rule join.And d n m ts us vs rest a b x q y = rule.both x q y
join_rule join.Or d n m ts us vs rest a b x q y = rule.either x q y

pub sound_expression : (d : ℕ) (ts : List Placed) → Holds (steps (goal.expression d) ts) (Means (goal.expression d) ts)
sound_expression d ts t us h =
    let one = h (omega arith) (omega arith) in (
      λ q _ vs a x ws hx _ xs b y rest hy.
          give (goal.expression d) ts (tree.choice (at_of ts) t x y) rest (0, rule.choice one.1 a.is (up hx.1) (up_after b).is (up hy.1)),
      λ q. give (goal.expression d) ts t us (0, rule.looser (omega arith) one.1),
    )

pub sound_operation : (d least : ℕ) (ts : List Placed) → Holds (steps (goal.operation d least) ts) (Means (goal.operation d least) ts)
sound_operation d least ts e us h f vs k = give (goal.operation d least) ts f vs (λ some le. k ts refl le (omega arith) h)

pub sound_chain : (d least at level n : ℕ) (e : Expr) (ts : List Placed) → Holds (steps (goal.chain d least at level n e) ts) (Means (goal.chain d least at level n e) ts)
sound_chain d least at level n e ts = (
  λ none. give (goal.chain d least at level n e) ts e ts (λ start q le small x. at_some_level least level n d start ts e (least == level) refl le (omega arith) x),
  λ i some _ us a b vs hb f ws k.
      let there = infix_there least level i ts some in
      let m = before level n i in
      give (goal.chain d least at level n e) ts f ws (λ start q le small x.
      let l = infix_level i in
      let ten = level_bound i in
      let own = hb (omega arith) (omega (arith, ten.1)) in
      let y : Expression d l m start ts e = at_level l level n d start ts e (l == level) refl there.below (omega arith) x in
      let z : Expression (suc (d + m)) (suc l) own.0 us vs b = let r : l + 1 ≡ suc l = omega arith in subst (λ v. Expression (suc (d + m)) v own.0 us vs b) r (up own.1) in
      let w : Expression d l (m + 1) start vs (joined i at e b) = subst (λ v. Expression d l (m + 1) start vs (joined i v e b)) (sym q) (counted (join_rule i d m own.0 start ts us vs e b y (infix_after (d + m) i ts us there.at_head a).is z)) in
      k start q there.above (omega arith) w),
)

pub sound_unary : (d : ℕ) (ts : List Placed) → Holds (steps (goal.unary d) ts) (Means (goal.unary d) ts)
sound_unary d ts = (
  λ none p us h. give (goal.unary d) ts p.0 us (rule.looser (omega arith) h),
  λ op some _ us a e vs h. give (goal.unary d) ts (tree.unary (at_of ts) op e) vs (rule.unary (sign_there op ts d us some a).is (up h)),
)

pub sound_post : (d : ℕ) (ts : List Placed) → Holds (steps (goal.post d) ts) (Means (goal.post d) ts)
sound_post d ts e us h p vs k = give (goal.post d) ts p vs (k ts refl h)

pub sound_parts : (d at n : ℕ) (e : Expr) (ts : List Placed) → Holds (steps (goal.parts d at n e) ts) (Means (goal.parts d at n e) ts)
sound_parts d at n e ts = (
  λ b f us h p vs k. give (goal.parts d at n e) ts p vs (λ start q x. k start q (h d n start refl q x)),
  λ b. give (goal.parts d at n e) ts (e, n) ts (λ start q x. x),
)

-- what stands at the depth of a part, by the place and the depth of its chain
part_here : (d at c n : ℕ) (start ts us : List Placed) (e : Expr) (f : ℕ → Expr) → d ≡ c + n → at ≡ at_of start → Expression c 12 (suc n) start us (f (at_of start)) → Expression c 12 (n + 1) start us (f at)
part_here d at c n start ts us e f r q h = subst (λ z. Expression c 12 (n + 1) start us (f z)) (sym q) (counted h)

along : {d c : ℕ} {xs : List Token} {ts us : List Placed} → d ≡ c → After d xs ts us → After c xs ts us
along {xs = xs} {ts = ts} {us = us} r h = subst (λ z. After z xs ts us) r h

along_expression : {d c m : ℕ} {ts us : List Placed} {e : Expr} → d ≡ c → Expression (suc d) 0 m ts us e → Expression (suc c) 0 m ts us e
along_expression {m = m} {ts = ts} {us = us} {e = e} r h = subst (λ z. Expression (suc z) 0 m ts us e) r h

along_expressions : {d c : ℕ} {ts us : List Placed} {es : Exprs} → d ≡ c → Expressions (suc d) ts us es → Expressions (suc c) ts us es
along_expressions {ts = ts} {us = us} {es = es} r h = subst (λ z. Expressions (suc z) ts us es) r h

pub sound_part : (d at : ℕ) (e : Expr) (ts : List Placed) → Holds (steps (goal.part d at e) ts) (Means (goal.part d at e) ts)
sound_part d at e ts = (
  λ b _ us a es vs h. give (goal.part d at e) ts (tree.call at e (exprs_of es)) vs (λ c n start r q x.
      part_here d at c n start ts vs e (λ z. tree.call z e (exprs_of es)) r q (rule.call x (along r a).is (along_expressions r h.1) (along r h.2).is)),
  λ b. (
    λ b _ us a i vs h. give (goal.part d at e) ts (tree.index at e i) vs (λ c n start r q x.
        part_here d at c n start ts vs e (λ z. tree.index z e i) r q (rule.index x (along r a).is (along_expression r h.2) (along r h.3).is)),
    λ b f us h. give (goal.part d at e) ts f us h,
  ),
)

pub sound_member : (d at : ℕ) (e : Expr) (ts : List Placed) → Holds (steps (goal.member d at e) ts) (Means (goal.member d at e) ts)
sound_member d at e ts = (
  λ b _ us a _ vs a2. give (goal.member d at e) ts (tree.length_of at e) vs (λ c n start r q x.
      part_here d at c n start ts vs e (λ z. tree.length_of z e) r q (rule.length_of x (along r (and_then_after a a2)).is)),
  λ b. (
    λ b _ us a _ vs a2 _ ws a3 _ xs a4. give (goal.member d at e) ts (tree.pop at e) xs (λ c n start r q x.
        part_here d at c n start ts xs e (λ z. tree.pop z e) r q (rule.pop x (along r (and_then_after a (and_then_after a2 (and_then_after a3 a4)))).is)),
    λ b. (
      λ b _ us a _ vs a2 _ ws a3 i xs h. give (goal.member d at e) ts (tree.char_code_at at e i) xs (λ c n start r q x.
          part_here d at c n start ts xs e (λ z. tree.char_code_at z e i) r q
          (rule.char_code_at x (along r (and_then_after a (and_then_after a2 a3))).is (along_expression r h.2) (along r h.3).is)),
      λ b f us h. give (goal.member d at e) ts f us h,
    ),
  ),
)

pub sound_substring : (d at : ℕ) (e : Expr) (ts : List Placed) → Holds (steps (goal.substring d at e) ts) (Means (goal.substring d at e) ts)
sound_substring d at e ts _ us a _ vs a2 _ ws a3 i xs hi _ ys b j zs hj =
    give (goal.substring d at e) ts (tree.substring at e i j) zs (λ c n start r q x.
    part_here d at c n start ts zs e (λ z. tree.substring z e i j) r q
    (rule.substring x (along r (and_then_after a (and_then_after a2 a3))).is (along_expression r (up hi.1)) (along (ap suc r) (up_after b)).is (along_expression r hj.2) (along r hj.3).is))

pub sound_token : (d : ℕ) (x : Token) (ts : List Placed) → Holds (steps (goal.token d x) ts) (Means (goal.token d x) ts)
sound_token d x ts v us q = record { is = taken_some (after d (x ∷ []) ts) v us q }

pub sound_operator : (d : ℕ) (ts : List Placed) → Holds (steps (goal.operator d) ts) (Means (goal.operator d) ts)
sound_operator d ts v us q = taken_some (skipped d ts) v us q

pub sound_atom : (d : ℕ) (ts : List Placed) → Holds (steps (goal.atom d) ts) (Means (goal.atom d) ts)
sound_atom d ts = (
  λ b _ us a e vs h. give (goal.atom d) ts e vs (rule.parentheses a.is h.2 h.3.is),
  λ b. (
    λ b _ us a es vs h. give (goal.atom d) ts (tree.array (at_of ts) (exprs_of es)) vs (rule.array a.is h.1 h.2.is),
    λ b. (λ b e us h. give (goal.atom d) ts e us h, λ b e us h. give (goal.atom d) ts e us h),
  ),
)

pub sound_literal : (d : ℕ) (ts : List Placed) → Holds (steps (goal.literal d) ts) (Means (goal.literal d) ts)
sound_literal d ts = (
  λ b x us h. give (goal.literal d) ts (tree.name (at_of ts) x) us (rule.name h.0 h.1.is),
  λ b. (
    λ b n us h. give (goal.literal d) ts (tree.number (at_of ts) n) us (rule.number h.is),
    λ b. (
      λ b s us h. give (goal.literal d) ts (tree.string (at_of ts) s) us (rule.string h.is),
      λ b e us h. give (goal.literal d) ts e us h,
    ),
  ),
)

pub sound_word : (d : ℕ) (ts : List Placed) → Holds (steps (goal.word_literal d) ts) (Means (goal.word_literal d) ts)
sound_word d ts = (
  λ b _ us a. give (goal.word_literal d) ts (tree.boolean (at_of ts) true) us (rule.true_literal a.is),
  λ b. (
    λ b _ us a. give (goal.word_literal d) ts (tree.boolean (at_of ts) false) us (rule.false_literal a.is),
    λ b. (
      λ b _ us a. give (goal.word_literal d) ts (tree.null (at_of ts)) us (rule.null_literal a.is),
      λ b e us h. give (goal.word_literal d) ts e us h,
    ),
  ),
)

pub sound_dictionary : (d : ℕ) (ts : List Placed) → Holds (steps (goal.dictionary d) ts) (Means (goal.dictionary d) ts)
sound_dictionary d ts _ us a _ vs a2 _ ws a3 _ xs a4 _ ys b _ zs c =
    give (goal.dictionary d) ts (tree.dictionary (at_of ts)) zs
    (rule.dictionary (and_then_after a (and_then_after a2 (and_then_after a3 a4))).is (up_after b).is c.is)

pub sound_converted : (d : ℕ) (ts : List Placed) → Holds (steps (goal.converted d) ts) (Means (goal.converted d) ts)
sound_converted d ts = (
  λ b _ us a _ vs a2 e ws h.
      give (goal.converted d) ts (tree.decimal_of (at_of ts) e) ws (rule.decimal_of (and_then_after a a2).is h.2 h.3.is),
  λ b _ us a _ vs a2 _ ws a3 _ xs a4 e ys h.
      give (goal.converted d) ts (tree.from_char_code (at_of ts) e) ys
      (rule.from_char_code (and_then_after a (and_then_after a2 (and_then_after a3 a4))).is h.2 h.3.is),
)

pub sound_enclosed : (d : ℕ) (x : Token) (ts : List Placed) → Holds (steps (goal.enclosed d x) ts) (Means (goal.enclosed d x) ts)
sound_enclosed d x ts e us h _ vs a = give (goal.enclosed d x) ts e vs (h.0, us, up h.1, a)

pub sound_listed : (d : ℕ) (x : Token) (ts : List Placed) → Holds (steps (goal.listed d x) ts) (Means (goal.listed d x) ts)
sound_listed d x ts = (
  λ b _ us a. give (goal.listed d x) ts [] us (ts, rule.no_expressions, a),
  λ b e us h fs vs k.
      give (goal.listed d x) ts fs vs
      (k.1, subst (λ z. Expressions (suc d) ts k.1 (exprs_of z)) (sym k.2) (rule.expressions (up h.1) k.3), k.4),
)

pub sound_more : (d : ℕ) (x : Token) (es : List Expr) (ts : List Placed) → Holds (steps (goal.more d x es) ts) (Means (goal.more d x es) ts)
sound_more d x es ts = (
  λ b _ us a e vs h fs ws k.
      give (goal.more d x es) ts fs ws
      (e ∷ k.0, k.1, k.2 ∙ append_assoc es (e ∷ []) k.0, rule.more_expressions (up_after a).is (up h.1) k.3, k.4),
  λ b _ us a. give (goal.more d x es) ts es us ([], ts, sym (append-nil es), rule.no_more_expressions, a),
)
