-- What is read as a statement, an item or a script is one.
use Rattle.std.proofs.Common.{arith, ◌≡◌, ◌∙◌, sym, subst, ap, ℕ, zero, suc, ◌+◌, ◌<◌, List, [], ◌∷◌, ◌++◌, Option, Some, None, Bool, true, false, refl, append_assoc, append-nil}
use Rattle.std.specs.Prelude.{◌&&◌, nat_lt, codes}
use Rattle.std.proofs.lemmas.Bool.{ltb-true}
use Rattle.js_tree.specs.Lexical.{Token, Placed}
use Rattle.js_tree.specs.Script as tree
use Rattle.js_tree.specs.Script.{Name, Expr, Stmt, Stmts, Cases, no_cases, no_else, else_block, else_if, Item, function_item, global_item}
use Rattle.js_tree.specs.View.{stmts_of, cases_of}
use Rattle.js_tree.specs.Printable.{is_call}
use Rattle.js_tree.specs.Scripts as rule
use Rattle.js_tree.specs.Scripts.{after, at_of, word, Expression, Statement, Statements, Block, Otherwise, CaseClauses, Parameters, MoreParameters, Items}
use Rattle.js_grammar.specs.declared.token.Infix.TheVariants as join
use Rattle.js_grammar.specs.Goals as goal
use Rattle.js_grammar.specs.Goals.{Goal, Gives}
use Rattle.js_grammar.specs.Steps.{steps, open_bracket, close_bracket, equals, semicolon, is_index, store_of, remove_of}
use Rattle.js_grammar.proofs.Heads.{and_then_after, level_bound}
use Rattle.js_grammar.proofs.Holding.{Means, Holds, give, Tested}
use Rattle.js_grammar.proofs.SoundExpr.{up_after}

both_true : (a b : Bool) → (a && b) ≡ true → (a ≡ true) × (b ≡ true)
both_true true b q = (refl, q)
both_true false b q = absurd (cc)

-- at one more, as the program and as the grammar writes it
upper : (P : ℕ → Type 0) (d : ℕ) → P (d + 1) → P (suc d)
upper P d h = let q : d + 1 ≡ suc d = omega arith in subst P q h

-- an element of an array, as the grammar read it
pub record Indexed (d : ℕ) (ts rest : List Placed) (f : Expr) : Type 0 where
  pub n : ℕ
  pub m : ℕ
  pub us : List Placed
  pub vs : List Placed
  pub ws : List Placed
  pub e : Expr
  pub i : Expr
  pub array : Expression d 12 n ts us e
  pub head : after (d + n) (open_bracket ∷ []) us ≡ Some vs
  pub item : Expression (suc (d + n)) 0 m vs ws i
  pub last : after (d + n) (close_bracket ∷ []) ws ≡ Some rest
  pub is : f ≡ tree.index (at_of ts) e i

not_index : {X : Type 0} (b : Bool) → b ≡ false → b ≡ true → X
not_index b p q = absurd (cc)

indexed : {d k n : ℕ} {ts rest : List Placed} {f : Expr} → Expression d k n ts rest f → k ≡ 12 → 0 < n → is_index f ≡ true → Indexed d ts rest f
indexed (rule.index {n = n} {m = m} {us = us} {vs = vs} {ws = ws} {e = e} {i = i} x q y r) k some b = record { n = n; m = m; us = us; vs = vs; ws = ws; e = e; i = i; array = x; head = q; item = y; last = r; is = refl }
indexed (rule.number q) k some b = absurd (omega (arith, some))
indexed (rule.string q) k some b = absurd (omega (arith, some))
indexed (rule.true_literal q) k some b = absurd (omega (arith, some))
indexed (rule.false_literal q) k some b = absurd (omega (arith, some))
indexed (rule.null_literal q) k some b = absurd (omega (arith, some))
indexed (rule.name p q) k some b = absurd (omega (arith, some))
indexed (rule.parentheses q x r) k some b = absurd (omega (arith, some))
indexed (rule.array q x r) k some b = absurd (omega (arith, some))
indexed (rule.dictionary q x r) k some b = absurd (omega (arith, some))
indexed (rule.decimal_of q x r) k some b = absurd (omega (arith, some))
indexed (rule.from_char_code q x r) k some b = absurd (omega (arith, some))
indexed (rule.call x q y r) k some b = absurd (cc)
indexed (rule.length_of x q) k some b = absurd (cc)
indexed (rule.pop x q) k some b = absurd (cc)
indexed (rule.char_code_at x q y r) k some b = absurd (cc)
indexed (rule.substring x q y a z r) k some b = absurd (cc)
indexed (rule.unary q x) k some b = absurd (omega (arith, k))
indexed (rule.binary {op = op} x q y) k some b = let l = level_bound (join.Op op) in absurd (omega (arith, k, l.1))
indexed (rule.both x q y) k some b = absurd (omega (arith, k))
indexed (rule.either x q y) k some b = absurd (omega (arith, k))
indexed (rule.choice x q y r z) k some b = absurd (omega (arith, k))
indexed (rule.looser lt x) k some b = absurd (omega (arith, k, lt))

all_statements : (d : ℕ) (ts us : List Placed) (v : Stmts) → Means (goal.statements d []) ts v us → Statements d ts us v
all_statements d ts us v h = subst (λ z. Statements d ts us z) (sym h.1) h.2

pub sound_declaration : (d : ℕ) (ts : List Placed) → Holds (steps (goal.declaration d) ts) (Means (goal.declaration d) ts)
sound_declaration d ts _ us a x vs ho _ ws b e xs he _ ys c =
    give (goal.declaration d) ts (x, e) ys (record { middle = ws; end = xs; n = he.0; own = ho.0; head = and_then_after a (and_then_after ho.1 b); value = he.1; last = c })

pub sound_statements : (d : ℕ) (ss : List Stmt) (ts : List Placed) → Holds (steps (goal.statements d ss) ts) (Means (goal.statements d ss) ts)
sound_statements d ss ts = (
  λ b. give (goal.statements d ss) ts (stmts_of ss) ts ([], ap stmts_of (sym (append-nil ss)), rule.no_statements),
  λ b s us h v vs k. give (goal.statements d ss) ts v vs (s ∷ k.0, k.1 ∙ ap stmts_of (append_assoc ss (s ∷ []) k.0), rule.statements h k.2),
)

pub sound_statement : (d : ℕ) (ts : List Placed) → Holds (steps (goal.statement d) ts) (Means (goal.statement d) ts)
sound_statement d ts = (
  λ b s us h. give (goal.statement d) ts s us h,
  λ b. (
    λ b s us h. give (goal.statement d) ts s us h,
    λ b. (
      λ b s us h. give (goal.statement d) ts s us h,
      λ b. (λ b s us h. give (goal.statement d) ts s us (h ts refl rule.no_label), λ b s us h. give (goal.statement d) ts s us h),
    ),
  ),
)

pub sound_simple : (d : ℕ) (ts : List Placed) → Holds (steps (goal.simple d) ts) (Means (goal.simple d) ts)
sound_simple d ts = (
  λ b p us h. give (goal.simple d) ts (tree.declare (at_of ts) p.0 p.1) us (rule.declare h.own h.head.is h.value h.last.is),
  λ b. (
    λ b s us h. give (goal.simple d) ts s us h,
    λ b. (λ b s us h. give (goal.simple d) ts s us h, λ b s us h. give (goal.simple d) ts s us h),
  ),
)

pub sound_block : (d : ℕ) (ts : List Placed) → Holds (steps (goal.block d) ts) (Means (goal.block d) ts)
sound_block d ts _ us a v vs h _ ws b =
    give (goal.block d) ts v ws (rule.block a.is (upper (λ z. Statements z us vs v) d (all_statements (d + 1) us vs v h)) b.is)

pub sound_named : (d : ℕ) (ts : List Placed) → Holds (steps (goal.named d) ts) (Means (goal.named d) ts)
sound_named d ts = (
  λ b x us ho _ vs a e ws he _ xs c. give (goal.named d) ts (tree.assign (at_of ts) x e) xs (rule.assign ho.0 (and_then_after ho.1 a).is he.1 c.is),
  λ b. (
    λ b x us ho _ vs a s ws k. give (goal.named d) ts s ws (k ts refl (rule.labelled ho.0 (and_then_after ho.1 a).is)),
    λ b s us h. give (goal.named d) ts s us h,
  ),
)

pub sound_effect : (d : ℕ) (ts : List Placed) → Holds (steps (goal.effect d) ts) (Means (goal.effect d) ts)
sound_effect d ts p us h s vs k = give (goal.effect d) ts s vs (k ts refl h)

performed : (d at n : ℕ) (e : Expr) (ts us start : List Placed) → (nat_lt 0 n && is_call e) ≡ true → at ≡ at_of start → Expression d 12 n start ts e → after d (semicolon ∷ []) ts ≡ Some us → Statement d start us (tree.perform at e)
performed d at zero e ts us start b q x a = absurd (cc)
performed d at (suc n) e ts us start b q x a = subst (λ z. Statement d start us (tree.perform z e)) (sym q) (rule.perform (both_true (nat_lt 0 (suc n)) (is_call e) b).1 x a)

pub sound_effect_of : (d at n : ℕ) (e : Expr) (ts : List Placed) → Holds (steps (goal.effect_of d at n e) ts) (Means (goal.effect_of d at n e) ts)
sound_effect_of d at n e ts = (
  λ b _ us a _ vs a2 _ ws a3 v xs h _ ys c. give (goal.effect_of d at n e) ts (tree.push at e v) ys (λ start q x.
      subst (λ z. Statement d start ys (tree.push z e v)) (sym q) (rule.push x (and_then_after a (and_then_after a2 a3)).is h.2 h.3.is c.is)),
  λ b. (
    λ b s us h. give (goal.effect_of d at n e) ts s us h,
    λ b. (
      λ b _ us a. give (goal.effect_of d at n e) ts (tree.perform at e) us (λ start q x. performed d at n e ts us start b q x a.is),
      λ b v us q. absurd (cc),
    ),
  ),
)

stored : (d at n m : ℕ) (e v : Expr) (ts us vs ws start : List Placed) → (nat_lt 0 n && is_index e) ≡ true → at ≡ at_of start → Expression d 12 n start ts e → after d (equals ∷ []) ts ≡ Some us → Expression d 0 m us vs v → after d (semicolon ∷ []) vs ≡ Some ws → Statement d start ws (store_of at e v)
stored d at n m e v ts us vs ws start b q x a y c =
    let two = both_true (nat_lt 0 n) (is_index e) b in
    let i = indexed x refl (ltb-true 0 n two.0) two.1 in
    subst (λ z. Statement d start ws (store_of at z v)) (sym i.is)
    (subst (λ z. Statement d start ws (tree.store z i.e i.i v)) (sym q) (rule.store i.array i.head i.item i.last a y c))

pub sound_store : (d at n : ℕ) (e : Expr) (ts : List Placed) → Holds (steps (goal.store d at n e) ts) (Means (goal.store d at n e) ts)
sound_store d at n e ts = (
  λ b _ us a v vs h _ ws c. give (goal.store d at n e) ts (store_of at e v) ws (λ start q x. stored d at n h.0 e v ts us vs ws start b q x a.is h.1 c.is),
  λ b v us q. absurd (cc),
)

removed : (d n : ℕ) (e : Expr) (ts us vs ws : List Placed) → (nat_lt 0 n && is_index e) ≡ true → after d (word (codes "delete") ∷ []) ts ≡ Some us → Expression d 12 n us vs e → after d (semicolon ∷ []) vs ≡ Some ws → Statement d ts ws (remove_of (at_of ts) e)
removed d n e ts us vs ws b a x c =
    let two = both_true (nat_lt 0 n) (is_index e) b in
    let i = indexed x refl (ltb-true 0 n two.0) two.1 in
    subst (λ z. Statement d ts ws (remove_of (at_of ts) z)) (sym i.is) (rule.remove a i.array i.head i.item i.last c)

pub sound_remove : (d : ℕ) (ts : List Placed) → Holds (steps (goal.remove d) ts) (Means (goal.remove d) ts)
sound_remove d ts _ us a p vs h = (
  λ b _ ws c. give (goal.remove d) ts (remove_of (at_of ts) p.0) ws (removed d p.1 p.0 ts us vs ws b a.is h c.is),
  λ b v us q. absurd (cc),
)

pub sound_returned : (d : ℕ) (ts : List Placed) → Holds (steps (goal.returned d) ts) (Means (goal.returned d) ts)
sound_returned d ts _ us a = (
  λ b _ vs c. give (goal.returned d) ts (tree.return (at_of ts) None) vs (rule.return a.is rule.nothing_returned c.is),
  λ b e vs h _ ws c. give (goal.returned d) ts (tree.return (at_of ts) (Some e)) ws (rule.return a.is (rule.returned h.1) c.is),
)

pub sound_jump : (d : ℕ) (ts : List Placed) → Holds (steps (goal.jump d) ts) (Means (goal.jump d) ts)
sound_jump d ts = (
  λ b _ us a e vs h _ ws c. give (goal.jump d) ts (tree.throw (at_of ts) e) ws (rule.throw a.is h.1 c.is),
  λ b. (
    λ b _ us a l vs h _ ws c. give (goal.jump d) ts (tree.break (at_of ts) l) ws (rule.break a.is h c.is),
    λ b _ us a l vs h _ ws c. give (goal.jump d) ts (tree.continue (at_of ts) l) ws (rule.continue a.is h c.is),
  ),
)

pub sound_target : (d : ℕ) (ts : List Placed) → Holds (steps (goal.target d) ts) (Means (goal.target d) ts)
sound_target d ts = (
  λ b x us h. give (goal.target d) ts (Some x) us (rule.target h.0 h.1.is),
  λ b. give (goal.target d) ts None ts rule.no_target,
)

pub sound_tested : (d : ℕ) (x : Token) (ts : List Placed) → Holds (steps (goal.tested d x) ts) (Means (goal.tested d x) ts)
sound_tested d x ts _ us a _ vs a2 e ws h =
    give (goal.tested d x) ts e ws (record { middle = vs; end = h.1; n = h.0; head = and_then_after a a2; value = h.2; last = h.3 })

pub sound_branch : (d : ℕ) (ts : List Placed) → Holds (steps (goal.branch d) ts) (Means (goal.branch d) ts)
sound_branch d ts t us h ss vs k other ws o =
    give (goal.branch d) ts (tree.branch (at_of ts) t ss other) ws (rule.branch h.head.is h.value h.last.is k o)

pub sound_otherwise : (d : ℕ) (ts : List Placed) → Holds (steps (goal.otherwise d) ts) (Means (goal.otherwise d) ts)
sound_otherwise d ts = (
  λ b _ us a. (
    λ b t vs h ss ws k other xs o.
        let g = upper (λ z. Tested z (word (codes "if")) us t vs) d h in
        give (goal.otherwise d) ts (else_if (at_of us) t ss other) xs
        (rule.branch_otherwise a.is g.head.is g.value g.last.is (upper (λ z. Block z vs ws ss) d k) (upper (λ z. Otherwise z ws xs other) d o)),
    λ b ss vs k. give (goal.otherwise d) ts (else_block ss) vs (rule.block_otherwise a.is (upper (λ z. Block z us vs ss) d k)),
  ),
  λ b. give (goal.otherwise d) ts no_else ts rule.nothing_otherwise,
)

pub sound_turning : (d at : ℕ) (l : Option Name) (ts : List Placed) → Holds (steps (goal.turning d at l) ts) (Means (goal.turning d at l) ts)
sound_turning d at l ts = (
  λ b t us h ss vs k. give (goal.turning d at l) ts (tree.while at l t ss) vs (λ start q x.
      subst (λ z. Statement d start vs (tree.while z l t ss)) (sym q) (rule.while x h.head.is h.value h.last.is k)),
  λ b. (
    λ b _ us h ss vs k. give (goal.turning d at l) ts (tree.forever at l ss) vs (λ start q x.
        subst (λ z. Statement d start vs (tree.forever z l ss)) (sym q) (rule.forever x h.head.is h.signs.is h.last.is k)),
    λ b e us h _ vs a cs ws k _ xs c. give (goal.turning d at l) ts (tree.switch at l e cs) xs (λ start q x.
        let all : CaseClauses (suc d) vs ws cs = upper (λ z. CaseClauses z vs ws cs) d (subst (λ z. CaseClauses (d + 1) vs ws z) (sym k.1) k.2) in
        subst (λ z. Statement d start xs (tree.switch z l e cs)) (sym q) (rule.switch x h.head.is h.value (and_then_after h.last a).is all c.is)),
  ),
)

pub sound_forever : (d : ℕ) (ts : List Placed) → Holds (steps (goal.forever d) ts) (Means (goal.forever d) ts)
sound_forever d ts _ us a _ vs a2 _ ws b _ xs b2 _ ys c =
    give (goal.forever d) ts tt ys (record { middle = vs; end = xs; head = and_then_after a a2; signs = up_after (and_then_after b b2); last = c })

cases-push : (cs : List (Cases → Cases)) (c : Cases → Cases) (tail : Cases) → cases_of (cs ++ c ∷ []) tail ≡ cases_of cs (c tail)
cases-push [] c tail = refl
cases-push (x ∷ cs) c tail = ap x (cases-push cs c tail)

pub sound_clauses : (d : ℕ) (cs : List (Cases → Cases)) (ts : List Placed) → Holds (steps (goal.clauses d cs) ts) (Means (goal.clauses d cs) ts)
sound_clauses d cs ts = (
  λ b c us h v vs k. give (goal.clauses d cs) ts v vs (
    tree.case h.n h.body k.0,
    k.1 ∙ cases-push cs c k.0 ∙ ap (λ (f : Cases → Cases). cases_of cs (f k.0)) h.is,
    rule.case_clause h.head.is h.value k.2,
  ),
  λ b. (
    λ b _ us a _ vs a2 ss ws h. give (goal.clauses d cs) ts (cases_of cs (tree.default ss)) ws (tree.default ss, refl, rule.default_clause (and_then_after a a2).is (all_statements d vs ws ss h)),
    λ b. give (goal.clauses d cs) ts (cases_of cs no_cases) ts (no_cases, refl, rule.no_clauses),
  ),
)

pub sound_clause : (d : ℕ) (ts : List Placed) → Holds (steps (goal.clause d) ts) (Means (goal.clause d) ts)
sound_clause d ts _ us a n vs b _ ws c ss xs h =
    give (goal.clause d) ts (tree.case n ss) xs (record { n = n; body = ss; middle = ws; is = refl; head = and_then_after a (and_then_after b c); value = all_statements d ws xs ss h })

pub sound_attempt : (d : ℕ) (ts : List Placed) → Holds (steps (goal.attempt d) ts) (Means (goal.attempt d) ts)
sound_attempt d ts _ us a ss vs k _ ws b _ xs b2 _ ys c _ zs e handler end m =
    give (goal.attempt d) ts (tree.attempt (at_of ts) ss handler) end (rule.attempt a.is k (and_then_after b b2).is (up_after c).is e.is m)

pub sound_parameters : (ts : List Placed) → Holds (steps goal.parameters ts) (Means goal.parameters ts)
sound_parameters ts = (
  λ b. give goal.parameters ts [] ts rule.no_parameters,
  λ b x us h v vs k. give goal.parameters ts v vs (subst (λ z. Parameters ts vs z) (sym k.1) (rule.parameters h.0 h.1.is k.2)),
)

pub sound_more_parameters : (xs : List Name) (ts : List Placed) → Holds (steps (goal.more_parameters xs) ts) (Means (goal.more_parameters xs) ts)
sound_more_parameters xs ts = (
  λ b _ us a x vs h v ws k. give (goal.more_parameters xs) ts v ws (x ∷ k.0, k.1 ∙ append_assoc xs (x ∷ []) k.0, rule.more_parameters h.0 (and_then_after a h.1).is k.2),
  λ b. give (goal.more_parameters xs) ts xs ts ([], sym (append-nil xs), rule.no_more_parameters),
)

pub sound_items : (is : List Item) (ts : List Placed) → Holds (steps (goal.items is) ts) (Means (goal.items is) ts)
sound_items is ts = (
  λ b i us h v vs k. give (goal.items is) ts v vs (i ∷ k.0, k.1 ∙ append_assoc is (i ∷ []) k.0, h k.0 vs k.2),
  λ b. give (goal.items is) ts is ts ([], sym (append-nil is), rule.no_items),
)

pub sound_item : (ts : List Placed) → Holds (steps goal.item ts) (Means goal.item ts)
sound_item ts = (
  λ b p us h. give goal.item ts (global_item (at_of ts) p.0 p.1) us (λ is end k. rule.global h.own h.head.is h.value h.last.is k),
  λ b _ us a x vs h _ ws b2 xs ys k _ zs c ss end m. give goal.item ts (function_item (record { name = x; params = xs; body = ss; at = at_of ts })) end (λ is fin j.
      rule.function h.0 (and_then_after a (and_then_after h.1 b2)).is k c.is m j),
)

pub sound_whole : (ts : List Placed) → Holds (steps goal.whole ts) (Means goal.whole ts)
sound_whole ts is us h x vs k _ ws a _ xs b _ ys c =
    give goal.whole ts (record { items = is; start = x; start_at = at_of us }) ys
    (record { start = us; items = subst (λ z. Items ts us z) (sym h.1) h.2; is_name = k.0; call = and_then_after k.1 (and_then_after a (and_then_after b c)); at = refl })
