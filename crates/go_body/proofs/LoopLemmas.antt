-- Statements that are gone through one by one, and the end of a clause.
use Rattle.std.proofs.Common.{arith, ◌≡◌, ◌<◌, ◌≤◌, ◌+◌, ◌∙◌, ℕ, zero, suc, refl, sym, ap, subst, List, [], ◌∷◌, ◌++◌, append_assoc, map, length, drop, get_or, Bool, true, false, ◌&&◌, ◌≢◌, ◌-◌}
use Rattle.std.specs.Prelude.{Option, Some, None, ◌==◌, nat_eq}
use Rattle.std.proofs.lemmas.List.{append-nil}
use Rattle.std.proofs.lemmas.Bool.Decides.{nat_tests}
use Rattle.std.proofs.Math.Seq.{drop-cons}
use Rattle.go_syntax.specs.Tree as t
use Rattle.go_syntax.specs.View.{stmt_view, stmts_of, block_view}
use Rattle.go_syntax.specs.declared.tree.Stmt.{Stmt}
use Rattle.go_syntax.specs.declared.tree.Block.{Block, out-Block}
use Rattle.go_type.specs.Tree.{Ty}
use Rattle.go_type.specs.Table.{size, KeepsTrees}
use Rattle.go_type.specs.declared.types.TypeId.{TypeId}
use Rattle.go_core.specs.CoreTree as core
use Rattle.go_core.specs.CoreView as views
use Rattle.go_core.specs.declared.statement.CoreStmt.{CoreStmt}
use Rattle.go_typing.specs.Answer as typing
use Rattle.go_operands.specs.EnvView.{table_of}
use Rattle.go_operands.specs.AnswerView.{flaw_view}
use Rattle.go_operands.specs.declared.answers.answer.Flaw.{Flaw}
use Rattle.go_typing.specs.Walk as go
use Rattle.go_typing.specs.Walk.{Did, did, and_then, within}
use Rattle.go_typing.specs.Statements.{falls, stmt, stmts, block, clause_stmts, unlabeled}
use Rattle.go_walk.specs.WalkView.{walk_of, depth, Keeps}
use Rattle.go_walk.specs.declared.walk.walk.Walk.{Walk}
use Rattle.go_assign.specs.Outcome.{Does}
use Rattle.go_body.specs.Forms.{is_fallthrough}
use Rattle.go_body.specs.BodyLeft.{StmtsLeft}
use Rattle.go_body.proofs.KeepLemmas.{keeps_back}
use Rattle.go_body.proofs.FallsLemmas.{next_at, past, fallen_on, falls_alone}
use Rattle.go_body.proofs.ViewLemmas.{block_whole}

-- ---- what is left

pub left_begin : (d : go.Walk → Did) (a : Walk) (f : List Flaw) (o : List CoreStmt) → StmtsLeft d d a a f f o o
left_begin d a f o = record { told = λ ts l. refl; core = λ ts l. refl; walk = λ ts l. refl; depth = refl; kept = λ i l. refl; counts = omega arith }

pub left_step : (all d e : go.Walk → Did) (a b c : Walk) (f0 f1 f2 : List Flaw) (o0 o1 o2 : List CoreStmt) → StmtsLeft all (λ w. and_then (d w) e) a b f0 f1 o0 o1 → Does d b c f1 f2 o1 o2 → StmtsLeft all e a c f0 f2 o0 o2
left_step all d e a b c f0 f1 f2 o0 o1 o2 h k = record {
  told = λ ts l.
      let v = walk_of ts b in
      ap (λ (fs : List typing.Flaw). fs ++ (e (walk_of ts c)).flaws) (k.told ts l) ∙ append_assoc (map flaw_view f1) (d v).flaws (e (walk_of ts c)).flaws
      ∙ ap (λ (w : go.Walk). map flaw_view f1 ++ ((d v).flaws ++ (e w).flaws)) (k.walk ts l) ∙ h.told ts (back ts l);
  core = λ ts l.
      let v = walk_of ts b in
      ap (λ (ss : List core.Stmt). ss ++ (e (walk_of ts c)).core) (k.core ts l) ∙ append_assoc (map (views.stmt_view ts) o1) (d v).core (e (walk_of ts c)).core
      ∙ ap (λ (w : go.Walk). map (views.stmt_view ts) o1 ++ ((d v).core ++ (e w).core)) (k.walk ts l) ∙ h.core ts (back ts l);
  walk = λ ts l. ap (λ (w : go.Walk). (e w).walk) (k.walk ts l) ∙ h.walk ts (back ts l);
  depth = k.depth ∙ h.depth;
  kept = λ i l. k.kept i (below i l) ∙ h.kept i l;
  counts = let p = h.counts in let q = k.counts in omega (arith, p, q);
}
  where
    back : (ts : List Ty) → Keeps (table_of c.env) ts → Keeps (table_of b.env) ts
    back ts l = keeps_back (table_of b.env) (table_of c.env) k.kept k.counts ts l

    below : (i : TypeId) → i.0 < size (table_of a.env) → i.0 < size (table_of b.env)
    below i l = let p = h.counts in omega (arith, p, l)

left_end : (all : go.Walk → Did) (a b : Walk) (f0 f1 : List Flaw) (o0 o1 : List CoreStmt) → StmtsLeft all (did []) a b f0 f1 o0 o1 → Does all a b f0 f1 o0 o1
left_end all a b f0 f1 o0 o1 h = record {
  told = λ ts l. sym (append-nil (map flaw_view f1)) ∙ h.told ts l;
  core = λ ts l. sym (append-nil (map (views.stmt_view ts) o1)) ∙ h.core ts l;
  walk = h.walk;
  depth = h.depth;
  kept = h.kept;
  counts = h.counts;
}

left_as : (all d e : go.Walk → Did) (a b : Walk) (f0 f1 : List Flaw) (o0 o1 : List CoreStmt) → d ≡ e → StmtsLeft all d a b f0 f1 o0 o1 → StmtsLeft all e a b f0 f1 o0 o1
left_as all d e a b f0 f1 o0 o1 p h = subst (λ (x : go.Walk → Did). StmtsLeft all x a b f0 f1 o0 o1) p h

-- ---- the end of a clause

-- one that is taken off does nothing
taken_off : (s : t.Stmt) (a : go.Around) → is_fallthrough s ≡ true → clause_stmts true (t.MoreStmts s t.NoStmts) a ≡ did []
taken_off (t.FallthroughStmt at) a h = refl
taken_off _ a h = absurd (cc)

next_true : (s r : t.Stmt) (rs : t.Stmts) (a : go.Around) → clause_stmts true (t.MoreStmts s (t.MoreStmts r rs)) a ≡ (λ w. and_then (stmt s (unlabeled a) w) (clause_stmts true (t.MoreStmts r rs) a))
next_true (t.FallthroughStmt at) r rs a = refl
next_true _ r rs a = refl

next_false : (s : t.Stmt) (ss : t.Stmts) (a : go.Around) → clause_stmts false (t.MoreStmts s ss) a ≡ (λ w. and_then (stmt s (unlabeled a) w) (clause_stmts false ss a))
next_false s ss a = refl

-- where the last one isn't taken off a clause is as a block
pub all_stmts : (ss : t.Stmts) (a : go.Around) → clause_stmts false ss a ≡ stmts ss a
all_stmts t.NoStmts a = refl
all_stmts (t.MoreStmts s ss) a = λ j w. and_then (stmt s (unlabeled a) w) (all_stmts ss a j)

pub block_is : (b : Block) (a : go.Around) → within (clause_stmts false (stmts_of (map stmt_view (out-Block b).stmts.items)) a) ≡ block (block_view b) a
block_is b a =
    ap (λ (d : go.Walk → Did). within d) (all_stmts (stmts_of (map stmt_view (out-Block b).stmts.items)) a)
    ∙ ap (λ (x : t.Block). block x a) (sym (block_whole b))

-- ---- statements, from an index on

abbrev from : Bool → go.Around → List Stmt → go.Walk → Did
from onward a ss = clause_stmts onward (stmts_of (map stmt_view ss)) a

-- what a loop over statements knows
pub record Gone (onward : Bool) (a : go.Around) (ss : List Stmt) (i left : ℕ) (old now : Walk) (before after : List Flaw) (have out : List CoreStmt) : Type 0 where
  pub count : left + i ≡ length ss
  pub falls_on : onward ≡ true → i < length ss → falls (stmts_of (map stmt_view (drop i ss))) ≡ true
  pub does : StmtsLeft (clause_stmts onward (stmts_of (map stmt_view ss)) a) (clause_stmts onward (stmts_of (map stmt_view (drop i ss))) a) old now before after have out

pub gone_begin : (onward : Bool) (a : go.Around) (ss : List Stmt) (w : Walk) (f : List Flaw) (o : List CoreStmt) → (onward ≡ true → falls (stmts_of (map stmt_view ss)) ≡ true) → Gone onward a ss 0 (length ss) w w f f o o
gone_begin onward a ss w f o h = record { count = omega arith; falls_on = λ e l. h e; does = left_begin (from onward a ss) w f o }

not_last : (onward : Bool) (left : ℕ) → ((onward ≡ true) × (left ≡ 0) → ⊥) → onward ≡ true → left ≢ 0
not_last onward left h e k = h (e, k)

one_more : (onward : Bool) (s : Stmt) (rest : List Stmt) (a : go.Around) → (onward ≡ true → 0 < length rest) → from onward a (s ∷ rest) ≡ (λ w. and_then (stmt (stmt_view s) (unlabeled a) w) (from onward a rest))
one_more false s rest a h = next_false (stmt_view s) (stmts_of (map stmt_view rest)) a
one_more true s [] a h = let k = h refl in absurd (omega (arith, k))
one_more true s (r ∷ rest) a h = next_true (stmt_view s) (stmt_view r) (stmts_of (map stmt_view rest)) a

falls_next : (s : Stmt) (rest : List Stmt) → 0 < length rest → falls (stmts_of (map stmt_view (s ∷ rest))) ≡ true → falls (stmts_of (map stmt_view rest)) ≡ true
falls_next s [] l h = absurd (omega (arith, l))
falls_next s (r ∷ rest) l h = sym (fallen_on (stmt_view s) (stmt_view r) (stmts_of (map stmt_view rest))) ∙ h

length_rest : {X : Type 0} (xs : List X) (i : ℕ) → i ≤ length xs → length (drop i xs) + i ≡ length xs
length_rest [] zero h = omega arith
length_rest [] (suc i) h = absurd (omega (arith, h))
length_rest (x ∷ xs) zero h = omega arith
length_rest (x ∷ xs) (suc i) h = let k = length_rest xs i (omega (arith, h)) in omega (arith, k)

pub gone_step : (onward : Bool) (a : go.Around) (ss : List Stmt) (i left : ℕ) (s : Stmt) (old b c : Walk) (f0 f1 f2 : List Flaw) (o0 o1 o2 : List CoreStmt) → i < length ss → s ≡ get_or ss i s → (onward ≡ true → left - 1 ≢ 0) → Gone onward a ss i left old b f0 f1 o0 o1
    → Does (stmt (stmt_view s) (unlabeled a)) b c f1 f2 o1 o2 → Gone onward a ss (i + 1) (left - 1) old c f0 f2 o0 o2
gone_step onward a ss i left s old b c f0 f1 f2 o0 o1 o2 h e n g k = record {
  count = let p = g.count in omega (arith, p, h);
  falls_on = λ p l.
      falls_next s (drop (i + 1) ss) (rest_long p) (ap (λ (xs : List Stmt). falls (stmts_of (map stmt_view xs))) (sym (next_at ss i s h e)) ∙ g.falls_on p h);
  does = left_step (from onward a ss) (stmt (stmt_view s) (unlabeled a)) (from onward a (drop (i + 1) ss)) old b c f0 f1 f2 o0 o1 o2
      (left_as (from onward a ss) (from onward a (drop i ss)) (λ w. and_then (stmt (stmt_view s) (unlabeled a) w) (from onward a (drop (i + 1) ss))) old b f0 f1 o0 o1
      (ap (from onward a) (next_at ss i s h e) ∙ one_more onward s (drop (i + 1) ss) a rest_long) g.does) k;
}
  where
    rest_long : onward ≡ true → 0 < length (drop (i + 1) ss)
    rest_long p = let m = n p in let q = g.count in let r = length_rest ss (i + 1) (omega (arith, h)) in omega (arith, m, q, r, h)

-- the last one is taken off
pub gone_off : (a : go.Around) (ss : List Stmt) (i left : ℕ) (s : Stmt) (old b : Walk) (f0 f1 : List Flaw) (o0 o1 : List CoreStmt) → i < length ss → s ≡ get_or ss i s → left - 1 ≡ 0 → Gone true a ss i left old b f0 f1 o0 o1 → Does (clause_stmts true (stmts_of (map stmt_view ss)) a) old b f0 f1 o0 o1
gone_off a ss i left s old b f0 f1 o0 o1 h e z g =
    left_end (from true a ss) old b f0 f1 o0 o1
    (left_as (from true a ss) (from true a (drop i ss)) (did []) old b f0 f1 o0 o1 (ap (from true a) alone ∙ taken_off (stmt_view s) a last_falls) g.does)
  where
    alone : drop i ss ≡ s ∷ []
    alone = next_at ss i s h e ∙ ap (λ (xs : List Stmt). s ∷ xs) (past ss (i + 1) (let q = g.count in omega (arith, q, z, h)))

    last_falls : is_fallthrough (stmt_view s) ≡ true
    last_falls = sym (falls_alone (stmt_view s)) ∙ ap (λ (xs : List Stmt). falls (stmts_of (map stmt_view xs))) (sym alone) ∙ g.falls_on refl h

pub gone_end : (onward : Bool) (a : go.Around) (ss : List Stmt) (i left : ℕ) (old b : Walk) (f0 f1 : List Flaw) (o0 o1 : List CoreStmt) → length ss ≤ i → Gone onward a ss i left old b f0 f1 o0 o1 → Does (clause_stmts onward (stmts_of (map stmt_view ss)) a) old b f0 f1 o0 o1
gone_end onward a ss i left old b f0 f1 o0 o1 h g = left_end (from onward a ss) old b f0 f1 o0 o1 (left_as (from onward a ss) (from onward a (drop i ss)) (did []) old b f0 f1 o0 o1 (ap (from onward a) (past ss i h) ∙ nothing onward) g.does)
  where
    nothing : (x : Bool) → from x a [] ≡ did []
    nothing true = refl
    nothing false = refl

-- ---- whether the last one is taken off

taken : (onward b : Bool) (n : ℕ) → b ≡ (onward && (n == 0)) → b ≡ true → (onward ≡ true) × (n ≡ 0)
taken true b n p q = (refl, zero_of n (sym p ∙ q))
  where
    zero_of : (m : ℕ) → (m == 0) ≡ true → m ≡ 0
    zero_of m h = grind (arith, nat_tests)
taken false b n p q = absurd (cc)

pub not_taken : (onward b : Bool) (n : ℕ) → b ≡ (onward && (n == 0)) → b ≡ false → onward ≡ true → n ≢ 0
not_taken true b n p q h = some_of n (sym p ∙ q)
  where
    some_of : (m : ℕ) → (m == 0) ≡ false → m ≢ 0
    some_of m h = grind (arith, nat_tests)
not_taken false b n p q h = absurd (cc)

pub gone_taken : (onward b : Bool) (a : go.Around) (ss : List Stmt) (i left : ℕ) (s : Stmt) (old now : Walk) (f0 f1 : List Flaw) (o0 o1 : List CoreStmt) → b ≡ (onward && (left - 1 == 0)) → b ≡ true → i < length ss → s ≡ get_or ss i s → Gone onward a ss i left old now f0 f1 o0 o1
    → Does (clause_stmts onward (stmts_of (map stmt_view ss)) a) old now f0 f1 o0 o1
gone_taken true b a ss i left s old now f0 f1 o0 o1 p q h e g = gone_off a ss i left s old now f0 f1 o0 o1 h e (taken true b (left - 1) p q).1 g
gone_taken false b a ss i left s old now f0 f1 o0 o1 p q h e g = absurd (cc)

-- a block, from its statements
pub block_from : (b : Block) (ss : List Stmt) (a : go.Around) (m n : Walk) (f0 f1 : List Flaw) (o0 o1 : List CoreStmt) → ss ≡ (out-Block b).stmts.items → Does (within (clause_stmts false (stmts_of (map stmt_view ss)) a)) m n f0 f1 o0 o1 → Does (block (block_view b) a) m n f0 f1 o0 o1
block_from b ss a m n f0 f1 o0 o1 p h =
    subst (λ (d : go.Walk → Did). Does d m n f0 f1 o0 o1) (ap (λ (xs : List Stmt). within (clause_stmts false (stmts_of (map stmt_view xs)) a)) p ∙ block_is b a) h
