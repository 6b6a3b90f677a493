-- Left sides that take the several values of a call, one after the other.
use Rattle.std.proofs.Common.{arith, ◌≡◌, ◌<◌, ◌≤◌, ◌+◌, ℕ, zero, suc, ◌∙◌, refl, sym, ap, List, [], ◌∷◌, ◌++◌, append_assoc, length, map, drop, get_or, Bool, true, false, ◌&&◌}
use Rattle.std.specs.Prelude.{if◌then◌else◌}
use Rattle.std.proofs.lemmas.List.{append-nil}
use Rattle.std.proofs.Math.Seq.{drop-cons}
use Rattle.gj_base.specs.declared.place.Place.{Place}
use Rattle.go_type.specs.Tree.{Ty, Tys, no_tys}
use Rattle.go_type.specs.Levels.{tree_of, trees_of, IdsBelow}
use Rattle.go_type.specs.declared.types.TypeId.{TypeId}
use Rattle.go_type.specs.declared.table.TypeTable.{TypeTable}
use Rattle.go_core.specs.CoreTree as core
use Rattle.go_core.specs.CoreView.{stmt_view, target_view}
use Rattle.go_core.specs.declared.statement.CoreStmt.{CoreStmt}
use Rattle.go_core.specs.declared.statement.Target as target
use Rattle.go_typing.specs.Answer.{Flaw, flaw}
use Rattle.go_operands.specs.AnswerView.{flaw_view}
use Rattle.go_operands.specs.declared.answers.answer.Flaw as code
use Rattle.go_walk.specs.WalkView.{Keeps}
use Rattle.go_typing.specs.Expressions.{core_of}
use Rattle.go_typing.specs.Assign.{Left, left_flaws, target_of, takes}
use Rattle.go_expr.specs.Raw.{Raw}
use Rattle.go_assign.specs.Outcome.{Adds}
use Rattle.go_assign.specs.declared.assign.left.Left as left
use Rattle.go_assign.specs.LeftView.{lefts_after}
use Rattle.go_assign.specs.Assigning.{all_flaws, all_targets, each_takes, call_gives}

next_at : {X : Type 0} (xs : List X) (i : ℕ) (x : X) → i < length xs → x ≡ get_or xs i x → drop i xs ≡ x ∷ drop (i + 1) xs
next_at {X} xs i x h e =
    let one : suc i ≡ i + 1 = omega arith in
    drop-cons xs i x h ∙ ap (λ (y : X). y ∷ drop (suc i) xs) (sym e) ∙ ap (λ (n : ℕ). x ∷ drop n xs) one

past : {X : Type 0} (xs : List X) (i : ℕ) → length xs ≤ i → drop i xs ≡ []
past [] zero h = refl
past [] (suc i) h = refl
past (x ∷ xs) zero h = absurd (omega arith)
past (x ∷ xs) (suc i) h = past xs i (omega arith)

pub id_at : (n : ℕ) (is : List TypeId) (i : ℕ) (t : TypeId) → IdsBelow n is → i < length is → t ≡ get_or is i t → t.0 < n
id_at n [] i t h l e = absurd (omega arith)
id_at n (j ∷ is) zero t h l e = let p : t.0 ≡ j.0 = ap (λ (x : TypeId). x.0) e in let q = h.0 in omega (arith, p, q)
id_at n (j ∷ is) (suc i) t h l e = id_at n is i t h.1 (omega arith) e

abbrev pub no_type : TypeId
no_type = record { 0 = 0 }

pub in_range : (is : List TypeId) (i : ℕ) (t : TypeId) → i < length is → get_or is i t ≡ get_or is i (get_or is i t)
in_range [] i t h = absurd (omega arith)
in_range (j ∷ is) zero t h = refl
in_range (j ∷ is) (suc i) t h = in_range is i t (omega arith)

-- ---- whether each takes a value of its type

pub takes_first : (b : Bool) → (true && b) ≡ b
takes_first b = refl

regrouped : (a b c : Bool) → ((a && b) && c) ≡ (a && (b && c))
regrouped true b c = refl
regrouped false b c = refl

pub takes_step : (ts : List Ty) (ls ls1 : List Left) (l : Left) (is : List TypeId) (i : ℕ) (t : TypeId) (a b f all : Bool) → i < length is → t ≡ get_or is i t → ls ≡ l ∷ ls1 → f ≡ takes l (tree_of ts t) → b ≡ (a && f)
    → (a && each_takes ls (trees_of ts (drop i is))) ≡ all → (b && each_takes ls1 (trees_of ts (drop (i + 1) is))) ≡ all
takes_step ts ls ls1 l is i t a b f all h e p q r k =
    let rest : Bool = each_takes ls1 (trees_of ts (drop (i + 1) is)) in
    ap (λ (x : Bool). x && rest) (r ∙ ap (λ (x : Bool). a && x) q) ∙ regrouped a (takes l (tree_of ts t)) rest
    ∙ sym (ap (λ (x : List Left). a && each_takes x (trees_of ts (drop i is))) p ∙ ap (λ (x : List TypeId). a && each_takes (l ∷ ls1) (trees_of ts x)) (next_at is i t h e))
    ∙ k

no_types : (ls : List Left) → each_takes ls no_tys ≡ true
no_types [] = refl
no_types (l ∷ ls) = refl

and_true : (a : Bool) → (a && true) ≡ a
and_true true = refl
and_true false = refl

pub takes_end : (ts : List Ty) (ls : List Left) (is : List TypeId) (i : ℕ) (a all : Bool) → length is ≤ i → (a && each_takes ls (trees_of ts (drop i is))) ≡ all → a ≡ all
takes_end ts ls is i a all h k =
    sym (ap (λ (x : List TypeId). a && each_takes ls (trees_of ts x)) (past is i h) ∙ ap (λ (b : Bool). a && b) (no_types ls) ∙ and_true a) ∙ k

-- ---- what is told and stored

none_left : (ls : List left.Left) (m n : ℕ) → length ls + m ≡ n → n ≤ m → ls ≡ []
none_left [] m n h k = refl
none_left (l ∷ ls) m n h k = absurd (omega (arith, h, k))

pub told_step : (ls ls1 : List Left) (l : Left) (before after all : List Flaw) → ls ≡ l ∷ ls1 → after ≡ before ++ left_flaws l → before ++ all_flaws ls ≡ all → after ++ all_flaws ls1 ≡ all
told_step ls ls1 l before after all p q h =
    ap (λ (fs : List Flaw). fs ++ all_flaws ls1) q ∙ append_assoc before (left_flaws l) (all_flaws ls1) ∙ sym (ap (λ (x : List Left). before ++ all_flaws x) p) ∙ h

pub told_end : (ts : List Ty) (ls : List left.Left) (m n : ℕ) (now all : List Flaw) → length ls + m ≡ n → n ≤ m → now ++ all_flaws (lefts_after ts ls []) ≡ all → now ≡ all
told_end ts ls m n now all h k e = sym (append-nil now) ∙ sym (ap (λ (x : List left.Left). now ++ all_flaws (lefts_after ts x [])) (none_left ls m n h k)) ∙ e

pub target_step : (ls ls1 : List Left) (l : Left) (before after all : List core.Target) → ls ≡ l ∷ ls1 → after ≡ before ++ target_of l ∷ [] → before ++ all_targets ls ≡ all → after ++ all_targets ls1 ≡ all
target_step ls ls1 l before after all p q h =
    ap (λ (gs : List core.Target). gs ++ all_targets ls1) q ∙ append_assoc before (target_of l ∷ []) (all_targets ls1) ∙ sym (ap (λ (x : List Left). before ++ all_targets x) p) ∙ h

pub target_end : (ts : List Ty) (ls : List left.Left) (m n : ℕ) (now all : List core.Target) → length ls + m ≡ n → n ≤ m → now ++ all_targets (lefts_after ts ls []) ≡ all → now ≡ all
target_end ts ls m n now all h k e = sym (append-nil now) ∙ sym (ap (λ (x : List left.Left). now ++ all_targets (lefts_after ts x [])) (none_left ls m n h k)) ∙ e

-- ---- the call

abbrev unless : Place → Bool → List Flaw
unless at b = if b then [] else flaw at 61 ∷ []

abbrev store_of : List core.Target → core.Expr → core.Stmt
store_of gs e = core.store gs (core.expr e core.no_exprs)

pub call_adds : (t : TypeTable) (ls : List Left) (r : Raw) (us : Tys) (b : Bool) (g0 gs : List target.Target) (f0 f1 f2 : List code.Flaw) (o0 o1 : List CoreStmt) → g0 ≡ [] → b ≡ each_takes ls us → map flaw_view f1 ≡ map flaw_view f0 ++ all_flaws ls
    → map flaw_view f2 ≡ map flaw_view f1 ++ (if b then [] else flaw r.part.place 61 ∷ [])
    → ((ts : List Ty) → Keeps t ts → map (target_view ts) gs ≡ map (target_view ts) g0 ++ all_targets ls)
    → ((ts : List Ty) → Keeps t ts → map (stmt_view ts) o1 ≡ map (stmt_view ts) o0 ++ core.store (map (target_view ts) gs) (core.expr (core_of r.part.answer) core.no_exprs) ∷ [])
    → Adds t (call_gives ls r us).flaws (call_gives ls r us).core f0 f2 o0 o1
call_adds t ls r us b g0 gs f0 f1 f2 o0 o1 z p q h k m = record {
  told =
      h ∙ ap (λ (fs : List Flaw). fs ++ unless r.part.place b) q ∙ append_assoc (map flaw_view f0) (all_flaws ls) (unless r.part.place b)
      ∙ ap (λ (x : Bool). map flaw_view f0 ++ (all_flaws ls ++ unless r.part.place x)) p;
  core = λ ts l.
      m ts l
      ∙ ap (λ (x : List core.Target). map (stmt_view ts) o0 ++ store_of x (core_of r.part.answer) ∷ []) (k ts l ∙ ap (λ (x : List target.Target). map (target_view ts) x ++ all_targets ls) z);
}
