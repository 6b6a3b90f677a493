-- Left sides by what a name stands for, and in a list where the last one is held first.
use Rattle.std.proofs.Common.{arith, ◌≡◌, ◌<◌, ◌≤◌, ◌+◌, ◌-◌, ℕ, ◌∙◌, refl, sym, ap, subst, zero, suc, List, [], ◌∷◌, ◌++◌, Bool, true, false, ◌&&◌, length, map, drop, get_or}
use Rattle.std.specs.Prelude.{Option, Some, None, MatchOption, option_to_list}
use Rattle.std.proofs.Math.Seq.{drop-cons}
use Rattle.go_syntax.specs.Tree as t
use Rattle.go_syntax.specs.View.{expr_view}
use Rattle.go_syntax.specs.declared.tree.Expr.{Expr}
use Rattle.go_type.specs.Tree.{Ty}
use Rattle.go_type.specs.Levels.{tree_of}
use Rattle.go_type.specs.Named.{NamedTy}
use Rattle.go_type.specs.Table.{places, size, KeepsTrees}
use Rattle.go_type.specs.declared.table.TypeTable.{TypeTable}
use Rattle.go_core.specs.CoreTree as core
use Rattle.go_core.specs.CoreView.{target_view}
use Rattle.go_core.specs.declared.statement.Target as target
use Rattle.go_type.specs.declared.types.TypeId.{TypeId}
use Rattle.go_typing.specs.Env.{Bind, Decl, variable, global, constant, type_name, function, imported, built_in, nil_value, refused, unknown, lookup}
use Rattle.go_operands.specs.declared.scopes.env.Env.{Env}
use Rattle.go_operands.specs.EnvView.{table_of}
use Rattle.go_typing.specs.Walk.{Walk}
use Rattle.go_typing.specs.Assign.{Left, left_place, left_declared, left_of, is_left}
use Rattle.go_expr.specs.Raw.{Grows}
use Rattle.go_walk.specs.WalkView.{walk_outside, Keeps}
use Rattle.go_assign.proofs.WalkLemmas.{names_grown, scopes_grown}
use Rattle.go_calls.specs.Words.{types_of, names_of, scopes_of}
use Rattle.go_assign.specs.declared.assign.left.Left as code
use Rattle.go_assign.specs.declared.assign.left.Left.TheVariants as left
use Rattle.go_assign.specs.LeftView.{left_view, lefts_after, lefts_of, LeftBelow, spot_of}
use Rattle.go_assign.specs.Assigning.{all_left}
use Rattle.std.specs.List.{AllByRecursion}

abbrev or_this : Left → Option Left → Left
or_this l None = l
or_this l (Some m) = m

abbrev at_local : ℕ → Ty → Left
at_local n u = left_place (core.local_ n) u

abbrev at_global : ℕ → Ty → Left
at_global n u = left_place (core.global n) u

-- ---- what a name stands for

pub spot_declared : (w : Walk) (e : t.Expr) (d : Option Decl) (l : Left) → Some l ≡ spot_of d → l ≡ left_declared w e d
spot_declared w e (Some (variable id u)) l h = ap (or_this l) h
spot_declared w e (Some (global number u)) l h = ap (or_this l) h
spot_declared w e (Some (constant k u)) l h = absurd (cc)
spot_declared w e (Some (type_name u)) l h = absurd (cc)
spot_declared w e (Some (function id ps rs v)) l h = absurd (cc)
spot_declared w e (Some (imported p)) l h = absurd (cc)
spot_declared w e (Some (built_in b)) l h = absurd (cc)
spot_declared w e (Some nil_value) l h = absurd (cc)
spot_declared w e (Some (refused c)) l h = absurd (cc)
spot_declared w e (Some unknown) l h = absurd (cc)
spot_declared w e None l h = absurd (cc)

pub not_declared : (w : Walk) (e : t.Expr) (d : Option Decl) (l : Left) → None ≡ spot_of d → l ≡ left_declared w e None → l ≡ left_declared w e d
not_declared w e (Some (variable id u)) l h k = absurd (cc)
not_declared w e (Some (global number u)) l h k = absurd (cc)
not_declared w e (Some (constant c u)) l h k = k
not_declared w e (Some (type_name u)) l h k = k
not_declared w e (Some (function id ps rs v)) l h k = k
not_declared w e (Some (imported p)) l h k = k
not_declared w e (Some (built_in b)) l h k = k
not_declared w e (Some nil_value) l h k = k
not_declared w e (Some (refused c)) l h k = k
not_declared w e (Some unknown) l h k = k
not_declared w e None l h k = k

-- ---- the last one is held first

pushed : (ts : List Ty) (ls : List code.Left) (l : code.Left) (after : List Left) → lefts_after ts (ls ++ l ∷ []) after ≡ left_view ts l ∷ lefts_after ts ls after
pushed ts [] l after = refl
pushed ts (s ∷ ls) l after = pushed ts ls l (left_view ts s ∷ after)

pushed_view : (ts : List Ty) (old new : List code.Left) (l : code.Left) → new ≡ old ++ l ∷ [] → lefts_after ts new [] ≡ left_view ts l ∷ lefts_after ts old []
pushed_view ts old new l p = ap (λ (x : List code.Left). lefts_after ts x []) p ∙ pushed ts old l []

pub next_view : (ts : List Ty) (old new : List code.Left) (o : Option code.Left) → old ≡ new ++ option_to_list o → MatchOption o ((length old ≡ 0) × (length new ≡ 0)) (λ _. length new + 1 ≡ length old)
    → MatchOption o (lefts_after ts old [] ≡ []) (λ l. lefts_after ts old [] ≡ left_view ts l ∷ lefts_after ts new [])
next_view ts [] new None p h = refl
next_view ts (l ∷ ls) new None p h = let z = h.0 in absurd (omega arith)
next_view ts old new (Some l) p h = pushed_view ts new old l p

pub next_count : (old new : List code.Left) (o : Option code.Left) → MatchOption o ((length old ≡ 0) × (length new ≡ 0)) (λ _. length new + 1 ≡ length old) → MatchOption o (length old ≡ 0) (λ l. length new + 1 ≡ length old)
next_count old new None h = h.0
next_count old new (Some l) h = h

-- ---- the table grows

left_kept : (a b : TypeTable) (l : code.Left) → KeepsTrees a b → LeftBelow (size a) l → left_view (places b) l ≡ left_view (places a) l
left_kept a b left.Blank k h = refl
left_kept a b (left.Local v u) k h = ap (at_local v.0) (k u h)
left_kept a b (left.Global n u) k h = ap (at_global n) (k u h)
left_kept a b (left.Wrong fs) k h = refl

lefts_kept_after : (a b : TypeTable) (ls : List code.Left) (after : List Left) → KeepsTrees a b → AllByRecursion (LeftBelow (size a)) ls → lefts_after (places b) ls after ≡ lefts_after (places a) ls after
lefts_kept_after a b [] after k h = refl
lefts_kept_after a b (l ∷ ls) after k h =
    ap (λ (x : Left). lefts_after (places b) ls (x ∷ after)) (left_kept a b l k h.0) ∙ lefts_kept_after a b ls (left_view (places a) l ∷ after) k h.1

pub lefts_kept : (a b : TypeTable) (ls : List code.Left) → KeepsTrees a b → AllByRecursion (LeftBelow (size a)) ls → lefts_after (places b) ls [] ≡ lefts_after (places a) ls []
lefts_kept a b ls k h = lefts_kept_after a b ls [] k h

left_below : (m n : ℕ) (l : code.Left) → m ≤ n → LeftBelow m l → LeftBelow n l
left_below m n left.Blank k h = tt
left_below m n (left.Local v u) k h = omega (arith, k, h)
left_below m n (left.Global i u) k h = omega (arith, k, h)
left_below m n (left.Wrong fs) k h = tt

pub lefts_below : (m n : ℕ) (ls : List code.Left) → m ≤ n → AllByRecursion (LeftBelow m) ls → AllByRecursion (LeftBelow n) ls
lefts_below m n [] k h = tt
lefts_below m n (l ∷ ls) k h = (left_below m n l k h.0, lefts_below m n ls k h.1)

all_more : (n : ℕ) (ls : List code.Left) (l : code.Left) → AllByRecursion (LeftBelow n) ls → LeftBelow n l → AllByRecursion (LeftBelow n) (ls ++ l ∷ [])
all_more n [] l h k = (k, tt)
all_more n (x ∷ ls) l h k = (h.0, all_more n ls l h.1 k)

next_at : {X : Type 0} (xs : List X) (i : ℕ) (x : X) → i < length xs → x ≡ get_or xs i x → drop i xs ≡ x ∷ drop (i + 1) xs
next_at {X} xs i x h e =
    let one : suc i ≡ i + 1 = omega arith in
    drop-cons xs i x h ∙ ap (λ (y : X). y ∷ drop (suc i) xs) (sym e) ∙ ap (λ (n : ℕ). x ∷ drop n xs) one

past : {X : Type 0} (xs : List X) (i : ℕ) → length xs ≤ i → drop i xs ≡ []
past [] zero h = refl
past [] (suc i) h = refl
past (x ∷ xs) zero h = absurd (omega arith)
past (x ∷ xs) (suc i) h = past xs i (omega arith)

-- ---- whether all can be assigned

regrouped : (k a b : Bool) → (k && (a && b)) ≡ ((k && (a && true)) && b)
regrouped true true b = refl
regrouped true false b = refl
regrouped false a b = refl

left_after : (ts : List Ty) (ls : List code.Left) (after : List Left) → all_left (lefts_after ts ls after) ≡ (all_left (lefts_after ts ls []) && all_left after)
left_after ts [] after = refl
left_after ts (l ∷ ls) after =
    left_after ts ls (left_view ts l ∷ after) ∙ regrouped (all_left (lefts_after ts ls [])) (is_left (left_view ts l)) (all_left after)
    ∙ ap (λ (b : Bool). b && all_left after) (sym (left_after ts ls (left_view ts l ∷ [])))

and_true : (k b : Bool) → true ≡ b → (k && (b && true)) ≡ k
and_true true true h = refl
and_true false b h = refl
and_true true false h = absurd (cc)

and_false : (k b : Bool) → false ≡ b → (k && (b && true)) ≡ false
and_false true false h = refl
and_false false b h = refl
and_false true true h = absurd (cc)

pub left_step : (ts : List Ty) (xs : List code.Left) (i : ℕ) (l : code.Left) → i < length xs → l ≡ get_or xs i l → true ≡ is_left (left_view ts l) → all_left (lefts_after ts (drop i xs) []) ≡ all_left (lefts_after ts (drop (i + 1) xs) [])
left_step ts xs i l h e k =
    ap (λ (x : List code.Left). all_left (lefts_after ts x [])) (next_at xs i l h e) ∙ left_after ts (drop (i + 1) xs) (left_view ts l ∷ [])
    ∙ and_true (all_left (lefts_after ts (drop (i + 1) xs) [])) (is_left (left_view ts l)) k

pub left_stop : (ts : List Ty) (xs : List code.Left) (i : ℕ) (l : code.Left) → i < length xs → l ≡ get_or xs i l → false ≡ is_left (left_view ts l) → all_left (lefts_after ts (drop i xs) []) ≡ false
left_stop ts xs i l h e k =
    ap (λ (x : List code.Left). all_left (lefts_after ts x [])) (next_at xs i l h e) ∙ left_after ts (drop (i + 1) xs) (left_view ts l ∷ [])
    ∙ and_false (all_left (lefts_after ts (drop (i + 1) xs) [])) (is_left (left_view ts l)) k

pub left_end : (ts : List Ty) (xs : List code.Left) (i : ℕ) → length xs ≤ i → all_left (lefts_after ts (drop i xs) []) ≡ true
left_end ts xs i h = ap (λ (x : List code.Left). all_left (lefts_after ts x [])) (past xs i h)

abbrev outside : List NamedTy → List (List Bind) → Walk
outside ns ss = record { names = ns; scopes = ss; next = 0; next_label = 0; vars = []; declared = []; used = []; lost = 0 }

outside_grown : (a b : Env) → Grows a b → walk_outside b ≡ walk_outside a
outside_grown a b g = ap (λ (ns : List NamedTy). outside ns (scopes_of b)) (names_grown a b g) ∙ ap (outside (names_of a)) (scopes_grown a b g)

-- ---- what is assigned

pub local_target : (t : TypeTable) (ts : List Ty) (g : target.Target) (u : TypeId) (n : ℕ) → target_view ts g ≡ core.to_place (tree_of ts u) (core.local_ n) → u.0 < size t → Keeps t ts → target_view ts g ≡ core.to_place (tree_of (places t) u) (core.local_ n)
local_target t ts g u n q l k = q ∙ ap (λ (x : Ty). core.to_place x (core.local_ n)) (k u l)

pub global_target : (t : TypeTable) (ts : List Ty) (g : target.Target) (u : TypeId) (n : ℕ) → target_view ts g ≡ core.to_place (tree_of ts u) (core.global n) → u.0 < size t → Keeps t ts → target_view ts g ≡ core.to_place (tree_of (places t) u) (core.global n)
global_target t ts g u n q l k = q ∙ ap (λ (x : Ty). core.to_place x (core.global n)) (k u l)

-- ---- one more stands before the others

pub before_view : (a b : Env) (e : t.Expr) (olds news : List code.Left) (l : code.Left) → news ≡ olds ++ l ∷ [] → left_view (types_of b) l ≡ left_of (walk_outside b) e → Grows a b → AllByRecursion (LeftBelow (size (table_of a))) olds
    → lefts_after (types_of b) news [] ≡ left_of (walk_outside b) e ∷ lefts_after (types_of a) olds []
before_view a b e olds news l p q g h =
    pushed_view (types_of b) olds news l p
    ∙ ap (λ (x : Left). x ∷ lefts_after (types_of b) olds []) q
    ∙ ap (λ (xs : List Left). left_of (walk_outside b) e ∷ xs) (lefts_kept (table_of a) (table_of b) olds g.kept h)

pub lefts_more : (a b : Env) (olds news : List code.Left) (l : code.Left) → news ≡ olds ++ l ∷ [] → Grows a b → AllByRecursion (LeftBelow (size (table_of a))) olds → LeftBelow (size (table_of b)) l → AllByRecursion (LeftBelow (size (table_of b))) news
lefts_more a b olds news l p g h k =
    subst (λ (x : List code.Left). AllByRecursion (LeftBelow (size (table_of b))) x) (sym p) (all_more (size (table_of b)) olds l (lefts_below (size (table_of a)) (size (table_of b)) olds g.counts h) k)

-- those from a place on, with the one before it
pub fill_left : (a b : Env) (es : List Expr) (left : ℕ) (e : Expr) (old new : List Left) → 0 < left → left ≤ length es → e ≡ get_or es (left - 1) e → Grows a b
    → new ≡ left_of (walk_outside b) (expr_view e) ∷ old → old ≡ lefts_of (walk_outside a) (map expr_view (drop left es)) → new ≡ lefts_of (walk_outside b) (map expr_view (drop (left - 1) es))
fill_left a b es left e old new z h q g p r =
    let back : (left - 1) + 1 ≡ left = omega arith in
    let d : drop (left - 1) es ≡ e ∷ drop left es = next_at es (left - 1) e (omega arith) q ∙ ap (λ (n : ℕ). e ∷ drop n es) back in
    p
    ∙ ap (λ (x : List Left). left_of (walk_outside b) (expr_view e) ∷ x) (r ∙ sym (ap (λ (w : Walk). lefts_of w (map expr_view (drop left es))) (outside_grown a b g)))
    ∙ sym (ap (λ (x : List Expr). lefts_of (walk_outside b) (map expr_view x)) d)

-- a name that is no variable, before and after it is typed
pub named_wrong : (a b : Env) (e : t.Expr) (x : List ℕ) (l : Left) → Grows a b → None ≡ spot_of (lookup x (scopes_of a)) → l ≡ left_declared (walk_outside b) e None → l ≡ left_declared (walk_outside b) e (lookup x (scopes_of b))
named_wrong a b e x l g h k = not_declared (walk_outside b) e (lookup x (scopes_of b)) l (h ∙ sym (ap (λ (ss : List (List Bind)). spot_of (lookup x ss)) (scopes_grown a b g))) k

-- in the environment before
pub lefts_outside : (a b : Env) (ls : List Left) (es : List t.Expr) → Grows a b → ls ≡ lefts_of (walk_outside b) es → ls ≡ lefts_of (walk_outside a) es
lefts_outside a b ls es g h = h ∙ ap (λ (w : Walk). lefts_of w es) (outside_grown a b g)
