-- Names on the left by their text, and in a list where the last one is held first.
use Rattle.std.proofs.Common.{arith, ◌≡◌, ◌<◌, ◌≤◌, ◌+◌, ◌-◌, ℕ, ◌∙◌, refl, sym, ap, subst, zero, suc, List, [], ◌∷◌, ◌++◌, length, map, drop, get_or, Bool, true, false, ◌&&◌}
use Rattle.std.specs.Prelude.{Option, Some, None, MatchOption, option_to_list, if◌then◌else◌}
use Rattle.std.specs.List.{AllByRecursion}
use Rattle.std.proofs.Math.Seq.{drop-cons}
use Rattle.gj_base.specs.declared.place.Place.{Place}
use Rattle.go_syntax.specs.Tree as t
use Rattle.go_syntax.specs.Tree.{NameExpr, IntExpr, RuneExpr, StrExpr, ParenExpr, UnaryExpr, BinaryExpr, SelectExpr, IndexExpr, SliceExpr, AssertExpr, CallExpr, LiteralExpr, FuncExpr, ArrayType, SliceType, StructType, FuncType, InterfaceType, MapType, ChanType}
use Rattle.go_syntax.specs.View.{expr_view}
use Rattle.go_syntax.specs.declared.tree.Expr.{Expr}
use Rattle.go_syntax.specs.declared.tree.Name.{Name}
use Rattle.go_type.specs.Tree.{Ty}
use Rattle.go_type.specs.Named.{NamedTy}
use Rattle.go_type.specs.Table.{places, size, KeepsTrees}
use Rattle.go_type.specs.declared.table.TypeTable.{TypeTable}
use Rattle.go_core.specs.CoreTree as core
use Rattle.go_typing.specs.Env.{Bind, is_blank}
use Rattle.go_typing.specs.Typing.{place_of}
use Rattle.go_operands.specs.declared.scopes.env.Env.{Env}
use Rattle.go_operands.specs.EnvView.{table_of}
use Rattle.go_calls.specs.Words.{types_of, names_of, scopes_of}
use Rattle.go_typing.specs.Walk as go
use Rattle.go_typing.specs.Walk.{is_there}
use Rattle.go_typing.specs.Assign.{Left, left_place, left_of, fresh_by, blank_name, name_of}
use Rattle.go_walk.specs.WalkView.{walk_outside, depth}
use Rattle.go_walk.specs.declared.walk.walk.Walk.{Walk}
use Rattle.go_expr.specs.Raw.{Grows}
use Rattle.go_assign.specs.Moves.{Stays}
use Rattle.go_assign.proofs.WalkLemmas.{names_grown, scopes_grown, depth_grown, grows_not}
use Rattle.go_assign.specs.declared.assign.left.Left as code_left
use Rattle.go_assign.specs.declared.assign.left.Left.TheVariants as left
use Rattle.go_assign.specs.LeftView.{left_view, LeftBelow}
use Rattle.go_define.specs.declared.define.fresh.Fresh as code
use Rattle.go_define.specs.declared.define.fresh.Fresh.TheVariants as fresh
use Rattle.go_define.specs.FreshView.{Spot, new_spot, old_spot, blank_spot, other_spot, spot_by, spot_of, spots_of, fresh_view, fresh_after, FreshBelow, plain_name, is_new_spot, any_new_spot, spot_typed, spots_typed}

pub stays_not : (w : Walk) → Stays w w
stays_not w = record { grows = grows_not w.env; walk = λ ts. refl }

pub depth_kept : (a b : Walk) → Stays a b → 0 < depth a → 0 < depth b
depth_kept a b s h = let e : depth b ≡ depth a = depth_grown a.env b.env s.grows in omega (arith, e, h)

abbrev outside : List NamedTy → List (List Bind) → go.Walk
outside ns ss = record { names = ns; scopes = ss; next = 0; next_label = 0; vars = []; declared = []; used = []; lost = 0 }

pub outside_grown : (a b : Env) → Grows a b → walk_outside b ≡ walk_outside a
outside_grown a b g = ap (λ (ns : List NamedTy). outside ns (scopes_of b)) (names_grown a b g) ∙ ap (outside (names_of a)) (scopes_grown a b g)

-- ---- one name

pub old_view : (a b : Env) (l : Left) (e : t.Expr) → Grows a b → l ≡ left_of (walk_outside b) e → old_spot l ≡ old_spot (left_of (walk_outside a) e)
old_view a b l e g h = ap old_spot (h ∙ ap (λ (w : go.Walk). left_of w e) (outside_grown a b g))

abbrev by_there : go.Walk → t.Expr → Name → Option Place → Spot
by_there w e n None = new_spot n
by_there w e n (Some q) = old_spot (left_of w e)

abbrev by_name : go.Walk → t.Expr → Place → List ℕ → Spot
by_name w e p x = if is_blank x then blank_spot else by_there w e (name_of p x) (is_there (name_of p x) w)

chosen : (w : go.Walk) (at : Place) (y : List ℕ) (b : Bool) (o : Option Place) → spot_by w (if b then blank_name else fresh_by at y o) ≡ (if b then blank_spot else by_there w (NameExpr at y) (name_of at y) o)
chosen w at y true o = refl
chosen w at y false None = refl
chosen w at y false (Some q) = refl

abbrev or_none : List ℕ → Option (List ℕ) → List ℕ
or_none x None = x
or_none x (Some y) = y

spot_named : (w : go.Walk) (e : t.Expr) (x : List ℕ) → Some x ≡ plain_name e → by_name w e (place_of e) x ≡ spot_of w e
spot_named w (NameExpr at y) x h = ap (by_name w (NameExpr at y) at) (ap (or_none x) h) ∙ sym (chosen w at y (is_blank y) (is_there (name_of at y) w))
spot_named w (ParenExpr at e) x h = absurd (cc)
spot_named w (IntExpr at y) x h = absurd (cc)
spot_named w (RuneExpr at y) x h = absurd (cc)
spot_named w (StrExpr at y) x h = absurd (cc)
spot_named w (UnaryExpr at op e) x h = absurd (cc)
spot_named w (BinaryExpr at e op f) x h = absurd (cc)
spot_named w (SelectExpr at e name) x h = absurd (cc)
spot_named w (IndexExpr at e i) x h = absurd (cc)
spot_named w (SliceExpr at e low high most) x h = absurd (cc)
spot_named w (AssertExpr at e u) x h = absurd (cc)
spot_named w (CallExpr at f xs spread) x h = absurd (cc)
spot_named w (LiteralExpr at u es) x h = absurd (cc)
spot_named w (FuncExpr at sig b) x h = absurd (cc)
spot_named w (ArrayType at m u) x h = absurd (cc)
spot_named w (SliceType at u) x h = absurd (cc)
spot_named w (StructType at fs) x h = absurd (cc)
spot_named w (FuncType at sig) x h = absurd (cc)
spot_named w (InterfaceType at ms) x h = absurd (cc)
spot_named w (MapType at k u) x h = absurd (cc)
spot_named w (ChanType at d u) x h = absurd (cc)

abbrev pick : go.Walk → t.Expr → Name → Bool → Option Place → Spot
pick w e n b o = if b then blank_spot else by_there w e n o

pub blank_view : (w : go.Walk) (e : t.Expr) (x : List ℕ) → Some x ≡ plain_name e → true ≡ is_blank x → blank_spot ≡ spot_of w e
blank_view w e x h b = ap (λ (c : Bool). pick w e (name_of (place_of e) x) c (is_there (name_of (place_of e) x) w)) b ∙ spot_named w e x h

-- not `_`, by whether its scope has it
named_by : (w : go.Walk) (e : t.Expr) (x : List ℕ) (n : Name) (o : Option Place) → Some x ≡ plain_name e → false ≡ is_blank x → n ≡ name_of (place_of e) x → o ≡ is_there n w → by_there w e n o ≡ spot_of w e
named_by w e x n o h b p q =
    ap (by_there w e n) q
    ∙ ap (λ (m : Name). by_there w e m (is_there m w)) p
    ∙ ap (λ (c : Bool). pick w e (name_of (place_of e) x) c (is_there (name_of (place_of e) x) w)) b
    ∙ spot_named w e x h

pub named_new : (w : go.Walk) (e : t.Expr) (x : List ℕ) (n : Name) → Some x ≡ plain_name e → false ≡ is_blank x → n ≡ name_of (place_of e) x → None ≡ is_there n w → new_spot n ≡ spot_of w e
named_new w e x n h b p q = named_by w e x n None h b p q

pub named_old : (w : go.Walk) (e : t.Expr) (x : List ℕ) (n : Name) (at : Place) (s : Spot) → Some x ≡ plain_name e → false ≡ is_blank x → n ≡ name_of (place_of e) x → Some at ≡ is_there n w → s ≡ old_spot (left_of w e) → s ≡ spot_of w e
named_old w e x n at s h b p q k = k ∙ named_by w e x n (Some at) h b p q

pub other_view : (w : go.Walk) (e : t.Expr) → None ≡ plain_name e → other_spot ≡ spot_of w e
other_view w (NameExpr at y) h = absurd (cc)
other_view w (ParenExpr at e) h = refl
other_view w (IntExpr at y) h = refl
other_view w (RuneExpr at y) h = refl
other_view w (StrExpr at y) h = refl
other_view w (UnaryExpr at op e) h = refl
other_view w (BinaryExpr at e op f) h = refl
other_view w (SelectExpr at e name) h = refl
other_view w (IndexExpr at e i) h = refl
other_view w (SliceExpr at e low high most) h = refl
other_view w (AssertExpr at e u) h = refl
other_view w (CallExpr at f xs spread) h = refl
other_view w (LiteralExpr at u es) h = refl
other_view w (FuncExpr at sig b) h = refl
other_view w (ArrayType at m u) h = refl
other_view w (SliceType at u) h = refl
other_view w (StructType at fs) h = refl
other_view w (FuncType at sig) h = refl
other_view w (InterfaceType at ms) h = refl
other_view w (MapType at k u) h = refl
other_view w (ChanType at d u) h = refl

-- ---- the table grows

abbrev at_local : ℕ → Ty → Left
at_local n u = left_place (core.local_ n) u

abbrev at_global : ℕ → Ty → Left
at_global n u = left_place (core.global n) u

left_kept : (a b : TypeTable) (l : code_left.Left) → KeepsTrees a b → LeftBelow (size a) l → left_view (places b) l ≡ left_view (places a) l
left_kept a b left.Blank k h = refl
left_kept a b (left.Local v u) k h = ap (at_local v.0) (k u h)
left_kept a b (left.Global n u) k h = ap (at_global n) (k u h)
left_kept a b (left.Wrong fs) k h = refl

left_below : (m n : ℕ) (l : code_left.Left) → m ≤ n → LeftBelow m l → LeftBelow n l
left_below m n left.Blank k h = tt
left_below m n (left.Local v u) k h = omega (arith, k, h)
left_below m n (left.Global i u) k h = omega (arith, k, h)
left_below m n (left.Wrong fs) k h = tt

fresh_kept : (a b : TypeTable) (f : code.Fresh) → KeepsTrees a b → FreshBelow (size a) f → fresh_view (places b) f ≡ fresh_view (places a) f
fresh_kept a b (fresh.New n) k h = refl
fresh_kept a b (fresh.Old l) k h = ap old_spot (left_kept a b l k h)
fresh_kept a b fresh.Blank k h = refl
fresh_kept a b fresh.Other k h = refl

fresh_below : (m n : ℕ) (f : code.Fresh) → m ≤ n → FreshBelow m f → FreshBelow n f
fresh_below m n (fresh.New x) k h = tt
fresh_below m n (fresh.Old l) k h = left_below m n l k h
fresh_below m n fresh.Blank k h = tt
fresh_below m n fresh.Other k h = tt

freshes_kept_after : (a b : TypeTable) (fs : List code.Fresh) (after : List Spot) → KeepsTrees a b → AllByRecursion (FreshBelow (size a)) fs → fresh_after (places b) fs after ≡ fresh_after (places a) fs after
freshes_kept_after a b [] after k h = refl
freshes_kept_after a b (f ∷ fs) after k h =
    ap (λ (x : Spot). fresh_after (places b) fs (x ∷ after)) (fresh_kept a b f k h.0) ∙ freshes_kept_after a b fs (fresh_view (places a) f ∷ after) k h.1

pub freshes_kept : (a b : TypeTable) (fs : List code.Fresh) → KeepsTrees a b → AllByRecursion (FreshBelow (size a)) fs → fresh_after (places b) fs [] ≡ fresh_after (places a) fs []
freshes_kept a b fs k h = freshes_kept_after a b fs [] k h

pub freshes_below : (m n : ℕ) (fs : List code.Fresh) → m ≤ n → AllByRecursion (FreshBelow m) fs → AllByRecursion (FreshBelow n) fs
freshes_below m n [] k h = tt
freshes_below m n (f ∷ fs) k h = (fresh_below m n f k h.0, freshes_below m n fs k h.1)

-- ---- the last one is held first

pushed : (ts : List Ty) (fs : List code.Fresh) (f : code.Fresh) (after : List Spot) → fresh_after ts (fs ++ f ∷ []) after ≡ fresh_view ts f ∷ fresh_after ts fs after
pushed ts [] f after = refl
pushed ts (g ∷ fs) f after = pushed ts fs f (fresh_view ts g ∷ after)

pushed_view : (ts : List Ty) (old new : List code.Fresh) (f : code.Fresh) → new ≡ old ++ f ∷ [] → fresh_after ts new [] ≡ fresh_view ts f ∷ fresh_after ts old []
pushed_view ts old new f p = ap (λ (x : List code.Fresh). fresh_after ts x []) p ∙ pushed ts old f []

all_more : (n : ℕ) (fs : List code.Fresh) (f : code.Fresh) → AllByRecursion (FreshBelow n) fs → FreshBelow n f → AllByRecursion (FreshBelow n) (fs ++ f ∷ [])
all_more n [] f h k = (k, tt)
all_more n (x ∷ fs) f h k = (h.0, all_more n fs f h.1 k)

pub before_view : (a b : Walk) (s : Spot) (olds news : List code.Fresh) (f : code.Fresh) → news ≡ olds ++ f ∷ [] → fresh_view (types_of b.env) f ≡ s → Stays a b → AllByRecursion (FreshBelow (size (table_of a.env))) olds
    → fresh_after (types_of b.env) news [] ≡ s ∷ fresh_after (types_of a.env) olds []
before_view a b s olds news f p q g h =
    pushed_view (types_of b.env) olds news f p
    ∙ ap (λ (x : Spot). x ∷ fresh_after (types_of b.env) olds []) q
    ∙ ap (λ (xs : List Spot). s ∷ xs) (freshes_kept (table_of a.env) (table_of b.env) olds g.grows.kept h)

pub before_within : (a b : Walk) (olds news : List code.Fresh) (f : code.Fresh) → news ≡ olds ++ f ∷ [] → Stays a b → AllByRecursion (FreshBelow (size (table_of a.env))) olds → FreshBelow (size (table_of b.env)) f
    → AllByRecursion (FreshBelow (size (table_of b.env))) news
before_within a b olds news f p g h k =
    subst (λ (x : List code.Fresh). AllByRecursion (FreshBelow (size (table_of b.env))) x) (sym p)
    (all_more (size (table_of b.env)) olds f (freshes_below (size (table_of a.env)) (size (table_of b.env)) olds g.grows.counts h) k)

pub next_view : (ts : List Ty) (old new : List code.Fresh) (o : Option code.Fresh) → old ≡ new ++ option_to_list o → MatchOption o ((length old ≡ 0) × (length new ≡ 0)) (λ _. length new + 1 ≡ length old)
    → MatchOption o (fresh_after ts old [] ≡ []) (λ f. fresh_after ts old [] ≡ fresh_view ts f ∷ fresh_after ts new [])
next_view ts [] new None p h = refl
next_view ts (f ∷ fs) new None p h = let z = h.0 in absurd (omega arith)
next_view ts old new (Some f) p h = pushed_view ts new old f p

pub next_count : (old new : List code.Fresh) (o : Option code.Fresh) → MatchOption o ((length old ≡ 0) × (length new ≡ 0)) (λ _. length new + 1 ≡ length old) → MatchOption o (length old ≡ 0) (λ f. length new + 1 ≡ length old)
next_count old new None h = h.0
next_count old new (Some f) h = h

next_at : {X : Type 0} (xs : List X) (i : ℕ) (x : X) → i < length xs → x ≡ get_or xs i x → drop i xs ≡ x ∷ drop (i + 1) xs
next_at {X} xs i x h e =
    let one : suc i ≡ i + 1 = omega arith in
    drop-cons xs i x h ∙ ap (λ (y : X). y ∷ drop (suc i) xs) (sym e) ∙ ap (λ (n : ℕ). x ∷ drop n xs) one

past : {X : Type 0} (xs : List X) (i : ℕ) → length xs ≤ i → drop i xs ≡ []
past [] zero h = refl
past [] (suc i) h = refl
past (x ∷ xs) zero h = absurd (omega arith)
past (x ∷ xs) (suc i) h = past xs i (omega arith)

-- those from a place on, with the one before it
pub fill_view : (a b : Walk) (es : List Expr) (left : ℕ) (e : Expr) (old new : List Spot) → 0 < left → left ≤ length es → e ≡ get_or es (left - 1) e → Stays a b → new ≡ spot_of (walk_outside b.env) (expr_view e) ∷ old
    → old ≡ spots_of (walk_outside a.env) (map expr_view (drop left es)) → new ≡ spots_of (walk_outside a.env) (map expr_view (drop (left - 1) es))
fill_view a b es left e old new z h q g p r =
    let back : (left - 1) + 1 ≡ left = omega arith in
    let d : drop (left - 1) es ≡ e ∷ drop left es = next_at es (left - 1) e (omega arith) q ∙ ap (λ (n : ℕ). e ∷ drop n es) back in
    p
    ∙ ap (λ (w : go.Walk). spot_of w (expr_view e) ∷ old) (outside_grown a.env b.env g.grows)
    ∙ ap (λ (x : List Spot). spot_of (walk_outside a.env) (expr_view e) ∷ x) r
    ∙ sym (ap (λ (x : List Expr). spots_of (walk_outside a.env) (map expr_view x)) d)

-- ---- whether one is new

abbrev either : Bool → Bool → Bool
either a b = if a then true else b

regrouped : (k a b : Bool) → either k (either a b) ≡ either (either k (either a false)) b
regrouped true a b = refl
regrouped false true b = refl
regrouped false false b = refl

any_after : (ts : List Ty) (fs : List code.Fresh) (after : List Spot) → any_new_spot (fresh_after ts fs after) ≡ either (any_new_spot (fresh_after ts fs [])) (any_new_spot after)
any_after ts [] after = refl
any_after ts (f ∷ fs) after =
    any_after ts fs (fresh_view ts f ∷ after) ∙ regrouped (any_new_spot (fresh_after ts fs [])) (is_new_spot (fresh_view ts f)) (any_new_spot after)
    ∙ ap (λ (b : Bool). either b (any_new_spot after)) (sym (any_after ts fs (fresh_view ts f ∷ [])))

or_not : (k b : Bool) → false ≡ b → either k (either b false) ≡ k
or_not true b h = refl
or_not false false h = refl
or_not false true h = absurd (cc)

or_is : (k b : Bool) → true ≡ b → either k (either b false) ≡ true
or_is true b h = refl
or_is false true h = refl
or_is false false h = absurd (cc)

pub new_step : (ts : List Ty) (xs : List code.Fresh) (i : ℕ) (f : code.Fresh) → i < length xs → f ≡ get_or xs i f → false ≡ is_new_spot (fresh_view ts f) → any_new_spot (fresh_after ts (drop i xs) []) ≡ any_new_spot (fresh_after ts (drop (i + 1) xs) [])
new_step ts xs i f h e k =
    ap (λ (x : List code.Fresh). any_new_spot (fresh_after ts x [])) (next_at xs i f h e) ∙ any_after ts (drop (i + 1) xs) (fresh_view ts f ∷ [])
    ∙ or_not (any_new_spot (fresh_after ts (drop (i + 1) xs) [])) (is_new_spot (fresh_view ts f)) k

pub new_stop : (ts : List Ty) (xs : List code.Fresh) (i : ℕ) (f : code.Fresh) → i < length xs → f ≡ get_or xs i f → true ≡ is_new_spot (fresh_view ts f) → any_new_spot (fresh_after ts (drop i xs) []) ≡ true
new_stop ts xs i f h e k =
    ap (λ (x : List code.Fresh). any_new_spot (fresh_after ts x [])) (next_at xs i f h e) ∙ any_after ts (drop (i + 1) xs) (fresh_view ts f ∷ [])
    ∙ or_is (any_new_spot (fresh_after ts (drop (i + 1) xs) [])) (is_new_spot (fresh_view ts f)) k

pub new_end : (ts : List Ty) (xs : List code.Fresh) (i : ℕ) → length xs ≤ i → any_new_spot (fresh_after ts (drop i xs) []) ≡ false
new_end ts xs i h = ap (λ (x : List code.Fresh). any_new_spot (fresh_after ts x [])) (past xs i h)

-- ---- whether all are typed

grouped : (k a b : Bool) → (k && (a && b)) ≡ ((k && (a && true)) && b)
grouped true true b = refl
grouped true false b = refl
grouped false a b = refl

typed_after : (ts : List Ty) (fs : List code.Fresh) (after : List Spot) → spots_typed (fresh_after ts fs after) ≡ (spots_typed (fresh_after ts fs []) && spots_typed after)
typed_after ts [] after = refl
typed_after ts (f ∷ fs) after =
    typed_after ts fs (fresh_view ts f ∷ after) ∙ grouped (spots_typed (fresh_after ts fs [])) (spot_typed (fresh_view ts f)) (spots_typed after)
    ∙ ap (λ (b : Bool). b && spots_typed after) (sym (typed_after ts fs (fresh_view ts f ∷ [])))

and_is : (k b : Bool) → true ≡ b → (k && (b && true)) ≡ k
and_is true true h = refl
and_is false b h = refl
and_is true false h = absurd (cc)

and_not : (k b : Bool) → false ≡ b → (k && (b && true)) ≡ false
and_not true false h = refl
and_not false b h = refl
and_not true true h = absurd (cc)

pub typed_step : (ts : List Ty) (xs : List code.Fresh) (i : ℕ) (f : code.Fresh) → i < length xs → f ≡ get_or xs i f → true ≡ spot_typed (fresh_view ts f) → spots_typed (fresh_after ts (drop i xs) []) ≡ spots_typed (fresh_after ts (drop (i + 1) xs) [])
typed_step ts xs i f h e k =
    ap (λ (x : List code.Fresh). spots_typed (fresh_after ts x [])) (next_at xs i f h e) ∙ typed_after ts (drop (i + 1) xs) (fresh_view ts f ∷ [])
    ∙ and_is (spots_typed (fresh_after ts (drop (i + 1) xs) [])) (spot_typed (fresh_view ts f)) k

pub typed_stop : (ts : List Ty) (xs : List code.Fresh) (i : ℕ) (f : code.Fresh) → i < length xs → f ≡ get_or xs i f → false ≡ spot_typed (fresh_view ts f) → spots_typed (fresh_after ts (drop i xs) []) ≡ false
typed_stop ts xs i f h e k =
    ap (λ (x : List code.Fresh). spots_typed (fresh_after ts x [])) (next_at xs i f h e) ∙ typed_after ts (drop (i + 1) xs) (fresh_view ts f ∷ [])
    ∙ and_not (spots_typed (fresh_after ts (drop (i + 1) xs) [])) (spot_typed (fresh_view ts f)) k

pub typed_end : (ts : List Ty) (xs : List code.Fresh) (i : ℕ) → length xs ≤ i → spots_typed (fresh_after ts (drop i xs) []) ≡ true
typed_end ts xs i h = ap (λ (x : List code.Fresh). spots_typed (fresh_after ts x [])) (past xs i h)
