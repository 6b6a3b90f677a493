-- Expressions that may be typed, over a table that grows.
use Rattle.std.proofs.Common.{arith, ◌≡◌, ◌<◌, ◌≤◌, ◌+◌, ◌-◌, ℕ, zero, suc, ◌∙◌, refl, sym, subst, List, [], ◌∷◌, ◌++◌, Option, Some, None, length, drop, take, map, get_or, ap}
use Rattle.std.specs.Prelude.{IfSome}
use Rattle.std.proofs.lemmas.List.{take_more, map-append}
use Rattle.go_syntax.specs.View.{expr_view}
use Rattle.go_syntax.specs.declared.tree.Expr as code
use Rattle.go_typing.specs.Scopes.{visible}
use Rattle.go_operands.specs.declared.scopes.env.Env.{Env}
use Rattle.go_operands.specs.EnvView.{table_of}
use Rattle.go_calls.specs.Words.{scopes_of}
use Rattle.go_syntax.specs.Tree.{Expr, NameExpr, IntExpr, RuneExpr, StrExpr, ParenExpr, UnaryExpr, BinaryExpr, SelectExpr, IndexExpr, SliceExpr, AssertExpr, CallExpr, LiteralExpr, FuncExpr, ArrayType, SliceType, StructType, FuncType, InterfaceType, MapType, ChanType, MaybeExpr, NoExpr, AnExpr, Exprs, NoExprs, MoreExprs}
use Rattle.go_type.specs.Table.{size, KeepsTrees}
use Rattle.go_type.specs.declared.types.TypeId.{TypeId}
use Rattle.go_type.specs.declared.table.TypeTable.{TypeTable}
use Rattle.go_typing.specs.Env as env
use Rattle.go_typing.specs.Env.{Bind}
use Rattle.go_calls.specs.declared.callee.gives.Gives.{Gives}
use Rattle.go_calls.specs.Called.{name_in, one_name, called_in, called_in_bound, called_in_all}
use Rattle.go_calls.specs.ResultTypes.{gives_at, results_in, GivesThese, AreRight, AreGiven, CalleeGiven}
use Rattle.go_expr.specs.Ready.{NumbersFit, BoundFits, AllFit, IsReady, BoundReady, AllReady}
use Rattle.go_expr.specs.Raw as raws
use Rattle.go_expr.proofs.Steps.{next_at, dropped}

-- ---- one is ready once the functions that are called in it have their types
module _ (ss : List (List Bind)) (g : Gives) where
  first : (xs ys : List (List ℕ)) → AreGiven ss g (xs ++ ys) → AreGiven ss g xs
  first [] ys h = tt
  first (x ∷ xs) ys h = (h.0, first xs ys h.1)

  second : (xs ys : List (List ℕ)) → AreGiven ss g (xs ++ ys) → AreGiven ss g ys
  second [] ys h = h
  second (x ∷ xs) ys h = second xs ys h.1

  callee : (o : Option (List ℕ)) → AreGiven ss g (one_name o) → CalleeGiven ss g o
  callee None h = tt
  callee (Some x) h = h.0

  mutual
    pub ready : (e : Expr) → AreGiven ss g (called_in e) → NumbersFit e → IsReady ss g e
    ready (NameExpr at x) h n = tt
    ready (IntExpr at x) h n = n
    ready (RuneExpr at x) h n = tt
    ready (StrExpr at x) h n = tt
    ready (ParenExpr at x) h n = ready x h n
    ready (UnaryExpr at op x) h n = ready x h n
    ready (BinaryExpr at x op y) h n = (ready x (first (called_in x) (called_in y) h) n.0, ready y (second (called_in x) (called_in y) h) n.1)
    ready (SelectExpr at x name) h n = tt
    ready (IndexExpr at x i) h n = (ready x (first (called_in x) (called_in i) h) n.0, ready i (second (called_in x) (called_in i) h) n.1)
    ready (SliceExpr at x low high most) h n =
        let a = first ((called_in x ++ called_in_bound low) ++ called_in_bound high) (called_in_bound most) h in
        let b = first (called_in x ++ called_in_bound low) (called_in_bound high) a in (
          ready x (first (called_in x) (called_in_bound low) b) n.0,
          (
            bound_ready low (second (called_in x) (called_in_bound low) b) n.1.0,
            (bound_ready high (second (called_in x ++ called_in_bound low) (called_in_bound high) a) n.1.1.0, bound_ready most (second ((called_in x ++ called_in_bound low) ++ called_in_bound high) (called_in_bound most) h) n.1.1.1),
          ),
        )
    ready (AssertExpr at x t) h n = tt
    ready (CallExpr at f xs spread) h n =
        let a = first (one_name (name_in f) ++ called_in f) (called_in_all xs) h in (
          callee (name_in f) (first (one_name (name_in f)) (called_in f) a),
          (ready f (second (one_name (name_in f)) (called_in f) a) n.0, all_ready xs (second (one_name (name_in f) ++ called_in f) (called_in_all xs) h) n.1),
        )
    ready (LiteralExpr at t es) h n = tt
    ready (FuncExpr at sig b) h n = tt
    ready (ArrayType at m t) h n = tt
    ready (SliceType at t) h n = tt
    ready (StructType at fs) h n = tt
    ready (FuncType at sig) h n = tt
    ready (InterfaceType at ms) h n = tt
    ready (MapType at k t) h n = tt
    ready (ChanType at d t) h n = tt

    bound_ready : (e : MaybeExpr) → AreGiven ss g (called_in_bound e) → BoundFits e → BoundReady ss g e
    bound_ready NoExpr h n = tt
    bound_ready (AnExpr x) h n = ready x h n

    all_ready : (es : Exprs) → AreGiven ss g (called_in_all es) → AllFit es → AllReady ss g es
    all_ready NoExprs h n = tt
    all_ready (MoreExprs x xs) h n = (ready x (first (called_in x) (called_in_all xs) h) n.0, all_ready xs (second (called_in x) (called_in_all xs) h) n.1)

-- ---- the table grows

some_more : {X : Type 0} (P Q : X → Type 0) (o : Option X) → ((x : X) → P x → Q x) → IfSome o P → IfSome o Q
some_more P Q None h k = k
some_more P Q (Some x) h k = h x k

pub right_grown : (ss : List (List Bind)) (old new : TypeTable) (g : Gives) → KeepsTrees old new → size old ≤ size new → AreRight ss old g → AreRight ss new g
right_grown ss old new g k s h = record {
  right = λ x.
      some_more (GivesThese old (results_in (env.lookup x ss))) (GivesThese new (results_in (env.lookup x ss))) (gives_at x g)
      (λ t p. (below t p.0, k t p.0 ∙ p.1)) (h.right x);
}
  where
    below : (t : TypeId) → t.0 < size old → t.0 < size new
    below t p = omega (arith, s, p)

pub all_grown : (ss : List (List Bind)) (old new : TypeTable) (gs : List Gives) (es : List Expr) → KeepsTrees old new → size old ≤ size new → raws.AllReady ss old gs es → raws.AllReady ss new gs es
all_grown ss old new [] [] k s h = h
all_grown ss old new (g ∷ gs) [] k s h = h
all_grown ss old new [] (e ∷ es) k s h = h
all_grown ss old new (g ∷ gs) (e ∷ es) k s h = ((right_grown ss old new g k s h.0.0, h.0.1), all_grown ss old new gs es k s h.1)

pub one_more : (ss : List (List Bind)) (table : TypeTable) (gs : List Gives) (es : List Expr) (g : Gives) (e : Expr) → raws.AllReady ss table gs es → AreRight ss table g → IsReady ss g e → raws.AllReady ss table (gs ++ g ∷ []) (es ++ e ∷ [])
one_more ss table [] [] g e h r i = ((r, i), tt)
one_more ss table (f ∷ gs) [] g e h r i = absurd h
one_more ss table [] (d ∷ es) g e h r i = absurd h
one_more ss table (f ∷ gs) (d ∷ es) g e h r i = (h.0, one_more ss table gs es g e h.1 r i)

pub as_many : (ss : List (List Bind)) (table : TypeTable) (gs : List Gives) (es : List Expr) → raws.AllReady ss table gs es → length gs ≡ length es
as_many ss table [] [] h = refl
as_many ss table (g ∷ gs) [] h = absurd h
as_many ss table [] (e ∷ es) h = absurd h
as_many ss table (g ∷ gs) (e ∷ es) h = ap suc (as_many ss table gs es h.1)

from : (ss : List (List Bind)) (table : TypeTable) (i : ℕ) (gs : List Gives) (es : List Expr) → raws.AllReady ss table gs es → raws.AllReady ss table (drop i gs) (drop i es)
from ss table zero gs es h = h
from ss table (suc i) [] [] h = h
from ss table (suc i) (g ∷ gs) [] h = absurd h
from ss table (suc i) [] (e ∷ es) h = absurd h
from ss table (suc i) (g ∷ gs) (e ∷ es) h = from ss table i gs es h.1

-- one of them, by what is left from it on
pub at_place : (ss : List (List Bind)) (table : TypeTable) (i : ℕ) (gs : List Gives) (es : List Expr) (g : Gives) (e : Expr) (hs : List Gives) (ds : List Expr) → drop i gs ≡ g ∷ hs → drop i es ≡ e ∷ ds → raws.AllReady ss table gs es
    → AreRight ss table g × IsReady ss g e
at_place ss table i gs es g e hs ds p q h =
    (subst (λ (x : List Expr). raws.AllReady ss table (g ∷ hs) x) q (subst (λ (x : List Gives). raws.AllReady ss table x (drop i es)) p (from ss table i gs es h))).0

-- one more, where the environment grew for it
pub ready_step : (a b : Env) (fs gs : List Gives) (g : Gives) (es : List code.Expr) (i : ℕ) (e : code.Expr) → raws.Grows a b → gs ≡ fs ++ g ∷ [] → i < length es → e ≡ get_or es i e
    → raws.AllReady (scopes_of a) (table_of a) fs (map expr_view (take i es)) → AreRight (scopes_of b) (table_of b) g → IsReady (scopes_of b) g (expr_view e)
    → raws.AllReady (scopes_of b) (table_of b) gs (map expr_view (take (i + 1) es))
ready_step a b fs gs g es i e grown p l q h r k =
    let ss : scopes_of a ≡ scopes_of b = ap visible (sym grown.env) in
    let h1 = all_grown (scopes_of a) (table_of a) (table_of b) fs (map expr_view (take i es)) grown.kept grown.counts h in
    let h2 = subst (λ (x : List (List Bind)). raws.AllReady x (table_of b) fs (map expr_view (take i es))) ss h1 in
    let h3 = one_more (scopes_of b) (table_of b) fs (map expr_view (take i es)) g (expr_view e) h2 r k in
    let t : take (i + 1) es ≡ take i es ++ e ∷ [] = take_more es i e l ∙ ap (λ (x : code.Expr). take i es ++ x ∷ []) (sym q) in
    let m : map expr_view (take (i + 1) es) ≡ map expr_view (take i es) ++ expr_view e ∷ [] = ap (map expr_view) t ∙ map-append expr_view (take i es) (e ∷ []) in
    let h4 = subst (λ (x : List Gives). raws.AllReady (scopes_of b) (table_of b) x (map expr_view (take i es) ++ expr_view e ∷ [])) (sym p) h3 in
    subst (λ (x : List Expr). raws.AllReady (scopes_of b) (table_of b) gs x) (sym m) h4

counted : {X Y : Type 0} (f : X → Y) (xs : List X) → length (map f xs) ≡ length xs
counted f [] = refl
counted f (x ∷ xs) = ap suc (counted f xs)

-- the one before a place
pub bound_at : (ss : List (List Bind)) (table : TypeTable) (gs : List Gives) (es : List code.Expr) (left : ℕ) → raws.AllReady ss table gs (map expr_view es) → 0 < left → left ≤ length es → left - 1 < length gs
bound_at ss table gs es left h z k = let a = as_many ss table gs (map expr_view es) h in let b = counted expr_view es in omega (arith, a, b, z, k)

both_at : (ss : List (List Bind)) (table : TypeTable) (gs : List Gives) (es : List code.Expr) (i : ℕ) (g : Gives) (e : code.Expr) → raws.AllReady ss table gs (map expr_view es) → i < length gs → i < length es → g ≡ get_or gs i g → e ≡ get_or es i e
    → AreRight ss table g × IsReady ss g (expr_view e)
both_at ss table gs es i g e h l k p q =
    at_place ss table i gs (map expr_view es) g (expr_view e) (drop (i + 1) gs) (map expr_view (drop (i + 1) es)) (next_at gs i g l p)
    (dropped expr_view i es ∙ ap (map expr_view) (next_at es i e k q)) h

pub right_at : (ss : List (List Bind)) (table : TypeTable) (gs : List Gives) (es : List code.Expr) (i : ℕ) (g : Gives) (e : code.Expr) → raws.AllReady ss table gs (map expr_view es) → i < length gs → i < length es → g ≡ get_or gs i g → e ≡ get_or es i e
    → AreRight ss table g
right_at ss table gs es i g e h l k p q = (both_at ss table gs es i g e h l k p q).0

pub ready_at : (ss : List (List Bind)) (table : TypeTable) (gs : List Gives) (es : List code.Expr) (i : ℕ) (g : Gives) (e : code.Expr) → raws.AllReady ss table gs (map expr_view es) → i < length gs → i < length es → g ≡ get_or gs i g → e ≡ get_or es i e
    → IsReady ss g (expr_view e)
ready_at ss table gs es i g e h l k p q = (both_at ss table gs es i g e h l k p q).1

-- what was ready stays so where the environment grows
pub right_kept : (a b : Env) (g : Gives) → raws.Grows a b → AreRight (scopes_of a) (table_of a) g → AreRight (scopes_of b) (table_of b) g
right_kept a b g k h =
    let ss : scopes_of a ≡ scopes_of b = ap visible (sym k.env) in
    subst (λ (x : List (List Bind)). AreRight x (table_of b) g) ss (right_grown (scopes_of a) (table_of a) (table_of b) g k.kept k.counts h)

pub ready_kept : (a b : Env) (g : Gives) (e : Expr) → raws.Grows a b → IsReady (scopes_of a) g e → IsReady (scopes_of b) g e
ready_kept a b g e k h =
    let ss : scopes_of a ≡ scopes_of b = ap visible (sym k.env) in
    subst (λ (x : List (List Bind)). IsReady x g e) ss h
