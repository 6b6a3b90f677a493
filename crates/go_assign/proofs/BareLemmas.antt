-- Left sides by the name that stands in their parentheses.
use Rattle.std.proofs.Common.{◌≡◌, ℕ, ◌∙◌, refl, ap, List, Option, Some, None, Bool, true, false}
use Rattle.std.specs.Prelude.{if◌then◌else◌}
use Rattle.go_syntax.specs.Tree.{Expr, NameExpr, IntExpr, RuneExpr, StrExpr, ParenExpr, UnaryExpr, BinaryExpr, SelectExpr, IndexExpr, SliceExpr, AssertExpr, CallExpr, LiteralExpr, FuncExpr, ArrayType, SliceType, StructType, FuncType, InterfaceType, MapType, ChanType}
use Rattle.go_typing.specs.Env.{lookup, is_blank}
use Rattle.go_typing.specs.Walk.{Walk}
use Rattle.go_typing.specs.Assign.{Left, left_blank, left_declared, left_of, is_name}
use Rattle.go_assign.specs.LeftView.{bare, bare_name}

-- ---- names

abbrev is_some : Option (List ℕ) → Bool
is_some None = false
is_some (Some x) = true

name_is : (e : Expr) → is_some (bare_name e) ≡ is_name e
name_is (NameExpr at x) = refl
name_is (ParenExpr at x) = name_is x
name_is (IntExpr at x) = refl
name_is (RuneExpr at x) = refl
name_is (StrExpr at x) = refl
name_is (UnaryExpr at op x) = refl
name_is (BinaryExpr at x op y) = refl
name_is (SelectExpr at x name) = refl
name_is (IndexExpr at x i) = refl
name_is (SliceExpr at x low high most) = refl
name_is (AssertExpr at x t) = refl
name_is (CallExpr at f xs spread) = refl
name_is (LiteralExpr at t es) = refl
name_is (FuncExpr at sig b) = refl
name_is (ArrayType at m t) = refl
name_is (SliceType at t) = refl
name_is (StructType at fs) = refl
name_is (FuncType at sig) = refl
name_is (InterfaceType at ms) = refl
name_is (MapType at k t) = refl
name_is (ChanType at d t) = refl

pub name_some : (e : Expr) (x : List ℕ) → Some x ≡ bare_name e → true ≡ is_name e
name_some e x h = ap is_some h ∙ name_is e

pub name_none : (e : Expr) → None ≡ bare_name e → false ≡ is_name e
name_none e h = ap is_some h ∙ name_is e

-- ---- left sides

abbrev left_by : Walk → Expr → Option (List ℕ) → Left
left_by w e None = left_declared w e None
left_by w e (Some x) = if is_blank x then left_blank else left_declared w e (lookup x w.scopes)

left_bare : (w : Walk) (e : Expr) → left_by w (bare e) (bare_name e) ≡ left_of w e
left_bare w (NameExpr at x) = refl
left_bare w (ParenExpr at x) = left_bare w x
left_bare w (IntExpr at x) = refl
left_bare w (RuneExpr at x) = refl
left_bare w (StrExpr at x) = refl
left_bare w (UnaryExpr at op x) = refl
left_bare w (BinaryExpr at x op y) = refl
left_bare w (SelectExpr at x name) = refl
left_bare w (IndexExpr at x i) = refl
left_bare w (SliceExpr at x low high most) = refl
left_bare w (AssertExpr at x t) = refl
left_bare w (CallExpr at f xs spread) = refl
left_bare w (LiteralExpr at t es) = refl
left_bare w (FuncExpr at sig b) = refl
left_bare w (ArrayType at m t) = refl
left_bare w (SliceType at t) = refl
left_bare w (StructType at fs) = refl
left_bare w (FuncType at sig) = refl
left_bare w (InterfaceType at ms) = refl
left_bare w (MapType at k t) = refl
left_bare w (ChanType at d t) = refl

abbrev pick : Walk → Expr → List ℕ → Bool → Left
pick w e x b = if b then left_blank else left_declared w e (lookup x w.scopes)

pub left_is_blank : (w : Walk) (e : Expr) (x : List ℕ) → Some x ≡ bare_name e → true ≡ is_blank x → left_blank ≡ left_of w e
left_is_blank w e x p q = ap (pick w (bare e) x) q ∙ ap (left_by w (bare e)) p ∙ left_bare w e

pub left_is_named : (w : Walk) (e d : Expr) (x : List ℕ) (l : Left) → Some x ≡ bare_name e → d ≡ bare e → false ≡ is_blank x → l ≡ left_declared w d (lookup x w.scopes) → l ≡ left_of w e
left_is_named w e d x l p s q h = h ∙ ap (λ (c : Expr). left_declared w c (lookup x w.scopes)) s ∙ ap (pick w (bare e) x) q ∙ ap (left_by w (bare e)) p ∙ left_bare w e

pub left_no_name : (w : Walk) (e d : Expr) (l : Left) → None ≡ bare_name e → d ≡ bare e → l ≡ left_declared w d None → l ≡ left_of w e
left_no_name w e d l p s h = h ∙ ap (λ (c : Expr). left_declared w c None) s ∙ ap (left_by w (bare e)) p ∙ left_bare w e
