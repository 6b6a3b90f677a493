-- What is typed in an environment that grows, by the names and scopes before it.
use Rattle.std.proofs.Common.{arith, ◌≡◌, ◌<◌, ◌∙◌, refl, ap, List, [], ◌∷◌, Option, Some, None}
use Rattle.std.specs.Prelude.{option_map}
use Rattle.go_syntax.specs.Tree as t
use Rattle.go_type.specs.Tree.{Ty, more_tys}
use Rattle.go_type.specs.Levels.{tree_of, trees_of, IdsBelow}
use Rattle.go_type.specs.Table.{size}
use Rattle.go_type.specs.declared.types.TypeId.{TypeId}
use Rattle.go_typing.specs.Answer.{Flaw}
use Rattle.go_typing.specs.Env.{Decl}
use Rattle.go_typing.specs.Scopes as scopes
use Rattle.go_typing.specs.Scopes.{visible}
use Rattle.go_operands.specs.declared.scopes.env.Env.{Env}
use Rattle.go_operands.specs.EnvView.{table_of}
use Rattle.go_typing.specs.Walk.{Walk}
use Rattle.go_typing.specs.Expressions.{Valued, type_in, type_of}
use Rattle.go_typing.specs.Declare.{SpecType, no_type, of_type, lost_type, constant_decl, constant_value}
use Rattle.go_walk.specs.WalkView.{walk_outside}
use Rattle.go_calls.specs.Words.{types_of, names_of, scopes_of}
use Rattle.go_expr.specs.Raw.{Raw, raw_of, Grows}
use Rattle.go_assign.specs.declared.constants.types.SpecType as code
use Rattle.go_assign.specs.declared.constants.types.SpecType.TheVariants as form
use Rattle.go_assign.specs.SpecView.{spec_view, SpecBelow, TypeBelow, constant_raw}

pub grows_not : (e : Env) → Grows e e
grows_not e = record { env = refl; kept = λ i h. refl; counts = omega arith }

pub below_more : (a b : Env) → Grows a b → (i : TypeId) → i.0 < size (table_of a) → i.0 < size (table_of b)
below_more a b h i l = let p = h.counts in omega (arith, p, l)

pub grows_on : (a b c : Env) → Grows a b → Grows b c → Grows a c
grows_on a b c h k = record {
  env = k.env ∙ h.env;
  kept = λ i l. k.kept i (below_more a b h i l) ∙ h.kept i l;
  counts = let p = h.counts in let q = k.counts in omega (arith, p, q);
}

-- what is found in it
abbrev walk_in : scopes.Env → Walk
walk_in e = record { names = e.named_types; scopes = visible e; next = 0; next_label = 0; vars = []; declared = []; used = []; lost = 0 }

pub same_walk : (a b : Env) → Grows a b → walk_outside b ≡ walk_outside a
same_walk a b h = ap walk_in h.env

-- a type that was there
pub type_kept : (a b : Env) (o : Option TypeId) → Grows a b → TypeBelow (size (table_of a)) o → option_map (tree_of (types_of b)) o ≡ option_map (tree_of (types_of a)) o
type_kept a b None h l = refl
type_kept a b (Some i) h l = ap (λ (u : Ty). Some u) (h.kept i l)

pub type_below : (a b : Env) (o : Option TypeId) → Grows a b → TypeBelow (size (table_of a)) o → TypeBelow (size (table_of b)) o
type_below a b None h l = tt
type_below a b (Some i) h l = below_more a b h i l

-- types that were there
pub trees_kept : (a b : Env) (is : List TypeId) → Grows a b → IdsBelow (size (table_of a)) is → trees_of (types_of b) is ≡ trees_of (types_of a) is
trees_kept a b [] h l = refl
trees_kept a b (i ∷ is) h l = ap (λ (u : Ty). more_tys u (trees_of (types_of b) is)) (h.kept i l.0) ∙ ap (more_tys (tree_of (types_of a) i)) (trees_kept a b is h l.1)

pub ids_below : (a b : Env) (is : List TypeId) → Grows a b → IdsBelow (size (table_of a)) is → IdsBelow (size (table_of b)) is
ids_below a b [] h l = tt
ids_below a b (i ∷ is) h l = (below_more a b h i l.0, ids_below a b is h l.1)

pub spec_kept : (a b : Env) (s : code.SpecType) → Grows a b → SpecBelow (size (table_of a)) s → SpecBelow (size (table_of b)) s
spec_kept a b form.Missing h l = tt
spec_kept a b (form.Of i) h l = below_more a b h i l
spec_kept a b form.Lost h l = tt

pub spec_same : (a b : Env) (s : code.SpecType) → Grows a b → SpecBelow (size (table_of a)) s → spec_view (types_of b) s ≡ spec_view (types_of a) s
spec_same a b form.Missing h l = refl
spec_same a b (form.Of i) h l = ap of_type (h.kept i l)
spec_same a b form.Lost h l = refl

-- ---- types

pub type_before : (a b : Env) (v : Valued) (e : t.Expr) (o : Option Ty) → Grows a b → v ≡ type_in (walk_outside b) e → o ≡ type_of v.answer → o ≡ type_of (type_in (walk_outside a) e).answer
type_before a b v e o h p q = q ∙ ap (λ (x : Valued). type_of x.answer) p ∙ ap (λ (w : Walk). type_of (type_in w e).answer) (same_walk a b h)

pub told_before : (a b : Env) (v : Valued) (e : t.Expr) (fs : List Flaw) → Grows a b → v ≡ type_in (walk_outside b) e → fs ≡ v.flaws → fs ≡ (type_in (walk_outside a) e).flaws
told_before a b v e fs h p q = q ∙ ap (λ (x : Valued). x.flaws) p ∙ ap (λ (w : Walk). (type_in w e).flaws) (same_walk a b h)

-- ---- values of constants

raw_is : (e : Env) (s : SpecType) (y : t.Expr) → constant_raw (names_of e) s (raw_of (names_of e) (scopes_of e) y) ≡ constant_value (walk_outside e) s y
raw_is e no_type y = refl
raw_is e (of_type u) y = refl
raw_is e lost_type y = refl

constant_is : (a b : Env) (s : code.SpecType) (y : t.Expr) (r : Raw) → Grows a b → SpecBelow (size (table_of a)) s → r ≡ raw_of (names_of b) (scopes_of b) y
    → constant_raw (names_of b) (spec_view (types_of b) s) r ≡ constant_value (walk_outside a) (spec_view (types_of a) s) y
constant_is a b s y r h l p =
    ap (constant_raw (names_of b) (spec_view (types_of b) s)) p ∙ raw_is b (spec_view (types_of b) s) y
    ∙ ap (λ (x : SpecType). constant_value (walk_outside b) x y) (spec_same a b s h l) ∙ ap (λ (w : Walk). constant_value w (spec_view (types_of a) s) y) (same_walk a b h)

pub constant_before : (a b : Env) (s : code.SpecType) (y : t.Expr) (r : Raw) (d : Decl) → Grows a b → SpecBelow (size (table_of a)) s → r ≡ raw_of (names_of b) (scopes_of b) y
    → d ≡ constant_decl (constant_raw (names_of b) (spec_view (types_of b) s) r).answer → d ≡ constant_decl (constant_value (walk_outside a) (spec_view (types_of a) s) y).answer
constant_before a b s y r d h l p q = q ∙ ap (λ (v : Valued). constant_decl v.answer) (constant_is a b s y r h l p)

pub constant_told_before : (a b : Env) (s : code.SpecType) (y : t.Expr) (r : Raw) (fs : List Flaw) → Grows a b → SpecBelow (size (table_of a)) s → r ≡ raw_of (names_of b) (scopes_of b) y
    → fs ≡ (constant_raw (names_of b) (spec_view (types_of b) s) r).flaws → fs ≡ (constant_value (walk_outside a) (spec_view (types_of a) s) y).flaws
constant_told_before a b s y r fs h l p q = q ∙ ap (λ (v : Valued). v.flaws) (constant_is a b s y r h l p)
