-- Expressions that were typed once, in a list where the last one is held first.
use Rattle.std.proofs.Common.{arith, ◌≡◌, ◌<◌, ◌≤◌, ◌+◌, ◌-◌, ℕ, ◌∙◌, refl, sym, ap, List, [], ◌∷◌, ◌++◌, length, map, drop, get_or}
use Rattle.std.specs.Prelude.{Option, Some, None, MatchOption, option_to_list}
use Rattle.go_syntax.specs.View.{expr_view}
use Rattle.go_syntax.specs.declared.tree.Expr.{Expr}
use Rattle.go_type.specs.Tree.{Ty}
use Rattle.go_type.specs.Named.{NamedTy}
use Rattle.go_type.specs.Table.{size, KeepsTrees}
use Rattle.go_type.specs.declared.types.TypeId.{TypeId}
use Rattle.go_typing.specs.Env.{Bind}
use Rattle.go_operands.specs.declared.scopes.env.Env.{Env}
use Rattle.go_operands.specs.EnvView.{table_of, env_of}
use Rattle.go_expr.specs.declared.typed.raw.Raw as code
use Rattle.go_expr.specs.Raw.{Raw, raw_of, raws_of, raw_view, raws_after, Grows}
use Rattle.go_expr.proofs.Steps.{next_at}

pushed : (ts : List Ty) (rs : List code.Raw) (r : code.Raw) (after : List Raw) → raws_after ts (rs ++ r ∷ []) after ≡ raw_view ts r ∷ raws_after ts rs after
pushed ts [] r after = refl
pushed ts (s ∷ rs) r after = pushed ts rs r (raw_view ts s ∷ after)

pub before_view : (ts : List Ty) (old new : List code.Raw) (r : code.Raw) → new ≡ old ++ r ∷ [] → raws_after ts new [] ≡ raw_view ts r ∷ raws_after ts old []
before_view ts old new r p = ap (λ (x : List code.Raw). raws_after ts x []) p ∙ pushed ts old r []

-- the first one is taken away, if there is one
pub next_view : (ts : List Ty) (old new : List code.Raw) (o : Option code.Raw) → old ≡ new ++ option_to_list o → MatchOption o ((length old ≡ 0) × (length new ≡ 0)) (λ _. length new + 1 ≡ length old)
    → MatchOption o (raws_after ts old [] ≡ []) (λ r. raws_after ts old [] ≡ raw_view ts r ∷ raws_after ts new [])
next_view ts [] new None p h = refl
next_view ts (r ∷ rs) new None p h = let z = h.0 in absurd (omega arith)
next_view ts old new (Some r) p h = before_view ts new old r p

-- those from a place on, with the one before it
pub fill_view : (ns : List NamedTy) (ss : List (List Bind)) (es : List Expr) (left : ℕ) (e : Expr) (old new : List Raw) → 0 < left → left ≤ length es → e ≡ get_or es (left - 1) e
    → new ≡ raw_of ns ss (expr_view e) ∷ old → old ≡ raws_of ns ss (map expr_view (drop left es)) → new ≡ raws_of ns ss (map expr_view (drop (left - 1) es))
fill_view ns ss es left e old new z h q p r =
    let back : (left - 1) + 1 ≡ left = omega arith in
    let d : drop (left - 1) es ≡ e ∷ drop left es = next_at es (left - 1) e (omega arith) q ∙ ap (λ (n : ℕ). e ∷ drop n es) back in
    p ∙ ap (λ (x : List Raw). raw_of ns ss (expr_view e) ∷ x) r ∙ sym (ap (λ (x : List Expr). raws_of ns ss (map expr_view x)) d)

-- ---- what an environment keeps

pub grows_from : (a b : Env) → env_of b ≡ env_of a → KeepsTrees (table_of a) (table_of b) → size (table_of a) ≤ size (table_of b) → Grows a b
grows_from a b e k c = record { env = e; kept = k; counts = c }

pub grows_not : (e : Env) → Grows e e
grows_not e = record { env = refl; kept = λ i h. refl; counts = omega arith }

pub grows_on : (a b c : Env) → Grows a b → Grows b c → Grows a c
grows_on a b c h k = record {
  env = k.env ∙ h.env;
  kept = λ i l. k.kept i (below i l) ∙ h.kept i l;
  counts = let p = h.counts in let q = k.counts in omega (arith, p, q);
}
  where
    below : (i : TypeId) → i.0 < size (table_of a) → i.0 < size (table_of b)
    below i l = let p = h.counts in omega (arith, p, l)
