-- Parameters and results as variables, one after the other.
use Rattle.std.proofs.Common.{arith, ◌≡◌, ◌<◌, ◌≤◌, ◌+◌, ℕ, zero, suc, ◌∙◌, sym, ap, List, [], ◌∷◌, length, map, drop, get_or, Option, Some, None}
use Rattle.go_type.specs.Tree.{Ty}
use Rattle.go_type.specs.declared.types.TypeId.{TypeId}
use Rattle.go_items.specs.ParamView.{grouped_view}
use Rattle.go_items.specs.declared.items.param.Grouped.{Grouped}
use Rattle.go_typing.specs.Walk.{Walk, is_there}
use Rattle.gj_base.specs.declared.place.Place.{Place}
use Rattle.go_syntax.specs.declared.tree.Name.{Name}
use Rattle.go_typing.specs.Signature.{type_of_param, bound_name, bound, all_bound}
use Rattle.go_decls.specs.Bound.{type_view, TypeBelow, TypesBelow}
use Rattle.go_decls.proofs.ParamsSteps.{next_at, past}

pub type_below : (n : ℕ) (us : List (Option TypeId)) (i : ℕ) (d : Option TypeId) → i < length us → TypesBelow n us → TypeBelow n (get_or us i d)
type_below n [] i d l h = absurd (omega arith)
type_below n (u ∷ us) zero d l h = h.0
type_below n (u ∷ us) (suc i) d l h = type_below n us i d (omega arith) h.1

heads : {X : Type 0} (x y : X) (xs ys : List X) → x ∷ xs ≡ y ∷ ys → x ≡ y
heads x y xs ys h = cc

tails : {X : Type 0} (x y : X) (xs ys : List X) → x ∷ xs ≡ y ∷ ys → xs ≡ ys
tails x y xs ys h = cc

-- the type of each in the list of all
type_at : (ts : List Ty) (w : Walk) (us : List (Option TypeId)) (ps : List Grouped) (i : ℕ) (d : Option TypeId) (p : Grouped) → i < length ps → length ps ≡ length us → map (type_view ts) us ≡ map (type_of_param w) (map grouped_view ps)
    → p ≡ get_or ps i p → type_view ts (get_or us i d) ≡ type_of_param w (grouped_view p)
type_at ts w us [] i d p l c h e = absurd (omega arith)
type_at ts w [] (q ∷ ps) i d p l c h e = absurd (omega arith)
type_at ts w (u ∷ us) (q ∷ ps) zero d p l c h e = heads (type_view ts u) (type_of_param w (grouped_view q)) (map (type_view ts) us) (map (type_of_param w) (map grouped_view ps)) h ∙ ap (λ (x : Grouped). type_of_param w (grouped_view x)) (sym e)
type_at ts w (u ∷ us) (q ∷ ps) (suc i) d p l c h e = type_at ts w us ps i d p (omega arith) (omega arith) (tails (type_view ts u) (type_of_param w (grouped_view q)) (map (type_view ts) us) (map (type_of_param w) (map grouped_view ps)) h) e

pub bound_step : (ts : List Ty) (w : Walk) (us : List (Option TypeId)) (ps : List Grouped) (i : ℕ) (d : Option TypeId) (p : Grouped) (first now next : Walk) → i < length ps → length ps ≡ length us → p ≡ get_or ps i p
    → map (type_view ts) us ≡ map (type_of_param w) (map grouped_view ps) → next ≡ bound (grouped_view p).name (type_view ts (get_or us i d)) now
    → all_bound w (map grouped_view (drop i ps)) now ≡ all_bound w (map grouped_view ps) first → all_bound w (map grouped_view (drop (i + 1) ps)) next ≡ all_bound w (map grouped_view ps) first
bound_step ts w us ps i d p first now next l c e h q k =
    ap (all_bound w (map grouped_view (drop (i + 1) ps))) (q ∙ ap (λ (u : Option Ty). bound (grouped_view p).name u now) (type_at ts w us ps i d p l c h e))
    ∙ ap (λ (gs : List Grouped). all_bound w (map grouped_view gs) now) (sym (next_at ps i p l e)) ∙ k

pub bound_end : (w : Walk) (ps : List Grouped) (i : ℕ) (first now : Walk) → length ps ≤ i → all_bound w (map grouped_view (drop i ps)) now ≡ all_bound w (map grouped_view ps) first → now ≡ all_bound w (map grouped_view ps) first
bound_end w ps i first now l h = ap (λ (gs : List Grouped). all_bound w (map grouped_view gs) now) (sym (past ps i l)) ∙ h

-- ---- one

pub bound_there : (n : Name) (u : Option Ty) (at : Place) (v : Walk) → Some at ≡ is_there n v → v ≡ bound (Some n) u v
bound_there n None at v h = ap (λ (o : Option Place). bound_name n None o v) h
bound_there n (Some u) at v h = ap (λ (o : Option Place). bound_name n (Some u) o v) h

pub bound_free : (n : Name) (u : Option Ty) (v w : Walk) → None ≡ is_there n v → w ≡ bound_name n u None v → w ≡ bound (Some n) u v
bound_free n u v w h q = q ∙ ap (λ (o : Option Place). bound_name n u o v) h
