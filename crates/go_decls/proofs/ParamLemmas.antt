-- Types of parameters, one after the other.
use Rattle.std.proofs.Common.{◌≡◌, ◌<◌, ◌≤◌, ◌+◌, ℕ, ◌∙◌, refl, sym, ap, subst, List, [], ◌∷◌, ◌++◌, append_assoc, length, map, drop, get_or, Bool, true, false, Option, None}
use Rattle.std.specs.Prelude.{if◌then◌else◌}
use Rattle.std.proofs.lemmas.List.{append-nil}
use Rattle.go_type.specs.Tree.{Ty}
use Rattle.go_type.specs.Table.{size}
use Rattle.go_type.specs.declared.types.TypeId.{TypeId}
use Rattle.go_typing.specs.Answer.{Flaw, flaw}
use Rattle.go_operands.specs.declared.scopes.env.Env.{Env}
use Rattle.go_operands.specs.EnvView.{table_of}
use Rattle.go_items.specs.ParamView.{grouped_view}
use Rattle.go_items.specs.declared.items.param.Grouped.{Grouped}
use Rattle.go_typing.specs.Walk.{Walk}
use Rattle.go_typing.specs.Expressions.{type_in, type_of}
use Rattle.go_typing.specs.Signature.{Param, type_of_param, param_flaws, params_flaws}
use Rattle.go_walk.specs.WalkView.{walk_outside}
use Rattle.go_calls.specs.Words.{types_of}
use Rattle.go_expr.specs.Raw.{Grows}
use Rattle.go_decls.specs.Bound.{type_view, TypeBelow, TypesBelow}
use Rattle.go_assign.proofs.GrowLemmas.{grows_not, grows_on, same_walk, type_kept, type_below}
use Rattle.go_decls.proofs.SignaturesSteps.{next_at, past}

-- ---- one

pub plain_told : (w : Walk) (p : Param) (old new fs : List Flaw) → p.variadic ≡ false → fs ≡ (type_in w p.type_).flaws → new ≡ old ++ (if p.has_type then fs else []) → new ≡ old ++ param_flaws w p
plain_told w p old new fs v h q =
    q ∙ ap (λ (gs : List Flaw). old ++ (if p.has_type then gs else [])) h
    ∙ sym (ap (λ (b : Bool). old ++ (if p.has_type then (if b then flaw p.place 0 ∷ [] else (type_in w p.type_).flaws) else [])) v)

pub plain_type : (w : Walk) (p : Param) (o : Option Ty) → p.variadic ≡ false → o ≡ type_of (type_in w p.type_).answer → o ≡ type_of_param w p
plain_type w p o v q = q ∙ sym (ap (λ (b : Bool). if b then None else type_of (type_in w p.type_).answer) v)

pub variadic_type : (w : Walk) (p : Param) → p.variadic ≡ true → None ≡ type_of_param w p
variadic_type w p v = sym (ap (λ (b : Bool). if b then None else type_of (type_in w p.type_).answer) v)

pub variadic_told : (w : Walk) (p : Param) (old new : List Flaw) → p.has_type ≡ true → new ≡ old ++ flaw p.place 0 ∷ [] → p.variadic ≡ true → new ≡ old ++ param_flaws w p
variadic_told w p old new h q v =
    q ∙ sym (ap (λ (b : Bool). old ++ (if p.has_type then (if b then flaw p.place 0 ∷ [] else (type_in w p.type_).flaws) else [])) v ∙ ap (λ (b : Bool). old ++ (if b then flaw p.place 0 ∷ [] else [])) h)

pub unwritten_told : (w : Walk) (p : Param) (old : List Flaw) → p.has_type ≡ false → old ≡ old ++ param_flaws w p
unwritten_told w p old h = sym (append-nil old) ∙ sym (ap (λ (b : Bool). old ++ (if b then (if p.variadic then flaw p.place 0 ∷ [] else (type_in w p.type_).flaws) else [])) h)

-- ---- all

-- those so far, with those that are left
pub record Typed (a b : Env) (rest all : List Param) (before now : List Flaw) (us : List (Option TypeId)) : Type 0 where
  pub told : now ++ params_flaws (walk_outside a) rest ≡ before ++ params_flaws (walk_outside a) all
  pub types : map (type_view (types_of b)) us ++ map (type_of_param (walk_outside a)) rest ≡ map (type_of_param (walk_outside a)) all
  pub within : TypesBelow (size (table_of b)) us
  pub grows : Grows a b

pub typed_first : (a : Env) (all : List Param) (fs : List Flaw) → Typed a a all all fs fs []
typed_first a all fs = record { told = refl; types = refl; within = tt; grows = grows_not a }

all_kept : (b c : Env) (us : List (Option TypeId)) → Grows b c → TypesBelow (size (table_of b)) us → map (type_view (types_of c)) us ≡ map (type_view (types_of b)) us
all_kept b c [] h l = refl
all_kept b c (u ∷ us) h l =
    ap (λ (o : Option Ty). o ∷ map (type_view (types_of c)) us) (type_kept b c u h l.0) ∙ ap (λ (os : List (Option Ty)). type_view (types_of b) u ∷ os) (all_kept b c us h l.1)

one_more : {X Y : Type 0} (f : X → Y) (xs : List X) (x : X) → map f (xs ++ x ∷ []) ≡ map f xs ++ f x ∷ []
one_more f [] x = refl
one_more f (y ∷ xs) x = ap (λ (ys : List _). f y ∷ ys) (one_more f xs x)

all_below : (b c : Env) (us : List (Option TypeId)) (o : Option TypeId) → Grows b c → TypesBelow (size (table_of b)) us → TypeBelow (size (table_of c)) o → TypesBelow (size (table_of c)) (us ++ o ∷ [])
all_below b c [] o h l k = (k, tt)
all_below b c (u ∷ us) o h l k = (type_below b c u h l.0, all_below b c us o h l.1 k)

typed_one : (a b c : Env) (p : Param) (rest all : List Param) (before now next : List Flaw) (us vs : List (Option TypeId)) (o : Option TypeId) → next ≡ now ++ param_flaws (walk_outside b) p
    → type_view (types_of c) o ≡ type_of_param (walk_outside b) p → TypeBelow (size (table_of c)) o → Grows b c → vs ≡ us ++ o ∷ [] → Typed a b (p ∷ rest) all before now us → Typed a c rest all before next vs
typed_one a b c p rest all before now next us vs o f g k h e s = record {
  told =
      ap (λ (fs : List Flaw). fs ++ params_flaws (walk_outside a) rest) (f ∙ ap (λ (w : Walk). now ++ param_flaws w p) same)
      ∙ append_assoc now (param_flaws (walk_outside a) p) (params_flaws (walk_outside a) rest) ∙ s.told;
  types =
      ap (λ (xs : List (Option TypeId)). map view xs ++ later) e ∙ ap (λ (xs : List (Option Ty)). xs ++ later) (one_more view us o)
      ∙ append_assoc (map view us) (view o ∷ []) later ∙ ap (λ (x : Option Ty). map view us ++ x ∷ later) (g ∙ ap (λ (w : Walk). type_of_param w p) same)
      ∙ ap (λ (xs : List (Option Ty)). xs ++ type_of_param (walk_outside a) p ∷ later) (all_kept b c us h s.within) ∙ s.types;
  within = subst (TypesBelow (size (table_of c))) (sym e) (all_below b c us o h s.within k);
  grows = grows_on a b c s.grows h;
}
  where
    same : walk_outside b ≡ walk_outside a
    same = same_walk a b s.grows

    view : Option TypeId → Option Ty
    view = type_view (types_of c)

    later : List (Option Ty)
    later = map (type_of_param (walk_outside a)) rest

pub typed_step : (a b c : Env) (ps : List Grouped) (i : ℕ) (p : Grouped) (before now next : List Flaw) (us vs : List (Option TypeId)) (o : Option TypeId) → i < length ps → p ≡ get_or ps i p
    → next ≡ now ++ param_flaws (walk_outside b) (grouped_view p) → type_view (types_of c) o ≡ type_of_param (walk_outside b) (grouped_view p) → TypeBelow (size (table_of c)) o → Grows b c → vs ≡ us ++ o ∷ []
    → Typed a b (map grouped_view (drop i ps)) (map grouped_view ps) before now us → Typed a c (map grouped_view (drop (i + 1) ps)) (map grouped_view ps) before next vs
typed_step a b c ps i p before now next us vs o l q f g k h e s =
    typed_one a b c (grouped_view p) (map grouped_view (drop (i + 1) ps)) (map grouped_view ps) before now next us vs o f g k h e
    (subst (λ (gs : List Grouped). Typed a b (map grouped_view gs) (map grouped_view ps) before now us) (next_at ps i p l q) s)

typed_done : (a b : Env) (ps : List Grouped) (i : ℕ) (before now : List Flaw) (us : List (Option TypeId)) → length ps ≤ i → Typed a b (map grouped_view (drop i ps)) (map grouped_view ps) before now us
    → Typed a b [] (map grouped_view ps) before now us
typed_done a b ps i before now us l s = subst (λ (gs : List Grouped). Typed a b (map grouped_view gs) (map grouped_view ps) before now us) (past ps i l) s

pub typed_told : (a b : Env) (ps : List Grouped) (i : ℕ) (before now : List Flaw) (us : List (Option TypeId)) → length ps ≤ i → Typed a b (map grouped_view (drop i ps)) (map grouped_view ps) before now us
    → now ≡ before ++ params_flaws (walk_outside a) (map grouped_view ps)
typed_told a b ps i before now us l s = let d = typed_done a b ps i before now us l s in sym (append-nil now) ∙ d.told

pub typed_types : (a b : Env) (ps : List Grouped) (i : ℕ) (before now : List Flaw) (us : List (Option TypeId)) → length ps ≤ i → Typed a b (map grouped_view (drop i ps)) (map grouped_view ps) before now us
    → map (type_view (types_of b)) us ≡ map (type_of_param (walk_outside a)) (map grouped_view ps)
typed_types a b ps i before now us l s = let d = typed_done a b ps i before now us l s in sym (append-nil (map (type_view (types_of b)) us)) ∙ d.types

pub grows_same : (e : Env) → Grows e e
grows_same e = grows_not e
