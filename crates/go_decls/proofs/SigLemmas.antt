-- What is told of a signature, and its types.
use Rattle.std.proofs.Common.{arith, ◌≡◌, ◌∙◌, refl, sym, ap, List, [], ◌∷◌, ◌++◌, append_assoc, length, map, Bool, true, false, Option, Some, None}
use Rattle.std.specs.Prelude.{IfSome, Vec, option_map}
use Rattle.std.specs.declared.alloc.Global.{Global}
use Rattle.std.proofs.lemmas.List.{append-nil}
use Rattle.gj_base.specs.declared.place.Place.{Place}
use Rattle.go_syntax.specs.Tree as t
use Rattle.go_type.specs.Tree.{Ty, Tys}
use Rattle.go_type.specs.Levels.{trees_of, IdsBelow}
use Rattle.go_type.specs.Table.{size}
use Rattle.go_type.specs.declared.types.TypeId.{TypeId}
use Rattle.go_typing.specs.Answer.{Flaw, flaw}
use Rattle.go_operands.specs.declared.scopes.env.Env.{Env}
use Rattle.go_operands.specs.EnvView.{table_of}
use Rattle.go_typing.specs.Walk.{Walk}
use Rattle.go_items.specs.ParamView.{grouped_view}
use Rattle.go_items.specs.declared.items.param.Grouped.{Grouped}
use Rattle.go_typing.specs.Signature as go
use Rattle.go_typing.specs.Signature.{Param, SigTypes, type_of_param, and_type, params_flaws, is_mixed, mixed_flaws, list_flaws, names_flaws, inside, sig_flaws, where_untold}
use Rattle.go_calls.specs.Words.{types_of}
use Rattle.go_expr.specs.Raw.{Grows}
use Rattle.go_assign.proofs.GrowLemmas.{trees_kept, ids_below}
use Rattle.go_decls.specs.SigView.{all_of}

-- ---- a list

types_all : (w : Walk) (ps : List Param) → all_of (map (type_of_param w) ps) ≡ go.types_of w ps
types_all w [] = refl
types_all w (p ∷ ps) = ap (and_type (type_of_param w p)) (types_all w ps)

pub list_types : (w : Walk) (ps : List Param) (us : List (Option Ty)) (o : Option Tys) → us ≡ map (type_of_param w) ps → o ≡ all_of us → o ≡ go.types_of w ps
list_types w ps us o h q = q ∙ ap all_of h ∙ types_all w ps

pub list_told : (w : Walk) (at : Place) (ps : List Param) (old mid new : List Flaw) (us : List (Option Ty)) (o : Option Tys) → us ≡ map (type_of_param w) ps → o ≡ all_of us → mid ≡ old ++ params_flaws w ps
    → new ≡ mid ++ mixed_flaws at o (is_mixed ps) → new ≡ old ++ list_flaws w at ps
list_told w at ps old mid new us o h q f g =
    g ∙ ap (λ (x : Option Tys). mid ++ mixed_flaws at x (is_mixed ps)) (list_types w ps us o h q) ∙ ap (λ (fs : List Flaw). fs ++ mixed_flaws at (go.types_of w ps) (is_mixed ps)) f
    ∙ append_assoc old (params_flaws w ps) (mixed_flaws at (go.types_of w ps) (is_mixed ps))

-- ---- some have names, and some have none

pub mixed_known : (at : Place) (us : Tys) (o : Option Tys) (b : Bool) (old new : List Flaw) → o ≡ Some us → true ≡ b → new ≡ old ++ flaw at 53 ∷ [] → new ≡ old ++ mixed_flaws at o b
mixed_known at us o b old new h k q = q ∙ ap (λ (x : Bool). old ++ mixed_flaws at (Some us) x) k ∙ ap (λ (x : Option Tys). old ++ mixed_flaws at x b) (sym h)

pub mixed_not : (at : Place) (us : Tys) (o : Option Tys) (b : Bool) (old : List Flaw) → o ≡ Some us → false ≡ b → old ≡ old ++ mixed_flaws at o b
mixed_not at us o b old h k = sym (append-nil old) ∙ ap (λ (x : Bool). old ++ mixed_flaws at (Some us) x) k ∙ ap (λ (x : Option Tys). old ++ mixed_flaws at x b) (sym h)

pub mixed_lost : (at : Place) (o : Option Tys) (b : Bool) (old : List Flaw) → o ≡ None → old ≡ old ++ mixed_flaws at o b
mixed_lost at o b old h = sym (append-nil old) ∙ ap (λ (x : Option Tys). old ++ mixed_flaws at x b) (sym h)

-- ---- both

pub lists_told : (w v : Walk) (s : t.Sig) (ps rs : List Param) (p r : Place) (old one two : List Flaw) → v ≡ w → p ≡ go.params_place s → r ≡ go.results_place s → one ≡ old ++ list_flaws w p ps → two ≡ one ++ list_flaws v r rs
    → two ≡ old ++ (list_flaws w (go.params_place s) ps ++ list_flaws w (go.results_place s) rs)
lists_told w v s ps rs p r old one two e ep er f g =
    g ∙ ap (λ (x : Walk). one ++ list_flaws x r rs) e ∙ ap (λ (at : Place). one ++ list_flaws w at rs) er ∙ ap (λ (fs : List Flaw). fs ++ second) (f ∙ ap (λ (at : Place). old ++ list_flaws w at ps) ep)
    ∙ append_assoc old (list_flaws w (go.params_place s) ps) second
  where
    second : List Flaw
    second = list_flaws w (go.results_place s) rs

joined : (xs ys : List Grouped) → map grouped_view (xs ++ ys) ≡ map grouped_view xs ++ map grouped_view ys
joined [] ys = refl
joined (x ∷ xs) ys = ap (λ (ps : List Param). grouped_view x ∷ ps) (joined xs ys)

pub parts_told : (w : Walk) (s : t.Sig) (xs ys zs : List Grouped) (old two all : List Flaw) → map grouped_view xs ≡ go.params_of s → map grouped_view ys ≡ go.results_of s → zs ≡ xs ++ ys
    → two ≡ old ++ (list_flaws w (go.params_place s) (map grouped_view xs) ++ list_flaws w (go.results_place s) (map grouped_view ys))
    → all ≡ two ++ names_flaws w (map grouped_view zs) (inside w) → all ≡ old ++ sig_flaws w s
parts_told w s xs ys zs old two all ex ey ez g h =
    h ∙ ap (λ (ps : List Param). two ++ names_flaws w ps (inside w)) (ap (map grouped_view) ez ∙ joined xs ys ∙ ap (λ (ps : List Param). ps ++ map grouped_view ys) ex ∙ ap (λ (ps : List Param). go.params_of s ++ ps) ey)
    ∙ ap (λ (fs : List Flaw). fs ++ names) (g ∙ ap (λ (ps : List Param). old ++ (list_flaws w (go.params_place s) ps ++ list_flaws w (go.results_place s) (map grouped_view ys))) ex ∙ ap (λ (rs : List Param). old ++ (list_flaws w (go.params_place s) (go.params_of s) ++ list_flaws w (go.results_place s) rs)) ey)
    ∙ append_assoc old (list_flaws w (go.params_place s) (go.params_of s) ++ list_flaws w (go.results_place s) (go.results_of s)) names
  where
    names : List Flaw
    names = names_flaws w (go.params_of s ++ go.results_of s) (inside w)

-- the types of a list that was typed before the table grew
pub found_kept : (b c : Env) (o : Option (Vec TypeId Global)) → Grows b c → IfSome o (λ v. IdsBelow (size (table_of b)) v.items) → option_map (λ v. trees_of (types_of c) v.items) o ≡ option_map (λ v. trees_of (types_of b) v.items) o
found_kept b c None h l = refl
found_kept b c (Some v) h l = ap (λ (us : Tys). Some us) (trees_kept b c v.items h l)

pub found_below : (b c : Env) (o : Option (Vec TypeId Global)) → Grows b c → IfSome o (λ v. IdsBelow (size (table_of b)) v.items) → IfSome o (λ v. IdsBelow (size (table_of c)) v.items)
found_below b c None h l = tt
found_below b c (Some v) h l = ids_below b c v.items h l

-- ---- where nothing is told

pub untold : {X : Type 0} (f : X → Flaw) (xs : List X) (o : Option SigTypes) → length xs ≡ 0 → o ≡ where_untold (map f xs) o
untold f [] o h = refl
untold f (x ∷ xs) o h = absurd (omega arith)

pub untold_flaws : {X : Type 0} (f : X → Flaw) (xs : List X) (old : List Flaw) → length xs ≡ 0 → old ≡ old ++ map f xs
untold_flaws f [] old h = sym (append-nil old)
untold_flaws f (x ∷ xs) old h = absurd (omega arith)

pub some_told : {X : Type 0} (f : X → Flaw) (xs : List X) (o : Option SigTypes) → (length xs ≡ 0 → ⊥) → None ≡ where_untold (map f xs) o
some_told f [] o h = absurd (h refl)
some_told f (x ∷ xs) o h = refl

pub sig_types_is : (w : Walk) (s : t.Sig) (fs : List Flaw) (o : Option SigTypes) (r : Option SigTypes) → fs ≡ sig_flaws w s → o ≡ go.both (go.types_of w (go.params_of s)) (go.types_of w (go.results_of s)) → r ≡ where_untold fs o → r ≡ go.sig_types w s
sig_types_is w s fs o r f g h = h ∙ ap (λ (x : List Flaw). where_untold x o) f ∙ ap (where_untold (sig_flaws w s)) g
