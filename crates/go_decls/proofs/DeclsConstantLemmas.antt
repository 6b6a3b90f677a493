-- What is told of the constants of a package.
use Rattle.std.proofs.Common.{arith, rules, ◌≡◌, ◌<◌, ◌≤◌, ◌+◌, ◌∙◌, ℕ, zero, suc, refl, sym, ap, subst, List, [], ◌∷◌, ◌++◌, append_assoc, length, map, drop, get_or, Bool, true, false, ◌&&◌, Option, Some, None}
use Rattle.std.specs.Prelude.{option_map, if◌then◌else◌}
use Rattle.std.proofs.lemmas.List.{append-nil}
use Rattle.gj_base.specs.declared.place.Place.{Place}
use Rattle.go_syntax.specs.Tree as t
use Rattle.go_syntax.specs.View.{expr_view, exprs_of, value_spec_view, maybe_expr}
use Rattle.go_syntax.specs.declared.tree.Expr.{Expr}
use Rattle.go_syntax.specs.declared.tree.Name.{Name}
use Rattle.go_syntax.specs.declared.tree.ValueSpec.{ValueSpec, out-ValueSpec, fold_out-ValueSpec}
use Rattle.go_typing.specs.Answer.{Flaw, flaw, is_known}
use Rattle.go_operands.specs.declared.scopes.env.Env.{Env}
use Rattle.go_typing.specs.Walk.{Walk}
use Rattle.go_typing.specs.Expressions.{Valued, answer_in, flaws_in}
use Rattle.go_typing.specs.Assign.{where_typed, all_typed, all_in_flaws}
use Rattle.go_typing.specs.Declare.{SpecType, constant_value, spec_type, spec_type_flaws, spec_known, names_count, spec_place, count_told, counting}
use Rattle.go_typing.specs.Told.{each_told, spec_told, specs_told}
use Rattle.go_items.specs.ItemView.{names_in}
use Rattle.go_type.specs.Tree.{Ty}
use Rattle.go_assign.specs.SpecView.{spec_view}
use Rattle.go_assign.specs.declared.constants.types.SpecType as kinds
use Rattle.go_assign.specs.declared.constants.types.SpecType.TheVariants as kind
use Rattle.go_expr.specs.Raw.{Raw, raw_of, raws_of}
use Rattle.go_assign.specs.Settled.{all_known, all_told}

-- ---- a specification of values

values_whole : (s : ValueSpec) (rest : t.ValueSpecs) → value_spec_view s rest ≡ t.MoreValues (names_in s) (maybe_expr (option_map expr_view (out-ValueSpec s).ty)) (exprs_of (map expr_view (out-ValueSpec s).values.items)) rest
values_whole s rest = search (rules, fold_out-ValueSpec)

pub list_missing : (at : Place) (k : ℕ) (w : Walk) (u : t.MaybeExpr) (ys : t.Exprs) (s : ValueSpec) (rest : t.ValueSpecs) → (out-ValueSpec s).values.items ≡ []
    → specs_told at k w u ys (value_spec_view s rest) ≡ spec_told at (counting k w) (names_in s) u ys ++ specs_told at (suc k) w u ys rest
list_missing at k w u ys s rest h =
    ap (specs_told at k w u ys) (values_whole s rest ∙ ap (λ (es : List Expr). t.MoreValues (names_in s) (maybe_expr (option_map expr_view (out-ValueSpec s).ty)) (exprs_of (map expr_view es)) rest) h)

given : (at : Place) (k : ℕ) (w : Walk) (u : t.MaybeExpr) (ys : t.Exprs) (ns : List Name) (v : t.MaybeExpr) (es : List Expr) (rest : t.ValueSpecs) → 0 < length es
    → specs_told at k w u ys (t.MoreValues ns v (exprs_of (map expr_view es)) rest) ≡ spec_told at (counting k w) ns v (exprs_of (map expr_view es)) ++ specs_told at (suc k) w v (exprs_of (map expr_view es)) rest
given at k w u ys ns v [] rest h = absurd (omega arith)
given at k w u ys ns v (e ∷ es) rest h = refl

pub list_given : (at : Place) (k : ℕ) (w : Walk) (u : t.MaybeExpr) (ys : t.Exprs) (s : ValueSpec) (rest : t.ValueSpecs) → 0 < length (out-ValueSpec s).values.items
    → specs_told at k w u ys (value_spec_view s rest)
    ≡ spec_told at (counting k w) (names_in s) (maybe_expr (option_map expr_view (out-ValueSpec s).ty)) (exprs_of (map expr_view (out-ValueSpec s).values.items))
    ++ specs_told at (suc k) w (maybe_expr (option_map expr_view (out-ValueSpec s).ty)) (exprs_of (map expr_view (out-ValueSpec s).values.items)) rest
list_given at k w u ys s rest h =
    ap (specs_told at k w u ys) (values_whole s rest) ∙ given at k w u ys (names_in s) (maybe_expr (option_map expr_view (out-ValueSpec s).ty)) (out-ValueSpec s).values.items rest h

pub none_of : {X : Type 0} (xs : List X) → length xs ≡ 0 → xs ≡ []
none_of [] h = refl
none_of (x ∷ xs) h = absurd (omega arith)

-- ---- as many values as names

pub same_count : (ns : List Name) (es : List Expr) → length ns ≡ length es → names_count ns (exprs_of (map expr_view es)) ≡ true
same_count [] [] h = refl
same_count [] (e ∷ es) h = absurd (omega arith)
same_count (n ∷ ns) [] h = absurd (omega arith)
same_count (n ∷ ns) (e ∷ es) h = same_count ns es (omega arith)

pub other_count : (ns : List Name) (es : List Expr) → (length ns ≡ length es → ⊥) → names_count ns (exprs_of (map expr_view es)) ≡ false
other_count [] [] h = absurd (h refl)
other_count [] (e ∷ es) h = refl
other_count (n ∷ ns) [] h = refl
other_count (n ∷ ns) (e ∷ es) h = other_count ns es (λ k. h (ap suc k))

-- the faults of values alone, whatever the names
abbrev pub values_told : Walk → SpecType → List Expr → List Flaw
values_told w s [] = []
values_told w s (e ∷ es) = (constant_value w s (expr_view e)).flaws ++ values_told w s es

pub value_goes : (w : Walk) (s r : SpecType) (e : Expr) (rest here : List Expr) (old new : List Flaw) → r ≡ s → here ≡ e ∷ rest → new ≡ old ++ (constant_value w r (expr_view e)).flaws → new ++ values_told w s rest ≡ old ++ values_told w s here
value_goes w s r e rest here old new p q h =
    ap (λ (fs : List Flaw). fs ++ values_told w s rest) (h ∙ ap (λ (x : SpecType). old ++ (constant_value w x (expr_view e)).flaws) p)
    ∙ append_assoc old (constant_value w s (expr_view e)).flaws (values_told w s rest) ∙ sym (ap (λ (xs : List Expr). old ++ values_told w s xs) q)

pub each_values : (w : Walk) (s : SpecType) (ns : List Name) (es : List Expr) → length ns ≡ length es → each_told w s ns (exprs_of (map expr_view es)) ≡ values_told w s es
each_values w s [] [] h = refl
each_values w s [] (e ∷ es) h = absurd (omega arith)
each_values w s (n ∷ ns) [] h = absurd (omega arith)
each_values w s (n ∷ ns) (e ∷ es) h = ap (λ (fs : List Flaw). (constant_value w s (expr_view e)).flaws ++ fs) (each_values w s ns es (omega arith))

pub counted : (b : Bool) (fs gs old new : List Flaw) → b ≡ true → new ≡ old ++ fs → new ≡ old ++ (if b then fs else gs)
counted b fs gs old new h q = q ∙ sym (ap (λ (x : Bool). old ++ (if x then fs else gs)) h)

pub uncounted : (b : Bool) (fs gs old new : List Flaw) → b ≡ false → new ≡ old ++ gs → new ≡ old ++ (if b then fs else gs)
uncounted b fs gs old new h q = q ∙ sym (ap (λ (x : Bool). old ++ (if x then fs else gs)) h)

-- ---- a wrong count

typed_all : (w : Walk) (ys : List t.Expr) → all_typed w (exprs_of ys) ≡ all_known (raws_of w.names w.scopes ys)
typed_all w [] = refl
typed_all w (y ∷ ys) = ap (λ (b : Bool). is_known (answer_in w y) && b) (typed_all w ys)

told_all : (w : Walk) (ys : List t.Expr) → all_in_flaws w (exprs_of ys) ≡ all_told (raws_of w.names w.scopes ys)
told_all w [] = refl
told_all w (y ∷ ys) = ap (λ (fs : List Flaw). flaws_in w y ++ fs) (told_all w ys)

-- whether a type is known doesn't rest on the table
known_any : (ts us : List Ty) (s : kinds.SpecType) → spec_known (spec_view ts s) ≡ spec_known (spec_view us s)
known_any ts us kind.Missing = refl
known_any ts us (kind.Of t) = refl
known_any ts us kind.Lost = refl

pub miscounted : (w v : Walk) (s : kinds.SpecType) (ts us : List Ty) (ys : List t.Expr) (rs : List Raw) (at : Place) (old new : List Flaw) → v ≡ w → rs ≡ raws_of v.names v.scopes ys → new ≡ old ++ count_told (spec_view us s) at (all_known rs) (all_told rs)
    → new ≡ old ++ count_told (spec_view ts s) at (all_typed w (exprs_of ys)) (all_in_flaws w (exprs_of ys))
miscounted w v s ts us ys rs at old new e f q =
    q ∙ ap (λ (b : Bool). old ++ where_typed (b && all_known rs) (all_told rs) (flaw at 84 ∷ [])) (known_any us ts s)
    ∙ ap (λ (b : Bool). old ++ count_told (spec_view ts s) at b (all_told rs)) (ap all_known raws ∙ sym (typed_all w ys))
    ∙ ap (λ (gs : List Flaw). old ++ count_told (spec_view ts s) at (all_typed w (exprs_of ys)) gs) (ap all_told raws ∙ sym (told_all w ys))
  where
    raws : rs ≡ raws_of w.names w.scopes ys
    raws = f ∙ ap (λ (x : Walk). raws_of x.names x.scopes ys) e

-- ---- a whole specification

pub spec_parts : (at : Place) (w v : Walk) (ns : List Name) (u : t.MaybeExpr) (ys : t.Exprs) (s : SpecType) (old mid new : List Flaw) → v ≡ w → s ≡ spec_type w u → mid ≡ old ++ spec_type_flaws w u
    → new ≡ mid ++ (if names_count ns ys then each_told v s ns ys else count_told s (spec_place ns at) (all_typed v ys) (all_in_flaws v ys)) → new ≡ old ++ spec_told at w ns u ys
spec_parts at w v ns u ys s old mid new e f g q =
    q ∙ ap (λ (fs : List Flaw). fs ++ rest v s) g ∙ ap (λ (x : Walk). (old ++ spec_type_flaws w u) ++ rest x s) e ∙ ap (λ (x : SpecType). (old ++ spec_type_flaws w u) ++ rest w x) f
    ∙ append_assoc old (spec_type_flaws w u) (rest w (spec_type w u))
  where
    rest : Walk → SpecType → List Flaw
    rest x r = if names_count ns ys then each_told x r ns ys else count_told r (spec_place ns at) (all_typed x ys) (all_in_flaws x ys)

pub spec_values : (at : Place) (w : Walk) (ns : List Name) (s : SpecType) (zs ys : t.Exprs) (old new : List Flaw) → zs ≡ ys
    → new ≡ old ++ (if names_count ns zs then each_told w s ns zs else count_told s (spec_place ns at) (all_typed w zs) (all_in_flaws w zs))
    → new ≡ old ++ (if names_count ns ys then each_told w s ns ys else count_told s (spec_place ns at) (all_typed w ys) (all_in_flaws w ys))
spec_values at w ns s zs ys old new q h = subst (λ (xs : t.Exprs). new ≡ old ++ (if names_count ns xs then each_told w s ns xs else count_told s (spec_place ns at) (all_typed w xs) (all_in_flaws w xs))) q h

-- ---- one specification after the other

pub specs_goes : (at : Place) (k m : ℕ) (w v : Walk) (u x : t.MaybeExpr) (ys zs : t.Exprs) (ns : List Name) (here rest : t.ValueSpecs) (before now new : List Flaw) → v ≡ w → m ≡ suc k
    → specs_told at k w u ys here ≡ spec_told at (counting k w) ns x zs ++ specs_told at (suc k) w x zs rest → new ≡ now ++ spec_told at (counting k v) ns x zs → now ++ specs_told at k w u ys here ≡ before
    → new ++ specs_told at m w x zs rest ≡ before
specs_goes at k m w v u x ys zs ns here rest before now new e p h q i =
    ap (λ (n : ℕ). new ++ specs_told at n w x zs rest) p ∙ ap (λ (fs : List Flaw). fs ++ specs_told at (suc k) w x zs rest) (q ∙ ap (λ (a : Walk). now ++ spec_told at (counting k a) ns x zs) e)
    ∙ append_assoc now (spec_told at (counting k w) ns x zs) (specs_told at (suc k) w x zs rest) ∙ ap (λ (fs : List Flaw). now ++ fs) (sym h) ∙ i
