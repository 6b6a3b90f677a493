-- One value more, or what is wrong with it.
use Rattle.std.proofs.Common.{◌≡◌, ◌<◌, ◌∙◌, refl, ap, List, [], ◌∷◌, ◌++◌, length, append_assoc, arith}
use Rattle.std.specs.Prelude.{map}
use Rattle.std.proofs.lemmas.List.{map-append}
use Rattle.go_type.specs.Tree.{Ty}
use Rattle.go_core.specs.CoreTree.{Expr, Exprs, no_exprs, expr}
use Rattle.go_core.specs.CoreView.{expr_view, exprs_of}
use Rattle.go_core.specs.declared.node.CoreExpr.{CoreExpr}
use Rattle.go_typing.specs.Answer.{Flaw}
use Rattle.go_typing.specs.Call.{Values, values, unfit, more_values, more_unfit}
use Rattle.go_operands.specs.AnswerView.{flaw_view, first_of, others_of}
use Rattle.go_operands.specs.declared.answers.answer.Flaw as flaws
use Rattle.go_calls.specs.Passed.{exprs_before, and_then}

before_last : (es : List Expr) (c : Expr) (after : Exprs) → exprs_before (es ++ c ∷ []) after ≡ exprs_before es (expr c after)
before_last [] c after = refl
before_last (e ∷ es) c after = ap (expr e) (before_last es c after)

before_none : (es : List Expr) → exprs_before es no_exprs ≡ exprs_of es
before_none [] = refl
before_none (e ∷ es) = ap (expr e) (before_none es)

one_value : (es : List Expr) (c : Expr) (fs : List Flaw) (vs : Values) → and_then (es ++ c ∷ []) fs vs ≡ and_then es fs (more_values c vs)
one_value es c [] (values gs) = ap values (before_last es c gs)
one_value es c [] (unfit f fs) = refl
one_value es c (g ∷ gs) (values hs) = refl
one_value es c (g ∷ gs) (unfit f fs) = refl

more_faults : (es : List Expr) (fs : List Flaw) (g : Flaw) (gs : List Flaw) (vs : Values) → and_then es (fs ++ g ∷ gs) vs ≡ and_then es fs (more_unfit g gs vs)
more_faults es [] g gs (values hs) = refl
more_faults es [] g gs (unfit f fs) = refl
more_faults es (h ∷ hs) g gs (values vs) = refl
more_faults es (h ∷ hs) g gs (unfit f fs) = ap (unfit h) (append_assoc hs (g ∷ gs) (f ∷ fs))

-- one value more
pub value_passed : (ts : List Ty) (old : List CoreExpr) (c : CoreExpr) (fs : List Flaw) (vs : Values)
    → and_then (map (expr_view ts) (old ++ c ∷ [])) fs vs ≡ and_then (map (expr_view ts) old) fs (more_values (expr_view ts c) vs)
value_passed ts old c fs vs = ap (λ es. and_then es fs vs) (map-append (expr_view ts) old (c ∷ [])) ∙ one_value (map (expr_view ts) old) (expr_view ts c) fs vs

-- faults more
pub faults_passed : (es : List Expr) (old more : List flaws.Flaw) (vs : Values) → 0 < length more
    → and_then es (map flaw_view (old ++ more)) vs ≡ and_then es (map flaw_view old) (more_unfit (first_of (map flaw_view more)) (others_of (map flaw_view more)) vs)
faults_passed es old [] vs h = absurd (omega arith)
faults_passed es old (g ∷ gs) vs h = ap (λ fs. and_then es fs vs) (map-append flaw_view old (g ∷ gs)) ∙ more_faults es (map flaw_view old) (flaw_view g) (map flaw_view gs) vs

-- nothing is still to come
pub ends_well : (es : List Expr) (fs : List flaws.Flaw) → length fs ≡ 0 → and_then es (map flaw_view fs) (values no_exprs) ≡ values (exprs_of es)
ends_well es [] h = ap values (before_none es)
ends_well es (g ∷ gs) h = absurd (omega arith)

pub ends_faulty : (es : List Expr) (fs : List flaws.Flaw) → 0 < length fs → and_then es (map flaw_view fs) (values no_exprs) ≡ unfit (first_of (map flaw_view fs)) (others_of (map flaw_view fs))
ends_faulty es [] h = absurd (omega arith)
ends_faulty es (g ∷ gs) h = refl
