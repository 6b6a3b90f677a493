-- Expressions that were typed once, and what the definitions say of them.
use Rattle.std.proofs.Common.{◌≡◌, refl, ap, List, [], ◌∷◌, ◌++◌, Bool, ◌&&◌}
use Rattle.go_syntax.specs.Tree as t
use Rattle.go_syntax.specs.View.{exprs_of}
use Rattle.go_type.specs.Tree.{Ty}
use Rattle.go_typing.specs.Answer.{Flaw, is_known}
use Rattle.go_typing.specs.Walk.{Walk}
use Rattle.go_typing.specs.Expressions.{answer_in, flaws_in}
use Rattle.go_typing.specs.Assign.{all_typed, all_in_flaws, several_right}
use Rattle.go_expr.specs.declared.typed.raw.Raw as code
use Rattle.go_expr.specs.Raw.{Raw, raws_of, raw_view, raws_after}
use Rattle.go_assign.specs.Settled.{all_known, all_told, several_in}

-- the last one is held first
pub pushed : (ts : List Ty) (rs : List code.Raw) (r : code.Raw) (after : List Raw) → raws_after ts (rs ++ r ∷ []) after ≡ raw_view ts r ∷ raws_after ts rs after
pushed ts [] r after = refl
pushed ts (s ∷ rs) r after = pushed ts rs r (raw_view ts s ∷ after)

-- ---- the definitions, by what was typed

pub typed_all : (w : Walk) (ys : List t.Expr) → all_typed w (exprs_of ys) ≡ all_known (raws_of w.names w.scopes ys)
typed_all w [] = refl
typed_all w (y ∷ ys) = ap (λ (b : Bool). is_known (answer_in w y) && b) (typed_all w ys)

pub told_all : (w : Walk) (ys : List t.Expr) → all_in_flaws w (exprs_of ys) ≡ all_told (raws_of w.names w.scopes ys)
told_all w [] = refl
told_all w (y ∷ ys) = ap (λ (fs : List Flaw). flaws_in w y ++ fs) (told_all w ys)

pub several_all : (w : Walk) (ys : List t.Expr) → several_right w (exprs_of ys) ≡ several_in (raws_of w.names w.scopes ys)
several_all w [] = refl
several_all w (y ∷ []) = refl
several_all w (y ∷ z ∷ ys) = refl
