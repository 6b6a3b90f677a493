-- The row of conversions, by what its operands are and how many.
use Rattle.std.proofs.Common.{◌≡◌, ◌≢◌, refl, sym, ◌∙◌, List, [], ◌∷◌, length}
use Rattle.std.specs.Prelude.{Bool, true, false, if◌then◌else◌}
use Rattle.gj_base.specs.declared.place.Place.{Place}
use Rattle.go_type.specs.Tree.{Ty}
use Rattle.go_type.specs.Named.{NamedTy}
use Rattle.go_typing.specs.Answer.{Flaw, bad, unless, Part, all_known, where_known}
use Rattle.go_typing.specs.Operand.{Operand}
use Rattle.go_typing.specs.Wanted.{no_values, operands_of}
use Rattle.go_typing.specs.Convert.{conversion_of_all, conversion_row}
use Rattle.go_calls.specs.declared.given.kinds.Placed.{Placed}
use Rattle.go_calls.specs.CallView.{operands_view}
use Rattle.go_calls.specs.GivenView.{handed, unknown_part, handed_unless, operands_given, on_handed}
use Rattle.go_calls.proofs.OrderLemmas.{view_count}
use Rattle.go_calls.specs.ConversionAs.{conversion_as}

conversion_by : (ns : List NamedTy) (at : Place) (t : Ty) (spread b : Bool) (fs : List Flaw) (ys : List (Place × Operand))
    → where_known b (unless fs (conversion_as ns at t spread ys)) ≡ on_handed (if b then handed_unless fs (handed ys) else unknown_part) (conversion_as ns at t spread)
conversion_by ns at t spread true [] ys = refl
conversion_by ns at t spread true (f ∷ fs) ys = refl
conversion_by ns at t spread false fs ys = refl

pub conversion_handed : (ns : List NamedTy) (at : Place) (t : Ty) (spread : Bool) (xs : List Part) → conversion_row ns at t spread xs ≡ on_handed (operands_given xs) (conversion_as ns at t spread)
conversion_handed ns at t spread xs = conversion_by ns at t spread (all_known xs) (no_values xs) (operands_of xs)

none_converts : (ns : List NamedTy) (at : Place) (t : Ty) (xs : List (Place × Operand)) → length xs ≢ 1 → conversion_of_all ns at t xs ≡ bad at 60
none_converts ns at t [] h = refl
none_converts ns at t (x ∷ []) h = absurd (h refl)
none_converts ns at t (x ∷ y ∷ xs) h = refl

pub other_converts : (ns : List NamedTy) (at : Place) (t : Ty) (ts : List Ty) (xs : List Placed) → length xs ≢ 1 → conversion_of_all ns at t (operands_view ts xs) ≡ bad at 60
other_converts ns at t ts xs h = none_converts ns at t (operands_view ts xs) (λ e. h (sym (view_count ts xs) ∙ e))
