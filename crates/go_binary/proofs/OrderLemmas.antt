-- Bounds by their indexes, and bounds out of order, by whether the one is less than the other.
use Rattle.std.proofs.Common.{◌≡◌, refl, ap, ℕ, [], ◌∷◌}
use Rattle.std.specs.Prelude.{true, false, Option, Some, None, if◌then◌else◌}
use Rattle.gj_base.specs.declared.place.Place.{Place}
use Rattle.go_typing.specs.Answer.{flaw}
use Rattle.go_typing.specs.Index.{Index, index, no_index, unfit_index, edge, edge_value, edge_bound, out_of_order}
use Rattle.go_binary.specs.Order.{index_value, index_bound, is_before}

pub edge_has_value : (q : Place) (i : Index) → edge_value (edge q i) ≡ index_value i
edge_has_value q (index d n) = refl
edge_has_value q no_index = refl
edge_has_value q (unfit_index f fs) = refl

pub edge_has_bound : (q : Place) (i : Index) → edge_bound (edge q i) ≡ index_bound i
edge_has_bound q (index d n) = refl
edge_has_bound q no_index = refl
edge_has_bound q (unfit_index f fs) = refl

pub before_it : (m : Option ℕ) (q : Place) (i : Index) → is_before (index_value i) m ≡ true → out_of_order m (edge q i) ≡ flaw q 65 ∷ []
before_it None q (index d None) h = absurd (cc)
before_it None q (index d (Some n)) h = absurd (cc)
before_it None q no_index h = absurd (cc)
before_it None q (unfit_index f fs) h = absurd (cc)
before_it (Some m) q (index d None) h = absurd (cc)
before_it (Some m) q (index d (Some n)) h = ap (λ b. if b then flaw q 65 ∷ [] else []) h
before_it (Some m) q no_index h = absurd (cc)
before_it (Some m) q (unfit_index f fs) h = absurd (cc)

pub in_order : (m : Option ℕ) (q : Place) (i : Index) → is_before (index_value i) m ≡ false → out_of_order m (edge q i) ≡ []
in_order None q (index d None) h = refl
in_order None q (index d (Some n)) h = refl
in_order None q no_index h = refl
in_order None q (unfit_index f fs) h = refl
in_order (Some m) q (index d None) h = refl
in_order (Some m) q (index d (Some n)) h = ap (λ b. if b then flaw q 65 ∷ [] else []) h
in_order (Some m) q no_index h = refl
in_order (Some m) q (unfit_index f fs) h = refl
