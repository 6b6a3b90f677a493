-- Whether `main` takes or gives something.
use Rattle.std.proofs.Common.{arith, ◌≡◌, ◌<◌, ◌∙◌, refl, sym, ap, List, [], ◌∷◌, length, Bool, true, false, ◌&&◌}
use Rattle.go_type.specs.Tree.{Ty, no_tys}
use Rattle.go_type.specs.Levels.{trees_of}
use Rattle.go_type.specs.declared.types.TypeId.{TypeId}
use Rattle.go_typing.specs.Signature.{SigTypes}
use Rattle.go_typing.specs.Told.{takes_something}

abbrev sig_of : List Ty → List TypeId → List TypeId → SigTypes
sig_of ts ps rs = record { params = trees_of ts ps; results = trees_of ts rs }

pub takes_by_results : (ts : List Ty) (ps rs : List TypeId) → length ps ≡ 0 → takes_something (record { params = no_tys; results = trees_of ts rs }) ≡ takes_something (sig_of ts ps rs)
takes_by_results ts [] rs h = refl
takes_by_results ts (p ∷ ps) rs h = absurd (omega arith)

pub takes_params : (ts : List Ty) (ps rs : List TypeId) → (length ps ≡ 0 → ⊥) → takes_something (sig_of ts ps rs) ≡ true
takes_params ts [] rs h = absurd (h refl)
takes_params ts (p ∷ ps) rs h = refl

pub none_taken : (ts : List Ty) (rs : List TypeId) → length rs ≡ 0 → false ≡ takes_something (record { params = no_tys; results = trees_of ts rs })
none_taken ts [] h = refl
none_taken ts (r ∷ rs) h = absurd (omega arith)

pub some_taken : (ts : List Ty) (rs : List TypeId) → 0 < length rs → true ≡ takes_something (record { params = no_tys; results = trees_of ts rs })
some_taken ts [] h = absurd (omega arith)
some_taken ts (r ∷ rs) h = refl

pub and_on : (a b r : Bool) → a ≡ true → r ≡ b → r ≡ (a && b)
and_on a b r h k = k ∙ sym (ap (λ (x : Bool). x && b) h)

pub and_off : (a b : Bool) → a ≡ false → false ≡ (a && b)
and_off a b h = sym (ap (λ (x : Bool). x && b) h)
