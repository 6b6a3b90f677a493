-- The predeclared types.
use Rattle.std.proofs.Common.{◌≡◌, ℕ, zero, suc, ◌+◌, ◌<◌, List, [], ◌∷◌, Some, length, map, ap, sym, ◌∙◌, subst, arith}
use Rattle.std.specs.Prelude.{codes}
use Rattle.std.specs.List.{slice_get}
use Rattle.go_type.specs.Tree.{Ty}
use Rattle.go_type.specs.Levels.{trees, Below, Rises}
use Rattle.go_type.specs.Named.{NamesBelow, MethodsBelow, named_of, method_of}
use Rattle.go_type.specs.Predeclared.{predeclared_levels, predeclared, predeclared_names, error_interface}
use Rattle.go_type.specs.declared.types.Method.{Method}
use Rattle.go_type.specs.declared.types.NamedType.{NamedType}
use Rattle.go_type.specs.declared.types.GoType.{GoType}

AllFrom : ℕ → ℕ → List GoType → Type 0
AllFrom n m [] = Unit {0}
AllFrom n m (g ∷ gs) = Below n m g × AllFrom (suc n) m gs

from_all : (n m : ℕ) (gs : List GoType) → AllFrom n m gs → (i k : ℕ) → k ≡ n + i → (g : GoType) → slice_get gs i ≡ Some g → Below k m g
unfolding AllFrom
from_all n m [] a i k e g h = cc
from_all n m (x ∷ gs) a zero k e g h =
    let f : n ≡ k = omega arith in
    let s : x ≡ g = cc in
    subst (λ (j : ℕ). Below j m g) f (subst (Below n m) s a.0)
from_all n m (x ∷ gs) a (suc i) k e g h = from_all (suc n) m gs a.1 i k (omega arith) g h

rises_start : Rises 1 predeclared_levels
unfolding AllFrom
rises_start i g h = from_all 0 1 predeclared_levels (tt, (tt, (tt, (tt, (tt, (tt, (tt, (tt, (tt, (tt, (tt, (tt, (tt, (tt, (tt, (tt, (tt, (tt, (((tt, (omega arith, tt)), tt), (omega arith, tt)))))))))))))))))))) i i (omega arith) g h

pub rises_new : (gs : List GoType) (m : ℕ) → gs ≡ predeclared_levels → m ≡ 1 → Rises m gs
rises_new gs m e f = subst (λ (k : ℕ). Rises k gs) (sym f) (subst (Rises 1) (sym e) rises_start)

pub places_new : (gs : List GoType) → gs ≡ predeclared_levels → trees gs ≡ predeclared
unfolding trees
places_new gs e = ap trees e

pub names_new : (gs : List GoType) (xs : List NamedType) (v : NamedType) → gs ≡ predeclared_levels → xs ≡ v ∷ [] → named_of predeclared v ∷ [] ≡ predeclared_names → map (named_of (trees gs)) xs ≡ predeclared_names
names_new gs xs v e f h = ap (map (named_of (trees gs))) f ∙ ap (λ (ts : List Ty). named_of ts v ∷ []) (places_new gs e) ∙ h

error_is : (name p : List ℕ) (methods : List Method) → name ≡ codes "error" → p ≡ [] → methods ≡ [] → named_of predeclared (record { name = name; «package» = p; under = Some (record { 0 = 18 }); methods = methods }) ∷ [] ≡ predeclared_names
error_is name p methods e f g i = record { name = e i; package_ = f i; under = Some error_interface; methods = map (method_of predeclared) (g i) } ∷ []

pub names_start : (gs : List GoType) (xs : List NamedType) (name p : List ℕ) (methods : List Method) → gs ≡ predeclared_levels → xs ≡ record { name = name; «package» = p; under = Some (record { 0 = 18 }); methods = methods } ∷ [] → name ≡ codes "error" → p ≡ [] → methods ≡ []
    → map (named_of (trees gs)) xs ≡ predeclared_names
names_start gs xs name p methods e f a b c = names_new gs xs _ e f (error_is name p methods a b c)

pub below_start : (gs : List GoType) (xs : List NamedType) (name p : List ℕ) (methods : List Method) → gs ≡ predeclared_levels → xs ≡ record { name = name; «package» = p; under = Some (record { 0 = 18 }); methods = methods } ∷ [] → methods ≡ []
    → NamesBelow (length gs) xs
below_start gs xs name p methods e f c =
    let n : 18 < length gs = subst (λ (hs : List GoType). 18 < length hs) (sym e) (omega arith) in
    subst (NamesBelow (length gs)) (sym f) ((n, subst (MethodsBelow (length gs)) (sym c) tt), tt)
