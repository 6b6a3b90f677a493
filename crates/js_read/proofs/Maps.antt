-- One more element, seen through a function.
use Rattle.std.proofs.Common.{◌≡◌, ◌∙◌, ap, List, [], ◌∷◌, ◌++◌, map, refl}

map_last : {X Y : Type 0} (f : X → Y) (old : List X) (x : X) → map f (old ++ x ∷ []) ≡ map f old ++ f x ∷ []
map_last f [] x = refl
map_last f (y ∷ ys) x = ap (λ z. f y ∷ z) (map_last f ys x)

pub map_more : {X Y : Type 0} (f : X → Y) (new old : List X) (x : X) → new ≡ old ++ x ∷ [] → map f new ≡ map f old ++ f x ∷ []
map_more f new old x q = ap (map f) q ∙ map_last f old x

pub map_one : {X Y : Type 0} (f : X → Y) (new old : List X) (x : X) → new ≡ old ++ x ∷ [] → old ≡ [] → map f new ≡ f x ∷ []
map_one f new old x q e = ap (map f) (q ∙ ap (λ z. z ++ x ∷ []) e)
