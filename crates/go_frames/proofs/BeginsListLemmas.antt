-- What lists of the code's trees are with one more.
use Rattle.std.proofs.Common.{◌≡◌, List, [], ◌∷◌, ◌++◌, map, ap, ◌∙◌}
use Rattle.std.proofs.lemmas.List.{map_push}

-- the views of some parts and of one more, whose view is known before each rest
pub more_views : {X Y : Type 0} (f : X → Y → Y) (xs all : List X) (x : X) (g : Y → Y) → all ≡ xs ++ x ∷ [] → ((rest : Y) → f x rest ≡ g rest) → map f all ≡ map f xs ++ g ∷ []
more_views f xs all x g e h = ap (map f) e ∙ map_push f xs x ∙ ap (λ z. map f xs ++ z ∷ []) (λ i rest. h rest i)
