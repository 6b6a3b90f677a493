-- Names of several parts, one after the other.
use Rattle.std.proofs.Common.{◌≡◌, ℕ, ◌∙◌, refl, sym, ap, List, ◌++◌, append_assoc}

pub of_two : (old new all x a b : List (List ℕ)) → x ≡ old ++ a → all ≡ a ++ b → new ≡ x ++ b → new ≡ old ++ all
of_two old new all x a b p e h = h ∙ ap (λ (z : List (List ℕ)). z ++ b) p ∙ append_assoc old a b ∙ ap (λ (z : List (List ℕ)). old ++ z) (sym e)

pub of_three : (old new all x y a b c : List (List ℕ)) → x ≡ old ++ a → y ≡ x ++ b → all ≡ a ++ b ++ c → new ≡ y ++ c → new ≡ old ++ all
of_three old new all x y a b c p q e h = of_two old new all y (a ++ b) c (of_two old y (a ++ b) x a b p refl q) e h

pub of_four : (old new all x y z a b c d : List (List ℕ)) → x ≡ old ++ a → y ≡ x ++ b → z ≡ y ++ c → all ≡ a ++ b ++ c ++ d → new ≡ z ++ d → new ≡ old ++ all
of_four old new all x y z a b c d p q r e h = of_two old new all z (a ++ b ++ c) d (of_three old z (a ++ b ++ c) x y a b c p q refl r) e h
