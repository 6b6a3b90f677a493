-- The innermost target is taken away.
use Rattle.std.proofs.Common.{arith, ◌≡◌, ◌-◌, ℕ, suc, ◌∙◌, refl, sym, ap, List, [], ◌∷◌, ◌++◌, length, take, map}
use Rattle.std.specs.Prelude.{reverse}
use Rattle.std.proofs.lemmas.List.{reverse-append}
use Rattle.go_typing.specs.Walk as walk
use Rattle.go_walk.specs.declared.labels.target.Target.{Target}
use Rattle.go_walk.specs.Left.{target_of, without_first}

before : (rs : List walk.Target) (r : walk.Target) (ss : List walk.Target) → without_first ((rs ++ r ∷ []) ++ ss) ≡ without_first (rs ++ r ∷ []) ++ ss
before [] r ss = refl
before (q ∷ rs) r ss = refl

turned : (t : walk.Target) (ts : List walk.Target) → reverse (t ∷ ts) ≡ reverse ts ++ t ∷ []
turned t ts = reverse-append (t ∷ []) ts

pub popped : (ts : List Target) → reverse (map target_of (take (length ts - 1) ts)) ≡ without_first (reverse (map target_of ts))
popped [] = refl
popped (t ∷ []) = refl
popped (t ∷ s ∷ ts) =
    let less : length (t ∷ s ∷ ts) - 1 ≡ suc (length (s ∷ ts) - 1) = omega arith in
    let rest = map target_of (s ∷ ts) in
    ap (λ (n : ℕ). reverse (map target_of (take n (t ∷ s ∷ ts)))) less
    ∙ turned (target_of t) (map target_of (take (length (s ∷ ts) - 1) (s ∷ ts)))
    ∙ ap (λ (rs : List walk.Target). rs ++ target_of t ∷ []) (popped (s ∷ ts))
    ∙ sym (ap without_first (turned (target_of t) rest ∙ ap (λ (rs : List walk.Target). rs ++ target_of t ∷ []) (turned (target_of s) (map target_of ts)))
    ∙ before (reverse (map target_of ts)) (target_of s) (target_of t ∷ [])
    ∙ ap (λ (rs : List walk.Target). without_first rs ++ target_of t ∷ []) (sym (turned (target_of s) (map target_of ts))))
