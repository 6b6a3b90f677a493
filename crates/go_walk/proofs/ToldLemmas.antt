-- What is told of one label more.
use Rattle.std.proofs.Common.{◌≡◌, ℕ, ◌∙◌, ap, List, [], ◌∷◌, ◌++◌, Bool, cond, append_assoc}
use Rattle.go_syntax.specs.declared.tree.Name.{Name}
use Rattle.go_typing.specs.Answer.{Flaw}
use Rattle.go_typing.specs.Labels.{is_among, label_flaw, label_flaws}

pub told_step : (old new : List Flaw) (seen : List (List ℕ)) (n : Name) (rest : List Name) (used : List (List ℕ)) (s u : Bool)
    → s ≡ is_among n.text seen → u ≡ is_among n.text used → new ≡ old ++ cond s (label_flaw n 82) (cond u [] (label_flaw n 90))
    → new ++ label_flaws (n.text ∷ seen) rest used ≡ old ++ label_flaws seen (n ∷ rest) used
told_step old new seen n rest used s u p q h =
    let later = label_flaws (n.text ∷ seen) rest used in
    ap (λ (fs : List Flaw). fs ++ later) h
    ∙ append_assoc old (cond s (label_flaw n 82) (cond u [] (label_flaw n 90))) later
    ∙ ap (λ (b : Bool). old ++ (cond b (label_flaw n 82) (cond u [] (label_flaw n 90)) ++ later)) p
    ∙ ap (λ (b : Bool). old ++ (cond (is_among n.text seen) (label_flaw n 82) (cond b [] (label_flaw n 90)) ++ later)) q
