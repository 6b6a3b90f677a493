-- What is told of one declaration more.
use Rattle.std.proofs.Common.{◌≡◌, ℕ, ◌∙◌, ap, sym, refl, List, [], ◌∷◌, ◌++◌, Bool, true, false, ◌||◌, if◌then◌else◌, append_assoc}
use Rattle.go_typing.specs.Env.{Bind, is_blank}
use Rattle.go_typing.specs.Answer.{Flaw, flaw}
use Rattle.go_typing.specs.Items.{Item, name_of}
use Rattle.go_typing.specs.Cycles.{is_among, needs_itself, cycles_from}

one_told : (b s l d : Bool) (fs : List Flaw) → (s ≡ false → l ≡ d) → (if b then [] else if s then [] else if l then fs else []) ≡ (if b || s then [] else (if d then fs else []))
one_told true s l d fs f = refl
one_told false true l d fs f = refl
one_told false false l d fs f = ap (λ (c : Bool). if c then fs else []) (f refl)

pub told_step : (ss : List (List Bind)) (all : List Item) (old new : List Flaw) (seen : List (List ℕ)) (i : Item) (rest : List Item) (s l : Bool)
    → s ≡ is_among (name_of i).text seen → (is_among (name_of i).text seen ≡ false → l ≡ needs_itself ss all i)
    → new ≡ old ++ (if is_blank (name_of i).text then [] else if s then [] else if l then flaw (name_of i).place 74 ∷ [] else [])
    → new ++ cycles_from ss all ((name_of i).text ∷ seen) rest ≡ old ++ cycles_from ss all seen (i ∷ rest)
told_step ss all old new seen i rest s l p q h =
    let later = cycles_from ss all ((name_of i).text ∷ seen) rest in
    let fs = flaw (name_of i).place 74 ∷ [] in
    ap (λ (gs : List Flaw). gs ++ later) (h ∙ ap (λ (gs : List Flaw). old ++ gs) (one_told (is_blank (name_of i).text) s l (needs_itself ss all i) fs (λ e. q (sym p ∙ e))
    ∙ ap (λ (b : Bool). if is_blank (name_of i).text || b then [] else (if needs_itself ss all i then fs else [])) p))
    ∙ append_assoc old (if is_blank (name_of i).text || is_among (name_of i).text seen then [] else (if needs_itself ss all i then fs else [])) later
