-- What is told of one more variable.
use Rattle.std.proofs.Common.{◌≡◌, ◌∙◌, refl, sym, ap, List, [], ◌∷◌, ◌++◌, append_assoc, Bool, true, false, cond}
use Rattle.gj_base.specs.declared.place.Place.{Place}
use Rattle.go_syntax.specs.declared.tree.Name.{Name}
use Rattle.go_typing.specs.Answer.{Flaw}
use Rattle.go_typing.specs.Walk.{is_among, unused}

pub unused_step : (before after : List Flaw) (n : Name) (ns : List Name) (used : List Place) (is_used : Bool) → is_used ≡ is_among n.place used
    → after ≡ before ++ cond is_used [] (record { place = n.place; code = 80; name = n.text } ∷ []) → after ++ unused ns used ≡ before ++ unused (n ∷ ns) used
unused_step before after n ns used is_used e q =
    ap (λ (fs : List Flaw). fs ++ unused ns used) q
    ∙ append_assoc before (cond is_used [] (told ∷ [])) (unused ns used)
    ∙ ap (λ (fs : List Flaw). before ++ fs) (by is_used ∙ ap (λ (b : Bool). cond b (unused ns used) (told ∷ unused ns used)) e)
  where
    told : Flaw
    told = record { place = n.place; code = 80; name = n.text }

    by : (b : Bool) → cond b [] (told ∷ []) ++ unused ns used ≡ cond b (unused ns used) (told ∷ unused ns used)
    by true = refl
    by false = refl
