-- The function that is one too many, if nothing is told of its name and its signature.
use Rattle.std.proofs.Common.{◌≡◌, ◌∙◌, refl, sym, ap, List, [], ◌∷◌, Bool, true, false, ◌||◌, ◌&&◌, Option, Some, None}
use Rattle.std.specs.Prelude.{not, if◌then◌else◌}
use Rattle.gj_base.specs.declared.place.Place.{Place}
use Rattle.go_syntax.specs.declared.tree.Name.{Name}
use Rattle.go_typing.specs.Env.{is_blank}
use Rattle.go_typing.specs.Answer.{flaw}
use Rattle.go_typing.specs.Walk.{Walk, declared_place, same_place, any_among}
use Rattle.go_typing.specs.Signature.{SigTypes}
use Rattle.go_typing.specs.Functions.{is_at, is_own, none_told, too_far}
use Rattle.go_typing.specs.Told.{is_main, takes_something, main_told}

-- ---- a name that this declaration declares

pub own_blank : (n : Name) (w : Walk) → is_blank n.text ≡ true → true ≡ is_own n w
own_blank n w h = sym (ap (λ (b : Bool). b || any_among (declared_place n.text w.scopes) (n.place ∷ [])) h)

one_alone : (b : Bool) → b ≡ ((b || false) || false)
one_alone true = refl
one_alone false = refl

among_one : (p q : Place) → same_place q p ≡ any_among (p ∷ []) (q ∷ [])
among_one p q = one_alone (same_place q p)

pub own_found : (n : Name) (w : Walk) (p : Place) (r : Bool) → is_blank n.text ≡ false → declared_place n.text w.scopes ≡ p ∷ [] → r ≡ same_place n.place p → r ≡ is_own n w
own_found n w p r b h k =
    k ∙ among_one p n.place ∙ sym (ap (λ (ps : List Place). any_among ps (n.place ∷ [])) h)
    ∙ sym (ap (λ (x : Bool). x || any_among (declared_place n.text w.scopes) (n.place ∷ [])) b)

pub own_lost : (n : Name) (w : Walk) → is_blank n.text ≡ false → declared_place n.text w.scopes ≡ [] → false ≡ is_own n w
own_lost n w b h =
    sym (ap (λ (ps : List Place). any_among ps (n.place ∷ [])) h) ∙ sym (ap (λ (x : Bool). x || any_among (declared_place n.text w.scopes) (n.place ∷ [])) b)

-- ---- where the function stands

main_none : (n : Name) (s : SigTypes) (r : Bool) → r ≡ (is_main n && takes_something s) → none_told (main_told n (Some s)) ≡ not r
main_none n s r h = by_test (is_main n) (takes_something s) h
  where
    by_test : (a b : Bool) → r ≡ (a && b) → none_told (if a then (if b then flaw n.place 99 ∷ [] else []) else []) ≡ not r
    by_test true true k = sym (ap not k)
    by_test true false k = sym (ap not k)
    by_test false b k = sym (ap not k)

abbrev far_by : Place → Bool → Bool → Bool → Option Place
far_by at a b c = if a && b && c then Some at else None

module _ (far : Option Place) (w : Walk) (at : Place) (n : Name) (s : SigTypes) where
  pub far_here : (r : Bool) → is_at far at ≡ true → is_own n w ≡ true → r ≡ (is_main n && takes_something s) → r ≡ false → Some at ≡ too_far far w at n (Some s)
  far_here r a b h k =
      sym (ap (λ (x : Bool). far_by at x (is_own n w) (none_told (main_told n (Some s)))) a
      ∙ ap (λ (x : Bool). far_by at true x (none_told (main_told n (Some s)))) b
      ∙ ap (λ (x : Bool). far_by at true true x) (main_none n s r h ∙ ap not k))

  pub far_main : (r : Bool) → is_at far at ≡ true → is_own n w ≡ true → r ≡ (is_main n && takes_something s) → r ≡ true → None ≡ too_far far w at n (Some s)
  far_main r a b h k =
      sym (ap (λ (x : Bool). far_by at x (is_own n w) (none_told (main_told n (Some s)))) a
      ∙ ap (λ (x : Bool). far_by at true x (none_told (main_told n (Some s)))) b
      ∙ ap (λ (x : Bool). far_by at true true x) (main_none n s r h ∙ ap not k))

  pub far_other : is_at far at ≡ true → is_own n w ≡ false → None ≡ too_far far w at n (Some s)
  far_other a b =
      sym (ap (λ (x : Bool). far_by at x (is_own n w) (none_told (main_told n (Some s)))) a ∙ ap (λ (x : Bool). far_by at true x (none_told (main_told n (Some s)))) b)

  pub far_away : is_at far at ≡ false → None ≡ too_far far w at n (Some s)
  far_away a = sym (ap (λ (x : Bool). far_by at x (is_own n w) (none_told (main_told n (Some s)))) a)
