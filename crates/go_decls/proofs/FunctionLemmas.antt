-- What is told of functions.
use Rattle.std.proofs.Common.{◌≡◌, ◌∙◌, sym, ap, List, [], ◌∷◌, ◌++◌, append_assoc, Bool, true, false, ◌&&◌, Option, Some, None}
use Rattle.std.specs.Prelude.{if◌then◌else◌}
use Rattle.std.proofs.lemmas.List.{append-nil}
use Rattle.gj_base.specs.declared.place.Place.{Place}
use Rattle.go_syntax.specs.Tree as t
use Rattle.go_syntax.specs.declared.tree.Name.{Name}
use Rattle.go_typing.specs.Answer.{Flaw, flaw}
use Rattle.go_typing.specs.Walk.{Walk}
use Rattle.go_typing.specs.Signature.{SigTypes, sig_flaws, sig_types}
use Rattle.go_typing.specs.Items.{is_init}
use Rattle.go_typing.specs.Told.{is_main, takes_something, main_told, function_told}

-- ---- `main`

main_by : (n : Name) (s : SigTypes) (r : Bool) → r ≡ (is_main n && takes_something s) → main_told n (Some s) ≡ (if r then flaw n.place 99 ∷ [] else [])
main_by n s r h = by_test (is_main n) (takes_something s) h
  where
    by_test : (a b : Bool) → r ≡ (a && b) → (if a then (if b then flaw n.place 99 ∷ [] else []) else []) ≡ (if r then flaw n.place 99 ∷ [] else [])
    by_test true b k = ap (λ (x : Bool). if x then flaw n.place 99 ∷ [] else []) (sym k)
    by_test false b k = ap (λ (x : Bool). if x then flaw n.place 99 ∷ [] else []) (sym k)

pub main_refused : (n : Name) (s : SigTypes) (r : Bool) (old new : List Flaw) → r ≡ (is_main n && takes_something s) → r ≡ true → new ≡ old ++ flaw n.place 99 ∷ [] → new ≡ old ++ main_told n (Some s)
main_refused n s r old new h k q = q ∙ sym (ap (λ (fs : List Flaw). old ++ fs) (main_by n s true (sym k ∙ h)))

pub main_passes : (n : Name) (s : SigTypes) (r : Bool) (old : List Flaw) → r ≡ (is_main n && takes_something s) → r ≡ false → old ≡ old ++ main_told n (Some s)
main_passes n s r old h k = sym (append-nil old) ∙ sym (ap (λ (fs : List Flaw). old ++ fs) (main_by n s false (sym k ∙ h)))

pub lost_passes : (n : Name) (o : Option SigTypes) (old : List Flaw) → o ≡ None → old ≡ old ++ main_told n o
lost_passes n o old h = sym (append-nil old) ∙ sym (ap (λ (x : Option SigTypes). old ++ main_told n x) h)

-- ---- a function

pub init_function : (at : Place) (n : Name) (s : t.Sig) (w : Walk) (old new : List Flaw) → is_init n ≡ true → new ≡ old ++ flaw at 0 ∷ [] → new ≡ old ++ function_told at n s w
init_function at n s w old new h q = q ∙ sym (ap (λ (b : Bool). old ++ (if b then flaw at 0 ∷ [] else sig_flaws w s ++ main_told n (sig_types w s))) h)

pub other_function : (at : Place) (n : Name) (s : t.Sig) (w : Walk) (o : Option SigTypes) (old mid new : List Flaw) → is_init n ≡ false → mid ≡ old ++ sig_flaws w s → o ≡ sig_types w s → new ≡ mid ++ main_told n o
    → new ≡ old ++ function_told at n s w
other_function at n s w o old mid new h f e q =
    q ∙ ap (λ (fs : List Flaw). fs ++ main_told n o) f ∙ ap (λ (x : Option SigTypes). (old ++ sig_flaws w s) ++ main_told n x) e ∙ append_assoc old (sig_flaws w s) (main_told n (sig_types w s))
    ∙ sym (ap (λ (b : Bool). old ++ (if b then flaw at 0 ∷ [] else sig_flaws w s ++ main_told n (sig_types w s))) h)
