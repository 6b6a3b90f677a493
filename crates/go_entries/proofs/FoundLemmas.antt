-- Places of left sides that are found.
use Rattle.std.proofs.Common.{◌≡◌, refl, ap, sym, ◌∙◌, subst, arith, length, ℕ, List, [], ◌∷◌}
use Rattle.std.specs.Prelude.{Result, Ok, Err, IsErrAnd}
use Rattle.go_type.specs.Tree.{Ty}
use Rattle.go_core.specs.Assign as assigning
use Rattle.go_core.specs.Assign.{found_with}
use Rattle.go_core.specs.CoreTree.{CoreProgram}
use Rattle.go_core.specs.Did.{Did, gives, on_place}
use Rattle.go_core.specs.Goroutine as defined
use Rattle.go_core.specs.Memory as core
use Rattle.go_core.specs.Memory.{Value}
use Rattle.go_values.specs.OperatorsSeen as seen
use Rattle.go_values.specs.declared.operators.did.Stop.{Stop}
use Rattle.go_values.specs.declared.operators.did.Stop.TheVariants as stop
use Rattle.go_entries.specs.Found.{Misses, BaseFound, PlaceFound}
use Rattle.go_entries.specs.declared.assign_steps.find.Found.{Found}

module _ (m : core.Memory) (units : ℕ) (others : List Value) where
  abbrev at_base : ℕ → Did
  at_base base = gives ((core.pointer base ∷ []) ∷ []) m units

  many_given : (x y : core.Scalar) (ys : Value) → found_with (gives ((x ∷ y ∷ ys) ∷ []) m units) others ≡ assigning.lost
  many_given (core.pointer base) y ys = refl
  many_given x y ys = refl

  -- a value that is a place, or is none
  place_given : (v : Value) → found_with (gives (v ∷ []) m units) others ≡ found_with (on_place v at_base) others
  place_given [] = refl
  place_given (core.pointer base ∷ []) = refl
  place_given (x ∷ []) = refl
  place_given (x ∷ y ∷ ys) = many_given x y ys ∙ sym (many_placed x)
    where
      many_placed : (x : core.Scalar) → found_with (on_place (x ∷ y ∷ ys) at_base) others ≡ assigning.lost
      many_placed (core.pointer base) = refl
      many_placed x = refl

  -- two values are no place
  two_first : (x y : core.Scalar) (ys w : Value) → found_with (gives ((x ∷ y ∷ ys) ∷ w ∷ []) m units) others ≡ assigning.lost
  two_first (core.pointer base) y ys w = refl
  two_first x y ys w = refl

  pub two_given : (v w : Value) → found_with (gives (v ∷ w ∷ []) m units) others ≡ assigning.lost
  two_given [] w = refl
  two_given (core.pointer base ∷ []) w = refl
  two_given (x ∷ []) w = refl
  two_given (x ∷ y ∷ ys) w = two_first x y ys w

  pub base_given : (r : Result ℕ Stop) (v : Value) → seen.Found (λ (n : ℕ). n) r (on_place v) → BaseFound r others (found_with (gives (v ∷ []) m units) others)
  base_given (Ok base) v h = place_given v ∙ ap (λ (d : Did). found_with d others) (h at_base)
  base_given (Err stop.NoMemory) v h = tt
  base_given (Err stop.NoStep) v h = place_given v ∙ ap (λ (d : Did). found_with d others) (h at_base)
  base_given (Err (stop.Panics q u)) v h = place_given v ∙ ap (λ (d : Did). found_with d others) (h at_base)

-- a step that stops finds no place
pub stops_miss : (x : Stop) (d : Did) (others : List Value) → seen.Stops x d → Misses x (found_with d others)
stops_miss stop.NoMemory d others h = tt
stops_miss stop.NoStep d others h = ap (λ (e : Did). found_with e others) h
stops_miss (stop.Panics q u) d others h = ap (λ (e : Did). found_with e others) h

-- what `?` hands on
pub missed_place : (ts : List Ty) (r : Result Found Stop) (x : Stop) (d : assigning.Found) → IsErrAnd r (λ y. y ≡ x) → Misses x d → PlaceFound ts r d
missed_place ts (Ok a) x d i h = absurd i
missed_place ts (Err y) x d i h = subst (λ (z : Stop). Misses z d) (sym i) h

module _ (p : CoreProgram) (at : List defined.Place) (m : core.Memory) (t : Ty) where
  pub field_missed : (x : Stop) (n : ℕ) (d : assigning.Found) → Misses x d → Misses x (assigning.in_field p at m t n d)
  field_missed stop.NoMemory n d h = tt
  field_missed stop.NoStep n d h = ap (assigning.in_field p at m t n) h
  field_missed (stop.Panics q u) n d h = ap (assigning.in_field p at m t n) h

  pub elem_missed : (x : Stop) (d : assigning.Found) → Misses x d → Misses x (assigning.in_elem p at m t d)
  elem_missed stop.NoMemory d h = tt
  elem_missed stop.NoStep d h = ap (assigning.in_elem p at m t) h
  elem_missed (stop.Panics q u) d h = ap (assigning.in_elem p at m t) h

-- the same place, said otherwise
pub found_as : (ts : List Ty) (r : Result Found Stop) (d e : assigning.Found) → d ≡ e → PlaceFound ts r e → PlaceFound ts r d
found_as ts r d e h k = subst (λ (x : assigning.Found). PlaceFound ts r x) (sym h) k

pub none_there : {A : Type 0} (xs : List A) → length xs ≡ 0 → xs ≡ []
none_there {A} [] h = refl
none_there {A} (x ∷ xs) h = absurd (omega (arith, h))
