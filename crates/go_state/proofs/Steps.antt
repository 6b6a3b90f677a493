-- What a step of a range is where a test is known, and what is produced, said otherwise.
use Rattle.std.proofs.Common.{◌≡◌, ◌∙◌, refl, ap, ℕ, Bool, true, false}
use Rattle.std.specs.Prelude.{if◌then◌else◌, suc, [], ◌∷◌, Option, length, take, drop}
use Rattle.go_type.specs.Tree.{Ty}
use Rattle.go_core.specs.Control as control
use Rattle.go_core.specs.CoreTree.{CoreProgram}
use Rattle.go_core.specs.Goroutine.{Cursor, copied}
use Rattle.go_core.specs.Memory.{Value, Memory}

pub if_true : {A : Type 0} (b : Bool) (x y : A) → b ≡ true → (if b then x else y) ≡ x
if_true {A} b x y h = ap (λ (c : Bool). if c then x else y) h

pub if_false : {A : Type 0} (b : Bool) (x y : A) → b ≡ false → (if b then x else y) ≡ y
if_false {A} b x y h = ap (λ (c : Bool). if c then x else y) h

-- the next key, value and cursor, said otherwise
module _ (p : CoreProgram) (g : ℕ) where
  pub produced : (k l v w : Value) (c d : Cursor) → k ≡ l → v ≡ w → c ≡ d → (let x : control.Next p g = control.next k v c in x) ≡ control.next l w d
  produced k l v w c d e f h =
      let by_key : Value → control.Next p g = λ x. control.next x v c in
      let by_value : Value → control.Next p g = λ x. control.next l x c in
      let by_cursor : Cursor → control.Next p g = λ x. control.next l w x in
      ap by_key e ∙ ap by_value f ∙ ap by_cursor h

  -- the next element of a copy that has one
  pub copied_next : (t : Ty) (birth : Option ℕ) (i : ℕ) (xs : Value) (s : Memory) → ¬ (length xs ≡ 0)
      → control.next_of p g t birth (copied i xs) s ≡ control.next (control.number_value p g i) (take (control.element_size p g t) xs) (copied (suc i) (drop (control.element_size p g t) xs))
  copied_next t birth i [] s h = absurd (h refl)
  copied_next t birth i (x ∷ xs) s h = refl
