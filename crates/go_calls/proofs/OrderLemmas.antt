-- Operands in their order, where the last one is held first.
use Rattle.std.proofs.Common.{◌≡◌, ◌+◌, refl, ap, ◌∙◌, sym, subst, List, [], ◌∷◌, ◌++◌, length, append_assoc, append-nil, length-append, arith}
use Rattle.std.proofs.lemmas.List.{map-append}
use Rattle.std.specs.List.{AllByRecursion}
use Rattle.gj_base.specs.declared.place.Place.{Place}
use Rattle.go_type.specs.Tree.{Ty}
use Rattle.go_typing.specs.Answer.{Part}
use Rattle.go_typing.specs.Operand.{Operand, single}
use Rattle.go_typing.specs.Wanted.{operand_in, operands_of}
use Rattle.go_calls.specs.declared.given.kinds.Placed.{Placed}
use Rattle.go_operands.specs.AnswerView.{answer_view}
use Rattle.go_operands.specs.declared.operands.part.Part as parts
use Rattle.go_operands.specs.Parts.{part_view}
use Rattle.go_calls.specs.CallView.{parts_view, placed_view, operands_after, operands_view}

-- one more is the first one
pub after_last : (ts : List Ty) (xs : List Placed) (x : Placed) (after : List (Place × Operand)) → operands_after ts (xs ++ x ∷ []) after ≡ placed_view ts x ∷ operands_after ts xs after
after_last ts [] x after = refl
after_last ts (y ∷ ys) x after = after_last ts ys x (placed_view ts y ∷ after)

pub view_last : (ts : List Ty) (xs : List Placed) (x : Placed) → operands_view ts (xs ++ x ∷ []) ≡ placed_view ts x ∷ operands_view ts xs
view_last ts xs x = after_last ts xs x []

pub operands_both : (xs : List Part) (x : Part) → operands_of (xs ++ x ∷ []) ≡ operands_of xs ++ operand_in x.place (single x.answer)
operands_both [] x = append-nil (operand_in x.place (single x.answer))
operands_both (y ∷ ys) x = ap (λ l. operand_in y.place (single y.answer) ++ l) (operands_both ys x) ∙ sym (append_assoc (operand_in y.place (single y.answer)) (operands_of ys) (operand_in x.place (single x.answer)))

pub parts_both : (ts : List Ty) (ps : List parts.Part) (p : parts.Part) → operands_of (parts_view ts (ps ++ p ∷ [])) ≡ operands_of (parts_view ts ps) ++ operand_in p.place (single (answer_view ts p.answer))
parts_both ts ps p = ap operands_of (map-append (part_view ts) ps (p ∷ [])) ∙ operands_both (parts_view ts ps) (part_view ts p)

-- the operands of the last part come before those so far
pub operands_step : (ts : List Ty) (old new : List parts.Part) (p : parts.Part) (xs ys : List Placed) (all : List (Place × Operand)) → old ≡ new ++ p ∷ []
    → operands_view ts ys ≡ operand_in p.place (single (answer_view ts p.answer)) ++ operands_view ts xs
    → operands_of (parts_view ts old) ++ operands_view ts xs ≡ all → operands_of (parts_view ts new) ++ operands_view ts ys ≡ all
operands_step ts old new p xs ys all h k e =
    ap (λ l. operands_of (parts_view ts new) ++ l) k
    ∙ sym (append_assoc (operands_of (parts_view ts new)) (operand_in p.place (single (answer_view ts p.answer))) (operands_view ts xs))
    ∙ ap (λ l. l ++ operands_view ts xs) (sym (parts_both ts new p))
    ∙ ap (λ l. operands_of (parts_view ts l) ++ operands_view ts xs) (sym h)
    ∙ e

-- what holds of each before the last one, and of the last one
pub all_before : {X : Type 0} (P : X → Type 0) (xs : List X) (x : X) → AllByRecursion P (xs ++ x ∷ []) → AllByRecursion P xs
all_before P [] x h = tt
all_before P (y ∷ ys) x h = (h.0, all_before P ys x h.1)

pub last_of_all : {X : Type 0} (P : X → Type 0) (xs : List X) (x : X) → AllByRecursion P (xs ++ x ∷ []) → P x
last_of_all P [] x h = h.0
last_of_all P (y ∷ ys) x h = last_of_all P ys x h.1

pub and_last : {X : Type 0} (P : X → Type 0) (xs : List X) (x : X) → AllByRecursion P xs → P x → AllByRecursion P (xs ++ x ∷ [])
and_last P [] x h p = (p, tt)
and_last P (y ∷ ys) x h p = (h.0, and_last P ys x h.1 p)

pub rest_of_all : {X : Type 0} (P : X → Type 0) (old new : List X) (x : X) → old ≡ new ++ x ∷ [] → AllByRecursion P old → AllByRecursion P new
rest_of_all P old new x h a = all_before P new x (subst (λ l. AllByRecursion P l) h a)

pub last_among : {X : Type 0} (P : X → Type 0) (old new : List X) (x : X) → old ≡ new ++ x ∷ [] → AllByRecursion P old → P x
last_among P old new x h a = last_of_all P new x (subst (λ l. AllByRecursion P l) h a)

pub with_last : {X : Type 0} (P : X → Type 0) (old new : List X) (x : X) → new ≡ old ++ x ∷ [] → AllByRecursion P old → P x → AllByRecursion P new
with_last P old new x h a p = subst (λ l. AllByRecursion P l) (sym h) (and_last P old x a p)

pub both_shorter : {A B : Type 0} (rest others : List A) (t : A) (old new : List B) (x : B) → rest ≡ t ∷ others → old ≡ new ++ x ∷ [] → length rest ≡ length old → length others ≡ length new
both_shorter rest others t old new x h k e =
    let a = ap length h in
    let b = ap length k ∙ length-append new (x ∷ []) in
    omega (arith, a, b, e)

-- how many operands there are
after_count : (ts : List Ty) (xs : List Placed) (after : List (Place × Operand)) → length (operands_after ts xs after) ≡ length xs + length after
after_count ts [] after = omega arith
after_count ts (x ∷ xs) after = let more = after_count ts xs (placed_view ts x ∷ after) in omega (arith, more)

pub view_count : (ts : List Ty) (xs : List Placed) → length (operands_view ts xs) ≡ length xs
view_count ts xs = let all = after_count ts xs [] in omega (arith, all)

-- the one operand
pub only_operand : (ts : List Ty) (xs new : List Placed) (x : Placed) → xs ≡ new ++ x ∷ [] → length xs ≡ 1 → operands_view ts xs ≡ placed_view ts x ∷ []
only_operand ts xs [] x h e = ap (operands_view ts) h
only_operand ts xs (y ∷ ys) x h e =
    let a = ap length h ∙ length-append (y ∷ ys) (x ∷ []) in
    absurd (omega (arith, a, e))
