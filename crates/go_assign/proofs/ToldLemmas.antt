-- Whether all are typed, and what is told of all, where the last one is held first.
use Rattle.std.proofs.Common.{arith, ◌≡◌, ◌<◌, ◌≤◌, ◌+◌, ℕ, zero, suc, ◌∙◌, refl, sym, ap, List, [], ◌∷◌, ◌++◌, append_assoc, Bool, true, false, ◌&&◌, length, map, drop, get_or}
use Rattle.std.proofs.Math.Seq.{drop-cons}
use Rattle.std.proofs.lemmas.List.{append-nil}
use Rattle.go_type.specs.Tree.{Ty}
use Rattle.go_typing.specs.Answer.{Flaw, is_known}
use Rattle.go_operands.specs.AnswerView.{answer_view, flaw_view}
use Rattle.go_expr.specs.declared.typed.raw.Raw as code
use Rattle.go_expr.specs.Raw.{Raw, raw_view, raws_after}
use Rattle.go_assign.specs.Settled.{all_known, all_told}

next_at : {X : Type 0} (xs : List X) (i : ℕ) (x : X) → i < length xs → x ≡ get_or xs i x → drop i xs ≡ x ∷ drop (i + 1) xs
next_at {X} xs i x h e =
    let one : suc i ≡ i + 1 = omega arith in
    drop-cons xs i x h ∙ ap (λ (y : X). y ∷ drop (suc i) xs) (sym e) ∙ ap (λ (n : ℕ). x ∷ drop n xs) one

past : {X : Type 0} (xs : List X) (i : ℕ) → length xs ≤ i → drop i xs ≡ []
past [] zero h = refl
past [] (suc i) h = refl
past (x ∷ xs) zero h = absurd (omega arith)
past (x ∷ xs) (suc i) h = past xs i (omega arith)

pushed : (ts : List Ty) (rs : List code.Raw) (r : code.Raw) (after : List Raw) → raws_after ts (rs ++ r ∷ []) after ≡ raw_view ts r ∷ raws_after ts rs after
pushed ts [] r after = refl
pushed ts (s ∷ rs) r after = pushed ts rs r (raw_view ts s ∷ after)

-- ---- whether all are typed

regrouped : (k a b : Bool) → (k && (a && b)) ≡ ((k && (a && true)) && b)
regrouped true true b = refl
regrouped true false b = refl
regrouped false a b = refl

known_after : (ts : List Ty) (rs : List code.Raw) (after : List Raw) → all_known (raws_after ts rs after) ≡ (all_known (raws_after ts rs []) && all_known after)
known_after ts [] after = refl
known_after ts (r ∷ rs) after =
    known_after ts rs (raw_view ts r ∷ after) ∙ regrouped (all_known (raws_after ts rs [])) (is_known (answer_view ts r.part.answer)) (all_known after)
    ∙ ap (λ (b : Bool). b && all_known after) (sym (known_after ts rs (raw_view ts r ∷ [])))

and_true : (k b : Bool) → true ≡ b → (k && (b && true)) ≡ k
and_true true true h = refl
and_true false b h = refl
and_true true false h = absurd (cc)

and_false : (k b : Bool) → false ≡ b → (k && (b && true)) ≡ false
and_false true false h = refl
and_false false b h = refl
and_false true true h = absurd (cc)

pub known_step : (ts : List Ty) (xs : List code.Raw) (i : ℕ) (r : code.Raw) → i < length xs → r ≡ get_or xs i r → true ≡ is_known (answer_view ts r.part.answer) → all_known (raws_after ts (drop i xs) []) ≡ all_known (raws_after ts (drop (i + 1) xs) [])
known_step ts xs i r h e k =
    ap (λ (x : List code.Raw). all_known (raws_after ts x [])) (next_at xs i r h e) ∙ known_after ts (drop (i + 1) xs) (raw_view ts r ∷ [])
    ∙ and_true (all_known (raws_after ts (drop (i + 1) xs) [])) (is_known (answer_view ts r.part.answer)) k

pub known_stop : (ts : List Ty) (xs : List code.Raw) (i : ℕ) (r : code.Raw) → i < length xs → r ≡ get_or xs i r → false ≡ is_known (answer_view ts r.part.answer) → all_known (raws_after ts (drop i xs) []) ≡ false
known_stop ts xs i r h e k =
    ap (λ (x : List code.Raw). all_known (raws_after ts x [])) (next_at xs i r h e) ∙ known_after ts (drop (i + 1) xs) (raw_view ts r ∷ [])
    ∙ and_false (all_known (raws_after ts (drop (i + 1) xs) [])) (is_known (answer_view ts r.part.answer)) k

pub known_end : (ts : List Ty) (xs : List code.Raw) (i : ℕ) → length xs ≤ i → all_known (raws_after ts (drop i xs) []) ≡ true
known_end ts xs i h = ap (λ (x : List code.Raw). all_known (raws_after ts x [])) (past xs i h)

-- ---- what is told of all

pub told_step : (ts : List Ty) (old new : List code.Raw) (r : code.Raw) (before after all : List Flaw) → old ≡ new ++ r ∷ [] → after ≡ before ++ map flaw_view r.flaws.items → before ++ all_told (raws_after ts old []) ≡ all
    → after ++ all_told (raws_after ts new []) ≡ all
told_step ts old new r before after all p q h =
    ap (λ (fs : List Flaw). fs ++ all_told (raws_after ts new [])) q
    ∙ append_assoc before (map flaw_view r.flaws.items) (all_told (raws_after ts new []))
    ∙ ap (λ (rs : List Raw). before ++ all_told rs) (sym (ap (λ (x : List code.Raw). raws_after ts x []) p ∙ pushed ts new r []))
    ∙ h

pub told_end : (ts : List Ty) (rs : List code.Raw) (now all : List Flaw) → length rs ≡ 0 → now ++ all_told (raws_after ts rs []) ≡ all → now ≡ all
told_end ts [] now all z h = sym (append-nil now) ∙ h
told_end ts (r ∷ rs) now all z h = absurd (omega arith)
