-- Whether values are fine, where the last one is held first.
use Rattle.std.proofs.Common.{arith, ◌≡◌, ◌<◌, ◌≤◌, ◌+◌, ℕ, zero, suc, ◌∙◌, refl, sym, ap, List, [], ◌∷◌, ◌++◌, Bool, true, false, ◌&&◌, length, map, drop, get_or}
use Rattle.std.specs.Prelude.{if◌then◌else◌}
use Rattle.std.proofs.Math.Seq.{drop-cons}
use Rattle.go_type.specs.Tree.{Ty}
use Rattle.go_typing.specs.Answer.{Flaw, is_known}
use Rattle.go_operands.specs.AnswerView.{answer_view, flaw_view}
use Rattle.go_operands.specs.declared.answers.answer.Flaw as code_flaw
use Rattle.go_typing.specs.Assign.{where_right}
use Rattle.go_expr.specs.declared.typed.raw.Raw as code
use Rattle.go_expr.specs.Raw.{Raw, raw_view, raws_after}
use Rattle.go_assign.specs.Settled.{all_known, all_told}
use Rattle.go_define.specs.DefineTold.{is_clean, is_fine, all_fine}

-- ---- one

pub clean_none : (fs : List code_flaw.Flaw) → length fs ≡ 0 → true ≡ is_clean (map flaw_view fs)
clean_none [] h = refl
clean_none (f ∷ fs) h = absurd (omega (arith, h))

pub clean_some : (fs : List code_flaw.Flaw) → (length fs ≡ 0 → ⊥) → false ≡ is_clean (map flaw_view fs)
clean_some [] h = absurd (h refl)
clean_some (f ∷ fs) h = refl

pub fine_not : (ts : List Ty) (r : code.Raw) → false ≡ is_known (answer_view ts r.part.answer) → false ≡ is_fine (raw_view ts r)
fine_not ts r h = ap (λ (k : Bool). k && is_clean (map flaw_view r.flaws.items)) h

pub fine_by : (ts : List Ty) (r : code.Raw) (b : Bool) → true ≡ is_known (answer_view ts r.part.answer) → b ≡ is_clean (map flaw_view r.flaws.items) → b ≡ is_fine (raw_view ts r)
fine_by ts r b h k = k ∙ ap (λ (n : Bool). n && is_clean (map flaw_view r.flaws.items)) h

-- ---- all

next_at : {X : Type 0} (xs : List X) (i : ℕ) (x : X) → i < length xs → x ≡ get_or xs i x → drop i xs ≡ x ∷ drop (i + 1) xs
next_at {X} xs i x h e =
    let one : suc i ≡ i + 1 = omega arith in
    drop-cons xs i x h ∙ ap (λ (y : X). y ∷ drop (suc i) xs) (sym e) ∙ ap (λ (n : ℕ). x ∷ drop n xs) one

past : {X : Type 0} (xs : List X) (i : ℕ) → length xs ≤ i → drop i xs ≡ []
past [] zero h = refl
past [] (suc i) h = refl
past (x ∷ xs) zero h = absurd (omega arith)
past (x ∷ xs) (suc i) h = past xs i (omega arith)

regrouped : (k a b : Bool) → (k && (a && b)) ≡ ((k && (a && true)) && b)
regrouped true true b = refl
regrouped true false b = refl
regrouped false a b = refl

fine_after : (ts : List Ty) (rs : List code.Raw) (after : List Raw) → all_fine (raws_after ts rs after) ≡ (all_fine (raws_after ts rs []) && all_fine after)
fine_after ts [] after = refl
fine_after ts (r ∷ rs) after =
    fine_after ts rs (raw_view ts r ∷ after) ∙ regrouped (all_fine (raws_after ts rs [])) (is_fine (raw_view ts r)) (all_fine after)
    ∙ ap (λ (b : Bool). b && all_fine after) (sym (fine_after ts rs (raw_view ts r ∷ [])))

and_true : (k b : Bool) → true ≡ b → (k && (b && true)) ≡ k
and_true true true h = refl
and_true false b h = refl
and_true true false h = absurd (cc)

and_false : (k b : Bool) → false ≡ b → (k && (b && true)) ≡ false
and_false true false h = refl
and_false false b h = refl
and_false true true h = absurd (cc)

pub fine_step : (ts : List Ty) (xs : List code.Raw) (i : ℕ) (r : code.Raw) → i < length xs → r ≡ get_or xs i r → true ≡ is_fine (raw_view ts r) → all_fine (raws_after ts (drop i xs) []) ≡ all_fine (raws_after ts (drop (i + 1) xs) [])
fine_step ts xs i r h e k =
    ap (λ (x : List code.Raw). all_fine (raws_after ts x [])) (next_at xs i r h e) ∙ fine_after ts (drop (i + 1) xs) (raw_view ts r ∷ [])
    ∙ and_true (all_fine (raws_after ts (drop (i + 1) xs) [])) (is_fine (raw_view ts r)) k

pub fine_stop : (ts : List Ty) (xs : List code.Raw) (i : ℕ) (r : code.Raw) → i < length xs → r ≡ get_or xs i r → false ≡ is_fine (raw_view ts r) → all_fine (raws_after ts (drop i xs) []) ≡ false
fine_stop ts xs i r h e k =
    ap (λ (x : List code.Raw). all_fine (raws_after ts x [])) (next_at xs i r h e) ∙ fine_after ts (drop (i + 1) xs) (raw_view ts r ∷ [])
    ∙ and_false (all_fine (raws_after ts (drop (i + 1) xs) [])) (is_fine (raw_view ts r)) k

pub fine_end : (ts : List Ty) (xs : List code.Raw) (i : ℕ) → length xs ≤ i → all_fine (raws_after ts (drop i xs) []) ≡ true
fine_end ts xs i h = ap (λ (x : List code.Raw). all_fine (raws_after ts x [])) (past xs i h)

-- ---- as the definitions say it

right_not : (ps fs : List Flaw) → where_right false ps fs ≡ []
right_not [] fs = refl
right_not (p ∷ ps) fs = refl

right_told : (k : Bool) (p : Flaw) (ps fs : List Flaw) → where_right k (p ∷ ps) fs ≡ []
right_told true p ps fs = refl
right_told false p ps fs = refl

pub right_and : (k a ks : Bool) (ps fs : List Flaw) → (if a then fs else []) ≡ where_right ks ps fs → (if (k && a) then fs else []) ≡ where_right (k && ks) ps fs
right_and true a ks ps fs h = h
right_and false a ks ps fs h = sym (right_not ps fs)

right_one : (k : Bool) (gs : List Flaw) (a ks : Bool) (ps fs : List Flaw) → (if a then fs else []) ≡ where_right ks ps fs → (if ((k && is_clean gs) && a) then fs else []) ≡ where_right (k && ks) (gs ++ ps) fs
right_one false gs a ks ps fs h = sym (right_not (gs ++ ps) fs)
right_one true [] a ks ps fs h = h
right_one true (g ∷ gs) a ks ps fs h = sym (right_told ks g (gs ++ ps) fs)

pub fine_right : (rs : List Raw) (fs : List Flaw) → (if all_fine rs then fs else []) ≡ where_right (all_known rs) (all_told rs) fs
fine_right [] fs = refl
fine_right (r ∷ rs) fs = right_one (is_known r.part.answer) r.flaws (all_fine rs) (all_known rs) (all_told rs) fs (fine_right rs fs)
