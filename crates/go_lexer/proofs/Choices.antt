-- Cases of a test, and which step a text's first bytes lead to.
use Rattle.std.proofs.Common.{◌≡◌, ◌≤◌, ◌<◌, ℕ, List, true, false, refl, ap, ◌∙◌, arith}
use Rattle.std.specs.Prelude.{Bool, ◌==◌, ◌||◌, ◌&&◌, if◌then◌else◌, nat_le}
use Rattle.std.proofs.lemmas.Bool.{ne_eqb, leb-true, or_from}
use Rattle.go_lexer.specs.Chars.{byte_at}
use Rattle.go_lexer.specs.Runs.{is_decimal}
use Rattle.go_lexer.specs.Steps.{step_at, step_by, slash_by, slash_step, sign_step, is_blank, number_step, string_step, rune_step, raw_step, line_step, general_step}

-- what holds of both sides holds of the choice
pub if_cases : {X : Type 0} (b : Bool) (P : X → Type 0) (x y : X) → (b ≡ true → P x) → (b ≡ false → P y) → P (if b then x else y)
if_cases true P x y t f = t refl
if_cases false P x y t f = f refl

pub if_true : {X : Type 0} {b : Bool} (x y : X) → b ≡ true → (if b then x else y) ≡ x
if_true x y e = ap (λ b. if b then x else y) e

pub if_false : {X : Type 0} {b : Bool} (x y : X) → b ≡ false → (if b then x else y) ≡ y
if_false x y e = ap (λ b. if b then x else y) e

pub and_parts : (x y : Bool) → (x && y) ≡ true → (x ≡ true) × (y ≡ true)
and_parts true y e = (refl, e)
and_parts false y e = cc

-- a decimal digit is 48 at least and 57 at most
pub decimal_bounds : (b : ℕ) → is_decimal b ≡ true → (48 ≤ b) × (b ≤ 57)
decimal_bounds b e = let p = and_parts (nat_le 48 b) (nat_le b 57) e in (leb-true 48 b p.0, leb-true b 57 p.1)

-- another number
pub apart : (a b : ℕ) → (a < b) → (b == a) ≡ false
apart a b lt = ne_eqb b a (λ e. omega arith)

blank_apart : (b : ℕ) → 32 < b → is_blank b ≡ false
blank_apart b lt = or_from (b == 32 || b == 9) (b == 13) (or_from (b == 32) (b == 9) (apart 32 b (omega arith)) (apart 9 b (omega arith))) (apart 13 b (omega arith))

pub at-string : (text : List ℕ) → byte_at text 0 ≡ 34 → step_at text ≡ string_step text
unfolding step_at
at-string text e = ap (λ b. step_by b text) e

pub at-rune : (text : List ℕ) → byte_at text 0 ≡ 39 → step_at text ≡ rune_step text
unfolding step_at
at-rune text e = ap (λ b. step_by b text) e

pub at-raw : (text : List ℕ) → byte_at text 0 ≡ 96 → step_at text ≡ raw_step text
unfolding step_at
at-raw text e = ap (λ b. step_by b text) e

pub at-slash : (text : List ℕ) → byte_at text 0 ≡ 47 → step_at text ≡ slash_by (byte_at text 1) text
unfolding step_at slash_step
at-slash text e = ap (λ b. step_by b text) e

pub at-line : (text : List ℕ) → byte_at text 0 ≡ 47 → byte_at text 1 ≡ 47 → step_at text ≡ line_step text
at-line text e f = at-slash text e ∙ ap (λ b. slash_by b text) f

pub at-general : (text : List ℕ) → byte_at text 0 ≡ 47 → byte_at text 1 ≡ 42 → step_at text ≡ general_step text
at-general text e f = at-slash text e ∙ ap (λ b. slash_by b text) f

pub at-number : (text : List ℕ) → is_decimal (byte_at text 0) ≡ true → step_at text ≡ number_step text
unfolding step_at
at-number text e =
    let bounds = decimal_bounds (byte_at text 0) e in
    if_false _ _ (apart 10 (byte_at text 0) (omega arith)) ∙ if_false _ _ (blank_apart (byte_at text 0) (omega arith)) ∙ if_true _ _ e

pub at-point : (text : List ℕ) → byte_at text 0 ≡ 46 → step_at text ≡ sign_step text
unfolding step_at
at-point text e = ap (λ b. step_by b text) e
