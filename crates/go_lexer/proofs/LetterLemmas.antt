-- The letters below 128, and that no other piece begins with a letter.
use Rattle.std.proofs.Common.{◌≡◌, ◌≤◌, ◌<◌, ◌+◌, ◌-◌, ℕ, zero, suc, List, true, false, refl, sym, ap, ◌∙◌, arith, None}
use Rattle.std.specs.Prelude.{Bool, ◌==◌, ◌||◌, ◌&&◌, if◌then◌else◌, nat_le, nat_lt}
use Rattle.std.specs.Bool.{beq}
use Rattle.std.specs.Char.{is_ascii_alphabetic, is_ascii_digit}
use Rattle.std.proofs.lemmas.Bool.{ne_eqb, lt-ltb, le-leb, ltb-true, ltb-false, or_from}
use lib.Utf8.{low_scalar}
use Rattle.ucd_table.proofs.Facts.{Stepped-below, same_from_beq}
use Rattle.ucd_category.specs.GeneralCategory.{general_category}
use Rattle.ucd_category.proofs.Computing.{ucd_category}
use Rattle.ucd_category.proofs.GeneralCategoryLemmas.{general_category_stepped}
use Rattle.go_lexer.specs.Chars.{byte_at, char_width, char_code, width_of_bytes, code_of_bytes, is_letter, is_digit, is_letter_category, is_digit_category, letter_width, name_width, width_where, first_char}
use Rattle.go_lexer.specs.Operators.{operator_of, punctuation}
use Rattle.go_lexer.specs.Runs.{is_decimal}
use Rattle.go_lexer.specs.Steps.{step_at, sign_step, name_step, operator_step, is_blank}
use Rattle.go_lexer.proofs.UnitLemmas.{given, where_given, given_some}
use Rattle.go_lexer.proofs.Choices.{if_true, if_false, decimal_bounds}

-- the letters below 128 are those of ASCII
pub letter_category-ascii : (c : ℕ) → c < 128 → is_letter_category (general_category c) ≡ is_ascii_alphabetic c
unfolding ucd_category
letter_category-ascii c h =
    same_from_beq _ _ (Stepped-below general_category general_category_stepped (λ x v. beq (is_letter_category v) (is_ascii_alphabetic x)) 128 refl c h)

-- the bytes that a letter may begin with
abbrev pub is_letter_byte : ℕ → Bool
is_letter_byte b = b == 95 || is_ascii_alphabetic b || nat_le 128 b

-- the byte is not this one, which begins no letter
pub apart_from : (b k : ℕ) → is_letter_byte b ≡ true → is_letter_byte k ≡ false → (b == k) ≡ false
apart_from b k e f = ne_eqb b k (λ same. let g : is_letter_byte k ≡ true = ap is_letter_byte (sym same) ∙ e in let h : true ≡ false = sym g ∙ f in cc)

or_left : (x y : Bool) → x ≡ true → (x || y) ≡ true
or_left x y e = ap (λ x. x || y) e

or_right : (x y : Bool) → y ≡ true → (x || y) ≡ true
or_right true y e = refl
or_right false y e = e

code_of_one : (a b c d : ℕ) → nat_lt a 0x80 ≡ true → code_of_bytes (width_of_bytes a b c d) a b c d ≡ a
unfolding code_of_bytes width_of_bytes
code_of_one a b c d e = ap (λ w. code_of_bytes w a b c d) (if_true _ _ e)

-- a letter below 128 is such a byte
ascii : (c : ℕ) → c < 128 → is_letter c ≡ true → is_letter_byte c ≡ true
unfolding is_letter
ascii c lt e = or_left (c == 95 || is_ascii_alphabetic c) (nat_le 128 c) (ap (λ x. c == 95 || x) (sym (letter_category-ascii c lt)) ∙ e)

-- a letter begins with such a byte
pub letter_begins : (text : List ℕ) → 0 < letter_width text → is_letter_byte (byte_at text 0) ≡ true
unfolding letter_width
letter_begins text some =
    let g = where_given is_letter text in
    let p = given_some is_letter (char_width text) (char_code text) (omega arith) in
    small (nat_lt (byte_at text 0) 0x80) refl p.1.0 where
      code_one : nat_lt (byte_at text 0) 0x80 ≡ true → char_code text ≡ byte_at text 0
      code_one e = code_of_one (byte_at text 0) (byte_at text 1) (byte_at text 2) (byte_at text 3) e

      small : (t : Bool) → nat_lt (byte_at text 0) 0x80 ≡ t → is_letter (char_code text) ≡ true → is_letter_byte (byte_at text 0) ≡ true
      small true e letter = ascii (byte_at text 0) (ltb-true (byte_at text 0) 0x80 e) (ap is_letter (sym (code_one e)) ∙ letter)
      small false e letter = or_right (byte_at text 0 == 95 || is_ascii_alphabetic (byte_at text 0)) (nat_le 128 (byte_at text 0)) (le-leb 128 (byte_at text 0) (ltb-false (byte_at text 0) 0x80 e))

-- no operator begins with such a byte
pub no_operator : (a b c : ℕ) → is_letter_byte a ≡ true → operator_of a b c ≡ None
unfolding operator_of punctuation
no_operator a b c e =
    if_false _ _ (apart_from a 43 e refl)
    ∙ if_false _ _ (apart_from a 45 e refl)
    ∙ if_false _ _ (apart_from a 42 e refl)
    ∙ if_false _ _ (apart_from a 47 e refl)
    ∙ if_false _ _ (apart_from a 37 e refl)
    ∙ if_false _ _ (apart_from a 38 e refl)
    ∙ if_false _ _ (apart_from a 124 e refl)
    ∙ if_false _ _ (apart_from a 94 e refl)
    ∙ if_false _ _ (apart_from a 60 e refl)
    ∙ if_false _ _ (apart_from a 62 e refl)
    ∙ if_false _ _ (apart_from a 61 e refl)
    ∙ if_false _ _ (apart_from a 33 e refl)
    ∙ if_false _ _ (apart_from a 58 e refl)
    ∙ if_false _ _ (apart_from a 46 e refl)
    ∙ if_false _ _ (apart_from a 40 e refl)
    ∙ if_false _ _ (apart_from a 41 e refl)
    ∙ if_false _ _ (apart_from a 91 e refl)
    ∙ if_false _ _ (apart_from a 93 e refl)
    ∙ if_false _ _ (apart_from a 123 e refl)
    ∙ if_false _ _ (apart_from a 125 e refl)
    ∙ if_false _ _ (apart_from a 44 e refl)

letters : (k : ℕ) → k ≤ 9 → is_letter_byte (48 + k) ≡ true → ⊥
letters zero le h = cc
letters (suc zero) le h = cc
letters (suc (suc zero)) le h = cc
letters (suc (suc (suc zero))) le h = cc
letters (suc (suc (suc (suc zero)))) le h = cc
letters (suc (suc (suc (suc (suc zero))))) le h = cc
letters (suc (suc (suc (suc (suc (suc zero)))))) le h = cc
letters (suc (suc (suc (suc (suc (suc (suc zero))))))) le h = cc
letters (suc (suc (suc (suc (suc (suc (suc (suc zero)))))))) le h = cc
letters (suc (suc (suc (suc (suc (suc (suc (suc (suc zero))))))))) le h = cc
letters (suc (suc (suc (suc (suc (suc (suc (suc (suc (suc k)))))))))) le h = absurd (omega arith)

-- a letter is no blank and no digit
pub no_blank : (b : ℕ) → is_letter_byte b ≡ true → is_blank b ≡ false
no_blank b e = or_from _ _ (or_from _ _ (apart_from b 32 e refl) (apart_from b 9 e refl)) (apart_from b 13 e refl)

pub no_decimal : (b : ℕ) → is_letter_byte b ≡ true → is_decimal b ≡ false
no_decimal b e = decides (is_decimal b) refl where
  decides : (t : Bool) → is_decimal b ≡ t → is_decimal b ≡ false
  decides false f = f
  decides true f =
      let bounds = decimal_bounds b f in
      let back : 48 + (b - 48) ≡ b = omega arith in
      absurd (letters (b - 48) (omega arith) (ap is_letter_byte back ∙ e))

-- what begins with a letter is a name
pub at-name : (text : List ℕ) → 0 < letter_width text → step_at text ≡ name_step text
unfolding step_at sign_step
at-name text some =
    let b = byte_at text 0 in
    let e = letter_begins text some in
    if_false _ _ (apart_from b 10 e refl) ∙ if_false _ _ (no_blank b e) ∙ if_false _ _ (no_decimal b e) ∙ if_false _ _ (apart_from b 34 e refl) ∙ if_false _ _ (apart_from b 39 e refl) ∙ if_false _ _ (apart_from b 96 e refl) ∙ if_false _ _ (apart_from b 47 e refl) ∙ if_false _ _ (apart_from b 59 e refl)
    ∙ if_false _ _ (ap (λ x. x && is_decimal (byte_at text 1)) (apart_from b 46 e refl))
    ∙ ap (λ o. operator_step o text) (no_operator b (byte_at text 1) (byte_at text 2) e)

-- the digits below 128 are those of ASCII
digit_category-ascii : (c : ℕ) → c < 128 → is_digit_category (general_category c) ≡ is_ascii_digit c
unfolding ucd_category
digit_category-ascii c h =
    same_from_beq _ _ (Stepped-below general_category general_category_stepped (λ x v. beq (is_digit_category v) (is_ascii_digit x)) 128 refl c h)

-- the width of a character below 128
given_ascii : (test : ℕ → Bool) (text : List ℕ) → byte_at text 0 < 128 → width_where test text (first_char text) ≡ (if test (byte_at text 0) then 1 else 0)
unfolding width_of_bytes code_of_bytes
given_ascii test text lt =
    let b = byte_at text 0 in
    let low = lt-ltb b 0x80 lt in
    let w : char_width text ≡ 1 = if_true _ _ low in
    let c : char_code text ≡ b = code_of_one b (byte_at text 1) (byte_at text 2) (byte_at text 3) low in
    where_given test text ∙ ap (λ w. given test w (char_code text)) w ∙ ap (given test 1) c ∙ if_true _ _ (low_scalar b (omega arith))

pub letter_width-ascii : (text : List ℕ) → byte_at text 0 < 128 → letter_width text ≡ (if byte_at text 0 == 95 || is_ascii_alphabetic (byte_at text 0) then 1 else 0)
unfolding letter_width is_letter
letter_width-ascii text lt = given_ascii is_letter text lt ∙ ap (λ (x : Bool). if byte_at text 0 == 95 || x then 1 else 0) (letter_category-ascii (byte_at text 0) lt)

pub name_width-ascii : (text : List ℕ) → byte_at text 0 < 128 → name_width text ≡ (if (byte_at text 0 == 95 || is_ascii_alphabetic (byte_at text 0)) || is_ascii_digit (byte_at text 0) then 1 else 0)
unfolding name_width is_letter is_digit
name_width-ascii text lt =
    given_ascii (λ c. is_letter c || is_digit c) text lt
    ∙ ap (λ (x : Bool). if (byte_at text 0 == 95 || x) || is_digit_category (general_category (byte_at text 0)) then 1 else 0) (letter_category-ascii (byte_at text 0) lt)
    ∙ ap (λ (x : Bool). if (byte_at text 0 == 95 || is_ascii_alphabetic (byte_at text 0)) || x then 1 else 0) (digit_category-ascii (byte_at text 0) lt)

-- what begins with a letter below 128 is a name
pub at-ascii : (text : List ℕ) → byte_at text 0 < 128 → (byte_at text 0 == 95 || is_ascii_alphabetic (byte_at text 0)) ≡ true → step_at text ≡ name_step text
at-ascii text lt e = at-name text (let w : letter_width text ≡ 1 = letter_width-ascii text lt ∙ if_true _ _ e in omega arith)
