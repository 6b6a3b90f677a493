-- A character is what its own bytes make it, whatever follows.
use Rattle.std.proofs.Common.{◌≡◌, ◌≤◌, ◌<◌, ◌++◌, ℕ, List, true, false, ap, ◌∙◌, arith, length, take, ⊎_elim}
use Rattle.std.specs.Prelude.{◌==◌, ◌&&◌, nat_le, nat_lt}
use Rattle.std.proofs.str.Laws.{order}
use Rattle.std.proofs.lemmas.Bool.{leb-true}
use Rattle.std.proofs.lemmas.List.{get_or_append_left, get_or_past, get_or-take, length-take-le}
use Rattle.go_lexer.specs.Chars.{byte_at, char_width, char_code, width_of_bytes, code_of_bytes, is_tail, is_second_of_three, is_second_of_four}
use Rattle.go_lexer.proofs.Choices.{if_cases, if_true, if_false, and_parts}

-- a byte that isn't 0 stands within the text
pub present : (text : List ℕ) (i : ℕ) → 0 < byte_at text i → i < length text
present text i some = ⊎_elim (λ lt. lt) (λ past. let e : byte_at text i ≡ 0 = get_or_past text i 0 past in absurd (omega arith)) (order i (length text))

-- the bytes of the front of a text stay where they are
pub byte_at-front : (text more : List ℕ) (n i : ℕ) → i < n → n ≤ length text → byte_at (take n text ++ more) i ≡ byte_at text i
byte_at-front text more n i lt le =
    let len : length (take n text) ≡ n = length-take-le n text le in
    get_or_append_left (take n text) more 0 i (omega arith) ∙ get_or-take n text i 0 lt

-- a tail is no 0, and the second byte of three or four isn't either
tail_some : (b : ℕ) → is_tail b ≡ true → 0 < b
tail_some b e = let p = and_parts (nat_le 0x80 b) (nat_le b 0xBF) e in let h = leb-true 0x80 b p.0 in omega arith

three_some : (a b : ℕ) → is_second_of_three a b ≡ true → 0 < b
three_some a b =
    if_cases (a == 0xE0) (λ x. x ≡ true → 0 < b) _ _
    (λ _ e. let p = and_parts (nat_le 0xA0 b) (nat_le b 0xBF) e in let h = leb-true 0xA0 b p.0 in omega arith)
    (λ _. if_cases (a == 0xED) (λ x. x ≡ true → 0 < b) _ _
    (λ _ e. let p = and_parts (nat_le 0x80 b) (nat_le b 0x9F) e in let h = leb-true 0x80 b p.0 in omega arith)
    (λ _ e. tail_some b e))

four_some : (a b : ℕ) → is_second_of_four a b ≡ true → 0 < b
four_some a b =
    if_cases (a == 0xF0) (λ x. x ≡ true → 0 < b) _ _
    (λ _ e. let p = and_parts (nat_le 0x90 b) (nat_le b 0xBF) e in let h = leb-true 0x90 b p.0 in omega arith)
    (λ _. if_cases (a == 0xF4) (λ x. x ≡ true → 0 < b) _ _
    (λ _ e. let p = and_parts (nat_le 0x80 b) (nat_le b 0x8F) e in let h = leb-true 0x80 b p.0 in omega arith)
    (λ _ e. tail_some b e))

-- the first n bytes are a character with this code, whatever follows
pub record IsCharOf (text : List ℕ) (n : ℕ) : Type 0 where
  pub within : n ≤ length text
  pub width : (more : List ℕ) → char_width (take n text ++ more) ≡ n
  pub code : (more : List ℕ) → char_code (take n text ++ more) ≡ code_of_bytes n (byte_at text 0) (byte_at text 1) (byte_at text 2) (byte_at text 3)

module _ (text : List ℕ) (some : 0 < length text) where
  -- a character of 1 byte
  char_1 : (e1 : nat_lt (byte_at text 0) 0x80 ≡ true) → IsCharOf text 1
  unfolding width_of_bytes code_of_bytes
  char_1 e1 = record {
    within = within;
    width = width;
    code = λ more.
        ap (λ w. code_of_bytes w (byte_at (take 1 text ++ more) 0) (byte_at (take 1 text ++ more) 1) (byte_at (take 1 text ++ more) 2) (byte_at (take 1 text ++ more) 3)) (width more)
        ∙ ap (λ (x : ℕ). code_of_bytes 1 x (byte_at (take 1 text ++ more) 1) (byte_at (take 1 text ++ more) 2) (byte_at (take 1 text ++ more) 3)) (byte_at-front text more 1 0 (omega arith) within);
  } where
    within : 1 ≤ length text
    within = omega arith

    width : (more : List ℕ) → char_width (take 1 text ++ more) ≡ 1
    width more =
        ap (λ (x : ℕ). width_of_bytes x (byte_at (take 1 text ++ more) 1) (byte_at (take 1 text ++ more) 2) (byte_at (take 1 text ++ more) 3)) (byte_at-front text more 1 0 (omega arith) within)
        ∙ if_true _ _ e1

  -- a character of 2 bytes
  char_2 : (e1 : nat_lt (byte_at text 0) 0x80 ≡ false) → (e2 : nat_lt (byte_at text 0) 0xC2 ≡ false) → (e3 : nat_lt (byte_at text 0) 0xE0 ≡ true) → (tail : is_tail (byte_at text 1) ≡ true) → IsCharOf text 2
  unfolding width_of_bytes code_of_bytes
  char_2 e1 e2 e3 tail = record {
    within = within;
    width = width;
    code = λ more.
        ap (λ w. code_of_bytes w (byte_at (take 2 text ++ more) 0) (byte_at (take 2 text ++ more) 1) (byte_at (take 2 text ++ more) 2) (byte_at (take 2 text ++ more) 3)) (width more)
        ∙ ap (λ (x : ℕ). code_of_bytes 2 x (byte_at (take 2 text ++ more) 1) (byte_at (take 2 text ++ more) 2) (byte_at (take 2 text ++ more) 3)) (byte_at-front text more 2 0 (omega arith) within)
        ∙ ap (λ (x : ℕ). code_of_bytes 2 (byte_at text 0) x (byte_at (take 2 text ++ more) 2) (byte_at (take 2 text ++ more) 3)) (byte_at-front text more 2 1 (omega arith) within);
  } where
    within : 2 ≤ length text
    within = let h = present text 1 (tail_some (byte_at text 1) tail) in omega arith

    width : (more : List ℕ) → char_width (take 2 text ++ more) ≡ 2
    width more =
        ap (λ (x : ℕ). width_of_bytes x (byte_at (take 2 text ++ more) 1) (byte_at (take 2 text ++ more) 2) (byte_at (take 2 text ++ more) 3)) (byte_at-front text more 2 0 (omega arith) within)
        ∙ ap (λ (x : ℕ). width_of_bytes (byte_at text 0) x (byte_at (take 2 text ++ more) 2) (byte_at (take 2 text ++ more) 3)) (byte_at-front text more 2 1 (omega arith) within)
        ∙ if_false _ _ e1 ∙ if_false _ _ e2 ∙ if_true _ _ e3 ∙ if_true _ _ tail

  -- a character of 3 bytes
  char_3 : (e1 : nat_lt (byte_at text 0) 0x80 ≡ false) → (e2 : nat_lt (byte_at text 0) 0xC2 ≡ false) → (e3 : nat_lt (byte_at text 0) 0xE0 ≡ false) → (e4 : nat_lt (byte_at text 0) 0xF0 ≡ true) → (tail : (is_second_of_three (byte_at text 0) (byte_at text 1) && is_tail (byte_at text 2)) ≡ true) → IsCharOf text 3
  unfolding width_of_bytes code_of_bytes
  char_3 e1 e2 e3 e4 tail = record {
    within = within;
    width = width;
    code = λ more.
        ap (λ w. code_of_bytes w (byte_at (take 3 text ++ more) 0) (byte_at (take 3 text ++ more) 1) (byte_at (take 3 text ++ more) 2) (byte_at (take 3 text ++ more) 3)) (width more)
        ∙ ap (λ (x : ℕ). code_of_bytes 3 x (byte_at (take 3 text ++ more) 1) (byte_at (take 3 text ++ more) 2) (byte_at (take 3 text ++ more) 3)) (byte_at-front text more 3 0 (omega arith) within)
        ∙ ap (λ (x : ℕ). code_of_bytes 3 (byte_at text 0) x (byte_at (take 3 text ++ more) 2) (byte_at (take 3 text ++ more) 3)) (byte_at-front text more 3 1 (omega arith) within)
        ∙ ap (λ (x : ℕ). code_of_bytes 3 (byte_at text 0) (byte_at text 1) x (byte_at (take 3 text ++ more) 3)) (byte_at-front text more 3 2 (omega arith) within);
  } where
    within : 3 ≤ length text
    within = let p = and_parts (is_second_of_three (byte_at text 0) (byte_at text 1)) (is_tail (byte_at text 2)) tail in let h = present text 2 (tail_some (byte_at text 2) p.1) in omega arith

    width : (more : List ℕ) → char_width (take 3 text ++ more) ≡ 3
    width more =
        ap (λ (x : ℕ). width_of_bytes x (byte_at (take 3 text ++ more) 1) (byte_at (take 3 text ++ more) 2) (byte_at (take 3 text ++ more) 3)) (byte_at-front text more 3 0 (omega arith) within)
        ∙ ap (λ (x : ℕ). width_of_bytes (byte_at text 0) x (byte_at (take 3 text ++ more) 2) (byte_at (take 3 text ++ more) 3)) (byte_at-front text more 3 1 (omega arith) within)
        ∙ ap (λ (x : ℕ). width_of_bytes (byte_at text 0) (byte_at text 1) x (byte_at (take 3 text ++ more) 3)) (byte_at-front text more 3 2 (omega arith) within)
        ∙ if_false _ _ e1 ∙ if_false _ _ e2 ∙ if_false _ _ e3 ∙ if_true _ _ e4 ∙ if_true _ _ tail

  -- a character of 4 bytes
  char_4 : (e1 : nat_lt (byte_at text 0) 0x80 ≡ false) → (e2 : nat_lt (byte_at text 0) 0xC2 ≡ false) → (e3 : nat_lt (byte_at text 0) 0xE0 ≡ false) → (e4 : nat_lt (byte_at text 0) 0xF0 ≡ false) → (e5 : nat_lt (byte_at text 0) 0xF5 ≡ true) → (tail : (is_second_of_four (byte_at text 0) (byte_at text 1) && is_tail (byte_at text 2) && is_tail (byte_at text 3)) ≡ true) → IsCharOf text 4
  unfolding width_of_bytes code_of_bytes
  char_4 e1 e2 e3 e4 e5 tail = record {
    within = within;
    width = width;
    code = λ more.
        ap (λ w. code_of_bytes w (byte_at (take 4 text ++ more) 0) (byte_at (take 4 text ++ more) 1) (byte_at (take 4 text ++ more) 2) (byte_at (take 4 text ++ more) 3)) (width more)
        ∙ ap (λ (x : ℕ). code_of_bytes 4 x (byte_at (take 4 text ++ more) 1) (byte_at (take 4 text ++ more) 2) (byte_at (take 4 text ++ more) 3)) (byte_at-front text more 4 0 (omega arith) within)
        ∙ ap (λ (x : ℕ). code_of_bytes 4 (byte_at text 0) x (byte_at (take 4 text ++ more) 2) (byte_at (take 4 text ++ more) 3)) (byte_at-front text more 4 1 (omega arith) within)
        ∙ ap (λ (x : ℕ). code_of_bytes 4 (byte_at text 0) (byte_at text 1) x (byte_at (take 4 text ++ more) 3)) (byte_at-front text more 4 2 (omega arith) within)
        ∙ ap (λ (x : ℕ). code_of_bytes 4 (byte_at text 0) (byte_at text 1) (byte_at text 2) x) (byte_at-front text more 4 3 (omega arith) within);
  } where
    within : 4 ≤ length text
    within = let p = and_parts (is_second_of_four (byte_at text 0) (byte_at text 1) && is_tail (byte_at text 2)) (is_tail (byte_at text 3)) tail in let h = present text 3 (tail_some (byte_at text 3) p.1) in omega arith

    width : (more : List ℕ) → char_width (take 4 text ++ more) ≡ 4
    width more =
        ap (λ (x : ℕ). width_of_bytes x (byte_at (take 4 text ++ more) 1) (byte_at (take 4 text ++ more) 2) (byte_at (take 4 text ++ more) 3)) (byte_at-front text more 4 0 (omega arith) within)
        ∙ ap (λ (x : ℕ). width_of_bytes (byte_at text 0) x (byte_at (take 4 text ++ more) 2) (byte_at (take 4 text ++ more) 3)) (byte_at-front text more 4 1 (omega arith) within)
        ∙ ap (λ (x : ℕ). width_of_bytes (byte_at text 0) (byte_at text 1) x (byte_at (take 4 text ++ more) 3)) (byte_at-front text more 4 2 (omega arith) within)
        ∙ ap (λ (x : ℕ). width_of_bytes (byte_at text 0) (byte_at text 1) (byte_at text 2) x) (byte_at-front text more 4 3 (omega arith) within)
        ∙ if_false _ _ e1 ∙ if_false _ _ e2 ∙ if_false _ _ e3 ∙ if_false _ _ e4 ∙ if_true _ _ e5 ∙ if_true _ _ tail

  -- the text's first character
  pub char_is : 0 < char_width text → IsCharOf text (char_width text)
  unfolding width_of_bytes
  char_is =
      if_cases (nat_lt (byte_at text 0) 0x80) P _ _ (λ e1 _. char_1 e1)
      (λ e1. if_cases (nat_lt (byte_at text 0) 0xC2) P _ _ (λ _ none. absurd (omega arith))
      (λ e2. if_cases (nat_lt (byte_at text 0) 0xE0) P _ _
      (λ e3. if_cases (is_tail (byte_at text 1)) P _ _ (λ tail _. char_2 e1 e2 e3 tail) (λ _ none. absurd (omega arith)))
      (λ e3. if_cases (nat_lt (byte_at text 0) 0xF0) P _ _
      (λ e4. if_cases (is_second_of_three (byte_at text 0) (byte_at text 1) && is_tail (byte_at text 2)) P _ _ (λ tail _. char_3 e1 e2 e3 e4 tail) (λ _ none. absurd (omega arith)))
      (λ e4. if_cases (nat_lt (byte_at text 0) 0xF5) P _ _
      (λ e5. if_cases (is_second_of_four (byte_at text 0) (byte_at text 1) && is_tail (byte_at text 2) && is_tail (byte_at text 3)) P _ _ (λ tail _. char_4 e1 e2 e3 e4 e5 tail) (λ _ none. absurd (omega arith)))
      (λ _ none. absurd (omega arith))))))
    where
      P : ℕ → Type 0
      P n = 0 < n → IsCharOf text n
