-- Digits whose value is cut.
use Rattle.std.proofs.Common.{arith, ◌∙◌, refl, sym, ap, cond, drop, get_or, length, add-one}
use Rattle.std.proofs.Math.Seq.{drop-cons}
use Rattle.std.specs.Prelude.{◌≡◌, ◌≤◌, ◌<◌, ◌+◌, ◌*◌, ◌==◌, ◌^◌, ℕ, zero, suc, List, [], ◌∷◌, Bool, true, false, nat_lt}
use Rattle.std.proofs.lemmas.Bool.Decides.{nat_tests}
use Rattle.go_typing.specs.Literal.{digit_of, digits_from}
use Rattle.go_operands.specs.Whole.{cut}

module _ (limit : ℕ) where
  abbrev top : ℕ → ℕ
  top n = cond (nat_lt n limit) n limit

  top-above : (n : ℕ) → limit ≤ n → top n ≡ limit
  top-above n h = grind (arith, nat_tests)

  at_least : (n : ℕ) → nat_lt n limit ≡ false → limit ≤ n
  at_least n h = grind (arith, nat_tests)

  grows : (base n d : ℕ) → 1 ≤ base → limit ≤ n → limit ≤ n * base + d
  grows zero n d k h = absurd (omega arith)
  grows (suc base) n d k h = omega arith

  above : (base : ℕ) → 1 ≤ base → (bs : List ℕ) (n : ℕ) → limit ≤ n → limit ≤ digits_from base n bs
  above base k [] n h = h
  above base k (b ∷ bs) n h = above base k bs (cond (b == 95) n (n * base + digit_of b)) (by (b == 95))
    where
      by : (t : Bool) → limit ≤ cond t n (n * base + digit_of b)
      by true = h
      by false = grows base n (digit_of b) k h

  top-digits : (base : ℕ) → 1 ≤ base → (n : ℕ) (bs : List ℕ) → top (digits_from base (top n) bs) ≡ top (digits_from base n bs)
  top-digits base k n bs = by (nat_lt n limit) refl
    where
      by : (b : Bool) → nat_lt n limit ≡ b → top (digits_from base (cond b n limit) bs) ≡ top (digits_from base n bs)
      by true p = refl
      by false p =
          top-above (digits_from base limit bs) (above base k bs limit (omega arith))
          ∙ sym (top-above (digits_from base n bs) (above base k bs n (at_least n p)))

  top-within : (n : ℕ) → top n ≤ limit
  top-within n = grind (arith, nat_tests)

  top-same : (n : ℕ) → n ≤ limit → top n ≡ n
  top-same n h = grind (arith, nat_tests)

pub cut_within : (n : ℕ) → cut n ≤ 2 ^ 127
cut_within n = top-within (2 ^ 127) n

pub cut_same : (n : ℕ) → n ≤ 2 ^ 127 → cut n ≡ n
cut_same n h = top-same (2 ^ 127) n h

-- to cut the value of the first digits changes nothing
pub cut_digits : (base n : ℕ) (bs : List ℕ) → 1 ≤ base → cut (digits_from base (cut n) bs) ≡ cut (digits_from base n bs)
cut_digits base n bs k = top-digits (2 ^ 127) base k n bs

-- ---- one digit

drop_at : (i : ℕ) (text : List ℕ) → i < length text → drop i text ≡ get_or text i 0 ∷ drop (i + 1) text
drop_at i text h = rw (add-one, drop-cons text i 0)

step : (base v i : ℕ) (text : List ℕ) → i < length text
    → cut (digits_from base v (drop i text)) ≡ cut (digits_from base (cond (get_or text i 0 == 95) v (v * base + digit_of (get_or text i 0))) (drop (i + 1) text))
step base v i text h = ap (λ (bs : List ℕ). cut (digits_from base v bs)) (drop_at i text h)

pub step_digit : (base v r i : ℕ) (text : List ℕ) → 1 ≤ base → i < length text → (get_or text i 0 == 95) ≡ false → r ≡ cut (v * base + digit_of (get_or text i 0))
    → cut (digits_from base r (drop (i + 1) text)) ≡ cut (digits_from base v (drop i text))
step_digit base v r i text k h t e =
    ap (λ (n : ℕ). cut (digits_from base n (drop (i + 1) text))) e
    ∙ cut_digits base (v * base + digit_of (get_or text i 0)) (drop (i + 1) text) k
    ∙ sym (step base v i text h ∙ ap (λ (b : Bool). cut (digits_from base (cond b v (v * base + digit_of (get_or text i 0))) (drop (i + 1) text))) t)

pub step_past : (base v i : ℕ) (text : List ℕ) → i < length text → (get_or text i 0 == 95) ≡ true
    → cut (digits_from base v (drop (i + 1) text)) ≡ cut (digits_from base v (drop i text))
step_past base v i text h t = sym (step base v i text h ∙ ap (λ (b : Bool). cut (digits_from base (cond b v (v * base + digit_of (get_or text i 0))) (drop (i + 1) text))) t)
