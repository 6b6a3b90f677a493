-- A run is made of units, each of which is what its own bytes make it, whatever follows.
use Rattle.std.proofs.Common.{◌≡◌, ◌≤◌, ◌<◌, ◌+◌, ◌-◌, ◌++◌, ℕ, zero, suc, List, [], ◌∷◌, true, false, refl, sym, ap, ◌∙◌, arith, subst, Some, None, length, take, drop, append_assoc, length-append, length-drop}
use Rattle.std.specs.Prelude.{Bool, ◌==◌, ◌||◌, if◌then◌else◌, nat_lt, not}
use Rattle.std.proofs.lemmas.Bool.{lt-ltb, ltb-true}
use Rattle.std.proofs.lemmas.List.{append-nil, length-take-le}
use Rattle.std.proofs.Math.Seq.{drop-append_seam, take-length, take-add}
use Rattle.go_lexer.specs.Chars.{byte_at, char_width, char_code, first_char, name_width, letter_width, width_where, is_letter, is_digit, scalar}
use Rattle.go_lexer.specs.Runs.{run_after, width_of, quoted_width, one_where, is_decimal, is_hex}
use Rattle.go_lexer.specs.declared.run.Class.TheVariants as class
use Rattle.go_lexer.proofs.Choices.{if_cases, if_true, if_false}
use Rattle.go_lexer.proofs.RunLemmas.{run_after-step, run_after-stops, run_after-le}
use Rattle.go_lexer.proofs.CharLemmas.{char_is}

-- the first n bytes have this width, whatever follows
pub record IsFixed (width : List ℕ → ℕ) (text : List ℕ) (n : ℕ) : Type 0 where
  pub within : n ≤ length text
  pub fixed : (more : List ℕ) → width (take n text ++ more) ≡ n

-- each unit has its width, whatever follows
abbrev pub IsDetermined : (List ℕ → ℕ) → Type 0
IsDetermined width = (text : List ℕ) → 0 < length text → 0 < width text → IsFixed width text (width text)

-- the text is made of units
pub data Units (width : List ℕ → ℕ) : List ℕ → Type 0 where
  none : Units width []
  unit : (u rest : List ℕ) → 0 < length u → ((more : List ℕ) → width (u ++ more) ≡ length u) → Units width rest → Units width (u ++ rest)

-- a run goes over units, and on
pub units_run : (width : List ℕ → ℕ) (text : List ℕ) → Units width text → (more : List ℕ) → run_after width 0 (text ++ more) ≡ length text + run_after width 0 more
units_run width _ none more = omega arith
units_run width _ (unit u rest some fixed units) more =
    let h = units_run width rest units more in
    let pred : length u ≡ suc (length u - 1) = omega arith in
    let long : length (u ++ (rest ++ more)) ≡ length u + length (rest ++ more) = length-append u (rest ++ more) in
    let one = run_after-step width (u ++ (rest ++ more)) (length u - 1) (omega arith) (fixed (rest ++ more) ∙ pred) in
    let tail : run_after width 0 (drop (suc (length u - 1)) (u ++ (rest ++ more))) ≡ run_after width 0 (rest ++ more) = ap (λ k. run_after width 0 (drop k (u ++ (rest ++ more)))) (sym pred) ∙ ap (run_after width 0) (drop-append_seam u (rest ++ more)) in
    let both : length (u ++ rest) ≡ length u + length rest = length-append u rest in
    ap (run_after width 0) (append_assoc u rest more) ∙ omega arith

module _ (width : List ℕ → ℕ) (determined : IsDetermined width) where
  -- a run is made of units
  run_units : (k : ℕ) (text : List ℕ) → length text ≤ k → Units width (take (run_after width 0 text) text)
  run_units k [] le = none
  run_units zero (b ∷ text) le = absurd (omega arith)
  run_units (suc k) (b ∷ text) le = from (width (b ∷ text)) refl (λ n more. run_units k (drop n text) (let h = length-drop n text in omega arith)) where
    from : (w : ℕ) → width (b ∷ text) ≡ w → ((n : ℕ) → 0 < suc n → Units width (take (run_after width 0 (drop n text)) (drop n text))) → Units width (take (run_after width 0 (b ∷ text)) (b ∷ text))
    from zero is rest = subst (λ n. Units width (take n (b ∷ text))) (sym (run_after-stops width (b ∷ text) is)) none
    from (suc m) is rest =
        let some : 0 < width (b ∷ text) = omega arith in
        let fix = subst (IsFixed width (b ∷ text)) is (determined (b ∷ text) (omega arith) some) in
        let one = run_after-step width (b ∷ text) m (omega arith) is in
        let left = run_after width 0 (drop m text) in
        let n : run_after width 0 (b ∷ text) ≡ suc m + left = omega (arith, fix.within) in
        let len : length (take (suc m) (b ∷ text)) ≡ suc m = length-take-le (suc m) (b ∷ text) fix.within in
        let cut : take (suc m) (b ∷ text) ++ take left (drop (suc m) (b ∷ text)) ≡ take (run_after width 0 (b ∷ text)) (b ∷ text) = sym (take-add (suc m) left (b ∷ text)) ∙ ap (λ k. take k (b ∷ text)) (sym n) in
        subst (Units width) cut (unit (take (suc m) (b ∷ text)) (take left (drop (suc m) (b ∷ text))) (omega arith) (λ more. fix.fixed more ∙ sym len) (rest m (omega arith)))

  -- a text that is one run is made of units
  whole_units : (text : List ℕ) → run_after width 0 text ≡ length text → Units width text
  whole_units text whole = subst (Units width) (ap (λ k. take k text) whole ∙ take-length text) (run_units (length text) text (omega arith))

  -- one run, and how the text goes on
  pub run_after-whole : (text more : List ℕ) → run_after width 0 text ≡ length text → run_after width 0 (text ++ more) ≡ length text + run_after width 0 more
  run_after-whole text more whole = units_run width text (whole_units text whole) more

  -- the front of a text that a run takes is one run
  pub run_after-front : (text : List ℕ) → run_after width 0 (take (run_after width 0 text) text) ≡ run_after width 0 text
  run_after-front text =
      let n = run_after width 0 text in
      let front = take n text in
      let len : length front ≡ n = length-take-le n text (run_after-le width 0 text) in
      let h = units_run width front (run_units (length text) text (omega arith)) [] in
      ap (run_after width 0) (sym (append-nil front)) ∙ h ∙ omega arith

-- a width that one byte decides
one_determined : (width : List ℕ → ℕ) (test : ℕ → Bool) → ((text : List ℕ) → width text ≡ one_where (test (byte_at text 0))) → IsDetermined width
one_determined width test is [] long some = absurd (omega arith)
one_determined width test is (b ∷ text) long some = cases (test b) refl where
  cases : (t : Bool) → test b ≡ t → IsFixed width (b ∷ text) (width (b ∷ text))
  cases true e =
      let one : width (b ∷ text) ≡ 1 = is (b ∷ text) ∙ ap one_where e in
      subst (IsFixed width (b ∷ text)) (sym one) (record { within = omega arith; fixed = λ more. is (b ∷ more) ∙ ap one_where e })
  cases false e = let zero_wide : width (b ∷ text) ≡ 0 = is (b ∷ text) ∙ ap one_where e in absurd (omega arith)

pub line_determined : IsDetermined (width_of class.Line)
unfolding width_of
line_determined = one_determined (width_of class.Line) (λ b. not (b == 10)) (λ text. refl)

pub raw_determined : IsDetermined (width_of class.Raw)
unfolding width_of
raw_determined = one_determined (width_of class.Raw) (λ b. not (b == 96)) (λ text. refl)

pub decimal_determined : IsDetermined (width_of class.Decimal)
unfolding width_of
decimal_determined = one_determined (width_of class.Decimal) (λ b. is_decimal b || b == 95) (λ text. refl)

pub hex_determined : IsDetermined (width_of class.Hex)
unfolding width_of
hex_determined = one_determined (width_of class.Hex) (λ b. is_hex b || b == 95) (λ text. refl)

pub quoted_determined : (quote : ℕ) → IsDetermined (width_of (class.Quoted quote))
unfolding width_of quoted_width
quoted_determined quote [] long = absurd (omega arith)
quoted_determined quote (b ∷ text) long =
    if_cases (b == quote) P _ _ (λ _ none. absurd (omega arith))
    (λ e. if_cases (b == 10) P _ _ (λ _ none. absurd (omega arith))
    (λ f. if_cases (b == 92) P _ _
    (λ g. if_cases (nat_lt 1 (length (b ∷ text))) P _ _
    (λ h. escaped text e f g (ltb-true 1 (length (b ∷ text)) h))
    (λ _ none. absurd (omega arith)))
    (λ g _. record { within = omega arith; fixed = λ more. if_false _ _ e ∙ if_false _ _ f ∙ if_false _ _ g })))
  where
    P : ℕ → Type 0
    P n = 0 < n → IsFixed (width_of (class.Quoted quote)) (b ∷ text) n

    escaped : (s : List ℕ) → (b == quote) ≡ false → (b == 10) ≡ false → (b == 92) ≡ true → 1 < length (b ∷ s) → (λ (n : ℕ). 0 < n → IsFixed (width_of (class.Quoted quote)) (b ∷ s) n) (if byte_at (b ∷ s) 1 == 10 then 0 else 2)
    escaped [] e f g lt = absurd (omega arith)
    escaped (c ∷ s) e f g lt =
        if_cases (c == 10) (λ (n : ℕ). 0 < n → IsFixed (width_of (class.Quoted quote)) (b ∷ c ∷ s) n) _ _
        (λ _ none. absurd (omega arith))
        (λ h _. record { within = omega arith; fixed = λ more. if_false _ _ e ∙ if_false _ _ f ∙ if_true _ _ g ∙ if_true _ _ (lt-ltb 1 (length (b ∷ c ∷ more)) (omega arith)) ∙ if_false _ _ h })

-- the width of a character that passes a test, by its width and its code
abbrev pub given : (ℕ → Bool) → ℕ → ℕ → ℕ
given test w c = if w == 0 then 0 else (if scalar c then (if test c then w else 0) else 0)

where_chosen : (test : ℕ → Bool) (text : List ℕ) (c : ℕ) (b s : Bool) → width_where test text (if b then None else (if s then Some c else None)) ≡ (if b then 0 else (if s then (if test c then char_width text else 0) else 0))
where_chosen test text c true s = refl
where_chosen test text c false true = refl
where_chosen test text c false false = refl

pub where_given : (test : ℕ → Bool) (text : List ℕ) → width_where test text (first_char text) ≡ given test (char_width text) (char_code text)
unfolding first_char
where_given test text = where_chosen test text (char_code text) (char_width text == 0) (scalar (char_code text))

-- where it isn't 0, it is the width, the width isn't 0, and the test holds
pub given_some : (test : ℕ → Bool) (w c : ℕ) → 0 < given test w c → (given test w c ≡ w) × ((test c ≡ true) × (0 < w))
given_some test w c =
    if_cases (w == 0) P _ _ (λ _ none. absurd (omega arith))
    (λ e. if_cases (scalar c) P _ _
    (λ _. if_cases (test c) P _ _ (λ f some. (refl, (f, some))) (λ _ none. absurd (omega arith)))
    (λ _ none. absurd (omega arith)))
  where
    P : ℕ → Type 0
    P n = 0 < n → (n ≡ w) × ((test c ≡ true) × (0 < w))

pub where_determined : (test : ℕ → Bool) → IsDetermined (λ text. width_where test text (first_char text))
where_determined test text long some =
    let n = width_where test text (first_char text) in
    let g = where_given test text in
    let p = given_some test (char_width text) (char_code text) (omega arith) in
    let is : n ≡ char_width text = g ∙ p.0 in
    let h = char_is text long p.1.1 in
    subst (IsFixed (λ text. width_where test text (first_char text)) text) (sym is) (record {
      within = h.within;
      fixed = λ more.
          where_given test (take (char_width text) text ++ more)
          ∙ ap (λ w. given test w (char_code (take (char_width text) text ++ more))) (h.width more)
          ∙ ap (given test (char_width text)) (h.code more)
          ∙ p.0;
    })

pub name_determined : IsDetermined (width_of class.Name)
unfolding width_of name_width
name_determined = where_determined (λ c. is_letter c || is_digit c)

pub letter_determined : IsDetermined letter_width
unfolding letter_width
letter_determined = where_determined is_letter

-- a letter may stand in a name
pub letter_in_name : (text : List ℕ) → 0 < letter_width text → name_width text ≡ letter_width text
unfolding letter_width name_width
letter_in_name text some =
    let g = where_given is_letter text in
    let p = given_some is_letter (char_width text) (char_code text) (omega arith) in
    let w = char_width text in
    let c = char_code text in
    let either : (is_letter c || is_digit c) ≡ true = ap (λ b. b || is_digit c) p.1.0 in
    let same : given (λ c. is_letter c || is_digit c) w c ≡ given is_letter w c = ap (λ b. if w == 0 then 0 else (if scalar c then (if b then w else 0) else 0)) (either ∙ sym p.1.0) in
    where_given (λ c. is_letter c || is_digit c) text ∙ same ∙ sym g
