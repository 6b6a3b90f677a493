-- A step takes the longest piece, and a text is a piece of one sort at most.
use Rattle.std.proofs.Common.{◌≡◌, ◌≤◌, ◌<◌, ◌+◌, ◌++◌, ℕ, List, [], ◌∷◌, true, false, refl, sym, ap, ◌∙◌, arith, subst, Some, None, Option, length, take, drop, length-append, length-drop, ⊎_elim}
use Rattle.std.proofs.str.Laws.{order}
use Rattle.std.specs.Prelude.{◌==◌, nat_lt}
use Rattle.std.proofs.lemmas.Bool.{ne_eqb, lt-ltb}
use Rattle.std.proofs.lemmas.List.{append-nil, get_or_past, get_or_append_left, drop-append-le}
use Rattle.std.proofs.Math.Seq.{take-length}
use Rattle.go_syntax.specs.Spelling.{operator_text}
use Rattle.go_syntax.specs.declared.operator.Operator.{Operator}
use Rattle.go_syntax.specs.declared.operator.Operator.TheVariants as op
use Rattle.go_syntax.specs.declared.kind.TokenKind.TheVariants as kind
use Rattle.go_lexer.specs.Chars.{byte_at}
use Rattle.go_lexer.specs.Runs.{run_len, is_decimal}
use Rattle.go_lexer.specs.Numbers.{base_of, prefix_of, class_of, digits_len, value_from, is_beyond, limit}
use Rattle.go_lexer.specs.Steps.{step_at, is_blank, number_step, digits_step, int_step}
use Rattle.go_lexer.specs.Pieces.{IsPiece, IsRun, between, line_sort, general_sort}
use Rattle.go_lexer.specs.Pieces as piece
use Rattle.go_lexer.specs.Tokens.{size_of}
use Rattle.go_lexer.specs.declared.run.Class.TheVariants.{Line, Utf8}
use Rattle.go_lexer.specs.declared.step.Step.{Step}
use Rattle.go_lexer.specs.declared.step.Step.TheVariants.{Token, Blank, Break, Build, Bad}
use Rattle.go_lexer.proofs.Choices.{if_cases, if_true, if_false, at-number}
use Rattle.go_lexer.proofs.PieceLemmas.{StandsAs, Pieced}
use Rattle.go_lexer.proofs.CommentLemmas.{step_pieced, class_determined}
use Rattle.go_lexer.proofs.LexLemmas.{IsFine}
use Rattle.go_lexer.proofs.LongestLemmas.{run_len-whole, string_exact, raw_exact, rune_exact, general_exact, sign_exact, sign_longest, name_size, name_exact, line_longest, line_exact}

-- what a step that is no fault takes stands at the front
pub stands_of : (text : List ℕ) (s : Step) → Pieced text s → IsFine s → StandsAs text s
stands_of text (Bad place code) p h = absurd h
stands_of text (Token of width) p h = p
stands_of text (Blank width) p h = p
stands_of text (Break width) p h = p
stands_of text (Build width) p h = p

pub step_stands : (text : List ℕ) → 0 < length text → IsFine (step_at text) → StandsAs text (step_at text)
step_stands text long fine = stands_of text (step_at text) (step_pieced text long) fine

-- digits with a value are some digits
some_digits : (base : ℕ) (text : List ℕ) (v : ℕ) → value_from base 0 true false text ≡ Some v → 0 < length text
some_digits base [] v e = cc
some_digits base (b ∷ text) v e = omega arith

abbrev sized : ℕ → Step → Type 0
sized n s = IsFine s → size_of s ≡ n

number_sized : (text : List ℕ) → sized (prefix_of (byte_at text 0) (byte_at text 1) + digits_len (base_of (byte_at text 0) (byte_at text 1)) (prefix_of (byte_at text 0) (byte_at text 1)) text) (number_step text)
unfolding number_step digits_step
number_sized text =
    let base = base_of (byte_at text 0) (byte_at text 1) in
    let over = prefix_of (byte_at text 0) (byte_at text 1) in
    let n = digits_len base over text in
    if_cases (is_beyond (byte_at text (over + n))) (sized (over + n)) _ _ (λ _ h. absurd h)
    (λ _. valued (over + n) (value_from base 0 true false (take n (drop over text))))
  where
    valued : (n : ℕ) (o : Option ℕ) → sized n (int_step o n)
    valued n None = λ h. absurd h
    valued n (Some v) = if_cases (nat_lt v limit) (sized n) (Token kind.Int n) (Bad 0 9) (λ _ _. refl) (λ _ h. absurd h)

module _ (text : List ℕ) (over v : ℕ) (digit : is_decimal (byte_at text 0) ≡ true) (over_is : over ≡ prefix_of (byte_at text 0) (byte_at text 1)) (run : IsRun (class_of (base_of (byte_at text 0) (byte_at text 1))) (drop over text)) (value : value_from (base_of (byte_at text 0) (byte_at text 1)) 0 true false (drop over text) ≡ Some v) (small : v < limit) where
  over_within : over < length text
  over_within = let some = some_digits (base_of (byte_at text 0) (byte_at text 1)) (drop over text) v value in let len = length-drop over text in omega arith

  int_exact : step_at text ≡ Token kind.Int (length text)
  unfolding number_step digits_step is_beyond
  int_exact =
      let base = base_of (byte_at text 0) (byte_at text 1) in
      let len = length-drop over text in
      let within = over_within in
      let n : digits_len base over text ≡ length (drop over text) = run in
      let all : over + digits_len base over text ≡ length text = omega arith in
      let past : byte_at text (over + digits_len base over text) ≡ 0 = get_or_past text (over + digits_len base over text) 0 (omega arith) in
      let none : is_beyond (byte_at text (over + digits_len base over text)) ≡ false = ap is_beyond past in
      let whole : take (digits_len base over text) (drop over text) ≡ drop over text = ap (λ k. take k (drop over text)) n ∙ take-length (drop over text) in
      at-number text digit
      ∙ ap (λ o. digits_step base o (digits_len base o text) text) (sym over_is)
      ∙ if_false _ _ none
      ∙ ap (λ t. int_step (value_from base 0 true false t) (over + digits_len base over text)) whole
      ∙ ap (λ o. int_step o (over + digits_len base over text)) value
      ∙ if_true _ _ (lt-ltb v limit small)
      ∙ ap (λ k. Token kind.Int k) all

  int_longest : (more : List ℕ) → IsFine (step_at (text ++ more)) → length text ≤ size_of (step_at (text ++ more))
  int_longest more fine =
      let whole = text ++ more in
      let within = over_within in
      let long : length whole ≡ length text + length more = length-append text more in
      let b0 : byte_at whole 0 ≡ byte_at text 0 = get_or_append_left text more 0 0 (omega arith) in
      let is = at-number whole (ap is_decimal b0 ∙ digit) in
      let s = step_stands whole (omega arith) fine in
      let size : size_of (step_at whole) ≡ prefix_of (byte_at whole 0) (byte_at whole 1) + digits_len (base_of (byte_at whole 0) (byte_at whole 1)) (prefix_of (byte_at whole 0) (byte_at whole 1)) whole = ap size_of is ∙ number_sized whole (subst IsFine is fine) in
      ⊎_elim
      (λ lt.
      let b1 : byte_at whole 1 ≡ byte_at text 1 = get_or_append_left text more 0 1 lt in
      let p : prefix_of (byte_at whole 0) (byte_at whole 1) ≡ over = ap (λ x. prefix_of x (byte_at whole 1)) b0 ∙ ap (prefix_of (byte_at text 0)) b1 ∙ sym over_is in
      let base : base_of (byte_at whole 0) (byte_at whole 1) ≡ base_of (byte_at text 0) (byte_at text 1) = ap (λ x. base_of x (byte_at whole 1)) b0 ∙ ap (base_of (byte_at text 0)) b1 in
      let cut : drop over whole ≡ drop over text ++ more = drop-append-le over text more (omega arith) in
      let n : digits_len (base_of (byte_at whole 0) (byte_at whole 1)) (prefix_of (byte_at whole 0) (byte_at whole 1)) whole ≡ length (drop over text) + run_len (class_of (base_of (byte_at text 0) (byte_at text 1))) more =
      ap (λ b. digits_len b (prefix_of (byte_at whole 0) (byte_at whole 1)) whole) base
      ∙ ap (λ o. digits_len (base_of (byte_at text 0) (byte_at text 1)) o whole) p
      ∙ ap (run_len (class_of (base_of (byte_at text 0) (byte_at text 1)))) cut
      ∙ run_len-whole (class_of (base_of (byte_at text 0) (byte_at text 1))) (class_determined (base_of (byte_at text 0) (byte_at text 1))) (drop over text) more run in
      let len = length-drop over text in
      omega arith)
      (λ one. omega (arith, s.some))
      (order 1 (length text))

size_general : (p : List ℕ) → size_of (general_sort p) ≡ length p
size_general p = if_cases (nat_lt (run_len Line p) (length p)) (λ s. size_of s ≡ length p) (Break (length p)) (Blank (length p)) (λ _. refl) (λ _. refl)

-- a blank is no newline
blank_newline : (b : ℕ) → is_blank b ≡ true → (b == 10) ≡ false
blank_newline b e = ne_eqb b 10 (λ same. let h : is_blank 10 ≡ true = ap is_blank (sym same) ∙ e in let g : false ≡ true = h in cc)

-- a piece alone is what a step takes
pub piece_exact : (text : List ℕ) (s : Step) → IsPiece text s → step_at text ≡ s
unfolding step_at
piece_exact text s (piece.newline is) = ap step_at is
piece_exact text s (piece.blank b is e) = ap step_at is ∙ if_false _ _ (blank_newline b e) ∙ if_true _ _ e
piece_exact text s (piece.line rest is run all) = ap step_at is ∙ line_exact rest (subst (IsRun Line) is run) (subst (IsRun Utf8) is all) ∙ ap line_sort (sym is)
piece_exact text s (piece.general body is run all) = ap step_at (is ∙ sym (append-nil (47 ∷ 42 ∷ (body ++ 42 ∷ 47 ∷ [])))) ∙ general_exact body [] run (subst (IsRun Utf8) is all) ∙ ap general_sort (sym is)
piece_exact text s (piece.name long letter run) = name_exact text long letter run
piece_exact text s (piece.sign o is) = ap step_at is ∙ sign_exact o ∙ ap (λ t. Token (kind.Op o) (length t)) (sym is)
piece_exact text s (piece.semicolon is) = ap step_at is
piece_exact text s (piece.int over v digit over_is run value small) = int_exact text over v digit over_is run value small
piece_exact text s (piece.rune body is run right all one) = ap step_at (is ∙ sym (append-nil (between 39 body))) ∙ rune_exact body [] run right all one ∙ ap (λ t. Token kind.Rune (length t)) (sym is)
piece_exact text s (piece.string body is run right all) = ap step_at (is ∙ sym (append-nil (between 34 body))) ∙ string_exact body [] run right all ∙ ap (λ t. Token kind.Str (length t)) (sym is)
piece_exact text s (piece.raw body is run all) = ap step_at (is ∙ sym (append-nil (between 96 body))) ∙ raw_exact body [] run all ∙ ap (λ t. Token kind.Str (length t)) (sym is)

-- an operator has a byte
operator_some : (o : Operator) → 0 < length (operator_text o)
operator_some op.Add = omega arith
operator_some op.Sub = omega arith
operator_some op.Mul = omega arith
operator_some op.Div = omega arith
operator_some op.Rem = omega arith
operator_some op.And = omega arith
operator_some op.Or = omega arith
operator_some op.Xor = omega arith
operator_some op.Shl = omega arith
operator_some op.Shr = omega arith
operator_some op.AndNot = omega arith
operator_some op.AddAssign = omega arith
operator_some op.SubAssign = omega arith
operator_some op.MulAssign = omega arith
operator_some op.DivAssign = omega arith
operator_some op.RemAssign = omega arith
operator_some op.AndAssign = omega arith
operator_some op.OrAssign = omega arith
operator_some op.XorAssign = omega arith
operator_some op.ShlAssign = omega arith
operator_some op.ShrAssign = omega arith
operator_some op.AndNotAssign = omega arith
operator_some op.AndThen = omega arith
operator_some op.OrElse = omega arith
operator_some op.Arrow = omega arith
operator_some op.Increment = omega arith
operator_some op.Decrement = omega arith
operator_some op.Eq = omega arith
operator_some op.Lt = omega arith
operator_some op.Gt = omega arith
operator_some op.Assign = omega arith
operator_some op.Not = omega arith
operator_some op.Ne = omega arith
operator_some op.Le = omega arith
operator_some op.Ge = omega arith
operator_some op.Define = omega arith
operator_some op.Ellipsis = omega arith
operator_some op.LeftParen = omega arith
operator_some op.RightParen = omega arith
operator_some op.LeftBracket = omega arith
operator_some op.RightBracket = omega arith
operator_some op.LeftBrace = omega arith
operator_some op.RightBrace = omega arith
operator_some op.Comma = omega arith
operator_some op.Dot = omega arith
operator_some op.Colon = omega arith

-- no piece is longer than what a step takes
abbrev Covers : List ℕ → List ℕ → Type 0
Covers more text = IsFine (step_at (text ++ more)) → length text ≤ size_of (step_at (text ++ more))

single : (text more : List ℕ) → length text ≡ 1 → Covers more text
single text more one fine =
    let long = length-append text more in
    let s = step_stands (text ++ more) (omega arith) fine in
    omega (arith, s.some)

pub piece_longest : (text more : List ℕ) (s : Step) → IsPiece text s → IsFine (step_at (text ++ more)) → length text ≤ size_of (step_at (text ++ more))
piece_longest text more s (piece.newline is) = single text more (ap length is)
piece_longest text more s (piece.blank b is e) = single text more (ap length is)
piece_longest text more s (piece.line rest is run all) = subst (Covers more) (sym is) (line_longest rest more (subst (IsRun Line) is run))
piece_longest text more s (piece.general body is run all) = subst (Covers more) (sym is) (λ _. let e = ap size_of (general_exact body more run (subst (IsRun Utf8) is all)) ∙ size_general (47 ∷ 42 ∷ (body ++ 42 ∷ 47 ∷ [])) in omega arith)
piece_longest text more s (piece.name long letter run) = λ _. name_size text more long letter run
piece_longest text more s (piece.sign o is) = subst (Covers more) (sym is) (λ fine. ⊎_elim
    (λ one. let long = length-append (operator_text o) more in let some = operator_some o in let s = step_stands (operator_text o ++ more) (omega arith) fine in omega (arith, s.some))
    (λ le. le)
    (sign_longest o more))
piece_longest text more s (piece.semicolon is) = single text more (ap length is)
piece_longest text more s (piece.int over v digit over_is run value small) = int_longest text over v digit over_is run value small more
piece_longest text more s (piece.rune body is run right all one) = subst (Covers more) (sym is) (λ _. let e = ap size_of (rune_exact body more run right all one) in omega arith)
piece_longest text more s (piece.string body is run right all) = subst (Covers more) (sym is) (λ _. let e = ap size_of (string_exact body more run right all) in omega arith)
piece_longest text more s (piece.raw body is run all) = subst (Covers more) (sym is) (λ _. let e = ap size_of (raw_exact body more run all) in omega arith)
