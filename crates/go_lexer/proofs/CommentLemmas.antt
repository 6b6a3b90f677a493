-- A comment that a step takes is a piece, and so is a number.
use Rattle.std.proofs.Common.{◌≡◌, ◌≤◌, ◌<◌, ◌+◌, ◌-◌, ◌++◌, ℕ, zero, suc, List, [], ◌∷◌, true, false, refl, sym, ap, ◌∙◌, arith, subst, Some, None, Option, length, take, drop, length-drop, ⊎_elim, inl, inr, get_or-drop}
use Rattle.std.proofs.str.Laws.{order}
use Rattle.std.specs.Prelude.{◌⊎◌, Bool, ◌==◌, ◌&&◌, if◌then◌else◌, nat_lt, not}
use Rattle.std.proofs.lemmas.Bool.{eqb-true, ltb-true, ltb-false}
use Rattle.std.proofs.lemmas.List.{append-nil, length-take-le, drop-take, get_or_past}
use Rattle.std.proofs.Math.Seq.{take-add, take-nil}
use Rattle.go_syntax.specs.declared.kind.TokenKind.TheVariants as kind
use Rattle.go_lexer.specs.Chars.{byte_at}
use Rattle.go_lexer.specs.Runs.{run_after, run_len, width_of, one_where, is_decimal}
use Rattle.go_lexer.specs.Numbers.{base_of, prefix_of, base_of_letter, class_of, digits_len, value_from, is_beyond, limit}
use Rattle.go_syntax.specs.declared.operator.Operator.{Operator}
use Rattle.go_lexer.specs.Operators.{operator_of}
use Rattle.go_lexer.specs.Steps.{step_at, slash_step, sign_step, operator_step, is_blank, line_step, general_step, comment_step, is_build, number_step, digits_step, int_step}
use Rattle.go_lexer.specs.LexicalFault.{comment_closes}
use Rattle.go_lexer.specs.Pieces.{IsPiece, IsRun, line_sort, general_sort}
use Rattle.go_lexer.specs.Pieces as piece
use Rattle.go_lexer.specs.Tokens.{size_of}
use Rattle.go_lexer.specs.declared.run.Class.TheVariants.{Decimal, Hex, Line, General, Utf8}
use Rattle.go_lexer.specs.declared.step.Step.{Step}
use Rattle.go_lexer.specs.declared.step.Step.TheVariants.{Token, Blank, Break, Build}
use Rattle.go_lexer.proofs.Choices.{if_cases, and_parts, decimal_bounds}
use Rattle.go_lexer.proofs.RunLemmas.{run_len-le, run_after-step}
use Rattle.go_lexer.proofs.CharLemmas.{present, byte_at-front}
use Rattle.go_lexer.proofs.UnitLemmas.{IsDetermined, line_determined, decimal_determined, hex_determined}
use Rattle.go_lexer.proofs.PieceLemmas.{StandsAs, Pieced, front_run, string_pieced, raw_pieced, rune_pieced, name_pieced}
use Rattle.go_lexer.proofs.OperatorLemmas.{front_two, MaybeSpelled, operator_spelled, operator_stands}

-- a comment of n bytes, as the step chooses its sort
chosen : (text : List ℕ) (n : ℕ) (b : Bool) (x y : ℕ → Step) → ((k : ℕ) → size_of (x k) ≡ k) → ((k : ℕ) → size_of (y k) ≡ k) → 0 < n → n ≤ length text → ((k : ℕ) → length (take n text) ≡ k → IsPiece (take n text) (if b then x k else y k)) → StandsAs text (if b then x n else y n)
chosen text n true x y sx sy some within make =
    record { some = let e = sx n in omega arith; within = let e = sx n in omega arith; piece = subst (λ k. IsPiece (take k text) (x n)) (sym (sx n)) (make n (length-take-le n text within)) }
chosen text n false x y sx sy some within make =
    record { some = let e = sy n in omega arith; within = let e = sy n in omega arith; piece = subst (λ k. IsPiece (take k text) (y n)) (sym (sy n)) (make n (length-take-le n text within)) }

stands_pieced_line : (text : List ℕ) (n : ℕ) (b : Bool) → StandsAs text (if b then Build n else Blank n) → Pieced text (if b then Build n else Blank n)
stands_pieced_line text n true h = h
stands_pieced_line text n false h = h

stands_pieced_general : (text : List ℕ) (n : ℕ) (b : Bool) → StandsAs text (if b then Break n else Blank n) → Pieced text (if b then Break n else Blank n)
stands_pieced_general text n true h = h
stands_pieced_general text n false h = h

-- a line comment has both its slashes
line_long : (text : List ℕ) → 2 ≤ length text → byte_at text 0 ≡ 47 → byte_at text 1 ≡ 47 → 2 ≤ run_len Line text
unfolding run_len width_of
line_long text long e f =
    let w1 : width_of Line text ≡ suc 0 = ap (λ b. one_where (not (b == 10))) e in
    let w2 : width_of Line (drop 1 text) ≡ suc 0 = ap (λ b. one_where (not (b == 10))) (second text f) in
    let s1 = run_after-step (width_of Line) text 0 (omega arith) w1 in
    let len = length-drop 1 text in
    let s2 = run_after-step (width_of Line) (drop 1 text) 0 (omega arith) w2 in
    omega arith
  where
    second : (s : List ℕ) → byte_at s 1 ≡ 47 → byte_at (drop 1 s) 0 ≡ 47
    second [] e = e
    second (a ∷ s) e = e

module _ (text : List ℕ) where
  pub line_pieced : byte_at text 0 ≡ 47 → byte_at text 1 ≡ 47 → Pieced text (line_step text)
  unfolding line_step comment_step
  line_pieced e f =
      let n = run_len Line text in
      let p = take n text in
      let two = front_two text 47 47 (omega arith) (omega arith) e f in
      let long = line_long text two.0 e f in
      let le = run_len-le Line text in
      let len = length-take-le n text le in
      if_cases (nat_lt (run_len Utf8 p) (length p)) (Pieced text) _ _ (λ _. tt)
      (λ g.
      let past = ltb-false (run_len Utf8 p) (length p) g in
      let most = run_len-le Utf8 p in
      let all : run_len Utf8 p ≡ length p = omega arith in
      let cut : n ≡ 2 + (n - 2) = omega arith in
      let front : p ≡ 47 ∷ 47 ∷ take (n - 2) (drop 2 text) = ap (λ k. take k text) cut ∙ take-add 2 (n - 2) text ∙ ap (λ t. t ++ take (n - 2) (drop 2 text)) two.1 in
      stands_pieced_line text n (is_build p) (chosen text n (is_build p) (λ k. Build k) (λ k. Blank k) (λ k. refl) (λ k. refl) (omega arith) le (λ k is. subst (λ k. IsPiece p (if is_build p then Build k else Blank k)) is (piece.line (take (n - 2) (drop 2 text)) front (front_run Line line_determined text) all))))

-- a general comment goes on but where `*/` stands
general_goes : (b : ℕ) (text : List ℕ) → run_len General (b ∷ text) ≡ (if b == 42 && byte_at text 0 == 47 then 0 else suc (run_len General text))
unfolding run_len width_of
general_goes b text = cases (b == 42 && byte_at text 0 == 47) refl where
  took : ℕ → ℕ
  took w = elim w [ zero ↦ 0 | suc m ↦ suc (run_after (width_of General) m text) ]

  cases : (t : Bool) → (b == 42 && byte_at text 0 == 47) ≡ t → run_after (width_of General) 0 (b ∷ text) ≡ (if t then 0 else suc (run_after (width_of General) 0 text))
  cases true e = ap (λ t. took (one_where (not t))) e
  cases false e = ap (λ t. took (one_where (not t))) e

-- the run in a general comment needs two bytes more to stop
pub general_front : (text : List ℕ) (k : ℕ) → run_len General text + 2 ≤ k → run_len General (take k text) ≡ run_len General text
general_front [] k le = ap (run_len General) (take-nil k)
general_front (b ∷ text) zero le = absurd (omega arith)
general_front (b ∷ text) (suc zero) le = absurd (omega arith)
general_front (b ∷ text) (suc (suc k)) le =
    let g = general_goes b text in
    let first : byte_at (take (suc k) text) 0 ≡ byte_at text 0 = head text k in
    general_goes b (take (suc k) text)
    ∙ ap (λ x. if b == 42 && x == 47 then 0 else suc (run_len General (take (suc k) text))) first
    ∙ cases (b == 42 && byte_at text 0 == 47) (g) (λ h. general_front text (suc k) h)
    ∙ sym g
  where
    head : (s : List ℕ) (k : ℕ) → byte_at (take (suc k) s) 0 ≡ byte_at s 0
    head [] k = refl
    head (a ∷ s) k = refl

    cases : (t : Bool) → run_len General (b ∷ text) ≡ (if t then 0 else suc (run_len General text)) → (run_len General text + 2 ≤ suc k → run_len General (take (suc k) text) ≡ run_len General text) → (if t then 0 else suc (run_len General (take (suc k) text))) ≡ (if t then 0 else suc (run_len General text))
    cases true g h = refl
    cases false g h = ap suc (h (omega arith))

-- what follows `*/` changes nothing
pub general_more : (text more : List ℕ) → run_len General text + 2 ≤ length text → run_len General (text ++ more) ≡ run_len General text
general_more [] more le = absurd (omega arith)
general_more (b ∷ []) more le = absurd (omega arith)
general_more (b ∷ c ∷ text) more le =
    let g = general_goes b (c ∷ text) in
    general_goes b (c ∷ (text ++ more)) ∙ cases (b == 42 && c == 47) g (λ h. general_more (c ∷ text) more h) ∙ sym g
  where
    cases : (t : Bool) → run_len General (b ∷ c ∷ text) ≡ (if t then 0 else suc (run_len General (c ∷ text))) → (run_len General (c ∷ text) + 2 ≤ length (c ∷ text) → run_len General ((c ∷ text) ++ more) ≡ run_len General (c ∷ text)) → (if t then 0 else suc (run_len General (c ∷ (text ++ more)))) ≡ (if t then 0 else suc (run_len General (c ∷ text)))
    cases true g h = refl
    cases false g h = ap suc (h (omega arith))

-- how a general comment that ends is cut
pub record IsComment (text : List ℕ) : Type 0 where
  pub within : run_len General (drop 2 text) + 4 ≤ length text
  pub front : take (run_len General (drop 2 text) + 4) text ≡ 47 ∷ 42 ∷ (take (run_len General (drop 2 text)) (drop 2 text) ++ 42 ∷ 47 ∷ [])
  pub run : run_len General (take (run_len General (drop 2 text)) (drop 2 text) ++ 42 ∷ 47 ∷ []) ≡ length (take (run_len General (drop 2 text)) (drop 2 text))

-- the bytes after so many
byte_at-drop : (text : List ℕ) (n i : ℕ) → byte_at (drop n text) i ≡ byte_at text (n + i)
byte_at-drop text n i = get_or-drop n text i 0

comment_is : (text : List ℕ) → byte_at text 0 ≡ 47 → byte_at text 1 ≡ 42 → comment_closes text ≡ true → IsComment text
comment_is text e f closes =
    let inner = drop 2 text in
    let n = run_len General inner in
    let body = take n inner in
    let two = front_two text 47 42 (omega arith) (omega arith) e f in
    let both = and_parts (byte_at text (n + 2) == 42) (byte_at text (n + 3) == 47) closes in
    let star : byte_at (drop n inner) 0 ≡ 42 = byte_at-drop inner n 0 ∙ byte_at-drop text 2 (n + 0) ∙ ap (byte_at text) (omega arith) ∙ eqb-true (byte_at text (n + 2)) 42 both.0 in
    let slash : byte_at (drop n inner) 1 ≡ 47 = byte_at-drop inner n 1 ∙ byte_at-drop text 2 (n + 1) ∙ ap (byte_at text) (omega arith) ∙ eqb-true (byte_at text (n + 3)) 47 both.1 in
    let end = front_two (drop n inner) 42 47 (omega arith) (omega arith) star slash in
    let len2 = length-drop 2 text in
    let lenn = length-drop n inner in
    let le = run_len-le General inner in
    let len : length body ≡ n = length-take-le n inner le in
    let past : take (n + 2) inner ≡ body ++ 42 ∷ 47 ∷ [] = take-add n 2 inner ∙ ap (λ t. body ++ t) end.1 in
    let more : n + 4 ≡ 2 + (n + 2) = omega arith in
    record {
      within = omega (arith, end.0, two.0);
      front = ap (λ k. take k text) more ∙ take-add 2 (n + 2) text ∙ ap (λ t. t ++ take (n + 2) inner) two.1 ∙ ap (λ t. 47 ∷ 42 ∷ t) past;
      run = ap (run_len General) (sym past) ∙ general_front inner (n + 2) (omega arith) ∙ sym len;
    }

module _ (text : List ℕ) where
  pub general_pieced : byte_at text 0 ≡ 47 → byte_at text 1 ≡ 42 → Pieced text (general_step text)
  unfolding general_step comment_step
  general_pieced e f =
      let n = run_len General (drop 2 text) in
      let p = take (n + 4) text in
      if_cases (comment_closes text) (Pieced text) _ _
      (λ closes.
      let c = comment_is text e f closes in
      if_cases (nat_lt (run_len Utf8 p) (length p)) (Pieced text) _ _ (λ _. tt)
      (λ g.
      let past = ltb-false (run_len Utf8 p) (length p) g in
      let most = run_len-le Utf8 p in
      let all : run_len Utf8 p ≡ length p = omega arith in
      let t = nat_lt (run_len Line p) (length p) in
      stands_pieced_general text (n + 4) t (chosen text (n + 4) t (λ k. Break k) (λ k. Blank k) (λ k. refl) (λ k. refl) (omega arith) c.within (λ k is. subst (λ k. IsPiece p (if t then Break k else Blank k)) is (piece.general (take n (drop 2 text)) c.front c.run all)))))
      (λ _. tt)

-- a second byte of a prefix is no 0
prefix_second : (a b : ℕ) → 0 < prefix_of a b → 0 < b
unfolding prefix_of
prefix_second a zero some = absurd (no (a == 48) some) where
  no : (t : Bool) → 0 < (if t then 0 else 0) → ⊥
  no true h = omega arith
  no false h = omega arith
prefix_second a (suc b) some = omega arith

abbrev two_if : Bool → Bool → ℕ
two_if t u = if t then (if u then 0 else 2) else 0

abbrev zero_if : Bool → ℕ
zero_if t = if t then 0 else 0

-- where no prefix stands, the second byte doesn't matter
no_prefix : (a b : ℕ) → prefix_of a b ≡ 0 → (prefix_of a 0 ≡ 0) × (base_of a b ≡ base_of a 0)
unfolding prefix_of base_of
no_prefix a b is = cases (a == 48) (base_of_letter b == 0) is where
  cases : (t u : Bool) → two_if t u ≡ 0 → (zero_if t ≡ 0) × ((if t then (if u then 8 else base_of_letter b) else 10) ≡ (if t then 8 else 10))
  cases true true e = (refl, refl)
  cases true false e = absurd (omega arith)
  cases false u e = (refl, refl)

prefix_two : (a b : ℕ) → prefix_of a b ≤ 2
unfolding prefix_of
prefix_two a b = cases (a == 48) (base_of_letter b == 0) where
  cases : (t u : Bool) → (if t then (if u then 0 else 2) else 0) ≤ 2
  cases true true = omega arith
  cases true false = omega arith
  cases false u = omega arith

pub class_determined : (base : ℕ) → IsDetermined (width_of (class_of base))
class_determined base = cases (base == 16) where
  cases : (t : Bool) → IsDetermined (width_of (if t then Hex else Decimal))
  cases true = hex_determined
  cases false = decimal_determined

module _ (text : List ℕ) where
  -- digits with a value are an integer
  int_stands : (over n v : ℕ) → is_decimal (byte_at text 0) ≡ true → over ≡ prefix_of (byte_at text 0) (byte_at text 1) → n ≡ run_len (class_of (base_of (byte_at text 0) (byte_at text 1))) (drop over text) → value_from (base_of (byte_at text 0) (byte_at text 1)) 0 true false (take n (drop over text)) ≡ Some v → v < limit → StandsAs text (Token kind.Int (over + n))
  int_stands over n v digit is_over is_n value small =
      let base = base_of (byte_at text 0) (byte_at text 1) in
      let class = class_of base in
      let bounds = decimal_bounds (byte_at text 0) digit in
      let first : 0 < length text = present text 0 (omega arith) in
      let two = prefix_two (byte_at text 0) (byte_at text 1) in
      let room : over ≤ length text = ⊎_elim (λ none. omega arith) (λ some. let h = present text 1 (prefix_second (byte_at text 0) (byte_at text 1) (omega arith)) in omega arith) (zero_or over) in
      let len = length-drop over text in
      let le = run_len-le class (drop over text) in
      let within : over + n ≤ length text = omega arith in
      let some : 0 < n = some_digit n value in
      let p = take (over + n) text in
      let lenp = length-take-le (over + n) text within in
      let p0 : byte_at p 0 ≡ byte_at text 0 = ap (λ t. byte_at t 0) (sym (append-nil p)) ∙ byte_at-front text [] (over + n) 0 (omega arith) within in
      let cut : drop over p ≡ take n (drop over text) = drop-take over n text in
      let second : (prefix_of (byte_at text 0) (byte_at p 1) ≡ over) × (base_of (byte_at text 0) (byte_at p 1) ≡ base) = ⊎_elim
      (λ lt. let p1 : byte_at p 1 ≡ byte_at text 1 = ap (λ t. byte_at t 1) (sym (append-nil p)) ∙ byte_at-front text [] (over + n) 1 lt within in (ap (prefix_of (byte_at text 0)) p1 ∙ sym is_over, ap (base_of (byte_at text 0)) p1))
      (λ past.
      let none : over ≡ 0 = omega arith in
      let p1 : byte_at p 1 ≡ 0 = get_or_past p 1 0 (omega arith) in
      let np = no_prefix (byte_at text 0) (byte_at text 1) (sym is_over ∙ none) in
      (ap (prefix_of (byte_at text 0)) p1 ∙ np.0 ∙ sym none, ap (base_of (byte_at text 0)) p1 ∙ sym np.1))
      (order 1 (over + n)) in
      let base_is : base_of (byte_at p 0) (byte_at p 1) ≡ base = ap (λ x. base_of x (byte_at p 1)) p0 ∙ second.1 in
      let run : IsRun class (drop over p) = ap (run_len class) cut ∙ ap (λ k. run_len class (take k (drop over text))) is_n ∙ front_run class (class_determined base) (drop over text) ∙ ap (λ k. length (take k (drop over text))) (sym is_n) ∙ ap length (sym cut) in
      record {
        some = omega arith;
        within = within;
        piece = subst (λ k. IsPiece p (Token kind.Int k)) lenp (piece.int over v (ap is_decimal p0 ∙ digit) (sym (ap (λ x. prefix_of x (byte_at p 1)) p0 ∙ second.0)) (subst (λ b. IsRun (class_of b) (drop over p)) (sym base_is) run) (ap (λ b. value_from b 0 true false (drop over p)) base_is ∙ ap (value_from base 0 true false) cut ∙ value) small);
      }
    where
      zero_or : (k : ℕ) → (k ≡ 0) ⊎ (0 < k)
      zero_or zero = inl refl
      zero_or (suc k) = inr (omega arith)

      some_digit : (n : ℕ) → value_from (base_of (byte_at text 0) (byte_at text 1)) 0 true false (take n (drop over text)) ≡ Some v → 0 < n
      some_digit zero e = cc
      some_digit (suc n) e = omega arith

  pub number_pieced : is_decimal (byte_at text 0) ≡ true → Pieced text (number_step text)
  unfolding number_step digits_step
  number_pieced digit =
      let base = base_of (byte_at text 0) (byte_at text 1) in
      let over = prefix_of (byte_at text 0) (byte_at text 1) in
      let n = digits_len base over text in
      if_cases (is_beyond (byte_at text (over + n))) (Pieced text) _ _ (λ _. tt)
      (λ _. valued (value_from base 0 true false (take n (drop over text))) refl)
    where
      valued : (o : Option ℕ) → value_from (base_of (byte_at text 0) (byte_at text 1)) 0 true false (take (digits_len (base_of (byte_at text 0) (byte_at text 1)) (prefix_of (byte_at text 0) (byte_at text 1)) text) (drop (prefix_of (byte_at text 0) (byte_at text 1)) text)) ≡ o → Pieced text (int_step o (prefix_of (byte_at text 0) (byte_at text 1) + digits_len (base_of (byte_at text 0) (byte_at text 1)) (prefix_of (byte_at text 0) (byte_at text 1)) text))
      valued None is = tt
      valued (Some v) is = if_cases (nat_lt v limit) (Pieced text) _ _ (λ e. int_stands _ _ v digit refl refl is (ltb-true v limit e)) (λ _. tt)

-- what a step takes is a piece, and it has a byte and stays within the text
module _ (text : List ℕ) (long : 0 < length text) where
  first_byte : (b : ℕ) → byte_at text 0 ≡ b → take 1 text ≡ b ∷ []
  first_byte b e = ap (λ t. take 1 t) (split text long) ∙ ap (λ x. x ∷ []) e where
    split : (s : List ℕ) → 0 < length s → s ≡ byte_at s 0 ∷ drop 1 s
    split [] l = absurd (omega arith)
    split (x ∷ s) l = refl

  operator_pieced : (o : Option Operator) → operator_of (byte_at text 0) (byte_at text 1) (byte_at text 2) ≡ o → Pieced text (operator_step o text)
  operator_pieced None is = name_pieced text long
  operator_pieced (Some o) is = operator_stands text o (subst (MaybeSpelled (byte_at text 0) (byte_at text 1) (byte_at text 2)) is (operator_spelled (byte_at text 0) (byte_at text 1) (byte_at text 2)))

  pub step_pieced : Pieced text (step_at text)
  unfolding step_at slash_step sign_step
  step_pieced =
      let b = byte_at text 0 in
      if_cases (b == 10) (Pieced text) _ _ (λ e. record { some = omega arith; within = omega arith; piece = piece.newline (first_byte 10 (eqb-true b 10 e)) })
      (λ e10. if_cases (is_blank b) (Pieced text) _ _ (λ e. record { some = omega arith; within = omega arith; piece = piece.blank b (first_byte b refl) e })
      (λ blank. if_cases (is_decimal b) (Pieced text) _ _ (λ e. number_pieced text e)
      (λ digit. if_cases (b == 34) (Pieced text) _ _ (λ e. string_pieced text (eqb-true b 34 e))
      (λ e34. if_cases (b == 39) (Pieced text) _ _ (λ e. rune_pieced text (eqb-true b 39 e))
      (λ e39. if_cases (b == 96) (Pieced text) _ _ (λ e. raw_pieced text (eqb-true b 96 e))
      (λ e96. if_cases (b == 47) (Pieced text) _ _
      (λ e47.
      if_cases (byte_at text 1 == 47) (Pieced text) _ _ (λ e. line_pieced text (eqb-true b 47 e47) (eqb-true (byte_at text 1) 47 e))
      (λ e. if_cases (byte_at text 1 == 42) (Pieced text) _ _ (λ f. general_pieced text (eqb-true b 47 e47) (eqb-true (byte_at text 1) 42 f))
      (λ f. operator_pieced _ refl)))
      (λ e47. if_cases (b == 59) (Pieced text) _ _ (λ e. record { some = omega arith; within = omega arith; piece = piece.semicolon (first_byte 59 (eqb-true b 59 e)) })
      (λ e59. if_cases (b == 46 && is_decimal (byte_at text 1)) (Pieced text) _ _ (λ e. tt)
      (λ e. operator_pieced _ refl)))))))))
