-- No longer piece stands where a step takes one, and a piece alone is what a step takes.
use Rattle.std.proofs.Common.{◌≡◌, ◌≤◌, ◌<◌, ◌+◌, ◌++◌, ℕ, suc, List, [], ◌∷◌, true, false, refl, sym, ap, ◌∙◌, arith, subst, Some, length, take, drop, append_assoc, length-append, inl, inr}
use Rattle.std.specs.Prelude.{◌≢◌, ◌⊎◌, ◌==◌, if◌then◌else◌, nat_lt, not}
use Rattle.std.proofs.lemmas.Bool.{eq-eqb, ne_eqb, le-ltb}
use Rattle.std.proofs.lemmas.List.{take-append-drop, get_or-append-add}
use Rattle.std.proofs.Math.Seq.{take-append_seam, take-length, get_or-append_seam}
use Rattle.std.specs.Cmp.Derive.{both_true}
use Rattle.go_syntax.specs.Spelling.{operator_text}
use Rattle.go_syntax.specs.declared.operator.Operator.{Operator}
use Rattle.go_syntax.specs.declared.operator.Operator.TheVariants as op
use Rattle.go_syntax.specs.declared.kind.TokenKind.TheVariants as kind
use Rattle.go_lexer.specs.Chars.{byte_at, letter_width}
use Rattle.go_lexer.specs.Runs.{run_len, width_of, quoted_width}
use Rattle.go_lexer.specs.Operators.{operator_of, punctuation}
use Rattle.go_lexer.specs.Keywords.{keyword_of}
use Rattle.go_lexer.specs.Steps.{step_at, slash_step, sign_step, operator_step, line_step, general_step, comment_step, is_build, string_step, string_body_step, raw_step, raw_body_step, rune_step, rune_body_step, rune_width, name_step, name_kind}
use Rattle.go_lexer.specs.LexicalFault.{inside}
use Rattle.go_lexer.specs.Pieces.{IsRun, between, line_sort, general_sort}
use Rattle.go_lexer.specs.Tokens.{size_of}
use Rattle.go_lexer.specs.declared.run.Class.{Class}
use Rattle.go_lexer.specs.declared.run.Class.TheVariants.{Name, Quoted, Escaped, Raw, Line, General, Utf8}
use Rattle.go_lexer.specs.declared.step.Step.{Step}
use Rattle.go_lexer.specs.declared.step.Step.TheVariants.{Token, Blank, Break, Build}
use Rattle.go_lexer.proofs.Choices.{if_cases, if_true, if_false, at-string, at-rune, at-raw, at-line, at-general}
use Rattle.go_lexer.proofs.RunLemmas.{run_after-stops}
use Rattle.go_lexer.proofs.UnitLemmas.{IsDetermined, run_after-whole, line_determined, raw_determined, quoted_determined, name_determined, letter_determined}
use Rattle.go_lexer.proofs.CommentLemmas.{general_more}
use Rattle.go_lexer.proofs.LexLemmas.{IsFine}
use Rattle.go_lexer.proofs.LetterLemmas.{at-name}

-- one run, and how the text goes on
pub run_len-whole : (class : Class) → IsDetermined (width_of class) → (text more : List ℕ) → IsRun class text → run_len class (text ++ more) ≡ length text + run_len class more
unfolding run_len
run_len-whole class determined text more whole = run_after-whole (width_of class) determined text more whole

-- a run stops where its class takes nothing
run_len-stops : (class : Class) (text : List ℕ) → width_of class text ≡ 0 → run_len class text ≡ 0
unfolding run_len
run_len-stops class text none = run_after-stops (width_of class) text none

-- a literal that its quote ends, whatever follows
record IsLiteral (quote : ℕ) (class : Class) (body more : List ℕ) : Type 0 where
  first : byte_at (between quote body ++ more) 0 ≡ quote
  inside_is : inside class (between quote body ++ more) ≡ body
  closes : (byte_at (between quote body ++ more) (run_len class (drop 1 (between quote body ++ more)) + 1) == quote) ≡ true

literal_is : (quote : ℕ) (class : Class) → IsDetermined (width_of class) → ((more : List ℕ) → width_of class (quote ∷ more) ≡ 0) → (body more : List ℕ) → IsRun class body → IsLiteral quote class body more
literal_is quote class determined stops body more whole =
    let rest : drop 1 (between quote body ++ more) ≡ body ++ (quote ∷ more) = append_assoc body (quote ∷ []) more in
    let zero_run = run_len-stops class (quote ∷ more) (stops more) in
    let n : run_len class (drop 1 (between quote body ++ more)) ≡ length body = ap (run_len class) rest ∙ run_len-whole class determined body (quote ∷ more) whole ∙ omega arith in
    let next : run_len class (drop 1 (between quote body ++ more)) + 1 ≡ suc (length body) = omega arith in
    let at : byte_at (between quote body ++ more) (suc (length body)) ≡ quote = ap (λ t. byte_at t (length body)) rest ∙ get_or-append_seam body quote more 0 in
    record {
      first = refl;
      inside_is = ap (λ k. take k (drop 1 (between quote body ++ more))) n ∙ ap (take (length body)) rest ∙ take-append_seam body (quote ∷ more);
      closes = eq-eqb _ _ (ap (byte_at (between quote body ++ more)) next ∙ at);
    }

length-between : (quote : ℕ) (body : List ℕ) → length (between quote body) ≡ length body + 2
length-between quote body = let h = length-append body (quote ∷ []) in omega arith

quote_stops : (quote : ℕ) (more : List ℕ) → width_of (Quoted quote) (quote ∷ more) ≡ 0
unfolding width_of quoted_width
quote_stops quote more = if_true _ _ (eq-eqb quote quote refl)

raw_stops : (more : List ℕ) → width_of Raw (96 ∷ more) ≡ 0
unfolding width_of
raw_stops more = refl

pub string_exact : (body more : List ℕ) → IsRun (Quoted 34) body → IsRun (Escaped 34) body → IsRun Utf8 body → step_at (between 34 body ++ more) ≡ Token kind.Str (length (between 34 body))
unfolding string_step string_body_step
string_exact body more run right all =
    let l = literal_is 34 (Quoted 34) (quoted_determined 34) (quote_stops 34) body more run in
    at-string (between 34 body ++ more) l.first ∙ if_true _ _ l.closes ∙ ap string_body_step l.inside_is
    ∙ if_false _ _ (le-ltb (run_len (Escaped 34) body) (run_len Utf8 body) (omega arith))
    ∙ if_false _ _ (le-ltb (run_len Utf8 body) (length body) (omega arith))
    ∙ ap (λ n. Token kind.Str n) (sym (length-between 34 body))

pub raw_exact : (body more : List ℕ) → IsRun Raw body → IsRun Utf8 body → step_at (between 96 body ++ more) ≡ Token kind.Str (length (between 96 body))
unfolding raw_step raw_body_step
raw_exact body more run all =
    let l = literal_is 96 Raw raw_determined raw_stops body more run in
    at-raw (between 96 body ++ more) l.first ∙ if_true _ _ l.closes ∙ ap raw_body_step l.inside_is
    ∙ if_false _ _ (le-ltb (run_len Utf8 body) (length body) (omega arith))
    ∙ ap (λ n. Token kind.Str n) (sym (length-between 96 body))

pub rune_exact : (body more : List ℕ) → IsRun (Quoted 39) body → IsRun (Escaped 39) body → IsRun Utf8 body → rune_width body ≡ length body → step_at (between 39 body ++ more) ≡ Token kind.Rune (length (between 39 body))
unfolding rune_step rune_body_step
rune_exact body more run right all one =
    let l = literal_is 39 (Quoted 39) (quoted_determined 39) (quote_stops 39) body more run in
    at-rune (between 39 body ++ more) l.first ∙ if_true _ _ l.closes ∙ ap rune_body_step l.inside_is
    ∙ if_false _ _ (le-ltb (run_len (Escaped 39) body) (length body) (omega arith))
    ∙ if_false _ _ (ap not (eq-eqb (rune_width body) (length body) one))
    ∙ if_false _ _ (le-ltb (run_len Utf8 body) (length body) (omega arith))
    ∙ ap (λ n. Token kind.Rune n) (sym (length-between 39 body))

-- a general comment, whatever follows
pub general_exact : (body more : List ℕ) → run_len General (body ++ 42 ∷ 47 ∷ []) ≡ length body → IsRun Utf8 (47 ∷ 42 ∷ (body ++ 42 ∷ 47 ∷ [])) → step_at ((47 ∷ 42 ∷ (body ++ 42 ∷ 47 ∷ [])) ++ more) ≡ general_sort (47 ∷ 42 ∷ (body ++ 42 ∷ 47 ∷ []))
unfolding general_step comment_step
general_exact body more run all =
    let inner = body ++ 42 ∷ 47 ∷ [] in
    let p = 47 ∷ 42 ∷ inner in
    let text = p ++ more in
    let len : length inner ≡ length body + 2 = length-append body (42 ∷ 47 ∷ []) in
    let n : run_len General (drop 2 text) ≡ length body = general_more inner more (omega arith) ∙ run in
    let rest : inner ++ more ≡ body ++ (42 ∷ 47 ∷ more) = append_assoc body (42 ∷ 47 ∷ []) more in
    let n2 : run_len General (drop 2 text) + 2 ≡ suc (suc (length body)) = omega arith in
    let n3 : run_len General (drop 2 text) + 3 ≡ suc (suc (length body + 1)) = omega arith in
    let star : byte_at text (run_len General (drop 2 text) + 2) ≡ 42 = ap (byte_at text) n2 ∙ ap (λ t. byte_at t (length body)) rest ∙ get_or-append_seam body 42 (47 ∷ more) 0 in
    let slash : byte_at text (run_len General (drop 2 text) + 3) ≡ 47 = ap (byte_at text) n3 ∙ ap (λ t. byte_at t (length body + 1)) rest ∙ get_or-append-add body (42 ∷ 47 ∷ more) 1 0 in
    let size : run_len General (drop 2 text) + 4 ≡ length p = omega arith in
    let cut : take (run_len General (drop 2 text) + 4) text ≡ p = ap (λ k. take k text) size ∙ take-append_seam p more in
    let bad : nat_lt (run_len Utf8 p) (length p) ≡ false = le-ltb (run_len Utf8 p) (length p) (omega arith) in
    at-general text refl refl
    ∙ if_true _ _ (both_true (eq-eqb _ _ star) (eq-eqb _ _ slash))
    ∙ ap (λ q. comment_step q (if nat_lt (run_len Line q) (length q) then Break (run_len General (drop 2 text) + 4) else Blank (run_len General (drop 2 text) + 4))) cut
    ∙ if_false _ _ bad
    ∙ ap (λ k. if nat_lt (run_len Line p) (length p) then Break k else Blank k) size

-- an operator alone is what a step takes
pub sign_exact : (o : Operator) → step_at (operator_text o) ≡ Token (kind.Op o) (length (operator_text o))
unfolding step_at slash_step sign_step operator_of punctuation
sign_exact op.Add = refl
sign_exact op.Sub = refl
sign_exact op.Mul = refl
sign_exact op.Div = refl
sign_exact op.Rem = refl
sign_exact op.And = refl
sign_exact op.Or = refl
sign_exact op.Xor = refl
sign_exact op.Shl = refl
sign_exact op.Shr = refl
sign_exact op.AndNot = refl
sign_exact op.AddAssign = refl
sign_exact op.SubAssign = refl
sign_exact op.MulAssign = refl
sign_exact op.DivAssign = refl
sign_exact op.RemAssign = refl
sign_exact op.AndAssign = refl
sign_exact op.OrAssign = refl
sign_exact op.XorAssign = refl
sign_exact op.ShlAssign = refl
sign_exact op.ShrAssign = refl
sign_exact op.AndNotAssign = refl
sign_exact op.AndThen = refl
sign_exact op.OrElse = refl
sign_exact op.Arrow = refl
sign_exact op.Increment = refl
sign_exact op.Decrement = refl
sign_exact op.Eq = refl
sign_exact op.Lt = refl
sign_exact op.Gt = refl
sign_exact op.Assign = refl
sign_exact op.Not = refl
sign_exact op.Ne = refl
sign_exact op.Le = refl
sign_exact op.Ge = refl
sign_exact op.Define = refl
sign_exact op.Ellipsis = refl
sign_exact op.LeftParen = refl
sign_exact op.RightParen = refl
sign_exact op.LeftBracket = refl
sign_exact op.RightBracket = refl
sign_exact op.LeftBrace = refl
sign_exact op.RightBrace = refl
sign_exact op.Comma = refl
sign_exact op.Dot = refl
sign_exact op.Colon = refl

-- which is longer: the operator or the one with `=` after it
longer : (c : ℕ) (x y : Operator) → length (operator_text x) ≡ 3 → length (operator_text y) ≡ 2 → 2 ≤ size_of (operator_step (Some (if c == 61 then x else y)) [])
longer c x y three two = if_cases (c == 61) (λ o. 2 ≤ size_of (operator_step (Some o) [])) x y (λ _. omega arith) (λ _. omega arith)

-- an operator of several bytes is no longer than what a step takes
pub sign_longest : (o : Operator) (more : List ℕ) → (length (operator_text o) ≤ 1) ⊎ (length (operator_text o) ≤ size_of (step_at (operator_text o ++ more)))
unfolding step_at slash_step sign_step operator_of punctuation
sign_longest op.Add more = inl (omega arith)
sign_longest op.Sub more = inl (omega arith)
sign_longest op.Mul more = inl (omega arith)
sign_longest op.Div more = inl (omega arith)
sign_longest op.Rem more = inl (omega arith)
sign_longest op.And more = inl (omega arith)
sign_longest op.Or more = inl (omega arith)
sign_longest op.Xor more = inl (omega arith)
sign_longest op.Shl more = inr (longer (byte_at more 0) op.ShlAssign op.Shl refl refl)
sign_longest op.Shr more = inr (longer (byte_at more 0) op.ShrAssign op.Shr refl refl)
sign_longest op.AndNot more = inr (longer (byte_at more 0) op.AndNotAssign op.AndNot refl refl)
sign_longest op.AddAssign more = inr (omega arith)
sign_longest op.SubAssign more = inr (omega arith)
sign_longest op.MulAssign more = inr (omega arith)
sign_longest op.DivAssign more = inr (omega arith)
sign_longest op.RemAssign more = inr (omega arith)
sign_longest op.AndAssign more = inr (omega arith)
sign_longest op.OrAssign more = inr (omega arith)
sign_longest op.XorAssign more = inr (omega arith)
sign_longest op.ShlAssign more = inr (omega arith)
sign_longest op.ShrAssign more = inr (omega arith)
sign_longest op.AndNotAssign more = inr (omega arith)
sign_longest op.AndThen more = inr (omega arith)
sign_longest op.OrElse more = inr (omega arith)
sign_longest op.Arrow more = inr (omega arith)
sign_longest op.Increment more = inr (omega arith)
sign_longest op.Decrement more = inr (omega arith)
sign_longest op.Eq more = inr (omega arith)
sign_longest op.Lt more = inl (omega arith)
sign_longest op.Gt more = inl (omega arith)
sign_longest op.Assign more = inl (omega arith)
sign_longest op.Not more = inl (omega arith)
sign_longest op.Ne more = inr (omega arith)
sign_longest op.Le more = inr (omega arith)
sign_longest op.Ge more = inr (omega arith)
sign_longest op.Define more = inr (omega arith)
sign_longest op.Ellipsis more = inr (omega arith)
sign_longest op.LeftParen more = inl (omega arith)
sign_longest op.RightParen more = inl (omega arith)
sign_longest op.LeftBracket more = inl (omega arith)
sign_longest op.RightBracket more = inl (omega arith)
sign_longest op.LeftBrace more = inl (omega arith)
sign_longest op.RightBrace more = inl (omega arith)
sign_longest op.Comma more = inl (omega arith)
sign_longest op.Dot more = inl (omega arith)
sign_longest op.Colon more = inl (omega arith)

-- a name and what may follow it
pub name_size : (text more : List ℕ) → 0 < length text → letter_width text ≢ 0 → IsRun Name text → length text ≤ size_of (step_at (text ++ more))
unfolding name_step
name_size text more long other run =
    let some : 0 < letter_width text = omega arith in
    let fix = letter_determined text long some in
    let back : take (letter_width text) text ++ (drop (letter_width text) text ++ more) ≡ text ++ more = sym (append_assoc (take (letter_width text) text) (drop (letter_width text) text) more) ∙ ap (λ t. t ++ more) (take-append-drop (letter_width text) text) in
    let same : letter_width (text ++ more) ≡ letter_width text = ap letter_width (sym back) ∙ fix.fixed (drop (letter_width text) text ++ more) in
    let is : step_at (text ++ more) ≡ name_step (text ++ more) = at-name (text ++ more) (omega arith) in
    let named : name_step (text ++ more) ≡ Token (name_kind (keyword_of (take (run_len Name (text ++ more)) (text ++ more)))) (run_len Name (text ++ more)) = if_false _ _ (ne_eqb (letter_width (text ++ more)) 0 (λ e. omega arith)) in
    let n = run_len-whole Name name_determined text more run in
    let size : size_of (step_at (text ++ more)) ≡ run_len Name (text ++ more) = ap size_of (is ∙ named) in
    omega arith

pub name_exact : (text : List ℕ) → 0 < length text → letter_width text ≢ 0 → IsRun Name text → step_at text ≡ Token (name_kind (keyword_of text)) (length text)
unfolding name_step
name_exact text long other run =
    at-name text (omega arith)
    ∙ if_false _ _ (ne_eqb (letter_width text) 0 other)
    ∙ ap (λ n. Token (name_kind (keyword_of (take n text))) n) run
    ∙ ap (λ t. Token (name_kind (keyword_of t)) (length text)) (take-length text)

-- a line comment and what may follow it
line_size : (text : List ℕ) → IsFine (line_step text) → size_of (line_step text) ≡ run_len Line text
unfolding line_step comment_step
line_size text =
    let n = run_len Line text in
    let p = take n text in
    if_cases (nat_lt (run_len Utf8 p) (length p)) P _ _ (λ _ h. absurd h)
    (λ _. if_cases (is_build p) P (Build n) (Blank n) (λ _ _. refl) (λ _ _. refl))
  where
    P : Step → Type 0
    P s = IsFine s → size_of s ≡ run_len Line text

pub line_longest : (rest more : List ℕ) → IsRun Line (47 ∷ 47 ∷ rest) → IsFine (step_at ((47 ∷ 47 ∷ rest) ++ more)) → length (47 ∷ 47 ∷ rest) ≤ size_of (step_at ((47 ∷ 47 ∷ rest) ++ more))
line_longest rest more run h =
    let text = (47 ∷ 47 ∷ rest) ++ more in
    let is = at-line text refl refl in
    let size : size_of (step_at text) ≡ run_len Line text = ap size_of is ∙ line_size text (subst IsFine is h) in
    let n = run_len-whole Line line_determined (47 ∷ 47 ∷ rest) more run in
    omega arith

pub line_exact : (rest : List ℕ) → IsRun Line (47 ∷ 47 ∷ rest) → IsRun Utf8 (47 ∷ 47 ∷ rest) → step_at (47 ∷ 47 ∷ rest) ≡ line_sort (47 ∷ 47 ∷ rest)
unfolding line_step comment_step
line_exact rest run all =
    let p = 47 ∷ 47 ∷ rest in
    let bad : nat_lt (run_len Utf8 p) (length p) ≡ false = le-ltb (run_len Utf8 p) (length p) (omega arith) in
    at-line p refl refl
    ∙ ap (λ n. comment_step (take n p) (if is_build (take n p) then Build n else Blank n)) run
    ∙ ap (λ q. comment_step q (if is_build q then Build (length p) else Blank (length p))) (take-length p)
    ∙ if_false _ _ bad
