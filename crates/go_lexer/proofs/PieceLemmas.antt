-- What a step takes is a piece.
use Rattle.std.proofs.Common.{◌≡◌, ◌≤◌, ◌<◌, ◌+◌, ◌-◌, ◌++◌, ℕ, suc, List, [], ◌∷◌, refl, sym, ap, ◌∙◌, arith, subst, length, take, drop, drop-cons}
use Rattle.std.specs.Prelude.{◌≢◌, ◌==◌, nat_lt, not}
use Rattle.std.proofs.lemmas.Bool.{eqb-true, eqb-false, ltb-false, not-false}
use Rattle.std.proofs.lemmas.List.{length-take-le}
use Rattle.std.proofs.Math.Seq.{take-add}
use Rattle.go_syntax.specs.declared.kind.TokenKind.TheVariants as kind
use Rattle.go_lexer.specs.Chars.{byte_at, char_width, letter_width, name_width}
use Rattle.go_lexer.specs.Runs.{run_len, width_of}
use Rattle.go_lexer.specs.Steps.{string_step, string_body_step, raw_step, raw_body_step, rune_step, rune_body_step, rune_width, name_step, name_kind}
use Rattle.go_lexer.specs.Keywords.{keyword_of}
use Rattle.go_lexer.specs.LexicalFault.{inside}
use Rattle.go_lexer.specs.Pieces.{IsPiece, IsRun, between, line_sort, general_sort}
use Rattle.go_lexer.specs.Pieces as piece
use Rattle.go_lexer.specs.Tokens.{size_of}
use Rattle.go_lexer.specs.declared.run.Class.{Class}
use Rattle.go_lexer.specs.declared.run.Class.TheVariants.{Name, Quoted, Escaped, Raw, Utf8}
use Rattle.go_lexer.specs.declared.step.Step.{Step}
use Rattle.go_lexer.specs.declared.step.Step.TheVariants.{Token, Blank, Break, Build, Bad}
use Rattle.go_lexer.proofs.Choices.{if_cases}
use Rattle.go_lexer.proofs.RunLemmas.{run_len-le, run_after-step, run_after-le}
use Rattle.go_lexer.proofs.CharLemmas.{present}
use Rattle.go_lexer.proofs.UnitLemmas.{IsDetermined, run_after-front, raw_determined, quoted_determined, name_determined, letter_determined, letter_in_name}

-- a piece of this sort stands at the front of the text
pub record StandsAs (text : List ℕ) (sort : Step) : Type 0 where
  pub some : 0 < size_of sort
  pub within : size_of sort ≤ length text
  pub piece : IsPiece (take (size_of sort) text) sort

-- what a step takes is a piece; a fault is none
abbrev pub Pieced : List ℕ → Step → Type 0
Pieced text (Bad place code) = Unit {0}
Pieced text (Token of width) = StandsAs text (Token of width)
Pieced text (Blank width) = StandsAs text (Blank width)
Pieced text (Break width) = StandsAs text (Break width)
Pieced text (Build width) = StandsAs text (Build width)

-- a run that a determined class takes is one run
pub front_run : (class : Class) → IsDetermined (width_of class) → (text : List ℕ) → IsRun class (take (run_len class text) text)
unfolding run_len
front_run class determined text = run_after-front (width_of class) determined text ∙ sym (length-take-le (run_len class text) text (run_after-le (width_of class) 0 text))

-- a literal that its quote ends
pub record IsClosed (quote : ℕ) (class : Class) (text : List ℕ) : Type 0 where
  pub len : length (inside class text) ≡ run_len class (drop 1 text)
  pub within : length (inside class text) + 2 ≤ length text
  pub front : take (length (inside class text) + 2) text ≡ between quote (inside class text)

closed : (quote : ℕ) (class : Class) (text : List ℕ) → 0 < quote → byte_at text 0 ≡ quote → byte_at text (run_len class (drop 1 text) + 1) ≡ quote → IsClosed quote class text
closed quote class [] some opens closes = absurd (let e : 0 ≡ quote = opens in omega arith)
closed quote class (b ∷ text) some opens closes =
    let n = run_len class text in
    let body = take n text in
    let le = run_len-le class text in
    let next : n + 1 ≡ suc n = omega arith in
    let at : byte_at text n ≡ quote = ap (λ k. byte_at (b ∷ text) k) (sym next) ∙ closes in
    let lt : n < length text = present text n (omega arith) in
    let len : length body ≡ n = length-take-le n text le in
    let more : length body + 2 ≡ suc (n + 1) = omega arith in
    let cut : take 1 (drop n text) ≡ quote ∷ [] = ap (take 1) (drop-cons text n 0 lt) ∙ ap (λ q. q ∷ []) at in
    record {
      len = len;
      within = omega arith;
      front =
          ap (λ k. take k (b ∷ text)) more
          ∙ ap (λ t. b ∷ t) (take-add n 1 text)
          ∙ ap (λ t. b ∷ (body ++ t)) cut
          ∙ ap (λ q. q ∷ (body ++ quote ∷ [])) opens;
    }

-- a piece of a closed literal stands at the front
literal : (quote : ℕ) (class : Class) (text : List ℕ) (sort : ℕ → Step) → ((n : ℕ) → size_of (sort n) ≡ n) → IsClosed quote class text → ((p : List ℕ) → p ≡ between quote (inside class text) → IsPiece p (sort (length p))) → StandsAs text (sort (length (inside class text) + 2))
literal quote class text sort size c make =
    let n = length (inside class text) + 2 in
    let is = size n in
    let len : length (take n text) ≡ n = length-take-le n text c.within in
    record {
      some = omega arith;
      within = omega (arith, c.within);
      piece = subst (λ k. IsPiece (take k text) (sort n)) (sym is) (subst (λ k. IsPiece (take n text) (sort k)) len (make (take n text) c.front));
    }

module _ (text : List ℕ) where
  pub string_pieced : byte_at text 0 ≡ 34 → Pieced text (string_step text)
  unfolding string_step string_body_step
  string_pieced opens =
      let body = inside (Quoted 34) text in
      let wrong = run_len (Escaped 34) body in
      let bad = run_len Utf8 body in
      if_cases (byte_at text (run_len (Quoted 34) (drop 1 text) + 1) == 34) (Pieced text) _ _
      (λ e.
      let c = closed 34 (Quoted 34) text (omega arith) opens (eqb-true _ 34 e) in
      if_cases (nat_lt wrong bad) (Pieced text) _ _ (λ _. tt)
      (λ f. if_cases (nat_lt bad (length body)) (Pieced text) _ _ (λ _. tt)
      (λ g.
      let le = ltb-false wrong bad f in
      let past = ltb-false bad (length body) g in
      let le1 = run_len-le Utf8 body in
      let le2 = run_len-le (Escaped 34) body in
      let all : bad ≡ length body = omega arith in
      let right : wrong ≡ length body = omega arith in
      literal 34 (Quoted 34) text (λ n. Token kind.Str n) (λ n. refl) c (λ p is. piece.string body is (front_run (Quoted 34) (quoted_determined 34) (drop 1 text)) right all))))
      (λ _. tt)

  pub raw_pieced : byte_at text 0 ≡ 96 → Pieced text (raw_step text)
  unfolding raw_step raw_body_step
  raw_pieced opens =
      let body = inside Raw text in
      let bad = run_len Utf8 body in
      if_cases (byte_at text (run_len Raw (drop 1 text) + 1) == 96) (Pieced text) _ _
      (λ e.
      let c = closed 96 Raw text (omega arith) opens (eqb-true _ 96 e) in
      if_cases (nat_lt bad (length body)) (Pieced text) _ _ (λ _. tt)
      (λ g.
      let past = ltb-false bad (length body) g in
      let le = run_len-le Utf8 body in
      let all : bad ≡ length body = omega arith in
      literal 96 Raw text (λ n. Token kind.Str n) (λ n. refl) c (λ p is. piece.raw body is (front_run Raw raw_determined (drop 1 text)) all)))
      (λ _. tt)

  pub rune_pieced : byte_at text 0 ≡ 39 → Pieced text (rune_step text)
  unfolding rune_step rune_body_step
  rune_pieced opens =
      let body = inside (Quoted 39) text in
      let wrong = run_len (Escaped 39) body in
      let bad = run_len Utf8 body in
      if_cases (byte_at text (run_len (Quoted 39) (drop 1 text) + 1) == 39) (Pieced text) _ _
      (λ e.
      let c = closed 39 (Quoted 39) text (omega arith) opens (eqb-true _ 39 e) in
      if_cases (nat_lt wrong (length body)) (Pieced text) _ _
      (λ _. if_cases (nat_lt wrong bad) (Pieced text) _ _ (λ _. tt) (λ _. tt))
      (λ f. if_cases (not (rune_width body == length body)) (Pieced text) _ _ (λ _. tt)
      (λ h. if_cases (nat_lt bad (length body)) (Pieced text) _ _ (λ _. tt)
      (λ g.
      let past = ltb-false bad (length body) g in
      let past2 = ltb-false wrong (length body) f in
      let le1 = run_len-le Utf8 body in
      let le2 = run_len-le (Escaped 39) body in
      let all : bad ≡ length body = omega arith in
      let right : wrong ≡ length body = omega arith in
      literal 39 (Quoted 39) text (λ n. Token kind.Rune n) (λ n. refl) c (λ p is. piece.rune body is (front_run (Quoted 39) (quoted_determined 39) (drop 1 text)) right all (eqb-true (rune_width body) (length body) (not-false _ h)))))))
      (λ _. tt)

  -- a letter and all letters and digits after it
  pub name_pieced : 0 < length text → Pieced text (name_step text)
  unfolding name_step run_len width_of
  name_pieced long =
      if_cases (letter_width text == 0) (Pieced text) _ _
      (λ _. if_cases (char_width text == 0) (Pieced text) _ _ (λ _. tt) (λ _. tt))
      (λ e. named (letter_width text) refl (eqb-false (letter_width text) 0 e))
    where
      named : (w : ℕ) → letter_width text ≡ w → w ≢ 0 → StandsAs text (Token (name_kind (keyword_of (take (run_len Name text) text))) (run_len Name text))
      named w is other =
          let n = run_len Name text in
          let p = take n text in
          let some : 0 < letter_width text = omega arith in
          let fix = letter_determined text long some in
          let same = letter_in_name text some in
          let pred : name_width text ≡ suc (w - 1) = omega arith in
          let one = run_after-step (width_of Name) text (w - 1) long pred in
          let back : suc (w - 1) ≡ letter_width text = omega arith in
          let wide : letter_width text ≤ n = omega (arith, fix.within) in
          let le = run_len-le Name text in
          let len : length p ≡ n = length-take-le n text le in
          let cut : n ≡ letter_width text + (n - letter_width text) = omega arith in
          let front : letter_width p ≡ letter_width text =
          ap (λ k. letter_width (take k text)) cut
          ∙ ap letter_width (take-add (letter_width text) (n - letter_width text) text)
          ∙ fix.fixed (take (n - letter_width text) (drop (letter_width text) text)) in
          record {
            some = omega arith;
            within = le;
            piece = subst (λ k. IsPiece p (Token (name_kind (keyword_of p)) k)) len (piece.name (omega arith) (λ z. omega arith) (front_run Name name_determined text));
          }
