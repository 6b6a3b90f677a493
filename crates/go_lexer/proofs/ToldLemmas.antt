-- What is told is a row that holds.
use Rattle.std.proofs.Common.{◌≡◌, ◌<◌, ◌+◌, ℕ, List, true, false, refl, ap, arith, subst, Some, None, Option, length, take, drop}
use Rattle.std.specs.Prelude.{◌==◌, ◌&&◌, nat_lt, not}
use Rattle.std.proofs.lemmas.Bool.{eqb-false, eqb-true, or_from, ltb-true, ltb-false, not-true}
use Rattle.go_lexer.specs.Chars.{byte_at, char_width, letter_width}
use Rattle.go_lexer.specs.Runs.{run_len, is_decimal}
use Rattle.go_lexer.specs.Numbers.{base_of, prefix_of, digits_len, value_from, is_beyond, limit}
use Rattle.go_lexer.specs.Operators.{operator_of}
use Rattle.go_lexer.specs.Steps.{step_at, slash_step, sign_step, is_blank, number_step, digits_step, int_step, string_step, string_body_step, rune_step, rune_body_step, rune_width, raw_step, raw_body_step, line_step, general_step, comment_step, operator_step, name_step, is_build}
use Rattle.go_lexer.specs.LexicalFault.{Row, BeginsNothing, Closes, StaysOpen, inside, comment_closes, Encloses, BeginsNumber, IsAtMost, begins_other}
use Rattle.go_lexer.specs.LexicalFault as row
use Rattle.go_lexer.specs.declared.run.Class.TheVariants.{Quoted, Escaped, Raw, Line, General, Utf8}
use Rattle.go_lexer.specs.declared.step.Step.{Step}
use Rattle.go_lexer.specs.declared.step.Step.TheVariants.{Token, Blank, Break, Build, Bad}
use Rattle.go_syntax.specs.declared.operator.Operator.{Operator}
use Rattle.go_lexer.proofs.Choices.{if_cases, and_parts}
use Rattle.go_lexer.proofs.RunLemmas.{run_len-le}

-- a fault that is told is a row that holds
abbrev pub Explained : List ℕ → Step → Type 0
Explained text (Bad k code) = Row text k code
Explained text (Token kind width) = Unit {0}
Explained text (Blank width) = Unit {0}
Explained text (Break width) = Unit {0}
Explained text (Build width) = Unit {0}

module _ (text : List ℕ) where
  string_explained : byte_at text 0 ≡ 34 → Explained text (string_step text)
  unfolding string_step string_body_step
  string_explained opens =
      let body = inside (Quoted 34) text in
      if_cases (byte_at text (run_len (Quoted 34) (drop 1 text) + 1) == 34) (Explained text) _ _
      (λ e.
      if_cases (nat_lt (run_len (Escaped 34) body) (run_len Utf8 body)) (Explained text) _ _
      (λ f. let h = ltb-true (run_len (Escaped 34) body) (run_len Utf8 body) f in let le = run_len-le Utf8 body in row.f7 (record { opens = opens; closes = e }) (omega arith))
      (λ f.
      if_cases (nat_lt (run_len Utf8 body) (length body)) (Explained text) _ _
      (λ g. row.f2_inside 1 body (row.in_string (record { opens = opens; closes = e })) (ltb-true (run_len Utf8 body) (length body) g))
      (λ g. tt)))
      (λ e. row.f3 (record { opens = opens; stays = e }))

  raw_explained : byte_at text 0 ≡ 96 → Explained text (raw_step text)
  unfolding raw_step raw_body_step
  raw_explained opens =
      let body = inside Raw text in
      if_cases (byte_at text (run_len Raw (drop 1 text) + 1) == 96) (Explained text) _ _
      (λ e.
      if_cases (nat_lt (run_len Utf8 body) (length body)) (Explained text) _ _
      (λ g. row.f2_inside 1 body (row.in_raw (record { opens = opens; closes = e })) (ltb-true (run_len Utf8 body) (length body) g))
      (λ g. tt))
      (λ e. row.f3_raw (record { opens = opens; stays = e }))

  rune_explained : byte_at text 0 ≡ 39 → Explained text (rune_step text)
  unfolding rune_step rune_body_step
  rune_explained opens =
      let body = inside (Quoted 39) text in
      let wrong = run_len (Escaped 39) body in
      let bad = run_len Utf8 body in
      if_cases (byte_at text (run_len (Quoted 39) (drop 1 text) + 1) == 39) (Explained text) _ _
      (λ e.
      let closes : Closes 39 (Quoted 39) text = record { opens = opens; closes = e } in
      if_cases (nat_lt wrong (length body)) (Explained text) _ _
      (λ f.
      let lt = ltb-true wrong (length body) f in
      if_cases (nat_lt wrong bad) (Explained text) _ _
      (λ g. row.f7_rune closes lt)
      (λ g. let le = ltb-false wrong bad g in row.f2_inside 1 body (row.in_rune closes) (omega arith)))
      (λ f.
      let past = ltb-false wrong (length body) f in
      let le = run_len-le (Escaped 39) body in
      let all : wrong ≡ length body = omega arith in
      if_cases (not (rune_width body == length body)) (Explained text) _ _
      (λ g. row.f4_count closes all (eqb-false (rune_width body) (length body) (not-true _ g)))
      (λ g.
      if_cases (nat_lt bad (length body)) (Explained text) _ _
      (λ i. row.f2_inside 1 body (row.in_rune closes) (ltb-true bad (length body) i))
      (λ i. tt))))
      (λ e. row.f4 (record { opens = opens; stays = e }))

  number_explained : is_decimal (byte_at text 0) ≡ true → Explained text (number_step text)
  unfolding number_step digits_step
  number_explained digit =
      let base = base_of (byte_at text 0) (byte_at text 1) in
      let over = prefix_of (byte_at text 0) (byte_at text 1) in
      let n = digits_len base over text in
      let begins : BeginsNumber base over n text = record { digit = digit; base_is = refl; over_is = refl; digits_are = refl } in
      if_cases (is_beyond (byte_at text (over + n))) (Explained text) _ _
      (λ e. row.f5 base over n begins e)
      (λ e. value base over n begins (value_from base 0 true false (take n (drop over text))) refl)
    where
      value : (base over n : ℕ) → BeginsNumber base over n text → (v : Option ℕ) → value_from base 0 true false (take n (drop over text)) ≡ v → Explained text (int_step v (over + n))
      value base over n begins None is = row.f6 base over n begins is
      value base over n begins (Some v) is = if_cases (nat_lt v limit) (Explained text) _ _ (λ e. tt) (λ e. row.f9 base over n v begins is (ltb-false v limit e))

  comment_explained : (from : ℕ) (part : List ℕ) (step : Step) → Encloses text 0 part → Explained text step → Explained text (comment_step part step)
  unfolding comment_step
  comment_explained from part step encloses h =
      if_cases (nat_lt (run_len Utf8 part) (length part)) (Explained text) _ _
      (λ e. let zero_more : run_len Utf8 part + 0 ≡ run_len Utf8 part = omega arith in subst (λ k. Row text k 2) zero_more (row.f2_inside 0 part encloses (ltb-true (run_len Utf8 part) (length part) e)))
      (λ e. h)

  line_explained : byte_at text 0 ≡ 47 → byte_at text 1 ≡ 47 → Explained text (line_step text)
  unfolding line_step
  line_explained e f =
      comment_explained 0 (take (run_len Line text) text) _ (row.in_line e f) (if_cases (is_build (take (run_len Line text) text)) (Explained text) _ _ (λ _. tt) (λ _. tt))

  general_explained : byte_at text 0 ≡ 47 → byte_at text 1 ≡ 42 → Explained text (general_step text)
  unfolding general_step
  general_explained e f =
      if_cases (comment_closes text) (Explained text) _ _
      (λ g.
      comment_explained 0 (take (run_len General (drop 2 text) + 4) text) _ (row.in_general e f g)
      (if_cases (nat_lt (run_len Line (take (run_len General (drop 2 text) + 4) text)) (length (take (run_len General (drop 2 text) + 4) text))) (Explained text) _ _ (λ _. tt) (λ _. tt)))
      (λ g. row.f8 e f g)

  -- the first byte begins no other piece
  no_other : (byte_at text 0 == 10) ≡ false → is_blank (byte_at text 0) ≡ false → is_decimal (byte_at text 0) ≡ false → (byte_at text 0 == 34) ≡ false → (byte_at text 0 == 39) ≡ false → (byte_at text 0 == 96) ≡ false → (byte_at text 0 == 59) ≡ false → begins_other (byte_at text 0) ≡ false
  no_other a b c d e f g = or_from _ _ a (or_from _ _ b (or_from _ _ c (or_from _ _ d (or_from _ _ e (or_from _ _ f g)))))

module _ (text : List ℕ) (long : 0 < length text) where
  -- a name, or nothing that begins a piece
  name_explained : begins_other (byte_at text 0) ≡ false → operator_of (byte_at text 0) (byte_at text 1) (byte_at text 2) ≡ None → Explained text (name_step text)
  unfolding name_step
  name_explained other none =
      if_cases (letter_width text == 0) (Explained text) _ _
      (λ e.
      let begins : BeginsNothing text = record { some = long; other = other; operator = none; letter = eqb-true (letter_width text) 0 e } in
      if_cases (char_width text == 0) (Explained text) _ _
      (λ f. row.f2 begins (eqb-true (char_width text) 0 f))
      (λ f. row.f1 begins (eqb-false (char_width text) 0 f)))
      (λ e. tt)

  operator_explained : (o : Option Operator) → operator_of (byte_at text 0) (byte_at text 1) (byte_at text 2) ≡ o → begins_other (byte_at text 0) ≡ false → Explained text (operator_step o text)
  operator_explained None is other = name_explained other is
  operator_explained (Some op) is other = tt

  -- each fault that is told is a row that holds
  pub step_explained : Explained text (step_at text)
  unfolding step_at slash_step sign_step
  step_explained =
      let b = byte_at text 0 in
      if_cases (b == 10) (Explained text) _ _ (λ _. tt)
      (λ e10. if_cases (is_blank b) (Explained text) _ _ (λ _. tt)
      (λ blank. if_cases (is_decimal b) (Explained text) _ _ (λ e. number_explained text e)
      (λ digit. if_cases (b == 34) (Explained text) _ _ (λ e. string_explained text (eqb-true b 34 e))
      (λ e34. if_cases (b == 39) (Explained text) _ _ (λ e. rune_explained text (eqb-true b 39 e))
      (λ e39. if_cases (b == 96) (Explained text) _ _ (λ e. raw_explained text (eqb-true b 96 e))
      (λ e96. if_cases (b == 47) (Explained text) _ _
      (λ e47.
      if_cases (byte_at text 1 == 47) (Explained text) _ _ (λ e. line_explained text (eqb-true b 47 e47) (eqb-true (byte_at text 1) 47 e))
      (λ e. if_cases (byte_at text 1 == 42) (Explained text) _ _ (λ f. general_explained text (eqb-true b 47 e47) (eqb-true (byte_at text 1) 42 f))
      (λ f. operator_explained _ refl (no_other text e10 blank digit e34 e39 e96 (ap (λ (b : ℕ). b == 59) (eqb-true b 47 e47))))))
      (λ e47. if_cases (b == 59) (Explained text) _ _ (λ _. tt)
      (λ e59. if_cases (b == 46 && is_decimal (byte_at text 1)) (Explained text) _ _
      (λ e. let p = and_parts (b == 46) (is_decimal (byte_at text 1)) e in row.f5_point (eqb-true b 46 p.0) p.1)
      (λ e. operator_explained _ refl (no_other text e10 blank digit e34 e39 e96 e59))))))))))
