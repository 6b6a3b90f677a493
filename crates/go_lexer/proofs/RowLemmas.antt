-- Each row that holds is told, or one before it.
use Rattle.std.proofs.Common.{◌≡◌, ◌≤◌, ◌<◌, ◌+◌, ℕ, List, true, false, refl, sym, ap, ◌∙◌, arith, subst, None, length, take, drop, inl, inr, ⊎_elim}
use Rattle.std.proofs.str.Laws.{order}
use Rattle.std.specs.Prelude.{◌≢◌, ◌==◌, ◌&&◌, if◌then◌else◌, nat_lt, not}
use Rattle.std.proofs.lemmas.Bool.{ne_eqb, eq-eqb, or_parts, ltb-true, ltb-false, lt-ltb, le-ltb}
use Rattle.std.specs.Cmp.Derive.{both_true}
use Rattle.go_lexer.specs.Chars.{byte_at, char_width}
use Rattle.go_lexer.specs.Runs.{run_len, is_decimal}
use Rattle.go_lexer.specs.Numbers.{base_of, prefix_of, digits_len, value_from, is_beyond}
use Rattle.go_lexer.specs.Operators.{operator_of}
use Rattle.go_lexer.specs.Steps.{step_at, sign_step, is_blank, number_step, digits_step, int_step, string_step, string_body_step, rune_step, rune_body_step, rune_width, raw_step, raw_body_step, line_step, general_step, comment_step, operator_step, name_step}
use Rattle.go_lexer.specs.LexicalFault.{Row, BeginsNothing, Closes, StaysOpen, inside, comment_closes, Encloses, BeginsNumber, IsAtMost, begins_other}
use Rattle.go_lexer.specs.LexicalFault as row
use Rattle.go_lexer.specs.declared.run.Class.TheVariants.{Quoted, Escaped, Raw, Utf8}
use Rattle.go_lexer.specs.declared.step.Step.{Step}
use Rattle.go_lexer.specs.declared.step.Step.TheVariants.{Token, Blank, Break, Build, Bad}
use Rattle.go_lexer.proofs.Choices.{if_cases, if_true, if_false, at-string, at-rune, at-raw, at-line, at-general, at-number, at-point}

-- the step tells this row, or one before it
abbrev pub Told : ℕ → ℕ → Step → Type 0
Told k code (Bad k' code') = IsAtMost k' code' k code
Told k code (Token kind width) = ⊥
Told k code (Blank width) = ⊥
Told k code (Break width) = ⊥
Told k code (Build width) = ⊥

same : (k code : ℕ) → IsAtMost k code k code
same k code = inr (refl, omega arith)

less : (code k' code' : ℕ) → 0 < k' → IsAtMost 0 code k' code'
less code k' code' lt = inl lt

module _ (text : List ℕ) where
  -- what is told of the inside of a string literal
  string_is : Closes 34 (Quoted 34) text → step_at text ≡ string_body_step (inside (Quoted 34) text)
  unfolding string_step
  string_is c = at-string text c.opens ∙ if_true _ _ c.closes

  raw_is : Closes 96 Raw text → step_at text ≡ raw_body_step (inside Raw text)
  unfolding raw_step
  raw_is c = at-raw text c.opens ∙ if_true _ _ c.closes

  rune_is : Closes 39 (Quoted 39) text → step_at text ≡ rune_body_step (inside (Quoted 39) text)
  unfolding rune_step
  rune_is c = at-rune text c.opens ∙ if_true _ _ c.closes

  -- a bad byte within a string literal
  bad_string : (body : List ℕ) → run_len Utf8 body < length body → Told (run_len Utf8 body + 1) 2 (string_body_step body)
  unfolding string_body_step
  bad_string body lt =
      if_cases (nat_lt (run_len (Escaped 34) body) (run_len Utf8 body)) (Told (run_len Utf8 body + 1) 2) _ _
      (λ e. inl (let h = ltb-true _ _ e in omega arith))
      (λ e. subst (Told (run_len Utf8 body + 1) 2) (sym (if_true _ _ (lt-ltb _ _ lt))) (same (run_len Utf8 body + 1) 2))

  bad_raw : (body : List ℕ) → run_len Utf8 body < length body → Told (run_len Utf8 body + 1) 2 (raw_body_step body)
  unfolding raw_body_step
  bad_raw body lt = subst (Told (run_len Utf8 body + 1) 2) (sym (if_true _ _ (lt-ltb _ _ lt))) (same (run_len Utf8 body + 1) 2)

  bad_rune : (body : List ℕ) → run_len Utf8 body < length body → Told (run_len Utf8 body + 1) 2 (rune_body_step body)
  unfolding rune_body_step
  bad_rune body lt =
      if_cases (nat_lt (run_len (Escaped 39) body) (length body)) (Told (run_len Utf8 body + 1) 2) _ _
      (λ e.
      if_cases (nat_lt (run_len (Escaped 39) body) (run_len Utf8 body)) (Told (run_len Utf8 body + 1) 2) _ _
      (λ f. inl (let h = ltb-true _ _ f in omega arith))
      (λ f. same (run_len Utf8 body + 1) 2))
      (λ e.
      if_cases (not (rune_width body == length body)) (Told (run_len Utf8 body + 1) 2) _ _
      (λ f. inl (omega arith))
      (λ f. subst (Told (run_len Utf8 body + 1) 2) (sym (if_true _ _ (lt-ltb _ _ lt))) (same (run_len Utf8 body + 1) 2)))

  -- at most the wrong escape where a bad byte comes no later
  sooner : (wrong bad : ℕ) → bad ≤ wrong → IsAtMost (bad + 1) 2 (wrong + 1) 7
  sooner wrong bad le = ⊎_elim (λ lt. inl (omega arith)) (λ past. inr (omega arith, omega arith)) (order bad wrong)

  -- a wrong escape within a string literal
  wrong_string : (body : List ℕ) → run_len (Escaped 34) body < length body → Told (run_len (Escaped 34) body + 1) 7 (string_body_step body)
  unfolding string_body_step
  wrong_string body lt =
      if_cases (nat_lt (run_len (Escaped 34) body) (run_len Utf8 body)) (Told (run_len (Escaped 34) body + 1) 7) _ _
      (λ e. same (run_len (Escaped 34) body + 1) 7)
      (λ e.
      let le = ltb-false _ _ e in
      let short : run_len Utf8 body < length body = omega arith in
      subst (Told (run_len (Escaped 34) body + 1) 7) (sym (if_true _ _ (lt-ltb _ _ short))) (sooner (run_len (Escaped 34) body) (run_len Utf8 body) le))

  wrong_rune : (body : List ℕ) → run_len (Escaped 39) body < length body → Told (run_len (Escaped 39) body + 1) 7 (rune_body_step body)
  unfolding rune_body_step
  wrong_rune body lt =
      subst (Told (run_len (Escaped 39) body + 1) 7) (sym (if_true _ _ (lt-ltb _ _ lt)))
      (if_cases (nat_lt (run_len (Escaped 39) body) (run_len Utf8 body)) (Told (run_len (Escaped 39) body + 1) 7) _ _
      (λ e. same (run_len (Escaped 39) body + 1) 7)
      (λ e. sooner (run_len (Escaped 39) body) (run_len Utf8 body) (ltb-false _ _ e)))

  -- not exactly one character
  count_rune : (body : List ℕ) → run_len (Escaped 39) body ≡ length body → rune_width body ≢ length body → Told 0 4 (rune_body_step body)
  unfolding rune_body_step
  count_rune body all other =
      let le : length body ≤ run_len (Escaped 39) body = omega arith in
      subst (Told 0 4) (sym (if_false _ _ (le-ltb _ _ le) ∙ if_true _ _ (ap not (ne_eqb _ _ other)))) (same 0 4)

  -- a bad byte within a comment
  bad_comment : (comment : List ℕ) (step : Step) → run_len Utf8 comment < length comment → Told (run_len Utf8 comment + 0) 2 (comment_step comment step)
  unfolding comment_step
  bad_comment comment step lt = subst (Told (run_len Utf8 comment + 0) 2) (sym (if_true _ _ (lt-ltb _ _ lt))) (inr (omega arith, omega arith))

  -- a number
  number_is : (base over n : ℕ) → BeginsNumber base over n text → step_at text ≡ digits_step base over n text
  unfolding number_step
  number_is base over n h =
      at-number text h.digit
      ∙ ap (λ m. digits_step (base_of (byte_at text 0) (byte_at text 1)) (prefix_of (byte_at text 0) (byte_at text 1)) m text) (ap (λ b. digits_len b (prefix_of (byte_at text 0) (byte_at text 1)) text) (sym h.base_is) ∙ ap (λ o. digits_len base o text) (sym h.over_is) ∙ sym h.digits_are)
      ∙ ap (λ b. digits_step b (prefix_of (byte_at text 0) (byte_at text 1)) n text) (sym h.base_is)
      ∙ ap (λ o. digits_step base o n text) (sym h.over_is)

  digits_told : (base over n k : ℕ) → is_beyond (byte_at text (over + n)) ≡ true → 5 ≤ k → Told 0 k (digits_step base over n text)
  unfolding digits_step
  digits_told base over n k e le = subst (Told 0 k) (sym (if_true _ _ e)) (inr (refl, le))

  value_told : (base over n k : ℕ) (s : Step) → 5 ≤ k → Told 0 k s → int_step (value_from base 0 true false (take n (drop over text))) (over + n) ≡ s → Told 0 k (digits_step base over n text)
  unfolding digits_step
  value_told base over n k s le h is =
      if_cases (is_beyond (byte_at text (over + n))) (Told 0 k) _ _
      (λ e. inr (refl, le))
      (λ e. subst (Told 0 k) (sym is) h)

  some_slash : operator_of 47 (byte_at text 1) (byte_at text 2) ≡ None → ⊥
  unfolding operator_of
  some_slash e = cc

  some_point : operator_of 46 (byte_at text 1) (byte_at text 2) ≡ None → ⊥
  unfolding operator_of
  some_point e = cc

  -- nothing begins with the text's first character
  nothing_is : BeginsNothing text → step_at text ≡ (if char_width text == 0 then Bad 0 2 else Bad 0 1)
  unfolding step_at sign_step name_step
  nothing_is h =
      let b = byte_at text 0 in
      let p1 = or_parts (b == 10) _ h.other in
      let p2 = or_parts (is_blank b) _ p1.1 in
      let p3 = or_parts (is_decimal b) _ p2.1 in
      let p4 = or_parts (b == 34) _ p3.1 in
      let p5 = or_parts (b == 39) _ p4.1 in
      let p6 = or_parts (b == 96) (b == 59) p5.1 in
      let no_slash : (b == 47) ≡ false = ne_eqb b 47 (λ e. some_slash (ap (λ (b : ℕ). operator_of b (byte_at text 1) (byte_at text 2)) (sym e) ∙ h.operator)) in
      let no_point : (b == 46 && is_decimal (byte_at text 1)) ≡ false = ap (λ x. x && is_decimal (byte_at text 1)) (ne_eqb b 46 (λ e. some_point (ap (λ (b : ℕ). operator_of b (byte_at text 1) (byte_at text 2)) (sym e) ∙ h.operator))) in
      if_false _ _ p1.0 ∙ if_false _ _ p2.0 ∙ if_false _ _ p3.0 ∙ if_false _ _ p4.0 ∙ if_false _ _ p5.0 ∙ if_false _ _ p6.0 ∙ if_false _ _ no_slash ∙ if_false _ _ p6.1 ∙ if_false _ _ no_point
      ∙ ap (λ o. operator_step o text) h.operator
      ∙ if_true _ _ (eq-eqb _ _ h.letter)

  inside_told : (from : ℕ) (part : List ℕ) → Encloses text from part → run_len Utf8 part < length part → Told (run_len Utf8 part + from) 2 (step_at text)
  unfolding line_step general_step
  inside_told from part (row.in_string c) lt = subst (Told _ 2) (sym (string_is c)) (bad_string _ lt)
  inside_told from part (row.in_rune c) lt = subst (Told _ 2) (sym (rune_is c)) (bad_rune _ lt)
  inside_told from part (row.in_raw c) lt = subst (Told _ 2) (sym (raw_is c)) (bad_raw _ lt)
  inside_told from part (row.in_line e f) lt = subst (Told _ 2) (sym (at-line text e f)) (bad_comment _ _ lt)
  inside_told from part (row.in_general e f g) lt = subst (Told _ 2) (sym (at-general text e f ∙ if_true _ _ g)) (bad_comment _ _ lt)

  -- each row that holds is told, or one before it
  pub row_told : (k code : ℕ) → Row text k code → Told k code (step_at text)
  unfolding string_step rune_step raw_step line_step general_step sign_step
  row_told k code (row.f1 none char) = subst (Told 0 1) (sym (nothing_is none ∙ if_false _ _ (ne_eqb _ _ char))) (same 0 1)
  row_told k code (row.f2 none char) = subst (Told 0 2) (sym (nothing_is none ∙ if_true _ _ (eq-eqb _ _ char))) (same 0 2)
  row_told k code (row.f2_inside from part encloses lt) = inside_told from part encloses lt
  row_told k code (row.f3 o) = subst (Told 0 3) (sym (at-string text o.opens ∙ if_false _ _ o.stays)) (same 0 3)
  row_told k code (row.f3_raw o) = subst (Told 0 3) (sym (at-raw text o.opens ∙ if_false _ _ o.stays)) (same 0 3)
  row_told k code (row.f4 o) = subst (Told 0 4) (sym (at-rune text o.opens ∙ if_false _ _ o.stays)) (same 0 4)
  row_told k code (row.f4_count c all other) = subst (Told 0 4) (sym (rune_is c)) (count_rune (inside (Quoted 39) text) all other)
  row_told k code (row.f5 base over n h e) = subst (Told 0 5) (sym (number_is base over n h)) (digits_told base over n 5 e (omega arith))
  row_told k code (row.f5_point e f) = subst (Told 0 5) (sym (at-point text e ∙ if_true _ _ (both_true (ap (λ b. b == 46) e) f))) (same 0 5)
  row_told k code (row.f6 base over n h e) = subst (Told 0 6) (sym (number_is base over n h)) (value_told base over n 6 (Bad 0 6) (omega arith) (same 0 6) (ap (λ v. int_step v (over + n)) e))
  row_told k code (row.f7 c lt) = subst (Told _ 7) (sym (string_is c)) (wrong_string (inside (Quoted 34) text) lt)
  row_told k code (row.f7_rune c lt) = subst (Told _ 7) (sym (rune_is c)) (wrong_rune (inside (Quoted 39) text) lt)
  row_told k code (row.f8 e f g) = subst (Told 0 8) (sym (at-general text e f ∙ if_false _ _ g)) (same 0 8)
  row_told k code (row.f9 base over n value h e le) = subst (Told 0 9) (sym (number_is base over n h)) (value_told base over n 9 (Bad 0 9) (omega arith) (same 0 9) (ap (λ v. int_step v (over + n)) e ∙ if_false _ _ (le-ltb _ _ le)))
