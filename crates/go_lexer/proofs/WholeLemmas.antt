-- The reading from left to right gives exactly the tokens of the text, or else its fault.
use Rattle.std.proofs.Common.{◌≡◌, ◌≤◌, ◌<◌, ◌+◌, ◌-◌, ◌++◌, ℕ, zero, suc, List, [], ◌∷◌, refl, sym, ap, ◌∙◌, arith, subst, length, take, drop, length-drop, inl, inr, ⊎_elim}
use Rattle.std.specs.Prelude.{◌==◌, ◌&&◌}
use Rattle.std.proofs.lemmas.Bool.{eqb-true}
use Rattle.std.proofs.lemmas.List.{length-take-le, take-append-drop}
use Rattle.go_syntax.specs.Token.{TokenList}
use Rattle.go_lexer.specs.Chars.{byte_at}
use Rattle.go_lexer.specs.Steps.{step_at}
use Rattle.go_lexer.specs.LexicalFault.{Row, IsAtMost, IsLeastRow, Encloses}
use Rattle.go_lexer.specs.LexicalFault as row
use Rattle.go_lexer.specs.Lexed.{Lexed, Found, Faulty, lexed, lexed_from, start_of, mark_width, Tells}
use Rattle.go_lexer.specs.Tokens.{size_of, IsNext, Splits, SplitsTo, after_piece, tokens_from, body_of, HasTokens, HasFault, TellsFault}
use Rattle.gj_base.specs.declared.fault.Refusal.{Refusal}
use Rattle.gj_base.specs.declared.fault.Refusal.TheVariants as refusal
use Rattle.go_lexer.specs.declared.step.Step.{Step}
use Rattle.go_lexer.specs.declared.step.Step.TheVariants.{Token, Blank, Break, Build, Bad}
use Rattle.go_lexer.specs.declared.progress.Progress.{Progress}
use Rattle.go_lexer.proofs.Choices.{and_parts, if_cases, decimal_bounds}
use Rattle.go_lexer.proofs.CharLemmas.{present}
use Rattle.go_lexer.proofs.LexLemmas.{IsFine, lexed_from-step, lexed_from-over, lexed_from-Bad}
use Rattle.go_lexer.proofs.RowLemmas.{Told, row_told}
use Rattle.go_lexer.proofs.ToldLemmas.{Explained, step_explained}
use Rattle.go_lexer.proofs.ExactLemmas.{step_stands, piece_exact, piece_longest}

-- a step that is no fault tells no row
fine_told : (k code : ℕ) (s : Step) → IsFine s → Told k code s → ⊥
fine_told k code (Bad place c) fine told = fine
fine_told k code (Token of width) fine told = told
fine_told k code (Blank width) fine told = told
fine_told k code (Break width) fine told = told
fine_told k code (Build width) fine told = told

-- where the step is no fault, the longest piece stands there and no row holds
is_next : (text : List ℕ) → 0 < length text → IsFine (step_at text) → IsNext text (step_at text)
is_next text long fine =
    let s = step_stands text long fine in
    record {
      some = s.some;
      within = s.within;
      piece = s.piece;
      longest = λ n other le piece.
          let back = take-append-drop n text in
          let len = length-take-le n text le in
          let whole : step_at (take n text ++ drop n text) ≡ step_at text = ap step_at back in
          let most = piece_longest (take n text) (drop n text) other piece (subst IsFine (sym whole) fine) in
          let size : size_of (step_at (take n text ++ drop n text)) ≡ size_of (step_at text) = ap size_of whole in
          omega arith;
      no_fault = λ k code r. fine_told k code (step_at text) fine (row_told text k code r);
    }

-- where the step is a fault, it is the least row
is_least : (text : List ℕ) (k code : ℕ) → 0 < length text → step_at text ≡ Bad k code → IsLeastRow text k code
is_least text k code long is = record {
  holds = subst (Explained text) is (step_explained text long);
  least = λ k' code' r. subst (Told k' code') is (row_told text k' code' r);
}

-- a text splits in front of a fault
pub record Stops (text : List ℕ) (at offset code : ℕ) : Type 0 where
  pub sorts : List Step
  pub rest : List ℕ
  pub splits : SplitsTo sorts text rest
  pub place : ℕ
  pub row : IsLeastRow rest place code
  pub offset_is : offset + length rest ≡ at + length text + place

-- what an answer says of the text from this offset on
abbrev Says : Progress → ℕ → List ℕ → Lexed → Type 0
Says p at text (Found tokens) = (sorts : List Step) × (Splits sorts text × (tokens ≡ tokens_from p at sorts text))
Says p at text (Faulty offset code) = Stops text at offset code

-- one piece more in front
more : (p : Progress) (at : ℕ) (text : List ℕ) (s : Step) (answer : Lexed) → IsNext text s → Says (after_piece at text p s) (at + size_of s) (drop (size_of s) text) answer → Says p at text answer
more p at text s (Found tokens) next says = (s ∷ says.0, ((next, says.1.0), says.1.1))
more p at text s (Faulty offset code) next stops =
    let len = length-drop (size_of s) text in
    let within = next.within in
    record { sorts = s ∷ stops.sorts; rest = stops.rest; splits = (next, stops.splits); place = stops.place; row = stops.row; offset_is = let e = stops.offset_is in omega arith }

-- each answer says what it should
says : (k : ℕ) (p : Progress) (at : ℕ) (text : List ℕ) → length text ≤ k → Says p at text (lexed_from p 0 at text)
says k p at [] le = ([], (refl, refl))
says zero p at (b ∷ text) le = absurd (omega arith)
says (suc k) p at (b ∷ text) le = by (step_at (b ∷ text)) refl (λ q m n lt. says k q m (drop n (b ∷ text)) (let h = length-drop n (b ∷ text) in omega arith)) where
  fine : (s : Step) → step_at (b ∷ text) ≡ s → IsFine s → ((q : Progress) (m n : ℕ) → 0 < n → Says q m (drop n (b ∷ text)) (lexed_from q 0 m (drop n (b ∷ text)))) → Says p at (b ∷ text) (lexed_from p 0 at (b ∷ text))
  fine s is h rest =
      let next : IsNext (b ∷ text) s = subst (IsNext (b ∷ text)) is (is_next (b ∷ text) (omega arith) (subst IsFine (sym is) h)) in
      let width : suc (size_of s - 1) ≡ size_of s = omega (arith, next.some) in
      let e : lexed_from p 0 at (b ∷ text) ≡ lexed_from (after_piece at (b ∷ text) p s) 0 (at + size_of s) (drop (size_of s) (b ∷ text)) =
      lexed_from-step p at (b ∷ text) s (omega arith) is h
      ∙ ap (λ n. lexed_from (after_piece at (b ∷ text) p s) n at (b ∷ text)) width
      ∙ lexed_from-over (after_piece at (b ∷ text) p s) (size_of s) at (b ∷ text) next.within in
      subst (Says p at (b ∷ text)) (sym e) (more p at (b ∷ text) s _ next (rest (after_piece at (b ∷ text) p s) (at + size_of s) (size_of s) next.some))

  by : (s : Step) → step_at (b ∷ text) ≡ s → ((q : Progress) (m n : ℕ) → 0 < n → Says q m (drop n (b ∷ text)) (lexed_from q 0 m (drop n (b ∷ text)))) → Says p at (b ∷ text) (lexed_from p 0 at (b ∷ text))
  by (Bad place code) is rest =
      subst (Says p at (b ∷ text)) (sym (lexed_from-Bad p at (b ∷ text) place code (omega arith) is))
      (record { sorts = []; rest = b ∷ text; splits = refl; place = place; row = is_least (b ∷ text) place code (omega arith) is; offset_is = omega arith })
  by (Token of width) is rest = fine (Token of width) is tt rest
  by (Blank width) is rest = fine (Blank width) is tt rest
  by (Break width) is rest = fine (Break width) is tt rest
  by (Build width) is rest = fine (Build width) is tt rest

-- one sort only is next
next_unique : (text : List ℕ) (s t : Step) → IsNext text s → IsNext text t → s ≡ t
next_unique text s t a b =
    let le = b.longest (size_of s) s a.within a.piece in
    let ge = a.longest (size_of t) t b.within b.piece in
    let same : size_of s ≡ size_of t = omega arith in
    sym (piece_exact (take (size_of s) text) s a.piece) ∙ ap (λ n. step_at (take n text)) same ∙ piece_exact (take (size_of t) text) t b.piece

-- a row holds of some bytes only
row_some : (text : List ℕ) (k code : ℕ) → Row text k code → 0 < length text
row_some text k code (row.f1 n c) = n.some
row_some text k code (row.f2 n c) = n.some
row_some text k code (row.f2_inside from part e lt) = enclosed from part e where
  enclosed : (from : ℕ) (part : List ℕ) → Encloses text from part → 0 < length text
  enclosed from part (row.in_string c) = present text 0 (let e = c.opens in omega arith)
  enclosed from part (row.in_rune c) = present text 0 (let e = c.opens in omega arith)
  enclosed from part (row.in_raw c) = present text 0 (let e = c.opens in omega arith)
  enclosed from part (row.in_line e f) = present text 0 (omega arith)
  enclosed from part (row.in_general e f g) = present text 0 (omega arith)
row_some text k code (row.f3 o) = present text 0 (let e = o.opens in omega arith)
row_some text k code (row.f3_raw o) = present text 0 (let e = o.opens in omega arith)
row_some text k code (row.f4 o) = present text 0 (let e = o.opens in omega arith)
row_some text k code (row.f4_count c all other) = present text 0 (let e = c.opens in omega arith)
row_some text k code (row.f5 base over n h e) = present text 0 (let d = decimal_bounds (byte_at text 0) h.digit in omega arith)
row_some text k code (row.f5_point e f) = present text 0 (omega arith)
row_some text k code (row.f6 base over n h e) = present text 0 (let d = decimal_bounds (byte_at text 0) h.digit in omega arith)
row_some text k code (row.f7 c lt) = present text 0 (let e = c.opens in omega arith)
row_some text k code (row.f7_rune c lt) = present text 0 (let e = c.opens in omega arith)
row_some text k code (row.f8 e f g) = present text 0 (omega arith)
row_some text k code (row.f9 base over n v h e le) = present text 0 (let d = decimal_bounds (byte_at text 0) h.digit in omega arith)

-- two splittings of a text are one
splits_unique : (ss ts : List Step) (text : List ℕ) → Splits ss text → Splits ts text → ss ≡ ts
splits_unique [] [] text a b = refl
splits_unique [] (t ∷ ts) text a b = absurd (let e = ap length a in omega (arith, b.0.some, b.0.within))
splits_unique (s ∷ ss) [] text a b = absurd (let e = ap length b in omega (arith, a.0.some, a.0.within))
splits_unique (s ∷ ss) (t ∷ ts) text a b =
    let e = next_unique text s t a.0 b.0 in
    let h = splits_unique ss ts (drop (size_of s) text) a.1 (subst (λ n. Splits ts (drop n text)) (ap size_of (sym e)) b.1) in
    ap (λ x. x ∷ ss) e ∙ ap (λ x. t ∷ x) h

-- two splittings in front of a fault are one
stops_unique : (ss ts : List Step) (text rest rest' : List ℕ) (k code k' code' : ℕ) → SplitsTo ss text rest → Row rest k code → SplitsTo ts text rest' → Row rest' k' code' → rest ≡ rest'
stops_unique [] [] text rest rest' k code k' code' a r b r' = sym a ∙ b
stops_unique [] (t ∷ ts) text rest rest' k code k' code' a r b r' = absurd (b.0.no_fault k code (subst (λ x. Row x k code) (sym a) r))
stops_unique (s ∷ ss) [] text rest rest' k code k' code' a r b r' = absurd (a.0.no_fault k' code' (subst (λ x. Row x k' code') (sym b) r'))
stops_unique (s ∷ ss) (t ∷ ts) text rest rest' k code k' code' a r b r' =
    let e = next_unique text s t a.0 b.0 in
    stops_unique ss ts (drop (size_of s) text) rest rest' k code k' code' a.1 r (subst (λ n. SplitsTo ts (drop n text) rest') (ap size_of (sym e)) b.1) r'

-- a text that splits has no fault
no_stop : (ss ts : List Step) (text rest : List ℕ) (k code : ℕ) → Splits ss text → SplitsTo ts text rest → Row rest k code → ⊥
no_stop [] [] text rest k code a b r = let some = row_some rest k code r in let e = ap length (sym b ∙ a) in omega arith
no_stop [] (t ∷ ts) text rest k code a b r = let e = ap length a in omega (arith, b.0.some, b.0.within)
no_stop (s ∷ ss) [] text rest k code a b r = a.0.no_fault k code (subst (λ x. Row x k code) (sym b) r)
no_stop (s ∷ ss) (t ∷ ts) text rest k code a b r =
    let e = next_unique text s t a.0 b.0 in
    no_stop ss ts (drop (size_of s) text) rest k code a.1 (subst (λ n. SplitsTo ts (drop n text) rest) (ap size_of (sym e)) b.1) r

-- the mark lies within the text
mark_within : (text : List ℕ) → mark_width text ≤ length text
unfolding mark_width
mark_within text =
    if_cases (byte_at text 0 == 0xEF && byte_at text 1 == 0xBB && byte_at text 2 == 0xBF) (λ n. n ≤ length text) 3 0
    (λ e. let p = and_parts (byte_at text 0 == 0xEF && byte_at text 1 == 0xBB) (byte_at text 2 == 0xBF) e in let last = eqb-true (byte_at text 2) 0xBF p.1 in let h = present text 2 (omega arith) in omega arith)
    (λ _. omega arith)

module _ (file : ℕ) (text : List ℕ) where
  lexed_is : lexed file text ≡ lexed_from (start_of file) 0 (mark_width text) (body_of text)
  unfolding lexed
  lexed_is = lexed_from-over (start_of file) (mark_width text) 0 text (mark_within text) ∙ ap (λ n. lexed_from (start_of file) 0 n (body_of text)) (omega arith)

  said : Says (start_of file) (mark_width text) (body_of text) (lexed file text)
  said = subst (Says (start_of file) (mark_width text) (body_of text)) (sym lexed_is) (says (length (body_of text)) (start_of file) (mark_width text) (body_of text) (omega arith))

  -- what is found are the tokens of the text
  pub found : (tokens : TokenList) → lexed file text ≡ Found tokens → HasTokens file text tokens
  found tokens is =
      let h = subst (Says (start_of file) (mark_width text) (body_of text)) is said in
      record {
        are = record { sorts = h.0; splits = h.1.0; are = h.1.1 };
        only = λ others o.
            let same = splits_unique o.sorts h.0 (body_of text) o.splits h.1.0 in
            o.are ∙ ap (λ sorts. tokens_from (start_of file) (mark_width text) sorts (body_of text)) same ∙ sym h.1.1;
      }

  -- what is told is the fault of the text
  pub faulty : (offset code : ℕ) → lexed file text ≡ Faulty offset code → HasFault text offset code
  faulty offset code is =
      let h = subst (Says (start_of file) (mark_width text) (body_of text)) is said in
      let len = length-drop (mark_width text) text in
      let within = mark_within text in
      let e = h.offset_is in
      let offset_is : offset + length h.rest ≡ length text + h.place = omega arith in
      record {
        is = record {
          holds = record { sorts = h.sorts; rest = h.rest; splits = h.splits; place = h.place; row = h.row.holds; offset_is = offset_is };
          least = λ offset' code' o.
              let same = stops_unique h.sorts o.sorts (body_of text) h.rest o.rest h.place code o.place code' h.splits h.row.holds o.splits o.row in
              let size : length h.rest ≡ length o.rest = ap length same in
              let f = o.offset_is in
              ⊎_elim (λ lt. inl (omega arith)) (λ p. let q = p.0 in inr (omega arith, p.1)) (h.row.least o.place code' (subst (λ x. Row x o.place code') (sym same) o.row));
        };
        none = λ file' tokens a. no_stop a.sorts h.sorts (body_of text) h.rest h.place code a.splits h.splits h.row.holds;
      }

  -- a refusal tells the fault of the text
  pub told : (e : Refusal) → Tells e file (lexed file text) → TellsFault e file text
  told (refusal.Fault fault) t = (t.0, t.1, faulty fault.place.offset fault.code t.2)
  told refusal.NoMemory t = tt
