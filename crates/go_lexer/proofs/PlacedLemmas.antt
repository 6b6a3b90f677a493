-- Lemmas on specs/Placed.antt: what a piece keeps.
use Rattle.std.proofs.Common.{◌≡◌, ◌≤◌, ◌<◌, ◌+◌, ◌-◌, ◌++◌, ℕ, suc, List, [], ◌∷◌, length, Option, Some, None, refl, sym, arith, subst, inl, inr, ⊎_elim}
use Rattle.std.proofs.str.Laws.{order}
use Rattle.std.specs.Prelude.{◌≢◌, All, IfSome, Bool, true, false, if◌then◌else◌, ◌==◌}
use Rattle.std.proofs.lemmas.List.Elements.{All-push}
use Rattle.gj_base.specs.declared.place.Place.{Place}
use Rattle.go_syntax.specs.Token as tok
use Rattle.go_syntax.specs.Token.{TokenList, Rise, Follows, AreEnded, ArePlaced, StandsIn, token, with_token}
use Rattle.go_syntax.specs.declared.kind.TokenKind.{TokenKind}
use Rattle.go_syntax.specs.declared.kind.TokenKind.TheVariants as kind
use Rattle.go_lexer.specs.declared.progress.Progress.{Progress}
use Rattle.go_lexer.specs.Lexed.{after_token, after_newline, after_build, after_end, with_auto, with_constraint, passed, ends_line}
use Rattle.go_lexer.specs.Placed.{IsBefore, IsPlaced}
use Rattle.go_lexer.specs.Steps.{IsInside}
use Rattle.go_lexer.specs.declared.step.Step.{Step}
use Rattle.go_lexer.specs.declared.step.Step.TheVariants.{Token, Blank, Break, Build, Bad}
use Rattle.go_lexer.proofs.LexLemmas.{IsFine}
use Rattle.go_lexer.specs.Tokens.{after_piece, size_of}

-- a token after all others
pub Rise-push : (file at : ℕ) (ts : List tok.Token) (t : tok.Token) → Rise ts → All (IsBefore file at) ts → at ≤ t.place.offset → Rise (ts ++ t ∷ [])
Rise-push file at [] t rise before le = tt
Rise-push file at (u ∷ []) t rise before le = (inl (let h = before 0 u (omega arith) in omega (arith, h.1)), tt)
Rise-push file at (u ∷ v ∷ ts) t rise before le = (rise.0, Rise-push file at (v ∷ ts) t rise.1 (λ k d lt. before (suc k) d (omega arith)) le)

-- what stands before an offset stands before a later one
later : (file at to : ℕ) (ts : List tok.Token) → at ≤ to → All (IsBefore file at) ts → All (IsBefore file to) ts
later file at to ts le before k d lt = let h = before k d lt in (h.0, omega (arith, h.1), h.2)

-- nothing but the offset changes
pub IsPlaced-later : (file at to : ℕ) (p : Progress) → at ≤ to → IsPlaced file at p → IsPlaced file to p
IsPlaced-later file at to p le h = record {
  file_is = h.file_is;
  before = later file at to p.tokens.tokens le h.before;
  rise = h.rise;
  due_is = due p.due h.due_is;
} where
  due : (o : Option ℕ) → IfSome o (λ place. (place ≤ at) × All (IsBefore file place) p.tokens.tokens) → IfSome o (λ place. (place ≤ to) × All (IsBefore file place) p.tokens.tokens)
  due None d = d
  due (Some place) d = (omega (arith, d.0), d.1)

module _ (file at : ℕ) (p : Progress) (h : IsPlaced file at p) where
  -- a token
  pub IsPlaced-token : (of : TokenKind) (width : ℕ) (text : List ℕ) → of ≢ kind.End → IsPlaced file (at + passed width) (after_token of width at text p)
  unfolding after_token
  IsPlaced-token of width text no_end =
      let to = at + passed width in
      let more : at < to = omega arith in
      let before : All (IsBefore file to) (after_token of width at text p).tokens.tokens = All-push (IsBefore file to) p.tokens.tokens _ (later file at to p.tokens.tokens (omega arith) h.before) (h.file_is, more, no_end) in
      record {
        file_is = h.file_is;
        before = before;
        rise = Rise-push file at p.tokens.tokens _ h.rise h.before (omega arith);
        due_is = due to before (ends_line of);
      } where
        due : (to : ℕ) → All (IsBefore file to) (after_token of width at text p).tokens.tokens → (b : Bool) → IfSome (if b then Some to else None) (λ place. (place ≤ to) × All (IsBefore file place) (after_token of width at text p).tokens.tokens)
        due to before true = (omega arith, before)
        due to before false = tt

  -- a line's end
  pub IsPlaced-newline : (to : ℕ) → at < to → IsPlaced file to (after_newline p)
  unfolding after_newline
  IsPlaced-newline to more = cases p.due h.due_is where
    cases : (o : Option ℕ) → IfSome o (λ place. (place ≤ at) × All (IsBefore file place) p.tokens.tokens) → IsPlaced file to (with_auto o p)
    cases None d = IsPlaced-later file at to p (omega arith) h
    cases (Some place) d = record {
      file_is = h.file_is;
      before = All-push (IsBefore file to) p.tokens.tokens _ (later file at to p.tokens.tokens (omega arith) h.before) (h.file_is, omega (arith, d.0), λ e. cc);
      rise = Rise-push file place p.tokens.tokens _ h.rise d.1 (omega arith);
      due_is = tt;
    }

  -- a build constraint
  pub IsPlaced-build : (place to : ℕ) → at ≤ to → IsPlaced file to (after_build place p)
  unfolding after_build
  IsPlaced-build place to le = cases (length p.tokens.tokens == 0) p.tokens.constraint where
    cases : (b : Bool) (o : Option Place) → IsPlaced file to (with_constraint b o place p)
    cases true None = record { file_is = h.file_is; before = (IsPlaced-later file at to p le h).before; rise = h.rise; due_is = (IsPlaced-later file at to p le h).due_is }
    cases true (Some c) = IsPlaced-later file at to p le h
    cases false None = IsPlaced-later file at to p le h
    cases false (Some c) = IsPlaced-later file at to p le h

-- one more token that may follow the last one
Rise-more : (ts : List tok.Token) (t u : tok.Token) → Rise (ts ++ t ∷ []) → Follows t u → Rise ((ts ++ t ∷ []) ++ u ∷ [])
Rise-more [] t u rise f = (f, tt)
Rise-more (v ∷ []) t u rise f = (rise.0, (f, tt))
Rise-more (v ∷ w ∷ ts) t u rise f = (rise.0, Rise-more (w ∷ ts) t u rise.1 f)

-- an end after tokens that are none
AreEnded-push : (ts : List tok.Token) (t : tok.Token) → All (λ (u : tok.Token). u.kind ≢ kind.End) ts → t.kind ≡ kind.End → AreEnded (ts ++ t ∷ [])
AreEnded-push [] t no_end is = is
AreEnded-push (u ∷ []) t no_end is = (no_end 0 u (omega arith), is)
AreEnded-push (u ∷ v ∷ ts) t no_end is = (no_end 0 u (omega arith), AreEnded-push (v ∷ ts) t (λ k d lt. no_end (suc k) d (omega arith)) is)

-- what stands before an offset stands in a file of that length
stands : (file at : ℕ) (ts : List tok.Token) → All (IsBefore file at) ts → All (StandsIn file at) ts
stands file at ts before k d lt = let h = before k d lt in (h.0, omega (arith, h.1))

-- an end may follow an automatic semicolon
follows : (file place at : ℕ) → place ≤ at → Follows (token file kind.Auto place []) (token file kind.End at [])
follows file place at le = ⊎_elim (λ less. inl less) (λ past. inr (refl, refl, omega arith)) (order place at)

module _ (file at : ℕ) (p : Progress) (h : IsPlaced file at p) where
  -- the text's end
  pub ArePlaced-end : ArePlaced file at (after_end at p).tokens
  unfolding after_end after_newline
  ArePlaced-end = cases p.due h.due_is where
    cases : (o : Option ℕ) → IfSome o (λ place. (place ≤ at) × All (IsBefore file place) p.tokens.tokens) → ArePlaced file at (with_token (with_auto o p).tokens kind.End at []).tokens
    cases None d = record {
      inside = All-push (StandsIn file at) p.tokens.tokens _ (stands file at p.tokens.tokens h.before) (h.file_is, omega arith);
      rise = Rise-push file at p.tokens.tokens _ h.rise h.before (omega arith);
      ended = AreEnded-push p.tokens.tokens _ (λ k e lt. (h.before k e lt).2) refl;
    }
    cases (Some place) d =
        record {
          inside = All-push (StandsIn file at) (p.tokens.tokens ++ token p.tokens.file kind.Auto place [] ∷ []) _ (All-push (StandsIn file at) p.tokens.tokens _ (stands file at p.tokens.tokens h.before) (h.file_is, d.0)) (h.file_is, omega arith);
          rise = Rise-more p.tokens.tokens _ _ (Rise-push file place p.tokens.tokens _ h.rise d.1 (omega arith)) (follows p.tokens.file place at d.0);
          ended = AreEnded-push (p.tokens.tokens ++ token p.tokens.file kind.Auto place [] ∷ []) _ (All-push (λ (u : tok.Token). u.kind ≢ kind.End) p.tokens.tokens _ (λ k e lt. (h.before k e lt).2) (λ e. cc)) refl;
        }

-- what a step that is no fault keeps
pub IsPlaced-step : (s : Step) (p new : Progress) (file at size width over : ℕ) (text : List ℕ) → IsFine s → IsInside size s → new ≡ after_piece at text p s → width ≡ size_of s → over ≡ width - 1 → IsPlaced file at p → IsPlaced file (at + (1 + over)) new
IsPlaced-step s p new file at size width over text fine within after is_width is_over h =
    let to : at + passed (size_of s) ≡ at + (1 + over) = omega arith in
    subst (λ q. IsPlaced file (at + (1 + over)) q) (sym after) (subst (λ n. IsPlaced file n (after_piece at text p s)) to (placed s fine within))
  where
    placed : (s : Step) → IsFine s → IsInside size s → IsPlaced file (at + passed (size_of s)) (after_piece at text p s)
    placed (Token of w) fine within = IsPlaced-token file at p h of w text within.1
    placed (Blank w) fine within = IsPlaced-later file at (at + passed w) p (omega arith) h
    placed (Break w) fine within = IsPlaced-newline file at p h (at + passed w) (omega arith)
    placed (Build w) fine within = IsPlaced-build file at p h at (at + passed w) (omega arith)
    placed (Bad place code) fine within = absurd fine

-- no token
pub IsPlaced-start : (file at : ℕ) → IsPlaced file at (record { tokens = record { file = file; tokens = []; constraint = None }; due = None })
IsPlaced-start file at = record { file_is = refl; before = λ k d lt. absurd (omega arith); rise = tt; due_is = tt }
