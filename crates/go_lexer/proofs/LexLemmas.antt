-- Lemmas on specs/Lexed.antt: a text piece by piece.
use Rattle.std.proofs.Common.{◌≡◌, ◌≤◌, ◌<◌, ◌+◌, ◌-◌, ℕ, zero, suc, List, [], ◌∷◌, length, drop, take, length-drop, refl, sym, ap, ◌∙◌, arith}
use Rattle.go_lexer.specs.Steps.{step_at, IsInside}
use Rattle.go_lexer.specs.declared.step.Step.{Step}
use Rattle.go_lexer.specs.declared.step.Step.TheVariants.{Token, Blank, Break, Build, Bad}
use Rattle.go_lexer.specs.declared.progress.Progress.{Progress}
use Rattle.go_lexer.specs.Tokens.{after_piece, size_of}
use Rattle.go_lexer.specs.Lexed.{Lexed, Faulty, lexed_from, after_token, after_newline, after_build, Took}
use Rattle.go_lexer.proofs.RunLemmas.{rest_at}
use Rattle.std.proofs.lemmas.List.{drop-drop}

-- what is passed over changes nothing
pub lexed_from-over : (p : Progress) (over at : ℕ) (text : List ℕ) → over ≤ length text → lexed_from p over at text ≡ lexed_from p 0 (at + over) (drop over text)
lexed_from-over p zero at text le = let e : at ≡ at + 0 = omega arith in ap (λ n. lexed_from p 0 n text) e
lexed_from-over p (suc over) at [] le = absurd (omega arith)
lexed_from-over p (suc over) at (b ∷ text) le =
    let h = lexed_from-over p over (suc at) text (omega arith) in
    let e : suc at + over ≡ at + suc over = omega arith in
    h ∙ ap (λ n. lexed_from p 0 n (drop over text)) e

-- what follows a step
abbrev taken : Progress → ℕ → ℕ → List ℕ → Step → Lexed
taken p at b text (Token kind width) = lexed_from (after_token kind width at (b ∷ text) p) (width - 1) (suc at) text
taken p at b text (Blank width) = lexed_from p (width - 1) (suc at) text
taken p at b text (Break width) = lexed_from (after_newline p) (width - 1) (suc at) text
taken p at b text (Build width) = lexed_from (after_build at p) (width - 1) (suc at) text
taken p at b text (Bad place code) = Faulty (at + place) code

-- the step is no fault
abbrev pub IsFine : Step → Type 0
IsFine (Bad place code) = ⊥
IsFine (Token kind width) = Unit {0}
IsFine (Blank width) = Unit {0}
IsFine (Break width) = Unit {0}
IsFine (Build width) = Unit {0}

fine : (p : Progress) (at b : ℕ) (text : List ℕ) (s : Step) → IsFine s → taken p at b text s ≡ lexed_from (after_piece at (b ∷ text) p s) (suc (size_of s - 1)) at (b ∷ text)
fine p at b text (Token kind width) h = refl
fine p at b text (Blank width) h = refl
fine p at b text (Break width) h = refl
fine p at b text (Build width) h = refl
fine p at b text (Bad place code) h = absurd h

-- one step that is no fault
pub lexed_from-step : (p : Progress) (at : ℕ) (text : List ℕ) (s : Step) → 0 < length text → step_at text ≡ s → IsFine s → lexed_from p 0 at text ≡ lexed_from (after_piece at text p s) (suc (size_of s - 1)) at text
lexed_from-step p at [] s some is h = absurd (omega arith)
lexed_from-step p at (b ∷ text) s some is h = ap (taken p at b text) is ∙ fine p at b text s h

-- a fault
pub lexed_from-Bad : (p : Progress) (at : ℕ) (text : List ℕ) (place code : ℕ) → 0 < length text → step_at text ≡ Bad place code → lexed_from p 0 at text ≡ Faulty (at + place) code
lexed_from-Bad p at [] place code some is = absurd (omega arith)
lexed_from-Bad p at (b ∷ text) place code some is = ap (taken p at b text) is

inside : (size : ℕ) (s : Step) → IsInside size s → size_of s ≤ size
inside size (Token kind width) h = h.0
inside size (Blank width) h = h
inside size (Break width) h = h
inside size (Build width) h = h
inside size (Bad place code) h = omega arith

-- what a step that is no fault leaves
pub took : (s : Step) (p new : Progress) (width over at file : ℕ) (text : List ℕ) → 0 < length text → step_at text ≡ s → IsFine s → IsInside (length text) s → new ≡ after_piece at text p s → width ≡ size_of s → over ≡ width - 1 → Took (1 + over) at text file p new
took s p new width over at file text some is h within after is_width is_over =
    let fits = inside (length text) s within in
    let e : suc (size_of s - 1) ≡ 1 + over = omega arith in
    record {
      same = lexed_from-step p at text s some is h ∙ ap (λ n. lexed_from (after_piece at text p s) n at text) e ∙ ap (λ q. lexed_from q (1 + over) at text) (sym after);
      some = omega arith;
      within = omega arith;
    }

-- one turn of the loop
pub lexed_from-turn : (answer : Lexed) (file at width : ℕ) (bytes : List ℕ) (old new : Progress) → at < length bytes → Took width at (take (length bytes - at) (drop at bytes)) file old new → answer ≡ lexed_from old 0 at (drop at bytes) → record { within : at + width ≤ length bytes; same : answer ≡ lexed_from new 0 (at + width) (drop (at + width) bytes) }
lexed_from-turn answer file at width bytes old new within t done =
    let rest = rest_at bytes at in
    let len : length (drop at bytes) ≡ length bytes - at = length-drop at bytes in
    let size : length (take (length bytes - at) (drop at bytes)) ≡ length (drop at bytes) = ap length rest in
    let fits : width ≤ length (drop at bytes) = omega (arith, t.within) in
    let first : lexed_from old 0 at (drop at bytes) ≡ lexed_from new width at (drop at bytes) = ap (lexed_from old 0 at) (sym rest) ∙ t.same ∙ ap (lexed_from new width at) rest in
    record {
      within = omega arith;
      same = done ∙ first ∙ lexed_from-over new width at (drop at bytes) fits ∙ ap (lexed_from new 0 (at + width)) (drop-drop width at bytes);
    }
