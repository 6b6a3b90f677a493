-- Lemmas on specs/Texts.antt.
use Rattle.std.proofs.Common.{◌≡◌, ◌<◌, ◌+◌, ◌-◌, ◌++◌, ℕ, zero, suc, List, [], ◌∷◌, length, drop, Some, refl, sym, ap, ◌∙◌, arith, append_assoc, subst, length-drop}
use Rattle.std.specs.Prelude.{◌==◌, cond, None, Option}
use Rattle.std.proofs.lemmas.List.{drop-drop}
use Rattle.go_lexer.specs.Chars.{byte_at}
use Rattle.go_lexer.specs.Escapes.{escape_at}
use Rattle.go_lexer.specs.declared.escape.Escape.{Escape}
use Rattle.go_lexer.specs.Texts.{string_from, bytes_of}

-- what is passed over is nothing
pub string_from-over : (over : ℕ) (text : List ℕ) → string_from over text ≡ string_from 0 (drop over text)
string_from-over zero text = refl
string_from-over (suc over) [] = refl
string_from-over (suc over) (b ∷ text) = string_from-over over text

-- an escape and what follows it
string_from-escape : (text : List ℕ) (e : Escape) → 0 < length text → byte_at text 0 ≡ 92 → escape_at 34 text ≡ Some e → 0 < e.width → string_from 0 text ≡ bytes_of e ++ string_from 0 (drop e.width text)
string_from-escape [] e some begins is width = absurd (omega arith)
string_from-escape (b ∷ text) e some begins is width =
    let f : Option Escape → List ℕ = λ o. elim o [ None ↦ string_from 0 text | Some e ↦ bytes_of e ++ string_from (e.width - 1) text ] in
    let pred : e.width ≡ suc (e.width - 1) = omega arith in
    ap (λ n. cond (n == 92) (f (escape_at 34 (n ∷ text))) (n ∷ string_from 0 text)) begins
    ∙ ap f (subst (λ (n : ℕ). escape_at 34 (n ∷ text) ≡ Some e) begins is)
    ∙ ap (λ s. bytes_of e ++ s) (string_from-over (e.width - 1) text ∙ ap (λ n. string_from 0 (drop n (b ∷ text))) (sym pred))

-- one turn of the loop over a string literal, at an escape
pub string_from-turn : (body : List ℕ) (n : ℕ) (old new : List ℕ) (e : Escape) → n < length body → byte_at (drop n body) 0 ≡ 92 → escape_at 34 (drop n body) ≡ Some e → 0 < e.width → string_from 0 body ≡ old ++ string_from 0 (drop n body) → new ≡ old ++ bytes_of e → string_from 0 body ≡ new ++ string_from 0 (drop (n + e.width) body)
string_from-turn body n old new e within begins is width done more =
    let len = length-drop n body in
    done
    ∙ ap (λ s. old ++ s) (string_from-escape (drop n body) e (omega arith) begins is width)
    ∙ sym (append_assoc old (bytes_of e) (string_from 0 (drop e.width (drop n body))))
    ∙ ap (λ s. s ++ string_from 0 (drop e.width (drop n body))) (sym more)
    ∙ ap (λ t. new ++ string_from 0 t) (drop-drop e.width n body)
