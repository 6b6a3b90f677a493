-- The operator that three bytes begin with is spelled by them, and stands at the front of the text.
use Rattle.std.proofs.Common.{◌≡◌, ◌≤◌, ◌<◌, ℕ, List, [], ◌∷◌, refl, sym, ap, ◌∙◌, arith, subst, Some, None, Option, length, take}
use Rattle.std.specs.Prelude.{◌==◌, ◌&&◌}
use Rattle.std.proofs.lemmas.Bool.{eqb-true}
use Rattle.go_syntax.specs.Spelling.{operator_text}
use Rattle.go_syntax.specs.declared.operator.Operator.{Operator}
use Rattle.go_syntax.specs.declared.operator.Operator.TheVariants as op
use Rattle.go_syntax.specs.declared.kind.TokenKind.TheVariants as kind
use Rattle.go_lexer.specs.Chars.{byte_at}
use Rattle.go_lexer.specs.Operators.{operator_of, punctuation}
use Rattle.go_lexer.specs.Operators as ops
use Rattle.go_lexer.specs.Pieces as piece
use Rattle.go_lexer.specs.declared.step.Step.TheVariants.{Token}
use Rattle.go_lexer.proofs.Choices.{if_cases, and_parts}
use Rattle.go_lexer.proofs.PieceLemmas.{StandsAs}

-- the operator is spelled by the first of these bytes
pub record IsSpelled (a b c : ℕ) (o : Operator) : Type 0 where
  pub is : operator_text o ≡ take (length (operator_text o)) (a ∷ b ∷ c ∷ [])

abbrev pub MaybeSpelled : ℕ → ℕ → ℕ → Option Operator → Type 0
MaybeSpelled a b c None = Unit {0}
MaybeSpelled a b c (Some o) = IsSpelled a b c o

spelled : (a b c : ℕ) (o : Operator) → operator_text o ≡ take (length (operator_text o)) (a ∷ b ∷ c ∷ []) → IsSpelled a b c o
spelled a b c o e = record { is = e }

plus_spelled : (b c : ℕ) → IsSpelled 43 b c (ops.plus b)
plus_spelled b c =
    if_cases (b == 61) (IsSpelled 43 b c) _ _ (λ e. subst (λ (x : ℕ). IsSpelled 43 x c op.AddAssign) (sym (eqb-true b 61 e)) (spelled 43 61 c op.AddAssign refl))
    (λ _. if_cases (b == 43) (IsSpelled 43 b c) _ _ (λ e. subst (λ (x : ℕ). IsSpelled 43 x c op.Increment) (sym (eqb-true b 43 e)) (spelled 43 43 c op.Increment refl))
    (λ _. spelled 43 b c op.Add refl))

minus_spelled : (b c : ℕ) → IsSpelled 45 b c (ops.minus b)
minus_spelled b c =
    if_cases (b == 61) (IsSpelled 45 b c) _ _ (λ e. subst (λ (x : ℕ). IsSpelled 45 x c op.SubAssign) (sym (eqb-true b 61 e)) (spelled 45 61 c op.SubAssign refl))
    (λ _. if_cases (b == 45) (IsSpelled 45 b c) _ _ (λ e. subst (λ (x : ℕ). IsSpelled 45 x c op.Decrement) (sym (eqb-true b 45 e)) (spelled 45 45 c op.Decrement refl))
    (λ _. spelled 45 b c op.Sub refl))

star_spelled : (b c : ℕ) → IsSpelled 42 b c (ops.star b)
star_spelled b c =
    if_cases (b == 61) (IsSpelled 42 b c) _ _ (λ e. subst (λ (x : ℕ). IsSpelled 42 x c op.MulAssign) (sym (eqb-true b 61 e)) (spelled 42 61 c op.MulAssign refl))
    (λ _. spelled 42 b c op.Mul refl)

slash_spelled : (b c : ℕ) → IsSpelled 47 b c (ops.slash b)
slash_spelled b c =
    if_cases (b == 61) (IsSpelled 47 b c) _ _ (λ e. subst (λ (x : ℕ). IsSpelled 47 x c op.DivAssign) (sym (eqb-true b 61 e)) (spelled 47 61 c op.DivAssign refl))
    (λ _. spelled 47 b c op.Div refl)

percent_spelled : (b c : ℕ) → IsSpelled 37 b c (ops.percent b)
percent_spelled b c =
    if_cases (b == 61) (IsSpelled 37 b c) _ _ (λ e. subst (λ (x : ℕ). IsSpelled 37 x c op.RemAssign) (sym (eqb-true b 61 e)) (spelled 37 61 c op.RemAssign refl))
    (λ _. spelled 37 b c op.Rem refl)

ampersand_spelled : (b c : ℕ) → IsSpelled 38 b c (ops.ampersand b c)
ampersand_spelled b c =
    if_cases (b == 94) (IsSpelled 38 b c) _ _ (λ e. if_cases (c == 61) (IsSpelled 38 b c) _ _ (λ f. subst (λ (x : ℕ). IsSpelled 38 x c op.AndNotAssign) (sym (eqb-true b 94 e)) (subst (λ (y : ℕ). IsSpelled 38 94 y op.AndNotAssign) (sym (eqb-true c 61 f)) (spelled 38 94 61 op.AndNotAssign refl))) (λ _. subst (λ (x : ℕ). IsSpelled 38 x c op.AndNot) (sym (eqb-true b 94 e)) (spelled 38 94 c op.AndNot refl)))
    (λ _. if_cases (b == 61) (IsSpelled 38 b c) _ _ (λ e. subst (λ (x : ℕ). IsSpelled 38 x c op.AndAssign) (sym (eqb-true b 61 e)) (spelled 38 61 c op.AndAssign refl))
    (λ _. if_cases (b == 38) (IsSpelled 38 b c) _ _ (λ e. subst (λ (x : ℕ). IsSpelled 38 x c op.AndThen) (sym (eqb-true b 38 e)) (spelled 38 38 c op.AndThen refl))
    (λ _. spelled 38 b c op.And refl)))

bar_spelled : (b c : ℕ) → IsSpelled 124 b c (ops.bar b)
bar_spelled b c =
    if_cases (b == 61) (IsSpelled 124 b c) _ _ (λ e. subst (λ (x : ℕ). IsSpelled 124 x c op.OrAssign) (sym (eqb-true b 61 e)) (spelled 124 61 c op.OrAssign refl))
    (λ _. if_cases (b == 124) (IsSpelled 124 b c) _ _ (λ e. subst (λ (x : ℕ). IsSpelled 124 x c op.OrElse) (sym (eqb-true b 124 e)) (spelled 124 124 c op.OrElse refl))
    (λ _. spelled 124 b c op.Or refl))

caret_spelled : (b c : ℕ) → IsSpelled 94 b c (ops.caret b)
caret_spelled b c =
    if_cases (b == 61) (IsSpelled 94 b c) _ _ (λ e. subst (λ (x : ℕ). IsSpelled 94 x c op.XorAssign) (sym (eqb-true b 61 e)) (spelled 94 61 c op.XorAssign refl))
    (λ _. spelled 94 b c op.Xor refl)

less_spelled : (b c : ℕ) → IsSpelled 60 b c (ops.less b c)
less_spelled b c =
    if_cases (b == 60) (IsSpelled 60 b c) _ _ (λ e. if_cases (c == 61) (IsSpelled 60 b c) _ _ (λ f. subst (λ (x : ℕ). IsSpelled 60 x c op.ShlAssign) (sym (eqb-true b 60 e)) (subst (λ (y : ℕ). IsSpelled 60 60 y op.ShlAssign) (sym (eqb-true c 61 f)) (spelled 60 60 61 op.ShlAssign refl))) (λ _. subst (λ (x : ℕ). IsSpelled 60 x c op.Shl) (sym (eqb-true b 60 e)) (spelled 60 60 c op.Shl refl)))
    (λ _. if_cases (b == 45) (IsSpelled 60 b c) _ _ (λ e. subst (λ (x : ℕ). IsSpelled 60 x c op.Arrow) (sym (eqb-true b 45 e)) (spelled 60 45 c op.Arrow refl))
    (λ _. if_cases (b == 61) (IsSpelled 60 b c) _ _ (λ e. subst (λ (x : ℕ). IsSpelled 60 x c op.Le) (sym (eqb-true b 61 e)) (spelled 60 61 c op.Le refl))
    (λ _. spelled 60 b c op.Lt refl)))

greater_spelled : (b c : ℕ) → IsSpelled 62 b c (ops.greater b c)
greater_spelled b c =
    if_cases (b == 62) (IsSpelled 62 b c) _ _ (λ e. if_cases (c == 61) (IsSpelled 62 b c) _ _ (λ f. subst (λ (x : ℕ). IsSpelled 62 x c op.ShrAssign) (sym (eqb-true b 62 e)) (subst (λ (y : ℕ). IsSpelled 62 62 y op.ShrAssign) (sym (eqb-true c 61 f)) (spelled 62 62 61 op.ShrAssign refl))) (λ _. subst (λ (x : ℕ). IsSpelled 62 x c op.Shr) (sym (eqb-true b 62 e)) (spelled 62 62 c op.Shr refl)))
    (λ _. if_cases (b == 61) (IsSpelled 62 b c) _ _ (λ e. subst (λ (x : ℕ). IsSpelled 62 x c op.Ge) (sym (eqb-true b 61 e)) (spelled 62 61 c op.Ge refl))
    (λ _. spelled 62 b c op.Gt refl))

equals_spelled : (b c : ℕ) → IsSpelled 61 b c (ops.equals b)
equals_spelled b c =
    if_cases (b == 61) (IsSpelled 61 b c) _ _ (λ e. subst (λ (x : ℕ). IsSpelled 61 x c op.Eq) (sym (eqb-true b 61 e)) (spelled 61 61 c op.Eq refl))
    (λ _. spelled 61 b c op.Assign refl)

bang_spelled : (b c : ℕ) → IsSpelled 33 b c (ops.bang b)
bang_spelled b c =
    if_cases (b == 61) (IsSpelled 33 b c) _ _ (λ e. subst (λ (x : ℕ). IsSpelled 33 x c op.Ne) (sym (eqb-true b 61 e)) (spelled 33 61 c op.Ne refl))
    (λ _. spelled 33 b c op.Not refl)

colon_spelled : (b c : ℕ) → IsSpelled 58 b c (ops.colon b)
colon_spelled b c =
    if_cases (b == 61) (IsSpelled 58 b c) _ _ (λ e. subst (λ (x : ℕ). IsSpelled 58 x c op.Define) (sym (eqb-true b 61 e)) (spelled 58 61 c op.Define refl))
    (λ _. spelled 58 b c op.Colon refl)

dot_spelled : (b c : ℕ) → IsSpelled 46 b c (ops.dot b c)
dot_spelled b c =
    if_cases (b == 46 && c == 46) (IsSpelled 46 b c) _ _ (λ e. let p = and_parts (b == 46) (c == 46) e in subst (λ (x : ℕ). IsSpelled 46 x c op.Ellipsis) (sym (eqb-true b 46 p.0)) (subst (λ (y : ℕ). IsSpelled 46 46 y op.Ellipsis) (sym (eqb-true c 46 p.1)) (spelled 46 46 46 op.Ellipsis refl)))
    (λ _. spelled 46 b c op.Dot refl)

punctuation_spelled : (a b c : ℕ) → MaybeSpelled a b c (punctuation a)
unfolding punctuation
punctuation_spelled a b c =
    if_cases (a == 40) (MaybeSpelled a b c) _ _ (λ e. subst (λ (x : ℕ). IsSpelled x b c op.LeftParen) (sym (eqb-true a 40 e)) (spelled 40 b c op.LeftParen refl))
    (λ _. if_cases (a == 41) (MaybeSpelled a b c) _ _ (λ e. subst (λ (x : ℕ). IsSpelled x b c op.RightParen) (sym (eqb-true a 41 e)) (spelled 41 b c op.RightParen refl))
    (λ _. if_cases (a == 91) (MaybeSpelled a b c) _ _ (λ e. subst (λ (x : ℕ). IsSpelled x b c op.LeftBracket) (sym (eqb-true a 91 e)) (spelled 91 b c op.LeftBracket refl))
    (λ _. if_cases (a == 93) (MaybeSpelled a b c) _ _ (λ e. subst (λ (x : ℕ). IsSpelled x b c op.RightBracket) (sym (eqb-true a 93 e)) (spelled 93 b c op.RightBracket refl))
    (λ _. if_cases (a == 123) (MaybeSpelled a b c) _ _ (λ e. subst (λ (x : ℕ). IsSpelled x b c op.LeftBrace) (sym (eqb-true a 123 e)) (spelled 123 b c op.LeftBrace refl))
    (λ _. if_cases (a == 125) (MaybeSpelled a b c) _ _ (λ e. subst (λ (x : ℕ). IsSpelled x b c op.RightBrace) (sym (eqb-true a 125 e)) (spelled 125 b c op.RightBrace refl))
    (λ _. if_cases (a == 44) (MaybeSpelled a b c) _ _ (λ e. subst (λ (x : ℕ). IsSpelled x b c op.Comma) (sym (eqb-true a 44 e)) (spelled 44 b c op.Comma refl))
    (λ _. tt)))))))

-- the operator that begins with these bytes is spelled by them
pub operator_spelled : (a b c : ℕ) → MaybeSpelled a b c (operator_of a b c)
unfolding operator_of
operator_spelled a b c =
    if_cases (a == 43) (MaybeSpelled a b c) _ _ (λ e. subst (λ (x : ℕ). IsSpelled x b c (ops.plus b)) (sym (eqb-true a 43 e)) (plus_spelled b c))
    (λ _. if_cases (a == 45) (MaybeSpelled a b c) _ _ (λ e. subst (λ (x : ℕ). IsSpelled x b c (ops.minus b)) (sym (eqb-true a 45 e)) (minus_spelled b c))
    (λ _. if_cases (a == 42) (MaybeSpelled a b c) _ _ (λ e. subst (λ (x : ℕ). IsSpelled x b c (ops.star b)) (sym (eqb-true a 42 e)) (star_spelled b c))
    (λ _. if_cases (a == 47) (MaybeSpelled a b c) _ _ (λ e. subst (λ (x : ℕ). IsSpelled x b c (ops.slash b)) (sym (eqb-true a 47 e)) (slash_spelled b c))
    (λ _. if_cases (a == 37) (MaybeSpelled a b c) _ _ (λ e. subst (λ (x : ℕ). IsSpelled x b c (ops.percent b)) (sym (eqb-true a 37 e)) (percent_spelled b c))
    (λ _. if_cases (a == 38) (MaybeSpelled a b c) _ _ (λ e. subst (λ (x : ℕ). IsSpelled x b c (ops.ampersand b c)) (sym (eqb-true a 38 e)) (ampersand_spelled b c))
    (λ _. if_cases (a == 124) (MaybeSpelled a b c) _ _ (λ e. subst (λ (x : ℕ). IsSpelled x b c (ops.bar b)) (sym (eqb-true a 124 e)) (bar_spelled b c))
    (λ _. if_cases (a == 94) (MaybeSpelled a b c) _ _ (λ e. subst (λ (x : ℕ). IsSpelled x b c (ops.caret b)) (sym (eqb-true a 94 e)) (caret_spelled b c))
    (λ _. if_cases (a == 60) (MaybeSpelled a b c) _ _ (λ e. subst (λ (x : ℕ). IsSpelled x b c (ops.less b c)) (sym (eqb-true a 60 e)) (less_spelled b c))
    (λ _. if_cases (a == 62) (MaybeSpelled a b c) _ _ (λ e. subst (λ (x : ℕ). IsSpelled x b c (ops.greater b c)) (sym (eqb-true a 62 e)) (greater_spelled b c))
    (λ _. if_cases (a == 61) (MaybeSpelled a b c) _ _ (λ e. subst (λ (x : ℕ). IsSpelled x b c (ops.equals b)) (sym (eqb-true a 61 e)) (equals_spelled b c))
    (λ _. if_cases (a == 33) (MaybeSpelled a b c) _ _ (λ e. subst (λ (x : ℕ). IsSpelled x b c (ops.bang b)) (sym (eqb-true a 33 e)) (bang_spelled b c))
    (λ _. if_cases (a == 58) (MaybeSpelled a b c) _ _ (λ e. subst (λ (x : ℕ). IsSpelled x b c (ops.colon b)) (sym (eqb-true a 58 e)) (colon_spelled b c))
    (λ _. if_cases (a == 46) (MaybeSpelled a b c) _ _ (λ e. subst (λ (x : ℕ). IsSpelled x b c (ops.dot b c)) (sym (eqb-true a 46 e)) (dot_spelled b c))
    (λ _. punctuation_spelled a b c))))))))))))))

-- the front of a text by its first bytes
pub front_one : (text : List ℕ) (x : ℕ) → 0 < x → byte_at text 0 ≡ x → (1 ≤ length text) × (take 1 text ≡ x ∷ [])
front_one [] x some e = absurd (let z : 0 ≡ x = e in omega arith)
front_one (a ∷ text) x some e = (omega arith, ap (λ a. a ∷ []) e)

pub front_two : (text : List ℕ) (x y : ℕ) → 0 < x → 0 < y → byte_at text 0 ≡ x → byte_at text 1 ≡ y → (2 ≤ length text) × (take 2 text ≡ x ∷ y ∷ [])
front_two [] x y s1 s2 e f = absurd (let z : 0 ≡ x = e in omega arith)
front_two (a ∷ text) x y s1 s2 e f = let h = front_one text y s2 f in (omega (arith, h.0), ap (λ a. a ∷ take 1 text) e ∙ ap (λ t. x ∷ t) h.1)

pub front_three : (text : List ℕ) (x y z : ℕ) → 0 < x → 0 < y → 0 < z → byte_at text 0 ≡ x → byte_at text 1 ≡ y → byte_at text 2 ≡ z → (3 ≤ length text) × (take 3 text ≡ x ∷ y ∷ z ∷ [])
front_three [] x y z s1 s2 s3 e f g = absurd (let z : 0 ≡ x = e in omega arith)
front_three (a ∷ text) x y z s1 s2 s3 e f g = let h = front_two text y z s2 s3 f g in (omega (arith, h.0), ap (λ a. a ∷ take 2 text) e ∙ ap (λ t. x ∷ t) h.1)

module _ (text : List ℕ) where
  stand_one : (o : Operator) (x : ℕ) → 0 < x → operator_text o ≡ x ∷ [] → x ∷ [] ≡ byte_at text 0 ∷ [] → StandsAs text (Token (kind.Op o) 1)
  stand_one o x some is same =
      let h = front_one text x some (cc) in
      record { some = omega arith; within = h.0; piece = subst (λ n. piece.IsPiece (take 1 text) (Token (kind.Op o) n)) (ap length h.1) (piece.sign o (h.1 ∙ sym is)) }

  stand_two : (o : Operator) (x y : ℕ) → 0 < x → 0 < y → operator_text o ≡ x ∷ y ∷ [] → x ∷ y ∷ [] ≡ byte_at text 0 ∷ byte_at text 1 ∷ [] → StandsAs text (Token (kind.Op o) 2)
  stand_two o x y s1 s2 is same =
      let h = front_two text x y s1 s2 (cc) (cc) in
      record { some = omega arith; within = h.0; piece = subst (λ n. piece.IsPiece (take 2 text) (Token (kind.Op o) n)) (ap length h.1) (piece.sign o (h.1 ∙ sym is)) }

  stand_three : (o : Operator) (x y z : ℕ) → 0 < x → 0 < y → 0 < z → operator_text o ≡ x ∷ y ∷ z ∷ [] → x ∷ y ∷ z ∷ [] ≡ byte_at text 0 ∷ byte_at text 1 ∷ byte_at text 2 ∷ [] → StandsAs text (Token (kind.Op o) 3)
  stand_three o x y z s1 s2 s3 is same =
      let h = front_three text x y z s1 s2 s3 (cc) (cc) (cc) in
      record { some = omega arith; within = h.0; piece = subst (λ n. piece.IsPiece (take 3 text) (Token (kind.Op o) n)) (ap length h.1) (piece.sign o (h.1 ∙ sym is)) }

  -- an operator that is spelled by the text's first bytes stands there
  pub operator_stands : (o : Operator) → IsSpelled (byte_at text 0) (byte_at text 1) (byte_at text 2) o → StandsAs text (Token (kind.Op o) (length (operator_text o)))
  operator_stands op.Add h = stand_one op.Add 43 (omega arith) refl h.is
  operator_stands op.Sub h = stand_one op.Sub 45 (omega arith) refl h.is
  operator_stands op.Mul h = stand_one op.Mul 42 (omega arith) refl h.is
  operator_stands op.Div h = stand_one op.Div 47 (omega arith) refl h.is
  operator_stands op.Rem h = stand_one op.Rem 37 (omega arith) refl h.is
  operator_stands op.And h = stand_one op.And 38 (omega arith) refl h.is
  operator_stands op.Or h = stand_one op.Or 124 (omega arith) refl h.is
  operator_stands op.Xor h = stand_one op.Xor 94 (omega arith) refl h.is
  operator_stands op.Shl h = stand_two op.Shl 60 60 (omega arith) (omega arith) refl h.is
  operator_stands op.Shr h = stand_two op.Shr 62 62 (omega arith) (omega arith) refl h.is
  operator_stands op.AndNot h = stand_two op.AndNot 38 94 (omega arith) (omega arith) refl h.is
  operator_stands op.AddAssign h = stand_two op.AddAssign 43 61 (omega arith) (omega arith) refl h.is
  operator_stands op.SubAssign h = stand_two op.SubAssign 45 61 (omega arith) (omega arith) refl h.is
  operator_stands op.MulAssign h = stand_two op.MulAssign 42 61 (omega arith) (omega arith) refl h.is
  operator_stands op.DivAssign h = stand_two op.DivAssign 47 61 (omega arith) (omega arith) refl h.is
  operator_stands op.RemAssign h = stand_two op.RemAssign 37 61 (omega arith) (omega arith) refl h.is
  operator_stands op.AndAssign h = stand_two op.AndAssign 38 61 (omega arith) (omega arith) refl h.is
  operator_stands op.OrAssign h = stand_two op.OrAssign 124 61 (omega arith) (omega arith) refl h.is
  operator_stands op.XorAssign h = stand_two op.XorAssign 94 61 (omega arith) (omega arith) refl h.is
  operator_stands op.ShlAssign h = stand_three op.ShlAssign 60 60 61 (omega arith) (omega arith) (omega arith) refl h.is
  operator_stands op.ShrAssign h = stand_three op.ShrAssign 62 62 61 (omega arith) (omega arith) (omega arith) refl h.is
  operator_stands op.AndNotAssign h = stand_three op.AndNotAssign 38 94 61 (omega arith) (omega arith) (omega arith) refl h.is
  operator_stands op.AndThen h = stand_two op.AndThen 38 38 (omega arith) (omega arith) refl h.is
  operator_stands op.OrElse h = stand_two op.OrElse 124 124 (omega arith) (omega arith) refl h.is
  operator_stands op.Arrow h = stand_two op.Arrow 60 45 (omega arith) (omega arith) refl h.is
  operator_stands op.Increment h = stand_two op.Increment 43 43 (omega arith) (omega arith) refl h.is
  operator_stands op.Decrement h = stand_two op.Decrement 45 45 (omega arith) (omega arith) refl h.is
  operator_stands op.Eq h = stand_two op.Eq 61 61 (omega arith) (omega arith) refl h.is
  operator_stands op.Lt h = stand_one op.Lt 60 (omega arith) refl h.is
  operator_stands op.Gt h = stand_one op.Gt 62 (omega arith) refl h.is
  operator_stands op.Assign h = stand_one op.Assign 61 (omega arith) refl h.is
  operator_stands op.Not h = stand_one op.Not 33 (omega arith) refl h.is
  operator_stands op.Ne h = stand_two op.Ne 33 61 (omega arith) (omega arith) refl h.is
  operator_stands op.Le h = stand_two op.Le 60 61 (omega arith) (omega arith) refl h.is
  operator_stands op.Ge h = stand_two op.Ge 62 61 (omega arith) (omega arith) refl h.is
  operator_stands op.Define h = stand_two op.Define 58 61 (omega arith) (omega arith) refl h.is
  operator_stands op.Ellipsis h = stand_three op.Ellipsis 46 46 46 (omega arith) (omega arith) (omega arith) refl h.is
  operator_stands op.LeftParen h = stand_one op.LeftParen 40 (omega arith) refl h.is
  operator_stands op.RightParen h = stand_one op.RightParen 41 (omega arith) refl h.is
  operator_stands op.LeftBracket h = stand_one op.LeftBracket 91 (omega arith) refl h.is
  operator_stands op.RightBracket h = stand_one op.RightBracket 93 (omega arith) refl h.is
  operator_stands op.LeftBrace h = stand_one op.LeftBrace 123 (omega arith) refl h.is
  operator_stands op.RightBrace h = stand_one op.RightBrace 125 (omega arith) refl h.is
  operator_stands op.Comma h = stand_one op.Comma 44 (omega arith) refl h.is
  operator_stands op.Dot h = stand_one op.Dot 46 (omega arith) refl h.is
  operator_stands op.Colon h = stand_one op.Colon 58 (omega arith) refl h.is
