-- Faults that are told one after another, and lists that have one.
use Rattle.std.proofs.Common.{◌≡◌, ◌<◌, List, [], ◌∷◌, ◌++◌, length, append_assoc, ap, ◌∙◌, refl, arith}
use Rattle.go_typing.specs.Answer.{Flaw, Answer, wrong, unless}
use Rattle.go_operands.specs.AnswerView.{first_of, others_of}

-- what two steps add is what both add
pub two_more : {A : Type 0} (a b c x y : List A) → b ≡ a ++ x → c ≡ b ++ y → c ≡ a ++ (x ++ y)
two_more a b c x y h k = k ∙ ap (λ l. l ++ y) h ∙ append_assoc a x y

-- where there is a fault, the answer is the faults
pub unless_some : (fs : List Flaw) (a : Answer) → 0 < length fs → unless fs a ≡ wrong (first_of fs) (others_of fs)
unless_some [] a h = absurd (omega arith)
unless_some (f ∷ fs) a h = refl
