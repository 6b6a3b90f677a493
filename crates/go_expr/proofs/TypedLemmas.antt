-- What a call answers where it is Ok.
use Rattle.std.proofs.Common.{◌≡◌, ◌∙◌, ap, List, [], ◌++◌, map}
use Rattle.std.specs.Prelude.{Result, Ok, Err, IfOk}
use Rattle.go_typing.specs.Answer.{Flaw}
use Rattle.go_operands.specs.declared.answers.answer.Flaw as code
use Rattle.go_operands.specs.AnswerView.{flaw_view}

pub if_ok : {T E : Type 0} (r : Result T E) (P Q : T → Type 0) → ((x : T) → P x → Q x) → IfOk r P → IfOk r Q
if_ok (Ok x) P Q f h = f x h
if_ok (Err e) P Q f h = tt

pub none_before : (xs : List code.Flaw) (n ys : List Flaw) → n ≡ map flaw_view xs ++ ys → xs ≡ [] → n ≡ ys
none_before xs n ys h e = h ∙ ap (λ (zs : List code.Flaw). map flaw_view zs ++ ys) e
