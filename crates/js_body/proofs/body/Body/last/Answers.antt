use Rattle.std.proofs.Common.{◌≡◌, ◌-◌, List, length, Some, None, refl, sym, subst}
use Rattle.std.specs.List.{slice_get}
use Rattle.js_body.specs.declared.body.Operand.{Operand}
use Rattle.js_body.proofs.Steps.{parts_last, parts_none}
use Rattle.js_body.proofs.body.Body.last.Goals as goal

pub returns-in-Some : goal.returns-in-Some
returns-in-Some c s t = parts_last _ _ c.args.self.now.stack.items _ _ _ s c.in-Some.o.now (sym (subst (λ (xs : List Operand). Some c.in-Some.o.now ≡ slice_get xs (length xs - 1)) c.deref.ensures.value c.in-Some.ensures.value)) t

pub returns-in-None : goal.returns-in-None
returns-in-None c s t = parts_none _ _ c.args.self.now.stack.items _ _ _ s _ (sym (subst (λ (xs : List Operand). None ≡ slice_get xs (length xs - 1)) c.deref.ensures.value c.in-None.ensures.value)) refl refl t
