use Rattle.std.proofs.Common.{◌≡◌, sym, ap, ◌∙◌, get_or, get_or-drop, add-zero, drop, Some}
use Rattle.go_lexer.specs.Escapes.{escape_at}
use Rattle.go_lexer.proofs.RunLemmas.{rest_at}
use Rattle.go_lexer.proofs.TextLemmas.{string_from-turn}
use Rattle.go_lexer.proofs.text.string_value.Goals as goal

pub loop-n-preserved-in-Some : goal.loop-n-preserved-in-Some
loop-n-preserved-in-Some c =
    let begins = get_or-drop c.loop-n.n c.args.body.now 0 0 ∙ ap (λ i. get_or c.args.body.now i 0) (add-zero c.loop-n.n) ∙ c.if-body-n-eq92.true in
    let is : escape_at 34 (drop c.loop-n.n c.args.body.now) ≡ Some c.in-Some.escape = ap (escape_at 34) (sym (rest_at c.args.body.now c.loop-n.n)) ∙ sym c.in-Some.ensures.value in
    string_from-turn c.args.body.now c.loop-n.n c.loop-n.out.items c.push_escape.new.out.items c.in-Some.escape c.loop-n-test.true begins is c.in-Some.ensures.right.some c.loop-n.invariant c.in_ok-push_escape-in-Some.ensures
