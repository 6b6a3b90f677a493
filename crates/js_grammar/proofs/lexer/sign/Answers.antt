use Rattle.js_grammar.proofs.FirstToken.{sign_is}
use Rattle.js_grammar.proofs.lexer.sign.Goals as goal

pub returns-clause-value : goal.returns-clause-value
returns-clause-value c =
    sign_is c.args.text.now c.first_signs-a.result c.second_signs-b.result c.third_signs-c.result c.fourth_signs-d.result c.fifth_signs-e.result c.sixth_signs.result
    c.first_signs-a.ensures.value c.second_signs-b.ensures.value c.third_signs-c.ensures.value c.fourth_signs-d.ensures.value c.fifth_signs-e.ensures.value c.sixth_signs.ensures.value
