use Rattle.js_grammar.proofs.Lexing.{token_exact, token_found}
use Rattle.js_grammar.proofs.laws.finds_tokens.Goals as goal

pub returns : goal.returns
returns c text t rest = (
  λ p q. token_exact t rest p q,
  λ q. let h = token_found text t rest q in (h.is, h.token, h.ends_there),
)
