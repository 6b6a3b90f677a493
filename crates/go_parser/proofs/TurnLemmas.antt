-- One token after the other.
use Rattle.std.proofs.Common.{◌≡◌, ◌+◌, ◌<◌, ℕ, List, [], ◌∷◌, length, drop, drop-cons, add-one, refl, ap, ◌∙◌}
use Rattle.std.proofs.lemmas.List.{at_drop_all}
use Rattle.go_syntax.specs.Token.{Token, token_at, token}
use Rattle.go_syntax.specs.declared.kind.TokenKind.TheVariants as kind
use Rattle.go_grammar.specs.Frames.{Stack}
use Rattle.go_grammar.specs.Parsed.{run, after_step, feed}
use Rattle.go_parser.specs.Turns.{RunTurn, RunEnd}

turn : (us : List Token) (i : ℕ) → i < length us → drop i us ≡ token_at us i ∷ drop (i + 1) us
turn us i lt = rw add-one (drop-cons us i (token 0 kind.End 0 []) lt)

pub run_turn : RunTurn
run_turn us i s lt = ap (λ z. run z s) (turn us i lt)

pub run_end : RunEnd
run_end us i s le = at_drop_all (λ z. run z s) us i le
