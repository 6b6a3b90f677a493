use Rattle.std.proofs.Common.{sym, ap, ◌∙◌, arith, None, drop, subst, length, ◌≡◌}
use Rattle.go_syntax.specs.Token.{TokenList, ArePlaced}
use Rattle.go_lexer.specs.Lexed.{lexed, lexed_from, start_of}
use Rattle.go_lexer.proofs.LexLemmas.{lexed_from-over, lexed_from-turn}
use Rattle.go_lexer.specs.Placed.{IsPlaced}
use Rattle.go_lexer.proofs.PlacedLemmas.{IsPlaced-start, ArePlaced-end}
use Rattle.go_lexer.proofs.lexer.read.Goals as goal

pub loop-at-init : goal.loop-at-init
unfolding lexed
loop-at-init c = record {
  within = c.mark_width-at.ensures.within;
  placed = subst (λ t. IsPlaced c.args.file c.mark_width-at.result (record { tokens = t; due = None })) (sym c.new.ensures) (IsPlaced-start c.args.file c.mark_width-at.result);
  same =
      ap (λ n. lexed_from (start_of c.args.file) n 0 c.args.bytes.now) (sym c.mark_width-at.ensures.value)
      ∙ lexed_from-over (start_of c.args.file) c.mark_width-at.result 0 c.args.bytes.now c.mark_width-at.ensures.within
      ∙ ap (λ n. lexed_from (start_of c.args.file) 0 n (drop c.mark_width-at.result c.args.bytes.now)) (omega arith)
      ∙ ap (λ t. lexed_from (record { tokens = t; due = None }) 0 c.mark_width-at.result (drop c.mark_width-at.result c.args.bytes.now)) (sym c.new.ensures);
}

pub loop-at-preserved : goal.loop-at-preserved
loop-at-preserved c =
    let turn = lexed_from-turn (lexed c.args.file c.args.bytes.now) c.args.file c.loop-at.at c.in_ok-at.field-0 c.args.bytes.now c.loop-at.progress c.take_piece.new.progress c.loop-at-test.true c.in_ok-at.ensures.tokens c.loop-at.invariant.same in
    record { within = turn.within; placed = c.in_ok-at.ensures.within c.loop-at.invariant.placed; same = turn.same }

pub returns-clause-within : goal.returns-clause-within
returns-clause-within c =
    let at_end : c.loop-at.at ≡ length c.args.bytes.now = omega (arith, c.loop-at.invariant.within) in
    let tokens = sym (ap (λ (t : TokenList). t.tokens) c.in_ok-end.ensures) in
    subst (λ n. ArePlaced c.args.file n c.end.new.self.tokens.tokens) at_end (subst (ArePlaced c.args.file c.loop-at.at) tokens (ArePlaced-end c.args.file c.loop-at.at c.loop-at.progress c.loop-at.invariant.placed))
