use Rattle.std.proofs.Common.{arith, rules, ◌≡◌, ◌-◌, drop, length}
use Rattle.std.proofs.lemmas.List.{length-drop}
use Rattle.js_grammar.specs.Tokens.{places}
use Rattle.js_grammar.specs.Lexed.{not_split}
use Rattle.js_grammar.proofs.Passing.{passed_space, passed_wrong, passed_more, passed_all, found_none, found_some, found_within}
use Rattle.js_grammar.proofs.lexer.tokens.Goals as goal

pub bytes-preserved-then-is_space : goal.bytes-preserved-then-is_space
bytes-preserved-then-is_space c = record {
  within = omega arith;
  passed = passed_space c.args.bytes.now c.args.from c.bytes.at c.bytes.newlines (places c.bytes.tokens.items) (omega arith) (search rules) c.bytes.invariant.passed;
}

pub returns-in_default : goal.returns-in_default
returns-in_default c =
    not_split c.syntax.ensures (passed_wrong c.args.bytes.now c.args.from c.bytes.at c.bytes.newlines (places c.bytes.tokens.items) (omega arith) (search rules)
    (found_none c.args.bytes.now c.bytes.at c.in_ok-lexeme.field-0 c.in_ok-lexeme.ensures.value c.in_default.is) c.bytes.invariant.passed)

pub bytes-preserved : goal.bytes-preserved
bytes-preserved c =
    let w = found_within c.args.bytes.now c.bytes.at c.in_ok-lexeme.field-0 c.in-Some.lexeme c.in-Some.n c.in_ok-lexeme.ensures.within c.in-Some.is in
    let long : length (drop c.bytes.at c.args.bytes.now) ≡ length c.args.bytes.now - c.bytes.at = length-drop c.bytes.at c.args.bytes.now in
    record {
      within = omega (arith, w, long);
      passed = passed_more c.args.bytes.now c.args.from c.bytes.at c.in-Some.n c.bytes.newlines c.is_restricted-newlines.result c.in-Some.lexeme c.bytes.tokens.items c.add.new.tokens.items
          (omega arith) (search rules)
          (found_some c.args.bytes.now c.bytes.at c.in_ok-lexeme.field-0 c.in-Some.lexeme c.in-Some.n c.in_ok-lexeme.ensures.value c.in-Some.is) w.1
          c.is_restricted-newlines.ensures c.in_ok-add.ensures c.bytes.invariant.passed;
    }

pub returns : goal.returns
returns c = passed_all c.args.bytes.now c.args.from c.bytes.at c.bytes.newlines (places c.bytes.tokens.items) (omega arith) c.bytes.invariant.passed
