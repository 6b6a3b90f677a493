use Rattle.js_tree.specs.ComesLaws.{comes_stmts, comes_call, comes_turn}
use Rattle.js_tree.proofs.laws.parts_follow.Goals as goal

pub returns : goal.returns
returns c = record {
  statements = λ script choices sc s ss f g d e o h k. comes_stmts sc s ss h k;
  calls = λ script choices at x f vs w d o no_host found counts h. comes_call at x vs no_host found counts h;
  turns = λ script choices sc at label test ss f g h flow d e c o tested turned rest. comes_turn sc at label test ss tested turned rest;
}
