use Rattle.std.proofs.Common.{◌∷◌, [], ◌&&◌}
use Rattle.std.specs.Prelude.{nat_lt}
use Rattle.go_syntax.specs.View.{stmt_view}
use Rattle.go_typing.specs.Answer.{flaw}
use Rattle.go_typing.specs.Statements.{clauses_limit}
use Rattle.go_walk.specs.Parts.{parts_since}
use Rattle.go_body.proofs.LeafLemmas.{told_so, not_told_so}
use Rattle.go_body.proofs.leaf.leaf.told_limit.Goals as goal

pub returns-then-is_many : goal.returns-then-is_many
returns-then-is_many c = record {
  told = told_so c.in_ok-is_many.is_many (parts_since c.args.before c.args.wrong.now (stmt_view c.args.s.now) c.args.walk.now && nat_lt clauses_limit c.args.count) (flaw c.args.s.now.place 76 ∷ []) c.args.flaws.now.items c.and_flaw.new.flaws.items
      c.in_ok-is_many.ensures.value c.if-is_many.true c.in_ok-and_flaw.ensures.value;
}

pub returns : goal.returns
returns c = record {
  told = not_told_so c.in_ok-is_many.is_many (parts_since c.args.before c.args.wrong.now (stmt_view c.args.s.now) c.args.walk.now && nat_lt clauses_limit c.args.count) (flaw c.args.s.now.place 76 ∷ []) c.args.flaws.now.items
      c.in_ok-is_many.ensures.value c.if-is_many.false;
}
