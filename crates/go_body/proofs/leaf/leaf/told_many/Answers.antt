use Rattle.std.proofs.Common.{◌∷◌, [], ◌&&◌, length}
use Rattle.std.specs.Prelude.{nat_lt, ◌==◌, if◌then◌else◌}
use Rattle.go_syntax.specs.View.{stmt_view}
use Rattle.go_typing.specs.Answer.{flaw}
use Rattle.go_typing.specs.Statements.{clauses_limit}
use Rattle.go_walk.specs.Parts.{parts_since}
use Rattle.go_body.proofs.LeafLemmas.{told_so, not_told_so}
use Rattle.go_body.proofs.leaf.leaf.told_many.Goals as goal

pub returns-then-is_clean : goal.returns-then-is_clean
returns-then-is_clean c = record {
  told = told_so c.is_clean.result (length c.args.flaws.now.items == c.args.before.flaws) (if parts_since c.args.before c.args.wrong.now (stmt_view c.args.s.now) c.args.walk.now && nat_lt clauses_limit c.args.count then flaw c.args.s.now.place 76 ∷ [] else [])
      c.args.flaws.now.items c.told_limit.new.flaws.items c.is_clean.ensures.value c.if-is_clean.true c.in_ok-told_limit.ensures.told;
}

pub returns : goal.returns
returns c = record {
  told = not_told_so c.is_clean.result (length c.args.flaws.now.items == c.args.before.flaws) (if parts_since c.args.before c.args.wrong.now (stmt_view c.args.s.now) c.args.walk.now && nat_lt clauses_limit c.args.count then flaw c.args.s.now.place 76 ∷ [] else [])
      c.args.flaws.now.items c.is_clean.ensures.value c.if-is_clean.false;
}
