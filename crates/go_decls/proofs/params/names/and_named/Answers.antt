use Rattle.std.proofs.Common.{◌∙◌, sym, map}
use Rattle.go_operands.specs.AnswerView.{flaw_view}
use Rattle.go_items.specs.ParamView.{named_view}
use Rattle.go_decls.proofs.ParamsNameLemmas.{told_blank, seen_blank, told_stood, seen_stood, told_free, seen_free}
use Rattle.go_decls.proofs.params.names.and_named.Goals as goal

pub returns-then-is_blank-clause-told : goal.returns-then-is_blank-clause-told
returns-then-is_blank-clause-told c = λ v h. told_blank (named_view c.args.n) v (map flaw_view c.args.flaws.now.items) (sym c.is_blank.ensures.value ∙ c.if-is_blank.true)

pub returns-then-is_blank-clause-seen : goal.returns-then-is_blank-clause-seen
returns-then-is_blank-clause-seen c = λ v u l h. seen_blank (named_view c.args.n) v u c.args.seen.now (sym c.is_blank.ensures.value ∙ c.if-is_blank.true) h

pub returns-then-has-clause-told : goal.returns-then-has-clause-told
returns-then-has-clause-told c = λ v h.
    told_stood (named_view c.args.n) v (map flaw_view c.args.flaws.now.items) (map flaw_view c.told_again.new.flaws.items) c.args.seen.now (sym c.is_blank.ensures.value ∙ c.if-is_blank.false) (sym c.has.ensures.value ∙ c.if-has.true) h
    c.in_ok-told_again.ensures.told

pub returns-then-has-clause-seen : goal.returns-then-has-clause-seen
returns-then-has-clause-seen c = λ v u l h. seen_stood (named_view c.args.n) v u c.args.seen.now (sym c.is_blank.ensures.value ∙ c.if-is_blank.false) (sym c.has.ensures.value ∙ c.if-has.true) h

pub returns-clause-told : goal.returns-clause-told
returns-clause-told c = λ v h. told_free (named_view c.args.n) v (map flaw_view c.args.flaws.now.items) c.args.seen.now (sym c.is_blank.ensures.value ∙ c.if-is_blank.false) (sym c.has.ensures.value ∙ c.if-has.false) h

pub returns-clause-seen : goal.returns-clause-seen
returns-clause-seen c = λ v u l h.
    seen_free (named_view c.args.n) v u c.args.seen.now c.insert.new.self (sym c.is_blank.ensures.value ∙ c.if-is_blank.false) (sym c.has.ensures.value ∙ c.if-has.false) l c.in_ok-insert.ensures.value h
