use Rattle.std.proofs.Common.{◌∙◌, sym, map}
use Rattle.go_operands.specs.AnswerView.{flaw_view}
use Rattle.go_decls.proofs.ToldNameLemmas.{told_blank, seen_blank, told_stood, seen_stood, told_free, seen_free}
use Rattle.go_decls.proofs.told.names.and_name.Goals as goal

pub returns-then-is_blank-clause-told : goal.returns-then-is_blank-clause-told
returns-then-is_blank-clause-told c = λ bs h. told_blank c.args.n.now bs (map flaw_view c.args.flaws.now.items) (sym c.is_blank.ensures.value ∙ c.if-is_blank.true)

pub returns-then-is_blank-clause-seen : goal.returns-then-is_blank-clause-seen
returns-then-is_blank-clause-seen c = λ bs h. seen_blank c.args.n.now bs c.args.seen.now (sym c.is_blank.ensures.value ∙ c.if-is_blank.true) h

pub returns-then-has-clause-told : goal.returns-then-has-clause-told
returns-then-has-clause-told c = λ bs h.
    told_stood c.args.n.now bs (map flaw_view c.args.flaws.now.items) (map flaw_view c.named_flaw.new.flaws.items) c.args.seen.now (sym c.is_blank.ensures.value ∙ c.if-is_blank.false) (sym c.has.ensures.value ∙ c.if-has.true) h
    c.in_ok-named_flaw.ensures.value

pub returns-then-has-clause-seen : goal.returns-then-has-clause-seen
returns-then-has-clause-seen c = λ bs h. seen_stood c.args.n.now bs c.args.seen.now (sym c.is_blank.ensures.value ∙ c.if-is_blank.false) (sym c.has.ensures.value ∙ c.if-has.true) h

pub returns-clause-told : goal.returns-clause-told
returns-clause-told c = λ bs h. told_free c.args.n.now bs (map flaw_view c.args.flaws.now.items) c.args.seen.now (sym c.is_blank.ensures.value ∙ c.if-is_blank.false) (sym c.has.ensures.value ∙ c.if-has.false) h

pub returns-clause-seen : goal.returns-clause-seen
returns-clause-seen c = λ bs h.
    seen_free c.args.n.now bs c.args.seen.now c.insert.new.self (sym c.is_blank.ensures.value ∙ c.if-is_blank.false) (sym c.has.ensures.value ∙ c.if-has.false) c.in_ok-insert.ensures.value h
