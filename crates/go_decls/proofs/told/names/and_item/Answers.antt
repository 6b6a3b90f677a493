use Rattle.std.proofs.Common.{sym, subst, ap, map}
use Rattle.go_operands.specs.AnswerView.{flaw_view}
use Rattle.go_items.specs.declared.items.item.Item.{Item}
use Rattle.go_items.specs.ItemView.{item_view}
use Rattle.go_typing.specs.Items.{name_of}
use Rattle.go_decls.specs.Seen.{HasNames}
use Rattle.go_decls.specs.Stood.{stood}
use Rattle.go_decls.proofs.ToldNameLemmas.{declares, item_told}
use Rattle.go_decls.proofs.told.names.and_item.Goals as goal

pub returns-in_ok-and_both-in-Constant-clause-told : goal.returns-in_ok-and_both-in-Constant-clause-told
returns-in_ok-and_both-in-Constant-clause-told c = λ bs rest h.
    item_told (item_view c.args.item.now) c.in-Constant.name.now bs rest (map flaw_view c.args.flaws.now.items) (map flaw_view c.and_both.new.flaws.items) (sym (ap (λ (x : Item). name_of (item_view x)) c.in-Constant.is))
    (ap (λ (x : Item). declares (item_view x)) c.in-Constant.is) (c.in_ok-and_both-in-Constant.ensures.told bs h)

pub returns-in_ok-and_both-in-Constant-clause-seen : goal.returns-in_ok-and_both-in-Constant-clause-seen
returns-in_ok-and_both-in-Constant-clause-seen c = λ bs h. subst (λ (i : Item). HasNames c.and_both.new.seen (stood (item_view i) bs)) (sym c.in-Constant.is) (c.in_ok-and_both-in-Constant.ensures.seen bs h)

pub returns-in_ok-and_both-in-Type-clause-told : goal.returns-in_ok-and_both-in-Type-clause-told
returns-in_ok-and_both-in-Type-clause-told c = λ bs rest h.
    item_told (item_view c.args.item.now) c.in-Type.name.now bs rest (map flaw_view c.args.flaws.now.items) (map flaw_view c.and_both-in-Type.new.flaws.items) (sym (ap (λ (x : Item). name_of (item_view x)) c.in-Type.is))
    (ap (λ (x : Item). declares (item_view x)) c.in-Type.is) (c.in_ok-and_both-in-Type.ensures.told bs h)

pub returns-in_ok-and_both-in-Type-clause-seen : goal.returns-in_ok-and_both-in-Type-clause-seen
returns-in_ok-and_both-in-Type-clause-seen c = λ bs h. subst (λ (i : Item). HasNames c.and_both-in-Type.new.seen (stood (item_view i) bs)) (sym c.in-Type.is) (c.in_ok-and_both-in-Type.ensures.seen bs h)

pub returns-in_ok-and_both-in-Alias-clause-told : goal.returns-in_ok-and_both-in-Alias-clause-told
returns-in_ok-and_both-in-Alias-clause-told c = λ bs rest h.
    item_told (item_view c.args.item.now) c.in-Alias.name.now bs rest (map flaw_view c.args.flaws.now.items) (map flaw_view c.and_both-in-Alias.new.flaws.items) (sym (ap (λ (x : Item). name_of (item_view x)) c.in-Alias.is))
    (ap (λ (x : Item). declares (item_view x)) c.in-Alias.is) (c.in_ok-and_both-in-Alias.ensures.told bs h)

pub returns-in_ok-and_both-in-Alias-clause-seen : goal.returns-in_ok-and_both-in-Alias-clause-seen
returns-in_ok-and_both-in-Alias-clause-seen c = λ bs h. subst (λ (i : Item). HasNames c.and_both-in-Alias.new.seen (stood (item_view i) bs)) (sym c.in-Alias.is) (c.in_ok-and_both-in-Alias.ensures.seen bs h)

pub returns-in_ok-and_both-in-Function-clause-told : goal.returns-in_ok-and_both-in-Function-clause-told
returns-in_ok-and_both-in-Function-clause-told c = λ bs rest h.
    item_told (item_view c.args.item.now) c.in-Function.name.now bs rest (map flaw_view c.args.flaws.now.items) (map flaw_view c.and_both-in-Function.new.flaws.items) (sym (ap (λ (x : Item). name_of (item_view x)) c.in-Function.is))
    (ap (λ (x : Item). declares (item_view x)) c.in-Function.is) (c.in_ok-and_both-in-Function.ensures.told bs h)

pub returns-in_ok-and_both-in-Function-clause-seen : goal.returns-in_ok-and_both-in-Function-clause-seen
returns-in_ok-and_both-in-Function-clause-seen c = λ bs h. subst (λ (i : Item). HasNames c.and_both-in-Function.new.seen (stood (item_view i) bs)) (sym c.in-Function.is) (c.in_ok-and_both-in-Function.ensures.seen bs h)

pub returns-in_ok-and_both-in-Variable-clause-told : goal.returns-in_ok-and_both-in-Variable-clause-told
returns-in_ok-and_both-in-Variable-clause-told c = λ bs rest h.
    item_told (item_view c.args.item.now) c.in-Variable.name.now bs rest (map flaw_view c.args.flaws.now.items) (map flaw_view c.and_both-in-Variable.new.flaws.items) (sym (ap (λ (x : Item). name_of (item_view x)) c.in-Variable.is))
    (ap (λ (x : Item). declares (item_view x)) c.in-Variable.is) (c.in_ok-and_both-in-Variable.ensures.told bs h)

pub returns-in_ok-and_both-in-Variable-clause-seen : goal.returns-in_ok-and_both-in-Variable-clause-seen
returns-in_ok-and_both-in-Variable-clause-seen c = λ bs h. subst (λ (i : Item). HasNames c.and_both-in-Variable.new.seen (stood (item_view i) bs)) (sym c.in-Variable.is) (c.in_ok-and_both-in-Variable.ensures.seen bs h)
