use Rattle.std.proofs.Common.{List, subst, sym, map}
use Rattle.go_operands.specs.AnswerView.{flaw_view}
use Rattle.go_items.specs.ItemView.{item_view}
use Rattle.go_typing.specs.Items.{Item}
use Rattle.go_typing.specs.Known.{nothing_known}
use Rattle.go_operands.specs.EnvView.{env_of}
use Rattle.go_items.specs.Stands.{Stands}
use Rattle.go_items.specs.Leads.{Tells}
use Rattle.go_decls.specs.State.{at_first}
use Rattle.go_decls.proofs.DoneLemmas.{circles_told}
use Rattle.go_decls.proofs.known.names.known.Goals as goal

pub returns-clause-value : goal.returns-clause-value
returns-clause-value c = λ ds q s.
    c.in_ok-settle_from_first.ensures.value ds q (subst (λ (is : List Item). Stands (nothing_known is) (env_of c.declare_all.new.env)) q (c.in_ok-declare_all.ensures.value at_first s))

pub returns-clause-told : goal.returns-clause-told
returns-clause-told c = λ ds q s.
    let all = map item_view c.args.items.now in
    let told = c.in_ok-order.order.is_lasting.items in
    circles_told ds all (env_of c.declare_all.new.env) told (map flaw_view c.args.flaws.now.items) (map flaw_view c.cycles_told.new.flaws.items) c.circles.ensures.stay q (c.in_ok-declare_all.ensures.value at_first s) c.in_ok-order.ensures.tells
    (λ ss h. c.in_ok-cycles_told.ensures.value ss (subst (Tells ss all) (sym c.as_slice.ensures.value) h)
    )
