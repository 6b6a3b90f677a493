use Rattle.std.proofs.Common.{arith, ◌≡◌, ◌∙◌, ◌+◌, ℕ, suc, sym, ap, List, drop, map, bytes_eq, if◌then◌else◌}
use Rattle.std.specs.Prelude.{Option, Some}
use Rattle.go_typing.specs.Items.{name_of}
use Rattle.go_walk.specs.SetsHas.{number_of, with_number}
use Rattle.go_items.specs.declared.items.item.Item.{Item}
use Rattle.go_items.specs.ItemView.{item_view}
use Rattle.go_syntax.specs.declared.tree.Name.{Name}
use Rattle.go_items.specs.Leads.{number_from, first_number}
use Rattle.go_decls.proofs.KnownSteps.{next_at, past}
use Rattle.go_decls.proofs.NumberLemmas.{or_number, one_more, no_more}
use Rattle.go_decls.proofs.known.numbers.numbers.Goals as goal

pub loop-i-init : goal.loop-i-init
loop-i-init c = λ x. ap (λ (o : Option ℕ). or_number o (first_number x (map item_view c.args.items.now))) (c.new-all.ensures x)

pub loop-i-preserved : goal.loop-i-preserved
loop-i-preserved c = λ x.
    let i = c.loop-i.i in
    let items = c.args.items.now in
    let item = c.index-items-i.result in
    let old = number_of x c.loop-i.all in
    let rest = map item_view (drop (i + 1) items) in
    let one : i + 1 ≡ suc i = omega arith in
    ap (λ (o : Option ℕ). or_number o (number_from (i + 1) x rest)) (c.in_ok-insert.ensures.value x)
    ∙ ap (λ (n : Name). or_number (with_number n.text i old x) (number_from (i + 1) x rest)) c.name_of-name.ensures.value
    ∙ one_more (name_of (item_view item)).text i old x (number_from (i + 1) x rest)
    ∙ ap (λ (n : ℕ). or_number old (if bytes_eq x (name_of (item_view item)).text then Some i else number_from n x rest)) one
    ∙ ap (λ (is : List Item). or_number old (number_from i x (map item_view is))) (sym (next_at items i item c.loop-i-test.true c.index-items-i.is))
    ∙ c.loop-i.invariant x

pub returns : goal.returns
returns c = record {
  value = λ x.
      sym (no_more (number_of x c.loop-i.all))
      ∙ ap (λ (is : List Item). or_number (number_of x c.loop-i.all) (number_from c.loop-i.i x (map item_view is))) (sym (past c.args.items.now c.loop-i.i c.loop-i-test.false))
      ∙ c.loop-i.invariant x;
}
