use Rattle.std.proofs.Common.{arith, ◌≡◌, ◌∙◌, ◌+◌, ◌++◌, ◌||◌, ℕ, suc, sym, ap, subst, refl, List, [], ◌∷◌, Bool, drop, map, bytes_eq, if◌then◌else◌}
use Rattle.std.proofs.lemmas.List.{append-nil}
use Rattle.go_operands.specs.AnswerView.{flaw_view}
use Rattle.go_items.specs.declared.items.item.Item.{Item}
use Rattle.go_items.specs.ItemView.{item_view}
use Rattle.go_typing.specs.Items.{name_of}
use Rattle.go_typing.specs.Cycles.{is_among, cycles_from}
use Rattle.go_walk.specs.SetsHas.{has_name}
use Rattle.go_syntax.specs.declared.tree.Name.{Name}
use Rattle.go_typing.specs.Answer.{flaw}
use Rattle.go_typing.specs.Env.{Bind, is_blank}
use Rattle.go_items.specs.Leads.{TellsFrom, Tells}
use Rattle.go_items.proofs.NeedsSteps.{next_at, past}
use Rattle.go_items.proofs.NumberLemmas.{turned}
use Rattle.go_items.proofs.ToldLemmas.{told_step}
use Rattle.go_items.proofs.needs.told.cycles_told.Goals as goal

pub loop-i-init : goal.loop-i-init
loop-i-init c = ([], c.new-seen.ensures, λ ss h. h, λ ss h. refl)

pub loop-i-preserved : goal.loop-i-preserved
loop-i-preserved c =
    let i = c.loop-i.i in
    let items = c.args.items.now in
    let all = map item_view items in
    let item = c.index-items-i.result in
    let n = name_of (item_view item) in
    let seen = c.loop-i.invariant.0 in
    let rest = map item_view (drop (i + 1) items) in
    let one : suc i ≡ i + 1 = omega arith in
    let told = c.args.is_lasting.now in
    let here : (ss : List (List Bind)) → Tells ss all told → TellsFrom ss all told i seen (item_view item ∷ rest) =
    λ ss h. subst (λ (is : List Item). TellsFrom ss all told i seen (map item_view is)) (next_at items i item c.loop-i-test.true c.index-items-i.is) (c.loop-i.invariant.2 ss h) in (
      n.text ∷ seen,
      λ y.
          c.in_ok-insert.ensures.value y ∙ ap (λ (x : Name). bytes_eq y x.text || has_name y c.loop-i.seen) c.name_of-name.ensures.value
          ∙ ap (λ (b : Bool). bytes_eq y n.text || b) (c.loop-i.invariant.1 y) ∙ ap (λ (b : Bool). b || is_among y seen) (turned y n.text),
      λ ss h. subst (λ (j : ℕ). TellsFrom ss all told j (n.text ∷ seen) rest) one (here ss h).1,
      λ ss h.
          told_step ss all (map flaw_view c.loop-i.flaws.items) (map flaw_view c.told_one.new.flaws.items) seen (item_view item) rest c.has-stood.result c.is_lasting_at-is_told.result
          (c.has-stood.ensures.value ∙ ap (λ (x : Name). has_name x.text c.loop-i.seen) c.name_of-name.ensures.value ∙ c.loop-i.invariant.1 n.text)
          (λ e. c.is_lasting_at-is_told.ensures.value ∙ (here ss h).0 e)
          (subst (λ (x : Name). map flaw_view c.told_one.new.flaws.items ≡ map flaw_view c.loop-i.flaws.items ++ (if is_blank x.text then [] else if c.has-stood.result then [] else if c.is_lasting_at-is_told.result then flaw x.place 74 ∷ [] else [])) c.name_of-name.ensures.value c.in_ok-told_one.ensures.value)
          ∙ ap (λ (is : List Item). map flaw_view c.loop-i.flaws.items ++ cycles_from ss all seen (map item_view is)) (sym (next_at items i item c.loop-i-test.true c.index-items-i.is))
          ∙ c.loop-i.invariant.3 ss h,
    )

pub returns : goal.returns
returns c = record {
  value = λ ss h.
      let all = map item_view c.args.items.now in
      sym (append-nil (map flaw_view c.loop-i.flaws.items))
      ∙ ap (λ (is : List Item). map flaw_view c.loop-i.flaws.items ++ cycles_from ss all c.loop-i.invariant.0 (map item_view is)) (sym (past c.args.items.now c.loop-i.i c.loop-i-test.false))
      ∙ c.loop-i.invariant.3 ss h;
}
