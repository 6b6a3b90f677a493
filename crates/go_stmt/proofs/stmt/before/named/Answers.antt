use Rattle.std.proofs.Common.{List, ap, map, ◌++◌, ◌∙◌, [], append_assoc}
use Rattle.go_operands.specs.AnswerView.{flaw_view}
use Rattle.go_items.specs.ItemView.{item_view, decls_of}
use Rattle.go_typing.specs.Checked.{known_in}
use Rattle.go_typing.specs.Cycles.{cycle_flaws}
use Rattle.go_typing.specs.Items.{Item, items_of}
use Rattle.go_typing.specs.Told.{names_told}
use Rattle.go_syntax.specs.View.{file_view}
use Rattle.go_typing.specs.Answer.{Flaw}
use Rattle.go_stmt.proofs.stmt.before.named.Goals as goal

pub returns-clause-stands : goal.returns-clause-stands
returns-clause-stands c =
    let ds = decls_of (map file_view c.args.files.now) in
    c.in_ok-known.ensures.value ds (ap (map item_view) c.as_slice-2.ensures.value ∙ c.in_ok-items.ensures.value) c.in_ok-first.ensures.stands

pub returns-clause-told : goal.returns-clause-told
returns-clause-told c =
    let ds = decls_of (map file_view c.args.files.now) in
    let old = map flaw_view c.args.flaws.now.items in
    let more = cycle_flaws (known_in ds).binds (items_of ds) in
    c.in_ok-known.ensures.told ds (ap (map item_view) c.as_slice-2.ensures.value ∙ c.in_ok-items.ensures.value) c.in_ok-first.ensures.stands
    ∙ ap (λ (fs : List Flaw). fs ++ more) (c.in_ok-names_told.ensures.told ∙ ap (λ (is : List Item). old ++ names_told [] is) (ap (map item_view) c.as_slice.ensures.value ∙ c.in_ok-items.ensures.value))
    ∙ append_assoc old (names_told [] (items_of ds)) more

pub invariant_of-env : goal.invariant_of-env
invariant_of-env c =
    let e = c.in_ok-first.first.env in
    record { begins = e.begins; universe_within = e.universe_within; packages_within = e.packages_within; blocks_within = e.blocks_within }

pub invariant_of-env-in_err-known : goal.invariant_of-env-in_err-known
invariant_of-env-in_err-known c =
    let e = c.known.new.env in
    record { begins = e.begins; universe_within = e.universe_within; packages_within = e.packages_within; blocks_within = e.blocks_within }
