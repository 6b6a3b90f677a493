use Rattle.std.proofs.Common.{◌≡◌, Bool, true, false, [], List, length, ap, sym, ◌∙◌, subst, append-nil}
use Rattle.std.proofs.lemmas.Result.{IfOk-weaker}
use Rattle.js_pool.specs.Says as says
use Rattle.js_pool.specs.declared.node.Item.{Item}
use Rattle.js_emit.specs.Items.{is_kept, AddsOne}
use Rattle.js_emit.proofs.Kept.{item_at}
use Rattle.js_emit.proofs.items.add_one.Goals as goal

pub returns-then-keeps : goal.returns-then-keeps
returns-then-keeps c =
    let keeps = λ (xs : List Item). is_kept c.args.reach.now.reached.items (length xs) c.args.n in
    let e : true ≡ keeps c.args.pool.now.items.items = c.if-keeps.ensures ∙ ap keeps c.as_slice-made.ensures.value in
    let there = item_at _ _ c.args.n c.in-Some.item c.as_slice-made.ensures.value c.in-Some.ensures.lookup in
    IfOk-weaker c.add_tree.result _ _ (λ _ h. (c.in-Some.item.now, there, subst (λ (b : Bool). AddsOne c.args.pool.now b c.in-Some.item.now c.args.items.now.items c.add_tree.new.items.items) e h)) c.add_tree.ensures

pub returns-else-keeps : goal.returns-else-keeps
returns-else-keeps c =
    let keeps = λ (xs : List Item). is_kept c.args.reach.now.reached.items (length xs) c.args.n in
    let e : false ≡ keeps c.args.pool.now.items.items = c.if-keeps.ensures ∙ ap keeps c.as_slice-made.ensures.value in
    let there = item_at _ _ c.args.n c.in-Some.item c.as_slice-made.ensures.value c.in-Some.ensures.lookup in
    let same = c.args.items.now.items in
    (c.in-Some.item.now, there, subst (λ (b : Bool). AddsOne c.args.pool.now b c.in-Some.item.now same same) e ([], sym (append-nil same), says.top_none))
