use Rattle.std.proofs.Common.{◌≡◌, ◌-◌, ℕ, get_or, ◌∙◌, ap, sym, min}
use Rattle.go_type.specs.Table.{places, names}
use Rattle.go_type.specs.Parts.{size_at, size_within}
use Rattle.go_type.specs.Memo.{size_known}
use Rattle.go_type.specs.Tree.{Ty, bool}
use Rattle.go_type.proofs.PartLemmas.{size_none, size_step}
use Rattle.go_type.proofs.MemoLemmas.{known_size, all_kept}
use Rattle.go_type.proofs.sizes.+count.Goals as goal

pub count-returns-then-left-eq0-clause-value : goal.count-returns-then-left-eq0-clause-value
count-returns-then-left-eq0-clause-value t c = ap (λ (k : ℕ). min k 1048577) (sym (size_none (names c.args.table.now) c.args.left _ c.if-left-eq0.true))

pub count-returns-in-Some-clause-value : goal.count-returns-in-Some-clause-value
count-returns-in-Some-clause-value t c =
    let w = c.args.table.now in
    let e = ap (size_known c.args.t.0 c.args.left) (sym c.as_slice.ensures.value) ∙ sym c.in-Some.ensures in
    known_size 1048577 (names w) (places w) c.args.t.0 c.args.left c.args.memo.now.items c.in-Some.scalars c.requires.memo e

pub count-returns-in-None-clause-value : goal.count-returns-in-None-clause-value
count-returns-in-None-clause-value t c =
    let ns = names c.args.table.now in
    c.count_level-scalars.ensures.value
    ∙ ap (λ (u : Ty). min (size_at ns (size_within ns (c.args.left - 1)) u) 1048577) c.get.ensures.tree
    ∙ ap (λ (k : ℕ). min k 1048577) (size_step ns c.args.left _ c.if-left-eq0.false)

pub count-returns-in-None-clause-memo : goal.count-returns-in-None-clause-memo
count-returns-in-None-clause-memo t c =
    let w = c.args.table.now in
    let ns = names w in
    let ts = places w in
    let here = c.count_level-scalars.ensures.value
    ∙ ap (λ (u : Ty). min (size_at ns (size_within ns (c.args.left - 1)) u) 1048577) c.get.ensures.tree
    ∙ ap (λ (k : ℕ). min k 1048577) (size_step ns c.args.left _ c.if-left-eq0.false) in
    all_kept (λ (e : ℕ × ℕ × ℕ). e.2 ≡ min (size_within ns e.1 (get_or ts e.0 bool)) 1048577) c.keep_size.result c.count_level-scalars.new.memo.items c.keep_size.new.memo.items (c.args.t.0, c.args.left, c.count_level-scalars.result) c.keep_size.ensures.kept c.keep_size.ensures.same c.count_level-scalars.ensures.memo here
