use Rattle.std.proofs.Common.{◌≡◌, ℕ, ◌-◌, true, false, get_or, ap, sym, ◌∙◌, rules}
use Rattle.go_type.specs.Tree.{Ty, bool}
use Rattle.go_type.specs.Table.{places, names}
use Rattle.go_type.specs.Parts.{holds_at, holds_within}
use Rattle.go_type.specs.Leaf.{leaf_test}
use Rattle.go_type.specs.Memo.{is_known}
use Rattle.go_type.proofs.PartLemmas.{within_none, within_step}
use Rattle.go_type.proofs.MemoLemmas.{known_holds, all_kept}
use Rattle.go_type.proofs.parts.+holds.Goals as goal

pub holds-returns-then-left-eq0-clause-value : goal.holds-returns-then-left-eq0-clause-value
holds-returns-then-left-eq0-clause-value t c = within_none (leaf_test c.args.asked) (names c.args.table.now) c.args.left _ c.if-left-eq0.true

pub holds-returns-then-is_known-clause-value : goal.holds-returns-then-is_known-clause-value
holds-returns-then-is_known-clause-value t c =
    let w = c.args.table.now in
    let e = ap (is_known c.args.t.0 c.args.left) (sym c.as_slice.ensures.value) ∙ sym c.is_known.ensures ∙ c.if-is_known.true in
    sym (known_holds (leaf_test c.args.asked) (names w) (places w) c.args.t.0 c.args.left c.args.memo.now.items c.requires.memo e)

pub holds-returns-then-not-holds_level-clause-value : goal.holds-returns-then-not-holds_level-clause-value
holds-returns-then-not-holds_level-clause-value t c =
    let w = c.args.table.now in
    let test = leaf_test c.args.asked in
    let no : c.holds_level.result ≡ false = search rules in
    sym no ∙ c.holds_level.ensures.value
    ∙ ap (λ (u : Ty). holds_at test (names w) (holds_within test (names w) (c.args.left - 1)) u) c.get.ensures.tree
    ∙ within_step test (names w) c.args.left _ c.if-left-eq0.false

pub holds-returns-clause-value : goal.holds-returns-clause-value
holds-returns-clause-value t c =
    let w = c.args.table.now in
    let test = leaf_test c.args.asked in
    let yes_ : c.holds_level.result ≡ true = search rules in
    sym yes_ ∙ c.holds_level.ensures.value
    ∙ ap (λ (u : Ty). holds_at test (names w) (holds_within test (names w) (c.args.left - 1)) u) c.get.ensures.tree
    ∙ within_step test (names w) c.args.left _ c.if-left-eq0.false

pub holds-returns-clause-memo : goal.holds-returns-clause-memo
holds-returns-clause-memo t c =
    let w = c.args.table.now in
    let ns = names w in
    let ts = places w in
    let test = leaf_test c.args.asked in
    let yes_ : c.holds_level.result ≡ true = search rules in
    let here : holds_within test ns c.args.left (get_or ts c.args.t.0 bool) ≡ true =
    sym (sym yes_ ∙ c.holds_level.ensures.value ∙ ap (λ (u : Ty). holds_at test ns (holds_within test ns (c.args.left - 1)) u) c.get.ensures.tree ∙ within_step test ns c.args.left _ c.if-left-eq0.false) in
    all_kept (λ (e : ℕ × ℕ). holds_within test ns e.1 (get_or ts e.0 bool) ≡ true) c.keep.result c.holds_level.new.memo.items c.keep.new.memo.items (c.args.t.0, c.args.left) c.keep.ensures.kept c.keep.ensures.same c.holds_level.ensures.memo here
