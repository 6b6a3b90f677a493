use Rattle.std.proofs.Common.{arith, ◌≡◌, ◌<◌, length}
use Rattle.std.proofs.lemmas.Bool.Decides.{nat_tests}
use Rattle.go_syntax.specs.declared.tree.ValueSpec.{out-ValueSpec}
use Rattle.go_items.proofs.ListLemmas.{none_of}
use Rattle.go_items.proofs.ItemLemmas.{list_missing, list_given}
use Rattle.go_items.proofs.items.constant.source_of.Goals as goal

pub returns-then-is_empty : goal.returns-then-is_empty
returns-then-is_empty c =
    let h : length (out-ValueSpec c.args.spec.now).values.items ≡ 0 = grind (arith, nat_tests, c.is_empty.ensures, c.if-is_empty.true, (out-ValueSpec c.args.spec.now).values.ok.0) in
    record { value = λ k rest. list_missing k _ _ c.args.spec.now rest (none_of _ h) }

pub returns : goal.returns
returns c =
    let h : 0 < length (out-ValueSpec c.args.spec.now).values.items = grind (arith, nat_tests, c.is_empty.ensures, c.if-is_empty.false, (out-ValueSpec c.args.spec.now).values.ok.0) in
    record { value = λ k rest. list_given k _ _ c.args.spec.now rest h }
