use Rattle.std.proofs.Common.{◌≡◌, ℕ, true, subst, sym}
use Rattle.go_type.specs.Levels.{tree_of}
use Rattle.go_type.specs.Table.{names, places}
use Rattle.go_type.specs.Parts.{every, holds_within}
use Rattle.go_type.proofs.PartLemmas.{size_past, size_within_cap}
use Rattle.go_type.proofs.table.TypeTable.size_of.Goals as goal

pub returns-then-scalars-gt1048576 : goal.returns-then-scalars-gt1048576
returns-then-scalars-gt1048576 c =
    let ns = names c.args.self.now in
    let t = tree_of (places c.args.self.now) c.args.t in
    size_past ns c.len.result t 1048576 c.count-scalars.result (subst (λ (n : ℕ). holds_within every ns n t ≡ true) (sym c.len.ensures.value) c.requires.finite) c.count-scalars.ensures.value c.if-scalars-gt1048576.true

pub returns : goal.returns
returns c =
    let ns = names c.args.self.now in
    let t = tree_of (places c.args.self.now) c.args.t in
    size_within_cap ns c.len.result t 1048576 c.count-scalars.result (subst (λ (n : ℕ). holds_within every ns n t ≡ true) (sym c.len.ensures.value) c.requires.finite) c.count-scalars.ensures.value c.if-scalars-gt1048576.false
