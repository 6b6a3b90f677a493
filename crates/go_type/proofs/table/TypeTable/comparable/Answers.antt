use Rattle.std.proofs.Common.{◌≡◌, ℕ, true, subst, sym}
use Rattle.go_type.specs.Levels.{tree_of}
use Rattle.go_type.specs.Table.{names, places}
use Rattle.go_type.specs.Parts.{compares, every, holds_within}
use Rattle.go_type.proofs.PartLemmas.{parts_iff}
use Rattle.go_type.proofs.table.TypeTable.comparable.Goals as goal

pub returns : goal.returns
returns c =
    let ns = names c.args.self.now in
    let t = tree_of (places c.args.self.now) c.args.t in
    parts_iff compares ns c.len.result t c.holds.result (subst (λ (n : ℕ). holds_within every ns n t ≡ true) (sym c.len.ensures.value) c.requires.finite) c.holds.ensures.value
