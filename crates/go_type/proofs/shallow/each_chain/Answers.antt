use Rattle.std.proofs.Common.{◌≡◌, ◌≤◌, ◌+◌, false, length, sym, ◌∙◌, arith, inl, inr, rules}
use Rattle.std.proofs.lemmas.Bool.{cases_lt}
use Rattle.go_type.specs.Levels.{trees, tree_of}
use Rattle.go_type.specs.Table.{places, names}
use Rattle.go_type.specs.Members.{sought}
use Rattle.go_type.proofs.LevelLemmas.{length_trees}
use Rattle.go_type.proofs.Closed.{closed}
use Rattle.go_type.proofs.Finite.{dead, empty_on}
use Rattle.go_type.proofs.shallow.each_chain.Goals as goal

pub returns-then-not-goes_deep-clause-none : goal.returns-then-not-goes_deep-clause-none
returns-then-not-goes_deep-clause-none c d =
    let ns = names c.args.table.now in
    let f = sought c.args.name.now c.args.«package».now in
    let t = tree_of (places c.args.table.now) c.args.t in
    let e : c.goes_deep.result ≡ false = search rules in
    elim (cases_lt d c.loop-depth.depth) [ inl l ↦ c.loop-depth.invariant d l | inr l ↦ dead ns f c.loop-depth.depth d t l (sym c.goes_deep.ensures ∙ e) ]

pub returns-clause-none : goal.returns-clause-none
returns-clause-none c d =
    let s = c.args.table.now in
    let gs = s.levels.keys in
    let len : length (trees gs) ≡ length gs = length_trees gs in
    let end : length gs + 1 ≤ c.loop-depth.depth = omega (arith, c.len-depth-end.ensures.value, c.loop-depth-test.false) in
    empty_on (names s) (sought c.args.name.now c.args.«package».now) (trees gs) (closed gs s.names.items s.rises s.names_below) c.args.t.0 (omega (arith, c.requires))
    (λ e l. c.loop-depth.invariant e (omega arith)) d
