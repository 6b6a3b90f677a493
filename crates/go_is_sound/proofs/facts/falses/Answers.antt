use Rattle.std.proofs.Common.{◌≡◌, ◌++◌, ◌∷◌, [], Bool, false, List, sym, subst, rules}
use Rattle.go_is_sound.specs.Rows.{AreDeclared}
use Rattle.go_is_sound.proofs.FactLemmas.{none_marked, not_marked}
use Rattle.go_is_sound.proofs.facts.falses.Goals as goal

pub marks-init : goal.marks-init
marks-init c = λ q. subst (λ (bs : List Bool). AreDeclared q bs) (sym c.new-list.ensures.items) (none_marked q)

pub marks-preserved : goal.marks-preserved
marks-preserved c = λ q.
    let e : c.push.new.self.items ≡ c.marks.list.items ++ false ∷ [] = search rules in
    subst (λ (bs : List Bool). AreDeclared q bs) (sym e) (not_marked q c.marks.list.items (c.marks.invariant q))
