use Rattle.std.proofs.Common.{◌≡◌, ◌++◌, List, [], ap, sym, ◌∙◌, subst}
use Rattle.std.proofs.lemmas.List.{append-nil}
use Rattle.go_type.specs.Tree.{Ty}
use Rattle.go_type.specs.Levels.{tree_of}
use Rattle.go_type.specs.Table.{places, names}
use Rattle.go_type.specs.Members.{sought, fields_found, fields_in}
use Rattle.go_type.specs.Paths.{path_of}
use Rattle.go_type.specs.declared.steps.Step.{Step}
use Rattle.go_type.proofs.PathLemmas.{own_method}
use Rattle.go_type.proofs.paths.own_steps.Goals as goal

pub returns-in-None : goal.returns-in-None
returns-in-None c m e =
    let ts = places c.args.table.now in
    let f = sought c.args.name.now c.args.«package».now in
    let none = subst (λ (u : Ty). fields_found f 0 (fields_in u) ≡ []) (c.get.ensures.tree ∙ c.underlying.ensures.tree) c.in-None.ensures.none in
    let bare : path_of m ≡ [] = own_method (names c.args.table.now) f (tree_of ts c.args.t) m none e in
    sym (append-nil c.args.steps.items) ∙ ap (λ (p : List Step). c.args.steps.items ++ p) (sym bare)
