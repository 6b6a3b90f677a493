use Rattle.go_load.proofs.ToldLemmas.{where_told, go_files, go_names_are_names}
use Rattle.go_load.proofs.names.list_root.Goals as goal

pub returns : goal.returns
returns g c =
    let names = c.in_ok-names.names.items in
    let found = c.in_ok-sorted_go_names.field-0.keys in
    let sorts = c.in_ok-sorted_go_names.ensures in (
      c.in_ok-names.ensures.0,
      go_names_are_names names found c.in_ok-names.ensures.1 sorts,
      where_told _ (λ tree are. go_files tree c.args.root.now names found c.in_ok-names.ensures.1 are sorts) c.in_ok-names.ensures.2,
    )
