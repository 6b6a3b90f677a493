use Rattle.std.proofs.Common.{length, List}
use Rattle.go_type.specs.Tree.{Ty}
use Rattle.go_type.specs.Levels.{tree_of, specs_of}
use Rattle.go_type.specs.Table.{places, names, size}
use Rattle.go_type.specs.Members.{specs_found}
use Rattle.go_type.specs.Tried.{AreMethods, Tries}
use Rattle.go_type.specs.declared.types.MethodSpec.{MethodSpec}
use Rattle.go_type.proofs.tries.try_specs.Given as goal

abbrev pub invariant-names : goal.invariant-names
invariant-names l = record {
  are : AreMethods (size l.table) (places l.table) (names l.table) (tree_of (places l.table) l.t) l.indirect l.specs.items;
  rest : (of_ : Ty) (new : List MethodSpec) → Tries (size l.table) (places l.table) (names l.table) (tree_of (places l.table) l.t) l.indirect (λ f. specs_found f of_ (specs_of (places l.table) l.rest)) l.specs.items new
      → Tries (size l.table) (places l.table) (names l.table) (tree_of (places l.table) l.t) l.indirect (λ f. specs_found f of_ (specs_of (places l.table) l.tried)) l.fn.specs.items new;
}

abbrev pub decreases-names : goal.decreases-names
decreases-names l = length l.rest
