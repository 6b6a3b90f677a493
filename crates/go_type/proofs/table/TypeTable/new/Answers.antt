use Rattle.std.proofs.Common.{◌≡◌, List, [], ◌∷◌, ◌++◌, length, ap, ◌∙◌, Some}
use Rattle.go_type.specs.declared.types.NamedType.{NamedType}
use Rattle.go_type.proofs.Start.{rises_new, places_new, names_start, below_start}
use Rattle.go_type.proofs.table.TypeTable.new.Goals as goal

pub invariant_of-result : goal.invariant_of-result
invariant_of-result c =
    let v : NamedType = record { name = c.in_ok-from_slice.field-0; «package» = c.new.result; under = Some (record { 0 = 18 }); methods = c.new-2.result } in
    let items : c.push.new.self.items ≡ v ∷ [] = c.in_ok-push.ensures.items ∙ ap (λ (xs : List NamedType). xs ++ v ∷ []) c.new-names.ensures.items in
    record {
      distinct = c.in_ok-levels.ensures.distinct;
      rises = rises_new _ _ c.in_ok-levels.ensures.keys (ap length items);
      names_below = below_start _ _ c.in_ok-from_slice.field-0 c.new.result c.new-2.result c.in_ok-levels.ensures.keys items c.new-2.ensures;
    }

pub returns-clause-places : goal.returns-clause-places
returns-clause-places c = places_new _ c.in_ok-levels.ensures.keys

pub returns-clause-names : goal.returns-clause-names
returns-clause-names c =
    let v : NamedType = record { name = c.in_ok-from_slice.field-0; «package» = c.new.result; under = Some (record { 0 = 18 }); methods = c.new-2.result } in
    let items : c.push.new.self.items ≡ v ∷ [] = c.in_ok-push.ensures.items ∙ ap (λ (xs : List NamedType). xs ++ v ∷ []) c.new-names.ensures.items in
    names_start _ _ c.in_ok-from_slice.field-0 c.new.result c.new-2.result c.in_ok-levels.ensures.keys items c.in_ok-from_slice.ensures.value c.new.ensures c.new-2.ensures
