use Rattle.std.proofs.Common.{◌≡◌, ◌∙◌, List, ap, rules, sym, subst}
use Rattle.std.specs.Prelude.{IfSome}
use Rattle.go_type.specs.Tree.{Ty, array, struct}
use Rattle.go_type.specs.Levels.{fields_of, level, tree_of}
use Rattle.go_type.specs.Table.{places, names}
use Rattle.go_type.specs.declared.types.FieldRow.{FieldRow}
use Rattle.go_sound_parts.specs.Measures.{IsMeasured}
use Rattle.go_sound_parts.proofs.measures.measured.Goals as goal

pub returns-in-Some : goal.returns-in-Some
returns-in-Some c = record {
  is = λ h.
      let w = c.args.table.now in
      let ts = places w in
      let e : level ts c.args.g.now ≡ array c.in-Array.count (tree_of ts c.in-Array.element) = ap (level ts) c.in-Array.is in
      subst (λ (u : Ty). IfSome c.array.result (λ r. IsMeasured (names w) u r)) (sym e)
      (c.array.ensures.is (names w) (tree_of ts c.in-Array.element) (h c.in-Array.element c.in-Some.m c.in-Some.ensures.is));
}

pub returns-in-Some-fields : goal.returns-in-Some-fields
returns-in-Some-fields c = record {
  is = λ h.
      let w = c.args.table.now in
      let ts = places w in
      let xs = c.as_slice.result.now in
      let e : level ts c.args.g.now ≡ struct (fields_of ts c.in-Struct.rows) = ap (level ts) c.in-Struct.is in
      let f : c.as_slice.result.now ≡ c.in-Struct.rows = search rules in
      subst (λ (u : Ty). IsMeasured (names w) u c.struct_of.result) (ap (λ (rs : List FieldRow). struct (fields_of ts rs)) f ∙ sym e)
      (c.struct_of.ensures.is (names w) (fields_of ts xs) (c.in-Some-fields.ensures.is (names w) ts h));
}

pub returns-in_default : goal.returns-in_default
returns-in_default c = record { is = λ h. c.leaf.ensures.is (names c.args.table.now) (places c.args.table.now) }
