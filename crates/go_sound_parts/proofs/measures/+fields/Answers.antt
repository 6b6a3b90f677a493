use Rattle.std.proofs.Common.{◌≡◌, List, [], ◌∷◌, rules, sym, subst}
use Rattle.std.proofs.lemmas.List.{nil_from_length}
use Rattle.std.specs.Prelude.{IfSome}
use Rattle.go_type.specs.Levels.{fields_of, tree_of}
use Rattle.go_type.specs.declared.types.FieldRow.{FieldRow}
use Rattle.go_sound_parts.specs.Measures.{AreMeasured}
use Rattle.go_sound_parts.proofs.measures.+fields.Goals as goal

pub returns-in-Some-fields : goal.returns-in-Some-fields
returns-in-Some-fields t c = record {
  is = λ ns ts h.
      let row = c.in-Some.row.now in
      let others = c.in-Some.others.now in
      let e : c.args.rows.now ≡ row ∷ others = search rules in
      subst (λ (rs : List FieldRow). IfSome c.joined.result (λ m. AreMeasured ns (fields_of ts rs) m)) (sym e)
      (c.joined.ensures.is ns row.name row.package row.tag (tree_of ts row.ty) row.embedded (fields_of ts others) (h row.ty c.in-Some-known.m c.in-Some-known.ensures.is) (c.in-Some-fields.ensures.is ns ts h));
}

pub returns-in-None : goal.returns-in-None
returns-in-None t c = record {
  is = λ ns ts h.
      let e : c.args.rows.now ≡ [] = nil_from_length c.args.rows.now (search rules) in
      subst (λ (rs : List FieldRow). AreMeasured ns (fields_of ts rs) c.no_fields.result) (sym e) (c.no_fields.ensures.is ns);
}
