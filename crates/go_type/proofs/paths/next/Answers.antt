use Rattle.std.proofs.Common.{◌≡◌, ◌+◌, ◌∷◌, ◌++◌, [], List, true, false, sym, ◌∙◌, ap, subst, rules}
use Rattle.go_type.specs.Levels.{tree_of, fields_of}
use Rattle.go_type.specs.Table.{places, names}
use Rattle.go_type.specs.Members.{Member, sought, members_at, through, through_one, NoneBefore}
use Rattle.go_type.specs.declared.types.FieldRow.{FieldRow}
use Rattle.go_type.specs.Tree.{Ty}
use Rattle.go_type.proofs.WalkLemmas.{quiet_field, quiet_others, leads_embedded, leads_nowhere}
use Rattle.go_type.proofs.PathLemmas.{leads}
use Rattle.go_type.proofs.paths.next.Goals as goal

pub returns-then-leads_on-clause-leads : goal.returns-then-leads_on-clause-leads
returns-then-leads_on-clause-leads c m e =
    let ts = places c.args.table.now in
    let p = members_at (names c.args.table.now) (sought c.args.name.now c.args.«package».now) c.args.depth in
    let field = c.in-Some.field.now in
    let r : c.fields.rest.now ≡ field ∷ c.in-Some.others.now = search rules in
    let yes_ : c.leads_on.result ≡ true = search rules in
    let here : through p c.fields.place (fields_of ts (field ∷ c.in-Some.others.now)) ≡ m ∷ [] = ap (λ (fs : List FieldRow). through p c.fields.place (fields_of ts fs)) (sym r) ∙ sym c.fields.invariant.rest ∙ e in
    let x = leads p c.fields.place (tree_of ts field.ty) field.embedded c.leads_on.result c.base-follows.result.1 (through p (c.fields.place + 1) (fields_of ts c.in-Some.others.now)) m c.leads_on.ensures yes_ (c.base-follows.ensures.pointer c.fields.place) here in
    (x.0, ap p c.base-follows.ensures.tree ∙ x.1, x.2)

pub leads_on-requires-clause-quiet : goal.leads_on-requires-clause-quiet
leads_on-requires-clause-quiet c yes_ =
    let w = c.args.table.now in
    let ts = places w in
    let ns = names w in
    let f = sought c.args.name.now c.args.«package».now in
    let r = c.in-Some.field.now in
    let fs = c.in-Some.others.now in
    let e : c.fields.rest.now ≡ r ∷ fs = search rules in
    record {
      at = λ k l. quiet_field (members_at ns f k) c.fields.place (tree_of ts r.ty) r.embedded (through (members_at ns f k) (c.fields.place + 1) (fields_of ts fs)) yes_
          (subst (λ (xs : List FieldRow). through (members_at ns f k) c.fields.place (fields_of ts xs) ≡ []) e (c.fields.invariant.quiet k l));
    }

pub returns-then-leads_on-clause-quiet : goal.returns-then-leads_on-clause-quiet
returns-then-leads_on-clause-quiet c =
    let w = c.args.table.now in
    let ts = places w in
    let ns = names w in
    let f = sought c.args.name.now c.args.«package».now in
    let r = c.in-Some.field.now in
    let fs = c.in-Some.others.now in
    let e : c.fields.rest.now ≡ r ∷ fs = search rules in
    let yes_ : c.leads_on.result ≡ true = search rules in
    let embedded : r.embedded ≡ true = leads_embedded (members_at ns f c.args.depth) (tree_of ts r.ty) r.embedded c.leads_on.result c.leads_on.ensures yes_ in
    subst (λ (u : Ty). NoneBefore ns f u c.args.depth) (sym c.base-follows.ensures.tree) (record {
      at = λ k l. quiet_field (members_at ns f k) c.fields.place (tree_of ts r.ty) r.embedded (through (members_at ns f k) (c.fields.place + 1) (fields_of ts fs)) embedded
          (subst (λ (xs : List FieldRow). through (members_at ns f k) c.fields.place (fields_of ts xs) ≡ []) e (c.fields.invariant.quiet k l));
    })

pub fields-preserved : goal.fields-preserved
fields-preserved c =
    let w = c.args.table.now in
    let ts = places w in
    let ns = names w in
    let f = sought c.args.name.now c.args.«package».now in
    let p = members_at ns f c.args.depth in
    let r = c.in-Some.field.now in
    let fs = c.in-Some.others.now in
    let e : c.fields.rest.now ≡ r ∷ fs = search rules in
    let no : c.leads_on.result ≡ false = search rules in
    record {
      rest = c.fields.invariant.rest ∙ ap (λ (xs : List FieldRow). through p c.fields.place (fields_of ts xs)) e
          ∙ ap (λ (ms : List Member). ms ++ through p (c.fields.place + 1) (fields_of ts fs)) (leads_nowhere p c.fields.place (tree_of ts r.ty) r.embedded c.leads_on.result c.leads_on.ensures no);
      quiet = λ k l. quiet_others (through_one (members_at ns f k) c.fields.place (tree_of ts r.ty) r.embedded) (through (members_at ns f k) (c.fields.place + 1) (fields_of ts fs))
          (subst (λ (xs : List FieldRow). through (members_at ns f k) c.fields.place (fields_of ts xs) ≡ []) e (c.fields.invariant.quiet k l));
      below = search rules;
      counted = search rules;
    }
