-- What the lists of fields, members and parameters are with one more.
use Rattle.std.proofs.Common.{◌≡◌, ◌∙◌, ◌∷◌, ◌++◌, List, [], ℕ, Option, map, refl, ap, sym}
use Rattle.std.proofs.lemmas.List.{map-append}
use Rattle.std.proofs.Math.Path.{fun_ext}
use Rattle.go_syntax.specs.Tree as t
use Rattle.go_syntax.specs.View.{field_view, member_view}
use Rattle.go_syntax.specs.declared.tree.Field.{Field}
use Rattle.go_syntax.specs.declared.tree.Member.{Member}
use Rattle.go_grammar.specs.Frames as f
use Rattle.go_grammar.specs.ExprSteps as steps
use Rattle.go_grammar.specs.Nodes.{and}
use Rattle.go_frames.specs.FrameView.{field_of}

-- the views of some parts and of one more, whose view is known before each rest
pub and_view : {A B : Type 0} (view : A → B → B) (xs : List A) (x : A) (part : B → B) → ((rest : B) → view x rest ≡ part rest) → map view (xs ++ x ∷ []) ≡ and (map view xs) part
and_view {A} {B} view xs x part e = map-append view xs (x ∷ []) ∙ ap (λ (p : B → B). map view xs ++ p ∷ []) (fun_ext e)

-- a field put after those of a struct, whatever it is
with_field_is : (x : f.StructPart) (u : steps.Untagged) (tag : Option (List ℕ)) → record x { fields = and x.fields (field_of u tag) } ≡ steps.with_field x u tag
with_field_is x (steps.NamedOnes names e) tag = refl
with_field_is x (steps.EmbeddedOne y) tag = refl

pub and_field : (x : f.StructPart) (xs all : List Field) (field : Field) (u : steps.Untagged) (tag : Option (List ℕ)) → x.fields ≡ map field_view xs → all ≡ xs ++ field ∷ [] → ((rest : t.Fields) → field_view field rest ≡ field_of u tag rest) → record x { fields = map field_view all } ≡ steps.with_field x u tag
and_field x xs all field u tag same e h =
    ap (λ (fs : List (t.Fields → t.Fields)). record x { fields = fs })
    (ap (map field_view) e ∙ and_view field_view xs field (field_of u tag) h ∙ ap (λ (fs : List (t.Fields → t.Fields)). and fs (field_of u tag)) (sym same))
    ∙ with_field_is x u tag

pub and_member : (x : f.InterfacePart) (xs all : List Member) (member : Member) → x.members ≡ map member_view xs → all ≡ xs ++ member ∷ [] → record x { members = map member_view all } ≡ steps.with_member x (member_view member)
and_member x xs all member same e =
    ap (λ (ms : List (t.Members → t.Members)). record x { members = ms })
    (ap (map member_view) e ∙ map-append member_view xs (member ∷ []) ∙ ap (λ (ms : List (t.Members → t.Members)). and ms (member_view member)) (sym same))

-- a member whose view is known before each rest
pub member_is : (x : f.InterfacePart) (member : Member) (part : t.Members → t.Members) → ((rest : t.Members) → member_view member rest ≡ part rest) → steps.with_member x (member_view member) ≡ steps.with_member x part
member_is x member part h = ap (steps.with_member x) (fun_ext h)
