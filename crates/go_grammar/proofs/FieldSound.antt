-- Each step of a frame of a field or a member keeps the invariant.
use Rattle.std.proofs.Common.{◌≡◌, ◌||◌, Bool, true, ℕ, List, [], ◌∷◌, ◌++◌, Option, Some, refl, ap, sym, ◌∙◌, subst, append_assoc, append-nil, if◌then◌else◌}
use Rattle.gj_base.specs.declared.place.Place.{Place}
use Rattle.go_syntax.specs.Tree as t
use Rattle.go_syntax.specs.Token.{Token}
use Rattle.go_syntax.specs.View.{joined}
use Rattle.go_syntax.specs.declared.keyword.Keyword.TheVariants as word
use Rattle.go_syntax.specs.declared.operator.Operator.TheVariants as o
use Rattle.go_syntax.specs.declared.tree.Name.{Name}
use Rattle.go_grammar.specs.Classes.{IsOp, IsWord, IsName, IsSemicolon, name_of, place_of}
use Rattle.go_grammar.specs.Grammar as g
use Rattle.go_grammar.specs.Grammar.{IsType, AreNames, AreFields, AreMembers, IsTypeName, PerhapsTag, PerhapsOp}
use Rattle.go_grammar.specs.Frames as f
use Rattle.go_grammar.specs.Frames.{Ctx, FieldFrame, StructPart, InterfacePart, Embedded, Frame, OfField, OfType, Done, Stack, Flow, Goes, Stuck, AnExpr, ASig}
use Rattle.go_grammar.specs.Nodes.{is_op, is_name_token, is_string, is_semicolon, select}
use Rattle.go_grammar.specs.ExprSteps.{if_op, Untagged, NamedOnes, EmbeddedOne, with_field, field_end, end_field, with_member, member_end, unstarred, field_row, field_meets, method_meets}
use Rattle.go_grammar.proofs.TokenLemmas.{name_is, string_is, semicolon_is}
use Rattle.go_grammar.proofs.Wanted.{Want, Is, TakesBegun}
use Rattle.go_grammar.proofs.HeldExprs as h
use Rattle.go_grammar.proofs.HeldExprs.{HoldsField, waits_field, FieldsHeld, MembersHeld, StructHeld, StructEnded, InterfaceHeld, InterfaceEnded, EmbeddedHeld, EmbeddedOpen}
use Rattle.go_grammar.proofs.Stands.{DoneIs, Good, good, stuck, open_one, open_at, within_new, good_at, good_if, good_op}
use Rattle.go_grammar.proofs.BeginSound.{type_opens}
use Rattle.go_grammar.proofs.TypeSound.{begun_is}
use Rattle.go_grammar.proofs.SigSound.{joined_more, params_opens}

-- one more name at the end
pub names_more : {ts us : List Token} {xs ys : List Name} {u : Token} → AreNames ts xs → IsOp o.Comma u → AreNames us ys → AreNames (ts ++ u ∷ us) (xs ++ ys)
names_more (g.one_name n) q d = g.more_names n q d
names_more (g.more_names n p e) q d = g.more_names n p (names_more e q d)

-- a field without its tag and `;`
data UntaggedIs : List Token → Untagged → Type 0 where
  named_ones : {ts us : List Token} {ys : List Name} {e : t.Expr} → AreNames ts ys → IsType us e → UntaggedIs (ts ++ us) (NamedOnes ys e)
  embedded_one : {ts : List Token} {y : Embedded} → EmbeddedHeld y ts → UntaggedIs ts (EmbeddedOne y)

field_last : {ts us vs : List Token} {x : Untagged} {tag : Option (List ℕ)} (c : StructPart) → FieldsHeld ts c.fields → UntaggedIs us x → PerhapsTag vs tag → AreFields (ts ++ (us ++ vs)) (joined (with_field c x tag).fields t.NoFields)
field_last {ts} {vs = vs} {tag = tag} c k (named_ones {ts = ns} {us} {ys} {e} d i) p =
    subst (λ z. AreFields (ts ++ (ns ++ us ++ vs)) z) (sym (joined_more c.fields (λ rest. t.NamedFields ys e tag rest) t.NoFields))
    (k.held ((ns ++ us) ++ vs) (t.NamedFields ys e tag t.NoFields) (g.last_named d i p))
field_last {ts} {vs = vs} {tag = tag} c k (embedded_one (h.embedded_held {star} {ss} {ts = ns} {e} q i)) p =
    let node : t.Fields → t.Fields = λ rest. t.EmbeddedField (place_of (ss ++ ns)) star e tag rest in
    subst (λ z. AreFields (ts ++ (ss ++ ns ++ vs)) z) (sym (joined_more c.fields node t.NoFields))
    (k.held ((ss ++ ns) ++ vs) (node t.NoFields) (g.last_embedded q i p))

-- what comes after a field and its `;`
field_next : {us vs : List Token} {x : Untagged} {tag : Option (List ℕ)} {u : Token} {ws : List Token} {r : t.Fields} (c : StructPart) (ts : List Token) → FieldsHeld ts c.fields → UntaggedIs us x → PerhapsTag vs tag → IsSemicolon u → AreFields ws r → AreFields (ts ++ (us ++ vs ++ u ∷ ws)) (joined (with_field c x tag).fields r)
field_next {vs = vs} {tag = tag} {u} {ws} {r} c ts k (named_ones {ts = ns} {us} {ys} {e} d i) p z j =
    subst (λ y. AreFields (ts ++ (ns ++ us ++ vs ++ u ∷ ws)) y) (sym (joined_more c.fields (λ rest. t.NamedFields ys e tag rest) r))
    (k.held ((ns ++ us) ++ vs ++ u ∷ ws) (t.NamedFields ys e tag r) (g.more_named d i p z j))
field_next {vs = vs} {tag = tag} {u} {ws} {r} c ts k (embedded_one (h.embedded_held {star} {ss} {ts = ns} {e} q i)) p z j =
    let node : t.Fields → t.Fields = λ rest. t.EmbeddedField (place_of (ss ++ ns)) star e tag rest in
    subst (λ y. AreFields (ts ++ (ss ++ ns ++ vs ++ u ∷ ws)) y) (sym (joined_more c.fields node r))
    (k.held ((ss ++ ns) ++ vs ++ u ∷ ws) (node r) (g.more_embedded q i p z j))

field_more : {us vs : List Token} {x : Untagged} {tag : Option (List ℕ)} (c : StructPart) (ts : List Token) → FieldsHeld ts c.fields → UntaggedIs us x → PerhapsTag vs tag → (u : Token) → IsSemicolon u → FieldsHeld (ts ++ (us ++ vs) ++ u ∷ []) (with_field c x tag).fields
field_more {us} {vs} {x} {tag} c ts k d p u z = record {
  held = λ ws r j.
      subst (λ y. AreFields y (joined (with_field c x tag).fields r)) (sym (append_assoc ts (us ++ vs) (u ∷ ws)) ∙ sym (append_assoc (ts ++ (us ++ vs)) (u ∷ []) ws))
      (field_next c ts k d p z j);
}

with_parts : (c : Ctx) (p : Place) (xs : List (t.Fields → t.Fields)) (x : Untagged) (tag : Option (List ℕ)) → with_field (record { ctx = c; place = p; fields = xs }) x tag ≡ record { ctx = c; place = p; fields = (with_field (record { ctx = c; place = p; fields = xs }) x tag).fields }
with_parts c p xs (NamedOnes ys e) tag = refl
with_parts c p xs (EmbeddedOne y) tag = refl

-- a struct type with a field more, which may have a tag
ended : {x : StructPart} {w : Want} {ts us vs : List Token} {y : Untagged} {tag : Option (List ℕ)} → StructHeld x ts w → UntaggedIs us y → PerhapsTag vs tag → StructEnded (with_field x y tag) (ts ++ (us ++ vs)) w
ended {w = w} {us = us} {vs} {y} {tag} (h.struct_held {c} {xs} {ts} {u} {v} m b k l) d p =
    let x : StructPart = record { ctx = c; place = u.place; fields = xs } in
    subst (λ z. StructEnded z (u ∷ v ∷ (ts ++ (us ++ vs))) w) (sym (with_parts c u.place xs y tag)) (h.struct_ended m b k (field_last x l d p) (field_more x ts l d p))

struct_done : {w : Want} {ts : List Token} {xs : t.Fields} {v y : Token} (u : Token) → IsWord word.Struct v → IsOp o.LeftBrace y → TakesBegun w v → AreFields ts xs → IsOp o.RightBrace u → DoneIs (AnExpr (t.StructType v.place xs)) (v ∷ y ∷ ts ++ u ∷ []) w
struct_done u m b k d q = record { is = λ x. begun_is x k (g.struct_type m b d q) refl refl refl refl refl refl }

field_end_good : {x : StructPart} {w : Want} {ts : List Token} (u : Token) (s : Stack) → StructEnded x ts w → Good u w ts s (field_end u x s)
field_end_good u s (h.struct_ended {c} {w} {xs} {ts} {u = v} {v = y} m b k d l) =
    good_if (is_semicolon u.kind) (λ q. good (open_one (OfField (f.InStruct (record { ctx = c; place = v.place; fields = xs }))) (h.in_struct (h.struct_held m b k (l u (semicolon_is q)))))) (λ n.
    good_op o.RightBrace (λ q. good (open_one (Done (AnExpr (t.StructType v.place (joined xs t.NoFields)))) (struct_done u m b k d q))) (λ n. stuck))

-- the end of a field
end_field_good : {x : StructPart} {w : Want} {ts us : List Token} {y : Untagged} (u : Token) (s : Stack) → StructHeld x ts w → UntaggedIs us y → Good u w (ts ++ us) s (end_field u x y s)
end_field_good {x} {w} {ts} {us} {y} u s k d =
    good_if (is_string u.kind) (λ q. good (open_at (OfField (f.FieldEnd (with_field x y (Some u.text)))) (append_assoc ts us (u ∷ [])) (h.field_end (ended k d (g.with_tag (string_is q))))))
    (λ n. good_at (ap (λ z. ts ++ z) (sym (append-nil us))) (field_end_good u s (ended k d g.without_tag)))

no_semicolon : {u : Token} → IsOp o.RightBrace u → is_semicolon u.kind ≡ true → ⊥
no_semicolon d q = let z = subst (λ k. is_semicolon k ≡ true) d.op q in cc

same_place : (ss : List Token) (v : Token) (us : List Token) → place_of (ss ++ v ∷ []) ≡ place_of (ss ++ v ∷ us)
same_place [] v us = refl
same_place (x ∷ xs) v us = refl

struct_close : {x : StructPart} {w : Want} {ts : List Token} (u : Token) (s : Stack) → StructHeld x ts w → IsOp o.RightBrace u → Good u w ts s (if is_semicolon u.kind then Goes (OfField (f.InStruct x) ∷ s) else (if_op o.RightBrace u (Goes (Done (AnExpr (t.StructType x.place (joined x.fields t.NoFields))) ∷ s)) Stuck))
struct_close u s (h.struct_held {c} {w} {xs} {ts} {u = v} {v = y} m b k l) p =
    good_if (is_semicolon u.kind) (λ q. absurd (no_semicolon p q)) (λ n.
    good_op o.RightBrace (λ q. good (open_one (Done (AnExpr (t.StructType v.place (joined xs t.NoFields)))) (struct_done u m b k (subst (λ z. AreFields z (joined xs t.NoFields)) (append-nil ts) (l.held [] t.NoFields g.no_fields)) q))) (λ n. stuck))

open_embedded : {ss : List Token} {star : Bool} (u : Token) → PerhapsOp o.Mul ss star → IsName u → EmbeddedHeld (record { place = place_of (ss ++ u ∷ []); star = star; ty = t.NameExpr u.place u.text }) (ss ++ u ∷ [])
open_embedded u q n = h.embedded_held q (g.plain_name n)

to_held : {y : Embedded} {ts : List Token} → EmbeddedOpen y ts → EmbeddedHeld y ts
to_held (h.embedded_open {u} q n) = open_embedded u q n

dotted : {y : Embedded} {ts : List Token} {d : Token} (u : Token) → EmbeddedOpen y ts → IsOp o.Dot d → IsName u → EmbeddedHeld (record y { ty = select y.ty (name_of u) }) (ts ++ d ∷ u ∷ [])
dotted {d = d} u (h.embedded_open {star} {ss} {u = v} q n) p m =
    let e : t.Expr = t.SelectExpr v.place (t.NameExpr v.place v.text) (name_of u) in
    let same : place_of (ss ++ v ∷ []) ≡ place_of (ss ++ v ∷ d ∷ u ∷ []) = same_place ss v (d ∷ u ∷ []) in
    subst (λ z. EmbeddedHeld (record { place = z; star = star; ty = e }) ((ss ++ v ∷ []) ++ d ∷ u ∷ [])) (sym same)
    (subst (λ z. EmbeddedHeld (record { place = place_of (ss ++ v ∷ d ∷ u ∷ []); star = star; ty = e }) z) (sym (append_assoc ss (v ∷ []) (d ∷ u ∷ []))) (h.embedded_held q (g.package_name n p m)))

-- interface types
member_end_good : {x : InterfacePart} {w : Want} {ts : List Token} (u : Token) (s : Stack) → InterfaceEnded x ts w → Good u w ts s (member_end u x s)
member_end_good u s (h.interface_ended {c} {w} {xs} {ts} {u = v} {v = y} m b k d l) =
    good_if (is_semicolon u.kind) (λ q. good (open_one (OfField (f.InInterface (record { ctx = c; place = v.place; members = xs }))) (h.in_interface (h.interface_held m b k (l u (semicolon_is q)))))) (λ n.
    good_op o.RightBrace (λ q. good (open_one (Done (AnExpr (t.InterfaceType v.place (joined xs t.NoMembers)))) (record { is = λ x. begun_is x k (g.interface_type m b d q) refl refl refl refl refl refl }))) (λ n. stuck))

interface_close : {x : InterfacePart} {w : Want} {ts : List Token} (u : Token) (s : Stack) → InterfaceHeld x ts w → IsOp o.RightBrace u → Good u w ts s (member_end u x s)
interface_close u s (h.interface_held {c} {w} {xs} {ts} {u = v} {v = y} m b k l) p =
    good_if (is_semicolon u.kind) (λ q. absurd (no_semicolon p q)) (λ n.
    good_op o.RightBrace (λ q. good (open_one (Done (AnExpr (t.InterfaceType v.place (joined xs t.NoMembers)))) (record { is = λ x. begun_is x k (g.interface_type m b (subst (λ z. AreMembers z (joined xs t.NoMembers)) (append-nil ts) (l.held [] t.NoMembers g.no_members)) q) refl refl refl refl refl refl }))) (λ n. stuck))

-- an interface type with a member more
member_ended : {x : InterfacePart} {w : Want} {ts us : List Token} (node : t.Members → t.Members) → InterfaceHeld x ts w → AreMembers us (node t.NoMembers) → ((u : Token) → IsSemicolon u → (ws : List Token) (r : t.Members) → AreMembers ws r → AreMembers (us ++ u ∷ ws) (node r)) → InterfaceEnded (with_member x node) (ts ++ us) w
member_ended {us = us} node (h.interface_held {xs} {ts} m b k l) d more =
    h.interface_ended m b k (subst (λ z. AreMembers (ts ++ us) z) (sym (joined_more xs node t.NoMembers)) (l.held us (node t.NoMembers) d))
    (λ u z. record { held = λ ws r i. subst (λ y. AreMembers y (joined (xs ++ node ∷ []) r)) (sym (append_assoc ts us (u ∷ ws)) ∙ sym (append_assoc (ts ++ us) (u ∷ []) ws)) (subst (λ y. AreMembers (ts ++ (us ++ u ∷ ws)) y) (sym (joined_more xs node r)) (l.held (us ++ u ∷ ws) (node r) (more u z ws r i))) })

embedded_member : {x : InterfacePart} {w : Want} {ts us : List Token} {e : t.Expr} → InterfaceHeld x ts w → IsTypeName us e → InterfaceEnded (with_member x (λ rest. t.EmbeddedMember e rest)) (ts ++ us) w
embedded_member {e = e} k n = member_ended (λ rest. t.EmbeddedMember e rest) k (g.last_interface n) (λ u z ws r i. g.more_interfaces n z i)

pub field_row_good : {x : FieldFrame} {ts : List Token} {w : Want} (u : Token) (s : Stack) → HoldsField x ts w → Good u w ts s (field_row u x s)
field_row_good u s (h.in_struct {x} k) =
    good_op o.RightBrace (λ q. struct_close u s k q) (λ n.
    good_if (is_name_token u.kind) (λ q. good (open_one (OfField (f.FieldName x (name_of u))) (h.field_name k (name_is q)))) (λ n.
    good_op o.Mul (λ q. good (open_one (OfField (f.FieldStar x u.place)) (h.field_star k q))) (λ n. stuck)))
field_row_good u s (h.field_name {x} {ts} {u = v} k n) =
    good_op o.Comma (λ q. good (open_one (OfField (f.NextField x (name_of v ∷ []))) (h.next_field k (g.one_name n) q))) (λ m.
    good_op o.Dot (λ q. good (open_one (OfField (f.FieldDot x (unstarred (name_of v)))) (h.field_dot k (h.embedded_open g.without_op n) q))) (λ m.
    good_if (is_string u.kind || is_semicolon u.kind || is_op o.RightBrace u) (λ q. end_field_good u s k (embedded_one (open_embedded v g.without_op n))) (λ m.
    good (within_new (OfField (f.Named x (name_of v ∷ []))) (h.named k (g.one_name n)) (type_opens u x.ctx (OfField (f.Named x (name_of v ∷ [])) ∷ s) tt)))))
field_row_good u s (h.next_field {x} {ts} {us} {ys} {u = v} k d q) =
    good_if (is_name_token u.kind) (λ p. good (open_at (OfField (f.FieldNames x (ys ++ name_of u ∷ []))) (append_assoc (ts ++ us) (v ∷ []) (u ∷ []) ∙ append_assoc ts us (v ∷ u ∷ [])) (h.field_names k (names_more d q (g.one_name (name_is p)))))) (λ n. stuck)
field_row_good u s (h.field_names {x} {ts} {us} {ys} k d) =
    good_op o.Comma (λ q. good (open_one (OfField (f.NextField x ys)) (h.next_field k d q)))
    (λ n. good (within_new (OfField (f.Named x ys)) (h.named k d) (type_opens u x.ctx (OfField (f.Named x ys) ∷ s) tt)))
field_row_good u s (h.field_star {x} {ts} {u = v} k q) =
    good_if (is_name_token u.kind) (λ p. good (open_at (OfField (f.EmbeddedName x (record { place = v.place; star = true; ty = t.NameExpr u.place u.text }))) (append_assoc ts (v ∷ []) (u ∷ [])) (h.embedded_name k (h.embedded_open (g.with_op q) (name_is p))))) (λ n. stuck)
field_row_good u s (h.embedded_name {x} {y} {ts} {us} k d) =
    good_op o.Dot (λ q. good (open_one (OfField (f.FieldDot x y)) (h.field_dot k d q))) (λ n. end_field_good u s k (embedded_one (to_held d)))
field_row_good u s (h.field_dot {x} {y} {ts} {us} {u = v} k d q) =
    good_if (is_name_token u.kind) (λ p. good (open_at (OfField (f.EmbeddedEnd x (record y { ty = select y.ty (name_of u) }))) (append_assoc (ts ++ us) (v ∷ []) (u ∷ []) ∙ append_assoc ts us (v ∷ u ∷ [])) (h.embedded_end k (dotted u d q (name_is p))))) (λ n. stuck)
field_row_good u s (h.embedded_end k d) = end_field_good u s k (embedded_one d)
field_row_good u s (h.field_end k) = field_end_good u s k
field_row_good u s (h.in_interface {x} k) =
    good_op o.RightBrace (λ q. interface_close u s k q) (λ n.
    good_if (is_name_token u.kind) (λ q. good (open_one (OfField (f.MemberName x (name_of u))) (h.member_name k (name_is q)))) (λ n. stuck))
field_row_good u s (h.member_name {x} {ts} {u = v} k n) =
    good_op o.LeftParen (λ q. good (within_new (OfField (f.Method x (name_of v))) (h.method k n) (params_opens u x.ctx (OfField (f.Method x (name_of v)) ∷ s) h.params_role))) (λ m.
    good_op o.Dot (λ q. good (open_at (OfField (f.MemberDot x (t.NameExpr v.place v.text))) (append_assoc ts (v ∷ []) (u ∷ [])) (h.member_dot k n q)))
    (λ m. member_end_good u s (embedded_member k (g.plain_name n))))
field_row_good u s (h.member_dot {x} {ts} {u = v} {v = d} k n q) =
    good_if (is_name_token u.kind) (λ p. good (open_at (OfField (f.MemberEnd (with_member x (λ rest. t.EmbeddedMember (select (t.NameExpr v.place v.text) (name_of u)) rest)))) (append_assoc ts (v ∷ d ∷ []) (u ∷ [])) (h.member_end (embedded_member k (g.package_name n q (name_is p)))))) (λ m. stuck)
field_row_good u s (h.member_end k) = member_end_good u s k
field_row_good u s _ = stuck

pub field_meets_good : {x : FieldFrame} {ts : List Token} {w : Want} (vs : List Token) (u : Token) (e : t.Expr) (s : Stack) → HoldsField x ts w → Is u (waits_field x) (AnExpr e) vs → Good u w (ts ++ vs) s (field_meets u x e s)
field_meets_good vs u e s (h.named {ts} {us} {ys} k d) i = good_at (append_assoc ts us vs) (end_field_good u s k (named_ones d (i.0)))
field_meets_good vs u e s _ i = stuck

pub method_meets_good : {x : FieldFrame} {ts : List Token} {w : Want} (vs : List Token) (u : Token) (sig : t.Sig) (s : Stack) → HoldsField x ts w → Is u (waits_field x) (ASig sig) vs → Good u w (ts ++ vs) s (method_meets u x sig s)
method_meets_good vs u sig s (h.method {x} {ts} {u = v} k n) i =
    good_at (append_assoc ts (v ∷ []) vs) (member_end_good u s (member_ended (λ rest. t.MethodMember (name_of v) sig rest) k (g.last_method n (i.0)) (λ y z ws r j. g.more_methods n (i.0) z j)))
method_meets_good vs u sig s _ i = stuck
