-- Each rule on fields of struct types and members of interface types.
use Rattle.std.proofs.Common.{◌≡◌, ℕ, Bool, true, false, ◌||◌, List, [], ◌∷◌, ◌++◌, Option, Some, None, refl, sym, ◌∙◌, ap, append_assoc}
use Rattle.gj_base.specs.declared.place.Place.{Place}
use Rattle.go_syntax.specs.Tree as t
use Rattle.go_syntax.specs.Token.{Token}
use Rattle.go_syntax.specs.View.{joined}
use Rattle.go_syntax.specs.declared.kind.TokenKind.{TokenKind}
use Rattle.go_syntax.specs.declared.kind.TokenKind.TheVariants as kind
use Rattle.go_syntax.specs.declared.operator.Operator.TheVariants as o
use Rattle.go_syntax.specs.declared.tree.Name.{Name}
use Rattle.go_grammar.specs.Classes.{IsOp, IsName, IsString, IsSemicolon, written, inserted, name_of, place_of, begins_type}
use Rattle.go_grammar.specs.Limits.{expr_fits, sig_fits}
use Rattle.go_grammar.specs.Frames.{Ctx, AnExpr, ASig, OfType, OfField, OfSig, Done, Stack, AType, FieldFrame, StructPart, Embedded, InStruct, FieldName, NextField, FieldNames, Named, EmbeddedName, EmbeddedEnd, FieldEnd, InInterface, MemberName, MemberEnd, Method, SigOpen, InterfacePart, OfParams}
use Rattle.go_grammar.specs.Grammar.{AreNames, one_name, more_names, PerhapsTag, without_tag, with_tag, PerhapsOp, without_op, with_op, IsTypeName, plain_name, package_name}
use Rattle.go_grammar.specs.Nodes.{is_op, is_string, is_semicolon}
use Rattle.go_grammar.specs.Parsed.{run}
use Rattle.go_grammar.proofs.Stepping.{ctx, of_kind, run_assoc, first_part, second_part, Halts, halts, halting, halts_op, halts_semicolon, halted_type, halted_sig}
use Rattle.go_grammar.proofs.Starting.{starts_type, same_start, open_firm, is_paren, first_is, from_first}
use Rattle.go_grammar.proofs.Readings.{TypeReads, SigReads, FieldsRead, MembersRead, struct_part, interface_part, joined_and}

abbrev Puts : Type 0
Puts = Option (List ℕ) → t.Fields → t.Fields

-- at its end the stack has one field more
record EndsField (c : Ctx) (at : Place) (items : List (t.Fields → t.Fields)) (field : Puts) (left : Stack) (s : Stack) : Type 0 where
  pub on_string : (u : Token) (us : List Token) → IsString u → run (u ∷ us) left ≡ run us (OfField (FieldEnd (struct_part c at (items ++ field (Some u.text) ∷ []))) ∷ s)
  pub on_semicolon : (u : Token) (us : List Token) → IsSemicolon u → run (u ∷ us) left ≡ run us (OfField (InStruct (struct_part c at (items ++ field None ∷ []))) ∷ s)
  pub on_brace : (u : Token) (us : List Token) → IsOp o.RightBrace u → run (u ∷ us) left ≡ run us (Done (AnExpr (t.StructType at (joined (items ++ field None ∷ []) t.NoFields))) ∷ s)

end_semicolon : (x : StructPart) (s : Stack) (u : Token) (us : List Token) → IsSemicolon u → run (u ∷ us) (OfField (FieldEnd x) ∷ s) ≡ run us (OfField (InStruct x) ∷ s)
end_semicolon x s u us (written h) = simp h
end_semicolon x s u us (inserted h) = simp h

field_last : (c : Ctx) (at : Place) (items : List (t.Fields → t.Fields)) (field : Puts) (left s : Stack) (vs : List Token) (tag : Option (List ℕ)) (u : Token) (us : List Token) → EndsField c at items field left s → PerhapsTag vs tag → IsOp o.RightBrace u → run (vs ++ u ∷ us) left ≡ run us (Done (AnExpr (t.StructType at (joined items (field tag t.NoFields)))) ∷ s)
field_last c at items field left s _ _ u us x without_tag hu = x.on_brace u us hu ∙ ap (λ y. run us (Done (AnExpr (t.StructType at y)) ∷ s)) (joined_and items (field None) t.NoFields)
field_last c at items field left s _ _ u us x (with_tag {u = v} hv) hu =
    x.on_string v (u ∷ us) hv
    ∙ ((simp hu.op) ∙ ap (λ y. run us (Done (AnExpr (t.StructType at y)) ∷ s)) (joined_and items (field (Some v.text)) t.NoFields))

field_then : (c : Ctx) (at : Place) (items : List (t.Fields → t.Fields)) (field : Puts) (left s : Stack) (vs : List Token) (tag : Option (List ℕ)) (u : Token) (us : List Token) → EndsField c at items field left s → PerhapsTag vs tag → IsSemicolon u → run (vs ++ u ∷ us) left ≡ run us (OfField (InStruct (struct_part c at (items ++ field tag ∷ []))) ∷ s)
field_then c at items field left s _ _ u us x without_tag hu = x.on_semicolon u us hu
field_then c at items field left s _ _ u us x (with_tag {u = v} hv) hu = x.on_string v (u ∷ us) hv ∙ end_semicolon (struct_part c at (items ++ field (Some v.text) ∷ [])) s u us hu

named_semicolon : (c : Ctx) (at : Place) (items : List (t.Fields → t.Fields)) (ys : List Name) (e : t.Expr) (s : Stack) (u : Token) (us : List Token) → IsSemicolon u → run (u ∷ us) (Done (AnExpr e) ∷ OfField (Named (struct_part c at items) ys) ∷ s) ≡ run us (OfField (InStruct (struct_part c at (items ++ (λ rest. t.NamedFields ys e None rest) ∷ []))) ∷ s)
named_semicolon c at items ys e s u us (written h) = simp h
named_semicolon c at items ys e s u us (inserted h) = simp h

named_ends : (c : Ctx) (at : Place) (items : List (t.Fields → t.Fields)) (ys : List Name) (e : t.Expr) (s : Stack) → EndsField c at items (λ tag rest. t.NamedFields ys e tag rest) (Done (AnExpr e) ∷ OfField (Named (struct_part c at items) ys) ∷ s) s
named_ends c at items ys e s = record {
  on_string = λ u us h. simp h.string;
  on_semicolon = named_semicolon c at items ys e s;
  on_brace = λ u us h. simp h.op;
}

-- a name is past: one alone might yet be a type
abbrev named_frame : StructPart → List Name → FieldFrame
named_frame x (y ∷ []) = FieldName x y
named_frame x ys = FieldNames x ys

names_after : (ts : List Token) (xs : List Name) → AreNames ts xs → (x : StructPart) (ys : List Name) (s : Stack) (rest : List Token) → run (ts ++ rest) (OfField (NextField x ys) ∷ s) ≡ run rest (OfField (FieldNames x (ys ++ xs)) ∷ s)
names_after _ _ (one_name {u} n) x ys s rest = simp n.name
names_after _ _ (more_names {u} {v} {ts} {xs} n comma d) x ys s rest =
    let head : run (u ∷ v ∷ ts ++ rest) (OfField (NextField x ys) ∷ s) ≡ run (ts ++ rest) (OfField (NextField x (ys ++ record { place = u.place; text = u.text } ∷ [])) ∷ s) = simp (n.name, comma.op) in
    head ∙ (names_after ts xs d x (ys ++ record { place = u.place; text = u.text } ∷ []) s rest
    ∙ ap (λ zs. run rest (OfField (FieldNames x zs) ∷ s)) (append_assoc ys (record { place = u.place; text = u.text } ∷ []) xs))

several : (x : StructPart) (y : Name) (ts : List Token) (xs : List Name) → AreNames ts xs → FieldNames x (y ∷ xs) ≡ named_frame x (y ∷ xs)
several x y _ _ (one_name n) = refl
several x y _ _ (more_names n comma d) = refl

names_read : (ts : List Token) (xs : List Name) → AreNames ts xs → (x : StructPart) (s : Stack) (rest : List Token) → run (ts ++ rest) (OfField (InStruct x) ∷ s) ≡ run rest (OfField (named_frame x xs) ∷ s)
names_read _ _ (one_name {u} n) x s rest = simp n.name
names_read _ _ (more_names {u} {v} {ts} {xs} n comma d) x s rest =
    let y : Name = record { place = u.place; text = u.text } in
    let head : run (u ∷ v ∷ ts ++ rest) (OfField (InStruct x) ∷ s) ≡ run (ts ++ rest) (OfField (NextField x (y ∷ [])) ∷ s) = simp (n.name, comma.op) in
    head ∙ (names_after ts xs d x (y ∷ []) s rest ∙ ap (λ f. run rest (OfField f ∷ s)) (several x y ts xs d))

type_no_end : (k : TokenKind) → begins_type k ≡ true → (is_string k || is_semicolon k || is_op o.RightBrace (of_kind k)) ≡ false
type_no_end (kind.Op o.RightBrace) h = sym h
type_no_end kind.Str h = sym h
type_no_end kind.Semi h = sym h
type_no_end kind.Auto h = sym h
type_no_end _ h = refl

type_no_comma : (k : TokenKind) → begins_type k ≡ true → is_op o.Comma (of_kind k) ≡ false
type_no_comma (kind.Op o.Comma) h = sym h
type_no_comma _ h = refl

type_no_dot : (k : TokenKind) → begins_type k ≡ true → is_op o.Dot (of_kind k) ≡ false
type_no_dot (kind.Op o.Dot) h = sym h
type_no_dot _ h = refl

-- after names, their type begins
type_of_names : (x : StructPart) (ys : List Name) (s : Stack) (u : Token) (us : List Token) → begins_type u.kind ≡ true → run (u ∷ us) (OfField (named_frame x ys) ∷ s) ≡ run (u ∷ us) (OfType (AType x.ctx) ∷ OfField (Named x ys) ∷ s)
type_of_names x (y ∷ []) s u us h =
    let no_comma : is_op o.Comma u ≡ false = type_no_comma u.kind h in
    let no_dot : is_op o.Dot u ≡ false = type_no_dot u.kind h in
    let no_end : (is_string u.kind || is_semicolon u.kind || is_op o.RightBrace u) ≡ false = type_no_end u.kind h in
    starts_type u us (OfField (FieldName x y)) s (OfField (Named x (y ∷ [])) ∷ s) x.ctx (simp (no_comma, no_dot, no_end))
type_of_names x [] s u us h =
    let no_comma : is_op o.Comma u ≡ false = type_no_comma u.kind h in
    starts_type u us (OfField (FieldNames x [])) s (OfField (Named x []) ∷ s) x.ctx (simp no_comma)
type_of_names x (y ∷ z ∷ zs) s u us h =
    let no_comma : is_op o.Comma u ≡ false = type_no_comma u.kind h in
    starts_type u us (OfField (FieldNames x (y ∷ z ∷ zs))) s (OfField (Named x (y ∷ z ∷ zs)) ∷ s) x.ctx (simp no_comma)

-- a type with a tag, or none, after it
tagged_type : (b : ℕ) (ts vs : List Token) (e : t.Expr) (tag : Option (List ℕ)) (d : ℕ) (h g : Bool) (u : Token) (us : List Token) (s : Stack) → TypeReads b ts e → PerhapsTag vs tag → Halts u → expr_fits b d e ≡ true → run (ts ++ (vs ++ u ∷ us)) (OfType (AType (ctx d b h g)) ∷ s) ≡ run (vs ++ u ∷ us) (Done (AnExpr e) ∷ s)
tagged_type b ts _ e _ d h g u us s ih without_tag hu fits = ih d h g fits u us s (halted_type e hu)
tagged_type b ts _ e _ d h g u us s ih (with_tag {u = v} hv) hu fits = ih d h g fits v (u ∷ us) s (halted_type e (halts v (ap halting hv.string)))

-- names and their type, up to the tag
named_field : (b : ℕ) (ts us' vs : List Token) (names : List Name) (e : t.Expr) (tag : Option (List ℕ)) (d : ℕ) (h g : Bool) (at : Place) (items : List (t.Fields → t.Fields)) (u : Token) (us : List Token) (s : Stack) → AreNames ts names → first_is begins_type us' ≡ true → TypeReads b us' e → PerhapsTag vs tag → Halts u → expr_fits b d e ≡ true → run (((ts ++ us') ++ vs) ++ u ∷ us) (OfField (InStruct (struct_part (ctx d b h g) at items)) ∷ s) ≡ run (vs ++ u ∷ us) (Done (AnExpr e) ∷ OfField (Named (struct_part (ctx d b h g) at items) names) ∷ s)
named_field b ts us' vs names e tag d h g at items u us s ns first ih tg hu fits =
    let x : StructPart = struct_part (ctx d b h g) at items in
    run_assoc (ts ++ us') vs (u ∷ us) (OfField (InStruct x) ∷ s)
    ∙ (run_assoc ts us' (vs ++ u ∷ us) (OfField (InStruct x) ∷ s)
    ∙ (names_read ts names ns x s (us' ++ (vs ++ u ∷ us))
    ∙ (from_first begins_type us' (OfField (named_frame x names) ∷ s) (OfType (AType (ctx d b h g)) ∷ OfField (Named x names) ∷ s) first (type_of_names x names s) (vs ++ u ∷ us)
    ∙ tagged_type b us' vs e tag d h g u us (OfField (Named x names) ∷ s) ih tg hu fits)))

pub no_fields_read : (b : ℕ) → FieldsRead b [] t.NoFields
no_fields_read b d h g fits at items u us s hu = simp hu.op

pub last_named_reads : (b : ℕ) (ts us' vs : List Token) (names : List Name) (e : t.Expr) (tag : Option (List ℕ)) → AreNames ts names → first_is begins_type us' ≡ true → TypeReads b us' e → PerhapsTag vs tag → FieldsRead b (ts ++ us' ++ vs) (t.NamedFields names e tag t.NoFields)
last_named_reads b ts us' vs names e tag ns first ih tg d h g fits at items u us s hu =
    named_field b ts us' vs names e tag d h g at items u us s ns first ih tg (halts_op hu refl) (first_part _ _ fits)
    ∙ field_last (ctx d b h g) at items (λ tag' rest. t.NamedFields names e tag' rest) (Done (AnExpr e) ∷ OfField (Named (struct_part (ctx d b h g) at items) names) ∷ s) s vs tag u us (named_ends (ctx d b h g) at items names e s) tg hu

pub more_named_read : (b : ℕ) (ts us' vs ws : List Token) (names : List Name) (e : t.Expr) (tag : Option (List ℕ)) (w : Token) (rest : t.Fields) → AreNames ts names → first_is begins_type us' ≡ true → TypeReads b us' e → PerhapsTag vs tag → IsSemicolon w → FieldsRead b ws rest → FieldsRead b (ts ++ us' ++ vs ++ w ∷ ws) (t.NamedFields names e tag rest)
more_named_read b ts us' vs ws names e tag w rest ns first ih tg hw ihs d h g fits at items u us s hu =
    let f = λ (more : t.Fields). t.NamedFields names e tag more in
    run_assoc (ts ++ us' ++ vs) (w ∷ ws) (u ∷ us) (OfField (InStruct (struct_part (ctx d b h g) at items)) ∷ s)
    ∙ (named_field b ts us' vs names e tag d h g at items w (ws ++ u ∷ us) s ns first ih tg (halts_semicolon hw) (first_part _ _ fits)
    ∙ (field_then (ctx d b h g) at items (λ tag' more. t.NamedFields names e tag' more) (Done (AnExpr e) ∷ OfField (Named (struct_part (ctx d b h g) at items) names) ∷ s) s vs tag w (ws ++ u ∷ us) (named_ends (ctx d b h g) at items names e s) tg hw
    ∙ (ihs d h g (second_part _ _ fits) at (items ++ f ∷ []) u us s hu
    ∙ ap (λ y. run us (Done (AnExpr (t.StructType at y)) ∷ s)) (joined_and items f rest))))

-- a stack that an embedded field leads to
record EmbeddedReads (c : Ctx) (at : Place) (items : List (t.Fields → t.Fields)) (ts : List Token) (star : Bool) (e : t.Expr) (s : Stack) : Type 0 where
  pub left : Stack
  pub leads : (rest : List Token) → run (ts ++ rest) (OfField (InStruct (struct_part c at items)) ∷ s) ≡ run rest left
  pub ends : EndsField c at items (λ tag rest. t.EmbeddedField (place_of ts) star e tag rest) left s

name_semicolon : (x : StructPart) (y : Name) (s : Stack) (u : Token) (us : List Token) → IsSemicolon u → run (u ∷ us) (OfField (FieldName x y) ∷ s) ≡ run us (OfField (InStruct (struct_part x.ctx x.place (x.fields ++ (λ rest. t.EmbeddedField y.place false (t.NameExpr y.place y.text) None rest) ∷ []))) ∷ s)
name_semicolon x y s u us (written h) = simp h
name_semicolon x y s u us (inserted h) = simp h

starred_semicolon : (x : StructPart) (y : Embedded) (s : Stack) (u : Token) (us : List Token) → IsSemicolon u → run (u ∷ us) (OfField (EmbeddedName x y) ∷ s) ≡ run us (OfField (InStruct (struct_part x.ctx x.place (x.fields ++ (λ rest. t.EmbeddedField y.place y.star y.ty None rest) ∷ []))) ∷ s)
starred_semicolon x y s u us (written h) = simp h
starred_semicolon x y s u us (inserted h) = simp h

whole_semicolon : (x : StructPart) (y : Embedded) (s : Stack) (u : Token) (us : List Token) → IsSemicolon u → run (u ∷ us) (OfField (EmbeddedEnd x y) ∷ s) ≡ run us (OfField (InStruct (struct_part x.ctx x.place (x.fields ++ (λ rest. t.EmbeddedField y.place y.star y.ty None rest) ∷ []))) ∷ s)
whole_semicolon x y s u us (written h) = simp h
whole_semicolon x y s u us (inserted h) = simp h

embedded_reads : (c : Ctx) (at : Place) (items : List (t.Fields → t.Fields)) (ss ts : List Token) (star : Bool) (e : t.Expr) (s : Stack) → PerhapsOp o.Mul ss star → IsTypeName ts e → EmbeddedReads c at items (ss ++ ts) star e s
embedded_reads c at items _ _ _ _ s without_op (plain_name {u} n) = record {
  left = OfField (FieldName (struct_part c at items) (record { place = u.place; text = u.text })) ∷ s;
  leads = λ rest. simp n.name;
  ends = record {
    on_string = λ v us h. simp h.string;
    on_semicolon = name_semicolon (struct_part c at items) (record { place = u.place; text = u.text }) s;
    on_brace = λ v us h. simp h.op;
  };
}
embedded_reads c at items _ _ _ _ s without_op (package_name {u} {v} {w} n dot m) = record {
  left = OfField (EmbeddedEnd (struct_part c at items) (record { place = u.place; star = false; ty = t.SelectExpr u.place (t.NameExpr u.place u.text) (name_of w) })) ∷ s;
  leads = λ rest. simp (n.name, dot.op, m.name);
  ends = record {
    on_string = λ v us h. simp h.string;
    on_semicolon = whole_semicolon (struct_part c at items) (record { place = u.place; star = false; ty = t.SelectExpr u.place (t.NameExpr u.place u.text) (name_of w) }) s;
    on_brace = λ v us h. simp h.op;
  };
}
embedded_reads c at items _ _ _ _ s (with_op {u = x} hx) (plain_name {u} n) = record {
  left = OfField (EmbeddedName (struct_part c at items) (record { place = x.place; star = true; ty = t.NameExpr u.place u.text })) ∷ s;
  leads = λ rest. simp (hx.op, n.name);
  ends = record {
    on_string = λ v us h. simp h.string;
    on_semicolon = starred_semicolon (struct_part c at items) (record { place = x.place; star = true; ty = t.NameExpr u.place u.text }) s;
    on_brace = λ v us h. simp h.op;
  };
}
embedded_reads c at items _ _ _ _ s (with_op {u = x} hx) (package_name {u} {v} {w} n dot m) = record {
  left = OfField (EmbeddedEnd (struct_part c at items) (record { place = x.place; star = true; ty = t.SelectExpr u.place (t.NameExpr u.place u.text) (name_of w) })) ∷ s;
  leads = λ rest. simp (hx.op, n.name, dot.op, m.name);
  ends = record {
    on_string = λ v us h. simp h.string;
    on_semicolon = whole_semicolon (struct_part c at items) (record { place = x.place; star = true; ty = t.SelectExpr u.place (t.NameExpr u.place u.text) (name_of w) }) s;
    on_brace = λ v us h. simp h.op;
  };
}

pub last_embedded_reads : (b : ℕ) (ss ts vs : List Token) (star : Bool) (e : t.Expr) (tag : Option (List ℕ)) → PerhapsOp o.Mul ss star → IsTypeName ts e → PerhapsTag vs tag → FieldsRead b (ss ++ ts ++ vs) (t.EmbeddedField (place_of (ss ++ ts)) star e tag t.NoFields)
last_embedded_reads b ss ts vs star e tag st n tg d h g fits at items u us s hu =
    let x = embedded_reads (ctx d b h g) at items ss ts star e s st n in
    run_assoc (ss ++ ts) vs (u ∷ us) (OfField (InStruct (struct_part (ctx d b h g) at items)) ∷ s)
    ∙ (x.leads (vs ++ u ∷ us)
    ∙ field_last (ctx d b h g) at items (λ tag' rest. t.EmbeddedField (place_of (ss ++ ts)) star e tag' rest) x.left s vs tag u us x.ends tg hu)

pub more_embedded_read : (b : ℕ) (ss ts vs ws : List Token) (star : Bool) (e : t.Expr) (tag : Option (List ℕ)) (w : Token) (rest : t.Fields) → PerhapsOp o.Mul ss star → IsTypeName ts e → PerhapsTag vs tag → IsSemicolon w → FieldsRead b ws rest → FieldsRead b (ss ++ ts ++ vs ++ w ∷ ws) (t.EmbeddedField (place_of (ss ++ ts)) star e tag rest)
more_embedded_read b ss ts vs ws star e tag w rest st n tg hw ihs d h g fits at items u us s hu =
    let x = embedded_reads (ctx d b h g) at items ss ts star e s st n in
    let f = λ (more : t.Fields). t.EmbeddedField (place_of (ss ++ ts)) star e tag more in
    run_assoc (ss ++ ts ++ vs) (w ∷ ws) (u ∷ us) (OfField (InStruct (struct_part (ctx d b h g) at items)) ∷ s)
    ∙ (run_assoc (ss ++ ts) vs (w ∷ ws ++ u ∷ us) (OfField (InStruct (struct_part (ctx d b h g) at items)) ∷ s)
    ∙ (x.leads (vs ++ (w ∷ ws ++ u ∷ us))
    ∙ (field_then (ctx d b h g) at items (λ tag' more. t.EmbeddedField (place_of (ss ++ ts)) star e tag' more) x.left s vs tag w (ws ++ u ∷ us) x.ends tg hw
    ∙ (ihs d h g fits at (items ++ f ∷ []) u us s hu
    ∙ ap (λ y. run us (Done (AnExpr (t.StructType at y)) ∷ s)) (joined_and items f rest)))))

pub no_members_read : (b : ℕ) → MembersRead b [] t.NoMembers
no_members_read b d h g fits at items u us s hu = simp hu.op

-- a name with a `(` after it begins a method
method_begins : (x : InterfacePart) (y : Name) (s : Stack) (u : Token) (us : List Token) → is_op o.LeftParen u ≡ true → run (u ∷ us) (OfField (MemberName x y) ∷ s) ≡ run (u ∷ us) (OfSig (SigOpen x.ctx) ∷ OfField (Method x y) ∷ s)
method_begins x y s u us hu = same_start u us (OfField (MemberName x y)) (OfSig (SigOpen x.ctx)) s (OfField (Method x y) ∷ s) (simp hu) (open_firm u x.ctx OfParams (OfField (Method x y) ∷ s))

method_reads : (b : ℕ) (ts : List Token) (sig : t.Sig) (v : Token) → IsName v → first_is is_paren ts ≡ true → SigReads b ts sig → (d : ℕ) (h g : Bool) → sig_fits b d sig ≡ true → (at : Place) (items : List (t.Members → t.Members)) (u : Token) (us : List Token) (s : Stack) → Halts u → run (v ∷ ts ++ u ∷ us) (OfField (InInterface (interface_part (ctx d b h g) at items)) ∷ s) ≡ run (u ∷ us) (Done (ASig sig) ∷ OfField (Method (interface_part (ctx d b h g) at items) (name_of v)) ∷ s)
method_reads b ts sig v n first ih d h g fits at items u us s hu =
    let x : InterfacePart = interface_part (ctx d b h g) at items in
    let named : run (v ∷ ts ++ u ∷ us) (OfField (InInterface x) ∷ s) ≡ run (ts ++ u ∷ us) (OfField (MemberName x (name_of v)) ∷ s) = simp n.name in
    named
    ∙ (from_first is_paren ts (OfField (MemberName x (name_of v)) ∷ s) (OfSig (SigOpen (ctx d b h g)) ∷ OfField (Method x (name_of v)) ∷ s) first (method_begins x (name_of v) s) (u ∷ us)
    ∙ ih d h g fits u us (OfField (Method x (name_of v)) ∷ s) (halted_sig sig hu))

pub last_method_reads : (b : ℕ) (ts : List Token) (sig : t.Sig) (v : Token) → IsName v → first_is is_paren ts ≡ true → SigReads b ts sig → MembersRead b (v ∷ ts) (t.MethodMember (name_of v) sig t.NoMembers)
last_method_reads b ts sig v n first ih d h g fits at items u us s hu =
    method_reads b ts sig v n first ih d h g (first_part _ _ fits) at items u us s (halts_op hu refl)
    ∙ ((simp hu.op) ∙ ap (λ y. run us (Done (AnExpr (t.InterfaceType at y)) ∷ s)) (joined_and items (λ more. t.MethodMember (name_of v) sig more) t.NoMembers))

method_semicolon : (x : InterfacePart) (y : Name) (sig : t.Sig) (s : Stack) (u : Token) (us : List Token) → IsSemicolon u → run (u ∷ us) (Done (ASig sig) ∷ OfField (Method x y) ∷ s) ≡ run us (OfField (InInterface (interface_part x.ctx x.place (x.members ++ (λ rest. t.MethodMember y sig rest) ∷ []))) ∷ s)
method_semicolon x y sig s u us (written h) = simp h
method_semicolon x y sig s u us (inserted h) = simp h

pub more_methods_read : (b : ℕ) (ts us' : List Token) (sig : t.Sig) (v w : Token) (rest : t.Members) → IsName v → first_is is_paren ts ≡ true → SigReads b ts sig → IsSemicolon w → MembersRead b us' rest → MembersRead b (v ∷ ts ++ w ∷ us') (t.MethodMember (name_of v) sig rest)
more_methods_read b ts us' sig v w rest n first ih hw ihs d h g fits at items u us s hu =
    let f = λ (more : t.Members). t.MethodMember (name_of v) sig more in
    run_assoc (v ∷ ts) (w ∷ us') (u ∷ us) (OfField (InInterface (interface_part (ctx d b h g) at items)) ∷ s)
    ∙ (method_reads b ts sig v n first ih d h g (first_part _ _ fits) at items w (us' ++ u ∷ us) s (halts_semicolon hw)
    ∙ (method_semicolon (interface_part (ctx d b h g) at items) (name_of v) sig s w (us' ++ u ∷ us) hw
    ∙ (ihs d h g (second_part _ _ fits) at (items ++ f ∷ []) u us s hu
    ∙ ap (λ y. run us (Done (AnExpr (t.InterfaceType at y)) ∷ s)) (joined_and items f rest))))

-- a stack that an embedded interface leads to
record MemberReads (c : Ctx) (at : Place) (items : List (t.Members → t.Members)) (ts : List Token) (e : t.Expr) (s : Stack) : Type 0 where
  pub left : Stack
  pub leads : (rest : List Token) → run (ts ++ rest) (OfField (InInterface (interface_part c at items)) ∷ s) ≡ run rest left
  pub on_semicolon : (u : Token) (us : List Token) → IsSemicolon u → run (u ∷ us) left ≡ run us (OfField (InInterface (interface_part c at (items ++ (λ rest. t.EmbeddedMember e rest) ∷ []))) ∷ s)
  pub on_brace : (u : Token) (us : List Token) → IsOp o.RightBrace u → run (u ∷ us) left ≡ run us (Done (AnExpr (t.InterfaceType at (joined (items ++ (λ rest. t.EmbeddedMember e rest) ∷ []) t.NoMembers))) ∷ s)

member_semicolon : (x : InterfacePart) (y : Name) (s : Stack) (u : Token) (us : List Token) → IsSemicolon u → run (u ∷ us) (OfField (MemberName x y) ∷ s) ≡ run us (OfField (InInterface (interface_part x.ctx x.place (x.members ++ (λ rest. t.EmbeddedMember (t.NameExpr y.place y.text) rest) ∷ []))) ∷ s)
member_semicolon x y s u us (written h) = simp h
member_semicolon x y s u us (inserted h) = simp h

end_member_semicolon : (x : InterfacePart) (s : Stack) (u : Token) (us : List Token) → IsSemicolon u → run (u ∷ us) (OfField (MemberEnd x) ∷ s) ≡ run us (OfField (InInterface x) ∷ s)
end_member_semicolon x s u us (written h) = simp h
end_member_semicolon x s u us (inserted h) = simp h

member_reads : (c : Ctx) (at : Place) (items : List (t.Members → t.Members)) (ts : List Token) (e : t.Expr) (s : Stack) → IsTypeName ts e → MemberReads c at items ts e s
member_reads c at items _ _ s (plain_name {u} n) = record {
  left = OfField (MemberName (interface_part c at items) (record { place = u.place; text = u.text })) ∷ s;
  leads = λ rest. simp n.name;
  on_semicolon = member_semicolon (interface_part c at items) (record { place = u.place; text = u.text }) s;
  on_brace = λ v us h. simp h.op;
}
member_reads c at items _ _ s (package_name {u} {v} {w} n dot m) = record {
  left = OfField (MemberEnd (interface_part c at (items ++ (λ rest. t.EmbeddedMember (t.SelectExpr u.place (t.NameExpr u.place u.text) (name_of w)) rest) ∷ []))) ∷ s;
  leads = λ rest. simp (n.name, dot.op, m.name);
  on_semicolon = end_member_semicolon (interface_part c at (items ++ (λ rest. t.EmbeddedMember (t.SelectExpr u.place (t.NameExpr u.place u.text) (name_of w)) rest) ∷ [])) s;
  on_brace = λ v us h. simp h.op;
}

pub last_interface_reads : (b : ℕ) (ts : List Token) (e : t.Expr) → IsTypeName ts e → MembersRead b ts (t.EmbeddedMember e t.NoMembers)
last_interface_reads b ts e n d h g fits at items u us s hu =
    let x = member_reads (ctx d b h g) at items ts e s n in
    x.leads (u ∷ us) ∙ (x.on_brace u us hu ∙ ap (λ y. run us (Done (AnExpr (t.InterfaceType at y)) ∷ s)) (joined_and items (λ more. t.EmbeddedMember e more) t.NoMembers))

pub more_interfaces_read : (b : ℕ) (ts us' : List Token) (e : t.Expr) (w : Token) (rest : t.Members) → IsTypeName ts e → IsSemicolon w → MembersRead b us' rest → MembersRead b (ts ++ w ∷ us') (t.EmbeddedMember e rest)
more_interfaces_read b ts us' e w rest n hw ihs d h g fits at items u us s hu =
    let x = member_reads (ctx d b h g) at items ts e s n in
    let f = λ (more : t.Members). t.EmbeddedMember e more in
    run_assoc ts (w ∷ us') (u ∷ us) (OfField (InInterface (interface_part (ctx d b h g) at items)) ∷ s)
    ∙ (x.leads (w ∷ us' ++ u ∷ us)
    ∙ (x.on_semicolon w (us' ++ u ∷ us) hw
    ∙ (ihs d h g fits at (items ++ f ∷ []) u us s hu
    ∙ ap (λ y. run us (Done (AnExpr (t.InterfaceType at y)) ∷ s)) (joined_and items f rest))))
