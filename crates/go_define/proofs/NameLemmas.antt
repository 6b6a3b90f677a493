-- What is told of the names on the left, one after the other.
use Rattle.std.proofs.Common.{arith, ◌≡◌, ◌<◌, ◌≤◌, ◌+◌, ℕ, ◌∙◌, refl, sym, ap, zero, suc, List, [], ◌∷◌, ◌++◌, append_assoc, length, map, drop, get_or, Bool, true, false, ◌||◌, ◌&&◌}
use Rattle.std.specs.Prelude.{Option, Some, None, bytes_eq, if◌then◌else◌}
use Rattle.std.proofs.lemmas.List.{append-nil}
use Rattle.std.proofs.Math.Seq.{drop-cons}
use Rattle.gj_base.specs.declared.place.Place.{Place}
use Rattle.go_syntax.specs.Tree as t
use Rattle.go_syntax.specs.Tree.{NameExpr, IntExpr, RuneExpr, StrExpr, ParenExpr, UnaryExpr, BinaryExpr, SelectExpr, IndexExpr, SliceExpr, AssertExpr, CallExpr, LiteralExpr, FuncExpr, ArrayType, SliceType, StructType, FuncType, InterfaceType, MapType, ChanType}
use Rattle.go_syntax.specs.View.{expr_view, exprs_of}
use Rattle.go_syntax.specs.declared.tree.Expr.{Expr}
use Rattle.go_type.specs.Tree.{Ty}
use Rattle.go_typing.specs.Env.{is_blank}
use Rattle.go_typing.specs.Answer.{Flaw, flaw, is_known}
use Rattle.go_typing.specs.Typing.{place_of}
use Rattle.go_operands.specs.AnswerView.{answer_view, flaw_view}
use Rattle.go_operands.specs.declared.answers.answer.Flaw as code
use Rattle.go_operands.specs.declared.scopes.env.Env.{Env}
use Rattle.go_calls.specs.Words.{names_of, scopes_of}
use Rattle.go_typing.specs.Walk as go
use Rattle.go_typing.specs.Assign.{is_in, no_name_flaws, names_flaws, first_place}
use Rattle.go_walk.specs.WalkView.{walk_outside}
use Rattle.go_walk.specs.declared.walk.walk.Walk.{Walk}
use Rattle.go_expr.specs.declared.typed.raw.Raw as code_raw
use Rattle.go_expr.specs.Raw.{Raw, raw_of, raw_view}
use Rattle.go_assign.specs.Moves.{Stays}
use Rattle.go_define.specs.FreshView.{Spot, plain_name, any_new_spot, spots_typed}
use Rattle.go_define.specs.DefineTold.{twice_told, no_name_told, name_told_by, name_told, seen_with, all_fine, new_told}
use Rattle.go_define.proofs.FreshLemmas.{outside_grown}

pub told_none : (fs : List code.Flaw) → map flaw_view fs ≡ map flaw_view fs ++ []
told_none fs = sym (append-nil (map flaw_view fs))

-- ---- by its text

pub told_name : (w : go.Walk) (f : List ℕ → Bool) (e : t.Expr) (x : List ℕ) (p : Place) (before after : List Flaw) → Some x ≡ plain_name e → p ≡ place_of e → after ≡ before ++ twice_told p x (f x) → after ≡ before ++ name_told w f e
told_name w f e x p before after h q k = k ∙ ap (λ (at : Place). before ++ twice_told at x (f x)) q ∙ ap (λ (o : Option (List ℕ)). before ++ name_told_by w f e o) h

pub told_other : (w : go.Walk) (f : List ℕ → Bool) (e : t.Expr) (before after : List Flaw) → None ≡ plain_name e → after ≡ before ++ no_name_flaws w e → after ≡ before ++ name_told w f e
told_other w f e before after h k = k ∙ ap (λ (o : Option (List ℕ)). before ++ name_told_by w f e o) h

-- as it is typed
abbrev where_known : Place → Bool → List Flaw
where_known p b = if b then flaw p 83 ∷ [] else []

pub raw_told : (ts : List Ty) (r : code_raw.Raw) (b : Bool) (f0 f1 f2 : List Flaw) → b ≡ is_known (answer_view ts r.part.answer) → f1 ≡ f0 ++ map flaw_view r.flaws.items → f2 ≡ f1 ++ (if b then flaw r.part.place 83 ∷ [] else []) → f2 ≡ f0 ++ no_name_told (raw_view ts r)
raw_told ts r b f0 f1 f2 h k e =
    let own = map flaw_view r.flaws.items in
    e
    ∙ ap (λ (fs : List Flaw). fs ++ where_known r.part.place b) k
    ∙ ap (λ (c : Bool). (f0 ++ own) ++ where_known r.part.place c) h
    ∙ append_assoc f0 own (where_known r.part.place (is_known (answer_view ts r.part.answer)))

pub other_told : (a : Env) (e : t.Expr) (r : Raw) (before after : List Flaw) → r ≡ raw_of (names_of a) (scopes_of a) e → after ≡ before ++ no_name_told r → after ≡ before ++ no_name_flaws (walk_outside a) e
other_told a e r before after p h = h ∙ ap (λ (x : Raw). before ++ no_name_told x) p

pub seen_name : (f : List ℕ → Bool) (o : Option (List ℕ)) (x y : List ℕ) (b : Bool) → Some x ≡ o → b ≡ (bytes_eq y x || f y) → b ≡ seen_with f o y
seen_name f o x y b h k = k ∙ ap (λ (p : Option (List ℕ)). seen_with f p y) h

pub seen_other : (f : List ℕ → Bool) (o : Option (List ℕ)) (y : List ℕ) → None ≡ o → f y ≡ seen_with f o y
seen_other f o y h = ap (λ (p : Option (List ℕ)). seen_with f p y) h

-- ---- those that stood before, as a list

abbrev pub seen_after : List (List ℕ) → Option (List ℕ) → List (List ℕ)
seen_after seen (Some x) = x ∷ seen
seen_after seen None = seen

in_plain : (x y : List ℕ) (ys : List (List ℕ)) (c : Bool) → is_blank x ≡ false → bytes_eq x y ≡ c → is_in x (y ∷ ys) ≡ (c || is_in x ys)
in_plain x y ys true h k = rw (h, k) refl
in_plain x y ys false h k = rw (h, k) refl

in_blank : (x : List ℕ) (seen : List (List ℕ)) → is_blank x ≡ true → is_in x seen ≡ false
in_blank x [] h = refl
in_blank x (y ∷ ys) h = rw h refl

-- a list that has the names that a set has, `_` aside
pub seen_more : (seen : List (List ℕ)) (f g : List ℕ → Bool) (o : Option (List ℕ)) → ((y : List ℕ) → g y ≡ seen_with f o y) → ((y : List ℕ) → false ≡ is_blank y → f y ≡ is_in y seen) → (y : List ℕ) → false ≡ is_blank y → g y ≡ is_in y (seen_after seen o)
seen_more seen f g None h k y b = h y ∙ k y b
seen_more seen f g (Some x) h k y b = h y ∙ ap (λ (c : Bool). bytes_eq y x || c) (k y b) ∙ sym (in_plain y x seen (bytes_eq y x) (sym b) refl)

abbrev pub twice : Place → List ℕ → List Flaw
twice at x = record { place = at; code = 82; name = x } ∷ []

abbrev pub told_by : go.Walk → List (List ℕ) → t.Expr → Option (List ℕ) → List Flaw
told_by w seen e (Some x) = if is_in x seen then twice (place_of e) x else []
told_by w seen e None = no_name_flaws w e

by_blank : (seen : List (List ℕ)) (at : Place) (x : List ℕ) (b d : Bool) → d ≡ is_blank x → (false ≡ d → b ≡ is_in x seen) → (if d then [] else (if b then twice at x else [])) ≡ (if is_in x seen then twice at x else [])
by_blank seen at x b true h k = ap (λ (c : Bool). if c then twice at x else []) (sym (in_blank x seen (sym h)))
by_blank seen at x b false h k = ap (λ (c : Bool). if c then twice at x else []) (k refl)

told_same : (w : go.Walk) (seen : List (List ℕ)) (f : List ℕ → Bool) (e : t.Expr) (o : Option (List ℕ)) → ((y : List ℕ) → false ≡ is_blank y → f y ≡ is_in y seen) → name_told_by w f e o ≡ told_by w seen e o
told_same w seen f e None h = refl
told_same w seen f e (Some x) h = by_blank seen (place_of e) x (f x) (is_blank x) refl (h x)

pub flaws_step : (w : go.Walk) (seen : List (List ℕ)) (e : t.Expr) (es : t.Exprs) → names_flaws w seen (t.MoreExprs e es) ≡ told_by w seen e (plain_name e) ++ names_flaws w (seen_after seen (plain_name e)) es
flaws_step w seen (NameExpr at x) es = refl
flaws_step w seen (ParenExpr at e) es = refl
flaws_step w seen (IntExpr at y) es = refl
flaws_step w seen (RuneExpr at y) es = refl
flaws_step w seen (StrExpr at y) es = refl
flaws_step w seen (UnaryExpr at op e) es = refl
flaws_step w seen (BinaryExpr at e op f) es = refl
flaws_step w seen (SelectExpr at e name) es = refl
flaws_step w seen (IndexExpr at e i) es = refl
flaws_step w seen (SliceExpr at e low high most) es = refl
flaws_step w seen (AssertExpr at e u) es = refl
flaws_step w seen (CallExpr at f xs spread) es = refl
flaws_step w seen (LiteralExpr at u fs) es = refl
flaws_step w seen (FuncExpr at sig b) es = refl
flaws_step w seen (ArrayType at m u) es = refl
flaws_step w seen (SliceType at u) es = refl
flaws_step w seen (StructType at fs) es = refl
flaws_step w seen (FuncType at sig) es = refl
flaws_step w seen (InterfaceType at ms) es = refl
flaws_step w seen (MapType at k u) es = refl
flaws_step w seen (ChanType at d u) es = refl

next_at : {X : Type 0} (xs : List X) (i : ℕ) (x : X) → i < length xs → x ≡ get_or xs i x → drop i xs ≡ x ∷ drop (i + 1) xs
next_at {X} xs i x h e =
    let one : suc i ≡ i + 1 = omega arith in
    drop-cons xs i x h ∙ ap (λ (y : X). y ∷ drop (suc i) xs) (sym e) ∙ ap (λ (n : ℕ). x ∷ drop n xs) one

past : {X : Type 0} (xs : List X) (i : ℕ) → length xs ≤ i → drop i xs ≡ []
past [] zero h = refl
past [] (suc i) h = refl
past (x ∷ xs) zero h = absurd (omega arith)
past (x ∷ xs) (suc i) h = past xs i (omega arith)

abbrev flaws_from : go.Walk → List (List ℕ) → List Expr → List Flaw
flaws_from w seen xs = names_flaws w seen (exprs_of (map expr_view xs))

-- in the walk before its types were more
pub told_back : (a b : Walk) (f : List ℕ → Bool) (e : t.Expr) (before after : List Flaw) → Stays a b → after ≡ before ++ name_told (walk_outside b.env) f e → after ≡ before ++ name_told (walk_outside a.env) f e
told_back a b f e before after s h = h ∙ ap (λ (w : go.Walk). before ++ name_told w f e) (outside_grown a.env b.env s.grows)

pub told_step : (w : go.Walk) (seen : List (List ℕ)) (f : List ℕ → Bool) (xs : List Expr) (i : ℕ) (x : Expr) (before after all : List Flaw) → i < length xs → x ≡ get_or xs i x → ((y : List ℕ) → false ≡ is_blank y → f y ≡ is_in y seen)
    → after ≡ before ++ name_told w f (expr_view x) → before ++ names_flaws w seen (exprs_of (map expr_view (drop i xs))) ≡ all
    → after ++ names_flaws w (seen_after seen (plain_name (expr_view x))) (exprs_of (map expr_view (drop (i + 1) xs))) ≡ all
told_step w seen f xs i x before after all h e k p q =
    let e0 = expr_view x in
    let rest = flaws_from w (seen_after seen (plain_name e0)) (drop (i + 1) xs) in
    ap (λ (fs : List Flaw). fs ++ rest) p
    ∙ append_assoc before (name_told w f e0) rest
    ∙ ap (λ (fs : List Flaw). before ++ (fs ++ rest)) (told_same w seen f e0 (plain_name e0) k)
    ∙ ap (λ (fs : List Flaw). before ++ fs) (sym (flaws_step w seen e0 (exprs_of (map expr_view (drop (i + 1) xs)))))
    ∙ ap (λ (ys : List Expr). before ++ flaws_from w seen ys) (sym (next_at xs i x h e))
    ∙ q

pub names_end : (w : go.Walk) (seen : List (List ℕ)) (xs : List Expr) (i : ℕ) (now all : List Flaw) → length xs ≤ i → now ++ names_flaws w seen (exprs_of (map expr_view (drop i xs))) ≡ all → now ≡ all
names_end w seen xs i now all h q = sym (append-nil now) ∙ sym (ap (λ (ys : List Expr). now ++ flaws_from w seen ys) (past xs i h)) ∙ q

-- ---- where the first stands

pub first_none : (xs : List Expr) (at : Place) → length xs ≡ 0 → at ≡ first_place (exprs_of (map expr_view xs)) at
first_none [] at h = refl
first_none (x ∷ xs) at h = absurd (omega (arith, h))

pub first_some : (xs : List Expr) (x : Expr) (at p : Place) → (length xs ≡ 0 → ⊥) → x ≡ get_or xs 0 x → p ≡ place_of (expr_view x) → p ≡ first_place (exprs_of (map expr_view xs)) at
first_some [] x at p h q k = absurd (h refl)
first_some (y ∷ xs) x at p h q k = k ∙ ap (λ (e : Expr). place_of (expr_view e)) q

-- ---- none is new

pub new_all : (at p : Place) (xs : List t.Expr) (ss : List Spot) (rs : List Raw) (b c : Bool) (f0 f1 : List Flaw) → b ≡ any_new_spot ss → c ≡ (spots_typed ss && all_fine rs) → p ≡ first_place (exprs_of xs) at → f1 ≡ f0 ++ (if b then [] else (if c then flaw p 83 ∷ [] else []))
    → f1 ≡ f0 ++ new_told at xs ss rs
new_all at p xs ss rs b c f0 f1 h k q e =
    e
    ∙ ap (λ (d : Bool). f0 ++ (if d then [] else (if c then flaw p 83 ∷ [] else []))) h
    ∙ ap (λ (d : Bool). f0 ++ (if any_new_spot ss then [] else (if d then flaw p 83 ∷ [] else []))) k
    ∙ ap (λ (r : Place). f0 ++ (if any_new_spot ss then [] else (if spots_typed ss && all_fine rs then flaw r 83 ∷ [] else []))) q
