-- Outside of constant specifications `iota` stands for nothing, and names of open blocks leave that as it is.
use Rattle.std.proofs.Common.{◌≡◌, ◌∙◌, ℕ, refl, sym, ap, subst, List, [], ◌∷◌, ◌++◌, Bool, true, false, bytes_eq}
use Rattle.std.specs.Prelude.{Option, Some, None, codes, if◌then◌else◌}
use Rattle.gj_base.specs.declared.place.Place.{Place}
use Rattle.go_syntax.specs.Tree as t
use Rattle.go_syntax.specs.declared.tree.Name.{Name}
use Rattle.go_typing.specs.Answer.{Answer, untyped_part}
use Rattle.go_typing.specs.Env.{Decl, Bind, find, iota_in, is_blank}
use Rattle.go_typing.specs.Scopes.{Env, visible, last_changed, with_bind}
use Rattle.go_calls.specs.Words.{types_of, scopes_of}
use Rattle.go_operands.specs.declared.answers.answer.Flaw.{Flaw}
use Rattle.go_core.specs.declared.statement.CoreStmt.{CoreStmt}
use Rattle.go_typing.specs.Walk as go
use Rattle.go_typing.specs.Walk.{Did, also, with_name, bind_of, is_there, uses_all}
use Rattle.go_typing.specs.Assign.{all_typed, all_in_flaws}
use Rattle.go_typing.specs.Declare.{SpecType, counting, spec_place, declare_constant, const_unknown, constant_decl, type_uses, const_each, const_spec, spec_type, names_count, constant_value, count_told}
use Rattle.go_walk.specs.WalkView.{walk_of}
use Rattle.go_walk.specs.declared.walk.walk.Walk.{Walk}
use Rattle.go_assign.specs.Outcome.{Does}
use Rattle.go_body.specs.Plain.{IsPlain}

abbrev first_scope : List (List Bind) → List Bind
first_scope [] = []
first_scope (s ∷ ss) = s

-- ---- what a plain environment counts

passed : (b : Bool) (d : Decl) (o : Option Decl) → (if b then Some d else o) ≡ None → o ≡ None
passed true d o h = absurd (cc)
passed false d o h = h

counts_not : (bs : List Bind) (n : ℕ) → find (codes "iota") (bs ++ iota_in (Some n)) ≡ None → ⊥
counts_not [] n h = cc
counts_not (b ∷ bs) n h = counts_not bs n (passed (bytes_eq b.name (codes "iota")) b.what (find (codes "iota") (bs ++ iota_in (Some n))) h)

not_counting : (bs : List Bind) (i : Option ℕ) → find (codes "iota") (bs ++ iota_in i) ≡ None → i ≡ None
not_counting bs None h = refl
not_counting bs (Some n) h = absurd (counts_not bs n h)

pub no_iota : (e : Env) → IsPlain (visible e) → e.iota ≡ None
no_iota e h = not_counting e.universe_scope e.iota (ap (λ (ss : List (List Bind)). find (codes "iota") (first_scope ss)) h.is ∙ h.plain)

-- ---- names

plain_tail : (f : List Bind → List Bind) (s r : List Bind) (ss : List (List Bind)) → find (codes "iota") s ≡ None → IsPlain (s ∷ last_changed f (r ∷ ss))
plain_tail f s r [] h = record { outer = s; next = f r; others = []; is = refl; plain = h }
plain_tail f s r (x ∷ xs) h = record { outer = s; next = r; others = last_changed f (x ∷ xs); is = refl; plain = h }

plain_last : (f : List Bind → List Bind) (ss : List (List Bind)) → IsPlain ss → IsPlain (last_changed f ss)
plain_last f ss h = subst (λ (x : List (List Bind)). IsPlain (last_changed f x)) (sym h.is) (plain_tail f h.outer h.next h.others h.plain)

abbrev named_if : Bool → Name → Decl → go.Walk → go.Walk
named_if b n d w = if b then w else record w { scopes = last_changed (with_bind (bind_of n d)) w.scopes }

plain_if : (b : Bool) (n : Name) (d : Decl) (w : go.Walk) → IsPlain w.scopes → IsPlain (named_if b n d w).scopes
plain_if true n d w h = h
plain_if false n d w h = plain_last (with_bind (bind_of n d)) w.scopes h

pub plain_name : (n : Name) (d : Decl) (w : go.Walk) → IsPlain w.scopes → IsPlain (with_name n d w).scopes
plain_name n d w h = plain_if (is_blank n.text) n d w h

plain_constant : (n : Name) (o : Option Place) (a : Answer) (w : go.Walk) → IsPlain w.scopes → IsPlain (declare_constant n o a w).scopes
plain_constant n None a w h = plain_name n (constant_decl a) w h
plain_constant n (Some at) a w h = h

plain_each : (v : go.Walk) (s : SpecType) (ns : List Name) (ys : t.Exprs) (w : go.Walk) → IsPlain w.scopes → IsPlain (const_each v s ns ys w).walk.scopes
plain_each v s [] ys w h = h
plain_each v s (n ∷ ns) t.NoExprs w h = h
plain_each v s (n ∷ ns) (t.MoreExprs y ys) w h =
    plain_each v s ns ys (declare_constant n (is_there n w) (constant_value v s y).answer w) (plain_constant n (is_there n w) (constant_value v s y).answer w h)

plain_unknown : (ns : List Name) (w : go.Walk) → IsPlain w.scopes → IsPlain (const_unknown ns w).walk.scopes
plain_unknown [] w h = h
plain_unknown (n ∷ ns) w h = plain_unknown ns (declare_constant n (is_there n w) untyped_part w) (plain_constant n (is_there n w) untyped_part w h)

plain_type : (u : t.MaybeExpr) (w : go.Walk) → IsPlain w.scopes → IsPlain (type_uses u w).scopes
plain_type t.NoExpr w h = h
plain_type (t.AnExpr e) w h = h

abbrev miscount : Place → go.Walk → SpecType → List Name → t.Exprs → go.Walk → Did
miscount at v s ns ys x = also (count_told s (spec_place ns at) (all_typed v ys) (all_in_flaws v ys)) (const_unknown ns x)

plain_choice : (b : Bool) (d e : Did) → IsPlain d.walk.scopes → IsPlain e.walk.scopes → IsPlain (if b then d else e).walk.scopes
plain_choice true d e h k = h
plain_choice false d e h k = k

plain_spec : (at : Place) (v : go.Walk) (ns : List Name) (u : t.MaybeExpr) (ys : t.Exprs) (w : go.Walk) → IsPlain w.scopes → IsPlain (const_spec at v ns u ys w).walk.scopes
plain_spec at v ns u ys w h =
    let x = uses_all ys (type_uses u w) in
    let p = plain_type u w h in
    plain_choice (names_count ns ys) (const_each v (spec_type v u) ns ys x) (miscount at v (spec_type v u) ns ys x) (plain_each v (spec_type v u) ns ys x p) (plain_unknown ns x p)

-- after a specification
pub plain_after : (at : Place) (number : ℕ) (ns : List Name) (u : t.MaybeExpr) (ys : t.Exprs) (a b : Walk) (f0 f1 : List Flaw) (o0 o1 : List CoreStmt) → IsPlain (scopes_of a.env) → Does (λ w. const_spec at (counting number w) ns u ys w) a b f0 f1 o0 o1 → IsPlain (scopes_of b.env)
plain_after at number ns u ys a b f0 f1 o0 o1 h k =
    let ts = types_of b.env in
    let p = k.walk ts (λ i l. refl) in
    subst IsPlain (ap (λ (w : go.Walk). w.scopes) (sym p)) (plain_spec at (counting number (walk_of ts a)) ns u ys (walk_of ts a) h)
