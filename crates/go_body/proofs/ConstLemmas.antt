-- Constants, by what was typed of their values.
use Rattle.std.proofs.Common.{arith, ◌≡◌, ◌≢◌, ◌∙◌, refl, sym, ap, subst, List, [], ◌∷◌, ◌++◌, append_assoc, map, length, ◌+◌, Bool, true, false}
use Rattle.std.specs.Prelude.{Option, Some, None, if◌then◌else◌}
use Rattle.std.proofs.lemmas.List.{append-nil}
use Rattle.gj_base.specs.declared.place.Place.{Place}
use Rattle.go_const.specs.declared.constant.Const.{Const}
use Rattle.go_syntax.specs.declared.tree.Name.{Name}
use Rattle.go_type.specs.Tree.{Ty}
use Rattle.go_type.specs.Named.{NamedTy}
use Rattle.go_type.specs.Levels.{tree_of}
use Rattle.go_type.specs.Table.{places, size}
use Rattle.go_type.specs.Underlying.{underlying}
use Rattle.go_type.specs.declared.types.TypeId.{TypeId}
use Rattle.go_type.specs.declared.table.TypeTable.{TypeTable}
use Rattle.go_core.specs.CoreView.{stmt_view}
use Rattle.go_core.specs.declared.statement.CoreStmt.{CoreStmt}
use Rattle.go_typing.specs.Answer as typing
use Rattle.go_typing.specs.Answer.{Answer, value, pending, type_, package_, built_in, blank, does, wrong, untyped_part}
use Rattle.go_typing.specs.Convert.{is_scalar}
use Rattle.go_typing.specs.Env.{Decl, constant, unknown}
use Rattle.go_operands.specs.EnvView.{table_of}
use Rattle.go_operands.specs.AnswerView.{flaw_view}
use Rattle.go_operands.specs.declared.answers.answer.Flaw.{Flaw}
use Rattle.go_typing.specs.Walk as go
use Rattle.go_typing.specs.Walk.{Did, faulty, also, is_there, redeclared, with_name}
use Rattle.go_typing.specs.Expressions.{Valued, type_of, constant_of}
use Rattle.go_typing.specs.Declare.{SpecType, of_type, constant_decl, declare_constant, const_unknown, spec_place, count_told}
use Rattle.go_walk.specs.WalkView.{walk_of, depth}
use Rattle.go_walk.specs.declared.walk.walk.Walk.{Walk}
use Rattle.go_expr.specs.declared.typed.raw.Raw as code
use Rattle.go_expr.specs.Raw.{Raw, raw_view, raws_after}
use Rattle.go_assign.specs.Settled.{all_known, all_told}
use Rattle.go_assign.specs.Outcome.{Does}
use Rattle.go_assign.specs.SpecView.{constant_raw, constant_at, unscalar}
use Rattle.go_body.specs.LocalVarsSpecs.{same_count}
use Rattle.go_body.specs.LocalConstsSpecs.{with_constant, one_constant, unknown_constant, const_raws, const_given}

-- ---- values

pub constant_same : (at : Place) (x v w : Valued) → v ≡ w → x ≡ with_constant at v → x ≡ with_constant at w
constant_same at x v w p h = h ∙ ap (with_constant at) p

abbrev by_scalar : Bool → List NamedTy → Ty → Raw → Valued
by_scalar b ns u r = if b then constant_at ns u r else unscalar r

pub scalar_constant : (ns : List NamedTy) (u : Ty) (r : Raw) (b : Bool) (x : Valued) → b ≡ is_scalar (underlying ns u) → b ≡ true → x ≡ constant_at ns u r → x ≡ constant_raw ns (of_type u) r
scalar_constant ns u r b x p q h = h ∙ ap (λ (c : Bool). by_scalar c ns u r) (sym q ∙ p)

pub no_scalar : (ns : List NamedTy) (u : Ty) (r : Raw) (b : Bool) (x : Valued) → b ≡ is_scalar (underlying ns u) → b ≡ false → x ≡ unscalar r → x ≡ constant_raw ns (of_type u) r
no_scalar ns u r b x p q h = h ∙ ap (λ (c : Bool). by_scalar c ns u r) (sym q ∙ p)

-- ---- what a name stands for

decl_known : (a : Answer) (k : Const) (u : Ty) → Some k ≡ constant_of a → Some u ≡ type_of a → constant_decl a ≡ constant k u
decl_known (value c v (Some j)) k u p q = cc (p, q)
decl_known (value c v None) k u p q = absurd (cc)
decl_known (pending n b) k u p q = absurd (cc)
decl_known (type_ v) k u p q = absurd (cc)
decl_known (package_ x) k u p q = absurd (cc)
decl_known (built_in b) k u p q = absurd (cc)
decl_known blank k u p q = absurd (cc)
decl_known (does s) k u p q = absurd (cc)
decl_known (wrong f fs) k u p q = absurd (cc)
decl_known untyped_part k u p q = absurd (cc)

decl_lost : (a : Answer) → None ≡ constant_of a → constant_decl a ≡ unknown
decl_lost (value c v (Some j)) p = absurd (cc)
decl_lost (value c v None) p = refl
decl_lost (pending n b) p = refl
decl_lost (type_ v) p = refl
decl_lost (package_ x) p = refl
decl_lost (built_in b) p = refl
decl_lost blank p = refl
decl_lost (does s) p = refl
decl_lost (wrong f fs) p = refl
decl_lost untyped_part p = refl

decl_untyped : (a : Answer) → None ≡ type_of a → constant_decl a ≡ unknown
decl_untyped (value c v k) p = absurd (cc)
decl_untyped (pending n b) p = refl
decl_untyped (type_ v) p = refl
decl_untyped (package_ x) p = refl
decl_untyped (built_in b) p = refl
decl_untyped blank p = refl
decl_untyped (does s) p = refl
decl_untyped (wrong f fs) p = refl
decl_untyped untyped_part p = refl

pub constant_named : (n : Name) (a : Answer) (k : Const) (u : Ty) (v w : go.Walk) → Some k ≡ constant_of a → Some u ≡ type_of a → v ≡ with_name n (constant k u) w → v ≡ with_name n (constant_decl a) w
constant_named n a k u v w p q h = h ∙ ap (λ (d : Decl). with_name n d w) (sym (decl_known a k u p q))

pub unknown_named : (n : Name) (a : Answer) (v w : go.Walk) → None ≡ constant_of a → v ≡ with_name n unknown w → v ≡ with_name n (constant_decl a) w
unknown_named n a v w p h = h ∙ ap (λ (d : Decl). with_name n d w) (sym (decl_lost a p))

pub untyped_named : (n : Name) (a : Answer) (v w : go.Walk) → None ≡ type_of a → v ≡ with_name n unknown w → v ≡ with_name n (constant_decl a) w
untyped_named n a v w p h = h ∙ ap (λ (d : Decl). with_name n d w) (sym (decl_untyped a p))

-- ---- a name

abbrev tree_at : TypeId → TypeTable → Ty
tree_at i t = tree_of (places t) i

-- what is told alone, where the table stays
told_does : (f : go.Walk → List typing.Flaw) (g : go.Walk → go.Walk) (a b : Walk) (f0 f1 : List Flaw) (o : List CoreStmt) → ((ts : List Ty) → map flaw_view f1 ≡ map flaw_view f0 ++ f (walk_of ts a)) → ((ts : List Ty) → walk_of ts b ≡ g (walk_of ts a)) → depth b ≡ depth a
    → table_of b.env ≡ table_of a.env → Does (λ w. faulty (f w) (g w)) a b f0 f1 o o
told_does f g a b f0 f1 o t w d e = record {
  told = λ ts l. t ts;
  core = λ ts l. sym (append-nil (map (stmt_view ts) o));
  walk = λ ts l. w ts;
  depth = d;
  kept = λ i l. ap (tree_at i) e;
  counts = let s : size (table_of b.env) ≡ size (table_of a.env) = ap size e in omega (arith, s);
}

pub one_does : (n : Name) (at : Option Place) (v : Valued) (a b : Walk) (f0 f1 f2 : List Flaw) (out : List CoreStmt) → ((ts : List Ty) → at ≡ is_there n (walk_of ts a)) → map flaw_view f1 ≡ map flaw_view f0 ++ redeclared n at
    → map flaw_view f2 ≡ map flaw_view f1 ++ v.flaws → ((ts : List Ty) → walk_of ts b ≡ declare_constant n at v.answer (walk_of ts a)) → depth b ≡ depth a → table_of b.env ≡ table_of a.env → Does (one_constant n v) a b f0 f2 out out
one_does n at v a b f0 f1 f2 out there t1 t2 w d e =
    told_does (λ x. redeclared n (is_there n x) ++ v.flaws) (λ x. declare_constant n (is_there n x) v.answer x) a b f0 f2 out
    (λ ts.
    t2 ∙ ap (λ (fs : List typing.Flaw). fs ++ v.flaws) t1 ∙ append_assoc (map flaw_view f0) (redeclared n at) v.flaws
    ∙ ap (λ (x : Option Place). map flaw_view f0 ++ (redeclared n x ++ v.flaws)) (there ts))
    (λ ts. w ts ∙ ap (λ (x : Option Place). declare_constant n x v.answer (walk_of ts a)) (there ts)) d e

pub one_same : (n : Name) (v w : Valued) (a b : Walk) (f0 f1 : List Flaw) (out : List CoreStmt) → v ≡ w → Does (one_constant n v) a b f0 f1 out out → Does (one_constant n w) a b f0 f1 out out
one_same n v w a b f0 f1 out p h = subst (λ (x : Valued). Does (one_constant n x) a b f0 f1 out out) p h

-- without faults of its own
pub unknown_does : (n : Name) (fs : List typing.Flaw) (a b : Walk) (f0 f1 : List Flaw) (out : List CoreStmt) → fs ≡ [] → Does (one_constant n (record { answer = untyped_part; flaws = fs })) a b f0 f1 out out → Does (unknown_constant n) a b f0 f1 out out
unknown_does n fs a b f0 f1 out p h = record {
  told = λ ts l.
      let told = redeclared n (is_there n (walk_of ts a)) in
      h.told ts l ∙ ap (λ (x : List typing.Flaw). map flaw_view f0 ++ (told ++ x)) p ∙ ap (λ (x : List typing.Flaw). map flaw_view f0 ++ x) (append-nil told);
  core = h.core;
  walk = h.walk;
  depth = h.depth;
  kept = h.kept;
  counts = h.counts;
}

-- ---- the counts

as_many : (ts : List Ty) (rs : List code.Raw) (after : List Raw) → length (raws_after ts rs after) ≡ length rs + length after
as_many ts [] after = omega arith
as_many ts (r ∷ rs) after = let h = as_many ts rs (raw_view ts r ∷ after) in omega (arith, h)

counted : (ts : List Ty) (rs : List code.Raw) → length (raws_after ts rs []) ≡ length rs
counted ts rs = let h = as_many ts rs [] in omega (arith, h)

same_values : (names : List Name) (rs : List Raw) → length rs ≡ length names → same_count names rs ≡ true
same_values [] [] h = refl
same_values [] (r ∷ rs) h = absurd (omega (arith, h))
same_values (n ∷ names) [] h = absurd (omega (arith, h))
same_values (n ∷ names) (r ∷ rs) h = same_values names rs (omega (arith, h))

other_values : (names : List Name) (rs : List Raw) → length rs ≢ length names → same_count names rs ≡ false
other_values [] [] h = absurd (h refl)
other_values [] (r ∷ rs) h = refl
other_values (n ∷ names) [] h = refl
other_values (n ∷ names) (r ∷ rs) h = other_values names rs (λ e. h (omega (arith, e)))

abbrev choice : (d e : go.Walk → Did) → Bool → go.Walk → Did
choice d e c w = if c then d w else e w

chosen : (d e : go.Walk → Did) (c : Bool) (a b : Walk) (f0 f1 : List Flaw) (o0 o1 : List CoreStmt) → c ≡ true → Does d a b f0 f1 o0 o1 → Does (choice d e c) a b f0 f1 o0 o1
chosen d e c a b f0 f1 o0 o1 p h = subst (λ (x : Bool). Does (choice d e x) a b f0 f1 o0 o1) (sym p) h

passed_over : (d e : go.Walk → Did) (c : Bool) (a b : Walk) (f0 f1 : List Flaw) (o0 o1 : List CoreStmt) → c ≡ false → Does e a b f0 f1 o0 o1 → Does (choice d e c) a b f0 f1 o0 o1
passed_over d e c a b f0 f1 o0 o1 p h = subst (λ (x : Bool). Does (choice d e x) a b f0 f1 o0 o1) (sym p) h

abbrev miscount : Place → SpecType → List Name → List Raw → go.Walk → Did
miscount at s names rs w = also (count_told s (spec_place names at) (all_known rs) (all_told rs)) (const_unknown names w)

pub given_does : (ns : List NamedTy) (at : Place) (s : SpecType) (names : List Name) (ts : List Ty) (rs : List code.Raw) (a b : Walk) (f0 f1 : List Flaw) (out : List CoreStmt) → length rs ≡ length names → Does (const_raws ns s names (raws_after ts rs [])) a b f0 f1 out out
    → Does (const_given ns at s names (raws_after ts rs [])) a b f0 f1 out out
given_does ns at s names ts rs a b f0 f1 out l h =
    let qs = raws_after ts rs [] in
    chosen (const_raws ns s names qs) (miscount at s names qs) (same_count names qs) a b f0 f1 out out (same_values names qs (counted ts rs ∙ l)) h

pub miscounted_does : (ns : List NamedTy) (at p : Place) (s : SpecType) (names : List Name) (ts : List Ty) (rs : List code.Raw) (a b : Walk) (f0 f1 f2 : List Flaw) (out : List CoreStmt) → length rs ≢ length names → p ≡ spec_place names at
    → map flaw_view f1 ≡ map flaw_view f0 ++ count_told s p (all_known (raws_after ts rs [])) (all_told (raws_after ts rs [])) → Does (const_unknown names) a b f1 f2 out out → Does (const_given ns at s names (raws_after ts rs [])) a b f0 f2 out out
miscounted_does ns at p s names ts rs a b f0 f1 f2 out l q t h =
    let qs = raws_after ts rs [] in
    let told : map flaw_view f1 ≡ map flaw_view f0 ++ count_told s (spec_place names at) (all_known qs) (all_told qs) = t ∙ ap (λ (x : Place). map flaw_view f0 ++ count_told s x (all_known qs) (all_told qs)) q in
    passed_over (const_raws ns s names qs) (miscount at s names qs) (same_count names qs) a b f0 f2 out out (other_values names qs (λ e. l (sym (counted ts rs) ∙ e)))
    (record {
      told = λ us k.
          let d = const_unknown names (walk_of us a) in
          h.told us k ∙ ap (λ (fs : List typing.Flaw). fs ++ d.flaws) told ∙ append_assoc (map flaw_view f0) (count_told s (spec_place names at) (all_known qs) (all_told qs)) d.flaws;
      core = h.core;
      walk = h.walk;
      depth = h.depth;
      kept = h.kept;
      counts = h.counts;
    })
