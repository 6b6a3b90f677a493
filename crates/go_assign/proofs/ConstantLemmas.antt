-- What is told of a value that is to be a constant, and what a constant's name stands for.
use Rattle.std.proofs.Common.{◌≡◌, ◌∙◌, refl, sym, ap, List, [], ◌∷◌, ◌++◌, Bool, true, false, Option, Some, None}
use Rattle.std.specs.Prelude.{if◌then◌else◌}
use Rattle.std.proofs.lemmas.List.{append-nil}
use Rattle.gj_base.specs.declared.place.Place.{Place}
use Rattle.go_const.specs.declared.constant.Const.{Const}
use Rattle.go_core.specs.CoreTree as core
use Rattle.go_type.specs.Tree as ty
use Rattle.go_type.specs.Tree.{Ty}
use Rattle.go_type.specs.Named.{NamedTy}
use Rattle.go_type.specs.Underlying.{underlying}
use Rattle.go_typing.specs.Env.{Decl}
use Rattle.go_typing.specs.Answer.{Flaw, flaw, Answer, value, pending, type_, package_, built_in, blank, does, wrong, untyped_part}
use Rattle.go_typing.specs.Convert.{is_scalar}
use Rattle.go_typing.specs.Expressions.{type_of, constant_of}
use Rattle.go_typing.specs.Declare.{of_type, constant_flaws, constant_decl}
use Rattle.go_expr.specs.Raw.{Raw}
use Rattle.go_assign.specs.SpecView.{is_tuple, decl_by, constant_at, unscalar, constant_raw}

tuple_flaws : (at : Place) (c : core.Expr) (u : Ty) (v : Option Const) → true ≡ is_tuple u → constant_flaws at (value c u v) ≡ flaw at 52 ∷ []
tuple_flaws at c (ty.tuple us) v h = refl
tuple_flaws at c ty.bool v h = absurd (cc)
tuple_flaws at c ty.str v h = absurd (cc)
tuple_flaws at c (ty.int n) v h = absurd (cc)
tuple_flaws at c ty.nil v h = absurd (cc)
tuple_flaws at c (ty.untyped b) v h = absurd (cc)
tuple_flaws at c (ty.array n u) v h = absurd (cc)
tuple_flaws at c (ty.slice u) v h = absurd (cc)
tuple_flaws at c (ty.struct fs) v h = absurd (cc)
tuple_flaws at c (ty.pointer u) v h = absurd (cc)
tuple_flaws at c (ty.func ps rs b) v h = absurd (cc)
tuple_flaws at c (ty.interface ms) v h = absurd (cc)
tuple_flaws at c (ty.mapping k u) v h = absurd (cc)
tuple_flaws at c (ty.chan d u) v h = absurd (cc)
tuple_flaws at c (ty.named n) v h = absurd (cc)

none_flaws : (at : Place) (c : core.Expr) (u : Ty) → false ≡ is_tuple u → constant_flaws at (value c u None) ≡ flaw at 61 ∷ []
none_flaws at c (ty.tuple us) h = absurd (cc)
none_flaws at c ty.bool h = refl
none_flaws at c ty.str h = refl
none_flaws at c (ty.int n) h = refl
none_flaws at c ty.nil h = refl
none_flaws at c (ty.untyped b) h = refl
none_flaws at c (ty.array n u) h = refl
none_flaws at c (ty.slice u) h = refl
none_flaws at c (ty.struct fs) h = refl
none_flaws at c (ty.pointer u) h = refl
none_flaws at c (ty.func ps rs b) h = refl
none_flaws at c (ty.interface ms) h = refl
none_flaws at c (ty.mapping k u) h = refl
none_flaws at c (ty.chan d u) h = refl
none_flaws at c (ty.named n) h = refl

some_flaws : (at : Place) (c : core.Expr) (u : Ty) (k : Const) → false ≡ is_tuple u → constant_flaws at (value c u (Some k)) ≡ []
some_flaws at c (ty.tuple us) k h = absurd (cc)
some_flaws at c ty.bool k h = refl
some_flaws at c ty.str k h = refl
some_flaws at c (ty.int n) k h = refl
some_flaws at c ty.nil k h = refl
some_flaws at c (ty.untyped b) k h = refl
some_flaws at c (ty.array n u) k h = refl
some_flaws at c (ty.slice u) k h = refl
some_flaws at c (ty.struct fs) k h = refl
some_flaws at c (ty.pointer u) k h = refl
some_flaws at c (ty.func ps rs b) k h = refl
some_flaws at c (ty.interface ms) k h = refl
some_flaws at c (ty.mapping i u) k h = refl
some_flaws at c (ty.chan d u) k h = refl
some_flaws at c (ty.named n) k h = refl

pub tuple_told : (old new : List Flaw) (at : Place) (c : core.Expr) (u : Ty) (v : Option Const) → true ≡ is_tuple u → new ≡ old ++ flaw at 52 ∷ [] → new ≡ old ++ constant_flaws at (value c u v)
tuple_told old new at c u v h q = q ∙ sym (ap (λ (fs : List Flaw). old ++ fs) (tuple_flaws at c u v h))

pub none_told : (old new : List Flaw) (at : Place) (c : core.Expr) (u : Ty) (v : Option Const) → false ≡ is_tuple u → v ≡ None → new ≡ old ++ flaw at 61 ∷ [] → new ≡ old ++ constant_flaws at (value c u v)
none_told old new at c u v h e q = q ∙ sym (ap (λ (o : Option Const). old ++ constant_flaws at (value c u o)) e ∙ ap (λ (fs : List Flaw). old ++ fs) (none_flaws at c u h))

pub some_told : (old : List Flaw) (at : Place) (c : core.Expr) (u : Ty) (v : Option Const) (k : Const) → false ≡ is_tuple u → v ≡ Some k → old ≡ old ++ constant_flaws at (value c u v)
some_told old at c u v k h e = sym (append-nil old) ∙ sym (ap (λ (o : Option Const). old ++ constant_flaws at (value c u o)) e ∙ ap (λ (fs : List Flaw). old ++ fs) (some_flaws at c u k h))

-- ---- what its name stands for

decl_is : (a : Answer) → decl_by (type_of a) (constant_of a) ≡ constant_decl a
decl_is (value c u None) = refl
decl_is (value c u (Some k)) = refl
decl_is (pending p b) = refl
decl_is (type_ u) = refl
decl_is (package_ p) = refl
decl_is (built_in b) = refl
decl_is blank = refl
decl_is (does s) = refl
decl_is (wrong f fs) = refl
decl_is untyped_part = refl

pub declared_as : (a : Answer) (o : Option Ty) (k : Option Const) (d : Decl) → d ≡ decl_by o k → o ≡ type_of a → k ≡ constant_of a → d ≡ constant_decl a
declared_as a o k d p q r = p ∙ ap (λ (x : Option Ty). decl_by x k) q ∙ ap (decl_by (type_of a)) r ∙ decl_is a

-- ---- of a type

pub scalar_decl : (ns : List NamedTy) (u : Ty) (r : Raw) (d : Decl) → true ≡ is_scalar (underlying ns u) → d ≡ constant_decl (constant_at ns u r).answer → d ≡ constant_decl (constant_raw ns (of_type u) r).answer
scalar_decl ns u r d h q = q ∙ ap (λ (b : Bool). constant_decl (if b then constant_at ns u r else unscalar r).answer) h

pub scalar_told : (ns : List NamedTy) (u : Ty) (r : Raw) (fs : List Flaw) → true ≡ is_scalar (underlying ns u) → fs ≡ (constant_at ns u r).flaws → fs ≡ (constant_raw ns (of_type u) r).flaws
scalar_told ns u r fs h q = q ∙ ap (λ (b : Bool). (if b then constant_at ns u r else unscalar r).flaws) h

pub other_decl : (ns : List NamedTy) (u : Ty) (r : Raw) (d : Decl) → false ≡ is_scalar (underlying ns u) → d ≡ constant_decl (unscalar r).answer → d ≡ constant_decl (constant_raw ns (of_type u) r).answer
other_decl ns u r d h q = q ∙ ap (λ (b : Bool). constant_decl (if b then constant_at ns u r else unscalar r).answer) h

pub other_told : (ns : List NamedTy) (u : Ty) (r : Raw) (fs : List Flaw) → false ≡ is_scalar (underlying ns u) → fs ≡ (unscalar r).flaws → fs ≡ (constant_raw ns (of_type u) r).flaws
other_told ns u r fs h q = q ∙ ap (λ (b : Bool). (if b then constant_at ns u r else unscalar r).flaws) h
