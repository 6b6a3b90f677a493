-- Values whose cores have a meaning: operands, and values where one of a type is wanted.
use Rattle.std.proofs.Common.{◌≡◌, ◌⊎◌, inl, inr, ℕ, suc, length, List, [], ◌∷◌, ◌++◌, ◌&&◌, ◌||◌, refl, sym, subst, ap, ◌∙◌, arith, IsTrue, Bool, true, false, Option, Some, None, Result, Ok, Err, if◌then◌else◌}
use Rattle.gj_base.specs.declared.place.Place.{Place}
use Rattle.go_const.specs.declared.constant.Const.{Const}
use Rattle.go_const.specs.declared.constant.ConstRefusal.{ConstRefusal}
use Rattle.go_const.specs.declared.constant.ConstRefusal.TheVariants.{Code, NoMemory}
use Rattle.go_type.specs.declared.types.Basis.{Basis}
use Rattle.go_type.specs.declared.types.Basis.TheVariants as basis
use Rattle.go_type.specs.Tree as ty
use Rattle.go_type.specs.Tree.{Ty, Tys, no_tys, more_tys}
use Rattle.go_type.specs.Named.{NamedTy}
use Rattle.go_type.specs.Underlying.{underlying, under_at, or_else}
use Rattle.go_type.specs.Assignability.{one_undefined, has_nil}
use Rattle.go_core.specs.SameType.{same_type}
use Rattle.go_core.specs.Untagged.{untagged}
use Rattle.go_core.specs.Layout.{Shape, holds_by_value, name_holds, holds_under, holds_with, is_comparable, shape_of, shape_with, shape_under, name_shape, size}
use Rattle.go_type.specs.Parts.{compares}
use Rattle.go_core.specs.CoreTree as core
use Rattle.go_core.specs.CoreTree.{CoreProgram}
use Rattle.go_core.specs.TypeOf.{types_of, listed_types}
use Rattle.go_core.specs.SoundNode.{Around, IsInt, Fits, IsGoodType, IsUnary, IsArithmetic, IsShift, HasKey, every}
use Rattle.go_core.specs.Sound.{GivesSome, SoundExpr, SoundStmt}
use Rattle.go_core.proofs.SameTypeLemmas.{type_one}
use Rattle.go_typing.specs.Answer.{Flaw, Answer, value, pending, type_, package_, built_in, blank, does, wrong, untyped_part, bad, unless, where_known, Pending, fixed, shifted, further, signed, joined}
use Rattle.go_typing.specs.Operand.{Operand, typed, constant_operand, truth_operand, pending_operand, nil_operand, single, folded, constant_at, constant_of, goes_to_channel, goes_to, is_int, is_bool, constants_past, shifts_at, unfit_at, pending_flaws, pending_at, passed_pending, Held, held, past, unlike, constant_in, held_passed, Passed, passed, refused, unassignable, passed_at, as_type, truth_at, basis_of, default_type, Settled, settled, unsettled, settled_at, settled_alone}
use Rattle.go_typing.specs.Convert.{is_scalar}
use Rattle.go_sound.specs.SoundTyped.{IsScalarType, AreScalarTypes}
use Rattle.go_sound.proofs.SoundConstants.{ResultFits, held_fits}

-- ---- scalar types

-- where a named type stands for a scalar type, it is among the named types
found_scalar : (ns : List NamedTy) (id : ℕ) → IsTrue (is_scalar (underlying ns (ty.named id))) → (u : Ty) × (under_at ns id ≡ Some u) × IsTrue (is_scalar u)
found_scalar ns id h = by_case (under_at ns id) refl h
  where
    by_case : (o : Option Ty) → under_at ns id ≡ o → IsTrue (is_scalar (or_else o (ty.named id))) → (u : Ty) × (under_at ns id ≡ Some u) × IsTrue (is_scalar u)
    by_case None e k = let f : false ≡ true = k in cc
    by_case (Some u) e k = (u, e, k)

-- the test of a scalar type's form decides it
held_form : (test : Ty → Bool) (of_name : ℕ → Bool) (u : Ty) → IsTrue (is_scalar u) → test u ≡ true → holds_with test of_name u ≡ true
held_form test of_name ty.bool h k = k
held_form test of_name ty.str h k = k
held_form test of_name (ty.int name) h k = k
held_form test of_name _ h k = let e : false ≡ true = h in cc

named_held : (test : Ty → Bool) (ns : List NamedTy) (n id : ℕ) (u : Ty) → under_at ns id ≡ Some u → IsTrue (is_scalar u) → test u ≡ true → name_holds test ns (suc n) id ≡ true
named_held test ns n id u e h k = ap (holds_under test2) e ∙ held_form test (name_holds test ns n) u h k
  where
    test2 : Ty → Bool
    test2 = holds_with test (name_holds test ns n)

not_empty : (ns : List NamedTy) (id : ℕ) (u : Ty) → under_at ns id ≡ Some u → (n : ℕ) × (length ns ≡ suc n)
not_empty [] id u h = let e : None ≡ Some u = h in cc
not_empty (x ∷ xs) id u h = (length xs, refl)

pub scalar_held : (test : Ty → Bool) → ((u : Ty) → IsTrue (is_scalar u) → test u ≡ true) → (ns : List NamedTy) (t : Ty) → IsTrue (is_scalar (underlying ns t)) → holds_by_value test ns t ≡ true
scalar_held test f ns (ty.named id) h =
    let u = found_scalar ns id h in
    let n = not_empty ns id u.0 u.1 in
    ap (λ (m : ℕ). name_holds test ns m id) n.1 ∙ named_held test ns n.0 id u.0 u.1 u.2 (f u.0 u.2)
scalar_held test f ns ty.bool h = f ty.bool h
scalar_held test f ns ty.str h = f ty.str h
scalar_held test f ns (ty.int name) h = f (ty.int name) h
scalar_held test f ns _ h = let e : false ≡ true = h in cc

form_size : (of_name : ℕ → Shape) (u : Ty) → IsTrue (is_scalar u) → size (shape_with of_name u) ≡ 1
form_size of_name ty.bool h = refl
form_size of_name ty.str h = refl
form_size of_name (ty.int name) h = refl
form_size of_name _ h = let e : false ≡ true = h in cc

named_size : (ns : List NamedTy) (n id : ℕ) (u : Ty) → under_at ns id ≡ Some u → IsTrue (is_scalar u) → size (name_shape ns (suc n) id) ≡ 1
named_size ns n id u e h = ap (λ (o : Option Ty). size (shape_under (shape_with (name_shape ns n)) o)) e ∙ form_size (name_shape ns n) u h

scalar_size : (ns : List NamedTy) (t : Ty) → IsTrue (is_scalar (underlying ns t)) → size (shape_of ns t) ≡ 1
scalar_size ns (ty.named id) h =
    let u = found_scalar ns id h in
    let n = not_empty ns id u.0 u.1 in
    ap (λ (m : ℕ). size (name_shape ns m id)) n.1 ∙ named_size ns n.0 id u.0 u.1 u.2
scalar_size ns ty.bool h = refl
scalar_size ns ty.str h = refl
scalar_size ns (ty.int name) h = refl
scalar_size ns _ h = let e : false ≡ true = h in cc

scalar_key : (p : CoreProgram) (u : Ty) → IsTrue (is_scalar u) → HasKey p u
scalar_key p ty.bool h = tt
scalar_key p ty.str h = tt
scalar_key p (ty.int name) h = tt
scalar_key p _ h = let e : false ≡ true = h in cc

pub scalar_good : (p : CoreProgram) (t : Ty) → IsScalarType p t → IsGoodType p t
scalar_good p t h = record {
  is_whole = record { is_finite = scalar_held every (λ u k. refl) p.names t h; is_small = let e = scalar_size p.names t h in omega arith };
  has_key = scalar_key p (underlying p.names t) h;
}

form_compares : (u : Ty) → IsTrue (is_scalar u) → compares u ≡ true
form_compares ty.bool h = refl
form_compares ty.str h = refl
form_compares (ty.int name) h = refl
form_compares _ h = let e : false ≡ true = h in cc

pub scalar_compares : (p : CoreProgram) (t : Ty) → IsScalarType p t → is_comparable p.names t ≡ true
scalar_compares p t h = scalar_held compares form_compares p.names t h

-- no scalar type is a channel or has `nil`
no_channel : (u w : Ty) → IsTrue (is_scalar u) → goes_to_channel u w ≡ false
no_channel ty.bool w h = refl
no_channel ty.str w h = refl
no_channel (ty.int name) w h = refl
no_channel _ w h = let e : false ≡ true = h in cc

no_nil : (u : Ty) → IsTrue (is_scalar u) → has_nil u ≡ false
no_nil ty.bool h = refl
no_nil ty.str h = refl
no_nil (ty.int name) h = refl
no_nil _ h = let e : false ≡ true = h in cc

pub int_form : (u : Ty) → is_int u ≡ true → IsInt u
int_form (ty.int name) h = tt
int_form _ h = let e : false ≡ true = h in cc

pub bool_form : (u : Ty) → is_bool u ≡ true → u ≡ ty.bool
bool_form ty.bool h = refl
bool_form _ h = let e : false ≡ true = h in cc

int_scalar : (u : Ty) → is_int u ≡ true → is_scalar u ≡ true
int_scalar (ty.int name) h = refl
int_scalar _ h = let e : false ≡ true = h in cc

pub default_scalar : (p : CoreProgram) (b : Basis) → IsScalarType p (default_type b)
default_scalar p basis.Bool = refl
default_scalar p basis.Int = refl
default_scalar p basis.Rune = refl
default_scalar p basis.Str = refl

-- ---- values

-- no variable is declared by the statement itself
abbrev pub DeclaresNothing : core.Stmt → Type 0
DeclaresNothing (core.declare v) = ⊥
DeclaresNothing s = Unit {0}

module _ (p : CoreProgram) (a : Around) where
  abbrev pub FitsIf : Ty → Option Const → Type 0
  FitsIf t None = Unit {0}
  FitsIf t (Some k) = Fits (underlying p.names t) (constant_of k)

  -- a value of a scalar type, and if it is a constant, one of that type
  pub record IsValue (c : core.Expr) (t : Ty) (v : Option Const) : Type 0 where
    pub sound : SoundExpr p a c
    pub gives : types_of p.names c ≡ t ∷ []
    pub scalar : IsScalarType p t
    pub fits : FitsIf t v

  pub record IsTruth (c : core.Expr) : Type 0 where
    pub sound : SoundExpr p a c
    pub gives : types_of p.names c ≡ ty.bool ∷ []

  pub record IsCount (count : core.Expr) : Type 0 where
    pub sound : SoundExpr p a count
    pub gives : GivesSome p count IsInt

  abbrev pub SoundPending : Pending → Type 0
  SoundPending (fixed at k) = Unit {0}
  SoundPending (shifted at op k count) = IsShift op × IsCount count
  SoundPending (further op q count) = SoundPending q × IsShift op × IsCount count
  SoundPending (signed op q) = SoundPending q × IsUnary op
  SoundPending (joined op q r) = SoundPending q × SoundPending r × IsArithmetic op

  -- a constant is shifted in it
  abbrev pub HasShift : Pending → Type 0
  HasShift (fixed at k) = ⊥
  HasShift (shifted at op k count) = Unit {0}
  HasShift (further op q count) = HasShift q
  HasShift (signed op q) = HasShift q
  HasShift (joined op q r) = HasShift q ⊎ HasShift r

  abbrev pub OperandSound : Operand → Type 0
  OperandSound (typed c t v) = IsValue c t v
  OperandSound (constant_operand k) = Unit {0}
  OperandSound (truth_operand c) = IsTruth c
  OperandSound (pending_operand q b) = SoundPending q × HasShift q
  OperandSound nil_operand = Unit {0}

  abbrev pub SingleSound : Option Operand → Type 0
  SingleSound None = Unit {0}
  SingleSound (Some x) = OperandSound x

  abbrev pub AnswerSound : Answer → Type 0
  AnswerSound (value c (ty.untyped b) (Some k)) = Unit {0}
  AnswerSound (value c (ty.untyped b) None) = IsTruth c
  AnswerSound (value c ty.nil v) = v ≡ None
  AnswerSound (value c (ty.tuple ts) v) = SoundExpr p a c × (types_of p.names c ≡ listed_types ts) × AreScalarTypes p ts × (v ≡ None)
  AnswerSound (value c t v) = IsValue c t v
  AnswerSound (pending q b) = SoundPending q × HasShift q
  AnswerSound (type_ t) = IsScalarType p t
  AnswerSound (does s) = SoundStmt p a s × DeclaresNothing s
  AnswerSound _ = Unit {0}

  pub record IsSound (x : Answer) : Type 0 where
    pub is_sound : AnswerSound x

  pub sound : (x : Answer) → AnswerSound x → IsSound x
  sound x h = record { is_sound = h }

  single_sound : (x : Answer) → AnswerSound x → SingleSound (single x)
  single_sound (value c (ty.untyped b) (Some k)) h = tt
  single_sound (value c (ty.untyped b) None) h = h
  single_sound (value c ty.nil v) h = tt
  single_sound (value c (ty.tuple ts) v) h = tt
  single_sound (value c _ v) h = h
  single_sound (pending q b) h = h
  single_sound (type_ t) h = tt
  single_sound (package_ q) h = tt
  single_sound (built_in b) h = tt
  single_sound blank h = tt
  single_sound (does s) h = tt
  single_sound (wrong f fs) h = tt
  single_sound untyped_part h = tt

  pub sound_single : (x : Answer) → IsSound x → SingleSound (single x)
  sound_single x h = single_sound x h.is_sound

  pub value_sound : (c : core.Expr) (t : Ty) (v : Option Const) → IsValue c t v → IsSound (value c t v)
  value_sound c (ty.untyped b) v h = let s = h.scalar in let e : false ≡ true = s in cc
  value_sound c ty.nil v h = let s = h.scalar in let e : false ≡ true = s in cc
  value_sound c (ty.tuple ts) v h = let s = h.scalar in let e : false ≡ true = s in cc
  value_sound c _ v h = sound _ h

  pub sound_bad : (at : Place) (code : ℕ) → IsSound (bad at code)
  sound_bad at code = sound _ tt

  pub sound_if : (b : Bool) (x y : Answer) → IsSound x → IsSound y → IsSound (if b then x else y)
  sound_if true x y h k = h
  sound_if false x y h k = k

  -- where the test says more
  pub sound_test : (b : Bool) (x y : Answer) → (b ≡ true → IsSound x) → IsSound y → IsSound (if b then x else y)
  sound_test true x y h k = h refl
  sound_test false x y h k = k

  pub sound_unless : (fs : List Flaw) (x : Answer) → (fs ≡ [] → IsSound x) → IsSound (unless fs x)
  sound_unless [] x h = h refl
  sound_unless (f ∷ fs) x h = sound _ tt

  pub sound_known : (b : Bool) (x : Answer) → IsSound x → IsSound (where_known b x)
  sound_known true x h = h
  sound_known false x h = sound _ tt

  constant_value : (t : Ty) (k : Const) → IsScalarType p t → Fits (underlying p.names t) (constant_of k) → IsValue (constant_at t k) t (Some k)
  constant_value t k h f = record { sound = f; gives = refl; scalar = h; fits = f }

  pub sound_folded : (at : Place) (t : Ty) (r : Result Const ConstRefusal) → IsScalarType p t → ResultFits (underlying p.names t) r → IsSound (folded at t r)
  sound_folded at t (Ok k) h f = value_sound (constant_at t k) t (Some k) (constant_value t k h f)
  sound_folded at t (Err (Code n)) h f = sound _ tt
  sound_folded at t (Err NoMemory) h f = sound _ tt

  -- ---- shifted constants at a type

  no_first : (fs gs : List Flaw) → (fs ++ gs) ≡ [] → fs ≡ []
  no_first [] gs h = refl
  no_first (f ∷ fs) gs h = cc

  no_second : (fs gs : List Flaw) → (fs ++ gs) ≡ [] → gs ≡ []
  no_second [] gs h = h
  no_second (f ∷ fs) gs h = cc

  told_shift : (q : Pending) → HasShift q → shifts_at q ≡ [] → ⊥
  told_shift (fixed at k) h e = h
  told_shift (shifted at op k count) h e = cc
  told_shift (further op q count) h e = told_shift q h e
  told_shift (signed op q) h e = told_shift q h e
  told_shift (joined op q r) (inl h) e = told_shift q h (no_first (shifts_at q) (shifts_at r) e)
  told_shift (joined op q r) (inr h) e = told_shift r h (no_second (shifts_at q) (shifts_at r) e)

  fit_held : (at : Place) (u : Ty) (k : Const) (x : Held) → constant_in u k ≡ x → unfit_at at x ≡ [] → Fits u (constant_of k)
  fit_held at u k (held m) e h = let f = held_fits u k m e in f.0
  fit_held at u k past e h = cc
  fit_held at u k unlike e h = cc

  number : (t : Ty) → is_int (underlying p.names t) ≡ true → IsScalarType p t
  number t h = int_scalar (underlying p.names t) h

  pub record IsNumber (t : Ty) (c : core.Expr) : Type 0 where
    pub sound : SoundExpr p a c
    pub gives : types_of p.names c ≡ t ∷ []

  pending_number : (t : Ty) (q : Pending) → is_int (underlying p.names t) ≡ true → SoundPending q → constants_past (underlying p.names t) q ≡ [] → IsNumber t (pending_at t q)
  pending_number t (fixed at k) i s h = record { sound = fit_held at (underlying p.names t) k (constant_in (underlying p.names t) k) refl h; gives = refl }
  pending_number t (shifted at op k count) i s h = record {
    sound = (fit_held at (underlying p.names t) k (constant_in (underlying p.names t) k) refl h, s.1.sound, int_form (underlying p.names t) i, inr (s.0, refl, s.1.gives));
    gives = refl;
  }
  pending_number t (further op q count) i s h =
      let n = pending_number t q i s.0 h in record { sound = (n.sound, s.2.sound, int_form (underlying p.names t) i, inr (s.1, n.gives, s.2.gives)); gives = refl }
  pending_number t (signed op q) i s h =
      let n = pending_number t q i s.0 h in record { sound = (n.sound, s.1, n.gives, int_form (underlying p.names t) i); gives = refl }
  pending_number t (joined op q r) i s h =
      let n = pending_number t q i s.0 (no_first (constants_past (underlying p.names t) q) (constants_past (underlying p.names t) r) h) in
      let m = pending_number t r i s.1 (no_second (constants_past (underlying p.names t) q) (constants_past (underlying p.names t) r) h) in
      record { sound = (n.sound, m.sound, int_form (underlying p.names t) i, inl (s.2, n.gives, m.gives)); gives = refl }

  pub pending_value : (t : Ty) (q : Pending) → SoundPending q → HasShift q → pending_flaws p.names t q ≡ [] → IsValue (pending_at t q) t None
  pending_value t q s h e = by_test (is_int (underlying p.names t)) refl e
    where
      by_test : (b : Bool) → is_int (underlying p.names t) ≡ b → (if b then constants_past (underlying p.names t) q else shifts_at q) ≡ [] → IsValue (pending_at t q) t None
      by_test true i f = let n = pending_number t q i s f in record { sound = n.sound; gives = n.gives; scalar = number t i; fits = tt }
      by_test false i f = absurd (told_shift q h f)

  -- the same of any part of one, at an integer type
  pub pending_int_value : (t : Ty) (q : Pending) → is_int (underlying p.names t) ≡ true → SoundPending q → pending_flaws p.names t q ≡ [] → IsValue (pending_at t q) t None
  pending_int_value t q i s e =
      let f : (if true then constants_past (underlying p.names t) q else shifts_at q) ≡ [] = subst (λ (b : Bool). (if b then constants_past (underlying p.names t) q else shifts_at q) ≡ []) i e in
      let n = pending_number t q i s f in record { sound = n.sound; gives = n.gives; scalar = number t i; fits = tt }

  pub pending_is_int : (t : Ty) (q : Pending) → HasShift q → pending_flaws p.names t q ≡ [] → is_int (underlying p.names t) ≡ true
  pending_is_int t q h e = by_test (is_int (underlying p.names t)) refl e
    where
      by_test : (b : Bool) → is_int (underlying p.names t) ≡ b → (if b then constants_past (underlying p.names t) q else shifts_at q) ≡ [] → is_int (underlying p.names t) ≡ true
      by_test true i f = i
      by_test false i f = absurd (told_shift q h f)

  -- ---- a value that goes to a type

  abbrev PassedSound : Ty → Passed → Type 0
  PassedSound t (passed c v) = IsValue c t v
  PassedSound t (refused f fs) = Unit {0}
  PassedSound t unassignable = Unit {0}

  pub record IsPassed (t : Ty) (x : Passed) : Type 0 where
    pub is_passed : PassedSound t x

  passes : (t : Ty) (x : Passed) → PassedSound t x → IsPassed t x
  passes t x h = record { is_passed = h }

  passes_test : (t : Ty) (b : Bool) (x : Passed) → (b ≡ true → IsPassed t x) → IsPassed t (if b then x else unassignable)
  passes_test t true x h = h refl
  passes_test t false x h = passes t _ tt

  same_under : (t u : Ty) → IsScalarType p t → IsScalarType p u → same_type u t ≡ false → goes_to p.names u t ≡ true → underlying p.names u ≡ underlying p.names t
  same_under t u h k d g =
      by_test (same_type (underlying p.names u) (underlying p.names t)) (one_undefined u t) refl
      (subst (λ (b : Bool). (b || same_type (underlying p.names u) (underlying p.names t) && one_undefined u t || goes_to_channel (underlying p.names u) (underlying p.names t) && one_undefined u t) ≡ true) d g)
    where
      by_test : (b c : Bool) → same_type (underlying p.names u) (underlying p.names t) ≡ b
          → (b && c || goes_to_channel (underlying p.names u) (underlying p.names t) && c) ≡ true → underlying p.names u ≡ underlying p.names t
      by_test true c e f = type_one (underlying p.names u) (underlying p.names t) e
      by_test false c e f = let n = no_channel (underlying p.names u) (underlying p.names t) k in let g2 : (false && c) ≡ true = subst (λ (b : Bool). (b && c) ≡ true) n f in let g3 : false ≡ true = g2 in cc

  -- a value of a type as one of another
  pub as_value : (c : core.Expr) (u t : Ty) (v : Option Const) → IsValue c u v → IsScalarType p t → (same_type u t ≡ false → underlying p.names u ≡ underlying p.names t) → IsValue (as_type c u t) t v
  as_value c u t v h s g = by_test (same_type u t) refl
    where
      moved : (o : Option Const) → underlying p.names u ≡ underlying p.names t → FitsIf u o → FitsIf t o
      moved None e f = tt
      moved (Some k) e f = subst (λ (w : Ty). Fits w (constant_of k)) e f

      by_test : (b : Bool) → same_type u t ≡ b → IsValue (if b then c else core.convert u t c) t v
      by_test true e = subst (λ (w : Ty). IsValue c w v) (type_one u t e) h
      by_test false e = record { sound = (h.sound, h.gives, scalar_good p t s, inl (ap untagged (g e))); gives = refl; scalar = s; fits = moved v (g e) h.fits }

  pub truth_value_at : (t : Ty) (c : core.Expr) → IsTruth c → is_bool (underlying p.names t) ≡ true → IsScalarType p t → IsValue (truth_at t c) t None
  truth_value_at t c h b s = as_value c ty.bool t None (record { sound = h.sound; gives = h.gives; scalar = refl; fits = tt }) s (λ e. sym (bool_form (underlying p.names t) b))

  goes_value : (c : core.Expr) (u t : Ty) (v : Option Const) → IsValue c u v → IsScalarType p t → goes_to p.names u t ≡ true → IsValue (as_type c u t) t v
  goes_value c u t v h s g = as_value c u t v h s (λ d. same_under t u s h.scalar d g)

  pub goes_sound : (c : core.Expr) (u t : Ty) (v : Option Const) → IsValue c u v → IsScalarType p t → goes_to p.names u t ≡ true → IsValue (as_type c u t) t v
  goes_sound c u t v h s g = goes_value c u t v h s g

  held_value : (at : Place) (t : Ty) (k : Const) (x : Held) → IsScalarType p t → constant_in (underlying p.names t) k ≡ x → IsPassed t (held_passed at t x)
  held_value at t k (held m) s e = let f = held_fits (underlying p.names t) k m e in passes t _ (constant_value t m s f.1)
  held_value at t k past s e = passes t _ tt
  held_value at t k unlike s e = passes t _ tt

  passed_unless : (t : Ty) (fs : List Flaw) (c : core.Expr) → (fs ≡ [] → IsValue c t None) → IsPassed t (passed_pending fs c)
  passed_unless t [] c h = passes t _ (h refl)
  passed_unless t (f ∷ fs) c h = passes t _ tt

  pub passed_sound : (at : Place) (t : Ty) (x : Operand) → IsScalarType p t → OperandSound x → IsPassed t (passed_at p.names at t x)
  passed_sound at t (typed c u v) s h = passes_test t (goes_to p.names u t) (passed (as_type c u t) v) (λ g. passes t _ (goes_value c u t v h s g))
  passed_sound at t (constant_operand k) s h = held_value at t k (constant_in (underlying p.names t) k) s refl
  passed_sound at t (truth_operand c) s h = passes_test t (is_bool (underlying p.names t)) (passed (truth_at t c) None) (λ b. passes t _ (truth_value_at t c h b s))
  passed_sound at t (pending_operand q b) s h = passed_unless t (pending_flaws p.names t q) (pending_at t q) (λ e. pending_value t q h.0 h.1 e)
  passed_sound at t nil_operand s h = passes_test t (has_nil (underlying p.names t)) (passed (core.zero_value t) None) (λ e. no_such e)
    where
      no_such : has_nil (underlying p.names t) ≡ true → IsPassed t (passed (core.zero_value t) None)
      no_such e = let f = no_nil (underlying p.names t) s in cc

  -- ---- what is wanted

  abbrev SettledSound : Settled → Type 0
  SettledSound (settled c t v) = IsValue c t v
  SettledSound (unsettled f fs) = Unit {0}

  pub record IsSettled (x : Settled) : Type 0 where
    pub is_settled : SettledSound x

  pub settled_sound : (at : Place) (t : Ty) (x : Passed) → IsPassed t x → IsSettled (settled_at at t x)
  settled_sound at t (passed c v) h = record { is_settled = h.is_passed }
  settled_sound at t (refused f fs) h = record { is_settled = tt }
  settled_sound at t unassignable h = record { is_settled = tt }

  pub alone_sound : (at : Place) (x : Operand) → OperandSound x → IsSettled (settled_alone p.names at x)
  alone_sound at (typed c t v) h = record { is_settled = h }
  alone_sound at (constant_operand k) h =
      settled_sound at (default_type (basis_of k)) _ (held_value at (default_type (basis_of k)) k (constant_in (underlying p.names (default_type (basis_of k))) k) (default_scalar p (basis_of k)) refl)
  alone_sound at (truth_operand c) h = record { is_settled = record { sound = h.sound; gives = h.gives; scalar = refl; fits = tt } }
  alone_sound at (pending_operand q b) h =
      settled_sound at (default_type b) _ (passed_unless (default_type b) (pending_flaws p.names (default_type b) q) (pending_at (default_type b) q) (λ e. pending_value (default_type b) q h.0 h.1 e))
  alone_sound at nil_operand h = record { is_settled = tt }
