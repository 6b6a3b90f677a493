-- Answers whose cores give what the answers say: words, and the rows of single operands.
use Rattle.std.proofs.Common.{◌≡◌, ℕ, List, [], ◌∷◌, refl, sym, ap, ◌∙◌, IsTrue, Bool, true, false, Option, Some, None, Result, Ok, Err, if◌then◌else◌}
use Rattle.gj_base.specs.declared.place.Place.{Place}
use Rattle.gj_base.specs.declared.kind.Op.{Op}
use Rattle.gj_base.specs.declared.kind.Op.TheVariants as operator
use Rattle.go_const.specs.declared.constant.Const.{Const}
use Rattle.go_const.specs.declared.constant.ConstRefusal.{ConstRefusal}
use Rattle.go_const.specs.declared.constant.ConstRefusal.TheVariants.{Code, NoMemory}
use Rattle.go_type.specs.Tree as ty
use Rattle.go_type.specs.Tree.{Ty, Tys}
use Rattle.go_type.specs.Named.{NamedTy}
use Rattle.go_core.specs.SameType.{same_type}
use Rattle.go_core.specs.CoreTree as core
use Rattle.go_core.specs.TypeOf.{types_of}
use Rattle.go_typing.specs.Answer.{Flaw, Answer, value, pending, type_, package_, built_in, blank, does, wrong, untyped_part, bad, unless, where_known, Pending, fixed, shifted, further, signed, joined}
use Rattle.go_typing.specs.Operand.{Operand, typed, constant_operand, truth_operand, pending_operand, nil_operand, single, folded, folded_untyped, truth_value, pending_at, pending_flaws, truth_at, default_type}
use Rattle.go_typing.specs.Unary.{is_not, with_operator, unary_value, unary_operand}
use Rattle.go_typing.specs.Shift.{Count, counted, negative, no_integer, unfit, shift_typed, shift_constant, shift_counted, shift_operands, shift_single, can_shift}
use Rattle.go_typing.specs.TypesFit.{is_single, value_types}

pub single_types : (t : Ty) (v : Option Const) → IsTrue (is_single t) → value_types t v ≡ t ∷ []
single_types (ty.untyped b) v h = let e : false ≡ true = h in cc
single_types (ty.tuple ts) v h = let e : false ≡ true = h in cc
single_types _ v h = refl

module _ (ns : List NamedTy) where
  -- a value's core has the types that the answer says, and a type is one that variables have
  abbrev pub Fits : Answer → Type 0
  Fits (value c t v) = types_of ns c ≡ value_types t v
  Fits (type_ t) = IsTrue (is_single t)
  Fits _ = Unit {0}

  pub record IsRight (a : Answer) : Type 0 where
    pub fits : Fits a

  pub right : (a : Answer) → Fits a → IsRight a
  right a h = record { fits = h }

  -- the same of an operand
  abbrev pub OperandFits : Option Operand → Type 0
  OperandFits (Some (typed c t v)) = IsTrue (is_single t)
  OperandFits (Some (truth_operand c)) = types_of ns c ≡ ty.bool ∷ []
  OperandFits _ = Unit {0}

  operand_fits : (a : Answer) → Fits a → OperandFits (single a)
  operand_fits (value c (ty.untyped b) (Some k)) h = tt
  operand_fits (value c (ty.untyped b) None) h = h
  operand_fits (value c ty.nil v) h = tt
  operand_fits (value c (ty.tuple ts) v) h = tt
  operand_fits (value c _ v) h = refl
  operand_fits (pending p b) h = tt
  operand_fits (type_ t) h = tt
  operand_fits (package_ p) h = tt
  operand_fits (built_in b) h = tt
  operand_fits blank h = tt
  operand_fits (does s) h = tt
  operand_fits (wrong f fs) h = tt
  operand_fits untyped_part h = tt

  pub right_operand : (a : Answer) → IsRight a → OperandFits (single a)
  right_operand a h = operand_fits a h.fits

  pub right_if : (b : Bool) (x y : Answer) → IsRight x → IsRight y → IsRight (if b then x else y)
  right_if true x y p q = p
  right_if false x y p q = q

  pub right_unless : (fs : List Flaw) (a : Answer) → IsRight a → IsRight (unless fs a)
  right_unless [] a p = p
  right_unless (f ∷ fs) a p = right (wrong f fs) tt

  pub right_known : (b : Bool) (a : Answer) → IsRight a → IsRight (where_known b a)
  right_known true a p = p
  right_known false a p = right untyped_part tt

  pub right_folded : (at : Place) (t : Ty) (r : Result Const ConstRefusal) → IsTrue (is_single t) → IsRight (folded at t r)
  right_folded at t (Ok k) h = right _ (sym (single_types t (Some k) h))
  right_folded at t (Err (Code n)) h = right _ tt
  right_folded at t (Err NoMemory) h = right _ tt

  pub right_untyped : (at : Place) (r : Result Const ConstRefusal) → IsRight (folded_untyped at r)
  right_untyped at (Ok k) = right _ refl
  right_untyped at (Err (Code n)) = right _ tt
  right_untyped at (Err NoMemory) = right _ tt

  pub pending_types : (t : Ty) (p : Pending) → types_of ns (pending_at t p) ≡ t ∷ []
  pending_types t (fixed at k) = refl
  pending_types t (shifted at op k count) = refl
  pending_types t (further op p count) = refl
  pending_types t (signed op p) = refl
  pending_types t (joined op p q) = refl

  same_bool : (t : Ty) → same_type ty.bool t ≡ true → t ≡ ty.bool
  same_bool ty.bool h = refl
  same_bool _ h = let e : false ≡ true = h in cc

  -- an untyped boolean at a type
  pub truth_types : (t : Ty) (c : core.Expr) → types_of ns c ≡ ty.bool ∷ [] → types_of ns (truth_at t c) ≡ t ∷ []
  truth_types t c h = by_test (same_type ty.bool t) refl
    where
      by_test : (b : Bool) → same_type ty.bool t ≡ b → types_of ns (if b then c else core.convert ty.bool t c) ≡ t ∷ []
      by_test true e = h ∙ ap (λ (u : Ty). u ∷ []) (sym (same_bool t e))
      by_test false e = refl

  -- a value of a type that variables have
  pub right_value : (c : core.Expr) (t : Ty) → IsTrue (is_single t) → types_of ns c ≡ t ∷ [] → IsRight (value c t None)
  right_value c t h e = right _ (e ∙ sym (single_types t None h))

  pub right_bad : (at : Place) (code : ℕ) → IsRight (bad at code)
  right_bad at code = right _ tt

  -- ---- operators before an operand

  operator_types : (op : Op) (t : Ty) (c : core.Expr) → types_of ns (with_operator op t c) ≡ t ∷ []
  operator_types operator.Not t c = refl
  operator_types _ t c = refl

  unary_right : (at : Place) (op : Op) (c : core.Expr) (t : Ty) (v : Option Const) → IsTrue (is_single t) → IsRight (unary_value ns at op c t v)
  unary_right at op c t None h = right_value (with_operator op t c) t h (operator_types op t c)
  unary_right at op c t (Some k) h = right_folded at t _ h

  pub unary_operand_right : (at : Place) (op : Op) (p : Place) (x : Option Operand) → OperandFits x → IsRight (unary_operand ns at op p x)
  unary_operand_right at op p None h = right_bad _ _
  unary_operand_right at op p (Some (typed c t v)) h = right_if _ _ _ (unary_right at op c t v h) (right_bad _ _)
  unary_operand_right at op p (Some (constant_operand k)) h = right_if _ _ _ (right_untyped at _) (right_bad _ _)
  unary_operand_right at op p (Some (truth_operand c)) h = right_if (is_not op) (truth_value (core.not_ ty.bool c)) (bad at 54) (right _ refl) (right_bad at 54)
  unary_operand_right at op p (Some (pending_operand x b)) h =
      right_if (is_not op) (unless (pending_flaws ns (default_type b) x) (bad at 54)) (pending (signed op x) b) (right_unless (pending_flaws ns (default_type b) x) _ (right_bad at 54)) (right _ tt)
  unary_operand_right at op p (Some nil_operand) h = right_bad _ _

  -- ---- shifts

  shift_typed_right : (at : Place) (op : Op) (t : Ty) (c : core.Expr) (v : Option Const) (d : core.Expr) (w : Option Const) → IsTrue (is_single t) → IsRight (shift_typed ns at op t c v d w)
  shift_typed_right at op t c (Some k) d (Some n) h = right_folded at t _ h
  shift_typed_right at op t c (Some k) d None h = right_value _ t h refl
  shift_typed_right at op t c None d w h = right_value _ t h refl

  shift_constant_right : (at : Place) (op : Op) (k : Const) (d : core.Expr) (w : Option Const) → IsRight (shift_constant ns at op k d w)
  shift_constant_right at op k d (Some n) = right_untyped at _
  shift_constant_right at op k d None = right _ tt

  shift_counted_right : (at : Place) (op : Op) (x : Operand) (d : core.Expr) (w : Option Const) → OperandFits (Some x) → IsRight (shift_counted ns at op x d w)
  shift_counted_right at op (typed c t v) d w h = right_if _ _ _ (shift_typed_right at op t c v d w h) (right_bad _ _)
  shift_counted_right at op (constant_operand k) d w h = right_if _ _ _ (shift_constant_right at op k d w) (right_bad _ _)
  shift_counted_right at op (truth_operand c) d w h = right_bad _ _
  shift_counted_right at op (pending_operand p b) d w h = right _ tt
  shift_counted_right at op nil_operand d w h = right_bad _ _

  shift_operands_right : (at : Place) (op : Op) (x : Operand) (q : Place) (n : Count) → OperandFits (Some x) → IsRight (shift_operands ns at op x q n)
  shift_operands_right at op x q (counted d w) h = shift_counted_right at op x d w h
  shift_operands_right at op x q negative h = right_if (can_shift ns x) _ _ (right_bad _ _) (right_bad _ _)
  shift_operands_right at op x q no_integer h = right_bad _ _
  shift_operands_right at op x q (unfit f fs) h = right _ tt

  pub shift_single_right : (at : Place) (op : Op) (p : Place) (x : Option Operand) (q : Place) (y : Option Operand) → OperandFits x → IsRight (shift_single ns at op p x q y)
  shift_single_right at op p (Some x) q (Some y) h = right_unless _ _ (shift_operands_right at op x q _ h)
  shift_single_right at op p (Some x) q None h = right _ tt
  shift_single_right at op p None q y h = right _ tt
