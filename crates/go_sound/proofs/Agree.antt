-- Two lists of named types that agree on the types at hand: operands and wanted values are the same with both.
use Rattle.std.proofs.Common.{◌≡◌, ℕ, List, [], ◌∷◌, ◌&&◌, ◌||◌, refl, ap, ◌∙◌, Bool, true, false, Option, Some, None, Result, Ok, Err, if◌then◌else◌}
use Rattle.gj_base.specs.declared.place.Place.{Place}
use Rattle.go_const.specs.declared.constant.Const.{Const}
use Rattle.go_const.specs.declared.constant.ConstRefusal.{ConstRefusal}
use Rattle.go_const.specs.declared.constant.ConstRefusal.TheVariants.{Code, NoMemory}
use Rattle.go_type.specs.declared.types.Basis.{Basis}
use Rattle.go_type.specs.declared.types.Basis.TheVariants as basis
use Rattle.go_type.specs.Tree as ty
use Rattle.go_type.specs.Tree.{Ty, Tys, no_tys, more_tys}
use Rattle.go_type.specs.Named.{NamedTy}
use Rattle.go_type.specs.Underlying.{underlying}
use Rattle.go_type.specs.Assignability.{one_undefined, has_nil}
use Rattle.go_core.specs.SameType.{same_type}
use Rattle.go_core.specs.CoreTree as core
use Rattle.go_typing.specs.Answer.{Flaw, Answer, value, pending, type_, package_, built_in, blank, does, wrong, untyped_part, bad, unless, where_known, Pending}
use Rattle.go_typing.specs.Operand.{Operand, typed, constant_operand, truth_operand, pending_operand, nil_operand, single, folded, goes_to_channel, goes_to, is_int, is_bool, constants_past, shifts_at, pending_flaws, pending_at, passed_pending, constant_in, held_passed, constant_passed, Passed, passed, refused, unassignable, passed_at, as_type, truth_at, basis_of, default_type, Settled, settled, unsettled, settled_at, settled_alone}
use Rattle.go_typing.specs.Wanted.{settled_answer, wanted_operand, wanted, alone_operand, wanted_alone}

module _ (P : ℕ → Type 0) where
  abbrev mutual
    -- a named type is one of these; of several types, each
    pub Agrees : Ty → Type 0
    Agrees (ty.named id) = P id
    Agrees (ty.tuple ts) = AllAgree ts
    Agrees _ = Unit {0}

    pub AllAgree : Tys → Type 0
    AllAgree no_tys = Unit {0}
    AllAgree (more_tys t ts) = Agrees t × AllAgree ts

  abbrev pub AnswerAgrees : Answer → Type 0
  AnswerAgrees (value c t v) = Agrees t
  AnswerAgrees (type_ t) = Agrees t
  AnswerAgrees _ = Unit {0}

  abbrev pub OperandAgrees : Operand → Type 0
  OperandAgrees (typed c t v) = Agrees t
  OperandAgrees _ = Unit {0}

  abbrev pub SingleAgrees : Option Operand → Type 0
  SingleAgrees None = Unit {0}
  SingleAgrees (Some x) = OperandAgrees x

module _ (ns ms : List NamedTy) (P : ℕ → Type 0) (s : (id : ℕ) → P id → underlying ns (ty.named id) ≡ underlying ms (ty.named id)) where
  pub under_same : (t : Ty) → Agrees P t → underlying ns t ≡ underlying ms t
  under_same (ty.named id) h = s id h
  under_same _ h = refl

  -- the answers are one, and its types agree
  pub record Alike (a b : Answer) : Type 0 where
    pub same : a ≡ b
    pub agrees : AnswerAgrees P a

  pub alike : (a : Answer) → AnswerAgrees P a → Alike a a
  alike a h = record { same = refl; agrees = h }

  pub single_agrees : (a : Answer) → AnswerAgrees P a → SingleAgrees P (single a)
  single_agrees (value c (ty.untyped b) (Some k)) h = tt
  single_agrees (value c (ty.untyped b) None) h = tt
  single_agrees (value c ty.nil v) h = tt
  single_agrees (value c (ty.tuple ts) v) h = tt
  single_agrees (value c (ty.named id) v) h = h
  single_agrees (value c _ v) h = tt
  single_agrees (pending p b) h = tt
  single_agrees (type_ t) h = tt
  single_agrees (package_ p) h = tt
  single_agrees (built_in b) h = tt
  single_agrees blank h = tt
  single_agrees (does s) h = tt
  single_agrees (wrong f fs) h = tt
  single_agrees untyped_part h = tt

  -- ---- words

  pub alike_bad : (at : Place) (code : ℕ) → Alike (bad at code) (bad at code)
  alike_bad at code = alike _ tt

  pub alike_test : (b c : Bool) (x y u v : Answer) → b ≡ c → Alike x u → Alike y v → Alike (if b then x else y) (if c then u else v)
  alike_test true true x y u v e p q = p
  alike_test false false x y u v e p q = q
  alike_test true false x y u v e p q = cc
  alike_test false true x y u v e p q = cc

  pub alike_if : (b : Bool) (x y u v : Answer) → Alike x u → Alike y v → Alike (if b then x else y) (if b then u else v)
  alike_if b x y u v p q = alike_test b b x y u v refl p q

  pub alike_unless : (fs gs : List Flaw) (a b : Answer) → fs ≡ gs → Alike a b → Alike (unless fs a) (unless gs b)
  alike_unless [] [] a b e p = p
  alike_unless (f ∷ fs) (g ∷ gs) a b e p = record { same = ap (λ (hs : List Flaw). unless hs b) e; agrees = tt }
  alike_unless [] (g ∷ gs) a b e p = cc
  alike_unless (f ∷ fs) [] a b e p = cc

  pub alike_known : (b : Bool) (x y : Answer) → Alike x y → Alike (where_known b x) (where_known b y)
  alike_known true x y p = p
  alike_known false x y p = alike _ tt

  pub alike_folded : (at : Place) (t : Ty) (r s : Result Const ConstRefusal) → r ≡ s → Agrees P t → Alike (folded at t r) (folded at t s)
  alike_folded at t r s e h = record { same = ap (folded at t) e; agrees = by_result r }
    where
      by_result : (x : Result Const ConstRefusal) → AnswerAgrees P (folded at t x)
      by_result (Ok k) = h
      by_result (Err (Code n)) = tt
      by_result (Err NoMemory) = tt

  -- ---- operands

  pub default_agrees : (b : Basis) → Agrees P (default_type b)
  default_agrees basis.Bool = tt
  default_agrees basis.Int = tt
  default_agrees basis.Rune = tt
  default_agrees basis.Str = tt

  pub pending_same : (t : Ty) (p : Pending) → Agrees P t → pending_flaws ns t p ≡ pending_flaws ms t p
  pending_same t p h = ap (λ (u : Ty). if is_int u then constants_past u p else shifts_at p) (under_same t h)

  pub default_same : (b : Basis) (p : Pending) → pending_flaws ns (default_type b) p ≡ pending_flaws ms (default_type b) p
  default_same b p = pending_same (default_type b) p (default_agrees b)

  pub goes_same : (t u : Ty) → Agrees P t → Agrees P u → goes_to ns t u ≡ goes_to ms t u
  goes_same t u h k =
      ap (λ (a : Ty). same_type t u || same_type a (underlying ns u) && one_undefined t u || goes_to_channel a (underlying ns u) && one_undefined t u) (under_same t h)
      ∙ ap (λ (b : Ty). same_type t u || same_type (underlying ms t) b && one_undefined t u || goes_to_channel (underlying ms t) b && one_undefined t u) (under_same u k)

  constant_same : (at : Place) (t : Ty) (k : Const) → Agrees P t → constant_passed ns at t k ≡ constant_passed ms at t k
  constant_same at t k h = ap (λ (u : Ty). held_passed at t (constant_in u k)) (under_same t h)

  pub passed_same : (at : Place) (t : Ty) (x : Operand) → Agrees P t → OperandAgrees P x → passed_at ns at t x ≡ passed_at ms at t x
  passed_same at t (typed c u v) h k = ap (λ (b : Bool). if b then passed (as_type c u t) v else unassignable) (goes_same u t k h)
  passed_same at t (constant_operand l) h k = constant_same at t l h
  passed_same at t (truth_operand c) h k = ap (λ (u : Ty). if is_bool u then passed (truth_at t c) None else unassignable) (under_same t h)
  passed_same at t (pending_operand p b) h k = ap (λ (fs : List Flaw). passed_pending fs (pending_at t p)) (pending_same t p h)
  passed_same at t nil_operand h k = ap (λ (u : Ty). if has_nil u then passed (core.zero_value t) None else unassignable) (under_same t h)

  pub settled_same : (at : Place) (x : Operand) → settled_alone ns at x ≡ settled_alone ms at x
  settled_same at (typed c t v) = refl
  settled_same at (constant_operand k) = ap (settled_at at (default_type (basis_of k))) (constant_same at (default_type (basis_of k)) k (default_agrees (basis_of k)))
  settled_same at (truth_operand c) = refl
  settled_same at (pending_operand p b) = ap (λ (fs : List Flaw). settled_at at (default_type b) (passed_pending fs (pending_at (default_type b) p))) (default_same b p)
  settled_same at nil_operand = refl

  -- ---- what is wanted

  abbrev SettledAgrees : Settled → Type 0
  SettledAgrees (settled c t v) = Agrees P t
  SettledAgrees (unsettled f fs) = Unit {0}

  answer_agrees : (s : Settled) → SettledAgrees s → AnswerAgrees P (settled_answer s)
  answer_agrees (settled c t v) h = h
  answer_agrees (unsettled f fs) h = tt

  at_agrees : (at : Place) (t : Ty) (p : Passed) → Agrees P t → SettledAgrees (settled_at at t p)
  at_agrees at t (passed c v) h = h
  at_agrees at t (refused f fs) h = tt
  at_agrees at t unassignable h = tt

  alone_agrees : (at : Place) (x : Operand) → OperandAgrees P x → SettledAgrees (settled_alone ns at x)
  alone_agrees at (typed c t v) h = h
  alone_agrees at (constant_operand k) h = at_agrees at (default_type (basis_of k)) _ (default_agrees (basis_of k))
  alone_agrees at (truth_operand c) h = tt
  alone_agrees at (pending_operand p b) h = at_agrees at (default_type b) _ (default_agrees b)
  alone_agrees at nil_operand h = tt

  wanted_operand_alike : (at : Place) (t : Ty) (x : Option Operand) → Agrees P t → SingleAgrees P x → Alike (wanted_operand ns at t x) (wanted_operand ms at t x)
  wanted_operand_alike at t None h k = alike_bad _ _
  wanted_operand_alike at t (Some x) h k = record {
    same = ap (λ (p : Passed). settled_answer (settled_at at t p)) (passed_same at t x h k);
    agrees = answer_agrees _ (at_agrees at t (passed_at ns at t x) h);
  }

  pub wanted_alike : (at : Place) (t : Ty) (a : Answer) → Agrees P t → AnswerAgrees P a → Alike (wanted ns at t a) (wanted ms at t a)
  wanted_alike at t (wrong f fs) h k = alike _ tt
  wanted_alike at t untyped_part h k = alike _ tt
  wanted_alike at t (value c u v) h k = wanted_operand_alike at t _ h (single_agrees (value c u v) k)
  wanted_alike at t (pending p b) h k = wanted_operand_alike at t (single (pending p b)) h tt
  wanted_alike at t (type_ u) h k = alike _ tt
  wanted_alike at t (package_ p) h k = alike _ tt
  wanted_alike at t (built_in b) h k = alike _ tt
  wanted_alike at t blank h k = alike _ tt
  wanted_alike at t (does s) h k = alike _ tt

  alone_operand_alike : (at : Place) (x : Option Operand) → SingleAgrees P x → Alike (alone_operand ns at x) (alone_operand ms at x)
  alone_operand_alike at None k = alike_bad _ _
  alone_operand_alike at (Some x) k = record {
    same = ap settled_answer (settled_same at x);
    agrees = answer_agrees _ (alone_agrees at x k);
  }

  pub wanted_alone_alike : (at : Place) (a : Answer) → AnswerAgrees P a → Alike (wanted_alone ns at a) (wanted_alone ms at a)
  wanted_alone_alike at (wrong f fs) k = alike _ tt
  wanted_alone_alike at untyped_part k = alike _ tt
  wanted_alone_alike at (value c u v) k = alone_operand_alike at _ (single_agrees (value c u v) k)
  wanted_alone_alike at (pending p b) k = alone_operand_alike at (single (pending p b)) tt
  wanted_alone_alike at (type_ u) k = alike _ tt
  wanted_alone_alike at (package_ p) k = alike _ tt
  wanted_alone_alike at (built_in b) k = alike _ tt
  wanted_alone_alike at blank k = alike _ tt
  wanted_alone_alike at (does s) k = alike _ tt
