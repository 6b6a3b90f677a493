-- Statements one after the other, and the variables that they leave in scope.
use Rattle.std.proofs.Common.{◌≡◌, ◌≤◌, ◌<◌, ◌==◌, ℕ, List, [], ◌∷◌, ◌++◌, refl, sym, subst, ap, ◌∙◌, arith, Bool, true, false, Option, Some, if◌then◌else◌, ne_eqb, eq-eqb, Contains}
use Rattle.gj_base.specs.declared.place.Place.{Place}
use Rattle.go_syntax.specs.Tree as t
use Rattle.go_syntax.specs.declared.tree.Name.{Name}
use Rattle.go_type.specs.Tree.{Ty}
use Rattle.go_core.specs.CoreTree as core
use Rattle.go_core.specs.CoreTree.{Var, CoreProgram}
use Rattle.go_core.specs.TypeOf.{var_type}
use Rattle.go_core.specs.SoundNode as sound
use Rattle.go_core.specs.Sound.{after_stmt, SoundStmts}
use Rattle.go_typing.specs.Answer.{Flaw}
use Rattle.go_typing.specs.Walk.{Walk, Did, body}
use Rattle.go_typing.specs.Functions.{Between, around_body, body_of}
use Rattle.go_sound.proofs.SoundBodies.{no_first, no_second}

-- ---- variables in scope

abbrev pub at_vars : sound.Around → List Var → sound.Around
at_vars a vs = record a { vars = vs }

abbrev pub after_var : core.Stmt → List Var → List Var
after_var (core.declare v) vs = v ∷ vs
after_var s vs = vs

-- what these statements leave in scope
abbrev pub after_vars : List core.Stmt → List Var → List Var
after_vars [] vs = vs
after_vars (s ∷ ss) vs = after_vars ss (after_var s vs)

after_one : (s : core.Stmt) (a : sound.Around) (vs : List Var) → after_stmt s (at_vars a vs) ≡ at_vars a (after_var s vs)
after_one (core.declare v) a vs = refl
after_one _ a vs = refl

pub after_append : (xs ys : List core.Stmt) (vs : List Var) → after_vars (xs ++ ys) vs ≡ after_vars ys (after_vars xs vs)
after_append [] ys vs = refl
after_append (x ∷ xs) ys vs = after_append xs ys (after_var x vs)

-- the later statements have what the earlier ones leave in scope
pub sound_append : (p : CoreProgram) (a : sound.Around) (xs ys : List core.Stmt) (vs : List Var) → SoundStmts p (at_vars a vs) (body xs)
    → SoundStmts p (at_vars a (after_vars xs vs)) (body ys) → SoundStmts p (at_vars a vs) (body (xs ++ ys))
sound_append p a [] ys vs h k = k
sound_append p a (x ∷ xs) ys vs h k = (
  h.0,
  subst (λ (b : sound.Around). SoundStmts p b (body (xs ++ ys))) (sym (after_one x a vs))
      (sound_append p a xs ys (after_var x vs) (subst (λ (b : sound.Around). SoundStmts p b (body xs)) (after_one x a vs) h.1) k),
)

-- it is there
abbrev pub IsThere : ℕ → List Var → Type 0
IsThere id vs = (u : Ty) × (var_type id vs ≡ Some u)

-- what has a number below this one is of the same type by both, and what is there stays there
pub record Extends (n : ℕ) (vs us : List Var) : Type 0 where
  pub same : (id : ℕ) → id < n → var_type id us ≡ var_type id vs
  pub there : (id : ℕ) → IsThere id vs → IsThere id us

pub extends_same : (n : ℕ) (vs : List Var) → Extends n vs vs
extends_same n vs = record { same = λ id l. refl; there = λ id h. h }

pub extends_then : (m n : ℕ) (vs us ts : List Var) → m ≤ n → Extends m vs us → Extends n us ts → Extends m vs ts
extends_then m n vs us ts l h k = record { same = λ id i. k.same id (omega arith) ∙ h.same id i; there = λ id i. k.there id (h.there id i) }

pub extends_less : (m n : ℕ) (vs us : List Var) → m ≤ n → Extends n vs us → Extends m vs us
extends_less m n vs us l h = record { same = λ id i. h.same id (omega arith); there = h.there }

pub extends_var : (v : Var) (vs : List Var) → Extends v.id vs (v ∷ vs)
extends_var v vs = record {
  same = λ id l. ap (λ (b : Bool). if b then Some v.type_ else var_type id vs) (ne_eqb v.id id (λ e. omega arith));
  there = λ id h. by_test id h (v.id == id);
}
  where
    by_test : (id : ℕ) → IsThere id vs → (b : Bool) → (u : Ty) × ((if b then Some v.type_ else var_type id vs) ≡ Some u)
    by_test id h true = (v.type_, refl)
    by_test id h false = h

pub newest : (v : Var) (vs : List Var) → var_type v.id (v ∷ vs) ≡ Some v.type_
newest v vs = ap (λ (b : Bool). if b then Some v.type_ else var_type v.id vs) (eq-eqb v.id v.id refl)

-- ---- labels

pub contains_first : (x : ℕ) (xs : List ℕ) → Contains (x ∷ xs) x
contains_first x xs = (0, omega arith, refl)

-- ---- functions

-- what comes of the body of the function that stands there
abbrev pub body_at : Option Place → Walk → Between → Place → Name → t.Sig → t.Block → Did
body_at far w k at n s b = body_of w k s b (around_body far w at n s)

-- ---- nothing is told of several

module _ (xs ys zs : List Flaw) where
  pub one_of_three : xs ++ ys ++ zs ≡ [] → xs ≡ []
  one_of_three h = no_first xs ys (no_first (xs ++ ys) zs h)

  pub two_of_three : xs ++ ys ++ zs ≡ [] → ys ≡ []
  two_of_three h = no_second xs ys (no_first (xs ++ ys) zs h)

  pub three_of_three : xs ++ ys ++ zs ≡ [] → zs ≡ []
  three_of_three h = no_second (xs ++ ys) zs h

module _ (xs ys zs us : List Flaw) where
  pub one_of_four : xs ++ ys ++ zs ++ us ≡ [] → xs ≡ []
  one_of_four h = one_of_three xs ys zs (no_first (xs ++ ys ++ zs) us h)

  pub two_of_four : xs ++ ys ++ zs ++ us ≡ [] → ys ≡ []
  two_of_four h = two_of_three xs ys zs (no_first (xs ++ ys ++ zs) us h)

  pub three_of_four : xs ++ ys ++ zs ++ us ≡ [] → zs ≡ []
  three_of_four h = three_of_three xs ys zs (no_first (xs ++ ys ++ zs) us h)

  pub four_of_four : xs ++ ys ++ zs ++ us ≡ [] → us ≡ []
  four_of_four h = no_second (xs ++ ys ++ zs) us h
