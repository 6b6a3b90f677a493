-- How receivers are taken.
use Rattle.std.proofs.Common.{◌≡◌, ◌∙◌, refl, ap, arith, length, List, [], ◌∷◌}
use Rattle.std.specs.Prelude.{Bool, true, false, Some, if◌then◌else◌}
use Rattle.go_type.specs.Tree.{Ty, pointer}
use Rattle.go_type.specs.Levels.{level}
use Rattle.go_type.specs.declared.types.GoType.{GoType}
use Rattle.go_type.specs.declared.types.GoType.TheVariants as go
use Rattle.go_type.specs.declared.types.TypeId.{TypeId}
use Rattle.go_core.specs.CoreTree.{Var, MethodRow}
use Rattle.go_core.specs.SameType.{same_type}
use Rattle.go_core.specs.Goroutine.{Task}
use Rattle.go_core.specs.Memory.{Value, Memory}
use Rattle.go_core.specs.Calls.{Receiver, Adapted, receiver_of, through, to_a_copy, as_it_is}

pub no_pointer : (ts : List Ty) (g : GoType) (u : Ty) → ((t : TypeId) → g ≡ go.Pointer t → ⊥) → false ≡ same_type (level ts g) (pointer u)
no_pointer ts (go.Pointer t) u h = absurd (h t refl)
no_pointer ts g u h = refl

module _ (r : MethodRow) (v : Var) (vs : List Var) where
  abbrev chosen : Bool → Bool → Receiver
  chosen a b = if a then through v else (if b then to_a_copy else as_it_is)

  pub taken : (a b : Bool) → same_type r.type_ (pointer v.type_) ≡ a → same_type v.type_ (pointer r.type_) ≡ b → receiver_of (Some r) (v ∷ vs) ≡ chosen a b
  taken a b e f = ap (λ (k : Bool). chosen k (same_type v.type_ (pointer r.type_))) e ∙ ap (λ (k : Bool). chosen a k) f

  pub taken_through : same_type r.type_ (pointer v.type_) ≡ true → receiver_of (Some r) (v ∷ vs) ≡ through v
  taken_through e = ap (λ (k : Bool). chosen k (same_type v.type_ (pointer r.type_))) e

-- ---- operands as a function takes them

abbrev pub adapted_with : List Value → List Task → Memory → Adapted
adapted_with vs first m = record { operands = vs; first = first; memory = m }

pub none_there : {A : Type 0} (xs : List A) → length xs ≡ 0 → xs ≡ []
none_there {A} [] h = refl
none_there {A} (x ∷ xs) h = absurd (omega (arith, h))
