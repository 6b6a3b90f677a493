-- The ways of clauses. These words are for private clauses, but for `AreOffers`.
use Rattle.std.specs.Prelude.{◌≡◌, List, [], ◌∷◌, Option, Some, None, Result, Ok, Err, map, option_map, drop}
use Rattle.std.specs.Borrow.{Bor}
use Rattle.std.specs.Global.{Vec}
use Rattle.go_type.specs.Tree.{Ty}
use Rattle.go_core.specs.CoreTree as core
use Rattle.go_core.specs.Goroutine as defined
use Rattle.go_core.specs.Memory.{Value}
use Rattle.go_values.specs.ValuesSeen.{values_of}
use Rattle.go_values.specs.declared.values.scalar.Scalar.{Scalar}
use Rattle.go_values.specs.declared.operators.did.Stop.{Stop}
use Rattle.go_values.specs.declared.operators.did.Stop.TheVariants as stop
use Rattle.go_state.specs.StateSeen.{offer_of}
use Rattle.go_state.specs.declared.state.state.Offer.{Offer}
use Rattle.go_partners.specs.declared.selects.offers.Way.{Way}

-- there is none, unless memory is wanting
abbrev pub Lacks : {A : Type 0} → Stop → Option A → Type 0
Lacks {A} stop.NoMemory o = Unit {0}
Lacks {A} stop.NoStep o = o ≡ None
Lacks {A} (stop.Panics panic units) o = ⊥

-- a way is found, or there is none
abbrev pub IsOffer : List Ty → Result Offer Stop → Option defined.Offer → Type 0
IsOffer ts (Ok x) o = o ≡ Some (offer_of ts x)
IsOffer ts (Err e) o = Lacks e o

-- the ways of one clause, and of those after it
abbrev pub offers_by_first : (defined.CaseKind → core.Stmts → List Value → (List Value → Option (List defined.Offer)) → Option (List defined.Offer)) → List defined.Case → List Value → (List Value → Option (List defined.Offer)) → Option (List defined.Offer)
offers_by_first by [] vs others = others vs
offers_by_first by (c ∷ cs) vs others = by c.kind c.body vs others

-- a way of a clause comes before those of the others, which take the operands that are left
abbrev pub IsWay : List Ty → List (Bor (List Scalar)) → Result Way Stop → ((List Value → Option (List defined.Offer)) → Option (List defined.Offer)) → Type 0
IsWay ts vs (Ok w) ways =
    (others : List Value → Option (List defined.Offer)) → ways others ≡ option_map (λ os. offer_of ts w.offer ∷ os) (others (values_of ts (drop w.count vs)))
IsWay ts vs (Err e) ways = (others : List Value → Option (List defined.Offer)) → Lacks e (ways others)

-- offers are found, or there are none
abbrev pub AreOffers : List Ty → Result (Vec Offer) Stop → Option (List defined.Offer) → Type 0
AreOffers ts (Ok os) o = o ≡ Some (map (offer_of ts) os.items)
AreOffers ts (Err e) o = Lacks e o
