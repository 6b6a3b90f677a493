use Rattle.std.proofs.Common.{◌∙◌, sym, ap, map, List, ℕ}
use Rattle.std.specs.Prelude.{Option, None, option_map}
use Rattle.std.specs.Borrow.{Bor}
use Rattle.go_core.specs.Calls.{ready, bases_of, function_with}
use Rattle.go_core.specs.CoreView.{id_of}
use Rattle.go_core.specs.declared.node.VarId.{VarId}
use Rattle.go_values.specs.ValuesSeen.{values_of}
use Rattle.go_values.specs.declared.values.scalar.Scalar.{Scalar}
use Rattle.go_state.specs.StateSeen.{places_of}
use Rattle.go_entries.proofs.entries.resolve.function_at.Goals as goal

pub returns-in_ok-operands-in-Some : goal.returns-in_ok-operands-in-Some
returns-in_ok-operands-in-Some c =
    let bases = c.in-Some.bases in
    let found =
    ap (λ (o : Option (Bor (List ℕ))). option_map (λ (bs : Bor (List ℕ)). bs.now) o) (sym c.in-Some.is)
    ∙ c.in_ok-found.ensures.value
    ∙ ap (λ (vs : List VarId). bases_of (map id_of vs) (places_of c.args.at.now)) c.as_slice.ensures.value in
    record {
      value = λ ts.
          ap (λ (xs : List (Bor (List Scalar))). ready c.args.func.0 bases.now None (values_of ts xs)) c.in_ok-operands-in-Some.ensures.value
          ∙ ap (function_with c.args.func.0 (values_of ts c.args.vs.now)) found;
    }

pub returns-in-None : goal.returns-in-None
returns-in-None c =
    let found =
    ap (λ (o : Option (Bor (List ℕ))). option_map (λ (bs : Bor (List ℕ)). bs.now) o) (sym c.in-None.is)
    ∙ c.in_ok-found.ensures.value
    ∙ ap (λ (vs : List VarId). bases_of (map id_of vs) (places_of c.args.at.now)) c.as_slice.ensures.value in
    record { value = λ ts. ap (function_with c.args.func.0 (values_of ts c.args.vs.now)) found }
