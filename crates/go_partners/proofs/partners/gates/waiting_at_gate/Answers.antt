use Rattle.std.proofs.Common.{get_or, ◌≡◌, ◌∙◌, ap, sym, arith, map, ℕ, ◌+◌, drop}
use Rattle.std.proofs.lemmas.List.{length-map}
use Rattle.go_core.specs.Communicate.{waiting_at_gate}
use Rattle.go_state.proofs.ListsLemmas.{drop_here}
use Rattle.go_state.specs.StateSeen.{goroutine_of}
use Rattle.go_state.specs.declared.state.state.Goroutine.{Goroutine}
use Rattle.go_partners.proofs.PartnersGateLemmas.{waits_step, waits_past, waits_end}
use Rattle.go_partners.proofs.partners.gates.waiting_at_gate.Goals as goal
use Rattle.go_partners.proofs.partners.gates.waiting_at_gate.Goals.{then-is_at_gate, else-is_at_gate}

pub goroutines-preserved : goal.goroutines-preserved
goroutines-preserved c =
    elim c.if-is_at_gate.branch [
      | then-is_at_gate w ↦
          record {
            counts = λ ts p g free.
                let xs = c.args.goroutines.now in
                let i = c.goroutines.i in
                let x = get_or xs c.goroutines.i c.index-goroutines-i.result in
                let there : x ≡ get_or xs c.goroutines.i x = ap (λ (y : Goroutine). get_or xs c.goroutines.i y) c.index-goroutines-i.is in
                ap (λ (n : ℕ). n + waiting_at_gate p g free c.args.base (drop (i + 1) (map (goroutine_of ts) xs))) w.count-is
                ∙ waits_step p g free c.args.base (map (goroutine_of ts) xs) i c.goroutines.count _ (goroutine_of ts x)
                (drop_here (goroutine_of ts) xs i x c.goroutines-test.true there)
                (sym (c.is_at_gate.ensures.value ts p g free) ∙ w.if-is_at_gate.true) (c.goroutines.invariant.counts ts p g free);
            within = omega (arith, w.count-is, c.goroutines.invariant.within);
          }
      | else-is_at_gate w ↦
          record {
            counts = λ ts p g free.
                let xs = c.args.goroutines.now in
                let i = c.goroutines.i in
                let x = get_or xs c.goroutines.i c.index-goroutines-i.result in
                let there : x ≡ get_or xs c.goroutines.i x = ap (λ (y : Goroutine). get_or xs c.goroutines.i y) c.index-goroutines-i.is in
                ap (λ (n : ℕ). n + waiting_at_gate p g free c.args.base (drop (i + 1) (map (goroutine_of ts) xs))) w.count-is
                ∙ waits_past p g free c.args.base (map (goroutine_of ts) xs) i c.goroutines.count _ (goroutine_of ts x)
                (drop_here (goroutine_of ts) xs i x c.goroutines-test.true there)
                (sym (c.is_at_gate.ensures.value ts p g free) ∙ w.if-is_at_gate.false) (c.goroutines.invariant.counts ts p g free);
            within = omega (arith, w.count-is, c.goroutines.invariant.within);
          }
    ]

pub returns : goal.returns
returns c = record {
  value = λ ts p g free.
      waits_end p g free c.args.base (map (goroutine_of ts) c.args.goroutines.now) c.goroutines.i c.goroutines.count _ (omega (arith, c.goroutines-test.false, length-map c.args.goroutines.now (goroutine_of ts))) (c.goroutines.invariant.counts ts p g free);
  within = omega (arith, c.goroutines.invariant.within, c.goroutines.auto.i-end);
}
