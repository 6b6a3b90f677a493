use Rattle.std.proofs.Common.{◌<◌, ◌≤◌, ap, sym, subst, arith, length, map}
use Rattle.go_state.specs.StateSeen.{offer_of, waiting_of}
use Rattle.go_state.specs.declared.state.state.Waiting.{Waiting}
use Rattle.go_state.proofs.ListsLemmas.{get_here, get_past}
use Rattle.go_partners.specs.Wanted.{NoWay}
use Rattle.go_partners.proofs.waits.waiting.sought.Goals as goal

pub returns-then-way-len : goal.returns-then-way-len
returns-then-way-len c = record {
  value = λ ts.
      let xs = c.in-AtChannels.offers.items in
      let held = c.in-AtChannels.offers.ok.0 in
      let l : c.args.way < length xs = omega (arith, c.if-way-len.true, c.len.ensures, held) in
      (map (offer_of ts) xs, ap (λ (w : Waiting). waiting_of ts w) c.in-AtChannels.is, get_here (offer_of ts) xs c.args.way c.index.result.now l c.index.ensures);
}

pub returns-else-way-len : goal.returns-else-way-len
returns-else-way-len c = record {
  value = λ ts.
      let xs = c.in-AtChannels.offers.items in
      let held = c.in-AtChannels.offers.ok.0 in
      let l : length xs ≤ c.args.way = omega (arith, c.if-way-len.false, c.len.ensures, held) in
      subst (λ (w : Waiting). NoWay c.args.way (waiting_of ts w)) (sym c.in-AtChannels.is) (get_past (offer_of ts) xs c.args.way l);
}

pub returns-in-AtTake : goal.returns-in-AtTake
returns-in-AtTake c = record { value = λ ts. ap (λ (w : Waiting). waiting_of ts w) c.in-AtTake.is }

pub returns-in-AtAwait : goal.returns-in-AtAwait
returns-in-AtAwait c = record { value = λ ts. ap (λ (w : Waiting). waiting_of ts w) c.in-AtAwait.is }

pub returns-in-Able : goal.returns-in-Able
returns-in-Able c = record { value = λ ts. subst (λ (w : Waiting). NoWay c.args.way (waiting_of ts w)) (sym c.in-Able.is) tt }
