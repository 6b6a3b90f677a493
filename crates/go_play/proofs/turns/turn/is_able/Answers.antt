use Rattle.std.proofs.Common.{◌≡◌, ap, sym, subst, false}
use Rattle.go_core.specs.Goroutine.{able, at_channels, at_take, at_await}
use Rattle.go_state.specs.StateSeen.{waiting_of}
use Rattle.go_state.specs.declared.state.state.Waiting.{Waiting}
use Rattle.go_play.specs.Turns.{IsAble}
use Rattle.go_play.proofs.turns.turn.is_able.Goals as goal

pub returns-in-Able : goal.returns-in-Able
returns-in-Able c = record { value = λ ts. ap (λ (w : Waiting). waiting_of ts w) c.in-Able.is }

pub returns-in-AtChannels : goal.returns-in-AtChannels
returns-in-AtChannels c = record { value = λ ts. subst (λ (w : Waiting). IsAble false (waiting_of ts w)) (sym c.in-AtChannels.is) (λ h. cc) }

pub returns-in-AtTake : goal.returns-in-AtTake
returns-in-AtTake c = record { value = λ ts. subst (λ (w : Waiting). IsAble false (waiting_of ts w)) (sym c.in-AtTake.is) (λ h. cc) }

pub returns-in-AtAwait : goal.returns-in-AtAwait
returns-in-AtAwait c = record { value = λ ts. subst (λ (w : Waiting). IsAble false (waiting_of ts w)) (sym c.in-AtAwait.is) (λ h. cc) }
