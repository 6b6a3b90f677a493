use Rattle.go_core.proofs.SampleMethods as methods
use Rattle.go_core.proofs.SampleSound as sample
use Rattle.go_core.proofs.typing.sample.Goals as goal

pub returns : goal.returns
returns c = record { sound = sample.sound; tags = sample.tags_are_ignored; methods = methods.methods_are_wrapped }
