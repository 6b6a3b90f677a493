use Rattle.std.proofs.Common.{◌≡◌, ◌++◌, drop, map}
use Rattle.go_operands.specs.EnvView.{env_of}
use Rattle.go_typing.specs.Scopes.{visible}
use Rattle.go_items.specs.ParamView.{grouped_view}
use Rattle.go_walk.specs.Texts.{texts}
use Rattle.go_items.specs.Stated.{all_written}
use Rattle.go_items.proofs.needs.own.params_need.Given as goal

-- what is needed so far, with what is left
abbrev pub invariant-loop-p : goal.invariant-loop-p
invariant-loop-p l =
    texts l.names.items ++ all_written (visible (env_of l.env)) (map grouped_view (drop l.p-index l.params))
    ≡ texts l.initial.names.items ++ all_written (visible (env_of l.env)) (map grouped_view l.params)
