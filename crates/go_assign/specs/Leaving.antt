-- Own: of what is around it a branch asks for what may be left alone.
use Rattle.std.specs.Prelude.{List, [], false, None}
use Rattle.go_typing.specs.Walk as go

abbrev pub leaving : List go.Target → go.Around
leaving gs = record { results = None; named_results = false; targets = gs; label = None; wrong_labels = []; too_far = None }
