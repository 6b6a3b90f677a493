use Rattle.js_prints.proofs.Views.{some_types}
use Rattle.js_prints.proofs.kind.has_no_results.Goals as goal

pub returns-in-len1-up : goal.returns-in-len1-up
returns-in-len1-up c = record { value = λ ts. some_types ts c.args.f.now.sig.results c.as_slice.result.now c.as_slice.ensures c.in-len1-up.len_at_least }
