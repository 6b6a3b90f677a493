use Rattle.std.proofs.Common.{arith, ◌≡◌, ◌<◌, ◌∙◌, sym, ap, List, length}
use Rattle.std.proofs.lemmas.Bool.Decides.{nat_tests}
use Rattle.go_type.specs.Levels.{trees_of}
use Rattle.go_type.specs.Tree.{no_tys}
use Rattle.go_type.specs.declared.types.TypeId.{TypeId}
use Rattle.go_typing.specs.Told.{takes_something}
use Rattle.go_decls.proofs.EntryLemmas.{takes_by_results, takes_params}
use Rattle.go_decls.proofs.signatures.entry.takes_something.Goals as goal

pub returns-then-is_empty : goal.returns-then-is_empty
returns-then-is_empty c =
    let s = c.args.types.now in
    let h : length s.params.items ≡ 0 = grind (arith, nat_tests, c.is_empty.ensures, c.if-is_empty.true, s.params.ok.0) in
    record {
      value = λ ts.
          c.is_some.ensures.value ts ∙ ap (λ (is : List TypeId). takes_something (record { params = no_tys; results = trees_of ts is })) c.as_slice.ensures.value ∙ takes_by_results ts s.params.items s.results.items h;
    }

pub returns : goal.returns
returns c =
    let s = c.args.types.now in
    let h : 0 < length s.params.items = grind (arith, nat_tests, c.is_empty.ensures, c.if-is_empty.false, s.params.ok.0) in
    record { value = λ ts. sym (takes_params ts s.params.items s.results.items (λ e. absurd (omega (arith, e, h)))) }
