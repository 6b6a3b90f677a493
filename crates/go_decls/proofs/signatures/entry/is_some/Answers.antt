use Rattle.std.proofs.Common.{arith, ◌≡◌, ◌<◌, length}
use Rattle.std.proofs.lemmas.Bool.Decides.{nat_tests}
use Rattle.go_decls.proofs.EntryLemmas.{none_taken, some_taken}
use Rattle.go_decls.proofs.signatures.entry.is_some.Goals as goal

pub returns-then-is_empty : goal.returns-then-is_empty
returns-then-is_empty c =
    let h : length c.args.ids.now ≡ 0 = grind (arith, nat_tests, c.is_empty.ensures, c.if-is_empty.true) in
    record { value = λ ts. none_taken ts c.args.ids.now h }

pub returns : goal.returns
returns c =
    let h : 0 < length c.args.ids.now = grind (arith, nat_tests, c.is_empty.ensures, c.if-is_empty.false) in
    record { value = λ ts. some_taken ts c.args.ids.now h }
