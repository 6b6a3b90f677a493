use Rattle.std.proofs.Common.{◌+◌, length, refl, arith}
use Rattle.std.proofs.lemmas.Result.{err_from_is_err_and}
use Rattle.go_syntax.proofs.MarkLemmas.{tokens_in-append, tokens_in-push}
use Rattle.go_syntax.proofs.token.Tokens.push.Goals as goal

-- the texts grew and the marks did not
pub returns-in_err-push-clause-same : goal.returns-in_err-push-clause-same
returns-in_err-push-clause-same c =
    let p = err_from_is_err_and c.from_residual-in_err-push.result c.from_residual-in_err-push.ensures.1 in
    let texts = c.in_ok-extend_from_slice.ensures.items in
    let marks = c.in_err-push.ensures.items in
    let same = tokens_in-append c.self.inside.file c.self.inside.texts.items c.args.text.now c.self.inside.marks.items c.self.invariant.within in
    rw (p.1, texts, marks, same) c.self.view_is

-- both grew
pub returns-clause-tokens : goal.returns-clause-tokens
returns-clause-tokens c =
    let texts = c.in_ok-extend_from_slice.ensures.items in
    let marks = c.in_ok-push.ensures.items in
    let more = tokens_in-push c.self.inside.file c.self.inside.texts.items c.args.text.now c.self.inside.marks.items (record { kind = c.args.kind; offset = c.args.offset; start = c.len-start.result; end = c.len-start.result + length c.args.text.now }) c.self.invariant.within (omega arith) (omega arith) in
    rw (texts, marks, more, ← c.self.view_is) refl
