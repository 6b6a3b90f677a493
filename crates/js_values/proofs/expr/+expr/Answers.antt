use Rattle.std.proofs.Common.{sym, rules}
use Rattle.std.specs.Int.{w64}
use Rattle.std.specs.Int.RustNames.{FitsSigned}
use Rattle.std.proofs.lemmas.Int.{to_z-of_z}
use Rattle.js_values.proofs.Arms.{constant_runs, zero_runs, local_runs, place_runs, unary_runs, known_runs, binary_runs, concat_runs, equal_runs, less_runs, and_runs, or_runs, not_runs, convert_runs, other_runs}
use Rattle.js_values.proofs.expr.+expr.Goals as goal

pub expr-returns-in-Const : goal.expr-returns-in-Const
expr-returns-in-Const t c = constant_runs c.args.b.now c.constant.new.b c.args.e.now c.deref.result.now c.deref.ensures c.in-Const.ty c.in-Const.value c.in-Const.is c.constant.ensures

pub expr-returns-in-Zero : goal.expr-returns-in-Zero
expr-returns-in-Zero t c = zero_runs c.args.b.now c.zero_value.new.b c.args.e.now c.deref.result.now c.deref.ensures c.in-Zero.ty c.in-Zero.is c.zero_value.ensures

pub expr-returns-in-Local : goal.expr-returns-in-Local
expr-returns-in-Local t c =
    local_runs c.args.b.now c.read_local.new.b c.args.e.now c.deref.result.now c.deref.ensures c.in-Read.ty c.in-Read.place c.deref-in-Read.result.now c.in-Local.v c.in-Read.is c.deref-in-Read.ensures c.in-Local.is c.read_local.ensures

pub expr-returns-in_default-deref : goal.expr-returns-in_default-deref
expr-returns-in_default-deref t c =
    place_runs c.args.b.now c.read.new.b c.args.e.now c.deref.result.now c.deref.ensures c.in-Read.ty c.in-Read.place c.deref-in-Read.result.now c.in-Read.is c.deref-in-Read.ensures c.in_default-deref.not-Local

pub expr-returns-in-Unary : goal.expr-returns-in-Unary
expr-returns-in-Unary t c =
    unary_runs c.args.b.now c.unary.new.b c.args.e.now c.deref.result.now c.deref.ensures c.expr.new.b c.in-Unary.op c.in-Unary.ty c.in-Unary.operand c.in-Unary.is c.expr.ensures c.unary.ensures

pub expr-returns-in-Some : goal.expr-returns-in-Some
expr-returns-in-Some t c =
    let f : FitsSigned w64 c.in-Some.n = search rules in
    let w = simp to_z-of_z at c.push_number.ensures.1 in
    known_runs c.args.b.now c.binary.new.b c.args.e.now c.deref.result.now c.deref.ensures c.expr-in-Binary.new.b c.push_number.new.self c.in-Binary.op c.in-Binary.ty c.in-Binary.left c.in-Binary.right c.in-Some.n c.in-Binary.is c.expr-in-Binary.ensures
    (λ ts. sym (c.in-Some.ensures ts)) (c.push_number.ensures.0, w) c.binary.ensures

pub expr-returns-in-None : goal.expr-returns-in-None
expr-returns-in-None t c =
    binary_runs c.args.b.now c.binary-in-None.new.b c.args.e.now c.deref.result.now c.deref.ensures c.expr-in-Binary.new.b c.expr-in-None.new.b c.count_of.new.b c.in-Binary.op c.in-Binary.ty c.in-Binary.left c.in-Binary.right c.in-Binary.is c.expr-in-Binary.ensures
    (λ ts. sym (c.in-None.ensures ts)) c.expr-in-None.ensures c.count_of.ensures c.binary-in-None.ensures

pub expr-returns-in-Concat : goal.expr-returns-in-Concat
expr-returns-in-Concat t c =
    concat_runs c.args.b.now c.concat.new.b c.args.e.now c.deref.result.now c.deref.ensures c.expr-in-Concat.new.b c.expr-in-Concat-2.new.b c.in-Concat.ty c.in-Concat.left c.in-Concat.right c.in-Concat.is c.expr-in-Concat.ensures c.expr-in-Concat-2.ensures c.concat.ensures

pub expr-returns-in-Equal : goal.expr-returns-in-Equal
expr-returns-in-Equal t c =
    equal_runs c.args.b.now c.equal.new.b c.args.e.now c.deref.result.now c.deref.ensures c.expr-in-Equal.new.b c.expr-in-Equal-2.new.b c.in-Equal.negated c.in-Equal.operands c.in-Equal.ty c.in-Equal.left c.in-Equal.right c.in-Equal.is c.expr-in-Equal.ensures
    c.expr-in-Equal-2.ensures c.equal.ensures

pub expr-returns-in-Less : goal.expr-returns-in-Less
expr-returns-in-Less t c =
    less_runs c.args.b.now c.less.new.b c.args.e.now c.deref.result.now c.deref.ensures c.expr-in-Less.new.b c.expr-in-Less-2.new.b c.in-Less.op c.in-Less.operands c.in-Less.ty c.in-Less.left c.in-Less.right c.in-Less.is c.expr-in-Less.ensures c.expr-in-Less-2.ensures
    c.less.ensures

pub expr-returns-in-AndThen : goal.expr-returns-in-AndThen
expr-returns-in-AndThen t c =
    and_runs c.args.b.now c.end_logic.new.b c.args.e.now c.deref.result.now c.deref.ensures c.expr-in-AndThen.new.b c.begin_logic-l.new.b c.expr-in-AndThen-2.new.b c.begin_logic-l.result c.in-AndThen.ty c.in-AndThen.left c.in-AndThen.right c.in-AndThen.is c.expr-in-AndThen.ensures
    c.begin_logic-l.ensures c.expr-in-AndThen-2.ensures c.end_logic.ensures

pub expr-returns-in-OrElse : goal.expr-returns-in-OrElse
expr-returns-in-OrElse t c =
    or_runs c.args.b.now c.end_logic-in-OrElse.new.b c.args.e.now c.deref.result.now c.deref.ensures c.expr-in-OrElse.new.b c.begin_logic-l-in-OrElse.new.b c.expr-in-OrElse-2.new.b c.begin_logic-l-in-OrElse.result c.in-OrElse.ty c.in-OrElse.left c.in-OrElse.right c.in-OrElse.is c.expr-in-OrElse.ensures
    c.begin_logic-l-in-OrElse.ensures c.expr-in-OrElse-2.ensures c.end_logic-in-OrElse.ensures

pub expr-returns-in-Not : goal.expr-returns-in-Not
expr-returns-in-Not t c =
    not_runs c.args.b.now c.not.new.b c.args.e.now c.deref.result.now c.deref.ensures c.expr-in-Not.new.b c.in-Not.ty c.in-Not.operand c.in-Not.is c.expr-in-Not.ensures c.not.ensures

pub expr-returns-in-Convert : goal.expr-returns-in-Convert
expr-returns-in-Convert t c =
    convert_runs c.args.b.now c.convert.new.b c.args.e.now c.deref.result.now c.deref.ensures c.expr-in-Convert.new.b c.in-Convert.from c.in-Convert.ty c.in-Convert.operand c.in-Convert.is c.expr-in-Convert.ensures c.convert.ensures

pub expr-returns-in_default : goal.expr-returns-in_default
expr-returns-in_default t c =
    let n = c.in_default in
    other_runs c.args.b.now c.other.new.b c.args.e.now c.deref.result.now c.deref.ensures
    (record {
      no_const = n.not-Const;
      no_zero = n.not-Zero;
      no_read = n.not-Read;
      no_unary = n.not-Unary;
      no_binary = n.not-Binary;
      no_concat = n.not-Concat;
      no_equal = n.not-Equal;
      no_less = n.not-Less;
      no_and = n.not-AndThen;
      no_or = n.not-OrElse;
      no_not = n.not-Not;
      no_convert = n.not-Convert;
    })
