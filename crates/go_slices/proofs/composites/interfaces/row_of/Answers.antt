use Rattle.std.proofs.Common.{◌≡◌, ◌∙◌, sym, arith, rules, map, true, false}
use Rattle.std.proofs.lemmas.List.{length-map}
use Rattle.go_type.specs.Levels.{tree_of}
use Rattle.go_type.specs.Table.{places}
use Rattle.go_core.specs.CoreTree.{MethodName}
use Rattle.go_core.specs.CoreView.{method_row_view}
use Rattle.go_slices.proofs.MapsListLemmas.{split_map}
use Rattle.go_slices.proofs.MethodLemmas.{row_step, row_found, row_none}
use Rattle.go_slices.proofs.composites.interfaces.row_of.Goals as goal

pub rows-preserved : goal.rows-preserved
rows-preserved c =
    let ts = places c.args.p.now.types in
    let n : MethodName = record { type_ = tree_of ts c.args.t; name = c.args.name.now; package_ = c.args.«package».now } in
    let all = c.args.p.now.methods.items.items in
    let i = c.rows.i in
    let x = c.index.result.now in
    let counted = c.args.p.now.methods.items.ok.0 in
    let b : c.is_row.result ≡ false = search rules in
    row_step n (map (method_row_view ts) all) i (method_row_view ts x)
    (split_map (method_row_view ts) all i x x (omega (arith, c.rows-test.true, c.len-i-end.ensures, counted)) c.index.ensures)
    (sym c.is_row.ensures.value ∙ b) c.rows.invariant

pub returns-then-is_row : goal.returns-then-is_row
returns-then-is_row c =
    let ts = places c.args.p.now.types in
    let n : MethodName = record { type_ = tree_of ts c.args.t; name = c.args.name.now; package_ = c.args.«package».now } in
    let all = c.args.p.now.methods.items.items in
    let i = c.rows.i in
    let x = c.index.result.now in
    let counted = c.args.p.now.methods.items.ok.0 in
    let b : c.is_row.result ≡ true = search rules in
    record {
      value =
          row_found n (map (method_row_view ts) all) i (method_row_view ts x)
          (split_map (method_row_view ts) all i x x (omega (arith, c.rows-test.true, c.len-i-end.ensures, counted)) c.index.ensures)
          (sym c.is_row.ensures.value ∙ b) c.rows.invariant;
    }

pub returns : goal.returns
returns c =
    let ts = places c.args.p.now.types in
    let n : MethodName = record { type_ = tree_of ts c.args.t; name = c.args.name.now; package_ = c.args.«package».now } in
    let all = c.args.p.now.methods.items.items in
    let counted = c.args.p.now.methods.items.ok.0 in
    record { value = row_none n (map (method_row_view ts) all) c.rows.i (omega (arith, c.rows-test.false, c.len-i-end.ensures, counted, length-map all (method_row_view ts))) c.rows.invariant }
