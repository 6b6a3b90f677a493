use Rattle.std.proofs.Common.{◌≡◌, ◌∙◌, ◌+◌, ◌-◌, refl, ap, arith, map, get_or, ℕ}
use Rattle.std.proofs.lemmas.List.{length-map}
use Rattle.go_type.specs.Table.{places, names}
use Rattle.go_core.specs.CoreView.{package_var_view}
use Rattle.go_core.specs.StepMemory.{global_base}
use Rattle.go_slices.proofs.MapsListLemmas.{split_map}
use Rattle.go_slices.proofs.PartLemmas.{base_step, base_out, base_end}
use Rattle.go_slices.proofs.composites.globals.global_base.Goals as goal

pub globals-init : goal.globals-init
globals-init c =
    let w = c.args.c.now.table.now in
    let all = map (package_var_view (places w)) c.args.globals.now in
    let e : c.args.number - 0 ≡ c.args.number = omega arith in
    let f = ap (λ (n : ℕ). global_base (names w) all n) e in
    omega (arith, f)

pub globals-preserved : goal.globals-preserved
globals-preserved c =
    let w = c.args.c.now.table.now in
    let ts = places w in
    let gs = c.args.globals.now in
    let i = c.globals.i in
    let x = get_or gs i c.index-globals-i.result in
    let next = c.in_ok-next.ensures.value ∙ ap (λ (n : ℕ). c.globals.base + n) c.in_ok-one.ensures.value in
    base_step (names w) (map (package_var_view ts) gs) i c.args.number c.globals.base c.in_ok-next.next (package_var_view ts x) (omega (arith, c.if-i-number.false))
    (split_map (package_var_view ts) gs i x c.index-globals-i.result (omega (arith, c.globals-test.true)) refl) next c.globals.invariant

pub returns-then-i-number : goal.returns-then-i-number
returns-then-i-number c =
    let w = c.args.c.now.table.now in
    record { value = base_out (names w) (map (package_var_view (places w)) c.args.globals.now) c.globals.i c.args.number c.globals.base (omega (arith, c.if-i-number.true)) c.globals.invariant }

pub returns : goal.returns
returns c =
    let w = c.args.c.now.table.now in
    let view = package_var_view (places w) in
    record {
      value = base_end (names w) (map view c.args.globals.now) c.globals.i c.args.number c.globals.base (omega (arith, c.globals-test.false, length-map c.args.globals.now view)) c.globals.invariant;
    }
