use Rattle.std.proofs.Common.{◌∙◌, ap, sym}
use Rattle.std.specs.Prelude.{Option}
use Rattle.gj_base.specs.declared.place.Place.{Place}
use Rattle.go_type.specs.Table.{places, names}
use Rattle.go_operands.specs.Held.{first_place, place_held}
use Rattle.go_operands.specs.Holds.{held, held_blocks, held_packages}
use Rattle.go_operands.specs.Counted.{place_named}
use Rattle.go_operands.specs.EnvView.{place_current}
use Rattle.go_operands.proofs.OriginLemmas.{originates}
use Rattle.go_operands.proofs.scopes.env.Env.origin.Goals as goal

pub returns-in-Some : goal.returns-in-Some
returns-in-Some c =
    let e = c.args.self.now in
    let x = c.args.name.now in
    record {
      value = ap (λ (o : Option Place). first_place o (first_place (place_current x e.current (held_packages e.packages)) (first_place (place_held x (held e.universe)) (place_named x e.iota.what)))) c.in-Some.ensures.value
          ∙ sym (originates (places e.table) (names e.table) e.iota.what e.iota.counts x (held e.universe) (held_packages e.packages) e.current (held_blocks e.blocks));
    }

pub returns-in-Some-place_in_package : goal.returns-in-Some-place_in_package
returns-in-Some-place_in_package c =
    let e = c.args.self.now in
    let x = c.args.name.now in
    record {
      value = ap (λ (o : Option Place). first_place o (first_place (place_held x (held e.universe)) (place_named x e.iota.what))) c.in-Some-place_in_package.ensures.value
          ∙ ap (λ (o : Option Place). first_place o (first_place (place_current x e.current (held_packages e.packages)) (first_place (place_held x (held e.universe)) (place_named x e.iota.what)))) c.in_default.ensures.value
          ∙ sym (originates (places e.table) (names e.table) e.iota.what e.iota.counts x (held e.universe) (held_packages e.packages) e.current (held_blocks e.blocks));
    }

pub returns-in-Some-place : goal.returns-in-Some-place
returns-in-Some-place c =
    let e = c.args.self.now in
    let x = c.args.name.now in
    record {
      value = ap (λ (o : Option Place). first_place o (place_named x e.iota.what)) c.in-Some-place.ensures.value
          ∙ ap (λ (o : Option Place). first_place o (first_place (place_held x (held e.universe)) (place_named x e.iota.what))) c.in_default-place_in_package.ensures.value
          ∙ ap (λ (o : Option Place). first_place o (first_place (place_current x e.current (held_packages e.packages)) (first_place (place_held x (held e.universe)) (place_named x e.iota.what)))) c.in_default.ensures.value
          ∙ sym (originates (places e.table) (names e.table) e.iota.what e.iota.counts x (held e.universe) (held_packages e.packages) e.current (held_blocks e.blocks));
    }

pub returns : goal.returns
returns c =
    let e = c.args.self.now in
    let x = c.args.name.now in
    record {
      value = c.place-2.ensures.value
          ∙ ap (λ (o : Option Place). first_place o (place_named x e.iota.what)) c.in_default-place.ensures.value
          ∙ ap (λ (o : Option Place). first_place o (first_place (place_held x (held e.universe)) (place_named x e.iota.what))) c.in_default-place_in_package.ensures.value
          ∙ ap (λ (o : Option Place). first_place o (first_place (place_current x e.current (held_packages e.packages)) (first_place (place_held x (held e.universe)) (place_named x e.iota.what)))) c.in_default.ensures.value
          ∙ sym (originates (places e.table) (names e.table) e.iota.what e.iota.counts x (held e.universe) (held_packages e.packages) e.current (held_blocks e.blocks));
    }
