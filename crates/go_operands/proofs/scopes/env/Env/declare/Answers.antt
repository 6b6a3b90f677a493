use Rattle.std.proofs.Common.{arith, ◌≡◌, ◌∙◌, ap, sym, subst}
use Rattle.std.specs.Prelude.{◌<◌, ℕ, List, Option, length}
use Rattle.gj_base.specs.declared.place.Place.{Place}
use Rattle.go_type.specs.Table.{size, places, names}
use Rattle.go_operands.specs.Held.{Held, HeldPackage, place_held, declare_held, last_of, held_at, package_with}
use Rattle.go_operands.specs.Holds.{held, held_blocks, held_packages}
use Rattle.go_operands.specs.Counted.{number_of}
use Rattle.go_operands.specs.Within.{ScopesBelow, PackagesBelow}
use Rattle.go_operands.proofs.AnswerLemmas.{if_ok, on_ok, either}
use Rattle.go_operands.proofs.WithinLemmas.{declare-below, last-below, package-below}
use Rattle.go_operands.proofs.EnvLemmas.{made, place-blocks, place-current, place-none, declare-blocks, declare-current, declare-none}
use Rattle.go_operands.proofs.scopes.env.Env.declare.Goals as goal

pub invariant_of-self : goal.invariant_of-self
invariant_of-self c = record {
  begins = c.args.self.now.begins;
  universe_within = c.args.self.now.universe_within;
  packages_within = c.args.self.now.packages_within;
  blocks_within =
      either c.declare.result c.declare.ensures.value c.declare.ensures.same
      (λ q. subst (ScopesBelow (size c.args.self.now.table)) (sym q) (last-below (size c.args.self.now.table) (declare_held (record { name = c.args.name; place = c.args.place; what = c.args.what })) (held_blocks c.args.self.now.blocks) c.args.self.now.blocks_within (λ w. declare-below (size c.args.self.now.table) (record { name = c.args.name; place = c.args.place; what = c.args.what }) (last_of (held_blocks c.args.self.now.blocks)) w c.requires)))
      (λ q. subst (ScopesBelow (size c.args.self.now.table)) (sym q) c.args.self.now.blocks_within);
}

pub returns-then-len-gt0-clause-answer : goal.returns-then-len-gt0-clause-answer
returns-then-len-gt0-clause-answer c =
    let k : 0 < length (held_blocks c.args.self.now.blocks) = omega arith in
    if_ok c.declare.result (λ (r : Option Place) q. q ∙ place-blocks (places c.args.self.now.table) (names c.args.self.now.table) (number_of c.args.self.now.iota.what) (held c.args.self.now.universe) (held_packages c.args.self.now.packages) c.args.self.now.current (held_blocks c.args.self.now.blocks) c.args.name k) c.declare.ensures.answer

pub returns-then-len-gt0-clause-value : goal.returns-then-len-gt0-clause-value
returns-then-len-gt0-clause-value c =
    let k : 0 < length (held_blocks c.args.self.now.blocks) = omega arith in
    on_ok c.declare.result (λ q. ap (made (places c.args.self.now.table) (names c.args.self.now.table) (number_of c.args.self.now.iota.what) (held c.args.self.now.universe) (held_packages c.args.self.now.packages) c.args.self.now.current) q ∙ declare-blocks (places c.args.self.now.table) (names c.args.self.now.table) (number_of c.args.self.now.iota.what) (record { name = c.args.name; place = c.args.place; what = c.args.what }) (held c.args.self.now.universe) (held_packages c.args.self.now.packages) c.args.self.now.current (held_blocks c.args.self.now.blocks) k) c.declare.ensures.value

pub invariant_of-self-in-Some : goal.invariant_of-self-in-Some
invariant_of-self-in-Some c = record {
  begins = c.args.self.now.begins;
  universe_within = c.args.self.now.universe_within;
  packages_within =
      either c.declare-in-Some.result c.declare-in-Some.ensures.value c.declare-in-Some.ensures.same
      (λ q. subst (PackagesBelow (size c.args.self.now.table)) (sym q) (package-below (size c.args.self.now.table) (declare_held (record { name = c.args.name; place = c.args.place; what = c.args.what })) c.as_bytes.result.now (held_packages c.args.self.now.packages) c.args.self.now.packages_within (λ w. declare-below (size c.args.self.now.table) (record { name = c.args.name; place = c.args.place; what = c.args.what }) (held_at c.as_bytes.result.now (held_packages c.args.self.now.packages)) w c.requires)))
      (λ q. subst (PackagesBelow (size c.args.self.now.table)) (sym q) c.args.self.now.packages_within);
  blocks_within = c.args.self.now.blocks_within;
}

pub returns-in-Some-clause-answer : goal.returns-in-Some-clause-answer
returns-in-Some-clause-answer c =
    let k : length (held_blocks c.args.self.now.blocks) ≡ 0 = omega arith in
    if_ok c.declare-in-Some.result
    (λ (r : Option Place) q. q ∙ ap (λ (p : List ℕ). place_held c.args.name (held_at p (held_packages c.args.self.now.packages))) c.as_bytes.ensures ∙ place-current (places c.args.self.now.table) (names c.args.self.now.table) (number_of c.args.self.now.iota.what) (held c.args.self.now.universe) (held_packages c.args.self.now.packages) c.args.self.now.current (held_blocks c.args.self.now.blocks) c.in-Some.path c.args.name c.in-Some.is k)
    c.declare-in-Some.ensures.answer

pub returns-in-Some-clause-value : goal.returns-in-Some-clause-value
returns-in-Some-clause-value c =
    let k : length (held_blocks c.args.self.now.blocks) ≡ 0 = omega arith in
    on_ok c.declare-in-Some.result
    (λ q. ap (λ (qs : List HeldPackage). made (places c.args.self.now.table) (names c.args.self.now.table) (number_of c.args.self.now.iota.what) (held c.args.self.now.universe) qs c.args.self.now.current (held_blocks c.args.self.now.blocks)) (q ∙ ap (λ (p : List ℕ). package_with (declare_held (record { name = c.args.name; place = c.args.place; what = c.args.what })) p (held_packages c.args.self.now.packages)) c.as_bytes.ensures)
    ∙ declare-current (places c.args.self.now.table) (names c.args.self.now.table) (number_of c.args.self.now.iota.what) (record { name = c.args.name; place = c.args.place; what = c.args.what }) (held c.args.self.now.universe) (held_packages c.args.self.now.packages) c.args.self.now.current (held_blocks c.args.self.now.blocks) c.in-Some.path c.in-Some.is k) c.declare-in-Some.ensures.value

pub returns-in-None-clause-answer : goal.returns-in-None-clause-answer
returns-in-None-clause-answer c =
    let k : length (held_blocks c.args.self.now.blocks) ≡ 0 = omega arith in
    if_ok c.declare-in-None.result (λ (r : Option Place) q. q ∙ place-none (places c.args.self.now.table) (names c.args.self.now.table) (number_of c.args.self.now.iota.what) (held c.args.self.now.universe) (held_packages c.args.self.now.packages) c.args.self.now.current (held_blocks c.args.self.now.blocks) c.args.name c.in-None.is k) c.declare-in-None.ensures.answer

pub returns-in-None-clause-value : goal.returns-in-None-clause-value
returns-in-None-clause-value c =
    let k : length (held_blocks c.args.self.now.blocks) ≡ 0 = omega arith in
    on_ok c.declare-in-None.result
    (λ q. ap (λ (hs : List Held). made (places c.args.self.now.table) (names c.args.self.now.table) (number_of c.args.self.now.iota.what) hs (held_packages c.args.self.now.packages) c.args.self.now.current (held_blocks c.args.self.now.blocks)) q ∙ declare-none (places c.args.self.now.table) (names c.args.self.now.table) (number_of c.args.self.now.iota.what) (record { name = c.args.name; place = c.args.place; what = c.args.what }) (held c.args.self.now.universe) (held_packages c.args.self.now.packages) c.args.self.now.current (held_blocks c.args.self.now.blocks) c.in-None.is k) c.declare-in-None.ensures.value
