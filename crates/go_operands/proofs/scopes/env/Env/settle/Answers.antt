use Rattle.std.proofs.Common.{arith, ◌≡◌, ◌∙◌, ap, sym, subst}
use Rattle.std.specs.Prelude.{◌<◌, ℕ, List, length}
use Rattle.go_type.specs.Table.{size, places, names}
use Rattle.go_operands.specs.Held.{Held, HeldPackage, settle_held, last_with, last_of, held_at, package_with}
use Rattle.go_operands.specs.Holds.{held, held_blocks, held_packages}
use Rattle.go_operands.specs.Counted.{number_of}
use Rattle.go_operands.specs.Within.{HeldsBelow, ScopesBelow, PackagesBelow}
use Rattle.go_operands.proofs.WithinLemmas.{settle-below, last-below, package-below}
use Rattle.go_operands.proofs.EnvLemmas.{made, settle-blocks, settle-current, settle-none}
use Rattle.go_operands.proofs.scopes.env.Env.settle.Goals as goal

pub invariant_of-self : goal.invariant_of-self
invariant_of-self c = record {
  begins = c.args.self.now.begins;
  universe_within = c.args.self.now.universe_within;
  packages_within = c.args.self.now.packages_within;
  blocks_within =
      subst (ScopesBelow (size c.args.self.now.table)) (sym c.settle.ensures.value)
      (last-below (size c.args.self.now.table) (settle_held c.as_bytes.result.now c.args.what) (held_blocks c.args.self.now.blocks) c.args.self.now.blocks_within (λ h. settle-below (size c.args.self.now.table) c.as_bytes.result.now c.args.what (last_of (held_blocks c.args.self.now.blocks)) h c.requires));
}

pub returns-then-len-gt0-clause-value : goal.returns-then-len-gt0-clause-value
returns-then-len-gt0-clause-value c =
    let k : 0 < length (held_blocks c.args.self.now.blocks) = omega arith in
    ap (made (places c.args.self.now.table) (names c.args.self.now.table) (number_of c.args.self.now.iota.what) (held c.args.self.now.universe) (held_packages c.args.self.now.packages) c.args.self.now.current) (c.settle.ensures.value ∙ ap (λ (x : List ℕ). last_with (settle_held x c.args.what) (held_blocks c.args.self.now.blocks)) c.as_bytes.ensures)
    ∙ settle-blocks (places c.args.self.now.table) (names c.args.self.now.table) (number_of c.args.self.now.iota.what) c.args.name.now c.args.what (held c.args.self.now.universe) (held_packages c.args.self.now.packages) c.args.self.now.current (held_blocks c.args.self.now.blocks) k

pub invariant_of-self-in-Some : goal.invariant_of-self-in-Some
invariant_of-self-in-Some c = record {
  begins = c.args.self.now.begins;
  universe_within = c.args.self.now.universe_within;
  packages_within =
      subst (PackagesBelow (size c.args.self.now.table)) (sym c.settle-in-Some.ensures.value)
      (package-below (size c.args.self.now.table) (settle_held c.as_bytes-in-Some-2.result.now c.args.what) c.as_bytes-in-Some.result.now (held_packages c.args.self.now.packages) c.args.self.now.packages_within
      (λ h. settle-below (size c.args.self.now.table) c.as_bytes-in-Some-2.result.now c.args.what (held_at c.as_bytes-in-Some.result.now (held_packages c.args.self.now.packages)) h c.requires));
  blocks_within = c.args.self.now.blocks_within;
}

pub invariant_of-self-in-None : goal.invariant_of-self-in-None
invariant_of-self-in-None c = record {
  begins = c.args.self.now.begins;
  universe_within =
      subst (HeldsBelow (size c.args.self.now.table)) (sym c.settle-in-None.ensures.value) (settle-below (size c.args.self.now.table) c.as_bytes-in-None.result.now c.args.what (held c.args.self.now.universe) c.args.self.now.universe_within c.requires);
  packages_within = c.args.self.now.packages_within;
  blocks_within = c.args.self.now.blocks_within;
}

pub returns-in-Some-clause-value : goal.returns-in-Some-clause-value
returns-in-Some-clause-value c =
    let k : length (held_blocks c.args.self.now.blocks) ≡ 0 = omega arith in
    ap (λ (qs : List HeldPackage). made (places c.args.self.now.table) (names c.args.self.now.table) (number_of c.args.self.now.iota.what) (held c.args.self.now.universe) qs c.args.self.now.current (held_blocks c.args.self.now.blocks))
    (c.settle-in-Some.ensures.value ∙ ap (λ (x : List ℕ). package_with (settle_held x c.args.what) c.as_bytes-in-Some.result.now (held_packages c.args.self.now.packages)) c.as_bytes-in-Some-2.ensures
    ∙ ap (λ (p : List ℕ). package_with (settle_held c.args.name.now c.args.what) p (held_packages c.args.self.now.packages)) c.as_bytes-in-Some.ensures)
    ∙ settle-current (places c.args.self.now.table) (names c.args.self.now.table) (number_of c.args.self.now.iota.what) c.args.name.now c.args.what (held c.args.self.now.universe) (held_packages c.args.self.now.packages) c.args.self.now.current (held_blocks c.args.self.now.blocks) c.in-Some.path c.in-Some.is k

pub returns-in-None-clause-value : goal.returns-in-None-clause-value
returns-in-None-clause-value c =
    let k : length (held_blocks c.args.self.now.blocks) ≡ 0 = omega arith in
    ap (λ (hs : List Held). made (places c.args.self.now.table) (names c.args.self.now.table) (number_of c.args.self.now.iota.what) hs (held_packages c.args.self.now.packages) c.args.self.now.current (held_blocks c.args.self.now.blocks)) (c.settle-in-None.ensures.value ∙ ap (λ (x : List ℕ). settle_held x c.args.what (held c.args.self.now.universe)) c.as_bytes-in-None.ensures)
    ∙ settle-none (places c.args.self.now.table) (names c.args.self.now.table) (number_of c.args.self.now.iota.what) c.args.name.now c.args.what (held c.args.self.now.universe) (held_packages c.args.self.now.packages) c.args.self.now.current (held_blocks c.args.self.now.blocks) c.in-None.is k
