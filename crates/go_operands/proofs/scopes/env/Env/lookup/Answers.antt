use Rattle.std.proofs.Common.{arith, ◌≡◌, ◌∙◌, ap, sym, subst}
use Rattle.std.specs.Prelude.{Option, option_map}
use Rattle.std.specs.Borrow.{Bor}
use Rattle.go_type.specs.Tree as ty
use Rattle.go_type.specs.Levels.{tree_of}
use Rattle.go_type.specs.declared.types.Basis.TheVariants as basis
use Rattle.go_type.specs.Table.{size, places, names}
use Rattle.go_operands.specs.declared.scopes.declared.Declared.{Declared}
use Rattle.go_operands.specs.Held.{first_of, what_in}
use Rattle.go_operands.specs.Holds.{held, held_blocks, held_packages}
use Rattle.go_operands.specs.Counted.{what_named}
use Rattle.go_operands.specs.EnvView.{what_current}
use Rattle.go_operands.specs.View.{decl_of}
use Rattle.go_operands.proofs.ReadyLemmas.{has}
use Rattle.go_operands.proofs.WithinLemmas.{SomeBelow, seek-below, current-below, what-below}
use Rattle.go_operands.proofs.EnvLemmas.{looks-up, map-map}
use Rattle.go_operands.proofs.scopes.env.Env.lookup.Goals as goal

pub returns-in-Some-clause-value : goal.returns-in-Some-clause-value
returns-in-Some-clause-value c =
    let e = c.args.self.now in
    let x = c.args.name.now in
    let untyped : tree_of (places e.table) (record { 0 = 4 }) ≡ ty.untyped basis.Int = (has e.table e.begins).begins (record { 0 = 4 }) (omega arith) in
    ap (option_map (decl_of (places e.table)))
    (ap (λ (o : Option Declared). first_of o (first_of (what_current x e.current (held_packages e.packages)) (first_of (what_in x (held e.universe)) (what_named x e.iota.what)))) c.in-Some.ensures.value)
    ∙ sym (looks-up (places e.table) (names e.table) e.iota.what e.iota.counts untyped x (held e.universe) (held_packages e.packages) e.current (held_blocks e.blocks))

pub returns-in-Some-clause-within : goal.returns-in-Some-clause-within
returns-in-Some-clause-within c =
    let e = c.args.self.now in
    subst (SomeBelow (size e.table)) (sym c.in-Some.ensures.value) (seek-below (size e.table) c.args.name.now (held_blocks e.blocks) e.blocks_within)

pub returns-in-Some-in_package-clause-value : goal.returns-in-Some-in_package-clause-value
returns-in-Some-in_package-clause-value c =
    let e = c.args.self.now in
    let x = c.args.name.now in
    let untyped : tree_of (places e.table) (record { 0 = 4 }) ≡ ty.untyped basis.Int = (has e.table e.begins).begins (record { 0 = 4 }) (omega arith) in
    ap (option_map (decl_of (places e.table)))
    (ap (λ (o : Option Declared). first_of o (first_of (what_in x (held e.universe)) (what_named x e.iota.what))) c.in-Some-in_package.ensures.value
    ∙ ap (λ (o : Option Declared). first_of o (first_of (what_current x e.current (held_packages e.packages)) (first_of (what_in x (held e.universe)) (what_named x e.iota.what)))) c.in_default.ensures.value)
    ∙ sym (looks-up (places e.table) (names e.table) e.iota.what e.iota.counts untyped x (held e.universe) (held_packages e.packages) e.current (held_blocks e.blocks))

pub returns-in-Some-in_package-clause-within : goal.returns-in-Some-in_package-clause-within
returns-in-Some-in_package-clause-within c =
    let e = c.args.self.now in
    subst (SomeBelow (size e.table)) (sym c.in-Some-in_package.ensures.value) (current-below (size e.table) c.args.name.now e.current (held_packages e.packages) e.packages_within)

pub returns-in-Some-find-clause-value : goal.returns-in-Some-find-clause-value
returns-in-Some-find-clause-value c =
    let e = c.args.self.now in
    let x = c.args.name.now in
    let untyped : tree_of (places e.table) (record { 0 = 4 }) ≡ ty.untyped basis.Int = (has e.table e.begins).begins (record { 0 = 4 }) (omega arith) in
    ap (option_map (decl_of (places e.table)))
    (ap (λ (o : Option Declared). first_of o (what_named x e.iota.what)) c.in-Some-find.ensures.value
    ∙ ap (λ (o : Option Declared). first_of o (first_of (what_in x (held e.universe)) (what_named x e.iota.what))) c.in_default-in_package.ensures.value
    ∙ ap (λ (o : Option Declared). first_of o (first_of (what_current x e.current (held_packages e.packages)) (first_of (what_in x (held e.universe)) (what_named x e.iota.what)))) c.in_default.ensures.value)
    ∙ sym (looks-up (places e.table) (names e.table) e.iota.what e.iota.counts untyped x (held e.universe) (held_packages e.packages) e.current (held_blocks e.blocks))

pub returns-in-Some-find-clause-within : goal.returns-in-Some-find-clause-within
returns-in-Some-find-clause-within c =
    let e = c.args.self.now in
    subst (SomeBelow (size e.table)) (sym c.in-Some-find.ensures.value) (what-below (size e.table) c.args.name.now (held e.universe) e.universe_within)

pub returns-clause-value : goal.returns-clause-value
returns-clause-value c =
    let e = c.args.self.now in
    let x = c.args.name.now in
    let untyped : tree_of (places e.table) (record { 0 = 4 }) ≡ ty.untyped basis.Int = (has e.table e.begins).begins (record { 0 = 4 }) (omega arith) in
    map-map (λ (d : Bor Declared). d.now) (decl_of (places e.table)) c.find-3.result
    ∙ ap (option_map (decl_of (places e.table)))
    (c.find-3.ensures.value
    ∙ ap (λ (o : Option Declared). first_of o (what_named x e.iota.what)) c.in_default-find.ensures.value
    ∙ ap (λ (o : Option Declared). first_of o (first_of (what_in x (held e.universe)) (what_named x e.iota.what))) c.in_default-in_package.ensures.value
    ∙ ap (λ (o : Option Declared). first_of o (first_of (what_current x e.current (held_packages e.packages)) (first_of (what_in x (held e.universe)) (what_named x e.iota.what)))) c.in_default.ensures.value)
    ∙ sym (looks-up (places e.table) (names e.table) e.iota.what e.iota.counts untyped x (held e.universe) (held_packages e.packages) e.current (held_blocks e.blocks))
