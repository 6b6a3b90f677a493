use Rattle.std.proofs.Common.{◌∙◌, ap, sym, refl, map}
use Rattle.std.specs.Prelude.{List, Option}
use Rattle.gj_base.specs.declared.place.Place.{Place}
use Rattle.go_operands.specs.Held.{Held, place_held, declare_held}
use Rattle.go_operands.specs.Holds.{held_package}
use Rattle.go_operands.proofs.AnswerLemmas.{if_ok, on_ok, on_err}
use Rattle.go_operands.proofs.HeldLemmas.{binds_or, held_at-lookup, package-set, package-none}
use Rattle.go_operands.proofs.ViewLemmas.{package-same}
use Rattle.go_operands.proofs.scopes.packages.Packages.declare.Goals as goal

pub returns-in-Some-clause-answer : goal.returns-in-Some-clause-answer
returns-in-Some-clause-answer c =
    if_ok c.declare.result (λ (r : Option Place) q. q ∙ ap (place_held c.args.name) (ap binds_or c.in-Some.ensures.value ∙ held_at-lookup c.args.path.now c.args.self.now.scopes.entries)) c.declare.ensures.answer

pub returns-in-Some-clause-value : goal.returns-in-Some-clause-value
returns-in-Some-clause-value c =
    on_ok c.declare.result (λ q. ap (map held_package) (c.get_mut.follows.holds c.declare.new.self).0
    ∙ package-set (declare_held (record { name = c.args.name; place = c.args.place; what = c.args.what })) c.args.path.now c.args.self.now.scopes.entries c.in-Some.scope.now c.declare.new.self
    (sym c.in-Some.ensures.value) q) c.declare.ensures.value

pub returns-in-Some-clause-same : goal.returns-in-Some-clause-same
returns-in-Some-clause-same c =
    on_err c.declare.result (λ q. ap (map held_package) (c.get_mut.follows.holds c.declare.new.self).0
    ∙ package-set (λ (hs : List Held). hs) c.args.path.now c.args.self.now.scopes.entries c.in-Some.scope.now c.declare.new.self (sym c.in-Some.ensures.value) q
    ∙ package-same (λ (hs : List Held). hs) c.args.path.now (map held_package c.args.self.now.scopes.entries) refl) c.declare.ensures.same

pub returns-in-None-clause-answer : goal.returns-in-None-clause-answer
returns-in-None-clause-answer c = ap (place_held c.args.name) (ap binds_or c.in-None.ensures.value ∙ held_at-lookup c.args.path.now c.args.self.now.scopes.entries)

pub returns-in-None-clause-value : goal.returns-in-None-clause-value
returns-in-None-clause-value c =
    ap (λ m. map held_package m.entries) c.get_mut.follows.holds-at-none
    ∙ package-none (declare_held (record { name = c.args.name; place = c.args.place; what = c.args.what })) c.args.path.now c.args.self.now.scopes.entries (sym c.in-None.ensures.value)
