use Rattle.std.proofs.Common.{◌≡◌, ◌∙◌, ap}
use Rattle.std.specs.Prelude.{length, Option}
use Rattle.gj_base.specs.declared.place.Place.{Place}
use Rattle.go_operands.specs.Held.{place_held, declare_held}
use Rattle.go_operands.proofs.AnswerLemmas.{if_ok, on_ok, on_err}
use Rattle.go_operands.proofs.HeldLemmas.{last-set-at, last-get-at, last-kept-at}
use Rattle.go_operands.proofs.scopes.blocks.Blocks.declare.Goals as goal

pub returns-clause-answer : goal.returns-clause-answer
returns-clause-answer c =
    let count : c.len-last.result ≡ length c.args.self.now.scopes.items = c.len-last.ensures ∙ c.args.self.now.scopes.ok.0 in
    let last = last-get-at c.args.self.now.scopes.items c.len-last.result c.index_mut.result.now c.requires count c.index_mut.ensures.value in
    if_ok c.declare.result (λ (r : Option Place) q. q ∙ ap (place_held c.args.name) last) c.declare.ensures.answer

pub returns-clause-value : goal.returns-clause-value
returns-clause-value c =
    let count : c.len-last.result ≡ length c.args.self.now.scopes.items = c.len-last.ensures ∙ c.args.self.now.scopes.ok.0 in
    on_ok c.declare.result (λ q. last-set-at (declare_held (record { name = c.args.name; place = c.args.place; what = c.args.what })) c.args.self.now.scopes.items c.len-last.result c.declare.new.self
    c.index_mut.result.now c.requires count c.index_mut.ensures.value q) c.declare.ensures.value

pub returns-clause-same : goal.returns-clause-same
returns-clause-same c =
    let count : c.len-last.result ≡ length c.args.self.now.scopes.items = c.len-last.ensures ∙ c.args.self.now.scopes.ok.0 in
    on_err c.declare.result (λ q. last-kept-at c.args.self.now.scopes.items c.len-last.result c.declare.new.self c.index_mut.result.now c.requires count c.index_mut.ensures.value q) c.declare.ensures.same
