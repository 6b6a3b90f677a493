use Rattle.std.proofs.Common.{◌≡◌, ◌++◌, ◌∷◌, [], true, refl, sym, ◌∙◌, rules}
use Rattle.go_core.specs.CoreView.{package_var_view}
use Rattle.go_is_sound.proofs.VariableLemmas.{listed_same, listed_set}
use Rattle.go_is_sound.proofs.variables.push_set.Goals as goal

pub returns : goal.returns
returns c = record {
  is = λ ts us.
      let v = c.args.v.now in
      let e : c.push.new.self.items ≡ c.args.types.now.items ++ v.ty ∷ [] = search rules in
      let b : c.is_set_with.result ≡ true = search rules in
      listed_set ts (package_var_view ts c.args.x.now) (package_var_view ts v) c.args.types.now.items c.push.new.self.items v.ty us e refl (sym (c.is_set_with.ensures.is ts) ∙ b);
}

pub returns-then-not-is_set_with : goal.returns-then-not-is_set_with
returns-then-not-is_set_with c = record {
  is = λ ts us. listed_same ts (package_var_view ts c.args.x.now) (package_var_view ts c.args.v.now) c.args.types.now.items us (sym (c.is_set_with.ensures.is ts) ∙ c.if-not-is_set_with.true);
}
