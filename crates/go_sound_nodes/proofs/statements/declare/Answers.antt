use Rattle.std.proofs.Common.{◌∙◌, refl, sym, ap, map}
use Rattle.std.specs.Prelude.{◌≡◌, List, [], ◌∷◌, ◌++◌}
use Rattle.go_type.specs.Tree.{Ty}
use Rattle.go_core.specs.declared.node.Var.{Var}
use Rattle.go_core.specs.CoreView.{var_of}
use Rattle.go_core.specs.SoundNode.{Around, with_var, with_all}
use Rattle.go_sound_nodes.proofs.statements.declare.Goals as goal

-- one more variable comes after the others
all_push : (ts : List Ty) (vs : List Var) (v : Var) (a : Around) → with_var (var_of ts v) (with_all (map (var_of ts) vs) a) ≡ with_all (map (var_of ts) (vs ++ v ∷ [])) a
all_push ts [] v a = refl
all_push ts (x ∷ xs) v a = all_push ts xs v (with_var (var_of ts x) a)

pub returns-in_ok-push-in-Some : goal.returns-in_ok-push-in-Some
returns-in_ok-push-in-Some c = record {
  is = λ ts a.
      c.in-Some.ensures.is ts (with_all (map (var_of ts) c.args.vars.now.items) a)
      ∙ all_push ts c.args.vars.now.items c.in-Some.v a
      ∙ ap (λ (vs : List Var). with_all (map (var_of ts) vs) a) (sym c.in_ok-push-in-Some.ensures.items);
}
