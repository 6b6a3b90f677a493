-- A constant of the package, in its specification.
use Rattle.std.proofs.Common.{◌≡◌, ◌∙◌, ℕ, List, [], sym, ap, Option, Some, None}
use Rattle.go_syntax.specs.Tree as t
use Rattle.go_type.specs.Named.{NamedTy}
use Rattle.go_typing.specs.Env.{Bind, Decl}
use Rattle.go_typing.specs.Scopes as scopes
use Rattle.go_typing.specs.Scopes.{Env, visible}
use Rattle.go_typing.specs.Walk.{Walk}
use Rattle.go_typing.specs.Declare.{SpecType, constant_decl, constant_value, spec_type, counting}
use Rattle.go_typing.specs.Known.{Known, outside, constant_found}
use Rattle.go_operands.specs.declared.scopes.env.Env as code
use Rattle.go_operands.specs.EnvView.{env_of}
use Rattle.go_walk.specs.WalkView.{walk_outside}
use Rattle.go_walk.proofs.ScopeLemmas.{counts}
use Rattle.go_items.specs.Stands.{Stands}
use Rattle.go_decls.proofs.OutcomeLemmas.{is_outside}

abbrev walk_in : List NamedTy → List (List Bind) → Walk
walk_in ns ss = record { names = ns; scopes = ss; next = 0; next_label = 0; vars = []; declared = []; used = []; lost = 0 }

abbrev walk_at : Env → Walk
walk_at e = walk_in e.named_types (visible e)

-- where the number of its specification is known
pub counted : (k : Known) (a b : code.Env) (n : ℕ) → Stands k (env_of a) → env_of b ≡ scopes.counting (Some n) (env_of a) → walk_outside b ≡ counting n (outside k)
counted k a b n h q =
    ap walk_at q ∙ ap (walk_in (env_of a).named_types) (counts (env_of a) n h.iota) ∙ ap (counting n) (is_outside k a h)

-- afterwards no number is known, as before
pub uncounted : (a b c d : Env) (n : ℕ) → a.iota ≡ None → b ≡ scopes.counting (Some n) a → c ≡ b → d ≡ scopes.counting None c → d ≡ a
uncounted a b c d n h p q r = r ∙ ap (scopes.counting None) (q ∙ p) ∙ ap (λ (o : Option ℕ). record a { iota = o }) (sym h)

pub constant_is : (w v : Walk) (u : t.MaybeExpr) (y : t.Expr) (s : SpecType) (d : Decl) → v ≡ w → s ≡ spec_type w u → d ≡ constant_decl (constant_value v s y).answer → d ≡ constant_found w u (Some y)
constant_is w v u y s d p q h = h ∙ ap (λ (x : Walk). constant_decl (constant_value x s y).answer) p ∙ ap (λ (x : SpecType). constant_decl (constant_value w x y).answer) q
