use Rattle.std.proofs.Common.{◌≡◌, refl, subst}
use Rattle.gj_base.specs.declared.kind.Kind.{Kind}
use Rattle.gj_base.specs.declared.kind.Op.{Op}
use Rattle.gj_base.specs.declared.kind.Op.TheVariants as op
use Rattle.js_tree.specs.Script.{Expr}
use Rattle.js_pool.specs.Stands.{Stands}
use Rattle.js_int.specs.Small.{small_binary_tree, compared_tree}
use Rattle.js_int.proofs.small.binary.Goals as goal

rest : (o : Op) (k : Kind) (s t : Expr) → (o ≡ op.Add → ⊥) → (o ≡ op.Sub → ⊥) → (o ≡ op.Mul → ⊥) → (o ≡ op.Div → ⊥) → (o ≡ op.Rem → ⊥) → (o ≡ op.And → ⊥) → (o ≡ op.Or → ⊥) → (o ≡ op.Xor → ⊥) → (o ≡ op.AndNot → ⊥) → (o ≡ op.Shl → ⊥) → (o ≡ op.Shr → ⊥) → compared_tree o s t ≡ small_binary_tree o k s t
rest op.Add k s t n _ _ _ _ _ _ _ _ _ _ = absurd (n refl)
rest op.Sub k s t _ n _ _ _ _ _ _ _ _ _ = absurd (n refl)
rest op.Mul k s t _ _ n _ _ _ _ _ _ _ _ = absurd (n refl)
rest op.Div k s t _ _ _ n _ _ _ _ _ _ _ = absurd (n refl)
rest op.Rem k s t _ _ _ _ n _ _ _ _ _ _ = absurd (n refl)
rest op.And k s t _ _ _ _ _ n _ _ _ _ _ = absurd (n refl)
rest op.Or k s t _ _ _ _ _ _ n _ _ _ _ = absurd (n refl)
rest op.Xor k s t _ _ _ _ _ _ _ n _ _ _ = absurd (n refl)
rest op.AndNot k s t _ _ _ _ _ _ _ _ n _ _ = absurd (n refl)
rest op.Shl k s t _ _ _ _ _ _ _ _ _ n _ = absurd (n refl)
rest op.Shr k s t _ _ _ _ _ _ _ _ _ _ n = absurd (n refl)
rest _ k s t _ _ _ _ _ _ _ _ _ _ _ = refl

pub returns-in_default : goal.returns-in_default
returns-in_default c = (
  c.compared.ensures.0,
  λ end g s t a b h. let d = c.in_default in
      subst (Stands end c.compared.result) (rest c.args.op c.args.kind s t d.not-Add d.not-Sub d.not-Mul d.not-Div d.not-Rem d.not-And d.not-Or d.not-Xor d.not-AndNot d.not-Shl d.not-Shr) (c.compared.ensures.1 end g s t a b),
)
