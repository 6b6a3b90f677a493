use Rattle.std.proofs.Common.{◌≡◌, ℕ, None, refl}
use Rattle.js_tree.specs.Script.{Expr}
use Rattle.js_pool.specs.Stands as stands
use Rattle.js_pool.specs.Stands.{Shows}
use Rattle.js_pool.specs.declared.node.Node.{Node}
use Rattle.js_pool.specs.declared.node.Node.TheVariants as node
use Rattle.js_pool.specs.declared.pool.Pool.{Pool}
use Rattle.js_int.specs.Small.{constant_of}
use Rattle.js_int.proofs.small.constant.Goals as goal

no_number : (p : Pool) (x : Node) (t : Expr) → ((n : ℕ) → x ≡ node.Number n → ⊥) → Shows p x t → None ≡ constant_of t
no_number p x t n (stands.number {n = m}) = absurd (n m refl)
no_number p x t n (stands.string _) = refl
no_number p x t n stands.boolean = refl
no_number p x t n stands.null = refl
no_number p x t n stands.name = refl
no_number p x t n (stands.unary _) = refl
no_number p x t n (stands.binary _ _) = refl
no_number p x t n (stands.both _ _) = refl
no_number p x t n (stands.either _ _) = refl
no_number p x t n (stands.choice _ _ _) = refl
no_number p x t n (stands.call _ _) = refl
no_number p x t n (stands.index _ _) = refl
no_number p x t n (stands.length_of _) = refl
no_number p x t n (stands.pop _) = refl
no_number p x t n (stands.char_code_at _ _) = refl
no_number p x t n (stands.substring _ _ _) = refl
no_number p x t n (stands.array _) = refl
no_number p x t n stands.dictionary = refl
no_number p x t n (stands.decimal_of _) = refl
no_number p x t n (stands.from_char_code _) = refl

pub returns-in_default : goal.returns-in_default
returns-in_default c t s = no_number _ _ t c.in_default.not-Number (c.node.ensures t s)
