-- What a node that is read says of the tree that it stands for.
use Rattle.std.proofs.Common.{◌≡◌, Some, subst}
use Rattle.std.specs.List.{slice_get}
use Rattle.js_tree.specs.Script.{Expr}
use Rattle.js_pool.specs.Stands.{Stands, Shows, at_node}
use Rattle.js_pool.specs.declared.node.ExprId.{ExprId}
use Rattle.js_pool.specs.declared.node.Node.{Node}
use Rattle.js_pool.specs.declared.pool.Pool.{Pool}

pub shown : (p : Pool) (i : ExprId) (x : Node) (t : Expr) → slice_get p.nodes.items i.0 ≡ Some x → Stands p i t → Shows p x t
shown p i x t e (at_node {x = y} h s) = let d : y ≡ x = cc in subst (λ (z : Node). Shows p z t) d s
