-- What the code asks of expressions in its own way.
use Rattle.std.specs.Prelude.{◌≡◌, ◌&&◌, true, false}
use Rattle.gj_base.specs.declared.place.Place.{Place}
use Rattle.go_syntax.specs.Tree as t
use Rattle.go_syntax.specs.declared.tree.ChanDir.TheVariants as dir
use Rattle.go_syntax.specs.declared.tree.Prefix.{Prefix}
use Rattle.go_grammar.specs.Context.{is_channel, is_receive}
use Rattle.go_grammar.specs.Nodes.{unary}

-- the type `<-chan T` of the type `chan T`
abbrev pub received : Place → t.Expr → t.Expr
received at (t.ChanType at' d e) = t.ChanType at dir.Receive e
received at e = e

abbrev pub PlainUnary : Type 0
PlainUnary = (at : Place) (p : Prefix) (e : t.Expr) → (is_receive p && is_channel e) ≡ false → unary at p e ≡ t.UnaryExpr at p e

abbrev pub ReceiveUnary : Type 0
ReceiveUnary = (at : Place) (p : Prefix) (e : t.Expr) → (is_receive p && is_channel e) ≡ true → unary at p e ≡ received at e
