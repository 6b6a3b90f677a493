-- What the code asks of expressions in its own way.
use Rattle.std.proofs.Common.{◌≡◌, ◌&&◌, Bool, true, false, List, [], ◌∷◌, refl, is_some, if◌then◌else◌}
use Rattle.gj_base.specs.declared.place.Place.{Place}
use Rattle.go_syntax.specs.Tree as t
use Rattle.go_syntax.specs.declared.tree.ChanDir.{ChanDir}
use Rattle.go_syntax.specs.declared.tree.ChanDir.TheVariants as dir
use Rattle.go_syntax.specs.declared.tree.Prefix.{Prefix}
use Rattle.go_grammar.specs.Context.{is_channel, is_receive}
use Rattle.go_grammar.specs.Nodes.{unary}
use Rattle.go_frames.specs.Lists.{PlainUnary, ReceiveUnary, received}

plain_both : (b : Bool) (x y : t.Expr) → (b && true) ≡ false → (if b then x else y) ≡ y
plain_both true x y q = absurd (cc)
plain_both false x y q = refl

receive_both : (b : Bool) (x y : t.Expr) → (b && true) ≡ true → (if b then x else y) ≡ x
receive_both true x y q = refl
receive_both false x y q = absurd (cc)

no_and : (b : Bool) → (b && false) ≡ true → ⊥
no_and true q = cc
no_and false q = cc

plain_dir : (at : Place) (p : Prefix) (at' : Place) (d : ChanDir) (e : t.Expr) → (is_receive p && is_channel (t.ChanType at' d e)) ≡ false → unary at p (t.ChanType at' d e) ≡ t.UnaryExpr at p (t.ChanType at' d e)
plain_dir at p at' dir.Both e q = plain_both (is_receive p) (t.ChanType at dir.Receive e) (t.UnaryExpr at p (t.ChanType at' dir.Both e)) q
plain_dir at p at' dir.Send e q = refl
plain_dir at p at' dir.Receive e q = refl

pub plain_unary : PlainUnary
plain_unary at p (t.ChanType at' d e) q = plain_dir at p at' d e q
plain_unary at p _ q = refl

receive_dir : (at : Place) (p : Prefix) (at' : Place) (d : ChanDir) (e : t.Expr) → (is_receive p && is_channel (t.ChanType at' d e)) ≡ true → unary at p (t.ChanType at' d e) ≡ t.ChanType at dir.Receive e
receive_dir at p at' dir.Both e q = receive_both (is_receive p) (t.ChanType at dir.Receive e) (t.UnaryExpr at p (t.ChanType at' dir.Both e)) q
receive_dir at p at' dir.Send e q = absurd (no_and (is_receive p) q)
receive_dir at p at' dir.Receive e q = absurd (no_and (is_receive p) q)

pub receive_unary : ReceiveUnary
receive_unary at p (t.ChanType at' d e) q = receive_dir at p at' d e q
receive_unary at p _ q = absurd (no_and (is_receive p) q)
