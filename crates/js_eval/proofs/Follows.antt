-- How what a part of a script does goes on.
use Rattle.std.proofs.Common.{◌≡◌, refl, ap}
use Rattle.js_tree.specs.Value.{World, Locals, Outcome, gives, throws, over, and_then, in_frame}
use Rattle.js_tree.specs.Evaluate.{frame}
use Rattle.js_eval.specs.Limited.{Deeper}
use Rattle.js_eval.specs.declared.state.Stop.{Stop}
use Rattle.js_eval.specs.declared.state.Stop.TheVariants.{Throw, Over, TooDeep, NoMemory}
use Rattle.js_eval.specs.Seen.{Stops}

-- what stops a part stops what goes on after it
pub stops_then : {S A B : Type 0} (deeper : Deeper) (x : Stop) (s : S) (w : World) (o : Outcome S A) (next : A → S → Outcome S B)
    → Stops deeper x s w o → Stops deeper x s w (and_then o next)
stops_then deeper (Throw at v) s w o next h = ap (λ o. and_then o next) h
stops_then deeper (Over e) s w o next h = ap (λ o. and_then o next) h
stops_then deeper TooDeep s w o next h = λ e q. ap (λ o. and_then o next) (h e q)
stops_then deeper NoMemory s w o next h = tt

-- what stops an expression stops the statement around it
pub stops_frame : {A : Type 0} (deeper : Deeper) (x : Stop) (ls : Locals) (w : World) (o : Outcome World A)
    → Stops deeper x w w o → Stops deeper x (frame ls w) w (in_frame ls o)
stops_frame deeper (Throw at v) ls w o h = ap (in_frame ls) h
stops_frame deeper (Over e) ls w o h = ap (in_frame ls) h
stops_frame deeper TooDeep ls w o h = λ e q. ap (in_frame ls) (h e q)
stops_frame deeper NoMemory ls w o h = tt

-- one after the other, and then on
pub then_then : {S A B C : Type 0} (o : Outcome S A) (f : A → S → Outcome S B) (g : B → S → Outcome S C)
    → and_then (and_then o f) g ≡ and_then o (λ a s. and_then (f a s) g)
then_then (gives a s) f g = refl
then_then (throws at v s) f g = refl
then_then (over e w) f g = refl
