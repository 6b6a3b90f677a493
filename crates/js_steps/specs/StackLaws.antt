-- The stack's meaning, frame by frame.
use Rattle.std.proofs.Common.{◌≡◌, refl, ap, sym, ◌∙◌, subst, ℕ, List, [], ◌∷◌, ◌++◌}
use Rattle.js_tree.specs.Script.{ScriptTree}
use Rattle.js_tree.specs.Value.{Locals, End, World, over}
use Rattle.js_tree.specs.Evaluate.{Setting}
use Rattle.js_code.specs.Names.{distinct}
use Rattle.js_code.specs.Slots.{slots_of}
use Rattle.js_simple.specs.Seen.{slots_in}
use Rattle.js_steps.specs.Bodies.{IsBody, names_in}
use Rattle.js_steps.specs.declared.frames.frame.Caller.{Caller}
use Rattle.js_steps.specs.declared.frames.frame.Use.{Use}
use Rattle.js_steps.specs.declared.frames.frame.Frame.{Frame}
use Rattle.js_steps.specs.declared.frames.frame.Frame.TheVariants as frame
use Rattle.js_steps.specs.Moment.{Out}
use Rattle.js_steps.specs.Stack.{IsNoCall, frame_does, first_of, after_frame, resume}
use Rattle.js_steps.specs.Stands.{CallerStands, CallersStand}

-- a frame that is no call's needs no variables of a caller
no_call : (st : Setting) (f : Frame) (ls : Locals) (o : Out) → IsNoCall f → frame_does st f ls o ≡ frame_does st f [] o
no_call st (frame.First i) ls o h = refl
no_call st (frame.Second i u) ls o h = refl
no_call st (frame.Third i u v) ls o h = refl
no_call st (frame.Callee i u) ls o h = refl
no_call st (frame.Argument at u f done i) ls o h = refl
no_call st (frame.Item done i) ls o h = refl
no_call st (frame.Rest i) ls o h = refl
no_call st (frame.Turn i) ls o h = refl
no_call st (frame.Through i) ls o h = refl
no_call st (frame.Switch label) ls o h = refl
no_call st (frame.Catch i) ls o h = refl
no_call st (frame.Caught v) ls o h = refl
no_call st (frame.Leave at u k) ls o h = absurd h

no_caller : (f : Frame) (callers : List Locals) → IsNoCall f → after_frame f callers ≡ callers
no_caller (frame.First i) callers h = refl
no_caller (frame.Second i u) callers h = refl
no_caller (frame.Third i u v) callers h = refl
no_caller (frame.Callee i u) callers h = refl
no_caller (frame.Argument at u f done i) callers h = refl
no_caller (frame.Item done i) callers h = refl
no_caller (frame.Rest i) callers h = refl
no_caller (frame.Turn i) callers h = refl
no_caller (frame.Through i) callers h = refl
no_caller (frame.Switch label) callers h = refl
no_caller (frame.Catch i) callers h = refl
no_caller (frame.Caught v) callers h = refl
no_caller (frame.Leave at u k) callers h = absurd h

none_stands : (script : ScriptTree) (f : Frame) (callers : List Locals) → IsNoCall f → CallerStands script f callers
none_stands script (frame.First i) callers h = tt
none_stands script (frame.Second i u) callers h = tt
none_stands script (frame.Third i u v) callers h = tt
none_stands script (frame.Callee i u) callers h = tt
none_stands script (frame.Argument at u f done i) callers h = tt
none_stands script (frame.Item done i) callers h = tt
none_stands script (frame.Rest i) callers h = tt
none_stands script (frame.Turn i) callers h = tt
none_stands script (frame.Through i) callers h = tt
none_stands script (frame.Switch label) callers h = tt
none_stands script (frame.Catch i) callers h = tt
none_stands script (frame.Caught v) callers h = tt
none_stands script (frame.Leave at u k) callers h = absurd h

-- the last frame is the innermost
pub resume_push : (st : Setting) (fs : List Frame) (f : Frame) (callers : List Locals) (o : Out) → IsNoCall f
    → resume st (fs ++ f ∷ []) callers o ≡ resume st fs callers (frame_does st f [] o)
resume_push st [] f callers o h = no_call st f (first_of callers) o h
resume_push st (g ∷ fs) f callers o h = ap (frame_does st g (first_of callers)) (resume_push st fs f (after_frame g callers) o h)

pub callers_push : (script : ScriptTree) (fs : List Frame) (f : Frame) (callers : List Locals) → IsNoCall f
    → CallersStand script fs callers → CallersStand script (fs ++ f ∷ []) callers
callers_push script [] f callers h c = (none_stands script f callers h, no_caller f callers h ∙ c)
callers_push script (g ∷ fs) f callers h c = (c.0, callers_push script fs f (after_frame g callers) h c.1)

pub callers_pop : (script : ScriptTree) (fs : List Frame) (f : Frame) (callers : List Locals) → IsNoCall f
    → CallersStand script (fs ++ f ∷ []) callers → CallersStand script fs callers
callers_pop script [] f callers h c = sym (no_caller f callers h) ∙ c.1
callers_pop script (g ∷ fs) f callers h c = (c.0, callers_pop script fs f (after_frame g callers) h c.1)

-- one caller more, the innermost
caller_more : (script : ScriptTree) (f : Frame) (callers : List Locals) (ls : Locals) → CallerStands script f callers → CallerStands script f (callers ++ ls ∷ [])
caller_more script (frame.First i) callers ls c = tt
caller_more script (frame.Second i u) callers ls c = tt
caller_more script (frame.Third i u v) callers ls c = tt
caller_more script (frame.Callee i u) callers ls c = tt
caller_more script (frame.Argument at u f done i) callers ls c = tt
caller_more script (frame.Item done i) callers ls c = tt
caller_more script (frame.Rest i) callers ls c = tt
caller_more script (frame.Turn i) callers ls c = tt
caller_more script (frame.Through i) callers ls c = tt
caller_more script (frame.Switch label) callers ls c = tt
caller_more script (frame.Catch i) callers ls c = tt
caller_more script (frame.Caught v) callers ls c = tt
caller_more script (frame.Leave at u k) [] ls c = absurd c
caller_more script (frame.Leave at u k) (l ∷ callers) ls c = c

after_more : (script : ScriptTree) (f : Frame) (callers : List Locals) (ls : Locals) → CallerStands script f callers
    → after_frame f (callers ++ ls ∷ []) ≡ after_frame f callers ++ ls ∷ []
after_more script (frame.First i) callers ls c = refl
after_more script (frame.Second i u) callers ls c = refl
after_more script (frame.Third i u v) callers ls c = refl
after_more script (frame.Callee i u) callers ls c = refl
after_more script (frame.Argument at u f done i) callers ls c = refl
after_more script (frame.Item done i) callers ls c = refl
after_more script (frame.Rest i) callers ls c = refl
after_more script (frame.Turn i) callers ls c = refl
after_more script (frame.Through i) callers ls c = refl
after_more script (frame.Switch label) callers ls c = refl
after_more script (frame.Catch i) callers ls c = refl
after_more script (frame.Caught v) callers ls c = refl
after_more script (frame.Leave at u k) [] ls c = absurd c
after_more script (frame.Leave at u k) (l ∷ callers) ls c = refl

-- what a frame does is the same with one caller more, the innermost
does_more : (script : ScriptTree) (st : Setting) (f : Frame) (callers : List Locals) (ls : Locals) (o : Out) → CallerStands script f callers
    → frame_does st f (first_of (callers ++ ls ∷ [])) o ≡ frame_does st f (first_of callers) o
does_more script st (frame.First i) callers ls o c = refl
does_more script st (frame.Second i u) callers ls o c = refl
does_more script st (frame.Third i u v) callers ls o c = refl
does_more script st (frame.Callee i u) callers ls o c = refl
does_more script st (frame.Argument at u f done i) callers ls o c = refl
does_more script st (frame.Item done i) callers ls o c = refl
does_more script st (frame.Rest i) callers ls o c = refl
does_more script st (frame.Turn i) callers ls o c = refl
does_more script st (frame.Through i) callers ls o c = refl
does_more script st (frame.Switch label) callers ls o c = refl
does_more script st (frame.Catch i) callers ls o c = refl
does_more script st (frame.Caught v) callers ls o c = refl
does_more script st (frame.Leave at u k) [] ls o c = absurd c
does_more script st (frame.Leave at u k) (l ∷ callers) ls o c = refl

-- a caller's variables are in its slots
abbrev pub IsHeld : ScriptTree → Caller → Locals → Type 0
IsHeld script k ls = IsBody script k.body.now × (slots_of (distinct (names_in k.body.now)) ls ≡ slots_in k.locals.items)

pub callers_enter : (script : ScriptTree) (fs : List Frame) (at : ℕ) (u : Use) (k : Caller) (callers : List Locals) (ls : Locals) → IsHeld script k ls
    → CallersStand script fs callers → CallersStand script (fs ++ frame.Leave at u k ∷ []) (callers ++ ls ∷ [])
callers_enter script [] at u k callers ls h c = subst (λ (cs : List Locals). CallersStand script (frame.Leave at u k ∷ []) (cs ++ ls ∷ [])) (sym c) (h, refl)
callers_enter script (g ∷ fs) at u k callers ls h c = (
  caller_more script g callers ls c.0,
  subst (λ (cs : List Locals). CallersStand script (fs ++ frame.Leave at u k ∷ []) cs) (sym (after_more script g callers ls c.0))
      (callers_enter script fs at u k (after_frame g callers) ls h c.1),
)

pub resume_enter : (script : ScriptTree) (st : Setting) (fs : List Frame) (at : ℕ) (u : Use) (k : Caller) (callers : List Locals) (ls : Locals) (o : Out) → CallersStand script fs callers
    → resume st (fs ++ frame.Leave at u k ∷ []) (callers ++ ls ∷ []) o ≡ resume st fs callers (frame_does st (frame.Leave at u k) ls o)
resume_enter script st [] at u k callers ls o c =
    ap (λ (cs : List Locals). resume st (frame.Leave at u k ∷ []) (cs ++ ls ∷ []) o) c
resume_enter script st (g ∷ fs) at u k callers ls o c =
    ap (λ (cs : List Locals). frame_does st g (first_of (callers ++ ls ∷ [])) (resume st (fs ++ frame.Leave at u k ∷ []) cs o)) (after_more script g callers ls c.0)
    ∙ does_more script st g callers ls _ c.0
    ∙ ap (frame_does st g (first_of callers)) (resume_enter script st fs at u k (after_frame g callers) ls o c.1)

-- the innermost caller, and those before it
pub record Innermost (script : ScriptTree) (fs : List Frame) (k : Caller) (callers : List Locals) : Type 0 where
  pub before : List Locals
  pub last : Locals
  pub is : callers ≡ before ++ last ∷ []
  pub held : IsHeld script k last
  pub stand : CallersStand script fs before

leave_one : (script : ScriptTree) (at : ℕ) (u : Use) (k : Caller) (callers : List Locals) → CallersStand script (frame.Leave at u k ∷ []) callers → Innermost script [] k callers
leave_one script at u k [] c = absurd c.0
leave_one script at u k (l ∷ callers) c = record { before = []; last = l; is = ap (λ (cs : List Locals). l ∷ cs) c.1; held = c.0; stand = refl }

cons_before : (script : ScriptTree) (g : Frame) (fs : List Frame) (k : Caller) (callers : List Locals) → CallerStands script g callers → Innermost script fs k (after_frame g callers)
    → Innermost script (g ∷ fs) k callers
cons_before script (frame.First i) fs k callers c m = record { before = m.before; last = m.last; is = m.is; held = m.held; stand = (tt, m.stand) }
cons_before script (frame.Second i u) fs k callers c m = record { before = m.before; last = m.last; is = m.is; held = m.held; stand = (tt, m.stand) }
cons_before script (frame.Third i u v) fs k callers c m = record { before = m.before; last = m.last; is = m.is; held = m.held; stand = (tt, m.stand) }
cons_before script (frame.Callee i u) fs k callers c m = record { before = m.before; last = m.last; is = m.is; held = m.held; stand = (tt, m.stand) }
cons_before script (frame.Argument at u f done i) fs k callers c m = record { before = m.before; last = m.last; is = m.is; held = m.held; stand = (tt, m.stand) }
cons_before script (frame.Item done i) fs k callers c m = record { before = m.before; last = m.last; is = m.is; held = m.held; stand = (tt, m.stand) }
cons_before script (frame.Rest i) fs k callers c m = record { before = m.before; last = m.last; is = m.is; held = m.held; stand = (tt, m.stand) }
cons_before script (frame.Turn i) fs k callers c m = record { before = m.before; last = m.last; is = m.is; held = m.held; stand = (tt, m.stand) }
cons_before script (frame.Through i) fs k callers c m = record { before = m.before; last = m.last; is = m.is; held = m.held; stand = (tt, m.stand) }
cons_before script (frame.Switch label) fs k callers c m = record { before = m.before; last = m.last; is = m.is; held = m.held; stand = (tt, m.stand) }
cons_before script (frame.Catch i) fs k callers c m = record { before = m.before; last = m.last; is = m.is; held = m.held; stand = (tt, m.stand) }
cons_before script (frame.Caught v) fs k callers c m = record { before = m.before; last = m.last; is = m.is; held = m.held; stand = (tt, m.stand) }
cons_before script (frame.Leave at u j) fs k [] c m = absurd c
cons_before script (frame.Leave at u j) fs k (l ∷ callers) c m =
    record { before = l ∷ m.before; last = m.last; is = ap (λ (cs : List Locals). l ∷ cs) m.is; held = m.held; stand = (c, m.stand) }

pub callers_leave : (script : ScriptTree) (fs : List Frame) (at : ℕ) (u : Use) (k : Caller) (callers : List Locals)
    → CallersStand script (fs ++ frame.Leave at u k ∷ []) callers → Innermost script fs k callers
callers_leave script [] at u k callers c = leave_one script at u k callers c
callers_leave script (g ∷ fs) at u k callers c = cons_before script g fs k callers c.0 (callers_leave script fs at u k (after_frame g callers) c.1)

-- where the run is over, nothing is left to be done
over_frame : (st : Setting) (f : Frame) (ls : Locals) (e : End) (w : World) → frame_does st f ls (over e w) ≡ over e w
over_frame st (frame.First i) ls e w = refl
over_frame st (frame.Second i u) ls e w = refl
over_frame st (frame.Third i u v) ls e w = refl
over_frame st (frame.Callee i u) ls e w = refl
over_frame st (frame.Argument at u f done i) ls e w = refl
over_frame st (frame.Item done i) ls e w = refl
over_frame st (frame.Rest i) ls e w = refl
over_frame st (frame.Turn i) ls e w = refl
over_frame st (frame.Through i) ls e w = refl
over_frame st (frame.Switch label) ls e w = refl
over_frame st (frame.Catch i) ls e w = refl
over_frame st (frame.Caught v) ls e w = refl
over_frame st (frame.Leave at u k) ls e w = refl

pub resume_over : (st : Setting) (fs : List Frame) (callers : List Locals) (e : End) (w : World) → resume st fs callers (over e w) ≡ over e w
resume_over st [] callers e w = refl
resume_over st (f ∷ fs) callers e w = ap (frame_does st f (first_of callers)) (resume_over st fs (after_frame f callers) e w) ∙ over_frame st f (first_of callers) e w
