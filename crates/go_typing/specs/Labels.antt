-- Labels. Go specification (as of Go 1.17), "Labeled statements", "Label scopes", "Blank identifier": the labels of a function's body.
use Rattle.std.specs.Prelude.{ℕ, List, [], ◌∷◌, ◌++◌, Bool, false, ◌||◌, Option, Some, None, bytes_eq, if◌then◌else◌}
use Rattle.go_syntax.specs.Tree as t
use Rattle.go_syntax.specs.declared.tree.Name.{Name}
use Rattle.go_typing.specs.Env.{is_blank}
use Rattle.go_typing.specs.Answer.{Flaw}

-- what a label declares; "Blank identifier": `_` is declared nowhere
abbrev pub label_of : Name → Option (List ℕ)
label_of n = if is_blank n.text then None else Some n.text

abbrev pub declared_label : Name → List Name
declared_label n = if is_blank n.text then [] else n ∷ []

abbrev pub name_in : Option Name → List (List ℕ)
name_in None = []
name_in (Some n) = n.text ∷ []

abbrev mutual
  -- labels that are declared, and the labels that branches name, in the order of the text; those of function literals are others
  pub labels_in : t.Stmt → List Name
  labels_in (t.LabeledStmt at n s) = declared_label n ++ labels_in s
  labels_in (t.BlockStmt at b) = labels_in_block b
  labels_in (t.IfStmt at init x b other) = labels_in_block b ++ labels_in_maybe other
  labels_in (t.ForStmt at init x post b) = labels_in_block b
  labels_in (t.RangeStmt at xs is_new y b) = labels_in_block b
  labels_in (t.SwitchStmt at init x cs) = labels_in_clauses cs
  labels_in (t.TypeSwitchStmt at init n x cs) = labels_in_clauses cs
  labels_in (t.SelectStmt at cs) = labels_in_comms cs
  labels_in s = []

  pub labels_in_maybe : t.MaybeStmt → List Name
  labels_in_maybe t.NoStmt = []
  labels_in_maybe (t.AStmt s) = labels_in s

  pub labels_in_block : t.Block → List Name
  labels_in_block (t.BlockOf at ss end) = labels_in_all ss

  pub labels_in_all : t.Stmts → List Name
  labels_in_all t.NoStmts = []
  labels_in_all (t.MoreStmts s ss) = labels_in s ++ labels_in_all ss

  pub labels_in_clauses : t.Clauses → List Name
  labels_in_clauses t.NoClauses = []
  labels_in_clauses (t.MoreClauses at xs ss cs) = labels_in_all ss ++ labels_in_clauses cs

  pub labels_in_comms : t.Comms → List Name
  labels_in_comms t.NoComms = []
  labels_in_comms (t.MoreComms at s ss cs) = labels_in_all ss ++ labels_in_comms cs

abbrev mutual
  pub branches_in : t.Stmt → List (List ℕ)
  branches_in (t.BreakStmt at n) = name_in n
  branches_in (t.ContinueStmt at n) = name_in n
  branches_in (t.LabeledStmt at n s) = branches_in s
  branches_in (t.BlockStmt at b) = branches_in_block b
  branches_in (t.IfStmt at init x b other) = branches_in_block b ++ branches_in_maybe other
  branches_in (t.ForStmt at init x post b) = branches_in_block b
  branches_in (t.RangeStmt at xs is_new y b) = branches_in_block b
  branches_in (t.SwitchStmt at init x cs) = branches_in_clauses cs
  branches_in (t.TypeSwitchStmt at init n x cs) = branches_in_clauses cs
  branches_in (t.SelectStmt at cs) = branches_in_comms cs
  branches_in s = []

  pub branches_in_maybe : t.MaybeStmt → List (List ℕ)
  branches_in_maybe t.NoStmt = []
  branches_in_maybe (t.AStmt s) = branches_in s

  pub branches_in_block : t.Block → List (List ℕ)
  branches_in_block (t.BlockOf at ss end) = branches_in_all ss

  pub branches_in_all : t.Stmts → List (List ℕ)
  branches_in_all t.NoStmts = []
  branches_in_all (t.MoreStmts s ss) = branches_in s ++ branches_in_all ss

  pub branches_in_clauses : t.Clauses → List (List ℕ)
  branches_in_clauses t.NoClauses = []
  branches_in_clauses (t.MoreClauses at xs ss cs) = branches_in_all ss ++ branches_in_clauses cs

  pub branches_in_comms : t.Comms → List (List ℕ)
  branches_in_comms t.NoComms = []
  branches_in_comms (t.MoreComms at s ss cs) = branches_in_all ss ++ branches_in_comms cs

abbrev pub is_among : List ℕ → List (List ℕ) → Bool
is_among x [] = false
is_among x (y ∷ ys) = bytes_eq x y || is_among x ys

abbrev pub label_flaw : Name → ℕ → List Flaw
label_flaw n code = record { place = n.place; code = code; name = n.text } ∷ []

-- a label that stands before (82), or that no branch names (90)
abbrev pub label_flaws : List (List ℕ) → List Name → List (List ℕ) → List Flaw
label_flaws seen [] used = []
label_flaws seen (n ∷ ns) used =
    (if is_among n.text seen then label_flaw n 82 else if is_among n.text used then [] else label_flaw n 90) ++ label_flaws (n.text ∷ seen) ns used

abbrev pub labels_told : t.Block → List Flaw
labels_told b = label_flaws [] (labels_in_block b) (branches_in_block b)
