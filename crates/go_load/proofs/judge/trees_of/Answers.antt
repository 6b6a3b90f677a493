use Rattle.std.proofs.Common.{◌≡◌, ◌++◌, List, sym, ap, subst, ◌∙◌}
use Rattle.std.specs.Prelude.{map, reverse}
use Rattle.go_syntax.specs.View.{file_view}
use Rattle.go_syntax.specs.declared.tree.File.{File}
use Rattle.go_load.specs.Readings.{trees_of}
use Rattle.go_load.specs.ReadingView.{reading_view}
use Rattle.go_load.proofs.ReadingLemmas.{pop_tree, pop_none}
use Rattle.go_load.proofs.judge.trees_of.Goals as goal

pub loop-reading-preserved-in-Continue-1 : goal.loop-reading-preserved-in-Continue-1
loop-reading-preserved-in-Continue-1 c =
    ap (λ (fs : List File). trees_of (map reading_view c.pop.new.self.items) ++ map file_view (reverse fs)) c.in_ok-push.ensures.items
    ∙ pop_tree c.loop-reading.readings.items c.pop.new.self.items c.in-Some.reading c.in-Some-tree_of.file c.loop-reading.trees.items c.in-Some.ensures.items c.in-Some-tree_of.ensures ∙ c.loop-reading.invariant

pub loop-reading-preserved : goal.loop-reading-preserved
loop-reading-preserved c = pop_none c.loop-reading.readings.items c.pop.new.self.items c.in-Some.reading c.loop-reading.trees.items c.in-Some.ensures.items c.in_default-tree_of.ensures ∙ c.loop-reading.invariant
