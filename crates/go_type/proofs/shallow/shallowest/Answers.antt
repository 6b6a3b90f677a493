use Rattle.go_type.specs.Levels.{tree_of}
use Rattle.go_type.specs.Table.{places, names, size}
use Rattle.go_type.specs.Members.{sought}
use Rattle.go_type.proofs.WalkLemmas.{shallow_none, shallow_before, shallow_here, shallow_something, shallow_within}
use Rattle.go_type.proofs.shallow.shallowest.Goals as goal

pub returns-in-Some : goal.returns-in-Some
returns-in-Some c =
    let w = c.args.table.now in
    let n = size w in
    let ts = places w in
    let ns = names w in
    let f = sought c.args.name.now c.args.«package».now in
    let t = tree_of ts c.args.t in
    record {
      none = shallow_none n ts ns f t c.in-Some.found c.in-Some.ensures;
      before = shallow_before n ts ns f t c.in-Some.found c.in-Some.ensures;
      here = shallow_here n ts ns f t c.in-Some.found c.in-Some.ensures;
      something = shallow_something n ts ns f t c.in-Some.found c.in-Some.ensures;
      within = shallow_within n ts ns f t c.in-Some.found c.in-Some.ensures;
    }
