-- What is read is in the grammar: one goal after the other.
use Rattle.std.proofs.Common.{List, Ok}
use Rattle.js_tree.specs.Lexical.{Placed}
use Rattle.js_grammar.specs.Goals as goal
use Rattle.js_grammar.specs.Goals.{Goal, Gives}
use Rattle.js_grammar.specs.Steps.{steps}
use Rattle.js_grammar.specs.Reads.{Reads}
use Rattle.js_grammar.proofs.Heads.{name_there, own_there, number_there, string_there}
use Rattle.js_grammar.proofs.Holding.{Means, Holds, read_means}
use Rattle.js_grammar.proofs.SoundExpr as e
use Rattle.js_grammar.proofs.SoundStmt as s

pub sound : (g : Goal) (ts : List Placed) → Holds (steps g ts) (Means g ts)
sound (goal.token d x) ts = e.sound_token d x ts
sound (goal.operator d) ts = e.sound_operator d ts
sound (goal.name d) ts = λ v us q. name_there d ts us v q
sound (goal.own_name d) ts = λ v us q. own_there d ts us v q
sound (goal.number d) ts = λ v us q. number_there d ts us v q
sound (goal.string d) ts = λ v us q. string_there d ts us v q
sound (goal.expression d) ts = e.sound_expression d ts
sound (goal.operation d least) ts = e.sound_operation d least ts
sound (goal.chain d least at level n x) ts = e.sound_chain d least at level n x ts
sound (goal.unary d) ts = e.sound_unary d ts
sound (goal.post d) ts = e.sound_post d ts
sound (goal.parts d at n x) ts = e.sound_parts d at n x ts
sound (goal.part d at x) ts = e.sound_part d at x ts
sound (goal.member d at x) ts = e.sound_member d at x ts
sound (goal.substring d at x) ts = e.sound_substring d at x ts
sound (goal.atom d) ts = e.sound_atom d ts
sound (goal.literal d) ts = e.sound_literal d ts
sound (goal.word_literal d) ts = e.sound_word d ts
sound (goal.dictionary d) ts = e.sound_dictionary d ts
sound (goal.converted d) ts = e.sound_converted d ts
sound (goal.enclosed d x) ts = e.sound_enclosed d x ts
sound (goal.listed d x) ts = e.sound_listed d x ts
sound (goal.more d x es) ts = e.sound_more d x es ts
sound (goal.declaration d) ts = s.sound_declaration d ts
sound (goal.statements d ss) ts = s.sound_statements d ss ts
sound (goal.statement d) ts = s.sound_statement d ts
sound (goal.simple d) ts = s.sound_simple d ts
sound (goal.block d) ts = s.sound_block d ts
sound (goal.named d) ts = s.sound_named d ts
sound (goal.effect d) ts = s.sound_effect d ts
sound (goal.effect_of d at n x) ts = s.sound_effect_of d at n x ts
sound (goal.store d at n x) ts = s.sound_store d at n x ts
sound (goal.remove d) ts = s.sound_remove d ts
sound (goal.returned d) ts = s.sound_returned d ts
sound (goal.jump d) ts = s.sound_jump d ts
sound (goal.target d) ts = s.sound_target d ts
sound (goal.tested d x) ts = s.sound_tested d x ts
sound (goal.branch d) ts = s.sound_branch d ts
sound (goal.otherwise d) ts = s.sound_otherwise d ts
sound (goal.turning d at l) ts = s.sound_turning d at l ts
sound (goal.forever d) ts = s.sound_forever d ts
sound (goal.clauses d cs) ts = s.sound_clauses d cs ts
sound (goal.clause d) ts = s.sound_clause d ts
sound (goal.attempt d) ts = s.sound_attempt d ts
sound goal.parameters ts = s.sound_parameters ts
sound (goal.more_parameters xs) ts = s.sound_more_parameters xs ts
sound (goal.items is) ts = s.sound_items is ts
sound goal.item ts = s.sound_item ts
sound goal.whole ts = s.sound_whole ts

-- what is read for a goal is what it means
pub read_is : (g : Goal) (ts : List Placed) (v : Gives g) (us : List Placed) → Reads g ts (Ok (v, us)) → Means g ts v us
read_is g ts v us r = read_means sound (λ w vs. Means g ts w vs) (λ w vs m. m) r
