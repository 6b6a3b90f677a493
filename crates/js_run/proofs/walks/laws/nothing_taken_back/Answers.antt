use Rattle.js_run.specs.GrowthLaws.{prints_stay, reached_begins, text_begins}
use Rattle.js_run.proofs.walks.laws.nothing_taken_back.Goals as goal

pub returns : goal.returns
returns c = record { stays = prints_stay; begins = reached_begins; text = text_begins }
