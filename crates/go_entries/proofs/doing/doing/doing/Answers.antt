use Rattle.go_entries.proofs.doing.doing.doing.Goals as goal

pub returns-in_ok-doing-in-Apply : goal.returns-in_ok-doing-in-Apply
returns-in_ok-doing-in-Apply c = record { value = λ ts rest. rw (c.in-Expr.is, c.in-Apply.is) (c.in_ok-doing-in-Apply.ensures.value ts rest) }

pub returns-in-Apply-what : goal.returns-in-Apply-what
returns-in-Apply-what c = record { value = λ ts rest. rw (c.in-Place.is, c.in-Apply-what.is) (c.place_doing.ensures.value ts rest) }

pub returns-in-Choose : goal.returns-in-Choose
returns-in-Choose c = record { value = λ ts rest. rw (c.in-Switch.is, c.in-Choose.is) (c.switch_doing.ensures.value ts rest) }
