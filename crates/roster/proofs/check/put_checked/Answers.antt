-- `put_checked` meets its contract.
use Rattle.roster.specs.RosterText.{print_checked}
use Rattle.roster.proofs.Laws.{checked_shown}
use Rattle.roster.proofs.check.put_checked.Goals as goal

pub returns-in-Yes : goal.returns-in-Yes
unfolding print_checked
returns-in-Yes c = checked_shown _ _ c.in-Yes.is c.put_bytes.ensures

pub returns-in-Broken : goal.returns-in-Broken
unfolding print_checked
returns-in-Broken c = checked_shown _ _ c.in-Broken.is c.put_numbered.ensures

pub returns-in-Refused : goal.returns-in-Refused
unfolding print_checked
returns-in-Refused c = checked_shown _ _ c.in-Refused.is c.put_numbered-in-Refused.ensures
