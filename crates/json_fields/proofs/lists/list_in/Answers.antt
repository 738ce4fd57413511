use Rattle.std.proofs.Common.{rules}
use Rattle.json_fields.proofs.Words.{members_of-items_view}
use Rattle.json_fields.proofs.lists.list_in.Goals as goal

pub returns-in-Some : goal.returns-in-Some
returns-in-Some c = search (rules, members_of-items_view)
