use Rattle.std.proofs.Common.{arith}
use Rattle.split_cert.proofs.Branches.{other_length, three_items, five_items}
use Rattle.split_cert.proofs.form.branch_in.Goals as goal

pub returns-in_default : goal.returns-in_default
returns-in_default c = other_length c.args.members.now (λ is. omega arith) (λ is. omega arith)

pub returns-in-3 : goal.returns-in-3
returns-in-3 c =
    three_items c.args.members.now c.index-members-0.result c.index-members-1.result c.index-members-2.result (omega (arith, c.in-3.is))
    c.index-members-0.is c.index-members-1.is c.index-members-2.is

pub returns-in-5 : goal.returns-in-5
returns-in-5 c =
    five_items c.args.members.now c.index-members-0-in-5.result c.index-members-1-in-5.result c.index-members-2-in-5.result
    c.index-members-3.result c.index-members-4.result (omega (arith, c.in-5.is))
    c.index-members-0-in-5.is c.index-members-1-in-5.is c.index-members-2-in-5.is c.index-members-3.is c.index-members-4.is
