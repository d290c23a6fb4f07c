-- The record holds as many steps as it stands for (`decoded_steps`).
use Rattle.std.proofs.Common.{rules}
use Rattle.rule_file.specs.Code.Held.{decoded_in}
use Rattle.rule_file.specs.Code.HeldLaws.{decoded_steps}
use Rattle.faults.proofs.step_fault.Goals as goal

pub returns-in_err-refuse_if-2 : goal.returns-in_err-refuse_if-2
returns-in_err-refuse_if-2 c = rw (decoded_steps c.args.file.now c.args.held.now c.requires) (search rules)

pub returns-in_err-refuse_if-3 : goal.returns-in_err-refuse_if-3
returns-in_err-refuse_if-3 c = rw (decoded_steps c.args.file.now c.args.held.now c.requires) (search rules)

pub returns : goal.returns
unfolding decoded_in
returns c = rw (decoded_steps c.args.file.now c.args.held.now c.requires) (search rules)
