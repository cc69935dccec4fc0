use Rattle.iic.specs.Kick.{kick_of}
use Rattle.iic.specs.SettledLaws.{unsettled_ready}
use Rattle.iic.proofs.Iic.start_due.Goals as goal

pub returns-then-command_ready : goal.returns-then-command_ready
unfolding kick_of
returns-then-command_ready c = simp (c.begin_condition.ensures, c.if-command_ready.true, ← c.command_ready.ensures, unsettled_ready c.args.self c.requires)

pub returns : goal.returns
unfolding kick_of
returns c = simp (c.clock_frame.ensures, c.load_transmit.ensures, c.next_frame.ensures, c.if-command_ready.false, ← c.command_ready.ensures, unsettled_ready c.args.self c.requires)
