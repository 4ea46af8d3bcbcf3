-- Pins 1 and 2, whose role port B decides.
use Rattle.std.proofs.Common.{sym}
use Rattle.control.proofs.lookup.handshake_role.Goals as goal

pub returns-in-1 : goal.returns-in-1
returns-in-1 c = rw (c.in-1.is, sym c.if-b_is_input.ensures)

pub returns-in-1-2 : goal.returns-in-1-2
returns-in-1-2 c = rw (c.in-1.is, sym c.if-b_is_input.ensures)

pub returns-in-2 : goal.returns-in-2
returns-in-2 c = rw (c.in-2.is, sym c.if-b_is_input-2.ensures)

pub returns-in-2-2 : goal.returns-in-2-2
returns-in-2-2 c = rw (c.in-2.is, sym c.if-b_is_input-2.ensures)
