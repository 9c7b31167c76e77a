-- What is left to open, from the session and the place of a turn, is what was to open at first.
use Rattle.std.proofs.Common.{◌≡◌, ◌-◌}
use Rattle.frontdesk.specs.Day.{opens_from}
use Rattle.frontdesk.proofs.desk.open_from.Given as goal

abbrev pub invariant-loop : goal.invariant-loop
invariant-loop g l = opens_from (l.entries - l.counter) l.session l.bytes l.place ≡ opens_from (l.entries - 1) l.initial.session l.bytes l.initial.place
