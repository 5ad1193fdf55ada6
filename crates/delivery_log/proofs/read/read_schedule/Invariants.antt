use Rattle.std.proofs.Common.{◌≡◌, ◌+◌, ◌≤◌, ◌++◌, length}
use Rattle.delivery_log.specs.ScheduleTexts.{IsSchedule, last_round, schedule_lines, schedule_text}
use Rattle.delivery_log.proofs.read.read_schedule.Given as goal

abbrev pub invariant-events : goal.invariant-events
invariant-events l = record {
  is : IsSchedule l.form l.machines l.events.items;
  spelled : l.text ≡ schedule_text l.form l.machines l.events.items ++ l.rest;
  held : l.held ≡ last_round 0 l.events.items;
  counted : l.number ≡ length (schedule_lines l.form l.machines l.events.items) + 1;
  fits : length l.text ≤ 67108864;
  few : l.number + length l.rest ≤ length l.text + 2;
}

abbrev pub decreases-events : goal.decreases-events
decreases-events l = length l.rest
