-- A core as the plain data that every kind of machine is told by.
use Rattle.std.specs.Prelude.{[]}
use Rattle.symple_face.specs.PartViews.{plain_of}
use Rattle.symple_face.specs.State.{State}
use Rattle.machine_core.specs.declared.machine.Core.{Core}
use Rattle.machine_steps.specs.Counts.{lists_read}
use Rattle.machine_steps.specs.Plain.{plain_sums}

abbrev pub core_state : Core → State
core_state c = record {
  part = plain_of c.ground.part;
  split = c.ground.part.split.value;
  at = record { spot = c.spot; round = c.round };
  ruling = c.ruling;
  held = c.held.letters;
  rows = c.rows.rows;
  partials = c.partials.rows;
  ring = c.ring.states;
  reading = lists_read (plain_of c.ground.part) c.reading.items;
  reads = lists_read (plain_of c.ground.part) c.reads.items;
  judged = plain_sums c.judged;
  report = c.report;
  more = [];
}
