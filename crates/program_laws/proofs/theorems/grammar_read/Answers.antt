use Rattle.program_laws.proofs.Readings.{reads_soundly, reads_fully, read_once, refuses_soundly, refuses_fully, judged, stops_at_fault}
use Rattle.program_laws.proofs.Refusals.{refused_once, refuses_no_program, one_fault}
use Rattle.program_laws.proofs.theorems.grammar_read.Goals as goal

pub returns-clause-sound : goal.returns-clause-sound
returns-clause-sound c = reads_soundly

pub returns-clause-complete : goal.returns-clause-complete
returns-clause-complete c = reads_fully

pub returns-clause-once : goal.returns-clause-once
returns-clause-once c = read_once

pub returns-clause-refused : goal.returns-clause-refused
returns-clause-refused c = refuses_soundly

pub returns-clause-found : goal.returns-clause-found
returns-clause-found c = refuses_fully

pub returns-clause-refused_once : goal.returns-clause-refused_once
returns-clause-refused_once c = refused_once

pub returns-clause-none : goal.returns-clause-none
returns-clause-none c = refuses_no_program

pub returns-clause-judged : goal.returns-clause-judged
returns-clause-judged c = judged

pub returns-clause-first : goal.returns-clause-first
returns-clause-first c = stops_at_fault

pub returns-clause-first_once : goal.returns-clause-first_once
returns-clause-first_once c = one_fault
