use Rattle.round_laws.proofs.Members.{push_members, scan_members, scans_in_turn, steps_members}
use Rattle.round_laws.proofs.parts.member_edges.Goals as goal

pub returns-clause-scan : goal.returns-clause-scan
returns-clause-scan c = scan_members

pub returns-clause-push : goal.returns-clause-push
returns-clause-push c = push_members

pub returns-clause-steps : goal.returns-clause-steps
returns-clause-steps c = steps_members

pub returns-clause-turn : goal.returns-clause-turn
returns-clause-turn c = scans_in_turn
