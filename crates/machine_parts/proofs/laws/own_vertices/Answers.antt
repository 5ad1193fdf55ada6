use Rattle.machine_parts.proofs.SeenLaws.{own_edges_are_seen, own_is_seen, own_total_is_seen}
use Rattle.machine_parts.proofs.laws.own_vertices.Goals as goal

pub returns-clause-seen : goal.returns-clause-seen
returns-clause-seen c = own_is_seen

pub returns-clause-total : goal.returns-clause-total
returns-clause-total c = own_total_is_seen

pub returns-clause-edges : goal.returns-clause-edges
returns-clause-edges c = own_edges_are_seen
