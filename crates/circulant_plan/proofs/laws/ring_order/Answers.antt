use Rattle.circulant_plan.proofs.ReadingLaws.{turns_at_its_end, reads_in_turn, reads_by_parts}
use Rattle.circulant_plan.proofs.EarlyLaws.{reads_early_ones}
use Rattle.circulant_plan.proofs.CircleLaws.{each_ring_turns}
use Rattle.circulant_plan.proofs.laws.ring_order.Goals as goal

pub returns-clause-turn : goal.returns-clause-turn
returns-clause-turn c = turns_at_its_end

pub returns-clause-whole : goal.returns-clause-whole
returns-clause-whole c = reads_in_turn

pub returns-clause-parts : goal.returns-clause-parts
returns-clause-parts c = reads_by_parts

pub returns-clause-circle : goal.returns-clause-circle
returns-clause-circle c = each_ring_turns

pub returns-clause-early : goal.returns-clause-early
returns-clause-early c = reads_early_ones
