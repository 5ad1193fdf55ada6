-- The laws by which a walk meets its contract.
use Rattle.carry_analysis.proofs.SightLaws.{after-append}

pub ruleset walk_laws = (after-append)
