use Rattle.body_shape.proofs.RefreshLaws.{form_flagged, refresh_back, refresh_fits, refresh_grows, refresh_in_place, refresh_spelled, refresh_suits}
use Rattle.body_shape.proofs.laws.refresh_reads_back.Goals as goal

pub returns-clause-back : goal.returns-clause-back
returns-clause-back c = refresh_back

pub returns-clause-fits : goal.returns-clause-fits
returns-clause-fits c = refresh_fits

pub returns-clause-suits : goal.returns-clause-suits
returns-clause-suits c = refresh_suits

pub returns-clause-spelled : goal.returns-clause-spelled
returns-clause-spelled c = refresh_spelled

pub returns-clause-placed : goal.returns-clause-placed
returns-clause-placed c = refresh_in_place

pub returns-clause-flagged : goal.returns-clause-flagged
returns-clause-flagged c = form_flagged

pub returns-clause-grows : goal.returns-clause-grows
returns-clause-grows c = refresh_grows
