use Rattle.state_laws.proofs.running.counts_fit.Goals as goal

pub returns : goal.returns
returns c = record { ins = c.ins_of-ins.ensures.fits; outs = c.outs_of-outs.ensures.fits }
