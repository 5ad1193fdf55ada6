-- The words of a vertex whose loop hasn't begun are zeros, those of another one stand in the bytes.
use Rattle.machine_parts.proofs.RingLaws.{fresh_stays, not_fresh}
use Rattle.machine_parts.proofs.ring_half.read_state.Goals as goal

pub put_read-requires : goal.put_read-requires
put_read-requires c = record {
  place = c.requires.place;
  started = λ fresh. not_fresh c.args.mark c.in-Running.is fresh;
}

pub returns-in-Fresh-clause-half : goal.returns-in-Fresh-clause-half
returns-in-Fresh-clause-half c =
    fresh_stays c.args.half.now c.args.place c.args.mark c.args.words.now c.in-Fresh.is c.requires.fresh
