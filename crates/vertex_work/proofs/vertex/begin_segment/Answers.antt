-- Each name of the lets has its place.
use Rattle.vertex_work.proofs.StepLaws.{lets_named, split_is}
use Rattle.vertex_work.proofs.vertex.begin_segment.Goals as goal

pub begin-requires-clause-names : goal.begin-requires-clause-names
begin-requires-clause-names c =
    let b = c.args.body.now in
    lets_named b.code.now b.split.now b.dense.now b.parts.now b.is c.args.env.now c.requires.counts

pub begin-requires-in-Running : goal.begin-requires-in-Running
begin-requires-in-Running c =
    let b = c.args.body.now in record {
      split = split_is b.code.now b.split.now b.dense.now b.parts.now b.is;
      names = lets_named b.code.now b.split.now b.dense.now b.parts.now b.is c.args.env.now c.requires.counts;
      draws = c.requires.draws;
    }
