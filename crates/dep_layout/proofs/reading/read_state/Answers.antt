use Rattle.dep_layout.proofs.LoopLaws.{started_read}
use Rattle.dep_layout.proofs.reading.read_state.Goals as goal

pub returns-in-Running : goal.returns-in-Running
returns-in-Running g c =
    let both = started_read g.row.W c.args.mark c.read_words.result.at c.args.words.now c.split_at.result.1.now
    c.in-Running.is c.read_words.ensures c.split_at.ensures.back in
    record { state = both.0; rest = both.1 }
