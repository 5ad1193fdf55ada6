-- Equal marks and words are equal states.
use Rattle.machine_parts.proofs.FlatLaws.{fresh_is, fresh_laid, fresh_still}
use Rattle.machine_parts.proofs.ring_half.RingHalf.fresh.Goals as goal

pub invariant_of-result : goal.invariant_of-result
invariant_of-result c =
    let width = c.args.width in
    let count = c.args.count in (
      fresh_laid width count c.in_ok-marks.marks.items c.in_ok-words.words c.in_ok-words.ensures c.in_ok-marks.ensures
          c.requires.width,
      fresh_still width count c.in_ok-marks.marks.items c.in_ok-words.words c.in_ok-words.ensures c.in_ok-marks.ensures,
    )

pub returns : goal.returns
returns c = fresh_is c.args.width c.args.count c.in_ok-marks.marks.items c.in_ok-words.words c.in_ok-words.ensures
    c.in_ok-marks.ensures
