use Rattle.std.proofs.Common.{◌+◌, ◌-◌, ◌*◌, length, sym, ap, ◌∙◌}
use Rattle.std.specs.List.{list_all}
use Rattle.dep_layout.specs.Spelling.{are_typed}
use Rattle.dep_layout.specs.Judgement.{rows_in}
use Rattle.dep_layout.proofs.LoopLaws.{room_step, rows_step}
use Rattle.dep_layout.proofs.words.are_typed.Goals as goal

pub rows-preserved : goal.rows-preserved
rows-preserved c =
    let rest = c.rows.rest.now in
    let behind = c.split_at.result.1.now in
    record {
      room = room_step (8 * c.args.width) c.args.rows c.rows.counter (length rest) (length behind) c.rows-test.true
          c.rows.invariant.room c.split_at.ensures.back_len;
      whole = ap (λ bytes. list_all (are_typed c.args.bools)
          (rows_in c.args.width (c.args.rows - (c.rows.counter + 1)) bytes)) c.split_at.ensures.back
          ∙ rows_step c.args.bools c.args.width c.args.rows c.rows.counter rest _ c.rows-test.true
          (sym c.is_typed.ensures ∙ c.if-not-is_typed.false) c.rows.invariant.whole;
    }
