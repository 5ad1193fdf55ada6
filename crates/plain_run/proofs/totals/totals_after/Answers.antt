use Rattle.std.proofs.Common.{length, ap, ◌∙◌, arith}
use Rattle.std.specs.List.{list_all}
use Rattle.vert_tree.specs.Places.{expr_placed, row_counts}
use Rattle.vert_tree.proofs.TypedLaws.{few_totals, totals_placed}
use Rattle.plain_run.proofs.totals.totals_after.Goals as goal

pub total_words-requires-clause-room : goal.total_words-requires-clause-room
total_words-requires-clause-room c =
    omega (
      arith,
      few_totals c.args.job.now.program.now.program c.args.job.now.program.now.typed,
      ap length c.deref.ensures.value,
    )

pub total_words-requires-clause-names : goal.total_words-requires-clause-names
total_words-requires-clause-names c =
    let p = c.args.job.now.program.now.program in
    ap (list_all (λ t. expr_placed (row_counts p) t.value)) c.deref.ensures.value
    ∙ totals_placed p c.args.job.now.program.now.typed
