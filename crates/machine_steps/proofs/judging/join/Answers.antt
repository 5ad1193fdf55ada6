use Rattle.std.proofs.Common.{◌+◌, ◌∙◌, ℤ, List, ap, drop, length}
use Rattle.symple_face.specs.CoreJudge.{totals_joined}
use Rattle.dep_layout.proofs.WordLaws.{length-words_in}
use Rattle.machine_steps.proofs.judging.join.Goals as goal

pub words_joined-sums-requires-clause-told : goal.words_joined-sums-requires-clause-told
words_joined-sums-requires-clause-told c =
    ap length (c.as_slice-2.ensures.value ∙ c.read_words.ensures) ∙ length-words_in (length c.args.totals.now)
    (drop 24 c.args.tally.now)

pub returns-clause-joined : goal.returns-clause-joined
returns-clause-joined c =
    let n = length c.args.totals.now in
    let ts = c.args.totals.now in
    let old = c.args.sums.now in
    let told = c.counts_of-told.ensures in
    let totals = c.words_joined-sums.ensures.words
    ∙ ap (λ (h : List ℤ). totals_joined ts h c.as_slice-2.result.now) c.as_slice.ensures.value
    ∙ ap (λ (w : List ℤ). totals_joined ts old.totals.items w) (c.as_slice-2.ensures.value ∙ c.read_words.ensures) in
    λ j. record {
      active = old.counts.active + told.active n j;
      edges = old.counts.edges + told.edges n j;
      reads = old.counts.reads + told.reads n j;
      totals = totals j;
    }
