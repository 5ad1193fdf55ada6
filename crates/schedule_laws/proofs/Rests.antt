-- The text of a run that goes on from a start is the rest of that of the whole run.
use Rattle.std.proofs.Common.{◌≡◌, ◌≢◌, ◌<◌, ◌≤◌, ◌+◌, ◌-◌, ℕ, zero, suc, List, ◌++◌, sym, ap, ◌∙◌, arith}
use Rattle.std.proofs.lemmas.List.{append_assoc}
use Rattle.std.specs.Prelude.{flat_map}
use Rattle.std.specs.List.{range_with_len}
use Rattle.plain_run.specs.Told.{told_played}
use Rattle.symple_words.specs.declared.line.Lines.{Lines}
use Rattle.vert_base.specs.declared.value.Ruling.TheVariants as ruling
use Rattle.vert_eval.specs.SourceRun.{played_at}
use Rattle.symple_face.specs.Source.{Source, stand}
use Rattle.schedule_laws.specs.Laws.{whole_run}
use Rattle.schedule_laws.specs.Starts.{EveryRestIsPrinted}
use Rattle.schedule_laws.specs.Texts.{told_lines}
use Rattle.schedule_laws.proofs.RunLaws.{rest, rest_on}

module _ (lines : Lines) (src : Source) where
  abbrev line : ℕ → List ℕ
  line r = told_lines lines (told_played lines.reads (played_at src.job r (stand src r)))

  -- so many rounds from one on
  pub rests : (r count : ℕ) → src.base ≤ r →
      ((j : ℕ) → src.base ≤ j → j < r + count →
      (j ≤ src.job.program.limit) × ((stand src j).ruling ≢ ruling.Stop)) →
      flat_map line (range_with_len r count) ++ rest lines src (r + count) ≡ rest lines src r
  rests r zero late rounds = let here : r + 0 ≡ r = omega arith in ap (rest lines src) here
  rests r (suc count) late rounds =
      let next : r + suc count ≡ r + 1 + count = omega arith in
      let this = rounds r late (omega arith) in
      append_assoc (line r) (flat_map line (range_with_len (r + 1) count)) (rest lines src (r + suc count))
      ∙ ap (λ text. line r ++ text)
      (ap (λ n. flat_map line (range_with_len (r + 1) count) ++ rest lines src n) next
      ∙ rests (r + 1) count (omega (arith, late))
      (λ j from to. rounds j from (omega (arith, to))))
      ∙ rest_on lines src r late this.0 this.1

pub every_rest_is_printed : EveryRestIsPrinted
every_rest_is_printed lines split parts one round some rounds =
    let src : Source = whole_run split parts one in
    let there : 1 + (round - 1) ≡ round = omega (arith, some) in
    ap (λ n. flat_map (line lines src) (range_with_len 1 (round - 1)) ++ rest lines src n) (sym there)
    ∙ rests lines src 1 (round - 1) (omega arith) (λ j from to. rounds j from (omega (arith, to, some)))
