-- The source's run from a round on, told by what stands before each round.
use Rattle.std.proofs.Common.{◌≡◌, ◌≢◌, ◌≤◌, ℕ, zero, suc, ◌+◌, ◌-◌, List, [], ◌++◌, refl, sym, ap, ◌∙◌, arith}
use Rattle.std.proofs.lemmas.List.{append_assoc}
use Rattle.std.specs.Prelude.{flat_map}
use Rattle.vert_base.specs.declared.value.Ruling.{Ruling}
use Rattle.vert_base.specs.declared.value.Ruling.TheVariants as ruling
use Rattle.vert_eval.specs.SourceRun.{Job, Played, Run, Standing, by_ruling, next_standing, played_at, resumed_run, rounds_from, then_runs}
use Rattle.array_text.specs.Tables.{table_text}
use Rattle.plain_run.specs.Told.{rounds_told, told_played}
use Rattle.symple_words.specs.declared.line.Lines.{Lines}
use Rattle.symple_face.specs.Source.{Source, stand}
use Rattle.schedule_laws.specs.Texts.{text_of_run, told_lines}
use Rattle.round_laws.proofs.IdealClose.{stand_next}

-- the run from a round on
abbrev pub run_at : Source → ℕ → Run
run_at src round = resumed_run src.job round (stand src round)

-- a run that ends here
abbrev pub ended : Standing → Run
ended s = record { rounds = []; last = s }

over_from : (fuel : ℕ) (job : Job) (round : ℕ) (s : Standing) → s.ruling ≡ ruling.Stop →
    rounds_from fuel job round s ≡ ended s
over_from zero job round s stops = refl
over_from (suc more) job round s stops =
    ap (λ r. by_ruling r (ended s)
    (then_runs (played_at job round s) (rounds_from more job (round + 1) (next_standing job round s)))) stops

-- where a round doesn't take place nothing more is played
pub run_over : (src : Source) (round : ℕ) → (stand src round).ruling ≡ ruling.Stop →
    run_at src round ≡ ended (stand src round)
run_over src round stops =
    over_from (src.job.program.limit + 1 - round) src.job round (stand src round) stops

by_mode : (r : Ruling) (a b : Run) → r ≢ ruling.Stop → by_ruling r a b ≡ b
by_mode ruling.Stop a b mode = absurd (mode refl)
by_mode ruling.Dense a b mode = refl
by_mode ruling.Sparse a b mode = refl

-- where it does, it is played, and then the run goes on
pub run_on : (src : Source) (round : ℕ) → src.base ≤ round → round ≤ src.job.program.limit →
    (stand src round).ruling ≢ ruling.Stop →
    run_at src round ≡ then_runs (played_at src.job round (stand src round)) (run_at src (round + 1))
run_on src round base within mode =
    let job : Job = src.job in
    let here : Standing = stand src round in
    let fuel : ℕ = job.program.limit + 1 - (round + 1) in
    let played : Played = played_at job round here in
    let more : job.program.limit + 1 - round ≡ suc fuel = omega arith in
    ap (λ (n : ℕ). rounds_from n job round here) more
    ∙ by_mode here.ruling (ended here)
    (then_runs played (rounds_from fuel job (round + 1) (next_standing job round here))) mode
    ∙ ap (λ (s : Standing). then_runs played (rounds_from fuel job (round + 1) s)) (sym (stand_next src round base))

-- the text of what is still to come
abbrev pub rest : Lines → Source → ℕ → List ℕ
rest lines src round = text_of_run lines src.job.program (run_at src round)

-- first the lines of the round
pub rest_on : (lines : Lines) (src : Source) (round : ℕ) → src.base ≤ round → round ≤ src.job.program.limit →
    (stand src round).ruling ≢ ruling.Stop →
    told_lines lines (told_played lines.reads (played_at src.job round (stand src round)))
    ++ rest lines src (round + 1) ≡ rest lines src round
rest_on lines src round base within mode =
    let next : Run = run_at src (round + 1) in
    let one : List ℕ = told_lines lines (told_played lines.reads (played_at src.job round (stand src round))) in
    sym
    (ap (text_of_run lines src.job.program) (run_on src round base within mode)
    ∙ append_assoc one (flat_map (told_lines lines) (rounds_told lines.reads next))
    (table_text src.job.program next.last.rows))

-- at the end the table
pub rest_over : (lines : Lines) (src : Source) (round : ℕ) → (stand src round).ruling ≡ ruling.Stop →
    rest lines src round ≡ table_text src.job.program (stand src round).rows
rest_over lines src round stops = ap (text_of_run lines src.job.program) (run_over src round stops)
