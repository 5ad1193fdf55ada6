-- A run that is gone on with puts the rest of what the whole run puts.
use Rattle.std.proofs.Common.{◌≡◌, ℕ, zero, suc, ◌+◌, ◌-◌, Bool, true, false, nat_lt, List, [], ◌∷◌, ◌++◌, Option, None, Some, map, refl, sym, ap, subst, ◌∙◌, arith}
use Rattle.std.specs.Prelude.{flat_map, if◌then◌else◌}
use Rattle.std.proofs.lemmas.Grind.{flat_map-append}
use Rattle.std.proofs.lemmas.List.{append_assoc, map-append}
use Rattle.array_text.specs.Tables.{table_text}
use Rattle.command_steps.specs.Courses.{course_text}
use Rattle.command_steps.specs.Orders.{Play}
use Rattle.instrument.specs.declared.split.Split.{Split}
use Rattle.plain_run.specs.Told.{told_played}
use Rattle.schedule_laws.specs.OutputText.{schedule_lines}
use Rattle.schedule_laws.specs.Texts.{text_of_run, told_lines}
use Rattle.symple_face.specs.Source as face
use Rattle.symple_face.specs.Work.{PlainStart}
use Rattle.symple_run.specs.Continued.{EveryStopGoesOn, HasItsTable, IsOfRun, IsTheRest, LeavesStart, rounds_text, run_played}
use Rattle.symple_run.specs.KeptImages.{key_for}
use Rattle.symple_run.specs.Resumes.{Tells, later_of}
use Rattle.symple_run.specs.SourceImages.{begun_text, standing_of}
use Rattle.symple_run.specs.SourceRuns.{IsBegunLog, IsLogged, IsLoggedFrom}
use Rattle.symple_run.specs.SourceTexts.{HasParts, first_order, job_of, later_order, play_text, source_from, source_on}
use Rattle.symple_run.proofs.CoreRuns.{same_job}
use Rattle.symple_words.specs.declared.line.Lines.{Lines}
use Rattle.vert_base.specs.declared.value.Ruling.{Ruling}
use Rattle.vert_base.specs.declared.value.Ruling.TheVariants.{Stop, Dense, Sparse}
use Rattle.vert_eval.specs.SourceRun.{Job, Played, Run, Standing, by_ruling, next_standing, played_at, resumed_run, rounds_from, source_run, then_runs}
use Rattle.vert_tree.specs.declared.program.Program.{Program}

-- a run whose rounds are these and that ends so is the run from a round that it plays
record IsFrom (job : Job) (fuel round : ℕ) (run : Run) (at : Played) (behind : List Played) : Type 0 where
  pub more : ℕ
  pub left : more + at.round ≡ fuel + round
  pub rounds : (rounds_from more job at.round at.before).rounds ≡ at ∷ behind
  pub last : (rounds_from more job at.round at.before).last ≡ run.last

no_rounds : {X : Type 0} (before : List Played) (at : Played) (behind : List Played) → [] ≡ before ++ at ∷ behind → X
no_rounds [] at behind is = cc
no_rounds (b ∷ before) at behind is = cc

first_same : (x y : Played) (xs ys : List Played) → x ∷ xs ≡ y ∷ ys → x ≡ y
first_same x y xs ys is = cc

others_same : (x y : Played) (xs ys : List Played) → x ∷ xs ≡ y ∷ ys → xs ≡ ys
others_same x y xs ys is = cc

module _ (job : Job) (fuel round : ℕ) (s : Standing) (at : Played) (behind : List Played) where
  abbrev next : Run
  next = rounds_from fuel job (round + 1) (next_standing job round s)

  abbrev this : Played
  this = played_at job round s

  abbrev here : Run
  here = rounds_from (suc fuel) job round s

  -- what is known of the rounds behind this one
  abbrev Behind : Type 0
  Behind = (before : List Played) → next.rounds ≡ before ++ at ∷ behind →
      IsFrom job fuel (round + 1) next at behind

  is_first : here ≡ then_runs this next → this ≡ at → next.rounds ≡ behind → IsFrom job (suc fuel) round here at behind
  is_first goes same rest = subst (λ (p : Played). IsFrom job (suc fuel) round here p behind) same (record {
    more = suc fuel;
    left = refl;
    rounds = ap (λ (r : Run). r.rounds) goes ∙ ap (λ (ps : List Played). this ∷ ps) rest;
    last = refl;
  })

  is_later : here ≡ then_runs this next → IsFrom job fuel (round + 1) next at behind →
      IsFrom job (suc fuel) round here at behind
  is_later goes from = record {
    more = from.more;
    left = from.left ∙ (let e : fuel + (round + 1) ≡ suc fuel + round = omega arith in e);
    rounds = from.rounds;
    last = from.last ∙ sym (ap (λ (r : Run). r.last) goes);
  }

  played : Behind → here ≡ then_runs this next → (before : List Played) → here.rounds ≡ before ++ at ∷ behind →
      IsFrom job (suc fuel) round here at behind
  played known goes [] there =
      let rounds : this ∷ next.rounds ≡ at ∷ behind = sym (ap (λ (r : Run). r.rounds) goes) ∙ there in
      is_first goes (first_same this at next.rounds behind rounds) (others_same this at next.rounds behind rounds)
  played known goes (p ∷ before) there =
      let rounds : this ∷ next.rounds ≡ p ∷ (before ++ at ∷ behind) = sym (ap (λ (r : Run). r.rounds) goes) ∙ there in
      is_later goes (known before (others_same this p next.rounds (before ++ at ∷ behind) rounds))

  abbrev by : Ruling → Run
  by q = by_ruling q (record { rounds = []; last = s }) (then_runs this next)

  by_mode : Behind → (q : Ruling) → s.ruling ≡ q → (before : List Played) → here.rounds ≡ before ++ at ∷ behind →
      IsFrom job (suc fuel) round here at behind
  by_mode known Stop same before there =
      no_rounds before at behind (sym (ap (λ (q : Ruling). (by q).rounds) same) ∙ there)
  by_mode known Dense same before there = played known (ap by same) before there
  by_mode known Sparse same before there = played known (ap by same) before there

module _ (job : Job) where
  suffix : (fuel round : ℕ) (s : Standing) (before : List Played) (at : Played) (behind : List Played) →
      (rounds_from fuel job round s).rounds ≡ before ++ at ∷ behind →
      IsFrom job fuel round (rounds_from fuel job round s) at behind
  suffix zero round s before at behind is = no_rounds before at behind is
  suffix (suc fuel) round s before at behind is =
      by_mode job fuel round s at behind (λ front there.
      suffix fuel (round + 1) (next_standing job round s) front at behind there) s.ruling refl before is

  -- the whole run goes on from each of its rounds as the run does that begins there
  begins_at : (before : List Played) (at : Played) (behind : List Played) →
      (source_run job).rounds ≡ before ++ at ∷ behind →
      ((resumed_run job at.round at.before).rounds ≡ at ∷ behind)
      × ((resumed_run job at.round at.before).last ≡ (source_run job).last)
  begins_at before at behind is =
      let from = suffix (job.program.limit + 1 - 1) 1 _ before at behind is in
      let fuel : from.more ≡ job.program.limit + 1 - at.round = omega (arith, from.left) in (
        sym (ap (λ (n : ℕ). (rounds_from n job at.round at.before).rounds) fuel) ∙ from.rounds,
        sym (ap (λ (n : ℕ). (rounds_from n job at.round at.before).last) fuel) ∙ from.last,
      )

-- the text of a run in two parts
module _ (lines : Lines) (program : Program) (run rest : Run) (before behind : List Played) where
  text_parts : run.rounds ≡ before ++ behind → rest.rounds ≡ behind → rest.last ≡ run.last →
      rounds_text lines before ++ text_of_run lines program rest ≡ text_of_run lines program run
  text_parts are same last =
      let table = table_text program run.last.rows in
      ap (λ (ps : List Played). rounds_text lines before ++ (rounds_text lines ps ++ table_text program
      rest.last.rows))
      same
      ∙ ap (λ (s : Standing). rounds_text lines before ++ (rounds_text lines behind ++ table_text program s.rows))
      last
      ∙ sym (append_assoc (rounds_text lines before) (rounds_text lines behind) table)
      ∙ ap (λ (text : List ℕ). text ++ table)
      (sym (flat_map-append (told_lines lines) (map (told_played lines.reads) before)
      (map (told_played lines.reads) behind)))
      ∙ ap (λ tolds. flat_map (told_lines lines) tolds ++ table) (sym (map-append (told_played lines.reads) before
      behind))
      ∙ ap (λ (ps : List Played). rounds_text lines ps ++ table) (sym are)

module _ (play : Play) where
  abbrev job : Job
  job = job_of play.machines play.draws play.program play.graph

  whole_rest : (text : List ℕ) → text ≡ play_text play → IsTheRest play None text
  whole_rest text is = record {
    before = [];
    behind = (run_played play).rounds;
    rounds_are = refl;
    begin = refl;
    text_is = is;
  }

  later_rest : (start : PlainStart) → LeavesStart (run_played play) start → (text : List ℕ) →
      text ≡ begun_text play (Some start) → IsTheRest play (Some start) text
  later_rest start leaves text is =
      let before = leaves.first ∷ leaves.others in
      let from = begins_at job before leaves.at leaves.behind leaves.rounds_are in
      record {
        before = before;
        behind = leaves.at ∷ leaves.behind;
        rounds_are = leaves.rounds_are;
        begin = leaves.start_is;
        text_is =
            ap (λ (t : List ℕ). rounds_text play.lines before ++ t)
            (is ∙ ap (λ (s : PlainStart). text_of_run play.lines play.program
            (resumed_run job s.round (standing_of s))) leaves.start_is)
            ∙ text_parts play.lines play.program (source_run job)
            (resumed_run job leaves.at.round leaves.at.before) before (leaves.at ∷ leaves.behind) leaves.rounds_are
            from.0 from.1;
      }

  module _ (split : Split) (key : List ℕ) where
    told_left : (file : Option (List ℕ)) (start : PlainStart) → Tells split play.graph.vertices key file (Some start) →
        IsOfRun play split key file → LeavesStart (run_played play) start
    told_left None start told of_run = cc
    told_left (Some bytes) start told of_run =
        subst (LeavesStart (run_played play)) (sym told.1) (of_run told.0)

    module _ (even odd : Option (List ℕ)) where
      found_left : (first second : Option PlainStart) → Tells split play.graph.vertices key even first →
          Tells split play.graph.vertices key odd second → IsOfRun play split key even →
          IsOfRun play split key odd → (start : PlainStart) → later_of first second ≡ Some start →
          LeavesStart (run_played play) start
      found_left None second a b c d start is =
          told_left odd start (subst (Tells split play.graph.vertices key odd) is b) d
      found_left (Some first) None a b c d start is =
          told_left even start (subst (Tells split play.graph.vertices key even) is a) c
      found_left (Some first) (Some second) a b c d start is = either (nat_lt second.round first.round) is
        where
          either : (t : Bool) → (if t then Some first else Some second) ≡ Some start →
              LeavesStart (run_played play) start
          either true here = told_left even start (subst (Tells split play.graph.vertices key even) here a) c
          either false here = told_left odd start (subst (Tells split play.graph.vertices key odd) here b) d

  rest_by : (found : Option PlainStart) →
      ((start : PlainStart) → found ≡ Some start → LeavesStart (run_played play) start) → (text : List ℕ) →
      text ≡ begun_text play found → IsTheRest play found text
  rest_by None leaves text is = whole_rest text is
  rest_by (Some start) leaves text is = later_rest start (leaves start refl) text is

  -- ---- under `--log`
  pub job_on : (on : HasParts play) →
      face.job_of on.split on.of_graph.one.ends on.of_graph.one.draws on.of_graph.one.edges ≡ job
  job_on on = same_job on.split.program.program play.program _ play.graph.vertices on.of_graph.one.ends _
      on.of_graph.one.edges play.graph.list on.of_graph.one.draws play.draws on.program_is on.of_graph.sized
      on.of_graph.ends_are on.of_graph.edges_are on.of_graph.draws_are

  whole_table : (text : List ℕ) → IsLogged play text → HasItsTable play text
  whole_table text is =
      let front = schedule_lines play.lines (source_on play is.on) (first_order play is.on) is.events in
      record {
        front = front;
        text_is = is.is ∙ ap (λ (j : Job). front ++ table_text j.program (source_run j).last.rows) (job_on is.on);
      }

  later_table : (start : PlainStart) → LeavesStart (run_played play) start → (text : List ℕ) →
      IsLoggedFrom play start text → HasItsTable play text
  later_table start leaves text is =
      let front = schedule_lines play.lines (source_from play is.on start) (later_order play is.on start) is.events in
      let from = begins_at job (leaves.first ∷ leaves.others) leaves.at leaves.behind leaves.rounds_are in
      record {
        front = front;
        text_is = is.is
            ∙ ap (λ (j : Job). front
            ++ table_text j.program (resumed_run j start.round (standing_of start)).last.rows) (job_on is.on)
            ∙ ap (λ (s : PlainStart). front
            ++ table_text play.program (resumed_run job s.round (standing_of s)).last.rows) leaves.start_is
            ∙ ap (λ (s : Standing). front ++ table_text play.program s.rows) from.1;
      }

  table_by : (found : Option PlainStart) →
      ((start : PlainStart) → found ≡ Some start → LeavesStart (run_played play) start) → (text : List ℕ) →
      IsBegunLog play found text → HasItsTable play text
  table_by None leaves text is = whole_table text is
  table_by (Some start) leaves text is = later_table start (leaves start refl) text is

pub every_stop_goes_on : EveryStopGoesOn
every_stop_goes_on play origin even odd course is of_even of_odd =
    let found = later_of is.first is.second in
    let left = found_left play is.split (key_for play origin) even odd is.first is.second is.first_told is.second_told
    of_even of_odd in (
      λ quiet. rest_by play found left (course_text course) (is.text quiet),
      table_by play found left (course_text course) is.logged,
    )
