-- What a run leaves that stores images, event by event.
use Rattle.std.proofs.Common.{◌≡◌, ◌≢◌, ℕ, ◌+◌, ◌≤◌, Bool, true, false, List, [], ◌∷◌, Option, Some, None, Ok, Err, refl, sym, ap, subst, ◌∙◌, arith, map, slice_get}
use Rattle.std.specs.Prelude.{◌==◌, if◌then◌else◌, option_map}
use Rattle.std.proofs.lemmas.Bool.{and_parts, eqb-true, false≢true}
use Rattle.std.proofs.lemmas.Option.{slice_get_within}
use Rattle.circulant_plan.specs.declared.spot.Spot.{Spot}
use Rattle.circulant_plan.specs.declared.spot.Spot.TheVariants.{Tell, Judge, Begin, Scan, Close, Over}
use Rattle.circulant_plan.specs.Skeleton.{acting_ruling}
use Rattle.circulant_plan.specs.Standing.{Standing}
use Rattle.circulant_plan.specs.Table.{after_judge, next_spot}
use Rattle.cluster_run.proofs.SiteLists.{set_here}
use Rattle.command_steps.specs.declared.failure.Failure.{Failure}
use Rattle.command_steps.specs.Faults.{fault_of}
use Rattle.command_steps.specs.Leaves.{Gained, Leaves, NotPut, Ran}
use Rattle.command_steps.specs.Notes.{Fault, NoWrite}
use Rattle.command_steps.specs.Orders.{Course, Imaged, NoTask, Origin, Play, Runs, follows}
use Rattle.command_steps.specs.States.{Held, Kept, Left, Outside, outside}
use Rattle.command_steps.specs.Walks.{HandsOn}
use Rattle.command_steps.proofs.FileLaws.{store_goes, store_stops}
use Rattle.command_steps.proofs.LeavesLaws.{unplayed}
use Rattle.outside.specs.declared.sink.SinkFault.{SinkFault}
use Rattle.schedule_laws.specs.Layout.{row_in, table_of, vertices_in}
use Rattle.schedule_laws.specs.Starts.{ahead_with, start_told, start_with}
use Rattle.symple_face.specs.Cluster.{IsPlainRun, World, all_possible, finished, go_at, plain_of, step}
use Rattle.symple_face.specs.Lawful.{IsLawful}
use Rattle.symple_face.specs.Plans.{ring_of}
use Rattle.symple_face.specs.Restarts.{IsRestartLawful}
use Rattle.symple_face.specs.State.{State, machine, p_of}
use Rattle.symple_face.specs.Work.{PlainAhead, PlainStart, Work}
use Rattle.symple_run.specs.KeptImages.{CanBeKept, KeepsImage, LeavesImages, imaged_from, key_for, start_behind, with_image}
use Rattle.machine_runs.specs.PlainPlays.{IsFirstWorld, ends_round, is_late_judge, judges_late}
use Rattle.symple_run.specs.Played.{IsPlayed}
use Rattle.machine_runs.specs.PlayedEvents.{PutsLines, StopsInLines}
use Rattle.machine_runs.proofs.PlayLaws.{plain_behind}
use Rattle.symple_words.specs.declared.line.Lines.{Lines}
use Rattle.vert_base.specs.declared.message.Event.{Event}
use Rattle.vert_base.specs.declared.message.Event.TheVariants.{Go, Take}
use Rattle.vert_base.specs.declared.value.Row.{Row}
use Rattle.vert_base.specs.declared.value.Ruling.{Ruling}
use Rattle.vert_base.specs.declared.value.Ruling.TheVariants.{Stop, Dense, Sparse}

-- ---- the start that is told behind a judge
by_judge : (r n : ℕ) (q : Ruling) → after_judge r q ≡ Begin n → (n ≡ r + 1) × (q ≢ Stop)
by_judge r n Stop is = cc
by_judge r n Dense is = (cc, λ same. cc)
by_judge r n Sparse is = (cc, λ same. cc)

spot_judges : (q : Spot) → is_late_judge q ≡ true → (r : ℕ) × (q ≡ Judge r)
spot_judges Tell late = absurd (false≢true late)
spot_judges (Judge r) late = (r, refl)
spot_judges (Begin r) late = absurd (false≢true late)
spot_judges (Scan r step h) late = absurd (false≢true late)
spot_judges (Close r dense) late = absurd (false≢true late)
spot_judges Over late = absurd (false≢true late)

-- the first machine, which judges
record JudgesAt (o : Option State) : Type 0 where
  pub s : State
  pub at : o ≡ Some s
  pub round : ℕ
  pub spot : s.at.spot ≡ Judge round

first_judges : (o : Option State) → judges_late o ≡ true → JudgesAt o
first_judges None late = absurd (false≢true late)
first_judges (Some s) late =
    let judge = spot_judges s.at.spot late in
    record { s = s; at = refl; round = judge.0; spot = judge.1 }

kept_by : (rows : List Row) (o : Option PlainAhead) →
    ((a : PlainAhead) → o ≡ Some a → (1 ≤ a.round) × (a.ruling ≢ Stop)) → CanBeKept (option_map (start_with rows) o)
kept_by rows None is = tt
kept_by rows (Some a) is = is a refl

module _ (work : Work) (sound : State → Type 0) (lawful : IsLawful work sound) (restarts : IsRestartLawful work sound)
  where
    judged_spot : (s : State) (r : ℕ) → s.at.spot ≡ Judge r → (work.go s).at.spot ≡ after_judge r (work.judge s)
    judged_spot s r spot =
        ap (λ (q : Standing). q.spot) (lawful.go_at s)
        ∙ ap (λ (q : Spot). next_spot (ring_of s.split (p_of s)) (machine s) q
        (acting_ruling (work.judge s) s.ruling q)) spot

    judged_ahead : (s : State) (r : ℕ) → s.at.spot ≡ Judge r → (a : PlainAhead) → work.ahead (work.go s) ≡ Some a →
        (1 ≤ a.round) × (a.ruling ≢ Stop)
    judged_ahead s r spot a is =
        let next = by_judge r a.round (work.judge s)
        (sym (judged_spot s r spot) ∙ restarts.ahead_round (work.go s) a is) in
        let ruling : a.ruling ≡ work.judge s =
        restarts.ahead_ruling (work.go s) a is ∙ lawful.go_ruling s
        ∙ ap (acting_ruling (work.judge s) s.ruling) spot in
        (omega (arith, next.0), λ stops. next.1 (sym ruling ∙ stops))

    first_told : (w : World) → JudgesAt (slice_get w.sites 0) → CanBeKept (start_told work (step work w (Go 0)))
    first_told w j =
        let rows = map (row_in work (step work w (Go 0))) (vertices_in (step work w (Go 0))) in
        let site : slice_get (step work w (Go 0)).sites 0 ≡ Some (work.go j.s) =
        ap (λ (o : Option State). slice_get (go_at work w 0 o).sites 0) j.at
        ∙ set_here w.sites 0 (work.go j.s) (slice_get_within w.sites 0 j.s j.at) in
        subst (λ (o : Option State). CanBeKept (option_map (start_with rows) (ahead_with work o))) (sym site)
        (kept_by rows (work.ahead (work.go j.s)) (judged_ahead j.s j.round j.spot))

    -- what the machines tell behind an event that ends a round can be kept
    pub judged_can : (w : World) (e : Event) → ends_round w e ≡ true → CanBeKept (start_told work (step work w e))
    judged_can w (Take x) ends = absurd (false≢true ends)
    judged_can w (Go m) ends =
        let both = and_parts (m == 0) (judges_late (slice_get w.sites 0)) ends in
        let first : m ≡ 0 = eqb-true m 0 both.0 in
        subst (λ (k : ℕ). CanBeKept (start_told work (step work w (Go k)))) (sym first)
        (first_told w (first_judges (slice_get w.sites 0) both.1))

-- what is told once an event was played
pub behind_is : (work : Work) (w v : World) (e : Event) (b : Bool) → b ≡ ends_round w e → v ≡ step work w e →
    (if b then start_told work v else None) ≡ start_behind work w e
behind_is work w v e b ends is =
    ap (λ (u : World). if b then start_told work u else None) is
    ∙ ap (λ (c : Bool). if c then start_told work (step work w e) else None) ends

-- a start with the rows of the machines and what machine 0 tells is the one that is told
pub told_by : (work : Work) (w : World) (s : State) → slice_get w.sites 0 ≡ Some s → (a : PlainAhead) →
    work.ahead s ≡ Some a → (start : PlainStart) →
    start ≡ start_with (map (row_in work w) (vertices_in w)) a → start_told work w ≡ Some start
told_by work w s at a is start same =
    ap (λ (o : Option State). option_map (start_with (map (row_in work w) (vertices_in w))) (ahead_with work o)) at
    ∙ ap (λ (o : Option PlainAhead). option_map (start_with (map (row_in work w) (vertices_in w))) o) is
    ∙ ap Some (sym same)

pub none_told : (work : Work) (w : World) (s : State) → slice_get w.sites 0 ≡ Some s → work.ahead s ≡ None →
    start_told work w ≡ None
none_told work w s at none =
    ap (λ (o : Option State). option_map (start_with (map (row_in work w) (vertices_in w))) (ahead_with work o)) at
    ∙ ap (λ (o : Option PlainAhead). option_map (start_with (map (row_in work w) (vertices_in w))) o) none

-- ---- an image among the steps of a run
module _ (key image : List ℕ) (shelf mid : Kept) (rest : Course) (out : Held) (input : Left) (after : Outside)
    (outcome : Option Fault) where
  image_goes : (told : Option PlainStart) → KeepsImage key image told shelf mid (Ok tt) →
      Leaves NoTask (follows rest) (outside mid out input) after outcome →
      Leaves NoTask (follows (with_image key image told rest)) (outside shelf out input) after outcome
  image_goes None same leaves =
      subst (λ (k : Kept). Leaves NoTask (follows rest) (outside k out input) after outcome) same leaves
  image_goes (Some start) stored leaves =
      store_goes NoTask _ _ shelf mid stored (follows rest) out input after outcome leaves

module _ (key image : List ℕ) where
  image_stops : (told : Option PlainStart) (shelf mid : Kept) (failure : Failure) →
      KeepsImage key image told shelf mid (Err failure) → (rest : Course) (out : Held) (input : Left) →
      Leaves NoTask (follows (with_image key image told rest)) (outside shelf out input) (outside mid out input)
      (Some (fault_of failure))
  image_stops None shelf mid failure kept rest out input = absurd kept
  image_stops (Some start) shelf mid failure kept rest out input =
      store_stops NoTask _ _ shelf mid (fault_of failure) kept (follows rest) out input

module _ (work : Work) (lines : Lines) (key image : List ℕ) where
  module _ (w : World) (e : Event) (more : finished w ≡ false) (plain : plain_of w ≡ Some e) where
    -- the event was played and its image stored, and the run goes on behind it
    module _ (shelf mid shelf_after : Kept) (old new after : Held) (outcome : Option Fault) (v : World) where
      pub imaged_goes : v ≡ step work w e → PutsLines work lines w e old new →
          KeepsImage key image (start_behind work w e) shelf mid (Ok tt) →
          LeavesImages work lines key image v mid shelf_after new after outcome →
          LeavesImages work lines key image w shelf shelf_after old after outcome
      imaged_goes is puts kept goes =
          let on = subst (λ (u : World). LeavesImages work lines key image u mid shelf_after new after outcome) is
          goes in
          let rest = imaged_from work lines key image (step work w e) on.events in
          record {
            events = e ∷ on.events;
            plain = (more, plain, on.plain);
            leaves = λ input. puts (follows (with_image key image (start_behind work w e) rest)) shelf input
                (outside shelf_after after input) outcome
                (image_goes key image shelf mid rest new input (outside shelf_after after input) outcome
                (start_behind work w e) kept (on.leaves input));
          }

    module _ (runs : (es : List Event) × IsPlainRun work w es × (all_possible work w es ≡ true)) where
      -- it was played up to a fault
      pub imaged_stops : (shelf : Kept) (old new : Held) (fault : Fault) → StopsInLines work lines w e old new fault →
          LeavesImages work lines key image w shelf shelf old new (Some fault)
      imaged_stops shelf old new fault stops =
          let behind = plain_behind work w e more plain runs in
          record {
            events = e ∷ behind.0;
            plain = (more, plain, behind.1);
            leaves = λ input. stops (follows (with_image key image (start_behind work w e)
                (imaged_from work lines key image (step work w e) behind.0))) shelf input;
          }

      -- it was played, and its image could not be stored
      pub imaged_fails : (shelf mid : Kept) (old new : Held) (failure : Failure) → PutsLines work lines w e old new →
          KeepsImage key image (start_behind work w e) shelf mid (Err failure) →
          LeavesImages work lines key image w shelf mid old new (Some (fault_of failure))
      imaged_fails shelf mid old new failure puts kept =
          let behind = plain_behind work w e more plain runs in
          let rest = imaged_from work lines key image (step work w e) behind.0 in
          record {
            events = e ∷ behind.0;
            plain = (more, plain, behind.1);
            leaves = λ input. puts (follows (with_image key image (start_behind work w e) rest)) shelf input
                (outside mid new input) (Some (fault_of failure))
                (image_stops key image (start_behind work w e) shelf mid failure kept rest new input);
          }

  -- ---- the end, and the whole
  pub imaged_ends : (w : World) (shelf : Kept) (old new : Held) → finished w ≡ true →
      HandsOn (table_of work w) old new (Ok tt) → LeavesImages work lines key image w shelf shelf old new None
  imaged_ends w shelf old new ends put = record {
    events = [];
    plain = ends;
    leaves = λ input. Gained new.spare put.spared
        (record { same = ap (λ (h : Held). outside shelf h input) put.same; fine = refl });
  }

  pub imaged_table_stops : (w : World) (shelf : Kept) (old new : Held) (fault : SinkFault) → finished w ≡ true →
      HandsOn (table_of work w) old new (Err fault) →
      LeavesImages work lines key image w shelf shelf old new (Some NoWrite)
  imaged_table_stops w shelf old new fault ends put =
      record { events = []; plain = ends; leaves = λ input. NotPut put refl refl }

-- a run from the first world of the machines of a graph's parts
pub imaged_plays :
    (work : Work) (play : Play) (origin : Origin) (key image : List ℕ) (first : World) →
    IsFirstWorld work play.program play.graph play.machines play.draws first → key_for play origin ≡ key →
    (shelf shelf_after : Kept) (old new : Held) (outcome : Option Fault) →
    LeavesImages work play.lines key image first shelf shelf_after old new outcome → (input : Left) →
    Leaves (IsPlayed work) (Runs (Imaged play origin image) follows) (outside shelf old input)
    (outside shelf_after new input) outcome
imaged_plays work play origin key image first is_first same shelf shelf_after old new outcome goes input =
    let course = imaged_from work play.lines key image first goes.events in
    Ran course (record {
      first = first;
      is_first = is_first;
      events = goes.events;
      plain = goes.plain;
      course_is = ap (λ (k : List ℕ). imaged_from work play.lines k image first goes.events) (sym same);
    }) (unplayed (IsPlayed work) (follows course) _ _ outcome (goes.leaves input))
