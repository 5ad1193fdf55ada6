-- What a scan of a half leaves is what the state of the machine says.
use Rattle.std.proofs.Common.{◌≡◌, ◌≢◌, ◌<◌, ◌≤◌, ◌-◌, ℕ, ℤ, zero, suc, Option, None, Some, List, [], ◌∷◌, ◌++◌, length, get_or, take, drop, map, replicate, refl, sym, ap, subst, ◌∙◌, arith}
use Rattle.std.specs.Prelude.{slice_index, slice_index_or}
use Rattle.std.specs.List.{range_with_len}
use Rattle.std.proofs.lemmas.List.{get_or-map, length-map}
use Rattle.std.proofs.lemmas.List.Elements.{All-from_get_or, recursion_from_All}
use Rattle.std.proofs.Math.Seq.{take-append_seam}
use Rattle.graph_table.proofs.FilterLaws.{all_range, map-map, map_same}
use Rattle.vert_base.specs.declared.graph.Edge.{Edge}
use Rattle.vert_base.specs.declared.message.Name.{Name}
use Rattle.vert_base.specs.declared.value.Row.{Row}
use Rattle.vert_base.specs.Ends.{start_of}
use Rattle.vert_base.specs.Neighbours.{bucket, target}
use Rattle.vert_tree.specs.declared.program.Dense.{Dense}
use Rattle.vert_tree.specs.declared.program.SlotDecl.{SlotDecl}
use Rattle.vert_eval.specs.declared.environment.Env.{Env}
use Rattle.chunk_split.specs.Chunks.{AreEnds, vertices_of}
use Rattle.circulant_plan.specs.Ring.{chunk_of}
use Rattle.dep_layout.specs.Judgement.{mark_len, pairs_in}
use Rattle.dep_layout.specs.Reading.{read_of, states_in}
use Rattle.dep_layout.specs.Spelling.{State as LoopState, spelled}
use Rattle.body_shape.specs.Update.{update_body}
use Rattle.instrument.specs.declared.split.Split.{Split}
use Rattle.symple_face.specs.declared.degree.Degree.{Degree}
use Rattle.symple_face.specs.CoreDense.{needed_dep, scan_chunk, scan_dep, scan_half, scan_update, scanned_at, scanned_in, states_told}
use Rattle.symple_face.specs.CoreScan.{Scanned, fresh, scanned}
use Rattle.symple_face.specs.CoreSight.{field_count, held_body, known_totals, mirrors, none, own_start, program_of, sight_at, targets_of, those_within}
use Rattle.circulant_plan.specs.Names.{refresh_name}
use Rattle.symple_face.specs.Parts.{IsPart, PlainPart, chunk_vertices}
use Rattle.symple_face.specs.Plans.{loop_carry}
use Rattle.symple_face.specs.Shapes.{half_in, size_of, words_in}
use Rattle.symple_face.specs.Sight.{Sight}
use Rattle.symple_face.specs.State.{State, machine}
use Rattle.machine_parts.specs.declared.spans.Span.{Span}
use Rattle.machine_parts.specs.Flat.{RowTable, state_at, zip_with}
use Rattle.machine_parts.specs.Seen.{ShowsOwn}
use Rattle.machine_parts.specs.Spans.{AreSpans, vertex_of}
use Rattle.machine_parts.proofs.SpanLaws.{no_span}
use Rattle.machine_parts.proofs.UpdateLaws.{StandOnce}
use Rattle.work_laws.specs.Sound.{members_in}
use Rattle.machine_steps.specs.Counts.{first_read}
use Rattle.machine_steps.specs.Halves.{AreMirrors, AreReceived, needed_body}
use Rattle.vertex_work.specs.Known.{AreDegreesOf}
use Rattle.vertex_work.specs.Shown.{Shows}
use Rattle.vertex_work.specs.Scanning.{AreFew, HavePlaces, ShowsMirrors, read_first, scanned_over, scans, states_left}
use Rattle.machine_steps.proofs.OnceLaws.{scans_are, states_left_are}
use Rattle.machine_steps.proofs.SightLaws.{ends_rise, mirrors_shown, mirrors_within, no_members, own_shown, within_once, within_range}

-- ---- the states received
take-none : {X : Type 0} (n : ℕ) → take {A = X} n [] ≡ []
take-none zero = refl
take-none (suc n) = refl

-- no byte spells no state
read_none : (width count : ℕ) → read_of width count [] ≡ []
read_none width count =
    ap (λ bytes. states_in width (take count (pairs_in bytes)) (drop (mark_len count) [])) (take-none (mark_len count))
    ∙ ap (λ pairs. states_in width pairs (drop (mark_len count) [])) (take-none count)

told_is : (s : State) (count i : ℕ) (xs : List Name) →
    slice_index_or (read_of (words_in (loop_carry s.split.dense)) count (needed_body s xs)) i (fresh s.split) ≡
    slice_index_or (states_told s count xs) i (fresh s.split)
told_is s count i [] =
    ap (λ ss. slice_index_or ss i (fresh s.split)) (read_none (words_in (loop_carry s.split.dense)) count)
told_is s count i (x ∷ xs) = refl

-- ---- a scan over vertices of a half
module _ (s : State) (r step h : ℕ) (d : Dense) (ids : List ℕ) (states : List LoopState)
    (block : (program_of s.split).dense ≡ Some d)
    (are : ids ≡ those_within (scan_half s step h) (targets_of s.part))
    (came : AreReceived s.split (size_of (scan_half s step h)) (needed_body s (needed_dep s r step h)) states)
    (once : StandOnce (scan_half s step h).0 (size_of (scan_half s step h)) ids) where
  abbrev range : ℕ × ℕ
  range = scan_half s step h

  abbrev f : ℕ → LoopState → Scanned
  f = scanned_over s.split d (sight_at s r (scan_chunk s step)) step s.part.scan

  here : (v : ℕ) → (scan_half s step h).0 ≤ v → v < (scan_half s step h).1 →
      f v (state_at states (v - (scan_half s step h).0)) ≡ scanned_at s r step h v
  here v low high =
      ap (f v) (came.each (v - range.0) (omega arith) ∙ told_is s (size_of range) (v - range.0) (needed_dep s r step h))
      ∙ sym (ap (λ o. scanned_in o s r step h v) block)

  stand_once : StandOnce (scan_half s step h).0 (length states) ids
  stand_once = subst (λ n. StandOnce range.0 n ids) (sym came.count) once

  -- what is scanned at the vertices
  pub scans_told : {X : Type 0} (of : Scanned → X) →
      map of (scans f (scan_half s step h).0 ids states) ≡ map (λ v. of (scanned_at s r step h v)) ids
  scans_told of =
      ap (map of) (scans_are f range.0 ids states stand_once)
      ∙ map-map of (λ v. f v (state_at states (v - range.0))) ids
      ∙ map_same (λ v. of (f v (state_at states (v - range.0)))) (λ v. of (scanned_at s r step h v)) ids
      (recursion_from_All (λ v. of (f v (state_at states (v - range.0))) ≡ of (scanned_at s r step h v)) ids
      (All-from_get_or (λ v. of (f v (state_at states (v - range.0))) ≡ of (scanned_at s r step h v)) ids 0
      (λ k lt. let within = within_range range (targets_of s.part) ids k are lt in
      ap of (here (get_or ids k 0) within.0 within.1))))

  -- and the states of the half
  pub states_told_left : (scan_half s step h).1 ≤ vertices_of s.part.ends →
      states_left f (scan_half s step h).0 ids states ≡
      map (λ v. (scanned_at s r step h v).state)
      (range_with_len (scan_half s step h).0 (size_of (scan_half s step h)))
  states_told_left most =
      states_left_are f range.0 ids states stand_once
      (λ w low high unlisted. ap (λ ms. (scanned s.split d (sight_at s r (scan_chunk s step)) step ms w
      (state_at states (w - range.0))).state) (no_members s.part range ids w are low (omega (arith, came.count)) most
      unlisted))
      ∙ ap (λ n. map (λ v. (f v (state_at states (v - range.0))).state) (range_with_len range.0 n)) came.count
      ∙ map_same (λ v. (f v (state_at states (v - range.0))).state) (λ v. (scanned_at s r step h v).state)
      (range_with_len range.0 (size_of range))
      (all_range (λ v. (f v (state_at states (v - range.0))).state ≡ (scanned_at s r step h v).state) range.0
      (size_of range) (λ v low high. ap (λ x. x.state) (here v low (omega arith))))

-- ---- what a scan was given
pub record Given (whole : PlainPart) (program : Split) (known : List ℤ) (own : List Row) (r step h : ℕ) (d : Dense)
    (chunk : ℕ) (range : ℕ × ℕ) (targets spans : List Span) (degrees beside : List Degree) (first : ℕ) (env : Env)
    : Type 0 where
  pub is : IsPart whole
  pub ends : AreEnds 64 whole.ends
  pub place : whole.at.machine < whole.at.machines
  pub block : (program_of program).dense ≡ Some d
  pub count : length own ≡ length (chunk_vertices whole.ends whole.at.machine)
  pub near : AreDegreesOf whole (chunk_vertices whole.ends whole.at.machine) beside
  pub groups : AreSpans target (vertices_of whole.ends) whole.scan targets
  pub chunk_is : chunk ≡ chunk_of whole.at.machine step whole.at.machines
  pub range_is : range ≡ half_in whole.ends chunk h
  pub within : chunk < whole.at.machines
  pub other : chunk ≢ whole.at.machine
  pub mirrors : AreMirrors whole chunk range spans degrees first
  pub low : start_of whole.ends chunk ≤ range.0
  pub high : range.1 ≤ slice_index whole.ends chunk
  pub most : range.1 ≤ vertices_of whole.ends
  pub n : env.n ≡ vertices_of whole.ends
  pub round : env.round ≡ r
  pub draws : env.draws ≡ whole.draws
  pub totals : env.totals.items ≡ known
  pub slots : env.slots.items ≡ none program

-- a state that shows it was given the same
module _ (whole : PlainPart) (program : Split) (known : List ℤ) (own : List Row) (r step h : ℕ) (d : Dense)
    (chunk : ℕ) (range : ℕ × ℕ) (targets spans : List Span) (degrees near : List Degree) (first : ℕ) (env : Env)
    (s : State) where
  pub given_to : Shows whole program known own s →
      Given whole program known own r step h d chunk range targets spans degrees near first env →
      Given s.part s.split (known_totals s) s.rows r step h d chunk range targets spans degrees near first env
  given_to shows given =
      subst (λ p. Given p s.split (known_totals s) s.rows r step h d chunk range targets spans degrees near first env)
      (sym shows.part)
      (subst (λ q. Given whole q (known_totals s) s.rows r step h d chunk range targets spans degrees near first env)
      (sym shows.split)
      (subst (λ k. Given whole program k s.rows r step h d chunk range targets spans degrees near first env)
      (sym shows.totals)
      (subst (λ o. Given whole program known o r step h d chunk range targets spans degrees near first env)
      (sym shows.rows) given)))

module _ (s : State) (r step h : ℕ) (d : Dense) (chunk : ℕ) (range : ℕ × ℕ) (targets spans : List Span)
    (degrees near : List Degree) (first : ℕ) (env : Env)
    (given : Given s.part s.split (known_totals s) s.rows r step h d chunk range targets spans degrees near first env)
    (program : Split) (bs : program ≡ s.split) (key : ℕ) (ks : key ≡ step) (edges : List Edge)
    (es : edges ≡ s.part.scan) (start : ℕ) (os : start ≡ own_start s) (table : RowTable) (ts : table.rows ≡ s.rows)
    (ws : table.width ≡ field_count s.split) (refresh : List ℕ)
    (rs : refresh ≡ held_body s (refresh_name r (scan_chunk s step) (machine s))) (states : List LoopState)
    (came : AreReceived s.split (size_of range) (needed_body s (needed_dep s r step h)) states) where
  abbrev ids : List ℕ
  ids = map vertex_of spans

  abbrev g : Sight
  g = sight_at s r (scan_chunk s step)

  half_is : range ≡ scan_half s step h
  half_is = given.range_is ∙ ap (λ k. half_in s.part.ends k h) given.chunk_is

  abbrev sees : ℕ → LoopState → Scanned
  sees = scanned_over s.split d g step s.part.scan

  own_sees : ShowsOwn g table.rows near start (none program) env
  own_sees =
      subst (λ rows. ShowsOwn g rows near start (none program) env) (sym ts)
      (subst (λ n. ShowsOwn g s.rows near n (none program) env) (sym os)
      (subst (λ q. ShowsOwn g s.rows near (own_start s) (none q) env) (sym bs)
      (own_shown s r (scan_chunk s step) near env given.ends (omega (arith, given.is.machine, given.place))
      (omega (arith, given.is.machine, given.within, given.chunk_is)) given.count given.near given.n given.round
      given.draws given.totals given.slots)))

  mirrors_see : ShowsMirrors g (map vertex_of spans) degrees table.width first refresh
  mirrors_see =
      subst (λ w. ShowsMirrors g ids degrees w first refresh) (sym ws)
      (subst (λ body. ShowsMirrors g ids degrees (field_count s.split) first body) (sym rs)
      (subst (λ k. ShowsMirrors (sight_at s r k) ids degrees (field_count s.split) first
      (held_body s (refresh_name r k (machine s)))) given.chunk_is
      (mirrors_shown s r chunk given.is given.within given.other range spans degrees first given.mirrors given.low
      given.high)))

  pub ids_are : map vertex_of spans ≡ those_within (scan_half s step h) (targets_of s.part)
  ids_are = given.mirrors.vertices ∙ ap (λ h. those_within h (targets_of s.part)) half_is

  once : StandOnce (scan_half s step h).0 (size_of (scan_half s step h)) (map vertex_of spans)
  once = within_once (scan_half s step h) (targets_of s.part) spans
      (ends_rise target (vertices_of s.part.ends) s.part.scan) ids_are

  came_here : AreReceived s.split (size_of (scan_half s step h)) (needed_body s (needed_dep s r step h)) states
  came_here = subst (λ p. AreReceived s.split (size_of p) (needed_body s (needed_dep s r step h)) states) half_is came

  -- what was scanned, by the state
  same : scans (scanned_over program d g key edges) range.0 (map vertex_of spans) states ≡
      scans sees (scan_half s step h).0 (map vertex_of spans) states
  same = λ i. scans (scanned_over (bs i) d g (ks i) (es i)) (half_is i).0 ids states

  pub update_is : (before update : List ℕ) → before ≡ [] → ((x : Sight) →
      ShowsOwn x table.rows near start (none program) env →
      ShowsMirrors x (map vertex_of spans) degrees table.width first refresh →
      update ≡ before ++ update_body (map (λ y. y.sent) (scans (scanned_over program d x key edges) range.0
      (map vertex_of spans) states))) →
      update ≡ scan_update s r step h
  update_is before update none_before told =
      told g own_sees mirrors_see
      ∙ ap (λ us. us ++ update_body (map (λ y. y.sent) (scans (scanned_over program d g key edges) range.0 ids states)))
      none_before
      ∙ ap (λ xs. update_body (map (λ y. y.sent) xs)) same
      ∙ ap update_body (scans_told s r step h d ids states given.block ids_are came_here once (λ y. y.sent))
      ∙ ap (λ vs. update_body (map (λ v. (scanned_at s r step h v).sent) vs))
      (given.mirrors.vertices
      ∙ sym (mirrors_within s r chunk given.is given.within given.other targets given.groups range given.low given.high)
      ∙ (λ i. those_within (half_is i) (mirrors s (given.chunk_is i))))

  pub dep_is : (new : List LoopState) → ((x : Sight) → ShowsOwn x table.rows near start (none program) env →
      ShowsMirrors x (map vertex_of spans) degrees table.width first refresh →
      new ≡ states_left (scanned_over program d x key edges) range.0 (map vertex_of spans) states) →
      spelled new ≡ scan_dep s r step h
  dep_is new left =
      ap spelled
      (left g own_sees mirrors_see
      ∙ (λ i. states_left (scanned_over (bs i) d g (ks i) (es i)) (half_is i).0 ids states)
      ∙ states_told_left s r step h d ids states given.block ids_are came_here once
      (subst (λ p. p.1 ≤ vertices_of s.part.ends) half_is given.most))

  pub reads_are : (counts : List ℕ) → ((x : Sight) → ShowsOwn x table.rows near start (none program) env →
      ShowsMirrors x (map vertex_of spans) degrees table.width first refresh →
      zip_with (read_first edges) (map vertex_of spans) counts ≡
      map (λ y. y.reads) (scans (scanned_over program d x key edges) range.0 (map vertex_of spans) states)) →
      zip_with (first_read s.part) (those_within (scan_half s step h) (targets_of s.part)) counts ≡
      map (λ v. (scanned_at s r step h v).reads) (those_within (scan_half s step h) (targets_of s.part))
  reads_are counts read =
      (λ i. zip_with (read_first (sym es i)) (sym ids_are i) counts)
      ∙ read g own_sees mirrors_see
      ∙ ap (map (λ y. y.reads)) same
      ∙ scans_told s r step h d ids states given.block ids_are came_here once (λ y. y.reads)
      ∙ ap (map (λ v. (scanned_at s r step h v).reads)) ids_are

  pub few_are : (counts : List ℕ) → AreFew edges spans counts → length counts ≡ length spans → (i : ℕ) →
      i < length counts →
      slice_index counts i ≤
      length (members_in s.part (slice_index (those_within (scan_half s step h) (targets_of s.part)) i))
  few_are counts few same_count i lt =
      let within : i < length spans = omega arith in
      let vertex = sym (get_or-map vertex_of spans i no_span 0 within) ∙ ap (λ us. slice_index us i) ids_are in
      subst (λ (v : ℕ). slice_index counts i ≤ length (members_in s.part v)) vertex
      (subst (λ (all : List Edge). slice_index counts i ≤
      length (bucket target (vertex_of (get_or spans i no_span)) all)) es (few i within))

-- ---- places
-- each vertex of a half has its place there
pub have_places : (range : ℕ × ℕ) (us : List ℕ) (spans : List Span) (count : ℕ) →
    map vertex_of spans ≡ those_within range us → count ≡ size_of range → HavePlaces range.0 count spans
have_places range us spans count are size k e lt =
    let within = within_range range us (map vertex_of spans) k are (omega (arith, length-map spans vertex_of)) in
    let is = get_or-map vertex_of spans k e 0 lt in
    (omega (arith, within.0, is), omega (arith, within.0, within.1, is, size))

-- a list that is written whole
pub written : (len : ℕ) (items new : List ℕ) → length new ≡ length items → len ≡ length items →
    take len (new ++ drop (length new) items) ≡ new
written len items new same size =
    ap (λ n. take n (new ++ drop (length new) items)) (size ∙ sym same)
    ∙ take-append_seam new (drop (length new) items)

-- no slot has a value
empty_slots : (slots : List SlotDecl) →
    replicate {A = Option ℤ} (length slots) None ≡ map (λ op. None) (map (λ s. s.op) slots)
empty_slots [] = refl
empty_slots (s ∷ ss) = ap (λ xs. None ∷ xs) (empty_slots ss)

pub none_is : (split : Split) → replicate (length (program_of split).slots.items) None ≡ none split
none_is split = empty_slots (program_of split).slots.items
