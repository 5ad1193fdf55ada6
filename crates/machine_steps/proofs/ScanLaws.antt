-- A vertex of a scan is entered as it is seen.
use Rattle.std.proofs.Common.{◌≡◌, ◌==◌, ◌<◌, ◌≤◌, ◌+◌, ◌-◌, ◌||◌, not, true, if◌then◌else◌, refl, ℕ, ℤ, List, [], ◌∷◌, length, get_or, drop, map, All, sym, ap, subst, ◌∙◌, Option, arith}
use Rattle.std.proofs.lemmas.List.{get_or-map, get_or_default, length-drop, length-map, length-take, set-get_or}
use Rattle.std.proofs.lemmas.List.Elements.{All-filter}
use Rattle.vert_base.specs.declared.graph.Edge.{Edge}
use Rattle.vert_base.specs.declared.value.Row.{Row}
use Rattle.vert_base.specs.Neighbours.{bucket, source, target}
use Rattle.vert_tree.specs.declared.program.Dense.{Dense}
use Rattle.vert_eval.specs.declared.environment.Env.{Env}
use Rattle.vert_eval.specs.Rounds.{row_at as row_of}
use Rattle.vert_eval.specs.Values.{value_of}
use Rattle.vert_eval.specs.Words.{is_set}
use Rattle.dep_layout.specs.Spelling.{State as LoopState}
use Rattle.body_shape.specs.Refresh.{plain_row, row_at}
use Rattle.body_shape.specs.Update.{Sent}
use Rattle.instrument.specs.declared.split.Split.{Split}
use Rattle.symple_face.specs.declared.degree.Degree.{Degree}
use Rattle.symple_face.specs.CoreScan.{is_broken, passed, scanned, scanned_by, segment_seen}
use Rattle.symple_face.specs.CoreSight.{none, told_row}
use Rattle.symple_face.specs.CoreTakes.{unsent}
use Rattle.symple_face.specs.Sight.{Sight, seen_env}
use Rattle.machine_parts.specs.declared.spans.Span.{Span}
use Rattle.machine_parts.specs.Entering.{IsReadyFor}
use Rattle.machine_parts.specs.Flat.{RowTable, StateTable, fresh_state, state_at}
use Rattle.machine_parts.specs.Neighbours.{AreOwn, member_in, no_degree}
use Rattle.machine_parts.specs.Seen.{ShowsOwn}
use Rattle.machine_parts.specs.Spans.{IsSpan, vertex_of}
use Rattle.vertex_work.specs.Scanning.{AreOwnVertices, ShowsMirrors, scanned_over}
use Rattle.vertex_work.specs.Stepping.{IsVisited, SameRound, ShowsVertex, seen_member}

-- a span has some edges
span_some : (edges : List Edge) (s : Span) → IsSpan target edges s → 0 < length (bucket target (vertex_of s) edges)
span_some edges s is =
    omega (
      arith,
      is.some,
      is.within,
      ap length (sym is.stand),
      length-take (s.end - s.start) (drop s.start edges),
      length-drop s.start edges,
    )

-- the members of a vertex are own ones
pub members_own : (edges members : List Edge) (v start count rows : ℕ) → AreOwn start count rows edges
    → members ≡ bucket target v edges → AreOwn start count rows members
members_own edges members v start count rows own are =
    let P : Edge → Type 0 = λ e. (start ≤ source e) × (source e - start < count) × (source e - start < rows) in
    subst (λ es. AreOwn start count rows es) (sym are)
    (All-filter (λ e. target e == v) P edges own)

module _ (g : Sight) (table : RowTable) (degrees : List Degree) (start : ℕ) (values : List (Option ℤ)) (env : Env)
    (shows : ShowsOwn g table.rows degrees start values env) where
  -- an own member is fed as it is seen
  member_seen : (e : Edge) → start ≤ source e → source e - start < length table.rows →
      member_in start degrees table.rows e ≡ seen_member g e
  member_seen e low high =
      let here : start + (source e - start) ≡ source e = omega arith in
      let ins = shows.ins (source e - start) high ∙ ap g.ins here in
      let outs = shows.outs (source e - start) high ∙ ap g.outs here in
      let row = shows.row (source e - start) high ∙ ap g.row here in
      λ i. (record { id = e.from; weight = e.weight; indeg = ins i; outdeg = outs i }, row i)

  pub members_seen : (edges : List Edge) (v : ℕ) → AreOwn start (length degrees) (length table.rows) edges →
      All (λ e. member_in start degrees table.rows e ≡ seen_member g e) (bucket target v edges)
  members_seen edges v own =
      All-filter (λ e. target e == v) (λ e. member_in start degrees table.rows e ≡ seen_member g e) edges
      (λ k d lt. let here = own k d lt in member_seen (get_or edges k d) here.0 here.2)

  -- the row and the degrees of an own vertex
  module _ (v : ℕ) (low : start ≤ v) (high : v - start < length table.rows) where
    number : start + (v - start) ≡ v
    number = omega arith

    pub own_row : row_of table.rows (v - start) ≡ g.row v
    own_row = shows.row (v - start) high ∙ ap g.row number

    pub own_ins : (e : Degree) → length degrees ≡ length table.rows → (get_or degrees (v - start) e).ins ≡ g.ins v
    own_ins e each =
        ap (λ x. x.ins) (get_or_default degrees (v - start) e no_degree (omega arith))
        ∙ shows.ins (v - start) high ∙ ap g.ins number

    pub own_outs : (e : Degree) → length degrees ≡ length table.rows → (get_or degrees (v - start) e).outs ≡ g.outs v
    own_outs e each =
        ap (λ x. x.outs) (get_or_default degrees (v - start) e no_degree (omega arith))
        ∙ shows.outs (v - start) high ∙ ap g.outs number

  -- an environment with the row of a vertex is ready for it
  pub ready : (v : ℕ) (degree : Degree) (row other : Row) → row ≡ g.row v → other ≡ g.row v → degree.ins ≡ g.ins v →
      degree.outs ≡ g.outs v →
      IsReadyFor g v degree values (record env { row = row; other_row = other })
  ready v degree row other is same ins outs = record {
    n = shows.n;
    round = shows.round;
    draws = shows.draws;
    totals = shows.totals;
    slots = shows.slots;
    row = is;
    other = same;
    ins = ins;
    outs = outs;
  }

-- the row and the degrees of a mirror
module _ (g : Sight) (spans : List Span) (degrees : List Degree) (width first : ℕ) (refresh : List ℕ) (at : ℕ)
    (d : Span) (e : Degree) (lt : at < length spans) (each : length degrees ≡ length spans)
    (shows : ShowsMirrors g (map vertex_of spans) degrees width first refresh) where
  within : at < length (map vertex_of spans)
  within = omega (arith, length-map spans vertex_of)

  vertex_is : get_or (map vertex_of spans) at 0 ≡ vertex_of (get_or spans at d)
  vertex_is = get_or-map vertex_of spans at d 0 lt

  degree_is : get_or degrees at e ≡ get_or degrees at no_degree
  degree_is = get_or_default degrees at e no_degree (omega arith)

  pub mirror_row : (fields : ℕ) (row : Row) → fields ≡ width → plain_row row ≡ row_at fields (first + at) refresh →
      row ≡ g.row (vertex_of (get_or spans at d))
  mirror_row fields row wide read =
      ap told_row read
      ∙ ap (λ w. told_row (row_at w (first + at) refresh)) wide
      ∙ shows.row at within
      ∙ ap g.row vertex_is

  pub mirror_ins : (get_or degrees at e).ins ≡ g.ins (vertex_of (get_or spans at d))
  mirror_ins = ap (λ x. x.ins) degree_is ∙ shows.ins at within ∙ ap g.ins vertex_is

  pub mirror_outs : (get_or degrees at e).outs ≡ g.outs (vertex_of (get_or spans at d))
  mirror_outs = ap (λ x. x.outs) degree_is ∙ shows.outs at within ∙ ap g.outs vertex_is

-- what is scanned over the members of a span is what is scanned at its vertex
module _ (split : Split) (d : Dense) (g : Sight) (key start : ℕ) (degrees : List Degree) (table : RowTable)
    (edges members : List Edge) (s : Span) (first env : Env) (st : LoopState) (place : ℕ) (old new : StateTable)
    (told : Sent) (count : ℕ) where
  pub visited_over : ShowsOwn g table.rows degrees start (none split) first →
      AreOwnVertices start degrees table edges → IsSpan target edges s →
      members ≡ bucket target (vertex_of s) edges → env ≡ seen_env g (vertex_of s) key (none split) →
      (ShowsVertex split g start degrees table.rows members env → IsVisited (scanned split d g env.key members
      env.id.0 st) members place old new told count) →
      IsVisited (scanned_over split d g key edges (vertex_of s) st) (bucket target (vertex_of s) edges) place
      old new told count
  visited_over shows own span are is visited =
      let all : List Edge = bucket target (vertex_of s) edges in
      let seen = members_seen g table degrees start (none split) first shows edges (vertex_of s) own.own in
      let here = visited (record {
        some = subst (λ ms. 0 < length ms) (sym are) (span_some edges s span);
        here = is ∙ sym (λ i. seen_env g (is i).id.0 (is i).key (none split));
        there = subst (All (λ e. member_in start degrees table.rows e ≡ seen_member g e)) (sym are) seen;
      }) in
      subst (λ (e : Env). IsVisited (scanned split d g e.key all e.id.0 st) all place old new told count) is
      (subst (λ ms. IsVisited (scanned split d g env.key ms env.id.0 st) ms place old new told count) are here)

-- where the loop broke before, nothing is read, nothing is sent, and the state is passed on
broken_passes : (split : Split) (d : Dense) (g : Sight) (key : ℕ) (members : List Edge) (v : ℕ) (st : LoopState)
    → is_broken st.mark ≡ true → scanned split d g key members v st ≡ passed split st
broken_passes split d g key [] v st broken = refl
broken_passes split d g key (e ∷ es) v st broken =
    let env : Env = seen_env g v key (none split) in
    ap (λ b. if b || not (is_set (value_of d.when_test env)) then passed split st
    else scanned_by split d (segment_seen d g (e ∷ es) st env)) broken

module _ (split : Split) (d : Dense) (g : Sight) (key : ℕ) (edges : List Edge) (v place : ℕ) (half : StateTable)
    (told : Sent) where
  pub passed_over : is_broken (state_at half.states place).mark ≡ true → told ≡ unsent split →
      IsVisited (scanned_over split d g key edges v (state_at half.states place)) (bucket target v edges) place
      half half told 0
  passed_over broken none_sent =
      let st : LoopState = state_at half.states place in
      subst (λ s. IsVisited s (bucket target v edges) place half half told 0)
      (sym (broken_passes split d g key (bucket target v edges) v st broken)) (record {
        state = ap (λ ss. let t : StateTable = record half { states = ss } in t)
            (sym (set-get_or half.states place (fresh_state 0)));
        sent = none_sent;
        reads = refl;
      })

-- ---- the environments of a round
pub round_trans : (a b c : Env) → SameRound a b → SameRound b c → SameRound a c
round_trans a b c p q = record {
  n = q.n ∙ p.n;
  round = q.round ∙ p.round;
  draws = q.draws ∙ p.draws;
  totals = q.totals ∙ p.totals;
  slots = q.slots ∙ p.slots;
}

module _ (g : Sight) (rows : List Row) (degrees : List Degree) (start : ℕ) (values : List (Option ℤ))
    (first now : Env) where
  pub shows_later : SameRound first now → ShowsOwn g rows degrees start values first →
      ShowsOwn g rows degrees start values now
  shows_later same shows = record {
    n = same.n ∙ shows.n;
    round = same.round ∙ shows.round;
    draws = same.draws ∙ shows.draws;
    totals = ap (λ t. t.items) same.totals ∙ shows.totals;
    slots = ap (λ t. t.items) same.slots ∙ shows.slots;
    row = shows.row;
    ins = shows.ins;
    outs = shows.outs;
  }
