-- A machine holds what the source's run says, by its spot and by the messages that it has taken.
use Rattle.std.specs.Prelude.{◌≡◌, ◌⊎◌, ◌≤◌, ◌==◌, ◌+◌, ◌&&◌, not, nat_lt, ℕ, ℤ, Bool, true, false, List, [], Option, None, Some, if◌then◌else◌, is_some, length, map}
use Rattle.std.specs.List.{AllByRecursion}
use Rattle.vert_base.specs.declared.message.Name.{Name}
use Rattle.vert_base.specs.declared.message.NameKind.{NameKind}
use Rattle.vert_base.specs.declared.message.NameKind.TheVariants as kind
use Rattle.vert_base.specs.declared.value.Ruling.{Ruling}
use Rattle.vert_base.specs.declared.value.Ruling.TheVariants as ruling
use Rattle.vert_base.specs.Letters.{Letter, found}
use Rattle.vert_tree.specs.declared.program.Sparse.{Sparse}
use Rattle.vert_eval.specs.Rounds.{row_at}
use Rattle.dep_layout.specs.Spelling.{State as LoopState}
use Rattle.slot_merge.specs.Filled.{AreFilled}
use Rattle.circulant_plan.specs.declared.spot.Spot.{Spot}
use Rattle.circulant_plan.specs.declared.spot.Spot.TheVariants.{Tell, Judge, Begin, Scan, Close, Over}
use Rattle.circulant_plan.specs.Names.{push_name, update_name}
use Rattle.circulant_plan.specs.Ring.{chunk_of, lies_in, order_of}
use Rattle.circulant_plan.specs.Standing.{Standing, place_of}
use Rattle.symple_face.specs.CoreScan.{fresh}
use Rattle.symple_face.specs.CoreSight.{is_within, known, known_totals, program_of, targets_of}
use Rattle.symple_face.specs.CoreTakes.{own_partials}
use Rattle.symple_face.specs.Ideal.{ideal_body, ideal_ran, ideal_reads, ideal_sent, machines_of, owner_of, state_at}
use Rattle.symple_face.specs.Parts.{chunk_vertices}
use Rattle.symple_face.specs.PartsOf.{part_of}
use Rattle.symple_face.specs.Plans.{loop_carry}
use Rattle.symple_face.specs.Shapes.{half_in}
use Rattle.symple_face.specs.Source.{Source, scene, stand}
use Rattle.symple_face.specs.State.{State}
use Rattle.round_laws.specs.Partials.{partial_ops, sent_words}
use Rattle.round_laws.specs.SparseClose.{push_buckets}
use Rattle.round_laws.specs.Tallies.{source_count}

-- ---- spots
-- a round is open from its begin to its close
abbrev pub is_open : Spot → Bool
is_open Tell = false
is_open (Judge r) = false
is_open (Begin r) = true
is_open (Scan r step h) = true
is_open (Close r dense) = true
is_open Over = false

-- whether the begin of the round is still to come: at it, and where the run is over
abbrev pub awaits_begin : Spot → Bool
awaits_begin Tell = false
awaits_begin (Judge r) = false
awaits_begin (Begin r) = true
awaits_begin (Scan r step h) = false
awaits_begin (Close r dense) = false
awaits_begin Over = true

-- the round before which the own rows stand: those before the first round at tell, and at a judge those after its round
abbrev pub rows_round : ℕ → Spot → ℕ
rows_round round Tell = 1
rows_round round (Judge r) = r + 1
rows_round round (Begin r) = round
rows_round round (Scan r step h) = round
rows_round round (Close r dense) = round
rows_round round Over = round

abbrev pub rows_before : Standing → ℕ
rows_before at = rows_round at.round at.spot

-- whether a scan of the round is past
abbrev pub is_past : Standing → ℕ → ℕ → Bool
is_past at step h = nat_lt (place_of (record { spot = Scan at.round step h; round = at.round })) (place_of at)

-- whether the scan that needs a loop state is past
abbrev pub is_used : Standing → Name → Bool
is_used at x =
    nat_lt (place_of (record { spot = Scan x.round (x.step + 1) x.half; round = x.round })) (place_of at)

-- the half of chunk c in which a vertex lies
abbrev pub half_at : Source → ℕ → ℕ → ℕ
half_at src c v = if is_within (half_in src.job.graph.ends c 0) v then 0 else 1

-- ---- partials
-- whether what the machine of a step sends of an own vertex came: its update was taken, or the own scan is past
abbrev pub step_came : Source → ℕ → Standing → List Letter → ℕ → ℕ → Bool
step_came src m at held v step =
    let h : ℕ = half_at src m v in
    if nat_lt (step + 1) (machines_of src)
    then is_some (found (update_name at.round step h (order_of m step (machines_of src)) m) held)
    else step + 1 == machines_of src && is_past at step h

-- a push was worked: it was taken, and its body isn't kept
abbrev pub is_worked : Option Letter → Bool
is_worked None = false
is_worked (Some l) = length l.body == 0

-- whether the sends of a vertex were worked: of an own one where the begin is past, else where the push of its
-- machine was
abbrev pub sends_came : Source → ℕ → Standing → List Letter → ℕ → Bool
sends_came src m at held u =
    let k : ℕ = owner_of src.job.graph.ends u in
    if k == m then not (awaits_begin at.spot) else is_worked (found (push_name at.round k m) held)

abbrev pub dense_words : Source → ℕ → Standing → List Letter → ℕ → ℕ → ℕ → List ℤ
dense_words src m at held v place key =
    if step_came src m at held v key then sent_words (ideal_sent src at.round v m key) place else []

abbrev pub sparse_words : Option Sparse → Source → ℕ → Standing → List Letter → ℕ → ℕ → ℕ → List ℤ
sparse_words None src m at held v place key = []
sparse_words (Some sparse) src m at held v place key =
    push_buckets src.split sparse (scene src at.round) v (sends_came src m at held) place key

abbrev pub words_by : Ruling → Source → ℕ → Standing → List Letter → ℕ → ℕ → ℕ → List ℤ
words_by ruling.Stop src m at held v place key = []
words_by ruling.Dense src m at held v place key = dense_words src m at held v place key
words_by ruling.Sparse src m at held v place key =
    sparse_words (program_of src.split).sparse src m at held v place key

-- the words that came for each partial of an own vertex under each key
abbrev pub came_words : Source → ℕ → Standing → List Letter → ℕ → ℕ → ℕ → List ℤ
came_words src m at held v place key =
    if is_open at.spot then words_by (stand src at.round).ruling src m at held v place key else []

-- a number above each key
abbrev pub keys_below : Source → ℕ
keys_below src = machines_of src + src.job.graph.vertices + 1

-- ---- bodies
-- what is held of a message: its ideal body, but for those that were merged or dropped
abbrev pub HoldsBody : NameKind → Source → Standing → Letter → Type 0
HoldsBody kind.Refresh src at l = l.body ≡ ideal_body src l.name
HoldsBody kind.Dep src at l = is_used at l.name ≡ false → l.body ≡ ideal_body src l.name
HoldsBody kind.Update src at l = l.body ≡ []
HoldsBody kind.Push src at l = (l.body ≡ []) ⊎ ((l.body ≡ ideal_body src l.name) × (awaits_begin at.spot ≡ true))
HoldsBody kind.Tally src at l = l.body ≡ ideal_body src l.name
HoldsBody kind.Verdict src at l = l.body ≡ ideal_body src l.name

-- ---- loop states and reads
abbrev pub is_dense : Ruling → Bool
is_dense ruling.Stop = false
is_dense ruling.Dense = true
is_dense ruling.Sparse = false

-- whether a dense round is open, and its scan at a vertex of chunk c by machine m is past
abbrev pub scan_past : Source → ℕ → Standing → ℕ → ℕ → Bool
scan_past src m at c v =
    is_open at.spot
    && (is_dense (stand src at.round).ruling && is_past at (chunk_of m c (machines_of src)) (half_at src c v))

-- the loop state of an own vertex
abbrev pub ring_held : Source → ℕ → Standing → ℕ → LoopState
ring_held src m at v =
    if scan_past src m at m v then state_at src at.round v m (machines_of src) else fresh src.split

-- what was read for a vertex in the open round
abbrev pub reads_held : Source → ℕ → Standing → ℕ → List ℕ
reads_held src m at v =
    let c : ℕ = owner_of src.job.graph.ends v in
    if scan_past src m at c v then (ideal_ran src at.round v c (chunk_of m c (machines_of src))).reads else []

-- ---- all that machine m holds
pub record IsIdeal (src : Source) (m : ℕ) (s : State) : Type 0 where
  pub part : s.part ≡ part_of src.job.graph.ends src.job.draws src.job.graph.edges m
  pub split : s.split ≡ src.split
  pub rows : s.rows ≡ map (row_at (stand src (rows_before s.at)).rows) (chunk_vertices src.job.graph.ends m)
  pub ruling : known s ≡ true → s.ruling ≡ (stand src s.at.round).ruling
  pub totals : known s ≡ true → known_totals s ≡ (stand src s.at.round).totals
  pub bodies : AllByRecursion (λ l. HoldsBody l.name.kind src s.at l) s.held
  pub many : length s.partials ≡ length (chunk_vertices src.job.graph.ends m)
  pub partials : (v : ℕ) → lies_in src.job.graph.ends m v ≡ true →
      AreFilled 0 (partial_ops s.split) (came_words src m s.at s.held v) (keys_below src) (own_partials s v)
  -- in a loop without a carry nothing is said of loop states
  pub ring : is_some (loop_carry src.split.dense) ≡ true →
      s.ring ≡ map (ring_held src m s.at) (chunk_vertices src.job.graph.ends m)
  pub reading : s.reading ≡ map (reads_held src m s.at) (targets_of s.part)
  -- of the last closed round
  pub reads : (round : ℕ) → round + 1 ≡ rows_before s.at → s.reads ≡ map (ideal_reads src round m) (targets_of s.part)
  -- of machine 0: what it judged for this round, and the report of the round before
  pub judged : m ≡ 0 → 1 ≤ s.at.round →
      s.judged ≡ record {
        active = (stand src s.at.round).active;
        edges = (stand src s.at.round).edges;
        totals = (stand src s.at.round).totals;
      }
  pub report : (round : ℕ) → m ≡ 0 → round + 1 ≡ s.at.round → src.base ≤ round →
      s.report ≡ record {
        round = round;
        ruling = (stand src round).ruling;
        active = (stand src round).active;
        edges = (stand src round).edges;
        reads = (source_count src round).reads;
      }
