-- The order of events in a run, with no contents: where each machine stands, which rulings were made, and
-- which messages are under way or were taken.
use Rattle.std.specs.Prelude.{ℕ, ◌+◌, ◌==◌, ◌&&◌, ◌||◌, not, nat_le, Bool, true, false, if◌then◌else◌, Option, Some, None, List, [], ◌∷◌, ◌++◌, map, replicate, slice_get, slice_set}
use Rattle.std.specs.List.{filter, list_all}
use Rattle.vert_base.specs.declared.message.Name.{Name}
use Rattle.vert_base.specs.declared.message.NameKind.{NameKind}
use Rattle.vert_base.specs.declared.message.NameKind.TheVariants as kind
use Rattle.vert_base.specs.declared.message.Event.{Event}
use Rattle.vert_base.specs.declared.message.Event.TheVariants.{Go, Take}
use Rattle.vert_base.specs.declared.value.Ruling.{Ruling}
use Rattle.vert_base.specs.declared.value.Ruling.TheVariants.{Stop, Dense, Sparse}
use Rattle.circulant_plan.specs.declared.spot.Ring.{Ring}
use Rattle.circulant_plan.specs.declared.spot.Spot.{Spot}
use Rattle.circulant_plan.specs.declared.spot.Spot.TheVariants.{Tell, Judge, Begin, Scan, Close, Over}
use Rattle.vert_base.specs.Names.{same_name}
use Rattle.circulant_plan.specs.Names.{verdict_name}
use Rattle.circulant_plan.specs.Table.{others_of, needs_of, gives_of}
use Rattle.circulant_plan.specs.Standing.{Standing, first_standing, standing_at, next_standing, ruled_standing}

pub record Skeleton : Type 0 where
  pub standings : List Standing
  -- the rulings made, with their rounds
  pub rulings : List (ℕ × Ruling)
  pub under_way : List Name
  pub taken : List Name

-- every machine before its first action
abbrev pub first_skeleton : ℕ → Skeleton
first_skeleton p = record { standings = replicate p first_standing; rulings = []; under_way = []; taken = [] }

-- every machine at the begin of round q, whose ruling is known
abbrev pub resumed_skeleton : ℕ → ℕ → Ruling → Skeleton
resumed_skeleton p q ruling = record {
  standings = replicate p (standing_at q (Begin q));
  rulings = (q, ruling) ∷ [];
  under_way = [];
  taken = map (verdict_name q) (others_of p 0);
}

abbrev pub has_name : Name → List Name → Bool
has_name x [] = false
has_name x (y ∷ ys) = same_name x y || has_name x ys

-- the ruling that was made for a round
abbrev pub ruling_in : List (ℕ × Ruling) → ℕ → Ruling
ruling_in [] r = Stop
ruling_in (made ∷ more) r = if made.0 == r then made.1 else ruling_in more r

-- what a program lets a judge rule
pub record Blocks : Type 0 where
  pub limit : ℕ
  pub dense : Bool
  pub sparse : Bool

-- stop always, and a mode for a round within the limit where the program has its block
abbrev pub may_rule : Blocks → ℕ → Ruling → Bool
may_rule blocks r Stop = true
may_rule blocks r Dense = blocks.dense && nat_le r blocks.limit
may_rule blocks r Sparse = blocks.sparse && nat_le r blocks.limit

abbrev pub is_over : Spot → Bool
is_over Tell = false
is_over (Judge r) = false
is_over (Begin r) = false
is_over (Scan r s h) = false
is_over (Close r dense) = false
is_over Over = true

-- at a judge the ruling that it makes has to be one that it may make
abbrev pub rules_rightly : Blocks → Ruling → Spot → Bool
rules_rightly blocks ruling Tell = true
rules_rightly blocks ruling (Judge r) = may_rule blocks (r + 1) ruling
rules_rightly blocks ruling (Begin r) = true
rules_rightly blocks ruling (Scan r s h) = true
rules_rightly blocks ruling (Close r dense) = true
rules_rightly blocks ruling Over = true

-- every message that machine m needs where it stands was taken
abbrev pub is_ready : Ring → ℕ → Standing → List Name → Bool
is_ready ring m s taken = list_all (λ x. has_name x taken) (needs_of ring m s.spot)

abbrev pub can_go : Ring → Blocks → Ruling → ℕ → Option Standing → List Name → Bool
can_go ring blocks ruling m None taken = false
can_go ring blocks ruling m (Some s) taken =
    not (is_over s.spot) && (is_ready ring m s taken && rules_rightly blocks ruling s.spot)

-- whether an event is possible. The ruling is the one that a judge makes, and matters for its go alone
abbrev pub is_possible : Ring → Blocks → Ruling → Event → Skeleton → Bool
is_possible ring blocks ruling (Go m) k = can_go ring blocks ruling m (slice_get k.standings m) k.taken
is_possible ring blocks ruling (Take x) k = has_name x k.under_way

-- the ruling by which an action is done: at a judge the one that it makes, else that of its round
abbrev pub acting_ruling : Ruling → Ruling → Spot → Ruling
acting_ruling ruling known Tell = known
acting_ruling ruling known (Judge r) = ruling
acting_ruling ruling known (Begin r) = known
acting_ruling ruling known (Scan r s h) = known
acting_ruling ruling known (Close r dense) = known
acting_ruling ruling known Over = known

-- the rulings with the one that a judge makes
abbrev pub rulings_after : Ruling → Spot → List (ℕ × Ruling) → List (ℕ × Ruling)
rulings_after ruling Tell made = made
rulings_after ruling (Judge r) made = (r + 1, ruling) ∷ made
rulings_after ruling (Begin r) made = made
rulings_after ruling (Scan r s h) made = made
rulings_after ruling (Close r dense) made = made
rulings_after ruling Over made = made

abbrev pub go_at : Ring → Ruling → ℕ → Option Standing → Skeleton → Skeleton
go_at ring ruling m None k = k
go_at ring ruling m (Some s) k =
    let acting = acting_ruling ruling (ruling_in k.rulings s.round) s.spot in
    record {
      standings = slice_set k.standings m (next_standing ring m acting s);
      rulings = rulings_after ruling s.spot k.rulings;
      under_way = k.under_way ++ gives_of ring m s.spot acting;
      taken = k.taken;
    }

-- a machine that takes a verdict learns the ruling; other messages leave it where it stands
abbrev pub standing_taken : NameKind → Ruling → Standing → Standing
standing_taken kind.Refresh ruling s = s
standing_taken kind.Dep ruling s = s
standing_taken kind.Update ruling s = s
standing_taken kind.Push ruling s = s
standing_taken kind.Tally ruling s = s
standing_taken kind.Verdict ruling s = ruled_standing ruling s

abbrev pub standings_taken : Name → Ruling → Option Standing → List Standing → List Standing
standings_taken x ruling None all = all
standings_taken x ruling (Some s) all = slice_set all x.to (standing_taken x.kind ruling s)

abbrev pub step_of : Ring → Ruling → Event → Skeleton → Skeleton
step_of ring ruling (Go m) k = go_at ring ruling m (slice_get k.standings m) k
step_of ring ruling (Take x) k = record {
  standings = standings_taken x (ruling_in k.rulings x.round) (slice_get k.standings x.to) k.standings;
  rulings = k.rulings;
  under_way = filter (λ y. not (same_name x y)) k.under_way;
  taken = x ∷ k.taken;
}

-- the run is finished when every machine is over
abbrev pub is_finished : Skeleton → Bool
is_finished k = list_all (λ s. is_over s.spot) k.standings

-- the state that a list of events leaves, each with the ruling that a judge makes
abbrev pub skeleton_after : Ring → List (Event × Ruling) → Skeleton → Skeleton
skeleton_after ring [] k = k
skeleton_after ring (e ∷ es) k = skeleton_after ring es (step_of ring e.1 e.0 k)

-- whether each event is possible in turn
abbrev pub all_possible : Ring → Blocks → List (Event × Ruling) → Skeleton → Bool
all_possible ring blocks [] k = true
all_possible ring blocks (e ∷ es) k =
    is_possible ring blocks e.1 e.0 k && all_possible ring blocks es (step_of ring e.1 e.0 k)

-- whether the list is a complete schedule from a state
abbrev pub is_complete : Ring → Blocks → List (Event × Ruling) → Skeleton → Bool
is_complete ring blocks es k = all_possible ring blocks es k && is_finished (skeleton_after ring es k)
