-- A world of machines of one kind, and the skeleton of the same run.
use Rattle.std.proofs.Common.{◌≡◌, ◌⊎◌, ℕ, ◌+◌, ◌<◌, ◌≤◌, Bool, true, false, ◌&&◌, not, List, [], ◌∷◌, length, map, Option, Some, None, refl, ap, sym, ◌∙◌, subst, inl, inr, arith, slice_get}
use Rattle.std.specs.Prelude.{if◌then◌else◌, ◌==◌}
use Rattle.std.specs.List.{list_all}
use Rattle.std.proofs.Math.Bool.{and-true}
use Rattle.std.proofs.lemmas.Bool.{false≢true, and_parts, and_from, not-true, not_from_false}
use Rattle.vert_base.specs.declared.message.Name.{Name}
use Rattle.vert_base.specs.declared.message.NameKind.TheVariants.{Verdict}
use Rattle.vert_base.specs.Letters.{Letter, found, Ascends}
use Rattle.circulant_plan.specs.declared.spot.Spot.{Spot}
use Rattle.circulant_plan.specs.declared.spot.Spot.TheVariants.{Tell, Judge, Begin, Scan, Close, Over}
use Rattle.circulant_plan.specs.Choosing.{could_act}
use Rattle.circulant_plan.specs.Names.{verdict_name}
use Rattle.circulant_plan.specs.Runs.{IsReached, judged_round, round_at}
use Rattle.circulant_plan.specs.Skeleton.{Skeleton, has_name, is_over, is_ready, ruling_in}
use Rattle.circulant_plan.specs.Standing.{round_of}
use Rattle.circulant_plan.specs.Table.{needs_of}
use Rattle.circulant_plan.proofs.Members.{Has}
use Rattle.skeleton_laws.specs.Laws.{IsStandingOf}
use Rattle.skeleton_laws.proofs.OrderLaws.{each_stands, each_was_taken}
use Rattle.instrument.specs.declared.split.Split.{Split}
use Rattle.symple_face.specs.declared.action.Action.TheVariants as action
use Rattle.symple_face.specs.Cluster.{World, can_act, possible}
use Rattle.symple_face.specs.Cluster as cluster
use Rattle.symple_face.specs.Lawful.{IsLawful}
use Rattle.symple_face.specs.Parts.{PlainPart}
use Rattle.symple_face.specs.Plans.{blocks_of, ring_of}
use Rattle.symple_face.specs.State.{State, first_missing, machine, needs, p_of, ruling_read, waiting_for}
use Rattle.symple_face.specs.Work.{Work}
use Rattle.cluster_run.proofs.LetterLists.{has_letter}
use Rattle.cluster_run.proofs.SiteLists.{map_get}
use Rattle.cluster_run.proofs.ActionTables.{need_here}
use Rattle.state_laws.specs.Letters.{FitsForm}

-- machine m of a run, with its part and its program
pub record IsMachine (sound : State → Type 0) (split : Split) (parts : List PlainPart) (m : ℕ) (s : State) : Type 0
  where
    pub part : slice_get parts m ≡ Some s.part
    pub split_is : s.split ≡ split
    pub number : machine s ≡ m
    pub count : p_of s ≡ length parts
    pub is_sound : sound s

-- a machine that isn't over knows the ruling of its round: machine 0 from round 1 on, another by its verdict
abbrev pub Knows : ℕ → State → Type 0
Knows m s = ((m ≡ 0) × (1 ≤ s.at.round)) ⊎ (has_letter (verdict_name s.at.round m) s.held ≡ true)

-- whether a name is one of messages for machine m in a round
abbrev pub is_for : ℕ → ℕ → Name → Bool
is_for m round x = x.to == m && x.round == round

-- the skeleton stands as the world does: the same spots, the same names under way and taken, the same rulings
pub record IsSkeletonOf (sound : State → Type 0) (split : Split) (parts : List PlainPart) (w : World) (k : Skeleton) :
    Type 0 where
  pub count : length w.sites ≡ length parts
  pub machines : (m : ℕ) (s : State) → slice_get w.sites m ≡ Some s → IsMachine sound split parts m s
  pub standings : map (λ s. s.at) w.sites ≡ k.standings
  pub held : (m : ℕ) (s : State) → slice_get w.sites m ≡ Some s → is_over s.at.spot ≡ false →
      (x : Name) → has_letter x s.held ≡ (has_name x k.taken && is_for m s.at.round x)
  pub rulings : (m : ℕ) (s : State) → slice_get w.sites m ≡ Some s → is_over s.at.spot ≡ false → Knows m s →
      s.ruling ≡ ruling_in k.rulings s.at.round
  pub flies : (x : Name) → has_letter x w.under_way ≡ has_name x k.under_way
  pub as_many : length w.under_way ≡ length k.under_way
  pub ascends : Ascends w.under_way
  pub fit : (x : Name) (l : Letter) → found x w.under_way ≡ Some l →
      (part : PlainPart) → slice_get parts x.to ≡ Some part → FitsForm split part l
  pub verdicts : (x : Name) (l : Letter) → found x w.under_way ≡ Some l → x.kind ≡ Verdict →
      ruling_read l.body ≡ ruling_in k.rulings x.round

-- ---- what a machine can do
is_ready_if : (o : Option Name) → cluster.is_ready (waiting_for o) ≡ true → o ≡ None
is_ready_if None e = refl
is_ready_if (Some x) e = absurd (false≢true e)

ready_cases : (b : Bool) (o : Option Name) → cluster.is_ready (if b then action.Over else waiting_for o) ≡ true →
    (b ≡ false) × (o ≡ None)
ready_cases true o e = absurd (false≢true e)
ready_cases false o e = (refl, is_ready_if o e)

ready_from : (b : Bool) (o : Option Name) → b ≡ false → o ≡ None →
    cluster.is_ready (if b then action.Over else waiting_for o) ≡ true
ready_from b o e f = rw e (rw f refl)

pub missing_step : (x : Name) (b : Bool) (rest : Option Name) → (if b then rest else Some x) ≡ None → (b ≡ true) ×
    (rest ≡ None)
missing_step x true rest e = (refl, e)
missing_step x false rest e = cc

-- nothing is missing where each name is taken
none_missing : (xs : List Name) (held : List Letter) → first_missing xs held ≡ None → (x : Name) → Has xs x →
    has_letter x held ≡ true
none_missing [] held e x h = absurd h
none_missing (y ∷ xs) held e x (inl same) = subst (λ z. has_letter z held ≡ true) same
    (missing_step y (has_letter y held) (first_missing xs held) e).0
none_missing (y ∷ xs) held e x (inr h) = none_missing xs held
    (missing_step y (has_letter y held) (first_missing xs held) e).1 x h

missing_none : (xs : List Name) (held : List Letter) → ((x : Name) → Has xs x → has_letter x held ≡ true) →
    first_missing xs held ≡ None
missing_none [] held all = refl
missing_none (y ∷ xs) held all =
    ap (λ b. if b then first_missing xs held else Some y) (all y (inl refl))
    ∙ missing_none xs held (λ x h. all x (inr h))

all_taken : (xs taken : List Name) → ((x : Name) → Has xs x → has_name x taken ≡ true) →
    list_all (λ x. has_name x taken) xs ≡ true
all_taken [] taken all = refl
all_taken (x ∷ xs) taken all = and_from (has_name x taken) (list_all (λ y. has_name y taken) xs) (all x (inl refl))
    (all_taken xs taken (λ y h. all y (inr h)))

taken_all : (xs taken : List Name) → list_all (λ x. has_name x taken) xs ≡ true → (x : Name) → Has xs x →
    has_name x taken ≡ true
taken_all [] taken e x h = absurd h
taken_all (y ∷ xs) taken e x (inl same) = subst (λ z. has_name z taken ≡ true) same
    (and_parts (has_name y taken) (list_all (λ z. has_name z taken) xs) e).0
taken_all (y ∷ xs) taken e x (inr h) = taken_all xs taken
    (and_parts (has_name y taken) (list_all (λ z. has_name z taken) xs) e).1 x h

same_number : (a b : ℕ) → a ≡ b → (a == b) ≡ true
same_number a b e = grind (arith)

pub is_for_it : (m round : ℕ) (x : Name) → x.to ≡ m → x.round ≡ round → is_for m round x ≡ true
is_for_it m round x to at = and_from (x.to == m) (x.round == round) (same_number x.to m to)
    (same_number x.round round at)

-- what holds of a machine in a world that stands as a reached skeleton does
module _ (work : Work) (sound : State → Type 0) (lawful : IsLawful work sound) (split : Split)
    (parts : List PlainPart) (few : length parts ≤ 64) (w : World) (k : Skeleton)
    (tied : IsSkeletonOf sound split parts w k)
    (reached : IsReached (ring_of split (length parts)) (blocks_of split) k) (m : ℕ) (s : State)
    (here : slice_get w.sites m ≡ Some s) where
  pub it_is : IsMachine sound split parts m s
  it_is = tied.machines m s here

  pub it_stands : slice_get k.standings m ≡ Some s.at
  it_stands = subst (λ ss. slice_get ss m ≡ Some s.at) tied.standings (map_get (λ t. t.at) w.sites m s here)

  pub it_keeps : IsStandingOf (ring_of split (length parts)) (blocks_of split) k m s.at
  it_keeps = each_stands (ring_of split (length parts)) (blocks_of split) k m s.at reached it_stands

  pub needs_are : needs s ≡ needs_of (ring_of split (length parts)) m s.at.spot
  needs_are =
      ap (λ n. needs_of (ring_of s.split (p_of s)) n s.at.spot) it_is.number
      ∙ ap (λ n. needs_of (ring_of s.split n) m s.at.spot) it_is.count
      ∙ ap (λ q. needs_of (ring_of q (length parts)) m s.at.spot) it_is.split_is

  -- what it needs it holds where it was taken
  pub holds_need : is_over s.at.spot ≡ false → (x : Name) →
      Has (needs_of (ring_of split (length parts)) m s.at.spot) x →
      has_letter x s.held ≡ has_name x k.taken
  holds_need going x h =
      let n = need_here (ring_of split (length parts)) m (ruling_in k.rulings s.at.round) s.at.spot x it_keeps.machine
      few it_keeps.has h in
      let round : x.round ≡ s.at.round = n.1 ∙ spot_round s.at.spot s.at.round going ∙ sym it_keeps.round in
      tied.held m s here going x ∙ ap (λ b. has_name x k.taken && b) (is_for_it m s.at.round x n.0 round)
      ∙ and-true (has_name x k.taken)
    where
      spot_round : (spot : Spot) (round : ℕ) → is_over spot ≡ false → round_of 0 spot ≡ round_of round spot
      spot_round Tell round e = refl
      spot_round (Judge r) round e = refl
      spot_round (Begin r) round e = refl
      spot_round (Scan r step h) round e = refl
      spot_round (Close r dense) round e = refl
      spot_round Over round e = absurd (false≢true (sym e))

  pub ready_goes : can_act (Some s) ≡ true → could_act (ring_of split (length parts)) m (Some s.at) k.taken ≡ true
  ready_goes ready =
      let c = ready_cases (is_over s.at.spot) (first_missing (needs s) s.held) ready in
      let none : first_missing (needs_of (ring_of split (length parts)) m s.at.spot) s.held ≡ None =
      subst (λ xs. first_missing xs s.held ≡ None) needs_are c.1 in
      and_from (not (is_over s.at.spot)) (is_ready (ring_of split (length parts)) m s.at k.taken)
      (not_from_false (is_over s.at.spot) c.0)
      (all_taken (needs_of (ring_of split (length parts)) m s.at.spot) k.taken
      (λ x h. sym (holds_need c.0 x h) ∙ none_missing (needs_of (ring_of split (length parts)) m s.at.spot) s.held
      none x h))

  pub ready_holds : can_act (Some s) ≡ true → (x : Name) → Has (needs_of (ring_of split (length parts)) m s.at.spot) x
      → has_letter x s.held ≡ true
  ready_holds ready x h =
      let c = ready_cases (is_over s.at.spot) (first_missing (needs s) s.held) ready in
      none_missing (needs_of (ring_of split (length parts)) m s.at.spot) s.held
      (subst (λ xs. first_missing xs s.held ≡ None) needs_are c.1) x h

  pub ready_going : can_act (Some s) ≡ true → is_over s.at.spot ≡ false
  ready_going ready = (ready_cases (is_over s.at.spot) (first_missing (needs s) s.held) ready).0

  -- who knows the ruling of its round stands in one that was judged
  pub knows_judged : is_over s.at.spot ≡ false → Knows m s → s.at.round < judged_round k
  knows_judged going (inl first) =
      let zero_stands : slice_get k.standings 0 ≡ Some s.at =
      subst (λ j. slice_get k.standings j ≡ Some s.at) first.0 it_stands in
      let is : judged_round k ≡ s.at.round + 1 = ap (λ o. round_at o + 1) zero_stands in
      omega arith
  knows_judged going (inr told) =
      let x : Name = verdict_name s.at.round m in
      let taken = (and_parts (has_name x k.taken) (is_for m s.at.round x) (sym (tied.held m s here going x) ∙ told)).0
      in
      (each_was_taken (ring_of split (length parts)) (blocks_of split) k x reached taken).judged

  pub goes_ready : could_act (ring_of split (length parts)) m (Some s.at) k.taken ≡ true → can_act (Some s) ≡ true
  goes_ready could =
      let c = and_parts (not (is_over s.at.spot)) (is_ready (ring_of split (length parts)) m s.at k.taken) could in
      let going = not-true (is_over s.at.spot) c.0 in
      ready_from (is_over s.at.spot) (first_missing (needs s) s.held) going
      (subst (λ xs. first_missing xs s.held ≡ None) (sym needs_are)
      (missing_none (needs_of (ring_of split (length parts)) m s.at.spot) s.held
      (λ x h. holds_need going x h ∙ taken_all (needs_of (ring_of split (length parts)) m s.at.spot) k.taken c.1 x h)))
