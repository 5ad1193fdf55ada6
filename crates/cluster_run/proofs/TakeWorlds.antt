-- The delivery of a message: its receiver can take it, and the world and the skeleton stand alike after it.
use Rattle.std.proofs.Common.{◌≡◌, ◌≢◌, ℕ, ◌≤◌, Bool, true, false, ◌&&◌, ◌||◌, not, List, length, map, Some, None, refl, ap, sym, ◌∙◌, subst, inl, inr, arith, ⊎_elim, slice_get}
use Rattle.std.specs.Prelude.{is_some, ◌==◌, slice_set}
use Rattle.std.proofs.lemmas.Bool.{cases_Bool}
use Rattle.vert_base.specs.declared.message.Name.{Name}
use Rattle.vert_base.specs.declared.message.NameKind.{NameKind}
use Rattle.vert_base.specs.declared.message.NameKind.TheVariants.{Refresh, Dep, Update, Push, Tally, Verdict}
use Rattle.vert_base.specs.declared.message.Event.TheVariants.{Take}
use Rattle.vert_base.specs.declared.value.Ruling.{Ruling}
use Rattle.vert_base.specs.declared.value.Ruling.TheVariants.{Stop}
use Rattle.vert_base.specs.Letters.{Letter, found, without}
use Rattle.vert_base.specs.Names.{same_name}
use Rattle.vert_base.proofs.LetterLaws.{found_name, names_law, without_ascends}
use Rattle.circulant_plan.specs.declared.spot.Ring.{Ring}
use Rattle.circulant_plan.specs.Names.{verdict_name}
use Rattle.circulant_plan.specs.Runs.{IsReached}
use Rattle.circulant_plan.specs.Skeleton.{Skeleton, Blocks, has_name, is_over, ruling_in, standing_taken, standings_taken, step_of}
use Rattle.circulant_plan.specs.Standing.{Standing, ruled_standing}
use Rattle.circulant_plan.proofs.NameLists.{has_from_name, but_one}
use Rattle.skeleton_laws.specs.Laws.{IsTakeable}
use Rattle.skeleton_laws.proofs.OrderLaws.{each_is_takeable, few_are_under_way, steps_reach}
use Rattle.instrument.specs.declared.split.Split.{Split}
use Rattle.symple_face.specs.Cluster.{IsOneRun, World}
use Rattle.symple_face.specs.Cluster as cluster
use Rattle.symple_face.specs.Lawful.{IsLawful}
use Rattle.symple_face.specs.Parts.{PlainPart}
use Rattle.symple_face.specs.Plans.{blocks_of, ring_of}
use Rattle.symple_face.specs.Shapes.{shape_of}
use Rattle.symple_face.specs.State.{State, machine, ruling_read, shape_at}
use Rattle.symple_face.specs.State as face
use Rattle.symple_face.specs.Work.{Work}
use Rattle.cluster_run.proofs.GoWorlds.{same_from}
use Rattle.cluster_run.proofs.LetterLists.{has_letter, has_without, length_without, name_but_for, not_found, once_from_each, same_swap, without_is}
use Rattle.cluster_run.proofs.SiteLists.{map_get_back, map_set, other, same, set_cases, set_length}
use Rattle.skeleton_laws.proofs.RoundLaws.{kind_cases}
use Rattle.cluster_run.proofs.Worlds.{IsMachine, IsSkeletonOf, Knows, is_for, is_for_it}
use Rattle.state_laws.proofs.Letters.{apart_names}
use Rattle.state_laws.proofs.Rulings.{taken_round}

-- a taken ruling counts for a verdict alone
taken_alike : (kind : NameKind) (a b : Ruling) (s : Standing) → (kind ≡ Verdict → a ≡ b) →
    standing_taken kind a s ≡ standing_taken kind b s
taken_alike Refresh a b s agree = refl
taken_alike Dep a b s agree = refl
taken_alike Update a b s agree = refl
taken_alike Push a b s agree = refl
taken_alike Tally a b s agree = refl
taken_alike Verdict a b s agree = ap (λ q. ruled_standing q s) (agree refl)

-- a name of others isn't one for this machine
for_other : (taken b : Bool) (x y : Name) (j round : ℕ) → same_name y x ≡ b → x.to ≢ j →
    ((b || taken) && is_for j round y) ≡ (taken && is_for j round y)
for_other taken true x y j round e differ =
    let named : y ≡ x = names_law y x e in
    let not_it : (y.to == j) ≡ false = ⊎_elim (λ (is : (y.to == j) ≡ true).
    absurd (differ (sym (ap (λ (z : Name). z.to) named) ∙ same_from y.to j is))) (λ (is : (y.to == j) ≡ false).
    is) (cases_Bool (y.to == j)) in
    rw not_it (none taken)
  where
    none : (a : Bool) → false ≡ (a && false)
    none true = refl
    none false = refl
for_other taken false x y j round e differ = refl

-- a name taken here counts
module _ (taken : Bool) where
  for_it : (b : Bool) (x y : Name) (m round : ℕ) → same_name y x ≡ b → x.to ≡ m → x.round ≡ round →
      (b || (taken && is_for m round y)) ≡ ((b || taken) && is_for m round y)
  for_it true x y m round e to at =
      let named : y ≡ x = names_law y x e in
      sym (is_for_it m round y (ap (λ (z : Name). z.to) named ∙ to) (ap (λ (z : Name). z.round) named ∙ at))
  for_it false x y m round e to at = refl

no_letter : (taken : Bool) (b : Bool) → taken ≡ false → (taken && b) ≡ false
no_letter taken b e = rw e refl

module _ (work : Work) (sound : State → Type 0) (lawful : IsLawful work sound) (split : Split)
    (parts : List PlainPart) (few : length parts ≤ 64) (one : IsOneRun parts) (w : World) (k : Skeleton)
    (tied : IsSkeletonOf sound split parts w k)
    (reached : IsReached (ring_of split (length parts)) (blocks_of split) k) (x : Name) (l : Letter)
    (there : found x w.under_way ≡ Some l) where
  abbrev pub ring : Ring
  ring = ring_of split (length parts)

  abbrev pub blocks : Blocks
  blocks = blocks_of split

  flies : has_name x k.under_way ≡ true
  flies = sym (tied.flies x) ∙ ap is_some there

  pub can : IsTakeable ring blocks k x
  can = each_is_takeable ring blocks k x reached flies

  named : l.name ≡ x
  named = found_name x w.under_way l there

  pub receiver : (s : State) × (slice_get w.sites x.to ≡ Some s) × (s.at ≡ can.at)
  receiver = map_get_back (λ (t : State). t.at) w.sites x.to can.at
      (subst (λ ss. slice_get ss x.to ≡ Some can.at) (sym tied.standings) can.stands)

  abbrev pub s : State
  s = receiver.0

  here : slice_get w.sites x.to ≡ Some s
  here = receiver.1

  stands : slice_get k.standings x.to ≡ Some s.at
  stands = can.stands ∙ ap (λ t. Some t) (sym receiver.2)

  is : IsMachine sound split parts x.to s
  is = tied.machines x.to s here

  going : is_over s.at.spot ≡ false
  going = subst (λ (t : Standing). is_over t.spot ≡ false) (sym receiver.2) can.going

  round : s.at.round ≡ x.round
  round = ap (λ (t : Standing). t.round) receiver.2 ∙ can.round

  -- the receiver can take it
  pub takeable : face.IsTakeable s l
  takeable =
      let form = tied.fit x l there s.part is.part in
      record {
        here = ap (λ (y : Name). y.to) named ∙ sym is.number;
        going = going;
        new = subst (λ y. found y s.held ≡ None) (sym named)
            (not_found x s.held (tied.held x.to s here going x
            ∙ no_letter (has_name x k.taken) (is_for x.to s.at.round x) can.new));
        round = ap (λ (y : Name). y.round) named ∙ sym round;
        shape = form.0;
        has = ap (λ q. shape_of q s.part l.name) is.split_is ∙ form.1;
        fits = form.2;
      }

  pub at_receiver : slice_get w.sites l.name.to ≡ Some s
  at_receiver = subst (λ (y : Name). slice_get w.sites y.to ≡ Some s) (sym named) here

  abbrev pub next : Skeleton
  next = step_of ring Stop (Take x) k

  pub next_reached : IsReached ring blocks next
  next_reached = steps_reach ring blocks k Stop (Take x) reached flies

  abbrev pub gone : World
  gone = record { sites = slice_set w.sites x.to (work.take s l); under_way = without x w.under_way }

  known : l.name.kind ≡ Verdict → ruling_read l.body ≡ ruling_in k.rulings x.round
  known verdict = tied.verdicts x l there (ap (λ (y : Name). y.kind) (sym named) ∙ verdict)

  next_at : (work.take s l).at ≡ standing_taken x.kind (ruling_in k.rulings x.round) s.at
  next_at =
      lawful.take_at s l
      ∙ taken_alike l.name.kind (ruling_read l.body) (ruling_in k.rulings x.round) s.at known
      ∙ ap (λ (y : Name). standing_taken y.kind (ruling_in k.rulings x.round) s.at) named

  next_round : (work.take s l).at.round ≡ s.at.round
  next_round = ap (λ (t : Standing). t.round) next_at ∙ taken_round x.kind (ruling_in k.rulings x.round) s.at

  next_machine : IsMachine sound split parts x.to (work.take s l)
  next_machine = record {
    part = is.part ∙ ap (λ part. Some part) (sym (lawful.take_part s l));
    split_is = lawful.take_split s l ∙ is.split_is;
    number = ap (λ (part : PlainPart). part.at.machine) (lawful.take_part s l) ∙ is.number;
    count = ap (λ (part : PlainPart). part.at.machines) (lawful.take_part s l) ∙ is.count;
    is_sound = lawful.take_sound s l is.is_sound takeable;
  }

  holds : (y : Name) → has_letter y (work.take s l).held ≡ (same_name y x || has_letter y s.held)
  holds y =
      lawful.take_held s l y
      ∙ ap (λ z. same_name z y || has_letter y s.held) named
      ∙ ap (λ b. b || has_letter y s.held) (same_swap x y)

  next_held : (y : Name) → has_letter y (work.take s l).held
      ≡ (has_name y next.taken && is_for x.to (work.take s l).at.round y)
  next_held y =
      holds y
      ∙ ap (λ b. same_name y x || b) (tied.held x.to s here going y)
      ∙ for_it (has_name y k.taken) (same_name y x) x y x.to s.at.round refl refl (sym round)
      ∙ ap (λ r. (same_name y x || has_name y k.taken) && is_for x.to r y) (sym next_round)

  next_ruling : Knows x.to (work.take s l) → (work.take s l).ruling ≡ ruling_in k.rulings (work.take s l).at.round
  next_ruling knows =
      ⊎_elim
      (λ (verdict : l.name.kind ≡ Verdict).
      lawful.take_verdict s l verdict ∙ known verdict ∙ ap (ruling_in k.rulings) (sym (next_round ∙ round)))
      (λ (not_one : l.name.kind ≢ Verdict).
      lawful.take_other s l not_one ∙ tied.rulings x.to s here going (knew not_one knows)
      ∙ ap (ruling_in k.rulings) (sym next_round))
      (kind_cases l.name.kind)
    where
      knew : l.name.kind ≢ Verdict → Knows x.to (work.take s l) → Knows x.to s
      knew not_one (inl first) = inl (first.0, let late = first.1 in let r = next_round in omega arith)
      knew not_one (inr told) =
          let v : Name = verdict_name s.at.round x.to in
          let told_here : has_letter v (work.take s l).held ≡ true =
          subst (λ r. has_letter (verdict_name r x.to) (work.take s l).held ≡ true) next_round told in
          let other_name : same_name v x ≡ false =
          apart_names v x (λ e. not_one (ap (λ (y : Name). y.kind) named ∙ sym (ap (λ (y : Name). y.kind) e))) in
          inr (sym (holds v ∙ ap (λ b. b || has_letter v s.held) other_name) ∙ told_here)

  gone_machines : (j : ℕ) (t : State) → slice_get gone.sites j ≡ Some t → IsMachine sound split parts j t
  gone_machines j t at =
      elim (set_cases w.sites x.to (work.take s l) j t at) [
        | same e is_it ↦ subst (λ q. IsMachine sound split parts j q) is_it
            (subst (λ i. IsMachine sound split parts i (work.take s l)) (sym e) next_machine)
        | other ne at_j ↦ tied.machines j t at_j
      ]

  gone_standings : map (λ t. t.at) gone.sites ≡ next.standings
  gone_standings =
      map_set (λ (t : State). t.at) w.sites x.to (work.take s l)
      ∙ ap (λ ss. slice_set ss x.to (work.take s l).at) tied.standings
      ∙ ap (slice_set k.standings x.to) next_at
      ∙ sym (ap (λ o. standings_taken x (ruling_in k.rulings x.round) o k.standings) stands)

  gone_held : (j : ℕ) (t : State) → slice_get gone.sites j ≡ Some t → is_over t.at.spot ≡ false →
      (y : Name) → has_letter y t.held ≡ (has_name y next.taken && is_for j t.at.round y)
  gone_held j t at on y =
      elim (set_cases w.sites x.to (work.take s l) j t at) [
        | same e is_it ↦
            subst (λ q. has_letter y q.held ≡ (has_name y next.taken && is_for j q.at.round y)) is_it
            (subst (λ i. has_letter y (work.take s l).held
            ≡ (has_name y next.taken && is_for i (work.take s l).at.round y)) (sym e) (next_held y))
        | other ne at_j ↦
            tied.held j t at_j on y ∙ sym (for_other (has_name y k.taken) (same_name y x) x y j t.at.round refl (λ e.
            ne (sym e)))
      ]

  gone_rulings : (j : ℕ) (t : State) → slice_get gone.sites j ≡ Some t → is_over t.at.spot ≡ false → Knows j t →
      t.ruling ≡ ruling_in next.rulings t.at.round
  gone_rulings j t at on knows =
      elim (set_cases w.sites x.to (work.take s l) j t at) [
        | same e is_it ↦
            subst (λ q. q.ruling ≡ ruling_in k.rulings q.at.round) is_it
            (next_ruling (subst (λ i. Knows i (work.take s l)) e (subst (Knows j) (sym is_it) knows)))
        | other ne at_j ↦ tied.rulings j t at_j on knows
      ]

  gone_count : length gone.under_way ≡ length next.under_way
  gone_count =
      let shorter = length_without x w.under_way l there in
      let once = once_from_each k.under_way (few_are_under_way ring blocks k reached).once in
      let left = but_one x k.under_way once (has_from_name x k.under_way flies) in
      let before = tied.as_many in
      omega arith

  pub gone_tied : IsSkeletonOf sound split parts gone next
  gone_tied = record {
    count = set_length w.sites x.to (work.take s l) ∙ tied.count;
    machines = gone_machines;
    standings = gone_standings;
    held = gone_held;
    rulings = gone_rulings;
    flies = λ y. has_without x y w.under_way tied.ascends ∙ ap (λ b. not (same_name x y) && b) (tied.flies y)
        ∙ sym (name_but_for x y k.under_way);
    as_many = gone_count;
    ascends = without_ascends x w.under_way tied.ascends;
    fit = λ y l e part to. tied.fit y l (without_is x y w.under_way l tied.ascends e) part to;
    verdicts = λ y l e verdict. tied.verdicts y l (without_is x y w.under_way l tied.ascends e) verdict;
  }

  -- it is the step of the definitions
  pub gone_is : cluster.step work w (Take x) ≡ gone
  gone_is =
      ap (cluster.take_found work w) there
      ∙ ap (cluster.take_at work w l) at_receiver
      ∙ ap (λ (y : Name). (let v : World = record {
        sites = slice_set w.sites y.to (work.take s l);
        under_way = without y w.under_way;
      } in v)) named
