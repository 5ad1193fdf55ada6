-- The choices of a world are those of the skeleton that stands as it does, and so is what is missing.
use Rattle.std.proofs.Common.{◌≡◌, ℕ, ◌≤◌, Bool, true, ◌&&◌, not, List, ◌++◌, length, map, Option, Some, None, refl, ap, sym, ◌∙◌, subst, arith, slice_get}
use Rattle.std.proofs.Math.Bool.{and-true}
use Rattle.std.proofs.lemmas.List.{length-map, nil_from_length}
use Rattle.std.proofs.lemmas.Option.{slice_get-map}
use Rattle.std.proofs.lemmas.Simd.{map-map}
use Rattle.std.specs.List.{Contains, filter, range_with_len}
use Rattle.std.specs.Option.{option_map}
use Rattle.vert_base.specs.declared.message.Name.{Name}
use Rattle.vert_base.specs.declared.message.Event.{Event}
use Rattle.vert_base.specs.declared.message.Event.TheVariants.{Go, Take}
use Rattle.vert_base.specs.declared.value.Ruling.TheVariants.{Stop}
use Rattle.vert_base.specs.Letters.{Letter}
use Rattle.circulant_plan.specs.declared.spot.Ring.{Ring}
use Rattle.circulant_plan.specs.declared.spot.Spot.{Spot}
use Rattle.circulant_plan.specs.declared.spot.Spot.TheVariants.{Tell, Judge, Begin, Scan, Close, Over}
use Rattle.circulant_plan.specs.Choosing.{could_act, goes_of, names_in_order}
use Rattle.circulant_plan.specs.Choosing as skeleton
use Rattle.circulant_plan.specs.Skeleton.{Blocks, can_go, is_over, is_possible, is_ready, rules_rightly}
use Rattle.circulant_plan.specs.Standing.{Standing}
use Rattle.skeleton_laws.specs.Laws.{EachOnce, NamesRise}
use Rattle.skeleton_laws.proofs.ChoiceLaws.{choices_are}
use Rattle.skeleton_laws.proofs.LeastLaws.{is_least, same_bool}
use Rattle.instrument.specs.declared.split.Split.{Split}
use Rattle.symple_face.specs.Cluster.{IsOneRun, World, can_act, choices_of, goes, missing_of, possible, ready_machines, takes}
use Rattle.symple_face.specs.Lawful.{IsLawful}
use Rattle.symple_face.specs.Parts.{PlainPart}
use Rattle.symple_face.specs.Plans.{blocks_of, ring_of}
use Rattle.symple_face.specs.State.{State}
use Rattle.symple_face.specs.Work.{Work}
use Rattle.cluster_run.specs.Choices.{AreChoices, IsLeast}
use Rattle.cluster_run.proofs.ChoiceLists.{ready_by}
use Rattle.cluster_run.proofs.LetterLists.{names_of, ordered_names}
use Rattle.cluster_run.proofs.PartsAt.{parts_few}
use Rattle.cluster_run.proofs.ReachedWorlds.{IsTied}
use Rattle.cluster_run.proofs.Worlds.{goes_ready, ready_goes}

-- a judge may always rule a stop, so by it a machine can go exactly where it could act
may_stop : (blocks : Blocks) (spot : Spot) → rules_rightly blocks Stop spot ≡ true
may_stop blocks Tell = refl
may_stop blocks (Judge r) = refl
may_stop blocks (Begin r) = refl
may_stop blocks (Scan r s h) = refl
may_stop blocks (Close r dense) = refl
may_stop blocks Over = refl

goes_by_stop : (ring : Ring) (blocks : Blocks) (m : ℕ) (o : Option Standing) (taken : List Name) →
    could_act ring m o taken ≡ can_go ring blocks Stop m o taken
goes_by_stop ring blocks m None taken = refl
goes_by_stop ring blocks m (Some s) taken =
    ap (λ b. not (is_over s.spot) && b)
    (sym (and-true (is_ready ring m s taken))
    ∙ sym (ap (λ b. is_ready ring m s taken && b) (may_stop blocks s.spot)))

module _ (work : Work) (sound : State → Type 0) (lawful : IsLawful work sound) (split : Split)
    (parts : List PlainPart) (one : IsOneRun parts) (w : World) (t : IsTied sound split parts w) where
  abbrev ring : Ring
  ring = ring_of split (length parts)

  abbrev blocks : Blocks
  blocks = blocks_of split

  few : length parts ≤ 64
  few = parts_few parts one

  -- what is possible
  standing_there : (m : ℕ) → slice_get t.k.standings m ≡ option_map (λ s. s.at) (slice_get w.sites m)
  standing_there m = ap (λ ss. slice_get ss m) (sym t.alike.standings) ∙ slice_get-map (λ (s : State). s.at) w.sites m

  acts_by : (m : ℕ) (o : Option State) → slice_get w.sites m ≡ o →
      can_act o ≡ could_act ring m (option_map (λ s. s.at) o) t.k.taken
  acts_by m None at = refl
  acts_by m (Some s) at =
      same_bool (can_act (Some s)) (could_act ring m (Some s.at) t.k.taken)
      (ready_goes work sound lawful split parts few w t.k t.alike t.reached m s at)
      (goes_ready work sound lawful split parts few w t.k t.alike t.reached m s at)

  acts_alike : (m : ℕ) → can_act (slice_get w.sites m) ≡ could_act ring m (slice_get t.k.standings m) t.k.taken
  acts_alike m =
      acts_by m (slice_get w.sites m) refl ∙ ap (λ o. could_act ring m o t.k.taken) (sym (standing_there m))

  pub possible_alike : (e : Event) → possible w e ≡ is_possible ring blocks Stop e t.k
  possible_alike (Go m) = acts_alike m ∙ goes_by_stop ring blocks m (slice_get t.k.standings m) t.k.taken
  possible_alike (Take x) = t.alike.flies x

  -- the lists of what is possible
  count_alike : length w.sites ≡ length t.k.standings
  count_alike = sym (length-map w.sites (λ (s : State). s.at)) ∙ ap length t.alike.standings

  ready_alike : (test : ℕ → Bool) → ((m : ℕ) → can_act (slice_get w.sites m) ≡ test m) →
      ready_machines w ≡ filter test (range_with_len 0 (length t.k.standings))
  ready_alike test tells =
      ready_by test 0 w.sites (λ j m s at is. at_number j m s at (omega arith))
      ∙ ap (λ n. filter test (range_with_len 0 n)) count_alike
    where
      at_number : (j m : ℕ) (s : State) → slice_get w.sites j ≡ Some s → j ≡ m → can_act (Some s) ≡ test m
      at_number j m s at is = sym (ap can_act at) ∙ tells j ∙ ap test is

  names_alike : names_of w.under_way ≡ names_in_order t.k.under_way
  names_alike = sym (ordered_names t.k.under_way w.under_way t.alike.ascends t.alike.flies)

  takes_alike : takes w ≡ map (λ x. Take x) (names_in_order t.k.under_way)
  takes_alike =
      sym (map-map (λ (x : Name). Take x) (λ (l : Letter). l.name) w.under_way)
      ∙ ap (map (λ (x : Name). Take x)) names_alike

  choices_alike : choices_of w ≡ skeleton.choices_of ring blocks Stop t.k
  choices_alike =
      ap (λ ns. map (λ m. Go m) ns ++ takes w)
      (ready_alike (λ m. is_possible ring blocks Stop (Go m) t.k) (λ m. possible_alike (Go m)))
      ∙ ap (λ es. map (λ m. Go m) (goes_of ring blocks Stop t.k) ++ es) takes_alike

  -- and with no word of rulings
  pub next_alike : choices_of w ≡ map (λ m. Go m) (skeleton.ready_machines ring t.k)
      ++ map (λ x. Take x) (names_in_order t.k.under_way)
  next_alike =
      ap (λ ns. map (λ m. Go m) ns ++ takes w)
      (ready_alike (λ m. could_act ring m (slice_get t.k.standings m) t.k.taken) acts_alike)
      ∙ ap (λ es. map (λ m. Go m) (skeleton.ready_machines ring t.k) ++ es) takes_alike

  pub missing_alike : missing_of w ≡ skeleton.missing_of ring t.k
  missing_alike =
      ap (λ es. slice_get (es ++ goes w) 0) takes_alike
      ∙ ap (λ ns. slice_get (map (λ x. Take x) (names_in_order t.k.under_way) ++ map (λ m. Go m) ns) 0)
      (ready_alike (λ m. could_act ring m (slice_get t.k.standings m) t.k.taken) acts_alike)

  pub are_choices : AreChoices w
  are_choices =
      let of = choices_are ring blocks Stop t.k in
      record {
        are_possible = λ e there. possible_alike e ∙ of.possible e (subst (λ es. Contains es e) choices_alike there);
        listed = λ e can.
            subst (λ es. Contains es e) (sym choices_alike) (of.listed e (sym (possible_alike e) ∙ can));
        once = subst EachOnce (sym choices_alike) of.once;
        rise = subst NamesRise (sym names_alike) of.rise;
      }

  pub least_is_missing : IsLeast w
  least_is_missing =
      let of = is_least ring t.k in
      let was = sym missing_alike in
      record {
        take_flies = λ x is. t.alike.flies x ∙ of.take_flies x (was ∙ is);
        take_least = λ x y is flies. of.take_least x y (was ∙ is) (sym (t.alike.flies y) ∙ flies);
        go_alone = λ m is. nil_from_length w.under_way (t.alike.as_many ∙ ap length (of.go_alone m (was ∙ is)));
        go_ready = λ m is. acts_alike m ∙ of.go_ready m (was ∙ is);
        go_least = λ m j is before. acts_alike j ∙ of.go_least m j (was ∙ is) before;
      }
