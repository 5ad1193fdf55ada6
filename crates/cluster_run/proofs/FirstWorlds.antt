-- The first worlds, and the skeletons that stand as they do.
use Rattle.std.proofs.Common.{◌≡◌, ◌≢◌, ℕ, suc, ◌<◌, true, false, ◌&&◌, not, List, [], ◌∷◌, length, map, Some, None, refl, ap, sym, ◌∙◌, subst, inl, inr, arith, slice_get}
use Rattle.std.specs.Prelude.{◌==◌, replicate}
use Rattle.std.specs.List.{All}
use Rattle.std.proofs.lemmas.Bool.{false≢true, and_parts, and_from, not-true, not_from_false}
use Rattle.std.proofs.lemmas.List.{length-map}
use Rattle.std.proofs.lemmas.List.Elements.{All-get_or}
use Rattle.std.proofs.lemmas.Option.{get_or_from_slice_get, slice_get_within}
use Rattle.vert_base.specs.declared.message.Name.{Name}
use Rattle.vert_base.specs.declared.value.Ruling.{Ruling}
use Rattle.vert_base.specs.Letters.{Letter, Ascends, found}
use Rattle.vert_base.specs.Names.{same_name}
use Rattle.vert_base.proofs.LetterLaws.{names_law}
use Rattle.circulant_plan.specs.declared.spot.Spot.TheVariants.{Begin}
use Rattle.circulant_plan.specs.Names.{verdict_name}
use Rattle.circulant_plan.specs.Skeleton.{Skeleton, first_skeleton, has_name, resumed_skeleton, ruling_in}
use Rattle.circulant_plan.specs.Standing.{Standing, first_standing, standing_at}
use Rattle.circulant_plan.specs.Table.{others_of}
use Rattle.circulant_plan.proofs.Members.{Has, has_map, has_map_cases, has_others, has_others_cases}
use Rattle.circulant_plan.proofs.NameLists.{has_from_name, name_from_has, same_as_self}
use Rattle.circulant_plan.proofs.StandingLaws.{not_zero}
use Rattle.skeleton_laws.proofs.GoFacts.{ruling_here}
use Rattle.instrument.specs.declared.split.Split.{Split}
use Rattle.symple_face.specs.Cluster.{IsOneRun, World, first_world}
use Rattle.symple_face.specs.Lawful.{CanRun, IsLawful}
use Rattle.symple_face.specs.Parts.{PlainPart}
use Rattle.symple_face.specs.State.{State}
use Rattle.symple_face.specs.Work.{Work}
use Rattle.cluster_run.specs.Driven.{IsRestarted}
use Rattle.cluster_run.proofs.GoWorlds.{same_from}
use Rattle.cluster_run.proofs.LetterLists.{has_letter}
use Rattle.skeleton_laws.proofs.LeastLaws.{same_bool}
use Rattle.cluster_run.proofs.PartsAt.{part_at, parts_count, parts_some}
use Rattle.cluster_run.proofs.SiteLists.{map_get_back}
use Rattle.cluster_run.proofs.Worlds.{IsMachine, IsSkeletonOf, Knows, is_for, is_for_it}

pub all_at : {X : Type 0} → (P : X → Type 0) (xs : List X) (m : ℕ) (x : X) → All P xs → slice_get xs m ≡ Some x → P x
all_at P xs m x all at =
    subst P (get_or_from_slice_get xs m x x at) (All-get_or P xs m x (slice_get_within xs m x at) all)

replicated : {X Y : Type 0} → (f : X → Y) (xs : List X) (y : Y) →
    ((m : ℕ) (x : X) → slice_get xs m ≡ Some x → f x ≡ y) → map f xs ≡ replicate (length xs) y
replicated f [] y each = refl
replicated f (x ∷ xs) y each = ap (λ z. z ∷ map f xs) (each 0 x refl)
    ∙ ap (λ zs. y ∷ zs) (replicated f xs y (λ m z at. each (suc m) z at))

nothing_found : (ms : List Letter) → ms ≡ [] → (x : Name) (l : Letter) → found x ms ≡ Some l → ⊥
nothing_found ms e x l at = let none : found x [] ≡ Some l = subst (λ ys. found x ys ≡ Some l) e at in
    let no : None ≡ Some l = none in cc

not_held : (held : List Letter) → held ≡ [] → (x : Name) → has_letter x held ≡ false
not_held held e x = ap (has_letter x) e

module _ (work : Work) (sound : State → Type 0) (lawful : IsLawful work sound) (split : Split)
    (parts : List PlainPart) (one : IsOneRun parts) where
  -- the part of a machine has its number
  numbered : (m : ℕ) (part : PlainPart) → slice_get parts m ≡ Some part → (part.at.machine ≡ m) ×
      (part.at.machines ≡ length parts)
  numbered m part at =
      let is = part_at parts one m part at in (
        ap (λ (q : PlainPart). q.at.machine) is.0,
        ap (λ (q : PlainPart). q.at.machines) is.0
            ∙ sym (parts_count parts one),
      )

  module _ (can_run : All (λ part. CanRun part split) parts) where
    abbrev fresh : World
    fresh = first_world work split parts

    first_made : (m : ℕ) (s : State) → slice_get fresh.sites m ≡ Some s → (part : PlainPart) ×
        (slice_get parts m ≡ Some part) × (work.first part split ≡ s)
    first_made m s at = map_get_back (λ part. work.first part split) parts m s at

    first_machine : (m : ℕ) (s : State) → slice_get fresh.sites m ≡ Some s → IsMachine sound split parts m s
    first_machine m s at =
        let made = first_made m s at in
        let number = numbered m made.0 made.1 in
        subst (IsMachine sound split parts m) made.2 (record {
          part = made.1 ∙ ap (λ part. Some part) (sym (lawful.first_part made.0 split));
          split_is = lawful.first_split made.0 split;
          number = ap (λ (q : PlainPart). q.at.machine) (lawful.first_part made.0 split) ∙ number.0;
          count = ap (λ (q : PlainPart). q.at.machines) (lawful.first_part made.0 split) ∙ number.1;
          is_sound = lawful.first_sound made.0 split (all_at (λ part. CanRun part split) parts m made.0 can_run made.1);
        })

    first_at : (m : ℕ) (s : State) → slice_get fresh.sites m ≡ Some s → s.at ≡ first_standing
    first_at m s at = let made = first_made m s at in
        subst (λ (q : State). q.at ≡ first_standing) made.2 (lawful.first_at made.0 split)

    first_held : (m : ℕ) (s : State) → slice_get fresh.sites m ≡ Some s → s.held ≡ []
    first_held m s at = let made = first_made m s at in
        subst (λ (q : State). q.held ≡ []) made.2 (lawful.first_held made.0 split)

    first_count : length fresh.sites ≡ length parts
    first_count = length-map parts (λ part. work.first part split)

    first_knows : (m : ℕ) (s : State) → slice_get fresh.sites m ≡ Some s → Knows m s → ⊥
    first_knows m s at (inl early) = let none = ap (λ (t : Standing). t.round) (first_at m s at) in
        let late = early.1 in omega arith
    first_knows m s at (inr told) = false≢true (sym (not_held s.held (first_held m s at) (verdict_name s.at.round m))
        ∙ told)

    pub first_tied : IsSkeletonOf sound split parts fresh (first_skeleton (length parts))
    first_tied = record {
      count = first_count;
      machines = first_machine;
      standings = replicated (λ (s : State). s.at) fresh.sites first_standing first_at
          ∙ ap (λ n. replicate n first_standing) first_count;
      held = λ m s at on x. not_held s.held (first_held m s at) x;
      rulings = λ m s at on knows. absurd (first_knows m s at knows);
      flies = λ x. refl;
      as_many = refl;
      ascends = tt;
      fit = λ x l at part to. absurd (nothing_found [] refl x l at);
      verdicts = λ x l at verdict. absurd (nothing_found [] refl x l at);
    }

  module _ (round : ℕ) (ruling : Ruling) (w : World) (is : IsRestarted sound split parts round ruling w) where
    abbrev k : Skeleton
    k = resumed_skeleton (length parts) round ruling

    begun_machine : (m : ℕ) (s : State) → slice_get w.sites m ≡ Some s → IsMachine sound split parts m s
    begun_machine m s at =
        let it = is.each m s at in
        let number = numbered m s.part it.part in
        record { part = it.part; split_is = it.split_is; number = number.0; count = number.1; is_sound = it.is_sound }

    within : (m : ℕ) (s : State) → slice_get w.sites m ≡ Some s → m < length parts
    within m s at = let lt = slice_get_within w.sites m s at in let count = is.count in omega arith

    told : (m : ℕ) (s : State) → slice_get w.sites m ≡ Some s → (x : Name) →
        has_letter x s.held ≡ (has_name x k.taken && is_for m s.at.round x)
    told m s at x =
        let it = is.each m s at in
        let at_round : s.at.round ≡ round = ap (λ (t : Standing). t.round) it.at in
        it.held x
        ∙ same_bool (not (m == 0) && same_name (verdict_name round m) x) (has_name x k.taken && is_for m round x)
        (λ e.
        let c = and_parts (not (m == 0)) (same_name (verdict_name round m) x) e in
        let named : verdict_name round m ≡ x = names_law (verdict_name round m) x c.1 in
        let later : m ≢ 0 = λ zero_is. false≢true (sym (not-true (m == 0) c.0) ∙ ap (λ n. n == 0) zero_is) in
        let there : Has k.taken (verdict_name round m) =
        has_map (verdict_name round) (others_of (length parts) 0) m
        (has_others (length parts) 0 m (parts_some parts one) (within m s at) later) in
        and_from (has_name x k.taken) (is_for m round x)
        (subst (λ y. has_name y k.taken ≡ true) named (name_from_has (verdict_name round m) k.taken there))
        (is_for_it m round x (sym (ap (λ (y : Name). y.to) named)) (sym (ap (λ (y : Name). y.round) named))))
        (λ e.
        let c = and_parts (has_name x k.taken) (is_for m round x) e in
        let f = and_parts (x.to == m) (x.round == round) c.1 in
        let of = has_map_cases (verdict_name round) (others_of (length parts) 0) x (has_from_name x k.taken c.0) in
        let o = has_others_cases (length parts) 0 of.0 (parts_some parts one) of.1 in
        let to : of.0 ≡ m = ap (λ (y : Name). y.to) of.2 ∙ same_from x.to m f.0 in
        and_from (not (m == 0)) (same_name (verdict_name round m) x)
        (not_from_false (m == 0) (not_zero m (λ z. o.1 (to ∙ z))))
        (subst (λ j. same_name (verdict_name round j) x ≡ true) to
        (subst (λ y. same_name y x ≡ true) (sym of.2) (same_as_self x))))
        ∙ ap (λ r. has_name x k.taken && is_for m r x) (sym at_round)

    begun_ruling : (m : ℕ) (s : State) → slice_get w.sites m ≡ Some s → s.ruling ≡ ruling_in k.rulings s.at.round
    begun_ruling m s at =
        let it = is.each m s at in
        it.ruling_is ∙ sym (ruling_here [] ruling round)
        ∙ ap (ruling_in k.rulings) (sym (ap (λ (t : Standing). t.round) it.at))

    pub restarted_tied : IsSkeletonOf sound split parts w k
    restarted_tied = record {
      count = is.count;
      machines = begun_machine;
      standings =
          replicated (λ (s : State). s.at) w.sites (standing_at round (Begin round)) (λ m s at. (is.each m s at).at)
          ∙ ap (λ n. replicate n (standing_at round (Begin round))) is.count;
      held = λ m s at on x. told m s at x;
      rulings = λ m s at on knows. begun_ruling m s at;
      flies = λ x. not_held w.under_way is.still x;
      as_many = ap length is.still;
      ascends = subst Ascends (sym is.still) tt;
      fit = λ x l at part to. absurd (nothing_found w.under_way is.still x l at);
      verdicts = λ x l at verdict. absurd (nothing_found w.under_way is.still x l at);
    }
