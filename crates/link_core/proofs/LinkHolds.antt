-- What holds of links in each state that possible events leave.
use Rattle.std.proofs.Common.{◌≡◌, ℕ, ◌+◌, ◌≤◌, Bool, true, false, ◌&&◌, ◌||◌, not, List, [], ◌∷◌, length, Option, Some, None, refl, ap, sym, ◌∙◌, subst, ⊎_elim, slice_get}
use Rattle.std.specs.Prelude.{if◌then◌else◌, is_some, min, nat_le, nat_lt}
use Rattle.std.proofs.lemmas.Bool.{and_parts, cases_Bool, false≢true, not-true, or_left}
use Rattle.vert_base.specs.declared.message.Name.{Name}
use Rattle.vert_base.specs.declared.message.Event.TheVariants as plain
use Rattle.vert_base.specs.HeaderBytes.{is_proper}
use Rattle.vert_base.specs.Letters.{Letter, found}
use Rattle.vert_base.specs.Names.{same_name}
use Rattle.circulant_plan.specs.Skeleton.{Skeleton, has_name}
use Rattle.circulant_plan.proofs.Members.{Has}
use Rattle.circulant_plan.proofs.NameLists.{Once, has_from_name, same_as_self}
use Rattle.skeleton_laws.proofs.OrderLaws.{each_is_takeable}
use Rattle.instrument.specs.declared.split.Split.{Split}
use Rattle.symple_face.specs.Cluster.{IsOneRun, World, can_act, finished, possible, step}
use Rattle.symple_face.specs.Cluster as cluster
use Rattle.symple_face.specs.Lawful.{IsLawful, acting}
use Rattle.symple_face.specs.Parts.{PlainPart}
use Rattle.symple_face.specs.Plans.{blocks_of, ring_of}
use Rattle.symple_face.specs.State.{State, machine, p_of}
use Rattle.symple_face.specs.Work.{Work}
use Rattle.cluster_run.proofs.GoWorlds as go
use Rattle.cluster_run.proofs.LetterLists.{has_all_placed, has_letter, name_but_for, names_of}
use Rattle.cluster_run.proofs.PartsAt.{parts_few}
use Rattle.cluster_run.proofs.ReachedWorlds.{IsTied}
use Rattle.cluster_run.proofs.TakeWorlds as take
use Rattle.cluster_run.proofs.Worlds.{IsSkeletonOf}
use Rattle.link_core.specs.declared.event.LinkEvent.{LinkEvent}
use Rattle.link_core.specs.declared.event.LinkEvent.TheVariants.{Go, Take, Lose, Again, Ack, Drop}
use Rattle.link_core.specs.Links.{Linked, can_happen, link_after, link_possible, link_step, links_possible, sent_by}
use Rattle.link_core.specs.Piles.{count_of}
use Rattle.link_core.specs.Traffic.{Traffic, acknowledged, all_sent, dropped, has_ack, has_copy, lost, repeated, taken}
use Rattle.link_core.proofs.GiftNames.{gift_proper}
use Rattle.link_core.proofs.PileLaws.{fewer_are, more_are}
use Rattle.link_core.proofs.TrafficLaws.{Counts, IsTraffic, all_sent_acks, all_sent_is, counts_of, new_apart, new_once, none_fewer, none_sent, not_either, once_sent}
use Rattle.link_core.proofs.WireLaws.{other_fewer, other_more}
use Rattle.state_laws.proofs.Letters.{apart_names}

-- nothing of a name is on the wire or kept
pub record IsUnknown (t : Traffic) (x : Name) : Type 0 where
  pub copies : count_of x t.copies ≡ 0
  pub acks : count_of x t.acks ≡ 0
  pub kept : count_of x t.kept ≡ 0

-- a message that isn't accepted is kept, and nothing acknowledges it
pub record IsWaiting (t : Traffic) (x : Name) : Type 0 where
  pub kept : count_of x t.kept ≡ 1
  pub acks : count_of x t.acks ≡ 0

-- a name that was neither sent nor taken
abbrev IsFresh : Skeleton → Name → Type 0
IsFresh k x = (has_name x k.under_way ≡ false) × (has_name x k.taken ≡ false)

-- the links stand as the skeleton does: of a name that wasn't sent there is nothing, a name under way waits, and each
-- name that is there is a proper one
pub record HoldsWith (t : Traffic) (k : Skeleton) : Type 0 where
  pub traffic : IsTraffic t
  pub proper : (x : Name) → is_proper x ≡ false → IsUnknown t x
  pub fresh : (x : Name) → IsFresh k x → IsUnknown t x
  pub waits : (x : Name) → has_name x k.under_way ≡ true → IsWaiting t x

some_count : (n : ℕ) → nat_le 1 n ≡ true → n ≡ 0 → ⊥
some_count n e zero = false≢true (sym (ap (nat_le 1) zero) ∙ e)

-- ---- events that leave the machines
module _ (t : Traffic) (k : Skeleton) (holds : HoldsWith t k) (x : Name) where
  lost_unknown : (y : Name) → IsUnknown t y → IsUnknown (lost x t) y
  lost_unknown y none = record {
    copies = none_fewer x y t.copies holds.traffic.copies none.copies;
    acks = none.acks;
    kept = none.kept;
  }

  pub lost_holds : HoldsWith (lost x t) k
  lost_holds = record {
    traffic = record {
      copies = fewer_are x t.copies holds.traffic.copies;
      acks = holds.traffic.acks;
      kept = holds.traffic.kept;
    };
    proper = λ y odd. lost_unknown y (holds.proper y odd);
    fresh = λ y new. lost_unknown y (holds.fresh y new);
    waits = λ y flies. record { kept = (holds.waits y flies).kept; acks = (holds.waits y flies).acks };
  }

  dropped_unknown : (y : Name) → IsUnknown t y → IsUnknown (dropped x t) y
  dropped_unknown y none = record {
    copies = none.copies;
    acks = none_fewer x y t.acks holds.traffic.acks none.acks;
    kept = none.kept;
  }

  pub dropped_holds : HoldsWith (dropped x t) k
  dropped_holds = record {
    traffic = record {
      copies = holds.traffic.copies;
      acks = fewer_are x t.acks holds.traffic.acks;
      kept = holds.traffic.kept;
    };
    proper = λ y odd. dropped_unknown y (holds.proper y odd);
    fresh = λ y new. dropped_unknown y (holds.fresh y new);
    waits = λ y flies. record {
      kept = (holds.waits y flies).kept;
      acks = none_fewer x y t.acks holds.traffic.acks (holds.waits y flies).acks;
    };
  }

  -- who has something isn't new
  module _ (has : nat_le 1 (count_of x t.kept) ≡ true) where
    repeated_unknown : (y : Name) → IsUnknown t y → IsUnknown (repeated x t) y
    repeated_unknown y none =
        let other = apart_names x y (λ same. some_count (count_of x t.kept) has
        (subst (λ z. count_of z t.kept ≡ 0) (sym same) none.kept)) in
        record {
          copies = other_more x y t.copies holds.traffic.copies.ascend other ∙ none.copies;
          acks = none.acks;
          kept = none.kept;
        }

    pub repeated_holds : HoldsWith (repeated x t) k
    repeated_holds = record {
      traffic = record {
        copies = more_are x t.copies holds.traffic.copies;
        acks = holds.traffic.acks;
        kept = holds.traffic.kept;
      };
      proper = λ y odd. repeated_unknown y (holds.proper y odd);
      fresh = λ y new. repeated_unknown y (holds.fresh y new);
      waits = λ y flies. record { kept = (holds.waits y flies).kept; acks = (holds.waits y flies).acks };
    }

  module _ (has : has_ack t x ≡ true) where
    ack_other : (y : Name) → has_name y k.under_way ≡ true → same_name x y ≡ false
    ack_other y flies =
        apart_names x y (λ same. some_count (count_of x t.acks) has
        (subst (λ z. count_of z t.acks ≡ 0) (sym same) (holds.waits y flies).acks))

    acknowledged_unknown : (y : Name) → IsUnknown t y → IsUnknown (acknowledged x t) y
    acknowledged_unknown y none = record {
      copies = none.copies;
      acks = none_fewer x y t.acks holds.traffic.acks none.acks;
      kept = none_fewer x y t.kept holds.traffic.kept none.kept;
    }

    pub acknowledged_holds : HoldsWith (acknowledged x t) k
    acknowledged_holds = record {
      traffic = record {
        copies = holds.traffic.copies;
        acks = fewer_are x t.acks holds.traffic.acks;
        kept = fewer_are x t.kept holds.traffic.kept;
      };
      proper = λ y odd. acknowledged_unknown y (holds.proper y odd);
      fresh = λ y new. acknowledged_unknown y (holds.fresh y new);
      waits = λ y flies. record {
        kept = other_fewer x y t.kept holds.traffic.kept.ascend (ack_other y flies) ∙ (holds.waits y flies).kept;
        acks = none_fewer x y t.acks holds.traffic.acks (holds.waits y flies).acks;
      };
    }

  -- a copy that is taken by a machine that has the message, or takes it now: the names under way after it are none of
  -- the copy's, and a new name is none of it either
  module _ (j : Skeleton) (has : has_copy t x ≡ true)
      (fewer_fly : (y : Name) → has_name y j.under_way ≡ true →
      (has_name y k.under_way ≡ true) × (same_name x y ≡ false))
      (new_before : (y : Name) → IsFresh j y → same_name x y ≡ false → IsFresh k y)
      (not_new : IsFresh j x → IsFresh k x) where
    copy_other : (y : Name) → IsFresh j y → same_name x y ≡ false
    copy_other y new =
        apart_names x y (λ same. some_count (count_of x t.copies) has
        (holds.fresh x (not_new (subst (IsFresh j) (sym same) new))).copies)

    taken_unknown : (y : Name) → IsUnknown t y → IsUnknown (taken x t) y
    taken_unknown y none =
        let other = apart_names x y (λ same. some_count (count_of x t.copies) has
        (subst (λ z. count_of z t.copies ≡ 0) (sym same) none.copies)) in
        record {
          copies = none_fewer x y t.copies holds.traffic.copies none.copies;
          acks = other_more x y t.acks holds.traffic.acks.ascend other ∙ none.acks;
          kept = none.kept;
        }

    pub taken_holds : HoldsWith (taken x t) j
    taken_holds = record {
      traffic = record {
        copies = fewer_are x t.copies holds.traffic.copies;
        acks = more_are x t.acks holds.traffic.acks;
        kept = holds.traffic.kept;
      };
      proper = λ y odd. taken_unknown y (holds.proper y odd);
      fresh = λ y new. taken_unknown y (holds.fresh y (new_before y new (copy_other y new)));
      waits = λ y flies.
          let before = fewer_fly y flies in
          record {
            kept = (holds.waits y before.0).kept;
            acks = other_more x y t.acks holds.traffic.acks.ascend before.1 ∙ (holds.waits y before.0).acks;
          };
    }

-- ---- a go, which sends names that are new
module _ (t : Traffic) (k j : Skeleton) (holds : HoldsWith t k) (names : List Name) (once : Once names)
    (apart : (x : Name) → has_name x k.under_way ≡ true → has_name x names ≡ false)
    (flies : (x : Name) → has_name x j.under_way ≡ (has_name x names || has_name x k.under_way))
    (untaken : (x : Name) → has_name x names ≡ true → has_name x k.taken ≡ false)
    (same_taken : (x : Name) → has_name x j.taken ≡ has_name x k.taken)
    (proper : (x : Name) → has_name x names ≡ true → is_proper x ≡ true) where
  others_stay : (x : Name) → has_name x names ≡ false → counts_of x (all_sent names t) ≡ counts_of x t
  others_stay x e = none_sent x names t holds.traffic e

  acks_stay : (x : Name) → count_of x (all_sent names t).acks ≡ count_of x t.acks
  acks_stay x = ap (count_of x) (all_sent_acks names t)

  unknown_stays : (x : Name) → has_name x names ≡ false → IsUnknown t x → IsUnknown (all_sent names t) x
  unknown_stays x e before =
      let stay = others_stay x e in
      record {
        copies = ap (λ (c : Counts). c.copies) stay ∙ before.copies;
        acks = acks_stay x ∙ before.acks;
        kept = ap (λ (c : Counts). c.kept) stay ∙ before.kept;
      }

  fresh_behind : (x : Name) → IsFresh j x → IsUnknown (all_sent names t) x
  fresh_behind x new =
      let both = not_either (has_name x names) (has_name x k.under_way) (sym (flies x) ∙ new.0) in
      unknown_stays x both.0 (holds.fresh x (both.1, sym (same_taken x) ∙ new.1))

  odd_stays : (x : Name) → is_proper x ≡ false → IsUnknown (all_sent names t) x
  odd_stays x odd =
      unknown_stays x
      (⊎_elim (λ (e : has_name x names ≡ true). absurd (false≢true (sym odd ∙ proper x e)))
      (λ (e : has_name x names ≡ false). e) (cases_Bool (has_name x names)))
      (holds.proper x odd)

  waits_new : (x : Name) → has_name x names ≡ true → IsWaiting (all_sent names t) x
  waits_new x e =
      let grounded : has_name x k.under_way ≡ false =
      ⊎_elim (λ (f : has_name x k.under_way ≡ true). absurd (false≢true (sym (apart x f) ∙ e)))
      (λ (f : has_name x k.under_way ≡ false). f) (cases_Bool (has_name x k.under_way)) in
      let before = holds.fresh x (grounded, untaken x e) in
      record {
        kept =
            ap (λ (c : Counts). c.kept) (once_sent x names t holds.traffic once e)
            ∙ ap (λ (n : ℕ). min (n + 1) 255) before.kept;
        acks = acks_stay x ∙ before.acks;
      }

  waits_old : (x : Name) → has_name x j.under_way ≡ true → has_name x names ≡ false → IsWaiting (all_sent names t) x
  waits_old x f e =
      let before = holds.waits x (sym (ap (λ b. b || has_name x k.under_way) e) ∙ sym (flies x) ∙ f) in
      record {
        kept = ap (λ (c : Counts). c.kept) (others_stay x e) ∙ before.kept;
        acks = acks_stay x ∙ before.acks;
      }

  pub sent_holds : HoldsWith (all_sent names t) j
  sent_holds = record {
    traffic = all_sent_is names t holds.traffic;
    proper = odd_stays;
    fresh = fresh_behind;
    waits = λ x f.
        ⊎_elim (λ (e : has_name x names ≡ true). waits_new x e) (λ (e : has_name x names ≡ false). waits_old x f e)
        (cases_Bool (has_name x names));
  }

-- ---- a world and its traffic
module _ (work : Work) (sound : State → Type 0) (lawful : IsLawful work sound) (split : Split)
    (parts : List PlainPart) (one : IsOneRun parts) where
  few : length parts ≤ 64
  few = parts_few parts one

  pub record HoldsAt (w : World) (t : Traffic) : Type 0 where
    pub tied : IsTied sound split parts w
    pub holds : HoldsWith t tied.k

  go_holds : (w : World) (t : Traffic) (m : ℕ) (o : Option State) → HoldsAt w t → slice_get w.sites m ≡ o →
      can_act o ≡ true → HoldsAt (cluster.go_at work w m o) (all_sent (sent_by work o) t)
  go_holds w t m None at here can = absurd (false≢true can)
  go_holds w t m (Some s) at here can =
      let k : Skeleton = at.tied.k in
      let j : Skeleton = go.next work sound lawful split parts few one w k at.tied.alike at.tied.reached m s here can in
      let reached = go.next_reached work sound lawful split parts few one w k at.tied.alike at.tied.reached m s here
      can in
      let alike = go.gone_tied work sound lawful split parts few one w k at.tied.alike at.tied.reached m s here can in
      let new = go.sent_new work sound lawful split parts few one w k at.tied.alike at.tied.reached m s here can in
      let names : List Name = names_of (work.sent s) in
      let flies : (x : Name) → has_name x j.under_way ≡ (has_name x names || has_name x k.under_way) =
      λ x. sym (alike.flies x) ∙ has_all_placed x (work.sent s) w.under_way
      ∙ ap (λ b. has_name x names || b) (at.tied.alike.flies x) in
      record {
        tied = record { k = j; reached = reached; alike = alike };
        holds = sent_holds t k j at.holds names (new_once (work.sent s) w.under_way new)
            (λ x f. new_apart (work.sent s) w.under_way new x (at.tied.alike.flies x ∙ f))
            flies
            (λ x e. (each_is_takeable (ring_of split (length parts)) (blocks_of split) j x reached
            (flies x ∙ or_left (has_name x names) (has_name x k.under_way) e)).new)
            (λ x. refl)
            (λ x e. gift_proper (ring_of s.split (p_of s)) (machine s) s.at.spot (acting work s) x
            (subst (λ xs. Has xs x) (lawful.sent_names s) (has_from_name x names e)));
      }

  -- a copy of a message that was accepted before
  again_holds : (w : World) (t : Traffic) (x : Name) → HoldsAt w t → has_copy t x ≡ true →
      has_letter x w.under_way ≡ false → HoldsAt w (taken x t)
  again_holds w t x at has gone = record {
    tied = at.tied;
    holds =
        let grounded : has_name x at.tied.k.under_way ≡ false = sym (at.tied.alike.flies x) ∙ gone in
        taken_holds t at.tied.k at.holds x at.tied.k has
        (λ y flies. (
          flies,
          apart_names x y (λ same. false≢true (sym grounded
              ∙ subst (λ z. has_name z at.tied.k.under_way ≡ true) (sym same) flies)),
        ))
        (λ y new other. new)
        (λ new. new);
  }

  first_holds : (w : World) (t : Traffic) (x : Name) (o : Option Letter) → HoldsAt w t → has_copy t x ≡ true →
      found x w.under_way ≡ o → is_some o ≡ true → HoldsAt (step work w (plain.Take x)) (taken x t)
  first_holds w t x None at has there some = absurd (false≢true some)
  first_holds w t x (Some l) at has there some =
      let k : Skeleton = at.tied.k in
      let j : Skeleton = take.next work sound lawful split parts few one w k at.tied.alike at.tied.reached x l there in
      record {
        tied = record {
          k = j;
          reached = take.next_reached work sound lawful split parts few one w k at.tied.alike at.tied.reached x l
              there;
          alike =
              subst (λ v. IsSkeletonOf sound split parts v j)
              (sym (take.gone_is work sound lawful split parts few one w k at.tied.alike at.tied.reached x l there))
              (take.gone_tied work sound lawful split parts few one w k at.tied.alike at.tied.reached x l there);
        };
        holds = taken_holds t k at.holds x j has
            (λ y flies. let both = and_parts (not (same_name x y)) (has_name y k.under_way)
            (sym (name_but_for x y k.under_way) ∙ flies) in (both.1, not-true (same_name x y) both.0))
            (λ y new other. (
              left_out (same_name x y) (has_name y k.under_way) other (sym (name_but_for x y k.under_way) ∙ new.0),
              (not_either (same_name y x) (has_name y k.taken) new.1).1,
            ))
            (λ new. absurd (false≢true (sym new.1 ∙ or_left (same_name x x) (has_name x k.taken) (same_as_self x))));
      }
    where
      left_out : (b c : Bool) → b ≡ false → (not b && c) ≡ false → c ≡ false
      left_out true c e f = absurd (false≢true (sym e))
      left_out false c e f = f

  take_holds : (w : World) (t : Traffic) (x : Name) (b : Bool) → HoldsAt w t → has_copy t x ≡ true →
      has_letter x w.under_way ≡ b → HoldsAt (if b then step work w (plain.Take x) else w) (taken x t)
  take_holds w t x true at has there = first_holds w t x (found x w.under_way) at has refl there
  take_holds w t x false at has gone = again_holds w t x at has gone

  happens : (l : Linked) (e : LinkEvent) → HoldsAt l.world l.traffic → can_happen l e ≡ true →
      HoldsAt (link_step work l e).world (link_step work l e).traffic
  happens l (Go m) at can = go_holds l.world l.traffic m (slice_get l.world.sites m) at refl can
  happens l (Take x) at can = take_holds l.world l.traffic x (has_letter x l.world.under_way) at can refl
  happens l (Lose x) at can = record { tied = at.tied; holds = lost_holds l.traffic at.tied.k at.holds x }
  happens l (Again x) at can = record {
    tied = at.tied;
    holds = repeated_holds l.traffic at.tied.k at.holds x
        (and_parts (nat_le 1 (count_of x l.traffic.kept)) (nat_lt (count_of x l.traffic.copies) 255) can).0;
  }
  happens l (Ack x) at can = record { tied = at.tied; holds = acknowledged_holds l.traffic at.tied.k at.holds x can }
  happens l (Drop x) at can = record { tied = at.tied; holds = dropped_holds l.traffic at.tied.k at.holds x }

  pub step_holds : (l : Linked) (e : LinkEvent) → HoldsAt l.world l.traffic → link_possible l e ≡ true →
      HoldsAt (link_step work l e).world (link_step work l e).traffic
  step_holds l e at can = happens l e at (and_parts (not (finished l.world)) (can_happen l e) can).1

  pub after_holds : (l : Linked) (es : List LinkEvent) → HoldsAt l.world l.traffic → links_possible work l es ≡ true →
      HoldsAt (link_after work l es).world (link_after work l es).traffic
  after_holds l [] at can = at
  after_holds l (e ∷ es) at can =
      let both = and_parts (link_possible l e) (links_possible work (link_step work l e) es) can in
      after_holds (link_step work l e) es (step_holds l e at both.0) both.1
