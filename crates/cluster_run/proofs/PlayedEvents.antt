-- An event that is played: what it leaves is the step of the definition, reached, and nearer to the end.
use Rattle.std.proofs.Common.{◌≡◌, ℕ, ◌<◌, ◌≤◌, true, false, List, length, map, get_or, Some, None, ap, sym, ◌∙◌, subst, arith, slice_get}
use Rattle.std.specs.Prelude.{if◌then◌else◌, slice_set, is_some}
use Rattle.std.proofs.lemmas.List.{length-map}
use Rattle.std.proofs.lemmas.Option.{slice_get_within}
use Rattle.vert_base.specs.declared.message.Name.{Name}
use Rattle.vert_base.specs.declared.message.Event.{Event}
use Rattle.vert_base.specs.declared.message.Event.TheVariants.{Go, Take}
use Rattle.vert_base.specs.Letters.{Letter, found, without}
use Rattle.vert_base.proofs.LetterLaws.{absent, found_name}
use Rattle.symple_face.specs.declared.action.Action.TheVariants.{Ready}
use Rattle.symple_face.specs.Cluster.{World, all_placed, can_act, events_left, go_at, is_ready, possible, step, take_at, take_found}
use Rattle.symple_face.specs.Lawful.{IsLawful}
use Rattle.symple_face.specs.State.{IsTakeable, State, action_of}
use Rattle.symple_face.specs.Work.{Work}
use Rattle.cluster_run.specs.declared.fault.EventFault.TheVariants.{NotUnderWay}
use Rattle.cluster_run.specs.Driven.{IsReached, world_of}
use Rattle.cluster_run.specs.Faults.{action_fault, event_fault, go_fault}
use Rattle.cluster_run.specs.Sends.{CanSend}
use Rattle.cluster_run.proofs.MachineMoves.{state_at}
use Rattle.cluster_run.proofs.ReachedWorldLaws.{reached_few, reached_nearer, reached_sends, reached_takes, steps_on}
use Rattle.cluster_run.proofs.SiteLists.{get_one}

pub record IsDone (work : Work) (sound : State → Type 0) (old new : World) (e : Event) : Type 0 where
  pub free : event_fault old e ≡ None
  pub is : new ≡ step work old e
  pub reached : IsReached work sound new
  pub nearer : events_left new < events_left old
  pub few : length new.sites ≤ 64

module _ (work : Work) (sound : State → Type 0) where
  done : IsLawful work sound → (old new : World) (e : Event) → IsReached work sound old →
      possible old e ≡ true → event_fault old e ≡ None → new ≡ step work old e → IsDone work sound old new e
  done lawful old new e r can free is =
      let on : IsReached work sound new = subst (IsReached work sound) (sym is) (steps_on work sound old e r can) in
      record {
        free = free;
        is = is;
        reached = on;
        nearer = subst (λ w. events_left w < events_left old) (sym is) (reached_nearer work sound lawful old r e can);
        few = reached_few work sound lawful new on;
      }

module _ {X : Type 0} (work : Work) (sound : State → Type 0) (lawful : IsLawful work sound) (state : X → State)
    (xs : List X) (flight : List Letter) (r : IsReached work sound (world_of state xs flight)) where
  -- a machine that is ready
  module _ (at : ℕ) (x : X) (lt : at < length xs) (here : x ≡ get_or xs at x) (ready : Ready ≡ action_of (state x))
    where
      there : slice_get (map state xs) at ≡ Some (state x)
      there = state_at state xs at x lt here

      can : can_act (Some (state x)) ≡ true
      can = ap is_ready (sym ready)

      pub ready_there : (s : State) → slice_get (map state xs) at ≡ Some s → action_of s ≡ Ready
      ready_there s is = subst (λ q. action_of q ≡ Ready) (get_one (slice_get (map state xs) at) (state x) s there is)
          (sym ready)

      pub room_there : (s : State) → slice_get (map state xs) at ≡ Some s → CanSend (work.sent s) flight
      room_there s is =
          reached_sends work sound lawful (world_of state xs flight) r at s is
          (subst (λ q. can_act (Some q) ≡ true) (get_one (slice_get (map state xs) at) (state x) s there is) can)

      pub go_done : (ys : List X) (after : List Letter) (m : ℕ) → at ≡ m →
          ((s : State) → slice_get (map state xs) at ≡ Some s →
          map state ys ≡ slice_set (map state xs) at (work.go s)) →
          ((s : State) → slice_get (map state xs) at ≡ Some s → after ≡ all_placed (work.sent s) flight) →
          IsDone work sound (world_of state xs flight) (world_of state ys after) (Go m)
      go_done ys after m same sites sent =
          subst (λ i. IsDone work sound (world_of state xs flight) (world_of state ys after) (Go i)) same
          (done work sound lawful (world_of state xs flight) (world_of state ys after) (Go at) r
          (ap can_act there ∙ can)
          (ap go_fault there ∙ ap action_fault (sym ready))
          (ap (λ ss. (let w : World = record { sites = ss; under_way = after } in w)) (sites (state x) there)
          ∙ ap (λ ms. (let w : World = record {
            sites = slice_set (map state xs) at (work.go (state x));
            under_way = ms;
          } in w)) (sent (state x) there)
          ∙ sym (ap (go_at work (world_of state xs flight) at) there)))

  -- a message that is under way
  module _ (x : Name) (l : Letter) (flies : found x flight ≡ Some l) where
    abbrev receiver : (s : State) × (slice_get (map state xs) l.name.to ≡ Some s) × IsTakeable s l
    receiver = reached_takes work sound lawful (world_of state xs flight) r x l flies

    pub take_within : l.name.to < length xs
    take_within =
        let lt = slice_get_within (map state xs) l.name.to receiver.0 receiver.1 in
        let size = length-map xs state in
        omega arith

    pub take_fits : (s : State) → slice_get (map state xs) l.name.to ≡ Some s → IsTakeable s l
    take_fits s is = subst (λ q. IsTakeable q l)
        (get_one (slice_get (map state xs) l.name.to) receiver.0 s receiver.1 is) receiver.2

    pub take_done : (ys : List X) (after : List Letter) →
        ((s : State) → slice_get (map state xs) l.name.to ≡ Some s →
        map state ys ≡ slice_set (map state xs) l.name.to (work.take s l)) →
        after ≡ without x flight → IsDone work sound (world_of state xs flight) (world_of state ys after) (Take x)
    take_done ys after sites rest =
        let named : l.name ≡ x = found_name x flight l flies in
        let can : possible (world_of state xs flight) (Take x) ≡ true = ap is_some flies in
        done work sound lawful (world_of state xs flight) (world_of state ys after) (Take x) r can
        (ap (λ b. if b then None else Some NotUnderWay) can)
        (ap (λ ss. (let w : World = record { sites = ss; under_way = after } in w)) (sites receiver.0 receiver.1)
        ∙ ap (λ ms. (let w : World = record {
          sites = slice_set (map state xs) l.name.to (work.take receiver.0 l);
          under_way = ms;
        } in w))
        (rest ∙ ap (λ y. without y flight) (sym named))
        ∙ sym (ap (take_at work (world_of state xs flight) l) receiver.1)
        ∙ sym (ap (take_found work (world_of state xs flight)) flies))

-- nothing is taken out where nothing is found
pub none_taken : (x : Name) (flight after : List Letter) → None ≡ found x flight → after ≡ without x flight →
    (after ≡ flight) × (is_some (found x flight) ≡ false)
none_taken x flight after none rest = (rest ∙ absent x flight (sym none), sym (ap is_some none))
