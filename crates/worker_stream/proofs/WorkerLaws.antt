-- What a machine does with a stream is said by cases, and so many actions and messages are enough for it.
use Rattle.std.proofs.Common.{◌≡◌, ℕ, zero, suc, ◌+◌, ◌<◌, ◌≤◌, ◌∙◌, Bool, true, false, not, ◌&&◌, Option, Some, None, List, length, take, drop, refl, sym, ap, arith}
use Rattle.std.specs.Prelude.{◌==◌, nat_lt, is_some, if◌then◌else◌}
use Rattle.std.proofs.lemmas.Bool.{and_parts, eqb-true, ltb-false}
use Rattle.std.proofs.lemmas.List.{length-drop}
use Rattle.vert_base.specs.declared.message.Name.{Name}
use Rattle.vert_base.specs.HeaderBytes.{is_proper}
use Rattle.vert_base.specs.Letters.{Letter, found}
use Rattle.circulant_plan.specs.Skeleton.{is_over}
use Rattle.body_shape.specs.declared.shape.BodyShape.{BodyShape}
use Rattle.body_shape.specs.Fit.{is_fit}
use Rattle.body_shape.specs.Shapes.{longest_of}
use Rattle.dep_message.specs.Messages.{header_in}
use Rattle.symple_face.specs.declared.action.Action.{Action}
use Rattle.symple_face.specs.declared.action.Action.TheVariants.{Ready, Waits, Over}
use Rattle.symple_face.specs.Lawful.{IsLawful}
use Rattle.symple_face.specs.State.{IsTakeable, State, action_of, has_taken, machine, shape_at}
use Rattle.symple_face.specs.Work.{Work}
use Rattle.worker_stream.specs.Fronts.{AtFront, NoByte, There, Wrong, front_of, front_with_body, front_with_form, front_with_name, read_of}
use Rattle.worker_stream.specs.Sent.{spelled_letters}
use Rattle.worker_stream.specs.Worker.{Finishes, Onwards, Refuses, Served, acts, behind_text, ends_at, is_due, reads, served_from, served_within, steps_left, takes_front}
use Rattle.worker_stream.specs.Walks.{Walks}
use Rattle.worker_stream.proofs.StateWalks.{go_walks, take_walks, waits_on}

-- ---- a message at the front
-- it has a form that its body fits, and fewer bytes stand behind it
pub record IsFront (forms : Name → Option BodyShape) (bytes : List ℕ) (l : Letter) (rest : List ℕ) : Type 0 where
  pub shape : BodyShape
  pub has : forms l.name ≡ Some shape
  pub fits : is_fit shape l.body ≡ true
  pub fewer : length rest < length bytes

module _ (forms : Name → Option BodyShape) (all : List ℕ) (l : Letter) (rest : List ℕ) where
  module _ (x : Name) (shape : BodyShape) (size : ℕ) (bytes : List ℕ) where
    by_body : (b c : Bool) → forms x ≡ Some shape → is_fit shape (take size bytes) ≡ c →
        length bytes < length all →
        (if b then Wrong 1 else if c then There (record { name = x; body = take size bytes }) (drop size bytes)
        else Wrong 4) ≡ There l rest → IsFront forms all l rest
    by_body true c has fits few e = absurd (cc)
    by_body false false has fits few e = absurd (cc)
    by_body false true has fits few e =
        let letter : record { name = x; body = take size bytes } ≡ l = cc in
        let behind : drop size bytes ≡ rest = cc in
        record {
          shape = shape;
          has = ap (λ (q : Letter). forms q.name) (sym letter) ∙ has;
          fits = ap (λ (q : Letter). is_fit shape q.body) (sym letter) ∙ fits;
          fewer = omega (arith, length-drop size bytes, ap length behind, few);
        }

  by_long : (x : Name) (shape : BodyShape) (size : ℕ) (bytes : List ℕ) (b : Bool) → forms x ≡ Some shape →
      length bytes < length all →
      (if b then Wrong 4 else front_with_body x shape size bytes) ≡ There l rest → IsFront forms all l rest
  by_long x shape size bytes true has few e = absurd (cc)
  by_long x shape size bytes false has few e =
      by_body x shape size bytes (nat_lt (length bytes) size) (is_fit shape (take size bytes)) has refl few e

  by_form : (x : Name) (form : Option BodyShape) (size : ℕ) (bytes : List ℕ) → forms x ≡ form →
      length bytes < length all → front_with_form x form size bytes ≡ There l rest → IsFront forms all l rest
  by_form x None size bytes has few e = absurd (cc)
  by_form x (Some shape) size bytes has few e =
      by_long x shape size bytes (nat_lt (longest_of shape) size) has few e

  by_proper : (x : Name) (size : ℕ) (bytes : List ℕ) (b : Bool) → length bytes < length all →
      (if b then front_with_form x (forms x) size bytes else Wrong 3) ≡ There l rest → IsFront forms all l rest
  by_proper x size bytes true few e = by_form x (forms x) size bytes refl few e
  by_proper x size bytes false few e = absurd (cc)

  by_name : (name : Option Name) (size : ℕ) (bytes : List ℕ) → length bytes < length all →
      front_with_name forms name size bytes ≡ There l rest → IsFront forms all l rest
  by_name None size bytes few e = absurd (cc)
  by_name (Some x) size bytes few e = by_proper x size bytes (is_proper x) few e

  by_header : (b c : Bool) → nat_lt (length all) 13 ≡ c →
      (if b then NoByte else if c then Wrong 1
      else front_with_name forms (header_in (take 13 all)).name (header_in (take 13 all)).size (drop 13 all))
      ≡ There l rest → IsFront forms all l rest
  by_header true c is e = absurd (cc)
  by_header false true is e = absurd (cc)
  by_header false false is e =
      let long : 13 ≤ length all = ltb-false _ _ is in
      by_name (header_in (take 13 all)).name (header_in (take 13 all)).size (drop 13 all)
      (omega (arith, length-drop 13 all, long)) e

  pub front_is : front_of forms all ≡ There l rest → IsFront forms all l rest
  front_is e = by_header (length all == 0) (nat_lt (length all) 13) refl e

-- a message that is due can be taken
none_held : {X : Type 0} (o : Option X) → not (is_some o) ≡ true → o ≡ None
none_held None e = refl
none_held (Some x) e = absurd (cc)

pub takeable : (s : State) (bytes : List ℕ) (l : Letter) (rest : List ℕ) → IsFront (shape_at s) bytes l rest →
    is_over s.at.spot ≡ false → is_due s l.name ≡ true → IsTakeable s l
takeable s bytes l rest front going due =
    let first = and_parts (l.name.to == machine s) (not (has_taken s l.name) && l.name.round == s.at.round) due in
    let second = and_parts (not (has_taken s l.name)) (l.name.round == s.at.round) first.1 in
    record {
      here = eqb-true l.name.to (machine s) first.0;
      going = going;
      new = none_held (found l.name s.held) second.0;
      round = eqb-true l.name.round s.at.round second.1;
      shape = front.shape;
      has = front.has;
      fits = front.fits;
    }

-- ---- what is used never shrinks
module _ (work : Work) where
  grown_text : (at : ℕ) (text : List ℕ) (w : Served) → at ≤ w.used → at ≤ (behind_text text w).used
  grown_text at text w le = le

  grown_front : (next : Onwards) → ((n : ℕ) (t : State) (bs : List ℕ) → n ≤ (next n t bs).used) →
      (at : ℕ) (s : State) (x : Name) (size : ℕ) (front : AtFront) →
      at ≤ (takes_front work next at s x size front).used
  grown_front next grows at s x size NoByte = omega arith
  grown_front next grows at s x size (Wrong code) = omega arith
  grown_front next grows at s x size (There l rest) = by_due (is_due s l.name)
    where
      by_due : (b : Bool) → at ≤ (if b then next (at + size) (work.take s l) rest
          else ends_at (at + size) (Refuses 5 at)).used
      by_due true = let more = grows (at + size) (work.take s l) rest in omega arith
      by_due false = omega arith

  grown_act : (next : Onwards) → ((n : ℕ) (t : State) (bs : List ℕ) → n ≤ (next n t bs).used) →
      (at : ℕ) (s : State) (bytes : List ℕ) (a : Action) → at ≤ (acts work next at s bytes a).used
  grown_act next grows at s bytes Over = omega arith
  grown_act next grows at s bytes Ready = grows at (work.go s) bytes
  grown_act next grows at s bytes (Waits x) =
      grown_front next grows at s x (read_of (shape_at s) bytes) (front_of (shape_at s) bytes)

  grown : (n at : ℕ) (s : State) (bytes : List ℕ) → at ≤ (served_within work n at s bytes).used
  grown zero at s bytes = omega arith
  grown (suc n) at s bytes = grown_act (served_within work n) (grown n) at s bytes (action_of s)

  pub used_grows : (at : ℕ) (s : State) (bytes : List ℕ) → at ≤ (served_from work at s bytes).used
  unfolding served_from
  used_grows at s bytes = grown (steps_left s bytes) at s bytes

-- ---- so many are enough
module _ (work : Work) (sound : State → Type 0) (lawful : IsLawful work sound) where
  -- what comes behind, where it is so for each state that has fewer steps left
  abbrev Alike : ℕ → Onwards → Onwards → Type 0
  Alike n f g = (at : ℕ) (t : State) (bs : List ℕ) → Walks t → steps_left t bs ≤ n → f at t bs ≡ g at t bs

  module _ (n : ℕ) (f g : Onwards) (alike : Alike n f g) (at : ℕ) (s : State) (x : Name) (size : ℕ)
      (bytes : List ℕ) where
    alike_front : Walks s → is_over s.at.spot ≡ false → steps_left s bytes ≤ suc n → (front : AtFront) →
        front_of (shape_at s) bytes ≡ front →
        takes_front work f at s x size front ≡ takes_front work g at s x size front
    alike_front walk going few NoByte is = refl
    alike_front walk going few (Wrong code) is = refl
    alike_front walk going few (There l rest) is = by_due (is_due s l.name) refl
      where
        by_due : (b : Bool) → is_due s l.name ≡ b →
            (if b then f (at + size) (work.take s l) rest else ends_at (at + size) (Refuses 5 at))
            ≡ (if b then g (at + size) (work.take s l) rest else ends_at (at + size) (Refuses 5 at))
        by_due true due =
            let front = front_is (shape_at s) bytes l rest is in
            let on = take_walks work sound lawful s l walk (takeable s bytes l rest front going due) in
            let fewer = front.fewer in
            let less = on.no_more in
            alike (at + size) (work.take s l) rest on.walks (omega arith)
        by_due false due = refl

  module _ (n : ℕ) (f g : Onwards) where
    alike_act : Alike n f g → (at : ℕ) (s : State) (bytes : List ℕ) → Walks s → steps_left s bytes ≤ suc n →
        (a : Action) → action_of s ≡ a → acts work f at s bytes a ≡ acts work g at s bytes a
    alike_act alike at s bytes walk few Over is = refl
    alike_act alike at s bytes walk few Ready is =
        let on = go_walks work sound lawful s walk is in
        let less = on.less in
        ap (behind_text (spelled_letters (work.sent s))) (alike at (work.go s) bytes on.walks (omega arith))
    alike_act alike at s bytes walk few (Waits x) is =
        alike_front n f g alike at s x (read_of (shape_at s) bytes) bytes walk (waits_on s x is) few
        (front_of (shape_at s) bytes) refl

  enough : (n k : ℕ) → n ≤ k → Alike n (served_within work n) (served_within work k)
  enough zero k le at s bytes walk few = absurd (omega arith)
  enough (suc n) zero le at s bytes walk few = absurd (omega arith)
  enough (suc n) (suc k) le at s bytes walk few =
      alike_act n (served_within work n) (served_within work k) (enough n k (omega arith)) at s bytes walk few
      (action_of s) refl

  -- the same for any number of steps that is no less
  pub more_change_nothing : (n at : ℕ) (s : State) (bytes : List ℕ) → Walks s → steps_left s bytes ≤ n →
      served_within work n at s bytes ≡ served_from work at s bytes
  unfolding served_from
  more_change_nothing n at s bytes walk few =
      sym (enough (steps_left s bytes) n few at s bytes walk (omega arith))

  -- what it does, by the action
  by_cases : (at : ℕ) (s : State) (bytes : List ℕ) → Walks s →
      served_from work at s bytes ≡ acts work (served_from work) at s bytes (action_of s)
  by_cases at s bytes walk =
      let n = steps_left s bytes in
      sym (more_change_nothing (suc n) at s bytes walk (omega arith))
      ∙ alike_act n (served_within work n) (served_from work)
      (λ k t bs walks few. more_change_nothing n k t bs walks few) at s bytes walk (omega arith) (action_of s) refl

  pub at_end : (at : ℕ) (s : State) (bytes : List ℕ) → Walks s → action_of s ≡ Over →
      served_from work at s bytes ≡ ends_at at (Finishes s)
  at_end at s bytes walk is = by_cases at s bytes walk ∙ ap (acts work (served_from work) at s bytes) is

  pub at_action : (at : ℕ) (s : State) (bytes : List ℕ) → Walks s → action_of s ≡ Ready →
      served_from work at s bytes
      ≡ behind_text (spelled_letters (work.sent s)) (served_from work at (work.go s) bytes)
  at_action at s bytes walk is = by_cases at s bytes walk ∙ ap (acts work (served_from work) at s bytes) is

  pub at_message : (at : ℕ) (s : State) (x : Name) (bytes : List ℕ) → Walks s → action_of s ≡ Waits x →
      served_from work at s bytes ≡ reads work (served_from work) at s x bytes
  at_message at s x bytes walk is = by_cases at s bytes walk ∙ ap (acts work (served_from work) at s bytes) is
