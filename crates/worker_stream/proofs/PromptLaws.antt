-- A machine that acts before it takes does alone what it does in the run.
use Rattle.std.proofs.Common.{◌≡◌, ◌≢◌, ℕ, zero, suc, ◌+◌, ◌<◌, ◌≤◌, ◌∙◌, min, Bool, true, false, not, ◌&&◌, ◌||◌, Option, Some, None, List, [], ◌∷◌, ◌++◌, length, map, refl, sym, ap, subst, arith, ⊎_elim, append_assoc, append-nil, length-append, slice_get}
use Rattle.std.specs.Prelude.{◌==◌, nat_le, is_some, if◌then◌else◌, slice_set}
use Rattle.std.specs.List.{AllByRecursion, list_all}
use Rattle.std.proofs.lemmas.Bool.{and_parts, cases_eq, cond-false, cond-true, eq-eqb, false≢true, le-ltb, leb-true, ne_eqb}
use Rattle.std.proofs.lemmas.Option.{get_or_from_slice_get}
use Rattle.vert_base.specs.declared.message.Event.{Event}
use Rattle.vert_base.specs.declared.message.Event.TheVariants.{Go, Take}
use Rattle.vert_base.specs.declared.message.Name.{Name}
use Rattle.vert_base.specs.declared.message.NameKind.{NameKind}
use Rattle.vert_base.specs.declared.message.NameKind.TheVariants.{Refresh, Dep, Update, Push, Tally, Verdict}
use Rattle.vert_base.specs.HeaderBytes.{has_steps, is_proper, spelled_header}
use Rattle.vert_base.specs.Letters.{Letter, found}
use Rattle.vert_tree.proofs.TypedLaws.{few_rounds}
use Rattle.circulant_plan.specs.Skeleton.{is_over}
use Rattle.instrument.specs.declared.split.Split.{Split}
use Rattle.body_shape.specs.declared.shape.BodyShape.{BodyShape}
use Rattle.body_shape.specs.Shapes.{longest_of}
use Rattle.dep_message.specs.Laws.{AreBytes}
use Rattle.dep_message.specs.Messages.{header_in}
use Rattle.dep_message.proofs.BoundLaws.{bounded_law}
use Rattle.dep_message.proofs.MessageLaws.{header_law, length-spelled}
use Rattle.symple_face.specs.declared.action.Action.{Action}
use Rattle.symple_face.specs.declared.action.Action.TheVariants.{Ready, Waits, Over}
use Rattle.symple_face.specs.Cluster.{World, after, all_possible, can_act, finished, first_world, go_at, is_ready, possible, ready_from, step, take_at, take_found, takes}
use Rattle.symple_face.specs.Lawful.{CanRun, IsLawful}
use Rattle.symple_face.specs.Parts.{PlainPart}
use Rattle.symple_face.specs.Plans.{blocks_of, goes_by_plan, is_in_range, is_whole, ring_of}
use Rattle.symple_face.specs.State.{IsTakeable, State, action_of, first_missing, machine, needs, p_of, shape_at, waiting_for}
use Rattle.symple_face.specs.Work.{Work}
use Rattle.cluster_run.specs.Driven.{IsReached, anew}
use Rattle.cluster_run.proofs.ReachedWorldLaws.{reached_takes, steps_on}
use Rattle.cluster_run.proofs.SiteLists.{get_one, map_get, set_other}
use Rattle.worker_stream.specs.Fronts.{AtFront, IsRead, front_of, front_with_body, front_with_form, front_with_name, read_with_form, read_with_name}
use Rattle.worker_stream.specs.Prompt.{IsPrompt, PlainRunsArePrompt, PromptRunsAreServed, handed, sent_at, sent_by, taken_at, taken_by}
use Rattle.worker_stream.specs.Sent.{spelled_letter, spelled_letters}
use Rattle.worker_stream.specs.Walks.{Walks}
use Rattle.worker_stream.specs.Worker.{Finishes, Refuses, Served, behind_text, ends_at, is_due, served_from, takes_front}
use Rattle.worker_stream.proofs.FrontLaws.{body_fits}
use Rattle.worker_stream.proofs.ShortLaws.{forms_short}
use Rattle.worker_stream.proofs.StateWalks.{first_walks, go_walks, goes, ranges, take_walks}
use Rattle.worker_stream.proofs.WorkerLaws.{at_action, at_end, at_message}
use Rattle.state_laws.proofs.Options.{some_of}
use Rattle.cluster_run.specs.Sends.{sent_with}

-- ---- the spelling of a message is read as the message
proper_by : (k : NameKind) (p : ℕ) (split : Split) (x : Name) → goes_by_plan (ring_of split p) k x ≡ true →
    (has_steps k || is_whole x) ≡ true
proper_by Refresh p split x is = is
proper_by Dep p split x is = refl
proper_by Update p split x is = refl
proper_by Push p split x is = is
proper_by Tally p split x is = (and_parts (is_whole x) _ is).0
proper_by Verdict p split x is = (and_parts (is_whole x) _ is).0

rounds_by : (k : NameKind) (limit r : ℕ) → is_in_range limit k r ≡ true → r ≤ limit + 1
rounds_by Refresh limit r is = let low = leb-true r limit (and_parts (nat_le 1 r) _ is).1 in omega arith
rounds_by Dep limit r is = let low = leb-true r limit (and_parts (nat_le 1 r) _ is).1 in omega arith
rounds_by Update limit r is = let low = leb-true r limit (and_parts (nat_le 1 r) _ is).1 in omega arith
rounds_by Push limit r is = let low = leb-true r limit (and_parts (nat_le 1 r) _ is).1 in omega arith
rounds_by Tally limit r is = let low = leb-true r limit is in omega arith
rounds_by Verdict limit r is = leb-true r (limit + 1) (and_parts (nat_le 1 r) _ is).1

module _ (s : State) (l : Letter) (can : IsTakeable s l) (run : CanRun s.part s.split) (bytes : AreBytes l.body) where
  short : longest_of can.shape < 4294967296
  short = forms_short s.split s.part l.name can.shape run can.has

  fewer : length l.body ≤ longest_of can.shape
  fewer = bounded_law can.shape l.body bytes can.fits

  proper : is_proper l.name ≡ true
  proper = proper_by l.name.kind (p_of s) s.split l.name (goes s l can)

  round_small : l.name.round < 4294967296
  round_small =
      let most = rounds_by l.name.kind (blocks_of s.split).limit l.name.round (ranges s l can) in
      let few = few_rounds s.split.program.program s.split.program.typed in
      omega arith

  abbrev head : List ℕ
  head = spelled_header l.name (length l.body)

  long : length (spelled_header l.name (length l.body)) ≡ 13
  long =
      let count = length-spelled l.name l.body in
      omega (arith, count, length-append (spelled_header l.name (length l.body)) l.body)

  header_is : header_in (spelled_header l.name (length l.body)) ≡ record { name = Some l.name; size = length l.body }
  header_is =
      let less = short in
      let most = fewer in
      ap header_in (sym (append-nil (spelled_header l.name (length l.body))))
      ∙ header_law l.name (length l.body) [] round_small (omega arith)

  judged : (behind : List ℕ) → front_with_name (shape_at s) (Some l.name) (length l.body) behind
      ≡ front_with_body l.name can.shape (length l.body) behind
  judged behind =
      cond-true _ _ _ proper
      ∙ (ap (λ o. form_front o) can.has ∙ cond-false _ _ _ (le-ltb _ _ fewer))
    where
      form_front : Option BodyShape → AtFront
      form_front o = front_with_form l.name o (length l.body) behind

  reads_body : (left : ℕ) → read_with_name (shape_at s) (Some l.name) (length l.body) left ≡ min (length l.body) left
  reads_body left =
      cond-true _ _ _ proper
      ∙ (ap (λ o. read_with_form o (length l.body) left) can.has ∙ cond-false _ _ _ (le-ltb _ _ fewer))

  pub letter_read : (rest : List ℕ) → IsRead (shape_at s) (spelled_letter l) l rest
  letter_read rest =
      body_fits (shape_at s) (spelled_header l.name (length l.body)) long l.name can.shape (length l.body)
      (ap (λ h. h.name) header_is) (ap (λ h. h.size) header_is) judged reads_body l.body refl can.fits rest

  pub letter_due : is_due s l.name ≡ true
  letter_due = due_by (l.name.to == machine s) (is_some (found l.name s.held)) (l.name.round == s.at.round)
      (eq-eqb l.name.to (machine s) can.here) (ap is_some can.new) (eq-eqb l.name.round s.at.round can.round)
    where
      due_by : (a b d : Bool) → a ≡ true → b ≡ false → d ≡ true → (a && (not b && d)) ≡ true
      due_by a b d x y z = cc

-- who can't act and isn't over waits
waits_by : (b : Bool) (o : Option Name) → b ≡ false → is_ready (if b then Over else waiting_for o) ≡ false →
    (x : Name) × ((if b then Over else waiting_for o) ≡ Waits x)
waits_by true o e busy = absurd (false≢true (sym e))
waits_by false None e busy = absurd (false≢true (sym busy))
waits_by false (Some x) e busy = (x, refl)

ready_by : (a : Action) → is_ready a ≡ true → a ≡ Ready
ready_by Ready e = refl
ready_by (Waits x) e = absurd (false≢true e)
ready_by Over e = absurd (false≢true e)

none_there : {X : Type 0} (x : X) → None ≡ Some x → ⊥
none_there x e = cc

pub all_over : (ss : List State) (m : ℕ) (s : State) → list_all (λ (t : State). is_over t.at.spot) ss ≡ true →
    slice_get ss m ≡ Some s → is_over s.at.spot ≡ true
all_over [] m s all at = absurd (none_there s at)
all_over (t ∷ ss) zero s all at =
    ap (λ (q : State). is_over q.at.spot) (sym (get_one (Some t) t s refl at)) ∙ (and_parts (is_over t.at.spot) _ all).0
all_over (t ∷ ss) (suc m) s all at = all_over ss m s (and_parts (is_over t.at.spot) _ all).1 at

pub spelled_more : (xs ys : List Letter) → spelled_letters (xs ++ ys) ≡ spelled_letters xs ++ spelled_letters ys
spelled_more [] ys = refl
spelled_more (x ∷ xs) ys = ap (λ q. spelled_letter x ++ q) (spelled_more xs ys)
    ∙ sym (append_assoc (spelled_letter x) (spelled_letters xs) (spelled_letters ys))

-- ---- from a world on
pub record GoesAlone (work : Work) (m at : ℕ) (s : State) (w : World) (es : List Event) (taken sent : List Letter)
    (rest : List ℕ) : Type 0 where
  pub last : State
  pub stands : slice_get (after work w es).sites m ≡ Some last
  pub served : served_from work at s (spelled_letters taken ++ rest) ≡ record {
    used = at + length (spelled_letters taken);
    text = spelled_letters sent;
    end = Finishes last;
  }

set_there : {X : Type 0} (xs : List X) (m : ℕ) (x y : X) → slice_get xs m ≡ Some x →
    slice_get (slice_set xs m y) m ≡ Some y
set_there [] m x y at = absurd (cc)
set_there (z ∷ xs) zero x y at = refl
set_there (z ∷ xs) (suc m) x y at = set_there xs m x y at

-- the events before the first are none, and the texts are joined
module _ (work : Work) (sound : State → Type 0) (lawful : IsLawful work sound) (m : ℕ) (rest : List ℕ) where
  ends_alone : (at : ℕ) (s : State) (w : World) → slice_get w.sites m ≡ Some s → Walks s → finished w ≡ true →
      GoesAlone work m at s w [] [] [] rest
  ends_alone at s w there walks over =
      let spot = all_over w.sites m s over there in
      let action : action_of s ≡ Over = ap (λ b. if b then Over else waiting_for (first_missing (needs s) s.held))
      spot in
      record {
        last = s;
        stands = there;
        served = at_end work sound lawful at s rest walks action
            ∙ ap (λ n. ends_at n (Finishes s)) (let e : at ≡ at + 0 = omega arith in e);
      }

  module _ (at : ℕ) (s : State) (w v : World) (e : Event) (es : List Event) (taken sent : List Letter) where
    acts_alone : Walks s → action_of s ≡ Ready → step work w e ≡ v →
        GoesAlone work m at (work.go s) v es taken sent rest →
        GoesAlone work m at s w (e ∷ es) taken (work.sent s ++ sent) rest
    acts_alone walks ready is alone = record {
      last = alone.last;
      stands = ap (λ (u : World). slice_get (after work u es).sites m) is ∙ alone.stands;
      served = at_action work sound lawful at s (spelled_letters taken ++ rest) walks ready
          ∙ (ap (behind_text (spelled_letters (work.sent s))) alone.served
          ∙ ap (λ (q : List ℕ). (let r : Served = record {
            used = at + length (spelled_letters taken);
            text = q;
            end = Finishes alone.last;
          } in r)) (sym (spelled_more (work.sent s) sent)));
    }

  module _ (at : ℕ) (s : State) (w v : World) (e : Event) (es : List Event) (l : Letter)
      (taken sent : List Letter) where
    takes_alone : Walks s → CanRun s.part s.split → can_act (Some s) ≡ false → IsTakeable s l →
        AreBytes l.body → step work w e ≡ v →
        GoesAlone work m (at + length (spelled_letter l)) (work.take s l) v es taken sent rest →
        GoesAlone work m at s w (e ∷ es) (l ∷ taken) sent rest
    takes_alone walks run busy can bytes is alone =
        let more = spelled_letters taken ++ rest in
        let waits = waits_by (is_over s.at.spot) (first_missing (needs s) s.held) can.going busy in
        let read = letter_read s l can run bytes more in
        let grouped : spelled_letters (l ∷ taken) ++ rest ≡ spelled_letter l ++ more =
        append_assoc (spelled_letter l) (spelled_letters taken) rest in
        let count : at + length (spelled_letter l) + length (spelled_letters taken)
        ≡ at + length (spelled_letters (l ∷ taken)) =
        omega (arith, length-append (spelled_letter l) (spelled_letters taken)) in
        record {
          last = alone.last;
          stands = ap (λ (u : World). slice_get (after work u es).sites m) is ∙ alone.stands;
          served = ap (served_from work at s) grouped
              ∙ (at_message work sound lawful at s waits.0 (spelled_letter l ++ more) walks waits.1
              ∙ (ap (λ n. takes_front work (served_from work) at s waits.0 n (front_of (shape_at s)
              (spelled_letter l ++ more))) read.size
              ∙ (ap (λ f. takes_front work (served_from work) at s waits.0 (length (spelled_letter l)) f) read.there
              ∙ (ap (λ b. if b then served_from work (at + length (spelled_letter l)) (work.take s l) more
              else ends_at (at + length (spelled_letter l)) (Refuses 5 at)) (letter_due s l can run bytes)
              ∙ (alone.served
              ∙ ap (λ n. (let r : Served = record {
                used = n;
                text = spelled_letters sent;
                end = Finishes alone.last;
              } in r)) count)))));
        }

  module _ (at : ℕ) (s : State) (w v : World) (e : Event) (es : List Event) (taken sent : List Letter) where
    others_alone : step work w e ≡ v → GoesAlone work m at s v es taken sent rest →
        GoesAlone work m at s w (e ∷ es) taken sent rest
    others_alone is alone = record {
      last = alone.last;
      stands = ap (λ (u : World). slice_get (after work u es).sites m) is ∙ alone.stands;
      served = alone.served;
    }

  abbrev Alone : ℕ → State → World → List Event → Type 0
  Alone at s w es = GoesAlone work m at s w es (taken_by work m w es) (sent_by work m w es) rest

  abbrev Bytes : List Letter → Type 0
  Bytes ls = AllByRecursion (λ (l : Letter). AreBytes l.body) ls

  run_along : (s t : State) → t.part ≡ s.part → t.split ≡ s.split → CanRun s.part s.split → CanRun t.part t.split
  run_along s t part split can =
      subst (λ (p : PlainPart). CanRun p t.split) (sym part) (subst (λ (q : Split). CanRun s.part q) (sym split) can)

  abbrev Claim : List Event → Type 0
  Claim es =
      (at : ℕ) (s : State) (w : World) → IsReached work sound w → slice_get w.sites m ≡ Some s → Walks s →
      CanRun s.part s.split → all_possible work w es ≡ true → finished (after work w es) ≡ true →
      IsPrompt work m w es → Bytes (taken_by work m w es) → Alone at s w es

  go_other : (w : World) (k : ℕ) (o : Option State) → k ≢ m →
      slice_get (go_at work w k o).sites m ≡ slice_get w.sites m
  go_other w k None ne = refl
  go_other w k (Some t) ne = set_other w.sites k m (work.go t) (λ e. ne (sym e))

  by_go : (k : ℕ) (es : List Event) → Claim es → Claim (Go k ∷ es)
  by_go k es claim at s w reached there walks run all over prompt bytes =
      let can = and_parts (possible w (Go k)) (all_possible work (step work w (Go k)) es) all in
      let on = steps_on work sound w (Go k) reached can.0 in
      let v = step work w (Go k) in
      ⊎_elim
      (λ (is : k ≡ m).
      let here : slice_get w.sites k ≡ Some s = ap (slice_get w.sites) is ∙ there in
      let ready : action_of s ≡ Ready = ready_by (action_of s) (sym (ap can_act here) ∙ can.0) in
      let next : slice_get v.sites m ≡ Some (work.go s) =
      ap (λ (o : Option State). slice_get (go_at work w k o).sites m) here
      ∙ (ap (λ j. slice_get (slice_set w.sites j (work.go s)) m) is
      ∙ set_there w.sites m s (work.go s) there) in
      let alone = claim at (work.go s) v on next (go_walks work sound lawful s walks ready).walks
      (run_along s (work.go s) (lawful.go_part s) (lawful.go_split s) run) can.1 over prompt.1 bytes in
      let sends : sent_at work m w (Go k) ≡ work.sent s =
      cond-true _ _ _ (eq-eqb k m is) ∙ ap (sent_with work) there in
      subst (λ (ls : List Letter). GoesAlone work m at s w (Go k ∷ es) (taken_by work m v es)
      (ls ++ sent_by work m v es) rest) (sym sends)
      (acts_alone at s w v (Go k) es (taken_by work m v es) (sent_by work m v es) walks ready refl alone))
      (λ (ne : k ≢ m).
      let next : slice_get v.sites m ≡ Some s = go_other w k (slice_get w.sites k) ne ∙ there in
      let alone = claim at s v on next walks run can.1 over prompt.1 bytes in
      let sends : sent_at work m w (Go k) ≡ [] = cond-false _ _ _ (ne_eqb k m ne) in
      subst (λ (ls : List Letter). GoesAlone work m at s w (Go k ∷ es) (taken_by work m v es)
      (ls ++ sent_by work m v es) rest) (sym sends)
      (others_alone at s w v (Go k) es (taken_by work m v es) (sent_by work m v es) refl alone))
      (cases_eq k m)

  not_ready : (b : Bool) (ls : List Letter) (l : Letter) → ls ≡ l ∷ [] → (b ≡ true → ls ≡ []) → b ≡ false
  not_ready true ls l is prompt = let none : l ∷ [] ≡ [] = sym is ∙ prompt refl in absurd (cc)
  not_ready false ls l is prompt = refl

  by_take : (x : Name) (es : List Event) → Claim es → Claim (Take x ∷ es)
  by_take x es claim at s w reached there walks run all over prompt bytes =
      let can = and_parts (possible w (Take x)) (all_possible work (step work w (Take x)) es) all in
      let on = steps_on work sound w (Take x) reached can.0 in
      let v = step work w (Take x) in
      let letter = some_of (found x w.under_way) can.0 in
      let l = letter.0 in
      let receiver = reached_takes work sound lawful w reached x l letter.1 in
      let t = receiver.0 in
      let taken_as : taken_at m w (Take x) ≡ handed m (Some l) = ap (handed m) letter.1 in
      let sites : (j : ℕ) → slice_get v.sites j ≡ slice_get (slice_set w.sites l.name.to (work.take t l)) j =
      λ j. ap (λ (o : Option Letter). slice_get (take_found work w o).sites j) letter.1
      ∙ ap (λ (o : Option State). slice_get (take_at work w l o).sites j) receiver.1 in
      ⊎_elim
      (λ (is : l.name.to ≡ m).
      let same : t ≡ s = get_one (slice_get w.sites m) t s (ap (slice_get w.sites) (sym is) ∙ receiver.1) there in
      let able : IsTakeable s l = subst (λ (q : State). IsTakeable q l) same receiver.2 in
      let one : taken_at m w (Take x) ≡ l ∷ [] = taken_as ∙ cond-true _ _ _ (eq-eqb l.name.to m is) in
      let waits : can_act (Some s) ≡ false =
      not_ready (can_act (Some s)) (taken_at m w (Take x)) l one (λ b. prompt.0 (ap can_act there ∙ b)) in
      let next : slice_get v.sites m ≡ Some (work.take s l) =
      sites m ∙ (ap (λ j. slice_get (slice_set w.sites j (work.take t l)) m) is
      ∙ (set_there w.sites m s (work.take t l) there ∙ ap (λ (q : State). Some (work.take q l)) same)) in
      let each : Bytes (l ∷ taken_by work m v es) =
      subst (λ (ls : List Letter). Bytes (ls ++ taken_by work m v es)) one bytes in
      let alone = claim (at + length (spelled_letter l)) (work.take s l) v on next
      (take_walks work sound lawful s l walks able).walks
      (run_along s (work.take s l) (lawful.take_part s l) (lawful.take_split s l) run) can.1 over prompt.1 each.1 in
      subst (λ (ls : List Letter). GoesAlone work m at s w (Take x ∷ es) (ls ++ taken_by work m v es)
      (sent_by work m v es) rest) (sym one)
      (takes_alone at s w v (Take x) es l (taken_by work m v es) (sent_by work m v es) walks run waits able each.0
      refl alone))
      (λ (ne : l.name.to ≢ m).
      let none : taken_at m w (Take x) ≡ [] = taken_as ∙ cond-false _ _ _ (ne_eqb l.name.to m ne) in
      let next : slice_get v.sites m ≡ Some s =
      sites m ∙ (set_other w.sites l.name.to m (work.take t l) (λ e. ne (sym e)) ∙ there) in
      let each : Bytes (taken_by work m v es) =
      subst (λ (ls : List Letter). Bytes (ls ++ taken_by work m v es)) none bytes in
      let alone = claim at s v on next walks run can.1 over prompt.1 each in
      subst (λ (ls : List Letter). GoesAlone work m at s w (Take x ∷ es) (ls ++ taken_by work m v es)
      (sent_by work m v es) rest) (sym none)
      (others_alone at s w v (Take x) es (taken_by work m v es) (sent_by work m v es) refl alone))
      (cases_eq l.name.to m)

  goes_alone : (es : List Event) → Claim es
  goes_alone [] = λ at s w reached there walks run all over prompt bytes. ends_alone at s w there walks over
  goes_alone (Go k ∷ es) = by_go k es (goes_alone es)
  goes_alone (Take x ∷ es) = by_take x es (goes_alone es)

lt_there : {X : Type 0} (xs : List X) (m : ℕ) (x : X) → slice_get xs m ≡ Some x → m < length xs
lt_there [] m x at = absurd (cc)
lt_there (y ∷ xs) zero x at = omega arith
lt_there (y ∷ xs) (suc m) x at = let more = lt_there xs m x at in omega arith

pub prompt_law : (work : Work) (sound : State → Type 0) → IsLawful work sound → PromptRunsAreServed work
prompt_law work sound lawful split parts es m part rest one can there all over prompt bytes =
    let P : PlainPart → Type 0 = λ p. CanRun p split in
    let run : CanRun part split =
    subst P (get_or_from_slice_get parts m part part there) (can m part (lt_there parts m part there)) in
    let w = first_world work split parts in
    let s = work.first part split in
    let reached : IsReached work sound w = record {
      split = split;
      parts = parts;
      one_run = one;
      can_run = can;
      first = w;
      is_first = anew refl;
      events = [];
      were_possible = refl;
      here = refl;
    } in
    let at : slice_get w.sites m ≡ Some s = map_get (λ (p : PlainPart). work.first p split) parts m part there in
    let runs : CanRun s.part s.split =
    subst (λ (p : PlainPart). CanRun p s.split) (sym (lawful.first_part part split))
    (subst (λ (q : Split). CanRun part q) (sym (lawful.first_split part split)) run) in
    let alone = goes_alone work sound lawful m rest es 0 s w reached at (first_walks work sound lawful part split run)
    runs all over prompt bytes in
    record {
      last = alone.last;
      stands = alone.stands;
      served = alone.served ∙ ap (λ n. (let r : Served = record {
        used = n;
        text = spelled_letters (sent_by work m w es);
        end = Finishes alone.last;
      } in r)) (let e : 0 + length (spelled_letters (taken_by work m w es))
          ≡ length (spelled_letters (taken_by work m w es)) = omega arith in e);
    }

-- ---- the plain run
-- some machine is ready, where this one is
ready_if : (b : Bool) (n : ℕ) (ns : List ℕ) → (b ≡ false → (k : ℕ) × (rest : List ℕ) × (ns ≡ k ∷ rest)) →
    (k : ℕ) × (rest : List ℕ) × ((if b then n ∷ ns else ns) ≡ k ∷ rest)
ready_if true n ns later = (n, ns, refl)
ready_if false n ns later = later refl

ready_some : (n m : ℕ) (ss : List State) → can_act (slice_get ss m) ≡ true →
    (k : ℕ) × (rest : List ℕ) × (ready_from n ss ≡ k ∷ rest)
ready_some n m [] can = absurd (false≢true can)
ready_some n zero (s ∷ ss) can =
    ready_if (can_act (Some s)) n (ready_from (n + 1) ss) (λ still. absurd (false≢true (sym still ∙ can)))
ready_some n (suc m) (s ∷ ss) can =
    ready_if (can_act (Some s)) n (ready_from (n + 1) ss) (λ still. ready_some (n + 1) m ss can)

pub plain_law : (work : Work) → PlainRunsArePrompt work
plain_law work m w [] plain = tt
plain_law work m w (e ∷ es) plain = (prompt, plain_law work m (step work w e) es plain.2)
  where
    prompt : can_act (slice_get w.sites m) ≡ true → taken_at m w e ≡ []
    prompt can =
        let first = ready_some 0 m w.sites can in
        let choice : Some e ≡ Some (Go first.0) =
        sym plain.1 ∙ ap (λ (ns : List ℕ). slice_get (map (λ k. Go k) ns ++ takes w) 0) first.2 in
        ap (taken_at m w) (get_one (Some e) e (Go first.0) refl choice)
