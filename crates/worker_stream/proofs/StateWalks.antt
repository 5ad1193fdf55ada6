-- A machine of any lawful kind gets on in its list of actions, whatever messages it takes.
use Rattle.std.proofs.Common.{◌≡◌, ◌≢◌, ℕ, ◌+◌, ◌<◌, ◌≤◌, ◌∙◌, Bool, true, false, not, ◌&&◌, ◌||◌, Option, Some, None, List, [], ◌∷◌, length, inl, inr, ◌⊎◌, refl, sym, ap, subst, arith, ⊎_elim}
use Rattle.std.specs.Prelude.{◌==◌, nat_le, nat_lt, is_some, if◌then◌else◌}
use Rattle.std.proofs.lemmas.Bool.{and_parts, eqb-true, false≢true, leb-true}
use Rattle.std.proofs.lemmas.Bool.Decides.{nat_tests}
use Rattle.std.proofs.lemmas.Option.{cond_some}
use Rattle.vert_base.specs.declared.message.Name.{Name}
use Rattle.vert_base.specs.declared.message.NameKind.{NameKind}
use Rattle.vert_base.specs.declared.message.NameKind.TheVariants as kind
use Rattle.vert_base.specs.declared.value.Ruling.{Ruling}
use Rattle.vert_base.specs.declared.value.Ruling.TheVariants.{Stop, Dense, Sparse}
use Rattle.vert_base.specs.Letters.{Letter, found}
use Rattle.vert_base.specs.Names.{kind_place, same_name}
use Rattle.circulant_plan.specs.declared.spot.Spot.TheVariants.{Begin, Tell}
use Rattle.circulant_plan.specs.Names.{verdict_name}
use Rattle.circulant_plan.specs.Remaining.{way_left}
use Rattle.circulant_plan.specs.Skeleton.{is_over, may_rule, standing_taken}
use Rattle.circulant_plan.specs.Standing.{Standing, first_standing, next_standing}
use Rattle.circulant_plan.specs.Table.{needs_of}
use Rattle.circulant_plan.proofs.StandingLaws.{not_zero}
use Rattle.instrument.specs.declared.split.Split.{Split}
use Rattle.body_shape.specs.declared.shape.BodyShape.TheVariants as shape
use Rattle.body_shape.specs.Fit.{is_fit}
use Rattle.body_shape.specs.Verdict.{judged_read, may_be}
use Rattle.body_shape.proofs.VerdictLaws.{verdict_suits}
use Rattle.symple_face.specs.declared.action.Action.{Action}
use Rattle.symple_face.specs.declared.action.Action.TheVariants.{Ready, Waits, Over}
use Rattle.symple_face.specs.Lawful.{CanRun, IsLawful, acting, is_begin}
use Rattle.symple_face.specs.Parts.{PlainPart}
use Rattle.symple_face.specs.Plans.{blocks_of, concerns, goes_by_plan, is_in_range, is_planned, is_whole, ring_of, serves}
use Rattle.symple_face.specs.Shapes.{form_of}
use Rattle.symple_face.specs.State.{IsTakeable, State, action_of, first_missing, machine, needs, p_of, ruling_read, waiting_for}
use Rattle.symple_face.specs.Work.{Work}
use Rattle.worker_stream.specs.Walks.{IsWalk, Walks, knows, way_of}
use Rattle.worker_stream.proofs.WalkLaws.{walks_alike, walks_on, walks_ruled, way_ruled}

-- ---- what a machine is ready for
over_or_not : (b : Bool) (a : Action) → (if b then Over else a) ≡ Ready → (b ≡ false) × (a ≡ Ready)
over_or_not true a e = absurd (cc)
over_or_not false a e = (refl, e)

pub nothing_missing : (o : Option Name) → waiting_for o ≡ Ready → o ≡ None
nothing_missing None e = refl
nothing_missing (Some x) e = absurd (cc)

pub ready_on : (s : State) → action_of s ≡ Ready → is_over s.at.spot ≡ false
ready_on s e = (over_or_not (is_over s.at.spot) (waiting_for (first_missing (needs s) s.held)) e).0

waited : (b : Bool) (a : Action) (x : Name) → (if b then Over else a) ≡ Waits x → b ≡ false
waited true a x e = absurd (cc)
waited false a x e = refl

pub waits_on : (s : State) (x : Name) → action_of s ≡ Waits x → is_over s.at.spot ≡ false
waits_on s x e = waited (is_over s.at.spot) (waiting_for (first_missing (needs s) s.held)) x e

ready_all : (s : State) → action_of s ≡ Ready → first_missing (needs s) s.held ≡ None
ready_all s e = nothing_missing _ (over_or_not (is_over s.at.spot) (waiting_for (first_missing (needs s) s.held)) e).1

one_there : (b : Bool) (x : Name) → (if b then None else Some x) ≡ None → b ≡ true
one_there true x e = refl
one_there false x e = absurd (cc)

-- who begins a round has its verdict
has_verdict : (s : State) (r : ℕ) → action_of s ≡ Ready → s.at.spot ≡ Begin r → machine s ≢ 0 →
    knows s (machine s) r ≡ true
has_verdict s r ready at other =
    let ring = ring_of s.split (p_of s) in
    let one : needs_of ring (machine s) s.at.spot ≡ verdict_name r (machine s) ∷ [] =
    ap (needs_of ring (machine s)) at
    ∙ ap (λ b. if b then [] else verdict_name r (machine s) ∷ []) (not_zero (machine s) other) in
    one_there (is_some (found (verdict_name r (machine s)) s.held)) (verdict_name r (machine s))
    (sym (ap (λ xs. first_missing xs s.held) one) ∙ ready_all s ready)

-- ---- states with these parts
module _ (s t : State) (part : t.part ≡ s.part) (split : t.split ≡ s.split) (ruling : Ruling)
    (ruling_is : t.ruling ≡ ruling) (at : Standing) (at_is : t.at ≡ at) where
  moved : IsWalk (ring_of s.split (p_of s)) (blocks_of s.split) (machine s) ruling at (knows t (machine s)) → Walks t
  moved walk =
      subst (λ (p : PlainPart). IsWalk (ring_of t.split p.at.machines) (blocks_of t.split) p.at.machine t.ruling t.at
      (knows t p.at.machine)) (sym part)
      (subst (λ (q : Split). IsWalk (ring_of q (p_of s)) (blocks_of q) (machine s) t.ruling t.at (knows t (machine s)))
      (sym split)
      (subst (λ (a : Ruling). IsWalk (ring_of s.split (p_of s)) (blocks_of s.split) (machine s) a t.at
      (knows t (machine s))) (sym ruling_is)
      (subst (λ (n : Standing). IsWalk (ring_of s.split (p_of s)) (blocks_of s.split) (machine s) ruling n
      (knows t (machine s))) (sym at_is) walk)))

  way_moved : way_of t ≡ way_left (blocks_of s.split) at
  way_moved = ap (λ (q : Split). way_left (blocks_of q) t.at) split ∙ ap (way_left (blocks_of s.split)) at_is

-- ---- a message that is planned
abbrev totals_in : Split → ℕ
totals_in split = length split.program.program.totals.items

few_machines : (part : PlainPart) (split : Split) → CanRun part split → part.at.machines ≤ 64
few_machines part split can =
    let count = can.whole.machine in
    let few = can.ends.1 in
    omega arith

other_name : (x y : Name) (b : Bool) → (kind_place x.kind == kind_place y.kind) ≡ false → (same_name x y || b) ≡ b
other_name x y b ne = ap (λ q. (q && rest_same) || b) ne
  where
    rest_same : Bool
    rest_same = x.round == y.round && (x.step == y.step && (x.half == y.half && (x.from == y.from
        && (x.to == y.to && true))))

module _ (s : State) (l : Letter) (can : IsTakeable s l) where
  pub planned : is_planned s.split (p_of s) (machine s) l.name ≡ true
  planned = (cond_some (is_planned s.split (p_of s) (machine s) l.name) (form_of s.split s.part l.name.kind l.name)
      can.shape can.has).0

  form_is : form_of s.split s.part l.name.kind l.name ≡ can.shape
  form_is = (cond_some (is_planned s.split (p_of s) (machine s) l.name) (form_of s.split s.part l.name.kind l.name)
      can.shape can.has).1

  others : (goes_by_plan (ring_of s.split (p_of s)) l.name.kind l.name
      && (serves (blocks_of s.split) l.name.kind
      && is_in_range (blocks_of s.split).limit l.name.kind l.name.round)) ≡ true
  others = (and_parts (concerns (p_of s) (machine s) l.name) _ planned).1

  pub goes : goes_by_plan (ring_of s.split (p_of s)) l.name.kind l.name ≡ true
  goes = (and_parts (goes_by_plan (ring_of s.split (p_of s)) l.name.kind l.name) _ others).0

  pub ranges : is_in_range (blocks_of s.split).limit l.name.kind l.name.round ≡ true
  ranges = (and_parts (serves (blocks_of s.split) l.name.kind) _
      (and_parts (goes_by_plan (ring_of s.split (p_of s)) l.name.kind l.name) _ others).1).1

  apart : l.name.from ≢ l.name.to
  apart e =
      let x = l.name in
      let met = (and_parts (concerns (p_of s) (machine s) x) _ planned).0 in
      let first = (and_parts (nat_lt x.from (p_of s)) _ met).1 in
      let second = (and_parts (nat_lt x.to (p_of s)) _ first).1 in
      let third : not (x.from == x.to) ≡ true = (and_parts (not (x.from == x.to)) _ second).0 in
      let same : (x.from == x.to) ≡ true = grind (arith, nat_tests) in
      false≢true (sym (ap not same) ∙ third)

  module _ (is : l.name.kind ≡ kind.Verdict) where
    goes_there : (is_whole l.name && l.name.from == 0) ≡ true
    goes_there = sym (ap (λ k. goes_by_plan (ring_of s.split (p_of s)) k l.name) is) ∙ goes

    from_zero : l.name.from ≡ 0
    from_zero = eqb-true l.name.from 0 (and_parts (is_whole l.name) _ goes_there).1

    whole : is_whole l.name ≡ true
    whole = (and_parts (is_whole l.name) _ goes_there).0

    no_step : l.name.step ≡ 0
    no_step = eqb-true l.name.step 0 (and_parts (l.name.step == 0) _ whole).0

    no_half : l.name.half ≡ 0
    no_half = eqb-true l.name.half 0 (and_parts (l.name.step == 0) _ whole).1

    other : machine s ≢ 0
    other e = apart (from_zero ∙ sym (can.here ∙ e))

    some : 1 ≤ s.at.round
    some =
        let range : (nat_le 1 l.name.round && nat_le l.name.round ((blocks_of s.split).limit + 1)) ≡ true =
        sym (ap (λ k. is_in_range (blocks_of s.split).limit k l.name.round) is) ∙ ranges in
        let low : 1 ≤ l.name.round = leb-true 1 l.name.round (and_parts (nat_le 1 l.name.round) _ range).0 in
        let same = can.round in
        omega arith

    abbrev with_kind : NameKind → ℕ → ℕ → ℕ → ℕ → ℕ → Name
    with_kind k r p h f t = record { kind = k; round = r; step = p; half = h; from = f; to = t }

    name_is : l.name ≡ verdict_name s.at.round (machine s)
    name_is =
        ap (λ k. with_kind k l.name.round l.name.step l.name.half l.name.from l.name.to) is
        ∙ (ap (λ r. with_kind kind.Verdict r l.name.step l.name.half l.name.from l.name.to) can.round
        ∙ (ap (λ p. with_kind kind.Verdict s.at.round p l.name.half l.name.from l.name.to) no_step
        ∙ (ap (λ h. with_kind kind.Verdict s.at.round 0 h l.name.from l.name.to) no_half
        ∙ (ap (λ f. with_kind kind.Verdict s.at.round 0 0 f l.name.to) from_zero
        ∙ ap (λ t. with_kind kind.Verdict s.at.round 0 0 0 t) can.here))))

    is_new : knows s (machine s) s.at.round ≡ false
    is_new = ap (λ x. is_some (found x s.held)) (sym name_is) ∙ ap is_some can.new

    read_same : (totals : ℕ) (body : List ℕ) → (judged_read totals body).ruling ≡ ruling_read body
    read_same totals [] = refl
    read_same totals (byte ∷ bytes) = refl

    may_by : (a : Ruling) → may_be (may_rule (blocks_of s.split) l.name.round Dense)
        (may_rule (blocks_of s.split) l.name.round Sparse) a ≡ true → may_rule (blocks_of s.split) l.name.round a ≡ true
    may_by Stop e = refl
    may_by Dense e = e
    may_by Sparse e = e

    may : may_rule (blocks_of s.split) s.at.round (ruling_read l.body) ≡ true
    may =
        let dense = may_rule (blocks_of s.split) l.name.round Dense in
        let sparse = may_rule (blocks_of s.split) l.name.round Sparse in
        let count = totals_in s.split in
        let fits : is_fit (shape.Verdict dense sparse count) l.body ≡ true =
        ap (λ k. is_fit (form_of s.split s.part k l.name) l.body) (sym is)
        ∙ (ap (λ q. is_fit q l.body) form_is ∙ can.fits) in
        let suits = (verdict_suits dense sparse count l.body fits).0 in
        let by : may_be dense sparse (ruling_read l.body) ≡ true =
        sym (ap (may_be dense sparse) (read_same count l.body)) ∙ suits in
        ap (λ r. may_rule (blocks_of s.split) r (ruling_read l.body)) (sym can.round) ∙ may_by (ruling_read l.body) by

not_verdict : (k : NameKind) → k ≢ kind.Verdict → (kind_place k == 5) ≡ false
not_verdict kind.Refresh ne = refl
not_verdict kind.Dep ne = refl
not_verdict kind.Update ne = refl
not_verdict kind.Push ne = refl
not_verdict kind.Tally ne = refl
not_verdict kind.Verdict ne = absurd (ne refl)

stands_still : (k : NameKind) (a : Ruling) (s : Standing) → k ≢ kind.Verdict → standing_taken k a s ≡ s
stands_still kind.Refresh a s ne = refl
stands_still kind.Dep a s ne = refl
stands_still kind.Update a s ne = refl
stands_still kind.Push a s ne = refl
stands_still kind.Tally a s ne = refl
stands_still kind.Verdict a s ne = absurd (ne refl)

pub is_verdict : (k : NameKind) → (k ≡ kind.Verdict) ⊎ (k ≢ kind.Verdict)
is_verdict kind.Refresh = inr (λ e. absurd (cc))
is_verdict kind.Dep = inr (λ e. absurd (cc))
is_verdict kind.Update = inr (λ e. absurd (cc))
is_verdict kind.Push = inr (λ e. absurd (cc))
is_verdict kind.Tally = inr (λ e. absurd (cc))
is_verdict kind.Verdict = inl refl

-- ---- the three ways of a machine
pub record GetsOn (s t : State) : Type 0 where
  pub walks : Walks t
  pub less : way_of t < way_of s

pub record StaysOn (s t : State) : Type 0 where
  pub walks : Walks t
  pub no_more : way_of t ≤ way_of s

module _ (work : Work) (sound : State → Type 0) (lawful : IsLawful work sound) where
  pub first_walks : (part : PlainPart) (split : Split) → CanRun part split → Walks (work.first part split)
  first_walks part split can =
      let s = work.first part split in
      let at = lawful.first_at part split in
      let same : first_standing.spot ≡ Tell = refl in
      let walk : IsWalk (ring_of split part.at.machines) (blocks_of split) part.at.machine s.ruling first_standing
      (knows s part.at.machine) =
      record {
        place = can.place;
        few = few_machines part split can;
        round = refl;
        has = tt;
        low = λ e. omega arith;
        known = tt;
      } in
      subst (λ (p : PlainPart). IsWalk (ring_of s.split p.at.machines) (blocks_of s.split) p.at.machine s.ruling s.at
      (knows s p.at.machine)) (sym (lawful.first_part part split))
      (subst (λ (q : Split). IsWalk (ring_of q part.at.machines) (blocks_of q) part.at.machine s.ruling s.at
      (knows s part.at.machine)) (sym (lawful.first_split part split))
      (subst (λ (n : Standing). IsWalk (ring_of split part.at.machines) (blocks_of split) part.at.machine s.ruling n
      (knows s part.at.machine)) (sym at) walk))

  pub go_walks : (s : State) → Walks s → action_of s ≡ Ready → GetsOn s (work.go s)
  go_walks s walk ready =
      let m = machine s in
      let next = next_standing (ring_of s.split (p_of s)) m (acting work s) s.at in
      let stays : (r : ℕ) → knows (work.go s) m r ≡ (not (is_begin next.spot) && knows s m r) =
      λ r. lawful.go_held s (verdict_name r m)
      ∙ ap (λ (n : Standing). not (is_begin n.spot) && knows s m r) (lawful.go_at s) in
      let further =
      walks_on (ring_of s.split (p_of s)) (blocks_of s.split) m (work.judge s) s.ruling s.at (knows s m)
      (knows (work.go s) m) walk (ready_on s ready) (λ r at. lawful.judge_may s r at)
      (λ r at ne. has_verdict s r ready at ne) stays in
      let way = way_moved s (work.go s) (lawful.go_part s) (lawful.go_split s) (acting work s) (lawful.go_ruling s)
      next (lawful.go_at s) in
      record {
        walks = moved s (work.go s) (lawful.go_part s) (lawful.go_split s) (acting work s) (lawful.go_ruling s) next
            (lawful.go_at s) further.walk;
        less = subst (λ (n : ℕ). n < way_of s) (sym way) further.less;
      }

  pub take_walks : (s : State) (l : Letter) → Walks s → IsTakeable s l → StaysOn s (work.take s l)
  take_walks s l walk can =
      ⊎_elim
      (λ (is : l.name.kind ≡ kind.Verdict).
      let a = ruling_read l.body in
      let at : (work.take s l).at ≡ standing_taken kind.Verdict a s.at =
      lawful.take_at s l ∙ ap (λ k. standing_taken k a s.at) is in
      let way = way_moved s (work.take s l) (lawful.take_part s l) (lawful.take_split s l) a
      (lawful.take_verdict s l is) (standing_taken kind.Verdict a s.at) at in
      let t : StaysOn s (work.take s l) = record {
        walks = moved s (work.take s l) (lawful.take_part s l) (lawful.take_split s l) a (lawful.take_verdict s l is)
            (standing_taken kind.Verdict a s.at) at
            (walks_ruled (ring_of s.split (p_of s)) (blocks_of s.split) (machine s) s.ruling a s.at
            (knows s (machine s)) (knows (work.take s l) (machine s)) walk (other s l can is) (some s l can is)
            can.going (is_new s l can is) (may s l can is));
        no_more = subst (λ (n : ℕ). n ≤ way_of s) (sym way) (way_ruled (blocks_of s.split) a s.at);
      } in t)
      (λ (ne : l.name.kind ≢ kind.Verdict).
      let at : (work.take s l).at ≡ s.at = lawful.take_at s l ∙ stands_still l.name.kind (ruling_read l.body) s.at ne in
      let same : (r : ℕ) → knows (work.take s l) (machine s) r ≡ knows s (machine s) r = λ r.
      lawful.take_held s l (verdict_name r (machine s))
      ∙ other_name l.name (verdict_name r (machine s)) (knows s (machine s) r) (not_verdict l.name.kind ne) in
      let way = way_moved s (work.take s l) (lawful.take_part s l) (lawful.take_split s l) s.ruling
      (lawful.take_other s l ne) s.at at in
      let t : StaysOn s (work.take s l) = record {
        walks = moved s (work.take s l) (lawful.take_part s l) (lawful.take_split s l) s.ruling
            (lawful.take_other s l ne) s.at at
            (walks_alike (ring_of s.split (p_of s)) (blocks_of s.split) (machine s) s.ruling s.at
            (knows s (machine s)) (knows (work.take s l) (machine s)) walk same);
        no_more = omega (arith, way);
      } in t)
      (is_verdict l.name.kind)
