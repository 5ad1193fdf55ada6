-- The plan by kinds is the table of actions.
use Rattle.std.proofs.Common.{◌≡◌, ◌≢◌, ◌⊎◌, ℕ, zero, suc, ◌+◌, ◌-◌, ◌<◌, ◌≤◌, Bool, true, false, cond, not, List, [], ◌∷◌, map, refl, ap, sym, subst, ◌∙◌, inl, inr, arith, ⊎_elim}
use Rattle.std.specs.Prelude.{◌==◌, ◌&&◌, ◌||◌, nat_le, nat_lt, is_some}
use Rattle.std.specs.List.{Contains}
use Rattle.std.proofs.lemmas.Bool.{and_parts, cases_eq, cases_lt, eq-eqb, eqb-true, leb-true, ltb-true, ne_eqb, true≢false, and_from, or_left, or_right, or_cases}
use Rattle.std.proofs.lemmas.Bool.Decides.{nat_tests}
use Rattle.vert_base.specs.declared.message.Name.{Name}
use Rattle.vert_base.specs.declared.message.NameKind.{NameKind}
use Rattle.vert_base.specs.declared.message.NameKind.TheVariants as kind
use Rattle.vert_base.specs.declared.value.Mode.{Mode}
use Rattle.vert_base.specs.declared.value.Mode.TheVariants as mode
use Rattle.vert_base.specs.declared.value.Ruling.{Ruling}
use Rattle.vert_base.specs.declared.value.Ruling.TheVariants.{Stop, Dense, Sparse}
use Rattle.vert_tree.specs.declared.program.Program.{Program}
use Rattle.vert_tree.specs.Kinds.{is_kinded}
use Rattle.vert_tree.specs.Limits.{is_limited, is_shallow, mode_stands, names_stand, version_stands}
use Rattle.vert_tree.specs.Places.{is_placed}
use Rattle.circulant_plan.specs.declared.spot.Ring.{Ring}
use Rattle.circulant_plan.specs.declared.spot.Spot.{Spot}
use Rattle.circulant_plan.specs.declared.spot.Spot.TheVariants.{Tell, Judge, Begin, Scan, Close, Over}
use Rattle.circulant_plan.specs.Names.{refresh_name, dep_name, update_name, push_name, tally_name, verdict_name}
use Rattle.circulant_plan.specs.Ring.{after_machine, chunk_of}
use Rattle.circulant_plan.specs.Deliveries.{HasSpot, needing_spot, tally_at}
use Rattle.circulant_plan.specs.Skeleton.{Blocks}
use Rattle.circulant_plan.specs.Table.{gives_of, name_if, needs_of, others_of, tally_gives}
use Rattle.circulant_plan.proofs.Choices.{has_name_if, has_name_if_cases}
use Rattle.circulant_plan.proofs.GiftLaws.{sent_is_needed}
use Rattle.circulant_plan.proofs.Members.{Has, contains_from_has, has_from_contains, has_map, has_map_cases, has_others}
use Rattle.circulant_plan.proofs.NeedLaws.{needed_is_sent}
use Rattle.circulant_plan.proofs.StandingLaws.{below_false, below_true, is_zero, not_zero}
use Rattle.instrument.specs.declared.split.Split.{Split}
use Rattle.symple_face.specs.Planned.{HasInSomeRound, HasMessage, PlansByTable, has_block}
use Rattle.symple_face.specs.Plans.{blocks_of, concerns, goes_by_plan, is_half, is_in_range, is_planned, is_whole, ring_of, serves}

same_self : (a : ℕ) → (a == a) ≡ true
same_self a = eq-eqb a a refl

-- a typed program has a block
block_by_mode : (m : Mode) (dense sparse : Bool) → mode_stands m dense sparse ≡ true → (dense ≡ true) ⊎ (sparse ≡ true)
block_by_mode mode.Auto dense sparse h = inl (and_parts dense sparse h).0
block_by_mode mode.Dense dense sparse h = inl h
block_by_mode mode.Sparse dense sparse h = inr h

pub mode_block : (split : Split) → mode_stands split.program.program.mode (is_some split.program.program.dense)
    (is_some split.program.program.sparse) ≡ true
mode_block split =
    let p : Program = split.program.program in
    let second : (a b : Bool) → (a && b) ≡ true → b ≡ true = λ a b h. (and_parts a b h).1 in
    let later = second (version_stands p) _
    (second (names_stand p) _ (second (is_shallow p) _
    (second (is_limited p) _ (second (is_kinded p) _ (second (is_placed p) _ split.program.typed))))) in
    (and_parts (mode_stands p.mode (is_some p.dense) (is_some p.sparse)) _ later).0

pub some_block : (split : Split) → (ruling : Ruling) × (has_block (blocks_of split) ruling ≡ true)
some_block split =
    let p : Program = split.program.program in
    ⊎_elim (λ (d : is_some p.dense ≡ true). (Dense, d)) (λ (s : is_some p.sparse ≡ true). (Sparse, s))
    (block_by_mode p.mode (is_some p.dense) (is_some p.sparse) (mode_block split))

-- what a plan says of one name
record Goes (ring : Ring) (blocks : Blocks) (x : Name) : Type 0 where
  plan : goes_by_plan ring x.kind x ≡ true
  block : serves blocks x.kind ≡ true

tally_cases : (m r : ℕ) (x : Name) → Has (tally_gives m r) x → tally_name r m ≡ x
tally_cases m r x h =
    ⊎_elim
    (λ (first : m ≡ 0). let none : Has [] x = subst (λ q. Has (cond q [] (tally_name r m ∷ [])) x) (is_zero m first) h
    in absurd none)
    (λ (other : m ≢ 0).
    let one : Has (tally_name r m ∷ []) x = subst (λ q. Has (cond q [] (tally_name r m ∷ [])) x) (not_zero m other) h in
    ⊎_elim (λ (e : tally_name r m ≡ x). e) (λ never. absurd never) one)
    (cases_eq m 0)

module _ (ring : Ring) (blocks : Blocks) where
  tally_goes : (m r : ℕ) (x : Name) → Has (tally_gives m r) x → Goes ring blocks x
  tally_goes m r x h = subst (λ (y : Name). Goes ring blocks y) (tally_cases m r x h)
      (record { plan = refl; block = refl })

  judge_goes : (r : ℕ) (ruling : Ruling) (x : Name) → Has (gives_of ring 0 (Judge r) ruling) x → Goes ring blocks x
  judge_goes r ruling x h =
      let c = has_map_cases (verdict_name (r + 1)) (others_of ring.machines 0) x h in
      subst (λ (y : Name). Goes ring blocks y) c.2 (record { plan = refl; block = refl })

  begin_goes : (m r : ℕ) (ruling : Ruling) (x : Name) → has_block blocks ruling ≡ true →
      Has (gives_of ring m (Begin r) ruling) x → Goes ring blocks x
  begin_goes m r Stop x block h = absurd h
  begin_goes m r Dense x block h =
      let c = has_map_cases (refresh_name r m) (others_of ring.machines m) x h in
      subst (λ (y : Name). Goes ring blocks y) c.2 (record { plan = refl; block = block })
  begin_goes m r Sparse x block h =
      let c = has_map_cases (push_name r m) (others_of ring.machines m) x h in
      subst (λ (y : Name). Goes ring blocks y) c.2 (record { plan = refl; block = block })

  halves : (s h : ℕ) → s < ring.machines - 1 → h ≤ 1 → (nat_lt s (ring.machines - 1) && nat_le h 1) ≡ true
  halves s h early half = and_from (nat_lt s (ring.machines - 1)) (nat_le h 1)
      (below_true s (ring.machines - 1) early) (grind (arith, nat_tests))

  scan_goes : (m r s h : ℕ) (x : Name) → blocks.dense ≡ true → h ≤ 1 → Has (gives_of ring m (Scan r s h) Dense) x →
      Goes ring blocks x
  scan_goes m r s h x block half has =
      let p : ℕ = ring.machines in
      let list : Bool → List Name = λ q. cond q
      (update_name r s h m (chunk_of m s p) ∷ name_if ring.carry (dep_name r s h m (after_machine m p))) [] in
      ⊎_elim
      (λ (early : s < p - 1).
      let listed : Has (list true) x = subst (λ q. Has (list q) x) (below_true s (p - 1) early) has in
      ⊎_elim
      (λ (e : update_name r s h m (chunk_of m s p) ≡ x).
      subst (λ (y : Name). Goes ring blocks y) e (record {
        plan = and_from (nat_lt s (p - 1) && nat_le h 1) (chunk_of m s p == chunk_of m s p) (halves s h early half)
            (same_self (chunk_of m s p));
        block = block;
      }))
      (λ more.
      let c = has_name_if_cases ring.carry (dep_name r s h m (after_machine m p)) x more in
      subst (λ (y : Name). Goes ring blocks y) c.1 (record {
        plan = and_from (nat_lt s (p - 1) && nat_le h 1) _ (halves s h early half)
            (and_from ring.carry (after_machine m p == after_machine m p) c.0 (same_self (after_machine m p)));
        block = block;
      }))
      listed)
      (λ (last : p - 1 ≤ s). let none : Has (list false) x = subst (λ q. Has (list q) x) (below_false s (p - 1) last)
      has in absurd none)
      (cases_lt s (p - 1))

  -- what a machine sends goes by the plan
  sent_goes : (m : ℕ) (ruling : Ruling) (spot : Spot) (x : Name) → has_block blocks ruling ≡ true →
      HasSpot ring m ruling spot → Has (gives_of ring m spot ruling) x → Goes ring blocks x
  sent_goes m ruling Tell x block has h = tally_goes m 0 x h
  sent_goes m ruling (Judge r) x block has h = judge_goes r ruling x
      (subst (λ (q : ℕ). Has (gives_of ring q (Judge r) ruling) x) has h)
  sent_goes m ruling (Begin r) x block has h = begin_goes m r ruling x block h
  sent_goes m ruling (Scan r s j) x block has h =
      scan_goes m r s j x (sym (ap (has_block blocks) has.3) ∙ block) has.2
      (subst (λ (q : Ruling). Has (gives_of ring m (Scan r s j) q) x) has.3 h)
  sent_goes m ruling (Close r dense) x block has h = tally_goes m r x h
  sent_goes m ruling Over x block has h = absurd h

never_stop : (blocks : Blocks) (ruling : Ruling) → has_block blocks ruling ≡ true → ruling ≢ Stop
never_stop blocks ruling block e = true≢false (sym block ∙ ap (has_block blocks) e)

concerns_is : (p m : ℕ) (x : Name) → x.from < p → x.to < p → x.from ≢ x.to → (x.from ≡ m) ⊎ (x.to ≡ m) →
    concerns p m x ≡ true
concerns_is p m x from to apart one =
    let other : not (x.from == x.to) ≡ true = ap not (ne_eqb x.from x.to apart) in
    let here : ((x.from == m) || (x.to == m)) ≡ true =
    ⊎_elim (λ (e : x.from ≡ m). or_left (x.from == m) (x.to == m) (eq-eqb x.from m e)) (λ (e : x.to ≡ m).
    or_right (x.from == m) (x.to == m) (eq-eqb x.to m e)) one in
    and_from (nat_lt x.from p) _ (below_true x.from p from)
    (and_from (nat_lt x.to p) _ (below_true x.to p to) (and_from (not (x.from == x.to)) _ other here))

-- what the table says is planned
planned_from_table : (split : Split) (p m : ℕ) (x : Name) → p ≤ 64 → m < p → HasInSomeRound split p m x →
    is_in_range (blocks_of split).limit x.kind x.round ≡ true → is_planned split p m x ≡ true
planned_from_table split p m x small within h range =
    let ring : Ring = ring_of split p in
    let blocks : Blocks = blocks_of split in
    let ruling : Ruling = h.0 in
    let block : has_block blocks ruling ≡ true = h.1 in
    let message : HasMessage ring m ruling x = h.2 in
    let going = never_stop blocks ruling block in
    ⊎_elim
    (λ (sent : Contains (gives_of ring m message.0 ruling) x).
    let later = sent_is_needed ring m ruling message.0 x within small going message.1 sent in
    let goes = sent_goes ring blocks m ruling message.0 x block message.1
    (has_from_contains (gives_of ring m message.0 ruling) x sent) in
    and_from (concerns p m x) _ (concerns_is p m x (subst (λ (q : ℕ). q < p) (sym later.from) within) later.to (λ e.
    later.other (sym e ∙ later.from)) (inl later.from))
    (and_from (goes_by_plan ring x.kind x) _ goes.plan (and_from (serves blocks x.kind) _ goes.block range)))
    (λ (needed : Contains (needs_of ring m message.0) x).
    let before = needed_is_sent ring m ruling message.0 x within small going message.1 needed in
    let goes = sent_goes ring blocks x.from ruling _ x block before.has (has_from_contains _ x before.sent) in
    and_from (concerns p m x) _ (concerns_is p m x before.from (subst (λ (q : ℕ). q < p) (sym before.to) within) (λ e.
    before.other (e ∙ before.to)) (inr before.to))
    (and_from (goes_by_plan ring x.kind x) _ goes.plan (and_from (serves blocks x.kind) _ goes.block range)))
    message.2

-- a name by its fields
named : (k : NameKind) (s h : ℕ) (x : Name) → x.kind ≡ k → x.step ≡ s → x.half ≡ h →
    record { kind = k; round = x.round; step = s; half = h; from = x.from; to = x.to } ≡ x
named k s h x e f g =
    sym (ap (λ (q : NameKind). record x { kind = q }) e
    ∙ (ap (λ (q : ℕ). record x { kind = k; step = q }) f
    ∙ ap (λ (q : ℕ). record x { kind = k; step = s; half = q }) g))

-- the sender of a message has it at a spot of its list
record Sends (ring : Ring) (blocks : Blocks) (x : Name) : Type 0 where
  ruling : Ruling
  block : has_block blocks ruling ≡ true
  spot : Spot
  has : HasSpot ring x.from ruling spot
  sent : Has (gives_of ring x.from spot ruling) x

whole_step : (x : Name) → is_whole x ≡ true → x.step ≡ 0
whole_step x w = eqb-true x.step 0 (and_parts (x.step == 0) (x.half == 0) w).0

whole_half : (x : Name) → is_whole x ≡ true → x.half ≡ 0
whole_half x w = eqb-true x.half 0 (and_parts (x.step == 0) (x.half == 0) w).1

module _ (ring : Ring) (blocks : Blocks) (x : Name) (from : x.from < ring.machines) (to : x.to < ring.machines)
    (apart : x.from ≢ x.to) where
  begin_sends : (k : NameKind) (ruling : Ruling) → has_block blocks ruling ≡ true →
      gives_of ring x.from (Begin x.round) ruling
      ≡ map (λ t. record { kind = k; round = x.round; step = 0; half = 0; from = x.from; to = t })
      (others_of ring.machines x.from) →
      x.kind ≡ k → is_whole x ≡ true → 1 ≤ x.round → Sends ring blocks x
  begin_sends k ruling block gives e w later =
      let f : ℕ → Name = λ t. record { kind = k; round = x.round; step = 0; half = 0; from = x.from; to = t } in
      let listed : Has (map f (others_of ring.machines x.from)) (f x.to) =
      has_map f (others_of ring.machines x.from) x.to
      (has_others ring.machines x.from x.to from to (λ same. apart (sym same))) in
      record {
        ruling = ruling;
        block = block;
        spot = Begin x.round;
        has = later;
        sent = subst (λ (l : List Name). Has l x) (sym gives)
            (subst (λ (y : Name). Has (map f (others_of ring.machines x.from)) y)
            (named k 0 0 x e (whole_step x w) (whole_half x w)) listed);
      }

  scan_sends : blocks.dense ≡ true → is_half ring.machines x ≡ true → 1 ≤ x.round →
      Has (update_name x.round x.step x.half x.from (chunk_of x.from x.step ring.machines)
      ∷ name_if ring.carry (dep_name x.round x.step x.half x.from (after_machine x.from ring.machines))) x →
      Sends ring blocks x
  scan_sends block half later listed =
      let p : ℕ = ring.machines in
      let early : x.step < p - 1 = ltb-true x.step (p - 1)
      (and_parts (nat_lt x.step (p - 1)) (nat_le x.half 1) half).0 in
      let one : x.half ≤ 1 = leb-true x.half 1 (and_parts (nat_lt x.step (p - 1)) (nat_le x.half 1) half).1 in
      let all : List Name = update_name x.round x.step x.half x.from (chunk_of x.from x.step p)
      ∷ name_if ring.carry (dep_name x.round x.step x.half x.from (after_machine x.from p)) in
      record {
        ruling = Dense;
        block = block;
        spot = Scan x.round x.step x.half;
        has = (later, omega arith, one, refl);
        sent = subst (λ (q : Bool). Has (cond q all []) x) (sym (below_true x.step (p - 1) early)) listed;
      }

  tally_has : (r : ℕ) (ruling : Ruling) → ruling ≢ Stop → x.from ≢ 0 → HasSpot ring x.from ruling (tally_at r ruling)
      × Has (gives_of ring x.from (tally_at r ruling) ruling) (tally_name r x.from)
  tally_has zero ruling going other = (tt, rw (not_zero x.from other) (inl refl))
  tally_has (suc r) Stop going other = absurd (going refl)
  tally_has (suc r) Dense going other = ((omega arith, refl), rw (not_zero x.from other) (inl refl))
  tally_has (suc r) Sparse going other = ((omega arith, refl), rw (not_zero x.from other) (inl refl))

  tally_sends : (ruling : Ruling) → has_block blocks ruling ≡ true → x.kind ≡ kind.Tally → is_whole x ≡ true →
      x.to ≡ 0 → Sends ring blocks x
  tally_sends ruling block e w zero_to =
      let t = tally_has x.round ruling (never_stop blocks ruling block) (λ z. apart (z ∙ sym zero_to)) in
      let name : tally_name x.round x.from ≡ x =
      ap (λ (q : ℕ). record { kind = kind.Tally; round = x.round; step = 0; half = 0; from = x.from; to = q })
      (sym zero_to) ∙ named kind.Tally 0 0 x e (whole_step x w) (whole_half x w) in
      record {
        ruling = ruling;
        block = block;
        spot = tally_at x.round ruling;
        has = t.0;
        sent = subst (λ (y : Name). Has (gives_of ring x.from (tally_at x.round ruling) ruling) y) name t.1;
      }

  verdict_sends : (ruling : Ruling) → has_block blocks ruling ≡ true → x.kind ≡ kind.Verdict → is_whole x ≡ true →
      x.from ≡ 0 → 1 ≤ x.round → Sends ring blocks x
  verdict_sends ruling block e w zero_from later =
      let p : ℕ = ring.machines in
      let back : x.round - 1 + 1 ≡ x.round = omega arith in
      let f : ℕ → Name = verdict_name (x.round - 1 + 1) in
      let name : f x.to ≡ x =
      ap (λ (q : ℕ). verdict_name q x.to) back
      ∙ (ap (λ (q : ℕ). record { kind = kind.Verdict; round = x.round; step = 0; half = 0; from = q; to = x.to })
      (sym zero_from) ∙ named kind.Verdict 0 0 x e (whole_step x w) (whole_half x w)) in
      let listed : Has (map f (others_of p 0)) x =
      subst (λ (y : Name). Has (map f (others_of p 0)) y) name
      (has_map f (others_of p 0) x.to (has_others p 0 x.to (omega arith) to (λ z. apart (zero_from ∙ sym z)))) in
      record {
        ruling = ruling;
        block = block;
        spot = Judge (x.round - 1);
        has = zero_from;
        sent = subst (λ (q : Bool). Has (cond q (map f (others_of p 0)) []) x) (sym (is_zero x.from zero_from)) listed;
      }

  sends_by_kind : (any : (ruling : Ruling) × (has_block blocks ruling ≡ true)) (limit : ℕ) (k : NameKind) →
      x.kind ≡ k → goes_by_plan ring k x ≡ true → serves blocks k ≡ true → is_in_range limit k x.round ≡ true →
      Sends ring blocks x
  sends_by_kind any limit kind.Refresh e goes block range = begin_sends kind.Refresh Dense block refl e goes
      (leb-true 1 x.round (and_parts (nat_le 1 x.round) _ range).0)
  sends_by_kind any limit kind.Dep e goes block range =
      let p : ℕ = ring.machines in
      let parts = and_parts (is_half p x) _ goes in
      let more = and_parts ring.carry (x.to == after_machine x.from p) parts.1 in
      let name : dep_name x.round x.step x.half x.from (after_machine x.from p) ≡ x =
      ap (λ (q : ℕ). dep_name x.round x.step x.half x.from q) (sym (eqb-true x.to (after_machine x.from p) more.1))
      ∙ named kind.Dep x.step x.half x e refl refl in
      scan_sends block parts.0 (leb-true 1 x.round (and_parts (nat_le 1 x.round) _ range).0)
      (inr (subst (λ (y : Name). Has (name_if ring.carry
      (dep_name x.round x.step x.half x.from (after_machine x.from p))) y) name
      (has_name_if ring.carry (dep_name x.round x.step x.half x.from (after_machine x.from p)) more.0)))
  sends_by_kind any limit kind.Update e goes block range =
      let p : ℕ = ring.machines in
      let parts = and_parts (is_half p x) _ goes in
      let name : update_name x.round x.step x.half x.from (chunk_of x.from x.step p) ≡ x =
      ap (λ (q : ℕ). update_name x.round x.step x.half x.from q)
      (sym (eqb-true x.to (chunk_of x.from x.step p) parts.1)) ∙ named kind.Update x.step x.half x e refl refl in
      scan_sends block parts.0 (leb-true 1 x.round (and_parts (nat_le 1 x.round) _ range).0) (inl name)
  sends_by_kind any limit kind.Push e goes block range = begin_sends kind.Push Sparse block refl e goes
      (leb-true 1 x.round (and_parts (nat_le 1 x.round) _ range).0)
  sends_by_kind any limit kind.Tally e goes block range =
      let parts = and_parts (is_whole x) (x.to == 0) goes in
      tally_sends any.0 any.1 e parts.0 (eqb-true x.to 0 parts.1)
  sends_by_kind any limit kind.Verdict e goes block range =
      let parts = and_parts (is_whole x) (x.from == 0) goes in
      verdict_sends any.0 any.1 e parts.0 (eqb-true x.from 0 parts.1)
      (leb-true 1 x.round (and_parts (nat_le 1 x.round) _ range).0)

-- what is planned is in the table
table_from_plan : (split : Split) (p m : ℕ) (x : Name) → p ≤ 64 → m < p → is_planned split p m x ≡ true →
    HasInSomeRound split p m x × (is_in_range (blocks_of split).limit x.kind x.round ≡ true)
table_from_plan split p m x small within planned =
    let ring : Ring = ring_of split p in
    let blocks : Blocks = blocks_of split in
    let one = and_parts (concerns p m x) _ planned in
    let two = and_parts (goes_by_plan ring x.kind x) _ one.1 in
    let three = and_parts (serves blocks x.kind) _ two.1 in
    let met = and_parts (nat_lt x.from p) _ one.0 in
    let more = and_parts (nat_lt x.to p) _ met.1 in
    let last = and_parts (not (x.from == x.to)) _ more.1 in
    let from : x.from < p = ltb-true x.from p met.0 in
    let to : x.to < p = ltb-true x.to p more.0 in
    let apart : x.from ≢ x.to = λ e. true≢false (sym last.0 ∙ ap not (eq-eqb x.from x.to e)) in
    let s : Sends ring blocks x = sends_by_kind ring blocks x from to apart (some_block split) blocks.limit x.kind
    refl two.0 three.0 three.1 in
    let sent : Contains (gives_of ring x.from s.spot s.ruling) x =
    contains_from_has (gives_of ring x.from s.spot s.ruling) x s.sent in
    let here : HasMessage ring m s.ruling x =
    ⊎_elim
    (λ (e : (x.from == m) ≡ true).
    let same : x.from ≡ m = eqb-true x.from m e in (
      s.spot,
      subst (λ (q : ℕ). HasSpot ring q s.ruling s.spot) same s.has,
      inl (subst (λ (q : ℕ). Contains (gives_of ring q s.spot s.ruling) x) same sent),
    ))
    (λ (e : (x.to == m) ≡ true).
    let same : x.to ≡ m = eqb-true x.to m e in
    let later = sent_is_needed ring x.from s.ruling s.spot x from small (never_stop blocks s.ruling s.block)
    s.has sent in (
      needing_spot p x,
      subst (λ (q : ℕ). HasSpot ring q s.ruling (needing_spot p x)) same later.has,
      inr (subst (λ (q : ℕ). Contains (needs_of ring q (needing_spot p x)) x) same later.needed),
    ))
    (or_cases (x.from == m) (x.to == m) last.1) in
    ((s.ruling, s.block, here), three.1)

pub plans_by_table : PlansByTable
plans_by_table split p m x small within = (
  table_from_plan split p m x small within,
  λ h.
      planned_from_table split p m x small within h.0 h.1,
)
