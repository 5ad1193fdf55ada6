-- The names of the messages of a run, by the mode of each round.
use Rattle.std.proofs.Common.{◌≡◌, ◌≢◌, ℕ, zero, suc, ◌+◌, ◌-◌, ◌*◌, ◌<◌, ◌≤◌, Bool, true, false, cond, List, [], ◌∷◌, map, refl, ap, sym, ◌∙◌, subst, inl, arith, ⊎_elim}
use Rattle.std.proofs.lemmas.Bool.{cases_lt, cases_eq, false≢true}
use Rattle.vert_base.specs.declared.message.Name.{Name}
use Rattle.vert_base.specs.declared.message.NameKind.{NameKind}
use Rattle.vert_base.specs.declared.message.NameKind.TheVariants.{Refresh, Dep, Update, Push, Tally, Verdict}
use Rattle.vert_base.specs.declared.value.Ruling.{Ruling}
use Rattle.vert_base.specs.declared.value.Ruling.TheVariants.{Stop, Dense, Sparse}
use Rattle.circulant_plan.specs.declared.spot.Spot.{Spot}
use Rattle.circulant_plan.specs.declared.spot.Spot.TheVariants.{Tell, Judge, Begin, Scan, Close, Over}
use Rattle.circulant_plan.specs.Names.{refresh_name, dep_name, update_name, push_name, tally_name, verdict_name}
use Rattle.circulant_plan.specs.Ring.{chunk_of, after_machine}
use Rattle.circulant_plan.specs.Table.{others_of, name_if, needs_of, tally_gives, begin_gives, gives_of}
use Rattle.circulant_plan.specs.Standing.{round_of, offset_of}
use Rattle.circulant_plan.specs.Deliveries.{HasSpot, close_at, tally_at, sent_of_kind, sending_spot, needed_of_kind, place_at, IsSentBefore, IsNeededLater}
use Rattle.circulant_plan.specs.Skeleton.{is_over}
use Rattle.circulant_plan.proofs.Members.{Has, has_from_contains, contains_from_has, has_map_cases, has_map, has_others}
use Rattle.circulant_plan.proofs.Choices.{has_name_if_cases}
use Rattle.circulant_plan.proofs.StandingLaws.{is_zero, not_zero, below_true, below_false}
use Rattle.circulant_plan.proofs.NeedLaws.{needed_is_sent}
use Rattle.circulant_plan.proofs.GiftLaws.{sent_is_needed}
use Rattle.circulant_plan.proofs.SendingLaws.{sent_at, needed_at, sent_place, tally_spot}
use Rattle.circulant_plan.proofs.ActionLaws.{Course}

module _ (course : Course) where
  open course use {ring, few, mode, not_stop}

  pub offset_small : (m : ℕ) (ruling : Ruling) (spot : Spot) → HasSpot ring m ruling spot → offset_of spot < 256
  offset_small m ruling Tell has = omega arith
  offset_small m ruling (Judge r) has = omega arith
  offset_small m ruling (Begin r) has = omega arith
  offset_small m ruling (Scan r s h) has = let step = has.1 in let half = has.2 in omega arith
  offset_small m ruling (Close r dense) has = omega arith
  offset_small m ruling Over has = omega arith

  -- its sender sends it where the mode of its round says so
  pub record IsName (x : Name) : Type 0 where
    pub from : x.from < ring.machines
    pub has : HasSpot ring x.from (mode x.round) (sending_spot (mode x.round) x)
    pub sent : Has (gives_of ring x.from (sending_spot (mode x.round) x) (mode x.round)) x

  pub needed_later : (x : Name) → IsName x → IsNeededLater ring x.from (mode x.round) (sending_spot (mode x.round) x) x
  needed_later x named =
      sent_is_needed ring x.from (mode x.round) (sending_spot (mode x.round) x) x named.from few
      (not_stop x.round) named.has
      (contains_from_has (gives_of ring x.from (sending_spot (mode x.round) x) (mode x.round)) x named.sent)

  -- what a spot needs is a name, sent at an earlier place
  pub record IsNeed (m : ℕ) (spot : Spot) (x : Name) : Type 0 where
    pub named : IsName x
    pub to : x.to ≡ m
    pub sooner : sent_at x < place_at spot
    pub round : x.round ≡ round_of 0 spot

  pub need_is_name : (m : ℕ) (spot : Spot) (x : Name) → m < ring.machines →
      HasSpot ring m (mode (round_of 0 spot)) spot → Has (needs_of ring m spot) x → IsNeed m spot x
  need_is_name m spot x within has h =
      let n : IsSentBefore ring m (mode (round_of 0 spot)) spot x =
      needed_is_sent ring m (mode (round_of 0 spot)) spot x within few (not_stop (round_of 0 spot)) has
      (contains_from_has (needs_of ring m spot) x h) in
      let back : mode (round_of 0 spot) ≡ mode x.round = ap mode (sym n.round) in
      record {
        named = record {
          from = n.from;
          has = subst (λ a. HasSpot ring x.from a (sending_spot a x)) back n.has;
          sent =
              subst (λ a. Has (gives_of ring x.from (sending_spot a x) a) x) back
              (has_from_contains
              (gives_of ring x.from (sending_spot (mode (round_of 0 spot)) x) (mode (round_of 0 spot)))
              x n.sent);
        };
        to = n.to;
        sooner =
            let e = n.earlier in
            let q = sent_place (mode (round_of 0 spot)) x (not_stop (round_of 0 spot)) in
            omega arith;
        round = n.round;
      }

  -- what a spot sends is a name whose sending spot it is
  pub record IsGift (m : ℕ) (spot : Spot) (x : Name) : Type 0 where
    pub named : IsName x
    pub from : x.from ≡ m
    pub by : sending_spot (mode x.round) x ≡ spot

  module _ (m : ℕ) (within : m < ring.machines) where
    tally_gift : (r : ℕ) (spot : Spot) (x : Name) → HasSpot ring m (mode r) spot →
        tally_at r (mode r) ≡ spot → Has (tally_gives m r) x →
        ((y : Name) → Has (tally_gives m r) y → Has (gives_of ring m spot (mode r)) y) → IsGift m spot x
    tally_gift r spot x has at h gives =
        ⊎_elim
        (λ (first : m ≡ 0).
        let none : Has [] x = subst (λ q. Has (cond q [] (tally_name r m ∷ [])) x) (is_zero m first) h in
        absurd none)
        (λ (other : m ≢ 0).
        let b = not_zero m other in
        let one : Has (tally_name r m ∷ []) x = subst (λ q. Has (cond q [] (tally_name r m ∷ [])) x) b h in
        ⊎_elim
        (λ (e : tally_name r m ≡ x).
        subst (λ y. IsGift m spot y) e (record {
          named = record {
            from = within;
            has = subst (λ q. HasSpot ring m (mode r) q) (sym at) has;
            sent =
                subst (λ q. Has (gives_of ring m q (mode r)) (tally_name r m)) (sym at)
                (gives (tally_name r m) (subst (λ y. Has (tally_gives m r) y) (sym e) h));
          };
          from = refl;
          by = at;
        }))
        (λ never. absurd never)
        one)
        (cases_eq m 0)

    judge_gift : (r : ℕ) (ruling : Ruling) (x : Name) → m ≡ 0 → Has (gives_of ring m (Judge r) ruling) x →
        IsGift m (Judge r) x
    judge_gift r ruling x first h =
        let list : Has (map (verdict_name (r + 1)) (others_of ring.machines 0)) x =
        subst (λ q. Has (cond q (map (verdict_name (r + 1)) (others_of ring.machines 0)) []) x)
        (is_zero m first) h in
        let c = has_map_cases (verdict_name (r + 1)) (others_of ring.machines 0) x list in
        let k = c.0 in
        let back : Judge (r + 1 - 1) ≡ Judge r = let e : r + 1 - 1 ≡ r = omega arith in ap (λ i. Judge i) e in
        let there : Has (gives_of ring m (Judge r) ruling) (verdict_name (r + 1) k) =
        subst (λ y. Has (gives_of ring m (Judge r) ruling) y) (sym c.2) h in
        let at_zero : Has (gives_of ring 0 (Judge r) ruling) (verdict_name (r + 1) k) =
        subst (λ j. Has (gives_of ring j (Judge r) ruling) (verdict_name (r + 1) k)) first there in
        subst (λ y. IsGift m (Judge r) y) c.2 (record {
          named = record {
            from = omega arith;
            has = refl;
            sent = subst (λ q. Has (gives_of ring 0 q (mode (r + 1))) (verdict_name (r + 1) k)) (sym back) at_zero;
          };
          from = sym first;
          by = back;
        })

    begin_gift : (r : ℕ) (ruling : Ruling) (x : Name) → 1 ≤ r → ruling ≡ mode r →
        Has (begin_gives ring.machines m r ruling) x → IsGift m (Begin r) x
    begin_gift r Stop x later mine h = absurd h
    begin_gift r Dense x later mine h =
        let c = has_map_cases (refresh_name r m) (others_of ring.machines m) x h in
        let k = c.0 in
        subst (λ y. IsGift m (Begin r) y) c.2 (record {
          named = record {
            from = within;
            has = later;
            sent =
                subst (λ a. Has (begin_gives ring.machines m r a) (refresh_name r m k)) mine
                (subst (λ y. Has (begin_gives ring.machines m r Dense) y) (sym c.2) h);
          };
          from = refl;
          by = refl;
        })
    begin_gift r Sparse x later mine h =
        let c = has_map_cases (push_name r m) (others_of ring.machines m) x h in
        let k = c.0 in
        subst (λ y. IsGift m (Begin r) y) c.2 (record {
          named = record {
            from = within;
            has = later;
            sent =
                subst (λ a. Has (begin_gives ring.machines m r a) (push_name r m k)) mine
                (subst (λ y. Has (begin_gives ring.machines m r Sparse) y) (sym c.2) h);
          };
          from = refl;
          by = refl;
        })

    scan_gift : (r s h : ℕ) (ruling : Ruling) (x : Name) → HasSpot ring m (mode r) (Scan r s h) →
        Has (gives_of ring m (Scan r s h) ruling) x → IsGift m (Scan r s h) x
    scan_gift r s h ruling x has g =
        let p = ring.machines in
        let list : Bool → List Name =
        λ q.
        cond q
        (update_name r s h m (chunk_of m s p) ∷ name_if ring.carry (dep_name r s h m (after_machine m p)))
        [] in
        ⊎_elim
        (λ (early : s < p - 1).
        let listed : Has (list true) x = subst (λ q. Has (list q) x) (below_true s (p - 1) early) g in
        ⊎_elim
        (λ (e : update_name r s h m (chunk_of m s p) ≡ x).
        subst (λ y. IsGift m (Scan r s h) y) e (record {
          named =
              record {
                from = within;
                has = has;
                sent = subst (λ y. Has (gives_of ring m (Scan r s h) ruling) y) (sym e) g;
              };
          from = refl;
          by = refl;
        }))
        (λ more.
        let c = has_name_if_cases ring.carry (dep_name r s h m (after_machine m p)) x more in
        subst (λ y. IsGift m (Scan r s h) y) c.1 (record {
          named =
              record {
                from = within;
                has = has;
                sent = subst (λ y. Has (gives_of ring m (Scan r s h) ruling) y) (sym c.1) g;
              };
          from = refl;
          by = refl;
        }))
        listed)
        (λ (last : p - 1 ≤ s).
        let none : Has (list false) x = subst (λ q. Has (list q) x) (below_false s (p - 1) last) g in
        absurd none)
        (cases_lt s (p - 1))

    pub gift_is_name : (ruling : Ruling) (spot : Spot) (x : Name) →
        HasSpot ring m (mode (round_of 0 spot)) spot → ((r : ℕ) → spot ≡ Begin r → ruling ≡ mode r) →
        Has (gives_of ring m spot ruling) x → IsGift m spot x
    gift_is_name ruling Tell x has mine h = tally_gift 0 Tell x tt refl h (λ y g. g)
    gift_is_name ruling (Judge r) x has mine h = judge_gift r ruling x has h
    gift_is_name ruling (Begin r) x has mine h = begin_gift r ruling x has (mine r refl) h
    gift_is_name ruling (Scan r s j) x has mine h = scan_gift r s j ruling x has h
    gift_is_name ruling (Close r true) x has mine h =
        tally_gift r (Close r true) x has (tally_spot r (mode r) has.0 ∙ ap (λ a. close_at r a) has.1) h
        (λ y g. g)
    gift_is_name ruling (Close r false) x has mine h =
        tally_gift r (Close r false) x has (tally_spot r (mode r) has.0 ∙ ap (λ a. close_at r a) has.1) h
        (λ y g. g)
    gift_is_name ruling Over x has mine h = absurd h

    begin_round : (r : ℕ) (ruling : Ruling) (x : Name) → Has (begin_gives ring.machines m r ruling) x → x.round ≡ r
    begin_round r Stop x h = absurd h
    begin_round r Dense x h =
        let c = has_map_cases (refresh_name r m) (others_of ring.machines m) x h in ap (λ y. y.round) (sym c.2)
    begin_round r Sparse x h =
        let c = has_map_cases (push_name r m) (others_of ring.machines m) x h in ap (λ y. y.round) (sym c.2)

    gives_same : (ruling : Ruling) (spot : Spot) (x : Name) → ((r : ℕ) → spot ≡ Begin r → ruling ≡ mode r) →
        Has (gives_of ring m spot (mode x.round)) x → Has (gives_of ring m spot ruling) x
    gives_same ruling Tell x mine h = h
    gives_same ruling (Judge r) x mine h = h
    gives_same ruling (Begin r) x mine h =
        subst (λ a. Has (begin_gives ring.machines m r a) x)
        (ap mode (begin_round r (mode x.round) x h) ∙ sym (mine r refl)) h
    gives_same ruling (Scan r s j) x mine h = h
    gives_same ruling (Close r dense) x mine h = h
    gives_same ruling Over x mine h = h

    -- a name whose sending spot this is is sent here
    pub name_is_gift : (ruling : Ruling) (spot : Spot) (x : Name) →
        ((r : ℕ) → spot ≡ Begin r → ruling ≡ mode r) → IsName x → x.from ≡ m →
        sending_spot (mode x.round) x ≡ spot → Has (gives_of ring m spot ruling) x
    name_is_gift ruling spot x mine named from at =
        gives_same ruling spot x mine
        (subst (λ q. Has (gives_of ring m q (mode x.round)) x) at
        (subst
        (λ j. Has (gives_of ring j (sending_spot (mode x.round) x) (mode x.round)) x) from
        named.sent))

  -- the verdict of a round and the tally of a round are names
  pub verdict_named : (q m : ℕ) → 1 ≤ q → m < ring.machines → m ≢ 0 → IsName (verdict_name q m)
  verdict_named q m later within other =
      let listed : Has (needs_of ring m (Begin q)) (verdict_name q m) = rw (not_zero m other) (inl refl) in
      (need_is_name m (Begin q) (verdict_name q m) within later listed).named

  pub tally_named : (q m : ℕ) → m < ring.machines → m ≢ 0 → IsName (tally_name q m)
  tally_named q m within other =
      let listed : Has (needs_of ring 0 (Judge q)) (tally_name q m) =
      has_map (tally_name q) (others_of ring.machines 0) m
      (has_others ring.machines 0 m (omega arith) within other) in
      (need_is_name 0 (Judge q) (tally_name q m) (omega arith) refl listed).named

  -- what a name of the kind of verdicts is
  pub record IsVerdict (x : Name) : Type 0 where
    pub from : x.from ≡ 0
    pub later : 1 ≤ x.round
    pub same : x ≡ verdict_name x.round x.to
    pub sent : sent_at x ≡ 256 * (x.round - 1) + 255
    pub needed : needed_at ring.machines x ≡ 256 * x.round
    pub by : sending_spot (mode x.round) x ≡ Judge (x.round - 1)
    pub listed : Has (others_of ring.machines 0) x.to

  pub verdict_is : (x : Name) → IsName x → x.kind ≡ Verdict → IsVerdict x
  verdict_is x named e =
      let by : sending_spot (mode x.round) x ≡ Judge (x.round - 1) = ap (λ q. sent_of_kind q (mode x.round) x) e in
      let zero_sends : x.from ≡ 0 = subst (λ q. HasSpot ring x.from (mode x.round) q) by named.has in
      let given : Has (gives_of ring 0 (Judge (x.round - 1)) (mode x.round)) x =
      subst (λ j. Has (gives_of ring j (Judge (x.round - 1)) (mode x.round)) x) zero_sends
      (subst (λ q. Has (gives_of ring x.from q (mode x.round)) x) by named.sent) in
      let c = has_map_cases (verdict_name (x.round - 1 + 1)) (others_of ring.machines 0) x given in
      record {
        from = zero_sends;
        later =
            subst (λ q. HasSpot ring x.to (mode x.round) (needed_of_kind q ring.machines x)) e
            (needed_later x named).has;
        same = subst (λ y. y ≡ verdict_name y.round y.to) c.2 refl;
        sent = ap (λ q. place_at (sent_of_kind q Dense x)) e;
        needed =
            ap (λ q. place_at (needed_of_kind q ring.machines x)) e
            ∙ (let f : 256 * x.round + 0 ≡ 256 * x.round = omega arith in f);
        by = by;
        listed = subst (λ j. Has (others_of ring.machines 0) j) (ap (λ y. y.to) c.2) c.1;
      }

  -- a sender stands at its sending spot by the mode of the spot's round
  tally_round_has : (j r : ℕ) (ruling : Ruling) → ruling ≢ Stop → ruling ≡ mode r →
      HasSpot ring j ruling (tally_at r ruling) →
      HasSpot ring j (mode (round_of 0 (tally_at r ruling))) (tally_at r ruling)
  tally_round_has j zero ruling going e h = h
  tally_round_has j (suc r) Stop going e h = absurd (going refl)
  tally_round_has j (suc r) Dense going e h = (h.0, sym e)
  tally_round_has j (suc r) Sparse going e h = (h.0, sym e)

  has_round_of : (kind : NameKind) (j : ℕ) (ruling : Ruling) (x : Name) → ruling ≢ Stop →
      ruling ≡ mode x.round → HasSpot ring j ruling (sent_of_kind kind ruling x) →
      HasSpot ring j (mode (round_of 0 (sent_of_kind kind ruling x))) (sent_of_kind kind ruling x)
  has_round_of Refresh j ruling x going e h = h
  has_round_of Dep j ruling x going e h = subst (λ a. HasSpot ring j a (Scan x.round x.step x.half)) e h
  has_round_of Update j ruling x going e h = subst (λ a. HasSpot ring j a (Scan x.round x.step x.half)) e h
  has_round_of Push j ruling x going e h = h
  has_round_of Tally j ruling x going e h = tally_round_has j x.round ruling going e h
  has_round_of Verdict j ruling x going e h = h

  pub has_round : (x : Name) → IsName x →
      HasSpot ring x.from (mode (round_of 0 (sending_spot (mode x.round) x))) (sending_spot (mode x.round) x)
  has_round x named = has_round_of x.kind x.from (mode x.round) x (not_stop x.round) refl named.has

  -- a spot at the first place of a round is its begin
  pub at_begin : (m q : ℕ) (spot : Spot) → HasSpot ring m (mode (round_of 0 spot)) spot →
      is_over spot ≡ false → place_at spot ≡ 256 * q → spot ≡ Begin q
  at_begin m q Tell has going at = absurd (omega arith)
  at_begin m q (Judge r) has going at = absurd (omega arith)
  at_begin m q (Begin r) has going at = let e : r ≡ q = omega arith in ap (λ i. Begin i) e
  at_begin m q (Scan r s h) has going at = absurd (let step = has.1 in let half = has.2 in omega arith)
  at_begin m q (Close r dense) has going at = absurd (omega arith)
  at_begin m q Over has going at = absurd (false≢true (sym going))

  -- machine 0 alone stands at the last place of a round
  pub at_judge : (m : ℕ) (ruling : Ruling) (spot : Spot) → HasSpot ring m ruling spot → offset_of spot ≡ 255 → m ≡ 0
  at_judge m ruling Tell has at = absurd (omega arith)
  at_judge m ruling (Judge r) has at = has
  at_judge m ruling (Begin r) has at = absurd (omega arith)
  at_judge m ruling (Scan r s h) has at = absurd (let step = has.1 in let half = has.2 in omega arith)
  at_judge m ruling (Close r dense) has at = absurd (omega arith)
  at_judge m ruling Over has at = absurd (omega arith)

  -- nothing stands before the first action
  pub place_least : (m : ℕ) (spot : Spot) → HasSpot ring m (mode (round_of 0 spot)) spot →
      is_over spot ≡ false → 254 ≤ place_at spot
  place_least m Tell has going = omega arith
  place_least m (Judge r) has going = omega arith
  place_least m (Begin r) has going = omega arith
  place_least m (Scan r s h) has going = let later = has.0 in omega arith
  place_least m (Close r true) has going = omega arith
  place_least m (Close r false) has going = omega arith
  place_least m Over has going = absurd (false≢true (sym going))
