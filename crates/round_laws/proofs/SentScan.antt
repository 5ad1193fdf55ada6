-- What a machine sends at a scan has the bodies that the source's run says.
use Rattle.std.proofs.Common.{◌≡◌, ◌<◌, ◌≤◌, ◌+◌, ◌-◌, ℕ, Bool, true, false, List, [], ◌∷◌, map, refl, sym, ap, subst, ◌∙◌, arith}
use Rattle.std.specs.Prelude.{if◌then◌else◌, is_some, nat_lt}
use Rattle.std.specs.List.{AllByRecursion, range_with_len}
use Rattle.std.proofs.lemmas.Bool.{ltb-true, ne_eqb}
use Rattle.vert_base.specs.declared.message.Name.{Name}
use Rattle.vert_base.specs.declared.graph.Edge.{Edge}
use Rattle.vert_tree.specs.declared.program.Dense.{Dense}
use Rattle.circulant_plan.specs.declared.spot.Spot.TheVariants.{Scan}
use Rattle.circulant_plan.specs.Names.{dep_name, update_name}
use Rattle.circulant_plan.specs.Ring.{after_machine, chunk_of}
use Rattle.circulant_plan.specs.Table.{name_if}
use Rattle.circulant_plan.proofs.CircleLaws.{chunk_other}
use Rattle.graph_table.proofs.FilterLaws.{all_map, all_passes, all_range, all_weaker, map_same}
use Rattle.body_shape.specs.Update.{Sent, update_body}
use Rattle.dep_layout.specs.Spelling.{spelled}
use Rattle.symple_face.specs.declared.action.Action.TheVariants.{Ready}
use Rattle.symple_face.specs.CoreDense.{scan_dep, scan_update, scanned_at}
use Rattle.symple_face.specs.CoreSight.{is_within, known, mirrors, those_within}
use Rattle.symple_face.specs.CoreWork.{sent_at}
use Rattle.symple_face.specs.Ideal.{ideal_body, ideal_sent, machines_of, state_at}
use Rattle.symple_face.specs.Parts.{refresh_list}
use Rattle.symple_face.specs.PartsOf.{part_of}
use Rattle.symple_face.specs.Plans.{loop_carry}
use Rattle.symple_face.specs.Shapes.{half_in, size_of}
use Rattle.symple_face.specs.Source.{Source}
use Rattle.symple_face.specs.State.{State, action_of}
use Rattle.symple_face.proofs.ChunkLaws.{lies_is}
use Rattle.symple_face.proofs.ListLaws.{other_list}
use Rattle.round_laws.specs.FoldScan.{IsDenseRound}
use Rattle.round_laws.specs.IsIdeal.{IsIdeal}
use Rattle.round_laws.specs.Sent.{ScanSendsIdeal, SendsIdeal}
use Rattle.round_laws.proofs.FoldScanReady.{chunk_low, scans_at}

module _ (src : Source) (d : Dense) (most m round step h : ℕ) (state : State)
    (fits : IsDenseRound src d most round) (machine : m < machines_of src) (early : step < machines_of src) where
  abbrev ends : List ℕ
  ends = src.job.graph.ends

  abbrev edges : List Edge
  edges = src.job.graph.edges

  abbrev p : ℕ
  p = machines_of src

  abbrev c : ℕ
  c = chunk_of m step p

  abbrev half : ℕ × ℕ
  half = half_in ends c h

  abbrev s : State
  s = record state {
    part = part_of ends src.job.draws edges m;
    split = src.split;
    at = record { spot = Scan round step h; round = round };
  }

  module _ (is : IsIdeal src m s) (knows : known s ≡ true) (ready : action_of s ≡ Ready) where
    abbrev got : ℕ → Sent
    got v = (scanned_at s round step h v).sent

    abbrev ideal : ℕ → Sent
    ideal v = ideal_sent src round v c step

    sent_is : (v : ℕ) → is_within half v ≡ true → got v ≡ ideal v
    sent_is v inside = (scans_at src d most m round step h state fits machine early is knows ready v inside).0.sent

    update_is : step < p - 1 → scan_update s round step h ≡ ideal_body src (update_name round step h m c)
    update_is before =
        let other = ne_eqb c m (chunk_other m step p machine before) in
        let list : mirrors s c ≡ refresh_list ends c m edges = other_list p m c (λ k. refresh_list ends k m edges)
        (chunk_low src d most m round step h state fits machine early) other in
        ap (λ vs. update_body (map got (those_within half vs))) list
        ∙ ap update_body (map_same got ideal (those_within half (refresh_list ends c m edges))
        (all_weaker (λ v. is_within half v ≡ true) (λ v. got v ≡ ideal v) sent_is
        (those_within half (refresh_list ends c m edges)) (all_passes (is_within half) (refresh_list ends c m edges))))

    dep_is : is_some (loop_carry src.split.dense) ≡ true →
        scan_dep s round step h ≡ ideal_body src (dep_name round step h m (after_machine m p))
    dep_is carries =
        ap spelled (map_same (λ v. (scanned_at s round step h v).state) (λ v. state_at src round v c (step + 1))
        (range_with_len half.0 (size_of half))
        (all_range (λ v. (scanned_at s round step h v).state ≡ state_at src round v c (step + 1)) half.0 (size_of half)
        (λ v low high.
        (scans_at src d most m round step h state fits machine early is knows ready v (within v low high)).1 carries)))
      where
        within : (v : ℕ) → half.0 ≤ v → v < half.0 + (half.1 - half.0) → is_within half v ≡ true
        within v low high = lies_is half.0 half.1 v low (omega (arith, low, high))

    abbrev IsIdealName : Name → Type 0
    IsIdealName x = sent_at s s.at.spot x ≡ ideal_body src x

    states : (b : Bool) → is_some (loop_carry src.split.dense) ≡ b →
        AllByRecursion IsIdealName (name_if b (dep_name round step h m (after_machine m p)))
    states true carries = (dep_is carries, tt)
    states false none = tt

    names : (b : Bool) → nat_lt step (p - 1) ≡ b → AllByRecursion IsIdealName
        (if b then update_name round step h m c
        ∷ name_if (is_some (loop_carry src.split.dense)) (dep_name round step h m (after_machine m p)) else [])
    names true before =
        (update_is (ltb-true step (p - 1) before), states (is_some (loop_carry src.split.dense)) refl)
    names false last = tt

    sends : SendsIdeal src s
    sends =
        all_map (λ l. l.body ≡ ideal_body src l.name) (λ x. record { name = x; body = sent_at s s.at.spot x })
        (if nat_lt step (p - 1) then update_name round step h m c
        ∷ name_if (is_some (loop_carry src.split.dense)) (dep_name round step h m (after_machine m p)) else [])
        (names (nat_lt step (p - 1)) refl)

pub scan_sends_ideal : ScanSendsIdeal
scan_sends_ideal src d most m round step h state fits stands is =
    let t : State = s src d most m round step h state fits stands.machine stands.early in
    let same : state ≡ t = λ i. record state { part = is.part i; split = is.split i; at = stands.at i } in
    subst (SendsIdeal src) (sym same)
    (sends src d most m round step h state fits stands.machine stands.early (subst (IsIdeal src m) same is)
    (subst (λ x. known x ≡ true) same stands.knows) (subst (λ x. action_of x ≡ Ready) same stands.ready))
