-- A take of the ideal verdict leaves a machine as the source's run says.
use Rattle.std.proofs.Common.{◌≡◌, ◌≢◌, ℕ, ℤ, List, [], refl, sym, ap, subst, ◌∙◌, Some}
use Rattle.std.specs.Prelude.{◌&&◌, if◌then◌else◌}
use Rattle.std.proofs.lemmas.Bool.{ne_eqb}
use Rattle.vert_base.specs.declared.message.Name.{Name}
use Rattle.vert_base.specs.declared.message.NameKind.{NameKind}
use Rattle.vert_base.specs.declared.message.NameKind.TheVariants as kind
use Rattle.vert_base.specs.declared.value.Ruling.{Ruling}
use Rattle.vert_base.specs.declared.value.Ruling.TheVariants as ruling
use Rattle.vert_base.specs.Letters.{Letter, found, placed}
use Rattle.vert_base.proofs.LetterLaws.{placed_law}
use Rattle.slot_merge.specs.Filled.{AreFilled}
use Rattle.graph_table.proofs.FilterLaws.{all_true, all_weaker, map_same}
use Rattle.circulant_plan.specs.declared.spot.Spot.TheVariants.{Begin, Over}
use Rattle.circulant_plan.specs.Names.{verdict_name}
use Rattle.circulant_plan.specs.Standing.{Standing, ruled_standing}
use Rattle.circulant_plan.proofs.NameLists.{same_as_self}
use Rattle.body_shape.specs.Refresh.{IsWords}
use Rattle.body_shape.specs.Verdict.{Judged, judged_read, verdict_body}
use Rattle.body_shape.proofs.VerdictLaws.{verdict_back}
use Rattle.symple_face.specs.CoreScan.{fresh}
use Rattle.symple_face.specs.CoreSight.{body_of, known_totals, targets_of, total_count}
use Rattle.symple_face.specs.CoreTakes.{own_partials}
use Rattle.symple_face.specs.CoreWork.{core_take, kept}
use Rattle.symple_face.specs.Ideal.{ideal_body, ideal_ran, machines_of, owner_of, state_at}
use Rattle.symple_face.specs.Parts.{chunk_vertices}
use Rattle.symple_face.specs.PartsOf.{part_of}
use Rattle.symple_face.specs.Source.{Source, stand}
use Rattle.symple_face.specs.State.{State, ruling_read}
use Rattle.circulant_plan.specs.Ring.{chunk_of}
use Rattle.round_laws.specs.FoldVerdicts.{TakesVerdicts}
use Rattle.round_laws.specs.IsIdeal.{HoldsBody, IsIdeal, came_words, half_at, is_dense, is_past, keys_below, reads_held, ring_held, words_by}
use Rattle.round_laws.specs.Partials.{partial_ops}
use Rattle.round_laws.proofs.FoldTakes.{IsAside, came_stay}
use Rattle.state_laws.proofs.Letters.{all_placed}

ruling_told : (r : Ruling) (totals : List ℤ) → ruling_read (verdict_body (record { ruling = r; totals = totals })) ≡ r
ruling_told ruling.Stop totals = refl
ruling_told ruling.Dense totals = refl
ruling_told ruling.Sparse totals = refl

module _ (src : Source) (m : ℕ) (state : State) (other : m ≢ 0)
    (words : IsWords (total_count src.split) (stand src state.at.round).totals) where
  abbrev r : ℕ
  r = state.at.round

  abbrev begins : Standing
  begins = record { spot = Begin r; round = r }

  abbrev ends : Standing
  ends = record { spot = Over; round = r }

  abbrev s : State
  s = record state {
    part = part_of src.job.graph.ends src.job.draws src.job.graph.edges m;
    split = src.split;
    at = begins;
  }

  abbrev name : Name
  name = verdict_name r m

  abbrev judged : Judged
  judged = record { ruling = (stand src r).ruling; totals = (stand src r).totals }

  abbrev l : Letter
  l = record { name = name; body = verdict_body judged }

  abbrev held : List Letter
  held = placed l state.held

  aside : IsAside l
  aside = record { update = λ e. cc; push = λ e. cc }

  -- the state after it, by the ruling
  abbrev ruled : Ruling → State
  ruled q = record (kept s l) { ruling = q; at = ruled_standing q begins }

  totals_told : known_totals (kept s l) ≡ (stand src r).totals
  totals_told =
      ap (λ b. if b then state.judged.totals else
      (judged_read (total_count src.split) (body_of (found name held))).totals)
      (ne_eqb m 0 other)
      ∙ ap (λ o. (judged_read (total_count src.split) (body_of o)).totals)
      (placed_law l state.held name ∙ ap (λ b. if b then Some l else found name state.held) (same_as_self name))
      ∙ ap (λ j. j.totals) (verdict_back (total_count src.split) judged words)

  -- where the run goes on
  goes_on : (q : Ruling) → (stand src r).ruling ≡ q → IsIdeal src m s → IsIdeal src m (record (kept s l) { ruling = q })
  goes_on q told is = record {
    part = refl;
    split = refl;
    rows = is.rows;
    ruling = λ knows. sym told;
    totals = λ knows. totals_told;
    bodies = all_placed (λ x. HoldsBody x.name.kind src begins x) l state.held refl is.bodies;
    many = is.many;
    partials = λ v lies. subst (λ ws. AreFilled 0 (partial_ops src.split) ws (keys_below src) (own_partials s v))
        (sym (came_stay src m s l aside v)) (is.partials v lies);
    ring = is.ring;
    reading = is.reading;
    reads = is.reads;
    judged = is.judged;
    report = is.report;
  }

  -- what is held at the begin is held where the run is over
  held_over : (k : NameKind) (x : Letter) → HoldsBody k src begins x → HoldsBody k src ends x
  held_over kind.Refresh x h = h
  held_over kind.Dep x h = h
  held_over kind.Update x h = h
  held_over kind.Push x h = h
  held_over kind.Tally x h = h
  held_over kind.Verdict x h = h

  -- where it ends, nothing came and nothing was read
  module _ (stops : (stand src r).ruling ≡ ruling.Stop) where
    nothing_came : (v : ℕ) → came_words src m begins state.held v ≡ came_words src m ends held v
    nothing_came v = λ i place key. words_by (stops i) src m begins state.held v place key

    no_ring : (v : ℕ) → ring_held src m begins v ≡ ring_held src m ends v
    no_ring v =
        ap (λ x. if is_dense x && is_past begins (chunk_of m m (machines_of src)) (half_at src m v)
        then state_at src r v m (machines_of src) else fresh src.split) stops

    no_reads : (v : ℕ) → reads_held src m begins v ≡ reads_held src m ends v
    no_reads v =
        let c : ℕ = owner_of src.job.graph.ends v in
        ap (λ x. if is_dense x && is_past begins (chunk_of m c (machines_of src)) (half_at src c v)
        then (ideal_ran src r v c (chunk_of m c (machines_of src))).reads else []) stops

    over : IsIdeal src m s → IsIdeal src m (ruled ruling.Stop)
    over is = record {
      part = refl;
      split = refl;
      rows = is.rows;
      ruling = λ knows. sym stops;
      totals = λ knows. totals_told;
      bodies = all_weaker (λ x. HoldsBody x.name.kind src begins x) (λ x. HoldsBody x.name.kind src ends x)
          (λ x h. held_over x.name.kind x h) held
          (all_placed (λ x. HoldsBody x.name.kind src begins x) l state.held refl is.bodies);
      many = is.many;
      partials = λ v lies. subst (λ ws. AreFilled 0 (partial_ops src.split) ws (keys_below src) (own_partials s v))
          (nothing_came v) (is.partials v lies);
      ring = λ carries. is.ring carries
          ∙ map_same (ring_held src m begins) (ring_held src m ends) (chunk_vertices src.job.graph.ends m)
          (all_true _ no_ring (chunk_vertices src.job.graph.ends m));
      reading = is.reading
          ∙ map_same (reads_held src m begins) (reads_held src m ends) (targets_of s.part)
          (all_true _ no_reads (targets_of s.part));
      reads = is.reads;
      judged = is.judged;
      report = is.report;
    }

  by_ruling : (q : Ruling) → (stand src r).ruling ≡ q → IsIdeal src m s → IsIdeal src m (ruled q)
  by_ruling ruling.Stop told is = over told is
  by_ruling ruling.Dense told is = goes_on ruling.Dense told is
  by_ruling ruling.Sparse told is = goes_on ruling.Sparse told is

  taken_ideal : IsIdeal src m s → IsIdeal src m (core_take s l)
  taken_ideal is =
      subst (λ q. IsIdeal src m (ruled q)) (sym (ruling_told (stand src r).ruling (stand src r).totals))
      (by_ruling (stand src r).ruling refl is)

pub takes_verdicts : TakesVerdicts
takes_verdicts src m state given other is spot words named body =
    let t : State = s src m state other words in
    let verdict : Letter = l src m state other words in
    let same : state ≡ t = λ i. record state {
      part = is.part i;
      split = is.split i;
      at = record { spot = spot i; round = state.at.round };
    } in
    let letter : given ≡ verdict = λ i. record { name = named i; body = (body ∙ ap (ideal_body src) named) i } in
    subst (λ x. IsIdeal src m (core_take state x)) (sym letter)
    (subst (λ x. IsIdeal src m (core_take x verdict)) (sym same)
    (taken_ideal src m state other words (subst (IsIdeal src m) same is)))
