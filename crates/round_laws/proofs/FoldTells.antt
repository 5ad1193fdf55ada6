-- A machine that has told its first rows goes on as the source's run says.
use Rattle.std.proofs.Common.{◌≡◌, ℕ, Bool, true, false, List, refl, sym, ap, subst, ◌∙◌, arith, ⊎_elim}
use Rattle.std.specs.Prelude.{◌==◌, if◌then◌else◌, nat_le}
use Rattle.std.proofs.lemmas.Bool.{cases_Bool, eq-eqb}
use Rattle.vert_base.specs.declared.message.NameKind.{NameKind}
use Rattle.vert_base.specs.declared.message.NameKind.TheVariants as kind
use Rattle.vert_base.specs.Letters.{Letter}
use Rattle.slot_merge.specs.Filled.{AreFilled}
use Rattle.graph_table.proofs.FilterLaws.{all_true, all_weaker, map_same}
use Rattle.circulant_plan.specs.declared.spot.Spot.TheVariants.{Begin, Judge}
use Rattle.circulant_plan.specs.Standing.{Standing, first_standing, standing_at}
use Rattle.symple_face.specs.CoreSight.{targets_of}
use Rattle.symple_face.specs.CoreTakes.{own_partials}
use Rattle.symple_face.specs.CoreWork.{core_go, moved}
use Rattle.symple_face.specs.Parts.{chunk_vertices}
use Rattle.symple_face.specs.PartsOf.{part_of}
use Rattle.symple_face.specs.Source.{Source, stand}
use Rattle.symple_face.specs.State.{State}
use Rattle.round_laws.specs.FoldTells.{TellsAndGoesOn}
use Rattle.round_laws.specs.IsIdeal.{HoldsBody, IsIdeal, keys_below, reads_held, ring_held}
use Rattle.round_laws.specs.Partials.{partial_ops}
use Rattle.round_laws.proofs.FoldCloses.{begin, no_reads, no_ring, no_words}
use Rattle.round_laws.proofs.FoldScanHeld.{still_ahead}

module _ (src : Source) (m : ℕ) (state : State) where
  abbrev s : State
  s = record state {
    part = part_of src.job.graph.ends src.job.draws src.job.graph.edges m;
    split = src.split;
    at = first_standing;
  }

  abbrev own : List ℕ
  own = chunk_vertices src.job.graph.ends m

  abbrev judging : Standing
  judging = standing_at 0 (Judge 0)

  goes : (b : Bool) → (m == 0) ≡ b → core_go s ≡ moved (standing_at 0 (if b then Judge 0 else Begin 1)) s
  goes b is = ap (λ x. moved (standing_at 0 (if x then Judge 0 else Begin 1)) s) is

  unknown : (b : Bool) (x : Bool) → b ≡ false → (if b then x else false) ≡ true → ⊥
  unknown true x is knows = cc
  unknown false x is knows = cc

  -- a machine other than 0 is at the begin of the first round
  at_begin : (m ≡ 0 → ⊥) → (m == 0) ≡ false → IsIdeal src m s → IsIdeal src m (moved (begin src m 1) s)
  at_begin other is_other is = record {
    part = refl;
    split = refl;
    rows = is.rows;
    ruling = λ knows. absurd (unknown (m == 0) (nat_le 1 1) is_other knows);
    totals = λ knows. absurd (unknown (m == 0) (nat_le 1 1) is_other knows);
    bodies = tt;
    many = is.many;
    partials = λ v lies.
        subst (λ ws. AreFilled 0 (partial_ops src.split) ws (keys_below src) (own_partials s v))
        (λ i place key. sym (no_words src m 1 (stand src 1).ruling v place key) i) (is.partials v lies);
    ring = λ carries. is.ring carries
        ∙ map_same (ring_held src m first_standing) (ring_held src m (begin src m 1)) own
        (all_true _ (λ v. sym (no_ring src m 1 v)) own);
    reading = is.reading
        ∙ map_same (reads_held src m first_standing) (reads_held src m (begin src m 1)) (targets_of s.part)
        (all_true _ (λ v. sym (no_reads src m 1 v)) (targets_of s.part));
    reads = is.reads;
    judged = λ zero_machine some. absurd (other zero_machine);
    report = λ r zero_machine e le. absurd (other zero_machine);
  }

  held_on : (k : NameKind) (l : Letter) → HoldsBody k src first_standing l → HoldsBody k src judging l
  held_on kind.Refresh l h = h
  held_on kind.Dep l h = λ late. h (still_ahead first_standing judging l.name (omega arith) late)
  held_on kind.Update l h = h
  held_on kind.Push l h = h
  held_on kind.Tally l h = h
  held_on kind.Verdict l h = h

  -- machine 0 is at the judge
  at_judge : IsIdeal src m s → IsIdeal src m (moved judging s)
  at_judge is = record {
    part = refl;
    split = refl;
    rows = is.rows;
    ruling = is.ruling;
    totals = is.totals;
    bodies = all_weaker (λ l. HoldsBody l.name.kind src first_standing l) (λ l. HoldsBody l.name.kind src judging l)
        (λ l h. held_on l.name.kind l h) state.held is.bodies;
    many = is.many;
    partials = is.partials;
    ring = is.ring;
    reading = is.reading;
    reads = is.reads;
    judged = is.judged;
    report = is.report;
  }

  clash : true ≡ false → ⊥
  clash e = cc

  tells : IsIdeal src m s → IsIdeal src m (core_go s)
  tells is =
      ⊎_elim
      (λ (zero_machine : (m == 0) ≡ true). subst (IsIdeal src m) (sym (goes true zero_machine)) (at_judge is))
      (λ (other : (m == 0) ≡ false).
      subst (IsIdeal src m) (sym (goes false other)) (at_begin (λ e. clash (sym (eq-eqb m 0 e) ∙ other)) other is))
      (cases_Bool (m == 0))

pub tells_and_goes_on : TellsAndGoesOn
tells_and_goes_on src m state is first =
    let t : State = s src m state in
    let same : state ≡ t = λ i. record state { part = is.part i; split = is.split i; at = first i } in
    subst (λ x. IsIdeal src m (core_go x)) (sym same) (tells src m state (subst (IsIdeal src m) same is))
