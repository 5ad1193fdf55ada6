-- A take leaves a sound core sound.
use Rattle.std.proofs.Common.{◌≡◌, ◌≢◌, ◌≤◌, ◌==◌, inl, inr, ℕ, zero, suc, ℤ, Bool, true, false, ◌&&◌, ◌||◌, List, [], ◌∷◌, length, All, refl, sym, ap, subst, ◌∙◌, FitsSigned, w64}
use Rattle.std.specs.Prelude.{if◌then◌else◌, is_some, nat_le}
use Rattle.std.specs.List.{AllByRecursion}
use Rattle.std.proofs.lemmas.Bool.{and_parts, leb-true}
use Rattle.std.proofs.lemmas.Option.{same_Some}
use Rattle.std.proofs.lemmas.List.Elements.{All-cons, All-nil}
use Rattle.vert_base.specs.declared.message.Name.{Name}
use Rattle.vert_base.specs.declared.message.NameKind.{NameKind}
use Rattle.vert_base.specs.declared.message.NameKind.TheVariants as kind
use Rattle.vert_base.specs.declared.value.Ruling.{Ruling}
use Rattle.vert_base.specs.declared.value.Ruling.TheVariants.{Stop, Dense, Sparse}
use Rattle.vert_base.specs.Letters.{Letter, found, placed}
use Rattle.vert_base.specs.Names.{same_name}
use Rattle.vert_base.proofs.LetterLaws.{names_law, not_true}
use Rattle.slot_merge.specs.declared.partial.Partial.{Partial}
use Rattle.dep_layout.specs.Judgement.{words_in}
use Rattle.dep_layout.proofs.WordLaws.{fits-words_in}
use Rattle.circulant_plan.specs.declared.spot.Spot.{Spot}
use Rattle.circulant_plan.specs.declared.spot.Spot.TheVariants.{Tell, Judge, Begin, Scan, Close, Over}
use Rattle.circulant_plan.specs.Names.{verdict_name}
use Rattle.circulant_plan.specs.Skeleton.{may_rule}
use Rattle.circulant_plan.specs.Standing.{round_of, ruled_standing}
use Rattle.instrument.specs.declared.split.Split.{Split}
use Rattle.body_shape.specs.Fit.{is_fit}
use Rattle.body_shape.specs.Places.{flags_of, placed as filled, set_count}
use Rattle.body_shape.specs.Update.{behind_sent, behind_values, sent_at, sent_with, sents_read, values_in}
use Rattle.body_shape.specs.Verdict.{judged_read, may_be}
use Rattle.body_shape.specs.declared.shape.BodyShape.TheVariants.{Verdict}
use Rattle.body_shape.proofs.PlaceLaws.{length-flags_of, length-placed}
use Rattle.body_shape.proofs.VerdictLaws.{verdict_suits}
use Rattle.symple_face.specs.CoreSight.{known, own_vertices, program_of, total_count}
use Rattle.symple_face.specs.CoreSparse.{take_push, told_sends, worked}
use Rattle.symple_face.specs.CoreTakes.{noted, own_partials, slot_count, unsent, update_list, update_of, with_sent, with_update}
use Rattle.symple_face.specs.CoreWork.{core_take, kept, take_update, take_verdict, taken}
use Rattle.symple_face.specs.Plans.{blocks_of, concerns, goes_by_plan, is_in_range, is_planned, ring_of, serves}
use Rattle.symple_face.specs.Shapes.{form_of, reduced_in}
use Rattle.symple_face.specs.State.{IsTakeable, State, machine, p_of, ruling_read}
use Rattle.work_laws.specs.Sound.{ArePartials, FitsSpot, HoldsFit, IsHeld, IsRuled, core_sound}
use Rattle.work_laws.proofs.Gone.{dense_not, small_within, sparse_not}
use Rattle.work_laws.proofs.Held.{beside_is, shape_parts}
use Rattle.work_laws.proofs.Moves.{placed_held}
use Rattle.work_laws.proofs.Partials.{made_own, sent_more}
use Rattle.work_laws.proofs.Scans.{SentFits, unsent_fits}
use Rattle.work_laws.proofs.Sees.{own_partials_are}
use Rattle.work_laws.proofs.Sparse.{push_worked, told_fit}
use Rattle.work_laws.proofs.Words.{MayFit}
use Rattle.state_laws.proofs.Letters.{all_placed}
use Rattle.state_laws.specs.Letters.{FitsForm}

-- ---- what is held
-- ---- an update
filled_fit : (flags : List Bool) (xs : List ℤ) → AllByRecursion (FitsSigned w64) xs →
    AllByRecursion MayFit (filled flags xs)
filled_fit [] xs all = tt
filled_fit (false ∷ flags) xs all = (λ z e. cc, filled_fit flags xs all)
filled_fit (true ∷ flags) [] all = (λ z e. cc, filled_fit flags [] tt)
filled_fit (true ∷ flags) (x ∷ xs) all = (
  λ z e. subst (FitsSigned w64) (same_Some x z e) all.0,
  filled_fit flags xs
      all.1,
)

values_are : (count mask : ℕ) (bytes : List ℕ) → (length (values_in count mask bytes) ≡ count) × AllByRecursion MayFit
    (values_in count mask bytes)
values_are count mask bytes =
    let flags : List Bool = flags_of count mask in
    let words : List ℤ = words_in (set_count flags) bytes in (
      length-placed flags words ∙ length-flags_of count mask,
      filled_fit flags words
          (fits-words_in (set_count flags) bytes),
    )

sent_with_fits : (split : Split) (low high : ℕ) (bytes : List ℕ) →
    SentFits split (sent_with (slot_count split) (length (reduced_in split.dense)) low high bytes)
sent_with_fits split low high bytes =
    let values = values_are (slot_count split) low bytes in
    let operands = values_are (length (reduced_in split.dense)) high (behind_values (slot_count split) low bytes) in
    record { value_count = values.0; values = values.1; operand_count = operands.0; operands = operands.1 }

sent_at_fits : (split : Split) (bytes : List ℕ) → SentFits split
    (sent_at (slot_count split) (length (reduced_in split.dense)) bytes)
sent_at_fits split [] = sent_with_fits split 0 0 []
sent_at_fits split (low ∷ []) = sent_with_fits split 0 0 []
sent_at_fits split (low ∷ high ∷ bytes) = sent_with_fits split low high bytes

sents_fit : (split : Split) (count : ℕ) (bytes : List ℕ) →
    All (SentFits split) (sents_read (slot_count split) (length (reduced_in split.dense)) count bytes)
sents_fit split zero bytes = All-nil (SentFits split)
sents_fit split (suc count) bytes =
    let slots : ℕ = slot_count split in
    let reduced : ℕ = length (reduced_in split.dense) in
    All-cons (SentFits split) (sent_at slots reduced bytes)
    (sents_read slots reduced count (behind_sent slots reduced bytes))
    (sent_at_fits split bytes) (sents_fit split count (behind_sent slots reduced bytes))

update_fits : (s : State) (x : Name) (body : List ℕ) (v : ℕ) → SentFits s.split (update_of s x body v)
update_fits s x body v =
    let vertices : List ℕ = update_list s x.from x.half in
    beside_is (SentFits s.split) (unsent s.split) v vertices
    (sents_read (slot_count s.split) (length (reduced_in s.split.dense)) (length vertices) body) (unsent_fits s.split)
    (sents_fit s.split (length vertices) body)

-- ---- the spot
-- what is held and the partials count for no spot but that of a begin, where it is asked whether the totals are known
spot_kept : (s : State) (held : List Letter) (partials : List (List Partial)) (spot : Spot) →
    known (record s { held = held; partials = partials }) ≡ known s → FitsSpot s spot →
    FitsSpot (record s { held = held; partials = partials }) spot
spot_kept s held partials Tell same fits = tt
spot_kept s held partials (Judge r) same fits = fits
spot_kept s held partials (Begin r) same fits = (fits.0, fits.1, λ k. fits.2 (sym same ∙ k))
spot_kept s held partials (Scan r step h) same fits = fits
spot_kept s held partials (Close r true) same fits = fits
spot_kept s held partials (Close r false) same fits = fits
spot_kept s held partials Over same fits = tt

spot_ruled : (s : State) (held : List Letter) (ruling : Ruling) (spot : Spot) → FitsSpot s spot →
    ((r : ℕ) → spot ≡ Begin r → IsRuled (record s { ruling = ruling }) r) →
    FitsSpot (record s { held = held; ruling = ruling }) spot
spot_ruled s held ruling Tell fits ruled = tt
spot_ruled s held ruling (Judge r) fits ruled = fits
spot_ruled s held ruling (Begin r) fits ruled = (fits.0, fits.1, λ k. ruled r refl)
spot_ruled s held ruling (Scan r step h) fits ruled = fits
spot_ruled s held ruling (Close r true) fits ruled = fits
spot_ruled s held ruling (Close r false) fits ruled = fits
spot_ruled s held ruling Over fits ruled = tt

-- a message that is no verdict tells no totals
known_same : (s : State) (l : Letter) (partials : List (List Partial)) → l.name.kind ≢ kind.Verdict →
    known (record s { held = placed l s.held; partials = partials }) ≡ known s
known_same s l partials other =
    let x : Name = verdict_name s.at.round (machine s) in
    let apart : same_name l.name x ≡ false =
    not_true (same_name l.name x) (λ e. other (ap (λ y. y.kind) (names_law l.name x e))) in
    ap (λ b. if machine s == 0 then nat_le 1 s.at.round else b)
    (placed_held l s.held x ∙ ap (λ b. b || is_some (found x s.held)) apart)

module _ (s : State) (l : Letter) (sound : core_sound s) (takes : IsTakeable s l) where
  form : FitsForm s.split s.part l
  form = (takes.shape, takes.has, takes.fits)

  shaped : (is_planned s.split (p_of s) (machine s) l.name ≡ true) ×
      (form_of s.split s.part l.name.kind l.name ≡ takes.shape)
  shaped = shape_parts s.split s.part l.name takes.shape takes.has

  -- with a message and these partials
  with_held : (held : List Letter) (partials : List (List Partial)) → AllByRecursion (IsHeld s.split s.part) held →
      HoldsFit s.part s.split (record s { partials = partials }) →
      known (record s { held = held; partials = partials }) ≡ known s →
      core_sound (record s { held = held; partials = partials })
  with_held held partials all fits same = record {
    can = sound.can;
    fits = record {
      rows = fits.rows;
      partials = fits.partials;
      ring = fits.ring;
      held = all;
      reading = fits.reading;
      reads = fits.reads;
      judged = fits.judged;
      report = fits.report;
    };
    round = sound.round;
    spot = spot_kept s held partials s.at.spot same sound.spot;
  }

  with_partials : (partials : List (List Partial)) →
      (length partials ≡ length (own_vertices s)) × All (ArePartials s.split) partials →
      HoldsFit s.part s.split (record s { partials = partials })
  with_partials partials are = record {
    rows = sound.fits.rows;
    partials = are;
    ring = sound.fits.ring;
    held = sound.fits.held;
    reading = sound.fits.reading;
    reads = sound.fits.reads;
    judged = sound.fits.judged;
    report = sound.fits.report;
  }

  kept_held : AllByRecursion (IsHeld s.split s.part) (placed l s.held)
  kept_held = all_placed (IsHeld s.split s.part) l s.held (inr form) sound.fits.held

  noted_held : AllByRecursion (IsHeld s.split s.part) (noted l s.held)
  noted_held = all_placed (IsHeld s.split s.part) (record l { body = [] }) s.held (inl refl) sound.fits.held

  kept_sound : l.name.kind ≢ kind.Verdict → core_sound (kept s l)
  kept_sound other = with_held (placed l s.held) s.partials kept_held sound.fits (known_same s l s.partials other)

  update_sound : l.name.kind ≢ kind.Verdict → core_sound (take_update s l)
  update_sound other =
      with_held (noted l s.held) (with_update s l.name l.body) noted_held
      (with_partials (with_update s l.name l.body)
      (made_own s.part (ArePartials s.split) (λ v. with_sent l.name.step (update_of s l.name l.body v)
      (own_partials s v))
      (λ v among.
      sent_more s.split l.name.step (update_of s l.name l.body v) (own_partials s v) (update_fits s l.name l.body v)
      (own_partials_are s sound.can sound.fits v among))))
      (known_same s (record l { body = [] }) (with_update s l.name l.body) other)

  -- the round of a message of a mode takes place
  push_round : l.name.kind ≡ kind.Push → l.name.round ≤ (program_of s.split).limit
  push_round is =
      let x : Name = l.name in
      let a = and_parts (concerns (p_of s) (machine s) x) _ shaped.0 in
      let b = and_parts (goes_by_plan (ring_of s.split (p_of s)) x.kind x) _ a.1 in
      let c = and_parts (serves (blocks_of s.split) x.kind) _ b.1 in
      let d : (nat_le 1 x.round && nat_le x.round (program_of s.split).limit) ≡ true =
      ap (λ k. is_in_range (program_of s.split).limit k x.round) (sym is) ∙ c.1 in
      leb-true x.round (program_of s.split).limit
      (and_parts (nat_le 1 x.round) (nat_le x.round (program_of s.split).limit) d).1

  push_sound : l.name.kind ≡ kind.Push → l.name.kind ≢ kind.Verdict → core_sound (take_push s l)
  push_sound is other = by (known s)
    where
      by : (b : Bool) →
          core_sound
          (if b
          then record s {
            held = noted l s.held;
            partials = worked s l.name.round (told_sends s l.name.from l.body) s.part.push s.partials;
          }
          else record s { held = placed l s.held })
      by true =
          let partials : List (List Partial) =
          worked s l.name.round (told_sends s l.name.from l.body) s.part.push s.partials in
          with_held (noted l s.held) partials noted_held
          (with_partials partials
          (push_worked s sound.can sound.fits l.name.round (told_sends s l.name.from l.body)
          (small_within s sound.can sound.fits l.name.round (push_round is))
          (told_fit s sound.can sound.fits l.name l.body is takes.here (inr form))))
          (known_same s (record l { body = [] }) partials other)
      by false = kept_sound other

  verdict_fits : l.name.kind ≡ kind.Verdict → may_rule (blocks_of s.split) l.name.round (ruling_read l.body) ≡ true
  verdict_fits is =
      let r : ℕ = l.name.round in
      let dense : Bool = may_rule (blocks_of s.split) r Dense in
      let sparse : Bool = may_rule (blocks_of s.split) r Sparse in
      let n : ℕ = total_count s.split in
      let same : Verdict dense sparse n ≡ takes.shape = ap (λ k. form_of s.split s.part k l.name) (sym is) ∙ shaped.1 in
      let suits = verdict_suits dense sparse n l.body (ap (λ shape. is_fit shape l.body) same ∙ takes.fits) in
      rules (ruling_read l.body) (ap (may_be dense sparse) (same_ruling 0 n l.body) ∙ suits.0)
    where
      same_ruling : (a b : ℕ) (body : List ℕ) → (judged_read a body).ruling ≡ (judged_read b body).ruling
      same_ruling a b [] = refl
      same_ruling a b (byte ∷ bytes) = refl

      rules : (ruling : Ruling) →
          may_be (may_rule (blocks_of s.split) l.name.round Dense) (may_rule (blocks_of s.split) l.name.round Sparse)
          ruling ≡ true →
          may_rule (blocks_of s.split) l.name.round ruling ≡ true
      rules Stop h = refl
      rules Dense h = h
      rules Sparse h = h

  -- by a ruling that isn't stop it stays where it is
  ruled_sound : (ruling : Ruling) → ruling ≢ Stop → may_rule (blocks_of s.split) l.name.round ruling ≡ true →
      core_sound (record (kept s l) { ruling = ruling; at = s.at })
  ruled_sound ruling going may = record {
    can = sound.can;
    fits = record {
      rows = sound.fits.rows;
      partials = sound.fits.partials;
      ring = sound.fits.ring;
      held = kept_held;
      reading = sound.fits.reading;
      reads = sound.fits.reads;
      judged = sound.fits.judged;
      report = sound.fits.report;
    };
    round = sound.round;
    spot = spot_ruled s (placed l s.held) ruling s.at.spot sound.spot
        (λ r here.
        let round : l.name.round ≡ r = takes.round ∙ sound.round ∙ ap (round_of s.at.round) here in
        (going, ap (λ (q : ℕ). may_rule (blocks_of s.split) q ruling) (sym round) ∙ may));
  }

  verdict_sound : l.name.kind ≡ kind.Verdict → core_sound (take_verdict s l)
  verdict_sound is = by (ruling_read l.body) (verdict_fits is)
    where
      by : (ruling : Ruling) → may_rule (blocks_of s.split) l.name.round ruling ≡ true →
          core_sound (record (kept s l) { ruling = ruling; at = ruled_standing ruling s.at })
      by Stop may = record {
        can = sound.can;
        fits = record {
          rows = sound.fits.rows;
          partials = sound.fits.partials;
          ring = sound.fits.ring;
          held = kept_held;
          reading = sound.fits.reading;
          reads = sound.fits.reads;
          judged = sound.fits.judged;
          report = sound.fits.report;
        };
        round = refl;
        spot = tt;
      }
      by Dense may = ruled_sound Dense dense_not may
      by Sparse may = ruled_sound Sparse sparse_not may

refresh_other : kind.Refresh ≢ kind.Verdict
refresh_other e = cc

dep_other : kind.Dep ≢ kind.Verdict
dep_other e = cc

update_other : kind.Update ≢ kind.Verdict
update_other e = cc

push_other : kind.Push ≢ kind.Verdict
push_other e = cc

tally_other : kind.Tally ≢ kind.Verdict
tally_other e = cc

pub take_sound : (s : State) (l : Letter) → core_sound s → IsTakeable s l → core_sound (core_take s l)
take_sound s l sound takes = by l.name.kind refl
  where
    by : (k : NameKind) → l.name.kind ≡ k → core_sound (taken k s l)
    by kind.Refresh e = kept_sound s l sound takes (λ v. refresh_other (sym e ∙ v))
    by kind.Dep e = kept_sound s l sound takes (λ v. dep_other (sym e ∙ v))
    by kind.Update e = update_sound s l sound takes (λ v. update_other (sym e ∙ v))
    by kind.Push e = push_sound s l sound takes e (λ v. push_other (sym e ∙ v))
    by kind.Tally e = kept_sound s l sound takes (λ v. tally_other (sym e ∙ v))
    by kind.Verdict e = verdict_sound s l sound takes e
