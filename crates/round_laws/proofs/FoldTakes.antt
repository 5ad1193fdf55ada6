-- A take of a message that is kept leaves a machine as the source's run says.
use Rattle.std.proofs.Common.{◌≡◌, inl, inr, ℕ, List, [], refl, sym, ap, subst, ◌∙◌, Option, None, Some}
use Rattle.std.specs.Prelude.{◌+◌, ◌==◌, ◌&&◌, if◌then◌else◌, is_some, nat_le, nat_lt, not}
use Rattle.vert_base.specs.declared.message.NameKind.TheVariants as kind
use Rattle.vert_base.specs.declared.value.Ruling.{Ruling}
use Rattle.vert_base.specs.declared.value.Ruling.TheVariants as ruling
use Rattle.vert_base.specs.Letters.{Letter, found, placed}
use Rattle.vert_tree.specs.declared.program.Sparse.{Sparse}
use Rattle.slot_merge.specs.Filled.{AreFilled}
use Rattle.circulant_plan.specs.Names.{push_name, update_name, verdict_name}
use Rattle.circulant_plan.specs.Ring.{order_of}
use Rattle.body_shape.specs.Verdict.{judged_read}
use Rattle.symple_face.specs.CoreSight.{body_of, known, known_totals, program_of, total_count}
use Rattle.symple_face.specs.CoreTakes.{own_partials}
use Rattle.symple_face.specs.CoreWork.{kept, taken}
use Rattle.symple_face.specs.Ideal.{ideal_sent, machines_of, owner_of}
use Rattle.symple_face.specs.Source.{Source, scene, stand}
use Rattle.symple_face.specs.State.{State, machine}
use Rattle.round_laws.specs.FoldTakes.{TakesWhatIsKept}
use Rattle.round_laws.specs.IsIdeal.{HoldsBody, IsIdeal, came_words, half_at, awaits_begin, is_open, is_past, is_worked, keys_below, sends_came, sparse_words, step_came, words_by}
use Rattle.round_laws.specs.Partials.{partial_ops, sent_words}
use Rattle.round_laws.specs.SparseClose.{push_buckets}
use Rattle.round_laws.proofs.Held.{still_found}
use Rattle.state_laws.proofs.Letters.{all_placed, apart_names}

-- with a message more that is no verdict, the machine knows what it knew
module _ (s : State) (l : Letter) (no_verdict : l.name.kind ≡ kind.Verdict → ⊥) where
  verdict_stays : found (verdict_name s.at.round (machine s)) (placed l s.held) ≡
      found (verdict_name s.at.round (machine s)) s.held
  verdict_stays =
      still_found l s.held (verdict_name s.at.round (machine s))
      (apart_names l.name (verdict_name s.at.round (machine s)) (λ e. no_verdict (ap (λ x. x.kind) e)))

  pub known_stays : known (kept s l) ≡ known s
  known_stays = ap (λ o. if machine s == 0 then nat_le 1 s.at.round else is_some o) verdict_stays

  pub totals_stay : known_totals (kept s l) ≡ known_totals s
  totals_stay =
      ap (λ o. if machine s == 0 then s.judged.totals else
      (judged_read (total_count s.split) (body_of o)).totals) verdict_stays

-- a message that is no update and no push
pub record IsAside (l : Letter) : Type 0 where
  pub update : l.name.kind ≡ kind.Update → ⊥
  pub push : l.name.kind ≡ kind.Push → ⊥

module _ (src : Source) (m : ℕ) (s : State) (l : Letter) (aside : IsAside l) where
  abbrev held : List Letter
  held = placed l s.held

  updates_stay : (step h k to : ℕ) → found (update_name s.at.round step h k to) held ≡
      found (update_name s.at.round step h k to) s.held
  updates_stay step h k to =
      still_found l s.held (update_name s.at.round step h k to)
      (apart_names l.name (update_name s.at.round step h k to) (λ e. aside.update (ap (λ x. x.kind) e)))

  pushes_stay : (k to : ℕ) → found (push_name s.at.round k to) held ≡ found (push_name s.at.round k to) s.held
  pushes_stay k to =
      still_found l s.held (push_name s.at.round k to)
      (apart_names l.name (push_name s.at.round k to) (λ e. aside.push (ap (λ x. x.kind) e)))

  -- the words that came are the same
  step_stays : (v key : ℕ) → step_came src m s.at held v key ≡ step_came src m s.at s.held v key
  step_stays v key =
      ap (λ o. if nat_lt (key + 1) (machines_of src) then is_some o
      else key + 1 == machines_of src && is_past s.at key (half_at src m v))
      (updates_stay key (half_at src m v) (order_of m key (machines_of src)) m)

  sends_stay : (u : ℕ) → sends_came src m s.at held u ≡ sends_came src m s.at s.held u
  sends_stay u =
      let k : ℕ = owner_of src.job.graph.ends u in
      ap (λ o. if k == m then not (awaits_begin s.at.spot) else is_worked o) (pushes_stay k m)

  sparse_stays : (o : Option Sparse) (v place key : ℕ) →
      sparse_words o src m s.at held v place key ≡ sparse_words o src m s.at s.held v place key
  sparse_stays None v place key = refl
  sparse_stays (Some sparse) v place key =
      λ i. push_buckets src.split sparse (scene src s.at.round) v (λ u. sends_stay u i) place key

  words_stay : (r : Ruling) (v place key : ℕ) → words_by r src m s.at held v place key ≡
      words_by r src m s.at s.held v place key
  words_stay ruling.Stop v place key = refl
  words_stay ruling.Dense v place key =
      ap (λ b. if b then sent_words (ideal_sent src s.at.round v m key) place else []) (step_stays v key)
  words_stay ruling.Sparse v place key = sparse_stays (program_of src.split).sparse v place key

  pub came_stay : (v : ℕ) → came_words src m s.at held v ≡ came_words src m s.at s.held v
  came_stay v = λ i place key.
      if is_open s.at.spot then words_stay (stand src s.at.round).ruling v place key i else []

  kept_ideal : (l.name.kind ≡ kind.Verdict → ⊥) → IsIdeal src m s → HoldsBody l.name.kind src s.at l →
      IsIdeal src m (kept s l)
  kept_ideal no_verdict is body = record {
    part = is.part;
    split = is.split;
    rows = is.rows;
    ruling = λ knows. is.ruling (sym (known_stays s l no_verdict) ∙ knows);
    totals = λ knows. totals_stay s l no_verdict ∙ is.totals (sym (known_stays s l no_verdict) ∙ knows);
    bodies = all_placed (λ x. HoldsBody x.name.kind src s.at x) l s.held body is.bodies;
    many = is.many;
    partials = λ v lies. subst (λ words. AreFilled 0 (partial_ops s.split) words (keys_below src) (own_partials s v))
        (sym (came_stay v)) (is.partials v lies);
    ring = is.ring;
    reading = is.reading;
    reads = is.reads;
    judged = is.judged;
    report = is.report;
  }

pub takes_kept : TakesWhatIsKept
takes_kept src m s l is (inl refresh) body =
    let aside : IsAside l = record {
      update = λ e. let wrong : kind.Refresh ≡ kind.Update = sym refresh ∙ e in cc;
      push = λ e. let wrong : kind.Refresh ≡ kind.Push = sym refresh ∙ e in cc;
    } in
    let no_verdict : l.name.kind ≡ kind.Verdict → ⊥ = λ e. let wrong : kind.Refresh ≡ kind.Verdict = sym refresh
    ∙ e in cc in
    subst (IsIdeal src m) (sym (ap (λ k. taken k s l) refresh))
    (kept_ideal src m s l aside no_verdict is (subst (λ k. HoldsBody k src s.at l) (sym refresh) body))
takes_kept src m s l is (inr (inl dep)) body =
    let aside : IsAside l = record {
      update = λ e. let wrong : kind.Dep ≡ kind.Update = sym dep ∙ e in cc;
      push = λ e. let wrong : kind.Dep ≡ kind.Push = sym dep ∙ e in cc;
    } in
    let no_verdict : l.name.kind ≡ kind.Verdict → ⊥ = λ e. let wrong : kind.Dep ≡ kind.Verdict = sym dep ∙ e in cc in
    subst (IsIdeal src m) (sym (ap (λ k. taken k s l) dep))
    (kept_ideal src m s l aside no_verdict is (subst (λ k. HoldsBody k src s.at l) (sym dep) (λ ahead. body)))
takes_kept src m s l is (inr (inr tally)) body =
    let aside : IsAside l = record {
      update = λ e. let wrong : kind.Tally ≡ kind.Update = sym tally ∙ e in cc;
      push = λ e. let wrong : kind.Tally ≡ kind.Push = sym tally ∙ e in cc;
    } in
    let no_verdict : l.name.kind ≡ kind.Verdict → ⊥ = λ e. let wrong : kind.Tally ≡ kind.Verdict = sym tally
    ∙ e in cc in
    subst (IsIdeal src m) (sym (ap (λ k. taken k s l) tally))
    (kept_ideal src m s l aside no_verdict is (subst (λ k. HoldsBody k src s.at l) (sym tally) body))
