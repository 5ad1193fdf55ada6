-- Pushes that were kept are worked machine by machine.
use Rattle.std.proofs.Common.{◌≡◌, ℕ, ℤ, ◌+◌, ◌-◌, ◌≤◌, Option, List, [], ◌∷◌, ◌++◌, map, refl, sym, ap, ◌∙◌, arith}
use Rattle.std.specs.List.{range_with_len}
use Rattle.std.proofs.lemmas.List.FromFn.{map-range_with_len_more}
use Rattle.vert_base.specs.declared.value.Ruling.{Ruling}
use Rattle.vert_base.specs.Letters.{Letter}
use Rattle.circulant_plan.specs.Table.{others_of}
use Rattle.graph_table.proofs.FilterLaws.{map-append}
use Rattle.flat_table.specs.Grids.{Rows}
use Rattle.slot_merge.specs.declared.partial.Partial.{Partial}
use Rattle.vert_eval.specs.declared.environment.Env.{Env}
use Rattle.symple_face.specs.CoreSparse.{all_worked, begin_go, kept_sends, own_first, sends_from, worked}
use Rattle.symple_face.specs.PartViews.{plain_of}
use Rattle.symple_face.specs.Parts.{PlainPart}
use Rattle.symple_face.specs.State.{State}
use Rattle.vertex_work.specs.declared.ground.Ground.{Ground}
use Rattle.vertex_work.specs.declared.receivers.Receivers.{Receivers}
use Rattle.machine_steps.specs.Beginning.{CanWork, ShowsTo}
use Rattle.machine_parts.proofs.TotalLaws.{settled}

pub all_worked-append : (s : State) (r : ℕ) (fs gs : List (ℕ → Option (List ℤ))) (all : List (List Partial)) →
    all_worked s r (fs ++ gs) all ≡ all_worked s r gs (all_worked s r fs all)
all_worked-append s r [] gs all = refl
all_worked-append s r (f ∷ fs) gs all = all_worked-append s r fs gs (worked s r f s.part.push all)

-- what is shown to an environment with the same numbers
pub shows_settled : (g : Ground) (rs : Receivers) (env first : Env) (s : State) → settled env ≡ settled first →
    ShowsTo g rs first s → ShowsTo g rs env s
shows_settled g rs env first s same shows = record {
  part = shows.part;
  split = shows.split;
  totals = shows.totals ∙ sym (ap (λ (e : Env). e.totals.items) same);
  rows = shows.rows;
}

module _ (g : Ground) (rs : Receivers) (letters : List Letter) (from : ℕ) (first : Env) (old : Rows Partial) where
  -- the pushes of the machines from one on and before another one are worked
  pub record IsKept (k : ℕ) (env : Env) (now : Rows Partial) : Type 0 where
    pub kept : settled env ≡ settled first
    pub can : CanWork g rs env now
    pub width : now.width ≡ old.width
    pub rows : (s : State) → ShowsTo g rs first s → s.held ≡ letters →
        now.rows ≡ all_worked s first.round (map (kept_sends s first.round) (range_with_len from (k - from))) old.rows

  pub kept_none : CanWork g rs first old → IsKept from first old
  kept_none can =
      let none : 0 ≡ from - from = omega arith in
      record {
        kept = refl;
        can = can;
        width = refl;
        rows = λ s shows held.
            ap (λ n. all_worked s first.round (map (kept_sends s first.round) (range_with_len from n)) old.rows) none;
      }

  module _ (k : ℕ) (env next : Env) (now new : Rows Partial) where
    pub kept_more : from ≤ k → IsKept k env now →
        ((s : State) → ShowsTo g rs env s → s.held ≡ letters → new.rows ≡ worked s env.round (kept_sends s
        env.round k) s.part.push now.rows) → new.width ≡ now.width → settled next ≡ settled env →
        CanWork g rs next new → IsKept (k + 1) next new
    kept_more low so_far works width same can =
        let round : env.round ≡ first.round = ap (λ (e : Env). e.round) so_far.kept in
        let at : from + (k - from) ≡ k = omega arith in
        let more : k - from + 1 ≡ k + 1 - from = omega arith in
        record {
          kept = same ∙ so_far.kept;
          can = can;
          width = width ∙ so_far.width;
          rows = λ s shows held.
              let f : ℕ → ℕ → Option (List ℤ) = kept_sends s first.round in
              works s (shows_settled g rs env first s so_far.kept shows) held
              ∙ ap (λ r. worked s r (kept_sends s r k) s.part.push now.rows) round
              ∙ ap (worked s first.round (f k) s.part.push) (so_far.rows s shows held)
              ∙ sym (all_worked-append s first.round (map f (range_with_len from (k - from))) (f k ∷ []) old.rows)
              ∙ ap (λ fs. all_worked s first.round fs old.rows)
              (sym (map-range_with_len_more f from (k - from) k at) ∙ ap (λ n. map f (range_with_len from n)) more);
        }

-- ---- the begin of a round
-- what own vertices send, then the pushes of the machines before this one, then those of the machines behind it
module _ (g : Ground) (rs : Receivers) (letters : List Letter) (ruling : Ruling) (m p : ℕ) (env own front : Env)
    (old first second last : List (List Partial)) (is_m : m ≡ (plain_of g.part).at.machine)
    (is_p : p ≡ (plain_of g.part).at.machines)
    (w1 : ((s : State) → ShowsTo g rs env s → first ≡ all_worked s env.round (own_first ruling (sends_from s
    env.round)) old))
    (same1 : settled own ≡ settled env) where
  pub begun : ((s : State) → ShowsTo g rs own s → s.held ≡ letters → second ≡ all_worked s own.round (map
      (kept_sends s own.round) (range_with_len 0 (m - 0))) first) → settled front ≡ settled own →
      ((s : State) → ShowsTo g rs front s → s.held ≡ letters → last ≡ all_worked s front.round (map (kept_sends
      s front.round) (range_with_len (m + 1) (p - (m + 1)))) second) → (s : State) → ShowsTo g rs env s →
      s.held ≡ letters → s.ruling ≡ ruling → s.partials ≡ old → last ≡ (begin_go s env.round).partials
  begun w2 same2 w3 s shows held rules partials =
      let r : ℕ = env.round in
      let f : ℕ → ℕ → Option (List ℤ) = kept_sends s env.round in
      let mine : List (ℕ → Option (List ℤ)) = own_first ruling (sends_from s env.round) in
      let own_round : own.round ≡ env.round = ap (λ (e : Env). e.round) same1 in
      let front_round : front.round ≡ env.round = ap (λ (e : Env). e.round) same2 ∙ own_round in
      let shows1 = shows_settled g rs own env s same1 shows in
      let shows2 = shows_settled g rs front own s same2 shows1 in
      let machine_is : m ≡ s.part.at.machine = is_m ∙ ap (λ (q : PlainPart). q.at.machine) (sym shows.part) in
      let count_is : p ≡ s.part.at.machines = is_p ∙ ap (λ (q : PlainPart). q.at.machines) (sym shows.part) in
      let zero_is : m - 0 ≡ m = omega arith in
      let rest_is : p - (m + 1) ≡ p - 1 - m = omega arith in
      let before : List ℕ = range_with_len 0 m in
      let behind : List ℕ = range_with_len (m + 1) (p - 1 - m) in
      w3 s shows2 held
      ∙ ap (λ k. all_worked s k (map (kept_sends s k) (range_with_len (m + 1) (p - (m + 1)))) second) front_round
      ∙ ap (λ n. all_worked s r (map f (range_with_len (m + 1) n)) second) rest_is
      ∙ ap (all_worked s r (map f behind))
      (w2 s shows1 held
      ∙ ap (λ k. all_worked s k (map (kept_sends s k) (range_with_len 0 (m - 0))) first) own_round
      ∙ ap (λ n. all_worked s r (map f (range_with_len 0 n)) first) zero_is)
      ∙ sym (all_worked-append s r (map f before) (map f behind) first)
      ∙ ap (λ fs. all_worked s r fs first) (sym (map-append f before behind))
      ∙ ap (all_worked s r (map f (before ++ behind))) (w1 s shows)
      ∙ sym (all_worked-append s r mine (map f (before ++ behind)) old)
      ∙ ap (λ (rule : Ruling). all_worked s r (own_first rule (sends_from s r) ++ map f (others_of p m)) old) (sym
      rules)
      ∙ ap (λ n. all_worked s r (own_first s.ruling (sends_from s r) ++ map f (others_of n m)) old) count_is
      ∙ ap
      (λ k.
      all_worked s r (own_first s.ruling (sends_from s r) ++ map f (others_of s.part.at.machines k)) old)
      machine_is
      ∙ ap
      (all_worked s r
      (own_first s.ruling (sends_from s r) ++ map f (others_of s.part.at.machines s.part.at.machine)))
      (sym partials)
