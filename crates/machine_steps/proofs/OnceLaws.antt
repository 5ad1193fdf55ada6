-- Vertices that stand once in a scan are scanned each from the state that came.
use Rattle.std.proofs.Common.{◌≡◌, ◌≢◌, ◌<◌, ◌≤◌, ◌+◌, ◌-◌, ℕ, false, ◌||◌, List, [], ◌∷◌, length, set, map, refl, sym, ap, subst, ◌∙◌, ⊎_elim, arith}
use Rattle.std.specs.Prelude.{◌==◌}
use Rattle.std.specs.List.{AllByRecursion, list_any, range_with_len}
use Rattle.std.proofs.lemmas.Bool.{cases_eq, ne_eqb}
use Rattle.std.proofs.lemmas.List.{get_or-set_other, get_or-set_same, get_or_default, length-set, same_lists}
use Rattle.std.proofs.lemmas.List.FromFn.{get_or-map-range_with_len, length-map-range_with_len}
use Rattle.graph_table.proofs.FilterLaws.{map_same}
use Rattle.dep_layout.specs.Spelling.{State as LoopState}
use Rattle.symple_face.specs.CoreScan.{Scanned}
use Rattle.machine_parts.specs.Flat.{fresh_state, state_at}
use Rattle.machine_parts.proofs.UpdateLaws.{StandOnce}
use Rattle.vertex_work.specs.Scanning.{scans, states_left}

-- a state that is put elsewhere
other_place : (states : List LoopState) (start v u : ℕ) (x : LoopState) → start ≤ v → start ≤ u → u ≢ v →
    state_at (set states (v - start) x) (u - start) ≡ state_at states (u - start)
other_place states start v u x low high apart =
    get_or-set_other states (v - start) (u - start) x (fresh_state 0) (λ e. apart (omega arith))

module _ (f : ℕ → LoopState → Scanned) (start : ℕ) where
  -- the vertices behind one have their states as before
  others_same : (count v : ℕ) (vs : List ℕ) (states : List LoopState) (x : LoopState) → start ≤ v →
      AllByRecursion (λ u. u ≢ v) vs → StandOnce start count vs →
      AllByRecursion (λ u. f u (state_at (set states (v - start) x) (u - start)) ≡ f u (state_at states (u - start))) vs
  others_same count v [] states x low other once = tt
  others_same count v (u ∷ us) states x low other once = (
    ap (f u) (other_place states start v u x low once.0 other.0),
    others_same count v us states x low other.1 once.3,
  )

  pub scans_are : (vs : List ℕ) (states : List LoopState) → StandOnce start (length states) vs →
      scans f start vs states ≡ map (λ v. f v (state_at states (v - start))) vs
  scans_are [] states once = refl
  scans_are (v ∷ vs) states once =
      let x : LoopState = (f v (state_at states (v - start))).state in
      let next : List LoopState = set states (v - start) x in
      let size : length (set states (v - start) (f v (state_at states (v - start))).state) ≡ length states =
      length-set states (v - start) x in
      ap (λ xs. f v (state_at states (v - start)) ∷ xs)
      (scans_are vs next (subst (λ n. StandOnce start n vs) (sym size) once.3)
      ∙ map_same (λ u. f u (state_at next (u - start))) (λ u. f u (state_at states (u - start))) vs
      (others_same (length states) v vs states x once.0 once.2 once.3))

  pub length-states_left : (vs : List ℕ) (states : List LoopState) →
      length (states_left f start vs states) ≡ length states
  length-states_left [] states = refl
  length-states_left (v ∷ vs) states =
      let x : LoopState = (f v (state_at states (v - start))).state in
      length-states_left vs (set states (v - start) x) ∙ length-set states (v - start) x

  -- a vertex that isn't scanned keeps its state
  stays : (w : ℕ) (vs : List ℕ) (states : List LoopState) → start ≤ w → AllByRecursion (λ u. u ≢ w) vs →
      StandOnce start (length states) vs →
      state_at (states_left f start vs states) (w - start) ≡ state_at states (w - start)
  stays w [] states low other once = refl
  stays w (v ∷ vs) states low other once =
      let x : LoopState = (f v (state_at states (v - start))).state in
      let size : length (set states (v - start) (f v (state_at states (v - start))).state) ≡ length states =
      length-set states (v - start) x in
      stays w vs (set states (v - start) x) low other.1 (subst (λ n. StandOnce start n vs) (sym size) once.3)
      ∙ other_place states start v w x once.0 low (λ e. other.0 (sym e))

  -- and one that is has what is scanned from the state that came
  left_at : (w : ℕ) (vs : List ℕ) (states : List LoopState) → start ≤ w → w - start < length states →
      StandOnce start (length states) vs →
      (list_any (λ u. u == w) vs ≡ false →
      (f w (state_at states (w - start))).state ≡ state_at states (w - start)) →
      state_at (states_left f start vs states) (w - start) ≡ (f w (state_at states (w - start))).state
  left_at w [] states low high once still = sym (still refl)
  left_at w (v ∷ vs) states low high once still =
      let x : LoopState = (f v (state_at states (v - start))).state in
      let next : List LoopState = set states (v - start) x in
      let size : length (set states (v - start) (f v (state_at states (v - start))).state) ≡ length states =
      length-set states (v - start) x in
      let rest : StandOnce start (length (set states (v - start) (f v (state_at states (v - start))).state)) vs =
      subst (λ n. StandOnce start n vs) (sym size) once.3 in
      ⊎_elim
      (λ (here : v ≡ w).
      stays w vs next low (subst (λ (z : ℕ). AllByRecursion (λ u. u ≢ z) vs) here once.2) rest
      ∙ ap (λ z. state_at (set states (z - start) (f z (state_at states (z - start))).state) (w - start)) here
      ∙ get_or-set_same states (w - start) (f w (state_at states (w - start))).state (fresh_state 0) high)
      (λ (other : v ≢ w).
      let same : state_at (set states (v - start) (f v (state_at states (v - start))).state) (w - start)
      ≡ state_at states (w - start) = other_place states start v w x once.0 low (λ e. other (sym e)) in
      left_at w vs next low (omega arith) rest
      (λ none. subst (λ st. (f w st).state ≡ st) (sym same)
      (still (ap (λ b. b || list_any (λ u. u == w) vs) (ne_eqb v w other) ∙ none)))
      ∙ ap (λ st. (f w st).state) same)
      (cases_eq v w)

  pub states_left_are : (vs : List ℕ) (states : List LoopState) → StandOnce start (length states) vs →
      ((w : ℕ) → start ≤ w → w < start + length states → list_any (λ u. u == w) vs ≡ false →
      (f w (state_at states (w - start))).state ≡ state_at states (w - start)) →
      states_left f start vs states
      ≡ map (λ v. (f v (state_at states (v - start))).state) (range_with_len start (length states))
  states_left_are vs states once still =
      let g : ℕ → LoopState = λ v. (f v (state_at states (v - start))).state in
      let count : length (states_left f start vs states) ≡ length (map g (range_with_len start (length states))) =
      length-states_left vs states ∙ sym (length-map-range_with_len g start (length states)) in
      same_lists (states_left f start vs states) (map g (range_with_len start (length states))) count
      (λ i d lt.
      let within : i < length states = omega (arith, length-states_left vs states) in
      let at : start + i - start ≡ i = omega arith in
      let high : start + i - start < length states = omega arith in
      get_or_default (states_left f start vs states) i d (fresh_state 0) lt
      ∙ ap (state_at (states_left f start vs states)) (sym at)
      ∙ left_at (start + i) vs states (omega arith) high once (still (start + i) (omega arith) (omega arith))
      ∙ sym (get_or-map-range_with_len g start (length states) i (start + i) d within refl))
