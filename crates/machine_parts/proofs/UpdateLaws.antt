-- What an update tells is added vertex by vertex.
use Rattle.std.proofs.Common.{◌≡◌, ℕ, zero, suc, ℤ, ◌+◌, ◌-◌, ◌<◌, ◌≤◌, ◌≢◌, cond, Option, Some, None, List, [], ◌∷◌, ◌++◌, length, get_or, set, take, drop, map, refl, ap, sym, subst, ◌∙◌, arith, ⊎_elim, length-append}
use Rattle.std.specs.List.{All, AllByRecursion, AllPairs}
use Rattle.std.specs.List.Sorted.{IsStrictlyIncreasing}
use Rattle.std.proofs.lemmas.Bool.{cases_eq, eq-eqb, ne_eqb}
use Rattle.std.proofs.lemmas.List.{drop_all, drop_more, get_or-append_right, get_or-map, get_or-set_other, get_or-set_same, get_or_append_left, get_or_default, length-map, length-set, length-take-le, same_lists, set-get_or, set-set, take_more}
use Rattle.std.proofs.lemmas.List.Elements.{All-map, All-set, All-tail, recursion_from_All}
use Rattle.std.proofs.lemmas.List.Kept.{AllPairs-from_increasing}
use Rattle.std.proofs.lemmas.List.FromFn.{get_or-map-range_with_len, length-map-range_with_len}
use Rattle.slot_merge.specs.declared.partial.Partial.{Partial}
use Rattle.slot_merge.specs.Partials.{with_word}
use Rattle.flat_table.specs.Grids.{Rows}
use Rattle.vert_base.specs.declared.graph.VertexId.{VertexId}
use Rattle.body_shape.specs.Places.{flags_of, set_count}
use Rattle.body_shape.specs.Update.{Sent, behind_sent, behind_values, sent_at, sents_read, values_in}
use Rattle.dep_layout.specs.Judgement.{words_in}
use Rattle.body_shape.proofs.PlaceLaws.{length-flags_of, length-placed}
use Rattle.symple_face.specs.CoreSight.{beside}
use Rattle.symple_face.specs.CoreTakes.{with_sent, with_values}
use Rattle.machine_parts.specs.Neighbours.{ArePlaced}
use Rattle.machine_parts.specs.Updates.{nothing, told_values, with_sents, with_told}

pub length-with_values : (key : ℕ) (xs : List (Option ℤ)) (ps : List Partial)
    → length (with_values key xs ps) ≡ length ps
length-with_values key [] ps = refl
length-with_values key (x ∷ xs) [] = refl
length-with_values key (None ∷ xs) (p ∷ ps) = ap suc (length-with_values key xs ps)
length-with_values key (Some word ∷ xs) (p ∷ ps) = ap suc (length-with_values key xs ps)

-- the word for the next partial
pub with_values-more : (key : ℕ) (xs : List (Option ℤ)) (x : Option ℤ) (i : ℕ) (ps : List Partial) → length xs ≡ i
    → i < length ps →
    with_values key (xs ++ x ∷ []) ps ≡ with_told key x i (with_values key xs ps)
with_values-more key [] None i [] same lt = absurd (omega arith)
with_values-more key [] (Some word) i [] same lt = absurd (omega arith)
with_values-more key [] None i (p ∷ ps) same lt = refl
with_values-more key [] (Some word) zero (p ∷ ps) same lt = refl
with_values-more key [] (Some word) (suc i) (p ∷ ps) same lt = absurd (omega arith)
with_values-more key (y ∷ xs) x i [] same lt = absurd (omega arith)
with_values-more key (None ∷ xs) None zero (p ∷ ps) same lt = absurd (omega arith)
with_values-more key (None ∷ xs) (Some word) zero (p ∷ ps) same lt = absurd (omega arith)
with_values-more key (Some w ∷ xs) None zero (p ∷ ps) same lt = absurd (omega arith)
with_values-more key (Some w ∷ xs) (Some word) zero (p ∷ ps) same lt = absurd (omega arith)
with_values-more key (None ∷ xs) None (suc i) (p ∷ ps) same lt =
    ap (λ qs. p ∷ qs) (with_values-more key xs None i ps (omega arith) (omega arith))
with_values-more key (None ∷ xs) (Some word) (suc i) (p ∷ ps) same lt =
    ap (λ qs. p ∷ qs) (with_values-more key xs (Some word) i ps (omega arith) (omega arith))
with_values-more key (Some w ∷ xs) None (suc i) (p ∷ ps) same lt =
    ap (λ qs. with_word key w p ∷ qs) (with_values-more key xs None i ps (omega arith) (omega arith))
with_values-more key (Some w ∷ xs) (Some word) (suc i) (p ∷ ps) same lt =
    ap (λ qs. with_word key w p ∷ qs) (with_values-more key xs (Some word) i ps (omega arith) (omega arith))

-- what is told of the vertices of a list, one after another
abbrev pub merged : ℕ → ℕ → List ℕ → List Sent → List (List Partial) → List (List Partial)
merged start key [] sents all = all
merged start key (v ∷ vs) [] all = all
merged start key (v ∷ vs) (sent ∷ sents) all = merged start key vs sents
    (set all (v - start) (with_sent key sent (get_or all (v - start) [])))

length-merged : (start key : ℕ) (vs : List ℕ) (sents : List Sent) (all : List (List Partial))
    → length (merged start key vs sents all) ≡ length all
length-merged start key [] sents all = refl
length-merged start key (v ∷ vs) [] all = refl
length-merged start key (v ∷ vs) (sent ∷ sents) all =
    length-merged start key vs sents (set all (v - start) (with_sent key sent (get_or all (v - start) [])))
    ∙ length-set all (v - start) (with_sent key sent (get_or all (v - start) []))

-- no number stands twice in a list, and each has a place among so many from a number on
abbrev pub StandOnce : ℕ → ℕ → List ℕ → Type 0
StandOnce start count [] = Unit {0}
StandOnce start count (v ∷ vs) = (start ≤ v) × (v - start < count) × AllByRecursion (λ u. u ≢ v) vs
    × StandOnce start count vs

beside_none : (v : ℕ) (vs : List ℕ) (sents : List Sent) → AllByRecursion (λ u. u ≢ v) vs
    → beside nothing v vs sents ≡ nothing
beside_none v [] sents other = refl
beside_none v (u ∷ us) [] other = refl
beside_none v (u ∷ us) (sent ∷ sents) other =
    ap (λ b. cond b sent (beside nothing v us sents)) (ne_eqb u v other.0) ∙ beside_none v us sents other.1

at_merged : (start key : ℕ) (vs : List ℕ) (sents : List Sent) (all : List (List Partial)) (i : ℕ) → i < length all →
    StandOnce start (length all) vs →
    get_or (merged start key vs sents all) i [] ≡ with_sent key (beside nothing (start + i) vs sents) (get_or all i [])
at_merged start key [] sents all i lt once = refl
at_merged start key (v ∷ vs) [] all i lt once = refl
at_merged start key (v ∷ vs) (sent ∷ sents) all i lt once =
    let place : ℕ = v - start in
    let row : List Partial = with_sent key sent (get_or all (v - start) []) in
    let next : List (List Partial) = set all (v - start) row in
    let low : start ≤ v = once.0 in
    let high : v - start < length all = once.1 in
    let size : length (set all (v - start) (with_sent key sent (get_or all (v - start) []))) ≡ length all =
    length-set all place row in
    let rest : StandOnce start (length (set all (v - start) (with_sent key sent (get_or all (v - start) [])))) vs =
    subst (λ (n : ℕ). StandOnce start n vs) (sym size) once.3 in
    let later = at_merged start key vs sents next i (omega arith) rest in
    ⊎_elim
    (λ (here : v ≡ start + i).
    let at : v - start ≡ i = omega arith in
    let none : AllByRecursion (λ u. u ≢ start + i) vs = subst (λ (w : ℕ). AllByRecursion (λ u. u ≢ w) vs) here once.2 in
    later
    ∙ ap (λ s. with_sent key s (get_or next i [])) (beside_none (start + i) vs sents none)
    ∙ ap (λ k. get_or (set all k (with_sent key sent (get_or all k []))) i []) at
    ∙ get_or-set_same all i (with_sent key sent (get_or all i [])) [] lt
    ∙ sym (ap (λ b. with_sent key (cond b sent (beside nothing (start + i) vs sents)) (get_or all i []))
    (eq-eqb v (start + i) here)))
    (λ (other : v ≢ start + i).
    let apart : i ≢ v - start = λ e. other (omega arith) in
    later
    ∙ ap (λ ps. with_sent key (beside nothing (start + i) vs sents) ps) (get_or-set_other all place i row [] apart)
    ∙ sym (ap (λ b. with_sent key (cond b sent (beside nothing (start + i) vs sents)) (get_or all i []))
    (ne_eqb v (start + i) other)))
    (cases_eq v (start + i))

-- vertex by vertex is all at once
pub merged_is : (start key : ℕ) (vs : List ℕ) (sents : List Sent) (all : List (List Partial))
    → StandOnce start (length all) vs →
    merged start key vs sents all ≡ with_sents start key vs sents all
merged_is start key vs sents all once =
    let f : ℕ → List Partial = λ v. with_sent key (beside nothing v vs sents) (get_or all (v - start) []) in
    let count : length (merged start key vs sents all) ≡ length (with_sents start key vs sents all) =
    length-merged start key vs sents all ∙ sym (length-map-range_with_len f start (length all)) in
    same_lists (merged start key vs sents all) (with_sents start key vs sents all) count
    (λ i d lt.
    let within : i < length all = omega (arith, length-merged start key vs sents all) in
    let at : start + i - start ≡ i = omega arith in
    get_or_default (merged start key vs sents all) i d [] lt
    ∙ at_merged start key vs sents all i within once
    ∙ ap (λ k. with_sent key (beside nothing (start + i) vs sents) (get_or all k [])) (sym at)
    ∙ sym (get_or-map-range_with_len f start (length all) i (start + i) d within refl))

told_values_count : (count mask : ℕ) (bytes : List ℕ) → length (values_in count mask bytes) ≡ count
told_values_count count mask bytes = length-placed (flags_of count mask)
    (words_in (set_count (flags_of count mask)) bytes) ∙ length-flags_of count mask

-- what is told of a vertex has a place for each slot and each reduced let
pub told_slots : (slots reduced : ℕ) (bytes : List ℕ) → length (sent_at slots reduced bytes).values ≡ slots
told_slots slots reduced [] = told_values_count slots 0 []
told_slots slots reduced (low ∷ []) = told_values_count slots 0 []
told_slots slots reduced (low ∷ high ∷ bytes) = told_values_count slots low bytes

pub told_reduced : (slots reduced : ℕ) (bytes : List ℕ) → length (sent_at slots reduced bytes).operands ≡ reduced
told_reduced slots reduced [] = told_values_count reduced 0 (behind_values slots 0 [])
told_reduced slots reduced (low ∷ []) = told_values_count reduced 0 (behind_values slots 0 [])
told_reduced slots reduced (low ∷ high ∷ bytes) = told_values_count reduced high (behind_values slots low bytes)

-- the word of a slot
pub told_slot : (slots reduced : ℕ) (bytes : List ℕ) (column : ℕ) → column < slots →
    get_or (told_values (sent_at slots reduced bytes)) column None
    ≡ get_or (sent_at slots reduced bytes).values column None
told_slot slots reduced bytes column lt =
    let sent : Sent = sent_at slots reduced bytes in
    get_or_append_left sent.values sent.operands None column (omega (arith, told_slots slots reduced bytes))

-- the word of a reduced let
pub told_let : (slots reduced : ℕ) (bytes : List ℕ) (column : ℕ) → slots ≤ column →
    get_or (told_values (sent_at slots reduced bytes)) column None
    ≡ get_or (sent_at slots reduced bytes).operands (column - slots) None
told_let slots reduced bytes column le =
    let sent : Sent = sent_at slots reduced bytes in
    get_or-append_right sent.values sent.operands slots column None (told_slots slots reduced bytes) le

-- all that is told
pub told_count : (slots reduced : ℕ) (bytes : List ℕ) → length (told_values (sent_at slots reduced bytes))
    ≡ slots + reduced
told_count slots reduced bytes =
    let sent : Sent = sent_at slots reduced bytes in
    omega (
      arith,
      length-append sent.values sent.operands,
      told_slots slots reduced bytes,
      told_reduced slots reduced
          bytes,
    )

-- a row of partials with one word more
row_more : (key i : ℕ) (told : List (Option ℤ)) (x : Option ℤ) (row : List Partial) → i < length told → i < length row →
    x ≡ get_or told i None → with_values key (take (i + 1) told) row
    ≡ with_told key x i (with_values key (take i told) row)
row_more key i told x row lt within here =
    ap (λ xs. with_values key xs row) (take_more told i None lt)
    ∙ ap (λ y. with_values key (take i told ++ y ∷ []) row) (sym here)
    ∙ with_values-more key (take i told) x i row (length-take-le i told (omega arith)) within

-- the partials, after some of the words for the row at a place
abbrev pub added : ℕ → ℕ → List (Option ℤ) → Rows Partial → Rows Partial
added key place told partials = record partials {
  rows =
      set partials.rows place (with_values key told (get_or partials.rows place []));
}

pub added_none : (key place : ℕ) (told : List (Option ℤ)) (partials : Rows Partial)
    → partials ≡ added key place (take 0 told) partials
added_none key place told partials = λ i. record partials { rows = sym (set-get_or partials.rows place []) i }

module _ (key place i : ℕ) (told : List (Option ℤ)) (first now : Rows Partial) (within : place < length first.rows)
    (wide : length (get_or first.rows place []) ≡ first.width) (so_far : now ≡ added key place (take i told) first)
  where
    row_now : get_or now.rows place [] ≡ with_values key (take i told) (get_or first.rows place [])
    row_now =
        ap (λ (p : Rows Partial). get_or p.rows place []) so_far
        ∙ get_or-set_same first.rows place (with_values key (take i told) (get_or first.rows place [])) [] within

    pub place_now : place < length now.rows
    place_now =
        let row : List Partial = with_values key (take i told) (get_or first.rows place []) in
        omega (arith, ap (λ (p : Rows Partial). length p.rows) so_far, length-set first.rows place row)

    pub width_now : now.width ≡ first.width
    width_now = ap (λ (p : Rows Partial). p.width) so_far

    pub wide_now : length (get_or now.rows place []) ≡ now.width
    wide_now = ap length row_now ∙ length-with_values key (take i told) (get_or first.rows place []) ∙ wide
        ∙ sym width_now

    pub added_more : (x : Option ℤ) (new : Rows Partial) → i < length told → i < first.width → x ≡ get_or told i None →
        new ≡ record now { rows = set now.rows place (with_told key x i (get_or now.rows place [])) }
        → new ≡ added key place (take (i + 1) told) first
    added_more x new lt inside here put =
        let row : List Partial = get_or first.rows place [] in
        let old : List Partial = with_values key (take i told) row in
        let next : with_told key x i (get_or now.rows place []) ≡ with_values key (take (i + 1) told)
        (get_or first.rows place []) =
        ap (with_told key x i) row_now ∙ sym (row_more key i told x row lt (omega (arith, wide)) here) in
        put
        ∙ ap (λ (r : List Partial). record now { rows = set now.rows place r }) next
        ∙ ap (λ (p : Rows Partial). record p { rows = set p.rows place (with_values key (take (i + 1) told) row) })
        so_far
        ∙ (λ j. record first { rows = set-set first.rows place old (with_values key (take (i + 1) told) row) j })

-- what is left, over the partials with one vertex more
module _ (start key slots reduced i n v d : ℕ) (ids rest behind : List ℕ) (now new all : List (List Partial)) where
  merge_more : i < n → n ≡ length ids → v ≡ get_or ids i d → behind ≡ behind_sent slots reduced rest →
      new ≡ set now (v - start) (with_sent key (sent_at slots reduced rest) (get_or now (v - start) [])) →
      merged start key (drop i ids) (sents_read slots reduced (n - i) rest) now ≡ all →
      merged start key (drop (i + 1) ids) (sents_read slots reduced (n - (i + 1)) behind) new ≡ all
  merge_more lt count here later put so_far =
      let front : drop i ids ≡ v ∷ drop (i + 1) ids = drop_more ids i d (omega (arith, count))
      ∙ ap (λ u. u ∷ drop (i + 1) ids) (sym here) in
      let left : n - i ≡ suc (n - (i + 1)) = omega arith in
      ap (λ bytes. merged start key (drop (i + 1) ids) (sents_read slots reduced (n - (i + 1)) bytes) new) later
      ∙ ap (λ ps. merged start key (drop (i + 1) ids) (sents_read slots reduced (n - (i + 1))
      (behind_sent slots reduced rest)) ps) put
      ∙ sym (ap (λ us. merged start key us (sents_read slots reduced (n - i) rest) now) front
      ∙ ap (λ k. merged start key (v ∷ drop (i + 1) ids) (sents_read slots reduced k rest) now) left)
      ∙ so_far

abbrev number : VertexId → ℕ
number v = v.0

-- one vertex more
module _ (start key slots reduced i : ℕ) (list : List VertexId) (d : VertexId) (rest : List ℕ) (now new : Rows Partial)
    (put :
    new
    ≡ record now {
      rows = set now.rows ((get_or list i d).0 - start) (with_sent key (sent_at slots reduced rest)
          (get_or now.rows ((get_or list i d).0 - start) []));
    }) where
  abbrev row : List Partial
  row = with_sent key (sent_at slots reduced rest) (get_or now.rows ((get_or list i d).0 - start) [])

  pub merged_width : new.width ≡ now.width
  merged_width = ap (λ (p : Rows Partial). p.width) put

  pub merged_count : length new.rows ≡ length now.rows
  merged_count = ap (λ (p : Rows Partial). length p.rows) put ∙ length-set now.rows ((get_or list i d).0 - start) row

  pub merged_each : (width count : ℕ) → ArePlaced start count list → i < length list → length now.rows ≡ count
      → All (λ ps. length ps ≡ width) now.rows →
      All (λ ps. length ps ≡ width) new.rows
  merged_each width count placed lt same each =
      let place : ℕ = (get_or list i d).0 - start in
      let here = placed i d lt in
      let within : (get_or list i d).0 - start < length now.rows = omega (arith, here.1, same) in
      let wide : length row ≡ width = length-with_values key (told_values (sent_at slots reduced rest))
      (get_or now.rows place []) ∙ each place [] within in
      subst (λ (p : Rows Partial). All (λ ps. length ps ≡ width) p.rows) (sym put)
      (All-set (λ ps. length ps ≡ width) now.rows place row wide each)

  pub merged_all : (behind : List ℕ) (all : List (List Partial)) → i < length list
      → behind ≡ behind_sent slots reduced rest →
      merged start key (drop i (map (λ v. v.0) list)) (sents_read slots reduced (length list - i) rest) now.rows ≡ all →
      merged start key (drop (i + 1) (map (λ v. v.0) list)) (sents_read slots reduced (length list - (i + 1)) behind)
      new.rows ≡ all
  merged_all behind all lt later so_far =
      merge_more start key slots reduced i (length list) (get_or list i d).0 0 (map number list) rest behind now.rows
      new.rows all lt (sym (length-map list number))
      (sym (get_or-map number list i d 0 lt)) later (ap (λ (p : Rows Partial). p.rows) put) so_far

-- when all is told
module _ (start key slots reduced i : ℕ) (list : List VertexId) (rest : List ℕ) (sents : List Sent)
    (first now : List (List Partial)) where
  pub merged_end : length list ≤ i →
      merged start key (drop i (map (λ v. v.0) list)) (sents_read slots reduced (length list - i) rest) now ≡
      merged start key (map (λ v. v.0) list) sents first →
      StandOnce start (length first) (map (λ v. v.0) list) →
      now ≡ with_sents start key (map (λ v. v.0) list) sents first
  merged_end past so_far once =
      sym (ap (λ us. merged start key us (sents_read slots reduced (length list - i) rest) now)
      (drop_all i (map number list) (omega (arith, length-map list number))))
      ∙ so_far
      ∙ merged_is start key (map number list) sents first once

-- the vertices of a list that ascends stand once
once_from : (start count : ℕ) (vs : List ℕ) → All (λ v. (start ≤ v) × (v - start < count)) vs
    → AllPairs (λ v u. v < u) vs → StandOnce start count vs
once_from start count [] placed up = tt
once_from start count (v ∷ vs) placed up =
    let here = placed 0 v (omega arith) in (
      here.0,
      here.1,
      recursion_from_All (λ u. u ≢ v) vs (λ k d lt e. let high =
          up 0 (suc k) d (omega arith) (omega arith) in omega arith),
      once_from start count vs (All-tail (λ v. (start ≤ v) × (v - start < count)) v vs placed)
          (λ i j d lt within. up (suc i) (suc j) d (omega arith) (omega arith)),
    )

pub stand_once : (start count : ℕ) (vertices : List VertexId) → ArePlaced start count vertices
    → IsStrictlyIncreasing (map (λ v. v.0) vertices) →
    StandOnce start count (map (λ v. v.0) vertices)
stand_once start count vertices placed up =
    once_from start count (map (λ v. v.0) vertices) (All-map (λ (v : ℕ). (start ≤ v) × (v - start < count))
    (λ (v : VertexId). v.0) vertices placed)
    (AllPairs-from_increasing (map (λ v. v.0) vertices) up)
