-- A scan of vertices, one after another.
use Rattle.std.proofs.Common.{◌≡◌, ◌<◌, ◌≤◌, ◌+◌, ◌-◌, ℕ, List, [], ◌∷◌, ◌++◌, length, get_or, set, take, drop, map, All, refl, sym, ap, subst, ◌∙◌, ⊎_elim, append_assoc, append-nil, arith}
use Rattle.std.proofs.lemmas.Bool.{cases_eq}
use Rattle.std.proofs.lemmas.List.{drop_all, drop_more, get_or-set_other, get_or-set_same, length-take-le, take_all, take_more, take_more_set}
use Rattle.std.proofs.lemmas.List.Elements.{All-set}
use Rattle.flat_table.specs.Grids.{Rows}
use Rattle.vert_base.specs.declared.graph.Edge.{Edge}
use Rattle.dep_layout.specs.Spelling.{State as LoopState}
use Rattle.slot_merge.specs.declared.partial.Partial.{Partial}
use Rattle.body_shape.specs.Update.{Sent, sent_bytes, update_body}
use Rattle.symple_face.specs.CoreScan.{Scanned}
use Rattle.symple_face.specs.CoreTakes.{with_sent}
use Rattle.machine_parts.specs.Flat.{state_at, zip_with}
use Rattle.machine_parts.proofs.UpdateLaws.{length-with_values, merged}
use Rattle.vertex_work.specs.Scanning.{read_first, scans, states_left}

zip_push : {X Y Z : Type 0} (f : X → Y → Z) (xs : List X) (ys : List Y) (x : X) (y : Y) → length xs ≡ length ys →
    zip_with f (xs ++ x ∷ []) (ys ++ y ∷ []) ≡ zip_with f xs ys ++ f x y ∷ []
zip_push f [] [] x y same = refl
zip_push f [] (b ∷ ys) x y same = absurd (omega arith)
zip_push f (a ∷ xs) [] x y same = absurd (omega arith)
zip_push f (a ∷ xs) (b ∷ ys) x y same = ap (λ zs. f a b ∷ zs) (zip_push f xs ys x y (omega arith))

-- what of a scan is done before a place, and what is left from there on, is the whole
pub record Walking (f : ℕ → LoopState → Scanned) (edges : List Edge) (start : ℕ) (ids : List ℕ) (i : ℕ)
    (first now : List LoopState) (counts : List ℕ) : Type 0 where
  pub states : states_left f start (drop i ids) now ≡ states_left f start ids first
  pub reads : zip_with (read_first edges) (take i ids) (take i counts)
      ++ map (λ x. x.reads) (scans f start (drop i ids) now) ≡ map (λ x. x.reads) (scans f start ids first)

-- one vertex more
module _ (f : ℕ → LoopState → Scanned) (start : ℕ) (ids : List ℕ) (i v : ℕ) (now new : List LoopState)
    (lt : i < length ids) (is : v ≡ get_or ids i 0)
    (put : new ≡ set now (v - start) (f v (state_at now (v - start))).state) where
  front : drop i ids ≡ v ∷ drop (i + 1) ids
  front = drop_more ids i 0 lt ∙ ap (λ u. u ∷ drop (i + 1) ids) (sym is)

  pub scans_next : scans f start (drop i ids) now ≡
      f v (state_at now (v - start)) ∷ scans f start (drop (i + 1) ids) new
  scans_next =
      ap (λ us. scans f start us now) front
      ∙ ap (λ ss. f v (state_at now (v - start)) ∷ scans f start (drop (i + 1) ids) ss) (sym put)

  left_next : states_left f start (drop i ids) now ≡ states_left f start (drop (i + 1) ids) new
  left_next = ap (λ us. states_left f start us now) front ∙ ap (states_left f start (drop (i + 1) ids)) (sym put)

  pub walking_more : (edges : List Edge) (first : List LoopState) (counts : List ℕ) (count : ℕ) → i < length counts →
      read_first edges v count ≡ (f v (state_at now (v - start))).reads →
      Walking f edges start ids i first now counts →
      Walking f edges start ids (i + 1) first new (set counts i count)
  walking_more edges first counts count within read so_far =
      let g : ℕ → ℕ → List ℕ = read_first edges in
      let done : List (List ℕ) = zip_with g (take i ids) (take i counts) in
      let rest : List (List ℕ) = map (λ x. x.reads) (scans f start (drop (i + 1) ids) new) in
      record {
        states = sym left_next ∙ so_far.states;
        reads =
            ap (λ us. zip_with g us (take (i + 1) (set counts i count)) ++ rest)
            (take_more ids i 0 lt ∙ ap (λ u. take i ids ++ u ∷ []) (sym is))
            ∙ ap (λ cs. zip_with g (take i ids ++ v ∷ []) cs ++ rest) (take_more_set counts i count within)
            ∙ ap (λ zs. zs ++ rest)
            (zip_push g (take i ids) (take i counts) v count
            (length-take-le i ids (omega arith) ∙ sym (length-take-le i counts (omega arith))))
            ∙ append_assoc done (g v count ∷ []) rest
            ∙ ap (λ r. done ++ r ∷ rest) read
            ∙ ap (λ xs. done ++ map (λ x. x.reads) xs) (sym scans_next)
            ∙ so_far.reads;
      }

  -- what is sent of it stands behind what was sent before
  pub sents_more : (before after all : List ℕ) (told : Sent) → told ≡ (f v (state_at now (v - start))).sent →
      after ≡ before ++ sent_bytes told →
      before ++ update_body (map (λ x. x.sent) (scans f start (drop i ids) now)) ≡ all →
      after ++ update_body (map (λ x. x.sent) (scans f start (drop (i + 1) ids) new)) ≡ all
  sents_more before after all told here put_there so_far =
      let rest : List ℕ = update_body (map (λ x. x.sent) (scans f start (drop (i + 1) ids) new)) in
      ap (λ bytes. bytes ++ rest) (put_there ∙ ap (λ t. before ++ sent_bytes t) here)
      ∙ append_assoc before (sent_bytes (f v (state_at now (v - start))).sent) rest
      ∙ ap (λ xs. before ++ update_body (map (λ x. x.sent) xs)) (sym scans_next)
      ∙ so_far

  -- or is added to its partials
  module _ (own key : ℕ) (before after all : List (List Partial)) (told : Sent) where
    pub merged_next : told ≡ (f v (state_at now (v - start))).sent →
        after ≡ set before (v - own) (with_sent key told (get_or before (v - own) [])) →
        merged own key (drop i ids) (map (λ x. x.sent) (scans f start (drop i ids) now)) before ≡ all →
        merged own key (drop (i + 1) ids) (map (λ x. x.sent) (scans f start (drop (i + 1) ids) new)) after ≡ all
    merged_next here put_there so_far =
        let rest : List Sent = map (λ x. x.sent) (scans f start (drop (i + 1) ids) new) in
        ap (merged own key (drop (i + 1) ids) rest)
        (put_there ∙ ap (λ t. set before (v - own) (with_sent key t (get_or before (v - own) []))) here)
        ∙ sym (ap (λ us. merged own key us (map (λ x. x.sent) (scans f start (drop i ids) now)) before) front
        ∙ ap (λ xs. merged own key (v ∷ drop (i + 1) ids) (map (λ x. x.sent) xs) before) scans_next)
        ∙ so_far

-- when no vertex is left
module _ (f : ℕ → LoopState → Scanned) (start : ℕ) (ids : List ℕ) (i : ℕ) (now : List LoopState)
    (past : length ids ≤ i) where
  none_left : drop i ids ≡ []
  none_left = drop_all i ids past

  pub left_all : states_left f start (drop i ids) now ≡ now
  left_all = ap (λ us. states_left f start us now) none_left

  pub scans_all : scans f start (drop i ids) now ≡ []
  scans_all = ap (λ us. scans f start us now) none_left

  pub reads_all : (edges : List Edge) (first : List LoopState) (counts : List ℕ) → length counts ≤ i →
      Walking f edges start ids i first now counts →
      zip_with (read_first edges) ids counts ≡ map (λ x. x.reads) (scans f start ids first)
  reads_all edges first counts few so_far =
      let g : ℕ → ℕ → List ℕ = read_first edges in
      sym (append-nil (zip_with g ids counts))
      ∙ ap (λ us. zip_with g us counts ++ []) (sym (take_all i ids past))
      ∙ ap (λ cs. zip_with g (take i ids) cs ++ []) (sym (take_all i counts few))
      ∙ ap (λ xs. zip_with g (take i ids) (take i counts) ++ map (λ x. x.reads) xs) (sym scans_all)
      ∙ so_far.reads

-- of no vertex before a place were more read than it has
module _ (most : ℕ → ℕ) (counts : List ℕ) (i count : ℕ) where
  pub few_more : i < length counts → count ≤ most i → ((k : ℕ) → k < i → get_or counts k 0 ≤ most k) → (k : ℕ) →
      k < i + 1 → get_or (set counts i count) k 0 ≤ most k
  few_more lt le so_far k within =
      ⊎_elim
      (λ (here : k ≡ i).
      subst (λ (j : ℕ). get_or (set counts i count) j 0 ≤ most j) (sym here)
      (subst (λ (n : ℕ). n ≤ most i) (sym (get_or-set_same counts i count 0 lt)) le))
      (λ (other : k ≡ i → ⊥).
      subst (λ (n : ℕ). n ≤ most k) (sym (get_or-set_other counts i k count 0 other)) (so_far k (omega arith)))
      (cases_eq k i)

-- the partials of a vertex stay as many
module _ (width key place : ℕ) (told : Sent) (now new : Rows Partial) where
  pub each_more :
      new ≡ record now { rows = set now.rows place (with_sent key told (get_or now.rows place [])) } →
      place < length now.rows → All (λ ps. length ps ≡ width) now.rows → All (λ ps. length ps ≡ width) new.rows
  each_more put lt each =
      let row : List Partial = get_or now.rows place [] in
      subst (λ (p : Rows Partial). All (λ ps. length ps ≡ width) p.rows) (sym put)
      (All-set (λ ps. length ps ≡ width) now.rows place (with_sent key told row)
      (length-with_values key (told.values ++ told.operands) row ∙ each place [] lt) each)
