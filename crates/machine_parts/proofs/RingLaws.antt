-- Ring states as they are spelled, one after another.
use Rattle.std.proofs.Common.{◌≡◌, ℕ, suc, ℤ, ◌-◌, ◌⊎◌, inl, inr, ◌+◌, ◌<◌, ◌≤◌, List, [], ◌∷◌, ◌++◌, length, get_or, set, map, take, drop, refl, sym, ap, ◌∙◌, arith}
use Rattle.std.specs.List.{flat_map}
use Rattle.std.proofs.lemmas.List.{append-nil, append_assoc, drop_all, drop_more, get_or-set_same, length-set, set-get_or, set-set, take_all, take_more_set}
use Rattle.dep_layout.specs.declared.state.Mark.{Mark}
use Rattle.dep_layout.specs.declared.state.Mark.TheVariants.{Fresh, Running, Broken}
use Rattle.dep_layout.specs.Judgement.{word_of, words_in}
use Rattle.dep_layout.specs.Spelling.{State, mark_of, sent_bytes}
use Rattle.dep_layout.specs.Reading.{mark_with, state_with, states_in, words_behind}
use Rattle.dep_layout.proofs.LoopLaws.{state_step}
use Rattle.machine_parts.specs.Flat.{StateTable, fresh_state, state_at, states_with}

-- the marks of states are those that they are made of
pub marks_in : (marks : List Mark) (lists : List (List ℤ)) → length lists ≡ length marks →
    map mark_of (states_with marks lists) ≡ marks
marks_in [] lists e = refl
marks_in (m ∷ marks) [] e = absurd (omega arith)
marks_in (m ∷ marks) (ws ∷ lists) e = ap (λ ms. m ∷ ms) (marks_in marks lists (omega arith))

-- what is sent of one vertex more is written
module _ (bytes new : List ℕ) (states : List State) (i : ℕ) (state : State) (whole : List ℕ) where
  pub sent_more : i < length states → state ≡ state_at states i → new ≡ bytes ++ sent_bytes state →
      bytes ++ flat_map sent_bytes (drop i states) ≡ whole →
      new ++ flat_map sent_bytes (drop (i + 1) states) ≡ whole
  sent_more within read pushed all =
      let rest = flat_map sent_bytes (drop (i + 1) states) in
      ap (λ front. front ++ rest) pushed
      ∙ append_assoc bytes (sent_bytes state) rest
      ∙ ap (λ s. bytes ++ (sent_bytes s ++ rest)) read
      ∙ sym (ap (λ ss. bytes ++ flat_map sent_bytes ss) (drop_more states i (fresh_state 0) within))
      ∙ all

-- one state more is read
module _ (width : ℕ) (pairs : List ℕ) (i : ℕ) (states new : List State) (mark : Mark) (rest others : List ℕ)
    (whole : List State) where
  pub read_more : i < length pairs → i < length states → mark ≡ mark_with (get_or pairs i 0) →
      new ≡ set states i (state_with width mark rest) → others ≡ words_behind width mark rest →
      take i states ++ states_in width (drop i pairs) rest ≡ whole →
      take (i + 1) new ++ states_in width (drop (i + 1) pairs) others ≡ whole
  read_more within inside here put behind all =
      let one = state_with width mark rest in
      let left = states_in width (drop (i + 1) pairs) others in
      ap (λ ss. take (i + 1) ss ++ left) put
      ∙ ap (λ ss. ss ++ left) (take_more_set states i one inside)
      ∙ state_step width pairs i (take i states) one rest others whole within
      (ap (λ m. state_with width m rest) here)
      (behind ∙ ap (λ m. words_behind width m rest) here) all

-- all states are read
module _ (width : ℕ) (pairs : List ℕ) (i : ℕ) (states : List State) (rest : List ℕ) (whole : List State) where
  pub read_done : length pairs ≤ i → length states ≤ i →
      take i states ++ states_in width (drop i pairs) rest ≡ whole → states ≡ whole
  read_done within inside all =
      sym (take_all i states inside)
      ∙ sym (append-nil (take i states))
      ∙ sym (ap (λ ps. take i states ++ states_in width ps rest) (drop_all i pairs within))
      ∙ all

-- the loop of a started vertex has begun
pub not_fresh : {X : Type 0} (mark : Mark) → (mark ≡ Running) ⊎ (mark ≡ Broken) → mark ≡ Fresh → X
not_fresh Fresh (inl e) fresh = absurd (cc)
not_fresh Fresh (inr e) fresh = absurd (cc)
not_fresh Running which fresh = absurd (cc)
not_fresh Broken which fresh = absurd (cc)

-- ---- words laid into a row
-- one word more stands in the row
module _ (width column : ℕ) (row new : List ℤ) (word : ℤ) (rest others : List ℕ) (whole : List ℤ) where
  pub laid_more : column < width → length row ≡ width → new ≡ set row column word →
      word ≡ word_of (take 8 rest) → others ≡ drop 8 rest →
      take column row ++ words_in (width - column) rest ≡ whole →
      take (column + 1) new ++ words_in (width - (column + 1)) others ≡ whole
  laid_more within wide put is behind all =
      let left = width - (column + 1) in
      let one : width - column ≡ suc left = omega arith in
      let front : take (column + 1) new ≡ take column row ++ word ∷ [] =
      ap (take (column + 1)) put ∙ take_more_set row column word (omega arith) in
      let here : word ∷ words_in left others ≡ words_in (suc left) rest = λ i. is i ∷ words_in left (behind i) in
      ap (λ ws. ws ++ words_in left others) front
      ∙ append_assoc (take column row) (word ∷ []) (words_in left others)
      ∙ ap (λ ws. take column row ++ ws) (here ∙ ap (λ k. words_in k rest) (sym one))
      ∙ all

-- a row that is put where one was put stands alone there
pub put_again : {X : Type 0} (first now new : List (List X)) (place : ℕ) (row : List X) → place < length first
    → now ≡ set first place (get_or now place []) → new ≡ set now place row
    → new ≡ set first place (get_or new place [])
put_again first now new place row within so_far put =
    let inside : place < length (set first place (get_or now place [])) =
    omega (arith, length-set first place (get_or now place [])) in
    let all : new ≡ set first place row =
    put ∙ ap (λ xs. set xs place row) so_far ∙ set-set first place (get_or now place []) row in
    all ∙ ap (set first place) (sym (ap (λ xs. get_or xs place []) all ∙ get_or-set_same first place row [] within))

-- a state that is fresh already is read as it stands
pub fresh_stays : (half : StateTable) (place : ℕ) (mark : Mark) (words : List ℕ) → mark ≡ Fresh
    → state_at half.states place ≡ fresh_state half.width
    → half ≡ record half { states = set half.states place (state_with half.width mark words) }
fresh_stays half place mark words fresh here =
    let one : state_at half.states place ≡ state_with half.width mark words =
    here ∙ ap (λ m. state_with half.width m words) (sym fresh) in
    ap (λ ss. let t : StateTable = record half { states = ss } in t)
    (sym (set-get_or half.states place (fresh_state 0)) ∙ ap (set half.states place) one)
