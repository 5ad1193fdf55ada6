-- The heights of the stack along the code of expressions and statements, before any rest.
use Rattle.std.proofs.Common.{◌≡◌, ℕ, ◌+◌, ◌-◌, ◌<◌, ◌≤◌, true, ◌&&◌, List, [], ◌∷◌, ◌++◌, length, refl, sym, ap, ◌∙◌, subst, arith, append_assoc, length-append}
use Rattle.std.specs.Prelude.{◌==◌, nat_le, nat_lt, slice_index}
use Rattle.std.proofs.lemmas.Bool.{eq-eqb, le-leb, lt-ltb}
use Rattle.std.specs.Cmp.Derive.{both_true}
use Rattle.vert_code.specs.declared.instr.Instr.{Instr}
use Rattle.vert_code.specs.declared.instr.Instr.TheVariants.{Jump, JumpUnless}
use Rattle.vert_code.specs.Listing.{Piece, chain, choice, just, nothing, only_if}
use Rattle.vert_code.specs.Machine.{passed}
use Rattle.vert_code.specs.Valid.{Way, Onward, Leap, Fork, height_before, heights, is_level, leads_well, way_of}

-- a list that is entered at a place with this height, and is level from there on
pub record Level (place height : ℕ) (list : List Instr) : Type 0 where
  pub entry : slice_index (heights place list) 0 ≡ height
  pub level : is_level place list ≡ true

pub length-heights : (list : List Instr) (place : ℕ) → length (heights place list) ≡ length list + 1
length-heights [] place = refl
length-heights (i ∷ rest) place = omega (arith, length-heights rest (place + 1))

-- the height behind a list
pub heights_over : (xs : List Instr) (place : ℕ) (rest : List Instr) (n : ℕ) → n ≡ length xs →
    slice_index (heights place (xs ++ rest)) n ≡ slice_index (heights (place + length xs) rest) 0
heights_over [] place rest n e =
    ap (λ (k : ℕ). slice_index (heights place rest) k) e
    ∙ (let same : place ≡ place + 0 = omega arith in ap (λ (q : ℕ). slice_index (heights q rest) 0) same)
heights_over (x ∷ xs) place rest n e =
    let same : place + 1 + length xs ≡ place + length (x ∷ xs) = omega arith in
    ap (λ (k : ℕ). slice_index (heights place (x ∷ (xs ++ rest))) k) e
    ∙ heights_over xs (place + 1) rest (length xs) refl
    ∙ ap (λ (q : ℕ). slice_index (heights q rest) 0) same

module _ (place height : ℕ) (i : Instr) (rest : List Instr) (w : Way) where
  level_at : way_of i ≡ w → height ≤ 64 → height_before w place (heights (place + 1) rest) ≡ height →
      leads_well w place height (heights (place + 1) rest) ≡ true → is_level (place + 1) rest ≡ true →
      Level place height (i ∷ rest)
  level_at way low entry well level =
      let at : slice_index (heights place (i ∷ rest)) 0 ≡ height =
      ap (λ (v : Way). height_before v place (heights (place + 1) rest)) way ∙ entry in
      let ok : leads_well (way_of i) place (slice_index (heights place (i ∷ rest)) 0) (heights (place + 1) rest) ≡
      true =
      ap (λ (h : ℕ). leads_well (way_of i) place h (heights (place + 1) rest)) at
      ∙ ap (λ (v : Way). leads_well v place height (heights (place + 1) rest)) way
      ∙ well in
      record {
        entry = at;
        level = both_true (ap (λ (h : ℕ). nat_le h 64) at ∙ le-leb height 64 low) (both_true ok level);
      }

-- an instruction that takes and gives values
module _ (i : Instr) (takes gives place base height next : ℕ) (rest : List Instr) where
  pub level_onward : way_of i ≡ Onward takes gives → height ≡ base + takes → next ≡ base + gives → height ≤ 64 →
      Level (place + 1) next rest → Level place height (i ∷ rest)
  level_onward way eh en low l =
      let behind = heights (place + 1) rest in
      let first : slice_index behind 0 ≡ next = l.entry in
      let entry : slice_index behind 0 + takes - gives ≡ height = omega arith in
      let room : takes ≤ height = omega arith in
      let fits : slice_index behind 0 ≡ height - takes + gives = omega arith in
      level_at place height i rest (Onward takes gives) way low entry
      (both_true (le-leb takes height room) (eq-eqb (slice_index behind 0) (height - takes + gives) fits)) l.level

-- the target of a jump
target_fits : (place target n height : ℕ) (rest : List Instr) → target ≡ place + 1 + n → n ≤ length rest →
    slice_index (heights (place + 1) rest) n ≡ height →
    (nat_lt place target && (nat_lt (passed place target) (length (heights (place + 1) rest))
    && (slice_index (heights (place + 1) rest) (passed place target) == height))) ≡ true
target_fits place target n height rest e within at =
    let above : place < target = omega arith in
    let over : passed place target ≡ n = omega arith in
    let room : passed place target < length (heights (place + 1) rest) =
    omega (arith, length-heights rest (place + 1)) in
    both_true (lt-ltb place target above)
    (both_true (lt-ltb (passed place target) (length (heights (place + 1) rest)) room)
    (eq-eqb _ height (ap (λ (k : ℕ). slice_index (heights (place + 1) rest) k) over ∙ at)))

module _ (place target n height : ℕ) (rest : List Instr) where
  pub level_jump : target ≡ place + 1 + n → n ≤ length rest → height ≤ 64 →
      slice_index (heights (place + 1) rest) n ≡ height → is_level (place + 1) rest ≡ true →
      Level place height (Jump target ∷ rest)
  level_jump e within low at level =
      let over : passed place target ≡ n = omega arith in
      level_at place height (Jump target) rest (Leap target) refl low
      (ap (λ (k : ℕ). slice_index (heights (place + 1) rest) k) over ∙ at)
      (target_fits place target n height rest e within at) level

module _ (place target n height next : ℕ) (rest : List Instr) where
  pub level_fork : target ≡ place + 1 + n → n ≤ length rest → height ≡ next + 1 → height ≤ 64 →
      slice_index (heights (place + 1) rest) n ≡ next → Level (place + 1) next rest →
      Level place height (JumpUnless target ∷ rest)
  level_fork e within up low at l =
      let behind = heights (place + 1) rest in
      let first : slice_index behind 0 ≡ next = l.entry in
      let down : next ≡ height - 1 = omega arith in
      let entry : slice_index behind 0 + 1 ≡ height = omega arith in
      let some : 1 ≤ height = omega arith in
      level_at place height (JumpUnless target) rest (Fork target) refl low entry
      (both_true (le-leb 1 height some)
      (both_true (eq-eqb (slice_index behind 0) (height - 1) (first ∙ down))
      (target_fits place target n (height - 1) rest e within (at ∙ down))))
      l.level

-- a piece that needs this much room above the stack, and leaves so many values on it
pub record Rises (p : Piece) (need up : ℕ) : Type 0 where
  pub rises : (place height next : ℕ) (rest : List Instr) → next ≡ height + up → height + need ≤ 64 →
      Level (place + length (p place)) next rest → Level place height (p place ++ rest)

pub rises_more : (p : Piece) (need more up : ℕ) → need ≤ more → Rises p need up → Rises p more up
rises_more p need more up le r = record {
  rises = λ place height next rest e room l.
      let low : height + need ≤ 64 = omega arith in r.rises place height next rest e low l;
}

pub rises_nothing : Rises nothing 0 0
rises_nothing = record {
  rises = λ place height next rest e room l.
      let same : place + 0 ≡ place = omega arith in
      let at : next ≡ height = omega arith in
      subst (λ (q : ℕ). Level q height rest) same (subst (λ (h : ℕ). Level (place + 0) h rest) at l);
}

-- an instruction that only gives a value
pub rises_just : (i : Instr) → way_of i ≡ Onward 0 1 → Rises (just i) 1 1
rises_just i way = record {
  rises = λ place height next rest e room l.
      let same : height ≡ height + 0 = omega arith in
      let low : height ≤ 64 = omega arith in
      level_onward i 0 1 place height height next rest way same e low l;
}

-- a value, and an instruction that takes it
pub rises_use : (p : Piece) (i : Instr) (need gives : ℕ) → way_of i ≡ Onward 1 gives → 1 ≤ need → Rises p need 1 →
    Rises (chain p (just i)) need gives
rises_use p i need gives way some r = record {
  rises = λ place height next rest e room l.
      let one = p place in
      let between = place + length one in
      let same : place + length (one ++ i ∷ []) ≡ between + 1 = omega (arith, length-append one (i ∷ [])) in
      let low : height + 1 ≤ 64 = omega arith in
      let last = level_onward i 1 gives between height (height + 1) next rest way refl e low
      (subst (λ (q : ℕ). Level q next rest) same l) in
      subst (Level place height) (sym (append_assoc one (i ∷ []) rest))
      (r.rises place height (height + 1) (i ∷ rest) refl room last);
}

-- two values, and an operator that takes them
module _ (p q : Piece) (i : Instr) (need_p need_q need : ℕ) where
  pub rises_pair : way_of i ≡ Onward 2 1 → 1 ≤ need_q → need_p ≤ need → need_q + 1 ≤ need → Rises p need_p 1 →
      Rises q need_q 1 → Rises (chain p (chain q (just i))) need 1
  rises_pair way some le_p le_q r s = record {
    rises = λ place height next rest e room l.
        let one = p place in
        let between = place + length one in
        let two = q between in
        let at = between + length two in
        let same : place + length (one ++ (two ++ i ∷ [])) ≡ at + 1 =
        omega (arith, length-append one (two ++ i ∷ []), length-append two (i ∷ [])) in
        let low : height + 2 ≤ 64 = omega arith in
        let low_p : height + need_p ≤ 64 = omega arith in
        let low_q : height + 1 + need_q ≤ 64 = omega arith in
        let up : height + 2 ≡ height + 1 + 1 = omega arith in
        let last = level_onward i 2 1 at height (height + 2) next rest way refl e low
        (subst (λ (n : ℕ). Level n next rest) same l) in
        let second = s.rises between (height + 1) (height + 2) (i ∷ rest) up low_q last in
        let first = r.rises place height (height + 1) (two ++ i ∷ rest) refl low_p second in
        let flat : (one ++ (two ++ i ∷ [])) ++ rest ≡ one ++ (two ++ i ∷ rest) = simp append_assoc in
        subst (Level place height) (sym flat) first;
  }

module _ (p q : Piece) (need_p need_q need : ℕ) where
  pub rises_chain : need_p ≤ need → need_q ≤ need → Rises p need_p 0 → Rises q need_q 0 →
      Rises (chain p q) need 0
  rises_chain le_p le_q r s = record {
    rises = λ place height next rest e room l.
        let one = p place in
        let between = place + length one in
        let two = q between in
        let same : place + length (one ++ two) ≡ between + length two = omega (arith, length-append one two) in
        let low_p : height + need_p ≤ 64 = omega arith in
        let low_q : height + need_q ≤ 64 = omega arith in
        let still : height ≡ height + 0 = omega arith in
        let second = s.rises between height next rest e low_q (subst (λ (n : ℕ). Level n next rest) same l) in
        subst (Level place height) (sym (append_assoc one two rest))
        (r.rises place height height (two ++ rest) still low_p second);
  }

module _ (t p q : Piece) (need_t need_p need_q need up : ℕ) where
  pub rises_choice : 1 ≤ need_t → need_t ≤ need → need_p ≤ need → need_q ≤ need → up ≤ need → Rises t need_t 1 →
      Rises p need_p up → Rises q need_q up → Rises (choice t p q) need up
  rises_choice some le_t le_p le_q le_up u r s = record {
    rises = λ place height next rest e room l.
        let tested = t place in
        let here = place + length tested in
        let branch = p (here + 1) in
        let there = here + 1 + length branch in
        let second = there + 1 in
        let other = q second in
        let end = second + length other in
        let behind = other ++ rest in
        let tail = branch ++ Jump end ∷ behind in
        let all = tested ++ JumpUnless second ∷ (branch ++ Jump end ∷ other) in
        let same : place + length all ≡ end =
        omega (
          arith,
          length-append tested (JumpUnless second ∷ (branch ++ Jump end ∷ other)),
          length-append branch (Jump end ∷ other),
        ) in
        let flat : all ++ rest ≡ tested ++ JumpUnless second ∷ tail = simp append_assoc in
        let low_t : height + need_t ≤ 64 = omega arith in
        let low_p : height + need_p ≤ 64 = omega arith in
        let low_q : height + need_q ≤ 64 = omega arith in
        let low_next : next ≤ 64 = omega arith in
        let low : height + 1 ≤ 64 = omega arith in
        let at_end = subst (λ (n : ℕ). Level n next rest) same l in
        let last = s.rises second height next rest e low_q at_end in
        let over : length other ≤ length behind = omega (arith, length-append other rest) in
        let leap = level_jump there end (length other) next behind refl over low_next
        (heights_over other second rest (length other) refl ∙ at_end.entry) last.level in
        let held = r.rises (here + 1) height next (Jump end ∷ behind) e low_p leap in
        let jumped : second ≡ here + 1 + (length branch + 1) = omega arith in
        let past : length branch + 1 ≤ length tail = omega (arith, length-append branch (Jump end ∷ behind)) in
        let front : length branch + 1 ≡ length (branch ++ Jump end ∷ []) =
        omega (arith, length-append branch (Jump end ∷ [])) in
        let to_second : here + 1 + length (branch ++ Jump end ∷ []) ≡ second =
        omega (arith, length-append branch (Jump end ∷ [])) in
        let lands : slice_index (heights (here + 1) tail) (length branch + 1) ≡ height =
        ap (λ (xs : List Instr). slice_index (heights (here + 1) xs) (length branch + 1))
        (sym (append_assoc branch (Jump end ∷ []) behind))
        ∙ heights_over (branch ++ Jump end ∷ []) (here + 1) behind (length branch + 1) front
        ∙ ap (λ (n : ℕ). slice_index (heights n behind) 0) to_second
        ∙ last.entry in
        let fork = level_fork here second (length branch + 1) (height + 1) height tail jumped past refl low lands
        held in
        subst (Level place height) (sym flat)
        (u.rises place height (height + 1) (JumpUnless second ∷ tail) refl low_t fork);
  }

module _ (t p : Piece) (need_t need_p need : ℕ) where
  pub rises_only_if : 1 ≤ need_t → need_t ≤ need → need_p ≤ need → Rises t need_t 1 → Rises p need_p 0 →
      Rises (only_if t p) need 0
  rises_only_if some le_t le_p u r = record {
    rises = λ place height next rest e room l.
        let tested = t place in
        let here = place + length tested in
        let branch = p (here + 1) in
        let end = here + 1 + length branch in
        let all = tested ++ JumpUnless end ∷ branch in
        let same : place + length all ≡ end = omega (arith, length-append tested (JumpUnless end ∷ branch)) in
        let low_t : height + need_t ≤ 64 = omega arith in
        let low_p : height + need_p ≤ 64 = omega arith in
        let low : height + 1 ≤ 64 = omega arith in
        let still : next ≡ height = omega arith in
        let at_end = subst (λ (n : ℕ). Level n next rest) same l in
        let held = r.rises (here + 1) height next rest e low_p at_end in
        let past : length branch ≤ length (branch ++ rest) = omega (arith, length-append branch rest) in
        let fork = level_fork here end (length branch) (height + 1) height (branch ++ rest) refl past refl low
        (heights_over branch (here + 1) rest (length branch) refl ∙ at_end.entry ∙ still) held in
        subst (Level place height) (sym (append_assoc tested (JumpUnless end ∷ branch) rest))
        (u.rises place height (height + 1) (JumpUnless end ∷ (branch ++ rest)) refl low_t fork);
  }

-- an instruction that leaves the stack as it is
pub rises_still : (i : Instr) → way_of i ≡ Onward 0 0 → Rises (just i) 0 0
rises_still i way = record {
  rises = λ place height next rest e room l.
      let same : height ≡ height + 0 = omega arith in
      let low : height ≤ 64 = omega arith in
      level_onward i 0 0 place height height next rest way same e low l;
}
