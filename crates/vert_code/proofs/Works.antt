-- What the code of expressions and statements does, before any rest.
use Rattle.std.proofs.Common.{◌≡◌, ℕ, ℤ, ◌+◌, Bool, true, false, List, [], ◌∷◌, ◌++◌, length, refl, sym, ap, ◌∙◌, arith, append_assoc, length-append}
use Rattle.std.specs.Prelude.{if◌then◌else◌}
use Rattle.vert_eval.specs.declared.environment.Env.{Env}
use Rattle.vert_eval.specs.declared.environment.Flow.{Flow}
use Rattle.vert_eval.specs.declared.environment.Flow.TheVariants.{Going, Broke}
use Rattle.slot_merge.specs.Combine.{Emission}
use Rattle.vert_eval.specs.Runs.{Act, Ran, after, followed_by, leaves}
use Rattle.vert_eval.specs.Words.{is_set}
use Rattle.vert_eval.proofs.RunLaws.{after_followed, after_assoc, followed_assoc}
use Rattle.vert_code.specs.declared.instr.Instr.{Instr}
use Rattle.vert_code.specs.declared.instr.Instr.TheVariants.{Jump, JumpUnless}
use Rattle.vert_code.specs.Listing.{Piece, choice, just, nothing, only_if, chain}
use Rattle.vert_code.specs.Machine.{goes_on, passed, step, top, under}

-- what is left to do, with a stack and an environment
abbrev pub Rest : Type 0
Rest = List ℤ → Act

-- what a piece does before any rest
pub record Works (p : Piece) (k : Rest → Rest) : Type 0 where
  pub works : (place : ℕ) (rest : List Instr) →
      goes_on place (p place ++ rest) 0 ≡ k (goes_on (place + length (p place)) rest 0)

-- it leaves a value on the stack
abbrev pub value : (Env → ℤ) → Rest → Rest
value v k stack env = k (v env ∷ stack) env

-- it acts, and the rest follows unless it broke
abbrev pub acts : Act → Rest → Rest
acts f k stack env = followed_by (f env) (k stack)

-- passing over a list
pub passed_over : (xs : List Instr) (place : ℕ) (rest : List Instr) (n : ℕ) → n ≡ length xs →
    goes_on place (xs ++ rest) n ≡ goes_on (place + length xs) rest 0
passed_over [] place rest n e =
    ap (λ (k : ℕ). goes_on place rest k) e
    ∙ (let same : place ≡ place + 0 = omega arith in ap (λ (q : ℕ). goes_on q rest 0) same)
passed_over (x ∷ xs) place rest n e =
    let same : place + 1 + length xs ≡ place + length (x ∷ xs) = omega arith in
    ap (λ (k : ℕ). goes_on place (x ∷ (xs ++ rest)) k) e
    ∙ passed_over xs (place + 1) rest (length xs) refl
    ∙ ap (λ (q : ℕ). goes_on q rest 0) same

-- the same with other words for what it does
pub works_as : (p : Piece) (k l : Rest → Rest) →
    ((r : Rest) (stack : List ℤ) (env : Env) → k r stack env ≡ l r stack env) → Works p k → Works p l
works_as p k l same w = record {
  works = λ place rest. w.works place rest
      ∙ (λ i. λ stack env. same (goes_on (place + length (p place)) rest 0) stack env i);
}

-- one instruction, and what follows it
abbrev pub stepped : Instr → ℕ → (ℕ → Rest) → Rest
stepped i place next stack env = let s = step i place stack env in followed_by s.ran (next s.over s.stack)

pub works_just : (i : Instr) (k : Rest → Rest) →
    ((place : ℕ) (next : ℕ → Rest) → (λ stack env. stepped i place next stack env) ≡ k (next 0)) → Works (just i) k
works_just i k does = record { works = λ place rest. does place (goes_on (place + 1) rest) }

pub works_nothing : Works nothing (λ r. r)
works_nothing = record {
  works = λ place rest.
      let same : place ≡ place + 0 = omega arith in ap (λ (q : ℕ). goes_on q rest 0) same;
}

pub works_chain : (p q : Piece) (k l : Rest → Rest) → Works p k → Works q l → Works (chain p q) (λ r. k (l r))
works_chain p q k l v w = record {
  works = λ place rest.
      let one = p place in
      let between = place + length one in
      let two = q between in
      let same : between + length two ≡ place + length (one ++ two) = omega (arith, length-append one two) in
      ap (λ (xs : List Instr). goes_on place xs 0) (append_assoc one two rest)
      ∙ v.works place (two ++ rest)
      ∙ ap k (w.works between rest)
      ∙ ap (λ (n : ℕ). k (l (goes_on n rest 0))) same;
}

-- the test decides which way is gone
abbrev pub fork : (Rest → Rest) → (Rest → Rest) → Rest → Rest
fork k l r stack env = if is_set (top stack) then k r (under stack) env else l r (under stack) env

-- a number of instructions to pass over that a test decides
either : (b : Bool) (next : ℕ → Rest) (n : ℕ) (stack : List ℤ) (env : Env) →
    next (if b then 0 else n) stack env ≡ (if b then next 0 stack env else next n stack env)
either true next n stack env = refl
either false next n stack env = refl

abbrev ways : Rest → Rest → Rest
ways f g stack env = if is_set (top stack) then f (under stack) env else g (under stack) env

module _ (t p q : Piece) (j k l : Rest → Rest) where
  pub works_choice : Works t j → Works p k → Works q l → Works (choice t p q) (λ r. j (fork k l r))
  works_choice u v w = record {
    works = λ place rest.
        let tested = t place in
        let here = place + length tested in
        let branch = p (here + 1) in
        let there = here + 1 + length branch in
        let second = there + 1 in
        let other = q second in
        let end = second + length other in
        let behind = other ++ rest in
        let all = tested ++ JumpUnless second ∷ (branch ++ Jump end ∷ other) in
        let flat : all ++ rest ≡ tested ++ JumpUnless second ∷ (branch ++ Jump end ∷ behind) = simp append_assoc in
        let over_other : passed there end ≡ length other = omega arith in
        let over_branch : passed here second ≡ length (branch ++ Jump end ∷ []) =
        omega (arith, length-append branch (Jump end ∷ [])) in
        let held : goes_on (here + 1) (branch ++ Jump end ∷ behind) 0 ≡ k (goes_on end rest 0) =
        v.works (here + 1) (Jump end ∷ behind) ∙ ap k (passed_over other second rest (passed there end) over_other) in
        let to_second : here + 1 + length (branch ++ Jump end ∷ []) ≡ second =
        omega (arith, length-append branch (Jump end ∷ [])) in
        let otherwise : goes_on (here + 1) (branch ++ Jump end ∷ behind) (passed here second) ≡ l (goes_on end rest
        0) =
        ap (λ (xs : List Instr). goes_on (here + 1) xs (passed here second))
        (sym (append_assoc branch (Jump end ∷ []) behind))
        ∙ passed_over (branch ++ Jump end ∷ []) (here + 1) behind (passed here second) over_branch
        ∙ ap (λ (n : ℕ). goes_on n behind 0) to_second
        ∙ w.works second rest in
        let same : end ≡ place + length all =
        omega (
          arith,
          length-append tested (JumpUnless second ∷ (branch ++ Jump end ∷ other)),
          length-append branch (Jump end ∷ other),
        ) in
        ap (λ (xs : List Instr). goes_on place xs 0) flat
        ∙ u.works place (JumpUnless second ∷ (branch ++ Jump end ∷ behind))
        ∙ ap j (λ i. λ stack env. either (is_set (top stack)) (goes_on (here + 1) (branch ++ Jump end ∷ behind))
        (passed here second) (under stack) env i)
        ∙ ap (λ (f : Rest). j (ways f (goes_on (here + 1) (branch ++ Jump end ∷ behind) (passed here second)))) held
        ∙ ap (λ (g : Rest). j (ways (k (goes_on end rest 0)) g)) otherwise
        ∙ ap (λ (n : ℕ). j (fork k l (goes_on n rest 0))) same;
  }

pub works_only_if : (t p : Piece) (j k : Rest → Rest) → Works t j → Works p k →
    Works (only_if t p) (λ r. j (fork k (λ s. s) r))
works_only_if t p j k u v = record {
  works = λ place rest.
      let tested = t place in
      let here = place + length tested in
      let branch = p (here + 1) in
      let end = here + 1 + length branch in
      let all = tested ++ JumpUnless end ∷ branch in
      let over_branch : passed here end ≡ length branch = omega arith in
      let same : end ≡ place + length all = omega (arith, length-append tested (JumpUnless end ∷ branch)) in
      ap (λ (xs : List Instr). goes_on place xs 0) (append_assoc tested (JumpUnless end ∷ branch) rest)
      ∙ u.works place (JumpUnless end ∷ (branch ++ rest))
      ∙ ap j (λ i. λ stack env. either (is_set (top stack)) (goes_on (here + 1) (branch ++ rest)) (passed here end)
      (under stack) env i)
      ∙ ap (λ (f : Rest). j (ways f (goes_on (here + 1) (branch ++ rest) (passed here end)))) (v.works (here + 1) rest)
      ∙ ap (λ (g : Rest). j (ways (k (goes_on end rest 0)) g))
      (passed_over branch (here + 1) rest (passed here end) over_branch)
      ∙ ap (λ (n : ℕ). j (fork k (λ s. s) (goes_on n rest 0))) same;
}

-- ---- values
value_if : (b : Bool) (x y : ℤ) (r : Rest) (stack : List ℤ) (env : Env) →
    (if b then r (x ∷ stack) env else r (y ∷ stack) env) ≡ r ((if b then x else y) ∷ stack) env
value_if true x y r stack env = refl
value_if false x y r stack env = refl

module _ (t p q : Piece) (test v w : Env → ℤ) where
  pub choice_value : Works t (value test) → Works p (value v) → Works q (value w) →
      Works (choice t p q) (value (λ env. if is_set (test env) then v env else w env))
  choice_value a b c =
      works_as (choice t p q) (λ r. value test (fork (value v) (value w) r))
      (value (λ env. if is_set (test env) then v env else w env))
      (λ r stack env. value_if (is_set (test env)) (v env) (w env) r stack env)
      (works_choice t p q (value test) (value v) (value w) a b c)

act_if : (b : Bool) (f g : Ran) (r : Act) → (if b then followed_by f r else followed_by g r)
    ≡ followed_by (if b then f else g) r
act_if true f g r = refl
act_if false f g r = refl

pub chain_acts : (p q : Piece) (f g : Act) → Works p (acts f) → Works q (acts g) →
    Works (chain p q) (acts (λ env. followed_by (f env) g))
chain_acts p q f g v w =
    works_as (chain p q) (λ r. acts f (acts g r)) (acts (λ env. followed_by (f env) g))
    (λ r stack env. let one = f env in followed_assoc one.env one.emitted one.reads one.flow g (r stack))
    (works_chain p q (acts f) (acts g) v w)

module _ (t p q : Piece) (test : Env → ℤ) (f g : Act) where
  pub choice_acts : Works t (value test) → Works p (acts f) → Works q (acts g) →
      Works (choice t p q) (acts (λ env. if is_set (test env) then f env else g env))
  choice_acts a b c =
      works_as (choice t p q) (λ r. value test (fork (acts f) (acts g) r))
      (acts (λ env. if is_set (test env) then f env else g env))
      (λ r stack env. act_if (is_set (test env)) (f env) (g env) (r stack))
      (works_choice t p q (value test) (acts f) (acts g) a b c)

pub only_if_acts : (t p : Piece) (test : Env → ℤ) (f : Act) → Works t (value test) → Works p (acts f) →
    Works (only_if t p) (acts (λ env. if is_set (test env) then f env else leaves env))
only_if_acts t p test f a b =
    works_as (only_if t p) (λ r. value test (fork (acts f) (λ s. s) r))
    (acts (λ env. if is_set (test env) then f env else leaves env))
    (λ r stack env. act_if (is_set (test env)) (f env) (leaves env) (r stack))
    (works_only_if t p (value test) (acts f) a b)

pub nothing_acts : Works nothing (acts leaves)
nothing_acts = record { works = works_nothing.works }
