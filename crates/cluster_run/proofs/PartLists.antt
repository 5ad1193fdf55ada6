-- The parts of a run, as they are handed in and as plain data.
use Rattle.std.proofs.Common.{◌≡◌, ℕ, zero, suc, ◌+◌, ◌<◌, ◌≤◌, List, [], ◌∷◌, ◌++◌, length, map, get_or, append-nil, refl, ap, sym, ◌∙◌, subst, arith, ⊎_elim}
use mathlib.Core.List.{reverse}
use Rattle.std.specs.List.{All}
use Rattle.std.proofs.lemmas.Bool.{cases_lt}
use Rattle.std.proofs.lemmas.List.Elements.{All-map}
use Rattle.instrument.specs.declared.split.Split.{Split}
use Rattle.vert_base.specs.Letters.{Letter}
use Rattle.symple_face.specs.Cluster.{IsOneRun, World, first_world, restarted_world}
use Rattle.symple_face.specs.Restarts.{IsRestartLawful, IsStart}
use Rattle.cluster_run.specs.Driven.{IsFirst, IsReached, again, anew, world_of}
use Rattle.cluster_run.proofs.Restarted.{is_restarted}
use Rattle.symple_face.specs.declared.part.Part.{Part}
use Rattle.symple_face.specs.Lawful.{CanRun}
use Rattle.symple_face.specs.Parts.{PlainPart}
use Rattle.symple_face.specs.PartViews.{plain_of}
use Rattle.symple_face.specs.State.{State}
use Rattle.symple_face.specs.Work.{PlainStart, Work}

abbrev pub RunsOn : Part → Type 0
RunsOn part = CanRun (plain_of part) part.split.value

-- the machine that is made of a part
abbrev pub made : (PlainPart → Split → State) → Part → State
made make part = make (plain_of part) part.split.value

same_item : {X : Type 0} → (xs : List X) (k : ℕ) (d e : X) → k < length xs → get_or xs k d ≡ get_or xs k e
same_item [] k d e lt = absurd (omega arith)
same_item (x ∷ xs) zero d e lt = refl
same_item (x ∷ xs) (suc k) d e lt = same_item xs k d e (omega arith)

-- what holds of the first of some elements holds of one element more
module _ {X : Type 0} (P : X → Type 0) (xs : List X) (i : ℕ) (x : X) where
  pub one_more : i < length xs → x ≡ get_or xs i x → P x → ((k : ℕ) (d : X) → k < i → P (get_or xs k d)) →
      (k : ℕ) (d : X) → k < i + 1 → P (get_or xs k d)
  one_more within is holds before k d lt =
      ⊎_elim
      (λ (early : k < i). before k d early)
      (λ (late : i ≤ k).
      let same : i ≡ k = omega arith in
      subst (λ j. P (get_or xs j d)) same (subst P (is ∙ same_item xs i x d within) holds))
      (cases_lt k i)

pub made_is : (make : PlainPart → Split → State) (split : Split) (ps : List Part) →
    All (λ part. part.split.value ≡ split) ps → map (made make) ps ≡ map (λ part. make part split) (map plain_of ps)
made_is make split [] all = refl
made_is make split (p ∷ ps) all =
    let head : p.split.value ≡ split = all 0 p (omega arith) in
    ap (λ q. make (plain_of p) q ∷ map (made make) ps) head
    ∙ ap (λ ss. make (plain_of p) split ∷ ss) (made_is make split ps (λ k d lt. all (suc k) d (omega arith)))

-- what holds of each part with its own program holds of it with the one of all
pub all_plain : (P : PlainPart → Split → Type 0) (split : Split) (ps : List Part) →
    All (λ part. P (plain_of part) part.split.value) ps → All (λ part. part.split.value ≡ split) ps →
    All (λ part. P part split) (map plain_of ps)
all_plain P split ps all same =
    All-map (λ part. P part split) plain_of ps
    (λ k d lt. subst (λ q. P (plain_of (get_or ps k d)) q) (same k d lt) (all k d lt))

-- what holds of each part holds of the first one, and of each of the rest
pub first_holds : (P : Part → Type 0) (ps rest : List Part) (p : Part) → ps ≡ p ∷ rest → All P ps → P p
first_holds P ps rest p is all = (subst (All P) is all) 0 p (omega arith)

pub rest_holds : (P : Part → Type 0) (ps rest : List Part) (p : Part) → ps ≡ p ∷ rest → All P ps → All P rest
rest_holds P ps rest p is all = λ k d lt. (subst (All P) is all) (suc k) d (omega arith)

put_behind : {X : Type 0} → (state : X → State) (xs : List X) (x : X) (ss : List State) →
    map state (xs ++ x ∷ []) ++ ss ≡ map state xs ++ state x ∷ ss
put_behind state [] x ss = refl
put_behind state (y ∷ xs) x ss = ap (λ zs. state y ∷ zs) (put_behind state xs x ss)

-- a machine more is made of the first part
module _ {X : Type 0} (state : X → State) (make : PlainPart → Split → State) (xs ys : List X) (x : X)
    (ps rest : List Part) (p : Part) where
  pub one_made : ps ≡ p ∷ rest → state x ≡ made make p → ys ≡ xs ++ x ∷ [] →
      map state ys ++ map (made make) rest ≡ map state xs ++ map (made make) ps
  one_made first is grown =
      ap (λ zs. map state zs ++ map (made make) rest) grown
      ∙ put_behind state xs x (map (made make) rest)
      ∙ ap (λ s. map state xs ++ s ∷ map (made make) rest) is
      ∙ ap (λ qs. map state xs ++ map (made make) qs) (sym first)

all_made : (make : PlainPart → Split → State) (left : List Part) (ss made_ones : List State) → length left ≡ 0 →
    ss ++ map (made make) (reverse left) ≡ made_ones → ss ≡ made_ones
all_made make [] ss made_ones none is = sym (append-nil ss) ∙ is
all_made make (p ∷ left) ss made_ones none is = absurd (omega arith)

-- all machines are made, and nothing is under way: this is the first world
module _ {X : Type 0} (state : X → State) (make : PlainPart → Split → State) (split : Split)
    (ps left : List Part) (xs : List X) (flight : List Letter) where
  pub begins : length left ≡ 0 → map state xs ++ map (made make) (reverse left) ≡ map (made make) ps →
      All (λ part. part.split.value ≡ split) ps → flight ≡ [] →
      world_of state xs flight ≡ (let w : World = record {
        sites = map (λ part. make part split) (map plain_of
            ps);
        under_way = [];
      } in w)
  begins none is same empty =
      ap (world_of state xs) empty
      ∙ ap (λ ss. (let w : World = record { sites = ss; under_way = [] } in w))
      (all_made make left (map state xs) (map (made make) ps) none is ∙ made_is make split ps same)

-- and it is reached
module _ (work : Work) (sound : State → Type 0) (split : Split) (ps : List Part) (first w : World) where
  reached_first : IsOneRun (map plain_of ps) → All (λ part. CanRun part split) (map plain_of ps) →
      IsFirst work sound split (map plain_of ps) first → w ≡ first → IsReached work sound w
  reached_first one runs is_first is = record {
    split = split;
    parts = map plain_of ps;
    one_run = one;
    can_run = runs;
    first = first;
    is_first = is_first;
    events = [];
    were_possible = refl;
    here = is;
  }

module _ (work : Work) (sound : State → Type 0) (split : Split) (ps : List Part) (w : World) where
  pub anew_reached : IsOneRun (map plain_of ps) → All RunsOn ps → All (λ part. part.split.value ≡ split) ps →
      w ≡ first_world work split (map plain_of ps) → IsReached work sound w
  anew_reached one runs same is =
      reached_first work sound split ps (first_world work split (map plain_of ps)) w one
      (all_plain CanRun split ps runs same) (anew refl) is

module _ (work : Work) (sound : State → Type 0) (restarts : IsRestartLawful work sound) (split : Split)
    (ps : List Part) (start : PlainStart) (w : World) where
  pub again_reached : IsOneRun (map plain_of ps) → All RunsOn ps →
      All (λ part. IsStart (plain_of part) part.split.value start) ps →
      All (λ part. part.split.value ≡ split) ps → w ≡ restarted_world work split (map plain_of ps) start →
      IsReached work sound w
  again_reached one runs starts same is =
      let can_run = all_plain CanRun split ps runs same in
      reached_first work sound split ps (restarted_world work split (map plain_of ps) start) w one can_run
      (again start.round start.ruling
      (is_restarted work sound restarts split (map plain_of ps) one can_run start
      (all_plain (λ part program. IsStart part program start) split ps starts same)))
      is
