-- What holds of every state that possible events leave.
use Rattle.std.proofs.Common.{◌≡◌, ◌≢◌, ◌⊎◌, ℕ, ◌+◌, ◌*◌, ◌<◌, ◌≤◌, Bool, true, false, not, List, [], ◌∷◌, length, refl, ap, sym, subst, inl, inr, arith}
use Rattle.std.specs.List.{list_all}
use Rattle.std.proofs.lemmas.Bool.{false≢true, and_parts}
use Rattle.vert_base.specs.declared.message.Name.{Name}
use Rattle.vert_base.specs.declared.message.NameKind.TheVariants.{Verdict}
use Rattle.vert_base.specs.declared.value.Ruling.{Ruling}
use Rattle.vert_base.specs.declared.value.Ruling.TheVariants.{Stop, Dense, Sparse}
use Rattle.circulant_plan.specs.Deliveries.{needing_spot, HasSpot}
use Rattle.circulant_plan.specs.declared.spot.Ring.{Ring}
use Rattle.circulant_plan.specs.declared.spot.Spot.{Spot}
use Rattle.circulant_plan.specs.declared.spot.Spot.TheVariants.{Tell, Judge, Begin, Scan, Close, Over}
use Rattle.circulant_plan.specs.Standing.{Standing, standing_at, round_of, place_of, offset_of}
use Rattle.circulant_plan.specs.Skeleton.{Skeleton, Blocks, has_name, ruling_in, may_rule, is_over}
use Rattle.circulant_plan.proofs.NameLists.{Once}
use Rattle.circulant_plan.proofs.Members.{Has}
use Rattle.circulant_plan.proofs.NameLaws.{IsName, needed_later, offset_small}
use Rattle.circulant_plan.proofs.SendingLaws.{sent_place}
use Rattle.circulant_plan.proofs.ActionLaws.{Course, course_by}
use Rattle.skeleton_laws.proofs.Kept.{IsPlan, View, Fits}
use Rattle.skeleton_laws.proofs.Standings.{standing_of}

-- the names of a run are a plan
module _ (course : Course) where
  open course use {ring, few, mode, not_stop}

  pub names_are_planned : IsPlan ring.machines (IsName course)
  names_are_planned = record {
    from_within = λ x named. named.from;
    to_within = λ x named. (needed_later course x named).to;
    sooner =
        λ x named.
        let n = needed_later course x named in
        let l = n.later in
        let e = sent_place (mode x.round) x (not_stop x.round) in
        omega arith;
    needed_from = λ x named. let n = needed_later course x named in let e = n.round in omega arith;
    needed_to =
        λ x named.
        let n = needed_later course x named in
        let e = n.round in
        let o = offset_small course x.to (mode x.round) (needing_spot ring.machines x) n.has in
        omega arith;
  }

-- what a state shows of its order
abbrev pub view_of : Skeleton → View
view_of k = record {
  place = λ j. place_of (standing_of k.standings j);
  over = λ j. is_over (standing_of k.standings j).spot;
  taken = λ x. has_name x k.taken;
  flies = λ x. has_name x k.under_way;
}

-- the round of machine 0, which judges
abbrev pub zero_round : Skeleton → ℕ
zero_round k = (standing_of k.standings 0).round

-- the modes are those that were ruled, as far as machine 0 has come
abbrev pub Agrees : (ℕ → Ruling) → Skeleton → Type 0
Agrees mode k = (r : ℕ) → r ≤ zero_round k → (ruling_in k.rulings r ≡ Stop) ⊎ (ruling_in k.rulings r ≡ mode r)

-- what holds whatever the modes of later rounds will be
pub record Rules (ring : Ring) (blocks : Blocks) (k : Skeleton) : Type 0 where
  pub all_there : length k.standings ≡ ring.machines
  pub rounds : (j : ℕ) → j < ring.machines →
      (standing_of k.standings j).round ≡ round_of (standing_of k.standings j).round
      (standing_of k.standings j).spot
  pub low : (j : ℕ) → j < ring.machines → place_of (standing_of k.standings j) ≤ 256 * (blocks.limit + 1)
  pub allowed : (r : ℕ) → may_rule blocks r (ruling_in k.rulings r) ≡ true
  -- machine 0 stands in a round that was ruled to take place, or is over in one that was ruled not to
  pub zero_going : is_over (standing_of k.standings 0).spot ≡ false → 1 ≤ zero_round k →
      ruling_in k.rulings (zero_round k) ≢ Stop
  pub zero_over : is_over (standing_of k.standings 0).spot ≡ true → ruling_in k.rulings (zero_round k) ≡ Stop
  -- a verdict of a stop is the last thing that machine 0 sends, and ends its receiver
  pub stop_flies : (x : Name) → has_name x k.under_way ≡ true → x.kind ≡ Verdict →
      ruling_in k.rulings x.round ≡ Stop →
      (is_over (standing_of k.standings 0).spot ≡ true) × (place_of (standing_of k.standings 0) ≡ 256 * x.round)
  pub stop_taken : (x : Name) → has_name x k.taken ≡ true → x.kind ≡ Verdict →
      ruling_in k.rulings x.round ≡ Stop → is_over (standing_of k.standings x.to).spot ≡ true
  -- each name is under way once
  pub once : Once k.under_way
  pub over_zero : (j : ℕ) → j < ring.machines → is_over (standing_of k.standings j).spot ≡ true →
      is_over (standing_of k.standings 0).spot ≡ true

-- what holds by modes that agree: each machine has its spot, and the order of events fits
pub record FitsBy (course : Course) (k : Skeleton) : Type 0 where
  pub has : (j : ℕ) → j < course.ring.machines →
      HasSpot course.ring j (course.mode (standing_of k.standings j).round) (standing_of k.standings j).spot
  pub fits : Fits course.ring.machines (IsName course) (view_of k)

pub record Settled (ring : Ring) (few : ring.machines ≤ 64) (blocks : Blocks) (k : Skeleton) : Type 0 where
  pub rules : Rules ring blocks k
  pub by : (mode : ℕ → Ruling) (not_stop : (r : ℕ) → mode r ≢ Stop) → Agrees mode k →
      FitsBy (course_by ring few mode not_stop) k

-- modes that agree: those that were ruled, and dense ones elsewhere
abbrev pub going_mode : Ruling → Ruling
going_mode Stop = Dense
going_mode Dense = Dense
going_mode Sparse = Sparse

pub dense_goes : Dense ≢ Stop
dense_goes e = grind arith

pub sparse_goes : Sparse ≢ Stop
sparse_goes e = grind arith

going_goes : (a : Ruling) → going_mode a ≢ Stop
going_goes Stop e = dense_goes e
going_goes Dense e = dense_goes e
going_goes Sparse e = sparse_goes e

pub going_agrees : (a : Ruling) → (a ≡ Stop) ⊎ (a ≡ going_mode a)
going_agrees Stop = inl refl
going_agrees Dense = inr refl
going_agrees Sparse = inr refl

abbrev pub mode_in : Skeleton → ℕ → Ruling
mode_in k r = going_mode (ruling_in k.rulings r)

pub modes_in : (k : Skeleton) (r : ℕ) → mode_in k r ≢ Stop
modes_in k r = going_goes (ruling_in k.rulings r)

pub agrees_in : (k : Skeleton) → Agrees (mode_in k) k
agrees_in k r within = going_agrees (ruling_in k.rulings r)

-- a settled state of 1 to 64 machines
pub record SettledState : Type 0 where
  pub ring : Ring
  pub few : ring.machines ≤ 64
  pub some : 1 ≤ ring.machines
  pub blocks : Blocks
  pub k : Skeleton
  pub settled : Settled ring few blocks k

abbrev pub course_in : SettledState → Course
course_in state = course_by state.ring state.few (mode_in state.k) (modes_in state.k)

-- a standing that isn't over is that of its spot
standing_step : (spot : Spot) (round : ℕ) → round ≡ round_of round spot → is_over spot ≡ false →
    record { spot = spot; round = round } ≡ standing_at 0 spot
standing_step Tell round e going = ap (λ q. record { spot = Tell; round = q }) e
standing_step (Judge r) round e going = ap (λ q. record { spot = Judge r; round = q }) e
standing_step (Begin r) round e going = ap (λ q. record { spot = Begin r; round = q }) e
standing_step (Scan r s h) round e going = ap (λ q. record { spot = Scan r s h; round = q }) e
standing_step (Close r dense) round e going = ap (λ q. record { spot = Close r dense; round = q }) e
standing_step Over round e going = absurd (false≢true (sym going))

pub is_standing_at : (s : Standing) → s.round ≡ round_of s.round s.spot → is_over s.spot ≡ false →
    s ≡ standing_at 0 s.spot
is_standing_at s e going = standing_step s.spot s.round e going

-- who is over stands at the first place of its round
pub over_offset : (spot : Spot) → is_over spot ≡ true → offset_of spot ≡ 0
over_offset Tell over = absurd (false≢true over)
over_offset (Judge r) over = absurd (false≢true over)
over_offset (Begin r) over = absurd (false≢true over)
over_offset (Scan r s h) over = absurd (false≢true over)
over_offset (Close r dense) over = absurd (false≢true over)
over_offset Over over = refl

pub over_place : (s : Standing) → is_over s.spot ≡ true → place_of s ≡ 256 * s.round
over_place s over = let e = over_offset s.spot over in omega arith

pub not_true : (b : Bool) → not b ≡ true → b ≡ false
not_true true e = absurd (false≢true e)
not_true false e = refl

pub all_at : (test : Name → Bool) (xs : List Name) (x : Name) → list_all test xs ≡ true → Has xs x → test x ≡ true
all_at test [] x all h = absurd h
all_at test (y ∷ ys) x all (inl e) = subst (λ z. test z ≡ true) e (and_parts (test y) (list_all test ys) all).0
all_at test (y ∷ ys) x all (inr h) = all_at test ys x (and_parts (test y) (list_all test ys) all).1 h
