-- The goes and then the takes, by their places.
use Rattle.std.proofs.Common.{◌≡◌, ℕ, zero, suc, ◌+◌, ◌<◌, ◌≤◌, List, [], ◌∷◌, ◌++◌, length, map, Option, Some, None, refl, ap, sym, ◌∙◌, arith, get_or, slice_get, subst}
use Rattle.std.proofs.lemmas.List.{length-append, length-map}
use Rattle.std.specs.Option.{option_map}
use Rattle.std.specs.Prelude.{if◌then◌else◌, Bool, false}
use Rattle.std.specs.List.{filter, range_with_len}
use Rattle.vert_base.specs.declared.message.Name.{Name}
use Rattle.vert_base.specs.declared.message.Event.TheVariants.{Go, Take}
use Rattle.vert_base.specs.Letters.{Letter}
use Rattle.symple_face.specs.Cluster.{can_act, ready_from}
use Rattle.cluster_run.specs.Faults.{lacks}
use Rattle.cluster_run.specs.declared.fault.Missing.TheVariants.{Gone}
use Rattle.symple_face.specs.State.{State}
use Rattle.cluster_run.specs.Ready.{flags_of, set_from}

behind : {X : Type 0} → (xs ys : List X) (k j : ℕ) → k ≡ length xs + j → slice_get (xs ++ ys) k ≡ slice_get ys j
behind [] ys k j at = let same : k ≡ j = omega arith in ap (slice_get ys) same
behind (x ∷ xs) ys zero j at = absurd (omega arith)
behind (x ∷ xs) ys (suc k) j at = behind xs ys k j (omega arith)

take_at : (ms : List Letter) (j : ℕ) →
    option_map (λ x. Take x) (option_map (λ l. l.name) (slice_get ms j)) ≡ slice_get (map (λ l. Take l.name) ms) j
take_at [] j = refl
take_at (m ∷ ms) zero = refl
take_at (m ∷ ms) (suc j) = take_at ms j

-- past the goes stand the takes
pub nth_take : (ns : List ℕ) (ms : List Letter) (k j : ℕ) (o : Option Name) → k ≡ length ns + j →
    o ≡ option_map (λ l. l.name) (slice_get ms j) →
    option_map (λ x. Take x) o ≡ slice_get (map (λ m. Go m) ns ++ map (λ l. Take l.name) ms) k
nth_take ns ms k j o at is =
    ap (option_map (λ x. Take x)) is ∙ take_at ms j
    ∙ sym (behind (map (λ m. Go m) ns) (map (λ l. Take l.name) ms) k j at_goes)
  where
    at_goes : k ≡ length (map (λ m. Go m) ns) + j
    at_goes = let size = length-map ns (λ m. Go m) in omega arith

-- before them stand the goes
pub nth_go : (ns : List ℕ) (ms : List Letter) (k m : ℕ) → slice_get ns k ≡ Some m →
    Some (Go m) ≡ slice_get (map (λ m. Go m) ns ++ map (λ l. Take l.name) ms) k
nth_go [] ms k m at = cc
nth_go (n ∷ ns) ms zero m at = sym (ap (option_map (λ m. Go m)) at)
nth_go (n ∷ ns) ms (suc k) m at = nth_go ns ms k m at

pub count_choices : (ns : List ℕ) (ms : List Letter) (count : ℕ) → count ≡ length ns →
    count + length ms ≡ length (map (λ m. Go m) ns ++ map (λ l. Take l.name) ms)
count_choices ns ms count is =
    let goes = length-map ns (λ m. Go m) in
    let takes = length-map ms (λ l. Take l.name) in
    let both = length-append (map (λ m. Go m) ns) (map (λ l. Take l.name) ms) in
    omega arith

-- where nothing is under way, the first ready machine is missing
pub go_lacks : (ns : List ℕ) (ms : List Letter) (m : ℕ) → None ≡ option_map (λ l. l.name) (slice_get ms 0) →
    slice_get ns 0 ≡ Some m →
    Some (Gone m) ≡ option_map lacks (slice_get (map (λ l. Take l.name) ms ++ map (λ m. Go m) ns) 0)
go_lacks [] [] m none at = cc
go_lacks (n ∷ ns) [] m none at = sym (ap (option_map (λ m. Gone m)) at)
go_lacks ns (l ∷ ms) m none at = cc

pub none_lacks : (ns : List ℕ) (ms : List Letter) (left : ℕ) → None ≡ option_map (λ l. l.name) (slice_get ms 0) →
    0 ≡ length ns + left →
    None ≡ option_map lacks (slice_get (map (λ l. Take l.name) ms ++ map (λ m. Go m) ns) 0)
none_lacks [] [] left none past = refl
none_lacks (n ∷ ns) [] left none past = absurd (omega arith)
none_lacks ns (l ∷ ms) left none past = cc

-- the ready machines are those for which a test holds that tells whether they can act
pub ready_by : (test : ℕ → Bool) (n : ℕ) (ss : List State) →
    ((j m : ℕ) (s : State) → slice_get ss j ≡ Some s → m ≡ n + j → can_act (Some s) ≡ test m) →
    ready_from n ss ≡ filter test (range_with_len n (length ss))
ready_by test n [] tells = refl
ready_by test n (s ∷ ss) tells =
    ap (λ b. if b then n ∷ ready_from (n + 1) ss else ready_from (n + 1) ss) (tells 0 n s refl (omega arith))
    ∙ ap (λ ns. if test n then n ∷ ns else ns)
    (ready_by test (n + 1) ss (λ j m t at is. tells (suc j) m t at (omega arith)))

-- the flags that are set are those of the machines that are ready
pub set_are_ready : {X : Type 0} → (state : X → State) (n : ℕ) (xs : List X) →
    set_from n (flags_of state xs) ≡ ready_from n (map state xs)
set_are_ready state n [] = refl
set_are_ready state n (x ∷ xs) =
    ap (λ ns. if can_act (Some (state x)) then n ∷ ns else ns) (set_are_ready state (n + 1) xs)

pub set_ready : {X : Type 0} → (state : X → State) (xs : List X) (flags : List Bool) → flags ≡ flags_of state xs →
    set_from 0 flags ≡ ready_from 0 (map state xs)
set_ready state xs flags is = ap (set_from 0) is ∙ set_are_ready state 0 xs

-- a flag says of its machine whether it is ready
flag_is : {X : Type 0} → (state : X → State) (xs : List X) (k : ℕ) (b : Bool) → k < length (flags_of state xs) →
    b ≡ get_or (flags_of state xs) k b → b ≡ can_act (slice_get (map state xs) k)
flag_is state [] k b lt e = absurd (omega (arith, lt))
flag_is state (x ∷ xs) zero b lt e = e
flag_is state (x ∷ xs) (suc k) b lt e = flag_is state xs k b (omega (arith, lt)) e

flag_lacks : {X : Type 0} → (state : X → State) (xs : List X) (k : ℕ) → length (flags_of state xs) ≤ k →
    false ≡ can_act (slice_get (map state xs) k)
flag_lacks state [] k le = refl
flag_lacks state (x ∷ xs) zero le = absurd (omega (arith, le))
flag_lacks state (x ∷ xs) (suc k) le = flag_lacks state xs k (omega (arith, le))

module _ {X : Type 0} (state : X → State) (xs : List X) (flags : List Bool) (are : flags ≡ flags_of state xs)
    (at k : ℕ) (is : at ≡ k) where
  pub flag_told : (b : Bool) → at < length flags → b ≡ get_or flags at b → b ≡ can_act (slice_get (map state xs) k)
  flag_told b lt e =
      subst (λ j. b ≡ can_act (slice_get (map state xs) j)) is (flag_is state xs at b
      (subst (λ (fs : List Bool). at < length fs) are lt) (e ∙ ap (λ (fs : List Bool). get_or fs at b) are))

  pub no_flag : length flags ≤ at → false ≡ can_act (slice_get (map state xs) k)
  no_flag le =
      subst (λ j. false ≡ can_act (slice_get (map state xs) j)) is (flag_lacks state xs at
      (subst (λ (fs : List Bool). length fs ≤ at) are le))
