-- Bodies of pushes are dropped one after another.
use Rattle.std.proofs.Common.{◌≡◌, ℕ, ◌+◌, ◌-◌, ◌<◌, ◌≤◌, ◌≢◌, Bool, true, false, ◌||◌, List, [], ◌∷◌, ◌++◌, map, refl, sym, ap, subst, ◌∙◌, arith}
use Rattle.std.specs.Prelude.{if◌then◌else◌}
use Rattle.std.specs.List.{range_with_len}
use Rattle.std.proofs.lemmas.List.Elements.{All-cons, All-head, All-tail}
use Rattle.std.proofs.lemmas.List.FromFn.{map-range_with_len_more}
use Rattle.vert_base.specs.declared.message.Name.{Name}
use Rattle.vert_base.specs.Letters.{Letter}
use Rattle.vert_base.specs.Names.{same_name}
use Rattle.graph_table.proofs.FilterLaws.{map-append}
use Rattle.circulant_plan.specs.Names.{push_name}
use Rattle.circulant_plan.specs.Skeleton.{has_name}
use Rattle.circulant_plan.specs.Table.{others_of}
use Rattle.double_buffer.specs.Held.{AreOfRound, Held}
use Rattle.double_buffer.specs.Taking.{CanTake}
use Rattle.symple_face.specs.CoreTakes.{emptied, emptied_under}
use Rattle.round_laws.proofs.FoldScanHeld.{name_stays}
use Rattle.state_laws.proofs.Letters.{name_append}

-- a body is dropped by its name, whatever was dropped before
under-append : (xs ys : List Name) (l : Letter) → emptied_under ys (emptied_under xs l) ≡ emptied_under (xs ++ ys) l
under-append xs ys l =
    by (has_name l.name xs) ∙ ap (λ b. if b then record l { body = [] } else l) (sym (name_append l.name xs ys))
  where
    same : (c : Bool) → (if c then record l { body = [] } else record l { body = [] }) ≡ record l { body = [] }
    same true = refl
    same false = refl

    by : (b : Bool) → emptied_under ys (if b then record l { body = [] } else l) ≡
        (if (b || has_name l.name ys) then record l { body = [] } else l)
    by true = same (has_name l.name ys)
    by false = refl

pub emptied-append : (xs ys : List Name) (ms : List Letter) → emptied ys (emptied xs ms) ≡ emptied (xs ++ ys) ms
emptied-append xs ys [] = refl
emptied-append xs ys (l ∷ ls) =
    ap (λ z. z ∷ emptied ys (emptied xs ls)) (under-append xs ys l)
    ∙ ap (λ zs. emptied_under (xs ++ ys) l ∷ zs) (emptied-append xs ys ls)

pub emptied-none : (ms : List Letter) → emptied [] ms ≡ ms
emptied-none [] = refl
emptied-none (l ∷ ls) = ap (λ zs. l ∷ zs) (emptied-none ls)

-- messages stay of their round
pub emptied_of_round : (r m : ℕ) (xs : List Name) (ms : List Letter) → AreOfRound r m ms →
    AreOfRound r m (emptied xs ms)
emptied_of_round r m xs [] are = are
emptied_of_round r m xs (l ∷ ls) are =
    let P : Letter → Type 0 = λ y. (y.name.round ≡ r) × (y.name.to ≡ m) in
    let here = All-head P l ls are in
    let name = sym (name_stays xs l) in
    All-cons P (emptied_under xs l) (emptied xs ls)
    (subst (λ (n : Name). (n.round ≡ r) × (n.to ≡ m)) name here)
    (emptied_of_round r m xs ls (All-tail P l ls are))

-- a push from another machine can be taken
module _ (p r k m : ℕ) (x : Name) where
  pub push_taken : k < p → m < p → k ≢ m → x ≡ push_name r k m → CanTake p x
  push_taken from to other is =
      subst (CanTake p) (sym is) (record { from = from; to = to; other = other; step = refl; half = refl })

module _ (round machine from : ℕ) (first : Held) where
  abbrev pub named : ℕ → Name
  named k = push_name round k machine

  -- the pushes of the machines from one on and before another one are dropped
  pub record AreDropped (k : ℕ) (now : Held) : Type 0 where
    pub held : now
        ≡ record first {
          letters =
              emptied (map (λ j. push_name round j machine) (range_with_len from (k - from))) first.letters;
        }
    pub together : AreOfRound round machine now.letters

  pub dropped_none : AreOfRound round machine first.letters → AreDropped from first
  dropped_none together =
      let none : from - from ≡ 0 = omega arith in
      record {
        held = λ j.
            record first {
              letters =
                  (sym (emptied-none first.letters)
                  ∙ ap (λ n. emptied (map (λ k. push_name round k machine) (range_with_len from n)) first.letters)
                  (sym none)) j;
            };
        together = together;
      }

  pub dropped_more : (k : ℕ) (x : Name) (now new : Held) → from ≤ k → AreDropped k now →
      x ≡ push_name round k machine → new ≡ record now { letters = emptied (x ∷ []) now.letters } →
      AreDropped (k + 1) new
  dropped_more k x now new low so_far name dropped =
      let at : from + (k - from) ≡ k = omega arith in
      let more : k - from + 1 ≡ k + 1 - from = omega arith in
      let before : List Name = map (λ j. push_name round j machine) (range_with_len from (k - from)) in
      let names = sym (map-range_with_len_more (λ j. push_name round j machine) from (k - from) k at)
      ∙ ap (λ n. map (λ j. push_name round j machine) (range_with_len from n)) more in
      record {
        held = dropped
            ∙ ap (λ (y : Name). record now { letters = emptied (y ∷ []) now.letters }) name
            ∙ ap (λ (h : Held). record h { letters = emptied (push_name round k machine ∷ []) h.letters }) so_far.held
            ∙ ap (λ (ms : List Letter). record first { letters = ms })
            (emptied-append before (push_name round k machine ∷ []) first.letters
            ∙ ap (λ xs. emptied xs first.letters) names);
        together = subst (λ (h : Held). AreOfRound round machine h.letters) (sym dropped)
            (emptied_of_round round machine (x ∷ []) now.letters so_far.together);
      }

-- first those of the machines before this one, then those of the machines behind it
module _ (round machine m p q : ℕ) (first front last : Held) where
  pub dropped_all : m ≡ machine → p ≡ q →
      front ≡ record first {
        letters = emptied (map (λ k. push_name round k machine) (range_with_len 0 (m - 0)))
            first.letters;
      } →
      last ≡ record front {
        letters = emptied (map (λ k. push_name round k machine) (range_with_len (m + 1) (p -
            (m + 1)))) front.letters;
      } →
      last ≡ record first {
        letters = emptied (map (λ k. push_name round k machine) (others_of q machine))
            first.letters;
      }
  dropped_all is_m is_p front_is last_is =
      let f : ℕ → Name = λ k. push_name round k machine in
      let zero_is : m - 0 ≡ m = omega arith in
      let rest_is : p - (m + 1) ≡ p - 1 - m = omega arith in
      let before : List ℕ = range_with_len 0 (m - 0) in
      let behind : List ℕ = range_with_len (m + 1) (p - (m + 1)) in
      last_is
      ∙ ap (λ (h : Held). record h { letters = emptied (map f behind) h.letters }) front_is
      ∙ ap (λ (ms : List Letter). record first { letters = ms })
      (emptied-append (map f before) (map f behind) first.letters
      ∙ ap (λ xs. emptied xs first.letters)
      (sym (map-append f before behind)
      ∙ ap (λ n. map f (range_with_len 0 n ++ behind)) zero_is
      ∙ ap (λ n. map f (range_with_len 0 m ++ range_with_len (m + 1) n)) rest_is
      ∙ ap (λ n. map f (others_of n m)) is_p
      ∙ ap (λ k. map f (others_of q k)) is_m))
