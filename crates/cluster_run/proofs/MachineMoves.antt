-- What an event does, over the list of the machines and the messages under way.
use Rattle.std.proofs.Common.{◌≡◌, ℕ, ◌<◌, List, [], ◌∷◌, ◌++◌, length, map, get_or, Some, refl, ap, sym, ◌∙◌, subst, arith, slice_get}
use Rattle.std.specs.Prelude.{slice_set}
use Rattle.std.proofs.lemmas.List.{reverse-append}
use mathlib.Core.List.{reverse}
use Rattle.std.proofs.lemmas.Option.{slice_get_read}
use Rattle.vert_base.specs.declared.message.Message.{Message}
use Rattle.vert_base.specs.Letters.{Letter, letter_of, placed}
use Rattle.vert_base.proofs.LetterLaws.{longer}
use Rattle.symple_face.specs.Cluster.{all_placed}
use Rattle.symple_face.specs.State.{State}
use Rattle.symple_face.specs.Work.{Work}
use Rattle.cluster_run.specs.Sends.{CanSend}
use Rattle.cluster_run.proofs.SiteLists.{map_get, map_set, get_one}

-- what is popped off the end of a list is the first of its reverse
pub popped : {X : Type 0} → (xs rest : List X) (x : X) → xs ≡ rest ++ x ∷ [] → reverse xs ≡ x ∷ reverse rest
popped xs rest x is = ap reverse is ∙ reverse-append rest (x ∷ [])

-- the first message of a list is put under way
pub record IsShifted (ms rest : List Message) (old new : List Letter) : Type 0 where
  pub rest_is : all_placed (map letter_of rest) new ≡ all_placed (map letter_of ms) old
  pub can : CanSend (map letter_of rest) new

pub shifted : (ms rest : List Message) (m : Message) (old new : List Letter) → ms ≡ m ∷ rest →
    new ≡ placed (letter_of m) old → CanSend (map letter_of ms) old → IsShifted ms rest old new
shifted ms rest m old new is put can =
    let those : CanSend (letter_of m ∷ map letter_of rest) old = subst (λ xs. CanSend (map letter_of xs) old) is can in
    let size = longer (letter_of m) old in
    let room = those.room in
    subst (λ xs. IsShifted xs rest old new) (sym is)
    (subst (IsShifted (m ∷ rest) rest old) (sym put)
    (record { rest_is = refl; can = record { new = those.new.1; room = omega arith } }))

-- ---- one machine among others
pub state_at : {X : Type 0} → (state : X → State) (xs : List X) (m : ℕ) (x : X) → m < length xs → x ≡ get_or xs m x →
    slice_get (map state xs) m ≡ Some (state x)
state_at state xs m x lt is = map_get state xs m x (slice_get_read xs (length xs) m x refl lt is)

-- a machine is replaced by one in this state
module _ {X : Type 0} (state : X → State) (xs : List X) (m : ℕ) (x y : X) (s t : State) where
  pub replaced : slice_get (map state xs) m ≡ Some (state x) → slice_get (map state xs) m ≡ Some s →
      (state x ≡ s → state y ≡ t) → map state (slice_set xs m y) ≡ slice_set (map state xs) m t
  replaced here at is =
      map_set state xs m y ∙ ap (slice_set (map state xs) m)
      (is (get_one (slice_get (map state xs) m) (state x) s here at))

module _ {X : Type 0} (state : X → State) (work : Work) (xs : List X) (m : ℕ) (x : X) (s : State)
    (out sent : List Message) where
  pub sent_by : slice_get (map state xs) m ≡ Some (state x) → slice_get (map state xs) m ≡ Some s → out ≡ [] →
      map letter_of sent ≡ map letter_of out ++ work.sent (state x) → map letter_of sent ≡ work.sent s
  sent_by here at none is =
      is ∙ ap (λ ms. map letter_of ms ++ work.sent (state x)) none
      ∙ ap work.sent (get_one (slice_get (map state xs) m) (state x) s here at)
