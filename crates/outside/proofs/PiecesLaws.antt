-- What is read of pieces.
use Rattle.std.proofs.Common.{◌≡◌, ◌≤◌, ◌<◌, ℕ, ◌+◌, ◌-◌, suc, List, [], ◌∷◌, ◌++◌, take, drop, length, get_or, min, refl, sym, ap, ◌∙◌, add-one, arith, drop-cons, append_assoc, length-drop, length-take, ⊎_elim, subst}
use Rattle.std.proofs.lemmas.List.{drop_all, drop-map, take_all, take-append-drop, drop-drop, take_rest}
use Rattle.std.proofs.lemmas.Bool.{cases_lt}
use Rattle.std.proofs.Math.Seq.{take-length, drop-length, take-append_seam, drop-append_seam}
use Rattle.std.specs.Prelude.{Vec, Result, Ok, Err, Some, IfOk, Bool, true, false, if◌then◌else◌}
use Rattle.outside.specs.Pieces.{joined, first_bytes, without_first, contents, begun, unread}

pub begun-none : (pieces : List (List ℕ)) → begun 0 pieces ≡ pieces
begun-none [] = refl
begun-none (piece ∷ pieces) = refl

-- a vector at a place, and those after it
pub unread_at : {Z : Type 0} (pieces : List (Vec ℕ Z)) (at given : ℕ) (piece : Vec ℕ Z) → at < length pieces →
    piece ≡ get_or pieces at piece → unread at given (contents pieces) ≡ drop given piece.items
    ∷ drop (at + 1) (contents pieces)
unread_at {Z} pieces at given piece within is =
    let next : drop at pieces ≡ get_or pieces at piece ∷ drop (suc at) pieces = drop-cons pieces at piece within in
    let step : drop at pieces ≡ piece ∷ drop (at + 1) pieces =
    rw add-one (next ∙ ap (λ (x : Vec ℕ Z). x ∷ drop (suc at) pieces) (sym is)) in
    let whole : drop at (contents pieces) ≡ piece.items ∷ drop (at + 1) (contents pieces) =
    drop-map (λ (x : Vec ℕ Z). x.items) at pieces ∙ ap contents step
    ∙ ap (λ (r : List (List ℕ)). piece.items ∷ r) (sym (drop-map (λ (x : Vec ℕ Z). x.items) (at + 1) pieces)) in
    ap (begun given) whole

-- a piece that was given whole is passed over
pub passed_bytes : {Z : Type 0} (pieces : List (Vec ℕ Z)) (at given : ℕ) (piece : Vec ℕ Z) (size : ℕ) →
    at < length pieces → piece ≡ get_or pieces at piece → length piece.items ≤ given →
    first_bytes size (unread (at + 1) 0 (contents pieces)) ≡ first_bytes size (unread at given (contents pieces))
passed_bytes pieces at given piece size within is all =
    let here : unread at given (contents pieces) ≡ [] ∷ drop (at + 1) (contents pieces) =
    unread_at pieces at given piece within is
    ∙ ap (λ (x : List ℕ). x ∷ drop (at + 1) (contents pieces)) (drop_all given piece.items all) in
    ap (first_bytes size) (begun-none (drop (at + 1) (contents pieces))) ∙ sym (ap (first_bytes size) here)

pub passed_rest : {Z : Type 0} (pieces : List (Vec ℕ Z)) (at given : ℕ) (piece : Vec ℕ Z) (size : ℕ) →
    at < length pieces → piece ≡ get_or pieces at piece → length piece.items ≤ given →
    without_first size (unread (at + 1) 0 (contents pieces)) ≡ without_first size (unread at given (contents pieces))
passed_rest pieces at given piece size within is all =
    let here : unread at given (contents pieces) ≡ [] ∷ drop (at + 1) (contents pieces) =
    unread_at pieces at given piece within is
    ∙ ap (λ (x : List ℕ). x ∷ drop (at + 1) (contents pieces)) (drop_all given piece.items all) in
    ap (without_first size) (begun-none (drop (at + 1) (contents pieces))) ∙ sym (ap (without_first size) here)

-- of a first piece that isn't empty
pub first_of : (size : ℕ) (piece : List ℕ) (pieces : List (List ℕ)) → 0 < length piece →
    first_bytes size (piece ∷ pieces) ≡ take size piece
first_of size [] pieces some = grind arith
first_of size (byte ∷ piece) pieces some = refl

pub rest_of : (size : ℕ) (piece : List ℕ) (pieces : List (List ℕ)) → 0 < length piece →
    without_first size (piece ∷ pieces) ≡ drop size piece ∷ pieces
rest_of size [] pieces some = grind arith
rest_of size (byte ∷ piece) pieces some = refl

-- at a place whose piece isn't given whole
pub here_bytes : {Z : Type 0} (pieces : List (Vec ℕ Z)) (at given : ℕ) (piece : Vec ℕ Z) (size : ℕ) →
    at < length pieces → piece ≡ get_or pieces at piece → given < length piece.items →
    first_bytes size (unread at given (contents pieces)) ≡ take size (drop given piece.items)
here_bytes pieces at given piece size within is some =
    ap (first_bytes size) (unread_at pieces at given piece within is)
    ∙ first_of size (drop given piece.items) (drop (at + 1) (contents pieces))
    (omega (arith, length-drop given piece.items))

-- how much of a piece fits, and what is left of it
pub take_fit : (size : ℕ) (piece : List ℕ) → take (min (length piece) size) piece ≡ take size piece
take_fit size piece = ⊎_elim (λ (few : size < length piece). ap (λ (n : ℕ). take n piece) (omega (arith, few)))
    (λ (many : length piece ≤ size). ap (λ (n : ℕ). take n piece) (omega (arith, many)) ∙ take-length piece
    ∙ sym (take_all size piece many)) (cases_lt size (length piece))

pub drop_fit : (size : ℕ) (piece : List ℕ) → drop (min (length piece) size) piece ≡ drop size piece
drop_fit size piece = ⊎_elim (λ (few : size < length piece). ap (λ (n : ℕ). drop n piece) (omega (arith, few)))
    (λ (many : length piece ≤ size). ap (λ (n : ℕ). drop n piece) (omega (arith, many)) ∙ drop-length piece
    ∙ sym (drop_all size piece many)) (cases_lt size (length piece))

pub here_rest : {Z : Type 0} (pieces : List (Vec ℕ Z)) (at given : ℕ) (piece : Vec ℕ Z) (size : ℕ) →
    at < length pieces → piece ≡ get_or pieces at piece → given < length piece.items →
    without_first size (unread at given (contents pieces))
    ≡ unread at (given + min (length (drop given piece.items)) size) (contents pieces)
here_rest {Z} pieces at given piece size within is some =
    let left : List ℕ = drop given piece.items in
    let later : List (List ℕ) = drop (at + 1) (contents pieces) in
    let fit : ℕ = min (length left) size in
    let old : without_first size (unread at given (contents pieces)) ≡ drop size left ∷ later =
    ap (without_first size) (unread_at pieces at given piece within is)
    ∙ rest_of size left later (omega (arith, length-drop given piece.items)) in
    let new : unread at (given + fit) (contents pieces) ≡ drop (given + fit) piece.items ∷ later =
    unread_at pieces at (given + fit) piece within is in
    let same : drop (given + fit) piece.items ≡ drop size left = sym (drop-drop fit given piece.items)
    ∙ drop_fit size left in
    old ∙ sym (new ∙ ap (λ (x : List ℕ). x ∷ later) same)

-- what is read and what is left are all there was
pub joined_split : (size : ℕ) (pieces : List (List ℕ)) → first_bytes size pieces ++ joined (without_first size pieces)
    ≡ joined pieces
joined_split size [] = refl
joined_split size ([] ∷ pieces) = joined_split size pieces
joined_split size ((byte ∷ piece) ∷ pieces) = sym
    (append_assoc (take size (byte ∷ piece)) (drop size (byte ∷ piece)) (joined pieces))
    ∙ ap (λ (x : List ℕ). x ++ joined pieces) (take-append-drop size (byte ∷ piece))

-- no more than what fits
pub first_within : (size : ℕ) (pieces : List (List ℕ)) → length (first_bytes size pieces) ≤ size
first_within size [] = omega arith
first_within size ([] ∷ pieces) = first_within size pieces
first_within size ((byte ∷ piece) ∷ pieces) = omega (arith, length-take size (byte ∷ piece))

-- nothing is read only where nothing is left
pub first_some : (size : ℕ) (pieces : List (List ℕ)) → length (first_bytes size pieces) ≡ 0 → 0 < size →
    joined pieces ≡ []
first_some size [] none some = refl
first_some size ([] ∷ pieces) none some = first_some size pieces none some
first_some size ((byte ∷ piece) ∷ pieces) none some =
    let here : min size (length (byte ∷ piece)) ≡ 0 = sym (length-take size (byte ∷ piece)) ∙ none in
    absurd (grind (arith, here, some))

-- A copy from a place on: the slice that was lent begins after the bytes given, and n is how much of it fits.
module _ {Z : Type 0} (pieces : List (Vec ℕ Z)) (at given : ℕ) (piece : Vec ℕ Z) (slice into : List ℕ) (n : ℕ)
    (within : at < length pieces) (is : piece ≡ get_or pieces at piece)
    (some : given < length (get_or pieces at piece).items) (value : slice ≡ piece.items)
    (fits : n ≡ min (length (take (length slice - given) (drop given slice))) (length into)) where
  lent : take (length slice - given) (drop given slice) ≡ drop given piece.items
  lent = take_rest slice given ∙ ap (drop given) value

  not_given : given < length piece.items
  not_given = subst (λ (x : Vec ℕ Z). given < length x.items) (sym is) some

  fit : n ≡ min (length (drop given piece.items)) (length into)
  fit = fits ∙ ap (λ (x : List ℕ). min (length x) (length into)) lent

  here : first_bytes (length into) (unread at given (contents pieces)) ≡ take (length into) (drop given piece.items)
  here = here_bytes pieces at given piece (length into) within is not_given

  pub copied_size : n ≡ length (first_bytes (length into) (unread at given (contents pieces)))
  copied_size = omega (arith, fit, ap length here, length-take (length into) (drop given piece.items))

  pub copied_bytes : take n (take (length slice - given) (drop given slice))
      ≡ first_bytes (length into) (unread at given (contents pieces))
  copied_bytes = ap (take n) lent ∙ ap (λ (k : ℕ). take k (drop given piece.items)) fit
      ∙ take_fit (length into) (drop given piece.items) ∙ sym here

  pub copied_rest : unread at (given + n) (contents pieces)
      ≡ without_first (length into) (unread at given (contents pieces))
  copied_rest = ap (λ (k : ℕ). unread at (given + k) (contents pieces)) fit
      ∙ sym (here_rest pieces at given piece (length into) within is not_given)

-- the bytes left before a take are those that it wrote and those left after it
pub left_split : (size : ℕ) (pieces : List (List ℕ)) (old : List ℕ) →
    joined pieces ≡ take (length (first_bytes size pieces))
    (first_bytes size pieces ++ drop (length (first_bytes size pieces)) old) ++ joined (without_first size pieces)
left_split size pieces old =
    sym (joined_split size pieces) ∙ ap (λ (x : List ℕ). x ++ joined (without_first size pieces))
    (sym (take-append_seam (first_bytes size pieces) (drop (length (first_bytes size pieces)) old)))

-- what lies past the bytes written is as it was
pub tail_kept : (bytes old : List ℕ) → drop (length bytes) (bytes ++ drop (length bytes) old) ≡ drop (length bytes) old
tail_kept bytes old = drop-append_seam bytes (drop (length bytes) old)

-- What a take answers, by whether it fails.
module _ {E : Type 0} (e : E) (pieces new : List (List ℕ)) (old into : List ℕ) (result : Result ℕ E) where
  pub told_left : (fails : Bool) → result ≡ (if fails then Err e else Ok (length (first_bytes (length old) pieces))) →
      into ≡ (if fails then old else first_bytes (length old) pieces
      ++ drop (length (first_bytes (length old) pieces)) old) →
      new ≡ (if fails then pieces else without_first (length old) pieces) →
      IfOk result (λ n. Some (joined pieces) ≡ Some (take n into ++ joined new))
  told_left true answer bytes rest = subst (λ (r : Result ℕ E).
      IfOk r (λ n. Some (joined pieces) ≡ Some (take n into ++ joined new))) (sym answer) tt
  told_left false answer bytes rest =
      let size : ℕ = length (first_bytes (length old) pieces) in
      let whole : joined pieces ≡ take size into ++ joined new =
      left_split (length old) pieces old ∙
      ap (λ (x : List ℕ). take size x ++ joined (without_first (length old) pieces)) (sym bytes)
      ∙ ap (λ (x : List (List ℕ)). take size into ++ joined x) (sym rest) in
      subst (λ (r : Result ℕ E). IfOk r (λ n. Some (joined pieces) ≡ Some (take n into ++ joined new))) (sym answer)
      (ap Some whole)

  pub told_within : (fails : Bool) → result ≡ (if fails then Err e else Ok (length (first_bytes (length old) pieces)))
      → IfOk result (λ n. n ≤ length old)
  told_within true answer = subst (λ (r : Result ℕ E). IfOk r (λ n. n ≤ length old)) (sym answer) tt
  told_within false answer = subst (λ (r : Result ℕ E). IfOk r (λ n. n ≤ length old)) (sym answer)
      (first_within (length old) pieces)

  pub told_rest : (fails : Bool) → result ≡ (if fails then Err e else Ok (length (first_bytes (length old) pieces))) →
      into ≡ (if fails then old else first_bytes (length old) pieces
      ++ drop (length (first_bytes (length old) pieces)) old) → IfOk result (λ n. drop n into ≡ drop n old)
  told_rest true answer bytes = subst (λ (r : Result ℕ E). IfOk r (λ n. drop n into ≡ drop n old)) (sym answer) tt
  told_rest false answer bytes =
      let size : ℕ = length (first_bytes (length old) pieces) in
      subst (λ (r : Result ℕ E). IfOk r (λ n. drop n into ≡ drop n old)) (sym answer) (ap (drop size) bytes
      ∙ tail_kept (first_bytes (length old) pieces) old)

  pub told_end : (fails : Bool) → result ≡ (if fails then Err e else Ok (length (first_bytes (length old) pieces))) →
      result ≡ Ok 0 → 0 < length old → (bytes : List ℕ) → Some (joined pieces) ≡ Some bytes → bytes ≡ []
  told_end true answer none some bytes all = cc
  told_end false answer none some bytes all =
      let zero_size : length (first_bytes (length old) pieces) ≡ 0 = cc in
      let nothing : joined pieces ≡ [] = first_some (length old) pieces zero_size some in
      cc
