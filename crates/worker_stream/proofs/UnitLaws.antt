-- Where a loop over units has come.
use Rattle.std.proofs.Common.{◌≡◌, ℕ, zero, suc, ◌*◌, ◌/◌, ◌<◌, ◌∙◌, Some, None, List, [], ◌∷◌, ◌++◌, length, map, drop, refl, sym, ap, append_assoc, append-nil, arith}
use Rattle.edge_reader.specs.EdgePairs.{first_units, units_of}
use Rattle.edge_reader.proofs.UnitLaws.{units_next, units_none}
use Rattle.worker_stream.specs.Sections.{cut_at}
use Rattle.worker_stream.proofs.CutLaws.{cut_is, cut_none}

module _ {X : Type 0} (f : List ℕ → X) (size : ℕ) (rest front back : List ℕ) (all list new : List X) (x : X) where
  pub units_more : 0 < size → cut_at size rest ≡ Some (front, back) → list ++ map f (units_of size rest) ≡ all →
      x ≡ f front → new ≡ list ++ x ∷ [] → new ++ map f (units_of size back) ≡ all
  units_more some cut before read pushed =
      let is = cut_is size rest front back cut in
      let next : units_of size rest ≡ front ∷ units_of size back =
      units_next size rest some is.within
      ∙ (ap (λ q. q ∷ units_of size (drop size rest)) (sym is.front) ∙ ap (λ q. front ∷ units_of size q) (sym
      is.back)) in
      ap (λ q. q ++ map f (units_of size back)) (pushed ∙ ap (λ y. list ++ y ∷ []) read)
      ∙ (append_assoc list (f front ∷ []) (map f (units_of size back))
      ∙ (ap (λ q. list ++ map f q) (sym next) ∙ before))

pub units_done : {X : Type 0} (f : List ℕ → X) (size : ℕ) (rest : List ℕ) (all list : List X) →
    cut_at size rest ≡ None → list ++ map f (units_of size rest) ≡ all → list ≡ all
units_done f size rest all list none before =
    sym (append-nil list)
    ∙ (ap (λ q. list ++ map f q) (sym (units_none size rest (cut_none size rest none))) ∙ before)

units_count : (size n : ℕ) (bytes : List ℕ) → length (first_units size n bytes) ≡ n
units_count size zero bytes = refl
units_count size (suc n) bytes = ap suc (units_count size n (drop size bytes))

-- as many numbers as four bytes fit
pub fours_count : (count : ℕ) (bytes : List ℕ) → length bytes ≡ 4 * count → length (units_of 4 bytes) ≡ count
fours_count count bytes len =
    units_count 4 (length bytes / 4) bytes ∙ (let whole : length bytes / 4 ≡ count = omega (arith, len) in whole)
