-- What a loop over a range has still to do.
use Rattle.std.proofs.Common.{◌≡◌, ℕ, suc, ◌+◌, ◌-◌, ◌<◌, ◌≤◌, List, [], ◌∷◌, ◌++◌, length, map, ap, sym, ◌∙◌, arith, append_assoc, get_or}
use Rattle.std.specs.List.{flat_map, range_with_len}
use Rattle.std.proofs.lemmas.List.{append-nil}
use Rattle.std.proofs.lemmas.List.Concat.{flat_map-append}
use Rattle.circulant_plan.proofs.SpanLaws.{range_split}
use Rattle.std.specs.declared.alloc.Global.{Global}
use Rattle.std.specs.declared.vec.Vec.{Vec}
use Rattle.std.proofs.lemmas.List.{get_or-map}
use Rattle.vert_base.specs.declared.graph.VertexId.{VertexId}
use Rattle.symple_face.specs.Parts.{lists_of}
use Rattle.graph_table.proofs.FilterLaws.{map-append}

pub range_first : (v end : ℕ) → v < end → range_with_len v (end - v) ≡ v ∷ range_with_len (v + 1) (end - (v + 1))
range_first v end lt = let e : end - v ≡ suc (end - (v + 1)) = omega arith in ap (range_with_len v) e

range_none : (v end : ℕ) → end ≤ v → range_with_len v (end - v) ≡ []
range_none v end le = let e : end - v ≡ 0 = omega arith in ap (range_with_len v) e

module _ {X : Type 0} (f : ℕ → List X) (v end : ℕ) (all : List X) where
  pub gathers_more : (list new added : List X) → v < end → list ++ flat_map f (range_with_len v (end - v)) ≡ all →
      new ≡ list ++ added → added ≡ f v → new ++ flat_map f (range_with_len (v + 1) (end - (v + 1))) ≡ all
  gathers_more list new added lt rest is same =
      let R : List X = flat_map f (range_with_len (v + 1) (end - (v + 1))) in
      ap (λ ys. ys ++ R) (is ∙ ap (λ ys. list ++ ys) same)
      ∙ (append_assoc list (f v) R ∙ (ap (λ ys. list ++ flat_map f ys) (sym (range_first v end lt)) ∙ rest))

  pub gathers_all : (list : List X) → end ≤ v → list ++ flat_map f (range_with_len v (end - v)) ≡ all → list ≡ all
  gathers_all list le rest = sym (append-nil list)
      ∙ (ap (λ ys. list ++ flat_map f ys) (sym (range_none v end le)) ∙ rest)

module _ {X : Type 0} (number : X → ℕ) (v end : ℕ) (all : List ℕ) (list new : List X) (x : X) where
  pub counts_more : v < end → map number list ++ range_with_len v (end - v) ≡ all → new ≡ list ++ x ∷ [] →
      number x ≡ v → map number new ++ range_with_len (v + 1) (end - (v + 1)) ≡ all
  counts_more lt rest is at =
      let R : List ℕ = range_with_len (v + 1) (end - (v + 1)) in
      ap (λ ys. map number ys ++ R) is
      ∙ (ap (λ ys. ys ++ R) (map-append number list (x ∷ []) ∙ ap (λ y. map number list ++ y ∷ []) at)
      ∙ (append_assoc (map number list) (v ∷ []) R
      ∙ (ap (λ ys. map number list ++ ys) (sym (range_first v end lt)) ∙ rest)))

-- the lists of one more number
pub flat_map_more : {X : Type 0} (f : ℕ → List X) (k : ℕ) →
    flat_map f (range_with_len 0 (k + 1)) ≡ flat_map f (range_with_len 0 k) ++ f k
flat_map_more f k =
    ap (flat_map f) (range_split k 1 0 k (omega arith))
    ∙ (flat_map-append f (range_with_len 0 k) (k ∷ [])
    ∙ ap (λ ys. flat_map f (range_with_len 0 k) ++ ys) (append-nil (f k)))

-- a list that was read
pub list_read : (lists : List (Vec VertexId Global)) (k : ℕ) (list : Vec VertexId Global) → k < length lists →
    list ≡ get_or lists k list → map (λ v. v.0) list.items ≡ get_or (lists_of lists) k []
list_read lists k list lt is = ap (λ l. map (λ v. v.0) l.items) is
    ∙ sym (get_or-map (λ l. map (λ v. v.0) l.items) lists k list [] lt)
