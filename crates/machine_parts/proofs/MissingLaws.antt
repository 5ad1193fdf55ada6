-- The first message that is needed and not held.
use Rattle.std.proofs.Common.{◌≡◌, ℕ, zero, suc, ◌+◌, ◌-◌, ◌*◌, ◌<◌, ◌≤◌, Bool, true, false, cond, Some, None, List, [], ◌∷◌, length, drop, map, refl, ap, sym, ◌∙◌, arith, ⊎_elim, length-append}
use Rattle.std.specs.Prelude.{◌==◌, ◌&&◌, is_some, nat_lt, slice_get}
use Rattle.std.specs.List.{flat_map, range_with_len}
use Rattle.std.proofs.lemmas.List.{drop_all, drop_more}
use Rattle.std.proofs.lemmas.Option.{get_or_from_slice_get, slice_get_cases, slice_get_within}
use Rattle.vert_base.specs.declared.message.Name.{Name}
use Rattle.vert_base.specs.Letters.{Letter, found}
use Rattle.circulant_plan.specs.declared.spot.Ring.{Ring}
use Rattle.circulant_plan.specs.declared.spot.Spot.{Spot}
use Rattle.circulant_plan.specs.declared.spot.Spot.TheVariants.{Tell, Judge, Begin, Scan, Close, Over}
use Rattle.circulant_plan.specs.Names.{dep_name, push_name, refresh_name, tally_name, update_name, verdict_name}
use Rattle.circulant_plan.specs.Ring.{before_machine, chunk_of, order_of}
use Rattle.circulant_plan.specs.Table.{name_if, needs_of, others_of}
use Rattle.circulant_plan.proofs.CountLaws.{length-map_others}
use Rattle.symple_face.specs.State.{first_missing}

few_either : (b : Bool) (n : ℕ) (xs ys : List Name) → length xs ≤ n → length ys ≤ n → length (cond b xs ys) ≤ n
few_either true n xs ys few few' = few
few_either false n xs ys few few' = few'

few_if : (b : Bool) (x : Name) → length (name_if b x) ≤ 1
few_if true x = omega arith
few_if false x = omega arith

two_each : (f g : ℕ → Name) (a n : ℕ) → length (flat_map (λ s. f s ∷ g s ∷ []) (range_with_len a n)) ≡ 2 * n
two_each f g a zero = refl
two_each f g a (suc n) = let more = two_each f g (a + 1) n in omega arith

-- at a spot at most two messages are needed of each machine
pub needs_few : (ring : Ring) (m : ℕ) (spot : Spot) → m < ring.machines
    → length (needs_of ring m spot) ≤ 2 * ring.machines
needs_few ring m Tell lt = omega arith
needs_few ring m (Judge r) lt =
    few_either (m == 0) (2 * ring.machines) (map (tally_name r) (others_of ring.machines 0)) []
    (omega (arith, length-map_others (tally_name r) ring.machines 0 (omega arith))) (omega arith)
needs_few ring m (Begin r) lt = few_either (m == 0) (2 * ring.machines) [] (verdict_name r m ∷ []) (omega arith)
    (omega arith)
needs_few ring m (Scan r s h) lt =
    let rows : Bool = nat_lt s (ring.machines - 1) in
    let row : Name = refresh_name r (chunk_of m s ring.machines) m in
    let state : Bool = ring.carry && nat_lt 0 s in
    let dep : Name = dep_name r (s - 1) h (before_machine m ring.machines) m in
    omega (arith, length-append (name_if rows row) (name_if state dep), few_if rows row, few_if state dep)
needs_few ring m (Close r true) lt =
    omega (
      arith,
      two_each (λ s. update_name r s 0 (order_of m s ring.machines) m)
          (λ s. update_name r s 1 (order_of m s ring.machines) m) 0 (ring.machines - 1),
    )
needs_few ring m (Close r false) lt = omega (arith, length-map_others (λ k. push_name r k m) ring.machines m lt)
needs_few ring m Over lt = omega arith

module _ (xs : List Name) (held : List Letter) (i : ℕ) (x : Name) (there : slice_get xs i ≡ Some x) where
  opens : drop i xs ≡ x ∷ drop (i + 1) xs
  opens = drop_more xs i x (slice_get_within xs i x there)
      ∙ ap (λ y. y ∷ drop (i + 1) xs) (get_or_from_slice_get xs i x x there)

  pub missing_here : is_some (found x held) ≡ false → first_missing (drop i xs) held ≡ Some x
  missing_here none = ap (λ ys. first_missing ys held) opens
      ∙ ap (λ b. cond b (first_missing (drop (i + 1) xs) held) (Some x)) none

  pub missing_later : is_some (found x held) ≡ true → first_missing (drop i xs) held
      ≡ first_missing (drop (i + 1) xs) held
  missing_later some = ap (λ ys. first_missing ys held) opens
      ∙ ap (λ b. cond b (first_missing (drop (i + 1) xs) held) (Some x)) some

pub missing_none : (xs : List Name) (held : List Letter) (i : ℕ) → slice_get xs i ≡ None
    → first_missing (drop i xs) held ≡ None
missing_none xs held i none =
    ⊎_elim
    (λ there. let both : Some there.0 ≡ None = sym there.2 ∙ none in cc)
    (λ past. ap (λ ys. first_missing ys held) (drop_all i xs past.0))
    (slice_get_cases xs i).1
