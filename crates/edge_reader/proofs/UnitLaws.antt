use Rattle.std.proofs.Common.{◌≡◌, ℕ, suc, ◌+◌, ◌-◌, ◌*◌, ◌/◌, ◌<◌, ◌≤◌, List, [], ◌∷◌, length, take, drop, refl, ap, arith}
use Rattle.std.proofs.Math.Nat.{add-mul, div-eq_of_lt, div-eq-sub-div}
use Rattle.std.proofs.lemmas.List.{length-drop}
use Rattle.edge_reader.specs.EdgePairs.{first_units, units_of}

-- less than a unit is left
pub units_none : (size : ℕ) (bytes : List ℕ) → length bytes < size → units_of size bytes ≡ []
units_none size bytes short =
    let none : length bytes / size ≡ 0 = div-eq_of_lt short in
    rw none refl

-- the first unit and the others
pub units_next : (size : ℕ) (bytes : List ℕ) → 0 < size → size ≤ length bytes →
    units_of size bytes ≡ take size bytes ∷ units_of size (drop size bytes)
units_next size bytes some fits =
    let rest = length (drop size bytes) / size in
    let one_less : length bytes / size ≡ (length bytes - size) / size + 1 = div-eq-sub-div some fits in
    let same : rest ≡ (length bytes - size) / size = ap (λ q. q / size) (length-drop size bytes) in
    let more : length bytes / size ≡ suc rest = omega (arith, one_less, same) in
    ap (λ q. first_units size q bytes) more

-- a unit further on
pub place_next : (number size left behind whole : ℕ) → number * size + left ≡ whole → behind + size ≡ left →
    (number + 1) * size + behind ≡ whole
place_next number size left behind whole before shorter =
    let place : (number + 1) * size ≡ number * size + 1 * size = add-mul number 1 size in
    omega (arith, place, before, shorter)
