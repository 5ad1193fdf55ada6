-- The table of actions: what each spot needs and sends, in order, and which spot is next.
use Rattle.std.specs.Prelude.{ℕ, ◌+◌, ◌-◌, ◌==◌, ◌&&◌, nat_lt, Bool, true, false, if◌then◌else◌, List, [], ◌∷◌, ◌++◌, map}
use Rattle.std.specs.List.{flat_map, range_with_len}
use Rattle.vert_base.specs.declared.message.Name.{Name}
use Rattle.vert_base.specs.declared.value.Ruling.{Ruling}
use Rattle.vert_base.specs.declared.value.Ruling.TheVariants.{Stop, Dense, Sparse}
use Rattle.circulant_plan.specs.declared.spot.Ring.{Ring}
use Rattle.circulant_plan.specs.declared.spot.Spot.{Spot}
use Rattle.circulant_plan.specs.declared.spot.Spot.TheVariants.{Tell, Judge, Begin, Scan, Close, Over}
use Rattle.circulant_plan.specs.Names.{refresh_name, dep_name, update_name, push_name, tally_name, verdict_name}
use Rattle.circulant_plan.specs.Ring.{order_of, chunk_of, after_machine, before_machine}

-- the machines other than m of p, ascending
abbrev pub others_of : ℕ → ℕ → List ℕ
others_of p m = range_with_len 0 m ++ range_with_len (m + 1) (p - 1 - m)

-- this name, where it is so
abbrev pub name_if : Bool → Name → List Name
name_if b x = if b then x ∷ [] else []

-- the updates of a round to machine m: by step, and within a step by half
abbrev pub updates_to : ℕ → ℕ → ℕ → List Name
updates_to p r m =
    flat_map (λ s. update_name r s 0 (order_of m s p) m ∷ update_name r s 1 (order_of m s p) m ∷ [])
    (range_with_len 0 (p - 1))

-- what machine m needs at a spot
abbrev pub needs_of : Ring → ℕ → Spot → List Name
needs_of ring m Tell = []
needs_of ring m (Judge r) = if m == 0 then map (tally_name r) (others_of ring.machines 0) else []
needs_of ring m (Begin r) = if m == 0 then [] else verdict_name r m ∷ []
needs_of ring m (Scan r s h) =
    name_if (nat_lt s (ring.machines - 1)) (refresh_name r (chunk_of m s ring.machines) m)
    ++ name_if (ring.carry && nat_lt 0 s) (dep_name r (s - 1) h (before_machine m ring.machines) m)
needs_of ring m (Close r true) = updates_to ring.machines r m
needs_of ring m (Close r false) = map (λ k. push_name r k m) (others_of ring.machines m)
needs_of ring m Over = []

-- the tally of machine m, which machine 0 keeps to itself
abbrev pub tally_gives : ℕ → ℕ → List Name
tally_gives m r = if m == 0 then [] else tally_name r m ∷ []

-- what machine m sends where it begins round r by this ruling
abbrev pub begin_gives : ℕ → ℕ → ℕ → Ruling → List Name
begin_gives p m r Stop = []
begin_gives p m r Dense = map (refresh_name r m) (others_of p m)
begin_gives p m r Sparse = map (push_name r m) (others_of p m)

-- what machine m sends at a spot, by the ruling of the spot's round
abbrev pub gives_of : Ring → ℕ → Spot → Ruling → List Name
gives_of ring m Tell ruling = tally_gives m 0
gives_of ring m (Judge r) ruling = if m == 0 then map (verdict_name (r + 1)) (others_of ring.machines 0) else []
gives_of ring m (Begin r) ruling = begin_gives ring.machines m r ruling
gives_of ring m (Scan r s h) ruling =
    if nat_lt s (ring.machines - 1)
    then update_name r s h m (chunk_of m s ring.machines)
    ∷ name_if ring.carry (dep_name r s h m (after_machine m ring.machines))
    else []
gives_of ring m (Close r dense) ruling = tally_gives m r
gives_of ring m Over ruling = []

-- the spot after begin(r), by the ruling of round r
abbrev pub after_begin : ℕ → Ruling → Spot
after_begin r Stop = Over
after_begin r Dense = Scan r 0 0
after_begin r Sparse = Close r false

-- the spot after judge(r), by the ruling that it makes for round r + 1
abbrev pub after_judge : ℕ → Ruling → Spot
after_judge r Stop = Over
after_judge r Dense = Begin (r + 1)
after_judge r Sparse = Begin (r + 1)

-- the spot of machine m after the action of a spot. The ruling is that of the spot's round, at a judge the one
-- that it makes
abbrev pub next_spot : Ring → ℕ → Spot → Ruling → Spot
next_spot ring m Tell ruling = if m == 0 then Judge 0 else Begin 1
next_spot ring m (Judge r) ruling = after_judge r ruling
next_spot ring m (Begin r) ruling = after_begin r ruling
next_spot ring m (Scan r s h) ruling =
    if h == 0 then Scan r s 1 else if nat_lt s (ring.machines - 1) then Scan r (s + 1) 0 else Close r true
next_spot ring m (Close r dense) ruling = if m == 0 then Judge r else Begin (r + 1)
next_spot ring m Over ruling = Over
