-- Each vertex lies in one chunk.
use Rattle.std.proofs.Common.{◌≡◌, ℕ, zero, suc, ◌-◌, ◌<◌, ◌≤◌, true, List, length, refl, subst, arith, ⊎_elim}
use Rattle.std.specs.Prelude.{slice_index}
use Rattle.std.proofs.lemmas.Bool.{cases_lt}
use Rattle.circulant_plan.specs.Ring.{lies_in}
use Rattle.vert_base.specs.Ends.{start_of}
use Rattle.symple_face.proofs.ChunkLaws.{lies_is, one_chunk}
use Rattle.round_laws.specs.Chunks.{EachHasAChunk, EndsReach, NoneHasTwo}

pub ends_reach : EndsReach
ends_reach most ends are = record { some = are.0; count = refl; rises = are.2; last = refl }

-- what is before the start of a chunk lies in one before it
chunk_before :
    (ends : List ℕ) (v m : ℕ) → m ≤ length ends → v < start_of ends m →
    (k : ℕ) × (k < length ends) × (lies_in ends k v ≡ true)
chunk_before ends v zero le lt = absurd (omega arith)
chunk_before ends v (suc m) le lt =
    ⊎_elim
    (λ (below : v < start_of ends m). chunk_before ends v m (omega arith) below)
    (λ (here : start_of ends m ≤ v).
    let within : m < length ends = omega arith in
    (m, within, lies_is (start_of ends m) (slice_index ends m) v here lt))
    (cases_lt v (start_of ends m))

pub each_has_a_chunk : EachHasAChunk
each_has_a_chunk most ends v are lt =
    let some : suc (length ends - 1) ≡ length ends = let h = are.0 in omega arith in
    chunk_before ends v (length ends) (omega arith) (subst (λ q. v < start_of ends q) some lt)

pub none_has_two : NoneHasTwo
none_has_two most ends k m v are kin min at_k at_m = one_chunk most ends are k m v kin min at_k at_m
