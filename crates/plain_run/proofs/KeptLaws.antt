-- What is kept of the reads of a round, vertex by vertex.
use Rattle.std.proofs.Common.{◌≡◌, ℕ, ◌+◌, ◌≤◌, Bool, true, false, List, [], ◌∷◌, ◌++◌, map, length, take, sym, ap, ◌∙◌, arith}
use Rattle.std.specs.Prelude.{if◌then◌else◌, sum}
use Rattle.std.specs.List.{range_with_len}
use Rattle.std.proofs.lemmas.List.{length-take-le, map-append}
use Rattle.std.proofs.lemmas.List.Sums.{sum_by_push}
use Rattle.std.proofs.lemmas.List.FromFn.{map-range_with_len_more}
use Rattle.std.proofs.Math.ListN.{length-map}
use Rattle.vert_base.specs.declared.graph.Edge.{Edge}
use Rattle.vert_base.specs.Neighbours.{source}
use Rattle.plain_run.specs.Told.{kept_reads, read_in}
use Rattle.plain_run.proofs.EnvLaws.{one_more}

-- the reads of one vertex more
pub kept_more :
    (kept : Bool) (f : ℕ → List ℕ) (v : ℕ) (old new : List (List ℕ)) (us : List ℕ) →
    old ≡ kept_reads kept (map f (range_with_len 0 v)) →
    us ≡ f v →
    new ≡ (if kept then old ++ us ∷ [] else old) →
    new ≡ kept_reads kept (map f (range_with_len 0 (v + 1)))
kept_more true f v old new us so_far here is = one_more f v old new us so_far here is
kept_more false f v old new us so_far here is = is ∙ so_far

-- how many sources were read
pub read_more :
    (f : ℕ → List ℕ) (v read more count : ℕ) (members : List Edge) →
    read ≡ read_in (map f (range_with_len 0 v)) →
    count ≤ length members →
    map source (take count members) ≡ f v →
    more ≡ read + count →
    more ≡ read_in (map f (range_with_len 0 (v + 1)))
read_more f v read more count members so_far le is e =
    let before = map f (range_with_len 0 v) in
    let one : count ≡ length (f v) = sym (length-map (take count members) source ∙ length-take-le count members le)
    ∙ ap length is in
    let next : read_in (map f (range_with_len 0 (v + 1))) ≡ read_in before + length (f v) =
    ap read_in (map-range_with_len_more f 0 v v (omega arith))
    ∙ (ap sum (map-append length before (f v ∷ [])) ∙ sum_by_push (λ x. x) (map length before) (length (f v))) in
    omega (arith, so_far, one, next, e)
