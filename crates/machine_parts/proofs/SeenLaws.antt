-- An own vertex is entered as it is seen.
use Rattle.std.proofs.Common.{◌≡◌, ℕ, zero, suc, ◌+◌, ◌<◌, pos, false, [], ◌∷◌, get_or, length, map, refl, ap, ◌∙◌, arith}
use Rattle.std.specs.Prelude.{if◌then◌else◌, sum}
use Rattle.std.specs.List.{range_with_len}
use Rattle.vert_base.specs.declared.value.Row.{Row}
use Rattle.graph_table.proofs.FilterLaws.{all_range, map_same}
use Rattle.slot_merge.specs.Combine.{total_of}
use Rattle.vert_eval.specs.Values.{value_of}
use Rattle.symple_face.specs.Sight.{seen_env}
use Rattle.machine_parts.specs.Counting.{edges_at, own_env}
use Rattle.machine_parts.specs.Neighbours.{no_degree}
use Rattle.machine_parts.specs.Seen.{OwnEdgesAreSeen, OwnIsSeen, OwnTotalIsSeen}

pub own_is_seen : OwnIsSeen
own_is_seen g rows degrees start i values env shows lt = λ j. record {
  id = record { 0 = start + i };
  n = shows.n j;
  round = shows.round j;
  indeg = shows.ins i lt j;
  outdeg = shows.outs i lt j;
  draws = shows.draws j;
  row = shows.row i lt j;
  next_active = false;
  locals = record { items = [] };
  touched = 0;
  other = record {
    id = record { 0 = start + i };
    weight = pos 0;
    indeg = shows.ins i lt j;
    outdeg =
        shows.outs i lt j;
  };
  other_row = shows.row i lt j;
  sends = record { items = [] };
  slots = record { items = shows.slots j };
  totals = record { items = shows.totals j };
  key = 0;
}

-- a list over numbers from 0 on, told by those from another one on
range_moved : {X : Type 0} (f : ℕ → X) (start a n : ℕ) → map (λ i. f (start + i)) (range_with_len a n) ≡
    map f (range_with_len (start + a) n)
range_moved f start a zero = refl
range_moved f start a (suc n) =
    let next : start + (a + 1) ≡ start + a + 1 = omega arith in
    ap (λ xs. f (start + a) ∷ xs) (range_moved f start (a + 1) n ∙ ap (λ k. map f (range_with_len k n)) next)

-- what is told of each own vertex by its place, told by its number
by_number : {X : Type 0} (f g : ℕ → X) (start n : ℕ) → ((i : ℕ) → i < n → f i ≡ g (start + i)) →
    map f (range_with_len 0 n) ≡ map g (range_with_len start n)
by_number f g start n same =
    let here : start + 0 ≡ start = omega arith in
    map_same f (λ i. g (start + i)) (range_with_len 0 n)
    (all_range (λ i. f i ≡ g (start + i)) 0 n (λ i low high. same i (omega arith)))
    ∙ range_moved g start 0 n
    ∙ ap (λ k. map g (range_with_len k n)) here

pub own_total_is_seen : OwnTotalIsSeen
own_total_is_seen g rows degrees start values env t shows =
    ap (total_of t.op)
    (by_number (λ i. value_of t.value (own_env rows degrees start env i))
    (λ v. value_of t.value (seen_env g v 0 values)) start (length rows)
    (λ i lt. ap (value_of t.value) (own_is_seen g rows degrees start i values env shows lt)))

pub own_edges_are_seen : OwnEdgesAreSeen
own_edges_are_seen g rows degrees start values env shows =
    ap sum
    (by_number (edges_at rows degrees) (λ v. if (g.row v).active then g.outs v else 0) start (length rows)
    (λ i lt.
    ap (λ (r : Row). if r.active then (get_or degrees i no_degree).outs else 0) (shows.row i lt)
    ∙ ap (λ outs. if (g.row (start + i)).active then outs else 0) (shows.outs i lt)))
