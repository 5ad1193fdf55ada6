-- The members of a vertex in two pieces, one after the other.
use Rattle.std.proofs.Common.{◌≡◌, ℕ, ◌+◌, ◌≤◌, List, ◌++◌, map, length, take, sym, ap, ◌∙◌}
use Rattle.std.specs.List.{flat_map}
use Rattle.std.proofs.lemmas.Grind.{flat_map-append}
use Rattle.std.proofs.lemmas.List.{map-append, take-append-le}
use Rattle.std.proofs.Math.Seq.{take-append-add, take-length}
use Rattle.vert_base.specs.declared.graph.Edge.{Edge}
use Rattle.vert_base.specs.Neighbours.{source}
use Rattle.vert_tree.specs.declared.statement.Stmt.{Stmt}
use Rattle.slot_merge.specs.declared.partial.Partial.{Partial}
use Rattle.slot_merge.specs.Combine.{Emission}
use Rattle.slot_merge.specs.Partials.{with_emissions}
use Rattle.slot_merge.proofs.SlotLaws.{with_emissions-append}
use Rattle.vert_eval.specs.declared.environment.Env.{Env}
use Rattle.vert_eval.specs.declared.environment.Flow.TheVariants.{Going, Broke}
use Rattle.vert_eval.specs.Runs.{after}
use Rattle.vert_eval.specs.Rounds.{Scene, loop}
use Rattle.vert_eval.proofs.RunLaws.{followed-Broke, followed-Going, loop-append}

-- the first so many of two pieces
pub taken_first : (n : ℕ) (first rest : List Edge) → n ≤ length first →
    map source (take n first) ≡ map source (take n (first ++ rest))
taken_first n first rest le = ap (map source) (sym (take-append-le n first rest le))

pub taken_both : (n : ℕ) (first rest : List Edge) → map source first ++ map source (take n rest)
    ≡ map source (take (length first + n) (first ++ rest))
taken_both n first rest = sym (map-append source first (take n rest))
    ∙ ap (map source) (sym (take-append-add first rest n))

module _ (s : Scene) (body : List Stmt) (first rest : List Edge) (env : Env) where
  pub loop_broke : (loop s body first env).flow ≡ Broke → loop s body first env ≡ loop s body (first ++ rest) env
  loop_broke broke = sym (loop-append s body first rest env
      ∙ followed-Broke (loop s body first env) (loop s body rest) broke)

  module _ (left : Env) (goes : (loop s body first env).flow ≡ Going) (is : left ≡ (loop s body first env).env) where
    pub loop_going : after (loop s body first env) (loop s body rest left) ≡ loop s body (first ++ rest) env
    loop_going =
        ap (λ e. after (loop s body first env) (loop s body rest e)) is
        ∙ sym (loop-append s body first rest env ∙ followed-Going (loop s body first env) (loop s body rest) goes)

    pub going_partials :
        (ps qs rs : List Partial) → left.key ≡ env.key →
        qs ≡ with_emissions env.key ps (loop s body first env).emitted →
        rs ≡ with_emissions left.key qs (loop s body rest left).emitted →
        rs ≡ with_emissions env.key ps (loop s body (first ++ rest) env).emitted
    going_partials ps qs rs key begun more =
        more
        ∙ ap (λ k. with_emissions k qs (loop s body rest left).emitted) key
        ∙ ap (λ xs. with_emissions env.key xs (loop s body rest left).emitted) begun
        ∙ sym (with_emissions-append env.key ps (loop s body first env).emitted (loop s body rest left).emitted)
        ∙ ap (λ r. with_emissions env.key ps r.emitted) loop_going

    pub going_reads :
        (n m : ℕ) → n ≡ length first →
        map source (take n first) ≡ (loop s body first env).reads →
        map source (take m rest) ≡ (loop s body rest left).reads →
        map source (take (n + m) (first ++ rest)) ≡ (loop s body (first ++ rest) env).reads
    going_reads n m whole begun more =
        ap (λ k. map source (take (k + m) (first ++ rest))) whole
        ∙ sym (taken_both m first rest)
        ∙ ap (λ us. map source us ++ map source (take m rest)) (sym (take-length first))
        ∙ ap (λ k. map source (take k first) ++ map source (take m rest)) (sym whole)
        ∙ ap (λ us. us ++ map source (take m rest)) begun
        ∙ ap (λ us. (loop s body first env).reads ++ us) more
        ∙ ap (λ r. r.reads) loop_going

-- what two pieces make a vertex emit
pub piece_partials :
    (f : Edge → List Emission) (first rest : List Edge) (ps qs rs : List Partial) →
    qs ≡ with_emissions 0 ps (flat_map f first) →
    rs ≡ with_emissions 0 qs (flat_map f rest) →
    rs ≡ with_emissions 0 ps (flat_map f (first ++ rest))
piece_partials f first rest ps qs rs begun more =
    more
    ∙ ap (λ xs. with_emissions 0 xs (flat_map f rest)) begun
    ∙ sym (with_emissions-append 0 ps (flat_map f first) (flat_map f rest))
    ∙ ap (with_emissions 0 ps) (sym (flat_map-append f first rest))
