-- A dense round by the machines of a chunk is that of the source.
use Rattle.std.proofs.Common.{◌≡◌, ◌<◌, ◌+◌, ℕ, suc, ℤ, true, List, [], ◌∷◌, ◌++◌, map, filter, refl, sym, ap, ◌∙◌, arith}
use Rattle.std.specs.Prelude.{◌==◌, option_to_list, if◌then◌else◌}
use Rattle.std.specs.List.{flat_map, range_with_len}
use Rattle.std.proofs.lemmas.Bool.{eq-eqb}
use Rattle.std.proofs.lemmas.List.{map-append}
use Rattle.std.proofs.lemmas.List.Elements.{filter-append}
use Rattle.vert_base.specs.declared.graph.Edge.{Edge}
use Rattle.vert_base.specs.declared.value.Combine.{Combine}
use Rattle.vert_base.specs.declared.value.Ruling.TheVariants as ruling
use Rattle.vert_base.specs.Neighbours.{ins_of}
use Rattle.vert_tree.specs.declared.program.Dense.{Dense}
use Rattle.vert_tree.specs.declared.program.Program.{Program}
use Rattle.slot_merge.specs.Combine.{Emission, combined, words_for}
use Rattle.slot_merge.proofs.CombineLaws.{both_of, combined-append, combined-parts}
use Rattle.slot_merge.proofs.FillLaws.{has_value}
use Rattle.vert_eval.specs.declared.environment.Env.{Env}
use Rattle.vert_eval.specs.Rounds.{Scene, dense_block, dense_part, env_at, gathered, members_of, no_values, slot_ops}
use Rattle.vert_eval.specs.Runs.{Ran, leaves, run}
use Rattle.vert_eval.specs.Values.{value_of}
use Rattle.vert_eval.specs.Words.{is_set}
use Rattle.circulant_plan.specs.Ring.{AreEndsUpTo, IsInChunk, members_by_steps}
use Rattle.circulant_plan.proofs.ReadingLaws.{not_below, reads_in_turn}
use Rattle.circulant_plan.proofs.SpanLaws.{is_below}
use Rattle.instrument.specs.Continued.{IsSplit, whole}
use Rattle.symple_face.specs.Ring.{machine_ran}
use Rattle.round_laws.specs.DenseRound.{RoundByMachines, dense_bucket}
use Rattle.round_laws.proofs.Ranges.{joined_more, same_below}
use Rattle.round_laws.proofs.Steps.{by_machines}

pub words_for-append : (slot : ℕ) (es fs : List Emission) →
    words_for slot (es ++ fs) ≡ words_for slot es ++ words_for slot fs
words_for-append slot es fs =
    ap (map (λ (e : Emission). e.word)) (filter-append (λ (e : Emission). e.slot == slot) es fs)
    ∙ map-append (λ (e : Emission). e.word) (filter (λ (e : Emission). e.slot == slot) es)
    (filter (λ (e : Emission). e.slot == slot) fs)

pub words_for-joined : {X : Type 0} (slot : ℕ) (f : X → List Emission) (ks : List X) →
    words_for slot (flat_map f ks) ≡ flat_map (λ k. words_for slot (f k)) ks
words_for-joined slot f [] = refl
words_for-joined slot f (k ∷ ks) =
    words_for-append slot (f k) (flat_map f ks) ∙ ap (λ l. words_for slot (f k) ++ l) (words_for-joined slot f ks)

-- words that are combined in parts, and others behind them, come to what all come to
pub parts_then : (op : Combine) (f : ℕ → List ℤ) (ks : List ℕ) (rest : List ℤ) →
    combined op (flat_map (λ k. option_to_list (combined op (f k))) ks ++ rest) ≡ combined op (flat_map f ks ++ rest)
parts_then op f ks rest =
    combined-append op (flat_map (λ k. option_to_list (combined op (f k))) ks) rest
    ∙ ap (λ o. both_of op o (combined op rest)) (combined-parts op f ks)
    ∙ sym (combined-append op (flat_map f ks) rest)

-- the words that the machines of the steps combine, and behind them those of the tail, come to what the source combines
module _ (program : Program) (d : Dense) (s : Scene) (p c v : ℕ) where
  pub round_words : let env : Env = env_at s v (no_values (slot_ops program)) in IsSplit program d env →
      is_set (value_of d.when_test env) ≡ true → AreEndsUpTo s.graph.vertices p s.graph.ends → c < p →
      IsInChunk s.graph.ends c v → (op : Combine) (slot : ℕ) →
      combined op (flat_map (λ k. option_to_list (combined op (words_for slot (machine_ran s d env s.graph.ends
      p c (ins_of s.graph.vertices s.graph.edges v) k).emitted))) (range_with_len 0 p) ++ words_for slot (run
      d.tail.items (whole s d env (members_of s.graph v)).env).emitted) ≡ combined op (words_for slot
      (gathered program ruling.Dense s v).emitted)
  round_words split test are within lies op slot =
      let env : Env = env_at s v (no_values (slot_ops program)) in
      let ins : List Edge = ins_of s.graph.vertices s.graph.edges v in
      let all : List Edge = members_of s.graph v in
      let looped : Ran = whole s d env all in
      let tail : List ℤ = words_for slot (run d.tail.items looped.env).emitted in
      let emits : ℕ → List Emission = λ k. (machine_ran s d env s.graph.ends p c ins k).emitted in
      let steps : List ℕ = range_with_len 0 p in
      let order : members_by_steps s.graph.ends p c 0 p ins ≡ all =
      reads_in_turn s.graph.vertices p c v s.graph.ends s.graph.edges are within lies in
      let by_steps : looped.emitted ≡ flat_map emits steps =
      ap (λ l. (whole s d env l).emitted) (sym order)
      ∙ (by_machines s d env program split s.graph.ends p c p ins).emitted in
      let there : dense_part s program.dense all env ≡ dense_block s d all env =
      ap (λ o. dense_part s o all env) split.dense ∙ ap (λ b. if b then dense_block s d all env else leaves env)
      test in
      parts_then op (λ k. words_for slot (emits k)) steps tail
      ∙ ap (λ l. combined op (l ++ tail)) (sym (words_for-joined slot emits steps) ∙ ap (words_for slot) (sym
      by_steps))
      ∙ sym (ap (combined op) (ap (λ r. words_for slot r.emitted) there
      ∙ words_for-append slot looped.emitted (run d.tail.items looped.env).emitted))

pub round_by_machines : RoundByMachines
round_by_machines program d s p c v split test are within lies op slot q filled =
    let env : Env = env_at s v (no_values (slot_ops program)) in
    let ins : List Edge = ins_of s.graph.vertices s.graph.edges v in
    let tail : List ℤ = words_for slot (run d.tail.items (whole s d env (members_of s.graph v)).env).emitted in
    let combines : ℕ → List ℤ = λ k. option_to_list
    (combined op (words_for slot (machine_ran s d env s.graph.ends p c ins k).emitted)) in
    let bucket : ℕ → List ℤ = dense_bucket op slot s d env p c v in
    let steps : List ℕ = range_with_len 0 p in
    let one : p + 1 ≡ suc p = omega arith in
    let last : bucket p ≡ tail =
    ap (λ b. if b then combines p else if p == p then tail else []) (not_below p p (omega arith))
    ∙ ap (λ b. if b then tail else []) (eq-eqb p p refl) in
    let below : flat_map bucket steps ≡ flat_map combines steps =
    same_below bucket combines p (λ k lt. ap (λ b. if b then combines k else if k == p then tail else [])
    (is_below k p lt)) in
    has_value op bucket (p + 1) q filled
    ∙ ap (combined op) (ap (λ k. flat_map bucket (range_with_len 0 k)) one ∙ joined_more bucket p
    ∙ ap (λ l. l ++ bucket p) below ∙ ap (λ l. flat_map combines steps ++ l) last)
    ∙ round_words program d s p c v split test are within lies op slot
