-- What a turn of the loop over members reads.
use Rattle.std.proofs.Common.{◌≡◌, ℕ, pos, ◌+◌, ◌<◌, List, [], ◌∷◌, ◌++◌, map, length, take, drop, get_or, sym, ap, ◌∙◌, append_assoc}
use Rattle.std.proofs.lemmas.List.{take_more, map-append}
use Rattle.vert_base.specs.declared.graph.Edge.{Edge}
use Rattle.vert_base.specs.Neighbours.{source}
use Rattle.vert_tree.specs.declared.statement.Stmt.{Stmt}
use Rattle.vert_eval.specs.declared.environment.Env.{Env}
use Rattle.vert_eval.specs.declared.environment.Flow.TheVariants.{Going, Broke}
use Rattle.vert_eval.specs.Rounds.{Scene, at_member, loop, member_act}
use Rattle.vert_eval.proofs.RunLaws.{turn_going, turn_broke}
use Rattle.vert_eval.proofs.FrameLaws.{run_reads}

-- an edge, where a list has none
abbrev pub some_edge : Edge
some_edge = record { from = record { 0 = 0 }; to = record { 0 = 0 }; weight = pos 0 }

module _ (s : Scene) (body : List Stmt) (members : List Edge) (i : ℕ) (m : Edge) (env : Env) (lt : i < length members)
    (is : m ≡ get_or members i m) where
  sources_more : map source (take (i + 1) members) ≡ map source (take i members) ++ source m ∷ []
  sources_more =
      ap (map source) (take_more members i m lt)
      ∙ map-append source (take i members) (get_or members i m ∷ [])
      ∙ ap (λ e. map source (take i members) ++ source e ∷ []) (sym is)

  member_reads : (member_act s body m env).reads ≡ source m ∷ []
  member_reads = ap (λ us. source m ∷ us) (run_reads body (at_member s m env))

  pub turn_reads :
      (left : Env) (total : List ℕ) →
      left ≡ (member_act s body m env).env →
      Going ≡ (member_act s body m env).flow →
      map source (take i members) ++ (loop s body (drop i members) env).reads ≡ total →
      map source (take (i + 1) members) ++ (loop s body (drop (i + 1) members) left).reads ≡ total
  turn_reads left total e goes h =
      let rest = loop s body (drop (i + 1) members) left in
      let begun = map source (take i members) in
      let whole = turn_going (member_act s body) members i m env lt is left e goes in
      ap (λ us. us ++ rest.reads) sources_more
      ∙ append_assoc begun (source m ∷ []) rest.reads
      ∙ ap (λ us. begun ++ (us ++ rest.reads)) (sym member_reads)
      ∙ ap (λ r. begun ++ r.reads) (sym whole)
      ∙ h

  pub broken_reads :
      (total : List ℕ) →
      Broke ≡ (member_act s body m env).flow →
      map source (take i members) ++ (loop s body (drop i members) env).reads ≡ total →
      map source (take (i + 1) members) ≡ total
  broken_reads total broke h =
      let begun = map source (take i members) in
      sources_more
      ∙ ap (λ us. begun ++ us) (sym member_reads)
      ∙ ap (λ r. begun ++ r.reads) (sym (turn_broke (member_act s body) members i m env lt is broke))
      ∙ h
