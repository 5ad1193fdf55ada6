-- The first worlds of runs of one program on one graph are one.
use Rattle.std.proofs.Common.{◌≡◌, ℕ, true, List, Option, refl, sym, ap, ◌∙◌}
use Rattle.std.specs.Prelude.{option_map}
use Rattle.std.proofs.Math.Bool.{Bool-set}
use Rattle.std.proofs.Math.Path.{path_j, path_j'}
use Rattle.instrument.specs.declared.split.Split.{Split}
use Rattle.instrument.specs.Loops.{loop_split}
use Rattle.instrument.specs.declared.split.SplitLoop.{SplitLoop}
use Rattle.edge_reader.specs.EdgeList.{Graph}
use Rattle.symple_face.specs.Cluster.{World, first_world}
use Rattle.symple_face.specs.Parts.{PlainPart}
use Rattle.symple_face.specs.PartsOf.{parts_of}
use Rattle.symple_face.specs.Work.{Work}
use Rattle.machine_runs.specs.PlainPlays.{IsFirstWorld}
use Rattle.machine_runs.specs.RunParts.{IsRunOf}
use Rattle.vert_base.specs.declared.graph.Edge.{Edge}
use Rattle.vert_tree.specs.declared.typed.Typed.{Typed}
use Rattle.vert_tree.specs.declared.program.Program.{Program}
use Rattle.vert_tree.specs.Typed.{is_typed}

-- a typed program is settled by the program
typed_alone : (p : Program) (a b : is_typed p ≡ true) →
    ◌≡◌ {A = Typed} (record { program = p; typed = a }) (record { program = p; typed = b })
typed_alone p a b = ap (λ (is : is_typed p ≡ true). record { program = p; typed = is }) (Bool-set _ _ a b)

typed_at : (p q : Program) → p ≡ q → (x : is_typed p ≡ true) (y : is_typed q ≡ true) →
    ◌≡◌ {A = Typed} (record { program = p; typed = x }) (record { program = q; typed = y })
typed_at p q same = path_j (λ (q : Program) (is : p ≡ q). (x : is_typed p ≡ true) (y : is_typed q ≡ true) →
    ◌≡◌ {A = Typed} (record { program = p; typed = x }) (record { program = q; typed = y })) (typed_alone p) same

typed_same : (a b : Typed) → a.program ≡ b.program → a ≡ b
typed_same a b same = typed_at a.program b.program same a.typed b.typed

-- a split is settled by its program, since its loop is a function of it
abbrev split_of : Typed → Split
split_of t = record { program = t; dense = option_map loop_split t.program.dense; split = refl }

split_is : (t : Typed) (d : Option SplitLoop) (is : d ≡ option_map loop_split t.program.dense) →
    ◌≡◌ {A = Split} (record { program = t; dense = d; split = is }) (split_of t)
split_is t d is = path_j' (λ (d : Option SplitLoop) (is : d ≡ option_map loop_split t.program.dense).
    ◌≡◌ {A = Split} (record { program = t; dense = d; split = is }) (split_of t)) refl is

pub splits_are_one : (a b : Split) → a.program.program ≡ b.program.program → a ≡ b
splits_are_one a b same =
    split_is a.program a.dense a.split
    ∙ ap split_of (typed_same a.program b.program same)
    ∙ sym (split_is b.program b.dense b.split)

-- the parts are those of the ends, the edges and the draws
pub parts_same : (machines draws : ℕ) (graph : Graph) (a b : List PlainPart) → IsRunOf machines draws graph a →
    IsRunOf machines draws graph b → a ≡ b
parts_same machines draws graph a b of also =
    of.one.parts_are
    ∙ ap (λ (ends : List ℕ). parts_of ends of.one.draws of.one.edges) (of.ends_are ∙ sym also.ends_are)
    ∙ ap (λ (n : ℕ). parts_of also.one.ends n of.one.edges) (of.draws_are ∙ sym also.draws_are)
    ∙ ap (λ (list : List Edge). parts_of also.one.ends also.one.draws list) (of.edges_are ∙ sym also.edges_are)
    ∙ sym also.one.parts_are

module _ (work : Work) (program : Program) (graph : Graph) (machines draws : ℕ) (v w : World) where
  pub first_same : IsFirstWorld work program graph machines draws v →
      IsFirstWorld work program graph machines draws w → v ≡ w
  first_same a b =
      a.here
      ∙ ap (λ (split : Split). first_world work split a.parts)
      (splits_are_one a.split b.split (a.program_is ∙ sym b.program_is))
      ∙ ap (λ (parts : List PlainPart). first_world work b.split parts)
      (parts_same machines draws graph a.parts b.parts a.of_graph b.of_graph)
      ∙ sym b.here
