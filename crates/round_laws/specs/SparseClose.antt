-- The close of a sparse round at a vertex.
use Rattle.std.specs.Prelude.{◌≡◌, ◌≤◌, ◌<◌, ◌==◌, ◌&&◌, ℕ, ℤ, Bool, true, List, Some}
use Rattle.std.specs.List.{filter, flat_map}
use Rattle.vert_base.specs.declared.value.Ruling.TheVariants as ruling
use Rattle.vert_base.specs.Neighbours.{source, turn_of}
use Rattle.vert_tree.specs.declared.program.Sparse.{Sparse}
use Rattle.slot_merge.specs.declared.partial.Partial.{Partial}
use Rattle.slot_merge.specs.Combine.{words_for}
use Rattle.slot_merge.specs.Filled.{AreFilled}
use Rattle.vert_eval.specs.Rounds.{Scene, emitted_over, env_at, members_of, row_after, slot_ops}
use Rattle.instrument.specs.declared.split.Split.{Split}
use Rattle.symple_face.specs.CoreClose.{closed_row}
use Rattle.symple_face.specs.CoreSight.{none, program_of}
use Rattle.symple_face.specs.CoreSparse.{key_of}
use Rattle.symple_face.specs.Sight.{Sight}
use Rattle.round_laws.specs.Partials.{partial_ops}
use Rattle.round_laws.specs.Seen.{SeesScene, SeesVertex}

-- the words for each partial under each key: what the members with this key whose sends came make a vertex emit
abbrev pub push_buckets : Split → Sparse → Scene → ℕ → (ℕ → Bool) → ℕ → ℕ → List ℤ
push_buckets split sparse s v came place key =
    words_for place
    (flat_map (emitted_over s (slot_ops (program_of split)) sparse (env_at s v (none split)))
    (filter (λ e. key_of s.graph.vertices (turn_of s.graph.ends v) (source e) == key && came (source e))
    (members_of s.graph v)))

-- where all sends came, the close makes the source's row
abbrev pub ClosesSparse : Type 0
ClosesSparse =
    (split : Split) (sparse : Sparse) (g : Sight) (s : Scene) (v : ℕ) (ps : List Partial) →
    (program_of split).sparse ≡ Some sparse → SeesScene g s → SeesVertex g s v →
    turn_of s.graph.ends v ≤ s.graph.vertices → (came : ℕ → Bool) → ((u : ℕ) → u < s.graph.vertices → came u ≡ true) →
    AreFilled 0 (partial_ops split) (push_buckets split sparse s v came) s.graph.vertices ps →
    closed_row split g ps v ≡ row_after (program_of split) ruling.Sparse s v
