-- What the code holds, in the words of the meaning.
use Rattle.std.specs.Prelude.{◌≡◌, ◌<◌, ◌≤◌, ◌++◌, ℕ, List, length, All}
use Rattle.vert_base.specs.declared.graph.Edge.{Edge}
use Rattle.vert_base.specs.declared.limits.TheConstants.{ROUNDS}
use Rattle.vert_base.specs.declared.value.Row.{Row}
use Rattle.vert_base.specs.Neighbours.{source}
use Rattle.vert_tree.specs.declared.program.Program.{Program}
use Rattle.vert_tree.specs.Places.{Counts, round_counts}
use Rattle.vert_eval.specs.Rounds as meaning
use Rattle.plain_run.specs.declared.graph.Members.{Members}
use Rattle.plain_run.specs.declared.scene.Scene.{Scene}

abbrev pub members_in : Members → List Edge
members_in members = members.first.now ++ members.rest.now

-- the sources of the members are among n vertices
pub record AreInside (n : ℕ) (members : Members) : Type 0 where
  pub first : All (λ e. source e < n) members.first.now
  pub rest : All (λ e. source e < n) members.rest.now

abbrev pub scene_of : Scene → meaning.Scene
scene_of s = record {
  graph = s.graph.now;
  draws = s.draws;
  round = s.round;
  rows = s.rows.now;
  totals = s.totals.now;
}

abbrev pub program_of : Scene → Program
program_of s = s.program.now.program

-- the places for the expressions and blocks of a round
abbrev pub counts_in : Scene → Counts
counts_in s = round_counts (program_of s)

-- the edges into a vertex in the order of reading
abbrev pub members_at : Scene → ℕ → List Edge
members_at s v = meaning.members_of s.graph.now v

-- each row has so many words
abbrev pub AreWide : ℕ → List Row → Type 0
AreWide fields rows = All (λ r. length r.words.items ≡ fields) rows

-- what a round needs: of each vertex a row with a word for each field, and all totals
pub record IsReady (s : Scene) : Type 0 where
  pub rows : length s.rows.now ≡ s.graph.now.vertices
  pub wide : AreWide (length (program_of s).fields.items) s.rows.now
  pub totals : length s.totals.now ≡ length (program_of s).totals.items
  pub round : s.round ≤ ROUNDS
