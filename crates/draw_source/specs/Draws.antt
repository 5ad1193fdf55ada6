-- The word that a vertex draws.
use Rattle.std.specs.Prelude.{ℕ, ◌+◌, ◌*◌, ◌^◌}
use Rattle.rand_pcg.specs.Lcg.{started, increment_of}
use Rattle.rand_pcg.specs.Pcg.{multiplier_64, output_xsh_rr}

-- the word that a vertex draws in a round for a tag
unfoldable pub draw_word : ℕ → ℕ → ℕ → ℕ → ℕ
draw_word draws round v tag =
    output_xsh_rr (started 64 multiplier_64 draws (increment_of 64 (round * 2 ^ 32 + v * 2 ^ 8 + tag))).state
