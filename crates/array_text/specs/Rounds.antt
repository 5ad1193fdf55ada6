-- The text of a round's report.
use Rattle.std.specs.Prelude.{ℕ, List, ◌++◌, codes, decimal}
use Rattle.vert_base.specs.declared.value.Ruling.{Ruling}
use Rattle.vert_base.specs.declared.value.Ruling.TheVariants.{Stop, Dense, Sparse}

abbrev pub ruling_text : Ruling → List ℕ
ruling_text Stop = codes "stop"
ruling_text Dense = codes "dense"
ruling_text Sparse = codes "sparse"

-- `round`, its number, the ruling, the active vertices, the edges and the reads
abbrev pub round_text : ℕ → Ruling → ℕ → ℕ → ℕ → List ℕ
round_text round ruling active edges reads =
    codes "round " ++ decimal round ++ codes " " ++ ruling_text ruling ++ codes " " ++ decimal active ++ codes " "
    ++ decimal edges ++ codes " " ++ decimal reads
    ++ codes "\n"
