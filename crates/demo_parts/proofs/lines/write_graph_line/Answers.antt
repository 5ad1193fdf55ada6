use Rattle.std.proofs.Common.{◌≡◌, ◌++◌, List, ℕ, [], codes, ap, ◌∙◌}
use Rattle.array_text.proofs.WritesLaws.{writes_same}
use Rattle.demo_parts.proofs.lines.write_graph_line.Goals as goal

-- the pieces of the line
joined : (a b : List ℕ) → a ≡ b →
    codes "vertices 20000 edges 200000 machines " ++ (a ++ (codes "\n" ++ []))
    ≡ codes "vertices 20000 edges 200000 machines " ++ b ++ codes "\n"
joined a b is = ap (λ (text : List ℕ). codes "vertices 20000 edges 200000 machines " ++ (text ++ codes "\n")) is

pub returns : goal.returns
returns g c = writes_same (joined _ _ (c.as_bytes.ensures.value ∙ c.format.ensures.text)) c.put_pieces.ensures
