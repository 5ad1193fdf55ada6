use Rattle.std.proofs.Common.{◌≡◌, ◌++◌, List, ℕ, [], codes, ◌∙◌, append_assoc}
use Rattle.array_text.proofs.WritesLaws.{writes_same}
use Rattle.array_text.proofs.round.write_round.Goals as goal

-- the pieces of a line
joined : (a b c d e : List ℕ) → codes "round "
    ++ (a ++ (codes " " ++ (b ++ (codes " "
    ++ (c ++ (codes " " ++ (d ++ (codes " " ++ (e ++ (codes "\n" ++ [])))))))))) ≡ codes "round " ++ a ++ codes " "
    ++ b ++ codes " " ++ c ++ codes " " ++ d ++ codes " " ++ e ++ codes "\n"
joined a b c d e = simp append_assoc

same_line : (a b c d e v w x y z : List ℕ) → a ≡ v → b ≡ w → c ≡ x → d ≡ y → e ≡ z →
    codes "round " ++ a ++ codes " " ++ b ++ codes " " ++ c ++ codes " " ++ d ++ codes " " ++ e ++ codes "\n"
    ≡ codes "round " ++ v ++ codes " " ++ w ++ codes " " ++ x ++ codes " " ++ y ++ codes " " ++ z ++ codes "\n"
same_line a b c d e v w x y z p q r s t = cc

pub returns : goal.returns
returns g c =
    writes_same
    (joined _ _ _ _ _
    ∙ same_line _ _ _ _ _ _ _ _ _ _ (c.as_bytes.ensures.value ∙ c.format.ensures.text) c.mode_word.ensures
    (c.as_bytes-2.ensures.value ∙ c.format-2.ensures.text) (c.as_bytes-3.ensures.value ∙ c.format-3.ensures.text)
    (c.as_bytes-4.ensures.value ∙ c.format-4.ensures.text))
    c.put_pieces.ensures
