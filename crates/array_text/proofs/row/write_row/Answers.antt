use Rattle.std.proofs.Common.{◌≡◌, ◌++◌, List, ℕ, ℤ, codes, ◌∙◌}
use Rattle.vert_tree.specs.declared.program.Decl.{Decl}
use Rattle.array_text.specs.Tables.{words_text}
use Rattle.array_text.proofs.WritesLaws.{writes_same, writes_failed, writes_then}
use Rattle.array_text.proofs.row.write_row.Goals as goal

same_front : (a b : List ℕ) (fs gs : List Decl) (ws vs : List ℤ) → a ≡ b → fs ≡ gs → ws ≡ vs →
    a ++ words_text fs ws ≡ b ++ words_text gs vs
same_front a b fs gs ws vs p q r = cc

pub returns-in_err-put_words : goal.returns-in_err-put_words
returns-in_err-put_words g c =
    writes_failed (codes "\n") c.from_residual-in_err-put_words.result c.from_residual-in_err-put_words.ensures.0
    (writes_same (same_front _ _ _ _ _ _ (c.as_bytes.ensures.value ∙ c.format.ensures.text)
    c.as_slice.ensures.value c.as_slice-2.ensures.value)
    (writes_then _ c.in_ok-put_all.ensures c.in_err-put_words.ensures))

pub returns : goal.returns
returns g c =
    writes_then _ (writes_same (same_front _ _ _ _ _ _ (c.as_bytes.ensures.value ∙ c.format.ensures.text)
    c.as_slice.ensures.value c.as_slice-2.ensures.value)
    (writes_then _ c.in_ok-put_all.ensures c.in_ok-put_words.ensures)) c.put_all-2.ensures
