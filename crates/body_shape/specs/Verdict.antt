-- Verdicts, as bytes and back.
use Rattle.std.specs.Prelude.{◌≡◌, ℕ, zero, suc, ℤ, Bool, true, List, [], ◌∷◌}
use Rattle.dep_layout.specs.Judgement.{words_in}
use Rattle.dep_layout.specs.Laws.{AreBytes}
use Rattle.vert_base.specs.declared.value.Ruling.{Ruling}
use Rattle.vert_base.specs.declared.value.Ruling.TheVariants.{Stop, Dense, Sparse}
use Rattle.body_shape.specs.declared.shape.BodyShape.TheVariants.{Verdict}
use Rattle.body_shape.specs.Fit.{is_fit}
use Rattle.body_shape.specs.Refresh.{IsWords, words_bytes}

-- what was judged: what happens next, and the totals of all vertices
pub record Judged : Type 0 where
  pub ruling : Ruling
  pub totals : List ℤ

abbrev pub ruling_byte : Ruling → ℕ
ruling_byte Stop = 0
ruling_byte Dense = 1
ruling_byte Sparse = 2

abbrev pub ruling_with : ℕ → Ruling
ruling_with zero = Stop
ruling_with (suc zero) = Dense
ruling_with (suc (suc n)) = Sparse

abbrev pub verdict_body : Judged → List ℕ
verdict_body j = ruling_byte j.ruling ∷ words_bytes j.totals

-- Stop where there is no byte
abbrev pub judged_read : ℕ → List ℕ → Judged
judged_read totals [] = record { ruling = Stop; totals = words_in totals [] }
judged_read totals (byte ∷ bytes) = record { ruling = ruling_with byte; totals = words_in totals bytes }

-- a program without a block doesn't rule so
abbrev pub may_be : Bool → Bool → Ruling → Bool
may_be dense sparse Stop = true
may_be dense sparse Dense = dense
may_be dense sparse Sparse = sparse

abbrev pub SuitsVerdict : Bool → Bool → ℕ → Judged → Type 0
SuitsVerdict dense sparse totals j = (may_be dense sparse j.ruling ≡ true) × IsWords totals j.totals

-- a verdict is read from what is spelled of it
abbrev pub VerdictReadsBack : Type 0
VerdictReadsBack = (totals : ℕ) (j : Judged) → IsWords totals j.totals → judged_read totals (verdict_body j) ≡ j

-- what is spelled of a verdict that suits a shape fits it
abbrev pub VerdictFits : Type 0
VerdictFits = (dense sparse : Bool) (totals : ℕ) (j : Judged) → SuitsVerdict dense sparse totals j →
    is_fit (Verdict dense sparse totals) (verdict_body j) ≡ true

-- the verdict of a body that fits suits its shape
abbrev pub VerdictSuits : Type 0
VerdictSuits = (dense sparse : Bool) (totals : ℕ) (body : List ℕ) → is_fit (Verdict dense sparse totals) body ≡ true →
    SuitsVerdict dense sparse totals (judged_read totals body)

-- a body that fits is the spelling of its verdict
abbrev pub VerdictIsSpelled : Type 0
VerdictIsSpelled = (dense sparse : Bool) (totals : ℕ) (body : List ℕ) → AreBytes body →
    is_fit (Verdict dense sparse totals) body ≡ true →
    verdict_body (judged_read totals body) ≡ body
