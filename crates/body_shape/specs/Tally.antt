-- Tallies, as bytes and back.
use Rattle.std.specs.Prelude.{◌≡◌, ℕ, ◌+◌, ◌^◌, ◌<◌, ℤ, true, List, ◌++◌, take, drop}
use Rattle.std.specs.Int.{w64, to_le_bytes}
use Rattle.dep_layout.specs.Judgement.{words_in}
use Rattle.dep_layout.specs.Laws.{AreBytes}
use Rattle.body_shape.specs.declared.shape.BodyShape.TheVariants.{Tally}
use Rattle.body_shape.specs.Fit.{number_of, is_fit}
use Rattle.body_shape.specs.Refresh.{IsWords, words_bytes}

-- what a machine counted: active vertices, active edges, reads, and the totals of its chunk
pub record Counted : Type 0 where
  pub active : ℕ
  pub edges : ℕ
  pub reads : ℕ
  pub totals : List ℤ

unfoldable pub number_bytes : ℕ → List ℕ
number_bytes n = to_le_bytes w64 n

abbrev pub tally_body : Counted → List ℕ
tally_body c = number_bytes c.active ++ (number_bytes c.edges ++ (number_bytes c.reads ++ words_bytes c.totals))

abbrev pub counted_read : ℕ → List ℕ → Counted
counted_read totals body =
    record {
      active = number_of (take 8 body);
      edges = number_of (take 8 (drop 8 body));
      reads = number_of (take 8 (drop 16 body));
      totals = words_in totals (drop 24 body);
    }

-- numbers below a bound, and so many totals
pub record IsCounted (bound size : ℕ) (c : Counted) : Type 0 where
  pub active : c.active < bound
  pub edges : c.edges < bound
  pub reads : c.reads < bound
  pub totals : IsWords size c.totals

-- counts that fit their bytes are read from what is spelled of them
abbrev pub TallyReadsBack : Type 0
TallyReadsBack = (totals : ℕ) (c : Counted) → IsCounted (2 ^ 64) totals c → counted_read totals (tally_body c) ≡ c

-- each number is at most 2 ^ 32
abbrev pub SuitsTally : ℕ → Counted → Type 0
SuitsTally totals c = IsCounted (1 + 2 ^ 32) totals c

-- what is spelled of counts that suit a shape fits it
abbrev pub TallyFits : Type 0
TallyFits = (totals : ℕ) (c : Counted) → SuitsTally totals c → is_fit (Tally totals) (tally_body c) ≡ true

-- the counts of a body that fits suit its shape
abbrev pub TallySuits : Type 0
TallySuits = (totals : ℕ) (body : List ℕ) → is_fit (Tally totals) body ≡ true →
    SuitsTally totals (counted_read totals body)

-- a body that fits is the spelling of its counts
abbrev pub TallyIsSpelled : Type 0
TallyIsSpelled = (totals : ℕ) (body : List ℕ) → AreBytes body → is_fit (Tally totals) body ≡ true →
    tally_body (counted_read totals body) ≡ body
