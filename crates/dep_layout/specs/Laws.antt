-- Each list of states has one spelling, and each spelling one list of states.
use Rattle.std.specs.Prelude.{◌≡◌, ◌<◌, ℕ, List, length}
use Rattle.std.specs.List.{All, AllByRecursion}
use Rattle.dep_layout.specs.Spelling.{State, IsState, Spells, spelled}
use Rattle.dep_layout.specs.Judgement.{FitsRing}

abbrev pub AreBytes : List ℕ → Type 0
AreBytes body = All (λ byte. byte < 256) body

-- what isn't refused spells states
abbrev pub AcceptedIsSpelled : Type 0
AcceptedIsSpelled = (width vertices bools : ℕ) (body : List ℕ) → AreBytes body → FitsRing width vertices bools body →
    (states : List State) × Spells width vertices bools body states

-- what spells states isn't refused
abbrev pub SpelledIsAccepted : Type 0
SpelledIsAccepted = (width vertices bools : ℕ) (body : List ℕ) (states : List State) →
    Spells width vertices bools body states → FitsRing width vertices bools body

-- no body spells two lists of states
abbrev pub SpelledOnce : Type 0
SpelledOnce = (width vertices bools : ℕ) (body : List ℕ) (a b : List State) → Spells width vertices bools body a →
    Spells width vertices bools body b → a ≡ b

-- what is spelled of states isn't refused, and spells no other states
abbrev pub ReadsBack : Type 0
ReadsBack = (width bools : ℕ) (states : List State) → AllByRecursion (IsState width bools) states →
    FitsRing width (length states) bools (spelled states) ×
    ((others : List State) → Spells width (length states) bools (spelled states) others → others ≡ states)
