-- The law of split loops: segments of a loop, each of which begins with what the one before it gave,
-- come to what the whole loop comes to.
use Rattle.std.specs.Prelude.{◌≡◌, ℕ, ℤ, List, [], ◌∷◌, ◌++◌, All, FitsSigned, Option, None, Some, bit_or, flat_map, length, slice_get, true, ⊤}
use Rattle.std.specs.Int.{bit_at, w64}
use Rattle.vert_base.specs.declared.graph.Edge.{Edge}
use Rattle.vert_base.specs.declared.value.Combine.{Combine}
use Rattle.vert_tree.specs.declared.program.Dense.{Dense}
use Rattle.vert_tree.specs.declared.program.Program.{Program}
use Rattle.vert_tree.specs.Typed.{is_typed}
use Rattle.carry_analysis.specs.declared.classes.Class.{Class}
use Rattle.carry_analysis.specs.declared.classes.Class.TheVariants.{Constant, Reduced, Carried}
use Rattle.carry_analysis.specs.Classes.{carried_in}
use Rattle.slot_merge.specs.Combine.{combined_of, neutral}
use Rattle.vert_eval.specs.declared.environment.Env.{Env}
use Rattle.vert_eval.specs.declared.environment.Flow.{Flow}
use Rattle.vert_eval.specs.declared.environment.Flow.TheVariants.{Going, Broke}
use Rattle.vert_eval.specs.Rounds.{Scene, loop}
use Rattle.vert_eval.specs.Runs.{Ran, leaves}
use Rattle.vert_eval.specs.Values.{word_at}
use Rattle.instrument.specs.declared.split.SplitLoop.{SplitLoop}
use Rattle.instrument.specs.Loops.{loop_split}
use Rattle.instrument.specs.Segments.{begun, given, only_lets, own_words}

-- the word of a let after a segment: of a reduced one that before it, combined with what the segment
-- leaves, of another one what the segment leaves
abbrev pub combined_word : Class → ℤ → ℤ → ℤ
combined_word (Reduced op) before x = combined_of op before x
combined_word Constant before x = x
combined_word Carried before x = x

abbrev pub combined_words : List Class → List ℤ → List ℤ → List ℤ
combined_words [] before words = words
combined_words (c ∷ cs) [] words = words
combined_words (c ∷ cs) (b ∷ before) [] = []
combined_words (c ∷ cs) (b ∷ before) (x ∷ xs) = combined_word c b x ∷ combined_words cs before xs

-- a word that a loop may leave in a let that has this word of its own: a constant let keeps its own
-- word, and what a reduced let has doesn't change where the neutral value is combined with it
abbrev pub IsLeft : Class → ℤ → ℤ → Type 0
IsLeft Constant own x = x ≡ own
IsLeft Carried own x = ⊤
IsLeft (Reduced op) own x = combined_of op x (neutral op) ≡ x

-- let by let, and as many words as lets
abbrev pub AreLeft : List Class → List ℤ → List ℤ → Type 0
AreLeft [] [] [] = ⊤
AreLeft (c ∷ cs) (o ∷ own) (x ∷ xs) = IsLeft c o x × AreLeft cs own xs
AreLeft [] (o ∷ own) xs = ⊥
AreLeft [] [] (x ∷ xs) = ⊥
AreLeft (c ∷ cs) [] xs = ⊥
AreLeft (c ∷ cs) (o ∷ own) [] = ⊥

-- a run with what a segment adds to it
abbrev pub with_segment : SplitLoop → Ran → Ran → Ran
with_segment split before part = record {
  env = record part.env {
    locals = record { items = combined_words split.classes.locals.items before.env.locals.items part.env.locals.items };
    touched = bit_or before.env.touched part.env.touched;
  };
  emitted = before.emitted ++ part.emitted;
  reads = before.reads ++ part.reads;
  flow = part.flow;
}

-- a run with what segments add to it, one after another
abbrev pub with_segments : SplitLoop → Ran → List Ran → Ran
with_segments split before [] = before
with_segments split before (part ∷ parts) = with_segments split (with_segment split before part) parts

-- two runs come to the same: the locals and their marks, the emissions, the reads and the end
pub record SameOutcome (a b : Ran) : Type 0 where
  pub locals : a.env.locals.items ≡ b.env.locals.items
  pub touched : a.env.touched ≡ b.env.touched
  pub emitted : a.emitted ≡ b.emitted
  pub reads : a.reads ≡ b.reads
  pub flow : a.flow ≡ b.flow

-- the loop over members, from the values that the lets have of their own
abbrev pub whole : Scene → Dense → Env → List Edge → Ran
whole s d env members = loop s d.body.items members (only_lets d.lets.items env)

-- a segment of the loop
abbrev pub segment : Scene → Dense → Env → Option (List ℤ) → List Edge → Ran
segment s d env received members = loop s d.body.items members (begun (loop_split d) d.lets.items received env)

abbrev pub unless_broke : Flow → List Ran → List Ran
unless_broke Broke rest = []
unless_broke Going rest = rest

-- segments over parts up to a break, each begun with what the one before it gave; a part without
-- members passes on what it received
abbrev pub segments : Scene → Dense → Env → Option (List ℤ) → List (List Edge) → List Ran
segments s d env received [] = []
segments s d env received ([] ∷ parts) = segments s d env received parts
segments s d env received ((e ∷ es) ∷ parts) =
    let part = segment s d env received (e ∷ es) in
    part ∷ unless_broke part.flow (segments s d env (Some (given (loop_split d) part.env)) parts)

-- where the loop over the first part goes on, a segment over the second, begun with what the first
-- gives, adds to it what the whole loop adds
abbrev pub GoesOn : Scene → Dense → Env → Type 0
GoesOn s d env =
    (first second : List Edge) →
    (whole s d env first).flow ≡ Going →
    SameOutcome
    (whole s d env (first ++ second))
    (with_segment (loop_split d) (whole s d env first)
    (segment s d env (Some (given (loop_split d) (whole s d env first).env)) second))

-- where it broke, the whole loop has come to its end
abbrev pub Ends : Scene → Dense → Env → Type 0
Ends s d env = (first second : List Edge) → (whole s d env first).flow ≡ Broke →
    whole s d env (first ++ second) ≡ whole s d env first

-- a segment that received nothing begins as one that received the carried lets' own words
abbrev pub BeginsWithOwn : Dense → Env → Type 0
BeginsWithOwn d env =
    let received = Some (given (loop_split d) (only_lets d.lets.items env)) in
    begun (loop_split d) d.lets.items None env ≡ begun (loop_split d) d.lets.items received env

-- what a segment gives is what the whole loop gives there
abbrev pub GivesOn : Dense → Type 0
GivesOn d = (before part : Ran) →
    given (loop_split d) (with_segment (loop_split d) before part).env ≡ given (loop_split d) part.env

-- a segment gives as many words as the carry has
abbrev pub GivesEachWord : Dense → Type 0
GivesEachWord d = (env : Env) → length env.locals.items ≡ length d.lets.items →
    length (given (loop_split d) env) ≡ carried_in (loop_split d).classes.locals.items

-- a segment leaves the neutral value in each reduced let that it doesn't mark
abbrev pub LeavesNeutral : Scene → Dense → Env → Type 0
LeavesNeutral s d env =
    (received : Option (List ℤ)) (members : List Edge) (i : ℕ) (op : Combine) →
    slice_get (loop_split d).classes.locals.items i ≡ Some (Reduced op) →
    bit_at (segment s d env received members).env.touched i ≡ 0 →
    word_at (segment s d env received members).env.locals.items i ≡ neutral op

-- whatever its members, the loop leaves in the lets words that their classes allow
abbrev pub LetsStay : Scene → Dense → Env → Type 0
LetsStay s d env =
    (members : List Edge) →
    AreLeft (loop_split d).classes.locals.items (own_words d.lets.items env) (whole s d env members).env.locals.items

-- the loop over all parts comes to what the segments add to the lets' own values, one after another
abbrev pub ComesTogether : Scene → Dense → Env → Type 0
ComesTogether s d env =
    (parts : List (List Edge)) →
    SameOutcome (whole s d env (flat_map (λ part. part) parts))
    (with_segments (loop_split d) (leaves (only_lets d.lets.items env)) (segments s d env None parts))

-- the dense block of a typed program at a vertex where the lets' own values are words of 64 bits
pub record IsSplit (p : Program) (d : Dense) (env : Env) : Type 0 where
  pub typed : is_typed p ≡ true
  pub dense : p.dense ≡ Some d
  pub words : All (FitsSigned w64) (own_words d.lets.items env)
