-- How a segment of a dense loop begins, and what it hands on.
use Rattle.std.specs.Prelude.{ℤ, List, [], ◌∷◌, ◌++◌, Option, None, Some}
use Rattle.vert_tree.specs.declared.program.Decl.{Decl}
use Rattle.vert_tree.specs.declared.program.Dense.{Dense}
use Rattle.carry_analysis.specs.declared.classes.Class.{Class}
use Rattle.carry_analysis.specs.declared.classes.Class.TheVariants.{Constant, Reduced, Carried}
use Rattle.slot_merge.specs.Combine.{neutral}
use Rattle.vert_eval.specs.declared.environment.Env.{Env}
use Rattle.vert_eval.specs.Rounds.{with_lets}
use Rattle.instrument.specs.declared.split.SplitLoop.{SplitLoop}

-- the word of a let, given the words received for it and those behind it
abbrev pub received_word : Class → List ℤ → ℤ → ℤ
received_word Carried (w ∷ ws) x = w
received_word Carried [] x = x
received_word Constant ws x = x
received_word (Reduced op) ws x = x

-- the words received for the lets behind it
abbrev pub left_after : Class → List ℤ → List ℤ
left_after Carried (w ∷ ws) = ws
left_after Carried [] = []
left_after Constant ws = ws
left_after (Reduced op) ws = ws

-- the words with those received over the carried ones, in order
abbrev pub received_over : List Class → List ℤ → List ℤ → List ℤ
received_over [] ws words = words
received_over (c ∷ cs) ws [] = []
received_over (c ∷ cs) ws (x ∷ xs) = received_word c ws x ∷ received_over cs (left_after c ws) xs

abbrev pub with_received : List Class → Option (List ℤ) → List ℤ → List ℤ
with_received cs None words = words
with_received cs (Some received) words = received_over cs received words

-- a word as a segment begins with it
abbrev pub reset_word : Class → ℤ → ℤ
reset_word (Reduced op) x = neutral op
reset_word Constant x = x
reset_word Carried x = x

-- the words with the neutral value of its operator in the place of each reduced one
abbrev pub with_neutral : List Class → List ℤ → List ℤ
with_neutral [] words = words
with_neutral (c ∷ cs) [] = []
with_neutral (c ∷ cs) (x ∷ xs) = reset_word c x ∷ with_neutral cs xs

-- a word where it is handed on
abbrev pub carried_word : Class → ℤ → List ℤ
carried_word Carried x = x ∷ []
carried_word Constant x = []
carried_word (Reduced op) x = []

-- the words of the carried lets, in order
abbrev pub carried_words : List Class → List ℤ → List ℤ
carried_words [] words = []
carried_words (c ∷ cs) [] = []
carried_words (c ∷ cs) (x ∷ xs) = carried_word c x ++ carried_words cs xs

-- an environment with no lets but these
abbrev pub only_lets : List Decl → Env → Env
only_lets lets env = with_lets lets (record env { locals = record { items = [] } })

-- the values that the lets have of their own
abbrev pub own_words : List Decl → Env → List ℤ
own_words lets env = (only_lets lets env).locals.items

abbrev pub with_words : List ℤ → Env → Env
with_words words env = record env { locals = record { items = words } }

-- the environment with which a segment begins: the lets have their values, over which come the words
-- received, reduced lets have neutral values, and none is marked
abbrev pub begun : SplitLoop → List Decl → Option (List ℤ) → Env → Env
begun split lets received env =
    let first = only_lets lets env in
    let cs = split.classes.locals.items in
    record (with_words (with_neutral cs (with_received cs received first.locals.items)) first) { touched = 0 }

-- what a segment hands on
abbrev pub given : SplitLoop → Env → List ℤ
given split env = carried_words split.classes.locals.items env.locals.items
