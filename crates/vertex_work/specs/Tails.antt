-- The tail of a dense round at one vertex, in an environment that is entered there.
use Rattle.std.specs.Prelude.{◌≡◌, ℤ, List, [], ◌∷◌, Option, if◌then◌else◌}
use Rattle.carry_analysis.specs.declared.classes.Class.{Class}
use Rattle.carry_analysis.specs.declared.classes.Class.TheVariants.{Constant, Reduced, Carried}
use Rattle.slot_merge.specs.declared.partial.Partial.{Partial}
use Rattle.slot_merge.specs.Partials.{with_emissions}
use Rattle.vert_tree.specs.declared.program.Dense.{Dense}
use Rattle.vert_tree.specs.declared.program.Program.{Program}
use Rattle.vert_eval.specs.declared.environment.Env.{Env}
use Rattle.vert_eval.specs.Runs.{run}
use Rattle.vert_eval.specs.Values.{value_of}
use Rattle.vert_eval.specs.Words.{is_set}
use Rattle.vert_code.specs.declared.code.Code.{Code}
use Rattle.vert_code.specs.declared.instr.Block.{Block}
use Rattle.vert_code.specs.Blocks.{Names, RunsAs}
use Rattle.instrument.specs.Loops.{loop_split}
use Rattle.instrument.specs.Segments.{own_words, with_words}
use Rattle.symple_face.specs.CoreClose.{values_of}
use Rattle.symple_face.specs.Ring.{closing, with_operand}

-- code that does what the blocks of a program do
pub record IsCodeOf (p : Program) (code : Code) : Type 0 where
  pub names : (block : Block) → Names p code block
  pub runs : (block : Block) → RunsAs p code block

-- the word of a let for the tail, given the words carried and the values that came for it and those behind it
abbrev pub closing_word : Class → List ℤ → List (Option ℤ) → ℤ → ℤ
closing_word Constant carried came own = own
closing_word Carried [] came own = own
closing_word Carried (w ∷ carried) came own = w
closing_word (Reduced op) carried [] own = own
closing_word (Reduced op) carried (t ∷ came) own = with_operand op own t

-- the partials of the lets behind it
abbrev pub lets_behind : Class → List Partial → List Partial
lets_behind (Reduced op) (q ∷ qs) = qs
lets_behind (Reduced op) [] = []
lets_behind Constant qs = qs
lets_behind Carried qs = qs

-- the environment of the tail
abbrev pub closing_env : Dense → List ℤ → List Partial → Env → Env
closing_env dense carried lets env =
    with_words
    (closing (loop_split dense).classes.locals.items (own_words dense.lets.items env) carried (values_of lets))
    env

-- the partials of the slots after it
abbrev pub tail_slots : Dense → List ℤ → List Partial → Env → List Partial → List Partial
tail_slots dense carried lets env slots =
    if is_set (value_of dense.when_test env)
    then with_emissions env.key slots (run dense.tail.items (closing_env dense carried lets env)).emitted
    else slots

-- the numbers and totals of a round stay
pub record SameRound (old new : Env) : Type 0 where
  pub n : new.n ≡ old.n
  pub round : new.round ≡ old.round
  pub draws : new.draws ≡ old.draws
  pub totals : new.totals ≡ old.totals
