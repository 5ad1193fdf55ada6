-- The value of an expression.
use Rattle.std.specs.Prelude.{ℕ, ℤ, pos, neg_ℤ, ◌^◌, ◌<◌, ◌≤◌, not, List, length, Option, None, is_some, unwrap_or, option_and_then, slice_get, if◌then◌else◌}
use Rattle.std.specs.Int.{int_min, int_max}
use Rattle.draw_source.specs.Draws.{draw_word}
use Rattle.vert_tree.specs.declared.name.What.{What}
use Rattle.vert_tree.specs.declared.name.What.TheVariants as what
use Rattle.vert_tree.specs.declared.expression.Builtin.{Builtin}
use Rattle.vert_tree.specs.declared.expression.Builtin.TheVariants as word
use Rattle.vert_tree.specs.declared.expression.Expr.{Expr}
use Rattle.vert_tree.specs.declared.expression.Node.{Node}
use Rattle.vert_tree.specs.declared.expression.Node.TheVariants.{Int, Bool as Truth, Word, Name, Got, Value, OtherField, OtherWord, Draw, Neg', Not', Binary', Cond', Least', Greatest', Group'}
use Rattle.vert_tree.specs.Places.{Counts}
use Rattle.vert_eval.specs.declared.environment.Env.{Env}
use Rattle.vert_eval.specs.Words.{wrapped, word_of, is_set, binary}

-- the word at a place, or 0 where there is none
abbrev pub word_at : List ℤ → ℕ → ℤ
word_at words i = unwrap_or (slice_get words i) (pos 0)

abbrev pub builtin : Builtin → Env → ℤ
builtin word.Id env = pos env.id.0
builtin word.Count env = pos env.n
builtin word.Round env = pos env.round
builtin word.InDeg env = pos env.indeg
builtin word.OutDeg env = pos env.outdeg
builtin word.Active env = word_of env.row.active
builtin word.Weight env = env.other.weight

-- the same at the neighbour
abbrev pub other_builtin : Builtin → Env → ℤ
other_builtin word.Id env = pos env.other.id.0
other_builtin word.InDeg env = pos env.other.indeg
other_builtin word.OutDeg env = pos env.other.outdeg
other_builtin word.Active env = word_of env.other_row.active
other_builtin _ env = pos 0

-- a name where a value stands; a slot has none by its bare name
abbrev pub named : What → Env → ℤ
named (what.Field i) env = word_at env.row.words.items i
named (what.Local i) env = word_at env.locals.items i
named (what.Send i) env = word_at env.sends.items i
named (what.Total i) env = word_at env.totals.items i
named _ env = pos 0

-- the value of a slot, if it has one
abbrev pub slot_value : What → Env → Option ℤ
slot_value (what.Slot i) env = option_and_then (λ s. s) (slice_get env.slots.items i)
slot_value _ env = None

abbrev pub other_field : What → Env → ℤ
other_field (what.Field i) env = word_at env.other_row.words.items i
other_field _ env = pos 0

abbrev pub node_value : Node → Env → ℤ
node_value (Int x) env = x
node_value (Truth b) env = word_of b
node_value (Word w) env = builtin w env
node_value (Name name) env = named name.what env
node_value (Got name) env = word_of (is_some (slot_value name.what env))
node_value (Value name) env = unwrap_or (slot_value name.what env) (pos 0)
node_value (OtherField name) env = other_field name.what env
node_value (OtherWord w) env = other_builtin w env
node_value (Draw at tag) env = pos (draw_word env.draws env.round env.id.0 tag)
node_value (Neg' _ _ a) env = wrapped (neg_ℤ (node_value a env))
node_value (Not' _ _ a) env = word_of (not (is_set (node_value a env)))
node_value (Binary' op _ _ a _ _ b) env = binary op (node_value a env) (node_value b env)
node_value (Cond' _ _ test _ _ a _ _ b) env =
    if is_set (node_value test env) then node_value a env else node_value b env
node_value (Least' _ _ a _ _ b) env = int_min (node_value a env) (node_value b env)
node_value (Greatest' _ _ a _ _ b) env = int_max (node_value a env) (node_value b env)
node_value (Group' _ _ a) env = node_value a env

-- the value of an expression, which is there for every environment
abbrev pub value_of : Expr → Env → ℤ
value_of e env = node_value e.node env

-- how many words of each kind an environment has
abbrev pub counts_of : Env → Counts
counts_of env = record {
  fields = length env.row.words.items;
  locals = length env.locals.items;
  sends = length env.sends.items;
  slots = length env.slots.items;
  totals = length env.totals.items;
  other_fields = length env.other_row.words.items;
}

-- where a draw can be made
pub record CanDraw (env : Env) : Type 0 where
  pub round : env.round ≤ 10000
  pub id : env.id.0 < 2 ^ 24
