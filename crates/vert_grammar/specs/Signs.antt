-- The tokens that the grammar names, and what the words and marks among them stand for.
use Rattle.std.specs.Prelude.{ℕ, Bool, true, false, ◌||◌, List, [], codes, if◌then◌else◌, nat_lt, nat_le, ◌==◌, bytes_eq}
use Rattle.vert_base.specs.declared.text.Span.{Span}
use Rattle.vert_base.specs.declared.value.Combine.{Combine}
use Rattle.vert_base.specs.declared.value.Combine.TheVariants as combine
use Rattle.vert_base.specs.declared.value.Mode.{Mode}
use Rattle.vert_base.specs.declared.value.Mode.TheVariants as modes
use Rattle.vert_base.specs.declared.value.ValueType.{ValueType}
use Rattle.vert_base.specs.declared.value.ValueType.TheVariants as types
use Rattle.vert_lex.specs.declared.marks.TheConstants as mark
use Rattle.vert_lex.specs.declared.words.TheConstants as word
use Rattle.vert_lex.specs.Text.{Placed}
use Rattle.vert_lex.specs.Tokens.{Kind, Reserved, Mark, Number, Name}
use Rattle.vert_tree.specs.declared.expression.BinOp.{BinOp}
use Rattle.vert_tree.specs.declared.expression.BinOp.TheVariants.{Add, Sub, Mul, Div, Rem, Eq, Ne, Lt, Le, Gt, Ge, And, Or}
use Rattle.vert_tree.specs.declared.expression.Builtin.{Builtin}
use Rattle.vert_tree.specs.declared.expression.Builtin.TheVariants.{Id, Count, Round, InDeg, OutDeg, Active, Weight}

-- the token of a kind at a place
abbrev pub token : Span → Kind → Placed
token s k = record { span = s; kind = k }

abbrev pub same : Kind → Kind → Bool
same (Reserved m) (Reserved n) = m == n
same (Mark m) (Mark n) = m == n
same (Number m) (Number n) = m == n
same (Name m) (Name n) = bytes_eq m n
same _ _ = false

-- the two names that version 2 reads as keywords
abbrev pub total_text : List ℕ
total_text = codes "total"

abbrev pub stop_text : List ℕ
stop_text = codes "stop"

abbrev pub is_word : ℕ → Kind → Bool
is_word place k = same k (Reserved place)

abbrev pub is_mark : ℕ → Kind → Bool
is_mark place k = same k (Mark place)

abbrev pub is_named : List ℕ → Kind → Bool
is_named text k = same k (Name text)

abbrev pub is_name : Kind → Bool
is_name (Reserved m) = false
is_name (Mark m) = false
is_name (Number m) = false
is_name (Name m) = true

abbrev pub is_number : Kind → Bool
is_number (Reserved m) = false
is_number (Mark m) = false
is_number (Number m) = true
is_number (Name m) = false

abbrev pub text_in : Kind → List ℕ
text_in (Reserved m) = []
text_in (Mark m) = []
text_in (Number m) = []
text_in (Name m) = m

abbrev pub number_in : Kind → ℕ
number_in (Reserved m) = 0
number_in (Mark m) = 0
number_in (Number m) = m
number_in (Name m) = 0

abbrev pub word_in : Kind → ℕ
word_in (Reserved m) = m
word_in (Mark m) = 0
word_in (Number m) = 0
word_in (Name m) = 0

abbrev pub mark_in : Kind → ℕ
mark_in (Reserved m) = 0
mark_in (Mark m) = m
mark_in (Number m) = 0
mark_in (Name m) = 0

-- ---- operators

-- how tightly an operator binds its operands, from 1 for the tightest
abbrev pub layer_of : BinOp → ℕ
layer_of Mul = 1
layer_of Div = 1
layer_of Rem = 1
layer_of Add = 2
layer_of Sub = 2
layer_of Eq = 3
layer_of Ne = 3
layer_of Lt = 3
layer_of Le = 3
layer_of Gt = 3
layer_of Ge = 3
layer_of And = 4
layer_of Or = 5

abbrev pub mark_of : BinOp → ℕ
mark_of Add = mark.PLUS
mark_of Sub = mark.MINUS
mark_of Mul = mark.STAR
mark_of Div = mark.SLASH
mark_of Rem = mark.PERCENT
mark_of Eq = mark.EQUAL
mark_of Ne = mark.NOT_EQUAL
mark_of Lt = mark.LESS
mark_of Le = mark.AT_MOST
mark_of Gt = mark.GREATER
mark_of Ge = mark.AT_LEAST
mark_of And = mark.AND
mark_of Or = mark.OR

-- the operator of a mark, where it is one
unfoldable pub operator_of : ℕ → BinOp
operator_of m =
    if m == mark.PLUS then Add
    else (if m == mark.MINUS then Sub
    else (if m == mark.STAR then Mul
    else (if m == mark.SLASH then Div
    else (if m == mark.PERCENT then Rem
    else (if m == mark.EQUAL then Eq
    else (if m == mark.NOT_EQUAL then Ne
    else (if m == mark.LESS then Lt
    else (if m == mark.AT_MOST then Le
    else (if m == mark.GREATER then Gt
    else (if m == mark.AT_LEAST then Ge
    else (if m == mark.AND then And
    else Or)))))))))))

abbrev pub operator : Kind → BinOp
operator k = operator_of (mark_in k)

-- the layer to which a mark takes an expression on: 0 for the dot, those of operators, 6 for the question mark, and 7
-- for all that end it
unfoldable pub layer_at : ℕ → ℕ
layer_at m =
    if m == mark.DOT then 0
    else (if nat_lt m mark.EQUAL then 7
    else (if nat_le m mark.AT_LEAST then 3
    else (if nat_le m mark.MINUS then 2
    else (if nat_le m mark.PERCENT then 1
    else (if m == mark.AND then 4
    else (if m == mark.OR then 5
    else (if m == mark.QUESTION then 6
    else 7)))))))

abbrev pub layer : Kind → ℕ
layer (Reserved m) = 7
layer (Mark m) = layer_at m
layer (Number m) = 7
layer (Name m) = 7

-- ---- words that stand for values

abbrev pub builtin_word : Builtin → ℕ
builtin_word Id = word.ID
builtin_word Count = word.N
builtin_word Round = word.ROUND
builtin_word InDeg = word.INDEG
builtin_word OutDeg = word.OUTDEG
builtin_word Active = word.ACTIVE
builtin_word Weight = word.W

unfoldable pub builtin_of : ℕ → Builtin
builtin_of m =
    if m == word.ID then Id
    else (if m == word.N then Count
    else (if m == word.ROUND then Round
    else (if m == word.INDEG then InDeg
    else (if m == word.OUTDEG then OutDeg
    else (if m == word.ACTIVE then Active
    else Weight)))))

abbrev pub is_builtin : Kind → Bool
is_builtin k =
    is_word word.ID k || (is_word word.N k
    || (is_word word.ROUND k || (is_word word.INDEG k
    || (is_word word.OUTDEG k || (is_word word.ACTIVE k || is_word word.W k)))))

-- the words that may stand behind `u.`
abbrev pub is_other : Builtin → Bool
is_other Id = true
is_other InDeg = true
is_other OutDeg = true
is_other Active = true
is_other Count = false
is_other Round = false
is_other Weight = false

abbrev pub is_truth : Kind → Bool
is_truth k = is_word word.TRUE k || is_word word.FALSE k

abbrev pub truth_word : Bool → ℕ
truth_word true = word.TRUE
truth_word false = word.FALSE

-- ---- words of declarations

abbrev pub type_word : ValueType → ℕ
type_word types.Int = word.INT
type_word types.Bool = word.BOOL

abbrev pub is_type : Kind → Bool
is_type k = is_word word.INT k || is_word word.BOOL k

abbrev pub type_of : Kind → ValueType
type_of k = if is_word word.INT k then types.Int else types.Bool

abbrev pub combine_word : Combine → ℕ
combine_word combine.Min = word.MIN
combine_word combine.Max = word.MAX
combine_word combine.Sum = word.SUM
combine_word combine.First = word.FIRST

-- a total has no first value
abbrev pub is_fold : Combine → Bool
is_fold combine.Min = true
is_fold combine.Max = true
is_fold combine.Sum = true
is_fold combine.First = false

abbrev pub is_combine : Kind → Bool
is_combine k = is_word word.MIN k || (is_word word.MAX k || (is_word word.SUM k || is_word word.FIRST k))

abbrev pub combine_of : Kind → Combine
combine_of k = if is_word word.MIN k then combine.Min
    else (if is_word word.MAX k then combine.Max else (if is_word word.SUM k then combine.Sum else combine.First))

abbrev pub mode_word : Mode → ℕ
mode_word modes.Auto = word.AUTO
mode_word modes.Dense = word.DENSE
mode_word modes.Sparse = word.SPARSE

abbrev pub is_mode : Kind → Bool
is_mode k = is_word word.AUTO k || (is_word word.DENSE k || is_word word.SPARSE k)

abbrev pub mode_of : Kind → Mode
mode_of k = if is_word word.AUTO k then modes.Auto else (if is_word word.DENSE k then modes.Dense else modes.Sparse)

-- the language has two versions
abbrev pub is_version : ℕ → Bool
is_version version = version == 1 || version == 2
